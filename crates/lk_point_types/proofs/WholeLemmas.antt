-- What holds of each point, function and root of a program, and of the parameters of a function.
use Rattle.std.proofs.Common.{◌≡◌, ◌∙◌, ◌<◌, ◌≤◌, ℕ, suc, Bool, List, length, Some, None, sym, ap, subst, arith, inl, inr, refl}
use Rattle.std.specs.Option.{option_map, option_and_then}
use Rattle.std.specs.Prelude.{slice_get}
use Rattle.std.proofs.lemmas.Option.{none-some, same_Some, slice_get_cases, slice_get_past, slice_get_within}
use Rattle.lk_facts.specs.Program.{action_at, function_at, parameter_of, parameters_of, result_of, root_at}
use Rattle.lk_facts.specs.Lowered.{IsArgument}
use Rattle.lk_facts.specs.Typed.{IsFunctionType, IsFunctionTyped}
use Rattle.lk_facts.specs.declared.action.Action.{Action}
use Rattle.lk_facts.specs.declared.program.Program.{Program}
use Rattle.lk_facts.specs.declared.root.Holder.{Holder}
use Rattle.lk_facts.specs.declared.root.Root.{Root}
use Rattle.lk_facts.specs.declared.root.RootKind.TheVariants.{Args}
use Rattle.lk_types.proofs.NodeLemmas.{none_past}
use Rattle.lk_types.specs.Equal.{IsAlike}
use Rattle.lk_types.specs.declared.c_type.CType.{CType}
use Rattle.lk_types.specs.declared.c_type.CType.TheVariants.{Function}
use Rattle.lk_point_types.specs.Each.{IsArgumentAt, IsCodeTyped, IsDataTyped}
use Rattle.lk_point_types.specs.Parameters.{AreHeld, IsHeld}
use Rattle.lk_point_types.specs.PointTypes.{HaveTypes}

-- a point that does something is there
pub acting_within : (program : Program) (p : ℕ) (action : Action) → action_at program p ≡ Some action → p < length program.points
acting_within program p action at =
    elim (slice_get_cases program.points p).1 [
      | inl is ↦ is.1
      | inr past ↦ absurd (none-some action (sym (ap (option_map (λ point. point.action)) past.1) ∙ at))
    ]

-- a function's parameters, one by one
pub parameter_at : (program : Program) (f k : ℕ) (holders : List Holder) → parameters_of program f ≡ Some holders → parameter_of program f (suc k) ≡ slice_get holders k
parameter_at program f k holders are =
    elim (slice_get_cases program.functions f).1 [
      | inl is ↦
          let there = is.2 in
          let same = same_Some is.0.parameters holders (sym (ap (option_map (λ function. function.parameters)) there) ∙ are) in
          ap (option_and_then (λ function. slice_get function.parameters k)) there ∙ ap (λ xs. slice_get xs k) same
      | inr past ↦ absurd (none-some holders (sym (ap (option_map (λ function. function.parameters)) past.1) ∙ are))
    ]

-- what holds the parameter k has the type that is there
abbrev pub IsHeldAt : Program → (f : ℕ) → List Holder → List ℕ → ℕ → Type 0
IsHeldAt program f holders types k = (t : ℕ) → slice_get types k ≡ Some t → (holder : Holder) × (slice_get holders k ≡ Some holder) × IsHeld program f holder t

pub held_here : (program : Program) (f k t : ℕ) (holder : Holder) (holders : List Holder) (types : List ℕ) →
    slice_get holders k ≡ Some holder → slice_get types k ≡ Some t → IsHeld program f holder t → IsHeldAt program f holders types k
held_here program f k t holder holders types at bt held u is = (holder, at, subst (IsHeld program f holder) (same_Some t u (sym bt ∙ is)) held)

-- where all are held each one is
pub here_held : (program : Program) (f k t : ℕ) (holder : Holder) (holders : List Holder) (types : List ℕ) →
    slice_get holders k ≡ Some holder → slice_get types k ≡ Some t → AreHeld program f holders types → IsHeld program f holder t
here_held program f k t holder holders types at bt all =
    let own = all.each k t bt in
    subst (λ h. IsHeld program f h t) (same_Some own.0 holder (sym own.1 ∙ at)) own.2

-- a function is typed whose result and parameters have the types of its root
pub function_typed : (program : Program) (f result own : ℕ) (params : List ℕ) (dots : Bool) (holders : List Holder) →
    IsFunctionType program f (Function result params dots) → result_of program f ≡ Some own → IsAlike program.types.types own result →
    parameters_of program f ≡ Some holders → AreHeld program f holders params → IsFunctionTyped program f
function_typed program f result own params dots holders of own_is alike are held = record {
  result = result;
  params = params;
  dots = dots;
  of = of;
  gives = λ t is. subst (λ u. IsAlike program.types.types u result) (same_Some own t (sym own_is ∙ is)) alike;
  takes = λ k t at.
      let h = held.each k t at in
      let typed = h.2 in
      (h.0, typed.1.0, parameter_at program f k holders are ∙ h.1, typed.0, typed.1.1, typed.1.2);
  takes_no_more = parameter_at program f (length params) holders are ∙ slice_get_past holders (length params) (omega (arith, held.as_many));
}

-- a function has one type
pub one_type : (program : Program) (f : ℕ) (form other : CType) → IsFunctionType program f form → IsFunctionType program f other → form ≡ other
one_type program f form other is of = cc

-- and a typed function has such a result and such parameters
pub function_result : (program : Program) (f result own : ℕ) (params : List ℕ) (dots : Bool) →
    IsFunctionType program f (Function result params dots) → result_of program f ≡ Some own → IsFunctionTyped program f → IsAlike program.types.types own result
function_result program f result own params dots of own_is typed =
    let is = one_type program f (Function typed.result typed.params typed.dots) (Function result params dots) typed.of of in
    let same : typed.result ≡ result = cc in
    subst (IsAlike program.types.types own) same (typed.gives own own_is)

module _ (program : Program) (f : ℕ) (holders : List Holder) (are : parameters_of program f ≡ Some holders) (typed : IsFunctionTyped program f) where
  each_held : (k t : ℕ) → slice_get typed.params k ≡ Some t → (holder : Holder) × (slice_get holders k ≡ Some holder) × IsHeld program f holder t
  each_held k t at =
      let own = typed.takes k t at in
      (own.0, sym (parameter_at program f k holders are) ∙ own.2, (own.3, (own.1, own.4, own.5)))

  no_more : length holders ≤ length typed.params
  no_more = none_past holders (length typed.params) (sym (parameter_at program f (length typed.params) holders are) ∙ typed.takes_no_more)

  no_fewer : length typed.params ≤ length holders
  no_fewer =
      elim (slice_get_cases typed.params (length holders)).1 [
        | inl is ↦
            let own = each_held (length holders) is.0 is.2 in
            let within = slice_get_within holders (length holders) own.0 own.1 in
            absurd (omega (arith, within))
        | inr past ↦ none_past typed.params (length holders) past.1
      ]

  own_held : AreHeld program f holders typed.params
  own_held = record {
    as_many = omega (arith, no_more, no_fewer);
    each = each_held;
  }

pub function_held : (program : Program) (f result : ℕ) (params : List ℕ) (dots : Bool) (holders : List Holder) →
    IsFunctionType program f (Function result params dots) → parameters_of program f ≡ Some holders → IsFunctionTyped program f → AreHeld program f holders params
function_held program f result params dots holders of are typed =
    let is = one_type program f (Function typed.result typed.params typed.dots) (Function result params dots) typed.of of in
    let same : typed.params ≡ params = cc in
    subst (AreHeld program f holders) same (own_held program f holders are typed)

pub argument_here : (program : Program) (r : ℕ) (root : Root) → root_at program r ≡ Some root → IsArgument program root.kind root.ty → IsArgumentAt program r
argument_here program r root at typed other is = subst (λ (x : Root). IsArgument program x.kind x.ty) (same_Some root other (sym at ∙ is)) typed

-- the root isn't that of the strings of main's arguments
abbrev pub IsNotOfStrings : Program → ℕ → Type 0
IsNotOfStrings program r = (root : Root) → root_at program r ≡ Some root → root.kind ≡ Args → ⊥

-- what holds of all is what holds of the program
pub typed_whole : (program : Program) → IsCodeTyped program → IsDataTyped program → HaveTypes program
typed_whole program code objects = record {
  typed = λ p f action at in_. (code.0 p).1 f action at in_;
  places = λ p. (code.0 p).0;
  functions = code.1;
  texts = objects.0.0;
  arguments = objects.0.1;
  argv = objects.1;
}

pub typed_code : (program : Program) → HaveTypes program → IsCodeTyped program
typed_code program have = ((λ p. (have.places p, λ f action at in_. have.typed p f action at in_)), have.functions)

pub typed_data : (program : Program) → HaveTypes program → IsDataTyped program
typed_data program have = ((have.texts, have.arguments), have.argv)
