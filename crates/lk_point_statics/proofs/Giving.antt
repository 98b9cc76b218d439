-- The pointers that points of static initialisers give, by those that their operands give.
use Rattle.std.proofs.Common.{ℕ, ◌≡◌, ◌∙◌, ◌↔◌, Bool, false, true, List, [], ◌∷◌, ◌++◌, Option, None, Some, ap, inl, inr, refl, subst, sym}
use Rattle.std.specs.Prelude.{ℤ, pos, neg_ℤ, ◌+ℤ◌}
use Rattle.std.specs.Option.{option_map}
use Rattle.std.proofs.lemmas.Option.{same_Some}
use Rattle.lk_arith.specs.declared.operators.Op.{Op}
use Rattle.lk_arith.specs.declared.operators.Op.TheVariants.{Add, Subtract}
use Rattle.lk_base.specs.declared.cell.CellStep.{CellStep}
use Rattle.lk_base.specs.declared.cell.CellStep.TheVariants as cell
use Rattle.lk_facts.specs.Initials.{GivesFunction, IsNumber}
use Rattle.lk_facts.specs.Program.{action_at}
use Rattle.lk_facts.specs.declared.action.Action.{Action}
use Rattle.lk_facts.specs.declared.action.Action.TheVariants.{Binary, Convert, Field, Func, Index, Root, Text}
use Rattle.lk_facts.specs.declared.program.Program.{Program}
use Rattle.lk_point_statics.proofs.Inverting.{inverted, sum_op, IsMovedFrom}
use Rattle.lk_point_statics.proofs.Near.{same_front, standing}
use Rattle.lk_point_statics.specs.Backwards.{moved_by, path_in, EndsIn, EndsInElement, IsFor, MovesTo, NoneMovesTo, StepsTo, StepsToElement, Meets, MeetsAlone, Leads, NoneLeads}
use Rattle.lk_point_statics.specs.Near.{GivesNear, IsMovedNear}
use Rattle.lk_point_statics.specs.declared.wanted.Wanted.{Wanted}

module _ (program : Program) where
  meets : (w : Wanted) (p r : ℕ) (path : List CellStep) (past : Bool) → IsFor r path past w → GivesNear program p r path past → Meets program w p
  meets w p r path past is gives =
      subst (λ b. GivesNear program p w.root (path_in w) b) (sym is.past_)
      (subst (λ steps. GivesNear program p w.root steps past) (sym is.leads) (subst (λ q. GivesNear program p q path past) (sym is.root) gives))

  met : (w : Wanted) (p r : ℕ) (path : List CellStep) (past : Bool) → IsFor r path past w → Meets program w p → GivesNear program p r path past
  met w p r path past is gives =
      subst (λ b. GivesNear program p r path b) is.past_
      (subst (λ steps. GivesNear program p r steps w.past) is.leads (subst (λ q. GivesNear program p q (path_in w) w.past) is.root gives))

  pub met_by : (w : Wanted) (p r : ℕ) (path : List CellStep) (past : Bool) → IsFor r path past w → Meets program w p ↔ GivesNear program p r path past
  met_by w p r path past is = (met w p r path past is, meets w p r path past is)

  -- where a point gives the pointer by itself, it does so
  pub met_alone : (w : Wanted) (p : ℕ) → MeetsAlone program w p → Meets program w p
  met_alone w p alone =
      elim alone.1 [
        | inl does ↦ meets w p alone.0 [] false alone.2 (GivesNear.root p alone.0 does)
        | inr does ↦ meets w p alone.0 [] false alone.2 (GivesNear.text p alone.0 does)
      ]

  -- a point that gives the pointer to the object of a root gives it of this root alone
  pub root_alone : (w : Wanted) (p r : ℕ) → action_at program p ≡ Some (Root r) → MeetsAlone program w p → IsFor r [] false w
  root_alone w p r does alone =
      elim alone.1 [
        | inl is ↦ let same : alone.0 ≡ r = cc in subst (λ x. IsFor x [] false w) same alone.2
        | inr is ↦ absurd (other alone.0 is)
      ]
    where
      other : (own : ℕ) → action_at program p ≡ Some (Text own) → ⊥
      other own is = cc

  pub text_alone : (w : Wanted) (p r : ℕ) → action_at program p ≡ Some (Text r) → MeetsAlone program w p → IsFor r [] false w
  text_alone w p r does alone =
      elim alone.1 [
        | inl is ↦ absurd (other alone.0 is)
        | inr is ↦ let same : alone.0 ≡ r = cc in subst (λ x. IsFor x [] false w) same alone.2
      ]
    where
      other : (own : ℕ) → action_at program p ≡ Some (Root own) → ⊥
      other own is = cc

  -- what does neither doesn't
  pub never_alone : (w : Wanted) (p : ℕ) (does : Action) → action_at program p ≡ Some does → ((r : ℕ) → does ≡ Root r → ⊥) → ((r : ℕ) → does ≡ Text r → ⊥) → MeetsAlone program w p → ⊥
  never_alone w p does at no_root no_text alone =
      elim alone.1 [
        | inl is ↦ no_root alone.0 (same_Some does (Root alone.0) (sym at ∙ is))
        | inr is ↦ no_text alone.0 (same_Some does (Text alone.0) (sym at ∙ is))
      ]

  -- a point that does neither of what has an operand to lead back to gives it by itself, or not at all
  pub alone : (w : Wanted) (p : ℕ) (does : Action) → action_at program p ≡ Some does → ((a t : ℕ) → does ≡ Convert a t → ⊥) → ((a k : ℕ) → does ≡ Field a k → ⊥) →
      ((a b : ℕ) (into : Bool) → does ≡ Index a b into → ⊥) → ((op : Op) (a b : ℕ) → does ≡ Binary op a b → ⊥) → Meets program w p → MeetsAlone program w p
  alone w p does at no_convert no_field no_index no_sum gives = by_case w.root (path_in w) w.past gives refl refl refl
    where
      by_case : (r : ℕ) (path : List CellStep) (past : Bool) → GivesNear program p r path past → w.root ≡ r → path_in w ≡ path → w.past ≡ past → MeetsAlone program w p
      by_case r path past (GivesNear.root _ _ is) root leads past_ = (r, inl is, record { root = root; leads = leads; past_ = past_ })
      by_case r path past (GivesNear.text _ _ is) root leads past_ = (r, inr is, record { root = root; leads = leads; past_ = past_ })
      by_case r path past (GivesNear.member _ a k _ from is gives) root leads past_ = absurd (no_field a k (same_Some does (Field a k) (sym at ∙ is)))
      by_case r path past (GivesNear.element _ a b k _ from is number gives) root leads past_ = absurd (no_index a b true (same_Some does (Index a b true) (sym at ∙ is)))
      by_case r path past (GivesNear.index _ a b _ n from _ was _ is number gives moves) root leads past_ = absurd (no_index a b false (same_Some does (Index a b false) (sym at ∙ is)))
      by_case r path past (GivesNear.plus _ a b _ n from _ was _ is number gives moves) root leads past_ = absurd (no_sum Add a b (same_Some does (Binary Add a b) (sym at ∙ is)))
      by_case r path past (GivesNear.minus _ a b _ n from _ was _ is number gives moves) root leads past_ = absurd (no_sum Subtract a b (same_Some does (Binary Subtract a b) (sym at ∙ is)))
      by_case r path past (GivesNear.converted _ a t _ _ _ is gives) root leads past_ = absurd (no_convert a t (same_Some does (Convert a t) (sym at ∙ is)))

  one_number : (b : ℕ) (n m : ℤ) → IsNumber program b n → IsNumber program b m → n ≡ m
  one_number b n m is of = cc

  -- ---- one step further

  stepped : (step : CellStep) (from to : Wanted) (p : ℕ) → StepsTo step from to → GivesNear program p from.root (path_in from ++ step ∷ []) false → Meets program to p
  stepped step from to p steps gives =
      subst (λ b. GivesNear program p to.root (path_in to) b) (sym steps.ends)
      (subst (λ path. GivesNear program p to.root path false) (sym steps.leads) (subst (λ r. GivesNear program p r (path_in from ++ step ∷ []) false) steps.root gives))

  -- the operand gives its pointer, which isn't past its part
  starts : (step : CellStep) (from to : Wanted) (a : ℕ) → StepsTo step from to → Meets program from a → GivesNear program a from.root (path_in from) false
  starts step from to a steps gives = subst (λ b. GivesNear program a from.root (path_in from) b) steps.starts gives

  started : (step last : CellStep) (from to : Wanted) (a : ℕ) (path : List CellStep) → StepsTo step from to → GivesNear program a to.root path false → path_in to ≡ path ++ last ∷ [] → Meets program from a
  started step last from to a path steps gives is =
      subst (λ b. GivesNear program a from.root (path_in from) b) (sym steps.starts)
      (subst (λ xs. GivesNear program a from.root xs false) (same_front path (path_in from) last step (sym is ∙ steps.leads)) (subst (λ r. GivesNear program a r path false) (sym steps.root) gives))

  pub leads_member : (a k : ℕ) (from to : Wanted) → StepsTo (cell.Field k) from to → Leads program (Field a k) a from to
  leads_member a k from to steps p does = (
    (λ gives. stepped (cell.Field k) from to p steps (GivesNear.member p a k from.root (path_in from) does (starts (cell.Field k) from to a steps gives))),
    (λ gives.
        let is = inverted program p to.root (path_in to) to.past (Field a k) gives does in
        started (cell.Field k) (cell.Field k) from to a is.path steps is.gives is.leads),
  )

  pub no_member : (a k : ℕ) (to : Wanted) → (EndsIn (cell.Field k) to → ⊥) → NoneLeads program (Field a k) to
  no_member a k to none p does gives =
      let is = inverted program p to.root (path_in to) to.past (Field a k) gives does in
      none (is.path, is.leads, is.ends)

  pub leads_element : (a b : ℕ) (n : ℤ) (from to : Wanted) → IsNumber program b n → StepsToElement n from to → Leads program (Index a b true) a from to
  leads_element a b n from to number steps p does = (
    (λ gives.
        stepped (cell.Index steps.0) from to p steps.2
        (GivesNear.element p a b steps.0 from.root (path_in from) does (subst (IsNumber program b) steps.1 number) (starts (cell.Index steps.0) from to a steps.2 gives))),
    (λ gives.
        let is = inverted program p to.root (path_in to) to.past (Index a b true) gives does in
        started (cell.Index steps.0) (cell.Index is.0) from to a is.2.path steps.2 is.2.gives is.2.leads),
  )

  pub no_element : (a b : ℕ) (n : ℤ) (to : Wanted) → IsNumber program b n → (EndsInElement n to → ⊥) → NoneLeads program (Index a b true) to
  no_element a b n to number none p does gives =
      let is = inverted program p to.root (path_in to) to.past (Index a b true) gives does in
      none (is.0, one_number b n (pos is.0) number is.1, (is.2.path, is.2.leads, is.2.ends))

  -- ---- moves

  arrived : (from to : Wanted) (p : ℕ) → from.root ≡ to.root → GivesNear program p from.root (path_in to) to.past → Meets program to p
  arrived from to p same gives = subst (λ r. GivesNear program p r (path_in to) to.past) same gives

  left : (a b : ℕ) (n : ℤ) (back : Bool) (from to : Wanted) → IsNumber program b n → MovesTo (moved_by n back) from to → IsMovedFrom program a b back to.root (path_in to) to.past → Meets program from a
  left a b n back from to number moves is =
      let same = one_number b is.number n is.is number in
      standing program a from.root (moves.only is.path is.past (subst (λ m. IsMovedNear is.path is.past (moved_by m back) (path_in to) to.past) same is.moves))
      (subst (λ r. GivesNear program a r is.path is.past) (sym moves.root) is.gives)

  never_left : (a b : ℕ) (n : ℤ) (back : Bool) (to : Wanted) → IsNumber program b n → NoneMovesTo (moved_by n back) to → IsMovedFrom program a b back to.root (path_in to) to.past → ⊥
  never_left a b n back to number none is =
      let same = one_number b is.number n is.is number in
      none is.path is.past (subst (λ m. IsMovedNear is.path is.past (moved_by m back) (path_in to) to.past) same is.moves)

  pub leads_index : (a b : ℕ) (n : ℤ) (from to : Wanted) → IsNumber program b n → MovesTo n from to → Leads program (Index a b false) a from to
  leads_index a b n from to number moves p does = (
    (λ gives. arrived from to p moves.root (GivesNear.index p a b from.root n (path_in from) (path_in to) from.past to.past does number gives moves.moved)),
    (λ gives. left a b n false from to number moves (inverted program p to.root (path_in to) to.past (Index a b false) gives does)),
  )

  pub no_index : (a b : ℕ) (n : ℤ) (to : Wanted) → IsNumber program b n → NoneMovesTo n to → NoneLeads program (Index a b false) to
  no_index a b n to number none p does gives = never_left a b n false to number none (inverted program p to.root (path_in to) to.past (Index a b false) gives does)

  pub no_index_number : (a b : ℕ) (into : Bool) (to : Wanted) → ((n : ℤ) → IsNumber program b n → ⊥) → NoneLeads program (Index a b into) to
  no_index_number a b true to none p does gives = let is = inverted program p to.root (path_in to) to.past (Index a b true) gives does in none (pos is.0) is.1
  no_index_number a b false to none p does gives = let is = inverted program p to.root (path_in to) to.past (Index a b false) gives does in none is.number is.is

  one_sign : (back other : Bool) → sum_op back ≡ sum_op other → other ≡ back
  one_sign false false h = refl
  one_sign false true h = absurd cc
  one_sign true false h = absurd cc
  one_sign true true h = refl

  pub leads_sum : (back : Bool) (a b : ℕ) (n : ℤ) (from to : Wanted) → IsNumber program b n → MovesTo (moved_by n back) from to → Leads program (Binary (sum_op back) a b) a from to
  leads_sum false a b n from to number moves p does = (
    (λ gives. arrived from to p moves.root (GivesNear.plus p a b from.root n (path_in from) (path_in to) from.past to.past does number gives moves.moved)),
    (λ gives.
        let is = inverted program p to.root (path_in to) to.past (Binary Add a b) gives does in
        left a b n false from to number moves (subst (λ s. IsMovedFrom program a b s to.root (path_in to) to.past) (one_sign false is.0 is.1) is.2)),
  )
  leads_sum true a b n from to number moves p does = (
    (λ gives. arrived from to p moves.root (GivesNear.minus p a b from.root n (path_in from) (path_in to) from.past to.past does number gives moves.moved)),
    (λ gives.
        let is = inverted program p to.root (path_in to) to.past (Binary Subtract a b) gives does in
        left a b n true from to number moves (subst (λ s. IsMovedFrom program a b s to.root (path_in to) to.past) (one_sign true is.0 is.1) is.2)),
  )

  pub no_sum : (back : Bool) (a b : ℕ) (n : ℤ) (to : Wanted) → IsNumber program b n → NoneMovesTo (moved_by n back) to → NoneLeads program (Binary (sum_op back) a b) to
  no_sum back a b n to number none p does gives =
      let is = inverted program p to.root (path_in to) to.past (Binary (sum_op back) a b) gives does in
      never_left a b n back to number none (subst (λ s. IsMovedFrom program a b s to.root (path_in to) to.past) (one_sign back is.0 is.1) is.2)

  pub no_sum_number : (op : Op) (a b : ℕ) (to : Wanted) → ((n : ℤ) → IsNumber program b n → ⊥) → NoneLeads program (Binary op a b) to
  no_sum_number op a b to none p does gives = let is = inverted program p to.root (path_in to) to.past (Binary op a b) gives does in none is.2.number is.2.is

  -- other operators move no pointer
  pub no_other : (op : Op) (a b : ℕ) (to : Wanted) → (op ≡ Add → ⊥) → (op ≡ Subtract → ⊥) → NoneLeads program (Binary op a b) to
  no_other op a b to no_add no_subtract p does gives =
      let is = inverted program p to.root (path_in to) to.past (Binary op a b) gives does in
      neither is.0 is.1
    where
      neither : (back : Bool) → op ≡ sum_op back → ⊥
      neither false h = no_add h
      neither true h = no_subtract h

  pub leads_converted : (a t : ℕ) (w : Wanted) → Leads program (Convert a t) a w w
  leads_converted a t w p does = (
    (λ gives. GivesNear.converted p a t w.root (path_in w) w.past does gives),
    (λ gives. inverted program p w.root (path_in w) w.past (Convert a t) gives does),
  )

  -- ---- functions

  pub function_given : (p g f : ℕ) → action_at program p ≡ Some (Func g) → g ≡ f → GivesFunction program p f
  function_given p g f does same = subst (GivesFunction program p) same (GivesFunction.function p g does)

  pub given_function : (p g f : ℕ) → action_at program p ≡ Some (Func g) → GivesFunction program p f → g ≡ f
  given_function p g f does (GivesFunction.function _ _ is) = cc
  given_function p g f does (GivesFunction.converted _ a t _ is gives) = absurd cc

  pub function_converted : (p a t f : ℕ) → action_at program p ≡ Some (Convert a t) → GivesFunction program a f ↔ GivesFunction program p f
  function_converted p a t f does = ((λ gives. GivesFunction.converted p a t f does gives), (λ gives. back gives))
    where
      back : GivesFunction program p f → GivesFunction program a f
      back (GivesFunction.function _ _ is) = absurd cc
      back (GivesFunction.converted _ b u _ is gives) = let same : b ≡ a = cc in subst (λ x. GivesFunction program x f) same gives

  pub no_function : (p f : ℕ) (does : Action) → action_at program p ≡ Some does → ((g : ℕ) → does ≡ Func g → ⊥) → ((a t : ℕ) → does ≡ Convert a t → ⊥) → GivesFunction program p f → ⊥
  no_function p f does at no_func no_convert (GivesFunction.function _ _ is) = no_func f (same_Some does (Func f) (sym at ∙ is))
  no_function p f does at no_func no_convert (GivesFunction.converted _ a t _ is gives) = no_convert a t (same_Some does (Convert a t) (sym at ∙ is))
