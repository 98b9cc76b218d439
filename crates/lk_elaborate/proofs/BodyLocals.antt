-- The locals of the body of a definition are its parameters, and behind them those that its items declare (C99 6.2.4, 4; 6.9.1, 9).
use Rattle.std.proofs.Common.{◌≡◌, ◌∙◌, ◌++◌, ◌+◌, ◌≤◌, ℕ, zero, suc, List, [], ◌∷◌, Option, Some, None, length, take, refl, sym, ap, subst, arith}
use Rattle.std.proofs.lemmas.List.{append_assoc, length-append}
use Rattle.std.proofs.Math.Seq.{take-append_seam}
use Rattle.std.specs.List.{slice_get}
use Rattle.lk_tree.specs.declared.statement.Function.{Function as Definition}
use Rattle.lk_tree.specs.declared.statement.Unit.{Unit}
use Rattle.lk_types.specs.declared.c_type.CType.{CType}
use Rattle.lk_typed.proofs.Means.{is_meaning}
use Rattle.lk_typed.specs.Entities.{NameDeclared, defined_type}
use Rattle.lk_typed.specs.Env.{Env, Name}
use Rattle.lk_typed.specs.Locals.{AreLocals, AreParameters, IsLocalName, IsLocalNamed}
use Rattle.lk_typed.specs.Meaning.{meaning}
use Rattle.lk_typed.specs.Ty.{Ty}
use Rattle.lk_typed.specs.declared.unit.Local.{Local}
use Rattle.lk_elaborator.proofs.Gathering.{at_contained, contains_at}
use Rattle.lk_elaborator.specs.PuttingLocals as put
use Rattle.lk_elaborator.specs.declared.elaborator.Elaborator.{Elaborator}
use Rattle.lk_elaborate.specs.PuttingParameters.{PutsParameters, scope_of}
use Rattle.lk_elab_init.specs.Source.{IsToldSource}
use Rattle.lk_elaborate.proofs.InDefinitions.{inside_local, local_inside}
use Rattle.lk_elaborate.proofs.LocalsOf.{local_of}
use Rattle.lk_elaborate.specs.DefinitionSteps.{items_of}
use Rattle.lk_elaborate.specs.Putting.{IsLocalHere, PutsLocals}

-- ---- lists

at_behind : {A : Type 0} (xs ys : List A) (k l : ℕ) → l ≡ length xs + k → slice_get (xs ++ ys) l ≡ slice_get ys k
at_behind [] ys k l is = ap (slice_get ys) (omega (arith, is))
at_behind (x ∷ xs) ys k zero is = absurd (omega (arith, is))
at_behind (x ∷ xs) ys k (suc l) is = at_behind xs ys k l (omega (arith, is))

behind : {A : Type 0} (xs ys : List A) (l : ℕ) → length xs ≤ l → (k : ℕ) × (slice_get (xs ++ ys) l ≡ slice_get ys k)
behind [] ys l past = (l, refl)
behind (x ∷ xs) ys zero past = absurd (omega (arith, past))
behind (x ∷ xs) ys (suc l) past = behind xs ys l (omega (arith, past))

-- ---- locals

none_rise : put.Rise []
none_rise l m a b less first second = absurd (never first)
  where
    never : ◌≡◌ {A = Option Local} None (Some a) → ⊥
    never is = cc

module _ (externs : List Name) (unit : Unit) (walk : Elaborator) (told : IsToldSource externs unit walk) (more : List CType) where
  -- the local of a name
  named_local : (n : NameDeclared) (t : Ty) (local : Local) → IsLocalHere walk n t local → IsLocalNamed externs unit (walk.types.types ++ more) n t local
  named_local n t local is = record {
    name = is.name;
    spot = is.spot;
    ordinal = is.ordinal;
    of = local_of externs unit walk told more local t is.so (sym (is_meaning walk.types told.ready.table_is is.type));
  }

-- `start` is the state before the parameters, `mid` that behind them, and `end` the one behind the items
pub locals_are : (externs : List Name) (unit : Unit) (start mid end : Elaborator) (env : Env) (node : Definition) (t count : ℕ) (locals : List Local) (added more : List CType) → start.locals.list.items ≡ [] →
    IsToldSource externs unit start → IsToldSource externs unit end → end.types.types ≡ start.types.types ++ added → defined_type env node ≡ Some (meaning start.types t) →
    PutsParameters start mid node.declarator t count → PutsLocals externs unit (items_of env node) mid end locals →
    AreLocals externs unit (end.types.types ++ more) env node count end.locals.list.items
locals_are externs unit start mid end env node t count locals added more empty told_start told_end longer type parameters puts = record {
  parameters = parameters.parameters;
  dots = parameters.beside.0;
  listed = parameters.beside.1;
  few = omega (arith, few);
  are_parameters = are;
  all = all;
  none_else = none_else;
  rise = λ l m a b past less first second. rises l m a b less first second;
}
  where
    ps : List Local
    ps = parameters.locals

    types : List CType
    types = end.types.types ++ more

    mid_list : mid.locals.list.items ≡ ps
    mid_list = parameters.puts.list ∙ ap (λ xs. xs ++ ps) empty

    list : end.locals.list.items ≡ ps ++ locals
    list = puts.list ∙ ap (λ xs. xs ++ locals) mid_list

    counted : count ≡ length ps
    counted = parameters.count_is ∙ ap length mid_list

    few : count ≤ length end.locals.list.items
    few =
        let sum = length-append ps locals in
        let all = ap length list in
        omega (arith, sum, all, counted)

    taken : take count end.locals.list.items ≡ ps
    taken = ap (λ n. take n end.locals.list.items) counted ∙ (ap (take (length ps)) list ∙ take-append_seam ps locals)

    same_types : start.types.types ++ (added ++ more) ≡ types
    same_types = sym (append_assoc start.types.types added more) ∙ ap (λ xs. xs ++ more) (sym longer)

    are : AreParameters externs unit types (scope_of env node) parameters.parameters (take count end.locals.list.items)
    are =
        subst (AreParameters externs unit types (scope_of env node) parameters.parameters) (sym taken)
        (subst (λ types. AreParameters externs unit types (scope_of env node) parameters.parameters ps) same_types (parameters.are externs unit told_start env node refl type (added ++ more)))

    all : (n : NameDeclared) (t : Ty) → IsLocalName externs unit env node n t →
        (l : ℕ) × (local : Local) × (count ≤ l) × (slice_get end.locals.list.items l ≡ Some local) × IsLocalNamed externs unit types n t local
    all n t is =
        let where_ = local_inside externs unit is in
        let has = puts.all where_.0 where_.1 n t where_.2 is.is_object in
        let at = at_contained locals has.0 has.1 in (
          length ps + at.0,
          has.0,
          omega (arith, counted),
          ap (λ xs. slice_get xs (length ps + at.0)) list ∙ (at_behind ps locals at.0 (length ps + at.0) refl ∙ at.1),
          named_local externs unit end told_end more n t has.0 has.2,
        )

    none_else : (l : ℕ) (local : Local) → count ≤ l → slice_get end.locals.list.items l ≡ Some local →
        (n : NameDeclared) × (t : Ty) × IsLocalName externs unit env node n t × IsLocalNamed externs unit types n t local
    none_else l local past at =
        let past : length ps ≤ l = omega (arith, past, counted) in
        let there = behind ps locals l past in
        let among = contains_at locals there.0 local (sym there.1 ∙ (ap (λ xs. slice_get xs l) (sym list) ∙ at)) in
        let of = puts.none_else local among in
        (of.2, of.3, inside_local externs unit of.4 of.5, named_local externs unit end told_end more of.2 of.3 local of.6)

    rises : put.Rise end.locals.list.items
    rises = puts.rise (parameters.puts.rise (subst put.Rise (sym empty) none_rise))
