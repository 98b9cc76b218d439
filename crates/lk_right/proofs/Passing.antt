-- What calls, creations and returns pass on: an argument is right for its parameter in the context that is entered, and a result for the call
-- in the context of its frame.
use Rattle.std.proofs.Common.{◌≡◌, ◌<◌, ℕ, suc, List, [], ◌∷◌, Option, None, Some, inl, inr, refl, length}
use Rattle.std.proofs.lemmas.Option.{none-some, slice_get_within}
use Rattle.std.specs.List.{slice_get}
use Rattle.std.specs.Option.{option_and_then}
use Rattle.lk_facts.specs.EdgeRules.{Of, value, target, result, parameter, code}
use Rattle.lk_facts.specs.EdgeRules.IsEdge.{row, passed, given_back}
use Rattle.lk_facts.specs.Labels.{LabelTable}
use Rattle.lk_facts.specs.Program.{action_at, function_at, site_at, value_site_of}
use Rattle.lk_facts.specs.declared.action.Action.TheVariants as action
use Rattle.lk_facts.specs.declared.edge.Edge.{Edge}
use Rattle.lk_facts.specs.declared.edge.Mark.TheVariants.{Plain, Enter, Leave}
use Rattle.lk_facts.specs.declared.function.Function.{Function as FunctionOf}
use Rattle.lk_facts.specs.declared.program.Program.{Program}
use Rattle.lk_laws.proofs.RowEnds.{rows_give}
use Rattle.lk_laws.specs.RowLaws.{GivesEdges}
use Rattle.lk_right.proofs.Carrying.{carried}
use Rattle.lk_right.proofs.Carrying.Crosses.{stays, enters, leaves}
use Rattle.lk_right.proofs.Through.{through_results, through_parameters}
use Rattle.lk_right.specs.Contexts.{Home}
use Rattle.lk_right.specs.Laws.{IsAnalysed}
use Rattle.lk_right.specs.Right.{IsFunctionRight, IsRight}
use Rattle.lk_types.specs.declared.node.Sel.TheVariants.{Field}
use Rattle.lk_values.specs.declared.value.Value.{Value}

module _ (program : Program) (labels : LabelTable) (es : List Edge) (ok : IsAnalysed program labels es) (homes : List Home) where
  abbrev Right : Value → ℕ → List ℕ → Type 0
  Right v p c = IsRight program labels es homes v (value program p) c

  -- the function g is the one to which the operand a points
  abbrev Leads : (a g : ℕ) → List ℕ → Type 0
  Leads a g c = IsFunctionRight program labels es homes g (value program a) c

  -- a result of the function g is right in the context d
  abbrev IsResult : Value → (g : ℕ) → List ℕ → Type 0
  IsResult v g d = IsRight program labels es homes v (result program g) d

  give : GivesEdges program
  give = rows_give program ok.table ok.in_range ok.lowered

  -- a function with a site of its own is there
  sited_known : (g i : ℕ) → value_site_of program g ≡ Some i → g < length program.functions
  sited_known g i h = by (slice_get program.functions g) refl h
    where
      by : (o : Option FunctionOf) → slice_get program.functions g ≡ o → option_and_then (λ function. function.value_site) o ≡ Some i → g < length program.functions
      by None is h = absurd (none-some i h)
      by (Some function) is h = slice_get_within program.functions g function is

  -- The point p of the function f stands in a frame in the context c.
  module _ (p f : ℕ) (stands : function_at program p ≡ Some f) (c : List ℕ) where
    -- an argument of a call at the site i
    pub argument_right : (g : ℕ) (args : List ℕ) → action_at program p ≡ Some (action.Call g args) → (i k a : ℕ) → site_at program p ≡ Some i → slice_get args k ≡ Some a →
        (v : Value) → Right v a c → IsRight program labels es homes v (parameter program g (suc k)) (i ∷ c)
    argument_right g args calls i k a site is v given =
        carried program labels es ok (Enter i) (value program a) (parameter program g (suc k)) (λ u w x y. row p f (action.Call g args) calls stands (inl (i, k, a, site, is, (refl, x, y))))
        ((give.rows p f (action.Call g args) calls stands).0 i k a site is) homes enters v given

    -- the argument of a thread that is created at the site i
    pub started_right : (g a : ℕ) → action_at program p ≡ Some (action.Create g a) → (i : ℕ) → site_at program p ≡ Some i →
        (v : Value) → Right v a c → IsRight program labels es homes v (parameter program g 1) (i ∷ c)
    started_right g a creates i site v given =
        carried program labels es ok (Enter i) (value program a) (parameter program g 1) (λ u w x y. row p f (action.Create g a) creates stands (i, 0, a, site, refl, (refl, x, y)))
        (give.rows p f (action.Create g a) creates stands) homes enters v given

    -- an argument of a call of the function g, to which the operand a points
    pub argument_through : (a : ℕ) (args : List ℕ) → action_at program p ≡ Some (action.PointerCall a args) → (g i : ℕ) → value_site_of program g ≡ Some i → Leads a g c →
        (k b : ℕ) → slice_get args k ≡ Some b → (v : Value) → Right v b c → IsRight program labels es homes v (parameter program g (suc k)) (i ∷ [])
    argument_through a args calls g i site leads k b is v given =
        let there = carried program labels es ok Plain (value program b) (Of program (target program a) (Field (suc k)))
        (λ u w x y. row p f (action.PointerCall a args) calls stands (inl (k, b, is, (refl, x, y))))
        ((give.rows p f (action.PointerCall a args) calls stands).0 k b is) homes stays v given in
        let back = through_parameters program labels es ok homes g a c leads k v there in
        carried program labels es ok (Enter i) (Of program (code program g) (Field (suc k))) (parameter program g (suc k)) (λ u w x y. passed g i k site (refl, x, y))
        ((give.values g (sited_known g i site)).parameters k) homes enters v back

    -- what a call at the site i gives
    pub result_right : (g : ℕ) (args : List ℕ) → action_at program p ≡ Some (action.Call g args) → (i : ℕ) → site_at program p ≡ Some i → (v : Value) → IsResult v g (i ∷ c) → Right v p c
    result_right g args calls i site v given =
        carried program labels es ok (Leave i) (result program g) (value program p) (λ u w x y. row p f (action.Call g args) calls stands (inr (i, site, (refl, x, y))))
        (give.rows p f (action.Call g args) calls stands).1 homes leaves v given

    -- what a call gives of the function g, to which the operand a points
    pub result_through : (a : ℕ) (args : List ℕ) → action_at program p ≡ Some (action.PointerCall a args) → (g i : ℕ) → value_site_of program g ≡ Some i → Leads a g c →
        (v : Value) → IsResult v g (i ∷ []) → Right v p c
    result_through a args calls g i site leads v given =
        let back = carried program labels es ok (Leave i) (result program g) (Of program (code program g) (Field 0)) (λ u w x y. given_back g i site (refl, x, y))
        (give.values g (sited_known g i site)).result homes leaves v given in
        let there = through_results program labels es ok homes g a c leads v back in
        carried program labels es ok Plain (Of program (target program a) (Field 0)) (value program p) (λ u w x y. row p f (action.PointerCall a args) calls stands (inr (refl, x, y)))
        (give.rows p f (action.PointerCall a args) calls stands).1 homes stays v there

    -- what a function returns
    pub returned_right : (a : ℕ) → action_at program p ≡ Some (action.Return (Some a)) → (v : Value) → Right v a c → IsResult v f c
    returned_right a returns v given =
        carried program labels es ok Plain (value program a) (result program f) (λ u w x y. row p f (action.Return (Some a)) returns stands (refl, x, y))
        (give.rows p f (action.Return (Some a)) returns stands) homes stays v given
