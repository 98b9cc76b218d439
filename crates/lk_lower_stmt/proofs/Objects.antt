-- The steps of an object's initialiser, as they are added.
use Rattle.std.proofs.Common.{◌≡◌, ◌++◌, refl, subst, ℕ, List}
use Rattle.std.specs.Prelude.{[], length}
use Rattle.lk_base.specs.declared.cell.CellStep.{CellStep}
use Rattle.lk_facts.specs.declared.place.Place.{Place}
use Rattle.lk_lower_expr.specs.Initialisers.{fills_deeds, numbered, parts_deeds, values_walk}
use Rattle.lk_lower_expr.specs.Laid.{laid, laid_from}
use Rattle.lk_lower_expr.specs.Naming.{at_of, local_of, names_of, node_of_local}
use Rattle.lk_lower_expr.specs.Statements.{object_flow}
use Rattle.lk_lower_expr.specs.declared.goals.Goals.{Goals}
use Rattle.lk_lower_expr.specs.declared.names.LocalNames.{LocalNames}
use Rattle.lk_lower_expr.specs.declared.names.SourceNames.{SourceNames}
use Rattle.lk_lower_expr.specs.declared.step.Deed.{Deed}
use Rattle.lk_lower_expr.specs.declared.step.NamedStep.{NamedStep}
use Rattle.lk_lower_expr.specs.declared.step.Step.{Step}
use Rattle.lk_typed.specs.declared.initialiser.AbsentCells.{AbsentCells}
use Rattle.lk_typed.specs.declared.initialiser.LocalPart.{LocalPart}
use Rattle.lk_types.specs.Table.{Table}

module _ (table : Table) (source : SourceNames) (place : ℕ → List CellStep → Place) (object : ℕ) (named : List LocalPart) (absent : List AbsentCells) (go : Goals) where
  abbrev parts_of : LocalNames → List Deed → List Deed
  parts_of local start = parts_deeds (names_of table source) (node_of_local local) local.number (length start) named

  abbrev fills_of : LocalNames → List Deed → List Deed
  fills_of local parts = fills_deeds (names_of table source) (node_of_local local) (place object) local.number (length parts) absent

  abbrev numbers_of : LocalNames → List Deed → List Step
  numbers_of local deeds = numbered (at_of source local.ordinal) local.spot 0 deeds go.next

  abbrev values_of : LocalNames → List Deed → List NamedStep → List NamedStep
  values_of local start old = laid (values_walk (names_of table source) (node_of_local local) local.number (length start) named) old

  abbrev all_of : LocalNames → List NamedStep → List NamedStep
  all_of local old = laid_from local.ordinal 0 (numbers_of local (parts_of local [] ++ fills_of local (parts_of local []))) (values_of local [] old)

  pub object_laid : (local : LocalNames) (start parts fills : List Deed) (own : List Step) (old mid new : List NamedStep) → local ≡ local_of source.locals object → start ≡ [] →
      parts ≡ start ++ parts_of local start → mid ≡ values_of local start old → fills ≡ parts ++ fills_of local parts → own ≡ numbers_of local fills →
      new ≡ laid_from local.ordinal 0 own mid → new ≡ laid ((object_flow (names_of table source) place object named absent).all go) old
  object_laid local start parts fills own old mid new is starts partss mids fillss owns news =
      subst (λ l. new ≡ all_of l old) is (rw (news, owns, mids, fillss, partss, starts) refl)
