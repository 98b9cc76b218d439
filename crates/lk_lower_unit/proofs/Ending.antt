-- The steps of the initialiser of an object of static storage, as they are added.
use Rattle.std.proofs.Common.{ap, sym, ◌∙◌, ◌≡◌, ℕ, List, [], ◌++◌, length, map, refl, Result, Ok, Err, OnOk}
use Rattle.lk_lower_expr.specs.Initialisers.{numbered}
use Rattle.lk_lower_expr.specs.Laid.{laid, laid_from}
use Rattle.lk_lower_expr.specs.Names.{Names, Node}
use Rattle.lk_lower_expr.specs.Statics.{pointers_deeds, static_walk, values_walk}
use Rattle.lk_lower_expr.specs.Walk.{Walk, own, ◌then◌}
use Rattle.lk_lower_expr.specs.declared.step.Deed.{Deed}
use Rattle.lk_lower_expr.specs.declared.step.NamedStep.{NamedStep}
use Rattle.lk_lower_expr.specs.declared.step.Step.{Step}
use Rattle.lk_lower_unit.proofs.Laying.{ended_laid}
use Rattle.lk_lower_unit.specs.Pointers.{ended_here}
use Rattle.lk_typed.specs.declared.initialiser.StaticPart.{StaticPart}

module _ (names : Names) (node : Node) (root : ℕ) (parts : List StaticPart) where
  -- before they are ended
  abbrev own_walk : Walk
  own_walk = own node.ordinal (numbered (names.at node.ordinal) node.spot 0 (pointers_deeds names node root 0 parts) 0) then values_walk names node root 0 parts

  laid_all : (start deeds : List Deed) (steps : List Step) (empty mid all : List NamedStep) → start ≡ [] → empty ≡ [] → deeds ≡ start ++ pointers_deeds names node root (length start) parts →
      mid ≡ laid (values_walk names node root (length start) parts) empty → steps ≡ numbered (names.at node.ordinal) node.spot 0 deeds 0 → all ≡ laid_from node.ordinal 0 steps mid → all ≡ laid own_walk []
  laid_all start deeds steps empty mid all starts empties deedss mids stepss alls = rw (alls, stepss, mids, deedss, starts, empties) refl

  pub static_added : {A E : Type 0} (start deeds : List Deed) (steps : List Step) (empty mid all old new : List NamedStep) (result : Result A E) →
      start ≡ [] → empty ≡ [] → deeds ≡ start ++ pointers_deeds names node root (length start) parts → mid ≡ laid (values_walk names node root (length start) parts) empty →
      steps ≡ numbered (names.at node.ordinal) node.spot 0 deeds 0 → all ≡ laid_from node.ordinal 0 steps mid → OnOk result (new ≡ old ++ map ended_here all) →
      OnOk result (new ≡ laid (static_walk names node root parts) old)
  static_added start deeds steps empty mid all old new (Ok done) starts empties deedss mids stepss alls added =
      added ∙ ap (λ xs. old ++ map ended_here xs) (laid_all start deeds steps empty mid all starts empties deedss mids stepss alls) ∙ sym (ended_laid own_walk old)
  static_added start deeds steps empty mid all old new (Err e) starts empties deedss mids stepss alls added = tt
