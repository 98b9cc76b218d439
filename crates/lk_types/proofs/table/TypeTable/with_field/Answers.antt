use Rattle.std.proofs.Common.{◌≡◌, ◌∙◌, true, ap, subst}
use Rattle.lk_types.specs.Sizes.{FitsBy, with_part, size_at, is_over, is_too_large}
use Rattle.lk_types.specs.declared.size.TypeSize.{TypeSize}
use Rattle.lk_types.proofs.RoomLemmas.{not_over, too_large}
use Rattle.lk_types.proofs.table.TypeTable.with_field.Goals as goal

pub larger-requires-clause-size : goal.larger-requires-clause-size
larger-requires-clause-size c = not_over c.args.size c.requires.small

pub returns-in-Some : goal.returns-in-Some
returns-in-Some c = subst (λ (size : TypeSize). FitsBy is_too_large size c.bounded.result) (c.in-Some.ensures.0 ∙ ap (with_part c.args.size) c.size.ensures.value) c.bounded.ensures

pub returns-in-None : goal.returns-in-None
returns-in-None c =
    too_large (with_part c.args.size (size_at c.args.self.now c.args.t)) (subst (λ part. is_over (with_part c.args.size part) ≡ true) c.size.ensures.value c.in-None.ensures)
