use Rattle.std.proofs.Common.{◌∙◌, Some, ap, inl, inr}
use Rattle.lk_point_statics.proofs.Giving.{root_alone, text_alone}
use Rattle.lk_point_statics.proofs.addresses.Asked.is_met.Goals as goal

pub returns-in-Root : goal.returns-in-Root
returns-in-Root c =
    let does = c.action-action.ensures.value ∙ ap Some c.in-Root.is in (
      (λ is. (c.in-Root.root, inl does, c.is_object.ensures.0 is)),
      (λ alone. c.is_object.ensures.1 (root_alone c.args.points.now c.args.self.now.wanted c.args.self.now.point c.in-Root.root does alone)),
    )

pub returns-in-Text : goal.returns-in-Text
returns-in-Text c =
    let does = c.action-action.ensures.value ∙ ap Some c.in-Text.is in (
      (λ is. (c.in-Text.root, inr does, c.is_object-in-Text.ensures.0 is)),
      (λ alone. c.is_object-in-Text.ensures.1 (text_alone c.args.points.now c.args.self.now.wanted c.args.self.now.point c.in-Text.root does alone)),
    )
