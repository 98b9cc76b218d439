use Rattle.std.proofs.Common.{rules, ◌≡◌, ◌∙◌, ap, subst, to_z, of_z}
use Rattle.std.specs.Int.{w128}
use Rattle.lk_typed.specs.Elaborated.{Makes}
use Rattle.lk_typed.specs.Meaning.{meaning_of}
use Rattle.lk_typed.specs.declared.expression.Callee.TheOpen.{TypedForm-F}
use Rattle.lk_elaborator.proofs.Conversions.{node_makes}
use Rattle.lk_elaborator.proofs.Numbers.{means_led}
use Rattle.lk_elaborator.proofs.parts.number_of.Goals as goal

pub returns-clause-number : goal.returns-clause-number
returns-clause-number c = λ p true_of tables leads folded t is.
    let old = c.args.walk.now in
    let middle = record old { types = c.listed.new.types } in
    let means = means_led middle tables (c.in_ok-ty.ensures.ready true_of.ready) leads c.in_ok-ty.ty _ c.in_ok-ty.ensures.known
    (c.in_ok-ty.ensures.means ∙ ap (meaning_of old.types) c.in_ok-target.ensures.value) in
    let exact : to_z w128 (of_z w128 c.args.number) ≡ c.args.number = search rules in
    subst (λ z. Makes tables p (meaning_of old.types c.args.target.now) (TypedForm-F.Number z) t) exact (node_makes tables folded p _ _ _ t means is)
