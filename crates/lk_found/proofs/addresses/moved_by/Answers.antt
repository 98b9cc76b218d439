use Rattle.std.proofs.Common.{◌≡◌, ◌∙◌, sym, subst}
use Rattle.std.specs.Int.{w128}
use Rattle.std.proofs.lemmas.Int.{to_z-of_z}
use Rattle.lk_typed.specs.Addresses as spec
use Rattle.lk_typed.specs.Typing.{Inside, Position}
use Rattle.lk_found.specs.Addresses.{kept_of, place_of}
use Rattle.lk_found.proofs.Kept.{of_place}
use Rattle.lk_found.proofs.addresses.moved_by.Goals as goal

pub returns-in-Inside : goal.returns-in-Inside
returns-in-Inside c = λ x is.
    of_place (λ x. c.moved_place.result ≡ kept_of (spec.moved_by c.args.by x)) x c.in-Inside.place (sym c.in-Inside.is ∙ is)
    (subst (λ z. (position : Position) → c.in-Inside.place ≡ place_of position → c.moved_place.result ≡ kept_of (spec.moved_by z (Inside position)))
    (to_z-of_z w128 c.args.by c.ranges.by) c.moved_place.ensures)
