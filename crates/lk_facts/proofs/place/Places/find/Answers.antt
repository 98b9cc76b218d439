use Rattle.std.proofs.Common.{Some, None, subst}
use Rattle.lk_facts.proofs.Numbers.{number_of}
use Rattle.lk_facts.proofs.Same.{same_place, place_itself}
use Rattle.lk_facts.specs.Places.{IsNumberOf}
use Rattle.lk_facts.proofs.place.Places.find.Goals as goal

pub returns-in_err-number : goal.returns-in_err-number
returns-in_err-number c =
    rw c.from_residual.ensures (subst (λ xs. IsNumberOf xs c.args.place None) c.self.view_is
    (number_of _ same_place place_itself _ _ None c.in_err-number.ensures.index c.in_err-number.ensures.found))

pub returns : goal.returns
returns c =
    subst (λ xs. IsNumberOf xs c.args.place (Some c.in_ok-number.number)) c.self.view_is
    (number_of _ same_place place_itself _ _ (Some c.in_ok-number.number) c.in_ok-number.ensures.index c.in_ok-number.ensures.found)
