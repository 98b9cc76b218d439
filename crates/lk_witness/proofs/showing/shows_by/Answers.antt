use Rattle.std.proofs.Common.{◌≡◌, ◌∙◌, true, sym, subst}
use Rattle.lk_witness.specs.Shown.{has_line}
use Rattle.lk_witness.proofs.showing.shows_by.Goals as goal

pub returns : goal.returns
returns c = λ yes.
    let has = sym c.in_ok-has.ensures ∙ yes in
    let text = subst (λ t. has_line t c.deref-2.result.now ≡ true) c.deref.ensures.value has in
    let line = subst (λ l. has_line c.in_ok-played.played.text.items l ≡ true) (c.deref-2.ensures.value ∙ c.in_ok-line.ensures) text in
    record { played = c.in_ok-played.played; is_played = c.in_ok-played.ensures; races = line }
