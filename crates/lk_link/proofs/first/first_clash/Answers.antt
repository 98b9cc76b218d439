use Rattle.std.proofs.Common.{◌≡◌, [], subst}
use Rattle.std.specs.Prelude.{MatchOption}
use Rattle.lk_link.specs.Clashes.{IsFirstOf}
use Rattle.lk_link.proofs.Gathering.{first_is}
use Rattle.lk_link.proofs.first.first_clash.Goals as goal

pub returns : goal.returns
returns c =
    let found = c.in_ok-first.first in
    let clashes = c.in_ok-clashes.clashes.items in
    let first = subst (λ l. MatchOption found (l ≡ []) (IsFirstOf l)) c.as_slice.ensures.value c.in_ok-first.ensures in
    first_is c.args.units.now c.args.externs.now clashes c.in_ok-clashes.ensures found first
