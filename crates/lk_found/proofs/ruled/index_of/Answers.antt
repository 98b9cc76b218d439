use Rattle.std.proofs.Common.{◌∙◌, ap}
use Rattle.lk_typed.specs.Addresses.{moved, value}
use Rattle.lk_typed.specs.Places.{index_rule}
use Rattle.lk_typed.specs.Typings.{structs_in, IsVerdict}
use Rattle.lk_typed.proofs.Verdicts.{then_both}
use Rattle.lk_found.specs.Addresses.{kept_of}
use Rattle.lk_found.proofs.GivenAddresses.{index_gives}
use Rattle.lk_found.proofs.Rules.{addressed, valued}
use Rattle.lk_found.proofs.ruled.index_of.Goals as goal

pub returns : goal.returns
returns c = λ x y first second.
    let table = c.args.types.now in
    let structs = structs_in table c.args.structs.now in
    let v = valued table c.args.a.now x c.value-array.result c.value-array.ensures.value first.typing in
    let w = valued table c.args.i.now y c.value-inner.result c.value-inner.ensures.value second in
    let at = c.value_address-array_at.ensures x first.typing first.address in
    addressed table c.index-verdict.result c.moved-address.result (index_rule structs (value x) (value y)) (moved (value x).address (value y).constant)
    (then_both table c.value-array.result c.value-inner.result (value x) (value y) (λ x y. IsVerdict table c.index-verdict.result (index_rule structs x y)) v w c.index-verdict.ensures)
    (index_gives structs (value x) (value y)) (c.moved-address.ensures (value x).address at ∙ ap (λ n. kept_of (moved (value x).address n)) w.constant)
