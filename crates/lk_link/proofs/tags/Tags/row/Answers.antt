use Rattle.std.proofs.Common.{◌≡◌, ◌+◌, ◌∙◌, sym, ap, subst, arith, length}
use Rattle.lk_types.proofs.KeptLemmas.{read_got}
use Rattle.lk_link.specs.Structs.{IsRowOf}
use Rattle.lk_link.proofs.Resolving.{IsRowBelow, row_more, row_whole}
use Rattle.lk_link.proofs.tags.Tags.row.Goals as goal

pub loop-number-preserved : goal.loop-number-preserved
loop-number-preserved c =
    subst (IsRowBelow c.args.units.now c.args.source (c.loop-number.number + 1)) (sym c.in_ok-push.ensures.items)
    (row_more c.args.units.now c.args.source c.loop-number.number c.loop-number.row.items c.becomes.result c.loop-number.invariant c.becomes.ensures.known c.becomes.ensures.becomes)

pub returns : goal.returns
returns c =
    let at = read_got c.args.units.now c.args.source c.index-units-source.result c.requires.known c.index-units-source.is in
    let count : c.loop-number.number ≡ c.structs-number-end.result = omega arith in
    subst (IsRowOf c.args.units.now c.args.source) (sym c.new.ensures)
    (row_whole c.args.units.now c.args.source c.loop-number.number c.loop-number.row.items c.index-units-source.result at
    (count ∙ c.structs-number-end.ensures ∙ sym (ap (λ u. length u.types.members) c.index-units-source.is)) c.loop-number.invariant)
