use Rattle.std.proofs.Common.{◌≡◌, ◌∙◌, sym, ap, length, arith}
use Rattle.lk_types.proofs.KeptLemmas.{read_got}
use Rattle.lk_link.proofs.Resolving.{firsts_next, source_ends}
use Rattle.lk_link.proofs.tags.Tags.note_source.Goals as goal

pub returns : goal.returns
returns c =
    let units = c.args.units.now in
    let at = read_got units c.args.source c.index-units-source.result c.requires.known c.index-units-source.is in
    let count : c.loop-number.number ≡ c.structs-number-end.result = omega arith in
    firsts_next units c.loop-number.self c.args.source c.loop-number.number
    (source_ends units c.requires.sources c.args.source c.loop-number.number c.index-units-source.result at (count ∙ c.structs-number-end.ensures ∙ sym (ap (λ u. length u.types.members) c.index-units-source.is)))
    c.loop-number.invariant
