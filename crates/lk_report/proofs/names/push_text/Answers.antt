use Rattle.std.proofs.Common.{◌≡◌, ◌++◌, [], sym, ap, subst, OnOk}
use Rattle.std.specs.Option.{option_map_or}
use Rattle.lk_report.specs.Names.{text_at}
use Rattle.lk_report.proofs.names.push_text.Goals as goal

pub push_part-requires-clause-node : goal.push_part-requires-clause-node
push_part-requires-clause-node c = c.requires.named.nodes c.args.n c.place.result c.place.ensures.value

pub returns : goal.returns
returns c =
    let text = ap (λ o. c.args.out.now.items ++ option_map_or (text_at c.args.files.now c.args.points.now) o []) (sym c.place.ensures.value) in
    subst (λ items. OnOk c.push_part.result (c.push_part.new.out.items ≡ items)) text c.push_part.ensures
