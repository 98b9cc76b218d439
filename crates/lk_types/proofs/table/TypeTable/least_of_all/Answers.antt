use Rattle.std.proofs.Common.{◌∙◌, map, ap}
use Rattle.lk_types.specs.Table.{least_of}
use Rattle.lk_types.proofs.SizeLemmas.{all_taken}
use Rattle.lk_types.proofs.table.TypeTable.least_of_all.Goals as goal

pub returns : goal.returns
returns c = c.new.ensures ∙ c.loop-t.invariant ∙ ap (map (least_of c.args.self.now)) (all_taken c.args.types.now c.loop-t.t-index c.loop-t-test.false)
