use Rattle.std.proofs.lemmas.Result.{IfOk-weaker}
use Rattle.lk_lower_unit.proofs.FewPoints.{no_more}
use Rattle.lk_lower_unit.proofs.Wholes.{whole_is}
use Rattle.lk_lower_unit.specs.Lowers.{ArePlaceNodes}
use Rattle.lk_lower_unit.specs.PointNumbers.{HasMorePoints}
use Rattle.lk_lower_unit.proofs.programs.lower.Goals as goal

pub number_functions-requires : goal.number_functions-requires
number_functions-requires c = whole_is c.args.whole.now c.requires

pub assemble-requires-clause-whole : goal.assemble-requires-clause-whole
assemble-requires-clause-whole c = whole_is c.args.whole.now c.requires

pub returns-clause-few : goal.returns-clause-few
returns-clause-few c =
    IfOk-weaker c.assemble.result ArePlaceNodes (λ points. HasMorePoints c.args.whole.now 65536 → ⊥)
    (λ points _. no_more c.args.whole.now c.in_ok-bases.bases points c.in_ok-bases.ensures.ok) c.assemble.ensures.nodes

pub returns-clause-places : goal.returns-clause-places
returns-clause-places c = λ full. let more = c.assemble.ensures.places full in (no_more c.args.whole.now c.in_ok-bases.bases more.program c.in_ok-bases.ensures.ok, more)
