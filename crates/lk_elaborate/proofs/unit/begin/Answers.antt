use Rattle.std.proofs.lemmas.Result.{on_ok_weaker}
use Rattle.lk_checker.proofs.LetThrough.{let_through, still_there}
use Rattle.lk_elaborator.specs.Beginning.{Begins}
use Rattle.lk_elaborate.specs.Finishing.{HasWholeStructs}
use Rattle.lk_elaborate.proofs.unit.begin.Goals as goal

pub returns-clause-whole : goal.returns-clause-whole
returns-clause-whole c =
    still_there c.ensure_whole_structs-whole.result c.new.result c.and.result c.and.ensures (HasWholeStructs c.args.checked) c.ensure_whole_structs-whole.ensures

pub returns-clause-begins : goal.returns-clause-begins
returns-clause-begins c =
    let_through c.ensure_whole_structs-whole.result c.new.result c.and.result c.and.ensures (Begins c.args.checked)
    (on_ok_weaker c.ensure_whole_structs-whole.result (λ whole. c.new.ensures) c.ensure_whole_structs-whole.ensures)
