use Rattle.lk_lex.proofs.FileNames.{put_place}
use Rattle.lk_lex.proofs.split.file_of.Goals as goal

pub returns-in-Some-clause-value : goal.returns-in-Some-clause-value
returns-in-Some-clause-value c =
    rw c.in-Some.is (put_place c.put.result c.args.files.now c.put.new.self c.in-Some.name c.put.ensures.number c.put.ensures.ok c.put.ensures.different)
