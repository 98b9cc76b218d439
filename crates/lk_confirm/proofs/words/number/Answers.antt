use Rattle.lk_play.proofs.Cuts.{no_text}
use Rattle.lk_confirm.proofs.words.number.Goals as goal

pub returns-in-Err : goal.returns-in-Err
returns-in-Err c = no_text c.args.bytes.now c.in-Err.ensures.cases.0
