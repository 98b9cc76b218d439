use Rattle.lk_lex.specs.Texts.{text_value}
use Rattle.lk_lex.proofs.Quoting.{quoted_bytes-none}
use Rattle.lk_lex.proofs.text.push_text.Goals as goal

pub returns-in-None-clause-ok : goal.returns-in-None-clause-ok
unfolding text_value
returns-in-None-clause-ok c = rw (← c.text_of.ensures.value) (quoted_bytes-none c.args.out.now.items c.text_of.result.now c.in-None.ensures.cases)
