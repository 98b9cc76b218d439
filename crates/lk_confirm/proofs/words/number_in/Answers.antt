use Rattle.std.proofs.Common.{◌∙◌, sym}
use Rattle.std.proofs.lemmas.Bool.{false≢true}
use Rattle.lk_play.proofs.Cuts.{unparsed, unwritten}
use Rattle.lk_confirm.proofs.words.number_in.Goals as goal

pub returns-in-Err : goal.returns-in-Err
returns-in-Err c = unparsed c.args.text.now c.parse.result c.parse.ensures.value.0 _ c.in-Err.is

pub returns-else-branch : goal.returns-else-branch
returns-else-branch c =
    unwritten c.args.text.now c.parse.result c.parse.ensures.value.0 c.in-Ok.found c.in-Ok.is
    (λ e. false≢true (sym c.if-branch.false ∙ c.in_ok-is_written-in-Ok.ensures.no (c.as_bytes.ensures.value ∙ e)))
