use Rattle.std.proofs.Common.{◌<◌, length, map, sym, subst}
use Rattle.std.proofs.lemmas.List.Elements.{All-map}
use Rattle.lk_lower_unit.proofs.Wholes.{whole_is}
use Rattle.lk_lower_unit.specs.Wholes.{IsNumbered, IsOfSources}
use Rattle.lk_program.proofs.Places.{all_numbered}
use Rattle.lk_program.specs.Program.{IsProgram, StandIn}
use Rattle.lk_sources.specs.Accepting.{AreChecked, units_of}
use Rattle.lk_sources.specs.declared.accepting.Accepted.{Accepted}
use Rattle.lk_sources.specs.declared.checking.AcceptedSource.{AcceptedSource}
use Rattle.lk_typed.specs.declared.whole.Linked.{Linked}
use Rattle.lk_typed.specs.declared.whole.Whole.{Whole}
use Rattle.lk_confirm.specs.Answer.{JudgesWhole}
use Rattle.lk_confirm.proofs.AnswerLemmas.{of_fault, of_whole}
use Rattle.lk_confirm.proofs.MainSpot.{main_stands}
use Rattle.lk_confirm.proofs.analysis.analyse.Goals as goal

-- the program is put together of typed trees of accepted sources
of_sources : (accepted : Accepted) (whole : Whole) → AreChecked accepted → IsProgram accepted.externs.items (units_of accepted.sources.items) whole → IsOfSources whole
of_sources accepted whole checked is = record {
  externs = accepted.externs.items;
  trees = units_of accepted.sources.items;
  numbers = All-map IsNumbered (λ (s : AcceptedSource). s.parsed.unit) accepted.sources.items (all_numbered (length accepted.files) accepted.sources.items checked.placed);
  units = is.units;
  typed = is.typed;
  linked = is.linked;
}

pub judge_whole-requires-clause-of_sources : goal.judge_whole-requires-clause-of_sources
judge_whole-requires-clause-of_sources c = of_sources c.args.accepted c.in-Ok.program.whole c.requires.checked c.in-Ok.ensures.ok.is

pub judge_whole-requires-clause-some : goal.judge_whole-requires-clause-some
judge_whole-requires-clause-some c = let made = c.in-Ok.ensures.ok in subst (λ files. 0 < length files) (sym made.files) made.some

pub judge_whole-requires-clause-main : goal.judge_whole-requires-clause-main
judge_whole-requires-clause-main c =
    let made = c.in-Ok.ensures.ok in
    let accepted = c.args.accepted in
    let whole = c.in-Ok.program.whole in
    let main = main_stands whole (whole_is whole (of_sources accepted whole c.requires.checked made.is)).main in
    (main.0, main.1, subst (λ files. main.0.file < length files) (sym made.files) (main.2 (λ spot. spot.file < length accepted.files) made.stand))

pub judge_whole-requires-clause-stand : goal.judge_whole-requires-clause-stand
judge_whole-requires-clause-stand c =
    let made = c.in-Ok.ensures.ok in
    subst (λ files. StandIn (length files) (map (λ (linked : Linked). linked.unit) c.in-Ok.program.whole.sources)) (sym made.files) made.stand

pub returns-in_ok-answer-in-Ok : goal.returns-in_ok-answer-in-Ok
returns-in_ok-answer-in-Ok c =
    let made = c.in-Ok.ensures.ok in
    let whole = c.in-Ok.program.whole in
    let answer = c.in_ok-answer-in-Ok.answer in
    of_whole c.args.accepted whole made.is answer (subst (λ files. JudgesWhole files whole answer) made.files c.in_ok-answer-in-Ok.ensures)

pub returns-in_ok-answer-in-Err : goal.returns-in_ok-answer-in-Err
returns-in_ok-answer-in-Err c = of_fault c.args.accepted c.in-Err.fault c.in-Err.ensures.err c.in_ok-answer-in-Err.answer c.in_ok-answer-in-Err.ensures
