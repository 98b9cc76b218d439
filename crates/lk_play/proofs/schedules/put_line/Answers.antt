use Rattle.std.proofs.Common.{sym, subst, arith}
use Rattle.std.proofs.lemmas.Bool.{eqb-true}
use Rattle.lk_play.specs.Calls.{TellsTurn}
use Rattle.lk_play.proofs.Cuts.{nothing_left}
use Rattle.lk_play.proofs.Turns.{put_empty, put_turn}
use Rattle.lk_play.proofs.schedules.put_line.Goals as goal

pub returns-then-is_empty : goal.returns-then-is_empty
returns-then-is_empty c =
    let none = eqb-true _ 0 (sym c.if-is_empty.ensures) in
    put_empty c.args.line.now c.args.turns.now.items (nothing_left c.args.line.now (omega (arith, none)))

pub returns : goal.returns
returns c =
    put_turn c.args.line.now c.args.turns.now.items c.push.new.self.items c.in-Some.turn (subst (TellsTurn c.args.line.now) c.in-Some.is c.in_ok-turn.ensures) c.in_ok-push.ensures.items
