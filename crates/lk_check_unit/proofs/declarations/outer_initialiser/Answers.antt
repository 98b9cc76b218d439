use Rattle.std.proofs.Common.{Some, sym, subst}
use Rattle.lk_check_unit.specs.InitDeclarators.{HidesCodes}
use Rattle.lk_check_unit.proofs.Hiding.{grows_watched, outer_hides, watched_known, watched_sound}
use Rattle.lk_check_unit.proofs.declarations.outer_initialiser.Goals as goal

pub initialiser-requires-clause-sound : goal.initialiser-requires-clause-sound
initialiser-requires-clause-sound c = watched_sound c.args.checker.now c.watch-before.new.self c.watch-before.ensures.watched c.requires.sound

pub initialiser-requires-clause-target : goal.initialiser-requires-clause-target
initialiser-requires-clause-target c = watched_known c.args.checker.now c.watch-before.new.self c.args.target.now c.watch-before.ensures.watched c.requires.target

pub returns-clause-grows : goal.returns-clause-grows
returns-clause-grows c =
    grows_watched c.args.checker.now c.watch-before.new.self c.initialiser.new.checker c.was_broken-is_broken.new.self c.watch-before.result c.watch-before.ensures.watched c.in_ok-is_typed.ensures.grows
    c.was_broken-is_broken.ensures.both

pub returns-clause-hides : goal.returns-clause-hides
returns-clause-hides c =
    subst (HidesCodes c.args.checker.now c.was_broken-is_broken.new.self c.args.target.now (Some c.args.init.now)) (sym c.hidden.ensures)
    (outer_hides c.args.checker.now c.watch-before.new.self c.initialiser.new.checker c.was_broken-is_broken.new.self c.args.target.now c.args.init.now c.in_ok-is_typed.is_typed c.watch-before.result
    c.was_broken-is_broken.result c.watch-before.ensures.watched c.watch-before.ensures.before c.in_ok-is_typed.ensures.walks c.was_broken-is_broken.ensures.seen c.was_broken-is_broken.ensures.both)
