use Rattle.std.proofs.Common.{refl}
use Rattle.lk_checker.proofs.States.{grown_sound}
use Rattle.lk_check_unit.proofs.declared.sized_by.Goals as goal

pub returns-clause-puts : goal.returns-clause-puts
returns-clause-puts c =
    let made = c.in_ok-made.ensures in
    record {
      grows = record {
        longer = made.longer;
        sound = grown_sound c.args.checker.now (record c.args.checker.now { types = c.completed.new.types }) c.requires.sound c.is_table.ensures
            (record { longer = made.longer; members = made.members; few = made.few }) refl;
        outside = refl;
        kept = refl;
        records = refl;
      };
      names = refl;
    }

pub returns-clause-means : goal.returns-clause-means
returns-clause-means c = c.in_ok-made.ensures.means c.args.init.now c.in_ok-size.ensures
