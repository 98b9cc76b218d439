use Rattle.lk_conflict.specs.Settings.{setting}
use Rattle.std.proofs.Common.{refl}
use Rattle.lk_rise.specs.Correlations.{item_of}
use Rattle.lk_conflict.proofs.BasisLemmas.{adds_one}
use Rattle.lk_conflict.proofs.grounds.Grounds.push_basis.Goals as goal

pub returns : goal.returns
returns c =
    let self = c.args.self.now in
    adds_one self.items.now.facts (setting self)
    c.args.function c.args.location c.args.item.now (item_of c.args.function c.args.item.now.child c.args.location c.args.item.now.access, c.in_ok-locks.locks) c.args.based.now.items c.push.new.self.items
    (record {
      item = refl;
      is_locked = c.in_ok-locks.ensures.members;
      in_range = record { function = c.requires.function; subject = c.requires.location; access = c.requires.in_range.access; locks = c.in_ok-locks.ensures.in_range };
    })
    c.in_ok-push.ensures.items
