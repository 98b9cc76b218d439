use Rattle.std.proofs.Common.{◌<◌, ◌↔◌, length}
use Rattle.lk_point_statics.specs.Backwards.{Meets}
use Rattle.lk_point_statics.specs.Behind.{LeadsBack}
use Rattle.lk_point_statics.specs.Near.{GivesNear}
use Rattle.lk_point_statics.proofs.addresses.gives_address.Given as goal

-- the first point gives its pointer exactly where the one that is asked gives its own, and each turn leads back one operand
abbrev pub invariant-loop-turn : goal.invariant-loop-turn
invariant-loop-turn l = record {
  within : l.asked.point < length l.points.points;
  back : LeadsBack l.points l._turn l.fn.p l.asked.point;
  exact : Meets l.points l.asked.wanted l.asked.point ↔ GivesNear l.points l.fn.p l.root l.path l.past;
}
