use Rattle.std.proofs.Common.{◌<◌, ◌↔◌, length}
use Rattle.lk_facts.specs.Initials.{GivesFunction}
use Rattle.lk_point_statics.specs.Behind.{LeadsBack}
use Rattle.lk_point_statics.proofs.addresses.gives_function.Given as goal

abbrev pub invariant-loop-turn : goal.invariant-loop-turn
invariant-loop-turn l = record {
  within : l.point < length l.points.points;
  back : LeadsBack l.points l._turn l.fn.p l.point;
  exact : GivesFunction l.points l.point l.f ↔ GivesFunction l.points l.fn.p l.f;
}
