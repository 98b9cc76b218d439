use Rattle.std.proofs.Common.{◌≡◌, Option, get_or, length}
use Rattle.lk_lower_parts.specs.Gathers.{AreTheirTypes, Gathered, argument_roots}
use Rattle.lk_lower_parts.specs.Tables.{HasMore}
use Rattle.lk_lower_parts.specs.declared.types.ArgumentTypes.{ArgumentTypes}
use Rattle.lk_lower_parts.proofs.gather.number_roots_and_slots.Given as goal

abbrev pub invariant-loop-source : goal.invariant-loop-source
invariant-loop-source l = record {
  gathered : (types : Option ArgumentTypes) × AreTheirTypes l.main.has_parameters l.types types × Gathered l.whole l.functions l.points (argument_roots l.main.spot types) l.source l.types l.gathering;
  behind : length l.gathering.slots.items ≡ get_or l.functions.first l.source 0;
  more : HasMore l.fn.types l.types;
}
