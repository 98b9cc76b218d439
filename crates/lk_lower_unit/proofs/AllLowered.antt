-- A program that is made of sources keeps what the analysis asks of its points.
use Rattle.lk_facts.specs.Lowered.{IsLowered}
use Rattle.lk_facts.specs.declared.program.Program.{Program}
use Rattle.lk_lower_expr.specs.Lowering.{Numbers}
use Rattle.lk_lower_expr.specs.Programs.{ArePlaces}
use Rattle.lk_lower_unit.proofs.Living.{IsKept}
use Rattle.lk_lower_unit.proofs.PlacesDiffer.{places_differ}
use Rattle.lk_lower_unit.specs.Lowers.{IsTested}
use Rattle.lk_typed.specs.declared.whole.Whole.{Whole}

pub lowered_by : (whole : Whole) (numbers : Numbers) (program : Program) → IsKept program → IsTested program → ArePlaces whole numbers program → IsLowered program
lowered_by whole numbers program kept tested places = record {
  operands = tested.ways.operands;
  successors = tested.ways.successors;
  typed = tested.types.typed;
  functions = tested.types.functions;
  function_roots = tested.ways.function_roots;
  sites = kept.sites;
  value_sites = kept.value_sites;
  entries = tested.ways.entries;
  exits = tested.ways.exits;
  returns = tested.ways.returns;
  ways = tested.ways.ways;
  waits = tested.ways.waits;
  mains = tested.ways.mains;
  live = kept.live;
  texts = tested.types.texts;
  initials = tested.statics.initials;
  written = tested.statics.written;
  parts = kept.parts;
  arguments = tested.types.arguments;
  argv = tested.types.argv;
  locations = places.values;
  locks = places.mutexes;
  places_differ = places_differ whole numbers program places;
}
