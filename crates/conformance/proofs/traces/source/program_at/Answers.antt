use Rattle.std.specs.Prelude.{map, string_bytes}
use Rattle.lk_words.specs.Seen.{seen}
use Rattle.conformance.proofs.traces.source.program_at.Goals as goal

pub read-requires : goal.read-requires
read-requires g c = c.commands_are_in_bounds.ensures (map string_bytes c.deref.result.now) (seen c.in-Ok.check) c.in-Ok.ensures.ok
