use Rattle.std.proofs.Common.{length}
use Rattle.std.proofs.lemmas.List.Elements.{All-map}
use Rattle.lk_lower_unit.specs.Wholes.{IsNumbered}
use Rattle.lk_program.proofs.Places.{all_numbered}
use Rattle.lk_sources.specs.Accepting.{units_of}
use Rattle.lk_sources.specs.declared.checking.AcceptedSource.{AcceptedSource}
use Rattle.conformance.proofs.traces.source.whole_of.Goals as goal

pub returns-in-Ok : goal.returns-in-Ok
returns-in-Ok c =
    let accepted = c.args.accepted in
    let is = c.in-Ok.ensures.ok.is in
    record {
      externs = accepted.externs.items;
      trees = units_of accepted.sources.items;
      numbers = All-map IsNumbered (λ (s : AcceptedSource). s.parsed.unit) accepted.sources.items (all_numbered (length accepted.files) accepted.sources.items c.requires.checked.placed);
      units = is.units;
      typed = is.typed;
      linked = is.linked;
    }
