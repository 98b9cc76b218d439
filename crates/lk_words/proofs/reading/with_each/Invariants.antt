use Rattle.std.proofs.Common.{◌≡◌, map, take}
use Rattle.clap.specs.Words.{app_of}
use Rattle.lk_words.specs.Reading.{bare_app, with_options}
use Rattle.lk_words.proofs.reading.with_each.Given as goal

-- the options so far are read
abbrev pub invariant-loop-name : goal.invariant-loop-name
invariant-loop-name l = app_of l.command ≡ with_options bare_app (map (λ name. name.now) (take l.name-index l.options))
