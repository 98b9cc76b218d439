use Rattle.std.proofs.Common.{◌≡◌, fold, map, take}
use Rattle.lk_base.specs.Files.{with_name}
use Rattle.lk_sources.proofs.numbers.put_names.Given as goal

-- the names so far are put
abbrev pub invariant-loop-name : goal.invariant-loop-name
invariant-loop-name l = l.files ≡ fold with_name l.initial.files (map (λ name. name.now) (take l.name-index l.names))
