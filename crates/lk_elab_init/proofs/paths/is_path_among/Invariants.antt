use Rattle.std.proofs.Common.{drop}
use Rattle.lk_typed.specs.Stands.{IsIn}
use Rattle.lk_elab_init.proofs.paths.is_path_among.Given as goal

-- it is none of those before
abbrev pub invariant-loop-other : goal.invariant-loop-other
invariant-loop-other l = IsIn l.path l.paths → IsIn l.path (drop l.other-index l.paths)
