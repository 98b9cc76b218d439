use Rattle.std.proofs.Common.{◌≡◌, ◌<◌, ℕ, Some, length}
use Rattle.std.specs.Prelude.{slice_get}
use Rattle.lk_facts.specs.Live.{IsReached}
use Rattle.lk_facts.specs.Marks.{IsMarked, AreListed}
use Rattle.lk_facts.specs.declared.function.Function.{Function}
use Rattle.lk_facts.proofs.live.entries.Given as goal

abbrev pub invariant-loop-function : goal.invariant-loop-function
invariant-loop-function l = record {
  long : length l.marks.live.items ≡ length l.points;
  entries : (f : ℕ) (function : Function) → f < l.function-index → slice_get l.functions f ≡ Some function → IsMarked l.marks function.entry;
  sound : (p : ℕ) → IsMarked l.marks p → IsReached l.points l.functions p;
  listed : AreListed l.marks;
}
