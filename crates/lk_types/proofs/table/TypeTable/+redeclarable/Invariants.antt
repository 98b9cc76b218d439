use Rattle.std.proofs.Common.{◌+◌, ◌*◌, take}
use Rattle.lk_types.specs.Equal.{AreEqualBut, SizesOrNone}
use Rattle.lk_types.proofs.RedeclareLemmas.{above, above_all}
use Rattle.lk_types.proofs.table.TypeTable.+redeclarable.Given as goal

abbrev pub decreases-are_all_redeclarable : goal.decreases-are_all_redeclarable
decreases-are_all_redeclarable l = 3 * above_all l.a.now

abbrev pub decreases-are_made_alike : goal.decreases-are_made_alike
decreases-are_made_alike l = 3 * above l.a.now + 1

abbrev pub decreases-are_redeclarable : goal.decreases-are_redeclarable
decreases-are_redeclarable l = 3 * l.a + 2

abbrev pub invariant-are_all_redeclarable-loop-place : goal.invariant-are_all_redeclarable-loop-place
invariant-are_all_redeclarable-loop-place l = AreEqualBut SizesOrNone l.self.types (take l.place l.a) (take l.place l.b)
