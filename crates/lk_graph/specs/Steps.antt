-- The steps of a program. Only the private calls of this crate speak of it.
use Rattle.std.specs.Prelude.{ℕ, Bool, true, List}
use Rattle.std.specs.List.{filter}
use Rattle.lk_facts.specs.declared.program.Program.{Program}
use Rattle.lk_facts.specs.Program.{next_of, live_at}
use Rattle.lk_facts.specs.Reach.{IsNext, IsLiveNext}
use Rattle.lk_graph.specs.declared.steps.Steps.{Steps}
use Rattle.lk_graph.specs.declared.steps.Steps.TheVariants.{All, Live}

-- whether control may go on to the point
abbrev pub counts : Steps → Program → ℕ → Bool
counts All program q = true
counts Live program q = live_at program q

-- control may go from p to q
abbrev pub IsStep : Steps → Program → ℕ → ℕ → Type 0
IsStep All = IsNext
IsStep Live = IsLiveNext

-- the points that control may go on to from p
abbrev pub steps_at : Steps → Program → ℕ → List ℕ
steps_at steps program p = filter (counts steps program) (next_of program p)
