-- What the calls inside this crate answer, which private contracts alone cite.
use Rattle.std.specs.Prelude.{ℕ, List, [], ◌∷◌, ◌++◌, ⊤}
use Rattle.lk_birth.specs.Starts.{IsSmall}
use Rattle.lk_facts.specs.declared.program.Program.{Program}
use Rattle.lk_witness.specs.Searched.{AreTold}
use Rattle.lk_witness.specs.declared.telling.Searched.{Searched}
use Rattle.lk_witness.specs.declared.running.Gone.{Gone}
use Rattle.lk_witness.specs.declared.running.Gone.TheVariants.{Moved, Waits, Ended, Over}
use Rattle.lk_witness.specs.declared.searching.Turned.{Turned}
use Rattle.lk_witness.specs.declared.searching.Turned.TheVariants as turned
use Rattle.lk_witness.specs.declared.shortening.Taken.{Taken}
use Rattle.lk_witness.specs.declared.shortening.Taken.TheVariants as taken

-- a run can go on
abbrev pub IsGone : Gone → Type 0
IsGone (Moved running) = IsSmall running.state
IsGone (Waits running) = IsSmall running.state
IsGone (Ended running) = IsSmall running.state
IsGone Over = ⊤

abbrev pub IsTurned : Turned → Type 0
IsTurned (turned.On running) = IsSmall running.state
IsTurned turned.Over = ⊤

abbrev pub IsTaken : Taken → Type 0
IsTaken (taken.On running moved) = IsSmall running.state
IsTaken taken.Races = ⊤
IsTaken taken.Over = ⊤

-- what is told of one location more
abbrev pub AddsLine : List (List ℕ) → Program → ℕ → Searched → Searched → Type 0
AddsLine files program n old new =
    (ns : List ℕ) → AreTold files program ns old.text.items old.shown →
    AreTold files program (ns ++ n ∷ []) new.text.items new.shown
