-- What the rules say along trails. Each law is the contract of a public function.
use Rattle.std.specs.Prelude.{◌≡◌, ℕ, true, List, ◌++◌}
use Rattle.lk_facts.specs.Basis.{Basis}
use Rattle.lk_facts.specs.Flow.{Flow, Over}
use Rattle.lk_facts.specs.InRange.{IsInRange}
use Rattle.lk_facts.specs.Labels.{LabelTable, is_origin_at}
use Rattle.lk_facts.specs.Lowered.{IsLowered}
use Rattle.lk_facts.specs.PathTables.{IsClosed}
use Rattle.lk_facts.specs.declared.edge.Edge.{Edge}
use Rattle.lk_facts.specs.declared.way.Way.{Way}
use Rattle.lk_trails.specs.Counting.{AreCounted, MakesRoots}
use Rattle.lk_trails.specs.Named.{Means}
use Rattle.lk_trails.specs.Trails.{Act, Trail, Left, inside_of, TrailsMove, ArePasts}

-- What a label means inside a function, one of those that it may be outside means outside.
abbrev pub MeaningGoesOut : Type 0
MeaningGoesOut =
    (es : List Edge) (labels : LabelTable) (flow : Flow) → IsClosed es labels flow →
    (o x : ℕ) (h c : List ℕ) (way : Way) → is_origin_at labels o ≡ true →
    Means labels es o h x (inside_of way c) →
    (m : ℕ) × Over flow way x m × Means labels es o h m c

-- any two trails of threads have parted, whatever step is next
abbrev pub PastsAreKept : Type 0
PastsAreKept =
    (basis : Basis) → IsLowered basis.program →
    (born : List (List Left)) (t : ℕ) (old new : List Trail) (act : Act) → ArePasts basis born old →
    TrailsMove basis t old new act →
    (later : List (List Left)) × ArePasts basis later new

-- what is made once is made once, whatever step is next
abbrev pub CountsAreKept : Type 0
CountsAreKept =
    (basis : Basis) → IsInRange basis.program → IsLowered basis.program →
    (done : List ℕ) (t : ℕ) (old new : List Trail) (roots more : List ℕ) (act : Act) →
    AreCounted basis.program done old roots → TrailsMove basis t old new act →
    MakesRoots basis.program act more → (later : List ℕ) × AreCounted basis.program later new (roots ++ more)
