-- The lock sets of points and functions.
use Rattle.std.specs.Prelude.{◌≡◌, ℕ, List, [], length, slice_index_or}
use Rattle.lk_facts.specs.Origins.{AreSetsBelow}

pub record LockSets : Type 0 where
  -- how many labels there are
  pub labels : ℕ
  -- for each point the locks that are held there, and those that stay held while it runs another function
  pub at : List (List ℕ)
  pub keep : List (List ℕ)
  -- for each function the locks that are held at its exit, and those that it may release
  pub out : List (List ℕ)
  pub released : List (List ℕ)

abbrev pub sets_of : (labels : ℕ) → (at keep out released : List (List ℕ)) → LockSets
sets_of labels at keep out released =
    record { labels = labels; at = at; keep = keep; out = out; released = released }

abbrev pub at_of : LockSets → ℕ → List ℕ
at_of held p = slice_index_or held.at p []

abbrev pub keep_of : LockSets → ℕ → List ℕ
keep_of held p = slice_index_or held.keep p []

abbrev pub out_of : LockSets → ℕ → List ℕ
out_of held f = slice_index_or held.out f []

abbrev pub released_of : LockSets → ℕ → List ℕ
released_of held f = slice_index_or held.released f []

pub record AreLockSetsInRange (held : LockSets) : Type 0 where
  pub points : length held.keep ≡ length held.at
  pub functions : length held.released ≡ length held.out
  pub at : AreSetsBelow held.labels held.at
  pub keep : AreSetsBelow held.labels held.keep
  pub out : AreSetsBelow held.labels held.out
  pub released : AreSetsBelow held.labels held.released
