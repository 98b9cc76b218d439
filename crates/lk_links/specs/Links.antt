-- The links of a program: each point's ways into functions, whose items rise to that of the point
-- (C99 6.5.2.2, POSIX pthread_create).
use Rattle.std.specs.Prelude.{◌≡◌, ◌<◌, ◌||◌, ℕ, Bool, List, [], All, Contains, length, slice_index_or}
use Rattle.lk_facts.specs.Basis.{Basis}
use Rattle.lk_facts.specs.Items.{Rises}
use Rattle.lk_facts.specs.Places.{AreDifferent}
use Rattle.lk_facts.specs.declared.way.Way.{Way}
use Rattle.lk_links.specs.declared.link.Link.{Link}

-- the links of a point, none past the end
abbrev pub links_at : List (List Link) → ℕ → List Link
links_at links p = slice_index_or links p []

module _ (basis : Basis) where
  -- child items and own ones rise at the point by the link
  pub record IsLink (p : ℕ) (link : Link) : Type 0 where
    pub point : link.point ≡ p
    pub rises : (child : Bool) → Rises basis p link.above link.way link.below child (child || link.starts)
    pub above : link.above < length basis.program.functions
    pub below : link.below < length basis.program.functions

  -- items of g rise to items of f by the link
  pub record IsBy (f : ℕ) (way : Way) (g : ℕ) (child above : Bool) (link : Link) : Type 0 where
    pub from : link.above ≡ f
    pub by : link.way ≡ way
    pub into : link.below ≡ g
    pub becomes : (child || link.starts) ≡ above

  -- the links by which items rise at the point: there is one for each way in which they do so, and none twice
  pub record AreLinksAt (p : ℕ) (links : List Link) : Type 0 where
    pub each : All (IsLink p) links
    pub all : (f g : ℕ) (way : Way) (child above : Bool) → Rises basis p f way g child above →
        (link : Link) × Contains links link × IsBy f way g child above link
    pub once : AreDifferent links

  -- for each point its links
  pub record AreLinks (links : List (List Link)) : Type 0 where
    pub points : length links ≡ length basis.program.points
    pub each : (p : ℕ) → p < length basis.program.points → AreLinksAt p (links_at links p)
