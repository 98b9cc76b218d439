-- The links of a program by the functions that they go into. Only the private
-- calls of this crate speak of it.
use Rattle.std.specs.Prelude.{◌≡◌, ◌<◌, ◌==◌, ◌↔◌, ℕ, Bool, List, [], Contains, slice_index_or}
use Rattle.std.specs.List.{filter}
use Rattle.lk_facts.specs.Basis.{Basis}
use Rattle.lk_facts.specs.Items.{Rises}
use Rattle.lk_facts.specs.declared.way.Way.{Way}
use Rattle.lk_links.specs.Links.{IsLink, IsBy, links_at}
use Rattle.lk_links.specs.declared.link.Link.{Link}

-- the list has just the links of the first n points
abbrev pub AreLinksBelow : List (List Link) → ℕ → List Link → Type 0
AreLinksBelow links n all =
    (link : Link) → Contains all link ↔ ((p : ℕ) × (p < n) × Contains (links_at links p) link)

-- the links that go into a function, of all
abbrev pub going_into : List Link → ℕ → List Link
going_into all g = filter (λ link. link.below == g) all

-- the links into a function, none past the end
abbrev pub links_into : List (List Link) → ℕ → List Link
links_into into g = slice_index_or into g []

module _ (basis : Basis) where
  -- the link goes into the function
  pub record IsLinkInto (g : ℕ) (link : Link) : Type 0 where
    pub is : IsLink basis link.point link
    pub into : link.below ≡ g

  -- for each function the links that go into it: there is one for each way in which items rise
  pub record AreLinksInto (into : List (List Link)) : Type 0 where
    pub each : (g : ℕ) (link : Link) → Contains (links_into into g) link → IsLinkInto g link
    pub all : (p f g : ℕ) (way : Way) (child above : Bool) → Rises basis p f way g child above →
        (link : Link) × Contains (links_into into g) link × (link.point ≡ p)
        × IsBy basis f way g child above link
