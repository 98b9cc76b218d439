-- What a point does to locks.
use Rattle.std.specs.Prelude.{◌≡◌, ℕ, false, Contains, List, Option}
use Rattle.lk_facts.specs.Basis.{Basis}
use Rattle.lk_facts.specs.Doing.{Takes, Frees}
use Rattle.lk_facts.specs.Origins.{flow_of}
use Rattle.lk_held.specs.declared.acts.Acts.{Acts}
use Rattle.lk_links.specs.Only.{IsTheOne}
use Rattle.lk_links.specs.declared.link.Link.{Link}

-- what the rules rest on
abbrev pub basis_in : Acts → Basis
basis_in acts =
    record { program = acts.points.now; labels = acts.labels.now; flow = flow_of acts.facts.now.origins }

-- the point takes the mutex of this label, or takes none
abbrev pub IsTaken : Basis → ℕ → Option ℕ → Type 0
IsTaken basis p = IsTheOne (λ x. (f : ℕ) × Takes basis p f x)

-- the point frees the mutex of this label, or frees none
abbrev pub IsFreed : Basis → ℕ → Option ℕ → Type 0
IsFreed basis p = IsTheOne (λ x. (f : ℕ) × Frees basis p f x)

-- one of the links runs its function, and has the property
abbrev pub OneRuns : List Link → (Link → Type 0) → Type 0
OneRuns links P = (link : Link) × Contains links link × (link.starts ≡ false) × P link
