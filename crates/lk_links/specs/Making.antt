-- How the links of a point are found. Only the private calls of this crate speak of it.
use Rattle.std.specs.Prelude.{◌≡◌, ℕ, Bool, true, false, Option, Some}
use Rattle.std.specs.Option.{option_map, option_and_then}
use Rattle.lk_facts.specs.Basis.{Basis}
use Rattle.lk_facts.specs.Doing.{NamesFunction}
use Rattle.lk_facts.specs.Labels.{target_at, root_of}
use Rattle.lk_facts.specs.Program.{value_site_of, function_of_root}
use Rattle.lk_facts.specs.declared.effect.Effect.{Effect}
use Rattle.lk_facts.specs.declared.effect.Effect.TheVariants.{Runs, Starts}
use Rattle.lk_facts.specs.declared.program.Program.{Program}
use Rattle.lk_facts.specs.declared.way.Way.{Way}
use Rattle.lk_facts.specs.declared.way.Way.TheVariants.{AsValue}
use Rattle.lk_links.specs.declared.link.Link.{Link}

abbrev pub link_with : (point above below : ℕ) → Way → (starts : Bool) → Link
link_with point above below way starts =
    record { point = point; above = above; below = below; way = way; starts = starts }

-- what goes into g by its number: it starts a thread there, or runs it
abbrev pub entering : Bool → ℕ → Effect
entering true g = Starts g
entering false g = Runs g

-- the link of a call through a pointer to g: none where g isn't used as a value
abbrev pub value_link : Program → (point above below : ℕ) → Option Link
value_link program point above below =
    option_map (λ i. link_with point above below (AsValue i) false) (value_site_of program below)

module _ (basis : Basis) where
  -- the function that the label names
  abbrev pub function_named : ℕ → Option ℕ
  function_named x = option_and_then (function_of_root basis.program) (root_of basis.labels x)

  -- the label may be a pointer's target that names the function g
  abbrev pub MayName : (target g : ℕ) → Type 0
  MayName target g = (origin : ℕ) × (basis.flow.all target origin ≡ true) × (function_named origin ≡ Some g)

  -- the operand may point to the function g
  abbrev pub MayPointTo : (a g : ℕ) → Type 0
  MayPointTo a g = (target : ℕ) × (target_at basis.labels a ≡ Some target) × MayName target g
