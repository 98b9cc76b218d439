-- The numbers of the program's functions: those of the bodies, in the order of the sources and of the text.
use Rattle.std.specs.Prelude.{◌≡◌, ◌+◌, ℕ, suc, List, [], ◌∷◌, Some, length, slice_get, get_or}
use Rattle.lk_lower_expr.specs.Lowering.{Counts, is_body_of, place_in}
use Rattle.lk_lower_expr.specs.Programs.{HasFunction}
use Rattle.lk_lower_parts.specs.declared.counts.FunctionNumbers.{FunctionNumbers}
use Rattle.lk_typed.specs.declared.unit.Body.{Body}
use Rattle.lk_typed.specs.declared.whole.Linked.{Linked}

-- how many bodies these sources have
abbrev pub bodies_of : List Linked → ℕ
bodies_of [] = 0
bodies_of (linked ∷ others) = length linked.unit.bodies + bodies_of others

-- of each source the number of its first body, where that of the first of them is
-- `n`; and the number behind them
abbrev pub firsts : (n : ℕ) → List Linked → List ℕ
firsts n [] = n ∷ []
firsts n (linked ∷ others) = n ∷ firsts (n + length linked.unit.bodies) others

-- of each entity of a source the number of the function whose body it has; `none`, which is the number behind
-- those of the source, where it has none
abbrev pub AreOfEntities : (first none : ℕ) → List Body → List ℕ → Type 0
AreOfEntities first none bodies row = (e : ℕ) → get_or row e none ≡ first + place_in (is_body_of e) bodies

-- the number of a function, by the place of its body in its source
abbrev pub number_of : FunctionNumbers → (s b k : ℕ) → ℕ
number_of found s b k = get_or found.first s 0 + b

pub record AreFunctionNumbers (sources : List Linked) (found : FunctionNumbers) : Type 0 where
  pub first : found.first ≡ firsts 0 sources
  pub count : found.count ≡ bodies_of sources
  pub sources_ : length found.of_entities ≡ length sources
  pub of_entities : (s : ℕ) (linked : Linked) → slice_get sources s ≡ Some linked →
      AreOfEntities (get_or found.first s 0) (get_or found.first (suc s) 0) linked.unit.bodies
      (get_or found.of_entities s [])
  -- they count the bodies, in the order of the sources and of the text
  pub order : Counts (HasFunction sources) 0 found.count (number_of found)
