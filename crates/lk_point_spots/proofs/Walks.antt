-- A property of the place of each step: of a walk, of an expression, and of several of them.
use Rattle.std.proofs.Common.{ℕ, List, [], ◌∷◌, ◌++◌, Bool, true, false, Option, None, Some, nat_eq}
use Rattle.std.specs.Prelude.{⊤, if◌then◌else◌}
use Rattle.lk_base.specs.declared.spot.Spot.{Spot}
use Rattle.lk_facts.specs.declared.action.Action.{Action}
use Rattle.lk_lower_expr.specs.Names.{Names, Node}
use Rattle.lk_lower_expr.specs.Parts as parts
use Rattle.lk_lower_expr.specs.Parts.{Part, first_of, goes, in_turn, standing_at, with_value}
use Rattle.lk_lower_expr.specs.Walk.{IsStep, Walk, here, left, nothing, own, right, ◌then◌}
use Rattle.lk_lower_expr.specs.declared.step.Step.{Step}

module _ (P : Spot → Type 0) where
  abbrev pub StepsSpots : List Step → Type 0
  StepsSpots [] = ⊤
  StepsSpots (is ∷ steps) = P is.spot × StepsSpots steps

  abbrev pub WalkSpots : Walk → Type 0
  WalkSpots nothing = ⊤
  WalkSpots (own node steps) = StepsSpots steps
  WalkSpots (a then b) = WalkSpots a × WalkSpots b

  -- ---- each step of a walk

  between : (before behind : List Step) (is : Step) → StepsSpots (before ++ (is ∷ behind)) → P is.spot
  between [] behind is all = all.0
  between (first ∷ before) behind is all = between before behind is all.1

  pub step_place : {o k : ℕ} {is : Step} {walk : Walk} → IsStep o k is walk → WalkSpots walk → P is.spot
  step_place {is = is} (here before behind e) all = between before behind is all
  step_place (left a b one) all = step_place one all.0
  step_place (right a b one) all = step_place one all.1

  -- ---- steps one after the other

  pub steps_both : (steps others : List Step) → StepsSpots steps → StepsSpots others → StepsSpots (steps ++ others)
  steps_both [] others first rest = rest
  steps_both (is ∷ steps) others first rest = (first.0, steps_both steps others first.1 rest)

  steps_by : (test : Bool) (steps others : List Step) → StepsSpots steps → StepsSpots others → StepsSpots (if test then steps else others)
  steps_by true steps others first rest = first
  steps_by false steps others first rest = rest

  walk_by : (test : Bool) (a b : Walk) → WalkSpots a → WalkSpots b → WalkSpots (if test then a else b)
  walk_by true a b first rest = first
  walk_by false a b first rest = rest

  -- ---- expressions

  pub record PartSpots (a : Part) : Type 0 where
    pub at : P a.node.spot
    pub own_steps : (on : ℕ) → StepsSpots (a.steps on)
    pub others : (on : ℕ) → WalkSpots (a.inside on)

  abbrev pub PartsSpots : List Part → Type 0
  PartsSpots [] = ⊤
  PartsSpots (a ∷ others) = PartSpots a × PartsSpots others

  pub goes_spots : (a : Part) (on : ℕ) → PartSpots a → WalkSpots (goes a on)
  goes_spots a on spots = (spots.own_steps on, spots.others on)

  pub in_turn_spots : (operands : List Part) (last : ℕ) → PartsSpots operands → WalkSpots (in_turn operands last)
  in_turn_spots [] last all = tt
  in_turn_spots (a ∷ others) last all = (goes_spots a (first_of others last) all.0, in_turn_spots others last all.1)

  pub parts_both : (as_ bs : List Part) → PartsSpots as_ → PartsSpots bs → PartsSpots (as_ ++ bs)
  parts_both [] bs first rest = rest
  parts_both (a ∷ as_) bs first rest = (first.0, parts_both as_ bs first.1 rest)

  pub standing_spots : (node : ℕ) (a : Part) → PartSpots a → PartSpots (standing_at node a)
  standing_spots node a spots = record {
    at = spots.at;
    own_steps = λ on. steps_by (nat_eq a.node.ordinal node) (a.steps on) [] (spots.own_steps on) tt;
    others = λ on. walk_by (nat_eq a.node.ordinal node) (a.inside on) (goes a on) (spots.others on) (goes_spots a on spots);
  }

  pub with_spots : (value : ℕ) (a : Part) → PartSpots a → PartSpots (with_value value a)
  with_spots value a spots = record { at = spots.at; own_steps = spots.own_steps; others = spots.others }

  -- ---- forms that many constructs share

  module _ (names : Names) (node : Node) (place : P node.spot) where
    pub computes_spots : (operands : List Part) (count : ℕ) (steps : ℕ → List Step) → PartsSpots operands → ((on : ℕ) → StepsSpots (steps on)) →
        PartSpots (parts.computes names node operands count steps)
    computes_spots operands count steps all each = record { at = place; own_steps = each; others = λ on. in_turn_spots operands (names.at node.ordinal 0) all }

    pub one_spots : (operands : List Part) (does : Action) (gives : Option ℕ) → PartsSpots operands → PartSpots (parts.then_one names node operands does gives)
    one_spots operands does gives all = computes_spots operands 1 (λ on. parts.step does gives node.spot on ∷ []) all (λ on. (place, tt))

    pub stands_spots : (a : Part) → PartSpots a → PartSpots (parts.stands_for names node a)
    stands_spots a spots = record { at = place; own_steps = λ on. tt; others = λ on. goes_spots a on spots }

    pub slot_spots : (slot : ℕ) → PartSpots (parts.slot_part names node slot)
    slot_spots slot = record { at = place; own_steps = λ on. tt; others = λ on. tt }

    pub paren_spots : (slot : Option ℕ) (a : Part) → PartSpots a → PartSpots (parts.paren_of names slot node a)
    paren_spots None a spots = stands_spots a spots
    paren_spots (Some slot) a spots = slot_spots slot

    pub followed_spots : (a : Part) (does : Action) (gives : Option ℕ) → PartSpots a → PartSpots (parts.followed names node a does gives)
    followed_spots a does gives spots = record {
      at = place;
      own_steps = λ on. steps_both (a.steps (names.at node.ordinal a.count)) (parts.step does gives node.spot on ∷ []) (spots.own_steps (names.at node.ordinal a.count)) (place, tt);
      others = λ on. spots.others (names.at node.ordinal a.count);
    }

  pub place_spots : (names : Names) (slot : Option ℕ) (a : Part) → PartSpots a → PartsSpots (parts.place_of names slot a)
  place_spots names None a spots = (spots, tt)
  place_spots names (Some slot) a spots = tt
