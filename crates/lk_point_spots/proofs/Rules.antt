-- The steps of each form of expression stand at the form's node or at those of its operands.
use Rattle.std.proofs.Common.{ℕ, ◌||◌, Bool, true, false, Option, None, Some, List, [], ◌∷◌, nat_eq, pos}
use Rattle.std.specs.Prelude.{if◌then◌else◌}
use Rattle.lk_arith.specs.declared.operators.Op.{Op}
use Rattle.lk_base.specs.declared.kind.Kind.TheVariants.{Int as IntKind}
use Rattle.lk_base.specs.declared.spot.Spot.{Spot}
use Rattle.lk_facts.specs.declared.action.Action.TheVariants as does
use Rattle.lk_lower_expr.specs.Names.{Names, Node}
use Rattle.lk_lower_expr.specs.Parts as parts
use Rattle.lk_lower_expr.specs.Parts.{Part, standing_at}
use Rattle.lk_lower_expr.specs.Values as rules
use Rattle.lk_lower_expr.specs.Values.{choice_of, choice_part, compound_part, is_pointer, step_part}
use Rattle.lk_lower_expr.specs.declared.step.Step.{Step}
use Rattle.lk_tree.specs.declared.operators.StepOperator.{StepOperator}
use Rattle.lk_typed.specs.declared.expression.Change.{Change}
use Rattle.lk_typed.specs.declared.expression.Storage.{Storage}
use Rattle.lk_types.specs.Predeclared.{kind_id}
use Rattle.lk_types.specs.declared.c_type.CType.{CType}
use Rattle.lk_types.specs.declared.c_type.CType.TheVariants.{Void, Int, ThreadId, Mutex, Cond, Pointer, Array, Struct, Function, Opaque}
use Rattle.lk_point_spots.proofs.Walks.{StepsSpots, PartSpots, PartsSpots, goes_spots, in_turn_spots, parts_both, standing_spots, with_spots, computes_spots, one_spots, slot_spots, followed_spots, place_spots}

part_by : (P : Spot → Type 0) (test : Bool) (a b : Part) → PartSpots P a → PartSpots P b → PartSpots P (if test then a else b)
part_by P true a b first rest = first
part_by P false a b first rest = rest

module _ (P : Spot → Type 0) (names : Names) (node : Node) (place : P node.spot) where
  -- ---- places and values

  pub name_spots : (slot : Option ℕ) (storage : Storage) → PartSpots P (rules.name_of names slot node storage)
  name_spots None storage = one_spots P names node place [] _ _ tt
  name_spots (Some slot) storage = slot_spots P names node place slot

  pub comma_spots : (a b : Part) → PartSpots P a → PartSpots P b → PartSpots P (rules.comma_part names node a b)
  comma_spots a b x y = record { at = place; own_steps = λ on. tt; others = λ on. (goes_spots P a b.first x, goes_spots P b on y) }

  -- ---- the operators that decide on the way

  pub and_spots : (a b : Part) → PartSpots P a → PartSpots P b → PartSpots P (rules.and_part names node a b)
  and_spots a b x y = record {
    at = place;
    own_steps = λ on. (place, (place, (place, (place, (place, (place, (place, tt)))))));
    others = λ on. (goes_spots P a (names.at node.ordinal 0) x, goes_spots P b (names.at node.ordinal 1) y);
  }

  pub or_spots : (a b : Part) → PartSpots P a → PartSpots P b → PartSpots P (rules.or_part names node a b)
  or_spots a b x y = record {
    at = place;
    own_steps = λ on. (place, (place, (place, (place, (place, (place, (place, tt)))))));
    others = λ on. (goes_spots P a (names.at node.ordinal 0) x, goes_spots P b (names.at node.ordinal 1) y);
  }

  module _ (c a b : Part) (x : PartSpots P c) (y : PartSpots P a) (z : PartSpots P b) where
    void_spots : PartSpots P (rules.void_choice names node c a b)
    void_spots = record {
      at = place;
      own_steps = λ on. (place, tt);
      others = λ on. (goes_spots P c (names.at node.ordinal 0) x, (goes_spots P a on y, goes_spots P b on z));
    }

    value_spots : PartSpots P (rules.value_choice names node c a b)
    value_spots = record {
      at = place;
      own_steps = λ on. (place, (place, (place, (place, tt))));
      others = λ on. (goes_spots P c (names.at node.ordinal 0) x, (goes_spots P a (names.at node.ordinal 1) y, goes_spots P b (names.at node.ordinal 2) z));
    }

    choice_of_spots : (form : CType) → PartSpots P (choice_of names form node c a b)
    choice_of_spots Void = void_spots
    choice_of_spots (Int k) = value_spots
    choice_of_spots ThreadId = value_spots
    choice_of_spots Mutex = value_spots
    choice_of_spots Cond = value_spots
    choice_of_spots (Pointer t) = value_spots
    choice_of_spots (Array t n) = value_spots
    choice_of_spots (Struct s) = value_spots
    choice_of_spots (Function result params dots) = value_spots
    choice_of_spots (Opaque n) = value_spots

    pub choice_spots : PartSpots P (choice_part names node c a b)
    unfolding choice_part
    choice_spots = choice_of_spots (names.form node.type)

  -- ---- assignments

  module _ (a : Part) (x : PartSpots P a) where
    operands : PartsSpots P (parts.place_of names a.slot a)
    operands = place_spots P names a.slot a x

    pub assign_spots : (b : Part) → PartSpots P b → PartSpots P (rules.assign_part names node a b)
    assign_spots b y = with_spots P b.value _
        (computes_spots P names node place _ 1 (λ on. rules.writing names a b.value on ∷ []) (parts_both P (parts.place_of names a.slot a) (b ∷ []) operands (y, tt)) (λ on. (x.at, tt)))

    pub compound_spots : (op : Op) (b : Part) (t : ℕ) → PartSpots P b → PartSpots P (compound_part names node op a b t)
    unfolding compound_part
    compound_spots op b t y = part_by P (nat_eq a.node.type t) _ _ alike converted
      where
        alike : PartSpots P (rules.compound_alike names node op a b t)
        alike = record {
          at = place;
          own_steps = λ on. (x.at, (place, (x.at, tt)));
          others = λ on. (in_turn_spots P (parts.place_of names a.slot a) (names.at node.ordinal 0) operands, goes_spots P b (names.at node.ordinal 1) y);
        }

        converted : PartSpots P (rules.compound_converted names node op a b t)
        converted = record {
          at = place;
          own_steps = λ on. (x.at, (place, (place, (place, (x.at, tt)))));
          others = λ on. (in_turn_spots P (parts.place_of names a.slot a) (names.at node.ordinal 0) operands, goes_spots P b (names.at node.ordinal 1) y);
        }

    -- a place that is read, changed by one and written
    changes_spots : (value count : ℕ) (steps : ℕ → List Step) → ((on : ℕ) → StepsSpots P (steps on)) →
        PartSpots P (parts.with_value value (parts.computes names node (parts.place_of names a.slot a) count steps))
    changes_spots value count steps each = with_spots P value _ (computes_spots P names node place (parts.place_of names a.slot a) count steps operands each)

    plain_spots : (op : Op) (change : Change) (t : ℕ) → PartSpots P (rules.step_plain names node op change a t)
    plain_spots op change t = changes_spots _ _ _ (λ on. (x.at, (place, (place, (x.at, tt)))))

    wide_spots : (op : Op) (change : Change) (t : ℕ) → PartSpots P (rules.step_wide names node op change a t)
    wide_spots op change t = changes_spots _ _ _ (λ on. (x.at, (place, (place, (place, (x.at, tt))))))

    narrow_spots : (op : Op) (change : Change) (t : ℕ) → PartSpots P (rules.step_narrow names node op change a t)
    narrow_spots op change t = changes_spots _ _ _ (λ on. (x.at, (place, (place, (place, (place, (x.at, tt)))))))

    pub change_spots : (operator : StepOperator) (change : Change) (t : ℕ) → PartSpots P (step_part names node operator change a t)
    unfolding step_part
    change_spots operator change t =
        part_by P (nat_eq a.node.type t) _ _ (part_by P (is_pointer (names.form t) || nat_eq t (kind_id IntKind)) _ _ (plain_spots _ change t) (wide_spots _ change t)) (narrow_spots _ change t)

    -- ---- conversions

    pub load_spots : PartSpots P (rules.load_part names node a)
    load_spots = followed_spots P names node place (standing_at node.ordinal a) _ _ (standing_spots P node.ordinal a x)

    pub decay_spots : PartSpots P (rules.decay_part names node a)
    decay_spots = followed_spots P names node place (parts.followed names node (standing_at node.ordinal a) (does.Value (pos 0) (kind_id IntKind)) (parts.int names)) _ _
        (followed_spots P names node place (standing_at node.ordinal a) _ _ (standing_spots P node.ordinal a x))

    pub convert_spots : PartSpots P (rules.convert_part names node a)
    convert_spots = followed_spots P names node place (standing_at node.ordinal a) _ _ (standing_spots P node.ordinal a x)
