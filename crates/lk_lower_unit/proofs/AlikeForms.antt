-- Each form of expression has the same steps whatever the numbers are.
use Rattle.std.proofs.Common.{ap, sym, subst, ◌∙◌, ◌≡◌, ◌||◌, ℕ, Bool, true, false, Option, None, Some, List, [], ◌∷◌, length, nat_eq, refl}
use Rattle.std.specs.Prelude.{if◌then◌else◌, suc}
use Rattle.lk_arith.specs.declared.operators.Op.{Op}
use Rattle.lk_base.specs.declared.kind.Kind.TheVariants.{Int as IntKind}
use Rattle.lk_facts.specs.declared.action.Action.{Action}
use Rattle.lk_lower_expr.specs.Library as calls
use Rattle.lk_lower_expr.specs.Library.{Called, by_name, by_pointer, is_text, scans, texts_of}
use Rattle.lk_lower_expr.specs.Names.{Names, Node}
use Rattle.lk_lower_expr.specs.Parts.{Part, computes, place_of, then_one, with_value}
use Rattle.lk_lower_expr.specs.Values as rules
use Rattle.lk_lower_expr.specs.Values.{choice_of, choice_part, compound_part, is_pointer, name_of, slot_named, step_part}
use Rattle.lk_lower_expr.specs.declared.step.Step.{Step}
use Rattle.lk_lower_unit.proofs.Alike.{AlikeCalled, AlikeNames, AlikeParts, AlikeSlots, AllAlike, append_alike, computes_alike, goes_alike, in_turn_alike, place_alike, slot_part_alike, with_value_alike}
use Rattle.lk_tree.specs.declared.operators.StepOperator.{StepOperator}
use Rattle.lk_typed.specs.declared.expression.Change.{Change}
use Rattle.lk_typed.specs.declared.expression.Storage.{Storage}
use Rattle.lk_typed.specs.declared.expression.Storage.TheVariants as storage
use Rattle.lk_types.specs.Predeclared.{kind_id}
use Rattle.lk_types.specs.declared.c_type.CType.{CType}
use Rattle.lk_types.specs.declared.c_type.CType.TheVariants.{Void, Int, ThreadId, Mutex, Cond, Pointer, Array, Struct, Function, Opaque}

-- the same side of two choices by one test
side : (p : Bool) (x y v w : Part) → AlikeParts x v → AlikeParts y w → AlikeParts (if p then x else y) (if p then v else w)
side true x y v w yes_ no_ = yes_
side false x y v w yes_ no_ = no_

pub sides : (p q : Bool) (x y v w : Part) → p ≡ q → AlikeParts x v → AlikeParts y w → AlikeParts (if p then x else y) (if q then v else w)
sides p q x y v w same yes_ no_ = subst (λ r. AlikeParts (if p then x else y) (if r then v else w)) same (side p x y v w yes_ no_)

abbrev type_in : Part → ℕ
type_in a = a.node.type

module _ (n m : Names) (names : AlikeNames n m) (node : Node) where
  -- ---- places

  name_of_alike : (s t : Option ℕ) (storage : Storage) → AlikeSlots s t → AlikeParts (name_of n s node storage) (name_of m t node storage)
  name_of_alike None None storage slots = computes_alike n m node [] [] _ _ _ _ tt (λ on off. refl)
  name_of_alike None (Some t) storage slots = absurd slots
  name_of_alike (Some s) None storage slots = absurd slots
  name_of_alike (Some s) (Some t) storage slots = slot_part_alike n m node s t

  slot_named_alike : (is : Storage) → AlikeSlots (slot_named n.slot is) (slot_named m.slot is)
  slot_named_alike (storage.Entity e) = tt
  slot_named_alike (storage.Local l) = names.slot l

  pub name_alike : (is : Storage) → AlikeParts (rules.name_part n node is) (rules.name_part m node is)
  name_alike is = name_of_alike (slot_named n.slot is) (slot_named m.slot is) is (slot_named_alike is)

  -- ---- values

  pub one_alike : (xs ys : List Part) (x y : Action) (g h : Option ℕ) → AllAlike xs ys → AlikeParts (then_one n node xs x g) (then_one m node ys y h)
  one_alike xs ys x y g h is = computes_alike n m node xs ys _ _ _ _ is (λ on off. refl)

  pub comma_alike : (a b v w : Part) → AlikeParts a v → AlikeParts b w → AlikeParts (rules.comma_part n node a b) (rules.comma_part m node v w)
  comma_alike a b v w left right = record { node = refl; slot = tt; steps = λ on off. refl; inside = λ on off. (goes_alike a v left _ _, goes_alike b w right _ _) }

  pub and_alike : (a b v w : Part) → AlikeParts a v → AlikeParts b w → AlikeParts (rules.and_part n node a b) (rules.and_part m node v w)
  and_alike a b v w left right = record { node = refl; slot = tt; steps = λ on off. refl; inside = λ on off. (goes_alike a v left _ _, goes_alike b w right _ _) }

  pub or_alike : (a b v w : Part) → AlikeParts a v → AlikeParts b w → AlikeParts (rules.or_part n node a b) (rules.or_part m node v w)
  or_alike a b v w left right = record { node = refl; slot = tt; steps = λ on off. refl; inside = λ on off. (goes_alike a v left _ _, goes_alike b w right _ _) }

  -- ---- `?:`

  module _ (c a b u v w : Part) (first : AlikeParts c u) (left : AlikeParts a v) (right : AlikeParts b w) where
    void_alike : AlikeParts (rules.void_choice n node c a b) (rules.void_choice m node u v w)
    void_alike = record { node = refl; slot = tt; steps = λ on off. refl; inside = λ on off. (goes_alike c u first _ _, (goes_alike a v left _ _, goes_alike b w right _ _)) }

    value_alike : AlikeParts (rules.value_choice n node c a b) (rules.value_choice m node u v w)
    value_alike = record { node = refl; slot = tt; steps = λ on off. refl; inside = λ on off. (goes_alike c u first _ _, (goes_alike a v left _ _, goes_alike b w right _ _)) }

    choice_of_alike : (form : CType) → AlikeParts (choice_of n form node c a b) (choice_of m form node u v w)
    choice_of_alike Void = void_alike
    choice_of_alike (Int k) = value_alike
    choice_of_alike ThreadId = value_alike
    choice_of_alike Mutex = value_alike
    choice_of_alike Cond = value_alike
    choice_of_alike (Pointer t) = value_alike
    choice_of_alike (Array t count) = value_alike
    choice_of_alike (Struct s) = value_alike
    choice_of_alike (Function result params dots) = value_alike
    choice_of_alike (Opaque o) = value_alike

    pub choice_alike : AlikeParts (choice_part n node c a b) (choice_part m node u v w)
    unfolding choice_part
    choice_alike = subst (λ form. AlikeParts (choice_of n (n.form node.type) node c a b) (choice_of m form node u v w)) (names.form node.type) (choice_of_alike (n.form node.type))

  -- ---- assignments

  module _ (a v : Part) (left : AlikeParts a v) where
    place : AllAlike (place_of n a.slot a) (place_of m v.slot v)
    place = place_alike n m a.slot v.slot a v left.slot left

    pub assign_alike : (b w : Part) → AlikeParts b w → AlikeParts (rules.assign_part n node a b) (rules.assign_part m node v w)
    assign_alike b w right =
        with_value_alike b.value w.value _ _ (computes_alike n m node _ _ _ _ _ _ (append_alike (place_of n a.slot a) (place_of m v.slot v) (b ∷ []) (w ∷ []) place (right, tt)) (λ on off. refl))

    same_type : a.node.type ≡ v.node.type
    same_type = ap (λ (o : Node). o.type) left.node

    pub compound_alike : (op : Op) (b w : Part) (t : ℕ) → AlikeParts b w → AlikeParts (compound_part n node op a b t) (compound_part m node op v w t)
    unfolding compound_part
    compound_alike op b w t right = sides (nat_eq a.node.type t) (nat_eq v.node.type t) _ _ _ _ (ap (λ u. nat_eq u t) same_type) alike converted
      where
        alike : AlikeParts (rules.compound_alike n node op a b t) (rules.compound_alike m node op v w t)
        alike = record { node = refl; slot = tt; steps = λ on off. refl; inside = λ on off. (in_turn_alike _ _ place _ _, goes_alike b w right _ _) }

        converted : AlikeParts (rules.compound_converted n node op a b t) (rules.compound_converted m node op v w t)
        converted = record { node = refl; slot = tt; steps = λ on off. refl; inside = λ on off. (in_turn_alike _ _ place _ _, goes_alike b w right _ _) }

    changes_alike : (x y c d : ℕ) (s t : ℕ → List Step) → ((on off : ℕ) → length (s on) ≡ length (t off)) →
        AlikeParts (with_value x (computes n node (place_of n a.slot a) c s)) (with_value y (computes m node (place_of m v.slot v) d t))
    changes_alike x y c d s t steps = with_value_alike x y _ _ (computes_alike n m node _ _ c d s t place steps)

    pub change_alike : (operator : StepOperator) (change : Change) (t : ℕ) → AlikeParts (step_part n node operator change a t) (step_part m node operator change v t)
    unfolding step_part
    change_alike operator change t =
        sides (nat_eq a.node.type t) (nat_eq v.node.type t) _ _ _ _ (ap (λ u. nat_eq u t) same_type)
        (sides (is_pointer (n.form t) || nat_eq t (kind_id IntKind)) (is_pointer (m.form t) || nat_eq t (kind_id IntKind)) _ _ _ _
        (ap (λ f. is_pointer f || nat_eq t (kind_id IntKind)) (names.form t))
        (changes_alike _ _ _ _ _ _ (λ on off. refl)) (changes_alike _ _ _ _ _ _ (λ on off. refl))) (changes_alike _ _ _ _ _ _ (λ on off. refl))

  -- ---- calls

  pub call_alike : (c d : Called) (xs ys : List Part) → AlikeCalled c d → AllAlike xs ys → AlikeParts (calls.call_part n node c xs) (calls.call_part m node d ys)
  call_alike (by_name e) (by_name f) xs ys called is = one_alike xs ys _ _ _ _ is
  call_alike (by_name e) (by_pointer b) xs ys called is = absurd called
  call_alike (by_pointer a) (by_name f) xs ys called is = absurd called
  call_alike (by_pointer a) (by_pointer b) xs ys called is = one_alike (a ∷ xs) (b ∷ ys) _ _ _ _ (called, is)

  -- ---- `printf`

  text_here : (p q : Bool) (a b : Part) (xs ys : List Part) → p ≡ q → length xs ≡ length ys → length (if p then a ∷ xs else xs) ≡ length (if q then b ∷ ys else ys)
  text_here p q a b xs ys same is = subst (λ r. length (if p then a ∷ xs else xs) ≡ length (if r then b ∷ ys else ys)) same (here p)
    where
      here : (r : Bool) → length (if r then a ∷ xs else xs) ≡ length (if r then b ∷ ys else ys)
      here true = ap suc is
      here false = is

  texts_alike : (xs ys : List Part) → AllAlike xs ys → length (texts_of n xs) ≡ length (texts_of m ys)
  texts_alike [] [] is = refl
  texts_alike [] (b ∷ ys) is = absurd is
  texts_alike (a ∷ xs) [] is = absurd is
  texts_alike (a ∷ xs) (b ∷ ys) is =
      text_here (is_text (n.form a.node.type)) (is_text (m.form b.node.type)) a b _ _
      (ap (λ f. is_text f) (names.form a.node.type ∙ ap m.form (ap (λ (o : Node). o.type) is.0.node))) (texts_alike xs ys is.1)

  scans_counted : (names : Names) (k : ℕ) (xs : List Part) (on : ℕ) → length (scans names node k xs on) ≡ length xs
  scans_counted names k [] on = refl
  scans_counted names k (a ∷ xs) on = ap suc (scans_counted names (suc k) xs on)

  pub print_alike : (a b : Part) (xs ys : List Part) → AlikeParts a b → AllAlike xs ys → AlikeParts (calls.print_part n node a xs) (calls.print_part m node b ys)
  print_alike a b xs ys first is =
      computes_alike n m node (a ∷ xs) (b ∷ ys) _ _ _ _ (first, is)
      (λ on off. ap suc (scans_counted n 1 (texts_of n xs) on ∙ texts_alike xs ys is ∙ sym (scans_counted m 1 (texts_of m ys) off)))
