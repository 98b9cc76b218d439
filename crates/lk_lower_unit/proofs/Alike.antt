-- Which steps a walk has doesn't depend on the numbers: two walks that are alike have the same nodes, each with as many steps.
use Rattle.std.proofs.Common.{ap, subst, sym, ◌∙◌, ◌≡◌, ◌+◌, ℕ, Bool, true, false, nat_eq, Option, None, Some, List, [], ◌∷◌, ◌++◌, length, refl}
use Rattle.std.specs.Prelude.{⊤, if◌then◌else◌}
use Rattle.std.proofs.lemmas.List.{length_push}
use Rattle.lk_facts.specs.declared.action.Action.{Action}
use Rattle.lk_lower_expr.specs.Library.{Called, by_name, by_pointer}
use Rattle.lk_lower_expr.specs.Names.{Names, Node}
use Rattle.lk_lower_expr.specs.Parts.{Part, computes, followed, goes, in_turn, paren_of, place_of, slot_part, standing_at, stands_for, with_value}
use Rattle.lk_lower_expr.specs.Walk.{Walk, nothing, own, ◌then◌}
use Rattle.lk_lower_expr.specs.declared.step.Step.{Step}

abbrev pub Alike : Walk → Walk → Type 0
Alike nothing nothing = ⊤
Alike nothing (own m t) = ⊥
Alike nothing (c then d) = ⊥
Alike (own n s) nothing = ⊥
Alike (own n s) (own m t) = (n ≡ m) × (length s ≡ length t)
Alike (own n s) (c then d) = ⊥
Alike (a then b) nothing = ⊥
Alike (a then b) (own m t) = ⊥
Alike (a then b) (c then d) = Alike a c × Alike b d

-- a slot on both sides, or on none
abbrev pub AlikeSlots : Option ℕ → Option ℕ → Type 0
AlikeSlots None None = ⊤
AlikeSlots None (Some t) = ⊥
AlikeSlots (Some s) None = ⊥
AlikeSlots (Some s) (Some t) = ⊤

pub record AlikeParts (a b : Part) : Type 0 where
  pub node : a.node ≡ b.node
  pub slot : AlikeSlots a.slot b.slot
  pub steps : (on off : ℕ) → length (a.steps on) ≡ length (b.steps off)
  pub inside : (on off : ℕ) → Alike (a.inside on) (b.inside off)

abbrev pub AllAlike : List Part → List Part → Type 0
AllAlike [] [] = ⊤
AllAlike [] (b ∷ bs) = ⊥
AllAlike (a ∷ as_) [] = ⊥
AllAlike (a ∷ as_) (b ∷ bs) = AlikeParts a b × AllAlike as_ bs

abbrev pub AlikeCalled : Called → Called → Type 0
AlikeCalled (by_name e) (by_name f) = ⊤
AlikeCalled (by_name e) (by_pointer b) = ⊥
AlikeCalled (by_pointer a) (by_name f) = ⊥
AlikeCalled (by_pointer a) (by_pointer b) = AlikeParts a b

-- names that say the same of types, of declared names, and of which locals are slots
pub record AlikeNames (n m : Names) : Type 0 where
  pub form : (t : ℕ) → n.form t ≡ m.form t
  pub declared : (l : ℕ) → (n.declared l).ordinal ≡ (m.declared l).ordinal
  pub slot : (l : ℕ) → AlikeSlots (n.slot l) (m.slot l)

-- ---- parts of parts

same_length : (p q : Bool) (xs ys : List Step) → p ≡ q → length xs ≡ length ys → length (if p then xs else []) ≡ length (if q then ys else [])
same_length p q xs ys same is = subst (λ r. length (if p then xs else []) ≡ length (if r then ys else [])) same (by_test p is)
  where
    by_test : (p : Bool) → length xs ≡ length ys → length (if p then xs else []) ≡ length (if p then ys else [])
    by_test true is = is
    by_test false is = refl

alike_both : (p q : Bool) (v w x y : Walk) → p ≡ q → Alike v w → Alike x y → Alike (if p then v else x) (if q then w else y)
alike_both p q v w x y same left right = subst (λ r. Alike (if p then v else x) (if r then w else y)) same (by_test p)
  where
    by_test : (p : Bool) → Alike (if p then v else x) (if p then w else y)
    by_test true = left
    by_test false = right

pub goes_alike : (a b : Part) → AlikeParts a b → (on off : ℕ) → Alike (goes a on) (goes b off)
goes_alike a b is on off = ((ap (λ (n : Node). n.ordinal) is.node, is.steps on off), is.inside on off)

-- a place or a value that is read or converted at a node
pub standing_alike : (node : ℕ) (a b : Part) → AlikeParts a b → AlikeParts (standing_at node a) (standing_at node b)
standing_alike node a b is =
    let here = ap (λ (n : Node). nat_eq n.ordinal node) is.node in record {
      node = is.node;
      slot = is.slot;
      steps = λ on off. same_length _ _ _ _ here (is.steps on off);
      inside = λ on off. alike_both _ _ _ _ _ _ here (is.inside on off) (goes_alike a b is on off);
    }

pub in_turn_alike : (xs ys : List Part) → AllAlike xs ys → (last end : ℕ) → Alike (in_turn xs last) (in_turn ys end)
in_turn_alike [] [] is last end = tt
in_turn_alike [] (b ∷ bs) is last end = absurd is
in_turn_alike (a ∷ xs) [] is last end = absurd is
in_turn_alike (a ∷ xs) (b ∷ ys) is last end = (goes_alike a b is.0 _ _, in_turn_alike xs ys is.1 last end)

-- one more on both sides
pub both_longer : {A B : Type 0} (xs : List A) (ys : List B) (x : A) (y : B) → length xs ≡ length ys → length (xs ++ (x ∷ [])) ≡ length (ys ++ (y ∷ []))
both_longer xs ys x y is = length_push xs x ∙ ap (λ n. n + 1) is ∙ sym (length_push ys y)

module _ (n m : Names) where
  pub computes_alike : (node : Node) (xs ys : List Part) (c d : ℕ) (s t : ℕ → List Step) → AllAlike xs ys → ((on off : ℕ) → length (s on) ≡ length (t off)) →
      AlikeParts (computes n node xs c s) (computes m node ys d t)
  computes_alike node xs ys c d s t operands steps = record { node = refl; slot = tt; steps = steps; inside = λ on off. in_turn_alike xs ys operands _ _ }

  pub stands_for_alike : (node : Node) (a b : Part) → AlikeParts a b → AlikeParts (stands_for n node a) (stands_for m node b)
  stands_for_alike node a b is = record { node = refl; slot = tt; steps = λ on off. refl; inside = λ on off. goes_alike a b is on off }

  pub slot_part_alike : (node : Node) (s t : ℕ) → AlikeParts (slot_part n node s) (slot_part m node t)
  slot_part_alike node s t = record { node = refl; slot = tt; steps = λ on off. refl; inside = λ on off. tt }

  pub followed_alike : (node : Node) (a b : Part) (x y : Action) (g h : Option ℕ) → AlikeParts a b → AlikeParts (followed n node a x g) (followed m node b y h)
  followed_alike node a b x y g h is = record { node = refl; slot = tt; steps = λ on off. both_longer _ _ _ _ (is.steps _ _); inside = λ on off. is.inside _ _ }

  pub paren_alike : (s t : Option ℕ) (node : Node) (a b : Part) → AlikeSlots s t → AlikeParts a b → AlikeParts (paren_of n s node a) (paren_of m t node b)
  paren_alike None None node a b slots is = stands_for_alike node a b is
  paren_alike None (Some t) node a b slots is = absurd slots
  paren_alike (Some s) None node a b slots is = absurd slots
  paren_alike (Some s) (Some t) node a b slots is = slot_part_alike node s t

  pub place_alike : (s t : Option ℕ) (a b : Part) → AlikeSlots s t → AlikeParts a b → AllAlike (place_of n s a) (place_of m t b)
  place_alike None None a b slots is = (is, tt)
  place_alike None (Some t) a b slots is = absurd slots
  place_alike (Some s) None a b slots is = absurd slots
  place_alike (Some s) (Some t) a b slots is = tt

pub with_value_alike : (v w : ℕ) (a b : Part) → AlikeParts a b → AlikeParts (with_value v a) (with_value w b)
with_value_alike v w a b is = record { node = is.node; slot = is.slot; steps = is.steps; inside = is.inside }

pub append_alike : (xs ys vs ws : List Part) → AllAlike xs ys → AllAlike vs ws → AllAlike (xs ++ vs) (ys ++ ws)
append_alike [] [] vs ws is too = too
append_alike [] (b ∷ ys) vs ws is too = absurd is
append_alike (a ∷ xs) [] vs ws is too = absurd is
append_alike (a ∷ xs) (b ∷ ys) vs ws is too = (is.0, append_alike xs ys vs ws is.1 too)
