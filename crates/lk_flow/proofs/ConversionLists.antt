-- What conversions join.
use Rattle.std.proofs.Common.{◌≡◌, ◌↔◌, ℕ, ◌⊎◌, List, Option, Some, inl, inr, refl, sym, ◌∙◌, subst}
use Rattle.std.proofs.lemmas.Option.{same_Some}
use Rattle.lk_facts.specs.EdgeRules.{Converts}
use Rattle.lk_facts.specs.EdgeRules.Converts.{same as converts_same, to_void as converts_to_void, from_void as converts_from_void}
use Rattle.lk_facts.specs.Program.{value_type_at}
use Rattle.lk_facts.specs.Typed.{IsForm}
use Rattle.lk_facts.specs.declared.edge.Edge.{Edge}
use Rattle.lk_facts.specs.declared.edge.Mark.{Mark}
use Rattle.lk_facts.specs.declared.label_entry.LabelName.{LabelName}
use Rattle.lk_facts.specs.declared.program.Program.{Program}
use Rattle.lk_types.specs.Equal.{IsAlike}
use Rattle.lk_types.specs.declared.c_type.CType.TheVariants.{Pointer}
use Rattle.lk_flow.specs.Conversions.{FromVoid, IsAlikeSub, PointersConvert, ToVoid}
use Rattle.lk_flow.specs.Growing.{Adds, Joins}
use Rattle.lk_flow.proofs.Finders.{joins_as, joins_none, joins_two}

module _ (names : List LabelName) where
  -- what is joined where something holds, and where it doesn't
  pub joins_when : (C : Type 0) (R : LabelName → LabelName → Mark → Type 0) (old new : List Edge) → C → Adds (Joins names R) old new → Adds (Joins names (λ u v m. C × R u v m)) old new
  joins_when C R old new is adds = joins_as names R (λ u v m. C × R u v m) old new (λ u v m r. (is, r)) (λ u v m both. both.1) adds

  pub joins_unless : (C : Type 0) (R : LabelName → LabelName → Mark → Type 0) (es : List Edge) → (C → ⊥) → Adds (Joins names (λ u v m. C × R u v m)) es es
  joins_unless C R es isnt = joins_none names (λ u v m. C × R u v m) es (λ u v m both. isnt both.0)

module _ (program : Program) (names : List LabelName) where
  pub pointers_both : (a s p t x y : ℕ) (first mid new : List Edge) → ((u : ℕ) → (Some x ≡ Some u) ↔ IsForm program.types s (Pointer u)) → ((u : ℕ) → (Some y ≡ Some u) ↔ IsForm program.types t (Pointer u)) →
      Adds (Joins names (ToVoid program a x p y)) first mid → Adds (Joins names (FromVoid program a x p y)) mid new → Adds (Joins names (PointersConvert program a s p t)) first new
  pointers_both a s p t x y first mid new from to one two =
      joins_as names (λ u v m. ToVoid program a x p y u v m ⊎ FromVoid program a x p y u v m) (PointersConvert program a s p t) first new (λ u v m either. record { x = x; y = y; from = (from x).0 refl; to = (to y).0 refl; either = either }) back
      (joins_two names (ToVoid program a x p y) (FromVoid program a x p y) first mid new one two)
    where
      back : (u v : LabelName) (m : Mark) → PointersConvert program a s p t u v m → ToVoid program a x p y u v m ⊎ FromVoid program a x p y u v m
      back u v m is =
          let x_is : is.x ≡ x = sym (same_Some x is.x ((from is.x).1 is.from)) in
          let y_is : is.y ≡ y = sym (same_Some y is.y ((to is.y).1 is.to)) in
          subst (λ z. ToVoid program a z p y u v m ⊎ FromVoid program a z p y u v m) x_is (subst (λ z. ToVoid program a is.x p z u v m ⊎ FromVoid program a is.x p z u v m) y_is is.either)

  pub from_no_pointer : (a s p t : ℕ) (from : Option ℕ) (es : List Edge) → ((u : ℕ) → (from ≡ Some u) ↔ IsForm program.types s (Pointer u)) → ((u : ℕ) → from ≡ Some u → ⊥) → Adds (Joins names (PointersConvert program a s p t)) es es
  from_no_pointer a s p t from es exact none = joins_none names (PointersConvert program a s p t) es (λ u v m is. none is.x ((exact is.x).1 is.from))

  pub to_no_pointer : (a s p t : ℕ) (to : Option ℕ) (es : List Edge) → ((u : ℕ) → (to ≡ Some u) ↔ IsForm program.types t (Pointer u)) → ((u : ℕ) → to ≡ Some u → ⊥) → Adds (Joins names (PointersConvert program a s p t)) es es
  to_no_pointer a s p t to es exact none = joins_none names (PointersConvert program a s p t) es (λ u v m is. none is.y ((exact is.y).1 is.to))

  pub converts_both : (a s p t : ℕ) (first mid new : List Edge) → Some s ≡ value_type_at program a → Some t ≡ value_type_at program p → Adds (Joins names (IsAlikeSub program a s p t)) first mid → Adds (Joins names (PointersConvert program a s p t)) mid new →
      Adds (Joins names (Converts program a p)) first new
  converts_both a s p t first mid new a_is p_is one two =
      joins_as names (λ u v m. IsAlikeSub program a s p t u v m ⊎ PointersConvert program a s p t u v m) (Converts program a p) first new there back
      (joins_two names (IsAlikeSub program a s p t) (PointersConvert program a s p t) first mid new one two)
    where
      there : (u v : LabelName) (m : Mark) → IsAlikeSub program a s p t u v m ⊎ PointersConvert program a s p t u v m → Converts program a p u v m
      there u v m (inl alike) = converts_same s t (sym a_is) (sym p_is) alike.0 alike.1
      there u v m (inr pointers) = elim pointers.either [
        | inl to ↦ converts_to_void pointers.x (s, sym a_is, pointers.from) (pointers.y, (t, sym p_is, pointers.to), to.0) to.1
        | inr from ↦ converts_from_void pointers.y (pointers.x, (s, sym a_is, pointers.from), from.0) (t, sym p_is, pointers.to) from.1
      ]

      one_type : (q r z : ℕ) → Some r ≡ value_type_at program q → value_type_at program q ≡ Some z → z ≡ r
      one_type q r z is at = sym (same_Some r z (is ∙ at))

      back : (u v : LabelName) (m : Mark) → Converts program a p u v m → IsAlikeSub program a s p t u v m ⊎ PointersConvert program a s p t u v m
      back u v m (converts_same y z a_at p_at alike sub) =
          inl (subst (λ w. IsAlike program.types.types w t) (one_type a s y a_is a_at) (subst (λ w. IsAlike program.types.types y w) (one_type p t z p_is p_at) alike), sub)
      back u v m (converts_to_void x a_gives p_points loc) = inr (record {
        x = x;
        y = p_points.0;
        from = subst (λ w. IsForm program.types w (Pointer x)) (one_type a s a_gives.0 a_is a_gives.1) a_gives.2;
        to = subst (λ w. IsForm program.types w (Pointer p_points.0)) (one_type p t p_points.1.0 p_is p_points.1.1) p_points.1.2;
        either = inl (p_points.2, loc);
      })
      back u v m (converts_from_void y a_points p_gives loc) = inr (record {
        x = a_points.0;
        y = y;
        from = subst (λ w. IsForm program.types w (Pointer a_points.0)) (one_type a s a_points.1.0 a_is a_points.1.1) a_points.1.2;
        to = subst (λ w. IsForm program.types w (Pointer y)) (one_type p t p_gives.0 p_is p_gives.1) p_gives.2;
        either = inr (a_points.2, loc);
      })
