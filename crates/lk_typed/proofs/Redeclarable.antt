-- Numbers of a table are redeclarable exactly where their trees are.
use Rattle.std.proofs.Common.{◌≡◌, ◌<◌, inl, inr, ℕ, zero, suc, Bool, true, false, List, [], ◌∷◌, map, refl, sym, subst, arith, All, Some, nat_eq}
use Rattle.std.specs.Prelude.{◌&&◌, ◌||◌, ◌↔◌, IsTrue}
use Rattle.std.specs.Bool.{beq}
use Rattle.std.specs.List.{slice_get}
use Rattle.std.proofs.lemmas.Bool.{and_parts, eqb-true, false≢true}
use Rattle.std.proofs.lemmas.List.Elements.{All-head, All-tail}
use Rattle.lk_types.specs.Building.{IsTable, IsMadeOf}
use Rattle.lk_types.specs.Equal.{IsRedeclarable, AreEqualBut, SizesOrNone}
use Rattle.lk_types.specs.Equal.IsEqualBut.{same, pointers, arrays, functions}
use Rattle.lk_types.specs.Equal.AreEqualBut.{none as no_types, more as one_more}
use Rattle.lk_types.specs.Table.{Table, type_at, IsKnown}
use Rattle.lk_types.specs.declared.c_type.CType.{CType}
use Rattle.lk_types.specs.declared.c_type.CType.TheVariants as forms
use Rattle.lk_types.proofs.AlikeLemmas.{form_there}
use Rattle.lk_typed.specs.Ty.{Ty, Tys, Void, Int, ThreadId, Mutex, Cond, Pointer, Array, Struct, Function, Opaque, none, more, types_of, is_equal_but, are_equal_but, sizes_or_none, is_redeclarable}
use Rattle.lk_typed.specs.Meaning.{meaning, tree_of}
use Rattle.lk_typed.proofs.Meanings.{meaning_is, meaning_by, made_by}
use Rattle.lk_typed.proofs.SameTrees.{same_kind, same_flag, kind_itself, flag_itself, number_itself, both_hold, by_both}

-- ---- sizes

sizes_from : (n m : ℕ) → sizes_or_none n m ≡ true → SizesOrNone n m
sizes_from n m e = by (nat_eq n m) (nat_eq n 0) (nat_eq m 0) refl refl refl e
  where
    by : (a b c : Bool) → nat_eq n m ≡ a → nat_eq n 0 ≡ b → nat_eq m 0 ≡ c → (a || b || c) ≡ true → SizesOrNone n m
    by true b c p q r e = inl (eqb-true n m p)
    by false true c p q r e = inr (inl (eqb-true n 0 q))
    by false false true p q r e = inr (inr (eqb-true m 0 r))
    by false false false p q r e = absurd (false≢true e)

sizes_to : (n m : ℕ) → SizesOrNone n m → sizes_or_none n m ≡ true
sizes_to n m h = grind arith

-- ---- a tree is redeclarable as itself

mutual
  itself : (a : Ty) → is_equal_but sizes_or_none a a ≡ true
  itself Void = refl
  itself (Int k) = kind_itself k
  itself ThreadId = refl
  itself Mutex = refl
  itself Cond = refl
  itself (Pointer t) = itself t
  itself (Array t n) = both_hold (itself t) (sizes_to n n (inl refl))
  itself (Struct s) = number_itself s
  itself (Function r ps dots) = both_hold (both_hold (itself r) (all_themselves ps)) (flag_itself dots)
  itself (Opaque n) = number_itself n

  all_themselves : (xs : Tys) → are_equal_but sizes_or_none xs xs ≡ true
  all_themselves none = refl
  all_themselves (more t ts) = both_hold (itself t) (all_themselves ts)

module _ (table : Table) (good : IsTable table) where
  abbrev m : ℕ → Ty
  m = meaning table

  -- ---- from trees

  abbrev FromBelow : ℕ → Type 0
  FromBelow t = (v w : ℕ) → v < t → IsKnown table v → IsKnown table w → is_equal_but sizes_or_none (m v) (m w) ≡ true → IsRedeclarable table.types v w

  all_from : (t u : ℕ) → FromBelow t → IsKnown table t → IsKnown table u → (ps qs : List ℕ) → All (λ v. v < t) ps → All (λ w. w < u) qs →
      are_equal_but sizes_or_none (types_of (map m ps)) (types_of (map m qs)) ≡ true → AreEqualBut SizesOrNone table.types ps qs
  all_from t u below kt ku [] [] p q e = no_types
  all_from t u below kt ku [] (w ∷ qs) p q e = absurd (false≢true e)
  all_from t u below kt ku (v ∷ ps) [] p q e = absurd (false≢true e)
  all_from t u below kt ku (v ∷ ps) (w ∷ qs) p q e =
      let parts = and_parts (is_equal_but sizes_or_none (m v) (m w)) (are_equal_but sizes_or_none (types_of (map m ps)) (types_of (map m qs))) e in
      let v_less : v < t = All-head (λ v. v < t) v ps p in
      let w_less : w < u = All-head (λ w. w < u) w qs q in
      one_more (below v w v_less (omega arith) (omega arith) parts.0) (all_from t u below kt ku ps qs (All-tail (λ v. v < t) v ps p) (All-tail (λ w. w < u) w qs q) parts.1)

  from_forms : (t u : ℕ) (a b : CType) → FromBelow t → IsKnown table t → IsKnown table u → slice_get table.types t ≡ Some a → slice_get table.types u ≡ Some b →
      IsMadeOf table t a → IsMadeOf table u b → is_equal_but sizes_or_none (tree_of m a) (tree_of m b) ≡ true → IsRedeclarable table.types t u
  from_forms t u forms.Void forms.Void below kt ku p q i j e = same (good.different t u forms.Void p q)
  from_forms t u forms.Void _ below kt ku p q i j e = absurd (false≢true e)
  from_forms t u (forms.Int k) (forms.Int l) below kt ku p q i j e =
      same (good.different t u (forms.Int k) p (subst (λ x. slice_get table.types u ≡ Some (forms.Int x)) (sym (same_kind k l e)) q))
  from_forms t u (forms.Int k) _ below kt ku p q i j e = absurd (false≢true e)
  from_forms t u forms.ThreadId forms.ThreadId below kt ku p q i j e = same (good.different t u forms.ThreadId p q)
  from_forms t u forms.ThreadId _ below kt ku p q i j e = absurd (false≢true e)
  from_forms t u forms.Mutex forms.Mutex below kt ku p q i j e = same (good.different t u forms.Mutex p q)
  from_forms t u forms.Mutex _ below kt ku p q i j e = absurd (false≢true e)
  from_forms t u forms.Cond forms.Cond below kt ku p q i j e = same (good.different t u forms.Cond p q)
  from_forms t u forms.Cond _ below kt ku p q i j e = absurd (false≢true e)
  from_forms t u (forms.Pointer v) (forms.Pointer w) below kt ku p q i j e = pointers p q (below v w i (omega arith) (omega arith) e)
  from_forms t u (forms.Pointer v) _ below kt ku p q i j e = absurd (false≢true e)
  from_forms t u (forms.Array v n) (forms.Array w k) below kt ku p q i j e =
      let parts = and_parts (is_equal_but sizes_or_none (m v) (m w)) (sizes_or_none n k) e in
      arrays p q (below v w i (omega arith) (omega arith) parts.0) (sizes_from n k parts.1)
  from_forms t u (forms.Array v n) _ below kt ku p q i j e = absurd (false≢true e)
  from_forms t u (forms.Struct s) (forms.Struct n) below kt ku p q i j e =
      same (good.different t u (forms.Struct s) p (subst (λ x. slice_get table.types u ≡ Some (forms.Struct x)) (sym (eqb-true s n e)) q))
  from_forms t u (forms.Struct s) _ below kt ku p q i j e = absurd (false≢true e)
  from_forms t u (forms.Function r ps d) (forms.Function s qs f) below kt ku p q i j e =
      let flags = and_parts (is_equal_but sizes_or_none (m r) (m s) && are_equal_but sizes_or_none (types_of (map m ps)) (types_of (map m qs))) (beq d f) e in
      let parts = and_parts (is_equal_but sizes_or_none (m r) (m s)) (are_equal_but sizes_or_none (types_of (map m ps)) (types_of (map m qs))) flags.0 in
      let r_less : r < t = All-head (λ v. v < t) r ps i in
      let s_less : s < u = All-head (λ w. w < u) s qs j in
      functions p (subst (λ x. slice_get table.types u ≡ Some (forms.Function s qs x)) (sym (same_flag d f flags.1)) q)
      (below r s r_less (omega arith) (omega arith) parts.0) (all_from t u below kt ku ps qs (All-tail (λ v. v < t) r ps i) (All-tail (λ w. w < u) s qs j) parts.1)
  from_forms t u (forms.Function r ps d) _ below kt ku p q i j e = absurd (false≢true e)
  from_forms t u (forms.Opaque s) (forms.Opaque n) below kt ku p q i j e =
      same (good.different t u (forms.Opaque s) p (subst (λ x. slice_get table.types u ≡ Some (forms.Opaque x)) (sym (eqb-true s n e)) q))
  from_forms t u (forms.Opaque s) _ below kt ku p q i j e = absurd (false≢true e)

  from_below : (n t u : ℕ) → t < n → IsKnown table t → IsKnown table u → is_equal_but sizes_or_none (m t) (m u) ≡ true → IsRedeclarable table.types t u
  from_below zero t u less kt ku e = absurd (omega (arith, less))
  from_below (suc n) t u less kt ku e =
      from_forms t u (type_at table t) (type_at table u) (λ v w v_less kv kw same. from_below n v w (omega arith) kv kw same) kt ku
      (form_there table t kt) (form_there table u ku) (good.types t kt).made_of (good.types u ku).made_of
      (rw (meaning_is table good t kt, meaning_is table good u ku) at e)

  -- ---- to trees

  mutual
    to_trees : {t u : ℕ} → IsRedeclarable table.types t u → IsKnown table t → IsKnown table u → is_equal_but sizes_or_none (m t) (m u) ≡ true
    to_trees {t} {u} (same e) kt ku = subst (λ x. is_equal_but sizes_or_none (m t) (m x) ≡ true) e (itself (m t))
    to_trees {t} {u} (pointers {s = v} {t = w} p q d) kt ku =
        let i : v < t = made_by table good t (forms.Pointer v) kt p in
        let j : w < u = made_by table good u (forms.Pointer w) ku q in
        rw (meaning_by table good t (forms.Pointer v) kt p, meaning_by table good u (forms.Pointer w) ku q) (to_trees d (omega arith) (omega arith))
    to_trees {t} {u} (arrays {s = v} {t = w} {n = n} {m = k} p q d sizes) kt ku =
        let i : v < t = made_by table good t (forms.Array v n) kt p in
        let j : w < u = made_by table good u (forms.Array w k) ku q in
        rw (meaning_by table good t (forms.Array v n) kt p, meaning_by table good u (forms.Array w k) ku q) (both_hold (to_trees d (omega arith) (omega arith)) (sizes_to n k sizes))
    to_trees {t} {u} (functions {r = r} {s = s} {ps = ps} {qs = qs} {dots = dots} p q d ds) kt ku =
        let i = made_by table good t (forms.Function r ps dots) kt p in
        let j = made_by table good u (forms.Function s qs dots) ku q in
        let r_less : r < t = All-head (λ v. v < t) r ps i in
        let s_less : s < u = All-head (λ w. w < u) s qs j in
        rw (meaning_by table good t (forms.Function r ps dots) kt p, meaning_by table good u (forms.Function s qs dots) ku q)
        (both_hold (both_hold (to_trees d (omega arith) (omega arith)) (all_to_trees t u ds kt ku (All-tail (λ v. v < t) r ps i) (All-tail (λ w. w < u) s qs j))) (flag_itself dots))

    all_to_trees : (t u : ℕ) {ps qs : List ℕ} → AreEqualBut SizesOrNone table.types ps qs → IsKnown table t → IsKnown table u → All (λ v. v < t) ps → All (λ w. w < u) qs →
        are_equal_but sizes_or_none (types_of (map m ps)) (types_of (map m qs)) ≡ true
    all_to_trees t u no_types kt ku p q = refl
    all_to_trees t u (one_more {a = a} {b = b} {ps = ps} {qs = qs} d ds) kt ku p q =
        let a_less : a < t = All-head (λ v. v < t) a ps p in
        let b_less : b < u = All-head (λ w. w < u) b qs q in
        both_hold (to_trees d (omega arith) (omega arith)) (all_to_trees t u ds kt ku (All-tail (λ v. v < t) a ps p) (All-tail (λ w. w < u) b qs q))

pub redeclarable_by : (table : Table) → IsTable table → (t u : ℕ) → IsKnown table t → IsKnown table u → (b : Bool) → IsTrue b ↔ IsRedeclarable table.types t u →
    b ≡ is_redeclarable (meaning table t) (meaning table u)
unfolding is_redeclarable
redeclarable_by table good t u kt ku b h =
    by_both b (is_equal_but sizes_or_none (meaning table t) (meaning table u)) (λ e. to_trees table good (h.0 e) kt ku) (λ e. h.1 (from_below table good (suc t) t u (omega arith) kt ku e))
