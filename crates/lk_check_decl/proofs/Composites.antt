-- Composite types as trees: as large as the type, complete where it is, and of as many elements as one of the two.
use Rattle.std.proofs.Common.{◌≡◌, ◌∙◌, ◌*◌, ◌<◌, ◌^◌, ℕ, zero, suc, Bool, true, false, List, [], Some, None, map, refl, sym, ap, subst, nat_eq}
use Rattle.std.specs.Prelude.{⊤, not, unwrap_or, ◌||◌, if◌then◌else◌}
use Rattle.std.specs.List.{slice_get}
use Rattle.std.proofs.lemmas.Bool.{and_parts, eqb-true, false≢true}
use Rattle.lk_types.specs.Sizes.{start_size, with_part, is_over}
use Rattle.lk_types.specs.Table.{is_empty}
use Rattle.lk_types.specs.declared.member.StructMember.{StructMember}
use Rattle.lk_types.specs.declared.size.TypeSize.{TypeSize}
use Rattle.lk_typed.specs.Bounds.{holds_struct, is_void, parts_of, plain, size_of, size_of_parts, size_within, steps_counted}
use Rattle.lk_typed.specs.Declarations.{composite, composites, sized}
use Rattle.lk_typed.specs.DeclaratorRules.{elements}
use Rattle.lk_typed.specs.Told.{with_optional}
use Rattle.lk_typed.specs.Ty.{Ty, Tys, Void, Int, ThreadId, Mutex, Cond, Pointer, Array, Struct, Function, Opaque, none, more, array_of, function_of, target_of, list_of, is_equal_but, sizes_or_none}
use Rattle.lk_check_decl.proofs.Sizes.{with_parts}

-- ---- its nodes

pub holds_composite : (a b : Ty) → holds_struct (composite a b) ≡ holds_struct a
holds_composite Void b = refl
holds_composite (Int k) b = refl
holds_composite ThreadId b = refl
holds_composite Mutex b = refl
holds_composite Cond b = refl
holds_composite (Pointer t) b =
    elim (target_of b) as (λ o. holds_struct (with_optional (Pointer t) (λ u. Pointer (composite t u)) o) ≡ false) [ None ↦ refl | Some u ↦ refl ]
holds_composite (Array t n) b =
    elim (array_of b) as (λ o. holds_struct (with_optional (Array t n) (λ other. Array (composite t other.0) (sized n other.1)) o) ≡ holds_struct t) [
      | None ↦ refl
      | Some other ↦ holds_composite t other.0
    ]
holds_composite (Struct s) b = refl
holds_composite (Function r ps dots) b =
    elim (function_of b) as (λ o. holds_struct (with_optional (Function r ps dots) (λ other. Function (composite r other.result) (composites ps other.params) dots) o) ≡ false) [
      | None ↦ refl
      | Some other ↦ refl
    ]
holds_composite (Opaque n) b = refl

void_composite : (a b : Ty) → is_void (composite a b) ≡ is_void a
void_composite Void b = refl
void_composite (Int k) b = refl
void_composite ThreadId b = refl
void_composite Mutex b = refl
void_composite Cond b = refl
void_composite (Pointer t) b = elim (target_of b) as (λ o. is_void (with_optional (Pointer t) (λ u. Pointer (composite t u)) o) ≡ false) [ None ↦ refl | Some u ↦ refl ]
void_composite (Array t n) b =
    elim (array_of b) as (λ o. is_void (with_optional (Array t n) (λ other. Array (composite t other.0) (sized n other.1)) o) ≡ false) [ None ↦ refl | Some other ↦ refl ]
void_composite (Struct s) b = refl
void_composite (Function r ps dots) b =
    elim (function_of b) as (λ o. is_void (with_optional (Function r ps dots) (λ other. Function (composite r other.result) (composites ps other.params) dots) o) ≡ false) [
      | None ↦ refl
      | Some other ↦ refl
    ]
void_composite (Opaque n) b = refl

by_target : (v v' h h' : Bool) (s s' : TypeSize) → v' ≡ v → h' ≡ h → s' ≡ s → (if v' || h' then start_size else s') ≡ (if v || h then start_size else s)
by_target v v' h h' s s' p q r = cc

module _ (below : Ty → TypeSize) (same : (a b : Ty) → below (composite a b) ≡ below a) where
  params_size : (ps qs : Tys) (size : TypeSize) → with_parts below size (map plain (list_of (composites ps qs))) ≡ with_parts below size (map plain (list_of ps))
  params_size none qs size = refl
  params_size (more t ts) none size = refl
  params_size (more t ts) (more u us) size =
      ap (λ s. with_parts below (with_part size s) (map plain (list_of (composites ts us)))) (same t u) ∙ params_size ts us (with_part size (below t))

  layer_size : (fields : ℕ → List Ty) (a b : Ty) → size_of_parts below (parts_of fields (composite a b)) ≡ size_of_parts below (parts_of fields a)
  layer_size fields Void b = refl
  layer_size fields (Int k) b = refl
  layer_size fields ThreadId b = refl
  layer_size fields Mutex b = refl
  layer_size fields Cond b = refl
  layer_size fields (Pointer t) b =
      elim (target_of b) as
      (λ o. size_of_parts below (parts_of fields (with_optional (Pointer t) (λ u. Pointer (composite t u)) o)) ≡ size_of_parts below (parts_of fields (Pointer t))) [
        | None ↦ refl
        | Some u ↦
            ap (with_part start_size)
            (by_target (is_void t) (is_void (composite t u)) (holds_struct t) (holds_struct (composite t u)) (below t) (below (composite t u)) (void_composite t u) (holds_composite t u) (same t u))
      ]
  layer_size fields (Array t n) b =
      elim (array_of b) as
      (λ o.
      size_of_parts below (parts_of fields (with_optional (Array t n) (λ other. Array (composite t other.0) (sized n other.1)) o)) ≡
      size_of_parts below (parts_of fields (Array t n))) [
        | None ↦ refl
        | Some other ↦ ap (with_part start_size) (same t other.0)
      ]
  layer_size fields (Struct s) b = refl
  layer_size fields (Function r ps dots) b =
      elim (function_of b) as
      (λ o.
      size_of_parts below (parts_of fields (with_optional (Function r ps dots) (λ other. Function (composite r other.result) (composites ps other.params) dots) o)) ≡
      size_of_parts below (parts_of fields (Function r ps dots))) [
        | None ↦ refl
        | Some other ↦
            ap (λ s. with_parts below (with_part start_size s) (map plain (list_of (composites ps other.params)))) (same r other.result) ∙
            params_size ps other.params (with_part start_size (below r))
      ]
  layer_size fields (Opaque n) b = refl

size_composite : (n : ℕ) (fields : ℕ → List Ty) (a b : Ty) → size_within n fields (composite a b) ≡ size_within n fields a
unfolding size_within
size_composite zero fields a b = refl
size_composite (suc n) fields a b = layer_size (size_within n fields) (size_composite n fields) fields a b

-- the composite is over the bounds of a table exactly where the type is
pub over_composite : (fields : ℕ → List Ty) (a b : Ty) → is_over (size_of fields (composite a b)) ≡ is_over (size_of fields a)
over_composite fields a b = ap is_over (size_composite steps_counted fields a b)

-- ---- its size

-- whether the size of an object is known, where these are the members of the structs
abbrev pub is_complete_tree : List (List StructMember) → Ty → Bool
is_complete_tree members Void = false
is_complete_tree members (Int k) = true
is_complete_tree members ThreadId = true
is_complete_tree members Mutex = true
is_complete_tree members Cond = true
is_complete_tree members (Pointer t) = true
is_complete_tree members (Array t n) = not (nat_eq n 0)
is_complete_tree members (Struct s) = not (is_empty (unwrap_or (slice_get members s) []))
is_complete_tree members (Function result params dots) = false
is_complete_tree members (Opaque n) = false

first_size : (n m : ℕ) → nat_eq n 0 ≡ false → sized n m ≡ n
first_size n m there = ap (λ b. if b then m else n) there

second_size : (n m : ℕ) → nat_eq n 0 ≡ true → sized n m ≡ m
second_size n m zero_there = ap (λ b. if b then m else n) zero_there

pub not_true : (b : Bool) → not b ≡ true → b ≡ false
not_true true h = sym h
not_true false h = refl

pub complete_composite : (members : List (List StructMember)) (a b : Ty) → is_complete_tree members a ≡ true → is_complete_tree members (composite a b) ≡ true
complete_composite members Void b h = h
complete_composite members (Int k) b h = h
complete_composite members ThreadId b h = h
complete_composite members Mutex b h = h
complete_composite members Cond b h = h
complete_composite members (Pointer t) b h =
    elim (target_of b) as (λ o. is_complete_tree members (with_optional (Pointer t) (λ u. Pointer (composite t u)) o) ≡ true) [ None ↦ refl | Some u ↦ refl ]
complete_composite members (Array t n) b h =
    elim (array_of b) as (λ o. is_complete_tree members (with_optional (Array t n) (λ other. Array (composite t other.0) (sized n other.1)) o) ≡ true) [
      | None ↦ h
      | Some other ↦ ap (λ size. not (nat_eq size 0)) (first_size n other.1 (not_true (nat_eq n 0) h)) ∙ h
    ]
complete_composite members (Struct s) b h = h
complete_composite members (Function r ps dots) b h = absurd (false≢true h)
complete_composite members (Opaque n) b h = h

-- ---- its elements

-- each array in it has a size
abbrev pub HasSizes : Ty → Type 0
HasSizes Void = ⊤
HasSizes (Int k) = ⊤
HasSizes ThreadId = ⊤
HasSizes Mutex = ⊤
HasSizes Cond = ⊤
HasSizes (Pointer t) = ⊤
HasSizes (Array t n) = (nat_eq n 0 ≡ false) × HasSizes t
HasSizes (Struct s) = ⊤
HasSizes (Function result params dots) = ⊤
HasSizes (Opaque n) = ⊤

elements_composite : (a b : Ty) → HasSizes a → elements (composite a b) ≡ elements a
elements_composite Void b sizes = refl
elements_composite (Int k) b sizes = refl
elements_composite ThreadId b sizes = refl
elements_composite Mutex b sizes = refl
elements_composite Cond b sizes = refl
elements_composite (Pointer t) b sizes = elim (target_of b) as (λ o. elements (with_optional (Pointer t) (λ u. Pointer (composite t u)) o) ≡ 1) [ None ↦ refl | Some u ↦ refl ]
elements_composite (Array t n) b sizes =
    elim (array_of b) as (λ o. elements (with_optional (Array t n) (λ other. Array (composite t other.0) (sized n other.1)) o) ≡ n * elements t) [
      | None ↦ refl
      | Some other ↦ ap (λ size. size * elements (composite t other.0)) (first_size n other.1 sizes.0) ∙ ap (λ k. n * k) (elements_composite t other.0 sizes.1)
    ]
elements_composite (Struct s) b sizes = refl
elements_composite (Function r ps dots) b sizes =
    elim (function_of b) as (λ o. elements (with_optional (Function r ps dots) (λ other. Function (composite r other.result) (composites ps other.params) dots) o) ≡ 1) [
      | None ↦ refl
      | Some other ↦ refl
    ]
elements_composite (Opaque n) b sizes = refl

same_size : (n m : ℕ) → sizes_or_none n m ≡ true → nat_eq n 0 ≡ false → nat_eq m 0 ≡ false → n ≡ m
same_size n m equal n_there m_there = by (nat_eq n m) (nat_eq n 0) (nat_eq m 0) refl n_there m_there equal
  where
    by : (a b c : Bool) → nat_eq n m ≡ a → b ≡ false → c ≡ false → (a || b || c) ≡ true → n ≡ m
    by true b c is p q e = eqb-true n m is
    by false b c is p q e = absurd (false≢true (sym (ap (λ x. false || x || c) p ∙ ap (λ x. false || false || x) q) ∙ e))

same_elements : (a b : Ty) → is_equal_but sizes_or_none a b ≡ true → HasSizes a → HasSizes b → elements a ≡ elements b
same_elements Void (Array u m) e p q = absurd (false≢true e)
same_elements Void _ e p q = refl
same_elements (Int k) (Array u m) e p q = absurd (false≢true e)
same_elements (Int k) _ e p q = refl
same_elements ThreadId (Array u m) e p q = absurd (false≢true e)
same_elements ThreadId _ e p q = refl
same_elements Mutex (Array u m) e p q = absurd (false≢true e)
same_elements Mutex _ e p q = refl
same_elements Cond (Array u m) e p q = absurd (false≢true e)
same_elements Cond _ e p q = refl
same_elements (Pointer t) (Array u m) e p q = absurd (false≢true e)
same_elements (Pointer t) _ e p q = refl
same_elements (Array t n) (Array u m) e p q =
    let parts = and_parts (is_equal_but sizes_or_none t u) (sizes_or_none n m) e in
    ap (λ size. size * elements t) (same_size n m parts.1 p.0 q.0) ∙ ap (λ k. m * k) (same_elements t u parts.0 p.1 q.1)
same_elements (Array t n) _ e p q = absurd (false≢true e)
same_elements (Struct s) (Array u m) e p q = absurd (false≢true e)
same_elements (Struct s) _ e p q = refl
same_elements (Function r ps dots) (Array u m) e p q = absurd (false≢true e)
same_elements (Function r ps dots) _ e p q = refl
same_elements (Opaque n) (Array u m) e p q = absurd (false≢true e)
same_elements (Opaque n) _ e p q = refl

-- an array of composites has few elements where the two arrays have
pub few_composite : (a b : Ty) (n m : ℕ) → is_equal_but sizes_or_none a b ≡ true → HasSizes a → HasSizes b → n * elements a < 2 ^ 64 → m * elements b < 2 ^ 64 →
    sized n m * elements (composite a b) < 2 ^ 64
few_composite a b n m equal p q few_a few_b = by (nat_eq n 0) refl
  where
    by : (zero_there : Bool) → nat_eq n 0 ≡ zero_there → sized n m * elements (composite a b) < 2 ^ 64
    by true is =
        subst (λ k. k < 2 ^ 64) (sym (ap (λ size. size * elements (composite a b)) (second_size n m is) ∙ ap (λ k. m * k) (elements_composite a b p ∙ same_elements a b equal p q))) few_b
    by false is =
        subst (λ k. k < 2 ^ 64) (sym (ap (λ size. size * elements (composite a b)) (first_size n m is) ∙ ap (λ k. n * k) (elements_composite a b p))) few_a

-- ---- what has no parts is its own composite

pub composite_alone : (a b : Ty) → target_of a ≡ None → array_of a ≡ None → function_of a ≡ None → composite a b ≡ a
composite_alone Void b p q r = refl
composite_alone (Int k) b p q r = refl
composite_alone ThreadId b p q r = refl
composite_alone Mutex b p q r = refl
composite_alone Cond b p q r = refl
composite_alone (Pointer t) b p q r = cc
composite_alone (Array t n) b p q r = cc
composite_alone (Struct s) b p q r = refl
composite_alone (Function s ps dots) b p q r = cc
composite_alone (Opaque n) b p q r = refl

-- ---- a type is its own composite

sized_self : (n : ℕ) → sized n n ≡ n
sized_self n = by (nat_eq n 0)
  where
    by : (b : Bool) → (if b then n else n) ≡ n
    by true = refl
    by false = refl

mutual
  pub composite_self : (a : Ty) → composite a a ≡ a
  composite_self Void = refl
  composite_self (Int k) = refl
  composite_self ThreadId = refl
  composite_self Mutex = refl
  composite_self Cond = refl
  composite_self (Pointer t) = ap Pointer (composite_self t)
  composite_self (Array t n) = ap (Array (composite t t)) (sized_self n) ∙ ap (λ u. Array u n) (composite_self t)
  composite_self (Struct s) = refl
  composite_self (Function r ps dots) = ap (λ u. Function u (composites ps ps) dots) (composite_self r) ∙ ap (λ us. Function r us dots) (composites_self ps)
  composite_self (Opaque n) = refl

  composites_self : (ts : Tys) → composites ts ts ≡ ts
  composites_self none = refl
  composites_self (more t ts) = ap (λ u. more u (composites ts ts)) (composite_self t) ∙ ap (more t) (composites_self ts)
