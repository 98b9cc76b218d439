-- Types that are equal but for the sizes of arrays: what they are made of is so too.
use Rattle.std.proofs.Common.{◌≡◌, ◌<◌, ℕ, suc, zero, Bool, true, false, List, [], ◌∷◌, Option, Some, None, refl, sym, ap, subst, ◌∙◌, arith}
use Rattle.std.proofs.lemmas.Option.{none-some, slice_get_within}
use Rattle.std.specs.List.{slice_get}
use Rattle.std.specs.Option.{option_map}
use Rattle.std.specs.Prelude.{if◌then◌else◌, unwrap_or}
use Rattle.lk_types.specs.Building.{IsTable, IsMadeOf}
use Rattle.lk_types.specs.Equal.{AreEqualBut, AnySizes, IsAlike}
use Rattle.lk_types.specs.Equal.IsEqualBut.{same, pointers, arrays, functions}
use Rattle.lk_types.specs.Equal.AreEqualBut.{none, more}
use Rattle.lk_types.specs.Nodes.{Node, first, step, along, target_of, element_of}
use Rattle.lk_types.specs.Table.{Table, type_at, least_of, fields_of, IsKnown}
use Rattle.lk_types.specs.Walks.{has_tag, field as field_branch}
use Rattle.lk_types.specs.declared.c_type.CType.{CType}
use Rattle.lk_types.specs.declared.c_type.CType.TheVariants.{Void, Int, ThreadId, Mutex, Cond, Pointer, Array, Struct, Function, Opaque}
use Rattle.lk_types.specs.declared.node.Base.TheVariants.{Tag}
use Rattle.lk_types.specs.declared.node.Sel.{Sel}
use Rattle.lk_types.specs.declared.node.Sel.TheVariants.{Target, Element, Field, Part}

module _ (types : List CType) where
  mutual
    pub back : {a b : ℕ} → IsAlike types a b → IsAlike types b a
    back (same is) = same (sym is)
    back (pointers at bt h) = pointers bt at (back h)
    back (arrays at bt h sizes) = arrays bt at (back h) sizes
    back (functions at bt h hs) = functions bt at (back h) (backs hs)

    backs : {ps qs : List ℕ} → AreEqualBut AnySizes types ps qs → AreEqualBut AnySizes types qs ps
    backs none = none
    backs (more h hs) = more (back h) (backs hs)

  abbrev Form : ℕ → CType → Type 0
  Form t form = slice_get types t ≡ Some form

  pointer_is : (t a b : ℕ) → Form t (Pointer a) → Form t (Pointer b) → a ≡ b
  pointer_is t a b h k = cc

  array_is : (t a b n m : ℕ) → Form t (Array a n) → Form t (Array b m) → a ≡ b
  array_is t a b n m h k = cc

  pub pointer_parts : (a b s t : ℕ) → Form a (Pointer s) → Form b (Pointer t) → IsAlike types a b → IsAlike types s t
  pointer_parts a b s t at bt (same is) = same (pointer_is a s t at (subst (λ x. Form x (Pointer t)) (sym is) bt))
  pointer_parts a b s t at bt (pointers {s = s'} {t = t'} at' bt' h) = subst (λ x. IsAlike types x t) (pointer_is a s' s at' at) (subst (λ x. IsAlike types s' x) (pointer_is b t' t bt' bt) h)
  pointer_parts a b s t at bt (arrays at' bt' h sizes) = absurd cc
  pointer_parts a b s t at bt (functions at' bt' h hs) = absurd cc

  pub array_parts : (a b s t n m : ℕ) → Form a (Array s n) → Form b (Array t m) → IsAlike types a b → IsAlike types s t
  array_parts a b s t n m at bt (same is) = same (array_is a s t n m at (subst (λ x. Form x (Array t m)) (sym is) bt))
  array_parts a b s t n m at bt (arrays {s = s'} {t = t'} {n = n'} {m = m'} at' bt' h sizes) =
      subst (λ x. IsAlike types x t) (array_is a s' s n' n at' at) (subst (λ x. IsAlike types s' x) (array_is b t' t m' m bt' bt) h)
  array_parts a b s t n m at bt (pointers at' bt' h) = absurd cc
  array_parts a b s t n m at bt (functions at' bt' h hs) = absurd cc

  pub structs_are : (a b s : ℕ) → Form a (Struct s) → IsAlike types a b → a ≡ b
  structs_are a b s at (same is) = is
  structs_are a b s at (pointers at' bt' h) = absurd cc
  structs_are a b s at (arrays at' bt' h sizes) = absurd cc
  structs_are a b s at (functions at' bt' h hs) = absurd cc

  -- the lists of the types of a function's result and parameters
  own_fields : (ps : List ℕ) → AreEqualBut AnySizes types ps ps
  own_fields [] = none
  own_fields (p ∷ ps) = more (same refl) (own_fields ps)

  function_is : (t r q : ℕ) (ps qs : List ℕ) (d e : Bool) → Form t (Function r ps d) → Form t (Function q qs e) → (r ∷ ps) ≡ (q ∷ qs)
  function_is t r q ps qs d e h k = cc

  pub function_parts : (a b r q : ℕ) (ps qs : List ℕ) (d e : Bool) → Form a (Function r ps d) → Form b (Function q qs e) → IsAlike types a b → AreEqualBut AnySizes types (r ∷ ps) (q ∷ qs)
  function_parts a b r q ps qs d e at bt (same is) = subst (λ xs. AreEqualBut AnySizes types (r ∷ ps) xs) (function_is a r q ps qs d e at (subst (λ x. Form x (Function q qs e)) (sym is) bt)) (own_fields (r ∷ ps))
  function_parts a b r q ps qs d e at bt (functions {r = r'} {s = q'} {ps = ps'} {qs = qs'} {dots = d'} at' bt' h hs) =
      subst (λ xs. AreEqualBut AnySizes types xs (q ∷ qs)) (function_is a r' r ps' ps d' d at' at) (subst (λ xs. AreEqualBut AnySizes types (r' ∷ ps') xs) (function_is b q' q qs' qs d' e bt' bt) (more h hs))
  function_parts a b r q ps qs d e at bt (pointers at' bt' h) = absurd cc
  function_parts a b r q ps qs d e at bt (arrays at' bt' h sizes) = absurd cc

  pub field_parts : {ps qs : List ℕ} → AreEqualBut AnySizes types ps qs → (k p q : ℕ) → slice_get ps k ≡ Some p → slice_get qs k ≡ Some q → IsAlike types p q
  field_parts none k p q hp hq = absurd (none-some p hp)
  field_parts (more {a = a} {b = b} h hs) zero p q hp hq = subst (λ x. IsAlike types x q) (some_is a p hp) (subst (λ x. IsAlike types a x) (some_is b q hq) h)
    where
      some_is : (x y : ℕ) → Some x ≡ Some y → x ≡ y
      some_is x y e = cc
  field_parts (more h hs) (suc k) p q hp hq = field_parts hs k p q hp hq

  dots_are : (t r q : ℕ) (ps qs : List ℕ) (d e : Bool) → Form t (Function r ps d) → Form t (Function q qs e) → d ≡ e
  dots_are t r q ps qs d e h k = cc

  head_is : {a b : ℕ} {ps qs : List ℕ} → (a ∷ ps) ≡ (b ∷ qs) → a ≡ b
  head_is h = cc

  tail_is : {a b : ℕ} {ps qs : List ℕ} → (a ∷ ps) ≡ (b ∷ qs) → ps ≡ qs
  tail_is h = cc

  mutual
    -- where one is alike to two, these are alike
    pub joined : {a b c : ℕ} → IsAlike types a b → IsAlike types b c → IsAlike types a c
    joined {a} {b} {c} (same is) k = subst (λ x. IsAlike types x c) (sym is) k
    joined {a} {b} {c} (pointers {s = s} {t = t} at bt h) (same is) = pointers at (subst (λ x. Form x (Pointer t)) is bt) h
    joined {a} {b} {c} (pointers {s = s} {t = t} at bt h) (pointers {s = s'} {t = t'} bt' ct k) = pointers at ct (joined h (subst (λ x. IsAlike types x t') (pointer_is b s' t bt' bt) k))
    joined (pointers at bt h) (arrays bt' ct k sizes) = absurd cc
    joined (pointers at bt h) (functions bt' ct k ks) = absurd cc
    joined {a} {b} {c} (arrays {s = s} {t = t} {n = n} {m = m} at bt h sizes) (same is) = arrays at (subst (λ x. Form x (Array t m)) is bt) h sizes
    joined {a} {b} {c} (arrays {t = t} {m = m} at bt h sizes) (arrays {s = s'} {t = t'} {n = n'} bt' ct k sizes') = arrays at ct (joined h (subst (λ x. IsAlike types x t') (array_is b s' t n' m bt' bt) k)) sizes
    joined (arrays at bt h sizes) (pointers bt' ct k) = absurd cc
    joined (arrays at bt h sizes) (functions bt' ct k ks) = absurd cc
    joined {a} {b} {c} (functions {s = r} {qs = qs} {dots = dots} at bt h hs) (same is) = functions at (subst (λ x. Form x (Function r qs dots)) is bt) h hs
    joined {a} {b} {c} (functions {s = q} {qs = qs} {dots = d} at bt h hs) (functions {r = q'} {s = r} {ps = qs'} {qs = rs} {dots = e} bt' ct k ks) =
        let is = function_is b q' q qs' qs e d bt' bt in
        let dots : e ≡ d = dots_are b q' q qs' qs e d bt' bt in
        functions at (subst (λ x. Form c (Function r rs x)) dots ct) (joined h (subst (λ x. IsAlike types x r) (head_is is) k)) (all_joined hs (subst (λ xs. AreEqualBut AnySizes types xs rs) (tail_is is) ks))
    joined (functions at bt h hs) (pointers bt' ct k) = absurd cc
    joined (functions at bt h hs) (arrays bt' ct k sizes) = absurd cc

    all_joined : {ps qs rs : List ℕ} → AreEqualBut AnySizes types ps qs → AreEqualBut AnySizes types qs rs → AreEqualBut AnySizes types ps rs
    all_joined none k = k
    all_joined (more h hs) (more k ks) = more (joined h k) (all_joined hs ks)

-- what is looked up with Void in the stead of nothing is there where it is none
looked_up : (o : Option CType) (form : CType) → unwrap_or o Void ≡ form → (form ≡ Void → ⊥) → o ≡ Some form
looked_up None form h other = absurd (other (sym h))
looked_up (Some f) form h other = ap Some h

some_node : (x y : Node) → Some x ≡ Some y → x ≡ y
some_node x y h = cc

module _ (table : Table) (is : IsTable table) where
  abbrev IsOf : ℕ → CType → Type 0
  IsOf t form = slice_get table.types t ≡ Some form

  abbrev Alike : ℕ → ℕ → Type 0
  Alike a b = IsAlike table.types a b

  pub known_form : (t : ℕ) (form : CType) → IsOf t form → IsKnown table t
  known_form t form at = slice_get_within table.types t form at

  -- the type itself for the least of those that are alike to it
  pub least_alike : (t : ℕ) → IsKnown table t → Alike (least_of table t) t
  least_alike t known = (is.least t known).alike

  pub target_known : (w t : ℕ) → IsOf w (Pointer t) → IsKnown table t
  target_known w t at =
      let known = known_form w (Pointer t) at in
      let less : t < w = subst (IsMadeOf table w) (ap (λ o. unwrap_or o Void) at) (is.types w known).made_of in
      omega (arith, known)

  -- what a step leads to
  pub record PointsOn (x k : Node) : Type 0 where
    pub to : ℕ
    pub pointer : IsOf x.type (Pointer to)
    pub alike : Alike k.type to

  target_type : (x k : Node) (t : ℕ) (b : Bool) → Some (along x (if b then record { sel = Target; type = least_of table t; tag = true } else record { sel = Target; type = t; tag = false })) ≡ Some k → IsKnown table t → Alike k.type t
  target_type x k t true h known = subst (λ (n : Node). Alike n.type t) (some_node _ k h) (least_alike t known)
  target_type x k t false h known = subst (λ (n : Node). Alike n.type t) (some_node _ k h) (same refl)

  target_form : (x k : Node) (form : CType) → type_at table x.type ≡ form → option_map (along x) (target_of table form) ≡ Some k → PointsOn x k
  target_form x k Void at h = absurd (none-some k h)
  target_form x k (Int kind) at h = absurd (none-some k h)
  target_form x k ThreadId at h = absurd (none-some k h)
  target_form x k Mutex at h = absurd (none-some k h)
  target_form x k Cond at h = absurd (none-some k h)
  target_form x k (Pointer t) at h =
      let pointer = looked_up (slice_get table.types x.type) (Pointer t) at (λ e. absurd cc) in
      record { to = t; pointer = pointer; alike = target_type x k t (has_tag table t) h (target_known x.type t pointer) }
  target_form x k (Array t n) at h = absurd (none-some k h)
  target_form x k (Struct s) at h = absurd (none-some k h)
  target_form x k (Function r ps dots) at h = absurd (none-some k h)
  target_form x k (Opaque n) at h = absurd (none-some k h)

  pub target_step : (x k : Node) → step table x Target ≡ Some k → PointsOn x k
  target_step x k h = target_form x k (type_at table x.type) refl h

  pub record IsElementOf (x k : Node) : Type 0 where
    pub size : ℕ
    pub array : IsOf x.type (Array k.type size)

  element_form : (x k : Node) (form : CType) → type_at table x.type ≡ form → option_map (along x) (element_of form) ≡ Some k → IsElementOf x k
  element_form x k Void at h = absurd (none-some k h)
  element_form x k (Int kind) at h = absurd (none-some k h)
  element_form x k ThreadId at h = absurd (none-some k h)
  element_form x k Mutex at h = absurd (none-some k h)
  element_form x k Cond at h = absurd (none-some k h)
  element_form x k (Pointer t) at h = absurd (none-some k h)
  element_form x k (Array t n) at h =
      let array = looked_up (slice_get table.types x.type) (Array t n) at (λ e. absurd cc) in
      record { size = n; array = subst (λ (l : Node). IsOf x.type (Array l.type n)) (some_node _ k h) array }
  element_form x k (Struct s) at h = absurd (none-some k h)
  element_form x k (Function r ps dots) at h = absurd (none-some k h)
  element_form x k (Opaque n) at h = absurd (none-some k h)

  pub element_step : (x k : Node) → step table x Element ≡ Some k → IsElementOf x k
  element_step x k h = element_form x k (type_at table x.type) refl h

  field_type : (x k : Node) (j : ℕ) (o : Option ℕ) → option_map (along x) (option_map (field_branch j) o) ≡ Some k → o ≡ Some k.type
  field_type x k j None h = absurd (none-some k h)
  field_type x k j (Some t) h = ap (λ (n : Node). Some n.type) (some_node _ k h)

  pub field_step : (x k : Node) (j : ℕ) → step table x (Field j) ≡ Some k → slice_get (fields_of table (type_at table x.type)) j ≡ Some k.type
  field_step x k j h = field_type x k j (slice_get (fields_of table (type_at table x.type)) j) h

  part_type : (t : ℕ) (b : Bool) (k : Node) → (if b then Some (first (Tag t)) else None) ≡ Some k → k.type ≡ t
  part_type t true k h = sym (ap (λ (n : Node). n.type) (some_node _ k h))
  part_type t false k h = absurd (none-some k h)

  pub part_step : (x k : Node) (t : ℕ) → step table x (Part t) ≡ Some k → k.type ≡ least_of table t
  part_step x k t h = part_type (least_of table t) _ k h

  type_is : (t : ℕ) (form : CType) → IsOf t form → fields_of table (type_at table t) ≡ fields_of table form
  type_is t form at = ap (λ o. fields_of table (unwrap_or o Void)) at

  -- the fields of types that are alike are so one by one
  pub fields_alike : (a b : ℕ) → Alike a b → AreEqualBut AnySizes table.types (fields_of table (type_at table a)) (fields_of table (type_at table b))
  fields_alike a b (same e) = subst (λ c. AreEqualBut AnySizes table.types (fields_of table (type_at table a)) (fields_of table (type_at table c))) e (own_fields table.types (fields_of table (type_at table a)))
  fields_alike a b (pointers {s = s} {t = t} at bt h) = no_fields a b (Pointer s) (Pointer t) at bt refl refl
    where
      no_fields : (a b : ℕ) (f g : CType) → IsOf a f → IsOf b g → fields_of table f ≡ [] → fields_of table g ≡ [] → AreEqualBut AnySizes table.types (fields_of table (type_at table a)) (fields_of table (type_at table b))
      no_fields a b f g at bt e e' = subst (λ xs. AreEqualBut AnySizes table.types xs (fields_of table (type_at table b))) (sym (type_is a f at ∙ e)) (subst (λ xs. AreEqualBut AnySizes table.types [] xs) (sym (type_is b g bt ∙ e')) none)
  fields_alike a b (arrays {s = s} {t = t} {n = n} {m = m} at bt h sizes) =
      subst (λ xs. AreEqualBut AnySizes table.types xs (fields_of table (type_at table b))) (sym (type_is a (Array s n) at)) (subst (λ xs. AreEqualBut AnySizes table.types [] xs) (sym (type_is b (Array t m) bt)) none)
  fields_alike a b (functions {r = r} {s = q} {ps = ps} {qs = qs} {dots = dots} at bt h hs) =
      subst (λ xs. AreEqualBut AnySizes table.types xs (fields_of table (type_at table b))) (sym (type_is a (Function r ps dots) at))
      (subst (λ xs. AreEqualBut AnySizes table.types (r ∷ ps) xs) (sym (type_is b (Function q qs dots) bt)) (more h hs))

  -- one step leads from nodes of types that are alike to such nodes
  pub parts_alike : (x y k l : Node) (s : Sel) → Alike x.type y.type → step table x s ≡ Some k → step table y s ≡ Some l → Alike k.type l.type
  parts_alike x y k l Target alike h h' =
      let one = target_step x k h in
      let two = target_step y l h' in
      joined table.types one.alike (joined table.types (pointer_parts table.types x.type y.type one.to two.to one.pointer two.pointer alike) (back table.types two.alike))
  parts_alike x y k l Element alike h h' =
      let one = element_step x k h in
      let two = element_step y l h' in
      array_parts table.types x.type y.type k.type l.type one.size two.size one.array two.array alike
  parts_alike x y k l (Field j) alike h h' = field_parts table.types (fields_alike x.type y.type alike) j k.type l.type (field_step x k j h) (field_step y l j h')
  parts_alike x y k l (Part t) alike h h' = same (part_step x k t h ∙ sym (part_step y l t h'))
