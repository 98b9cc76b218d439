-- No path stands twice in a walk.
use Rattle.std.proofs.Common.{◌≡◌, ◌∙◌, ◌≤◌, ◌<◌, ◌+◌, ℕ, zero, suc, List, [], ◌∷◌, length, refl, sym, ap, subst, arith, Some}
use Rattle.std.specs.List.{flat_map, slice_get}
use Rattle.std.proofs.lemmas.Bool.{false≢true}
use Rattle.std.proofs.lemmas.Option.{none-some, same_Some}
use Rattle.std.proofs.lemmas.Option.{slice_get-get_or, unwrap_or-slice_get}
use Rattle.lk_types.specs.Laws.{NoPathStandsTwice, EqualNodesHaveEqualIds}
use Rattle.lk_types.specs.Nodes.{entry_of, base_type}
use Rattle.lk_types.specs.Table.{Table, type_at, fields_of}
use Rattle.lk_types.specs.Walks.{Branch, Entry, at_branch, start, nodes, walk, most_steps, field, fields, target, element, branches}
use Rattle.lk_types.specs.declared.c_type.CType.{CType}
use Rattle.lk_types.specs.declared.c_type.CType.TheVariants.{Void, Int, ThreadId, Mutex, Cond, Pointer, Array, Struct, Function, Opaque}
use Rattle.lk_types.specs.declared.node.Base.{Base}
use Rattle.lk_types.specs.declared.node.NodeId.{NodeId}
use Rattle.lk_types.specs.declared.node.Sel.{Sel}
use Rattle.lk_types.specs.declared.node.Sel.TheVariants.{Target, Element, Field, Part}
use Rattle.lk_types.proofs.PlaceLemmas.{Stands, here, later, located, IsOfPart, of_tag, of_walk, of_part_entry}

-- parts with one step between them are one part
abbrev AreApart : (f : ℕ → List Entry) → List Branch → Type 0
AreApart f bs = (b c : Branch) (o p : ℕ) → Stands f bs b o → Stands f bs c p → b.sel ≡ c.sel → (b ≡ c) × (o ≡ p)

one_apart : (f : ℕ → List Entry) (d : Branch) → AreApart f (d ∷ [])
one_apart f d b c o p (here) (here) same = (refl, refl)
one_apart f d b c o p (here) (later at) same = elim at [ ]
one_apart f d b c o p (later at) (here) same = elim at [ ]
one_apart f d b c o p (later at) (later at') same = elim at [ ]

none_apart : (f : ℕ → List Entry) → AreApart f []
none_apart f b c o p at at' same = elim at [ ]

-- the number of a field
number_of : Sel → ℕ
number_of Target = 0
number_of Element = 0
number_of (Field k) = k
number_of (Part t) = 0

field_from : (f : ℕ → List Entry) (ts : List ℕ) (i : ℕ) {b : Branch} {o : ℕ} → Stands f (fields i ts) b o → i ≤ number_of b.sel
unfolding number_of
field_from f [] i at = elim at [ ]
field_from f (t ∷ ts) i (here) = omega arith
field_from f (t ∷ ts) i (later at) = omega (arith, field_from f ts (suc i) at)

first_apart : (f : ℕ → List Entry) (ts : List ℕ) (i : ℕ) {c : Branch} {p : ℕ} → Stands f (fields (suc i) ts) c p → Field i ≡ c.sel → ⊥
unfolding number_of
first_apart f ts i {c} at same = let n : i ≡ number_of c.sel = ap number_of same in omega (arith, field_from f ts (suc i) at)

fields_apart : (f : ℕ → List Entry) (ts : List ℕ) (i : ℕ) → AreApart f (fields i ts)
fields_apart f [] i b c o p at at' same = elim at [ ]
fields_apart f (t ∷ ts) i b c o p (here) (here) same = (refl, refl)
fields_apart f (t ∷ ts) i b c o p (here) (later at) same = absurd (first_apart f ts i at same)
fields_apart f (t ∷ ts) i b c o p (later at) (here) same = absurd (first_apart f ts i at (sym same))
fields_apart f (t ∷ ts) i b c o p (later at) (later at') same = let r = fields_apart f ts (suc i) _ _ _ _ at at' same in (r.0, ap (λ o. length (at_branch f (field i t)) + o) r.1)

branches_apart : (f : ℕ → List Entry) (table : Table) (form : CType) → AreApart f (branches table form)
branches_apart f table Void = none_apart f
branches_apart f table (Int kind) = none_apart f
branches_apart f table ThreadId = none_apart f
branches_apart f table Mutex = none_apart f
branches_apart f table Cond = none_apart f
branches_apart f table (Pointer t) = one_apart f (target table t)
branches_apart f table (Array t n) = one_apart f (element t)
branches_apart f table (Struct s) = fields_apart f (fields_of table (Struct s)) 0
branches_apart f table (Function result params dots) = fields_apart f (result ∷ params) 0
branches_apart f table (Opaque n) = none_apart f

abbrev IsUnique : List Entry → Type 0
IsUnique es = (i j : ℕ) (a b : Entry) → slice_get es i ≡ Some a → slice_get es j ≡ Some b → a.path ≡ b.path → i ≡ j

-- the first step of an entry below a Start is that of its part
first_step : (f : ℕ → List Entry) (b : Branch) (j : ℕ) (x : Entry) → IsOfPart f b j x → (rest : List Sel) × (x.path ≡ b.sel ∷ rest)
first_step f b j x (of_tag tagged none is) = ([], ap (λ e. e.path) is)
first_step f b j x (of_walk plain e at is) = (e.path, ap (λ e. e.path) is)

heads : {a b : Sel} {p q : List Sel} → ◌≡◌ {A = List Sel} (a ∷ p) (b ∷ q) → a ≡ b
heads e = cc

tails : {a b : Sel} {p q : List Sel} → ◌≡◌ {A = List Sel} (a ∷ p) (b ∷ q) → p ≡ q
tails e = cc

no_head : {a : Sel} {p : List Sel} → ◌≡◌ {A = List Sel} [] (a ∷ p) → ⊥
no_head e = cc

module _ (f : ℕ → List Entry) (unique : (t : ℕ) → IsUnique (f t)) where
  -- two entries of one part with one path
  same_part : (b : Branch) (i j : ℕ) (x y : Entry) → IsOfPart f b i x → IsOfPart f b j y → x.path ≡ y.path → i ≡ j
  same_part b i j x y (of_tag tagged none is) (of_tag tagged' none' is') same = none ∙ sym none'
  same_part b i j x y (of_tag tagged none is) (of_walk plain e at is') same = absurd (false≢true (sym plain ∙ tagged))
  same_part b i j x y (of_walk plain e at is) (of_tag tagged none is') same = absurd (false≢true (sym plain ∙ tagged))
  same_part b i j x y (of_walk plain e at is) (of_walk plain' e' at' is') same =
      unique b.type i j e e' at at' (tails (sym (ap (λ z. z.path) is) ∙ same ∙ ap (λ z. z.path) is'))

  below_unique : (t : ℕ) (bs : List Branch) → AreApart f bs → IsUnique (start t ∷ flat_map (at_branch f) bs)
  below_unique t bs apart zero zero a b at at' same = refl
  below_unique t bs apart zero (suc j) a b at at' same =
      let found = located f bs j b at' in
      let step = first_step f found.part found.rest b (of_part_entry f found.part found.rest b found.entry) in
      absurd (no_head (ap (λ e. e.path) (same_Some (start t) a at) ∙ same ∙ step.1))
  below_unique t bs apart (suc i) zero a b at at' same =
      let found = located f bs i a at in
      let step = first_step f found.part found.rest a (of_part_entry f found.part found.rest a found.entry) in
      absurd (no_head (ap (λ e. e.path) (same_Some (start t) b at') ∙ sym same ∙ step.1))
  below_unique t bs apart (suc i) (suc j) a b at at' same =
      let one = located f bs i a at in
      let two = located f bs j b at' in
      let first = of_part_entry f one.part one.rest a one.entry in
      let second = of_part_entry f two.part two.rest b two.entry in
      let steps = heads (sym (first_step f one.part one.rest a first).1 ∙ same ∙ (first_step f two.part two.rest b second).1) in
      let together = apart one.part two.part one.place two.place one.at two.at steps in
      let rests = same_part one.part one.rest two.rest a b first (subst (λ p. IsOfPart f p two.rest b) (sym together.0) second) same in
      omega (arith, one.number, two.number, together.1)

start_unique : (t : ℕ) → IsUnique (start t ∷ [])
start_unique t zero zero a b at at' same = refl
start_unique t zero (suc j) a b at at' same = absurd (none-some b at')
start_unique t (suc i) j a b at at' same = absurd (none-some a at)

walk_unique : (d : ℕ) (table : Table) (t : ℕ) → IsUnique (walk d table t)
unfolding walk
walk_unique zero table t = start_unique t
walk_unique (suc d) table t = below_unique (walk d table) (walk_unique d table) t (branches table (type_at table t)) (branches_apart (walk d table) table (type_at table t))

pub no_path_stands_twice : NoPathStandsTwice
no_path_stands_twice table t = walk_unique most_steps table t

-- an id names an entry of the walk
pub entry_got : (table : Table) (n : NodeId) → n.number < length (nodes table (base_type n.base)) → slice_get (nodes table (base_type n.base)) n.number ≡ Some (entry_of table n)
entry_got table n within =
    let es = nodes table (base_type n.base) in
    let d = start (base_type n.base) in
    slice_get-get_or es n.number d within ∙ ap Some (sym (unwrap_or-slice_get es n.number d))

same_id : {b c : Base} {i j : ℕ} → b ≡ c → i ≡ j → ◌≡◌ {A = NodeId} (record { base = b; number = i }) (record { base = c; number = j })
same_id p q = cc

pub equal_nodes_have_equal_ids : EqualNodesHaveEqualIds
equal_nodes_have_equal_ids table n m one two same =
    let bases = ap (λ x. x.base) same in
    let paths = ap (λ x. x.path) same in
    let at = entry_got table n one.number in
    let at' = subst (λ base. slice_get (nodes table (base_type base)) m.number ≡ Some (entry_of table m)) (sym bases) (entry_got table m two.number) in
    let numbers = no_path_stands_twice table (base_type n.base) n.number m.number (entry_of table n) (entry_of table m) at at' paths in
    same_id bases numbers
