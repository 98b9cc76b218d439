-- The walk of a node's type stands in the walk in which the node has its number.
use Rattle.std.proofs.Common.{◌≡◌, ◌∙◌, ◌≤◌, ◌+◌, ℕ, zero, suc, false, List, ◌∷◌, ◌++◌, refl, sym, ap, subst, arith, Some}
use Rattle.std.specs.List.{slice_get}
use Rattle.std.proofs.lemmas.Bool.{false≢true}
use Rattle.std.proofs.lemmas.Option.{same_Some}
use Rattle.lk_types.specs.Building.{IsTable, IsClosed}
use Rattle.lk_types.specs.Sizes.{deepest, steps_of}
use Rattle.lk_types.specs.Table.{Table, type_at, IsKnown}
use Rattle.lk_types.specs.Walks.{Branch, Entry, under, start, nodes, walk, most_steps, branches, below_start}
use Rattle.lk_types.specs.declared.node.Sel.{Sel}
use Rattle.lk_types.proofs.Entries.{OfParts, part_lower}
use Rattle.lk_types.proofs.Fuel.{walk_is, walk-begins}
use Rattle.lk_types.proofs.PartLemmas.{parts_of_table}
use Rattle.lk_types.proofs.PlaceLemmas.{Stands, Located, located, IsOfPart, of_tag, of_walk, of_part_entry, get_part, got_inside, of_part}

-- an entry below the steps of a path
abbrev pub below : List Sel → Entry → Entry
below path e = record e { path = path ++ e.path }

pub first_of : (d : ℕ) (table : Table) (t : ℕ) → slice_get (walk d table t) 0 ≡ Some (start t)
unfolding walk
first_of zero table t = refl
first_of (suc d) table t = refl

module _ (table : Table) (good : IsTable table) where
  -- the walk of a type is its Start and the walks of its parts
  pub split : (t : ℕ) → IsKnown table t → nodes table t ≡ start t ∷ below_start (nodes table) table (type_at table t)
  split t known = walk_is table t (good.types t known).small

  -- each part that is no Tag has fewer steps
  pub lower_parts : (t : ℕ) → IsKnown table t → OfParts (λ u. suc (steps_of table u) ≤ steps_of table t) (branches table (type_at table t))
  lower_parts t known =
      let bs = branches table (type_at table t) in
      part_lower (nodes table) (walk-begins most_steps table) bs (steps_of table t) (omega (arith, ap deepest (split t known)))

  -- an entry of a walk that is the entry of the walk of a part, below the part's step
  pub record InPart (t k : ℕ) (x : Entry) : Type 0 where
    pub part : Branch
    pub place : ℕ
    pub rest : ℕ
    pub entry : Entry
    pub plain : part.tag ≡ false
    pub at : Stands (nodes table) (branches table (type_at table t)) part place
    pub number : k ≡ place + rest
    pub there : slice_get (nodes table part.type) rest ≡ Some entry
    pub is : x ≡ under part.sel entry
    pub known : IsKnown table part.type
    pub lower : suc (steps_of table part.type) ≤ steps_of table t

  -- what stands in the walk of a part stands in the walk of the type
  pub out_of_part : (t : ℕ) → IsKnown table t → (b : Branch) (o : ℕ) → Stands (nodes table) (branches table (type_at table t)) b o → b.tag ≡ false →
      (j : ℕ) (e : Entry) → slice_get (nodes table b.type) j ≡ Some e → slice_get (nodes table t) (suc (o + j)) ≡ Some (under b.sel e)
  out_of_part t known b o at plain j e there =
      ap (λ es. slice_get es (suc (o + j))) (split t known) ∙ get_part (nodes table) at j (under b.sel e) (got_inside (nodes table) b plain j e there)

  pub in_part : (t : ℕ) → IsKnown table t → (k : ℕ) (x : Entry) → slice_get (nodes table t) (suc k) ≡ Some x → x.tag ≡ false → InPart t k x
  in_part t known k x at plain = of (of_part_entry (nodes table) found.part found.rest x found.entry)
    where
      found : Located (nodes table) (branches table (type_at table t)) k x
      found = located (nodes table) (branches table (type_at table t)) k x (sym (ap (λ es. slice_get es (suc k)) (split t known)) ∙ at)

      of : IsOfPart (nodes table) found.part found.rest x → InPart t k x
      of (of_tag tagged none is) = absurd (false≢true (sym plain ∙ ap (λ y. y.tag) is))
      of (of_walk untagged e there is) = record {
        part = found.part;
        place = found.place;
        rest = found.rest;
        entry = e;
        plain = untagged;
        at = found.at;
        number = found.number;
        there = there;
        is = is;
        known = (of_part (nodes table) (λ u. IsKnown table u × IsClosed table u) found.at (parts_of_table table good t known) untagged).0;
        lower = of_part (nodes table) (λ u. suc (steps_of table u) ≤ steps_of table t) found.at (lower_parts t known) untagged;
      }

  -- what stands in the walk of a node's type stands in the walk of the node, so many entries on
  pub subwalk : (n t : ℕ) → IsKnown table t → steps_of table t ≤ n → (k : ℕ) (x : Entry) → slice_get (nodes table t) k ≡ Some x → x.tag ≡ false →
      (j : ℕ) (e : Entry) → slice_get (nodes table x.type) j ≡ Some e → IsKnown table x.type × (slice_get (nodes table t) (k + j) ≡ Some (below x.path e))
  subwalk n t known few zero x at plain j e there =
      let is = same_Some (start t) x (sym (ap (λ es. slice_get es 0) (split t known)) ∙ at) in
      let number : 0 + j ≡ j = omega arith in (
        subst (IsKnown table) (ap (λ y. y.type) is) known,
        ap (slice_get (nodes table t)) number ∙ subst (λ u. slice_get (nodes table u) j ≡ Some e) (sym (ap (λ y. y.type) is)) there ∙ ap (λ y. Some (below y.path e)) is,
      )
  subwalk zero t known few (suc k) x at plain j e there = let part = in_part t known k x at plain in absurd (omega (arith, part.lower, few))
  subwalk (suc n) t known few (suc k) x at plain j e there =
      let part = in_part t known k x at plain in
      let type = ap (λ y. y.type) part.is in
      let inner = subwalk n part.part.type part.known (omega (arith, part.lower, few)) part.rest part.entry part.there (sym (ap (λ y. y.tag) part.is) ∙ plain)
      j e (subst (λ u. slice_get (nodes table u) j ≡ Some e) type there) in
      let number : suc k + j ≡ suc (part.place + (part.rest + j)) = omega (arith, part.number) in (
        subst (IsKnown table) (sym type) inner.0,
        ap (slice_get (nodes table t)) number ∙
            out_of_part t known part.part part.place part.at part.plain (part.rest + j) (below part.entry.path e) inner.1 ∙
            ap (λ y. Some (below y.path e)) (sym part.is),
      )

  -- the first entry
  pub first_entry : (t : ℕ) → slice_get (nodes table t) 0 ≡ Some (start t)
  first_entry t = first_of most_steps table t
