-- Steps to parts of objects, one after the other.
use Rattle.std.proofs.Common.{ℕ, ◌≡◌, ◌<◌, ◌≤◌, ◌+◌, ◌∙◌, List, [], ◌∷◌, Some, ap, arith, drop, get_or, length, refl, suc, sym}
use Rattle.std.specs.Prelude.{All, slice_get}
use Rattle.std.specs.Option.{option_map}
use Rattle.std.proofs.Math.Seq.{drop-cons}
use Rattle.std.proofs.lemmas.Option.{same_Some, slice_get-get_or, slice_get-map}
use Rattle.lk_base.specs.declared.cell.CellStep.{CellStep}
use Rattle.lk_base.specs.declared.cell.CellStep.TheVariants.{Field, Index}
use Rattle.lk_facts.proofs.Sets.{All-got}
use Rattle.lk_facts.specs.Typed.{HasPartAt}
use Rattle.lk_facts.specs.Typed.HasPartAt.{whole, field, index}
use Rattle.lk_types.specs.Building.{types_of}
use Rattle.lk_types.specs.Table.{Table, IsKnown, members_of}
use Rattle.lk_types.specs.declared.member.StructMember.{StructMember}
use Rattle.lk_point_statics.specs.Leading.{LeadsTo}

-- the type of a member is one of the table
pub member_known : (table : Table) (s k : ℕ) (members : List StructMember) (member : StructMember) → All (IsKnown table) (types_of (members_of table s)) →
    members ≡ members_of table s → k < length members → member ≡ get_or members k member → IsKnown table member.ty
member_known table s k members member known is within got =
    let at : slice_get members k ≡ Some member = slice_get-get_or members k member within ∙ ap Some (sym got) in
    All-got (IsKnown table) (types_of (members_of table s)) k member.ty known
    (slice_get-map (λ m. m.ty) (members_of table s) k ∙ ap (option_map (λ m. m.ty)) (ap (λ ms. slice_get ms k) (sym is) ∙ at))

-- a part of the part to which a step leads
pub part_behind : (table : Table) (t : ℕ) (step : CellStep) (u : ℕ) (path : List CellStep) (v : ℕ) → LeadsTo table t step u → HasPartAt table u path v → HasPartAt table t (step ∷ path) v
part_behind table t (Field k) u path v leads part = HasPartAt.field t k u path v leads part
part_behind table t (Index i) u path v leads part = HasPartAt.index t i u leads.0 path v leads.1 leads.2 part

-- what is left of a list where something is left, and where nothing is
pub next_left : {A : Type 0} (xs : List A) (i : ℕ) (d : A) → i < length xs → drop i xs ≡ get_or xs i d ∷ drop (i + 1) xs
next_left xs i d below =
    let next : suc i ≡ i + 1 = omega arith in
    drop-cons xs i d below ∙ ap (λ n. get_or xs i d ∷ drop n xs) next

pub nothing_left : {A : Type 0} (xs : List A) (i : ℕ) → length xs ≤ i → drop i xs ≡ []
nothing_left [] ℕ.zero past = refl
nothing_left [] (suc i) past = refl
nothing_left (x ∷ xs) ℕ.zero past = absurd (omega arith)
nothing_left (x ∷ xs) (suc i) past = nothing_left xs i (omega arith)

-- ---- and back

-- a step leads to one part
pub one_part : (table : Table) (t : ℕ) (step : CellStep) (u v : ℕ) → LeadsTo table t step u → LeadsTo table t step v → u ≡ v
one_part table t (Field k) u v leads other =
    let number : leads.0 ≡ other.0 = cc in
    sym leads.2.2 ∙ same_type table leads.0 other.0 k leads.2.0 other.2.0 number leads.2.1 other.2.1 ∙ other.2.2
  where
    same_type : (table : Table) (s r k : ℕ) (member other : StructMember) → s ≡ r → slice_get (members_of table s) k ≡ Some member → slice_get (members_of table r) k ≡ Some other → member.ty ≡ other.ty
    same_type table s r k member other same at bt = ap (λ m. m.ty) (same_Some member other (sym at ∙ ap (λ n. slice_get (members_of table n) k) same ∙ bt))
one_part table t (Index i) u v leads other = cc

-- the part to which the first step leads
pub part_first : (table : Table) (t : ℕ) (step : CellStep) (path : List CellStep) (v : ℕ) → HasPartAt table t (step ∷ path) v → (u : ℕ) × LeadsTo table t step u × HasPartAt table u path v
part_first table t (Field k) path v part =
    elim part [
      | field t' k' m path' u of rest ↦ (m, of, rest)
    ]
part_first table t (Index i) path v part =
    elim part [
      | index t' i' e n path' u form less rest ↦ (e, (n, form, less), rest)
    ]

part_ends : (table : Table) (t v : ℕ) (path : List CellStep) → HasPartAt table t path v → path ≡ [] → t ≡ v
part_ends table t v path (whole _) is = refl
part_ends table t v path (field _ k m rest _ of part) is = absurd cc
part_ends table t v path (index _ i e n rest _ form less part) is = absurd cc

pub part_whole : (table : Table) (t v : ℕ) → HasPartAt table t [] v → t ≡ v
part_whole table t v part = part_ends table t v [] part refl
