-- The parts of a type of a table are in the table.
use Rattle.std.proofs.Common.{◌≡◌, ◌<◌, ℕ, suc, Bool, true, false, List, [], ◌∷◌, refl, sym, arith, All}
use Rattle.std.specs.Prelude.{if◌then◌else◌}
use Rattle.std.proofs.lemmas.Bool.{false≢true}
use Rattle.std.proofs.lemmas.List.Elements.{All-nil, All-cons, All-head, All-tail, All-weaker}
use Rattle.lk_types.specs.Building.{IsTable, IsMadeOf, IsClosed}
use Rattle.lk_types.specs.Table.{Table, type_at, least_of, fields_of, IsKnown}
use Rattle.lk_types.specs.Walks.{Branch, target, element, field, fields, branches, has_tag}
use Rattle.lk_types.specs.declared.c_type.CType.{CType}
use Rattle.lk_types.specs.declared.c_type.CType.TheVariants.{Void, Int, ThreadId, Mutex, Cond, Pointer, Array, Struct, Function, Opaque}
use Rattle.lk_types.specs.declared.node.Sel.TheVariants.{Target}
use Rattle.lk_types.proofs.Entries.{OfParts}

abbrev pub target_by : Bool → ℕ → ℕ → Branch
target_by tag least t = if tag then record { sel = Target; type = least; tag = true } else record { sel = Target; type = t; tag = false }

pub target_type : (table : Table) (t : ℕ) → (target table t).tag ≡ false → (target table t).type ≡ t
target_type table t plain = of (has_tag table t) (least_of table t) plain
  where
    of : (tag : Bool) (least : ℕ) → (target_by tag least t).tag ≡ false → (target_by tag least t).type ≡ t
    of true least is = absurd (false≢true (sym is))
    of false least is = refl

pub of_fields : (P : ℕ → Type 0) (ts : List ℕ) (i : ℕ) → All P ts → OfParts P (fields i ts)
of_fields P [] i all = All-nil (λ b. b.tag ≡ false → P b.type)
of_fields P (t ∷ ts) i all = All-cons (λ b. b.tag ≡ false → P b.type) (field i t) (fields (suc i) ts) (λ plain. All-head P t ts all) (of_fields P ts (suc i) (All-tail P t ts all))

pub no_parts : (P : ℕ → Type 0) → OfParts P []
no_parts P = All-nil (λ b. b.tag ≡ false → P b.type)

pub one_part : (P : ℕ → Type 0) (b : Branch) → (b.tag ≡ false → P b.type) → OfParts P (b ∷ [])
one_part P b is = All-cons (λ b. b.tag ≡ false → P b.type) b [] is (no_parts P)

pub of_both : {P Q R : ℕ → Type 0} → ((t : ℕ) → P t → Q t → R t) → (bs : List Branch) → OfParts P bs → OfParts Q bs → OfParts R bs
of_both {P} {Q} {R} both bs p q = λ k d within is. both _ (p k d within is) (q k d within is)

pub known_parts : (table : Table) (t : ℕ) → IsKnown table t → (form : CType) → IsMadeOf table t form → OfParts (IsKnown table) (branches table form)
known_parts table t known Void made = no_parts (IsKnown table)
known_parts table t known (Int kind) made = no_parts (IsKnown table)
known_parts table t known ThreadId made = no_parts (IsKnown table)
known_parts table t known Mutex made = no_parts (IsKnown table)
known_parts table t known Cond made = no_parts (IsKnown table)
known_parts table t known (Pointer u) made = one_part (IsKnown table) (target table u) (λ plain. let same = target_type table u plain in omega (arith, same, made, known))
known_parts table t known (Array u n) made = one_part (IsKnown table) (element u) (λ plain. omega (arith, made, known))
known_parts table t known (Struct s) made = of_fields (IsKnown table) (fields_of table (Struct s)) 0 made.1
known_parts table t known (Function result params dots) made =
    of_fields (IsKnown table) (result ∷ params) 0 (All-weaker (λ u. u < t) (IsKnown table) (λ u less. let l : u < t = less in omega (arith, known)) (result ∷ params) made)
known_parts table t known (Opaque n) made = no_parts (IsKnown table)

-- the parts of a type of the table are known and no incomplete structs
pub parts_of_table : (table : Table) → IsTable table → (t : ℕ) → IsKnown table t → OfParts (λ u. IsKnown table u × IsClosed table u) (branches table (type_at table t))
parts_of_table table good t known =
    let type = good.types t known in
    of_both {P = IsKnown table} {Q = IsClosed table} {R = λ u. IsKnown table u × IsClosed table u} (λ u known closed. (known, closed)) (branches table (type_at table t)) (known_parts table t known (type_at table t) type.made_of) type.closed
