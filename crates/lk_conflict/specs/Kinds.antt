-- What tells of items of points that they are in conflict. Only the private calls of this crate speak of it.
use Rattle.std.specs.Prelude.{◌≡◌, ◌<◌, ◌==◌, ◌&&◌, ◌||◌, ℕ, Bool, true, List, Contains, length}
use Rattle.std.proofs.Math.Bool.{beq}
use Rattle.std.specs.List.{list_any}
use Rattle.lk_facts.specs.Program.{writes_at}
use Rattle.lk_facts.specs.declared.program.Program.{Program}
use Rattle.lk_conflict.specs.declared.pairs.Kind.{Kind}
use Rattle.lk_rise.specs.declared.point_items.ItemAt.{ItemAt}

abbrev pub kind_of : Program → ItemAt → Kind
kind_of program i = record { point = i.point; child = i.child; writes = writes_at program i.access }

abbrev pub is_kind : Kind → Kind → Bool
is_kind a b = a.point == b.point && (beq a.child b.child && beq a.writes b.writes)

pub record IsKindInRange (program : Program) (kind : Kind) : Type 0 where
  pub point : kind.point < length program.points

-- one of the items is of the kind
abbrev pub HasKind : Program → List ItemAt → Kind → Type 0
HasKind program items k = (i : ItemAt) × Contains items i × (kind_of program i ≡ k)

-- an item of the one kind is of a thread that is started at its point or below, the point of the other is
-- later, and one of the accesses writes
abbrev pub may_meet : (ℕ → ℕ → Bool) → Kind → Kind → Bool
may_meet after a b = a.child && (after a.point b.point && (a.writes || b.writes))

-- so for the one or the other way round
abbrev pub are_in_conflict : (ℕ → ℕ → Bool) → Kind → Kind → Bool
are_in_conflict after a b = may_meet after a b || may_meet after b a

-- whether an item of the kind is in conflict with one of the others
abbrev pub is_in_conflict : (ℕ → ℕ → Bool) → List Kind → Kind → Bool
is_in_conflict after others k = list_any (are_in_conflict after k) others

-- one of the items is of the kind, and in conflict with another of them
pub record IsRacingKind (program : Program) (after : ℕ → ℕ → Bool) (items : List ItemAt)
    (k : Kind) : Type 0 where
  pub is : HasKind program items k
  pub other : Kind
  pub has : HasKind program items other
  pub conflict : are_in_conflict after k other ≡ true
