-- Parts of void change no walk of a type, and so no node of a cell.
use mathlib.Core.Path.{fun_ext}
use Rattle.std.proofs.Common.{ap, ◌∙◌, ◌≡◌, ℕ, zero, suc, Bool, true, false, List, [], ◌∷◌, length, refl}
use Rattle.std.specs.List.{flat_map}
use Rattle.std.specs.Prelude.{nat_lt, ◌||◌, if◌then◌else◌}
use Rattle.lk_base.specs.declared.cell.CellStep.{CellStep}
use Rattle.lk_base.specs.declared.cell.CellStep.TheVariants.{Field, Index}
use Rattle.lk_lower_expr.specs.Cells.{cell_node, field_of, further, inside, inside_all, member_at, nodes_here}
use Rattle.lk_types.specs.Table.{Table, least_of, members_of, type_at}
use Rattle.lk_types.specs.Walks.{Branch, at_branch, branches, has_tag, holds, holds_within, is_void, most_steps, start, target, walk}
use Rattle.lk_types.specs.declared.c_type.CType.{CType}
use Rattle.lk_types.specs.declared.c_type.CType.TheVariants.{Void, Int, ThreadId, Mutex, Cond, Pointer, Array, Struct, Function, Opaque}
use Rattle.lk_types.specs.declared.member.StructMember.{StructMember}
use Rattle.lk_types.specs.declared.node.Base.TheVariants.{Start}
use Rattle.lk_types.specs.declared.node.Sel.TheVariants.{Target}

module _ (table : Table) (parts : List ℕ) where
  abbrev parted : Table
  parted = record table { parts = parts }

  same_holds : (depth t : ℕ) → holds_within depth parted t ≡ holds_within depth table t
  unfolding holds_within
  same_holds zero t = refl
  same_holds (suc depth) t = ap (λ below. holds below (type_at table t)) (fun_ext (same_holds depth))

  same_tag : (t : ℕ) → has_tag parted t ≡ has_tag table t
  same_tag t = ap (λ b. is_void (type_at table t) || b) (same_holds (suc t) t)

  abbrev target_if : (t : ℕ) → Bool → Branch
  target_if t b = if b then record { sel = Target; type = least_of table t; tag = true } else record { sel = Target; type = t; tag = false }

  same_target : (t : ℕ) → target parted t ≡ target table t
  same_target t = ap (target_if t) (same_tag t)

  same_branches : (form : CType) → branches parted form ≡ branches table form
  same_branches Void = refl
  same_branches (Int kind) = refl
  same_branches ThreadId = refl
  same_branches Mutex = refl
  same_branches Cond = refl
  same_branches (Pointer t) = ap (λ b. b ∷ []) (same_target t)
  same_branches (Array t n) = refl
  same_branches (Struct s) = refl
  same_branches (Function result params dots) = refl
  same_branches (Opaque n) = refl

  same_walk : (steps t : ℕ) → walk steps parted t ≡ walk steps table t
  unfolding walk
  same_walk zero t = refl
  same_walk (suc steps) t =
      ap (λ below. start t ∷ flat_map (at_branch below) (branches parted (type_at table t))) (fun_ext (same_walk steps)) ∙ ap (λ bs. start t ∷ flat_map (at_branch (walk steps table)) bs) (same_branches (type_at table t))

  same_nodes : (t : ℕ) → nodes_here parted t ≡ nodes_here table t
  same_nodes t = ap (λ entries. if nat_lt t (length table.types) then length entries else 0) (same_walk most_steps t)

  same_member : (of : _) (number : ℕ) (members : List StructMember) (k : ℕ) → member_at parted of number members k ≡ member_at table of number members k
  same_member of number [] k = refl
  same_member of number (member ∷ members) zero = refl
  same_member of number (member ∷ members) (suc k) =
      ap (λ n. member_at parted of (further number n) members k) (same_nodes member.ty) ∙ same_member of (further number (nodes_here table member.ty)) members k

  same_field : (k : ℕ) (of : _) (form : CType) → field_of parted k of form ≡ field_of table k of form
  same_field k of Void = refl
  same_field k of (Int kind) = refl
  same_field k of ThreadId = refl
  same_field k of Mutex = refl
  same_field k of Cond = refl
  same_field k of (Pointer t) = refl
  same_field k of (Array t n) = refl
  same_field k of (Struct s) = same_member of (further of.number 1) (members_of table s) k
  same_field k of (Function result params dots) = refl
  same_field k of (Opaque n) = refl

  same_step : (of : _) (step : CellStep) → inside parted of step ≡ inside table of step
  same_step of (Field k) = same_field k of (type_at table of.ty)
  same_step of (Index i) = refl

  same_path : (of : _) (path : List CellStep) → inside_all parted of path ≡ inside_all table of path
  same_path of [] = refl
  same_path of (step ∷ path) = ap (λ part. inside_all parted part path) (same_step of step) ∙ same_path (inside table of step) path

  pub same_node : (ty : ℕ) (path : List CellStep) → cell_node parted ty path ≡ cell_node table ty path
  same_node ty path = λ i. record { base = Start ty; number = (same_path (record { ty = ty; number = 0 }) path i).number }
