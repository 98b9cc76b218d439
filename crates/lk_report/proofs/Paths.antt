-- The text of a path, step by step.
use Rattle.std.proofs.Common.{◌≡◌, ◌∙◌, ◌++◌, ℕ, List, [], ◌∷◌, None, Some, refl, sym, ap, codes, append-nil, length, arith}
use Rattle.std.proofs.lemmas.Option.{slice_get-map}
use Rattle.std.specs.List.{slice_get}
use Rattle.std.specs.Option.{option_map_or, option_map}
use Rattle.lk_report.specs.Names.{element_type, member_of, path_text}
use Rattle.lk_types.proofs.NodeLemmas.{field_known}
use Rattle.lk_types.specs.Building.{IsMadeOf}
use Rattle.lk_types.specs.Table.{Table, IsKnown, type_at, members_of}
use Rattle.lk_types.specs.declared.c_type.CType.TheVariants.{Struct}
use Rattle.lk_types.specs.declared.member.StructMember.{StructMember}
use Rattle.lk_types.specs.declared.node.Sel.{Sel}
use Rattle.lk_types.specs.declared.node.Sel.TheVariants.{Target, Element, Field, Part}

append-assoc : {X : Type 0} (xs ys zs : List X) → (xs ++ ys) ++ zs ≡ xs ++ (ys ++ zs)
append-assoc [] ys zs = refl
append-assoc (x ∷ xs) ys zs = ap (λ us. x ∷ us) (append-assoc xs ys zs)

module _ (table : Table) (t : ℕ) (out : List ℕ) where
  -- nothing follows
  pub nothing : (path : List Sel) → path_text table t path ≡ [] → out ≡ out ++ path_text table t path
  nothing path none = sym (append-nil out) ∙ ap (λ text. out ++ text) (sym none)

  pub no_path : (path : List Sel) → length path ≡ 0 → path_text table t path ≡ []
  unfolding path_text
  no_path [] is = refl
  no_path (s ∷ path) is = absurd (omega (arith, is))

  pub no_target : (path rest : List Sel) → path ≡ Target ∷ rest → path_text table t path ≡ []
  unfolding path_text
  no_target path rest is = ap (path_text table t) is

  pub no_part : (u : ℕ) (path rest : List Sel) → path ≡ Part u ∷ rest → path_text table t path ≡ []
  unfolding path_text
  no_part u path rest is = ap (path_text table t) is

  pub no_member : (k : ℕ) (path rest : List Sel) → path ≡ Field k ∷ rest → member_of table (type_at table t) k ≡ None → path_text table t path ≡ []
  unfolding path_text
  no_member k path rest is none = ap (path_text table t) is ∙ ap (λ o. option_map_or (λ member. codes "." ++ (member.name ++ path_text table member.ty rest)) o []) none

  pub member : (k : ℕ) (path rest : List Sel) (m : StructMember) → path ≡ Field k ∷ rest → member_of table (type_at table t) k ≡ Some m →
      ((out ++ codes ".") ++ m.name) ++ path_text table m.ty rest ≡ out ++ path_text table t path
  unfolding path_text
  member k path rest m is found =
      append-assoc (out ++ codes ".") m.name (path_text table m.ty rest) ∙ append-assoc out (codes ".") (m.name ++ path_text table m.ty rest)
      ∙ ap (λ text. out ++ text) (sym (ap (path_text table t) is ∙ ap (λ o. option_map_or (λ member. codes "." ++ (member.name ++ path_text table member.ty rest)) o []) found))

  pub no_element : (path rest : List Sel) → path ≡ Element ∷ rest → element_type (type_at table t) ≡ None → out ++ codes "[]" ≡ out ++ path_text table t path
  unfolding path_text
  no_element path rest is none =
      ap (λ text. out ++ text) (sym (ap (path_text table t) is ∙ ap (λ o. codes "[]" ++ option_map_or (λ e. path_text table e rest) o []) none))

  pub element : (path rest : List Sel) (e : ℕ) → path ≡ Element ∷ rest → element_type (type_at table t) ≡ Some e → (out ++ codes "[]") ++ path_text table e rest ≡ out ++ path_text table t path
  unfolding path_text
  element path rest e is found =
      append-assoc out (codes "[]") (path_text table e rest) ∙ ap (λ text. out ++ text) (sym (ap (path_text table t) is ∙ ap (λ o. codes "[]" ++ option_map_or (λ e. path_text table e rest) o []) found))

-- a member's type is in the table
pub member_known : (table : Table) (t s : ℕ) → IsKnown table t → IsMadeOf table t (Struct s) → (k : ℕ) (m : StructMember) → slice_get (members_of table s) k ≡ Some m → IsKnown table m.ty
member_known table t s known made k m at = field_known table t (Struct s) known made k m.ty (slice_get-map (λ member. member.ty) (members_of table s) k ∙ ap (option_map (λ member. member.ty)) at)

pub struct_member_known : (table : Table) (t s : ℕ) → IsKnown table t → IsMadeOf table t (Struct s) → type_at table t ≡ Struct s → (k : ℕ) (m : StructMember) → member_of table (type_at table t) k ≡ Some m → IsKnown table m.ty
struct_member_known table t s known made form k m at = member_known table t s known made k m (sym (ap (λ f. member_of table f k) form) ∙ at)
