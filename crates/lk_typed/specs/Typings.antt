-- What the code's typings and verdicts say, in the words of the rules.
use Rattle.std.specs.Prelude.{◌≡◌, true, ⊤, Option, Some, None, List, map, All}
use Rattle.lk_base.specs.declared.code.Code.{Code}
use Rattle.lk_base.specs.declared.code.Code.TheVariants.{Mismatch}
use Rattle.lk_types.specs.Table.{Table, IsKnown}
use Rattle.lk_typed.specs.Env as env
use Rattle.lk_typed.specs.Typing as spec
use Rattle.lk_typed.specs.Typing.{Typing, Address}
use Rattle.lk_typed.specs.Codes.{least_code}
use Rattle.lk_typed.specs.Meaning.{meaning, meaning_of, IsKnownType}
use Rattle.lk_typed.specs.declared.members.Field.{Field}
use Rattle.lk_typed.specs.declared.members.Members.{Members}
use Rattle.lk_typed.specs.declared.members.Members.TheVariants as members
use Rattle.lk_typed.specs.declared.typed.ExprType.{ExprType}
use Rattle.lk_typed.specs.declared.typed.ExprType.TheVariants.{Listed, PointerTo}
use Rattle.lk_typed.specs.declared.typed.Typed.{Typed}
use Rattle.lk_typed.specs.declared.verdict.Verdict.{Verdict}
use Rattle.lk_typed.specs.declared.verdict.Verdict.TheVariants as verdict

-- what a typing of the code stands for; it keeps no address, which may be any
abbrev pub typing : Table → Typed → Address → Typing
typing table t address =
    record { type = meaning_of table t.ty; is_place = t.is_place; constant = t.constant; is_null = t.is_null; address = address }

abbrev pub IsListed : ExprType → Type 0
IsListed (Listed t) = ⊤
IsListed (PointerTo t) = ⊥

-- what an operand keeps: its type is known, and that of a place is in the table
pub record IsOperand (table : Table) (t : Typed) : Type 0 where
  pub known : IsKnownType table t.ty
  pub listed : t.is_place ≡ true → IsListed t.ty

-- it stands for this typing, whatever the address of that is
pub record IsTyping (table : Table) (t : Typed) (x : Typing) : Type 0 where
  pub operand : IsOperand table t
  pub type : meaning_of table t.ty ≡ x.type
  pub place : t.is_place ≡ x.is_place
  pub constant : t.constant ≡ x.constant
  pub null : t.is_null ≡ x.is_null

-- the same of a result that may be missing
abbrev pub IsResult : Table → Option Typed → Option Typing → Type 0
IsResult table None None = ⊤
IsResult table None (Some x) = ⊥
IsResult table (Some t) None = ⊥
IsResult table (Some t) (Some x) = IsTyping table t x

-- the code is told that has the least number of those that hold
abbrev pub IsVerdict : Table → Verdict → spec.Verdict → Type 0
IsVerdict table (verdict.Typed t) (spec.Typed x) = IsTyping table t x
IsVerdict table (verdict.Typed t) (spec.Broken codes) = ⊥
IsVerdict table (verdict.Typed t) spec.Silent = ⊥
IsVerdict table (verdict.Broken code) (spec.Typed x) = ⊥
IsVerdict table (verdict.Broken code) (spec.Broken codes) = least_code codes ≡ Some code
IsVerdict table (verdict.Broken code) spec.Silent = ⊥
IsVerdict table verdict.Silent (spec.Typed x) = ⊥
IsVerdict table verdict.Silent (spec.Broken codes) = ⊥
IsVerdict table verdict.Silent spec.Silent = ⊤

-- ---- structs

abbrev pub field_in : Table → Field → env.Field
field_in table field = record { name = field.name; type = meaning table field.ty }

abbrev pub members_in : Table → Members → env.Members
members_in table members.NotYet = env.NotYet
members_in table members.Begun = env.Begun
members_in table (members.Known fields) = env.Known (map (field_in table) fields)
members_in table members.Faulty = env.Faulty

abbrev pub structs_in : Table → List Members → List env.Members
structs_in table structs = map (members_in table) structs

-- the types of the members that are known are in the table
abbrev pub HasKnownFields : Table → Members → Type 0
HasKnownFields table members.NotYet = ⊤
HasKnownFields table members.Begun = ⊤
HasKnownFields table (members.Known fields) = All (λ field. IsKnown table field.ty) fields
HasKnownFields table members.Faulty = ⊤

-- ---- how a verdict is told

-- of the codes so far and the row of a table, which has no result for operands that it doesn't take
abbrev pub told_by_row : Option Code → Option Typed → Verdict
told_by_row None None = verdict.Broken Mismatch
told_by_row None (Some t) = verdict.Typed t
told_by_row (Some code) row = verdict.Broken code

abbrev pub told_unless : Option Code → Typed → Verdict
told_unless None t = verdict.Typed t
told_unless (Some code) t = verdict.Broken code

-- ---- what is said of operands, whatever the addresses of their typings

abbrev pub ForEach : Table → Typed → (Typing → Type 0) → Type 0
ForEach table e Says = (p : Address) → Says (typing table e p)

abbrev pub ForBoth : Table → Typed → Typed → (Typing → Typing → Type 0) → Type 0
ForBoth table a b Says = (p q : Address) → Says (typing table a p) (typing table b q)
