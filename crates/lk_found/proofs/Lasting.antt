-- What stays true of types and of what was found, while the table grows.
use Rattle.std.proofs.Common.{◌≡◌, ◌∙◌, Option, Some, None, ℕ, sym, ap, subst, arith, length-append}
use Rattle.std.specs.Prelude.{IfSome}
use Rattle.lk_types.specs.Building.{IsLonger, IsTable}
use Rattle.lk_types.specs.Table.{Table, IsKnown}
use Rattle.lk_typed.proofs.Meanings.{meaning_stays}
use Rattle.lk_typed.specs.Calls.{names_routine}
use Rattle.lk_typed.specs.Env.{Env, Outside}
use Rattle.lk_typed.specs.Meaning.{meaning_of, IsKnownType}
use Rattle.lk_typed.specs.Ty.{Pointer}
use Rattle.lk_typed.specs.Typing as spec
use Rattle.lk_typed.specs.Typing.{Judged, Typing}
use Rattle.lk_typed.specs.Typings.{IsOperand, IsTyping}
use Rattle.lk_typed.specs.declared.typed.ExprType.{ExprType}
use Rattle.lk_typed.specs.declared.typed.ExprType.TheVariants.{Listed, PointerTo}
use Rattle.lk_typed.specs.declared.typed.Typed.{Typed}
use Rattle.lk_check_expr.specs.Looks.{IsLook}
use Rattle.lk_check_expr.specs.declared.looks.Look.{Look}
use Rattle.lk_found.specs.Judging.{HasOperand}
use Rattle.lk_found.specs.Findings.{IsFound, IsFoundTyping}
use Rattle.lk_found.specs.declared.found.Found.{Found}

-- ---- tables

pub known_longer : (old new : Table) (t : ℕ) → IsLonger old new → IsKnown old t → IsKnown new t
known_longer old new t longer known = rw longer.types.1 (omega (arith, known, length-append old.types longer.types.0))

pub type_known_longer : (old new : Table) (t : ExprType) → IsLonger old new → IsKnownType old t → IsKnownType new t
type_known_longer old new (Listed t) longer known = known_longer old new t longer known
type_known_longer old new (PointerTo t) longer known = known_longer old new t longer known

pub expr_type_longer : (old new : Table) (t : ExprType) → IsTable old → IsLonger old new → IsKnownType old t → meaning_of new t ≡ meaning_of old t
expr_type_longer old new (Listed t) good longer known = meaning_stays old new good longer t known
expr_type_longer old new (PointerTo t) good longer known = ap Pointer (meaning_stays old new good longer t known)

pub operand_longer : (old new : Table) (t : Typed) → IsLonger old new → IsOperand old t → IsOperand new t
operand_longer old new t longer is = record { known = type_known_longer old new t.ty longer is.known; listed = is.listed }

pub typing_longer : (old new : Table) (t : Typed) (x : Typing) → IsTable old → IsLonger old new → IsTyping old t x → IsTyping new t x
typing_longer old new t x good longer is = record {
  operand = operand_longer old new t longer is.operand;
  type = expr_type_longer old new t.ty good longer is.operand.known ∙ is.type;
  place = is.place;
  constant = is.constant;
  null = is.null;
}

found_typing_longer : (old new : Table) (found : Found) (x : Option Typing) → IsTable old → IsLonger old new → IsFoundTyping old found x → IsFoundTyping new found x
found_typing_longer old new found None good longer h = h
found_typing_longer old new found (Some x) good longer h = (h.0, h.1, typing_longer old new h.0 x good longer h.2, h.3)

pub found_longer : (old new : Table) (env : Env) (found : Found) (x : Judged) → IsTable old → IsLonger old new → IsFound old env found x → IsFound new env found x
found_longer old new env found x good longer h = record { typing = found_typing_longer old new found x.typing good longer h.typing; look = h.look }

some_operand : (table : Table) (o : Option Typed) (t : Typed) → o ≡ Some t → IsOperand table t → IfSome o (IsOperand table)
some_operand table o t e h = subst (λ o. IfSome o (IsOperand table)) (sym e) h

none_operand : (table : Table) (o : Option Typed) → o ≡ None → IfSome o (IsOperand table)
none_operand table o e = subst (λ o. IfSome o (IsOperand table)) (sym e) tt

found_typing_operand : (table : Table) (found : Found) (x : Option Typing) → IsFoundTyping table found x → HasOperand table found
found_typing_operand table found None h = none_operand table found.typing h
found_typing_operand table found (Some x) h = some_operand table found.typing h.0 h.1 h.2.operand

-- what is found of a part is an operand
pub found_operand : (table : Table) (env : Env) (found : Found) (x : Judged) → IsFound table env found x → HasOperand table found
found_operand table env found x h = found_typing_operand table found x.typing h.typing

-- how it is written is told alike in environments of one outside
pub look_elsewhere : (env other : Env) (look : Look) (x : spec.Look) → env.outside ≡ other.outside → IsLook env look x → IsLook other look x
look_elsewhere env other look x same h = record {
  called = h.called;
  routine = subst (λ (outside : Outside). names_routine (record env { outside = outside }) x.routine ≡ look.is_routine) same h.routine;
  format = h.format;
  is_sizeof = h.is_sizeof;
  is_product = h.is_product;
  holds_sizeof = h.holds_sizeof;
}

pub found_elsewhere : (table : Table) (env other : Env) (found : Found) (x : Judged) → env.outside ≡ other.outside → IsFound table env found x → IsFound table other found x
found_elsewhere table env other found x same h = record { typing = h.typing; look = look_elsewhere env other found.look x.look same h.look }
