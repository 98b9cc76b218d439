-- What was found before stays true while the table grows.
use Rattle.std.proofs.Common.{◌≡◌, ℕ, Option, Some, None, refl, ap}
use Rattle.std.specs.Prelude.{IfSome}
use Rattle.lk_types.specs.Building.{IsLonger, IsTable}
use Rattle.lk_types.specs.Table.{Table, IsKnown}
use Rattle.lk_typed.specs.Env.{ConvertedTo}
use Rattle.lk_typed.specs.Names.{IsKnownRole, role_in}
use Rattle.lk_typed.specs.Typings.{IsOperand}
use Rattle.lk_typed.specs.declared.role.Role.{Role}
use Rattle.lk_typed.specs.declared.typed.Typed.{Typed}
use Rattle.lk_found.specs.Judging.{HasKnownType, HasOperand}
use Rattle.lk_found.specs.declared.found.Found.{Found}
use Rattle.lk_found.specs.declared.found.TypeFound.{TypeFound}
use Rattle.lk_found.proofs.Lasting.{expr_type_longer, known_longer, operand_longer, type_known_longer}
use Rattle.lk_typed.specs.declared.role.Role.TheVariants as role

pub operand_further : (old new : Table) (found : Found) → IsLonger old new → HasOperand old found → HasOperand new found
operand_further old new found longer h = some_longer found.typing h
  where
    some_longer : (o : Option Typed) → IfSome o (IsOperand old) → IfSome o (IsOperand new)
    some_longer None h = tt
    some_longer (Some t) h = operand_longer old new t longer h

pub named_further : (old new : Table) (found : TypeFound) → IsLonger old new → HasKnownType old found → HasKnownType new found
named_further old new found longer h = some_longer found.ty h
  where
    some_longer : (o : Option ℕ) → IfSome o (IsKnown old) → IfSome o (IsKnown new)
    some_longer None h = tt
    some_longer (Some t) h = known_longer old new t longer h

-- a role stays what it is while the table grows
pub role_known_further : (old new : Table) (r : Role) → IsLonger old new → IsKnownRole old r → IsKnownRole new r
role_known_further old new role.Operand longer known = tt
role_known_further old new (role.ConvertedTo t) longer known = type_known_longer old new t longer known
role_known_further old new role.Function longer known = tt
role_known_further old new role.Routine longer known = tt

pub role_further : (old new : Table) (r : Role) → IsTable old → IsLonger old new → IsKnownRole old r → role_in new r ≡ role_in old r
role_further old new role.Operand good longer known = refl
role_further old new (role.ConvertedTo t) good longer known = ap ConvertedTo (expr_type_longer old new t good longer known)
role_further old new role.Function good longer known = refl
role_further old new role.Routine good longer known = refl
