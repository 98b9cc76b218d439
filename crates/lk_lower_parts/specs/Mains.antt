-- The function `main`.
use Rattle.std.specs.Prelude.{◌≡◌, ◌+◌, ℕ, nat_lt, Option, get_or}
use Rattle.std.specs.Option.{option_and_then, option_map}
use Rattle.lk_base.specs.declared.spot.Spot.{Spot}
use Rattle.lk_facts.specs.declared.program.Program.{Program}
use Rattle.lk_lower_expr.specs.Lowering.{Numbers, declaration_of}
use Rattle.lk_lower_expr.specs.Programs.{IsMain}
use Rattle.lk_lower_parts.specs.Sources.{defined_of, entity_in}
use Rattle.lk_lower_parts.specs.declared.counts.FunctionNumbers.{FunctionNumbers}
use Rattle.lk_lower_parts.specs.declared.start.Main.{Main}
use Rattle.lk_typed.specs.declared.entity.Declaration.{Declaration}
use Rattle.lk_typed.specs.declared.unit.Body.{Body}
use Rattle.lk_typed.specs.declared.whole.Whole.{Whole}

-- the place of the name of main in its definition
abbrev pub spot_of_main : Whole → Option Spot
spot_of_main whole =
    option_map (λ by. by.spot)
    (option_and_then declaration_of
    (option_and_then (λ definition. entity_in whole definition.0 definition.1) (defined_of whole whole.main)))

-- it is the function main of the sources in each program with these numbers
pub record IsMainOf (whole : Whole) (functions : FunctionNumbers) (main : Main) : Type 0 where
  pub s : ℕ
  pub b : ℕ
  pub body : Body
  pub by : Declaration
  pub is : (numbers : Numbers) (program : Program) → numbers.function s b ≡ get_or functions.first s 0 + b →
      program.main ≡ main.function → IsMain whole numbers program s b body by
  pub spot_ : main.spot ≡ by.spot
  pub parameters : main.has_parameters ≡ nat_lt 0 body.parameters
