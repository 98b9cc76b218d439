-- A declared name, in the code and in the words of the rules.
use Rattle.std.specs.Prelude.{ℕ, List}
use Rattle.lk_typed.specs.Told.{Named}
use Rattle.lk_found.specs.declared.declarators.DeclaredName.{DeclaredName}
use Rattle.lk_found.specs.declared.found.At.{At}

abbrev pub named_at : List ℕ → At → Named
named_at name at = record { name = name; spot = at.spot; ordinal = at.ordinal }

abbrev pub name_in : DeclaredName → Named
name_in found = named_at found.name.now found.at
