-- Laws of what is in scope. Each is the contract of a function.
use Rattle.std.specs.Prelude.{ℕ, ◌≡◌, ◌≤◌}
use Rattle.lk_types.specs.Building.{IsTable, IsLonger}
use Rattle.lk_types.specs.Table.{Table}
use Rattle.lk_typed.specs.Env.{Env}
use Rattle.lk_names.specs.Growing.{InLeftScope, IsKnownLeft, scope_added}
use Rattle.lk_names.specs.InScope.{InScope, IsKnownScope, env_in}

-- what is in scope makes the same environment while the table grows
abbrev pub EnvironmentsStay : Type 0
EnvironmentsStay = (old new : Table) → IsTable old → IsLonger old new → (scope : InScope) →
    IsKnownScope old scope → (rest : Env) → env_in new rest scope ≡ env_in old rest scope

-- what is known stays known
abbrev pub KnownStays : Type 0
KnownStays = (old new : Table) → IsLonger old new → (scope : InScope) → IsKnownScope old scope →
    IsKnownScope new scope

-- what was declared in a scope that was left makes the same additions while the table grows
abbrev pub LeftScopesStay : Type 0
LeftScopesStay = (old new : Table) → IsTable old → IsLonger old new → (count : ℕ) (scope : InLeftScope) →
    IsKnownLeft old count scope → scope_added new scope ≡ scope_added old scope

-- what is known of it stays known while the table grows and structs come
abbrev pub KnownLeftStays : Type 0
KnownLeftStays = (old new : Table) → IsLonger old new → (few many : ℕ) → few ≤ many → (scope : InLeftScope) →
    IsKnownLeft old few scope → IsKnownLeft new many scope
