-- Parameters so far, one after another (C99 6.7.5.3).
use Rattle.std.specs.Prelude.{ℕ, ◌++◌, ◌||◌, Bool, false, Option, Some, None, List, [], ◌∷◌, if◌then◌else◌}
use Rattle.lk_tree.specs.declared.expression.Declarator.{Declarator}
use Rattle.lk_typed.specs.Env.{Env, extend}
use Rattle.lk_typed.specs.Expressions.{declarator_found}
use Rattle.lk_typed.specs.Layers.{ParameterTeller}
use Rattle.lk_typed.specs.Told.{Named}
use Rattle.lk_found.specs.declared.parameters.Listed.{Listed}

-- ---- parameters one after another

-- the types so far, and with one more
abbrev pub types_listed : Listed → Option (List ℕ)
types_listed listed = if listed.are_typed then Some listed.types.items else None

abbrev pub with_last : {A : Type 0} → Option (List A) → Option A → Option (List A)
with_last None x = None
with_last (Some xs) None = None
with_last (Some xs) (Some x) = Some (xs ++ x ∷ [])

-- whether one of them is void alone
abbrev pub has_void : List ParameterTeller → Env → Bool
has_void [] env = false
has_void (p ∷ ps) env = (p env).is_bare_void || has_void ps (extend env (p env).additions)

-- the name in its declarator
abbrev pub name_of : Option Declarator → Option Named
name_of None = None
name_of (Some d) = (declarator_found d).name
