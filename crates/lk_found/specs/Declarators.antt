-- The codes that the use of a declared name gives, and what stands on the left of a declarator (C99 6.7.5).
use Rattle.std.specs.Prelude.{◌++◌, Bool, true, Option, Some, None, List, [], ◌∷◌}
use Rattle.lk_tree.specs.declared.expression.Declarator.{Declarator}
use Rattle.lk_types.specs.Table.{Table}
use Rattle.lk_typed.specs.DeclaratorRules.{of_type}
use Rattle.lk_typed.specs.Env.{Env, Additions, enter, extend, nothing}
use Rattle.lk_typed.specs.Expressions.{declarator_found}
use Rattle.lk_typed.specs.NodeRules.{mark, name_use_rules, struct_bound_rules}
use Rattle.lk_typed.specs.Nodes.{Left, NameUse}
use Rattle.lk_typed.specs.Parts.{span_at}
use Rattle.lk_typed.specs.Told.{Named}
use Rattle.lk_typed.specs.Ty.{Ty}
use Rattle.lk_names.specs.Growing.{InLeftScope, scope_added}
use Rattle.lk_rules.specs.Keeping.{Kept}
use Rattle.lk_found.specs.Keepings.{Codes, KeepsEach, codes_at}

-- ---- the use of the declared name

-- the codes of the name, whose type this is, at its own place
abbrev pub name_codes : Env → Option Ty → NameUse → Option Named → List Codes
name_codes behind t becomes None = []
name_codes behind t becomes (Some named) =
    codes_at (mark named.spot named.ordinal) (name_use_rules behind t named.name becomes) ∷ []

-- with those of a struct that gets the name as a member: they stand at the whole declarator
abbrev pub use_codes : Left → Declarator → Option Ty → List Codes
use_codes left d t =
    name_codes left.behind t left.use_of_name (declarator_found d).name ++
    codes_at (mark d.spot d.ordinal) (of_type t (struct_bound_rules left.behind left.use_of_name)) ∷ []

-- of a declarator that begins in this environment
abbrev pub codes_of_use : Env → Left → Declarator → List Codes
codes_of_use env left d = use_codes left d ((declarator_found d).type (span_at env left) left.type)

-- they are kept
abbrev pub KeepsUse : Env → Kept → Left → Declarator → Kept → Type 0
KeepsUse env old left d new = KeepsEach old (codes_of_use env left d) new

-- ---- what is found

-- what a whole declarator is given, with the type on its left and what its name becomes
abbrev pub left_of : Env → Bool → Option Ty → Declarator → NameUse → Left
left_of env may_be_absent t d becomes =
    record {
      type = t;
      may_be_absent = may_be_absent;
      behind = extend env ((declarator_found d).additions env);
      use_of_name = becomes;
      is_whole = true;
    }

-- what the parameters of the function declarator beside the name declare: their names and tags
abbrev pub parameters_told : Env → Declarator → Additions
parameters_told env d = record ((declarator_found d).parameters (enter env)) { structs = [] }

abbrev pub scope_told : Table → Option InLeftScope → Additions
scope_told table None = nothing
scope_told table (Some scope) = scope_added table scope
