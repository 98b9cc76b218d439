-- What is found at the nodes of a source, by their numbers.
use Rattle.std.specs.Prelude.{ℕ, List, [], Option, Some, None, if◌then◌else◌, nat_eq, nat_lt}
use Rattle.std.specs.Map.{lookup}
use Rattle.indexmap.specs.IndexMap.{insert_entry}
use Rattle.lk_tree.specs.declared.expression.Expr.{Expr}
use Rattle.lk_typed.specs.declared.entity.Use.{Use}
use Rattle.lk_typed.specs.declared.unit.StructTag.{StructTag}
use Rattle.lk_found.specs.declared.found.Found.{Found}
use Rattle.lk_found.specs.declared.records.DeclaredHere.{DeclaredHere}
use Rattle.lk_found.specs.declared.records.InitialiserKind.{InitialiserKind}
use Rattle.lk_found.specs.declared.records.Meant.{Meant}
use Rattle.lk_found.specs.declared.records.NamesIn.{NamesIn}

-- each list has the oldest first, and each number at most once
pub record Recorded : Type 0 where
  -- what is found of the expression with a number
  pub founds : List (ℕ × Found)
  -- what a name stands for where an expression with a number is that name
  pub meant : List (ℕ × Meant)
  -- the first use of the name that a node declares
  pub first_uses : List (ℕ × Use)
  -- the first expression that takes the address of the name that a node declares
  pub taken : List (ℕ × Use)
  -- the types that type names name
  pub named : List (ℕ × ℕ)
  -- what initialisers are that are one expression
  pub initialisers : List (ℕ × InitialiserKind)
  -- what declarators declare
  pub declared : List (ℕ × DeclaredHere)
  -- the tags of the structs, by the numbers of these
  pub tags : List StructTag

abbrev pub nothing_recorded : Recorded
nothing_recorded =
    record { founds = []; meant = []; first_uses = []; taken = []; named = []; initialisers = []; declared = []; tags = [] }

-- the first of two uses
abbrev pub earlier : Option Use → Use → Use
earlier None later = later
earlier (Some before) later = if nat_lt later.ordinal before.ordinal then later else before

-- a use of the name that a node declares
abbrev pub with_use : ℕ → Use → List (ℕ × Use) → List (ℕ × Use)
with_use declaring used uses =
    insert_entry nat_eq uses declaring (earlier (lookup (nat_eq declaring) uses) used)

-- what a name stands for, where an expression is one
abbrev pub with_word : Use → Option Meant → Recorded → Recorded
with_word used None r = r
with_word used (Some meant) r =
    record r { meant = insert_entry nat_eq r.meant used.ordinal meant; first_uses = with_use meant.ordinal used r.first_uses }

-- a name whose address is taken, where an expression takes one's
abbrev pub with_taken : Use → Option Meant → Recorded → Recorded
with_taken used None r = r
with_taken used (Some meant) r = record r { taken = with_use meant.ordinal used r.taken }

abbrev pub use_of : Expr → Use
use_of e = record { spot = e.spot; ordinal = e.ordinal }

-- an expression of which this is found
abbrev pub with_expression : Expr → Found → NamesIn → Recorded → Recorded
with_expression e found names r =
    with_taken (use_of e) names.taken
    (with_word (use_of e) names.word (record r { founds = insert_entry nat_eq r.founds e.ordinal found }))

-- the type of a type name, where it has one
abbrev pub with_named : ℕ → Option ℕ → Recorded → Recorded
with_named n None r = r
with_named n (Some t) r = record r { named = insert_entry nat_eq r.named n t }

-- what a declarator declares, where that has a type
abbrev pub with_declared : ℕ → Option DeclaredHere → Recorded → Recorded
with_declared n None r = r
with_declared n (Some d) r = record r { declared = insert_entry nat_eq r.declared n d }
