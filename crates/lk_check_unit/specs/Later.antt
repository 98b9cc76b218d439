-- Walks that leave some codes of their nodes to be kept later, behind other nodes: those of tentative
-- definitions, which are asked of at the end of the source (C99 6.9.2, 2).
use Rattle.std.specs.Prelude.{ℕ, ◌≡◌, ◌⊎◌, ◌++◌, List, [], ◌∷◌, map, ⊤}
use Rattle.lk_base.specs.declared.code.Code.TheVariants.{Incomplete}
use Rattle.lk_types.specs.Building.{IsLonger}
use Rattle.lk_types.specs.Table.{IsKnown, Table}
use Rattle.lk_typed.specs.DeclaratorRules.{unless}
use Rattle.lk_typed.specs.Entities.{NameDeclared}
use Rattle.lk_typed.specs.Env.{Env, Additions, extend}
use Rattle.lk_typed.specs.Faults.{Breach}
use Rattle.lk_typed.specs.Meaning.{meaning}
use Rattle.lk_typed.specs.Nodes.{Placed}
use Rattle.lk_typed.specs.Sizes.{is_complete}
use Rattle.lk_typed.specs.Stands.{IsIn as IsAmong}
use Rattle.lk_typed.specs.Ty.{Ty}
use Rattle.lk_rules.specs.Keeping.{Kept}
use Rattle.lk_typed.specs.declared.unit.StructTag.{StructTag}
use Rattle.lk_found.specs.Keepings.{Codes, KeepsAll, codes_at}
use Rattle.lk_found.specs.Begun.{KeepsBegun}
use Rattle.lk_found.specs.Truth.{IsSoInside, NoTag}
use Rattle.lk_found.specs.Findings.{IsDeclaredAs, IsOfName, mark_at}
use Rattle.lk_found.specs.declared.records.DeclaredHere.{DeclaredHere}
use Rattle.lk_checker.specs.States.{IsIn, IsSound, kept_in}
use Rattle.lk_checker.specs.declared.checker.Checker.{Checker}
use Rattle.lk_check_walk.specs.Walks.{TellsTruth, TellsOwn}
use Rattle.lk_check_unit.specs.declared.pending.Pending.{Pending}

-- these nodes are walked, but for these codes, in whatever order others are kept
pub record WalksBut (at_end : Env) (old new : Checker) (env : Env) (added : Additions) (nodes : List Placed)
    (later : List Codes) : Type 0 where
  pub longer : IsLonger old.types new.types
  pub sound : IsSound new
  pub outside : new.outside ≡ old.outside
  pub begun : KeepsBegun old.names.structs new.names.structs
  pub behind : IsIn new (extend env added)
  pub keeps : (others : List Placed) (more : List Codes) (last : Kept) →
      KeepsAll at_end (kept_in new) others (later ++ more) last →
      KeepsAll at_end (kept_in old) (nodes ++ others) more last
  pub records : TellsTruth at_end old new nodes

-- the state, as if no name were recorded as declared since the old one
abbrev pub undeclared : Checker → Checker → Checker
undeclared old new = record new { records = record new.records { declared = old.records.declared } }

-- one of these names is declared as it is recorded
pub record IsOneOf (Own : NameDeclared → Type 0) (table : Table) (n : ℕ) (d : DeclaredHere) : Type 0 where
  pub name : NameDeclared
  pub own : Own name
  pub number : n ≡ name.is.ordinal
  pub declared_as : IsDeclaredAs table d name

-- what is recorded of these nodes is true; and names may be declared between them, and
-- structs begin, that `Tag` names
pub record TellsNamingOf (Tag : ℕ → StructTag → Type 0) (Own : NameDeclared → Type 0) (at_end : Env)
    (old new : Checker) (nodes : List Placed) : Type 0 where
  pub others : TellsOwn Tag at_end old (undeclared old new) nodes
  pub names : (n : ℕ) (d : DeclaredHere) → IsAmong (n, d) new.records.declared →
      IsAmong (n, d) old.records.declared
      ⊎ (IsSoInside at_end nodes (IsOfName new.types n d) ⊎ IsOneOf Own new.types n d)

abbrev pub TellsNaming : (NameDeclared → Type 0) → Env → Checker → Checker → List Placed → Type 0
TellsNaming = TellsNamingOf NoTag

-- the same where names are declared between the nodes
pub record WalksNaming (Own : NameDeclared → Type 0) (at_end : Env) (old new : Checker) (env : Env)
    (added : Additions) (nodes : List Placed) (later : List Codes) : Type 0 where
  pub longer : IsLonger old.types new.types
  pub sound : IsSound new
  pub outside : new.outside ≡ old.outside
  pub begun : KeepsBegun old.names.structs new.names.structs
  pub behind : IsIn new (extend env added)
  pub keeps : (others : List Placed) (more : List Codes) (last : Kept) →
      KeepsAll at_end (kept_in new) others (later ++ more) last →
      KeepsAll at_end (kept_in old) (nodes ++ others) more last
  pub records : TellsNaming Own at_end old new nodes

-- 25 of an object whose type isn't complete there
abbrev pub pending_rules : Env → Ty → List Breach
pending_rules env t = unless (is_complete env.structs t) Incomplete

-- those of tentative definitions, at the end of the source
abbrev pub pending_codes : Table → Env → List Pending → List Codes
pending_codes table at_end ps =
    map (λ (p : Pending). codes_at (mark_at p.at) (pending_rules at_end (meaning table p.ty))) ps

abbrev pub AreKnownPending : Table → List Pending → Type 0
AreKnownPending table [] = ⊤
AreKnownPending table (p ∷ ps) = IsKnown table p.ty × AreKnownPending table ps

-- they are asked of where a source ends
abbrev pub AsksAll : Checker → Checker → List Pending → Type 0
AsksAll old new ps = (at_end : Env) → IsIn old at_end →
    KeepsAll at_end (kept_in old) [] (pending_codes old.types at_end ps) (kept_in new)
