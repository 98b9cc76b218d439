-- What a walk over nodes of a source leaves behind.
use Rattle.std.specs.Prelude.{ℕ, ◌≡◌, Some, List, slice_get}
use Rattle.lk_types.specs.Building.{IsLonger}
use Rattle.lk_typed.specs.Env.{Env, Additions, extend}
use Rattle.lk_typed.specs.Nodes.{Placed}
use Rattle.lk_typed.specs.declared.members.Members.TheVariants.{Begun}
use Rattle.lk_typed.specs.declared.unit.StructTag.{StructTag}
use Rattle.lk_rules.specs.Keeping.{KeepsNodes}
use Rattle.lk_found.specs.Truth.{AddsTags, AddsTruth, NoTag}
use Rattle.lk_found.specs.Uses.{AddsUses, IsOfWord, taken_in, word_in}
use Rattle.lk_found.specs.Findings.{IsOfExpression, IsOfTypeName, IsOfInitialiser, IsOfName}
use Rattle.lk_checker.specs.declared.checker.Checker.{Checker}
use Rattle.lk_checker.specs.States.{IsIn, IsSound, kept_in}

-- what is recorded was so before, or is true of a node in one of these, and the names of which
-- they speak are recorded; tags may also be of the structs that `Own` names; `at_end` is the
-- environment behind the whole source
pub record TellsOwn (Own : ℕ → StructTag → Type 0) (at_end : Env) (old new : Checker)
    (nodes : List Placed) : Type 0 where
  pub founds : AddsTruth at_end (IsOfExpression new.types) old.records.founds nodes new.records.founds
  pub named : AddsTruth at_end (IsOfTypeName new.types) old.records.named nodes new.records.named
  pub meant : AddsTruth at_end (IsOfWord new.types) old.records.meant nodes new.records.meant
  pub initialisers : AddsTruth at_end (IsOfInitialiser new.types) old.records.initialisers nodes
      new.records.initialisers
  pub uses : AddsUses word_in at_end old.records.first_uses nodes new.records.first_uses
  pub taken : AddsUses taken_in at_end old.records.taken nodes new.records.taken
  pub declared : AddsTruth at_end (IsOfName new.types) old.records.declared nodes new.records.declared
  pub tags : AddsTags Own at_end old.records.tags nodes new.records.tags

abbrev pub TellsTruth : Env → Checker → Checker → List Placed → Type 0
TellsTruth = TellsOwn NoTag

-- ---- what a walk leaves behind

-- the table only grew, the names are those behind the nodes, the faults in them are kept, and what is
-- recorded of those in `told` is true; `at_end` is the environment behind the whole source
pub record WalksOwn (Own : ℕ → StructTag → Type 0) (at_end : Env) (old new : Checker) (env : Env)
    (added : Additions) (nodes told : List Placed) : Type 0 where
  pub longer : IsLonger old.types new.types
  pub sound : IsSound new
  pub outside : new.outside ≡ old.outside
  -- a struct whose definition has begun is begun still
  pub begun : (s : ℕ) → slice_get old.names.structs s ≡ Some Begun →
      slice_get new.names.structs s ≡ Some Begun
  pub behind : IsIn new (extend env added)
  pub keeps : KeepsNodes at_end (kept_in old) nodes (kept_in new)
  pub records : TellsOwn Own at_end old new told

abbrev pub WalksAndTells : Env → Checker → Checker → Env → Additions → List Placed → List Placed → Type 0
WalksAndTells = WalksOwn NoTag

abbrev pub Walks : (at_end : Env) → (old new : Checker) → Env → Additions → List Placed → Type 0
Walks at_end old new env added nodes = WalksAndTells at_end old new env added nodes nodes
