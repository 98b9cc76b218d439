-- What a walk over the external declarations of a source leaves behind (C99 6.9),
-- and what is told of a source.
use Rattle.std.specs.Prelude.{⊤, ◌≡◌, true, Some, List, [], ◌∷◌, if◌then◌else◌}
use Rattle.std.specs.HashSet.{HashSet, contains_by}
use Rattle.lk_base.specs.declared.fault.Fault.{Fault as LayerFault}
use Rattle.lk_base.specs.declared.fault.Fault.TheVariants as answer
use Rattle.lk_tree.specs.declared.statement.Decl.{Decl}
use Rattle.lk_tree.specs.declared.statement.Unit.{Unit}
use Rattle.lk_typed.specs.Env.{Env, Additions, Name, both, extend, is_name, is_one_of, nothing}
use Rattle.lk_typed.specs.NodeParts.{external_adds, externals_in_turn}
use Rattle.lk_typed.specs.Nodes.{AnExternal, at}
use Rattle.lk_check_decl.specs.declared.words.Scope.TheVariants.{File}
use Rattle.lk_checker.specs.declared.checker.Checker.{Checker}
use Rattle.lk_checker.specs.Moves.{IsSame}
use Rattle.lk_checker.specs.Sources.{TellsFirst}
use Rattle.lk_check_unit.specs.Bodies.{Grows, IsPlain}
use Rattle.lk_check_unit.specs.InitDeclarators.{PutsPending}
use Rattle.lk_check_unit.specs.Later.{AsksAll, WalksBut, pending_codes}
use Rattle.lk_check_unit.specs.declared.pending.Pending.{Pending}

-- ---- external declarations

pub record WalksExternal (old new : Checker) (d : Decl) (before after : List Pending) : Type 0 where
  pub puts : PutsPending new.types File before after
  pub walks : (at_end env : Env) → IsPlain old env →
      WalksBut at_end old new env (external_adds env d) (at env (AnExternal d) ∷ [])
      (pending_codes new.types at_end puts.fresh)

-- what they add, each behind those before it
abbrev pub externals_add : Env → List Decl → Additions
externals_add env [] = nothing
externals_add env (d ∷ ds) = let a = external_adds env d in both a (externals_add (extend env a) ds)

pub record WalksExternals (old new : Checker) (ds : List Decl) (before after : List Pending) : Type 0 where
  pub puts : PutsPending new.types File before after
  pub walks : (at_end env : Env) → IsPlain old env →
      WalksBut at_end old new env (externals_add env ds) (externals_in_turn env ds)
      (pending_codes new.types at_end puts.fresh)

-- they are walked over, and behind them is asked what waits for the end of the source
pub record WalksOver (old new : Checker) (ds : List Decl) : Type 0 where
  pub between : Checker
  pub pending : List Pending
  pub grows : Grows old between
  pub walks : WalksExternals old between ds [] pending
  pub asks : AsksAll between new pending
  pub same : IsSame between new

-- ---- names in sets

-- a set of exactly these names
abbrev pub IsSetOf : {S : Type 0} → List Name → HashSet Name S → Type 0
IsSetOf names set = (name : Name) → is_one_of names name ≡ contains_by (is_name name) set

-- these names are in the set with those before them
abbrev pub PutsNames : {S : Type 0} → List Name → HashSet Name S → HashSet Name S → Type 0
PutsNames names old new =
    (name : Name) → contains_by (is_name name) new
    ≡ (if is_one_of names name then true else contains_by (is_name name) old)

-- ---- the answer of the checker

-- a source is refused by its least fault; of want of memory nothing is said
abbrev pub IsRefused : List Name → Unit → LayerFault → Type 0
IsRefused externs unit (answer.Refused refusal) = TellsFirst externs unit (Some refusal)
IsRefused externs unit answer.NoMemory = ⊤
