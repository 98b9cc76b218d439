-- Functions that are defined.
use Rattle.std.proofs.Common.{◌≡◌, ◌++◌, ℕ, List, [], ◌∷◌, Option, Some, None, refl, sym, subst}
use Rattle.std.specs.Option.{option_map}
use Rattle.lk_base.specs.declared.code.Code.{Code}
use Rattle.lk_base.specs.declared.code.Code.TheVariants.{OwnVararg}
use Rattle.lk_tree.specs.declared.specifiers.Storage.{Storage}
use Rattle.lk_typed.specs.DeclarationRules.{AtFile, Bare, Defined, definition_rules}
use Rattle.lk_typed.specs.DeclarationRules as rule
use Rattle.lk_typed.specs.Declarations.{composite_type, elements_given}
use Rattle.lk_typed.specs.Faults.{breach}
use Rattle.lk_typed.specs.Meaning.{meaning}
use Rattle.lk_typed.specs.NodeRules.{mark, name_use_rules}
use Rattle.lk_typed.specs.Nodes.{Declares}
use Rattle.lk_typed.specs.Told.{Named}
use Rattle.lk_typed.specs.Ty.{Ty}
use Rattle.lk_types.specs.Table.{Table}
use Rattle.lk_rules.specs.Keeping.{KeepsCodes}
use Rattle.lk_check_decl.specs.Breaches.{told}
use Rattle.lk_check_decl.specs.declared.words.Given.TheVariants.{Body}
use Rattle.lk_check_decl.specs.declared.words.Scope.TheVariants.{File}
use Rattle.lk_found.specs.Keepings.{KeepsAll, codes_at}
use Rattle.lk_found.specs.Findings.{mark_at}
use Rattle.lk_found.specs.declared.found.At.{At}
use Rattle.lk_checker.specs.Moves.{KeepsAt}
use Rattle.lk_checker.specs.States.{IsIn, Tells, kept_in}
use Rattle.lk_checker.specs.declared.checker.Checker.{Checker}
use Rattle.lk_check_unit.specs.Declaring.{DeclaresName, WaitsIn, listed}
use Rattle.lk_check_unit.specs.Definitions.{DefinesName}
use Rattle.lk_check_unit.specs.Later.{pending_codes}
use Rattle.lk_check_unit.specs.declared.declared.NameFound.{NameFound}
use Rattle.lk_check_unit.specs.declared.pending.Pending.{Pending}
use Rattle.lk_check_unit.proofs.Codes.{TellName, codes_told}
use Rattle.lk_check_unit.proofs.Nameless.{of_type_tells, unless_tells}
use Rattle.lk_check_unit.proofs.Walking.{extends_by_nothing}

dots_tell : (t : Option Ty) → TellName [] (definition_rules t)
dots_tell t = of_type_tells t _ (λ u. unless_tells _ OwnVararg)

pub dots_kept : (old new : Checker) (place : At) (t : Option Ty) (code : Option Code) → code ≡ told (definition_rules t) → Tells old new place (option_map breach code) → KeepsAt old new place (definition_rules t)
dots_kept old new place t code is tells =
    subst (KeepsCodes (kept_in old) (mark_at place) (definition_rules t)) (sym tells.kept) (codes_told (kept_in old) (mark_at place) [] (definition_rules t) code (dots_tell t) is)

-- a body is no tentative definition
nothing_waits : (table : Table) (p : Option Pending) → WaitsIn table File Body p → p ≡ None
nothing_waits table None waits = refl
nothing_waits table (Some p) waits = absurd (defined_bare waits.1)
  where
    defined_bare : ◌≡◌ {A = rule.Given} Defined Bare → ⊥
    defined_bare e = cc

no_elements : (t : Option Ty) → elements_given None t ≡ 0
no_elements None = refl
no_elements (Some t) = refl

pub function_named : (old new : Checker) (ss : List Storage) (named : Named) (t : Option ℕ) (found : NameFound) → WaitsIn new.types File Body found.pending → DeclaresName old new File ss Body named t None found →
    DefinesName old new ss (Some named) t
function_named old new ss named t found waits declares at_end env is_in =
    let n = declares at_end env is_in in
    let T = option_map (meaning old.types) t in
    record {
      behind = n.behind;
      keeps = λ others more last kept.
          subst (λ k. KeepsAll at_end (kept_in old) others (codes_at (mark named.spot named.ordinal) (name_use_rules env T named.name (Declares AtFile ss Defined k at_end)) ∷ more) last)
          (no_elements (composite_type env AtFile ss named.name T))
          (n.keeps others more last (subst (λ p. KeepsAll at_end (kept_in new) others (pending_codes new.types at_end (listed p) ++ more) last) (sym (nothing_waits new.types found.pending waits)) kept));
      puts = n.puts;
    }

pub nothing_named : (checker : Checker) (ss : List Storage) (t : Option ℕ) → DefinesName checker checker ss None t
nothing_named checker ss t at_end env is_in =
    record { behind = subst (IsIn checker) (extends_by_nothing env) is_in; keeps = λ others more last kept. kept; puts = refl }
