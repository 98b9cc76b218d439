-- Where a state stands: some environment, what nothing converts, and what stands round a statement.
use Rattle.std.proofs.Common.{◌≡◌, ◌∙◌, ℕ, Bool, true, false, List, [], ◌∷◌, Option, Some, None, refl, ap}
use Rattle.std.specs.Prelude.{IfSome, option_map, if◌then◌else◌, ◌||◌}
use Rattle.std.specs.List.{list_any}
use Rattle.lk_types.proofs.GrowLemmas.{known_same}
use Rattle.lk_types.specs.Building.{IsLonger, IsTable}
use Rattle.lk_types.specs.Table.{IsKnown, Table}
use Rattle.lk_typed.proofs.Meanings.{meaning_stays}
use Rattle.lk_typed.specs.Env.{AsOperand, Additions, Env, Outside, as_operand, enter, extend, is_name, is_one_of}
use Rattle.lk_typed.specs.Meaning.{meaning}
use Rattle.lk_typed.specs.Nodes.{Placed}
use Rattle.lk_typed.specs.StatementRules.{Around}
use Rattle.lk_names.specs.InScope.{env_in}
use Rattle.lk_names.specs.declared.names.Mark.{Mark}
use Rattle.lk_found.specs.declared.found.Stands.{Stands}
use Rattle.lk_checker.specs.States.{IsSound, StandsIn}
use Rattle.lk_checker.specs.declared.checker.Checker.{Checker}
use Rattle.lk_check_walk.specs.Walks.{Walks}
use Rattle.lk_typed.specs.declared.role.Role.TheVariants as role
use Rattle.lk_check_unit.specs.Bodies.{IsAround, IsKnownResult, IsPlain, IsRound}
use Rattle.lk_check_unit.specs.Scoping.{Enters}
use Rattle.lk_check_unit.specs.declared.body.Body.{Body}
use Rattle.lk_check_unit.proofs.Names.{name_turned}

-- ---- names of a set, as a list

any_of : (names : List (List ℕ)) (name : List ℕ) → is_one_of names name ≡ list_any (is_name name) names
any_of [] name = refl
any_of (other ∷ names) name = ap (λ b. if b then true else is_one_of names name) (name_turned other name) ∙ (ap (λ b. if is_name name other then true else b) (any_of names name) ∙ by (is_name name other) (list_any (is_name name) names))
  where
    by : (a b : Bool) → (if a then true else b) ≡ (a || b)
    by true b = refl
    by false b = refl

-- ---- an environment of any state

abbrev outside_of : Checker → Outside
outside_of checker = record { defined = checker.outside.defined.keys; externs = checker.outside.externs.keys }

abbrev nowhere : Checker → Env
nowhere checker =
    record { outside = outside_of checker; declared = []; base = 0; tags = []; tag_base = 0; structs = []; result = None; role = AsOperand; in_size = false }

abbrev pub somewhere : Checker → Env
somewhere checker = env_in checker.types (nowhere checker) checker.names

pub in_somewhere : (checker : Checker) → IsPlain checker (somewhere checker)
in_somewhere checker =
    record {
      is_in = record { scope = refl; defined = λ name. any_of checker.outside.defined.keys name; externs = λ name. any_of checker.outside.externs.keys name };
      role = refl;
      in_size = refl;
    }

-- ---- what nothing converts

abbrev pub plainly : Stands
plainly = record { role = role.Operand; in_size = false }

pub stands_plainly : (checker : Checker) (env : Env) → IsPlain checker env → StandsIn checker plainly env
stands_plainly checker env plain = record { is_in = plain.is_in; role = plain.role; in_size = plain.in_size }

pub as_plain : (checker : Checker) (env : Env) → IsPlain checker env → as_operand env ≡ env
as_plain checker env plain = ap (λ r. record env { role = r }) plain.role

pub plain_behind : (at_end : Env) (old new : Checker) (env : Env) (added : Additions) (nodes : List Placed) → IsPlain old env → Walks at_end old new env added nodes → IsPlain new (extend env added)
plain_behind at_end old new env added nodes plain walks = record { is_in = walks.behind; role = plain.role; in_size = plain.in_size }

-- ---- what stands round a statement

pub result_known : (old new : Table) → IsTable old → IsLonger old new → (t : Option ℕ) → IfSome t (IsKnown old) → IfSome t (IsKnown new)
result_known old new good longer None known = known
result_known old new good longer (Some t) known = known_same old new good longer t known

-- the same behind what is walked
pub round_behind : (at_end : Env) (old new : Checker) (before behind : Body) (env : Env) (around next : Around) (added : Additions) (nodes : List Placed) →
    IsSound old → IsKnownResult old before → IsRound old before env around → Walks at_end old new env added nodes → behind.returned ≡ before.returned → IsAround behind next →
    IsRound new behind (extend env added) next
round_behind at_end old new before behind env around next added nodes sound known round walks same stands =
    record {
      plain = plain_behind at_end old new env added nodes round.plain walks;
      result = ap (option_map (meaning new.types)) same ∙ (by before.returned known ∙ round.result);
      stands = stands;
    }
  where
    by : (t : Option ℕ) → IfSome t (IsKnown old.types) → option_map (meaning new.types) t ≡ option_map (meaning old.types) t
    by None known = refl
    by (Some t) known = ap Some (meaning_stays old.types new.types sound.ready.table_is walks.longer t known)

pub plain_entered : (old new : Checker) (mark : Mark) (env : Env) → Enters old new mark → IsPlain old env → IsPlain new (enter env)
plain_entered old new mark env enters plain = record { is_in = enters.entered env plain.is_in; role = plain.role; in_size = plain.in_size }

pub round_entered : (old new : Checker) (mark : Mark) (body : Body) (env : Env) (around : Around) → Enters old new mark → IsRound old body env around → IsRound new body (enter env) around
round_entered old new mark body env around enters round =
    record {
      plain = plain_entered old new mark env enters round.plain;
      result = ap (λ t. option_map (meaning t) body.returned) enters.beside.types ∙ round.result;
      stands = round.stands;
    }
