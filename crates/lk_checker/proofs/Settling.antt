-- An expression whose parts are judged: its code is kept, and what is found of it.
use Rattle.std.proofs.Common.{◌≡◌, ◌∙◌, List, Option, map, sym, ap, subst}
use Rattle.std.specs.Prelude.{option_map}
use Rattle.lk_tree.specs.declared.expression.Expr.{Expr}
use Rattle.lk_typed.specs.Env.{Env}
use Rattle.lk_typed.specs.ExprRules.{look_of, rule}
use Rattle.lk_typed.specs.Expressions.{breach_at, written}
use Rattle.lk_typed.specs.Faults.{Breach}
use Rattle.lk_typed.specs.NodeRules.{mark}
use Rattle.lk_typed.specs.Typing.{codes_of, typing_of}
use Rattle.lk_typed.specs.Typings.{structs_in}
use Rattle.lk_typed.specs.declared.members.Members.{Members}
use Rattle.lk_rules.specs.Keeping.{KeepsCodes, keep}
use Rattle.lk_check_expr.specs.Looks.{IsLook}
use Rattle.lk_check_expr.specs.declared.looks.Look.{Look}
use Rattle.lk_found.specs.Addresses.{kept_of}
use Rattle.lk_found.specs.Judging.{Gives, IsRuled, code_in, typed_in}
use Rattle.lk_found.specs.Findings.{IsFoundTyping, JudgedForm, mark_at}
use Rattle.lk_found.specs.declared.found.At.{At}
use Rattle.lk_found.specs.declared.found.Found.{Found}
use Rattle.lk_found.specs.declared.ruled.Ruled.{Ruled}
use Rattle.lk_found.proofs.Settling.{verdict_kept, found_by, longer_as, SoundOf}
use Rattle.lk_types.specs.Building.{IsLonger}
use Rattle.lk_types.specs.Table.{Table}
use Rattle.lk_types.proofs.GrowLemmas.{longer_then}
use Rattle.lk_checker.specs.States.{IsIn, IsSound, Settles, Tells, kept_in}
use Rattle.lk_checker.specs.declared.checker.Checker.{Checker}

sound_parts : (checker : Checker) → IsSound checker → SoundOf checker.types checker.names
sound_parts checker s = record { ready = s.ready; few = s.few; scope = s.scope; structs = s.structs }

sound_of : (checker : Checker) → SoundOf checker.types checker.names → IsSound checker
sound_of checker s = record { ready = s.ready; few = s.few; scope = s.scope; structs = s.structs }

pub sound_same : (old new : Checker) → IsSound old → new.types ≡ old.types → new.names ≡ old.names → IsSound new
sound_same old new s e d =
    sound_of new (subst (λ table. SoundOf table new.names) (sym e) (subst (SoundOf old.types) (sym d) (sound_parts old s)))

-- ---- an expression is settled

pub settled : (old new : Checker) (e : Expr) (env behind : Env) (form : JudgedForm) (ruled : Ruled) (look : Look) (at : At) (broken : Option Breach) (found : Found) → IsSound old →
    mark_at at ≡ mark e.spot e.ordinal → Tells old new at broken → broken ≡ option_map (breach_at (written e)) (code_in ruled.verdict) →
    found.typing ≡ typed_in ruled.verdict → found.address ≡ ruled.address → found.look ≡ look →
    IsRuled old.types ruled (rule behind e.ordinal form) → IsLook env look (look_of env form) → Settles old new e env behind form found
settled old new e env behind form ruled look at broken found sound place tells same typing address seen is looks =
    let v = rule behind e.ordinal form in
    let kept : kept_in new ≡ keep (kept_in old) (mark e.spot e.ordinal) (option_map (breach_at (written e)) (code_in ruled.verdict)) =
    tells.kept ∙ ap (λ m. keep (kept_in old) m broken) place ∙ ap (keep (kept_in old) (mark e.spot e.ordinal)) same in
    record {
      keeps =
          subst (KeepsCodes (kept_in old) (mark e.spot e.ordinal) (map (breach_at (written e)) (codes_of v))) (sym kept)
          (verdict_kept (kept_in old) (mark e.spot e.ordinal) (written e) old.types ruled.verdict v is.verdict);
      types = longer_as old.types new.types tells.types;
      sound = sound_same old new sound tells.types tells.names;
      names = tells.names;
      outside = tells.outside;
      records = tells.records;
      found = record {
        typing =
            subst (λ table. IsFoundTyping table found (typing_of v)) (sym tells.types)
            (found_by old.types found ruled.verdict v is.verdict typing (subst (λ a. Gives (λ x. a ≡ kept_of x.address) v) (sym address) is.address));
        look = subst (λ look. IsLook env look (look_of env form)) (sym seen) looks;
      };
    }

-- the structs of the state are those of an environment in which it is
pub structs_are : (checker : Checker) (behind : Env) (structs : List Members) → IsIn checker behind → structs ≡ checker.names.structs → structs_in checker.types structs ≡ behind.structs
structs_are checker behind structs is_in same = ap (structs_in checker.types) same ∙ ap (λ (env : Env). env.structs) is_in.scope

-- a table that grew before an expression was settled grew while it was
pub text_settles : (old : Checker) (types : Table) (new : Checker) (e : Expr) (env behind : Env) (form : JudgedForm) (found : Found) → IsLonger old.types types →
    Settles (record old { types = types }) new e env behind form found → Settles old new e env behind form found
text_settles old types new e env behind form found longer s =
    record { keeps = s.keeps; types = longer_then old.types types new.types longer s.types; sound = s.sound; names = s.names; outside = s.outside; records = s.records; found = s.found }
