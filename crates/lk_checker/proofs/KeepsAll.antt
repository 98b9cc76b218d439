-- Codes that are kept at a node one after another.
use Rattle.std.proofs.Common.{◌∙◌, ◌++◌, ℕ, IfSome, Bool, true, false, List, [], ◌∷◌, Option, Some, None, refl, sym, subst}
use Rattle.std.specs.Prelude.{if◌then◌else◌, option_map}
use Rattle.lk_base.specs.declared.code.Code.TheVariants.{BitField}
use Rattle.lk_types.specs.Table.{IsKnown}
use Rattle.lk_typed.specs.Env.{Env}
use Rattle.lk_typed.specs.Faults.{Breach, breach}
use Rattle.lk_typed.specs.Stands.{Mark}
use Rattle.lk_rules.proofs.Kept.{codes_are_kept_in_turn, the_lesser_is_kept}
use Rattle.lk_rules.specs.Keeping.{Kept, KeepsCodes, keep}
use Rattle.lk_found.specs.Keepings.{Codes, KeepsEach, codes_at}
use Rattle.lk_found.specs.Findings.{mark_at}
use Rattle.lk_found.specs.declared.found.At.{At}
use Rattle.lk_found.proofs.Keepings.{no_codes}
use Rattle.lk_checker.specs.Moves.{IsSame, KeepsAt}
use Rattle.lk_checker.specs.States.{IsIn, IsSound, Tells, kept_in}
use Rattle.lk_checker.specs.declared.checker.Checker.{Checker}
use Rattle.lk_checker.proofs.States.{same_in}

-- ---- states that differ by what is kept alone

pub same_refl : (checker : Checker) → IsSame checker checker
same_refl checker = record { types = refl; names = refl; outside = refl; records = refl }

pub same_then : (a b c : Checker) → IsSame a b → IsSame b c → IsSame a c
same_then a b c f g = record { types = g.types ∙ f.types; names = g.names ∙ f.names; outside = g.outside ∙ f.outside; records = g.records ∙ f.records }

pub told_same : (old new : Checker) (at : At) (broken : Option Breach) → Tells old new at broken → IsSame old new
told_same old new at broken tells = record { types = tells.types; names = tells.names; outside = tells.outside; records = tells.records }

pub in_same : (old new : Checker) (env : Env) → IsSame old new → IsIn old env → IsIn new env
in_same old new env same is = same_in old new same.types same.names same.outside env is

pub sound_same : (old new : Checker) → IsSame old new → IsSound old → IsSound new
sound_same old new same sound = record {
  ready = rw same.types sound.ready;
  few = rw same.types sound.few;
  scope = rw (same.types, same.names) sound.scope;
  structs = rw (same.types, same.names) sound.structs;
}

pub known_same : (old new : Checker) (t : Option ℕ) → IsSame old new → IfSome t (IsKnown old.types) → IfSome t (IsKnown new.types)
known_same old new t same known = subst (λ table. IfSome t (IsKnown table)) (sym same.types) known

pub told_one : (old new : Checker) (at : At) (b : Breach) → Tells old new at (Some b) → KeepsAt old new at (b ∷ [])
told_one old new at b tells = subst (KeepsCodes (kept_in old) (mark_at at) (b ∷ [])) (sym tells.kept) (the_lesser_is_kept (kept_in old) (mark_at at) (Some b))

pub none_kept : (checker : Checker) (at : At) → KeepsAt checker checker at []
none_kept checker at = no_codes (kept_in checker) (mark_at at)

pub then_kept : (old middle new : Checker) (at : At) (bs cs : List Breach) → KeepsAt old middle at bs → KeepsAt middle new at cs → KeepsAt old new at (bs ++ cs)
then_kept old middle new at bs cs f g = codes_are_kept_in_turn (kept_in old) (kept_in middle) (kept_in new) (mark_at at) bs cs f g

pub bit_field_kept : (old : Kept) (mark : Mark) (has : Bool) →
    KeepsCodes old mark (if has then breach BitField ∷ [] else []) (keep old mark (option_map breach (if has then Some BitField else None)))
bit_field_kept old mark true = the_lesser_is_kept old mark (Some (breach BitField))
bit_field_kept old mark false = the_lesser_is_kept old mark None

-- ---- at one node after another

pub then_each : (old middle new : Kept) (xs ys : List Codes) → KeepsEach old xs middle → KeepsEach middle ys new → KeepsEach old (xs ++ ys) new
then_each old middle new [] ys f g = subst (λ k. KeepsEach k ys new) f g
then_each old middle new (x ∷ xs) ys f g = (f.0, f.1, then_each f.0 middle new xs ys f.2 g)

pub one_each : (old new : Kept) (mark : Mark) (bs : List Breach) → KeepsCodes old mark bs new → KeepsEach old (codes_at mark bs ∷ []) new
one_each old new mark bs keeps = (new, keeps, refl)
