-- What is asked at the end of a source.
use Rattle.std.proofs.Common.{◌≡◌, ◌∙◌, List, [], ◌∷◌, Option, refl, sym, ap, subst}
use Rattle.std.specs.Option.{option_map}
use Rattle.lk_base.specs.declared.code.Code.{Code}
use Rattle.lk_base.specs.declared.code.Code.TheVariants.{Incomplete}
use Rattle.lk_types.specs.Table.{IsKnown}
use Rattle.lk_typed.specs.DeclaratorRules.{unless}
use Rattle.lk_typed.specs.Env.{Env}
use Rattle.lk_typed.specs.Faults.{breach}
use Rattle.lk_typed.specs.Meaning.{meaning}
use Rattle.lk_typed.specs.Sizes.{is_complete}
use Rattle.lk_typed.specs.Typings.{structs_in}
use Rattle.lk_rules.specs.Keeping.{Kept}
use Rattle.lk_check_decl.specs.Breaches.{told}
use Rattle.lk_found.specs.Keepings.{KeepsAll}
use Rattle.lk_found.specs.Findings.{mark_at}
use Rattle.lk_checker.specs.Moves.{IsSame, KeepsAt}
use Rattle.lk_checker.specs.States.{IsIn, Tells, kept_in}
use Rattle.lk_checker.specs.declared.checker.Checker.{Checker}
use Rattle.lk_check_unit.specs.Later.{AreKnownPending, AsksAll, pending_codes, pending_rules}
use Rattle.lk_check_unit.specs.declared.pending.Pending.{Pending}
use Rattle.lk_check_unit.proofs.Later.{codes_first, nothing_left}
use Rattle.lk_check_unit.proofs.Naming.{in_same, one_kept, same_then}

pub asked_one : (old new : Checker) (p : Pending) (code : Option Code) → code ≡ told (unless (is_complete (structs_in old.types old.names.structs) (meaning old.types p.ty)) Incomplete) →
    Tells old new p.at (option_map breach code) → (at_end : Env) → IsIn old at_end → KeepsAt old new p.at (pending_rules at_end (meaning old.types p.ty))
asked_one old new p code is tells at_end is_in =
    one_kept old new p.at _ Incomplete code (is ∙ ap (λ (e : Env). told (unless (is_complete e.structs (meaning old.types p.ty)) Incomplete)) is_in.scope) tells

-- those that are left are asked of behind those before them
pub record AreLeft (c0 c : Checker) (all left : List Pending) : Type 0 where
  pub same : IsSame c0 c
  pub known : AreKnownPending c0.types left
  pub on : (at_end : Env) → IsIn c0 at_end → (last : Kept) → KeepsAll at_end (kept_in c) [] (pending_codes c0.types at_end left) last → KeepsAll at_end (kept_in c0) [] (pending_codes c0.types at_end all) last

pub all_left : (c : Checker) (all : List Pending) → AreKnownPending c.types all → AreLeft c c all all
all_left c all known = record { same = record { types = refl; names = refl; outside = refl; records = refl }; known = known; on = λ at_end is_in last kept. kept }

pub next_known : (c0 c : Checker) (all left rest : List Pending) (p : Pending) → left ≡ p ∷ rest → AreLeft c0 c all left → IsKnown c.types p.ty
next_known c0 c all left rest p is were = subst (λ t. IsKnown t p.ty) (sym were.same.types) (subst (AreKnownPending c0.types) is were.known).0

pub one_less : (c0 c c1 : Checker) (all left rest : List Pending) (p : Pending) → left ≡ p ∷ rest → AreLeft c0 c all left →
    ((at_end : Env) → IsIn c at_end → KeepsAt c c1 p.at (pending_rules at_end (meaning c.types p.ty))) → IsSame c c1 → AreLeft c0 c1 all rest
one_less c0 c c1 all left rest p is were asked same =
    record {
      same = same_then c0 c c1 were.same same;
      known = (subst (AreKnownPending c0.types) is were.known).1;
      on = λ at_end is_in last kept.
          were.on at_end is_in last
          (subst (λ ps. KeepsAll at_end (kept_in c) [] (pending_codes c0.types at_end ps) last) (sym is)
          (codes_first at_end (kept_in c) (kept_in c1) last [] (mark_at p.at) (pending_rules at_end (meaning c0.types p.ty)) (pending_codes c0.types at_end rest)
          (subst (λ t. KeepsAt c c1 p.at (pending_rules at_end (meaning t p.ty))) were.same.types (asked at_end (in_same c0 c were.same at_end is_in))) kept));
    }

pub none_left : (c0 c : Checker) (all left : List Pending) → left ≡ [] → AreLeft c0 c all left → AsksAll c0 c all
none_left c0 c all left is were at_end is_in =
    were.on at_end is_in (kept_in c)
    (subst (λ ps. KeepsAll at_end (kept_in c) [] (pending_codes c0.types at_end ps) (kept_in c)) (sym is) (nothing_left at_end (kept_in c)))
