-- An enumerator is declared behind its codes.
use Rattle.std.proofs.Common.{◌≡◌, ◌∙◌, List, Option, sym, ap, subst}
use Rattle.std.specs.Prelude.{slice_get, ℤ}
use Rattle.lk_typed.specs.Env.{Env, Name}
use Rattle.lk_typed.specs.Faults.{Breach}
use Rattle.lk_typed.specs.Told.{declares, enumerator}
use Rattle.lk_rules.specs.Keeping.{KeepsCodes}
use Rattle.lk_names.specs.InScope.{InScope}
use Rattle.lk_types.specs.Building.{IsLonger}
use Rattle.lk_found.specs.Findings.{mark_at}
use Rattle.lk_found.specs.declared.found.At.{At}
use Rattle.lk_checker.specs.Counting.{IsSettled}
use Rattle.lk_checker.specs.Moves.{GoesOn, Grows, IsSame}
use Rattle.lk_checker.proofs.KeepsAll.{in_same}
use Rattle.lk_checker.specs.States.{IsIn, kept_in}
use Rattle.lk_checker.specs.declared.checker.Checker.{Checker}

pub item_settled : (old middle new : Checker) (env : Env) (at : At) (name : Name) (value : Option ℤ) (broken : List Breach) → IsSame old middle →
    KeepsCodes (kept_in old) (mark_at at) broken (kept_in middle) → Grows middle new → new.names.structs ≡ middle.names.structs →
    GoesOn middle new (λ env. declares name at.ordinal (enumerator value)) → IsIn old env → IsSettled old new env at name value broken
item_settled old middle new env at name value broken same keeps grows structs goes is = record {
  keeps = subst (KeepsCodes (kept_in old) (mark_at at) broken) (sym grows.kept) keeps;
  longer = subst (λ table. IsLonger table new.types) same.types grows.longer;
  sound = grows.sound;
  outside = grows.outside ∙ same.outside;
  begun = λ s begun. ap (λ ss. slice_get ss s) structs ∙ ap (λ (names : InScope). slice_get names.structs s) same.names ∙ begun;
  records = grows.records ∙ same.records;
  behind = goes env (in_same old middle env same is);
}
