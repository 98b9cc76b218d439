-- The least fault so far, when a code is told.
use Rattle.std.proofs.Common.{◌≡◌, ◌∙◌, true, false, Option, Some, None, List, ℕ, refl, sym, ap}
use Rattle.std.specs.Prelude.{option_map, if◌then◌else◌}
use Rattle.std.proofs.lemmas.Bool.{false≢true}
use Rattle.lk_base.specs.declared.code.Code.{Code}
use Rattle.lk_typed.specs.Faults.{Breach, Fault}
use Rattle.lk_typed.specs.Stands.{fault_at}
use Rattle.lk_rules.specs.FirstFaults.{lesser_fault}
use Rattle.lk_found.specs.Findings.{mark_at}
use Rattle.lk_found.specs.declared.found.At.{At}
use Rattle.lk_checker.specs.States.{Tells, fault_of, first_of}
use Rattle.lk_checker.specs.declared.checker.Checker.{Checker}
use Rattle.lk_checker.specs.declared.checker.FaultFound.{FaultFound}

not_first : (least : Option FaultFound) (f : Fault) → first_of least f ≡ false → option_map fault_of least ≡ lesser_fault (option_map fault_of least) f
not_first None f h = absurd (false≢true (sym h))
not_first (Some g) f h = ap (λ b. Some (if b then f else fault_of g)) (sym h)

is_first : (least : Option FaultFound) (f : Fault) → first_of least f ≡ true → Some f ≡ lesser_fault (option_map fault_of least) f
is_first None f h = refl
is_first (Some g) f h = ap (λ b. Some (if b then f else fault_of g)) (sym h)

abbrev code_told : Code → List ℕ → Breach
code_told code name = record { code = code; name = name }

pub tells_behind : (old : Checker) (at : At) (code : Code) (name : List ℕ) → first_of old.least (fault_at (mark_at at) (code_told code name)) ≡ false →
    Tells old (record old { is_broken = true }) at (Some (code_told code name))
tells_behind old at code name h =
    record { kept = ap (λ o. record { least = o; is_broken = true }) (not_first old.least (fault_at (mark_at at) (code_told code name)) h); types = refl; names = refl; outside = refl; records = refl }

pub tells_before : (old : Checker) (at : At) (code : Code) (name other : List ℕ) → other ≡ name → first_of old.least (fault_at (mark_at at) (code_told code name)) ≡ true →
    Tells old (record old { least = Some (record { at = at; code = code; name = other }); is_broken = true }) at (Some (code_told code name))
tells_before old at code name other same h =
    record {
      kept =
          ap (λ name. record { least = Some (fault_at (mark_at at) (code_told code name)); is_broken = true }) same ∙
          ap (λ o. record { least = o; is_broken = true }) (is_first old.least (fault_at (mark_at at) (code_told code name)) h);
      types = refl;
      names = refl;
      outside = refl;
      records = refl;
    }
