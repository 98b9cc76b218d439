-- A race in a run is at a location that is called suspect: by another verdict no racing access was found, or one mutex had two owners.
use Rattle.std.proofs.Common.{◌≡◌, ℕ, true, List, refl, sym, ap, ◌∙◌}
use Rattle.std.proofs.lemmas.Option.{same_Some}
use Rattle.lk_cells.specs.declared.state.State.{State}
use Rattle.lk_facts.specs.Analysis.{AreVerdictsOf}
use Rattle.lk_facts.specs.Basis.{Basis}
use Rattle.lk_facts.specs.Verdicts.{IsVerdict}
use Rattle.lk_facts.specs.Verdicts.IsVerdict.{unshared, guarded, suspect}
use Rattle.lk_facts.specs.declared.edge.Edge.{Edge}
use Rattle.lk_facts.specs.declared.verdict.Verdict.{Verdict}
use Rattle.lk_facts.specs.declared.verdict.VerdictState.{VerdictState}
use Rattle.lk_facts.specs.declared.verdict.VerdictState.TheVariants.{Suspect}
use Rattle.lk_meaning.specs.Laws.{mutex_in}
use Rattle.lk_meaning.specs.Reached.{Reached}
use Rattle.lk_safe.specs.Soundness.{OwnsPlace, IsFound, RacesAreFound, LinearIsOne, RacesAreSuspect, tables_behind}
use Rattle.lk_safe.specs.Steps.{IsFollowed}
use Rattle.lk_trails.specs.Rising.{AreClosedTables}
use Rattle.lk_values.specs.declared.value.Mutex.TheVariants.{Owned}

owner_is : (a b : ℕ) → Owned a ≡ Owned b → a ≡ b
owner_is a b h = cc

module _ (basis : Basis) (es : List Edge) (followed : IsFollowed basis es) (verdicts : List Verdict) (are : AreVerdictsOf basis verdicts) where
  -- the tables of the analysis are closed
  pub tables_closed : AreClosedTables basis (tables_behind basis verdicts are)
  tables_closed = record {
    lock_sets = are.lock_sets.closed;
    order = λ p q after. (are.order p q).1 after;
    items = are.items.closed;
    racing = are.racing.closed;
    linear = λ q is. (are.is_linear q).0 is;
  }

  module _ (one_cell : LinearIsOne) (s : State) (reached : Reached basis.program s) where
    -- a linear lock place has one owner
    one_owner : (q t u : ℕ) → are.linear q ≡ true → OwnsPlace basis s t q → OwnsPlace basis s u q → t ≡ u
    one_owner q t u linear mine yours =
        let same : mine.cell ≡ yours.cell = one_cell basis es followed s reached q ((are.is_linear q).0 linear) mine.cell yours.cell mine.of yours.of in
        owner_is t u (same_Some (Owned t) (Owned u) (sym mine.owns ∙ (ap (λ c. mutex_in basis.program s c) same ∙ yours.owns)))

    by_state : {o : ℕ} {state : VerdictState} → IsVerdict basis are.races are.race_locks are.linear o state → (t u : ℕ) → (t ≡ u → ⊥) →
        IsFound basis (tables_behind basis verdicts are) s t o → IsFound basis (tables_behind basis verdicts are) s u o → state ≡ Suspect
    by_state (unshared none) t u different mine yours = absurd (none mine.thread.frame.point (mine.child, mine.races))
    by_state (guarded {a} {q} racing guards) t u different mine yours =
        let first = guards mine.thread.frame.point (mine.child, mine.races) in
        let second = guards yours.thread.frame.point (yours.child, yours.races) in
        absurd (different (one_owner q t u first.is_linear (mine.owns q first.is_locked) (yours.owns q second.is_locked)))
    by_state (suspect racing none) t u different mine yours = refl

pub races_are_suspect : RacesAreFound → LinearIsOne → RacesAreSuspect
races_are_suspect found one_cell basis es followed verdicts are s reached cell race o located verdict there =
    let both = found basis es followed (tables_behind basis verdicts are) (tables_closed basis es followed verdicts are) s reached cell race o located in
    by_state basis es followed verdicts are one_cell s reached (are.verdicts.are o verdict there).state race.first race.second race.different both.0 both.1
