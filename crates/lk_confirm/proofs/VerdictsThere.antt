-- What verdicts speak of is there: their locations and lock places, and the accesses, which are those of functions.
use Rattle.std.proofs.Common.{◌≡◌, ◌<◌, ℕ, Bool, true, List, length, get_or, map, All, Contains, sym, subst, arith}
use Rattle.std.proofs.lemmas.List.{get_or-map, length-map}
use Rattle.std.proofs.lemmas.List.Elements.{All-contains_itself, All-nil, All-weaker}
use Rattle.std.proofs.lemmas.Option.{slice_get-get_or}
use Rattle.lk_facts.proofs.Ranges.{live_within, live_function_within}
use Rattle.lk_facts.specs.Analysis.{AreVerdictsOf, held_table}
use Rattle.lk_facts.specs.Basis.{Basis}
use Rattle.lk_facts.specs.Doing.{Accesses}
use Rattle.lk_facts.specs.Doing.Accesses.{reads, writes}
use Rattle.lk_facts.specs.Facts.{basis_of, facts_of}
use Rattle.lk_facts.specs.InRange.{IsInRange}
use Rattle.lk_facts.specs.Items.{HasItem, PointItem}
use Rattle.lk_facts.specs.Lists.{Lists}
use Rattle.lk_facts.specs.Program.{live_at}
use Rattle.lk_facts.specs.Racing.{Setting, Conflicts, Races}
use Rattle.lk_facts.specs.Verdicts.{IsRacing, InLockSet, IsVerdict, AreRacing, AreNamed, IsVerdictOf}
use Rattle.lk_facts.specs.Verdicts.IsVerdict.{unshared, guarded, suspect}
use Rattle.lk_facts.specs.declared.program.Program.{Program}
use Rattle.lk_facts.specs.declared.source.Source.{Source}
use Rattle.lk_facts.specs.declared.verdict.Racing.{Racing}
use Rattle.lk_facts.specs.declared.verdict.Verdict.{Verdict}
use Rattle.lk_facts.specs.declared.verdict.VerdictState.{VerdictState}
use Rattle.lk_report.specs.Report.{AreLockPlaces, IsAccessThere, IsVerdictThere}
use Rattle.lk_sets.proofs.Members.{has_id-from_Contains}
use Rattle.lk_solve.specs.Verdicts.{HasVerdicts}

-- what holds of all numbers that a list is to have holds of each that it has
all_listed : {P Q : ℕ → Type 0} (ids : List ℕ) → Lists P ids → ((x : ℕ) → P x → Q x) → All Q ids
all_listed {P} {Q} ids lists implies =
    All-weaker (Contains ids) Q (λ x has. implies x ((lists.members x).0 (has_id-from_Contains ids x has))) ids (All-contains_itself ids)

-- what is read from an element stands in the list of what is read from each
contains_read : {X Y : Type 0} (read : X → Y) (xs : List X) (k : ℕ) (d : X) → k < length xs → Contains (map read xs) (read (get_or xs k d))
contains_read read xs k d within = (k, omega (arith, length-map xs read), get_or-map read xs k d (read (get_or xs k d)) within)

-- ---- each access is that of a live point

module _ (basis : Basis) where
  abbrev IsLive : ℕ → Type 0
  IsLive a = live_at basis.program a ≡ true

  accessed_live : {p f x : ℕ} → Accesses basis p f x → IsLive p
  accessed_live (reads a does target) = does.live
  accessed_live (writes a does target) = does.live

  item_live : {f s a : ℕ} {child : Bool} → HasItem basis f child s a → IsLive a
  item_live (HasItem.accessed here) = accessed_live here
  item_live (HasItem.risen rises below over) = item_live below

  module _ (setting : Setting) (known : (f : ℕ) (child : Bool) (s a : ℕ) → setting.has f child s a ≡ true → IsLive a) where
    point_live : {p f s a : ℕ} {source : Source} {child : Bool} → PointItem basis setting.has p f source child s a → IsLive a
    point_live (PointItem.accessed here) = accessed_live here
    point_live (PointItem.risen rises below over) = known _ _ _ _ below

    conflict_live : {f o p a : ℕ} {source : Source} {child : Bool} → Conflicts basis setting f o p source child a → IsLive a
    conflict_live (Conflicts.first both) = point_live both.first
    conflict_live (Conflicts.second both) = point_live both.second

    race_live : {f o a : ℕ} {child : Bool} → Races basis setting f child o a → IsLive a
    race_live (Races.conflict is) = conflict_live is
    race_live (Races.risen rises below) = race_live below

-- ---- the verdicts of a program

module _ (basis : Basis) (fits : IsInRange basis.program) (verdicts : List Verdict) (follow : AreVerdictsOf basis verdicts) where
  abbrev setting : Setting
  setting = record { after = follow.after; has = follow.has; held = held_table follow.held; locks = follow.item_locks }

  racing_live : (o a : ℕ) → IsRacing basis follow.races follow.race_locks o a → IsLive basis a
  racing_live o a racing =
      race_live basis setting (λ f child s x has. item_live basis (follow.items.exact.least f child s x has))
      (follow.racing.exact.least basis.program.main racing.0 o a racing.1)

  abbrev InLocks : ℕ → ℕ → ℕ → Type 0
  InLocks o a q = InLockSet basis follow.races follow.race_locks follow.linear o a q

  lock_places : (o a : ℕ) (locks : List ℕ) → Lists (InLocks o a) locks → AreLockPlaces basis.program locks
  lock_places o a locks lists = all_listed locks lists (λ q in_set. in_set.is_place.1)

  access_there : (o : ℕ) (r : Racing) → IsRacing basis follow.races follow.race_locks o r.access → Lists (InLocks o r.access) r.locks → IsAccessThere basis.program r
  access_there o r racing lists =
      let live = racing_live o r.access racing in
      record {
        access = live_within basis.program r.access live;
        function = λ f of_f. live_function_within basis.program fits r.access f live of_f;
        locks = lock_places o r.access r.locks lists;
      }

  accesses_there : (o : ℕ) (accesses : List Racing) → AreRacing basis follow.races follow.race_locks follow.linear o accesses → All (IsAccessThere basis.program) accesses
  accesses_there o accesses are k d within =
      let r = get_or accesses k d in
      let listed = contains_read (λ x. x.access) accesses k d within in
      let racing = (are.each.members r.access).0 (has_id-from_Contains (map (λ x. x.access) accesses) r.access listed) in
      access_there o r racing (are.sets k d within)

  -- where a location is guarded, a racing access has the places of the locks that guard it in its lock set
  named_there : {o : ℕ} {state : VerdictState} (locks : List ℕ) → IsVerdict basis follow.races follow.race_locks follow.linear o state →
      AreNamed basis follow.races follow.race_locks follow.linear o state locks → AreLockPlaces basis.program locks
  named_there locks (unshared none) named = subst (AreLockPlaces basis.program) (sym named) (All-nil _)
  named_there locks (guarded {a} {q} racing guards) named = all_listed locks named (λ x guards_too. (guards_too a racing).is_place.1)
  named_there locks (suspect racing none) named = subst (AreLockPlaces basis.program) (sym named) (All-nil _)

  verdict_there : (o : ℕ) (verdict : Verdict) → o < length verdicts → IsVerdictOf basis follow.races follow.race_locks follow.linear o verdict → IsVerdictThere basis.program verdict
  verdict_there o verdict within is = record {
    location = omega (arith, is.location, follow.verdicts.each, fits.locations);
    locks = named_there verdict.locks is.state is.named;
    accesses = accesses_there o verdict.accesses is.racing;
  }

  all_there : All (IsVerdictThere basis.program) verdicts
  all_there k d within = verdict_there k (get_or verdicts k d) within (follow.verdicts.are k (get_or verdicts k d) (slice_get-get_or verdicts k d within))

pub verdicts_there : (program : Program) (verdicts : List Verdict) → IsInRange program → HasVerdicts program verdicts → All (IsVerdictThere program) verdicts
verdicts_there program verdicts fits has = all_there (basis_of (facts_of program has.labels has.origins)) fits verdicts has.follow
