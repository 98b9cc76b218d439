use Rattle.lk_facts.specs.Facts.{basis_of}
use Rattle.std.proofs.Common.{◌∙◌, ◌++◌, [], ◌∷◌, map, get_or, take, sym, ap, subst, All}
use Rattle.std.proofs.lemmas.List.{map-append, take_all, take_more}
use Rattle.std.proofs.lemmas.List.Elements.{All-push}
use Rattle.lk_facts.specs.Lists.{Lists}
use Rattle.lk_facts.specs.Verdicts.{AreRacing, InLockSet, IsRacing}
use Rattle.lk_facts.specs.declared.verdict.Racing.{Racing}
use Rattle.lk_rise.specs.Conflicts.{every_place}
use Rattle.lk_rise.specs.Correlations.{has_of, locks_of}
use Rattle.lk_sets.specs.Ids.{has_id}
use Rattle.lk_conflict.proofs.PlaceLemmas.{set_narrowed}
use Rattle.lk_verdicts.proofs.judging.Judging.racing.Goals as goal

pub loop-access-preserved : goal.loop-access-preserved
loop-access-preserved c =
    let self = c.args.self.now in
    let entries = self.conflicts.now.entries in
    let list = c.racing-access-items.result.now in
    let r = c.access-item.result in
    let new : Racing = record { access = r.access; locks = c.in_ok-locks.locks } in
    let given : AreRacing (basis_of self.facts.now) (has_of entries) (locks_of entries) every_place c.args.location list =
    subst (AreRacing (basis_of self.facts.now) (has_of entries) (locks_of entries) every_place c.args.location) (sym c.racing-access-items.ensures) (c.requires.racing.are c.args.location c.requires.location) in
    let P : Racing → Type 0 = λ s. Lists (InLockSet (basis_of self.facts.now) (has_of entries) (locks_of entries) (has_id self.linear.now) c.args.location s.access) s.locks in
    let Q : Racing → Type 0 = λ s. Lists (InLockSet (basis_of self.facts.now) (has_of entries) (locks_of entries) every_place c.args.location s.access) s.locks in
    let here : Q r = subst Q (sym c.access-item.is) (given.sets c.loop-access.access-index r c.loop-access-test.true) in
    record {
      accesses =
          ap (map (λ (s : Racing). s.access)) c.in_ok-push.ensures.items ∙ map-append (λ (s : Racing). s.access) c.loop-access.racing.items (new ∷ [])
          ∙ ap (λ xs. xs ++ r.access ∷ []) c.loop-access.invariant.accesses
          ∙ ap (λ (s : Racing). map (λ (t : Racing). t.access) (take c.loop-access.access-index list) ++ s.access ∷ []) c.access-item.is
          ∙ sym (ap (map (λ (s : Racing). s.access)) (take_more list c.loop-access.access-index r c.loop-access-test.true) ∙ map-append (λ (s : Racing). s.access) (take c.loop-access.access-index list) (get_or list c.loop-access.access-index r ∷ []));
      sets = subst (All P) (sym c.in_ok-push.ensures.items) (All-push P c.loop-access.racing.items new c.loop-access.invariant.sets (set_narrowed (basis_of self.facts.now) entries self.linear.now c.args.location r.access r.locks c.in_ok-locks.locks here c.in_ok-locks.ensures));
    }

pub returns : goal.returns
returns c =
    let self = c.args.self.now in
    let entries = self.conflicts.now.entries in
    let list = c.racing-access-items.result.now in
    let given : AreRacing (basis_of self.facts.now) (has_of entries) (locks_of entries) every_place c.args.location list =
    subst (AreRacing (basis_of self.facts.now) (has_of entries) (locks_of entries) every_place c.args.location) (sym c.racing-access-items.ensures) (c.requires.racing.are c.args.location c.requires.location) in
    record {
      each = subst (Lists (IsRacing (basis_of self.facts.now) (has_of entries) (locks_of entries) c.args.location))
          (sym (c.loop-access.invariant.accesses ∙ ap (map (λ (s : Racing). s.access)) (take_all c.loop-access.access-index list c.loop-access-test.false))) given.each;
      sets = c.loop-access.invariant.sets;
    }
