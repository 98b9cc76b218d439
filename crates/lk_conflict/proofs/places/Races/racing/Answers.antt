use Rattle.lk_facts.specs.Facts.{basis_of}
use Rattle.std.proofs.Common.{◌≡◌, ◌∙◌, ◌++◌, [], ◌∷◌, true, map, get_or, sym, ap, subst, All}
use Rattle.std.proofs.lemmas.List.{map-append, take_all, take_more}
use Rattle.std.proofs.lemmas.List.Elements.{All-push, Contains-get_or}
use Rattle.lk_facts.specs.Lists.{Lists}
use Rattle.lk_facts.specs.Verdicts.{InLockSet, IsRacing}
use Rattle.lk_facts.specs.declared.verdict.Racing.{Racing}
use Rattle.lk_rise.specs.Conflicts.{every_place}
use Rattle.lk_rise.specs.Correlations.{has_of, locks_of}
use Rattle.lk_sets.specs.Ids.{has_id}
use Rattle.lk_sets.proofs.Members.{has_id-from_Contains}
use Rattle.lk_conflict.proofs.places.Races.racing.Goals as goal

pub lock_set-requires : goal.lock_set-requires
lock_set-requires c =
    let list = c.ids-access-items.result.now in
    (c.in_ok-accesses.ensures.members _).0
    (subst (λ ids. has_id ids (get_or list c.loop-access.access-index 0) ≡ true) c.ids-access-items.ensures.list (has_id-from_Contains list _ (Contains-get_or list c.loop-access.access-index 0 c.loop-access-test.true)))

pub loop-access-preserved : goal.loop-access-preserved
loop-access-preserved c =
    let self = c.args.self.now in
    let list = c.ids-access-items.result.now in
    let a = get_or list c.loop-access.access-index 0 in
    let new : Racing = record { access = a; locks = c.in_ok-locks.locks } in
    record {
      accesses =
          ap (map (λ (r : Racing). r.access)) c.in_ok-push.ensures.items ∙ map-append (λ (r : Racing). r.access) c.loop-access.racing.items (new ∷ [])
          ∙ ap (λ xs. xs ++ a ∷ []) c.loop-access.invariant.accesses ∙ sym (take_more list c.loop-access.access-index 0 c.loop-access-test.true);
      sets =
          let P : Racing → Type 0 = λ r. Lists (InLockSet (basis_of self.facts.now) (has_of self.items.now) (locks_of self.items.now) every_place c.args.location r.access) r.locks in
          subst (All P) (sym c.in_ok-push.ensures.items) (All-push P c.loop-access.racing.items new c.loop-access.invariant.sets c.in_ok-locks.ensures);
    }

pub returns : goal.returns
returns c =
    let self = c.args.self.now in
    let list = c.ids-access-items.result.now in
    record {
      each = subst (Lists (IsRacing (basis_of self.facts.now) (has_of self.items.now) (locks_of self.items.now) c.args.location))
          (sym (c.loop-access.invariant.accesses ∙ take_all c.loop-access.access-index list c.loop-access-test.false ∙ c.ids-access-items.ensures.list)) c.in_ok-accesses.ensures;
      sets = c.loop-access.invariant.sets;
    }
