use Rattle.std.proofs.Common.{◌≡◌, ◌<◌, ◌∙◌, ℕ, [], List, All, ap, subst, sym, arith}
use Rattle.lk_facts.specs.Facts.{basis_of}
use Rattle.lk_facts.specs.Verdicts.{AreRacing}
use Rattle.lk_facts.specs.declared.program.Program.{Program}
use Rattle.lk_facts.specs.declared.verdict.Racing.{Racing}
use Rattle.lk_rise.specs.Conflicts.{every_place}
use Rattle.lk_rise.specs.Correlations.{has_of, locks_of}
use Rattle.lk_conflict.specs.Listing.{subjects_of}
use Rattle.lk_conflict.proofs.EntryLemmas.{subjects_within}
use Rattle.lk_conflict.proofs.PlaceLemmas.{each_more}
use Rattle.lk_conflict.proofs.racing.racing_lists.Goals as goal

pub new-requires : goal.new-requires
new-requires c =
    let facts = c.args.facts.now in
    let keys : c.deref.result.now ≡ subjects_of c.args.items.now = c.deref.ensures.value ∙ c.in_ok-keys.ensures in
    let count : c.locations.result ≡ facts.program.locations = c.locations.ensures.value ∙ ap (λ (q : Program). q.locations) c.points.ensures.value in
    subst (λ n. All (λ o. o < n) c.deref.result.now) (sym count)
    (subst (All (λ o. o < facts.program.locations)) (sym keys) (subjects_within facts facts.program.locations c.args.items.now c.requires))

pub loop-location-preserved : goal.loop-location-preserved
loop-location-preserved c =
    let P : ℕ → List Racing → Type 0 = AreRacing (basis_of c.args.facts.now) (has_of c.args.items.now) (locks_of c.args.items.now) every_place in
    record {
      each = omega (arith, c.in_ok-push.ensures.len, c.loop-location.invariant.each);
      are = each_more P [] c.loop-location.racing.items c.push.new.self.items c.new-in-loop-location.result c.loop-location.location c.in_ok-push.ensures.items c.loop-location.invariant.each
          (subst (P c.loop-location.location) (sym c.new-in-loop-location.ensures) c.in_ok-accesses.ensures) c.loop-location.invariant.are;
    }

pub returns : goal.returns
returns c =
    let end : c.loop-location.location ≡ c.args.facts.now.program.locations =
    omega (arith, c.loop-location.auto.location-end, c.loop-location-test.false, c.locations-location-end.ensures.value ∙ ap (λ (q : Program). q.locations) c.points-2.ensures.value) in
    record {
      each = c.loop-location.invariant.each ∙ end;
      are = λ o within. c.loop-location.invariant.are o (subst (λ n. o < n) (sym end) within);
    }
