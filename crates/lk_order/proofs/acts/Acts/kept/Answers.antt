use Rattle.std.proofs.Common.{◌≡◌, ◌∙◌, true, ap, sym, subst, refl}
use Rattle.std.proofs.lemmas.Bool.{false≢true}
use Rattle.std.proofs.lemmas.List.{take_all}
use Rattle.lk_links.proofs.SetLemmas.{related_more}
use Rattle.lk_order.specs.Acquired.{Drops}
use Rattle.lk_order.specs.Acquiring.{IsKept}
use Rattle.lk_order.specs.Acts.{basis_in, linear_in}
use Rattle.lk_sets.specs.Ids.{has_id}
use Rattle.lk_order.proofs.acts.Acts.kept.Goals as goal

pub loop-x-init : goal.loop-x-init
loop-x-init c = λ y. (λ there. absurd (false≢true (subst (λ ids. has_id ids y ≡ true) c.new-ids.ensures.items there)), λ found. absurd (false≢true found.1))

pub put_kept-requires-clause-x : goal.put_kept-requires-clause-x
put_kept-requires-clause-x c = c.requires.labels c.loop-x.x-index 0 c.loop-x-test.true

pub loop-x-preserved : goal.loop-x-preserved
loop-x-preserved c =
    let self = c.args.self.now in
    related_more (IsKept (basis_in self) (linear_in self) c.args.point) c.args.labels.now c.loop-x.x-index 0 c.loop-x.ids.items c.put_kept.new.ids.items c.loop-x-test.true c.in_ok-put_kept.ensures c.loop-x.invariant

pub returns : goal.returns
returns c =
    let self = c.args.self.now in
    record {
      members = λ x.
          let same = c.in_ok-kept.ensures.members x ∙ ap (λ ids. has_id ids x) c.deref.ensures.value in
          let all = take_all c.loop-x.x-index c.args.labels.now c.loop-x-test.false in
          let here = c.loop-x.invariant x in (
            λ there.
                let found = here.0 (sym same ∙ there) in
                let is : x ≡ found.0 = found.2.1 in
                (subst (λ y. has_id c.args.labels.now y ≡ true) (sym is) (subst (λ ids. has_id ids found.0 ≡ true) all found.1), λ drops. found.2.0 (subst (Drops (basis_in self) (linear_in self) c.args.point) is drops)),
            λ both. same ∙ here.1 (x, subst (λ ids. has_id ids x ≡ true) (sym all) both.0, (both.1, refl)),
          );
    }
