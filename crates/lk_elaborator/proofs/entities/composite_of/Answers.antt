use Rattle.std.proofs.Common.{◌∙◌, sym, ap, subst, take, Some}
use Rattle.std.specs.Prelude.{IfSome}
use Rattle.std.proofs.lemmas.List.{take_all}
use Rattle.std.proofs.lemmas.Option.{slice_get-get_or}
use Rattle.lk_types.specs.Table.{IsKnown}
use Rattle.lk_types.proofs.FormEq.{take_more}
use Rattle.lk_types.proofs.GrowLemmas.{longer_then}
use Rattle.lk_elaborator.proofs.Finishing.{IsSoFar, composite_found, so_far_more}
use Rattle.lk_elaborator.proofs.entities.composite_of.Goals as goal

pub loop-declaration-preserved : goal.loop-declaration-preserved
loop-declaration-preserved c =
    let was = c.loop-declaration.invariant in
    let now = c.in_ok-composite_with.ensures in
    let old = c.loop-declaration.types in
    let new = c.composite_with.new.types in
    let all = c.args.declarations.now in
    let index = c.loop-declaration.declaration-index in
    let is = c.declaration-item.result in
    let made = c.in_ok-composite_with.field-0 in
    let here = slice_get-get_or all index is c.loop-declaration-test.true ∙ ap Some (sym c.declaration-item.is) in
    record {
      few = now.few;
      known = now.known;
      longer = longer_then c.args.types.now old new was.longer now.longer;
      members = now.members ∙ was.members;
      ready = λ ready. now.ready (was.ready ready);
      so_far = λ ready. subst (λ ds. IsSoFar new ds (Some made)) (take_more all index is here)
          (so_far_more old new (was.ready ready) now.longer (take index all) is now.given c.loop-declaration.before made now.means (was.so_far ready));
    }

pub returns-in-Some-clause-composite : goal.returns-in-Some-clause-composite
returns-in-Some-clause-composite c = λ ready.
    let was = c.loop-declaration.invariant in
    let all = c.args.declarations.now in
    let index = c.loop-declaration.declaration-index in
    let known = subst (λ t. IfSome t (IsKnown c.loop-declaration.types)) c.in-Some.is was.known in
    let so_far = subst (IsSoFar c.loop-declaration.types all) c.in-Some.is
    (subst (λ ds. IsSoFar c.loop-declaration.types ds c.loop-declaration.before) (take_all index all c.loop-declaration-test.false) (was.so_far ready)) in
    composite_found c.loop-declaration.types all c.in-Some.t (was.ready ready) known so_far
