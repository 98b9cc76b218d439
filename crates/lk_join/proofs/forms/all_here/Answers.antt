use Rattle.std.proofs.Common.{◌++◌, ◌∷◌, [], take, sym, subst}
use Rattle.std.proofs.lemmas.List.{take_more}
use Rattle.std.specs.List.{AllZip}
use Rattle.lk_join.specs.Forms.{IsHere}
use Rattle.lk_join.proofs.Zips.{zip_push}
use Rattle.lk_join.proofs.forms.all_here.Goals as goal

pub loop-t-preserved : goal.loop-t-preserved
loop-t-preserved c =
    let row = c.args.row.now in
    let types = c.args.types.now in
    let n = c.loop-t.t-index in
    let t = c.t-item.result in
    subst (λ ts. AllZip (IsHere row) ts c.push.new.self.items) (sym (take_more types n t c.loop-t-test.true))
    (subst (λ u. AllZip (IsHere row) (take n types ++ u ∷ []) c.push.new.self.items) c.t-item.is
    (subst (AllZip (IsHere row) (take n types ++ t ∷ [])) (sym c.in_ok-push.ensures.items)
    (zip_push (IsHere row) (take n types) c.loop-t.list.items t c.here.result c.loop-t.invariant c.here.ensures)))
