use Rattle.std.proofs.Common.{◌++◌, ◌∷◌, [], take, sym, subst}
use Rattle.std.proofs.lemmas.List.{take_more}
use Rattle.std.specs.List.{AllZip}
use Rattle.lk_join.specs.Forms.{IsMember}
use Rattle.lk_join.proofs.Zips.{zip_push}
use Rattle.lk_join.proofs.forms.Source.members_here.Goals as goal

pub loop-member-preserved : goal.loop-member-preserved
loop-member-preserved c =
    let row = c.args.row.now in
    let items = c.members-member-items.result.now in
    let n = c.loop-member.member-index in
    let member = c.member-item.result in
    subst (λ ms. AllZip (IsMember row) ms c.push.new.self.items) (sym (take_more items n member c.loop-member-test.true))
    (subst (λ m. AllZip (IsMember row) (take n items ++ m ∷ []) c.push.new.self.items) c.member-item.is
    (subst (AllZip (IsMember row) (take n items ++ member ∷ [])) (sym c.in_ok-push.ensures.items)
    (zip_push (IsMember row) (take n items) c.loop-member.members.items member c.in_ok-here.here c.loop-member.invariant c.in_ok-here.ensures)))
