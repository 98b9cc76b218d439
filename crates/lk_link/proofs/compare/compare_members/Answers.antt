use Rattle.std.proofs.Common.{◌≡◌, ◌∙◌, sym, arith, true, false, take}
use Rattle.lk_types.proofs.KeptLemmas.{read_got}
use Rattle.lk_link.specs.Comparing.{AreOneMembersHere}
use Rattle.lk_link.proofs.Answering.{answered_never}
use Rattle.lk_link.proofs.Members.{member_known, members_last, members_step, members_stop}
use Rattle.lk_link.proofs.Meeting.{names_same, names_differ}
use Rattle.lk_link.proofs.compare.compare_members.Goals as goal

pub compare_types-requires-clause-first : goal.compare_types-requires-clause-first
compare_types-requires-clause-first c =
    let at = read_got c.args.members.now c.loop-place.place c.index-members-place.result c.loop-place-test.true c.index-members-place.is in
    member_known c.args.first.now.types c.args.members.now c.loop-place.place c.index-members-place.result c.requires.first at

pub compare_types-requires-clause-second : goal.compare_types-requires-clause-second
compare_types-requires-clause-second c =
    let bt = read_got c.args.others.now c.loop-place.place c.index-others-place.result (omega (arith, c.if-members-others.false, c.loop-place-test.true)) c.index-others-place.is in
    member_known c.args.second.now.types c.args.others.now c.loop-place.place c.index-others-place.result c.requires.second bt

pub returns-then-ne : goal.returns-then-ne
returns-then-ne c =
    let at = read_got c.args.members.now c.loop-place.place c.index-members-place.result c.loop-place-test.true c.index-members-place.is in
    let bt = read_got c.args.others.now c.loop-place.place c.index-others-place.result (omega (arith, c.if-members-others.false, c.loop-place-test.true)) c.index-others-place.is in
    answered_never (λ ps. AreOneMembersHere c.args.first.now c.args.second.now ps (take c.loop-place.place c.args.members.now) (take c.loop-place.place c.args.others.now))
    (λ ps. AreOneMembersHere c.args.first.now c.args.second.now ps c.args.members.now c.args.others.now) c.loop-place.invariant
    (λ ps h.
    let one = members_last c.args.first.now c.args.second.now ps c.args.members.now c.args.others.now c.loop-place.place c.index-members-place.result c.index-others-place.result at bt h in
    names_differ c.index-members-place.result.name c.index-others-place.result.name (sym c.ne.ensures ∙ c.if-ne.true) one.0)

pub returns-then-not-branch : goal.returns-then-not-branch
returns-then-not-branch c =
    let at = read_got c.args.members.now c.loop-place.place c.index-members-place.result c.loop-place-test.true c.index-members-place.is in
    let bt = read_got c.args.others.now c.loop-place.place c.index-others-place.result (omega (arith, c.if-members-others.false, c.loop-place-test.true)) c.index-others-place.is in
    let no : c.in_ok-compare_types.field-0 ≡ false = cc in
    members_stop c.args.first.now c.args.second.now c.args.members.now c.args.others.now c.loop-place.place c.index-members-place.result c.index-others-place.result at bt
    c.args.pairs.now c.loop-place.pairs c.compare_types.new.pairs c.loop-place.invariant c.in_ok-compare_types.field-0 no c.in_ok-compare_types.ensures

pub loop-place-preserved : goal.loop-place-preserved
loop-place-preserved c =
    let at = read_got c.args.members.now c.loop-place.place c.index-members-place.result c.loop-place-test.true c.index-members-place.is in
    let bt = read_got c.args.others.now c.loop-place.place c.index-others-place.result (omega (arith, c.if-members-others.false, c.loop-place-test.true)) c.index-others-place.is in
    let yes : c.in_ok-compare_types.field-0 ≡ true = cc in
    members_step c.args.first.now c.args.second.now c.args.members.now c.args.others.now c.loop-place.place c.index-members-place.result c.index-others-place.result at bt
    c.args.pairs.now c.loop-place.pairs c.compare_types.new.pairs c.loop-place.invariant (names_same c.index-members-place.result.name c.index-others-place.result.name (sym c.ne.ensures ∙ c.if-ne.false)) c.in_ok-compare_types.field-0 yes c.in_ok-compare_types.ensures
