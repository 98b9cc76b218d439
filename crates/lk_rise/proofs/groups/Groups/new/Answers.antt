use Rattle.std.proofs.Common.{◌≡◌, ◌∙◌, length, get_or, arith}
use Rattle.std.proofs.lemmas.List.{get_or_default}
use Rattle.lk_rise.specs.Groups.{lists_of}
use Rattle.lk_rise.proofs.GroupLemmas.{groups_all, groups_more}
use Rattle.lk_rise.proofs.groups.Groups.new.Goals as goal

pub loop-place-preserved : goal.loop-place-preserved
loop-place-preserved c =
    let keys = c.args.keys.now in
    let n = c.loop-place.place in
    let key = get_or keys n 0 in
    record {
      long = c.in_ok-push_place.ensures.length ∙ c.loop-place.invariant.long;
      groups = groups_more keys n key (lists_of c.loop-place.lists.items) (lists_of c.push_place.new.lists.items) c.loop-place-test.true (get_or_default keys n 0 key c.loop-place-test.true)
          c.loop-place.invariant.groups c.in_ok-push_place.ensures.here c.in_ok-push_place.ensures.others;
    }

pub returns-clause-groups : goal.returns-clause-groups
returns-clause-groups c =
    let end : c.loop-place.place ≡ length c.args.keys.now = omega (arith, c.loop-place.auto.place-end, c.loop-place-test.false) in
    groups_all c.args.keys.now c.loop-place.place (lists_of c.loop-place.lists.items) end c.loop-place.invariant.groups
