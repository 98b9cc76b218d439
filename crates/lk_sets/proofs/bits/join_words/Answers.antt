use Rattle.std.proofs.Common.{◌<◌, ◌≡◌, ◌^◌, arith}
use Rattle.lk_sets.proofs.WordBits.{join_more, adds_more, same_more, joined_all}
use Rattle.lk_sets.proofs.bits.join_words.Goals as goal

pub loop-i-preserved : goal.loop-i-preserved
loop-i-preserved c =
    let old = c.args.words.now.items in
    let new = c.loop-i.words.items in
    let so_far = c.loop-i.invariant in
    let fits : c.index.result.now < 2 ^ 64 = omega arith in
    record {
      joined = join_more old new c.args.from c.args.into c.args.count c.loop-i.i so_far.joined c.requires.apart c.loop-i-test.true c.requires.into _ _ c.index-old.ensures c.index.ensures c.requires.from;
      added = adds_more old new c.args.from c.args.into c.args.count c.loop-i.i so_far.joined c.requires.apart c.loop-i-test.true c.requires.into _ _ c.index-old.ensures c.index.ensures c.requires.from c.loop-i.added so_far.added fits;
      same = same_more old new c.args.from c.args.into c.args.count c.loop-i.i so_far.joined c.requires.apart c.loop-i-test.true c.requires.into _ _ c.index-old.ensures c.index.ensures c.requires.from c.loop-i.added so_far.same;
    }

pub returns-clause-joined : goal.returns-clause-joined
returns-clause-joined c =
    let all : c.loop-i.i ≡ c.args.count = omega arith in
    joined_all c.args.words.now.items c.loop-i.words.items c.args.from c.args.into c.args.count (rw (← all) c.loop-i.invariant.joined)
