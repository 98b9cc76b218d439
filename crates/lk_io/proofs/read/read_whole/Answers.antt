use Rattle.std.proofs.Common.{arith, ◌∙◌, ◌≡◌, ◌<◌, ◌≤◌, ◌-◌, length, refl}
use Rattle.std.proofs.lemmas.List.{length-take}
use Rattle.lk_io.proofs.Reading.{HasRead-none, HasRead-more, HasRead-all, IsLonger-piece, not_longer}
use Rattle.lk_io.proofs.read.read_whole.Goals as goal

pub loop-bytes-init : goal.loop-bytes-init
loop-bytes-init g c = record {
  read = λ files told. rw c.new-bytes.ensures.items (HasRead-none (files c.args.name.now));
  within = omega arith;
  held = refl;
  calm = refl;
  kept = refl;
}

pub returns-then-count-eq0-clause-file : goal.returns-then-count-eq0-clause-file
returns-then-count-eq0-clause-file g c = λ files told.
    let gives = c.in_ok-count.ensures.gives files (c.loop-bytes.invariant.held ∙ told) in
    let at : c.len.result ≡ length c.loop-bytes.bytes.items = omega arith in
    let room : 0 < length c.read.new.into = omega arith in
    HasRead-all (files c.args.name.now) c.loop-bytes.bytes.items c.read.new.into c.len.result c.in_ok-count.count
    (c.loop-bytes.invariant.read files told) gives at room c.if-count-eq0.true

pub returns-then-count-eq0-clause-always_too_long :
    goal.returns-then-count-eq0-clause-always_too_long
returns-then-count-eq0-clause-always_too_long g c = λ files told longer calm.
    let within : length c.loop-bytes.bytes.items ≤ c.args.limit = omega arith in
    absurd (not_longer _ _ _ (returns-then-count-eq0-clause-file g c files told) within longer)

pub returns-then-limit-len-clause-too_long : goal.returns-then-limit-len-clause-too_long
returns-then-limit-len-clause-too_long g c = λ files told is.
    let gives = c.in_ok-count.ensures.gives files (c.loop-bytes.invariant.held ∙ told) in
    let past : c.args.limit - c.len.result < c.in_ok-count.count = omega arith in
    IsLonger-piece _ _ _ _ _ gives c.in_ok-count.ensures.within past

pub loop-bytes-preserved : goal.loop-bytes-preserved
loop-bytes-preserved g c = record {
  read = λ files told.
      let gives = c.in_ok-count.ensures.gives files (c.loop-bytes.invariant.held ∙ told) in
      let at : c.len.result ≡ length c.loop-bytes.bytes.items = omega arith in
      rw c.in_ok-extend_from_slice.ensures.items
      (HasRead-more (files c.args.name.now) c.loop-bytes.bytes.items c.read.new.into c.len.result c.in_ok-count.count
      (c.loop-bytes.invariant.read files told) gives at c.in_ok-count.ensures.within);
  within = omega (arith, c.in_ok-extend_from_slice.ensures.len, length-take c.in_ok-count.count c.read.new.into);
  held = c.in_ok-count.ensures.held ∙ c.loop-bytes.invariant.held;
  calm = c.in_ok-count.ensures.counts.calm ∙ c.loop-bytes.invariant.calm;
  kept = c.in_ok-count.ensures.counts.kept ∙ c.loop-bytes.invariant.kept;
}
