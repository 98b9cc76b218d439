use Rattle.std.proofs.Common.{arith, ap, sym, ◌∙◌, ◌≡◌, ◌+◌, length}
use Rattle.std.proofs.lemmas.Option.{slice_get_within}
use Rattle.lk_lower_parts.proofs.FunctionCounts.{all_before, next_first, none_before}
use Rattle.lk_lower_parts.proofs.Making.{source_made}
use Rattle.lk_lower_parts.proofs.names.Given.all_functions.Goals as goal

pub loop-source-init : goal.loop-source-init
loop-source-init c = record {
  as_many = ap length c.new-functions.ensures.items ∙ sym (none_before c.args.self.now.whole.now.sources c.args.self.now.functions.now c.requires.numbers);
  made = λ t b linked body within is. absurd (omega (arith, within));
}

pub loop-source-preserved : goal.loop-source-preserved
loop-source-preserved c =
    let adds = c.in_ok-push_functions.ensures in record {
      as_many = adds.as_many ∙ (ap (λ n. n + length adds.linked.unit.bodies) c.loop-source.invariant.as_many ∙ sym (next_first c.args.self.now.whole.now.sources c.args.self.now.functions.now c.requires.numbers c.loop-source.source adds.linked adds.source));
      made = source_made c.args.self.now c.args.slots.now c.loop-source.source c.loop-source.functions.items c.push_functions.new.functions.items adds c.loop-source.invariant.made;
    }

pub returns : goal.returns
returns c =
    let sources = c.args.self.now.whole.now.sources in
    let end : c.loop-source.source ≡ length sources = omega arith in
    record {
      count = c.loop-source.invariant.as_many ∙ all_before sources c.args.self.now.functions.now c.requires.numbers c.loop-source.source end;
      each = λ s b linked body is. c.loop-source.invariant.made s b linked body (let h = slice_get_within sources s linked is.source in omega (arith, h)) is;
    }
