use Rattle.std.proofs.Common.{arith, ap, subst, sym, ◌∙◌, ◌≡◌, length}
use Rattle.std.proofs.lemmas.Result.{IfOk-weaker}
use Rattle.lk_lower_parts.proofs.FunctionCounts.{all_before, none_before}
use Rattle.lk_lower_parts.proofs.Gathered.{gathered_more, gathered_none, slots_behind}
use Rattle.lk_lower_parts.proofs.Numbering.{all_numbered}
use Rattle.lk_lower_parts.proofs.Pointers.{kept_types, more_more}
use Rattle.lk_lower_parts.specs.Gathers.{AreNumbered, Gathered, HaveKnownTypes, IsFinished, argument_roots}
use Rattle.lk_lower_parts.proofs.gather.number_roots_and_slots.Goals as goal

pub loop-source-init : goal.loop-source-init
loop-source-init c = record {
  gathered = (
    c.in_ok-arguments.arguments,
    c.in_ok-arguments.ensures.types,
    gathered_none c.args.whole.now c.args.functions.now c.args.points.now c.args.main.spot c.in_ok-arguments.arguments c.arguments.new.types c.in_ok-gathering.gathering c.in_ok-gathering.ensures,
  );
  behind = ap length c.in_ok-gathering.ensures.slots ∙ sym (none_before c.args.whole.now.sources c.args.functions.now c.requires);
  more = c.in_ok-arguments.ensures.more;
}

pub loop-source-preserved : goal.loop-source-preserved
loop-source-preserved c =
    let old = c.loop-source.types in
    let new = c.gather_source.new.types in
    let was = c.loop-source.invariant in
    let types = was.gathered.0 in record {
      gathered = (
        types,
        kept_types c.args.main.has_parameters old new types c.in_ok-gather_source.ensures.more was.gathered.1,
        gathered_more c.args.whole.now c.args.functions.now c.args.points.now (argument_roots c.args.main.spot types) c.loop-source.source old new c.loop-source.gathering c.gather_source.new.gathering c.in_ok-gather_source.ensures.more
            was.gathered.2 c.in_ok-gather_source.ensures.added,
      );
      behind = slots_behind c.args.whole.now c.args.functions.now c.args.points.now (argument_roots c.args.main.spot types) c.loop-source.source old new c.loop-source.gathering c.gather_source.new.gathering c.in_ok-gather_source.ensures.more
          was.gathered.2 c.in_ok-gather_source.ensures.added c.requires;
      more = more_more c.args.types.now old new was.more c.in_ok-gather_source.ensures.more;
    }

pub returns-clause-numbered : goal.returns-clause-numbered
returns-clause-numbered c =
    let whole = c.args.whole.now in
    let table = c.loop-source.types in
    let types = c.loop-source.invariant.gathered.0 in
    let end : c.loop-source.source ≡ length whole.sources = omega arith in
    let gathered = subst (λ n. Gathered whole c.args.functions.now c.args.points.now (argument_roots c.args.main.spot types) n table c.loop-source.gathering) end c.loop-source.invariant.gathered.2 in
    IfOk-weaker c.finished.result (IsFinished c.loop-source.gathering c.count_arguments.result c.count.result) (AreNumbered whole c.args.functions.now c.args.main c.args.points.now table)
    (λ found tested.
    all_numbered whole c.args.functions.now c.args.main c.args.points.now table c.loop-source.gathering found types c.loop-source.invariant.gathered.1 gathered
    (subst (λ n. IsFinished c.loop-source.gathering n (length table.types) found) c.count_arguments.ensures (subst (λ n. IsFinished c.loop-source.gathering c.count_arguments.result n found) c.count.ensures.value tested))) c.finished.ensures

pub returns-clause-slots : goal.returns-clause-slots
returns-clause-slots c =
    let whole = c.args.whole.now in
    let functions = c.args.functions.now in
    let end : c.loop-source.source ≡ length whole.sources = omega arith in
    IfOk-weaker c.finished.result (IsFinished c.loop-source.gathering c.count_arguments.result c.count.result) (λ found. length found.slots.items ≡ functions.count)
    (λ found tested. ap length tested.slots ∙ (c.loop-source.invariant.behind ∙ all_before whole.sources functions c.requires c.loop-source.source end)) c.finished.ensures

pub returns-clause-typed : goal.returns-clause-typed
returns-clause-typed c =
    let table = c.loop-source.types in
    IfOk-weaker c.finished.result (IsFinished c.loop-source.gathering c.count_arguments.result c.count.result) (λ found. HaveKnownTypes (length table.types) found.roots.items)
    (λ found tested. subst (λ n. HaveKnownTypes n found.roots.items) c.count.ensures.value tested.typed) c.finished.ensures
