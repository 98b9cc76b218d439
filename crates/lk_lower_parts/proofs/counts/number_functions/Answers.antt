use Rattle.std.proofs.Common.{◌∙◌, ap, ◌≡◌, ◌+◌, ◌++◌, [], ◌∷◌, Some, drop, arith, length, refl, rules, slice_get, subst, sym}
use Rattle.std.proofs.lemmas.Option.{slice_get_read, slice_get_within}
use Rattle.lk_lower_parts.proofs.Adding.{one_longer}
use Rattle.lk_lower_parts.proofs.FunctionCounts.{all_numbered, count_more, first_more, rows_more}
use Rattle.lk_lower_parts.specs.FunctionNumbers.{AreFunctionNumbers, bodies_of, firsts}
use Rattle.lk_lower_parts.proofs.counts.number_functions.Goals as goal

pub of_source-requires : goal.of_source-requires
of_source-requires c = λ b body at_b.
    let sources = c.args.whole.now.sources in
    let i = c.loop-linked.linked-index in
    let x = c.linked-item.result in
    let at : slice_get sources i ≡ Some x = subst (λ all. slice_get all i ≡ Some x) c.list-linked-items.ensures (slice_get_read c.list-linked-items.result.now _ i x refl c.loop-linked-test.true c.linked-item.is) in
    let declared = (c.requires.bodies i b x body at at_b).declared in
    slice_get_within x.unit.entities body.entity declared.entity declared.at

pub loop-linked-preserved : goal.loop-linked-preserved
loop-linked-preserved c =
    let sources = c.list-linked-items.result.now in
    let i = c.loop-linked.linked-index in
    let x = c.linked-item.result in
    let old = c.loop-linked.first.items in
    let rows = c.loop-linked.of_entities.items in
    let was = c.loop-linked.invariant in
    let within = c.loop-linked-test.true in
    let is = c.linked-item.is in
    let put_row : c.push.new.self.items ≡ rows ++ (c.in_ok-row.row ∷ []) = search rules in
    let put_first : c.push-in-loop-linked.new.self.items ≡ old ++ (c.loop-linked.next ∷ []) = search rules in
    let next : c.in_ok-next.next ≡ c.loop-linked.next + length x.unit.bodies = c.in_ok-next.ensures ∙ ap (λ n. c.loop-linked.next + n) (c.in_ok-bodies.ensures ∙ c.len.ensures) in record {
      first = subst (λ n. firsts 0 sources ≡ c.push-in-loop-linked.new.self.items ++ firsts n (drop (i + 1) sources)) (sym next) (first_more sources old i c.loop-linked.next x within is was.first c.push-in-loop-linked.new.self.items put_first);
      count = subst (λ n. bodies_of sources ≡ n + bodies_of (drop (i + 1) sources)) (sym next) (count_more sources old i c.loop-linked.next x within is was.first was.count);
      firsts_ = one_longer old c.push-in-loop-linked.new.self.items c.loop-linked.next i put_first was.firsts_;
      length_ = one_longer rows c.push.new.self.items c.in_ok-row.row i put_row was.length_;
      rows = rows_more sources old i c.loop-linked.next x within is was.first rows c.in_ok-row.row c.push.new.self.items was.firsts_ was.length_ put_row c.in_ok-row.ensures was.rows;
    }

pub returns : goal.returns
returns c =
    let sources = c.list-linked-items.result.now in
    let was = c.loop-linked.invariant in
    subst (λ all. AreFunctionNumbers all (record { first = c.new.result; of_entities = c.new-2.result; count = c.loop-linked.next })) c.list-linked-items.ensures
    (all_numbered sources c.loop-linked.linked-index c.loop-linked.next c.loop-linked.first.items c.loop-linked.of_entities.items _ (omega arith) was.first was.count was.length_ was.rows (search rules) refl (search rules))
