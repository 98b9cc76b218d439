use Rattle.std.proofs.Common.{◌≡◌, ◌<◌, ◌∙◌, Some, get_or, length, sym, ap, arith}
use Rattle.std.specs.Prelude.{slice_get}
use Rattle.std.proofs.lemmas.Option.{slice_get-get_or}
use Rattle.lk_graph.proofs.SearchLemmas.{search_all, search_first, search_more}
use Rattle.lk_graph.proofs.graph.Graph.reached.Goals as goal

pub loop-k-init : goal.loop-k-init
loop-k-init c = record {
  size = c.in_ok-put_ends.ensures.size ∙ c.in_ok-found.ensures.size ∙ c.size.ensures.value;
  search = search_first c.args.self.now c.args.marks.now c.args.start c.in_ok-found.found c.put_ends.new.found c.in_ok-found.ensures.none c.in_ok-put_ends.ensures;
  small = omega arith;
}

pub returns-then-k-list-clause-members : goal.returns-then-k-list-clause-members
returns-then-k-list-clause-members c =
    search_all c.args.self.now c.args.marks.now c.args.start c.loop-k.found.list c.loop-k.k (omega (arith, c.if-k-list.true, ap length c.list.ensures.value)) c.loop-k.invariant.search

pub loop-k-preserved : goal.loop-k-preserved
loop-k-preserved c =
    let k = c.loop-k.k in
    let list = c.list-in-loop-k.result.now in
    let within : k < length list = omega (arith, c.if-k-list.false, ap length c.list.ensures.value, ap length c.list-in-loop-k.ensures.value) in
    let at : slice_get c.loop-k.found.list k ≡ Some (get_or list k 0) = ap (λ xs. slice_get xs k) (sym c.list-in-loop-k.ensures.value) ∙ slice_get-get_or list k 0 within in
    record {
      size = c.in_ok-put_ends-2.ensures.size ∙ c.loop-k.invariant.size;
      search = search_more c.args.self.now c.args.marks.now c.args.start c.loop-k.found c.put_ends-in-loop-k.new.found k (get_or list k 0) at c.in_ok-put_ends-2.ensures c.loop-k.invariant.search;
      small = omega (arith, c.if-k-list.false, ap length c.list.ensures.value, c.list.ensures.small);
    }
