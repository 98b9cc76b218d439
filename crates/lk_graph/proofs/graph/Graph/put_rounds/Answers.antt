use Rattle.std.proofs.Common.{◌≡◌, Contains, false, subst, sym}
use Rattle.std.specs.List.{list_any}
use Rattle.lk_graph.specs.Search.{IsOnRound}
use Rattle.lk_graph.proofs.SearchLemmas.{finds_as, finds_none, no_round, round_is}
use Rattle.lk_sets.specs.Marks.{is_marked}
use Rattle.lk_graph.proofs.graph.Graph.put_rounds.Goals as goal

pub returns-then-not-has_marked : goal.returns-then-not-has_marked
returns-then-not-has_marked c =
    let marks = c.args.marks.now in
    finds_none (IsOnRound c.args.self.now c.args.back.now marks c.args.a) c.args.again.now
    (no_round c.args.self.now c.args.back.now marks c.args.a (subst (λ ids. list_any (λ x. is_marked marks x) ids ≡ false) c.ends.ensures.value (sym c.if-not-has_marked.ensures)))

pub returns : goal.returns
returns c =
    finds_as (λ x.
    let members = c.in_ok-round.ensures.members x in
    let is = round_is c.args.self.now c.args.back.now c.args.marks.now c.marks.result.now c.in_ok-before.before.list c.args.a c.marks.ensures.value c.in_ok-before.ensures.members x in (
      λ there. is.0 (members.0 (subst (λ ids. Contains ids x) c.list.ensures.value there)),
      λ round. subst (λ ids. Contains ids x) (sym c.list.ensures.value) (members.1 (is.1 round)),
    ))
    c.in_ok-put_each.ensures
