use Rattle.std.proofs.Common.{◌≡◌, ◌<◌, Contains, length, set, subst, sym, true}
use Rattle.std.proofs.lemmas.List.{length-set}
use Rattle.lk_graph.specs.Found.{FoundList, Finds, found_of}
use Rattle.lk_graph.proofs.FoundLemmas.{finds_push, finds_there, marked_there}
use Rattle.lk_graph.proofs.found.Found.put.Goals as goal

pub returns-then-index : goal.returns-then-index
returns-then-index c =
    let within : c.args.x < length c.self.inside.seen.items = subst (λ (found : FoundList). c.args.x < found.size) (sym c.self.view_is) c.requires in
    finds_there c.args.self.now c.args.x
    (subst (λ (found : FoundList). Contains found.list c.args.x) c.self.view_is
    (marked_there c.self.inside.seen.items c.self.inside.list.items c.args.x c.index.result.now within c.index.ensures c.if-index.true c.self.invariant))

pub returns : goal.returns
returns c =
    let seen = c.self.inside.seen.items in
    subst (λ old. Finds (λ y. c.args.x ≡ y) old (found_of (length (set seen c.args.x true)) c.push.new.self.items)) c.self.view_is
    (finds_push (length seen) (length (set seen c.args.x true)) c.self.inside.list.items c.push.new.self.items c.args.x (length-set seen c.args.x true) c.in_ok-push.ensures.items)
