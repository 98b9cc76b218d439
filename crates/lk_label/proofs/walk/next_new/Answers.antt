use Rattle.std.proofs.Common.{◌≡◌, ◌-◌, false, true, None, Some, reverse, length, subst, sym, arith}
use Rattle.std.specs.Prelude.{slice_get}
use Rattle.lk_label.proofs.WalkSteps.{popped, next_here, next_over, next_none, missing_from}
use Rattle.lk_label.proofs.walk.next_new.Goals as goal

pub returns-then-not-has : goal.returns-then-not-has
returns-then-not-has c =
    let old = c.loop-node.ahead.items in
    let n = c.in-Some.node.now in
    let at = subst (λ xs. slice_get xs (length xs - 1) ≡ Some n) c.deref.ensures.value (sym c.in-Some.ensures.value) in
    let gone = popped old c.pop.new.self.items c.pop.result n c.pop.ensures.items (λ some. c.pop.ensures.variant.1 (omega (arith, some, c.loop-node.ahead.ok.0))) at in
    let isnt : c.has.result ≡ false = c.if-not-has.true in
    c.loop-node.invariant c.pop.result (reverse c.pop.new.self.items) (next_here c.args.listed.now old c.pop.new.self.items c.pop.result n gone (missing_from c.args.listed.now n c.has.result c.has.ensures isnt))

pub loop-node-preserved : goal.loop-node-preserved
loop-node-preserved c = λ next rest on.
    let old = c.loop-node.ahead.items in
    let n = c.in-Some.node.now in
    let at = subst (λ xs. slice_get xs (length xs - 1) ≡ Some n) c.deref.ensures.value (sym c.in-Some.ensures.value) in
    let gone = popped old c.pop-in-Some.new.self.items c.pop-in-Some.result n c.pop-in-Some.ensures.items (λ some. c.pop-in-Some.ensures.variant.1 (omega (arith, some, c.loop-node.ahead.ok.0))) at in
    let there : c.has.result ≡ true = c.if-not-has.false in
    c.loop-node.invariant next rest (next_over c.args.listed.now old c.pop-in-Some.new.self.items c.pop-in-Some.result n gone (c.has.ensures.0 there) next rest on)

pub returns : goal.returns
returns c =
    let empty = subst (λ xs. None ≡ slice_get xs (length xs - 1)) c.deref.ensures.value c.in_default.ensures.value in
    c.loop-node.invariant None (reverse c.loop-node.ahead.items) (next_none c.args.listed.now c.loop-node.ahead.items empty)
