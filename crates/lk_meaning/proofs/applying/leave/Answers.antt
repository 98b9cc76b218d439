use Rattle.std.proofs.Common.{sym, ap, ◌∙◌, ◌-◌}
use Rattle.std.specs.Prelude.{take}
use Rattle.lk_meaning.specs.After.{after_lives}
use Rattle.lk_meaning.proofs.Lists.{left_none, left_some}
use Rattle.lk_meaning.proofs.applying.leave.Goals as goal

pub returns-then-depth-eq0-clause-ok : goal.returns-then-depth-eq0-clause-ok
returns-then-depth-eq0-clause-ok c = rw c.set.ensures (rw c.replace-thread.ensures.put
    (left_none c.args.state.now c.args.t c.args.value c.args.next c.no_thread.result c.replace-thread.result c.replace-thread.ensures.out (sym c.len-depth.ensures ∙ c.if-depth-eq0.true)))

pub returns-in-Ok-clause-ok : goal.returns-in-Ok-clause-ok
returns-in-Ok-clause-ok c = rw c.set-in-Ok.ensures (rw c.replace-thread.ensures.put
    (left_some c.args.state.now c.args.t c.args.value c.args.next c.no_thread.result c.replace-thread.result c.replace-thread.ensures.out
    (c.len-depth.result - 1) c.no_frame.result c.replace-caller.result c.return_to.new.caller c.shorten.new.list c.end_locals.new.objects
    (ap (λ n. n - 1) c.len-depth.ensures) c.replace-caller.ensures.out c.in-Ok.ensures.ok (c.shorten.ensures ∙ ap (λ xs. take (c.len-depth.result - 1) xs) c.replace-caller.ensures.put)
    (c.end_locals.ensures ∙ ap (λ locals. after_lives c.args.state.now.objects locals) c.list.ensures)))
