use Rattle.std.proofs.Common.{sym}
use Rattle.lk_label.proofs.PartLists.{part_found, no_part_found}
use Rattle.lk_label.proofs.parts.push_part.Goals as goal

pub returns-in_ok-push : goal.returns-in_ok-push
returns-in_ok-push c = λ sels before.
    rw c.in_ok-push.ensures.items (part_found c.args.types.now c.args.node.now sels c.args.sel c.args.parts.now.items _ (sym c.in-Some.ensures.exact) c.in-Some.ensures.node before)

pub returns-in_default : goal.returns-in_default
returns-in_default c = λ sels before. no_part_found c.args.types.now c.args.node.now sels c.args.sel c.args.parts.now.items (sym c.in_default.ensures.exact) before
