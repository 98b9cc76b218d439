use Rattle.std.proofs.Common.{◌≡◌, ◌∙◌, ap, subst}
use Rattle.lk_typed.specs.Env.{ConvertedTo}
use Rattle.lk_typed.specs.Meaning.{meaning, meaning_of}
use Rattle.lk_typed.specs.Ty.{Pointer}
use Rattle.lk_elaborator.specs.Standing.{StandsAs}
use Rattle.lk_elab_expr.proofs.allocations.byte_behind.Goals as goal

pub returns-in_ok-target-in-ConvertedTo : goal.returns-in_ok-target-in-ConvertedTo
returns-in_ok-target-in-ConvertedTo c = λ r stands.
    let types = c.args.walk.now.types in
    let as_ = subst (λ role. StandsAs types role r) c.in-ConvertedTo.is stands in
    as_.1 ∙ ap ConvertedTo (subst (λ table. meaning_of table c.in-ConvertedTo.ty ≡ Pointer (meaning table c.in_ok-target-in-ConvertedTo.target)) c.table.ensures.value c.in_ok-target-in-ConvertedTo.ensures)
