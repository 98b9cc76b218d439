use Rattle.std.proofs.Common.{◌∙◌, sym, ap}
use Rattle.lk_typed.specs.Meaning.{meaning, meaning_of}
use Rattle.lk_elaborator.proofs.Knowing.{target_is}
use Rattle.lk_elab_expr.proofs.allocations.pointed_to.Goals as goal

pub returns-in-Some : goal.returns-in-Some
returns-in-Some c =
    let types = c.args.types.now in
    ap (meaning_of types) (sym c.in_ok-ty.ensures.value) ∙ target_is (meaning_of types c.in_ok-ty.ty) (meaning types c.in-Some.target) (sym c.in-Some.ensures.value)
