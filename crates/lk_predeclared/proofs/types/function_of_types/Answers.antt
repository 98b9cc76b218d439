use Rattle.std.proofs.Common.{subst, sym}
use Rattle.lk_check_decl.specs.Making.{function_tree}
use Rattle.lk_predeclared.specs.Plain.{IsSmall}
use Rattle.lk_predeclared.proofs.FirstPlain.{made_some}
use Rattle.lk_predeclared.proofs.types.function_of_types.Goals as goal

pub unwrap-requires : goal.unwrap-requires
unwrap-requires c =
    let table = c.args.types.now in
    made_some table c.function_of.new.types (function_tree table c.args.returned c.new.result c.args.dots) c.in_ok-made.made c.in_ok-made.ensures.ok
    (subst (λ ps. IsSmall (function_tree table c.args.returned ps c.args.dots)) (sym c.new.ensures) c.requires.small)
