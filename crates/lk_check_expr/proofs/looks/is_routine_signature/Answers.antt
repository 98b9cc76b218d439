use Rattle.std.proofs.lemmas.List.Elements.{All-tail}
use Rattle.lk_types.specs.Table.{IsKnown}
use Rattle.lk_check_expr.proofs.looks.is_routine_signature.Goals as goal

pub are_one_pointer-params-requires : goal.are_one_pointer-params-requires
are_one_pointer-params-requires c = All-tail (IsKnown c.args.types.now) c.args.signature.now.result c.args.signature.now.params.now c.requires
