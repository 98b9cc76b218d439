use Rattle.std.proofs.Common.{◌∙◌, true, sym, ap}
use Rattle.lk_types.specs.Sizes.{is_too_large}
use Rattle.lk_check_decl.proofs.Made.{large_known, there_before}
use Rattle.lk_check_decl.proofs.making.bounded.Goals as goal

pub returns-then-is_too_large : goal.returns-then-is_too_large
returns-then-is_too_large c =
    large_known c.args.types.now c.is_table.ensures c.args.t c.requires true (sym (ap is_too_large c.size.ensures.value) ∙ (sym c.is_too_large.ensures ∙ c.if-is_too_large.true))

pub returns : goal.returns
returns c = there_before c.args.types.now c.is_table.ensures c.args.t c.requires (sym (ap is_too_large c.size.ensures.value) ∙ (sym c.is_too_large.ensures ∙ c.if-is_too_large.false))
