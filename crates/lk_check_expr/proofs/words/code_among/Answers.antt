use Rattle.std.proofs.Common.{◌∙◌, ◌+◌, sym, ap, drop}
use Rattle.std.specs.Prelude.{map}
use Rattle.std.proofs.lemmas.List.{drop_more}
use Rattle.lk_typed.specs.Codes.{least_code, lesser}
use Rattle.lk_typed.specs.Words.{codes_in}
use Rattle.lk_check_expr.specs.NameUses.{refused_in}
use Rattle.lk_check_expr.proofs.Refusals.{row_more}
use Rattle.lk_check_expr.proofs.words.code_among.Goals as goal

pub loop-row-preserved : goal.loop-row-preserved
loop-row-preserved c =
    let rows = c.args.rows.now in
    let name = c.args.name.now in
    let i = c.loop-row.row-index in
    let left = map refused_in (drop (i + 1) rows) in
    ap (λ o. lesser o (least_code (codes_in left name))) (c.lesser-code.ensures ∙ ap (lesser c.loop-row.code) c.code_by-other.ensures) ∙
    row_more _ left name c.loop-row.code ∙
    ap (λ rs. lesser c.loop-row.code (least_code (codes_in (map refused_in rs) name))) (sym (drop_more rows i _ c.loop-row-test.true)) ∙ c.loop-row.invariant
