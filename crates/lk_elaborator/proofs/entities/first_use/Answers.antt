use Rattle.std.proofs.Common.{◌∙◌, ◌++◌, ◌∷◌, [], sym, ap, subst, take, Some}
use Rattle.std.proofs.lemmas.Option.{slice_get-get_or}
use Rattle.lk_types.proofs.FormEq.{take_more}
use Rattle.lk_elaborator.proofs.Finishing.{first_more, no_use}
use Rattle.lk_elaborator.specs.Gathering.{IsFirstOf}
use Rattle.lk_elaborator.proofs.entities.first_use.Goals as goal

pub loop-declaration-init : goal.loop-declaration-init
loop-declaration-init c = no_use c.args.records.now.first_uses

pub loop-declaration-preserved : goal.loop-declaration-preserved
loop-declaration-preserved c =
    let uses = c.args.records.now.first_uses in
    let all = c.args.declarations.now in
    let index = c.loop-declaration.declaration-index in
    let is = c.declaration-item.result in
    let here = slice_get-get_or all index is c.loop-declaration-test.true ∙ ap Some (sym c.declaration-item.is) in
    subst (λ ds. IsFirstOf uses ds c.earlier-first.result) (take_more all index is here)
    (subst (IsFirstOf uses (take index all ++ is ∷ [])) (sym c.earlier-first.ensures)
    (first_more uses (take index all) is c.loop-declaration.first c.first_use.result (sym c.first_use.ensures) c.loop-declaration.invariant))
