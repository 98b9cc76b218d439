use Rattle.std.proofs.Common.{◌∙◌, ◌∷◌, [], sym}
use Rattle.std.proofs.lemmas.Result.{on_ok_weaker}
use Rattle.lk_elab_init.proofs.Giving.{both_ok, word_put_found}
use Rattle.lk_elab_init.specs.Giving.{part_given}
use Rattle.lk_elab_init.specs.declared.givens.Beginning.TheVariants as begins
use Rattle.lk_elab_init.proofs.givens.given_by_expression.Goals as goal

pub returns-then-branch : goal.returns-then-branch
returns-then-branch c =
    let seen = c.in_ok-is_word.ensures in
    on_ok_weaker c.put_word.result
    (λ h. (
      part_given c.args.path.now c.args.ty begins.Word ∷ [],
      h.1,
      word_put_found c.args.walk.now c.args.ty c.args.path.now c.args.e h.0 seen.0 seen.1 (sym c.if-branch.true ∙ seen.2),
    ))
    (both_ok _ _ c.put_word.result c.put_word.ensures.known c.put_word.ensures.part)
