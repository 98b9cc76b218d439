use Rattle.std.proofs.Common.{◌∙◌, ◌++◌, ◌∷◌, [], sym, subst, ap}
use Rattle.lk_types.specs.Forms.{IsAbsent}
use Rattle.lk_types.proofs.FormEq.{put_last}
use Rattle.lk_types.proofs.forms.Forms.push.Goals as goal

pub returns-clause-ok : goal.returns-clause-ok
returns-clause-ok g c =
    c.in_ok-insert.ensures.entries ∙
    put_last c.self.inside.entries c.args.form c.args.kept (subst (λ es. IsAbsent es c.args.form) (sym c.self.view_is) c.requires) ∙
    ap (λ es. es ++ (c.args.form, c.args.kept) ∷ []) c.self.view_is
