use Rattle.std.proofs.Common.{◌∙◌, inl, refl, sym, ap}
use Rattle.std.proofs.lemmas.Result.{IfOk-weaker}
use Rattle.lk_tree.specs.declared.expression.DeclaratorForm.TheOpen.{ExprForm-F}
use Rattle.lk_tree.specs.declared.expression.ExprForm.TheVariants as tree
use Rattle.lk_tree.specs.declared.expression.TypeName.{TypeName, out-TypeName}
use Rattle.lk_typed.specs.Elaborated.IsTyped.{paren}
use Rattle.lk_typed.specs.Env.{Env, as_operand}
use Rattle.lk_typed.specs.Nodes.{ATypeName, at as node_at}
use Rattle.lk_elab_expr.proofs.FormsAt.{form_at}
use Rattle.lk_elab_expr.proofs.Within.{one_form, told_by, told_itself, told_name, told_of, told_one}
use Rattle.lk_elab_expr.proofs.one_operand.one_of.Goals as goal

pub returns-in-Pre-clause-one : goal.returns-in-Pre-clause-one
returns-in-Pre-clause-one c = IfOk-weaker c.step.result _ _ (λ one decides at_end p i of_form at same told tables leads folded.
    let walk = c.args.walk.now in
    let form = one_form p i _ (λ k. ExprForm-F.Pre c.in-Pre.op k) (λ k. refl) (form_at p (tree.Pre c.in-Pre.op c.in-Pre.field-1) (ExprForm-F.Pre c.in-Pre.op c.in-Pre.field-1) (of_form ∙ c.in-Pre.is) (tree.rolls-Pre c.in-Pre.op c.in-Pre.field-1)) at in
    decides p i form same (told_itself at_end walk p told) (told_of at_end walk i (told_one at_end walk p told i at)) tables leads folded) c.step.ensures.one

pub returns-in-Prefix-clause-one : goal.returns-in-Prefix-clause-one
returns-in-Prefix-clause-one c = IfOk-weaker c.prefix.result _ _ (λ one decides at_end p i of_form at same told tables leads folded.
    let walk = c.args.walk.now in
    let form = one_form p i _ (λ k. ExprForm-F.Prefix c.in-Prefix.op k) (λ k. refl) (form_at p (tree.Prefix c.in-Prefix.op c.in-Prefix.field-1) (ExprForm-F.Prefix c.in-Prefix.op c.in-Prefix.field-1) (of_form ∙ c.in-Prefix.is) (tree.rolls-Prefix c.in-Prefix.op c.in-Prefix.field-1)) at in
    decides p i form same (told_itself at_end walk p told) (told_of at_end walk i (told_one at_end walk p told i at)) tables leads folded) c.prefix.ensures.one

pub returns-in-Member-clause-one : goal.returns-in-Member-clause-one
returns-in-Member-clause-one c = IfOk-weaker c.member.result _ _ (λ one decides at_end p i of_form at same told tables leads folded.
    let walk = c.args.walk.now in
    let form = one_form p i _ (λ k. ExprForm-F.Member k c.in-Member.name) (λ k. refl) (form_at p (tree.Member c.in-Member.field-0 c.in-Member.name) (ExprForm-F.Member c.in-Member.field-0 c.in-Member.name) (of_form ∙ c.in-Member.is) (tree.rolls-Member c.in-Member.field-0 c.in-Member.name)) at in
    decides p i form same (told_itself at_end walk p told) (told_of at_end walk i (told_one at_end walk p told i at)) tables leads folded) c.member.ensures

pub returns-in-Arrow-clause-one : goal.returns-in-Arrow-clause-one
returns-in-Arrow-clause-one c = IfOk-weaker c.arrow.result _ _ (λ one decides at_end p i of_form at same told tables leads folded.
    let walk = c.args.walk.now in
    let form = one_form p i _ (λ k. ExprForm-F.Arrow k c.in-Arrow.name) (λ k. refl) (form_at p (tree.Arrow c.in-Arrow.field-0 c.in-Arrow.name) (ExprForm-F.Arrow c.in-Arrow.field-0 c.in-Arrow.name) (of_form ∙ c.in-Arrow.is) (tree.rolls-Arrow c.in-Arrow.field-0 c.in-Arrow.name)) at in
    decides p i form same (told_itself at_end walk p told) (told_of at_end walk i (told_one at_end walk p told i at)) tables leads folded) c.arrow.ensures.one

pub returns-in-Post-clause-one : goal.returns-in-Post-clause-one
returns-in-Post-clause-one c = IfOk-weaker c.step-in-Post.result _ _ (λ one decides at_end p i of_form at same told tables leads folded.
    let walk = c.args.walk.now in
    let form = one_form p i _ (λ k. ExprForm-F.Post c.in-Post.op k) (λ k. refl) (form_at p (tree.Post c.in-Post.op c.in-Post.field-1) (ExprForm-F.Post c.in-Post.op c.in-Post.field-1) (of_form ∙ c.in-Post.is) (tree.rolls-Post c.in-Post.op c.in-Post.field-1)) at in
    decides p i form same (told_itself at_end walk p told) (told_of at_end walk i (told_one at_end walk p told i at)) tables leads folded) c.step-in-Post.ensures.one

pub returns-in-Cast-clause-one : goal.returns-in-Cast-clause-one
returns-in-Cast-clause-one c = IfOk-weaker c.cast.result _ _ (λ one decides at_end p i of_form at same told tables leads folded.
    let walk = c.args.walk.now in
    let name = c.in-Cast.target in
    let n : Env × TypeName = (as_operand p.0, name) in
    let form = one_form p i _ (λ k. ExprForm-F.Cast n k) (λ k. refl) (form_at p (tree.Cast name c.in-Cast.field-1) (ExprForm-F.Cast name c.in-Cast.field-1) (of_form ∙ c.in-Cast.is) (tree.rolls-Cast name c.in-Cast.field-1)) at in
    let named = told_name at_end walk n (told_by at_end walk p told (ExprForm-F.Cast n i) (node_at n.0 (ATypeName n.1)) form (inl refl)) in
    decides n (ap (λ t. (out-TypeName t).ordinal) (sym c.get.ensures)) named p i form same (told_itself at_end walk p told) (told_of at_end walk i (told_one at_end walk p told i at)) tables leads folded) c.cast.ensures.one

pub returns-in-Paren-clause-one : goal.returns-in-Paren-clause-one
returns-in-Paren-clause-one c = λ at_end p i of_form at same told tables leads folded.
    let form = one_form p i _ (λ k. ExprForm-F.Paren k) (λ k. refl) (form_at p (tree.Paren c.in-Paren.field-0) (ExprForm-F.Paren c.in-Paren.field-0) (of_form ∙ c.in-Paren.is) (tree.rolls-Paren c.in-Paren.field-0)) at in
    record { role = c.itself_part.ensures.role _ _; gives = λ x is t makes. paren form (c.itself_part.ensures.typed tables folded i x is) makes }
