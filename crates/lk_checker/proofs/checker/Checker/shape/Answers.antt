use Rattle.std.proofs.Common.{◌∙◌, ◌++◌, ◌-◌, [], ap, take}
use Rattle.lk_checker.proofs.Shaping.{shaping_then, shaping_ends}
use Rattle.lk_checker.proofs.checker.Checker.shape.Goals as goal

pub loop-form-preserved : goal.loop-form-preserved
loop-form-preserved c =
    shaping_then c.args.self.now c.loop-form.self c.shape_one.new.self c.args.forms.items c.args.left c.args.may_be_absent c.in-Some.form c.pop.new.self.items c.loop-form.forms.items
    c.loop-form.left c.in_ok-left.left c.in-Some.ensures.items c.loop-form.invariant c.in_ok-left.ensures.puts c.in_ok-left.ensures.known c.in_ok-left.ensures.made

pub returns-clause-made : goal.returns-clause-made
returns-clause-made c =
    shaping_ends c.args.self.now c.loop-form.self c.args.forms.items c.args.left c.args.may_be_absent c.loop-form.forms.items c.loop-form.left (c.in_default.ensures.items ∙ ap (λ xs. xs ++ []) (c.in_default.ensures.rest ∙ ap (λ n. take (n - 1) c.loop-form.forms.items) c.in_default.ensures.cases.0)) c.loop-form.invariant
