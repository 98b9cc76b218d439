use Rattle.std.proofs.Common.{◌∙◌, Some, ap, arith, subst, suc, sym}
use Rattle.std.proofs.lemmas.Option.{IfSome_then, none-some, same_Some}
use Rattle.lk_facts.specs.LabelRules.{Steps}
use Rattle.lk_point_types.specs.Filled.{LeadsBy}
use Rattle.lk_point_types.specs.Filled.LeadsBy.{further, object}
use Rattle.lk_point_types.proofs.Filling.{led_further, led_root}
use Rattle.lk_point_types.proofs.fills.+part_at.Goals as goal

pub returns-in-Some-clause-leads : goal.returns-in-Some-clause-leads
returns-in-Some-clause-leads t c = (0, object c.args.p c.in-Some.root c.root_node.result (c.action-action.ensures.value ∙ ap Some c.in-Some.ensures.root) c.root_node.ensures.start)

pub returns-in-Some-clause-only : goal.returns-in-Some-clause-only
returns-in-Some-clause-only t c = λ k n leads few.
    led_root c.args.points.now c.args.p c.in-Some.root c.root_node.result c.action-action.result.now c.action-action.ensures.value c.in-Some.ensures.root c.root_node.ensures.start k n leads

pub returns-in_ok-node-in-Some-step_of-clause-leads : goal.returns-in_ok-node-in-Some-step_of-clause-leads
returns-in_ok-node-in-Some-step_of-clause-leads t c =
    let to = c.in-Some-step_of in
    let arm = c.in_ok-node-in-Some-step_of in
    let led = arm.ensures.leads in
    IfSome_then c.part_behind.result c.part_behind.ensures.steps
    (λ n steps. (suc led.0, further led.0 c.args.p to.step.0 c.action-action.result.now to.step.1 arm.node n c.action-action.ensures.value to.ensures.step led.1 steps))

pub returns-in_ok-node-in-Some-step_of-clause-only : goal.returns-in_ok-node-in-Some-step_of-clause-only
returns-in_ok-node-in-Some-step_of-clause-only t c = λ k n leads few.
    let program = c.args.points.now in
    let to = c.in-Some-step_of in
    let arm = c.in_ok-node-in-Some-step_of in
    let led = led_further program c.args.p c.action-action.result.now c.action-action.ensures.value (λ r is. none-some r (c.in-None.ensures.only r is)) k n leads in
    let one = same_Some to.step (led.a, led.sel) (to.ensures.only led.a led.sel led.steps) in
    let there = subst (λ a. LeadsBy program led.before a led.from) (sym (ap (λ s. s.0) one)) led.leads in
    let same = same_Some arm.node led.from (arm.ensures.only led.before led.from there (omega (arith, few, led.fewer, c.in_ok-left.ensures.0, c.in_ok-left.ensures.1))) in
    c.part_behind.ensures.only n
    (subst (λ sel. Steps program.types arm.node sel n) (sym (ap (λ s. s.1) one)) (subst (λ m. Steps program.types m led.sel n) (sym same) led.to))

pub returns-in-None-step_of-clause-only : goal.returns-in-None-step_of-clause-only
returns-in-None-step_of-clause-only t c = λ k n leads few.
    let led = led_further c.args.points.now c.args.p c.action-action.result.now c.action-action.ensures.value (λ r is. none-some r (c.in-None.ensures.only r is)) k n leads in
    absurd (none-some (led.a, led.sel) (c.in-None-step_of.ensures.only led.a led.sel led.steps))
