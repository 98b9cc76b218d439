use Rattle.std.proofs.Common.{◌≡◌, ◌<◌, ◌∙◌, ap, length, subst, sym, arith}
use Rattle.lk_facts.specs.Facts.{basis_of}
use Rattle.lk_facts.specs.declared.program.Program.{Program}
use Rattle.lk_rise.specs.Links.{AreLinksBelow}
use Rattle.lk_rise.proofs.LinkLemmas.{into_are}
use Rattle.lk_order.proofs.into.links_into.Goals as goal

pub returns-clause-links : goal.returns-clause-links
returns-clause-links c =
    let points = c.count.ensures.value ∙ ap (λ (program : Program). length program.points) c.points.ensures.value in
    let functions = c.functions-function-end.ensures ∙ ap (λ (program : Program). length program.functions) c.points-2.ensures.value in
    let end : c.loop-function.function ≡ length c.args.facts.now.program.functions = omega (arith, functions, c.loop-function.auto.function-end, c.loop-function-test.false) in
    into_are (basis_of c.args.facts.now) c.args.links.now c.loop-function.into.items c.in_ok-all.all.items c.requires
    (subst (λ n. AreLinksBelow c.args.links.now n c.in_ok-all.all.items) points c.in_ok-all.ensures) (c.loop-function.invariant.long ∙ end)
    (λ g within. c.loop-function.invariant.each g (subst (λ n. g < n) (sym end) within))
