use Rattle.std.proofs.Common.{◌∙◌, length, ap, sym, subst}
use Rattle.std.proofs.lemmas.Result.{IfOk-weaker}
use Rattle.lk_facts.specs.Facts.{basis_of}
use Rattle.lk_facts.specs.declared.program.Program.{Program}
use Rattle.lk_links.specs.Links.{AreLinks}
use Rattle.lk_order.specs.Finding.{AreOrderRows}
use Rattle.lk_order.proofs.TableLemmas.{basis_same}
use Rattle.lk_rise.specs.Links.{AreLinksInto}
use Rattle.lk_sets.specs.Ids.{has_id}
use Rattle.lk_order.proofs.finding.lock_order.Goals as goal

pub precedes-requires-clause-linked : goal.precedes-requires-clause-linked
precedes-requires-clause-linked c =
    let same = basis_same c.points.result.now c.labels.result.now c.args.facts.now c.points.ensures.value c.labels.ensures.value in
    subst (λ basis. AreLinks basis c.in_ok-links.links) (sym same) c.in_ok-links.ensures

pub precedes-requires-clause-into : goal.precedes-requires-clause-into
precedes-requires-clause-into c =
    let same = basis_same c.points.result.now c.labels.result.now c.args.facts.now c.points.ensures.value c.labels.ensures.value in
    subst (λ basis. AreLinksInto basis c.deref.result.now) (sym same) (subst (AreLinksInto (basis_of c.args.facts.now)) (sym c.deref.ensures.value) c.in_ok-into.ensures.links)

pub precedes-requires-clause-functions : goal.precedes-requires-clause-functions
precedes-requires-clause-functions c =
    ap length c.deref.ensures.value ∙ c.in_ok-into.ensures.functions ∙ ap (λ (program : Program). length program.functions) (sym c.points.ensures.value)

pub returns : goal.returns
returns c =
    let same = basis_same c.points.result.now c.labels.result.now c.args.facts.now c.points.ensures.value c.labels.ensures.value in
    IfOk-weaker c.order_of.result _ _ (λ order is. is (basis_of c.args.facts.now) (has_id c.args.linear.now) (subst (λ basis. AreOrderRows basis (has_id c.args.linear.now) c.in_ok-rows.rows) same c.in_ok-rows.ensures)) c.order_of.ensures
