use Rattle.std.proofs.Common.{List, ℕ, subst, sym}
use Rattle.lk_facts.specs.Analysis.{held_table}
use Rattle.lk_facts.specs.Facts.{basis_of}
use Rattle.lk_facts.specs.Origins.{flow_of}
use Rattle.lk_rise.specs.declared.correlations.Correlation.{Correlation}
use Rattle.lk_rise.specs.declared.rising.Subjects.TheVariants.{AsOutside}
use Rattle.lk_facts.specs.Items.{AreItems}
use Rattle.lk_rise.specs.Correlations.{has_of, locks_of}
use Rattle.lk_rise.specs.Items.{ItemTable}
use Rattle.lk_rise.specs.Rising.{Carries, AreRisen}
use Rattle.lk_items.proofs.ItemsLemmas.{items_are}
use Rattle.lk_items.proofs.program_items.items.Goals as goal

pub returns-clause-items : goal.returns-clause-items
returns-clause-items c =
    let facts = c.args.facts.now in
    let flow = flow_of facts.origins in
    let risen = subst (λ (base : List (Correlation × List ℕ)). AreRisen (basis_of facts) (Carries flow AsOutside) base (held_table c.args.held.now) c.in_ok-found.found) c.deref.ensures.value c.in_ok-found.ensures.risen in
    subst (λ (table : ItemTable). AreItems (basis_of facts) (held_table c.args.held.now) (has_of table.entries) (locks_of table.entries)) (sym c.in_ok-items.ensures)
    (items_are facts c.args.held.now c.in_ok-base.base.items c.in_ok-found.found c.in_ok-base.ensures risen)
