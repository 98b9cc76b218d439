use Rattle.std.proofs.Common.{◌∙◌, arith, sym, ap, subst}
use Rattle.lk_types.proofs.KeptLemmas.{read_got}
use Rattle.lk_link.specs.Clashes.{HaveGained, IsInsideSource}
use Rattle.lk_link.proofs.Gaining.{sources_more, all_sources}
use Rattle.lk_link.proofs.missing.missing_inside.Goals as goal

pub returns : goal.returns
returns c = all_sources c.args.units.now c.loop-source.clashes.items c.loop-source.source (omega arith) c.loop-source.invariant

pub loop-source-preserved : goal.loop-source-preserved
loop-source-preserved c =
    let units = c.args.units.now in
    let n = c.loop-source.source in
    let at = read_got units n c.index-units-source.result (omega arith) c.index-units-source.is in
    let entities = c.list.ensures ∙ sym (ap (λ u. u.entities) c.index-units-source.is) in
    sources_more units n c.index-units-source.result at c.loop-source.clashes.items c.push_missing.new.clashes.items c.loop-source.invariant
    (subst (λ es. HaveGained c.loop-source.clashes.items c.push_missing.new.clashes.items (IsInsideSource n es)) entities c.in_ok-push_missing.ensures)
