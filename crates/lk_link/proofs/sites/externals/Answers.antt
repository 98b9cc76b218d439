use Rattle.std.proofs.Common.{◌∙◌, [], sym, ap, arith, subst}
use Rattle.lk_types.proofs.KeptLemmas.{read_got}
use Rattle.lk_link.specs.Sites.{Grows, IsExternalOf}
use Rattle.lk_link.proofs.Growing.{grows_more, grows_at_number}
use Rattle.lk_link.proofs.Naming.{IsExternalIn, are_externals}
use Rattle.lk_link.proofs.sites.externals.Goals as goal

pub loop-source-preserved : goal.loop-source-preserved
loop-source-preserved c =
    let units = c.args.units.now in
    let n = c.loop-source.source in
    let at = read_got units n c.index-units-source.result (omega arith) c.index-units-source.is in
    let entities = c.list.ensures ∙ sym (ap (λ u. u.entities) c.index-units-source.is) in
    grows_more (IsExternalIn units) n [] c.loop-source.all.items c.push_externals.new.all.items c.loop-source.invariant
    (grows_at_number (λ s unit. IsExternalOf s unit.entities) units n c.index-units-source.result at c.loop-source.all.items c.push_externals.new.all.items
    (subst (λ es. Grows c.loop-source.all.items c.push_externals.new.all.items (IsExternalOf n es)) entities c.in_ok-push_externals.ensures))

pub returns : goal.returns
returns c = are_externals c.args.units.now c.loop-source.all.items c.loop-source.source (omega arith) c.loop-source.invariant
