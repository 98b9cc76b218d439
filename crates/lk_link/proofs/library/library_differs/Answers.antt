use Rattle.std.proofs.Common.{◌≡◌, [], Some, sym, arith, ap, subst, length}
use Rattle.std.specs.List.{slice_get}
use Rattle.lk_types.proofs.KeptLemmas.{read_got}
use Rattle.lk_link.specs.Library.{IsOtherClashAt}
use Rattle.lk_link.specs.Sites.{Grows, IsOfBelow, IsOfAt}
use Rattle.lk_link.proofs.Differing.{site_type}
use Rattle.lk_link.proofs.Growing.{grows_more, grows_none}
use Rattle.lk_link.proofs.LibraryClashes.{all_other}
use Rattle.lk_link.proofs.Naming.{known_entity, site_named}
use Rattle.lk_link.proofs.Placing.{IsNamedClash, named_grown}
use Rattle.lk_link.proofs.library.library_differs.Goals as goal

pub loop-site-init : goal.loop-site-init
loop-site-init c =
    let units = c.args.units.now in
    let Is = IsOfAt (IsNamedClash units (IsOtherClashAt units)) c.args.names.now.sites in
    subst (λ new. Grows [] new (IsOfBelow Is 0)) (sym c.new-clashes.ensures.items) (grows_none Is [])

pub entity_at-requires : goal.entity_at-requires
entity_at-requires c =
    let n = c.loop-site.site-index in
    let site = c.site-item.result in
    let at = read_got c.sites-site-items.result.now n site c.loop-site-test.true c.site-item.is in
    known_entity c.args.units.now c.args.names.now.sites n site c.requires.names.sites (subst (λ xs. slice_get xs n ≡ Some site) c.sites-site-items.ensures at)

pub push_other-requires : goal.push_other-requires
push_other-requires c =
    let n = c.loop-site.site-index in
    let site = c.site-item.result in
    let at = subst (λ xs. slice_get xs n ≡ Some site) c.sites-site-items.ensures (read_got c.sites-site-items.result.now n site c.loop-site-test.true c.site-item.is) in
    site_type c.args.units.now c.requires.sources c.entity_at.result.now.name site (site_named c.args.units.now c.args.names.now.sites n site c.entity_at.result.now c.requires.names.sites at c.entity_at.ensures)

pub loop-site-preserved : goal.loop-site-preserved
loop-site-preserved c =
    let units = c.args.units.now in
    let sites = c.args.names.now.sites in
    let n = c.loop-site.site-index in
    let site = c.site-item.result in
    let at = subst (λ xs. slice_get xs n ≡ Some site) c.sites-site-items.ensures (read_got c.sites-site-items.result.now n site c.loop-site-test.true c.site-item.is) in
    let old = c.loop-site.clashes.items in
    let new = c.push_other.new.clashes.items in
    grows_more (IsOfAt (IsNamedClash units (IsOtherClashAt units)) sites) n [] old new c.loop-site.invariant
    (named_grown units sites c.requires.names.sites (IsOtherClashAt units) n site c.entity_at.result.now at c.entity_at.ensures old new c.in_ok-push_other.ensures)

pub returns : goal.returns
returns c =
    let count = ap length c.sites-site-items.ensures in
    all_other c.args.units.now c.args.names.now.sites c.requires.names.sites c.loop-site.clashes.items c.loop-site.site-index (omega (arith, count)) c.loop-site.invariant
