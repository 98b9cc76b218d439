use Rattle.std.proofs.Common.{sym, subst}
use Rattle.lk_link.specs.Sites.{AreExternals, AreSites}
use Rattle.lk_link.proofs.names.Names.of.Goals as goal

pub sites-requires : goal.sites-requires
sites-requires c = subst (AreExternals c.args.units.now) (sym c.as_slice.ensures.value) c.in_ok-externals.ensures

pub of-requires : goal.of-requires
of-requires c = subst (AreSites c.args.units.now) (sym c.as_slice-2.ensures.value) c.in_ok-sites.ensures

pub returns : goal.returns
returns c = record {
  externals = subst (AreExternals c.args.units.now) (sym c.new.ensures) c.in_ok-externals.ensures;
  sites = subst (AreSites c.args.units.now) (sym c.new-2.ensures) c.in_ok-sites.ensures;
  groups = c.in_ok-groups.ensures;
}
