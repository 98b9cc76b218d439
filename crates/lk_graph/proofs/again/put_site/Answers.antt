use Rattle.std.proofs.lemmas.Option.{none-some}
use Rattle.lk_graph.proofs.AgainLemmas.{sites_none, sites_read}
use Rattle.lk_graph.proofs.again.put_site.Goals as goal

pub returns-in_default-clause-sites : goal.returns-in_default-clause-sites
returns-in_default-clause-sites c = λ first. sites_none c.args.points.now c.args.point first c.args.once.now.list c.args.again.now.list (λ f site. none-some f ((c.in_default.ensures.value f).1 site))

pub returns-clause-sites : goal.returns-clause-sites
returns-clause-sites c = λ first.
    sites_read c.args.points.now c.args.point c.in-Some.function c.args.cycles.now first c.args.once.now c.args.again.now c.put.new.self c.put_again.new.again
    c.requires.cycles c.in-Some.ensures.value c.in_ok-put.ensures c.in_ok-put_again.ensures
