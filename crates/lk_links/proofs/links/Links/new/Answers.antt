use Rattle.std.proofs.Common.{◌≡◌, ◌∙◌, ◌++◌, ◌∷◌, [], ap, arith}
use Rattle.std.proofs.lemmas.Grind.{common_steps}
use Rattle.lk_facts.specs.Facts.{basis_of}
use Rattle.lk_links.proofs.LinkLemmas.{links_more}
use Rattle.lk_links.proofs.links.Links.new.Goals as goal

pub loop-point-preserved : goal.loop-point-preserved
loop-point-preserved c = record {
  long = grind (arith, common_steps);
  each = links_more (basis_of c.args.facts.now) c.loop-point.point c.loop-point.at.items c.push.new.self.items c.in_ok-links_of.field-0.items (c.in_ok-push.ensures.items ∙ ap (λ links. c.loop-point.at.items ++ links ∷ []) c.new.ensures) c.loop-point.invariant.long c.in_ok-links_of.ensures c.loop-point.invariant.each;
}

pub returns : goal.returns
returns c = record {
  points = grind (arith, common_steps);
  each = λ p within. c.loop-point.invariant.each p (grind (arith, common_steps, within));
}
