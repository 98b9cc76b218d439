use Rattle.std.proofs.Common.{subst, sym}
use Rattle.std.proofs.lemmas.Bool.{both_ways}
use Rattle.std.proofs.lemmas.Result.{IfOk-weaker}
use Rattle.lk_facts.specs.EdgeRules.{Sub, value}
use Rattle.lk_facts.specs.declared.edge.Mark.TheVariants.{Plain}
use Rattle.lk_types.specs.Equal.{IsAlike}
use Rattle.lk_flow.proofs.ConversionLists.{joins_when, joins_unless}
use Rattle.lk_flow.proofs.conversions.put_alike.Goals as goal

pub returns-then-not-are_alike : goal.returns-then-not-are_alike
returns-then-not-are_alike c =
    let program = c.args.points.now in
    joins_unless c.args.labels.now.names (IsAlike program.types.types c.args.s c.args.t) (Sub program Plain (value program c.args.a) (value program c.args.p)) c.args.found.now
    (λ alike. both_ways c.are_alike.result c.if-not-are_alike.true (c.are_alike.ensures.1 (subst (λ table. IsAlike table.types c.args.s c.args.t) (sym c.types.ensures) alike)))

pub returns : goal.returns
returns c =
    let program = c.args.points.now in
    let alike = subst (λ table. IsAlike table.types c.args.s c.args.t) c.types.ensures (c.are_alike.ensures.0 c.if-not-are_alike.false) in
    IfOk-weaker c.put_sub.result _ _ (λ _ adds. joins_when c.args.labels.now.names (IsAlike program.types.types c.args.s c.args.t) (Sub program Plain (value program c.args.a) (value program c.args.p)) c.args.found.now c.put_sub.new.found alike adds) c.put_sub.ensures
