use Rattle.std.proofs.Common.{subst, sym}
use Rattle.std.proofs.lemmas.Bool.{both_ways}
use Rattle.std.proofs.lemmas.Result.{IfOk-weaker}
use Rattle.lk_facts.specs.EdgeRules.{In, IsInside, Loc, target}
use Rattle.lk_facts.specs.Typed.{IsForm}
use Rattle.lk_facts.specs.declared.edge.Mark.TheVariants.{Plain}
use Rattle.lk_types.specs.declared.c_type.CType.TheVariants.{Void}
use Rattle.lk_types.specs.declared.node.Sel.TheVariants.{Part}
use Rattle.lk_flow.proofs.ConversionLists.{joins_when, joins_unless}
use Rattle.lk_flow.proofs.Finders.{joined, through}
use Rattle.lk_flow.proofs.conversions.put_to_void.Goals as goal

pub returns-then-not-is_void : goal.returns-then-not-is_void
returns-then-not-is_void c =
    let program = c.args.points.now in
    joins_unless c.args.labels.now.names (IsForm program.types c.args.t Void) (Loc program Plain (target program c.args.a) (In program (target program c.args.p) (Part c.args.s))) c.args.found.now
    (λ void. both_ways c.is_void.result c.if-not-is_void.true (c.is_void.ensures.1 (subst (λ table. IsForm table c.args.t Void) (sym c.types.ensures) void)))

pub returns : goal.returns
returns c =
    let program = c.args.points.now in
    let names = c.args.labels.now.names in
    let different = c.requires.labels.different in
    let void = subst (λ table. IsForm table c.args.t Void) c.types.ensures (c.is_void.ensures.0 c.if-not-is_void.false) in
    IfOk-weaker c.put.result _ _ (λ _ adds. joins_when names (IsForm program.types c.args.t Void) (Loc program Plain (target program c.args.a) (In program (target program c.args.p) (Part c.args.s))) c.args.found.now c.put.new.self void
    (joined names different Plain (target program c.args.a) (In program (target program c.args.p) (Part c.args.s)) c.pointee-from.result c.inside-to.result c.args.found.now c.put.new.self c.pointee-from.ensures.found
    (through names (target program c.args.p) (λ x. IsInside program x (Part c.args.s)) c.pointee-void.result c.inside-to.result c.pointee-void.ensures.found c.inside-to.ensures.found) adds)) c.put.ensures
