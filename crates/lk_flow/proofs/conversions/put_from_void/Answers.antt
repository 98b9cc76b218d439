use Rattle.std.proofs.Common.{subst, sym}
use Rattle.std.proofs.lemmas.Bool.{both_ways}
use Rattle.std.proofs.lemmas.Result.{IfOk-weaker}
use Rattle.lk_facts.specs.EdgeRules.{In, IsInside, Loc, target}
use Rattle.lk_facts.specs.Typed.{IsForm}
use Rattle.lk_facts.specs.declared.edge.Mark.TheVariants.{Plain}
use Rattle.lk_types.specs.declared.c_type.CType.TheVariants.{Void}
use Rattle.lk_types.specs.declared.node.Sel.TheVariants.{Part}
use Rattle.lk_flow.proofs.ConversionLists.{joins_when, joins_unless}
use Rattle.lk_flow.proofs.Finders.{joined, through}
use Rattle.lk_flow.proofs.conversions.put_from_void.Goals as goal

pub returns-then-not-is_void : goal.returns-then-not-is_void
returns-then-not-is_void c =
    let program = c.args.points.now in
    joins_unless c.args.labels.now.names (IsForm program.types c.args.s Void) (Loc program Plain (In program (target program c.args.a) (Part c.args.t)) (target program c.args.p)) c.args.found.now
    (λ void. both_ways c.is_void.result c.if-not-is_void.true (c.is_void.ensures.1 (subst (λ table. IsForm table c.args.s Void) (sym c.types.ensures) void)))

pub returns : goal.returns
returns c =
    let program = c.args.points.now in
    let names = c.args.labels.now.names in
    let different = c.requires.labels.different in
    let void = subst (λ table. IsForm table c.args.s Void) c.types.ensures (c.is_void.ensures.0 c.if-not-is_void.false) in
    IfOk-weaker c.put.result _ _ (λ _ adds. joins_when names (IsForm program.types c.args.s Void) (Loc program Plain (In program (target program c.args.a) (Part c.args.t)) (target program c.args.p)) c.args.found.now c.put.new.self void
    (joined names different Plain (In program (target program c.args.a) (Part c.args.t)) (target program c.args.p) c.inside-from.result c.pointee-to.result c.args.found.now c.put.new.self
    (through names (target program c.args.a) (λ x. IsInside program x (Part c.args.t)) c.pointee-void.result c.inside-from.result c.pointee-void.ensures.found c.inside-from.ensures.found) c.pointee-to.ensures.found adds)) c.put.ensures
