use Rattle.std.proofs.Common.{◌∙◌, ◌<◌, Some, ap, subst}
use Rattle.lk_facts.specs.InRange.{AllOperands, sizes_of}
use Rattle.lk_point_statics.specs.Backwards.{Meets}
use Rattle.lk_point_statics.specs.Behind.IsBehind.{converted, index, member, sum}
use Rattle.lk_point_statics.proofs.Giving.{alone, leads_converted, leads_member, no_member}
use Rattle.lk_point_statics.proofs.addresses.Asked.operand.Goals as goal

pub returns-in-Convert : goal.returns-in-Convert
returns-in-Convert c =
    let does = c.action-action.ensures.value ∙ ap Some c.in-Convert.is in
    record {
      within = subst (AllOperands (λ a. a < (sizes_of c.args.points.now).points)) c.in-Convert.is c.action-action.ensures.in_range.operands;
      behind = converted c.args.self.now.point c.in-Convert.a c.in-Convert.ty does;
      leads = leads_converted c.args.points.now c.in-Convert.a c.in-Convert.ty c.args.self.now.wanted c.args.self.now.point does;
    }

pub returns-in-Field : goal.returns-in-Field
returns-in-Field c =
    let does = c.action-action.ensures.value ∙ ap Some c.in-Field.is in
    record {
      within = subst (AllOperands (λ a. a < (sizes_of c.args.points.now).points)) c.in-Field.is c.action-action.ensures.in_range.operands;
      behind = member c.args.self.now.point c.in-Field.a c.in-Field.member does;
      leads = leads_member c.args.points.now c.in-Field.a c.in-Field.member c.in_ok-wanted.wanted c.args.self.now.wanted c.in_ok-wanted.ensures c.args.self.now.point does;
    }

pub returns-in_err-wanted : goal.returns-in_err-wanted
returns-in_err-wanted c =
    let program = c.args.points.now in
    let to = c.args.self.now.wanted in
    let p = c.args.self.now.point in
    rw c.from_residual.ensures
    (λ (gives : Meets program to p). absurd (no_member program c.in-Field.a c.in-Field.member to c.in_err-wanted.ensures p (c.action-action.ensures.value ∙ ap Some c.in-Field.is) gives))

pub returns-in-Index : goal.returns-in-Index
returns-in-Index c =
    let does = c.action-action.ensures.value ∙ ap Some c.in-Index.is in
    let operands = subst (AllOperands (λ a. a < (sizes_of c.args.points.now).points)) c.in-Index.is c.action-action.ensures.in_range.operands in
    record {
      within = operands.0;
      behind = index c.args.self.now.point c.in-Index.a c.in-Index.b c.in-Index.into does;
      leads = c.in_ok-moved.ensures c.in-Index.a c.args.self.now.point does;
    }

pub returns-in-Binary : goal.returns-in-Binary
returns-in-Binary c =
    let does = c.action-action.ensures.value ∙ ap Some c.in-Binary.is in
    let operands = subst (AllOperands (λ a. a < (sizes_of c.args.points.now).points)) c.in-Binary.is c.action-action.ensures.in_range.operands in
    record {
      within = operands.0;
      behind = sum c.args.self.now.point c.in-Binary.a c.in-Binary.b c.in-Binary.op does;
      leads = c.in_ok-summed.ensures c.in-Binary.a c.args.self.now.point does;
    }

pub returns : goal.returns
returns c =
    alone c.args.points.now c.args.self.now.wanted c.args.self.now.point c.action-action.result.now c.action-action.ensures.value c.in_default.not-Convert c.in_default-action.not-Field
    c.in_default-action-2.not-Index c.in_default-action-3.not-Binary
