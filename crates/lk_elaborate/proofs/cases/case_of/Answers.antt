use Rattle.std.proofs.Common.{◌∙◌, rules, sym}
use Rattle.std.specs.Int.{w128}
use Rattle.std.proofs.lemmas.Int.{to_z-of_z}
use Rattle.lk_elaborate.proofs.Casing.{case_is}
use Rattle.lk_elaborate.proofs.cases.case_of.Goals as goal

pub returns-in-Some : goal.returns-in-Some
returns-in-Some c =
    case_is c.args.walk.now c.args.kind c.args.e.now c.args.ordinal c.in_ok-constant.constant c.in-Some.value c.case_with.result c.in_ok-constant.ensures (sym c.case_value.ensures ∙ c.in-Some.is) (c.case_with.ensures.value ∙ to_z-of_z w128 c.in-Some.value (search rules)) c.case_with.ensures.ordinal
