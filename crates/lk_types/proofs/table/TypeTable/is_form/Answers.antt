use Rattle.std.proofs.Common.{◌↔◌, All, List, ℕ, subst, rules}
use Rattle.std.specs.Prelude.{IsTrue}
use Rattle.lk_types.specs.Building.{IsPassed}
use Rattle.lk_types.proofs.SizeLemmas.{passed_iff}
use Rattle.lk_types.proofs.table.TypeTable.is_form.Goals as goal

pub returns-then-is_passed : goal.returns-then-is_passed
returns-then-is_passed c =
    let now = c.args.self.now in
    passed_iff now c.args.form.now c.in-Function.result c.in-Function.params c.in-Function.dots c.in-Function.is (c.is_passed.ensures.0 (search rules)) c.are_passed.result
    (subst (λ (us : List ℕ). IsTrue c.are_passed.result ↔ All (IsPassed now) us) c.list.ensures c.are_passed.ensures)
