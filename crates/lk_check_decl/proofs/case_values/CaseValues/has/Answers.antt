use Rattle.std.proofs.Common.{◌≡◌, ◌∙◌, subst, sym}
use Rattle.std.specs.List.{list_any}
use Rattle.std.specs.Option.{option_eq}
use Rattle.std.specs.Ordering.{int_eq}
use Rattle.lk_typed.specs.StatementRules.{are_equal}
use Rattle.lk_check_decl.proofs.Sets.{known_equal, unknown_equal}
use Rattle.lk_check_decl.proofs.case_values.CaseValues.has.Goals as goal

pub returns-in-Some : goal.returns-in-Some
returns-in-Some c =
    let values = c.self.inside.list.items in
    let found = c.contains.ensures ∙ c.self.invariant c.args.value in
    let known = subst (λ value. list_any (option_eq int_eq value) values ≡ list_any (are_equal value) values) (sym c.in-Some.is) (known_equal c.in-Some.field-0 values) in
    subst (λ values. c.contains.result ≡ list_any (are_equal c.args.value) values) c.self.view_is (found ∙ known)

pub returns-in-None : goal.returns-in-None
returns-in-None c = rw c.in-None.is (unknown_equal c.args.self.now)
