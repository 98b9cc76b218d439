use Rattle.std.proofs.Common.{◌∙◌, ◌++◌, ◌∷◌, [], ap}
use Rattle.lk_check_decl.proofs.Sets.{value_pushed}
use Rattle.lk_check_decl.proofs.case_values.CaseValues.push.Goals as goal

pub invariant_of-self-2 : goal.invariant_of-self-2
invariant_of-self-2 c =
    let old = c.self.inside.list.items in
    value_pushed c.self.inside.set.keys c.insert.new.self.keys old c.push_reserved.new.self.items c.args.value
    (c.push_reserved.ensures.items ∙ ap (λ items. items ++ c.args.value ∷ []) c.reserve.ensures.items) c.self.invariant (λ q. c.in_ok-insert.ensures.updates.0 q)
