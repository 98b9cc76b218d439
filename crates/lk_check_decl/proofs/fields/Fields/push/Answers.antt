use Rattle.std.proofs.Common.{◌∙◌, ◌++◌, ◌∷◌, [], ap}
use Rattle.lk_check_decl.proofs.Sets.{field_pushed}
use Rattle.lk_check_decl.proofs.fields.Fields.push.Goals as goal

pub invariant_of-self-2 : goal.invariant_of-self-2
invariant_of-self-2 c =
    let old = c.self.inside.list.items in
    field_pushed c.self.inside.names.keys c.insert.new.self.keys old c.push_reserved.new.self.items c.args.field c.in_ok-name.name
    (c.push_reserved.ensures.items ∙ ap (λ items. items ++ c.args.field ∷ []) c.reserve.ensures.items) c.in_ok-name.ensures c.self.invariant (λ q. c.in_ok-insert.ensures.updates.0 q)
