use Rattle.std.proofs.Common.{◌≡◌, ◌∙◌, map, subst}
use Rattle.std.specs.Prelude.{is_some}
use Rattle.lk_typed.specs.Env.{field_of}
use Rattle.lk_typed.specs.Typings.{field_in}
use Rattle.lk_check_decl.proofs.Sets.{some_named}
use Rattle.lk_check_decl.proofs.fields.Fields.has.Goals as goal

pub returns : goal.returns
returns c = λ table.
    let name = c.args.name.now in
    subst (λ fields. c.contains.result ≡ is_some (field_of (map (field_in table) fields) name)) c.self.view_is
    (c.contains.ensures ∙ c.self.invariant name ∙ some_named table c.self.inside.list.items name)
