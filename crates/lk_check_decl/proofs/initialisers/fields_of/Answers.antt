use Rattle.std.proofs.Common.{◌∙◌, map, sym, ap}
use Rattle.lk_typed.specs.Meaning.{meaning}
use Rattle.lk_typed.specs.MemberRules.{types_in}
use Rattle.lk_typed.specs.Typings.{members_in}
use Rattle.lk_check_decl.proofs.FieldLemmas.{members_there, members_gone, types_same}
use Rattle.lk_check_decl.proofs.initialisers.fields_of.Goals as goal

pub returns-then-s-structs-clause-types : goal.returns-then-s-structs-clause-types
returns-then-s-structs-clause-types c = λ table. ap types_in (sym (members_gone table c.args.structs.now c.args.s c.if-s-structs.true))

pub returns-in-Known-clause-types : goal.returns-in-Known-clause-types
returns-in-Known-clause-types c = λ table.
    let there = members_there table c.args.structs.now c.args.s c.index-structs-s.result c.if-s-structs.false c.index-structs-s.is in
    ap (map (λ field. meaning table field.ty)) c.list.ensures ∙ types_same table c.in-Known.fields ∙
    ap types_in (sym (there ∙ ap (members_in table) c.in-Known.is))
