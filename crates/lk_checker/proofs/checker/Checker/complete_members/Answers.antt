use Rattle.std.proofs.Common.{◌∙◌, [], ◌∷◌, ap, map, refl, subst}
use Rattle.std.specs.List.{slice_set}
use Rattle.std.proofs.lemmas.Option.{slice_get_within}
use Rattle.lk_typed.specs.Env.{Completes, Known as KnownFields, extend}
use Rattle.lk_typed.specs.Told.{steps}
use Rattle.lk_typed.specs.Typings.{field_in, members_in}
use Rattle.lk_typed.specs.declared.members.Members.TheVariants.{Begun, Known}
use Rattle.lk_found.proofs.Completing.{fields_stay, parts_known}
use Rattle.lk_found.specs.Structs.{member_of}
use Rattle.lk_checker.proofs.Completing.{can_complete, completed_sound}
use Rattle.lk_checker.proofs.States.{goes_on}
use Rattle.lk_checker.specs.States.{IsIn}
use Rattle.lk_checker.proofs.checker.Checker.complete_members.Goals as goal

pub complete_struct-requires : goal.complete_struct-requires
complete_struct-requires c =
    can_complete c.args.self.now c.requires.sound c.args.s c.requires.begun c.args.fields.items c.requires.some c.requires.parts c.requires.small c.new.result
    (c.new.ensures ∙ c.in_ok-members.ensures ∙ ap (map member_of) c.as_slice.ensures.value)

pub set_members-requires : goal.set_members-requires
set_members-requires c = slice_get_within c.args.self.now.names.structs c.args.s Begun c.requires.begun

pub returns-clause-grows : goal.returns-clause-grows
returns-clause-grows c =
    let old = c.args.self.now in
    let new = record old { types = c.complete_struct.new.self; names = c.set_members.new.self } in
    record {
      longer = c.complete_struct.ensures.longer;
      sound = completed_sound old new c.requires.sound c.args.s c.args.fields.items c.new.result (c.new.ensures ∙ c.in_ok-members.ensures ∙ ap (map member_of) c.as_slice.ensures.value)
          c.requires.some c.is_table-2.ensures c.complete_struct.ensures.longer c.complete_struct.ensures.value
          (c.set_members.ensures.value ∙ ap (λ fields. record old.names { structs = slice_set old.names.structs c.args.s (Known fields) }) c.new-2.ensures)
          (c.set_members.ensures.known old.types c.requires.sound.scope (parts_known old.types c.args.fields.items c.new-2.result c.new-2.ensures c.requires.parts));
      outside = refl;
      kept = refl;
      records = refl;
    }

pub returns-clause-behind : goal.returns-clause-behind
returns-clause-behind c = λ env is.
    let old = c.args.self.now in
    let new = record old { types = c.complete_struct.new.self; names = c.set_members.new.self } in
    let known = parts_known old.types c.args.fields.items c.new-2.result c.new-2.ensures c.requires.parts in
    let same = fields_stay old.types new.types c.requires.sound.ready.table_is c.complete_struct.ensures.longer c.new-2.result known ∙ ap (map (field_in old.types)) c.new-2.ensures in
    subst (λ fields. IsIn new (extend env (steps (Completes c.args.s (KnownFields fields) ∷ [])))) same
    (goes_on old new (λ table. steps (Completes c.args.s (members_in table (Known c.new-2.result)) ∷ [])) c.requires.sound c.complete_struct.ensures.longer c.set_members.ensures.adds refl env is)
