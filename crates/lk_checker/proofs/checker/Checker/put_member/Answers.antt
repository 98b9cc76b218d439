use Rattle.std.proofs.Common.{◌≡◌, ◌∙◌, None, Some, ap, refl, subst, sym, true, false}
use Rattle.std.specs.Option.{option_map}
use Rattle.std.specs.Prelude.{IfSome}
use Rattle.lk_types.specs.Table.{Table, IsKnown}
use Rattle.lk_typed.specs.Expressions.{declarator_found}
use Rattle.lk_typed.specs.Layers.{faulty_member, field_told}
use Rattle.lk_typed.specs.Meaning.{meaning}
use Rattle.lk_typed.specs.Sizes.{is_complete}
use Rattle.lk_typed.specs.Told.{then_member}
use Rattle.lk_typed.specs.Typings.{structs_in}
use Rattle.lk_names.specs.InScope.{InScope}
use Rattle.lk_found.proofs.FieldsGrow.{fields_same}
use Rattle.lk_found.proofs.MemberCodes.{as_bit_field, tells_of, untyped, untyped_codes}
use Rattle.lk_found.specs.Keepings.{KeepsEach}
use Rattle.lk_found.specs.MembersOf.{HasFields, IsSizeWith, IsThereWhere, TellsFields, member_codes, member_of}
use Rattle.lk_found.specs.declared.fields.MembersFound.{MembersFound}
use Rattle.lk_checker.proofs.KeepsAll.{in_same, sound_same}
use Rattle.lk_checker.proofs.MemberCodes.{puts_member, puts_none}
use Rattle.lk_checker.specs.States.{kept_in}
use Rattle.lk_checker.proofs.checker.Checker.put_member.Goals as goal

pub size_with-requires-clause-fields : goal.size_with-requires-clause-fields
size_with-requires-clause-fields c =
    fields_same c.args.self.now.types c.args.out.now c.put_sizeof.new.self c.requires.fields (ap (λ (m : MembersFound). m.fields) c.put_sizeof.ensures) (ap (λ (m : MembersFound). m.size) c.put_sizeof.ensures)

pub put_field_of-requires-clause-sound : goal.put_field_of-requires-clause-sound
put_field_of-requires-clause-sound c = sound_same c.args.self.now c.size_with.new.self c.in_ok-size.ensures.same c.requires.sound

pub put_field_of-requires-clause-known : goal.put_field_of-requires-clause-known
put_field_of-requires-clause-known c =
    subst (λ (table : Table). IsKnown table c.in-Some.t) (sym c.in_ok-size.ensures.same.types) (subst (λ t. IfSome t (IsKnown c.args.self.now.types)) c.in-Some.is c.requires.known)

pub put_field_of-requires-clause-small : goal.put_field_of-requires-clause-small
put_field_of-requires-clause-small c =
    subst (λ (table : Table). IfSome c.in_ok-size.size (IsSizeWith table c.put_sizeof.new.self.fields c.in-Some.t)) (sym c.in_ok-size.ensures.same.types) c.in_ok-size.ensures.small

pub put_field_of-requires-clause-complete : goal.put_field_of-requires-clause-complete
put_field_of-requires-clause-complete c =
    let same = c.in_ok-size.ensures.same in
    subst (λ (table : Table). IfSome c.in_ok-size.size (λ n. is_complete (structs_in table c.size_with.new.self.names.structs) (meaning table c.in-Some.t) ≡ true)) (sym same.types)
    (subst (λ (names : InScope). IfSome c.in_ok-size.size (λ n. is_complete (structs_in c.args.self.now.types names.structs) (meaning c.args.self.now.types c.in-Some.t) ≡ true)) (sym same.names) c.in_ok-size.ensures.complete)

pub put_field_of-requires-clause-fields : goal.put_field_of-requires-clause-fields
put_field_of-requires-clause-fields c =
    subst (λ (table : Table). HasFields table c.put_sizeof.new.self) (sym c.in_ok-size.ensures.same.types)
    (fields_same c.args.self.now.types c.args.out.now c.put_sizeof.new.self c.requires.fields (ap (λ (m : MembersFound). m.fields) c.put_sizeof.ensures) (ap (λ (m : MembersFound). m.size) c.put_sizeof.ensures))

pub returns-in-None-clause-puts : goal.returns-in-None-clause-puts
returns-in-None-clause-puts c = λ behind others is are.
    let old = c.args.self.now in
    let d = c.args.d.now in
    let t = option_map (meaning old.types) c.args.found.now.ty in
    let holds = c.args.found.now.holds_sizeof in
    let none : t ≡ None = ap (option_map (meaning old.types)) c.in-None.is in
    puts_none old old behind c.args.is_bit_field others d t holds c.args.out.now c.put_sizeof.new.self c.fail.new.self refl c.put_sizeof.ensures
    (ap (λ (m : MembersFound). m.holds_sizeof) c.fail.ensures) are
    (subst (λ t. KeepsEach (kept_in old) (member_codes behind others.fields d t) (kept_in old)) (sym none) (untyped_codes (kept_in old) behind others.fields d)) c.fail.ensures
    (λ added. ap (λ t. member_of behind c.args.is_bit_field others.fields (declarator_found d).name t (faulty_member added holds)) none ∙
    untyped behind c.args.is_bit_field others.fields (declarator_found d).name (faulty_member added holds))

pub returns-then-is_bit_field-clause-fields : goal.returns-then-is_bit_field-clause-fields
returns-then-is_bit_field-clause-fields c =
    let same = c.fail-then-is_bit_field.ensures ∙ ap (λ (m : MembersFound). record m { is_sound = false }) c.put_sizeof.ensures in
    subst (λ (table : Table). HasFields table c.fail-then-is_bit_field.new.self) (sym c.in_ok-size.ensures.same.types)
    (fields_same c.args.self.now.types c.args.out.now c.fail-then-is_bit_field.new.self c.requires.fields (ap (λ (m : MembersFound). m.fields) same) (ap (λ (m : MembersFound). m.size) same))

pub returns-then-is_bit_field-clause-puts : goal.returns-then-is_bit_field-clause-puts
returns-then-is_bit_field-clause-puts c = λ behind others is are.
    let old = c.args.self.now in
    let new = c.size_with.new.self in
    let d = c.args.d.now in
    let t = option_map (meaning old.types) c.args.found.now.ty in
    let holds = c.args.found.now.holds_sizeof in
    let there : t ≡ Some (meaning old.types c.in-Some.t) = ap (option_map (meaning old.types)) c.in-Some.is in
    let tells = tells_of old.types c.args.out.now c.put_sizeof.new.self others holds c.put_sizeof.ensures are in
    puts_none old new behind c.args.is_bit_field others d t holds c.args.out.now c.put_sizeof.new.self c.fail-then-is_bit_field.new.self c.in_ok-size.ensures.same.types c.put_sizeof.ensures
    (ap (λ (m : MembersFound). m.holds_sizeof) c.fail-then-is_bit_field.ensures) are
    (subst (λ t. KeepsEach (kept_in old) (member_codes behind others.fields d t) (kept_in new)) (sym there)
    (subst (λ fs. KeepsEach (kept_in old) (member_codes behind fs d (Some (meaning old.types c.in-Some.t))) (kept_in new)) tells.fields (c.in_ok-size.ensures.keeps behind is))) c.fail-then-is_bit_field.ensures
    (λ added. as_bit_field behind c.args.is_bit_field others.fields (declarator_found d).name t (faulty_member added holds) c.if-is_bit_field.true)

pub returns-clause-fields : goal.returns-clause-fields
returns-clause-fields c = c.in_ok-put_field_of.ensures.fields

pub returns-clause-puts : goal.returns-clause-puts
returns-clause-puts c = λ behind others is are.
    let old = c.args.self.now in
    let new = c.size_with.new.self in
    let same = c.in_ok-size.ensures.same in
    let d = c.args.d.now in
    let after = c.put_field_of.new.out in
    let t = option_map (meaning old.types) c.args.found.now.ty in
    let holds = c.args.found.now.holds_sizeof in
    let name = (declarator_found d).name in
    let there : t ≡ Some (meaning old.types c.in-Some.t) = ap (option_map (meaning old.types)) c.in-Some.is in
    let tells = tells_of old.types c.args.out.now c.put_sizeof.new.self others holds c.put_sizeof.ensures are in
    puts_member old new behind c.args.is_bit_field others d t holds c.args.out.now c.put_sizeof.new.self after same.types c.put_sizeof.ensures c.in_ok-put_field_of.ensures.holds_sizeof are
    (subst (λ t. KeepsEach (kept_in old) (member_codes behind others.fields d t) (kept_in new)) (sym there)
    (subst (λ fs. KeepsEach (kept_in old) (member_codes behind fs d (Some (meaning old.types c.in-Some.t))) (kept_in new)) tells.fields (c.in_ok-size.ensures.keeps behind is)))
    (λ added.
    subst (λ b. TellsFields old.types after (then_member others (member_of behind b others.fields name t (faulty_member added holds)))) (sym c.if-is_bit_field.false)
    (subst (λ t. TellsFields old.types after (then_member others (field_told behind others.fields name t (faulty_member added holds)))) (sym there)
    (subst (λ (table : Table). TellsFields table after (then_member others (field_told behind others.fields name (Some (meaning table c.in-Some.t)) (faulty_member added holds)))) same.types
    (c.in_ok-put_field_of.ensures.puts behind others added holds (in_same old new behind same is)
    (subst (λ (table : Table). TellsFields table c.put_sizeof.new.self others) (sym same.types) tells)
    (subst (λ (table : Table). IsThereWhere table behind c.put_sizeof.new.self.fields name c.in-Some.t c.in_ok-size.size) (sym same.types) (c.in_ok-size.ensures.size behind is))))))
