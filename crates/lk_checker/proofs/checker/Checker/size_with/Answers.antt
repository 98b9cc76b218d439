use Rattle.std.proofs.Common.{◌≡◌, ◌∙◌, ◌∷◌, [], Some, true, All, map, sym, ap, subst}
use Rattle.std.specs.Prelude.{◌&&◌, IfSome, is_some}
use Rattle.lk_types.specs.Sizes.{fields_size}
use Rattle.lk_types.specs.Table.{Table, IsKnown}
use Rattle.lk_typed.specs.Env.{Env}
use Rattle.lk_typed.specs.Expressions.{declarator_found}
use Rattle.lk_typed.specs.Meaning.{meaning}
use Rattle.lk_typed.specs.MemberRules.{large_struct_rules}
use Rattle.lk_typed.specs.NodeRules.{is_none_broken, mark}
use Rattle.lk_typed.specs.Nodes.{IsMember}
use Rattle.lk_typed.specs.Sizes.{is_complete}
use Rattle.lk_typed.specs.Typings.{field_in, structs_in}
use Rattle.lk_rules.specs.Keeping.{KeepsCodes}
use Rattle.lk_found.proofs.MemberCodes.{free_complete, if_free, size_there, there_where}
use Rattle.lk_found.specs.Declarators.{name_codes}
use Rattle.lk_found.specs.Keepings.{codes_at}
use Rattle.lk_found.specs.MembersOf.{IsLarger, IsSizeWith, is_free}
use Rattle.lk_found.specs.Findings.{mark_at}
use Rattle.lk_checker.proofs.Somewhere.{somewhere}
use Rattle.lk_checker.proofs.KeepsAll.{in_same, one_each, same_then, sound_same, then_each}
use Rattle.lk_checker.specs.MembersOf.{KeepsName}
use Rattle.lk_checker.specs.States.{operand_in, kept_in}
use Rattle.lk_checker.proofs.checker.Checker.size_with.Goals as goal

pub keep_member_size-requires-clause-sound : goal.keep_member_size-requires-clause-sound
keep_member_size-requires-clause-sound c = sound_same c.args.self.now c.keep_name_of.new.self c.in_ok-is_free.ensures.same c.requires.sound

pub keep_member_size-requires-clause-known : goal.keep_member_size-requires-clause-known
keep_member_size-requires-clause-known c = subst (λ (table : Table). IsKnown table c.args.t) (sym c.in_ok-is_free.ensures.same.types) c.requires.known

pub returns-clause-same : goal.returns-clause-same
returns-clause-same c = same_then c.args.self.now c.keep_name_of.new.self c.keep_member_size.new.self c.in_ok-is_free.ensures.same c.in_ok-larger.ensures.same

pub returns-clause-keeps : goal.returns-clause-keeps
returns-clause-keeps c = λ env is.
    let old = c.args.self.now in
    let middle = c.keep_name_of.new.self in
    let new = c.keep_member_size.new.self in
    let same = c.in_ok-is_free.ensures.same in
    let d = c.args.d.now in
    let xs = c.args.out.now.fields in
    let has = c.requires.fields in
    let before = map (field_in old.types) xs in
    let t = meaning old.types c.args.t in
    let name = (declarator_found d).name in
    let one = c.in_ok-is_free.ensures.kept env is in
    let two = c.in_ok-larger.ensures.kept env xs (in_same old middle env same is)
    (subst (λ (table : Table). All (λ field. IsKnown table field.ty) xs) (sym same.types) (λ k d within. (has.parts k d within).known))
    (has.size ∙ ap (λ (table : Table). fields_size table (map (λ field. field.ty) xs)) (sym same.types)) in
    let rules = large_struct_rules env before t in
    let here = subst (λ (table : Table). KeepsCodes (kept_in middle) (mark_at c.at_declarator.result) (large_struct_rules env (map (field_in table) xs) (meaning table c.args.t)) (kept_in new)) same.types two in
    then_each (kept_in old) (kept_in middle) (kept_in new) (name_codes env (Some t) (IsMember before) name) (codes_at (mark d.spot d.ordinal) rules ∷ []) one
    (one_each (kept_in middle) (kept_in new) (mark d.spot d.ordinal) rules
    (subst (λ spot. KeepsCodes (kept_in middle) (mark spot d.ordinal) rules (kept_in new)) c.at_declarator.ensures.spot
    (subst (λ n. KeepsCodes (kept_in middle) (mark c.at_declarator.result.spot n) rules (kept_in new)) c.at_declarator.ensures.ordinal here)))

pub returns-clause-size : goal.returns-clause-size
returns-clause-size c = λ env is.
    let old = c.args.self.now in
    let middle = c.keep_name_of.new.self in
    let same = c.in_ok-is_free.ensures.same in
    let xs = c.args.out.now.fields in
    let before = map (field_in old.types) xs in
    let t = meaning old.types c.args.t in
    let name = (declarator_found c.args.d.now).name in
    let free = c.in_ok-is_free.ensures.free env is in
    let larger = subst (λ (table : Table). IsLarger table env xs c.args.t c.in_ok-larger.larger) same.types
    (c.in_ok-larger.ensures.larger env xs (in_same old middle env same is)
    (subst (λ (table : Table). All (λ field. IsKnown table field.ty) xs) (sym same.types) (λ k d within. (c.requires.fields.parts k d within).known))
    (c.requires.fields.size ∙ ap (λ (table : Table). fields_size table (map (λ field. field.ty) xs)) (sym same.types))) in
    let none = is_none_broken (large_struct_rules env before t) in
    ap is_some c.size_if.ensures ∙ there_where old.types env xs c.args.t c.in_ok-is_free.is_free c.in_ok-larger.larger larger ∙ ap (λ b. b && none) free

pub returns-clause-small : goal.returns-clause-small
returns-clause-small c =
    let old = c.args.self.now in
    let middle = c.keep_name_of.new.self in
    let same = c.in_ok-is_free.ensures.same in
    let xs = c.args.out.now.fields in
    let some = somewhere old (operand_in true) in
    let larger = subst (λ (table : Table). IsLarger table some.0 xs c.args.t c.in_ok-larger.larger) same.types
    (c.in_ok-larger.ensures.larger some.0 xs (in_same old middle some.0 same some.1.is_in)
    (subst (λ (table : Table). All (λ field. IsKnown table field.ty) xs) (sym same.types) (λ k d within. (c.requires.fields.parts k d within).known))
    (c.requires.fields.size ∙ ap (λ (table : Table). fields_size table (map (λ field. field.ty) xs)) (sym same.types))) in
    subst (λ size. IfSome size (IsSizeWith old.types xs c.args.t)) (sym c.size_if.ensures) (size_there old.types some.0 xs c.args.t c.in_ok-larger.larger c.in_ok-is_free.is_free larger)

pub returns-clause-complete : goal.returns-clause-complete
returns-clause-complete c =
    let old = c.args.self.now in
    let middle = c.keep_name_of.new.self in
    let same = c.in_ok-is_free.ensures.same in
    let xs = c.args.out.now.fields in
    let some = somewhere old (operand_in true) in
    let t = meaning old.types c.args.t in
    let name = (declarator_found c.args.d.now).name in
    let free = c.in_ok-is_free.ensures.free some.0 some.1.is_in in
    subst (λ size. IfSome size (λ n. is_complete (structs_in old.types old.names.structs) t ≡ true)) (sym c.size_if.ensures)
    (if_free c.in_ok-is_free.is_free c.in_ok-larger.larger (λ yes.
    ap (λ (e : Env). is_complete e.structs t) some.1.is_in.scope ∙ free_complete some.0 (map (field_in old.types) xs) name t (sym free ∙ yes)))
