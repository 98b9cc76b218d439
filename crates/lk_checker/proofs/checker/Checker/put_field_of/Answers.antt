use Rattle.std.proofs.Common.{◌≡◌, ◌∙◌, ap, subst, sym, true}
use Rattle.std.specs.Prelude.{IfSome}
use Rattle.lk_typed.specs.Meaning.{meaning}
use Rattle.lk_typed.specs.Sizes.{is_broken, is_complete}
use Rattle.lk_typed.specs.Typings.{structs_in}
use Rattle.lk_found.proofs.FieldsGrow.{fields_push}
use Rattle.lk_found.specs.MembersOf.{IsSizeWith}
use Rattle.lk_checker.proofs.PartsOfObjects.{part_if_complete}
use Rattle.lk_checker.proofs.checker.Checker.put_field_of.Goals as goal

pub returns-clause-fields : goal.returns-clause-fields
returns-clause-fields c =
    let checker = c.args.self.now in
    let t = meaning checker.types c.args.t in
    let with_it = subst (λ size. IfSome size (IsSizeWith checker.types c.args.out.now.fields c.args.t)) c.in-Some.is c.requires.small in
    let complete = subst (λ size. IfSome size (λ n. is_complete (structs_in checker.types checker.names.structs) t ≡ true)) c.in-Some.is c.requires.complete in
    let whole = ap (λ ss. is_broken (structs_in checker.types ss) t) (sym c.structs.ensures) ∙ sym c.is_broken.ensures ∙ c.if-is_broken.false in
    fields_push checker.types c.args.out.now c.put_field.new.self (record { name = c.in-Some-declared_name.named.name.now; ty = c.args.t }) c.in-Some.size c.requires.fields
    (part_if_complete checker c.requires.sound c.args.t c.requires.known complete whole) with_it c.in_ok-put_field.ensures.fields c.in_ok-put_field.ensures.size
