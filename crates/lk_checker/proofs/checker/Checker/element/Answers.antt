use Rattle.std.proofs.Common.{◌∙◌, ℕ, List, Option, IfSome, ap, subst, sym}
use Rattle.lk_types.specs.Table.{IsKnown}
use Rattle.lk_typed.specs.Meaning.{meaning}
use Rattle.lk_typed.specs.Sizes.{is_broken, is_complete}
use Rattle.lk_typed.specs.Typings.{structs_in}
use Rattle.lk_typed.specs.declared.members.Members.{Members}
use Rattle.lk_found.specs.Shapes.{IsElementIn}
use Rattle.lk_checker.proofs.PartsOfObjects.{part_if_complete}
use Rattle.lk_checker.proofs.checker.Checker.element.Goals as goal

pub returns-in-Some-clause-part : goal.returns-in-Some-clause-part
returns-in-Some-clause-part c =
    let checker = c.args.self.now in
    let types = checker.types in
    let t = c.in-Some.t in
    let known = subst (λ (t : Option ℕ). IfSome t (IsKnown types)) c.in-Some.is c.requires.known in
    subst (λ (t : Option ℕ). IfSome t (IsElementIn types (record { is_complete = c.is_complete.result; is_broken = c.is_broken.result }))) (sym c.in-Some.is)
    (λ complete whole. part_if_complete checker c.requires.sound t known
    (ap (λ (structs : List Members). is_complete (structs_in types structs) (meaning types t)) (sym c.structs.ensures) ∙ sym c.is_complete.ensures ∙ complete)
    (ap (λ (structs : List Members). is_broken (structs_in types structs) (meaning types t)) (sym c.structs-in-Some.ensures) ∙ sym c.is_broken.ensures ∙ whole))
