use Rattle.std.proofs.Common.{◌∙◌, ap, subst, sym}
use Rattle.lk_elaborator.specs.Leading.{Grows}
use Rattle.lk_elaborator.specs.declared.locals.Locals.{Locals}
use Rattle.lk_elaborate.specs.StaticParts.{GivesPartsOutside}
use Rattle.lk_elaborate.proofs.MakingStatics.{grows_outside, parts_outside}
use Rattle.lk_elaborate.proofs.statics.parts_outside.Goals as goal

pub returns-clause-parts : goal.returns-clause-parts
returns-clause-parts c =
    let old = c.args.walk.now in
    let made = c.static_parts.new.walk in
    let none = c.replace-locals.new.dest in
    subst (λ ls. GivesPartsOutside old (record made { locals = ls }) c.args.givens.now c.in_ok-parts.parts.items) (sym c.replace-locals.ensures.value)
    (parts_outside old none made c.args.givens.now c.in_ok-parts.parts.items (ap (λ (ls : Locals). ls.numbers.entries) c.replace-locals.ensures.after ∙ c.new-none.ensures.numbers)
    c.in_ok-parts.ensures.grows c.in_ok-parts.ensures.parts)

pub returns-clause-grows : goal.returns-clause-grows
returns-clause-grows c =
    let made = c.static_parts.new.walk in
    subst (λ ls. Grows c.args.walk.now (record made { locals = ls })) (sym c.replace-locals.ensures.value) (grows_outside c.args.walk.now c.replace-locals.new.dest made c.in_ok-parts.ensures.grows)
