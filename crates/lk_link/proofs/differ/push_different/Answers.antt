use Rattle.std.proofs.Common.{List, ◌≡◌, ◌∙◌, ◌++◌, ◌∷◌, [], true, sym, ap, subst}
use Rattle.lk_base.specs.declared.code.Code.TheVariants.{TypesDiffer}
use Rattle.lk_link.specs.Differing.{IsDifferent, IsDifferentAt}
use Rattle.lk_link.specs.Sites.{Grows, clash_of}
use Rattle.lk_link.specs.declared.clash.Clash.{Clash}
use Rattle.lk_link.proofs.Placing.{clash_pushed}
use Rattle.lk_link.proofs.differ.push_different.Goals as goal

pub returns : goal.returns
returns c =
    let different : c.in_ok-is_different.field-0 ≡ true = cc in
    let units = c.args.units.now in
    let group = c.args.group.now in
    let site = c.args.site.now in
    let name = c.args.name.now in
    let old = c.args.clashes.now.items in
    subst (λ new. Grows old new (IsDifferentAt units name group site)) (ap (λ x. old ++ x ∷ []) (sym {A = Clash} c.in_ok-clash_at.ensures) ∙ sym {A = List Clash} c.in_ok-push.ensures.items)
    (clash_pushed (IsDifferent units group site) (clash_of site TypesDiffer name) old (c.in_ok-is_different.ensures.0 different))
