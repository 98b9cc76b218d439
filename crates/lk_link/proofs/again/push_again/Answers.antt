use Rattle.std.proofs.Common.{List, ◌∙◌, ◌≡◌, ◌++◌, ◌∷◌, [], false, true, sym, ap, subst}
use Rattle.std.proofs.lemmas.Bool.{false≢true}
use Rattle.lk_base.specs.declared.code.Code.TheVariants.{DefinedTwice}
use Rattle.lk_link.specs.Sites.{Grows, IsAgain, IsAgainAt, clash_of}
use Rattle.lk_link.proofs.Growing.{grows_same}
use Rattle.lk_link.specs.declared.clash.Clash.{Clash}
use Rattle.lk_link.proofs.Placing.{clash_pushed}
use Rattle.lk_link.proofs.again.push_again.Goals as goal

pub returns : goal.returns
returns c =
    let again : c.is_again.result ≡ true = cc in
    let group = c.args.group.now in
    let site = c.args.site.now in
    let name = c.args.name.now in
    let old = c.args.clashes.now.items in
    subst (λ new. Grows old new (IsAgainAt name group site)) (ap (λ x. old ++ x ∷ []) (sym {A = Clash} c.in_ok-clash_at.ensures) ∙ sym {A = List Clash} c.in_ok-push.ensures.items)
    (clash_pushed (IsAgain group site) (clash_of site DefinedTwice name) old (c.is_again.ensures.0 again))

pub returns-then-not-is_again : goal.returns-then-not-is_again
returns-then-not-is_again c =
    let other : c.is_again.result ≡ false = cc in
    grows_same c.args.clashes.now.items (IsAgainAt c.args.name.now c.args.group.now c.args.site.now) (λ clash is. false≢true (sym other ∙ c.is_again.ensures.1 is.0))
