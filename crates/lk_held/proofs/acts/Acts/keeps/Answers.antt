use Rattle.std.proofs.Common.{◌≡◌, ◌↔◌, [], true, ap, refl, subst, sym, ◌∙◌, arith}
use Rattle.lk_facts.specs.Held.{Drops, Released}
use Rattle.lk_held.specs.Acts.{basis_in}
use Rattle.lk_held.specs.Holding.{apart_from}
use Rattle.lk_held.proofs.KeepLemmas.{kept_is}
use Rattle.lk_sets.specs.Ids.{has_id, IsSetOf}
use Rattle.std.proofs.lemmas.List.{get_or_read}
use Rattle.lk_held.proofs.acts.Acts.keeps.Goals as goal

pub returns : goal.returns
returns c =
    let self = c.args.self.now in
    let basis = basis_in self in
    let others = c.ids-others.result.now in
    let is = c.ids-others.ensures.list ∙ get_or_read c.args.dropped.now c.args.point c.index-dropped-point.result (omega (arith, c.requires.point, c.requires.dropped.all)) c.index-dropped-point.is [] in
    kept_is basis self.facts.now.origins c.args.point c.args.locks.now others c.in_ok-kept.kept c.in_ok-ids.ids.items refl
    (c.in_ok-ids.ensures ∙ ap (apart_from self.facts.now.origins others) c.ids.ensures.list)
    (subst (λ ids. IsSetOf (has_id ids) c.in_ok-kept.kept) c.deref.ensures.value c.in_ok-kept.ensures)
    (λ x. subst (λ ids. (has_id ids x ≡ true) ↔ Drops basis (Released basis) c.args.point x) (sym is) (c.requires.dropped.exact c.args.point x c.requires.point))
