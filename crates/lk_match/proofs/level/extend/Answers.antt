use Rattle.std.proofs.Common.{◌≡◌, ◌↔◌, ◌⊎◌, true, ℕ, All, Contains, sym, subst}
use Rattle.lk_facts.specs.Labels.{is_global_at}
use Rattle.lk_sets.specs.Adding.{IsGiven}
use Rattle.lk_sets.specs.Rows.{has}
use Rattle.lk_sets.specs.Spread.{IsWithin, Spread}
use Rattle.lk_sets.specs.declared.spread.Arrow.{Arrow}
use Rattle.lk_match.specs.Levels.{IsPassedOn}
use Rattle.lk_match.specs.Summaries.{IsSummaryWithin, summary_of}
use Rattle.lk_match.proofs.LevelLemmas.{arrows_within, extended}
use Rattle.lk_match.proofs.level.extend.Goals as goal

pub spread_marked-requires : goal.spread_marked-requires
spread_marked-requires c =
    let global = is_global_at c.args.labels.now in
    let found = c.in_ok-found.found.items in
    let arrows = c.in_ok-arrows.arrows.items in
    let within = subst (λ count. All (IsSummaryWithin count) found) (sym c.put_all-put.ensures.grows.size) c.in_ok-found.ensures.within in
    let back = subst (λ ys. (x : Arrow) → Contains arrows x ↔ IsGiven (IsPassedOn global) ys x) c.deref.ensures.value c.in_ok-arrows.ensures in
    subst (All (IsWithin c.put_all-put.new.rows.size)) (sym c.deref-3.ensures.value) (arrows_within global _ found arrows within back)

pub returns : goal.returns
returns c =
    let global = is_global_at c.args.labels.now in
    let old = c.args.rows.now in
    let mid = c.put_all-put.new.rows in
    let new = c.spread_marked.new.self in
    let found = c.in_ok-found.found.items in
    let arrows = c.in_ok-arrows.arrows.items in
    let back = subst (λ ys. (x : Arrow) → Contains arrows x ↔ IsGiven (IsPassedOn global) ys x) c.deref.ensures.value c.in_ok-arrows.ensures in
    let put = subst (λ ys. (a b : ℕ) → (has mid a b ≡ true) ↔ ((has old a b ≡ true) ⊎ Contains ys (summary_of a b))) c.deref-2.ensures.value c.put_all-put.ensures.pairs in
    let spread = subst (λ ys. (a b : ℕ) → (has new a b ≡ true) ↔ Spread ys mid a b) c.deref-3.ensures.value c.in_ok-passed.ensures.pairs in
    extended c.args.edges.now global old mid new found arrows c.in_ok-found.ensures.each back put spread c.put_all-put.result c.in_ok-passed.passed c.put_all-put.ensures.grows c.in_ok-passed.ensures.grows
