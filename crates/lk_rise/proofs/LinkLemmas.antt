-- The links of a program, by the functions that they go into.
use Rattle.std.proofs.Common.{◌≡◌, ◌<◌, ◌≤◌, ◌+◌, ◌++◌, ℕ, Bool, List, [], Contains, length, eqb, sym, subst, ⊎_elim, inl, inr, arith}
use Rattle.std.proofs.lemmas.Bool.{cases_lt, eqb-true, eq-eqb}
use Rattle.std.proofs.lemmas.List.{get_or_past}
use Rattle.std.proofs.lemmas.List.Elements.{All-contains, Contains-append_cases, Contains-append_left, Contains-append_right}
use Rattle.lk_facts.proofs.Ranges.{live_within}
use Rattle.lk_facts.specs.Basis.{Basis}
use Rattle.lk_facts.specs.Items.{Rises}
use Rattle.lk_facts.specs.declared.way.Way.{Way}
use Rattle.lk_links.proofs.LinkLemmas.{rises_live}
use Rattle.lk_links.specs.Links.{IsLink, AreLinks, links_at}
use Rattle.lk_links.specs.declared.link.Link.{Link}
use Rattle.lk_rise.specs.Links.{AreLinksBelow, AreLinksInto, going_into, links_into}
use Rattle.lk_rise.proofs.ListLemmas.{none_there, in_filter}

-- items rise at points alone
pub rises_within : (basis : Basis) (p f g : ℕ) (way : Way) (child above : Bool) → Rises basis p f way g child above → p < length basis.program.points
rises_within basis p f g way child above rises = live_within basis.program p (rises_live basis p f g way child above rises)

pub below_none : (links : List (List Link)) → AreLinksBelow links 0 []
below_none links link = (λ there. absurd (none_there link there), λ found. absurd (omega (arith, found.1)))

-- those of one point more
pub below_more : (links : List (List Link)) (n : ℕ) (all : List Link) → AreLinksBelow links n all → AreLinksBelow links (n + 1) (all ++ links_at links n)
below_more links n all are link = (
  λ there.
      ⊎_elim
      (λ before. let found = (are link).0 before in (found.0, omega (arith, found.1), found.2))
      (λ now. (n, omega arith, now))
      (Contains-append_cases all (links_at links n) link there),
  λ found.
      elim (cases_lt found.0 n) [
        | inl before ↦ Contains-append_left all (links_at links n) link ((are link).1 (found.0, before, found.2))
        | inr after ↦
            let same : found.0 ≡ n = omega (arith, after, found.1) in
            Contains-append_right all (links_at links n) link (subst (λ p. Contains (links_at links p) link) same found.2)
      ],
)

module _ (basis : Basis) (links into : List (List Link)) (all : List Link) (are : AreLinks basis links) (those : AreLinksBelow links (length basis.program.points) all)
    (long : length into ≡ length basis.program.functions) (each : (g : ℕ) → g < length basis.program.functions → links_into into g ≡ going_into all g) where
  -- a link is one of some point
  of_all : (link : Link) → Contains all link → IsLink basis link.point link
  of_all link there =
      let found = (those link).0 there in
      let is : IsLink basis found.0 link = All-contains (IsLink basis found.0) (links_at links found.0) link (are.each found.0 found.1).each found.2 in
      subst (λ p. IsLink basis p link) (sym is.point) is

  pub into_are : AreLinksInto basis into
  into_are = record {
    each = λ g link there.
        elim (cases_lt g (length basis.program.functions)) [
          | inl within ↦
              let found = (in_filter (λ l. eqb l.below g) all link).0 (subst (λ l. Contains l link) (each g within) there) in
              record { is = of_all link found.0; into = eqb-true link.below g found.1 }
          | inr past ↦ absurd (none_there link (subst (λ l. Contains l link) (get_or_past into g [] (subst (λ n. n ≤ g) (sym long) past)) there))
        ];
    all = λ p f g way child above rises.
        let within = rises_within basis p f g way child above rises in
        let found = (are.each p within).all f g way child above rises in
        let link = found.0 in
        let is : IsLink basis p link = All-contains (IsLink basis p) (links_at links p) link (are.each p within).each found.1 in
        let below : g < length basis.program.functions = subst (λ h. h < length basis.program.functions) found.2.into is.below in
        (link, subst (λ l. Contains l link) (sym (each g below)) ((in_filter (λ l. eqb l.below g) all link).1 ((those link).1 (p, within, found.1), eq-eqb link.below g found.2.into)), is.point, found.2);
  }
