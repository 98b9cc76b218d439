-- Names that several sources define.
use Rattle.std.proofs.Common.{◌≡◌, ◌∙◌, ◌↔◌, [], ℕ, List, refl, sym, ap, subst, length, arith}
use Rattle.std.specs.List.{Contains}
use Rattle.lk_base.specs.declared.code.Code.TheVariants.{DefinedTwice}
use Rattle.lk_link.specs.Clashes.{IsDefinedTwice}
use Rattle.lk_link.specs.Sources.{Units, DefinesAt, IsDefining}
use Rattle.lk_link.specs.Sites.{Grows, IsOfBelow, IsOfAt, IsSite, AreNames, NameIndex, IsAgain, IsAgainAt, clash_of, group_at}
use Rattle.lk_link.specs.declared.clash.Clash.{Clash}
use Rattle.lk_link.specs.declared.sites.Site.{Site}
use Rattle.lk_link.proofs.Placing.{IsNamedClash, clash_is, declares_site, site_declares, kept_site, defining_declares, all_clashes}

abbrev pub IsAgainIn : NameIndex → List ℕ → Site → Clash → Type 0
IsAgainIn names name site clash = IsAgainAt name (group_at names.groups name) site clash

module _ (units : Units) (names : NameIndex) (are : AreNames units names) where
  twice_to : (site : Site) (name : List ℕ) (clash : Clash) → IsSite units name site → IsAgain (group_at names.groups name) site → clash ≡ clash_of site DefinedTwice name → IsDefinedTwice units clash
  twice_to site name clash is again same =
      let k = declares_site units name site is in
      let e = again.earlier in
      let before = defining_declares units names are name e.1 (e.0, e.2, e.3) e.4.1 in
      subst (IsDefinedTwice units) (sym same) (
      record {
        earlier = e.1.entity.source;
        before = e.4.0;
        there = (before.0, before.1);
        again = k.0;
        here = record {
          stands = (k.1, subst IsDefining (ap (λ (x : Site). x.defines) k.2) again.defining);
          first = λ other defines less.
              let x = kept_site units names are site.entity.source name other defines.0 in
              let ordinal = ap (λ (x : Site). x.ordinal) k.2 in
              let no_later = x.5 in
              again.first (x.1.0, x.0, x.1.1, x.1.2, (x.2, omega (arith, less, ordinal, no_later), subst IsDefining (sym x.4) defines.1));
        };
        ordinal = ap (λ (x : Site). x.ordinal) k.2;
        spot = ap (λ (x : Site). x.spot) k.2;
        code = refl;
      }
      )

  twice_from : (clash : Clash) → IsDefinedTwice units clash → (site : Site) × Contains names.sites site × IsNamedClash units (IsAgainIn names) site clash
  twice_from clash k =
      let s = site_declares units clash.source clash.name k.again k.here.stands.0 in
      let site = s.0 in
      let source = s.2 in
      let earlier = kept_site units names are k.earlier clash.name k.there.0 k.there.1.0 in
      let is_earlier = earlier.2 in
      let before = k.before in
      let ordinal = ap (λ (x : Site). x.ordinal) s.3 in (
        site,
        (are.sites site).1 (clash.name, s.1),
        (
          clash.name,
          s.1,
          (
            record {
              defining = subst IsDefining (sym (ap (λ (x : Site). x.defines) s.3)) k.here.stands.1;
              earlier = (earlier.1.0, earlier.0, earlier.1.1, earlier.1.2, (omega (arith, is_earlier, before, source), subst IsDefining (sym earlier.4) k.there.1.1));
              first = λ other.
                  let d = defining_declares units names are clash.name other.1 (other.0, other.2, other.3) other.4.2 in
                  let o = ap (λ (x : Site). x.ordinal) d.2 in
                  let less = other.4.1 in
                  k.here.first d.0 (subst (λ n. DefinesAt units n clash.name d.0) (other.4.0 ∙ source) d.1) (omega (arith, o, less, ordinal));
            },
            clash_is clash site (sym source) (k.ordinal ∙ sym ordinal) (k.spot ∙ sym (ap (λ (x : Site). x.spot) s.3)) DefinedTwice k.code,
          ),
        ),
      )

  pub all_twice : (clashes : List Clash) (n : ℕ) → n ≡ length names.sites → Grows [] clashes (IsOfBelow (IsOfAt (IsNamedClash units (IsAgainIn names)) names.sites) n) → (clash : Clash) → Contains clashes clash ↔ IsDefinedTwice units clash
  all_twice clashes n whole h = all_clashes units names.sites are.sites (IsAgainIn names) (IsDefinedTwice units) (λ site name clash is k. twice_to site name clash is k.0 k.1) twice_from clashes n whole h
