-- Names of the library's functions that are declared with other types.
use Rattle.std.proofs.Common.{◌≡◌, ◌∙◌, ◌↔◌, [], ℕ, List, refl, sym, ap, subst, length}
use Rattle.std.specs.List.{Contains}
use Rattle.lk_base.specs.declared.code.Code.TheVariants.{TypesDiffer}
use Rattle.lk_link.specs.Clashes.{DiffersFromLibrary}
use Rattle.lk_link.specs.Library.{IsOtherAt, IsOtherClashAt, IsOtherInLibrary}
use Rattle.lk_link.specs.Sites.{Grows, IsOfBelow, IsOfAt, IsSite, AreSites, clash_of}
use Rattle.lk_link.specs.Sources.{Units}
use Rattle.lk_link.specs.Structs.{types_in}
use Rattle.lk_link.specs.declared.clash.Clash.{Clash}
use Rattle.lk_link.specs.declared.sites.Site.{Site}
use Rattle.lk_link.proofs.Placing.{IsNamedClash, clash_is, declares_site, site_declares, all_clashes}

module _ (units : Units) (sites : List Site) (are : AreSites units sites) where
  other_to : (site : Site) (name : List ℕ) (clash : Clash) → IsSite units name site → IsOtherAt units name site → clash ≡ clash_of site TypesDiffer name → DiffersFromLibrary units clash
  other_to site name clash is other same =
      let k = declares_site units name site is in
      let type = ap (λ (x : Site). x.ty) k.2 in
      let other_type = subst (λ t. IsOtherInLibrary (types_in units site.entity.source) t name) type other in
      subst (DiffersFromLibrary units) (sym same) (
      record {
        function = other_type.function;
        there = other_type.there;
        later = k.0;
        here = k.1;
        differ = other_type.differ;
        ordinal = ap (λ (x : Site). x.ordinal) k.2;
        spot = ap (λ (x : Site). x.spot) k.2;
        code = refl;
      }
      )

  other_from : (clash : Clash) → DiffersFromLibrary units clash → (site : Site) × Contains sites site × IsNamedClash units (IsOtherClashAt units) site clash
  other_from clash k =
      let s = site_declares units clash.source clash.name k.later k.here in
      let site = s.0 in
      let type = ap (λ (x : Site). x.ty) s.3 in
      let here : IsOtherInLibrary (types_in units clash.source) k.later.ty clash.name = record { function = k.function; there = k.there; differ = k.differ } in (
        site,
        (are site).1 (clash.name, s.1),
        (
          clash.name,
          s.1,
          (
            subst (λ n. IsOtherInLibrary (types_in units n) site.ty clash.name) (sym s.2) (subst (λ t. IsOtherInLibrary (types_in units clash.source) t clash.name) (sym type) here),
            clash_is clash site (sym s.2) (k.ordinal ∙ sym (ap (λ (x : Site). x.ordinal) s.3)) (k.spot ∙ sym (ap (λ (x : Site). x.spot) s.3)) TypesDiffer k.code,
          ),
        ),
      )

  pub all_other : (clashes : List Clash) (n : ℕ) → n ≡ length sites → Grows [] clashes (IsOfBelow (IsOfAt (IsNamedClash units (IsOtherClashAt units)) sites) n) → (clash : Clash) → Contains clashes clash ↔ DiffersFromLibrary units clash
  all_other clashes n whole h = all_clashes units sites are (IsOtherClashAt units) (DiffersFromLibrary units) (λ site name clash is k. other_to site name clash is k.0 k.1) other_from clashes n whole h
