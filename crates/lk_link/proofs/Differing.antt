-- Declarations of one name whose types differ.
use Rattle.std.proofs.Common.{◌≡◌, ◌∙◌, ◌↔◌, inl, inr, ◌<◌, ◌≤◌, ◌+◌, [], ℕ, List, Some, refl, sym, ap, subst, length, get_or, arith}
use Rattle.std.specs.Prelude.{All}
use Rattle.std.proofs.lemmas.List.Elements.{Contains-get_or}
use Rattle.std.proofs.lemmas.Option.{same_Some, slice_get-get_or}
use Rattle.std.proofs.Math.Nat.{eq-or-lt_of_le}
use Rattle.std.specs.List.{slice_get, Contains}
use Rattle.lk_base.specs.declared.code.Code.TheVariants.{TypesDiffer}
use Rattle.lk_types.proofs.SizeLemmas.{all_read}
use Rattle.lk_types.specs.Table.{IsKnown}
use Rattle.lk_link.specs.Clashes.{DiffersFrom}
use Rattle.lk_link.specs.Differing.{DiffersAt, IsDifferent, IsDifferentAt, type_at}
use Rattle.lk_link.specs.Sources.{Units, AreSources, IsSource, IsTypeOf, ComesBefore}
use Rattle.lk_link.specs.Structs.{AreDeclaredAlike}
use Rattle.lk_link.specs.Sites.{Grows, IsOfBelow, IsOfAt, IsSite, AreNames, NameIndex, clash_of, group_at}
use Rattle.lk_link.specs.declared.clash.Clash.{Clash}
use Rattle.lk_link.specs.declared.place.TypeOf.{TypeOf}
use Rattle.lk_link.specs.declared.sites.Site.{Site}
use Rattle.lk_link.proofs.Placing.{IsNamedClash, clash_is, declares_site, site_declares, kept_site, kept_declares, all_clashes}

abbrev pub IsDifferentIn : Units → NameIndex → List ℕ → Site → Clash → Type 0
IsDifferentIn units names name site clash = IsDifferentAt units name (group_at names.groups name) site clash

-- none below a place differs
abbrev pub AreAlikeBelow : Units → List Site → Site → ℕ → Type 0
AreAlikeBelow units group site n = (k : ℕ) (other : Site) → k < n → slice_get group k ≡ Some other → DiffersAt units other site → ⊥

module _ (units : Units) (group : List Site) (site : Site) where
  pub alike_none : AreAlikeBelow units group site 0
  alike_none k other less = absurd (omega (arith, less))

  pub alike_more : (n : ℕ) (other : Site) → slice_get group n ≡ Some other → (DiffersAt units other site → ⊥) → AreAlikeBelow units group site n → AreAlikeBelow units group site (n + 1)
  alike_more n other at alike h k x less there = elim (eq-or-lt_of_le (at_most k less)) [
    | inl last ↦ subst (λ y. DiffersAt units y site → ⊥) (same_Some other x (sym at ∙ ap (slice_get group) (sym last) ∙ there)) alike
    | inr before ↦ h k x before there
  ]
    where
      at_most : (k : ℕ) → k < n + 1 → k ≤ n
      at_most k less = omega arith

  pub alike_all : (n : ℕ) → length group ≤ n → AreAlikeBelow units group site n → IsDifferent units group site → ⊥
  alike_all n past h different =
      let less = different.2 in
      h different.0 different.1 (omega (arith, past, less)) (slice_get-get_or group different.0 different.1 different.2 ∙ ap Some different.3) different.4

abbrev typed : ℕ → ℕ → TypeOf
typed source number = record { source = source; number = number }

one_type : (s z a b : ℕ) → s ≡ z → a ≡ b → typed s a ≡ typed z b
one_type s z a b p q i = typed (p i) (q i)

module _ (units : Units) where
  -- what is declared is a type of its source
  pub site_type : AreSources units → (name : List ℕ) (site : Site) → IsSite units name site → IsTypeOf units (type_at site)
  site_type sources name site is =
      let source = all_read IsSource units site.entity.source is.of.of.unit sources is.of.of.at in
      let entity = all_read (λ entity. All (λ declaration. IsKnown is.of.of.unit.types declaration.ty) entity.declarations) is.of.of.unit.entities site.entity.number is.entity source.declared is.of.of.stands in
      let known = all_read (λ declaration. IsKnown is.of.of.unit.types declaration.ty) is.entity.declarations is.place is.declaration entity is.at in
      record { unit = is.of.of.unit; at = is.of.of.at; known = subst (IsKnown is.of.of.unit.types) (sym (ap (λ (x : Site). x.ty) is.is)) known }

  module _ (names : NameIndex) (are : AreNames units names) where
    pub group_types : AreSources units → (name : List ℕ) → All (λ other. IsTypeOf units (type_at other)) (group_at names.groups name)
    group_types sources name k d within =
        let group = group_at names.groups name in
        site_type sources name (get_or group k d) (are.groups.among name (get_or group k d) (Contains-get_or group k d within))

    differ_to : (site : Site) (name : List ℕ) (clash : Clash) → IsSite units name site → IsDifferent units (group_at names.groups name) site → clash ≡ clash_of site TypesDiffer name → DiffersFrom units clash
    differ_to site name clash is different same =
        let k = declares_site units name site is in
        let other = different.1 in
        let o = kept_declares units names are name other (different.0, different.2, different.3) in
        let types : type_at other ≡ typed other.entity.source o.0.ty = ap type_at o.2 in
        let later : type_at site ≡ typed site.entity.source k.0.ty = ap type_at k.2 in
        subst (DiffersFrom units) (sym same) (
        record {
          other_source = other.entity.source;
          other = o.0;
          there = o.1;
          later = k.0;
          here = k.1;
          before = subst (λ n. ComesBefore other.entity.source n site.entity.source k.0.ordinal) (ap (λ (x : Site). x.ordinal) o.2)
              (subst (ComesBefore other.entity.source other.ordinal site.entity.source) (ap (λ (x : Site). x.ordinal) k.2) different.4.0);
          differ = subst (λ t. AreDeclaredAlike units t (typed site.entity.source k.0.ty) → ⊥) types
              (subst (λ u. AreDeclaredAlike units (type_at other) u → ⊥) later different.4.1);
          ordinal = ap (λ (x : Site). x.ordinal) k.2;
          spot = ap (λ (x : Site). x.spot) k.2;
          code = refl;
        }
        )

    before_kept : (a b c d e f g h : ℕ) → a ≡ e → b ≤ f → c ≡ g → d ≡ h → ComesBefore e f g h → ComesBefore a b c d
    before_kept a b c d e f g h p q r s (inl less) = inl (omega (arith, p, r, less))
    before_kept a b c d e f g h p q r s (inr same) = let x = same.0 in let y = same.1 in inr (omega (arith, p, r, x), omega (arith, q, s, y))

    differ_from : (clash : Clash) → DiffersFrom units clash → (site : Site) × Contains names.sites site × IsNamedClash units (IsDifferentIn units names) site clash
    differ_from clash k =
        let s = site_declares units clash.source clash.name k.later k.here in
        let site = s.0 in
        let source = s.2 in
        let ordinal = ap (λ (x : Site). x.ordinal) s.3 in
        let o = kept_site units names are k.other_source clash.name k.other k.there in
        let kept = o.0 in
        let old_type = one_type k.other_source kept.entity.source k.other.ty kept.ty (sym o.2) (sym o.3) in
        let new_type = one_type clash.source site.entity.source k.later.ty site.ty (sym source) (sym (ap (λ (x : Site). x.ty) s.3)) in (
          site,
          (are.sites site).1 (clash.name, s.1),
          (
            clash.name,
            s.1,
            (
              (
                o.1.0,
                kept,
                o.1.1,
                o.1.2,
                (
                  before_kept kept.entity.source kept.ordinal site.entity.source site.ordinal k.other_source k.other.ordinal clash.source k.later.ordinal o.2 o.5 source ordinal k.before,
                  subst (λ t. AreDeclaredAlike units t (type_at site) → ⊥) old_type (subst (λ u. AreDeclaredAlike units (typed k.other_source k.other.ty) u → ⊥) new_type k.differ),
                ),
              ),
              clash_is clash site (sym source) (k.ordinal ∙ sym ordinal) (k.spot ∙ sym (ap (λ (x : Site). x.spot) s.3)) TypesDiffer k.code,
            ),
          ),
        )

    pub all_different : (clashes : List Clash) (n : ℕ) → n ≡ length names.sites → Grows [] clashes (IsOfBelow (IsOfAt (IsNamedClash units (IsDifferentIn units names)) names.sites) n) → (clash : Clash) → Contains clashes clash ↔ DiffersFrom units clash
    all_different clashes n whole h = all_clashes units names.sites are.sites (IsDifferentIn units names) (DiffersFrom units) (λ site name clash is k. differ_to site name clash is k.0 k.1) differ_from clashes n whole h
