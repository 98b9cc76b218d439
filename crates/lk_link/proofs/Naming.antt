-- The entities and declarations of external linkage of all sources, and the groups of their names.
use Rattle.std.proofs.Common.{◌≡◌, ◌∙◌, ◌⊎◌, inl, inr, ◌<◌, ◌≤◌, ◌+◌, ◌++◌, ◌∷◌, [], ℕ, List, Some, Bool, true, false, if◌then◌else◌, refl, sym, ap, subst, length, arith, nat_eq}
use Rattle.std.proofs.lemmas.List.Elements.{Contains-append_left, Contains-push, Contains-push_cases}
use Rattle.std.proofs.lemmas.Option.{same_Some, slice_get_within}
use Rattle.std.proofs.Math.Nat.{eq-or-lt_of_le}
use Rattle.std.specs.Cmp.Lexicographic.{pointwise}
use Rattle.std.specs.List.{slice_get, Contains, Any}
use Rattle.lk_typed.specs.declared.entity.Entity.{Entity}
use Rattle.lk_typed.specs.declared.unit.TypedUnit.{TypedUnit}
use Rattle.lk_link.specs.Sources.{Units, IsEntity}
use Rattle.lk_link.specs.Sites.{Grows, IsOfBelow, IsOfAt, IsOfSome, IsExternalAt, IsExternalOf, IsExternal, AreExternals, IsSite, IsSiteAt, AreSites, AreGroups, IsAdded, IsPushedAt, StandsFor, group_at}
use Rattle.lk_link.specs.declared.sites.EntityOf.{EntityOf}
use Rattle.lk_link.specs.declared.sites.Site.{Site}
use Rattle.lk_link.proofs.Growing.{contains_at, at_contains, grows_at, grows_by, grows_from_nothing}
use Rattle.lk_link.proofs.Meeting.{name_is, name_itself}

module _ (units : Units) where
  abbrev pub IsExternalIn : ℕ → EntityOf → Type 0
  IsExternalIn source at = (unit : TypedUnit) × (slice_get units source ≡ Some unit) × IsExternalOf source unit.entities at

  abbrev pub IsSiteFrom : EntityOf → Site → Type 0
  IsSiteFrom at site = (entity : Entity) × IsExternal units at entity × IsOfSome (IsSiteAt at) entity.declarations site

  abbrev pub IsNamedBelow : List Site → ℕ → List ℕ → Site → Type 0
  IsNamedBelow sites n name site = (i : ℕ) × (i < n) × (slice_get sites i ≡ Some site) × IsSite units name site

  pub same_entity : (s e : ℕ) (a b : Entity) → IsEntity units s e a → IsEntity units s e b → a ≡ b
  same_entity s e a b h k =
      let unit = same_Some h.unit k.unit (sym h.at ∙ k.at) in
      same_Some a b (sym h.stands ∙ ap (λ (u : TypedUnit). slice_get u.entities e) unit ∙ k.stands)

  pub are_externals : (all : List EntityOf) (n : ℕ) → n ≡ length units → Grows [] all (IsOfBelow IsExternalIn n) → AreExternals units all
  are_externals all n whole h at = (
    (λ among.
        let k = (grows_from_nothing all (IsOfBelow IsExternalIn n) h at).0 among in
        let below = k.2.2 in
        to at k.0 k.2.0 k.2.1 below.0 below.2.0 below.2.1 below.2.2),
    (λ is. (grows_from_nothing all (IsOfBelow IsExternalIn n) h at).1 (
      at.source,
      subst (λ m. at.source < m) (sym whole) (slice_get_within units at.source is.1.of.unit is.1.of.at),
      (is.1.of.unit, is.1.of.at, (at.number, slice_get_within is.1.of.unit.entities at.number is.0 is.1.of.stands, (is.0, is.1.of.stands, (refl, is.1.external)))),
    )),
  )
    where
      to : (at : EntityOf) (s : ℕ) (unit : TypedUnit) → slice_get units s ≡ Some unit → (e : ℕ) (entity : Entity) → slice_get unit.entities e ≡ Some entity → IsExternalAt s e entity at → (entity : Entity) × IsExternal units at entity
      to at s unit there e entity stands is =
          (entity, subst (λ at. IsExternal units at entity) (sym is.0) (record { of = record { unit = unit; at = there; stands = stands }; external = is.1 }))

  pub known_external : (externals : List EntityOf) (n : ℕ) (at : EntityOf) → AreExternals units externals → slice_get externals n ≡ Some at → (entity : Entity) × IsExternal units at entity
  known_external externals n at are there = (are at).0 (contains_at externals n at there)

  pub site_grown : (externals : List EntityOf) (n : ℕ) (at : EntityOf) (entity : Entity) (old new : List Site) → AreExternals units externals → slice_get externals n ≡ Some at → IsEntity units at.source at.number entity →
      Grows old new (IsOfSome (IsSiteAt at) entity.declarations) → Grows old new (IsOfAt IsSiteFrom externals n)
  site_grown externals n at entity old new are there is h =
      let known = known_external externals n at are there in
      let same = same_entity at.source at.number known.0 entity known.1.of is in
      let external = subst (IsExternal units at) same known.1 in
      grows_at IsSiteFrom externals n at there old new (
      grows_by old new (IsOfSome (IsSiteAt at) entity.declarations) (IsSiteFrom at) (λ site of. (entity, external, of))
      (λ site from. subst (λ (e : Entity). IsOfSome (IsSiteAt at) e.declarations site) (same_entity at.source at.number from.0 entity from.1.of is) from.2) h
      )

  pub are_sites : (externals : List EntityOf) (all : List Site) (n : ℕ) → AreExternals units externals → n ≡ length externals → Grows [] all (IsOfBelow (IsOfAt IsSiteFrom externals) n) → AreSites units all
  are_sites externals all n are whole h site = (
    (λ among. let k = (grows_from_nothing all (IsOfBelow (IsOfAt IsSiteFrom externals) n) h site).0 among in let from_ = k.2.2 in to k.2.0 from_.0 from_.1 from_.2),
    (λ is. (grows_from_nothing all (IsOfBelow (IsOfAt IsSiteFrom externals) n) h site).1 (from is.0 is.1)),
  )
    where
      to : (at : EntityOf) (entity : Entity) → IsExternal units at entity → IsOfSome (IsSiteAt at) entity.declarations site → (name : List ℕ) × IsSite units name site
      to at entity external of =
          let is = of.2.2 in (
            entity.name,
            record {
              entity = entity;
              of = subst (λ (x : Site). IsExternal units x.entity entity) (sym is) external;
              named = refl;
              declaration = of.2.0;
              place = of.0;
              at = of.2.1;
              is = subst (λ (x : Site). IsSiteAt x.entity of.2.0 x) (sym is) refl;
            },
          )

      from : (name : List ℕ) → IsSite units name site → IsOfBelow (IsOfAt IsSiteFrom externals) n site
      from name is =
          let there = at_contains externals site.entity ((are site.entity).1 (is.entity, is.of)) in (
            there.0,
            subst (λ m. there.0 < m) (sym whole) (slice_get_within externals there.0 site.entity there.1),
            (site.entity, there.1, (is.entity, is.of, (is.place, slice_get_within is.entity.declarations is.place is.declaration is.at, (is.declaration, is.at, is.is)))),
          )

module _ (old new : List (List ℕ × List Site)) (name : List ℕ) (site : Site) where
  abbrev grown : List ℕ → Bool → List Site
  grown other b = if b then group_at old other ++ site ∷ [] else group_at old other

  -- a declaration is put to its group
  pub pushed_added : IsPushedAt old new name site → IsAdded old new name site
  pushed_added put = record {
    among = λ other x there. among other x (pointwise nat_eq name other) refl (subst (λ g. Contains g x) (put other) there);
    kept = λ other x there. subst (λ g. Contains g x) (sym (put other)) (kept other x (pointwise nat_eq name other) there);
    covered =
        let there = Contains-push (group_at old name) site in
        subst (λ g. Any (λ y. StandsFor y site) g) (sym (put name ∙ ap (grown name) (name_itself name name refl))) (there.0, site, there.1, there.2, itself);
  }
    where
      itself : StandsFor site site
      itself = record { source = refl; type = refl; defines = refl; no_later = omega arith }

      among : (other : List ℕ) (x : Site) (b : Bool) → pointwise nat_eq name other ≡ b → Contains (grown other (pointwise nat_eq name other)) x → Contains (group_at old other) x ⊎ ((other ≡ name) × (x ≡ site))
      among other x true is there = elim (Contains-push_cases (group_at old other) site x (subst (λ b. Contains (grown other b) x) is there)) [
        | inl before ↦ inl before
        | inr same ↦ inr (sym (name_is name other is), sym same)
      ]
      among other x false is there = inl (subst (λ b. Contains (grown other b) x) is there)

      kept : (other : List ℕ) (x : Site) (b : Bool) → Contains (group_at old other) x → Contains (grown other b) x
      kept other x true there = Contains-append_left (group_at old other) (site ∷ []) x there
      kept other x false there = there

-- a group that has one in its stead stays
pub covered_added : (old : List (List ℕ × List Site)) (name : List ℕ) (site : Site) → Any (λ kept. StandsFor kept site) (group_at old name) → IsAdded old old name site
covered_added old name site there = record {
  among = λ other x k. inl k;
  kept = λ other x k. k;
  covered = there;
}

module _ (units : Units) (sites : List Site) where
  pub no_groups : AreGroups (IsNamedBelow units sites 0) []
  no_groups = record {
    among = λ name x there. let less = there.1 in absurd (omega (arith, less));
    all = λ name x is. let less = is.1 in absurd (omega (arith, less));
  }

  pub groups_more : (old new : List (List ℕ × List Site)) (n : ℕ) (site : Site) (name : List ℕ) → slice_get sites n ≡ Some site → IsSite units name site → IsAdded old new name site →
      AreGroups (IsNamedBelow units sites n) old → AreGroups (IsNamedBelow units sites (n + 1)) new
  groups_more old new n site name at is add h =
      record {
        among = λ other x there. elim (add.among other x there) [
          | inl before ↦ let below = h.among other x before in (below.0, one_more below.0 below.1, below.2, below.3)
          | inr this ↦ (n, this_one, (at ∙ ap Some (sym this.1)), subst (λ m. IsSite units m x) (sym this.0) (subst (IsSite units name) (sym this.1) is))
        ];
        all = λ other x of. elim (cases other x of) [
          | inl below ↦ let there = h.all other x below in let y = add.kept other there.1 (there.0, there.2, there.3) in (y.0, there.1, y.1, y.2, there.4)
          | inr this ↦ subst (λ m. Any (λ kept. StandsFor kept x) (group_at new m)) (sym this.0) (subst (λ x. Any (λ kept. StandsFor kept x) (group_at new name)) (sym this.1) add.covered)
        ];
      }
    where
      this_one : n < n + 1
      this_one = omega arith

      one_more : (i : ℕ) → i < n → i < n + 1
      one_more i less = omega arith

      at_most : (i : ℕ) → i < n + 1 → i ≤ n
      at_most i less = omega arith

      same_names : (other : List ℕ) (x : Site) → x ≡ site → IsSite units other x → other ≡ name
      same_names other x same k =
          let k' = subst (IsSite units other) same k in
          sym k'.named ∙ ap (λ (e : Entity). e.name) (same_entity units site.entity.source site.entity.number k'.entity is.entity k'.of.of is.of.of) ∙ is.named

      cases : (other : List ℕ) (x : Site) → IsNamedBelow units sites (n + 1) other x → IsNamedBelow units sites n other x ⊎ ((other ≡ name) × (x ≡ site))
      cases other x of = elim (eq-or-lt_of_le (at_most of.0 of.1)) [
        | inl last ↦
            let same = same_Some x site (sym of.2 ∙ ap (slice_get sites) last ∙ at) in
            inr (same_names other x same of.3, same)
        | inr less ↦ inl (of.0, less, of.2, of.3)
      ]

  pub groups_all : (entries : List (List ℕ × List Site)) (n : ℕ) → AreSites units sites → n ≡ length sites → AreGroups (IsNamedBelow units sites n) entries → AreGroups (IsSite units) entries
  groups_all entries n are whole h = record {
    among = λ name x there. (h.among name x there).3;
    all = λ name x is.
        let there = at_contains sites x ((are x).1 (name, is)) in
        h.all name x (there.0, subst (λ m. there.0 < m) (sym whole) (slice_get_within sites there.0 x there.1), there.1, is);
  }

  pub known_site : (n : ℕ) (site : Site) → AreSites units sites → slice_get sites n ≡ Some site → (name : List ℕ) × IsSite units name site
  known_site n site are there = (are site).0 (contains_at sites n site there)

  pub known_entity : (n : ℕ) (site : Site) → AreSites units sites → slice_get sites n ≡ Some site → (entity : Entity) × IsEntity units site.entity.source site.entity.number entity
  known_entity n site are there = let is = (known_site n site are there).1 in (is.entity, is.of.of)

  -- it has the name of its entity
  pub site_named : (n : ℕ) (site : Site) (entity : Entity) → AreSites units sites → slice_get sites n ≡ Some site → IsEntity units site.entity.source site.entity.number entity → IsSite units entity.name site
  site_named n site entity are there of =
      let known = known_site n site are there in
      let is = known.1 in
      subst (λ name. IsSite units name site) (sym is.named ∙ ap (λ (e : Entity). e.name) (same_entity units site.entity.source site.entity.number is.entity entity is.of.of of)) is
