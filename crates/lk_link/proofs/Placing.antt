-- Declarations of names of external linkage, as places, and clashes at them.
use Rattle.std.proofs.Common.{◌≡◌, ◌∙◌, ◌↔◌, ◌<◌, ◌≤◌, ◌++◌, ◌∷◌, [], ℕ, List, Some, refl, sym, ap, subst, length, arith}
use Rattle.std.proofs.lemmas.Option.{slice_get_within}
use Rattle.std.specs.List.{slice_get, Contains}
use Rattle.lk_base.specs.declared.code.Code.{Code}
use Rattle.lk_typed.specs.declared.entity.Declaration.{Declaration}
use Rattle.lk_typed.specs.declared.entity.Entity.{Entity}
use Rattle.lk_link.specs.Sources.{Units, Declares, DefinesAt, IsDefining, IsEntity}
use Rattle.lk_link.specs.Sites.{Grows, IsOfBelow, IsOfAt, IsSite, AreSites, AreNames, NameIndex, clash_of, group_at, site_of}
use Rattle.lk_link.specs.declared.clash.Clash.{Clash}
use Rattle.lk_link.specs.declared.sites.EntityOf.{EntityOf}
use Rattle.lk_link.specs.declared.sites.Site.{Site}
use Rattle.lk_link.proofs.Growing.{at_contains, grows_at, grows_by, grows_push, grows_from_nothing}
use Rattle.lk_link.proofs.Naming.{same_entity, site_named}

pub clash_is : (clash : Clash) (site : Site) → clash.source ≡ site.entity.source → clash.ordinal ≡ site.ordinal → clash.spot ≡ site.spot → (code : Code) → clash.code ≡ code → clash ≡ clash_of site code clash.name
clash_is clash site source ordinal spot code is i = record { source = source i; ordinal = ordinal i; spot = spot i; code = is i; name = clash.name }

-- a declaration's clash is put to the others, where it has one
pub clash_pushed : (Is : Type 0) (this : Clash) (old : List Clash) → Is → Grows old (old ++ this ∷ []) (λ clash. Is × (clash ≡ this))
clash_pushed Is this old is = grows_push old this (λ clash. Is × (clash ≡ this)) (is, refl) (λ clash k. sym k.1)

module _ (units : Units) where
  -- a declaration of a name, as a place, and the other way round
  pub declares_site : (name : List ℕ) (site : Site) → IsSite units name site → (is : Declaration) × Declares units site.entity.source name is × (site ≡ site_of site.entity is)
  declares_site name site k = (
    k.declaration,
    record { number = site.entity.number; place = k.place; entity = k.entity; of = k.of.of; named = k.named; external = k.of.external; at = k.at },
    k.is,
  )

  pub site_declares : (s : ℕ) (name : List ℕ) (is : Declaration) → Declares units s name is → (site : Site) × IsSite units name site × (site.entity.source ≡ s) × (site ≡ site_of site.entity is)
  site_declares s name is k =
      let at : EntityOf = record { source = s; number = k.number } in (
        site_of at is,
        record { entity = k.entity; of = record { of = k.of; external = k.external }; named = k.named; declaration = is; place = k.place; at = k.at; is = refl },
        refl,
        refl,
      )

  -- the clashes of a declaration, by the name of its entity
  abbrev pub IsNamedClash : (List ℕ → Site → Clash → Type 0) → Site → Clash → Type 0
  IsNamedClash Is site clash = (name : List ℕ) × IsSite units name site × Is name site clash

  module _ (sites : List Site) (are : AreSites units sites) (Is : List ℕ → Site → Clash → Type 0) where
    pub named_grown : (n : ℕ) (site : Site) (entity : Entity) → slice_get sites n ≡ Some site → IsEntity units site.entity.source site.entity.number entity → (old new : List Clash) →
        Grows old new (Is entity.name site) → Grows old new (IsOfAt (IsNamedClash Is) sites n)
    named_grown n site entity at of old new h =
        let is = site_named units sites n site entity are at of in
        grows_at (IsNamedClash Is) sites n site at old new (
        grows_by old new (Is entity.name site) (IsNamedClash Is site) (λ clash k. (entity.name, is, k))
        (λ clash k. subst (λ name. Is name site clash) (one_name site k.0 entity.name k.1 is) k.2) h
        )
      where
        one_name : (site : Site) (name other : List ℕ) → IsSite units name site → IsSite units other site → name ≡ other
        one_name site name other k h = sym k.named ∙ ap (λ (e : Entity). e.name) (same_entity units site.entity.source site.entity.number k.entity h.entity k.of.of h.of.of) ∙ h.named

    pub all_clashes : (Whole : Clash → Type 0) → ((site : Site) (name : List ℕ) (clash : Clash) → IsSite units name site → Is name site clash → Whole clash) →
        ((clash : Clash) → Whole clash → (site : Site) × Contains sites site × IsNamedClash Is site clash) →
        (clashes : List Clash) (n : ℕ) → n ≡ length sites → Grows [] clashes (IsOfBelow (IsOfAt (IsNamedClash Is) sites) n) → (clash : Clash) → Contains clashes clash ↔ Whole clash
    all_clashes Whole to from clashes n whole h clash = (
      (λ among. let k = (grows_from_nothing clashes (IsOfBelow (IsOfAt (IsNamedClash Is) sites) n) h clash).0 among in let named = k.2.2 in to k.2.0 named.0 clash named.1 named.2),
      (λ is.
          let k = from clash is in
          let there = at_contains sites k.0 k.1 in
          (grows_from_nothing clashes (IsOfBelow (IsOfAt (IsNamedClash Is) sites) n) h clash).1 (
            there.0,
            subst (λ m. there.0 < m) (sym whole) (slice_get_within sites there.0 k.0 there.1),
            (k.0, there.1, k.2),
          )),
    )

  module _ (names : NameIndex) (are : AreNames units names) where
    -- a declaration of a name has one that is kept
    pub kept_site : (s : ℕ) (name : List ℕ) (is : Declaration) → Declares units s name is →
        (kept : Site) × Contains (group_at names.groups name) kept × (kept.entity.source ≡ s) × (kept.ty ≡ is.ty) × (kept.defines ≡ is.defines) × (kept.ordinal ≤ is.ordinal)
    kept_site s name is k =
        let site = site_declares s name is k in
        let kept = are.groups.all name site.0 site.1 in
        let stands = kept.4 in
        let no_later = stands.no_later in
        let ordinal = ap (λ (x : Site). x.ordinal) site.3 in
        (kept.1, (kept.0, kept.2, kept.3), stands.source ∙ site.2, stands.type ∙ ap (λ (x : Site). x.ty) site.3, stands.defines ∙ ap (λ (x : Site). x.defines) site.3, omega (arith, no_later, ordinal))

    -- one that is kept is a declaration
    pub kept_declares : (name : List ℕ) (kept : Site) → Contains (group_at names.groups name) kept → (is : Declaration) × Declares units kept.entity.source name is × (kept ≡ site_of kept.entity is)
    kept_declares name kept there = declares_site name kept (are.groups.among name kept there)

    pub defining_declares : (name : List ℕ) (kept : Site) → Contains (group_at names.groups name) kept → IsDefining kept.defines → (is : Declaration) × DefinesAt units kept.entity.source name is × (kept ≡ site_of kept.entity is)
    defining_declares name kept there defining =
        let k = kept_declares name kept there in
        (k.0, (k.1, subst IsDefining (ap (λ (x : Site). x.defines) k.2) defining), k.2)
