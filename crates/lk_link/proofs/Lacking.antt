-- Names that are used and that nothing defines.
use Rattle.std.proofs.Common.{◌≡◌, ◌∙◌, ◌⊎◌, ◌↔◌, inl, inr, ◌<◌, ◌≤◌, ◌+◌, ◌++◌, ◌∷◌, [], ℕ, List, Option, Some, None, refl, sym, ap, subst, length, arith}
use Rattle.std.proofs.lemmas.Option.{none-some, same_Some, slice_get_within}
use Rattle.std.proofs.Math.Nat.{eq-or-lt_of_le}
use Rattle.std.specs.Prelude.{MatchOption}
use Rattle.std.specs.List.{slice_get, Contains}
use Rattle.lk_base.specs.declared.code.Code.TheVariants.{NotDefined}
use Rattle.lk_typed.specs.declared.entity.Entity.{Entity}
use Rattle.lk_typed.specs.declared.entity.Use.{Use}
use Rattle.lk_link.specs.Absent.{AreLeast, AreListed, AreUsers, IsAbsent, IsAbsentAt, IsListedElsewhere, IsNoted, UsesIn, number_at, use_clash}
use Rattle.lk_link.specs.Clashes.{IsMissing, IsElsewhere}
use Rattle.lk_link.specs.Sources.{Units, IsDefinedIn, IsDefining, IsEntity, IsUsed}
use Rattle.lk_link.specs.Sites.{AreExternals, AreNames, Grows, IsExternal, IsOfAt, IsOfBelow, NameIndex, group_at}
use Rattle.lk_link.specs.declared.clash.Clash.{Clash}
use Rattle.lk_link.specs.declared.sites.EntityOf.{EntityOf}
use Rattle.lk_link.specs.declared.sites.Site.{Site}
use Rattle.lk_link.proofs.Growing.{at_contains, grows_at, grows_by, grows_push, grows_same, grows_from_nothing}
use Rattle.lk_link.proofs.Naming.{known_external, same_entity}
use Rattle.lk_link.proofs.Noting.{least_by, least_nothing, least_noted}
use Rattle.lk_link.proofs.Placing.{defining_declares, kept_site}

module _ (units : Units) (externals : List EntityOf) where
  -- an entity below a place uses the name
  abbrev pub IsUsedBelow : ℕ → List ℕ → ℕ → Type 0
  IsUsedBelow n name source = (i : ℕ) × (i < n) × (at : EntityOf) × (slice_get externals i ≡ Some at) × ((entity : Entity) × IsExternal units at entity × UsesIn entity at.source name source)

  pub users_none : AreLeast (IsUsedBelow 0) []
  users_none = least_nothing (IsUsedBelow 0) (λ name m is. let less = is.1 in absurd (omega (arith, less)))

  module _ (n : ℕ) (at : EntityOf) (entity : Entity) (are : AreExternals units externals) (there : slice_get externals n ≡ Some at) (of : IsEntity units at.source at.number entity) where
    external : IsExternal units at entity
    external = let known = known_external units externals n at are there in subst (IsExternal units at) (same_entity units at.source at.number known.0 entity known.1.of of) known.1

    one_more : (i : ℕ) → i < n → i < n + 1
    one_more i less = omega arith

    at_most : (i : ℕ) → i < n + 1 → i ≤ n
    at_most i less = omega arith

    this_one : n < n + 1
    this_one = omega arith

    below_cases : (name : List ℕ) (source : ℕ) → IsUsedBelow (n + 1) name source → IsUsedBelow n name source ⊎ UsesIn entity at.source name source
    below_cases name source is = elim (eq-or-lt_of_le (at_most is.0 is.1)) [
      | inl last ↦
          let same = same_Some is.2 at (sym is.3 ∙ ap (slice_get externals) last ∙ there) in
          let found = subst (λ (a : EntityOf). (e : Entity) × IsExternal units a e × UsesIn e a.source name source) same is.4 in
          inr (subst (λ e. UsesIn e at.source name source) (same_entity units at.source at.number found.0 entity found.1.of of) found.2)
      | inr less ↦ inl (is.0, less, is.2, is.3, is.4)
    ]

    below_old : (name : List ℕ) (source : ℕ) → IsUsedBelow n name source → IsUsedBelow (n + 1) name source
    below_old name source is = (is.0, one_more is.0 is.1, is.2, is.3, is.4)

    pub users_same : (entries : List (List ℕ × ℕ)) → entity.first_use ≡ None → AreLeast (IsUsedBelow n) entries → AreLeast (IsUsedBelow (n + 1)) entries
    users_same entries unused h =
        least_by (IsUsedBelow n) (IsUsedBelow (n + 1)) entries below_old (λ name source is. elim (below_cases name source is) [ inl old ↦ old | inr this ↦ absurd (none-some this.2.0 (sym unused ∙ this.2.1)) ]) h

    pub users_noted : (old new : List (List ℕ × ℕ)) (use_ : Use) → entity.first_use ≡ Some use_ → AreLeast (IsUsedBelow n) old → IsNoted old new entity.name at.source → AreLeast (IsUsedBelow (n + 1)) new
    users_noted old new use_ used h k =
        least_by (λ name source. IsUsedBelow n name source ⊎ ((name ≡ entity.name) × (source ≡ at.source))) (IsUsedBelow (n + 1)) new
        (λ name source is. elim is [
          | inl before ↦ below_old name source before
          | inr this ↦ (n, this_one, at, there, (entity, external, (this.0, this.1, (use_, used))))
        ])
        (λ name source is. elim (below_cases name source is) [ inl before ↦ inl before | inr this ↦ inr (this.0, this.1) ])
        (least_noted (IsUsedBelow n) old new entity.name at.source h k)

    pub users_turn : (old new : List (List ℕ × ℕ)) → AreLeast (IsUsedBelow n) old → MatchOption entity.first_use (new ≡ old) (λ _. IsNoted old new entity.name at.source) → AreLeast (IsUsedBelow (n + 1)) new
    users_turn old new h = by entity.first_use refl
      where
        by : (o : Option Use) → entity.first_use ≡ o → MatchOption o (new ≡ old) (λ _. IsNoted old new entity.name at.source) → AreLeast (IsUsedBelow (n + 1)) new
        by None unused same = subst (AreLeast (IsUsedBelow (n + 1))) (sym same) (users_same old unused h)
        by (Some use_) used noted = users_noted old new use_ used h noted

  pub users_all : (entries : List (List ℕ × ℕ)) (n : ℕ) → AreExternals units externals → n ≡ length externals → AreLeast (IsUsedBelow n) entries → AreUsers units entries
  users_all entries n are whole h =
      least_by (IsUsedBelow n) (λ name source. (use_ : Use) × IsUsed units source name use_) entries
      (λ name source is.
      let at = is.2 in
      let external = is.4.1 in
      let uses = is.4.2 in
      (uses.2.0, subst (λ s. IsUsed units s name uses.2.0) (sym uses.1) (record { number = at.number; entity = is.4.0; of = external.of; named = sym uses.0; external = external.external; first = uses.2.1 })))
      (λ name source used.
      let k = used.1 in
      let at : EntityOf = record { source = source; number = k.number } in
      let among = at_contains externals at ((are at).1 (k.entity, record { of = k.of; external = k.external })) in
      (among.0, subst (λ m. among.0 < m) (sym whole) (slice_get_within externals among.0 at among.1), at, among.1, (k.entity, record { of = k.of; external = k.external }, (sym k.named, refl, (used.0, k.first)))))
      h

-- an entity's clash is put to the others, where it has one
module _ (group : List Site) (users externs : List (List ℕ × ℕ)) (source : ℕ) (entity : Entity) (old : List Clash) where
  pub absent_pushed : (use_ : Use) → entity.first_use ≡ Some use_ → IsAbsent group users externs source entity → Grows old (old ++ use_clash source entity use_ ∷ []) (IsAbsentAt group users externs source entity)
  absent_pushed use_ used absent =
      grows_push old (use_clash source entity use_) (IsAbsentAt group users externs source entity) (use_, used, absent, refl)
      (λ clash k. ap (use_clash source entity) (same_Some use_ k.0 (sym used ∙ k.1)) ∙ sym k.3)

  pub absent_not : (IsAbsent group users externs source entity → ⊥) → Grows old old (IsAbsentAt group users externs source entity)
  absent_not never = grows_same old (IsAbsentAt group users externs source entity) (λ clash k. never k.2)

  pub absent_unused : entity.first_use ≡ None → Grows old old (IsAbsentAt group users externs source entity)
  absent_unused unused = grows_same old (IsAbsentAt group users externs source entity) (λ clash k. none-some k.0 (sym unused ∙ k.1))

module _ (units : Units) (names : NameIndex) (users externs : List (List ℕ × ℕ)) where
  -- the clash of an entity of external linkage
  abbrev pub IsAbsentFrom : EntityOf → Clash → Type 0
  IsAbsentFrom at clash = (entity : Entity) × IsExternal units at entity × IsAbsentAt (group_at names.groups entity.name) users externs at.source entity clash

  pub absent_grown : (n : ℕ) (at : EntityOf) (entity : Entity) (old new : List Clash) → AreExternals units names.externals → slice_get names.externals n ≡ Some at → IsEntity units at.source at.number entity →
      Grows old new (IsAbsentAt (group_at names.groups entity.name) users externs at.source entity) → Grows old new (IsOfAt IsAbsentFrom names.externals n)
  absent_grown n at entity old new are there of h =
      let known = known_external units names.externals n at are there in
      let external = subst (IsExternal units at) (same_entity units at.source at.number known.0 entity known.1.of of) known.1 in
      grows_at IsAbsentFrom names.externals n at there old new (
      grows_by old new (IsAbsentAt (group_at names.groups entity.name) users externs at.source entity) (IsAbsentFrom at) (λ clash k. (entity, external, k))
      (λ clash k. subst (λ (e : Entity). IsAbsentAt (group_at names.groups e.name) users externs at.source e clash) (same_entity units at.source at.number k.0 entity k.1.of of) k.2) h
      )

  module _ (list : List (List ℕ)) (are : AreNames units names) (are_users : AreUsers units users) (listed : AreListed list externs) where
    listed_to : (name : List ℕ) → (number_at externs name ≡ None → ⊥) → Contains list name
    listed_to name some_ = by (number_at externs name) refl
      where
        by : (o : Option ℕ) → number_at externs name ≡ o → Contains list name
        by None at = absurd (some_ at)
        by (Some n) at = (listed.found name n at).0.0

    listed_from : (name : List ℕ) → Contains list name → number_at externs name ≡ None → ⊥
    listed_from name there at = listed.none name at 0 (there, refl)

    elsewhere_to : (entity : Entity) → IsElsewhere units list entity.name entity → IsListedElsewhere externs entity
    elsewhere_to entity (inl library) = inl library
    elsewhere_to entity (inr k) = inr (k.0, listed_from entity.name k.1)

    elsewhere_from : (entity : Entity) → IsListedElsewhere externs entity → IsElsewhere units list entity.name entity
    elsewhere_from entity (inl library) = inl library
    elsewhere_from entity (inr k) = inr (k.0, listed_to entity.name k.1)

    used_before : (source : ℕ) (entity : Entity) → IsAbsent (group_at names.groups entity.name) users externs source entity → (s : ℕ) (other : Use) → s < source → IsUsed units s entity.name other → ⊥
    used_before source entity absent s other less used = by (number_at users entity.name) refl
      where
        by : (o : Option ℕ) → number_at users entity.name ≡ o → ⊥
        by None at = are_users.none entity.name at s (other, used)
        by (Some n) at = let no_more = (are_users.found entity.name n at).1 s (other, used) in absent.first n at (omega (arith, less, no_more))

    missing_to : (at : EntityOf) (entity : Entity) (clash : Clash) → IsExternal units at entity → IsAbsentAt (group_at names.groups entity.name) users externs at.source entity clash → IsMissing units list clash
    missing_to at entity clash external k =
        let absent = k.2 in
        subst (IsMissing units list) (sym k.3) (
        record {
          number = at.number;
          entity = entity;
          of = external.of;
          named = refl;
          external = external.external;
          use_ = k.0;
          used = k.1;
          first = used_before at.source entity absent;
          nowhere = λ s defined. let kept = kept_site units names are s entity.name defined.0 defined.1.0 in absent.undefined (kept.1.0, kept.0, kept.1.1, kept.1.2, subst IsDefining (sym kept.4) defined.1.1);
          elsewhere = λ there. absent.elsewhere (elsewhere_to entity there);
          ordinal = refl;
          spot = refl;
          code = refl;
        }
        )

    clash_used : (clash : Clash) (source : ℕ) (entity : Entity) (use_ : Use) → clash.source ≡ source → clash.ordinal ≡ use_.ordinal → clash.spot ≡ use_.spot → clash.code ≡ NotDefined → clash.name ≡ entity.name → clash ≡ use_clash source entity use_
    clash_used clash source entity use_ s o p c n i = record { source = s i; ordinal = o i; spot = p i; code = c i; name = n i }

    missing_from : (clash : Clash) → IsMissing units list clash → (at : EntityOf) × Contains names.externals at × IsAbsentFrom at clash
    missing_from clash k =
        let at : EntityOf = record { source = clash.source; number = k.number } in
        let external : IsExternal units at k.entity = record { of = k.of; external = k.external } in (
          at,
          (are.externals at).1 (k.entity, external),
          (
            k.entity,
            external,
            (
              k.use_,
              k.used,
              record {
                undefined = λ defining.
                    let d = defining_declares units names are k.entity.name defining.1 (defining.0, defining.2, defining.3) defining.4 in
                    k.nowhere defining.1.entity.source (subst (IsDefinedIn units defining.1.entity.source) k.named (d.0, d.1));
                first = λ n found less. let used = (are_users.found k.entity.name n found).0 in k.first n used.0 less (subst (λ name. IsUsed units n name used.0) k.named used.1);
                elsewhere = λ there. k.elsewhere (subst (λ name. IsElsewhere units list name k.entity) k.named (elsewhere_from k.entity there));
              },
              clash_used clash clash.source k.entity k.use_ refl k.ordinal k.spot k.code (sym k.named),
            ),
          ),
        )

    pub all_missing : (clashes : List Clash) (n : ℕ) → n ≡ length names.externals → Grows [] clashes (IsOfBelow (IsOfAt IsAbsentFrom names.externals) n) → (clash : Clash) → Contains clashes clash ↔ IsMissing units list clash
    all_missing clashes n whole h clash = (
      (λ among. let k = (grows_from_nothing clashes (IsOfBelow (IsOfAt IsAbsentFrom names.externals) n) h clash).0 among in let from_ = k.2.2 in missing_to k.2.0 from_.0 clash from_.1 from_.2),
      (λ is.
          let k = missing_from clash is in
          let there = at_contains names.externals k.0 k.1 in
          (grows_from_nothing clashes (IsOfBelow (IsOfAt IsAbsentFrom names.externals) n) h clash).1 (
            there.0,
            subst (λ m. there.0 < m) (sym whole) (slice_get_within names.externals there.0 k.0 there.1),
            (k.0, there.1, k.2),
          )),
    )
