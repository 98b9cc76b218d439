-- One name more, of the entities that names come to.
use Rattle.std.proofs.Common.{◌≡◌, ◌∙◌, ◌<◌, ◌++◌, ◌⊎◌, inl, inr, ℕ, zero, suc, List, [], ◌∷◌, Some, None, Bool, true, false, length, slice_get, refl, sym, ap, subst, arith, eqb-true, ne_eqb, eq-eqb}
use Rattle.std.specs.Prelude.{◌↔◌, ◌&&◌, nat_eq, slice_set}
use Rattle.std.specs.Cmp.Lexicographic.{pointwise}
use Rattle.std.specs.List.{Contains}
use Rattle.std.specs.Map.{lookup}
use Rattle.std.proofs.lemmas.Bool.{false≢true}
use Rattle.std.proofs.lemmas.List.Elements.{Contains-append_left, Contains-append_right}
use Rattle.std.proofs.lemmas.Option.{none-some, same_Some, slice_get_within}
use Rattle.lk_typed.specs.Env.{Name}
use Rattle.lk_typed.specs.Redeclared.{is_linked_alike}
use Rattle.lk_typed.specs.declared.entity.Declaration.{Declaration}
use Rattle.lk_typed.specs.declared.entity.Entity.{Entity}
use Rattle.lk_typed.specs.declared.entity.Linkage.{Linkage}
use Rattle.lk_typed.specs.declared.entity.Linkage.TheVariants as linkage
use Rattle.lk_elaborator.specs.Gathering.{AreOfOne, BeginsEntity, BeginsWith, DeclaresAgain, IsDeclaration, IsGathered, PutsName, Rise, declaration_of, entity_at, entity_named, is_name}
use Rattle.lk_elaborator.specs.Keeping.{PutsNumber}
use Rattle.lk_elaborator.specs.declared.entities.Entities.{Entities}
use Rattle.lk_elaborator.specs.declared.entities.NamedEntity.{NamedEntity}

-- ---- lists

pub contains_at : {A : Type 0} (xs : List A) (i : ℕ) (x : A) → slice_get xs i ≡ Some x → Contains xs x
contains_at [] i x at = absurd (none-some x at)
contains_at (y ∷ xs) zero x at = (0, omega arith, same_Some y x at)
contains_at (y ∷ xs) (suc i) x at = let there = contains_at xs i x at in (suc there.0, omega (arith, there.1), there.2)

pub at_contained : {A : Type 0} (xs : List A) (x : A) → Contains xs x → (i : ℕ) × (slice_get xs i ≡ Some x)
at_contained [] x (i, within, is) = absurd (omega (arith, within))
at_contained (y ∷ xs) x (zero, within, is) = (0, ap Some is)
at_contained (y ∷ xs) x (suc i, within, is) = let found = at_contained xs x (i, omega (arith, within), is) in (suc found.0, found.1)

pub at_before : {A : Type 0} (xs ys : List A) (i : ℕ) (x : A) → slice_get xs i ≡ Some x → slice_get (xs ++ ys) i ≡ Some x
at_before [] ys i x at = absurd (none-some x at)
at_before (y ∷ xs) ys zero x at = at
at_before (y ∷ xs) ys (suc i) x at = at_before xs ys i x at

pub at_last : {A : Type 0} (xs : List A) (x : A) → slice_get (xs ++ x ∷ []) (length xs) ≡ Some x
at_last [] x = refl
at_last (y ∷ xs) x = at_last xs x

pub at_split : {A : Type 0} (xs : List A) (y : A) (i : ℕ) (x : A) → slice_get (xs ++ y ∷ []) i ≡ Some x → (slice_get xs i ≡ Some x) ⊎ ((i ≡ length xs) × (x ≡ y))
at_split [] y zero x at = inr (refl, sym (same_Some y x at))
at_split [] y (suc i) x at = absurd (none-some x at)
at_split (z ∷ xs) y zero x at = inl at
at_split (z ∷ xs) y (suc i) x at = elim (at_split xs y i x at) [
  | inl before ↦ inl before
  | inr last ↦ inr (ap suc last.0, last.1)
]

pub at_set : {A : Type 0} (xs : List A) (e : ℕ) (x y : A) → slice_get xs e ≡ Some x → slice_get (slice_set xs e y) e ≡ Some y
at_set [] e x y at = absurd (none-some x at)
at_set (z ∷ xs) zero x y at = refl
at_set (z ∷ xs) (suc e) x y at = at_set xs e x y at

pub at_other : {A : Type 0} (xs : List A) (e i : ℕ) (y : A) → (i ≡ e → ⊥) → slice_get (slice_set xs e y) i ≡ slice_get xs i
at_other [] e i y apart = refl
at_other (z ∷ xs) zero zero y apart = absurd (apart refl)
at_other (z ∷ xs) zero (suc i) y apart = refl
at_other (z ∷ xs) (suc e) zero y apart = refl
at_other (z ∷ xs) (suc e) (suc i) y apart = at_other xs e i y (λ is. apart (ap suc is))

pub in_last : {A : Type 0} (xs : List A) (x : A) → Contains (xs ++ x ∷ []) x
in_last xs x = Contains-append_right xs (x ∷ []) x (0, omega arith, refl)

pub in_split : {A : Type 0} (xs : List A) (y x : A) → Contains (xs ++ y ∷ []) x → Contains xs x ⊎ (x ≡ y)
in_split xs y x there = elim (at_split xs y (at_contained (xs ++ y ∷ []) x there).0 x (at_contained (xs ++ y ∷ []) x there).1) [
  | inl before ↦ inl (contains_at xs _ x before)
  | inr last ↦ inr last.1
]

pub same_or_not : (a b : ℕ) → (a ≡ b) ⊎ (a ≡ b → ⊥)
same_or_not a b = by (nat_eq a b) refl
  where
    by : (is : Bool) → nat_eq a b ≡ is → (a ≡ b) ⊎ (a ≡ b → ⊥)
    by true is = inl (eqb-true a b is)
    by false is = inr (λ same. false≢true (sym is ∙ eq-eqb a b same))

and_true : (a b : Bool) → a && b ≡ true → (a ≡ true) × (b ≡ true)
and_true true b is = (refl, is)
and_true false b is = absurd (false≢true is)

same_lists : {x y : ℕ} {xs ys : List ℕ} → x ≡ y → xs ≡ ys → x ∷ xs ≡ y ∷ ys
same_lists p q = cc

-- ---- names with linkage

alike_same : (l m : Linkage) → is_linked_alike l m ≡ true → l ≡ m
alike_same linkage.External linkage.External is = refl
alike_same linkage.External linkage.Internal is = absurd (false≢true is)
alike_same linkage.External linkage.None is = absurd (false≢true is)
alike_same linkage.Internal linkage.External is = absurd (false≢true is)
alike_same linkage.Internal linkage.Internal is = refl
alike_same linkage.Internal linkage.None is = absurd (false≢true is)
alike_same linkage.None linkage.External is = absurd (false≢true is)
alike_same linkage.None linkage.Internal is = absurd (false≢true is)
alike_same linkage.None linkage.None is = absurd (false≢true is)

alike_back : (l m : Linkage) → is_linked_alike l m ≡ true → is_linked_alike m l ≡ true
alike_back l m is = subst (λ k. is_linked_alike m k ≡ true) (sym (alike_same l m is)) (subst (λ k. is_linked_alike k m ≡ true) (alike_same l m is) is)

alike_self : (l m : Linkage) → is_linked_alike l m ≡ true → is_linked_alike l l ≡ true
alike_self l m is = subst (λ k. is_linked_alike l k ≡ true) (sym (alike_same l m is)) is

named_linked : (entities : Entities) (l : Linkage) (name : Name) (e : ℕ) → entity_named entities l name ≡ Some e → is_linked_alike l l ≡ true
named_linked entities linkage.External name e is = refl
named_linked entities linkage.Internal name e is = refl
named_linked entities linkage.None name e is = absurd (none-some e is)

same_from : (a b : List ℕ) → pointwise nat_eq a b ≡ true → a ≡ b
same_from [] [] is = refl
same_from [] (y ∷ b) is = absurd (false≢true is)
same_from (x ∷ a) [] is = absurd (false≢true is)
same_from (x ∷ a) (y ∷ b) is = let h = and_true (nat_eq x y) (pointwise nat_eq a b) is in same_lists (eqb-true x y h.0) (same_from a b h.1)

name_same : (l : Linkage) (name : Name) (m : Linkage) (other : Name) → is_name l name m other ≡ true → (is_linked_alike l m ≡ true) × (name ≡ other)
name_same l name m other is = let h = and_true (is_linked_alike l m) (pointwise nat_eq name other) is in (h.0, same_from name other h.1)

one_back : (n m : NamedEntity) → AreOfOne n m → AreOfOne m n
one_back n m (inl same) = inl (sym same)
one_back n m (inr linked) = inr (alike_back n.linkage m.linkage linked.0, sym linked.1)

-- ---- the entities after one name more: it is the declaration k of the entity e

record IsAdded (old new : List Entity) (n : NamedEntity) (e k : ℕ) : Type 0 where
  put : IsDeclaration new e k (declaration_of n)
  keeps : (f j : ℕ) (is : Declaration) → IsDeclaration old f j is → IsDeclaration new f j is
  only : (f j : ℕ) (is : Declaration) → IsDeclaration new f j is → IsDeclaration old f j is ⊎ ((f ≡ e) × (j ≡ k) × (is ≡ declaration_of n))
  behind : (j : ℕ) (is : Declaration) → IsDeclaration old e j is → j < k
  last : k ≡ 0 → (f j : ℕ) (is : Declaration) → IsDeclaration old f j is → f < e
  first : (f : ℕ) (entity : Entity) → slice_get new f ≡ Some entity → BeginsWith n entity ⊎ ((was : Entity) × (slice_get old f ≡ Some was) × ((m : NamedEntity) → BeginsWith m was → BeginsWith m entity))

module _ (old : List Entity) (n : NamedEntity) (entity : Entity) (begins : BeginsWith n entity) (alone : entity.declarations ≡ declaration_of n ∷ []) where
  abbrev more : List Entity
  more = old ++ entity ∷ []

  of_alone : (j : ℕ) (is : Declaration) → slice_get (declaration_of n ∷ []) j ≡ Some is → (j ≡ 0) × (is ≡ declaration_of n)
  of_alone zero is at = (refl, sym (same_Some (declaration_of n) is at))
  of_alone (suc j) is at = absurd (none-some is at)

  begun_only : (f j : ℕ) (is : Declaration) → IsDeclaration more f j is → IsDeclaration old f j is ⊎ ((f ≡ length old) × (j ≡ 0) × (is ≡ declaration_of n))
  begun_only f j is there = elim (at_split old entity f there.entity there.at) [
    | inl before ↦ inl (record { entity = there.entity; at = before; has = there.has })
    | inr last ↦ let one = of_alone j is (subst (λ ds. slice_get ds j ≡ Some is) (ap (λ (x : Entity). x.declarations) last.1 ∙ alone) there.has) in inr (last.0, one.0, one.1)
  ]

  begun_first : (f : ℕ) (here : Entity) → slice_get more f ≡ Some here → BeginsWith n here ⊎ ((was : Entity) × (slice_get old f ≡ Some was) × ((m : NamedEntity) → BeginsWith m was → BeginsWith m here))
  begun_first f here at = elim (at_split old entity f here at) [
    | inl before ↦ inr (here, before, λ m is. is)
    | inr last ↦ inl (subst (BeginsWith n) (sym last.1) begins)
  ]

  begun : IsAdded old more n (length old) 0
  begun = record {
    put = record { entity = entity; at = at_last old entity; has = begins.first };
    keeps = λ f j is there. record { entity = there.entity; at = at_before old (entity ∷ []) f there.entity there.at; has = there.has };
    only = begun_only;
    behind = λ j is there. absurd (let h = slice_get_within old (length old) there.entity there.at in omega (arith, h));
    last = λ _ f j is there. slice_get_within old f there.entity there.at;
    first = begun_first;
  }

module _ (old : List Entity) (n : NamedEntity) (e : ℕ) (entity : Entity) (at : slice_get old e ≡ Some entity) (any : 0 < length entity.declarations) where
  abbrev grown : Entity
  grown = record entity { declarations = entity.declarations ++ declaration_of n ∷ [] }

  abbrev changed : List Entity
  changed = slice_set old e grown

  again_keeps : (f j : ℕ) (is : Declaration) → IsDeclaration old f j is → IsDeclaration changed f j is
  again_keeps f j is there = elim (same_or_not f e) [
    | inl same ↦ record {
      entity = grown;
      at = subst (λ g. slice_get changed g ≡ Some grown) (sym same) (at_set old e entity grown at);
      has = at_before entity.declarations (declaration_of n ∷ []) j is (subst (λ (x : Entity). slice_get x.declarations j ≡ Some is) (same_Some there.entity entity (sym there.at ∙ (ap (slice_get old) same ∙ at))) there.has);
    }
    | inr apart ↦ record { entity = there.entity; at = at_other old e f grown apart ∙ there.at; has = there.has }
  ]

  is_grown : (f : ℕ) (here : Entity) → f ≡ e → slice_get changed f ≡ Some here → here ≡ grown
  is_grown f here same there = same_Some here grown (sym there ∙ (ap (slice_get changed) same ∙ at_set old e entity grown at))

  again_only : (f j : ℕ) (is : Declaration) → IsDeclaration changed f j is → IsDeclaration old f j is ⊎ ((f ≡ e) × (j ≡ length entity.declarations) × (is ≡ declaration_of n))
  again_only f j is there = elim (same_or_not f e) [
    | inl same ↦ elim (at_split entity.declarations (declaration_of n) j is (subst (λ (x : Entity). slice_get x.declarations j ≡ Some is) (is_grown f there.entity same there.at) there.has)) [
      | inl before ↦ inl (record { entity = entity; at = ap (slice_get old) same ∙ at; has = before })
      | inr last ↦ inr (same, last.0, last.1)
    ]
    | inr apart ↦ inl (record { entity = there.entity; at = sym (at_other old e f grown apart) ∙ there.at; has = there.has })
  ]

  grown_begins : (m : NamedEntity) → BeginsWith m entity → BeginsWith m grown
  grown_begins m is = record {
    name = is.name;
    linkage = is.linkage;
    kind = is.kind;
    ty = is.ty;
    body = is.body;
    unused = is.unused;
    first = at_before entity.declarations (declaration_of n ∷ []) 0 (declaration_of m) is.first;
  }

  again_first : (f : ℕ) (here : Entity) → slice_get changed f ≡ Some here → BeginsWith n here ⊎ ((was : Entity) × (slice_get old f ≡ Some was) × ((m : NamedEntity) → BeginsWith m was → BeginsWith m here))
  again_first f here there = elim (same_or_not f e) [
    | inl same ↦ inr (entity, ap (slice_get old) same ∙ at, λ m is. subst (BeginsWith m) (sym (is_grown f here same there)) (grown_begins m is))
    | inr apart ↦ inr (here, sym (at_other old e f grown apart) ∙ there, λ m is. is)
  ]

  again : IsAdded old changed n e (length entity.declarations)
  again = record {
    put = record { entity = grown; at = at_set old e entity grown at; has = at_last entity.declarations (declaration_of n) };
    keeps = again_keeps;
    only = again_only;
    behind = λ j is there. slice_get_within entity.declarations j is (subst (λ (x : Entity). slice_get x.declarations j ≡ Some is) (same_Some there.entity entity (sym there.at ∙ at)) there.has);
    last = λ none f j is there. absurd (omega (arith, none, any));
    first = again_first;
  }

-- ---- one name more

rise_before : (ns : List NamedEntity) (n : NamedEntity) → Rise (ns ++ n ∷ []) → Rise ns
rise_before ns n rise i j a b order at_i at_j = rise i j a b order (at_before ns (n ∷ []) i a at_i) (at_before ns (n ∷ []) j b at_j)

before_last : (ns : List NamedEntity) (n m : NamedEntity) → Rise (ns ++ n ∷ []) → Contains ns m → m.ordinal < n.ordinal
before_last ns n m rise there =
    let found = at_contained ns m there in
    rise found.0 (length ns) m n (slice_get_within ns found.0 m found.1) (at_before ns (n ∷ []) found.0 m found.1) (at_last ns n)

module _ (ns : List NamedEntity) (n : NamedEntity) (old new : Entities) (was : IsGathered ns old) (e k : ℕ) (added : IsAdded old.list.items new.list.items n e k)
    (puts : PutsNumber old.by_ordinal.entries new.by_ordinal.entries n.ordinal e) (names : PutsName old new n.linkage n.name e)
    (of_one : (m : NamedEntity) → Contains ns m → (entity_at old m.ordinal ≡ Some e) ↔ AreOfOne m n) where
  abbrev all_names : List NamedEntity
  all_names = ns ++ n ∷ []

  earlier : (m : NamedEntity) → Contains ns m → Contains all_names m
  earlier m there = Contains-append_left ns (n ∷ []) m there

  not_new : (m : NamedEntity) → Contains ns m → n.ordinal ≡ m.ordinal → ⊥
  not_new m there same = none-some (was.all m there).0 (sym puts.fresh ∙ (ap (entity_at old) same ∙ (was.all m there).2))

  stays : (m : NamedEntity) → Contains ns m → entity_at new m.ordinal ≡ entity_at old m.ordinal
  stays m there = puts.others m.ordinal (ne_eqb n.ordinal m.ordinal (not_new m there))

  all_alone : (a b : NamedEntity) → Contains all_names a → Contains all_names b → a.ordinal ≡ b.ordinal → a ≡ b
  all_alone a b in_a in_b same = elim (in_split ns n a in_a) [
    | inl old_a ↦ elim (in_split ns n b in_b) [
      | inl old_b ↦ was.alone a b old_a old_b same
      | inr is ↦ absurd (not_new a old_a (sym (same ∙ ap (λ (x : NamedEntity). x.ordinal) is)))
    ]
    | inr is_a ↦ elim (in_split ns n b in_b) [
      | inl old_b ↦ absurd (not_new b old_b (sym (ap (λ (x : NamedEntity). x.ordinal) is_a) ∙ same))
      | inr is_b ↦ is_a ∙ sym is_b
    ]
  ]

  abbrev Has : NamedEntity → Type 0
  Has m = (f j : ℕ) × (entity_at new m.ordinal ≡ Some f) × IsDeclaration new.list.items f j (declaration_of m)

  all_there : (m : NamedEntity) → Contains all_names m → Has m
  all_there m there = elim (in_split ns n m there) [
    | inl before ↦ let h = was.all m before in (h.0, h.1, stays m before ∙ h.2, added.keeps h.0 h.1 (declaration_of m) h.3)
    | inr is ↦ subst Has (sym is) (e, k, puts.put, added.put)
  ]

  nothing_else : (f j : ℕ) (is : Declaration) → IsDeclaration new.list.items f j is → (m : NamedEntity) × Contains all_names m × (is ≡ declaration_of m) × (entity_at new m.ordinal ≡ Some f)
  nothing_else f j is there = elim (added.only f j is there) [
    | inl before ↦ let h = was.none_else f j is before in (h.0, earlier h.0 h.1, h.2, stays h.0 h.1 ∙ h.3)
    | inr here ↦ (n, in_last ns n, here.2, puts.put ∙ ap Some (sym here.0))
  ]

  numbered_by : (o f : ℕ) → entity_at new o ≡ Some f → (m : NamedEntity) × Contains all_names m × (m.ordinal ≡ o)
  numbered_by o f is = elim (same_or_not n.ordinal o) [
    | inl same ↦ (n, in_last ns n, same)
    | inr apart ↦ let h = was.numbered o f (sym (puts.others o (ne_eqb n.ordinal o apart)) ∙ is) in (h.0, earlier h.0 h.1, h.2)
  ]

  one_new : (a : NamedEntity) → Contains ns a → (entity_at new a.ordinal ≡ entity_at new n.ordinal) ↔ AreOfOne a n
  one_new a there = (
    λ same. (of_one a there).0 (sym (stays a there) ∙ (same ∙ puts.put)),
    λ one. stays a there ∙ ((of_one a there).1 one ∙ sym puts.put),
  )

  one_of : (a b : NamedEntity) → Contains all_names a → Contains all_names b → (entity_at new a.ordinal ≡ entity_at new b.ordinal) ↔ AreOfOne a b
  one_of a b in_a in_b = elim (in_split ns n a in_a) [
    | inl old_a ↦ elim (in_split ns n b in_b) [
      | inl old_b ↦ (
        λ same. (was.one a b old_a old_b).0 (sym (stays a old_a) ∙ (same ∙ stays b old_b)),
        λ one. stays a old_a ∙ ((was.one a b old_a old_b).1 one ∙ sym (stays b old_b)),
      )
      | inr is ↦ subst (λ (x : NamedEntity). (entity_at new a.ordinal ≡ entity_at new x.ordinal) ↔ AreOfOne a x) (sym is) (one_new a old_a)
    ]
    | inr is_a ↦ elim (in_split ns n b in_b) [
      | inl old_b ↦ subst (λ (x : NamedEntity). (entity_at new x.ordinal ≡ entity_at new b.ordinal) ↔ AreOfOne x b) (sym is_a) (
        λ same. one_back b n ((one_new b old_b).0 (sym same)),
        λ one. sym ((one_new b old_b).1 (one_back n b one)),
      )
      | inr is_b ↦ (λ _. inl (ap (λ (x : NamedEntity). x.ordinal) (is_a ∙ sym is_b)), λ _. ap (λ (x : NamedEntity). entity_at new x.ordinal) (is_a ∙ sym is_b))
    ]
  ]

  first_of : (f : ℕ) (entity : Entity) → slice_get new.list.items f ≡ Some entity → (m : NamedEntity) × Contains all_names m × BeginsWith m entity
  first_of f entity at = elim (added.first f entity at) [
    | inl begins ↦ (n, in_last ns n, begins)
    | inr before ↦ let h = was.first f before.0 before.1 in (h.0, earlier h.0 h.1, before.2 h.0 h.2)
  ]

  rising_entities : Rise all_names → (f g : ℕ) (a b : Declaration) → f < g → IsDeclaration new.list.items f 0 a → IsDeclaration new.list.items g 0 b → a.ordinal < b.ordinal
  rising_entities rise f g a b order is_a is_b = elim (added.only f 0 a is_a) [
    | inl old_a ↦ elim (added.only g 0 b is_b) [
      | inl old_b ↦ was.entities_rise (rise_before ns n rise) f g a b order old_a old_b
      | inr here ↦ before_new rise f 0 a b old_a here.2
    ]
    | inr new_a ↦ elim (added.only g 0 b is_b) [
      | inl old_b ↦ absurd (let h = added.last (sym new_a.1) g 0 b old_b in omega (arith, h, order, new_a.0))
      | inr new_b ↦ absurd (omega (arith, order, new_a.0, new_b.0))
    ]
  ]
    where
      before_new : Rise all_names → (f j : ℕ) (a b : Declaration) → IsDeclaration old.list.items f j a → b ≡ declaration_of n → a.ordinal < b.ordinal
      before_new rise f j a b there is =
          let h = was.none_else f j a there in
          subst (λ (x : Declaration). a.ordinal < x.ordinal) (sym is) (subst (λ (x : Declaration). x.ordinal < n.ordinal) (sym h.2) (before_last ns n h.0 rise h.1))

  rising_declarations : Rise all_names → (f j l : ℕ) (a b : Declaration) → j < l → IsDeclaration new.list.items f j a → IsDeclaration new.list.items f l b → a.ordinal < b.ordinal
  rising_declarations rise f j l a b order is_a is_b = elim (added.only f j a is_a) [
    | inl old_a ↦ elim (added.only f l b is_b) [
      | inl old_b ↦ was.declarations_rise (rise_before ns n rise) f j l a b order old_a old_b
      | inr here ↦ before_new old_a here.2
    ]
    | inr new_a ↦ elim (added.only f l b is_b) [
      | inl old_b ↦ absurd (let h = added.behind l b (subst (λ g. IsDeclaration old.list.items g l b) new_a.0 old_b) in omega (arith, h, order, new_a.1))
      | inr new_b ↦ absurd (omega (arith, order, new_a.1, new_b.1))
    ]
  ]
    where
      before_new : IsDeclaration old.list.items f j a → b ≡ declaration_of n → a.ordinal < b.ordinal
      before_new there is =
          let h = was.none_else f j a there in
          subst (λ (x : Declaration). a.ordinal < x.ordinal) (sym is) (subst (λ (x : Declaration). x.ordinal < n.ordinal) (sym h.2) (before_last ns n h.0 rise h.1))

  abbrev IsNamed : NamedEntity → Type 0
  IsNamed m = entity_named new m.linkage m.name ≡ entity_at new m.ordinal

  named_old : (m : NamedEntity) → Contains ns m → is_linked_alike m.linkage m.linkage ≡ true → (b : Bool) → is_name n.linkage n.name m.linkage m.name ≡ b → IsNamed m
  named_old m there linked true is =
      let same = name_same n.linkage n.name m.linkage m.name is in
      subst (λ l. entity_named new l m.name ≡ entity_at new m.ordinal) (alike_same n.linkage m.linkage same.0)
      (subst (λ name. entity_named new n.linkage name ≡ entity_at new m.ordinal) same.1
      (names.put (alike_self n.linkage m.linkage same.0) ∙ sym (stays m there ∙ (of_one m there).1 (inr (alike_back n.linkage m.linkage same.0, sym same.1)))))
  named_old m there linked false is = names.others m.linkage m.name is ∙ (was.named m there linked ∙ sym (stays m there))

  named_by : (m : NamedEntity) → Contains all_names m → is_linked_alike m.linkage m.linkage ≡ true → IsNamed m
  named_by m there linked = elim (in_split ns n m there) [
    | inl before ↦ named_old m before linked (is_name n.linkage n.name m.linkage m.name) refl
    | inr is ↦ subst IsNamed (sym is) (names.put (subst (λ (x : NamedEntity). is_linked_alike x.linkage x.linkage ≡ true) is linked) ∙ sym puts.put)
  ]

  name_from : (l : Linkage) (name : Name) (f : ℕ) → entity_named new l name ≡ Some f → (b : Bool) → is_name n.linkage n.name l name ≡ b → (m : NamedEntity) × Contains all_names m × (m.linkage ≡ l) × (m.name ≡ name)
  name_from l name f there true is = let same = name_same n.linkage n.name l name is in (n, in_last ns n, alike_same n.linkage l same.0, same.1)
  name_from l name f there false is = let h = was.none_named l name f (sym (names.others l name is) ∙ there) in (h.0, earlier h.0 h.1, h.2, h.3)

  gathered : IsGathered all_names new
  gathered = record {
    alone = all_alone;
    all = all_there;
    none_else = nothing_else;
    numbered = numbered_by;
    one = one_of;
    first = first_of;
    named = named_by;
    none_named = λ l name f there. name_from l name f there (is_name n.linkage n.name l name) refl;
    entities_rise = rising_entities;
    declarations_rise = rising_declarations;
  }

module _ (ns : List NamedEntity) (n : NamedEntity) (old new : Entities) (was : IsGathered ns old) where
  pub begins_gathers : entity_named old n.linkage n.name ≡ None → PutsNumber old.by_ordinal.entries new.by_ordinal.entries n.ordinal (length old.list.items) →
      PutsName old new n.linkage n.name (length old.list.items) → BeginsEntity old.list.items new.list.items n → IsGathered (ns ++ n ∷ []) new
  begins_gathers none puts names begins =
      gathered ns n old new was (length old.list.items) 0
      (subst (λ list. IsAdded old.list.items list n (length old.list.items) 0) (sym begins.list) (begun old.list.items n begins.entity begins.begins begins.alone)) puts names
      (λ m there. (λ is. absurd (not_length m there is), λ one. absurd (not_one m there one)))
    where
      not_length : (m : NamedEntity) → Contains ns m → entity_at old m.ordinal ≡ Some (length old.list.items) → ⊥
      not_length m there is =
          let h = was.all m there in
          let within = slice_get_within old.list.items h.0 h.3.entity h.3.at in
          let same = same_Some h.0 (length old.list.items) (sym h.2 ∙ is) in
          absurd (omega (arith, within, same))

      not_one : (m : NamedEntity) → Contains ns m → AreOfOne m n → ⊥
      not_one m there (inl same) = none-some (was.all m there).0 (sym puts.fresh ∙ (ap (entity_at old) (sym same) ∙ (was.all m there).2))
      not_one m there (inr linked) = none-some (was.all m there).0 (sym none ∙ (
          subst (λ l. entity_named old l n.name ≡ entity_at old m.ordinal) (alike_same m.linkage n.linkage linked.0)
          (subst (λ name. entity_named old m.linkage name ≡ entity_at old m.ordinal) linked.1 (was.named m there (alike_self m.linkage n.linkage linked.0))) ∙ (was.all m there).2))

  pub again_gathers : (e : ℕ) → entity_named old n.linkage n.name ≡ Some e → PutsNumber old.by_ordinal.entries new.by_ordinal.entries n.ordinal e →
      new.external ≡ old.external → new.internal ≡ old.internal → DeclaresAgain old.list.items new.list.items e (declaration_of n) → IsGathered (ns ++ n ∷ []) new
  again_gathers e is puts external internal again_at =
      gathered ns n old new was e (length again_at.entity.declarations)
      (subst (λ list. IsAdded old.list.items list n e (length again_at.entity.declarations)) (sym again_at.list) (again old.list.items n e again_at.entity again_at.at any)) puts
      (record { put = λ _. names_stay n.linkage n.name ∙ is; others = λ l name _. names_stay l name })
      (λ m there. (λ same. one_then m there ((was.one m before.0 there before.1).0 (same ∙ sym at_before_name)), λ one. (was.one m before.0 there before.1).1 (one_from m there one) ∙ at_before_name))
    where
      any : 0 < length again_at.entity.declarations
      any = let h = was.first e again_at.entity again_at.at in slice_get_within again_at.entity.declarations 0 (declaration_of h.0) h.2.first

      names_stay : (l : Linkage) (name : Name) → entity_named new l name ≡ entity_named old l name
      names_stay linkage.External name = ap (λ m. lookup (pointwise nat_eq name) m.entries) external
      names_stay linkage.Internal name = ap (λ m. lookup (pointwise nat_eq name) m.entries) internal
      names_stay linkage.None name = refl

      linked : is_linked_alike n.linkage n.linkage ≡ true
      linked = named_linked old n.linkage n.name e is

      before : (m : NamedEntity) × Contains ns m × (m.linkage ≡ n.linkage) × (m.name ≡ n.name)
      before = was.none_named n.linkage n.name e is

      at_before_name : entity_at old before.0.ordinal ≡ Some e
      at_before_name =
          sym (was.named before.0 before.1 (subst (λ l. is_linked_alike l l ≡ true) (sym before.2) linked)) ∙
          (subst (λ l. entity_named old l before.0.name ≡ Some e) (sym before.2) (subst (λ name. entity_named old n.linkage name ≡ Some e) (sym before.3) is))

      one_then : (m : NamedEntity) → Contains ns m → AreOfOne m before.0 → AreOfOne m n
      one_then m there (inl same) =
          let is_it = was.alone m before.0 there before.1 same in
          inr (subst (λ l. is_linked_alike l n.linkage ≡ true) (sym (ap (λ (x : NamedEntity). x.linkage) is_it ∙ before.2)) linked, ap (λ (x : NamedEntity). x.name) is_it ∙ before.3)
      one_then m there (inr alike) = inr (subst (λ l. is_linked_alike m.linkage l ≡ true) before.2 alike.0, alike.1 ∙ before.3)

      one_from : (m : NamedEntity) → Contains ns m → AreOfOne m n → AreOfOne m before.0
      one_from m there (inl same) = absurd (none-some (was.all m there).0 (sym puts.fresh ∙ (ap (entity_at old) (sym same) ∙ (was.all m there).2)))
      one_from m there (inr alike) = inr (subst (λ l. is_linked_alike m.linkage l ≡ true) (sym before.2) alike.0, alike.1 ∙ sym before.3)
