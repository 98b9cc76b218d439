-- The entities of a source, by the names that are declared in it.
use Rattle.std.proofs.Common.{◌≡◌, ◌∙◌, ◌<◌, inl, inr, ℕ, zero, suc, List, [], ◌∷◌, Option, Some, None, true, length, slice_get, refl, sym, ap, subst, arith}
use Rattle.std.specs.Prelude.{◌↔◌}
use Rattle.std.specs.List.{Contains}
use Rattle.std.proofs.lemmas.Option.{same_Some, slice_get_within}
use Rattle.lk_tree.specs.declared.statement.Unit.{Unit}
use Rattle.lk_types.specs.declared.c_type.CType.{CType}
use Rattle.lk_typed.specs.Entities as spec
use Rattle.lk_typed.specs.Entities.{NameDeclared, Declares, IsDeclarationOf, IsEntityName, IsEntityOf, IsFirstUse, IsUseOf}
use Rattle.lk_typed.specs.Entities.IsFirstUse.{unused as is_unused, used as is_used}
use Rattle.lk_typed.specs.Env.{Env, Name}
use Rattle.lk_typed.specs.Nodes.{Node}
use Rattle.lk_typed.specs.Redeclared.{is_linked_alike}
use Rattle.lk_typed.specs.declared.entity.Declaration.{Declaration}
use Rattle.lk_typed.specs.declared.entity.Entity.{Entity}
use Rattle.lk_typed.specs.declared.entity.Use.{Use}
use Rattle.lk_typed.specs.declared.unit.Body.{Body}
use Rattle.lk_elaborator.specs.Gathering.{AreFinished, AreOfOne, BeginsWith, IsDeclaration, IsFinished, IsFirstOf, IsGathered, declaration_of, entity_at}
use Rattle.lk_elaborator.specs.Gathering.IsFirstOf.{unused, used}
use Rattle.lk_elaborator.specs.declared.entities.Entities.{Entities}
use Rattle.lk_elaborator.specs.declared.entities.NamedEntity.{NamedEntity}
use Rattle.lk_elab_expr.specs.Naming.{AreFirstUses, AreNamesOf, IsNameOf, IsUseAt}

at_index : {A : Type 0} (xs : List A) (i : ℕ) → i < length xs → (x : A) × (slice_get xs i ≡ Some x)
at_index [] i within = absurd (omega (arith, within))
at_index (x ∷ xs) zero within = (x, refl)
at_index (x ∷ xs) (suc i) within = at_index xs i (omega (arith, within))

module _ (externs : List Name) (unit : Unit) (types : List CType) (bodies : List Body) (ns : List NamedEntity) (names : AreNamesOf externs unit types bodies ns)
    (gathering : Entities) (gathered : IsGathered ns gathering) (uses : List (ℕ × Use)) (recorded : AreFirstUses externs unit uses)
    (entities : List Entity) (finished : AreFinished types uses gathering.list.items entities) where
  abbrev were : List Entity
  were = gathering.list.items

  abbrev IsThere : ℕ → ℕ → Declaration → Type 0
  IsThere = spec.IsDeclaration externs unit types bodies entities

  -- ---- what is finished has its declarations

  of_was : (e : ℕ) (was entity : Entity) → slice_get were e ≡ Some was → slice_get entities e ≡ Some entity → entity.declarations ≡ was.declarations
  of_was e was entity at_were at = ap (λ (x : Entity). x.declarations) (finished.each e was entity at_were at).same

  pub there : (e k : ℕ) (is : Declaration) → IsDeclaration were e k is → IsThere e k is
  there e k is was =
      let here = at_index entities e (let h = slice_get_within were e was.entity was.at in let same = finished.same in omega (arith, h, same)) in
      record { entity = here.0; at = here.1; has = subst (λ ds. slice_get ds k ≡ Some is) (sym (of_was e was.entity here.0 was.at here.1)) was.has }

  was_at : (e : ℕ) (entity : Entity) → slice_get entities e ≡ Some entity → (was : Entity) × (slice_get were e ≡ Some was)
  was_at e entity at = at_index were e (let h = slice_get_within entities e entity at in let same = finished.same in omega (arith, h, same))

  back : (e k : ℕ) (is : Declaration) → IsThere e k is → IsDeclaration were e k is
  back e k is now =
      let was = was_at e now.entity now.at in
      record { entity = was.0; at = was.1; has = subst (λ ds. slice_get ds k ≡ Some is) (of_was e was.0 now.entity was.1 now.at) now.has }

  -- ---- each name is a declaration, and nothing else is one

  pub all : (env : Env) (node : Node) (n : NameDeclared) → IsEntityName externs unit env node n → (e k : ℕ) × Declares externs unit types bodies entities e k n
  all env node n is =
      let name = names.all env node n is in
      let found = gathered.all name.0 name.1 in
      (found.0, found.1, record { is = declaration_of name.0; at = there found.0 found.1 (declaration_of name.0) found.3; of = name.2.declaration })

  pub none_else : (e k : ℕ) (is : Declaration) → IsThere e k is → (env : Env) × (node : Node) × (n : NameDeclared) × IsEntityName externs unit env node n × IsDeclarationOf types n is
  none_else e k is now =
      let found = gathered.none_else e k is (back e k is now) in
      let name = names.none_else found.0 found.1 in
      (name.0, name.1, name.2, name.3, subst (IsDeclarationOf types name.2) (sym found.2) name.4.declaration)

  -- ---- two are of one entity

  -- the name of an entity that declares it
  record HasEntity (n : NameDeclared) (e : ℕ) (named : NamedEntity) : Type 0 where
    among : Contains ns named
    ordinal : named.ordinal ≡ n.is.ordinal
    linkage : named.linkage ≡ n.is.linkage
    name : named.name ≡ n.is.name
    entity : entity_at gathering named.ordinal ≡ Some e

  named_by : (e k : ℕ) (env : Env) (node : Node) (n : NameDeclared) → IsEntityName externs unit env node n → Declares externs unit types bodies entities e k n → (named : NamedEntity) × HasEntity n e named
  named_by e k env node n is declares =
      let name = names.all env node n is in
      let found = gathered.none_else e k declares.is (back e k declares.is declares.at) in
      let same = gathered.alone found.0 name.0 found.1 name.1 (sym (ap (λ (x : Declaration). x.ordinal) found.2) ∙ (declares.of.ordinal ∙ sym name.2.declaration.ordinal)) in (
        name.0,
        record {
          among = name.1;
          ordinal = name.2.declaration.ordinal;
          linkage = name.2.linkage;
          name = name.2.name;
          entity = subst (λ (x : NamedEntity). entity_at gathering x.ordinal ≡ Some e) same found.3;
        },
      )

  one_of : (n m : NameDeclared) (a b : NamedEntity) (e f : ℕ) → HasEntity n e a → HasEntity m f b → AreOfOne a b → spec.AreOfOne n m
  one_of n m a b e f is_a is_b (inl same) = inl (sym is_a.ordinal ∙ (same ∙ is_b.ordinal))
  one_of n m a b e f is_a is_b (inr linked) = inr (
    subst (λ l. is_linked_alike l m.is.linkage ≡ true) is_a.linkage (subst (λ l. is_linked_alike a.linkage l ≡ true) is_b.linkage linked.0),
    sym is_a.name ∙ (linked.1 ∙ is_b.name),
  )

  one_from : (n m : NameDeclared) (a b : NamedEntity) (e f : ℕ) → HasEntity n e a → HasEntity m f b → spec.AreOfOne n m → AreOfOne a b
  one_from n m a b e f is_a is_b (inl same) = inl (is_a.ordinal ∙ (same ∙ sym is_b.ordinal))
  one_from n m a b e f is_a is_b (inr linked) = inr (
    subst (λ l. is_linked_alike l b.linkage ≡ true) (sym is_a.linkage) (subst (λ l. is_linked_alike n.is.linkage l ≡ true) (sym is_b.linkage) linked.0),
    is_a.name ∙ (linked.1 ∙ sym is_b.name),
  )

  pub one : (e k f j : ℕ) (env around : Env) (node other : Node) (n m : NameDeclared) → IsEntityName externs unit env node n → IsEntityName externs unit around other m →
      Declares externs unit types bodies entities e k n → Declares externs unit types bodies entities f j m → (e ≡ f) ↔ spec.AreOfOne n m
  one e k f j env around node other n m is_n is_m at_n at_m =
      let a = named_by e k env node n is_n at_n in
      let b = named_by f j around other m is_m at_m in
      let are = gathered.one a.0 b.0 a.1.among b.1.among in (
        λ same. one_of n m a.0 b.0 e f a.1 b.1 (are.0 (a.1.entity ∙ (ap Some same ∙ sym b.1.entity))),
        λ is_one. same_Some e f (sym a.1.entity ∙ (are.1 (one_from n m a.0 b.0 e f a.1 b.1 is_one) ∙ b.1.entity)),
      )

  -- ---- in the order of the text

  pub entities_rise : (e f : ℕ) (a b : Declaration) → e < f → IsThere e 0 a → IsThere f 0 b → a.ordinal < b.ordinal
  entities_rise e f a b order is_a is_b = gathered.entities_rise names.rise e f a b order (back e 0 a is_a) (back f 0 b is_b)

  pub declarations_rise : (e k j : ℕ) (a b : Declaration) → k < j → IsThere e k a → IsThere e j b → a.ordinal < b.ordinal
  declarations_rise e k j a b order is_a is_b = gathered.declarations_rise names.rise e k j a b order (back e k a is_a) (back e j b is_b)

  -- ---- the first use

  module _ (was entity : Entity) (same : entity.declarations ≡ was.declarations) where
    use_there : (use_ : Use) (is : Declaration) → Contains was.declarations is → IsUseAt externs unit is.ordinal use_ → IsUseOf externs unit entity use_
    use_there use_ is among at = record {
      env = at.env;
      e = at.e;
      stands = at.stands;
      name = at.name;
      is_name = at.is_name;
      declared = at.declared;
      found = at.found;
      of = (is, subst (λ ds. Contains ds is) (sym same) among, sym at.of);
      spot = at.spot;
      ordinal = at.ordinal;
    }

    use_at : (use_ : Use) (is : IsUseOf externs unit entity use_) → IsUseAt externs unit is.of.0.ordinal use_
    use_at use_ is = record {
      env = is.env;
      e = is.e;
      stands = is.stands;
      name = is.name;
      is_name = is.is_name;
      declared = is.declared;
      found = is.found;
      of = sym is.of.2;
      spot = is.spot;
      ordinal = is.ordinal;
    }

    first_use : (found : Option Use) → IsFirstOf uses was.declarations found → IsFirstUse externs unit entity found
    first_use None (unused none) = is_unused (λ other is.
        let use_ = recorded.each is.of.0.ordinal other (use_at other is) in
        none use_.0 (record { is = is.of.0; there = subst (λ ds. Contains ds is.of.0) same is.of.1; recorded = use_.1 }))
    first_use (Some use_) (used is least) = is_used (use_there use_ is.is is.there (recorded.truth is.is.ordinal use_ is.recorded)) (λ other is_other before.
        let earliest = recorded.each is_other.of.0.ordinal other (use_at other is_other) in
        let behind = least earliest.0 (record { is = is_other.of.0; there = subst (λ ds. Contains ds is_other.of.0) same is_other.of.1; recorded = earliest.1 }) in
        absurd (omega (arith, before, behind, earliest.2)))

  -- ---- what an entity keeps, by its first declaration

  pub first_of : (e : ℕ) (entity : Entity) → slice_get entities e ≡ Some entity →
      (env : Env) × (node : Node) × (n : NameDeclared) × IsEntityName externs unit env node n × Declares externs unit types bodies entities e 0 n × IsEntityOf externs unit types bodies env node n entity
  first_of e entity at =
      let was = was_at e entity at in
      let begun = gathered.first e was.0 was.1 in
      let name = names.none_else begun.0 begun.1 in
      let done = finished.each e was.0 entity was.1 at in
      (name.0, name.1, name.2, name.3, declares was.0 was.1 begun.0 begun.2 name.2 name.4.declaration, is_entity was.0 begun.0 begun.2 name.0 name.1 name.2 name.4 done)
    where
      declares : (was : Entity) → slice_get were e ≡ Some was → (named : NamedEntity) → BeginsWith named was → (n : NameDeclared) → IsDeclarationOf types n (declaration_of named) → Declares externs unit types bodies entities e 0 n
      declares was at_were named begins n of = record { is = declaration_of named; at = there e 0 (declaration_of named) (record { entity = was; at = at_were; has = begins.first }); of = of }

      is_entity : (was : Entity) (named : NamedEntity) → BeginsWith named was → (env : Env) (node : Node) (n : NameDeclared) → IsNameOf externs unit types bodies env node n named → IsFinished types uses was entity → IsEntityOf externs unit types bodies env node n entity
      is_entity was named begins env node n is done =
          let declarations = ap (λ (x : Entity). x.declarations) done.same in
          record {
            name = ap (λ (x : Entity). x.name) done.same ∙ (begins.name ∙ is.name);
            linkage = ap (λ (x : Entity). x.linkage) done.same ∙ (begins.linkage ∙ is.linkage);
            kind = is.kind ∙ ap Some (sym (ap (λ (x : Entity). x.kind) done.same ∙ begins.kind));
            whole = done.type.whole;
            type = subst (λ ds. spec.HaveComposite types None ds done.type.whole) (sym declarations) done.type.type;
            is_type = done.type.is_type;
            use_ = first_use was entity declarations entity.first_use done.use_;
            body = subst (spec.HasBody externs unit bodies env node n) (sym (ap (λ (x : Entity). x.body) done.same ∙ begins.body)) is.body;
          }
