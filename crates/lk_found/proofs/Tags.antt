-- Tags of structs that are recorded, of nodes that are among others, and of structs that begin at specifiers (C99 6.7.2.3).
use Rattle.std.proofs.Common.{◌≡◌, ◌∙◌, ◌⊎◌, ◌++◌, ℕ, zero, suc, true, false, List, [], ◌∷◌, Option, Some, None, refl, sym, ap, subst, inl, inr, nat_eq}
use Rattle.std.specs.Prelude.{if◌then◌else◌, length, slice_get}
use Rattle.lk_typed.specs.Env.{Env, Name}
use Rattle.lk_typed.specs.Nodes.{Placed}
use Rattle.lk_typed.specs.Redeclared.{DefinesStruct, TagUse, may_use, tag_meant}
use Rattle.lk_typed.specs.Told.{struct_meant, tag_found}
use Rattle.lk_typed.specs.declared.unit.StructTag.{StructTag}
use Rattle.lk_found.specs.Begun.{begun_if_admitted, begun_where, definition_begun}
use Rattle.lk_found.specs.Truth.{AddsTags, IsBegunBy, IsOfTag, IsSoInside, NoTag}
use Rattle.lk_found.proofs.Entries.{AreAmong, so_among}

-- ---- tags one after another

-- what is there is no other
none_is : {A : Type 0} (x : A) → ◌≡◌ {A = Option A} None (Some x) → ⊥
none_is x is = cc

some_is : {A : Type 0} (x y : A) → ◌≡◌ {A = Option A} (Some x) (Some y) → x ≡ y
some_is x y is = cc

-- with one more it is one of those before, or the last
got_last : {A : Type 0} (xs : List A) (x : A) (s : ℕ) (y : A) → slice_get (xs ++ x ∷ []) s ≡ Some y → (slice_get xs s ≡ Some y) ⊎ ((s ≡ length xs) × (y ≡ x))
got_last [] x zero y is = inr (refl, sym (some_is x y is))
got_last [] x (suc s) y is = absurd (none_is y is)
got_last (z ∷ zs) x zero y is = inl is
got_last (z ∷ zs) x (suc s) y is = of (got_last zs x s y is)
  where
    of : (slice_get zs s ≡ Some y) ⊎ ((s ≡ length zs) × (y ≡ x)) → (slice_get (z ∷ zs) (suc s) ≡ Some y) ⊎ ((suc s ≡ length (z ∷ zs)) × (y ≡ x))
    of (inl there) = inl there
    of (inr last) = inr (ap suc last.0, last.1)

module _ (at_end : Env) where
  -- nothing is recorded
  pub tags_same : (Own : ℕ → StructTag → Type 0) (old new : List StructTag) (ps : List Placed) → new ≡ old → AddsTags Own at_end old ps new
  tags_same Own old new ps same s tag is = inl (subst (λ (tags : List StructTag). slice_get tags s ≡ Some tag) same is)

  -- others begin
  pub tags_as : (One Own : ℕ → StructTag → Type 0) (old new : List StructTag) (ps : List Placed) → ((s : ℕ) (tag : StructTag) → One s tag → Own s tag) → AddsTags One at_end old ps new →
      AddsTags Own at_end old ps new
  tags_as One Own old new ps own_of adds s tag is = of (adds s tag is)
    where
      of : (slice_get old s ≡ Some tag) ⊎ (IsSoInside at_end ps (IsOfTag s tag) ⊎ One s tag) → (slice_get old s ≡ Some tag) ⊎ (IsSoInside at_end ps (IsOfTag s tag) ⊎ Own s tag)
      of (inl h) = inl h
      of (inr (inl so)) = inr (inl so)
      of (inr (inr own)) = inr (inr (own_of s tag own))

  -- where these nodes are among others
  pub tags_among : (Own : ℕ → StructTag → Type 0) (old new : List StructTag) (ps qs : List Placed) → AreAmong at_end ps qs → AddsTags Own at_end old ps new → AddsTags Own at_end old qs new
  tags_among Own old new ps qs among adds s tag is = of (adds s tag is)
    where
      of : (slice_get old s ≡ Some tag) ⊎ (IsSoInside at_end ps (IsOfTag s tag) ⊎ Own s tag) → (slice_get old s ≡ Some tag) ⊎ (IsSoInside at_end qs (IsOfTag s tag) ⊎ Own s tag)
      of (inl h) = inl h
      of (inr (inl so)) = inr (inl (so_among at_end ps qs (IsOfTag s tag) among so))
      of (inr (inr own)) = inr (inr own)

  -- others behind them, in the same nodes
  pub tags_then : (Own : ℕ → StructTag → Type 0) (old middle new : List StructTag) (ps : List Placed) → AddsTags Own at_end old ps middle → AddsTags Own at_end middle ps new →
      AddsTags Own at_end old ps new
  tags_then Own old middle new ps first second s tag is = of (second s tag is)
    where
      of : (slice_get middle s ≡ Some tag) ⊎ (IsSoInside at_end ps (IsOfTag s tag) ⊎ Own s tag) → (slice_get old s ≡ Some tag) ⊎ (IsSoInside at_end ps (IsOfTag s tag) ⊎ Own s tag)
      of (inl h) = first s tag h
      of (inr so) = inr so

  -- what begins is of one of these nodes
  pub tags_inside : (Own : ℕ → StructTag → Type 0) (old new : List StructTag) (ps : List Placed) → ((s : ℕ) (tag : StructTag) → Own s tag → IsSoInside at_end ps (IsOfTag s tag)) →
      AddsTags Own at_end old ps new → AddsTags NoTag at_end old ps new
  tags_inside Own old new ps inside adds s tag is = of (adds s tag is)
    where
      of : (slice_get old s ≡ Some tag) ⊎ (IsSoInside at_end ps (IsOfTag s tag) ⊎ Own s tag) → (slice_get old s ≡ Some tag) ⊎ (IsSoInside at_end ps (IsOfTag s tag) ⊎ NoTag s tag)
      of (inl h) = inl h
      of (inr (inl so)) = inr (inl so)
      of (inr (inr own)) = inr (inl (inside s tag own))

  -- one more tag, of a struct that begins
  pub tags_last : (env : Env) (tag : Option Name) (old new : List StructTag) (is : StructTag) → new ≡ old ++ is ∷ [] → is ≡ record { tag = tag; is_outside = nat_eq env.base 0 } →
      length old ≡ length env.structs → AddsTags (IsBegunBy (Some tag) env) at_end old [] new
  tags_last env tag old new is more same count s other there = of (got_last old is s other (subst (λ (tags : List StructTag). slice_get tags s ≡ Some other) more there))
    where
      of : (slice_get old s ≡ Some other) ⊎ ((s ≡ length old) × (other ≡ is)) →
          (slice_get old s ≡ Some other) ⊎ (IsSoInside at_end [] (IsOfTag s other) ⊎ IsBegunBy (Some tag) env s other)
      of (inl h) = inl h
      of (inr last) =
          inr (inr (record {
            begins = ap (λ (t : StructTag). Some t.tag) (sym (last.1 ∙ same));
            number = sym count ∙ sym last.0;
            outside = ap (λ (t : StructTag). t.is_outside) (last.1 ∙ same);
          }))

-- ---- what the rules say

-- a definition that may not stand begins a struct that no tag names
pub definition_refused : (env : Env) (tag : Option Name) → may_use env (tag_found env DefinesStruct tag) DefinesStruct ≡ false → definition_begun env tag ≡ Some None
definition_refused env tag refused = ap (λ b. if b then begun_where (struct_meant (tag_found env DefinesStruct tag)) tag else Some None) refused

-- one that may begins one where the tag stands for none yet
pub definition_admitted : (env : Env) (tag : Option Name) → may_use env (tag_found env DefinesStruct tag) DefinesStruct ≡ true →
    definition_begun env tag ≡ begun_where (struct_meant (tag_found env DefinesStruct tag)) tag
definition_admitted env tag admitted = ap (λ b. if b then begun_where (struct_meant (tag_found env DefinesStruct tag)) tag else Some None) admitted

-- a name that may not stand begins none
pub naming_refused : (env : Env) (wanted : TagUse) (name : Name) → may_use env (tag_meant env wanted name) wanted ≡ false → begun_if_admitted env wanted name ≡ None
naming_refused env wanted name refused = ap (λ b. if b then begun_where (struct_meant (tag_meant env wanted name)) (Some name) else None) refused

-- one that may begins one where the tag stands for none yet
pub naming_admitted : (env : Env) (wanted : TagUse) (name : Name) → may_use env (tag_meant env wanted name) wanted ≡ true →
    begun_if_admitted env wanted name ≡ begun_where (struct_meant (tag_meant env wanted name)) (Some name)
naming_admitted env wanted name admitted = ap (λ b. if b then begun_where (struct_meant (tag_meant env wanted name)) (Some name) else None) admitted
