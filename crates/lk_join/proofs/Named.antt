-- The names of the program's entities, while these grow.
use Rattle.std.proofs.Common.{◌≡◌, ◌∙◌, ◌⊎◌, ◌<◌, inl, inr, ◌++◌, get_or, subst, ℕ, List, [], ◌∷◌, Bool, true, false, Option, Some, None, if◌then◌else◌, refl, sym, ap, length, nat_eq}
use Rattle.std.proofs.lemmas.Bool.{cases_eq, false≢true}
use Rattle.std.proofs.lemmas.Option.{none-some, same_Some, slice_get_within}
use Rattle.std.specs.Prelude.{is_some}
use Rattle.std.specs.Cmp.Lexicographic.{pointwise}
use Rattle.std.specs.List.{slice_get, slice_set}
use Rattle.lk_link.proofs.Meeting.{name_is, name_itself}
use Rattle.lk_typed.specs.declared.entity.Linkage.TheVariants.{External}
use Rattle.lk_typed.specs.declared.whole.WholeEntity.{WholeEntity}
use Rattle.lk_types.proofs.AddLemmas.{last_got}
use Rattle.lk_types.proofs.GrowLemmas.{get_before}
use Rattle.lk_types.proofs.KeptLemmas.{read_got}
use Rattle.lk_join.specs.Agreeing.{MayPut, MayTell, MayTellAt}
use Rattle.lk_join.specs.Entities.{AreNamed, Gathered, HaveOneName, IsListed, IsPushed, IsPushedNamed, IsTold, IsToldAt, number_named}
use Rattle.lk_join.specs.Entities.IsListed.{pushed, told}
use Rattle.lk_join.specs.Entities.IsTold.{defined}
use Rattle.lk_join.proofs.Saying.{push_cases, set_here, set_there, told_linkage, told_name}

pub nothing_named : (entities : Gathered) → entities.list ≡ [] → entities.names ≡ [] → AreNamed entities
nothing_named entities list names = record {
  found = λ name n at. absurd (none-some n (ap (λ ns. number_named ns name) (sym names) ∙ at));
  all = λ n is at. absurd (none-some is (ap (λ l. slice_get l n) (sym list) ∙ at));
}

module _ (old new : Gathered) (is : WholeEntity) (number : ℕ) (h : AreNamed old) where
  old_name : (other : List ℕ) → pointwise nat_eq is.name other ≡ false → IsPushedNamed old new is number → number_named new.names other ≡ number_named old.names other
  old_name other apart k = k.names other ∙ ap (λ b. if b then Some number else number_named old.names other) apart

  new_name : (other : List ℕ) → pointwise nat_eq is.name other ≡ true → IsPushedNamed old new is number → number_named new.names other ≡ Some number
  new_name other same k = k.names other ∙ ap (λ b. if b then Some number else number_named old.names other) same

  -- an entity behind the others, of a name that none had
  module _ (external : is.linkage ≡ External) (none_ : number_named old.names is.name ≡ None) (k : IsPushedNamed old new is number) where
    no_name : (n : ℕ) (other : WholeEntity) → slice_get old.list n ≡ Some other → other.linkage ≡ External → other.name ≡ is.name → ⊥
    no_name n other at outside same = none-some n (sym none_ ∙ ap (number_named old.names) (sym same) ∙ h.all n other at outside)

    last_there : slice_get new.list number ≡ Some is
    last_there = ap (λ l. slice_get l number) k.list ∙ ap (slice_get (old.list ++ is ∷ [])) k.last ∙ last_got old.list is

    found_new : (name : List ℕ) (n : ℕ) → number_named new.names name ≡ Some n → (b : Bool) → pointwise nat_eq is.name name ≡ b →
        (x : WholeEntity) × (slice_get new.list n ≡ Some x) × (x.linkage ≡ External) × (x.name ≡ name)
    found_new name n at true same =
        let number_is = same_Some number n (sym (new_name name same k) ∙ at) in
        (is, ap (slice_get new.list) (sym number_is) ∙ last_there, external, name_is is.name name same)
    found_new name n at false apart =
        let f = h.found name n (sym (old_name name apart k) ∙ at) in
        (f.0, ap (λ l. slice_get l n) k.list ∙ get_before old.list (is ∷ []) n (slice_get_within old.list n f.0 f.1) ∙ f.1, f.2, f.3)

    all_old : (n : ℕ) (x : WholeEntity) → slice_get old.list n ≡ Some x → x.linkage ≡ External → (b : Bool) → pointwise nat_eq is.name x.name ≡ b → number_named new.names x.name ≡ Some n
    all_old n x at outside true same = absurd (no_name n x at outside (sym (name_is is.name x.name same)))
    all_old n x at outside false apart = old_name x.name apart k ∙ h.all n x at outside

    all_new : (n : ℕ) (x : WholeEntity) → slice_get new.list n ≡ Some x → x.linkage ≡ External → number_named new.names x.name ≡ Some n
    all_new n x at outside = elim (push_cases old.list is x n (ap (λ l. slice_get l n) (sym k.list) ∙ at)) [
      | inl before ↦ all_old n x before outside (pointwise nat_eq is.name x.name) refl
      | inr it ↦ new_name x.name (name_itself is.name x.name (ap (λ (y : WholeEntity). y.name) (sym it.1))) k ∙ ap Some (k.last ∙ sym it.0)
    ]

    pub pushed_named : AreNamed new
    pushed_named = record {
      found = λ name n at. found_new name n at (pointwise nat_eq is.name name) refl;
      all = λ n x at outside. all_new n x at outside;
    }

    pub pushed_listed : IsListed old.list new.list is number
    pushed_listed = pushed (λ n other at one. no_name n other at one.first one.name) k.last k.list

  -- an entity behind the others, without a name outside its source
  module _ (inside : is.linkage ≡ External → ⊥) (k : IsPushed old new is number) where
    pub inside_named : AreNamed new
    inside_named = record {
      found = λ name n at.
          let f = h.found name n (ap (λ ns. number_named ns name) (sym k.names) ∙ at) in
          (f.0, ap (λ l. slice_get l n) k.list ∙ get_before old.list (is ∷ []) n (slice_get_within old.list n f.0 f.1) ∙ f.1, f.2, f.3);
      all = λ n x at outside. elim (push_cases old.list is x n (ap (λ l. slice_get l n) (sym k.list) ∙ at)) [
        | inl before ↦ ap (λ ns. number_named ns x.name) k.names ∙ h.all n x before outside
        | inr it ↦ absurd (inside (ap (λ (y : WholeEntity). y.linkage) (sym it.1) ∙ outside))
      ];
    }

    pub inside_listed : IsListed old.list new.list is number
    inside_listed = pushed (λ n other at one. inside one.second) k.last k.list

  -- an entity that is there under its name
  module _ (external : is.linkage ≡ External) (there : number_named old.names is.name ≡ Some number) (k : IsToldAt old new number is) where
    one_name : HaveOneName k.there is
    one_name =
        let f = h.found is.name number there in
        let it = same_Some f.0 k.there (sym f.1 ∙ k.at) in
        record {
          first = ap (λ (x : WholeEntity). x.linkage) (sym it) ∙ f.2;
          second = external;
          name = ap (λ (x : WholeEntity). x.name) (sym it) ∙ f.3;
        }

    pub told_listed : IsListed old.list new.list is number
    told_listed = told k.at one_name k.kind k.told k.list

    here_at : slice_get new.list number ≡ Some k.here
    here_at = ap (λ l. slice_get l number) k.list ∙ set_here old.list number k.there k.here k.at

    other_at : (n : ℕ) → (n ≡ number → ⊥) → slice_get new.list n ≡ slice_get old.list n
    other_at n apart = ap (λ l. slice_get l n) k.list ∙ set_there old.list number n k.here apart

    found_told : (name : List ℕ) (n : ℕ) (x : WholeEntity) → slice_get old.list n ≡ Some x → x.linkage ≡ External → x.name ≡ name → (n ≡ number) ⊎ (n ≡ number → ⊥) →
        (y : WholeEntity) × (slice_get new.list n ≡ Some y) × (y.linkage ≡ External) × (y.name ≡ name)
    found_told name n x at outside named (inl same) =
        let it = same_Some x k.there (sym at ∙ ap (slice_get old.list) same ∙ k.at) in (
          k.here,
          ap (slice_get new.list) same ∙ here_at,
          told_linkage k.told ∙ one_name.first,
          told_name k.told ∙ ap (λ (z : WholeEntity). z.name) (sym it) ∙ named,
        )
    found_told name n x at outside named (inr apart) = (x, other_at n apart ∙ at, outside, named)

    all_told : (n : ℕ) (x : WholeEntity) → slice_get new.list n ≡ Some x → x.linkage ≡ External → (n ≡ number) ⊎ (n ≡ number → ⊥) → number_named old.names x.name ≡ Some n
    all_told n x at outside (inl same) =
        let it = same_Some k.here x (sym here_at ∙ ap (slice_get new.list) (sym same) ∙ at) in
        ap (number_named old.names) (ap (λ (z : WholeEntity). z.name) (sym it) ∙ told_name k.told) ∙ h.all number k.there k.at one_name.first ∙ ap Some (sym same)
    all_told n x at outside (inr apart) = h.all n x (sym (other_at n apart) ∙ at) outside

    pub told_named : AreNamed new
    told_named = record {
      found = λ name n at.
          let f = h.found name n (ap (λ ns. number_named ns name) (sym k.names) ∙ at) in
          found_told name n f.0 f.1 f.2 f.3 (cases_eq n number);
      all = λ n x at outside. ap (λ ns. number_named ns x.name) k.names ∙ all_told n x at outside (cases_eq n number);
    }

-- what may be put may be told of the entity under its name
pub found_may : (old : Gathered) (is : WholeEntity) (number : ℕ) → AreNamed old → is.linkage ≡ External → number_named old.names is.name ≡ Some number →
    MayPut old.list is → MayTellAt old.list number is
found_may old is number h external at may there there_at =
    let f = h.found is.name number at in
    let it = same_Some f.0 there (sym f.1 ∙ there_at) in
    may number there there_at
    (record { first = ap (λ (x : WholeEntity). x.linkage) (sym it) ∙ f.2; second = external; name = ap (λ (x : WholeEntity). x.name) (sym it) ∙ f.3 })

-- ---- what is told

pub none_of : {X : Type 0} (o : Option X) → is_some o ≡ false → o ≡ None
none_of None is = refl
none_of (Some x) is = absurd (false≢true (sym is))

pub some_of : {X : Type 0} (o : Option X) → is_some o ≡ true → (x : X) × (o ≡ Some x)
some_of None is = absurd (false≢true is)
some_of (Some x) is = (x, refl)

pub told_at : (old self new : Gathered) (number : ℕ) (there is here : WholeEntity) → old ≡ self → number < length self.list → there ≡ get_or old.list number there → MayTellAt self.list number is →
    (MayTell there is → IsTold there is here) → new.list ≡ slice_set old.list number here → new.names ≡ old.names → IsToldAt self new number is
told_at old self new number there is here same within got may h list names =
    let at = subst (λ (g : Gathered). slice_get g.list number ≡ Some there) same (read_got old.list number there (subst (λ (g : Gathered). number < length g.list) (sym same) within) got) in
    let tells = may there at in
    record {
      there = there;
      at = at;
      kind = tells.kind;
      here = here;
      told = h tells;
      list = list ∙ ap (λ (g : Gathered). slice_set g.list number here) same;
      names = names ∙ ap (λ (g : Gathered). g.names) same;
    }

-- a definition is told of what isn't defined
pub defined_told : (there is : WholeEntity) (place : ℕ × ℕ) → is.defined ≡ Some place → MayTell there is → IsTold there is (record there { ty = is.ty; defined = is.defined })
defined_told there is place at tells = by_definition tells.defined
  where
    by_definition : (is.defined ≡ None) ⊎ (there.defined ≡ None) → IsTold there is (record there { ty = is.ty; defined = is.defined })
    by_definition (inl nothing) = absurd (none-some place (sym nothing ∙ at))
    by_definition (inr free) = defined place at free
