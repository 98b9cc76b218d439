-- What the program has of its entities, while sources say more of them.
use Rattle.std.proofs.Common.{◌≡◌, ◌∙◌, ◌⊎◌, inl, inr, ◌<◌, ◌++◌, ℕ, zero, suc, List, [], ◌∷◌, Some, None, refl, sym, ap, subst, length, arith}
use Rattle.std.proofs.lemmas.Bool.{cases_eq}
use Rattle.std.proofs.lemmas.Option.{none-some, same_Some, slice_get_within}
use Rattle.std.specs.List.{slice_get, slice_set}
use Rattle.lk_link.specs.Sources.{ComesBefore}
use Rattle.lk_typed.specs.declared.whole.WholeEntity.{WholeEntity}
use Rattle.lk_types.proofs.AddLemmas.{last_got}
use Rattle.lk_types.proofs.GrowLemmas.{get_before}
use Rattle.lk_join.specs.Entities.{AreGathered, AreOne, HaveOneName, IsFirst, IsFrom, IsKept, IsListed, IsTold}
use Rattle.lk_join.specs.Entities.IsListed.{pushed, told}
use Rattle.lk_join.specs.Entities.IsTold.{declared, defined}

-- ---- lists

pub push_cases : {X : Type 0} (xs : List X) (x y : X) (k : ℕ) → slice_get (xs ++ x ∷ []) k ≡ Some y → (slice_get xs k ≡ Some y) ⊎ ((k ≡ length xs) × (y ≡ x))
push_cases [] x y zero at = inr (refl, sym (same_Some x y at))
push_cases [] x y (suc k) at = absurd (none-some y at)
push_cases (z ∷ xs) x y zero at = inl at
push_cases (z ∷ xs) x y (suc k) at = elim (push_cases xs x y k at) [ inl h ↦ inl h | inr h ↦ inr (ap suc h.0, h.1) ]

pub set_here : {X : Type 0} (xs : List X) (k : ℕ) (x y : X) → slice_get xs k ≡ Some x → slice_get (slice_set xs k y) k ≡ Some y
set_here [] k x y at = absurd (none-some x at)
set_here (z ∷ xs) zero x y at = refl
set_here (z ∷ xs) (suc k) x y at = set_here xs k x y at

pub set_there : {X : Type 0} (xs : List X) (k i : ℕ) (y : X) → (i ≡ k → ⊥) → slice_get (slice_set xs k y) i ≡ slice_get xs i
set_there [] k i y apart = refl
set_there (z ∷ xs) zero zero y apart = absurd (apart refl)
set_there (z ∷ xs) zero (suc i) y apart = refl
set_there (z ∷ xs) (suc k) zero y apart = refl
set_there (z ∷ xs) (suc k) (suc i) y apart = set_there xs k i y (λ same. apart (ap suc same))

-- ---- places

pub before_itself : (s e z d : ℕ) → s ≡ z → e ≡ d → ComesBefore s e z d → ⊥
before_itself s e z d same also (inl less) = omega (arith, same, less)
before_itself s e z d same also (inr h) = let less = h.1 in omega (arith, also, less)

pub before_turned : (s e z d : ℕ) → ComesBefore s e z d → ComesBefore z d s e → ⊥
before_turned s e z d (inl less) (inl k) = omega (arith, less, k)
before_turned s e z d (inl less) (inr k) = let same = k.0 in omega (arith, less, same)
before_turned s e z d (inr h) (inl k) = let same = h.0 in omega (arith, same, k)
before_turned s e z d (inr h) (inr k) = let less = h.1 in let more = k.1 in omega (arith, less, more)

-- ---- an entity that is told something

module _ {there is : WholeEntity} where
  pub told_name : {here : WholeEntity} → IsTold there is here → here.name ≡ there.name
  told_name (declared none) = refl
  told_name (defined place at none) = refl

  pub told_linkage : {here : WholeEntity} → IsTold there is here → here.linkage ≡ there.linkage
  told_linkage (declared none) = refl
  told_linkage (defined place at none) = refl

  told_kind : {here : WholeEntity} → IsTold there is here → here.kind ≡ there.kind
  told_kind (declared none) = refl
  told_kind (defined place at none) = refl

  -- what was kept stays, since nothing defines an entity twice
  kept_told : {here : WholeEntity} (other : WholeEntity) → IsTold there is here → IsKept other there → IsKept other here
  kept_told {here} other h k = record {
    name = told_name h ∙ k.name;
    linkage = told_linkage h ∙ k.linkage;
    kind = told_kind h ∙ k.kind;
    definition = by h k.definition;
  }
    where
      by : {here : WholeEntity} → IsTold there is here → (other.defined ≡ None) ⊎ ((there.defined ≡ other.defined) × (there.ty ≡ other.ty)) → (other.defined ≡ None) ⊎ ((here.defined ≡ other.defined) × (here.ty ≡ other.ty))
      by h (inl none) = inl none
      by (declared none) (inr same) = inr same
      by (defined place at none) (inr same) = inl (sym same.0 ∙ none)

  -- and what is told is kept
  kept_this : {here : WholeEntity} → IsTold there is here → HaveOneName there is → there.kind ≡ is.kind → IsKept is here
  kept_this {here} h one kind = record {
    name = told_name h ∙ one.name;
    linkage = told_linkage h ∙ one.first ∙ sym one.second;
    kind = told_kind h ∙ kind;
    definition = by h;
  }
    where
      by : {here : WholeEntity} → IsTold there is here → (is.defined ≡ None) ⊎ ((here.defined ≡ is.defined) × (here.ty ≡ is.ty))
      by (declared none) = inl none
      by (defined place at none) = inr (refl, refl)

kept_itself : (is : WholeEntity) → IsKept is is
kept_itself is = record { name = refl; linkage = refl; kind = refl; definition = inr (refl, refl) }

kept_by : (is here there : WholeEntity) → there ≡ here → IsKept is here → IsKept is there
kept_by is here there same k = subst (IsKept is) (sym same) k

-- the place and number of what is said now
pub record IsThis (source number place : ℕ) (said : WholeEntity) (s e n : ℕ) (is : WholeEntity) : Type 0 where
  pub source_is : s ≡ source
  pub number_is : e ≡ number
  pub place_is : n ≡ place
  pub same : is ≡ said

this_one : (source number place : ℕ) (said : WholeEntity) (P : ℕ → ℕ → ℕ → WholeEntity → Type 0) (s e n : ℕ) (is : WholeEntity) → IsThis source number place said s e n is →
    P source number place said → P s e n is
this_one source number place said P s e n is t p =
    subst (λ x. P x e n is) (sym t.source_is) (subst (λ x. P source x n is) (sym t.number_is)
    (subst (λ x. P source number x is) (sym t.place_is) (subst (P source number place) (sym t.same) p)))

module _ (Says After : (s e n : ℕ) → WholeEntity → Type 0) (source number place : ℕ) (said : WholeEntity)
    (stays : (s e n : ℕ) (is : WholeEntity) → Says s e n is → After s e n is) (this : After source number place said)
    (from : (s e n : ℕ) (is : WholeEntity) → After s e n is → Says s e n is ⊎ IsThis source number place said s e n is)
    (earlier : (s e n : ℕ) (is : WholeEntity) → Says s e n is → ComesBefore s e source number)
    (list new : List WholeEntity) (h : AreGathered Says list) where
  -- an earlier one with the number of this has its name
  name_then : IsListed list new said place → (s e n : ℕ) (a : WholeEntity) → Says s e n a → n ≡ place → HaveOneName a said
  name_then (pushed none_ last is) s e n a says same =
      let k = h.kept s e n a says in let within = slice_get_within list n k.0 k.1 in absurd (omega (arith, within, same, last))
  name_then (told {there} at one kind by is) s e n a says same =
      let k = h.kept s e n a says in
      let it = same_Some k.0 there (sym k.1 ∙ ap (slice_get list) same ∙ at) in
      record {
        first = sym k.2.linkage ∙ ap (λ (x : WholeEntity). x.linkage) it ∙ one.first;
        second = one.second;
        name = sym k.2.name ∙ ap (λ (x : WholeEntity). x.name) it ∙ one.name;
      }

  -- and one with its name has its number
  number_where : IsListed list new said place → (s e n : ℕ) (a : WholeEntity) → Says s e n a → HaveOneName a said → n ≡ place
  number_where (pushed none_ last is) s e n a says named =
      let k = h.kept s e n a says in
      absurd (none_ n k.0 k.1 (record { first = k.2.linkage ∙ named.first; second = named.second; name = k.2.name ∙ named.name }))
  number_where (told {there} at one kind by is) s e n a says named =
      let f = h.none_else place there at in
      let k = h.kept f.source f.number place f.is f.says in
      let it = same_Some k.0 there (sym k.1 ∙ at) in
      h.one_where s e f.source f.number n place a f.is says f.says
      (inr (record {
        first = named.first;
        second = sym k.2.linkage ∙ ap (λ (x : WholeEntity). x.linkage) it ∙ one.first;
        name = named.name ∙ sym one.name ∙ sym (ap (λ (x : WholeEntity). x.name) it) ∙ k.2.name;
      }))

  -- an earlier place stands before this one
  never_here : (s e n : ℕ) (a : WholeEntity) → Says s e n a → s ≡ source → e ≡ number → ⊥
  never_here s e n a says same also = before_itself s e source number same also (earlier s e n a says)

  name_turned : (a b : WholeEntity) → HaveOneName a b → HaveOneName b a
  name_turned a b one = record { first = one.second; second = one.first; name = sym one.name }

  module _ (put : IsListed list new said place) where
    one_then : (s e z d n m : ℕ) (a b : WholeEntity) → Says s e n a ⊎ IsThis source number place said s e n a → Says z d m b ⊎ IsThis source number place said z d m b → n ≡ m → AreOne s e z d a b
    one_then s e z d n m a b (inl x) (inl y) same = h.one_then s e z d n m a b x y same
    one_then s e z d n m a b (inl x) (inr u) same = this_one source number place said (λ z d m b. n ≡ m → AreOne s e z d a b) z d m b u (λ is. inr (name_then put s e n a x is)) same
    one_then s e z d n m a b (inr t) (inl y) same =
        this_one source number place said (λ s e n a. n ≡ m → AreOne s e z d a b) s e n a t (λ is. inr (name_turned b said (name_then put z d m b y (sym is)))) same
    one_then s e z d n m a b (inr t) (inr u) same = inl (t.source_is ∙ sym u.source_is, t.number_is ∙ sym u.number_is)

    one_where : (s e z d n m : ℕ) (a b : WholeEntity) → Says s e n a ⊎ IsThis source number place said s e n a → Says z d m b ⊎ IsThis source number place said z d m b → AreOne s e z d a b → n ≡ m
    one_where s e z d n m a b (inl x) (inl y) one = h.one_where s e z d n m a b x y one
    one_where s e z d n m a b (inl x) (inr u) (inl same) = absurd (never_here s e n a x (same.0 ∙ u.source_is) (same.1 ∙ u.number_is))
    one_where s e z d n m a b (inl x) (inr u) (inr one) = number_where put s e n a x (subst (HaveOneName a) u.same one) ∙ sym u.place_is
    one_where s e z d n m a b (inr t) (inl y) (inl same) = absurd (never_here z d m b y (sym same.0 ∙ t.source_is) (sym same.1 ∙ t.number_is))
    one_where s e z d n m a b (inr t) (inl y) (inr one) =
        t.place_is ∙ sym (number_where put z d m b y (name_turned said b (subst (λ x. HaveOneName x b) t.same one)))
    one_where s e z d n m a b (inr t) (inr u) one = t.place_is ∙ sym u.place_is

  -- what is kept after this
  kept_old : IsListed list new said place → (n : ℕ) (is here : WholeEntity) → slice_get list n ≡ Some here → IsKept is here → (now : WholeEntity) × (slice_get new n ≡ Some now) × IsKept is now
  kept_old (pushed none_ last is) n it here at k = (here, ap (λ l. slice_get l n) is ∙ get_before list (said ∷ []) n (slice_get_within list n here at) ∙ at, k)
  kept_old (told {there} {here = now} bt one kind by is) n it here at k = of (cases_eq n place)
    where
      of : (n ≡ place) ⊎ (n ≡ place → ⊥) → (now : WholeEntity) × (slice_get new n ≡ Some now) × IsKept it now
      of (inl same) = (
        now,
        ap (λ l. slice_get l n) is ∙ ap (slice_get (slice_set list place now)) same ∙ set_here list place there now bt,
        kept_told it by (kept_by it here there (same_Some there here (sym bt ∙ ap (slice_get list) (sym same) ∙ at)) k),
      )
      of (inr apart) = (here, ap (λ l. slice_get l n) is ∙ set_there list place n now apart ∙ at, k)

  kept_new : IsListed list new said place → (now : WholeEntity) × (slice_get new place ≡ Some now) × IsKept said now
  kept_new (pushed none_ last is) = (said, ap (λ l. slice_get l place) is ∙ ap (slice_get (list ++ said ∷ [])) last ∙ last_got list said, kept_itself said)
  kept_new (told {there} {here = now} bt one kind by is) = (now, ap (λ l. slice_get l place) is ∙ set_here list place there now bt, kept_this by one kind)

  kept : IsListed list new said place → (s e n : ℕ) (is : WholeEntity) → Says s e n is ⊎ IsThis source number place said s e n is → (now : WholeEntity) × (slice_get new n ≡ Some now) × IsKept is now
  kept put s e n is (inl says) = let k = h.kept s e n is says in kept_old put n is k.0 k.1 k.2
  kept put s e n is (inr t) = this_one source number place said (λ s e n is. (now : WholeEntity) × (slice_get new n ≡ Some now) × IsKept is now) s e n is t (kept_new put)

  -- what the program has of an entity of which nothing is said now
  first_stays : (n s e : ℕ) (a : WholeEntity) → Says s e n a → IsFirst Says n s e → IsFirst After n s e
  first_stays n s e a says first z d is after before = of (from z d n is after)
    where
      of : Says z d n is ⊎ IsThis source number place said z d n is → ⊥
      of (inl x) = first z d is x before
      of (inr t) = this_one source number place said (λ z d m b. ComesBefore z d s e → ⊥) z d n is t (λ k. before_turned source number s e k (earlier s e n a says)) before

  from_old : (n : ℕ) (here : WholeEntity) → IsFrom Says n here → IsFrom After n here
  from_old n here f = record {
    source = f.source;
    number = f.number;
    is = f.is;
    says = stays f.source f.number n f.is f.says;
    type = f.type;
    defined = f.defined;
    first = λ none. first_stays n f.source f.number f.is f.says (f.first none);
  }

  -- and of one that is new
  from_new : place ≡ length list → IsFirst After place source number
  from_new last z d is after before = of (from z d place is after)
    where
      of : Says z d place is ⊎ IsThis source number place said z d place is → ⊥
      of (inl x) = let k = h.kept z d place is x in let within = slice_get_within list place k.0 k.1 in omega (arith, within, last)
      of (inr t) = before_itself z d source number t.source_is t.number_is before

  none_else : IsListed list new said place → (n : ℕ) (here : WholeEntity) → slice_get new n ≡ Some here → IsFrom After n here
  none_else (pushed none_ last is) n here at = of (push_cases list said here n (ap (λ l. slice_get l n) (sym is) ∙ at))
    where
      of : (slice_get list n ≡ Some here) ⊎ ((n ≡ length list) × (here ≡ said)) → IsFrom After n here
      of (inl old) = from_old n here (h.none_else n here old)
      of (inr it) =
          let same : place ≡ n = last ∙ sym it.0 in
          subst (λ k. IsFrom After k here) same (record {
            source = source;
            number = number;
            is = said;
            says = this;
            type = ap (λ (x : WholeEntity). x.ty) it.1;
            defined = ap (λ (x : WholeEntity). x.defined) it.1;
            first = λ none. from_new last;
          })
  none_else (told {there} {here = now} bt one kind by is) n here at = of (cases_eq n place)
    where
      told_from : {now : WholeEntity} → IsTold there said now → IsFrom After place now
      told_from (declared none) = from_old place there (h.none_else place there bt)
      told_from (defined p is none) = record {
        source = source;
        number = number;
        is = said;
        says = this;
        type = refl;
        defined = refl;
        first = λ absent. absurd (none-some p (sym absent ∙ is));
      }

      of : (n ≡ place) ⊎ (n ≡ place → ⊥) → IsFrom After n here
      of (inl same) =
          let it = same_Some now here (sym (set_here list place there now bt) ∙ ap (slice_get (slice_set list place now)) (sym same) ∙ ap (λ l. slice_get l n) (sym is) ∙ at) in
          subst (IsFrom After n) it (subst (λ k. IsFrom After k now) (sym same) (told_from by))
      of (inr apart) = from_old n here (h.none_else n here (sym (set_there list place n now apart) ∙ ap (λ l. slice_get l n) (sym is) ∙ at))

  -- the order of first places
  order_this : IsListed list new said place → (s e n : ℕ) (a : WholeEntity) → Says s e n a → IsFirst After place source number → n < place
  order_this (pushed none_ last is) s e n a says first =
      let k = h.kept s e n a says in let within = slice_get_within list n k.0 k.1 in omega (arith, within, last)
  order_this (told {there} bt one kind by is) s e n a says first =
      let f = h.none_else place there bt in
      absurd (first f.source f.number f.is (stays f.source f.number place f.is f.says) (earlier f.source f.number place f.is f.says))

  first_before : (n s e : ℕ) → IsFirst After n s e → IsFirst Says n s e
  first_before n s e first z d is says before = first z d is (stays z d n is says) before

  order : IsListed list new said place → (s e z d n m : ℕ) (a b : WholeEntity) → Says s e n a ⊎ IsThis source number place said s e n a → Says z d m b ⊎ IsThis source number place said z d m b →
      IsFirst After n s e → IsFirst After m z d → ComesBefore s e z d → n < m
  order put s e z d n m a b (inl x) (inl y) first other before = h.order s e z d n m a b x y (first_before n s e first) (first_before m z d other) before
  order put s e z d n m a b (inl x) (inr u) first other before =
      this_one source number place said (λ z d m b. IsFirst After m z d → n < m) z d m b u (λ k. order_this put s e n a x k) other
  order put s e z d n m a b (inr t) (inl y) first other before =
      absurd (this_one source number place said (λ s e n a. ComesBefore s e z d → ⊥) s e n a t (λ k. before_turned source number z d k (earlier z d m b y)) before)
  order put s e z d n m a b (inr t) (inr u) first other before = absurd (before_itself s e z d (t.source_is ∙ sym u.source_is) (t.number_is ∙ sym u.number_is) before)

  -- one more thing is said
  pub gathered_more : IsListed list new said place → AreGathered After new
  gathered_more put = record {
    one_then = λ s e z d n m a b x y same. one_then put s e z d n m a b (from s e n a x) (from z d m b y) same;
    one_where = λ s e z d n m a b x y one. one_where put s e z d n m a b (from s e n a x) (from z d m b y) one;
    kept = λ s e n is x. kept put s e n is (from s e n is x);
    none_else = λ n here at. none_else put n here at;
    order = λ s e z d n m a b x y first other before. order put s e z d n m a b (from s e n a x) (from z d m b y) first other before;
  }
