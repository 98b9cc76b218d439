-- The steps of walks, one by one, and as lists of named steps.
use Rattle.std.proofs.Common.{arith, ap, sym, subst, ◌∙◌, ◌≡◌, ◌<◌, ◌+◌, ◌⊎◌, inl, inr, ℕ, zero, suc, List, [], ◌∷◌, ◌++◌, length, map, refl}
use Rattle.std.specs.List.{Contains}
use Rattle.lk_lower_expr.specs.Laid.{laid, laid_from, named}
use Rattle.lk_lower_expr.specs.Walk.{IsStep, Walk, here, left, nothing, own, right, ◌then◌}
use Rattle.lk_lower_expr.specs.declared.step.NamedStep.{NamedStep}
use Rattle.lk_lower_expr.specs.declared.step.Step.{Step}
use Rattle.lk_lower_unit.proofs.Alike.{Alike}

-- ---- elements of lists, by recursion

abbrev pub Among : {A : Type 0} → List A → A → Type 0
Among [] x = ⊥
Among (y ∷ ys) x = (y ≡ x) ⊎ Among ys x

pub among_left : {A : Type 0} (xs ys : List A) (x : A) → Among xs x → Among (xs ++ ys) x
among_left [] ys x is = absurd is
among_left (y ∷ xs) ys x (inl is) = inl is
among_left (y ∷ xs) ys x (inr is) = inr (among_left xs ys x is)

pub among_right : {A : Type 0} (xs ys : List A) (x : A) → Among ys x → Among (xs ++ ys) x
among_right [] ys x is = is
among_right (y ∷ xs) ys x is = inr (among_right xs ys x is)

pub among_either : {A : Type 0} (xs ys : List A) (x : A) → Among (xs ++ ys) x → Among xs x ⊎ Among ys x
among_either [] ys x is = inr is
among_either (y ∷ xs) ys x (inl is) = inl (inl is)
among_either (y ∷ xs) ys x (inr is) = elim (among_either xs ys x is) [ inl here_ ↦ inl (inr here_) | inr there ↦ inr there ]

pub among_map : {A B : Type 0} (f : A → B) (xs : List A) (x : A) → Among xs x → Among (map f xs) (f x)
among_map f [] x is = absurd is
among_map f (y ∷ xs) x (inl is) = inl (ap f is)
among_map f (y ∷ xs) x (inr is) = inr (among_map f xs x is)

pub among_mapped : {A B : Type 0} (f : A → B) (xs : List A) (y : B) → Among (map f xs) y → (x : A) × Among xs x × (f x ≡ y)
among_mapped f [] y is = absurd is
among_mapped f (x ∷ xs) y (inl is) = (x, inl refl, is)
among_mapped f (x ∷ xs) y (inr is) = let found = among_mapped f xs y is in (found.0, inr found.1, found.2)

pub contained : {A : Type 0} (xs : List A) (x : A) → Among xs x → Contains xs x
contained [] x is = absurd is
contained (y ∷ xs) x (inl is) = (0, omega arith, is)
contained (y ∷ xs) x (inr is) = let found = contained xs x is in (suc found.0, omega (arith, found.1), found.2)

pub among : {A : Type 0} (xs : List A) (x : A) → Contains xs x → Among xs x
among [] x (k, within, is) = absurd (omega (arith, within))
among (y ∷ xs) x (zero, within, is) = inl is
among (y ∷ xs) x (suc k, within, is) = inr (among xs x (k, omega (arith, within), is))

-- ---- the step k of a list

abbrev pub At : List Step → ℕ → Step → Type 0
At [] k is = ⊥
At (step ∷ steps) zero is = step ≡ is
At (step ∷ steps) (suc k) is = At steps k is

at_here : (before behind : List Step) (k : ℕ) (is : Step) → length before ≡ k → At (before ++ (is ∷ behind)) k is
at_here [] behind zero is e = refl
at_here [] behind (suc k) is e = absurd (omega (arith, e))
at_here (step ∷ before) behind zero is e = absurd (omega (arith, e))
at_here (step ∷ before) behind (suc k) is e = at_here before behind k is (omega (arith, e))

abbrev Split : List Step → ℕ → Step → Type 0
Split steps k is = (before : List Step) × (behind : List Step) × (length before ≡ k) × (before ++ (is ∷ behind) ≡ steps)

split : (steps : List Step) (k : ℕ) (is : Step) → At steps k is → Split steps k is
split [] k is at = absurd at
split (step ∷ steps) zero is at = ([], steps, refl, ap (λ s. s ∷ steps) (sym at))
split (step ∷ steps) (suc k) is at = let found = split steps k is at in (step ∷ found.0, found.1, ap suc found.2, ap (λ ss. step ∷ ss) found.3)

-- as many steps have a step k too
same_at : (s t : List Step) (k : ℕ) (is : Step) → length s ≡ length t → At s k is → (too : Step) × At t k too
same_at [] t k is same at = absurd at
same_at (step ∷ s) [] k is same at = absurd (omega (arith, same))
same_at (step ∷ s) (other ∷ t) zero is same at = (other, refl)
same_at (step ∷ s) (other ∷ t) (suc k) is same at = same_at s t k is (omega (arith, same)) at

-- and steps before the step k
earlier_at : (s : List Step) (j k : ℕ) (is : Step) → j < k → At s k is → (too : Step) × At s j too
earlier_at [] j k is before at = absurd at
earlier_at (step ∷ s) zero k is before at = (step, refl)
earlier_at (step ∷ s) (suc j) zero is before at = absurd (omega (arith, before))
earlier_at (step ∷ s) (suc j) (suc k) is before at = earlier_at s j k is (omega (arith, before)) at

-- ---- the steps of a walk

abbrev pub View : (o k : ℕ) → Step → Walk → Type 0
View o k is nothing = ⊥
View o k is (own n steps) = (n ≡ o) × At steps k is
View o k is (a then b) = View o k is a ⊎ View o k is b

pub view : {o k : ℕ} {is : Step} {walk : Walk} → IsStep o k is walk → View o k is walk
view {k = k} {is = is} (here before behind e) = (refl, at_here before behind k is e)
view (left a b step) = inl (view step)
view (right a b step) = inr (view step)

pub step_of : (o k : ℕ) (is : Step) (walk : Walk) → View o k is walk → IsStep o k is walk
step_of o k is nothing seen = absurd seen
step_of o k is (own n steps) seen =
    let found = split steps k is seen.1 in
    subst (λ m. IsStep o k is (own m steps)) (sym seen.0) (subst (λ ss. IsStep o k is (own o ss)) found.3 (here found.0 found.1 found.2))
step_of o k is (a then b) (inl seen) = left a b (step_of o k is a seen)
step_of o k is (a then b) (inr seen) = right a b (step_of o k is b seen)

pub alike_view : (o k : ℕ) (is : Step) (w v : Walk) → Alike w v → View o k is w → (too : Step) × View o k too v
alike_view o k is nothing v alike seen = absurd seen
alike_view o k is (own n s) nothing alike seen = absurd alike
alike_view o k is (own n s) (own m t) alike seen = let found = same_at s t k is alike.1 seen.1 in (found.0, (sym alike.0 ∙ seen.0, found.1))
alike_view o k is (own n s) (c then d) alike seen = absurd alike
alike_view o k is (a then b) nothing alike seen = absurd alike
alike_view o k is (a then b) (own m t) alike seen = absurd alike
alike_view o k is (a then b) (c then d) alike (inl seen) = let found = alike_view o k is a c alike.0 seen in (found.0, inl found.1)
alike_view o k is (a then b) (c then d) alike (inr seen) = let found = alike_view o k is b d alike.1 seen in (found.0, inr found.1)

pub earlier_view : (o j k : ℕ) (is : Step) (w : Walk) → j < k → View o k is w → (too : Step) × View o j too w
earlier_view o j k is nothing before seen = absurd seen
earlier_view o j k is (own n s) before seen = let found = earlier_at s j k is before seen.1 in (found.0, (seen.0, found.1))
earlier_view o j k is (a then b) before (inl seen) = let found = earlier_view o j k is a before seen in (found.0, inl found.1)
earlier_view o j k is (a then b) before (inr seen) = let found = earlier_view o j k is b before seen in (found.0, inr found.1)

-- ---- as a list

laid_from_kept : (steps : List Step) (node from : ℕ) (others : List NamedStep) (x : NamedStep) → Among others x → Among (laid_from node from steps others) x
laid_from_kept [] node from others x is = is
laid_from_kept (step ∷ steps) node from others x is = laid_from_kept steps node (suc from) (others ++ (named node from step ∷ [])) x (among_left others (named node from step ∷ []) x is)

laid_from_there : (steps : List Step) (node from k : ℕ) (is : Step) (others : List NamedStep) → At steps k is → Among (laid_from node from steps others) (named node (from + k) is)
laid_from_there [] node from k is others at = absurd at
laid_from_there (step ∷ steps) node from zero is others at =
    laid_from_kept steps node (suc from) (others ++ (named node from step ∷ [])) (named node (from + 0) is)
    (among_right others (named node from step ∷ []) (named node (from + 0) is) (inl (ap (λ n. named node n step) here_ ∙ ap (named node (from + 0)) at)))
  where
    here_ : from ≡ from + 0
    here_ = omega arith
laid_from_there (step ∷ steps) node from (suc k) is others at =
    subst (λ n. Among (laid_from node (suc from) steps (others ++ (named node from step ∷ []))) (named node n is)) later (laid_from_there steps node (suc from) k is (others ++ (named node from step ∷ [])) at)
  where
    later : suc from + k ≡ from + suc k
    later = omega arith

-- what stands among the steps of a node that begin with the step `from`
abbrev Laid : (steps : List Step) (node from : ℕ) → NamedStep → Type 0
Laid steps node from x = (node ≡ x.node) × ((k : ℕ) × At steps k x.is × (from + k ≡ x.step))

laid_from_only : (steps : List Step) (node from : ℕ) (others : List NamedStep) (x : NamedStep) → Among (laid_from node from steps others) x → Laid steps node from x ⊎ Among others x
laid_from_only [] node from others x is = inr is
laid_from_only (step ∷ steps) node from others x is = elim (laid_from_only steps node (suc from) (others ++ (named node from step ∷ [])) x is) [
  | inl found ↦ inl (found.0, (suc found.1.0, found.1.1, later found.1.0 found.1.2))
  | inr found ↦ elim (among_either others (named node from step ∷ []) x found) [
    | inl there ↦ inr there
    | inr this ↦ inl (first this)
  ]
]
  where
    later : (k : ℕ) → suc from + k ≡ x.step → from + suc k ≡ x.step
    later k e = omega (arith, e)

    first : Among (named node from step ∷ []) x → Laid (step ∷ steps) node from x
    first (inl same) = (ap (λ (y : NamedStep). y.node) same, (0, ap (λ (y : NamedStep). y.is) same, none ∙ ap (λ (y : NamedStep). y.step) same))
      where
        none : from + 0 ≡ from
        none = omega arith
    first (inr not) = absurd not

pub laid_kept : (walk : Walk) (others : List NamedStep) (x : NamedStep) → Among others x → Among (laid walk others) x
laid_kept nothing others x is = is
laid_kept (own node steps) others x is = laid_from_kept steps node 0 others x is
laid_kept (a then b) others x is = laid_kept a (laid b others) x (laid_kept b others x is)

pub laid_there : (walk : Walk) (others : List NamedStep) (o k : ℕ) (is : Step) → View o k is walk → Among (laid walk others) (named o k is)
laid_there nothing others o k is seen = absurd seen
laid_there (own node steps) others o k is seen =
    subst (λ n. Among (laid_from node 0 steps others) (named n k is)) seen.0 (subst (λ i. Among (laid_from node 0 steps others) (named node i is)) none (laid_from_there steps node 0 k is others seen.1))
  where
    none : 0 + k ≡ k
    none = omega arith
laid_there (a then b) others o k is (inl seen) = laid_there a (laid b others) o k is seen
laid_there (a then b) others o k is (inr seen) = laid_kept a (laid b others) (named o k is) (laid_there b others o k is seen)

pub laid_only : (walk : Walk) (others : List NamedStep) (x : NamedStep) → Among (laid walk others) x → View x.node x.step x.is walk ⊎ Among others x
laid_only nothing others x is = inr is
laid_only (own node steps) others x is = elim (laid_from_only steps node 0 others x is) [
  | inl found ↦ inl (found.0, subst (λ k. At steps k x.is) (none found.1.0 ∙ found.1.2) found.1.1)
  | inr there ↦ inr there
]
  where
    none : (k : ℕ) → k ≡ 0 + k
    none k = omega arith
laid_only (a then b) others x is = elim (laid_only a (laid b others) x is) [
  | inl seen ↦ inl (inl seen)
  | inr there ↦ elim (laid_only b others x there) [ inl seen ↦ inl (inr seen) | inr others_ ↦ inr others_ ]
]
