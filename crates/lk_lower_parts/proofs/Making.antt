-- The functions of all bodies, one after the other.
use Rattle.std.proofs.Common.{arith, ap, sym, subst, ◌∙◌, ◌≡◌, ◌<◌, ◌+◌, inl, inr, ℕ, List, [], ◌∷◌, length, get_or, slice_get, Some, refl}
use Rattle.std.proofs.lemmas.Bool.{cases_lt}
use Rattle.std.proofs.lemmas.List.{length_push}
use Rattle.std.proofs.lemmas.Option.{get_or_from_slice_get, same_Some}
use Rattle.lk_facts.specs.declared.function.Function.{Function}
use Rattle.lk_lower_expr.specs.Programs.{IsBody}
use Rattle.lk_lower_parts.proofs.Gathered.{at_later, at_left}
use Rattle.lk_lower_parts.specs.MadeFunctions.{AddsFunctions, AddsMade, IsMade, StandsGiven, StandsMade}
use Rattle.lk_lower_parts.specs.declared.names.Given.{Given}
use Rattle.lk_typed.specs.declared.unit.Body.{Body}
use Rattle.lk_typed.specs.declared.whole.Linked.{Linked}
use Rattle.lk_typed.specs.declared.whole.Whole.{Whole}

abbrev pub AreKept : List Function → List Function → Type 0
AreKept old new = (n : ℕ) (is : Function) → slice_get old n ≡ Some is → slice_get new n ≡ Some is

module _ (whole : Whole) (s : ℕ) (linked : Linked) (points by_node : List ℕ) (slots : List (List ℕ)) where
  abbrev Stands : Body → ℕ → List Function → Type 0
  Stands = StandsMade whole s linked points by_node slots

  pub stands_kept : (body : Body) (n : ℕ) (old new : List Function) → AreKept old new → Stands body n old → Stands body n new
  stands_kept body n old new kept stands = (stands.0, kept n stands.0 stands.1, stands.2, stands.3, stands.4)

  -- ---- one body more

  module _ (bodies : List Body) (front old new : List Function) (i n : ℕ) (x : Body) (is : x ≡ get_or bodies i x) (as_many : length old ≡ length front + i) (number : n ≡ length old) (adds : AddsMade whole s linked points by_node slots x n old new) where
    pub one_more : length new ≡ length front + (i + 1)
    one_more = let e = ap length adds.1 ∙ length_push old adds.0 in omega (arith, e, as_many)

    last_kept : AreKept old new
    last_kept m is at = subst (λ xs. slice_get xs m ≡ Some is) (sym adds.1) (at_left old (adds.0 ∷ []) m is at)

    pub front_kept : AreKept front old → AreKept front new
    front_kept kept m is at = last_kept m is (kept m is at)

    here : Stands x (length front + i) new
    here = (
      adds.0,
      subst (λ xs. slice_get xs (length front + i) ≡ Some adds.0) (sym adds.1) (at_later old (adds.0 ∷ []) (length front + i) 0 adds.0 (omega (arith, as_many)) refl),
      adds.2,
      subst (λ m. slice_get slots m ≡ Some adds.2) place adds.3,
      subst (λ m. IsMade whole s linked x m points by_node adds.2 adds.0) place adds.4,
    )
      where
        place : n ≡ length front + i
        place = number ∙ as_many

    pub each_more : ((b : ℕ) (body : Body) → b < i → slice_get bodies b ≡ Some body → Stands body (length front + b) old) → (b : ℕ) (body : Body) → b < i + 1 → slice_get bodies b ≡ Some body → Stands body (length front + b) new
    each_more was b body within at = elim (cases_lt b i) [
      | inl before ↦ stands_kept body (length front + b) old new last_kept (was b body before at)
      | inr not ↦ last (omega (arith, within, not))
    ]
      where
        last : b ≡ i → Stands body (length front + b) new
        last same = subst (λ m. Stands body (length front + m) new) (sym same) (subst (λ (y : Body). Stands y (length front + i) new) is_body here)
          where
            is_body : x ≡ body
            is_body = is ∙ (ap (λ m. get_or bodies m x) (sym same) ∙ get_or_from_slice_get bodies b body x at)

-- ---- one source more

module _ (given : Given) (slots : List (List ℕ)) (s : ℕ) (old new : List Function) (adds : AddsFunctions given slots s old new) where
  abbrev sources : List Linked
  sources = given.whole.now.sources

  pub source_made : ((t b : ℕ) (linked : Linked) (body : Body) → t < s → IsBody sources t b linked body → StandsGiven given slots t b linked body old) → (t b : ℕ) (linked : Linked) (body : Body) → t < s + 1 → IsBody sources t b linked body →
      StandsGiven given slots t b linked body new
  source_made was t b linked body within is = elim (cases_lt t s) [
    | inl before ↦ stands_kept given.whole.now t linked (get_or given.points.now t []) (get_or given.by_node.now t []) slots body (get_or given.functions.now.first t 0 + b) old new adds.kept (was t b linked body before is)
    | inr not ↦ last (omega (arith, within, not))
  ]
    where
      last : t ≡ s → StandsGiven given slots t b linked body new
      last same = subst (λ m. StandsGiven given slots m b linked body new) (sym same) (subst (λ l. StandsGiven given slots s b l body new) here (subst (λ n. StandsMade given.whole.now s adds.linked (get_or given.points.now s []) (get_or given.by_node.now s []) slots body (n + b) new) adds.behind (adds.each b body (subst (λ (l : Linked). slice_get l.unit.bodies b ≡ Some body) (sym here) is.at))))
        where
          here : adds.linked ≡ linked
          here = same_Some adds.linked linked (sym adds.source ∙ (ap (slice_get sources) (sym same) ∙ is.source))
