-- What is told of sources that make no program, and when they make one.
use Rattle.std.proofs.Common.{◌≡◌, ◌∙◌, ◌↔◌, List, ℕ, Bool, true, false, Option, Some, None, subst, sym}
use Rattle.std.proofs.lemmas.Bool.{false≢true}
use Rattle.std.specs.Prelude.{MatchOption}
use Rattle.lk_base.specs.declared.refusal.Refusal.{Refusal}
use Rattle.lk_link.specs.Clashes.{HasMain, IsClash, IsFirstClash, defined_twice, types_differ}
use Rattle.lk_link.specs.Sources.{Units}
use Rattle.lk_link.specs.declared.clash.Clash.{Clash}
use Rattle.lk_join.specs.Agreeing.{AreAgreed}
use Rattle.lk_join.specs.Program.{IsRefusal, no_main, refusal_of}
use Rattle.lk_join.specs.Program.IsRefusal.{without_main, clashing}

module _ (units given : Units) (same : given ≡ units) where
  pub main_there : (answer : Bool) → (answer ≡ true) ↔ HasMain given → answer ≡ true → HasMain units
  main_there answer tells is = subst HasMain same (tells.0 is)

  pub refused_without : (externs : List (List ℕ)) (answer : Bool) (refusal : Refusal) → (answer ≡ true) ↔ HasMain given → answer ≡ false → refusal ≡ no_main → IsRefusal units externs refusal
  refused_without externs answer refusal tells is told =
      subst (IsRefusal units externs) (sym told) (without_main (λ has. false≢true (sym is ∙ tells.1 (subst HasMain (sym same) has))))

  pub refused_clashing : (externs : List (List ℕ)) (found : Option Clash) (clash : Clash) (refusal : Refusal) → HasMain units →
      MatchOption found ((other : Clash) → IsClash given externs other → ⊥) (IsFirstClash given externs) → found ≡ Some clash → refusal ≡ refusal_of clash → IsRefusal units externs refusal
  refused_clashing externs found clash refusal main first is told =
      let here = subst (λ (o : Option Clash). MatchOption o ((other : Clash) → IsClash given externs other → ⊥) (IsFirstClash given externs)) is first in
      subst (IsRefusal units externs) (sym told) (clashing clash main (subst (λ (us : Units). IsFirstClash us externs clash) same here))

  pub nothing_clashes : (externs : List (List ℕ)) (found : Option Clash) →
      MatchOption found ((other : Clash) → IsClash given externs other → ⊥) (IsFirstClash given externs) → found ≡ None → (clash : Clash) → IsClash units externs clash → ⊥
  nothing_clashes externs found first is =
      let none = subst (λ (o : Option Clash). MatchOption o ((other : Clash) → IsClash given externs other → ⊥) (IsFirstClash given externs)) is first in
      subst (λ (us : Units). (clash : Clash) → IsClash us externs clash → ⊥) same none

-- sources that speak against nothing agree
pub agreed : (units : Units) (externs : List (List ℕ)) → ((clash : Clash) → IsClash units externs clash → ⊥) → AreAgreed units
agreed units externs nothing = record { once = λ clash is. nothing clash (defined_twice is); alike = λ clash is. nothing clash (types_differ is) }
