-- The codes of one node, of which the least is kept.
use Rattle.std.proofs.Common.{◌≡◌, ◌∙◌, ◌≤◌, ℕ, Bool, true, false, List, [], ◌∷◌, Option, Some, None, inl, inr, refl, sym, ap, subst, arith}
use Rattle.std.specs.Prelude.{option_map, nat_lt, if◌then◌else◌}
use Rattle.std.proofs.lemmas.Bool.Decides.{nat_tests}
use Rattle.lk_base.specs.Code.{number_of}
use Rattle.lk_base.specs.declared.code.Code.{Code}
use Rattle.lk_typed.specs.Codes.{lesser}
use Rattle.lk_typed.specs.Faults.{Breach}
use Rattle.lk_typed.specs.Stands.{IsIn, Mark}
use Rattle.lk_rules.proofs.Kept.{the_least_code_is_enough, the_lesser_is_kept}
use Rattle.lk_rules.specs.Keeping.{Kept, KeepsCodes, keep}
use Rattle.lk_check_decl.specs.Breaches.{told}

-- all of them tell this name
abbrev pub TellName : List ℕ → List Breach → Type 0
TellName name bs = (b : Breach) → IsIn b bs → b.name ≡ name

-- one of them has the least code
record IsLeastOf (bs : List Breach) (code : Code) : Type 0 where
  pub breach : Breach
  pub among : IsIn breach bs
  pub is : breach.code ≡ code
  pub least : (c : Breach) → IsIn c bs → number_of breach.code ≤ number_of c.code

abbrev HasLeast : List Breach → Option Code → Type 0
HasLeast bs None = bs ≡ []
HasLeast bs (Some code) = IsLeastOf bs code

less_behind : (a b : Code) (test : Bool) → nat_lt (number_of b) (number_of a) ≡ test → (number_of (if test then b else a) ≤ number_of a) × (number_of (if test then b else a) ≤ number_of b)
less_behind a b true is = (grind (arith, nat_tests), grind (arith, nat_tests))
less_behind a b false is = (grind (arith, nat_tests), grind (arith, nat_tests))

least_is : (bs : List Breach) → HasLeast bs (told bs)
least_is [] = refl
least_is (b ∷ []) = record { breach = b; among = inl refl; is = refl; least = λ c there. one c there }
  where
    one : (c : Breach) → IsIn c (b ∷ []) → number_of b.code ≤ number_of c.code
    one c (inl same) = subst (λ (d : Breach). number_of b.code ≤ number_of d.code) (sym same) (omega arith)
    one c (inr nowhere) = absurd nowhere
least_is (b ∷ c ∷ cs) = by (told (c ∷ cs)) (least_is (c ∷ cs))
  where
    over : (code : Code) (test : Bool) → nat_lt (number_of code) (number_of b.code) ≡ test → IsLeastOf (c ∷ cs) code → IsLeastOf (b ∷ c ∷ cs) (if test then code else b.code)
    over code true is found =
        record {
          breach = found.breach;
          among = inr found.among;
          is = found.is;
          least = λ d there. elim there [
            | inl same ↦ subst (λ (e : Breach). number_of found.breach.code ≤ number_of e.code) (sym same) (subst (λ k. number_of k ≤ number_of b.code) (sym found.is) (less_behind b.code code true is).0)
            | inr behind ↦ found.least d behind
          ];
        }
    over code false is found =
        record {
          breach = b;
          among = inl refl;
          is = refl;
          least = λ d there. elim there [
            | inl same ↦ subst (λ (e : Breach). number_of b.code ≤ number_of e.code) (sym same) (omega arith)
            | inr behind ↦ trans_le (less_behind b.code code false is).1 (subst (λ k. number_of k ≤ number_of d.code) found.is (found.least d behind))
          ];
        }
      where
        trans_le : {x y z : ℕ} → x ≤ y → y ≤ z → x ≤ z
        trans_le p q = omega arith

    by : (o : Option Code) → HasLeast (c ∷ cs) o → HasLeast (b ∷ c ∷ cs) (lesser (Some b.code) o)
    by None none = absurd (cons_nil none)
      where
        cons_nil : c ∷ cs ≡ [] → ⊥
        cons_nil e = cc
    by (Some code) found = over code (nat_lt (number_of code) (number_of b.code)) refl found

-- the least one is told: they are kept
pub codes_told : (old : Kept) (mark : Mark) (name : List ℕ) (bs : List Breach) (code : Option Code) → TellName name bs → code ≡ told bs →
    KeepsCodes old mark bs (keep old mark (option_map (λ code. record { code = code; name = name }) code))
codes_told old mark name bs code names is = subst (λ o. KeepsCodes old mark bs (keep old mark (option_map (λ code. record { code = code; name = name }) o))) (sym is) (by (told bs) (least_is bs))
  where
    by : (o : Option Code) → HasLeast bs o → KeepsCodes old mark bs (keep old mark (option_map (λ code. record { code = code; name = name }) o))
    by None none = subst (λ cs. KeepsCodes old mark cs old) (sym none) (the_lesser_is_kept old mark None)
    by (Some code) found =
        let told_breach : Breach = record { code = code; name = name } in
        let same : found.breach ≡ told_breach = ap (λ k. record { code = k; name = found.breach.name }) found.is ∙ ap (λ n. record { code = code; name = n }) (names found.breach found.among) in
        the_least_code_is_enough old (keep old mark (Some told_breach)) mark bs told_breach
        (subst (λ b. IsIn b bs) same found.among)
        (λ c there. subst (λ (b : Breach). number_of b.code ≤ number_of c.code) same (found.least c there))
        (the_lesser_is_kept old mark (Some told_breach))
