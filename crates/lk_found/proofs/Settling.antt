-- The code of a verdict is the least of those of the rule, and what is found is what the rule gives.
use Rattle.std.proofs.Common.{◌≡◌, ◌∙◌, ◌≤◌, ℕ, Bool, true, false, List, [], ◌∷◌, Option, Some, None, map, refl, sym, ap, subst, arith, inl, inr, nat_lt}
use Rattle.std.specs.Prelude.{is_some, option_map, if◌then◌else◌}
use Rattle.std.proofs.lemmas.Bool.{false≢true}
use Rattle.lk_base.specs.Code.{number_of}
use Rattle.lk_base.specs.declared.code.Code.{Code}
use Rattle.lk_types.specs.Building.{IsLonger}
use Rattle.lk_types.specs.Table.{Table}
use Rattle.lk_types.proofs.GrowLemmas.{longer_same}
use Rattle.lk_tree.specs.declared.expression.Expr.{Expr}
use Rattle.lk_typed.specs.Codes.{lesser, least_code}
use Rattle.lk_typed.specs.Elements.{HasFewElements}
use Rattle.lk_typed.specs.Expressions.{Plainly, breach_at, written}
use Rattle.lk_typed.specs.Faults.{Breach, breach}
use Rattle.lk_typed.specs.Meaning.{IsReady}
use Rattle.lk_typed.specs.Stands.{IsIn, Mark}
use Rattle.lk_typed.specs.Typing as spec
use Rattle.lk_typed.specs.Typing.{codes_of, typing_of}
use Rattle.lk_typed.specs.Typings.{IsVerdict}
use Rattle.lk_typed.specs.declared.verdict.Verdict.{Verdict}
use Rattle.lk_typed.specs.declared.verdict.Verdict.TheVariants as verdict
use Rattle.lk_names.specs.InScope.{InScope, IsKnownScope}
use Rattle.lk_rules.specs.Keeping.{Kept, KeepsCodes, keep}
use Rattle.lk_rules.proofs.Kept.{the_lesser_is_kept, the_least_code_is_enough}
use Rattle.lk_found.specs.Addresses.{kept_of}
use Rattle.lk_found.specs.Judging.{Gives, TellsNoName, code_in, typed_in}
use Rattle.lk_found.specs.Structs.{AreListed}
use Rattle.lk_found.specs.Findings.{IsFoundTyping}
use Rattle.lk_found.specs.declared.found.Found.{Found}

-- ---- the least code

record LeastOf (codes : List Code) (code : Code) : Type 0 where
  among : IsIn code codes
  least : (c : Code) → IsIn c codes → number_of code ≤ number_of c

some_is : {a b : Code} → ◌≡◌ {A = Option Code} (Some a) (Some b) → a ≡ b
some_is {a} {b} e = ap (λ o. code_or a o) e
  where
    code_or : Code → Option Code → Code
    code_or a None = a
    code_or a (Some b) = b

nothing_least : (codes : List Code) → least_code codes ≡ None → codes ≡ []
nothing_least [] e = refl
nothing_least (c ∷ codes) e = absurd (never c (least_code codes) e)
  where
    never : (c : Code) (o : Option Code) → lesser (Some c) o ≡ None → ⊥
    never c None e = false≢true (sym (ap is_some e))
    never c (Some d) e = false≢true (sym (ap is_some e))

alone_least : (c : Code) (codes : List Code) → codes ≡ [] → LeastOf (c ∷ codes) c
alone_least c codes e = subst (λ codes. LeastOf (c ∷ codes) c) (sym e) (record { among = inl refl; least = only c })
  where
    only : (c d : Code) → IsIn d (c ∷ []) → number_of c ≤ number_of d
    only c d (inl e) = subst (λ d. number_of c ≤ number_of d) (sym e) (omega arith)
    only c d (inr h) = absurd h

first_least : (c d : Code) (codes : List Code) → LeastOf codes d → (less : Bool) → nat_lt (number_of d) (number_of c) ≡ less → LeastOf (c ∷ codes) (if less then d else c)
first_least c d codes h true e = record { among = inr h.among; least = each c d codes h e }
  where
    each : (c d : Code) (codes : List Code) → LeastOf codes d → nat_lt (number_of d) (number_of c) ≡ true → (b : Code) → IsIn b (c ∷ codes) → number_of d ≤ number_of b
    each c d codes h e b (inl i) = subst (λ b. number_of d ≤ number_of b) (sym i) (not_more (number_of d) (number_of c) e)
      where
        not_more : (m n : ℕ) → nat_lt m n ≡ true → m ≤ n
        not_more m n e = grind arith
    each c d codes h e b (inr i) = h.least b i
first_least c d codes h false e = record { among = inl refl; least = each c d codes h e }
  where
    less_or_same : (m n k : ℕ) → nat_lt m n ≡ false → m ≤ k → n ≤ k
    less_or_same m n k e h = grind arith

    each : (c d : Code) (codes : List Code) → LeastOf codes d → nat_lt (number_of d) (number_of c) ≡ false → (b : Code) → IsIn b (c ∷ codes) → number_of c ≤ number_of b
    each c d codes h e b (inl i) = subst (λ b. number_of c ≤ number_of b) (sym i) (omega arith)
    each c d codes h e b (inr i) = less_or_same (number_of d) (number_of c) (number_of b) e (h.least b i)

least_among : (codes : List Code) (code : Code) → least_code codes ≡ Some code → LeastOf codes code
least_among [] code e = absurd (false≢true (ap is_some e))
least_among (c ∷ codes) code e = by_rest c codes code (λ d is. least_among codes d is) (least_code codes) refl e
  where
    by_rest : (c : Code) (codes : List Code) (code : Code) → ((d : Code) → least_code codes ≡ Some d → LeastOf codes d) → (o : Option Code) → least_code codes ≡ o →
        lesser (Some c) o ≡ Some code → LeastOf (c ∷ codes) code
    by_rest c codes code rest None is e = subst (LeastOf (c ∷ codes)) (some_is e) (alone_least c codes (nothing_least codes is))
    by_rest c codes code rest (Some d) is e =
        subst (LeastOf (c ∷ codes)) (some_is e) (first_least c d codes (rest d is) (nat_lt (number_of d) (number_of c)) refl)

-- ---- the codes of a verdict

mapped_in : (f : Code → Breach) (codes : List Code) (c : Code) → IsIn c codes → IsIn (f c) (map f codes)
mapped_in f [] c h = h
mapped_in f (d ∷ codes) c (inl e) = inl (ap f e)
mapped_in f (d ∷ codes) c (inr h) = inr (mapped_in f codes c h)

record MappedFrom (f : Code → Breach) (codes : List Code) (b : Breach) : Type 0 where
  code : Code
  among : IsIn code codes
  is : b ≡ f code

mapped_from : (f : Code → Breach) (codes : List Code) (b : Breach) → IsIn b (map f codes) → MappedFrom f codes b
mapped_from f [] b h = absurd h
mapped_from f (d ∷ codes) b (inl e) = record { code = d; among = inl refl; is = e }
mapped_from f (d ∷ codes) b (inr h) = let m = mapped_from f codes b h in record { code = m.code; among = inr m.among; is = m.is }

same_number : (w : Plainly) (code : Code) → (breach_at w code).code ≡ code
same_number (Plainly.AWord name) code = refl
same_number (Plainly.AText bytes) code = refl
same_number Plainly.AnotherForm code = refl

some_kept : (old : Kept) (at : Mark) (w : Plainly) (codes : List Code) (code : Code) → least_code codes ≡ Some code →
    KeepsCodes old at (map (breach_at w) codes) (keep old at (Some (breach_at w code)))
some_kept old at w codes code e =
    let h = least_among codes code e in
    let b = breach_at w code in
    let new = keep old at (Some b) in
    the_least_code_is_enough old new at (map (breach_at w) codes) b (mapped_in (breach_at w) codes code h.among) (each_more w codes code h) (the_lesser_is_kept old at (Some b))
  where
    each_more : (w : Plainly) (codes : List Code) (code : Code) → LeastOf codes code → (c : Breach) → IsIn c (map (breach_at w) codes) → number_of (breach_at w code).code ≤ number_of c.code
    each_more w codes code h c i =
        let m = mapped_from (breach_at w) codes c i in
        subst (λ n. number_of n ≤ number_of c.code) (sym (same_number w code))
        (subst (λ n. number_of code ≤ number_of n) (sym (ap (λ (b : Breach). b.code) m.is ∙ same_number w m.code)) (h.least m.code m.among))

pub verdict_kept : (old : Kept) (at : Mark) (w : Plainly) (table : Table) (told : Verdict) (v : spec.Verdict) → IsVerdict table told v →
    KeepsCodes old at (map (breach_at w) (codes_of v)) (keep old at (option_map (breach_at w) (code_in told)))
verdict_kept old at w table (verdict.Typed t) (spec.Typed x) is = the_lesser_is_kept old at None
verdict_kept old at w table (verdict.Typed t) (spec.Broken codes) is = absurd is
verdict_kept old at w table (verdict.Typed t) spec.Silent is = absurd is
verdict_kept old at w table (verdict.Broken code) (spec.Typed x) is = absurd is
verdict_kept old at w table (verdict.Broken code) (spec.Broken codes) is = some_kept old at w codes code is
verdict_kept old at w table (verdict.Broken code) spec.Silent is = absurd is
verdict_kept old at w table verdict.Silent (spec.Typed x) is = absurd is
verdict_kept old at w table verdict.Silent (spec.Broken codes) is = absurd is
verdict_kept old at w table verdict.Silent spec.Silent is = the_lesser_is_kept old at None

-- ---- what is found

pub found_by : (table : Table) (found : Found) (told : Verdict) (v : spec.Verdict) → IsVerdict table told v → found.typing ≡ typed_in told → Gives (λ x. found.address ≡ kept_of x.address) v →
    IsFoundTyping table found (typing_of v)
found_by table found (verdict.Typed t) (spec.Typed x) is e gives = (t, e, is, gives)
found_by table found (verdict.Typed t) (spec.Broken codes) is e gives = absurd is
found_by table found (verdict.Typed t) spec.Silent is e gives = absurd is
found_by table found (verdict.Broken code) (spec.Typed x) is e gives = absurd is
found_by table found (verdict.Broken code) (spec.Broken codes) is e gives = e
found_by table found (verdict.Broken code) spec.Silent is e gives = e
found_by table found verdict.Silent (spec.Typed x) is e gives = absurd is
found_by table found verdict.Silent (spec.Broken codes) is e gives = e
found_by table found verdict.Silent spec.Silent is e gives = e

-- ---- the state behind it

pub longer_as : (old new : Table) → new ≡ old → IsLonger old new
longer_as old new e = subst (IsLonger old) (sym e) (longer_same old)

pub record SoundOf (table : Table) (names : InScope) : Type 0 where
  pub ready : IsReady table
  pub few : HasFewElements table
  pub scope : IsKnownScope table names
  pub structs : AreListed table names.structs

-- told without a name
pub told_plainly : (e : Expr) → TellsNoName e → (o : Option Code) → option_map breach o ≡ option_map (breach_at (written e)) o
told_plainly e plain None = refl
told_plainly e plain (Some code) = ap Some (sym (plain code))
