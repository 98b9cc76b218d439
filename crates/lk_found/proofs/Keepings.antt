-- Codes that are kept by the least of them.
use Rattle.std.proofs.Common.{◌≡◌, ◌∙◌, ◌≤◌, ◌⊎◌, inl, inr, ◌++◌, ℕ, Bool, true, false, List, [], ◌∷◌, Option, Some, None, refl, sym, ap, subst, arith, nat_lt}
use Rattle.std.specs.Prelude.{if◌then◌else◌, option_map}
use Rattle.std.proofs.lemmas.Bool.Decides.{nat_tests}
use Rattle.std.proofs.lemmas.Option.{none-some, same_Some}
use Rattle.lk_base.specs.Code.{number_of}
use Rattle.lk_base.specs.declared.code.Code.{Code}
use Rattle.lk_typed.specs.Codes.{lesser}
use Rattle.lk_typed.specs.DeclaratorRules.{unless}
use Rattle.lk_typed.specs.Faults.{Breach, breach}
use Rattle.lk_typed.specs.Stands.{IsIn, Mark}
use Rattle.lk_rules.proofs.Kept.{the_least_code_is_enough, the_lesser_is_kept}
use Rattle.lk_rules.specs.Keeping.{Kept, KeepsCodes, breaches_told, keep}
use Rattle.lk_names.specs.Uses as names
use Rattle.lk_check_decl.specs.Breaches.{told}
use Rattle.lk_found.proofs.Forming.{no_code}
use Rattle.lk_found.specs.Keepings.{AreUnnamed}

-- ---- breaches without a name

pub unnamed_none : AreUnnamed []
unnamed_none b among = absurd among

pub unnamed_unless : (holds : Bool) (code : Code) → AreUnnamed (unless holds code)
unnamed_unless true code b among = absurd among
unnamed_unless false code b (inl is) = rw is refl
unnamed_unless false code b (inr among) = absurd among

pub unnamed_both : (xs ys : List Breach) → AreUnnamed xs → AreUnnamed ys → AreUnnamed (xs ++ ys)
unnamed_both [] ys us vs b among = vs b among
unnamed_both (x ∷ xs) ys us vs b (inl is) = us b (inl is)
unnamed_both (x ∷ xs) ys us vs b (inr among) = unnamed_both xs ys (λ c inside. us c (inr inside)) vs b among

pub unnamed_two : (a : Bool) (x : Code) (b : Bool) (y : Code) → AreUnnamed (unless a x ++ unless b y)
unnamed_two a x b y = unnamed_both (unless a x) (unless b y) (unnamed_unless a x) (unnamed_unless b y)

-- ---- the least of some codes

-- it is that of one of them, and none has a lesser number
record IsLeastOf (bs : List Breach) (code : Code) : Type 0 where
  least : Breach
  among : IsIn least bs
  code_is : least.code ≡ code
  first : (c : Breach) → IsIn c bs → number_of code ≤ number_of c.code

less_le : (m n : ℕ) → nat_lt m n ≡ true → m ≤ n
less_le m n less = grind (arith, nat_tests)

not_less_le : (m n : ℕ) → nat_lt m n ≡ false → n ≤ m
not_less_le m n less = grind (arith, nat_tests)

lesser_is : (a : Code) (o : Option Code) (code : Code) → lesser (Some a) o ≡ Some code →
    ((a ≡ code) × ((b : Code) → o ≡ Some b → number_of code ≤ number_of b)) ⊎ ((o ≡ Some code) × (number_of code ≤ number_of a))
lesser_is a None code is = inl (same_Some a code is, λ b some. absurd (none-some b some))
lesser_is a (Some b) code is = of (nat_lt (number_of b) (number_of a)) refl (same_Some _ code is)
  where
    of : (less : Bool) → nat_lt (number_of b) (number_of a) ≡ less → (if less then b else a) ≡ code →
        ((a ≡ code) × ((c : Code) → Some b ≡ Some c → number_of code ≤ number_of c)) ⊎ ((Some b ≡ Some code) × (number_of code ≤ number_of a))
    of true less same = inr (ap Some same, subst (λ c. number_of c ≤ number_of a) same (less_le (number_of b) (number_of a) less))
    of false less same = inl (same, λ c some. subst (λ c. number_of code ≤ number_of c) (same_Some b c some) (subst (λ c. number_of c ≤ number_of b) same (not_less_le (number_of b) (number_of a) less)))

module _ (x : Breach) (bs : List Breach) (code : Code) where
  own : (c : Breach) → c ≡ x → number_of code ≤ number_of x.code → number_of code ≤ number_of c.code
  own c is less = subst (λ (b : Breach). number_of code ≤ number_of b.code) (sym is) less

  inside_first : ((b : Code) → told bs ≡ Some b → IsLeastOf bs b) → ((b : Code) → told bs ≡ Some b → number_of code ≤ number_of b) →
      (o : Option Code) → told bs ≡ o → (c : Breach) → IsIn c bs → number_of code ≤ number_of c.code
  inside_first others less None same c inside = absurd (subst (IsIn c) (no_code bs same) inside)
  inside_first others less (Some b) same c inside = let more = (others b same).first c inside in let few = less b same in omega (arith, more, few)

  first_of : ((b : Code) → told bs ≡ Some b → IsLeastOf bs b) → x.code ≡ code → ((b : Code) → told bs ≡ Some b → number_of code ≤ number_of b) →
      (c : Breach) → (c ≡ x) ⊎ IsIn c bs → number_of code ≤ number_of c.code
  first_of others same less c (inl is) = own c is (subst (λ k. number_of code ≤ number_of k) (sym same) (omega arith))
  first_of others same less c (inr inside) = inside_first others less (told bs) refl c inside

  later_of : ((c : Breach) → IsIn c bs → number_of code ≤ number_of c.code) → number_of code ≤ number_of x.code → (c : Breach) → (c ≡ x) ⊎ IsIn c bs → number_of code ≤ number_of c.code
  later_of others less c (inl is) = own c is less
  later_of others less c (inr inside) = others c inside

  least_then : ((b : Code) → told bs ≡ Some b → IsLeastOf bs b) →
      ((x.code ≡ code) × ((b : Code) → told bs ≡ Some b → number_of code ≤ number_of b)) ⊎ ((told bs ≡ Some code) × (number_of code ≤ number_of x.code)) → IsLeastOf (x ∷ bs) code
  least_then others (inl first) = record { least = x; among = inl refl; code_is = first.0; first = first_of others first.0 first.1 }
  least_then others (inr later) =
      let found = others code later.0 in
      record { least = found.least; among = inr found.among; code_is = found.code_is; first = later_of found.first later.1 }

least_of : (bs : List Breach) (code : Code) → told bs ≡ Some code → IsLeastOf bs code
least_of [] code is = absurd (none-some code is)
least_of (x ∷ bs) code is = least_then x bs code (λ b same. least_of bs b same) (lesser_is x.code (told bs) code is)

-- ---- keeping

pub kept_told : (old : Kept) (mark : Mark) (code : Option Code) (bs : List Breach) → code ≡ told bs → AreUnnamed bs → KeepsCodes old mark bs (keep old mark (option_map breach code))
kept_told old mark None [] is unnamed = the_lesser_is_kept old mark None
kept_told old mark None (x ∷ bs) is unnamed = absurd (some_told x bs is)
  where
    some_told : (x : Breach) (bs : List Breach) → None ≡ told (x ∷ bs) → ⊥
    some_told x bs is = of (told bs) is
      where
        of : (o : Option Code) → None ≡ lesser (Some x.code) o → ⊥
        of None is = none-some _ is
        of (Some c) is = none-some _ is
kept_told old mark (Some code) bs is unnamed =
    let least = least_of bs code (sym is) in
    let same = unnamed least.least least.among ∙ ap breach least.code_is in
    the_least_code_is_enough old (keep old mark (Some (breach code))) mark bs (breach code) (subst (λ b. IsIn b bs) same least.among) least.first
    (the_lesser_is_kept old mark (Some (breach code)))

-- ---- with a name

pub named_told : (code : Option Code) (name : List ℕ) → breaches_told (option_map (λ code. record { code = code; name = name }) code) ≡ names.breaches_told code name
named_told None name = refl
named_told (Some code) name = refl

-- ---- codes

pub no_codes : (kept : Kept) (mark : Mark) → KeepsCodes kept mark [] kept
no_codes kept mark = the_lesser_is_kept kept mark None
