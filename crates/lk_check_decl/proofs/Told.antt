-- The code that is told of what breaks two rules.
use Rattle.std.proofs.Common.{◌≡◌, ◌∙◌, ◌++◌, ℕ, Bool, true, false, List, [], ◌∷◌, Option, Some, None, refl, sym, ap}
use Rattle.std.proofs.lemmas.Option.{none-some}
use Rattle.lk_base.specs.declared.code.Code.{Code}
use Rattle.lk_typed.proofs.LeastCodes.{lesser_again}
use Rattle.lk_typed.specs.Codes.{lesser}
use Rattle.std.specs.Prelude.{not, if◌then◌else◌}
use Rattle.lk_typed.specs.DeclaratorRules.{unless}
use Rattle.lk_typed.specs.Faults.{Breach, breach_of}
use Rattle.lk_check_decl.specs.Breaches.{told}

pub told_both : (xs ys : List Breach) → told (xs ++ ys) ≡ lesser (told xs) (told ys)
told_both [] ys = refl
told_both (x ∷ xs) ys = ap (lesser (Some x.code)) (told_both xs ys) ∙ lesser_again (Some x.code) (told xs) (told ys)

-- the same, of what the code computed
pub both_told : {a b r : Option Code} (xs ys : List Breach) → a ≡ told xs → b ≡ told ys → r ≡ lesser a b → r ≡ told (xs ++ ys)
both_told xs ys p q r = rw r (rw p (rw q (sym (told_both xs ys))))

-- the name of a breach isn't asked
pub if_told : (b : Bool) (code : Code) (name : List ℕ) → told (unless (not b) code) ≡ told (if b then breach_of code name ∷ [] else [])
if_told true code name = refl
if_told false code name = refl

-- neither of two codes is there
pub second_none : (a b : Option Code) → lesser a b ≡ None → b ≡ None
second_none None b is = is
second_none (Some a) None is = refl
second_none (Some a) (Some b) is = absurd (none-some _ (sym is))

pub unless_none : (holds : Bool) (code : Code) → told (unless holds code) ≡ None → holds ≡ true
unless_none true code is = refl
unless_none false code is = absurd (none-some code (sym is))
