-- The last one that passes a test, by the rules and by the look-up.
use Rattle.std.proofs.Common.{◌≡◌, ◌∙◌, Bool, Option, Some, None, List, [], ◌∷◌, if◌then◌else◌, refl, ap}
use Rattle.lk_scopes.specs.Latest as found
use Rattle.lk_typed.specs.Env.{Name, is_name, or_else, latest}

same_else : {A : Type 0} (a b : Option A) → found.or_else a b ≡ or_else a b
same_else (Some x) b = refl
same_else None b = refl

same_latest : {A : Type 0} (test : A → Bool) (items : List A) → found.latest test items ≡ latest test items
same_latest test [] = refl
same_latest test (x ∷ items) =
    same_else (found.latest test items) (if test x then Some x else None) ∙ ap (λ o. or_else o (if test x then Some x else None)) (same_latest test items)

-- what is found by the bytes of a name is the latest one of the name
pub found_by_bytes : {A : Type 0} (name_of : A → Name) (items : List A) (bytes name : Name) (o : Option A) →
    o ≡ found.latest (λ item. found.is_name (name_of item) bytes) items → bytes ≡ name → o ≡ latest (λ item. is_name (name_of item) name) items
found_by_bytes name_of items bytes name o is same =
    is ∙ ap (λ n. found.latest (λ item. found.is_name (name_of item) n) items) same ∙ same_latest (λ item. is_name (name_of item) name) items
