-- The look-up of typedef names: the declaration that decides is the latest of its name.
use Rattle.std.proofs.Common.{◌≡◌, ℕ, Bool, true, false, Option, Some, None, List, [], ◌∷◌, if◌then◌else◌, fold, nat_eq, refl, sym, ap, ◌∙◌}
use Rattle.std.specs.Cmp.Lexicographic.{pointwise}
use Rattle.lk_scopes.specs.Latest.{is_name, latest, or_else}
use Rattle.lk_parse_expr.specs.Input.{Names, is_declared_by, is_typedef}

-- what a declaration says, where there is one
abbrev said : Bool → Option (List ℕ × Bool) → Bool
said before None = before
said before (Some declared) = declared.1

all_said : (word : List ℕ) (names : Names) (before : Bool) → fold (is_declared_by word) before names ≡ said before (latest (λ d. is_name d.0 word) names)
all_said word [] before = refl
all_said word (d ∷ names) before = all_said word names (is_declared_by word before d) ∙ by (latest (λ d. is_name d.0 word) names) (pointwise nat_eq d.0 word)
  where
    by : (o : Option (List ℕ × Bool)) (b : Bool) → said (if b then d.1 else before) o ≡ said before (or_else o (if b then Some d else None))
    by (Some e) b = refl
    by None true = refl
    by None false = refl

-- a word is a typedef where the latest declaration of its name is one, and where there is none it isn't
pub typedef_said : (names : Names) (word : List ℕ) (found : Option (List ℕ × Bool)) → found ≡ latest (λ d. is_name d.0 word) names → said false found ≡ is_typedef names word
unfolding is_typedef
typedef_said names word found is = ap (said false) is ∙ sym (all_said word names false)
