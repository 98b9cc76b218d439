-- The declaration that a name means.
use Rattle.std.proofs.Common.{◌≡◌, ◌∙◌, Bool, true, false, Option, Some, None, List, [], ◌∷◌, Bor, refl, sym, ap, subst}
use Rattle.std.specs.Prelude.{IfSome, if◌then◌else◌}
use Rattle.std.specs.Option.{option_copied, option_map}
use Rattle.std.proofs.lemmas.Option.{none-some, same_Some}
use Rattle.std.proofs.lemmas.Slice.Eq.{bytes_eq-Decides}
use Rattle.lk_typed.specs.Env as env
use Rattle.lk_typed.specs.Env.{Name, is_name, latest, or_else}
use Rattle.lk_typed.specs.declared.names.Declared.{Declared}

pub known_copied : (P : Declared → Type 0) (o : Option (Bor Declared)) → IfSome (option_copied o) P → IfSome o (λ d. P d.now)
known_copied P None h = tt
known_copied P (Some d) h = h

pub mapped_copied : (f : Declared → env.Declared) (o : Option (Bor Declared)) → option_map (λ (d : Bor Declared). f d.now) o ≡ option_map f (option_copied o)
mapped_copied f None = refl
mapped_copied f (Some d) = refl

latest_passes : (test : Declared → Bool) (ds : List Declared) (d : Declared) → latest test ds ≡ Some d → test d ≡ true
latest_passes test [] d e = absurd (none-some d e)
latest_passes test (x ∷ ds) d e = by_rest test x d (λ h. latest_passes test ds d h) (latest test ds) refl e
  where
    alone : (test : Declared → Bool) (x d : Declared) (passes : Bool) → test x ≡ passes → (if passes then Some x else None) ≡ Some d → test d ≡ true
    alone test x d true is e = ap test (sym (same_Some x d e)) ∙ is
    alone test x d false is e = absurd (none-some d e)

    by_rest : (test : Declared → Bool) (x d : Declared) → (latest test ds ≡ Some d → test d ≡ true) → (o : Option Declared) → latest test ds ≡ o →
        or_else o (if test x then Some x else None) ≡ Some d → test d ≡ true
    by_rest test x d rest None is e = alone test x d (test x) refl e
    by_rest test x d rest (Some y) is e = rest (is ∙ e)

-- the declaration that is found has the name
pub named_so : (U : Name → Type 0) (o : Option (Bor Declared)) (name : Name) (ds : List Declared) → option_copied o ≡ latest (λ d. is_name d.name name) ds → U name → IfSome o (λ d. U d.now.name)
named_so U None name ds e h = tt
named_so U (Some d) name ds e h = subst U (sym ((bytes_eq-Decides d.now.name name).0 (latest_passes (λ d. is_name d.name name) ds d.now (sym e)))) h
