-- A state is in some environment.
use Rattle.std.proofs.Common.{◌≡◌, ◌∙◌, Bool, true, false, List, [], ◌∷◌, None, refl, sym, ap}
use Rattle.std.specs.Prelude.{◌||◌, if◌then◌else◌}
use Rattle.std.specs.List.{list_any}
use Rattle.std.proofs.lemmas.Slice.Eq.{bytes_eq-Decides}
use Rattle.lk_typed.specs.Env.{Env, Name, is_name, is_one_of}
use Rattle.lk_typed.specs.Names.{role_in}
use Rattle.lk_names.specs.InScope.{env_in}
use Rattle.lk_found.specs.declared.found.Stands.{Stands}
use Rattle.lk_checker.specs.States.{StandsIn}
use Rattle.lk_checker.specs.declared.checker.Checker.{Checker}

same_name_turned : (a b : Name) → is_name a b ≡ is_name b a
same_name_turned a b = by_test a b (is_name a b) (is_name b a) refl refl
  where
    by_test : (a b : Name) (p q : Bool) → is_name a b ≡ p → is_name b a ≡ q → p ≡ q
    by_test a b true true e d = refl
    by_test a b false false e d = refl
    by_test a b true false e d = sym ((bytes_eq-Decides b a).1 (sym ((bytes_eq-Decides a b).0 e))) ∙ d
    by_test a b false true e d = sym e ∙ (bytes_eq-Decides a b).1 (sym ((bytes_eq-Decides b a).0 d))

one_of_keys : (keys : List Name) (name : Name) → is_one_of keys name ≡ list_any (is_name name) keys
one_of_keys [] name = refl
one_of_keys (key ∷ keys) name =
    ap (λ b. if b then true else is_one_of keys name) (same_name_turned key name) ∙ either_way (is_name name key) (is_one_of keys name) ∙ ap (λ b. is_name name key || b) (one_of_keys keys name)
  where
    either_way : (a b : Bool) → (if a then true else b) ≡ (a || b)
    either_way true b = refl
    either_way false b = refl

abbrev some_env : Checker → Stands → Env
some_env checker stands =
    env_in checker.types
    (record {
      outside = record { defined = checker.outside.defined.keys; externs = checker.outside.externs.keys };
      declared = [];
      base = 0;
      tags = [];
      tag_base = 0;
      structs = [];
      result = None;
      role = role_in checker.types stands.role;
      in_size = stands.in_size;
    })
    checker.names

pub somewhere : (checker : Checker) (stands : Stands) → (env : Env) × StandsIn checker stands env
somewhere checker stands = (
  some_env checker stands,
  record {
    is_in = record { scope = refl; defined = one_of_keys checker.outside.defined.keys; externs = one_of_keys checker.outside.externs.keys };
    role = refl;
    in_size = refl;
  },
)
