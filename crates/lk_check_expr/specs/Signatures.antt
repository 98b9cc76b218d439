-- The signatures of functions in the code, in the words of the rules.
use Rattle.std.specs.Prelude.{◌&&◌, Bool, not, All, ◌∷◌, map, nat_eq}
use Rattle.lk_types.specs.Table.{Table, IsKnown}
use Rattle.lk_typed.specs.Meaning.{meaning}
use Rattle.lk_typed.specs.Ty as ty
use Rattle.lk_typed.specs.Ty.{are_equal_but, is_same, more, none, types_of, void_pointer}
use Rattle.lk_check_expr.specs.declared.signatures.Signature.{Signature}

abbrev pub signature_in : Table → Signature → ty.Signature
signature_in table s =
    record { result = meaning table s.result; params = types_of (map (meaning table) s.params.now); dots = s.dots }

abbrev pub HasKnownTypes : Table → Signature → Type 0
HasKnownTypes table s = All (IsKnown table) (s.result ∷ s.params.now)

-- that of a start routine: void *(void *) (POSIX, pthread_create)
abbrev pub is_routine_signature : ty.Signature → Bool
is_routine_signature s =
    is_same s.result void_pointer && are_equal_but nat_eq s.params (more void_pointer none) && not s.dots
