-- The parts of the rule of redeclaration (`may_follow` of lk_typed), each with a name.
use Rattle.std.specs.Prelude.{Bool, not, ◌&&◌, ◌||◌}
use Rattle.lk_typed.specs.Env.{Declared, Meaning}
use Rattle.lk_typed.specs.Redeclared.{are_both, object_type, function_type, typedef_type, is_linked_alike, is_whole}
use Rattle.lk_typed.specs.Ty.{is_same, is_redeclarable}

-- both are objects, or both functions, of types that two declarations of one name may have
abbrev pub are_redeclarable_meanings : Meaning → Meaning → Bool
are_redeclarable_meanings old new =
    are_both is_redeclarable (object_type old) (object_type new)
    || are_both is_redeclarable (function_type old) (function_type new)

-- both are names of one type
abbrev pub are_one_typedef : Meaning → Meaning → Bool
are_one_typedef old new = are_both is_same (typedef_type old) (typedef_type new)

-- both declare one entity, of which at most one has a body or an initialiser
abbrev pub are_of_one_entity : Declared → Declared → Bool
are_of_one_entity old new =
    is_linked_alike old.linkage new.linkage && not (is_whole old.defines && is_whole new.defines)
    && are_redeclarable_meanings old.meaning new.meaning
