-- What the walk over a declarator finds and leaves behind (C99 6.7.5). The codes that the use of the declared
-- name gives are left to what declares it.
use Rattle.std.specs.Prelude.{ℕ, ◌≡◌, ◌++◌, Option, List, [], ◌∷◌}
use Rattle.std.specs.Option.{option_map}
use Rattle.lk_tree.specs.declared.expression.Declarator.{Declarator}
use Rattle.lk_typed.specs.Env.{Env, extend}
use Rattle.lk_typed.specs.Expressions.{declarator_found}
use Rattle.lk_typed.specs.Layers.{type_made}
use Rattle.lk_typed.specs.Meaning.{meaning}
use Rattle.lk_typed.specs.Nodes.{ADeclarator, Left, NameUse, Placed, at}
use Rattle.lk_rules.specs.Keeping.{Kept}
use Rattle.lk_found.specs.Keepings.{Codes, KeepsAll}
use Rattle.lk_found.specs.declared.declarators.Asked.{Asked}
use Rattle.lk_found.specs.declared.declarators.DeclaratorFound.{DeclaratorFound}
use Rattle.lk_found.specs.Declarators.{codes_of_use, left_of, parameters_told, scope_told}
use Rattle.lk_checker.specs.States.{operand_in, IsIn, StandsIn, kept_in}
use Rattle.lk_checker.specs.declared.checker.Checker.{Checker}
use Rattle.lk_check_walk.specs.Walks.{TellsTruth}

-- a declarator is found, and walked but for the use of its name
pub record IsDeclared (at_end : Env) (old new : Checker) (env : Env) (left : Option ℕ) (d : Declarator)
    (asked : Asked) (found : DeclaratorFound) : Type 0 where
  pub type : option_map (meaning new.types) found.ty
      ≡ type_made env asked.may_be_absent (option_map (meaning old.types) left) (declarator_found d)
  pub holds_sizeof : found.holds_sizeof ≡ (declarator_found d).holds_sizeof env
  pub parameters : scope_told new.types found.parameters ≡ parameters_told env d
  pub behind : IsIn new (extend env ((declarator_found d).additions env))
  -- behind the codes of that use the node is walked, whatever is kept between them and behind
  pub keeps : (becomes : NameUse) (others : List Placed) (later : List Codes) (last : Kept) → let given =
      left_of env asked.may_be_absent (option_map (meaning old.types) left) d becomes in
      KeepsAll at_end (kept_in new) others (codes_of_use env given d ++ later) last →
      KeepsAll at_end (kept_in old) (at env (ADeclarator given d) ∷ others) later last
  -- what is recorded of the nodes in it is true, whatever it is given
  pub records : (given : Left) → TellsTruth at_end old new (at env (ADeclarator given d) ∷ [])

abbrev pub FindsDeclarator : Checker → Checker → Option ℕ → Declarator → Asked → DeclaratorFound → Type 0
FindsDeclarator old new left d asked found =
    (at_end env : Env) → StandsIn old (operand_in asked.in_size) env →
    IsDeclared at_end old new env left d asked found
