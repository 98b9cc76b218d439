-- Structs that an object with an initialiser holds have all their members where the initialiser
-- stands (C99 6.7, 7; 6.7.8, 3).
use Rattle.std.specs.Prelude.{ℕ, ◌≡◌, Some, List, slice_get}
use Rattle.lk_tree.specs.declared.declaration.Init.{Init}
use Rattle.lk_tree.specs.declared.statement.Unit.{Unit}
use Rattle.lk_typed.specs.Entities.{StandsIn}
use Rattle.lk_typed.specs.Env.{Env, Name}
use Rattle.lk_typed.specs.InitialiserRules.{Object}
use Rattle.lk_typed.specs.MemberRules.{fields_in}
use Rattle.lk_typed.specs.Nodes.{AnInitialiser, Node}
use Rattle.lk_typed.specs.Ty.{Ty, Array, Struct}
use Rattle.lk_typed.specs.Units.{IsNode, at_end}

-- an object of the type holds the struct with the number s
pub data Holds (fields : ℕ → List Ty) (s : ℕ) : Ty → Type 0 where
  itself : Holds fields s (Struct s)
  in_element : {t : Ty} {n : ℕ} → Holds fields s t → Holds fields s (Array t n)
  in_member : {r : ℕ} {t : Ty} (k : ℕ) → slice_get (fields r) k ≡ Some t → Holds fields s t →
      Holds fields s (Struct r)

-- in and behind an initialiser the structs that its object holds have the members that they
-- have at the end of the source
abbrev pub AreSettled : List Name → Unit → Type 0
AreSettled externs unit =
    (env env' : Env) (object : Object) (init : Init) (node : Node) (s : ℕ) →
    IsNode externs unit env (AnInitialiser (Some object) init) → Holds (fields_in env) s object.type →
    StandsIn externs unit env (AnInitialiser (Some object) init) env' node →
    fields_in env' s ≡ fields_in (at_end externs unit) s
