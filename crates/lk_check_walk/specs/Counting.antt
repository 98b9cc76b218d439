-- What the walk over enumerators leaves behind and finds (C99 6.7.2.2).
use Rattle.std.specs.Prelude.{◌≡◌, Bool, Option, List, [], ◌∷◌, map, ℤ}
use Rattle.lk_tree.specs.declared.expression.Item.{Item}
use Rattle.lk_typed.specs.Env.{Env}
use Rattle.lk_typed.specs.Expressions.{item_found}
use Rattle.lk_typed.specs.Nodes.{AnItem, at}
use Rattle.lk_typed.specs.Parts.{items_parts}
use Rattle.lk_typed.specs.Told.{items_hold_sizeof, items_in_turn}
use Rattle.lk_checker.specs.States.{operand_in, StandsIn}
use Rattle.lk_checker.specs.declared.checker.Checker.{Checker}
use Rattle.lk_checker.specs.declared.enumerators.ItemFound.{ItemFound}
use Rattle.lk_check_walk.specs.Walks.{Walks}

-- an enumerator behind one of this value
pub record IsItem (at_end : Env) (old new : Checker) (env : Env) (before : Option ℤ) (i : Item)
    (found : ItemFound) : Type 0 where
  pub walks : Walks at_end old new env (item_found i env before).additions (at env (AnItem before i) ∷ [])
  pub value : found.value ≡ (item_found i env before).value
  pub holds_sizeof : found.holds_sizeof ≡ (item_found i env before).holds_sizeof

abbrev pub Counts : Checker → Checker → Bool → Option ℤ → Item → ItemFound → Type 0
Counts old new in_size before i found = (at_end env : Env) → StandsIn old (operand_in in_size) env →
    IsItem at_end old new env before i found

-- enumerators one after another, and whether a sizeof stands in them
pub record AreItems (at_end : Env) (old new : Checker) (env : Env) (before : Option ℤ) (is : List Item)
    (holds : Bool) : Type 0 where
  pub walks : Walks at_end old new env (items_in_turn (map item_found is) env before)
      (items_parts env before is)
  pub holds_sizeof : holds ≡ items_hold_sizeof (map item_found is) env before

abbrev pub CountsAll : Checker → Checker → Bool → Option ℤ → List Item → Bool → Type 0
CountsAll old new in_size before is holds = (at_end env : Env) → StandsIn old (operand_in in_size) env →
    AreItems at_end old new env before is holds
