-- What a parser of whole sources answers.
use Rattle.std.specs.Prelude.{◌≡◌, ◌≤◌, ◌⊎◌, ℕ, List, [], drop}
use Rattle.lk_base.specs.declared.code.Code.TheVariants as code
use Rattle.lk_base.specs.declared.fault.Fault.{Fault}
use Rattle.lk_base.specs.declared.fault.Fault.TheVariants as fault
use Rattle.lk_base.specs.declared.refusal.Refusal.{Refusal}
use Rattle.lk_lex.specs.declared.token.Token.{Token}
use Rattle.lk_tree.specs.declared.statement.Unit as tree
use Rattle.lk_tree.specs.Numbers.{numbered, count}
use Rattle.lk_parse_expr.specs.Input.{spot_of}
use Rattle.lk_parse_unit.specs.Tree.{IsTree}

-- why these tokens have no tree of this depth at most: none of any depth, or only deeper ones. The place is
-- that of the first of the tokens that were left.
pub record IsRefusal (most : ℕ) (source : List ℕ) (tokens : List Token) (refusal : Refusal) : Type 0 where
  pub cause : (refusal.code ≡ code.Syntax) ⊎ (refusal.code ≡ code.TooDeep)
  pub none : (unit : tree.Unit) → IsTree most source tokens unit → ⊥
  pub deeper : refusal.code ≡ code.Syntax → (depth : ℕ) (unit : tree.Unit) →
      IsTree depth source tokens unit → ⊥
  pub place : (n : ℕ) × (refusal.spot ≡ spot_of (drop n tokens))
  pub nameless : refusal.name ≡ []

abbrev pub IsRefused : ℕ → List ℕ → List Token → Fault → Type 0
IsRefused most source tokens (fault.Refused refusal) = IsRefusal most source tokens refusal
IsRefused most source tokens fault.NoMemory = Unit {0}

-- the ordinals of a tree are less than this number
pub record HasFewOrdinals (most : ℕ) (unit : tree.Unit) : Type 0 where
  pub before : tree.Unit
  pub numbers : unit ≡ numbered before
  pub few : count before ≤ most
