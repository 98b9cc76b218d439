-- Which tree the tokens of a source are (C99 6.5 to 6.9), with the typedef names in scope (C99 6.2.1).
use Rattle.std.specs.Prelude.{◌≡◌, ℕ, ◌≤◌, List}
use Rattle.lk_lex.specs.declared.token.Token.{Token}
use Rattle.lk_tree.specs.declared.statement.Decl.{Decl}
use Rattle.lk_tree.specs.declared.statement.Unit as tree
use Rattle.lk_tree.specs.Numbers.{numbered}
use Rattle.lk_parse_expr.specs.Input.{Input}
use Rattle.lk_parse_expr.specs.Statements.{ReadsUnit}
use Rattle.lk_parse_unit.specs.Predeclared.{predeclared}

-- the first of the tokens, with the predeclared types in scope
abbrev pub start : List ℕ → List Token → Input
start source tokens = record { source = source; tokens = tokens; names = predeclared }

-- these tokens are this tree, which is at most so deep, with the ordinals of a walk
pub record IsTree (most : ℕ) (source : List ℕ) (tokens : List Token) (unit : tree.Unit) : Type 0 where
  pub depth : ℕ
  pub externals : List Decl
  pub reads : ReadsUnit depth externals (start source tokens)
  pub within : depth ≤ most
  pub ordinals : unit ≡ numbered (record { externals = externals })

-- tokens are one tree at most, of whatever depth
abbrev pub HasOneTree : Type 0
HasOneTree = (m n : ℕ) (source : List ℕ) (tokens : List Token) (a b : tree.Unit) → IsTree m source tokens a →
    IsTree n source tokens b → a ≡ b
