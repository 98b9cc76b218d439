-- The ordinals of what was read are no more than the tokens.
use Rattle.std.proofs.Common.{◌≡◌, ℕ, ◌+◌, ◌≤◌, List, length, Ok, refl, sym, ap, ◌∙◌, subst, arith}
use Rattle.lk_lex.specs.declared.token.Token.{Token}
use Rattle.lk_tree.specs.declared.statement.Decl.{Decl}
use Rattle.lk_tree.specs.declared.statement.Unit as tree
use Rattle.lk_tree.specs.Numbers.{numbered, list_of, of_decl}
use Rattle.lk_parse_expr.specs.declared.found.Found.{Found}
use Rattle.lk_parse_expr.specs.Input.{Input}
use Rattle.lk_parse_expr.specs.Readers.{left}
use Rattle.lk_parse_expr.specs.Statements.{ReadsUnit}
use Rattle.lk_parse_expr.proofs.Yielding.{Yields, Has}
use Rattle.lk_parse_unit.specs.Reading.{unit}
use Rattle.lk_parse_unit.specs.Parsing.{HasFewOrdinals}
use Rattle.lk_parse_unit.specs.Tree.{start}
use Rattle.lk_parse_unit.proofs.Counting.{count-unit}
use Rattle.lk_parse_unit.proofs.Sound.{unit_has}

pub few_read : (most : ℕ) (source : List ℕ) (tokens : List Token) (list : Found (List Decl)) (rest : Input) → unit most (start source tokens) ≡ Ok (list, rest)
    → HasFewOrdinals (length tokens) (numbered (record { externals = list.tree }))
unfolding left
few_read most source tokens list rest is = let has = subst (Yields (Has most (λ h list rest. ReadsUnit h list (start source tokens)))) is (unit_has most (start source tokens)) in
    let bound : (list_of of_decl list.tree 0).1 ≤ 0 + length tokens = count-unit has.reads 0 in
    record { before = record { externals = list.tree }; numbers = refl; few = omega arith }

-- the same of a tree that was numbered, where the reading began there
pub few_answered : (most : ℕ) (source : List ℕ) (tokens : List Token) (from : Input) (list : Found (List Decl)) (rest : Input) (answer : tree.Unit) → from ≡ start source tokens
    → unit most from ≡ Ok (list, rest) → answer ≡ numbered (record { externals = list.tree }) → HasFewOrdinals (length tokens) answer
few_answered most source tokens from list rest answer begins is same = rw same (few_read most source tokens list rest (ap (unit most) (sym begins) ∙ is))
