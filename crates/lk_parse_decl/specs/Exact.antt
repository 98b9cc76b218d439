-- What the readers answer, by the grammar: each initialiser and each declaration is read where it is not too
-- deep, and what is read is one.
use Rattle.std.specs.Prelude.{ℕ}
use Rattle.lk_tree.specs.declared.declaration.Declare.{Declare}
use Rattle.lk_tree.specs.declared.declaration.Init.{Init}
use Rattle.lk_parse_expr.specs.Input.{Input, peek}
use Rattle.lk_parse_expr.specs.Declarations.{ReadsInit, ReadsDeclare}
use Rattle.lk_parse_expr.specs.Exact.{EndsExpr, IsRead, IsSound}
use Rattle.lk_parse_decl.specs.Reading.{initialiser, declaration}

-- an initialiser stands before a token that goes on with no assignment expression
abbrev pub InitialisersAreRead : Type 0
InitialisersAreRead = (m depth : ℕ) (tree : Init) (from rest : Input) → ReadsInit depth tree from rest →
    EndsExpr 1 (peek rest) → IsRead m depth tree rest (initialiser m from)

abbrev pub OnlyInitialisersAreRead : Type 0
OnlyInitialisersAreRead =
    (m : ℕ) (from : Input) →
    IsSound m (λ depth tree rest. ReadsInit depth tree from rest) (initialiser m from)

abbrev pub DeclarationsAreRead : Type 0
DeclarationsAreRead = (m depth : ℕ) (tree : Declare) (from rest : Input) → ReadsDeclare depth tree from rest →
    IsRead m depth tree rest (declaration m from)

abbrev pub OnlyDeclarationsAreRead : Type 0
OnlyDeclarationsAreRead =
    (m : ℕ) (from : Input) →
    IsSound m (λ depth tree rest. ReadsDeclare depth tree from rest) (declaration m from)
