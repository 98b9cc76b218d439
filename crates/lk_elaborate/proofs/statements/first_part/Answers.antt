use Rattle.std.proofs.Common.{sym, subst}
use Rattle.lk_typed.specs.declared.statement.TypedFirst.TheVariants as typed_first
use Rattle.lk_elaborator.proofs.Growing.{grows_on}
use Rattle.lk_elaborate.proofs.Making.{by_declaration, by_value}
use Rattle.lk_elaborate.specs.Making.{MakesFirst}
use Rattle.lk_elaborate.proofs.PuttingStatements as put
use Rattle.lk_elaborate.specs.PuttingStatements.{PutsFirst}
use Rattle.lk_elaborate.proofs.statements.first_part.Goals as goal

pub returns-in_ok-value-in-Expr-clause-makes : goal.returns-in_ok-value-in-Expr-clause-makes
returns-in_ok-value-in-Expr-clause-makes c =
    subst (λ first. MakesFirst c.args.walk.now c.value_if_any.new.walk first (typed_first.Expr c.in_ok-value-in-Expr.value)) (sym c.in-Expr.is)
    (by_value c.args.walk.now c.value_if_any.new.walk c.in-Expr.e c.in_ok-value-in-Expr.value c.in_ok-value-in-Expr.ensures.makes)

pub returns-in_ok-value-in-Expr-clause-goes_on : goal.returns-in_ok-value-in-Expr-clause-goes_on
returns-in_ok-value-in-Expr-clause-goes_on c = grows_on c.args.walk.now c.value_if_any.new.walk c.in_ok-value-in-Expr.ensures.grows

pub returns-in_ok-inits-in-Declare-clause-makes : goal.returns-in_ok-inits-in-Declare-clause-makes
returns-in_ok-inits-in-Declare-clause-makes c =
    subst (λ first. MakesFirst c.args.walk.now c.block_declaration.new.walk first (typed_first.Declare c.in_ok-inits-in-Declare.inits)) (sym c.in-Declare.is)
    (by_declaration c.args.walk.now c.block_declaration.new.walk c.in-Declare.node c.in_ok-inits-in-Declare.inits c.in_ok-inits-in-Declare.ensures.makes)

pub returns-in_ok-value-in-Expr-clause-puts : goal.returns-in_ok-value-in-Expr-clause-puts
returns-in_ok-value-in-Expr-clause-puts c =
    subst (PutsFirst c.args.walk.now c.value_if_any.new.walk) (sym c.in-Expr.is) (put.by_value c.args.walk.now c.value_if_any.new.walk c.in-Expr.e c.in_ok-value-in-Expr.ensures.grows)

pub returns-in_ok-inits-in-Declare-clause-puts : goal.returns-in_ok-inits-in-Declare-clause-puts
returns-in_ok-inits-in-Declare-clause-puts c =
    subst (PutsFirst c.args.walk.now c.block_declaration.new.walk) (sym c.in-Declare.is)
    (put.by_declaration c.args.walk.now c.block_declaration.new.walk c.in-Declare.node c.in_ok-inits-in-Declare.ensures.puts)
