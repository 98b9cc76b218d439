-- What statements add, and the cases of a switch (C99 6.8): a fold, in the
-- environments in which the parts stand.
use Rattle.std.specs.Prelude.{ℕ, ◌++◌, Bool, true, false, Option, Some, None, List, [], ◌∷◌, map}
use Rattle.lk_base.specs.declared.kind.Kind.{Kind}
use Rattle.lk_tree.specs.declared.expression.Expr.{Expr}
use Rattle.lk_tree.specs.declared.statement.BlockItem.TheFolds.{fold-Stmt}
use Rattle.lk_tree.specs.declared.statement.BlockItem.TheOpen.{BlockItem-F, StmtForm-F, Stmt-F}
use Rattle.lk_tree.specs.declared.statement.ForFirst.{ForFirst}
use Rattle.lk_tree.specs.declared.statement.ForFirst.TheVariants as first
use Rattle.lk_tree.specs.declared.statement.Stmt.{Stmt}
use Rattle.lk_typed.specs.Env.{Env, Additions, nothing, both, past_scope, extend, enter}
use Rattle.lk_typed.specs.DeclarationRules.{InBlock}
use Rattle.lk_typed.specs.Declarations.{declaration_adds}
use Rattle.lk_typed.specs.Expressions.{expr_adds, expr_constant, expr_type}
use Rattle.lk_typed.specs.Initialisers.{Adder}
use Rattle.lk_typed.specs.StatementRules.{Around, behind_cases}
use Rattle.lk_typed.specs.Ty.{Ty, kind_of}
use Rattle.lk_typed.specs.declared.constant.Constant.{Constant}

abbrev pub optional_adds : Option Expr → Adder
optional_adds None env = nothing
optional_adds (Some e) env = expr_adds e env

-- ---- statements

-- a case that belongs to the switch round it: the number of its node, and what constant its value is,
-- missing where that has no type
pub record Case : Type 0 where
  pub ordinal : ℕ
  pub value : Option Constant

pub record StmtTold : Type 0 where
  pub additions : Additions
  -- the cases that belong to a switch round the statement, and the numbers of its Default nodes
  pub cases : List Case
  pub defaults : List ℕ

-- a statement in its environment
abbrev pub StmtTeller : Type 0
StmtTeller = Env → StmtTold

abbrev pub only : Additions → StmtTold
only additions = record { additions = additions; cases = []; defaults = [] }

abbrev pub then_told : StmtTold → StmtTold → StmtTold
then_told a b =
    record { additions = both a.additions b.additions; cases = a.cases ++ b.cases; defaults = a.defaults ++ b.defaults }

-- two statements, the second behind the first
abbrev pub behind_first : StmtTeller → StmtTeller → StmtTeller
behind_first a b env = let first = a env in then_told first (b (extend env first.additions))

abbrev pub all_in_turn : List StmtTeller → StmtTeller
all_in_turn [] env = only nothing
all_in_turn (a ∷ others) env = behind_first a (all_in_turn others) env

-- what stands in a scope of its own
abbrev pub scoped : StmtTeller → StmtTeller
scoped inner env = let told = inner (enter env) in record told { additions = past_scope told.additions }

abbrev pub adding : Adder → StmtTeller
adding adds env = only (adds env)

abbrev pub or_nothing : Option StmtTeller → StmtTeller
or_nothing None env = only nothing
or_nothing (Some inner) env = inner env

abbrev pub of_first : ForFirst → Adder
of_first (first.Expr e) env = optional_adds e env
of_first (first.Declare node) env = declaration_adds InBlock env node

abbrev pub of_item : BlockItem-F StmtTeller (ℕ → StmtTeller) StmtTeller → StmtTeller
of_item (BlockItem-F.Declare node) = adding (λ env. declaration_adds InBlock env node)
of_item (BlockItem-F.Stmt inner) = inner

-- the cases inside a switch belong to it
abbrev pub without_cases : StmtTeller → StmtTeller
without_cases inner env = only (inner env).additions

abbrev pub of_form : StmtForm-F StmtTeller (ℕ → StmtTeller) StmtTeller → ℕ → StmtTeller
of_form (StmtForm-F.Label name inner) n = inner
of_form (StmtForm-F.Case value inner) n = λ env.
    then_told (record {
      additions = expr_adds value env;
      cases = record { ordinal = n; value = expr_constant value env } ∷ [];
      defaults =
          [];
    }) (inner (extend env (expr_adds value env)))
of_form (StmtForm-F.Default inner) n = λ env. let told = inner env in
    record told { defaults = n ∷ told.defaults }
of_form (StmtForm-F.Block items) n = scoped (all_in_turn items)
of_form (StmtForm-F.Do e) n = adding (optional_adds e)
of_form (StmtForm-F.If e taken other) n =
    scoped (all_in_turn (adding (expr_adds e) ∷ scoped taken ∷ scoped (or_nothing other) ∷ []))
of_form (StmtForm-F.Switch e inner) n =
    scoped (behind_first (adding (expr_adds e)) (scoped (without_cases inner)))
of_form (StmtForm-F.While e inner) n = scoped (behind_first (adding (expr_adds e)) (scoped inner))
of_form (StmtForm-F.Until inner e) n = scoped (behind_first (scoped inner) (adding (expr_adds e)))
of_form (StmtForm-F.For start condition step inner) n =
    scoped (all_in_turn (adding (of_first start) ∷ adding (optional_adds condition) ∷ adding (optional_adds step) ∷ scoped inner ∷ []))
of_form (StmtForm-F.Goto name) n = adding (λ env. nothing)
of_form StmtForm-F.Continue n = adding (λ env. nothing)
of_form StmtForm-F.Break n = adding (λ env. nothing)
of_form (StmtForm-F.Return e) n = adding (optional_adds e)

abbrev pub of_stmt : Stmt-F StmtTeller (ℕ → StmtTeller) StmtTeller → StmtTeller
of_stmt node = node.form node.ordinal

unfoldable pub statement : Stmt → StmtTeller
statement = fold-Stmt StmtTeller (ℕ → StmtTeller) StmtTeller of_item of_form of_stmt

abbrev pub stmt_adds : Stmt → Env → Additions
stmt_adds s env = (statement s env).additions

-- ---- a switch

abbrev pub is_some_number : List ℕ → Bool
is_some_number [] = false
is_some_number (n ∷ others) = true

abbrev pub kind_in : Option Ty → Option Kind
kind_in None = None
kind_in (Some t) = kind_of t

-- the kind of the value of a switch
abbrev pub switch_kind : Expr → Env → Option Kind
switch_kind e env = kind_in (expr_type e env)

-- what stands round the statements behind one
abbrev pub around_behind : Around → StmtTold → Around
around_behind around told = behind_cases around (map (λ c. c.value) told.cases) (is_some_number told.defaults)
