-- Which name the codes of a statement tell.
use Rattle.std.proofs.Common.{◌≡◌, ◌++◌, ℕ, Bool, true, false, List, [], ◌∷◌, Option, Some, None, map, inl, inr, ap}
use Rattle.std.specs.Prelude.{◌||◌, not, if◌then◌else◌}
use Rattle.lk_base.specs.declared.code.Code.{Code}
use Rattle.lk_base.specs.declared.code.Code.TheVariants.{Mismatch, NotConstant, BadLabel, MutexValue}
use Rattle.lk_tree.specs.declared.expression.Expr.{Expr}
use Rattle.lk_tree.specs.declared.statement.BlockItem.TheOpen.{StmtForm-F}
use Rattle.lk_tree.specs.declared.statement.BlockItem.{BlockItem}
use Rattle.lk_tree.specs.declared.statement.ForFirst.{ForFirst}
use Rattle.lk_tree.specs.declared.statement.ForFirst.TheVariants as first
use Rattle.lk_tree.specs.declared.statement.Stmt.{Stmt}
use Rattle.lk_tree.specs.declared.statement.StmtForm.{StmtForm}
use Rattle.lk_typed.specs.Assignments.{given_codes}
use Rattle.lk_typed.specs.DeclaratorRules.{of_type, unless}
use Rattle.lk_typed.specs.Env.{Env, converted_to, enter, extend}
use Rattle.lk_typed.specs.Expressions.{expr_constant, expr_conversion, expr_type, expression}
use Rattle.lk_typed.specs.Faults.{Breach, breach, breach_of}
use Rattle.lk_typed.specs.Labels.{has_label, has_label_before}
use Rattle.lk_typed.specs.NodeRules.{are_typed, converted_rules, first_rules, for_rules, optional_rules, returned, stmt_rules}
use Rattle.lk_typed.specs.Parts.{added_by, behind_inner, first_adds, statement_parts}
use Rattle.lk_typed.specs.Stands.{IsIn}
use Rattle.lk_typed.specs.StatementRules.{Around, Switch, condition_rules, constant_rules, default_in, dropped_rules, in_switch, is_case_again, place_rules, return_rules, switch_rules}
use Rattle.lk_typed.specs.Statics.{is_known}
use Rattle.lk_typed.specs.Ty.{Ty, is_integer, is_lock, is_pointer, is_void}
use Rattle.lk_typed.specs.Typing.{Typing}
use Rattle.lk_typed.specs.declared.constant.Constant.{Constant}
use Rattle.lk_check_unit.specs.Bodies.{form_breaches, name_told}
use Rattle.lk_check_unit.proofs.Codes.{TellName}

pub none_tell : (name : List ℕ) → TellName name []
none_tell name b there = absurd there

pub one_tells : (code : Code) (name : List ℕ) → TellName name (breach_of code name ∷ [])
one_tells code name b (inl same) = ap (λ (x : Breach). x.name) same
one_tells code name b (inr nowhere) = absurd nowhere

pub if_tell : (name : List ℕ) (test : Bool) (bs cs : List Breach) → TellName name bs → TellName name cs → TellName name (if test then bs else cs)
if_tell name true bs cs p q = p
if_tell name false bs cs p q = q

pub both_tell : (name : List ℕ) (bs cs : List Breach) → TellName name bs → TellName name cs → TellName name (bs ++ cs)
both_tell name [] cs p q = q
both_tell name (b ∷ bs) cs p q = by (both_tell name bs cs (λ d there. p d (inr there)) q)
  where
    by : TellName name (bs ++ cs) → (c : Breach) → IsIn c (b ∷ (bs ++ cs)) → c.name ≡ name
    by rest c (inl same) = p c (inl same)
    by rest c (inr behind) = rest c behind

pub unless_tells : (holds : Bool) (code : Code) → TellName [] (unless holds code)
unless_tells true code = none_tell []
unless_tells false code = one_tells code []

pub of_type_tells : (value : Option Ty) (rule : Ty → List Breach) → ((t : Ty) → TellName [] (rule t)) → TellName [] (of_type value rule)
of_type_tells None rule each = none_tell []
of_type_tells (Some t) rule each = each t

pub codes_tell : (codes : List Code) → TellName [] (map breach codes)
codes_tell [] b there = absurd there
codes_tell (code ∷ others) b (inl same) = ap (λ (x : Breach). x.name) same
codes_tell (code ∷ others) b (inr behind) = codes_tell others b behind

-- ---- rules of statements

condition_tells : (value : Option Ty) → TellName [] (condition_rules value)
condition_tells value = of_type_tells value _ (λ t. if_tell [] (is_lock t) (breach MutexValue ∷ []) (unless (is_integer t || is_pointer t) Mismatch) (one_tells MutexValue []) (unless_tells (is_integer t || is_pointer t) Mismatch))

switch_tells : (value : Option Ty) → TellName [] (switch_rules value)
switch_tells value = of_type_tells value _ (λ t. if_tell [] (is_lock t) (breach MutexValue ∷ []) (unless (is_integer t) Mismatch) (one_tells MutexValue []) (unless_tells (is_integer t) Mismatch))

dropped_tells : (value : Option Ty) → TellName [] (dropped_rules value)
dropped_tells value = of_type_tells value _ (λ t. unless_tells (not (is_lock t)) MutexValue)

optional_tells : (env : Env) (rule : Option Ty → List Breach) → ((value : Option Ty) → TellName [] (rule value)) → (e : Option Expr) → TellName [] (optional_rules env rule e)
optional_tells env rule each None = none_tell []
optional_tells env rule each (Some e) = each (expr_type e env)

constant_tells : (value : Option Constant) → TellName [] (constant_rules value)
constant_tells None = none_tell []
constant_tells (Some c) = unless_tells (is_known c) NotConstant

place_tells : (s : Option Switch) (value : Option Constant) → TellName [] (place_rules s value)
place_tells None value = one_tells BadLabel []
place_tells (Some s) value = unless_tells (not (is_case_again s value)) BadLabel

default_tells : (s : Option Switch) → TellName [] (default_in s)
default_tells None = one_tells BadLabel []
default_tells (Some s) = unless_tells (not s.has_default) BadLabel

conversion_tells : (e : Expr) (env : Env) (target : Ty) → TellName [] (expr_conversion e env target)
conversion_tells e env target = by (expression e (converted_to env target)).typing
  where
    conversion_of : Option Typing → List Breach
    conversion_of None = []
    conversion_of (Some typing) = map breach (given_codes target typing)

    by : (x : Option Typing) → TellName [] (conversion_of x)
    by None = none_tell []
    by (Some typing) = codes_tell (given_codes target typing)

returned_tells : (result : Option Ty) (env : Env) (e : Option Expr) → TellName [] (return_rules result (returned env e))
returned_tells result env None = of_type_tells result _ (λ t. unless_tells (is_void t) Mismatch)
returned_tells result env (Some e) =
    of_type_tells result _ (λ t. if_tell [] (is_void t) (breach Mismatch ∷ []) (converted_rules env e env.result) (one_tells Mismatch []) (by env.result))
  where
    by : (r : Option Ty) → TellName [] (converted_rules env e r)
    by None = none_tell []
    by (Some t) = conversion_tells e env t

first_tells : (env : Env) (start : ForFirst) → TellName [] (first_rules env start)
first_tells env (first.Expr e) = optional_tells env dropped_rules dropped_tells e
first_tells env (first.Declare node) = none_tell []

for_tells : (env : Env) (start : ForFirst) (condition step : Option Expr) → TellName [] (for_rules env start condition step)
for_tells env start condition step =
    let behind_first = extend env (first_adds start env) in
    let behind_condition = extend behind_first (added_by condition behind_first) in
    both_tell [] (first_rules env start ++ optional_rules behind_first condition_rules condition) (optional_rules behind_condition dropped_rules step)
    (both_tell [] (first_rules env start) (optional_rules behind_first condition_rules condition) (first_tells env start) (optional_tells behind_first condition_rules condition_tells condition))
    (optional_tells behind_condition dropped_rules dropped_tells step)

form_tells : (around : Around) (env : Env) (n : ℕ) (f : StmtForm-F BlockItem StmtForm Stmt) → TellName (name_told f) (stmt_rules around env n f)
form_tells around env n (StmtForm-F.Label name inner) = if_tell name (has_label_before around.labels name n) (breach_of BadLabel name ∷ []) [] (one_tells BadLabel name) (none_tell name)
form_tells around env n (StmtForm-F.Case value inner) =
    both_tell [] (constant_rules (expr_constant value env)) (place_rules around.switch (expr_constant value env)) (constant_tells (expr_constant value env)) (place_tells around.switch (expr_constant value env))
form_tells around env n (StmtForm-F.Default inner) = default_tells around.switch
form_tells around env n (StmtForm-F.Block items) = none_tell []
form_tells around env n (StmtForm-F.Do e) = optional_tells env dropped_rules dropped_tells e
form_tells around env n (StmtForm-F.If e taken other) = condition_tells (expr_type e (enter env))
form_tells around env n (StmtForm-F.Switch e inner) = switch_tells (expr_type e (enter env))
form_tells around env n (StmtForm-F.While e inner) = condition_tells (expr_type e (enter env))
form_tells around env n (StmtForm-F.Until inner e) = condition_tells (expr_type e (behind_inner inner (enter env)))
form_tells around env n (StmtForm-F.For start condition step inner) = for_tells (enter env) start condition step
form_tells around env n (StmtForm-F.Goto name) = if_tell name (has_label around.labels name) [] (breach_of BadLabel name ∷ []) (none_tell name) (one_tells BadLabel name)
form_tells around env n StmtForm-F.Continue = unless_tells around.in_loop BadLabel
form_tells around env n StmtForm-F.Break = unless_tells (around.in_loop || in_switch around) BadLabel
form_tells around env n (StmtForm-F.Return e) = returned_tells env.result env e

pub breaches_tell : (around : Around) (env : Env) (n : ℕ) (f : StmtForm-F BlockItem StmtForm Stmt) → TellName (name_told f) (form_breaches around env n f)
breaches_tell around env n f = if_tell (name_told f) (are_typed (statement_parts around env f)) (stmt_rules around env n f) [] (form_tells around env n f) (none_tell (name_told f))
