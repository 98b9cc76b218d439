-- Statements whose parts are walked, form by form.
use Rattle.std.proofs.Common.{◌∙◌, ◌++◌, List, subst}
use Rattle.lk_typed.specs.Env.{Env, Additions, enter, extend, nothing}
use Rattle.lk_typed.specs.Nodes.{Placed}
use Rattle.lk_typed.specs.StatementRules.{Around}
use Rattle.lk_typed.specs.Statements.{StmtTeller, StmtTold, around_behind, only, scoped, then_told}
use Rattle.lk_names.specs.declared.names.Mark.{Mark}
use Rattle.lk_check_decl.specs.Breaches.{told}
use Rattle.lk_checker.specs.States.{IsIn}
use Rattle.lk_checker.specs.declared.checker.Checker.{Checker}
use Rattle.lk_check_walk.proofs.Walking.{then_walks}
use Rattle.lk_check_walk.specs.Walks.{Walks}
use Rattle.lk_check_unit.specs.Bodies.{IsAround, Passes}
use Rattle.lk_check_unit.specs.Scoping.{Enters, Leaves}
use Rattle.lk_check_unit.specs.declared.body.Body.{Body}
use Rattle.lk_check_unit.proofs.Arounds.{behind_both, behind_only}
use Rattle.lk_check_unit.proofs.Walking.{walks_end, walks_scoped}

-- ---- passes in turn, and in scopes

module _ (at_end : Env) where
  pub passes_scoped : (old entered inner new : Checker) (mark : Mark) (behind : Body) (env : Env) (around : Around) (told : StmtTeller) (nodes : List Placed) → IsIn old env →
      Enters old entered mark → Passes at_end entered inner behind (enter env) around (told (enter env)) nodes → Leaves inner new mark →
      Passes at_end old new behind env around (scoped told env) nodes
  passes_scoped old entered inner new mark behind env around told nodes is_in enters passes leaves =
      record {
        walks = walks_scoped at_end old entered inner new mark env (told (enter env)).additions nodes is_in enters passes.walks leaves;
        stands = passes.stands;
      }

  -- an expression, and then a statement
  pub passes_behind : (a b c : Checker) (behind : Body) (env : Env) (around : Around) (added : Additions) (told : StmtTold) (ps qs : List Placed) →
      Walks at_end a b env added ps → Passes at_end b c behind (extend env added) around told qs →
      Passes at_end a c behind env around (then_told (only added) told) (ps ++ qs)
  passes_behind a b c behind env around added told ps qs walks passes =
      record {
        walks = then_walks at_end a b c env added told.additions ps qs walks passes.walks;
        stands = passes.stands;
      }

  -- a statement, and then another one
  pub passes_then : (a b c : Checker) (middle behind : Body) (env : Env) (around : Around) (x y : StmtTold) (ps qs : List Placed) →
      Passes at_end a b middle env around x ps → Passes at_end b c behind (extend env x.additions) (around_behind around x) y qs →
      Passes at_end a c behind env around (then_told x y) (ps ++ qs)
  passes_then a b c middle behind env around x y ps qs p q =
      record {
        walks = then_walks at_end a b c env x.additions y.additions ps qs p.walks q.walks;
        stands = subst (IsAround behind) (behind_both around x y) q.stands;
      }

  -- nothing behind it
  pub passes_end : (a b : Checker) (behind : Body) (env : Env) (around : Around) (x : StmtTold) (ps : List Placed) →
      Passes at_end a b behind env around x ps → Passes at_end a b behind env around (then_told x (only nothing)) ps
  passes_end a b behind env around x ps p =
      record {
        walks = walks_end at_end a b env x.additions ps p.walks;
        stands = subst (IsAround behind) (behind_only (around_behind around x) nothing ∙ behind_both around x (only nothing)) p.stands;
      }

  -- an expression alone
  pub passes_only : (a b : Checker) (body : Body) (env : Env) (around : Around) (added : Additions) (ps : List Placed) →
      Walks at_end a b env added ps → IsAround body around → Passes at_end a b body env around (only added) ps
  passes_only a b body env around added ps walks stands = record { walks = walks; stands = subst (IsAround body) (behind_only around added) stands }
