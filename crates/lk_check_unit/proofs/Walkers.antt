-- What walks over statements leave behind, put together.
use Rattle.std.proofs.Common.{◌≡◌, ◌++◌, List, refl}
use Rattle.lk_typed.specs.Env.{Env, Additions, enter, extend, nothing}
use Rattle.lk_typed.specs.Nodes.{Placed}
use Rattle.lk_typed.specs.StatementRules.{Around}
use Rattle.lk_typed.specs.Statements.{StmtTold, around_behind, only, scoped, then_told}
use Rattle.lk_names.specs.declared.names.Mark.{Mark}
use Rattle.lk_checker.specs.States.{IsSound}
use Rattle.lk_checker.specs.declared.checker.Checker.{Checker}
use Rattle.lk_check_walk.specs.Walks.{Walks}
use Rattle.lk_check_unit.specs.Bodies.{IsKnownResult, IsPlain, IsRound, Passes}
use Rattle.lk_check_unit.specs.Scoping.{Enters, Leaves}
use Rattle.lk_check_unit.specs.declared.body.Body.{Body}
use Rattle.lk_check_unit.proofs.Passing.{passes_behind, passes_end, passes_only, passes_scoped, passes_then}
use Rattle.lk_check_unit.proofs.Standing.{round_behind, round_entered}

-- in each environment these nodes are walked, which tell this
abbrev pub Walker : Checker → Body → Checker → Body → (Env → StmtTold) → (Env → Around → List Placed) → Type 0
Walker c b c1 b1 told nodes = (at_end env : Env) (around : Around) → IsRound c b env around → Passes at_end c c1 b1 env around (told env) (nodes env around)

-- expressions alone
abbrev pub Adder : Checker → Checker → (Env → Additions) → (Env → List Placed) → Type 0
Adder c c1 adds nodes = (at_end env : Env) → IsPlain c env → Walks at_end c c1 env (adds env) (nodes env)

pub adds_only : (c c1 : Checker) (b : Body) (adds : Env → Additions) (nodes : Env → List Placed) → Adder c c1 adds nodes → Walker c b c1 b (λ env. only (adds env)) (λ env around. nodes env)
adds_only c c1 b adds nodes walks at_end env around round = passes_only at_end c c1 b env around (adds env) (nodes env) (walks at_end env round.plain) round.stands

pub ends : (c c1 : Checker) (b b1 : Body) (told : Env → StmtTold) (nodes : Env → Around → List Placed) → Walker c b c1 b1 told nodes → Walker c b c1 b1 (λ env. then_told (told env) (only nothing)) nodes
ends c c1 b b1 told nodes walks at_end env around round = passes_end at_end c c1 b1 env around (told env) (nodes env around) (walks at_end env around round)

pub scopes : (c c1 c2 c3 : Checker) (mark : Mark) (b b1 : Body) (told : Env → StmtTold) (nodes : Env → Around → List Placed) → Enters c c1 mark → Walker c1 b c2 b1 told nodes → Leaves c2 c3 mark →
    Walker c b c3 b1 (scoped told) (λ env around. nodes (enter env) around)
scopes c c1 c2 c3 mark b b1 told nodes enters walks leaves at_end env around round =
    passes_scoped at_end c c1 c2 c3 mark b1 env around told (nodes (enter env) around) round.plain.is_in enters (walks at_end (enter env) around (round_entered c c1 mark b env around enters round)) leaves

-- expressions, and then statements
pub adds_then : (c c1 c2 : Checker) (b b2 : Body) (adds : Env → Additions) (parts : Env → List Placed) (told : Env → StmtTold) (nodes : Env → Around → List Placed) →
    IsSound c → IsKnownResult c b → Adder c c1 adds parts → Walker c1 b c2 b2 told nodes →
    Walker c b c2 b2 (λ env. then_told (only (adds env)) (told (extend env (adds env)))) (λ env around. parts env ++ nodes (extend env (adds env)) around)
adds_then c c1 c2 b b2 adds parts told nodes sound known first second at_end env around round = by (first at_end env round.plain)
  where
    by : Walks at_end c c1 env (adds env) (parts env) →
        Passes at_end c c2 b2 env around (then_told (only (adds env)) (told (extend env (adds env)))) (parts env ++ nodes (extend env (adds env)) around)
    by walks =
        passes_behind at_end c c1 c2 b2 env around (adds env) (told (extend env (adds env))) (parts env) (nodes (extend env (adds env)) around) walks
        (second at_end (extend env (adds env)) around (round_behind at_end c c1 b b env around around (adds env) (parts env) sound known round walks refl round.stands))

-- statements, and then others
pub walks_then : (c c1 c2 : Checker) (b b1 b2 : Body) (x y : Env → StmtTold) (ps qs : Env → Around → List Placed) →
    IsSound c → IsKnownResult c b → Walker c b c1 b1 x ps → b1.returned ≡ b.returned → Walker c1 b1 c2 b2 y qs →
    Walker c b c2 b2 (λ env. then_told (x env) (y (extend env (x env).additions))) (λ env around. ps env around ++ qs (extend env (x env).additions) (around_behind around (x env)))
walks_then c c1 c2 b b1 b2 x y ps qs sound known first same second at_end env around round = by (first at_end env around round)
  where
    by : Passes at_end c c1 b1 env around (x env) (ps env around) →
        Passes at_end c c2 b2 env around (then_told (x env) (y (extend env (x env).additions))) (ps env around ++ qs (extend env (x env).additions) (around_behind around (x env)))
    by passes =
        passes_then at_end c c1 c2 b1 b2 env around (x env) (y (extend env (x env).additions)) (ps env around) (qs (extend env (x env).additions) (around_behind around (x env))) passes
        (second at_end (extend env (x env).additions) (around_behind around (x env))
        (round_behind at_end c c1 b b1 env around (around_behind around (x env)) (x env).additions (ps env around) sound known round passes.walks same passes.stands))
