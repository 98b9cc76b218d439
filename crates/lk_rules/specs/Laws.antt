-- Laws of the rules of C: what the fold over expressions finds, and what is kept while nodes are walked. Each
-- is the contract of a function.
use Rattle.std.specs.Prelude.{◌≡◌, ◌↔◌, ◌⊎◌, ◌++◌, ◌≤◌, Bool, true, Option, None, List, [], ◌∷◌, MatchOption, if◌then◌else◌}
use Rattle.lk_base.specs.Code.{number_of}
use Rattle.lk_tree.specs.declared.expression.Expr.{Expr}
use Rattle.lk_tree.specs.declared.expression.ExprForm.{out-ExprForm}
use Rattle.lk_tree.specs.declared.expression.TypeName.{TypeName}
use Rattle.lk_tree.specs.declared.statement.Unit.{Unit}
use Rattle.lk_typed.specs.Env.{Env, Name}
use Rattle.lk_typed.specs.ExprRules.{judged}
use Rattle.lk_typed.specs.Expressions.{expression, expr_breaches, named, type_found}
use Rattle.lk_typed.specs.Faults.{Breach, Fault}
use Rattle.lk_typed.specs.NodeParts.{parts}
use Rattle.lk_typed.specs.NodeRules.{breaches, hiding, mark_of}
use Rattle.lk_typed.specs.Nodes.{Node, AnExpression, Placed, at}
use Rattle.lk_typed.specs.Stands.{IsIn, Mark}
use Rattle.lk_typed.specs.Typing.{Named}
use Rattle.lk_typed.specs.Units as units
use Rattle.lk_typed.specs.Units.{IsFaultOf, IsFirstFault, externals}
use Rattle.lk_rules.specs.Keeping.{Kept, KeepsBoth, KeepsCodes, KeepsNodes, IsBroken, breaches_told, keep, none_kept, seen_by, watched}

-- what is found of a type name
abbrev pub name_found : TypeName → Env → Named
name_found type env = named (type_found type) env

-- what is found of an expression is what the rule of its form says of its parts, each in its own environment
abbrev pub ExpressionsFollowTheirRules : Type 0
ExpressionsFollowTheirRules =
    (e : Expr) (env : Env) →
    expression e env ≡ judged expression name_found env e.ordinal (out-ExprForm e.form)

-- the codes that hold at an expression are those of its form's rule, which says
-- nothing where a part has no type
abbrev pub ExpressionsAreAsked : Type 0
ExpressionsAreAsked =
    (at_end env : Env) (e : Expr) → breaches at_end env (AnExpression e) ≡ expr_breaches e env

-- ---- what is kept while nodes are walked

-- no node: nothing changes
abbrev pub NothingIsKept : Type 0
NothingIsKept = (at_end : Env) (kept : Kept) → KeepsNodes at_end kept [] kept

-- nodes, then others
abbrev pub NodesAreKeptInTurn : Type 0
NodesAreKeptInTurn =
    (at_end : Env) (old middle new : Kept) (ps qs : List Placed) → KeepsNodes at_end old ps middle →
    KeepsNodes at_end middle qs new → KeepsNodes at_end old (ps ++ qs) new

-- codes of one node in two turns
abbrev pub CodesAreKeptInTurn : Type 0
CodesAreKeptInTurn = (old middle new : Kept) (mark : Mark) (bs cs : List Breach) →
    KeepsCodes old mark bs middle → KeepsCodes middle mark cs new → KeepsCodes old mark (bs ++ cs) new

-- keeping the least code of some, with its name, keeps them all
abbrev pub TheLeastCodeIsEnough : Type 0
TheLeastCodeIsEnough =
    (old new : Kept) (mark : Mark) (bs : List Breach) (b : Breach) → IsIn b bs →
    ((c : Breach) → IsIn c bs → number_of b.code ≤ number_of c.code) →
    KeepsCodes old mark (b ∷ []) new → KeepsCodes old mark bs new

-- a code that is kept by value
abbrev pub TheLesserIsKept : Type 0
TheLesserIsKept = (old : Kept) (mark : Mark) (broken : Option Breach) →
    KeepsCodes old mark (breaches_told broken) (keep old mark broken)

-- a node at which nothing is hidden: the nodes in it, then its own codes
abbrev pub CodesAreKeptBehindParts : Type 0
CodesAreKeptBehindParts =
    (at_end env : Env) (node : Node) (old middle new : Kept) → hiding at_end env node ≡ [] →
    KeepsNodes at_end old (parts at_end env node) middle →
    KeepsCodes middle (mark_of node) (breaches at_end env node) new →
    KeepsNodes at_end old (at env node ∷ []) new

-- a node whose codes a fault in it may hide: the nodes in it, then its own codes where there is none
abbrev pub HiddenCodesAreLeftOut : Type 0
HiddenCodesAreLeftOut =
    (at_end env : Env) (node : Node) (old middle new : Kept) (hidden : Bool) →
    ((hidden ≡ true) ↔ IsBroken at_end (hiding at_end env node)) →
    KeepsNodes at_end old (parts at_end env node) middle →
    KeepsCodes middle (mark_of node) (if hidden then [] else breaches at_end env node) new →
    KeepsNodes at_end old (at env node ∷ []) new

-- a walk over nodes that begins to watch for codes tells whether one of them is broken,
-- and keeps as one that doesn't
abbrev pub AWatchTellsFaults : Type 0
AWatchTellsFaults =
    (at_end : Env) (old new : Kept) (ps : List Placed) → KeepsNodes at_end (watched old) ps new →
    ((new.is_broken ≡ true) ↔ IsBroken at_end ps) × KeepsNodes at_end old ps (seen_by old new)

-- ---- a node whose codes are kept before the nodes in it, or between them

abbrev pub NothingIsKeptOfBoth : Type 0
NothingIsKeptOfBoth = (at_end : Env) (kept : Kept) (mark : Mark) → KeepsBoth at_end kept [] mark [] kept

abbrev pub NodesAreKeptFurther : Type 0
NodesAreKeptFurther =
    (at_end : Env) (old middle new : Kept) (mark : Mark) (ps qs : List Placed) (bs : List Breach) →
    KeepsBoth at_end old ps mark bs middle → KeepsNodes at_end middle qs new →
    KeepsBoth at_end old (ps ++ qs) mark bs new

abbrev pub CodesAreKeptFurther : Type 0
CodesAreKeptFurther =
    (at_end : Env) (old middle new : Kept) (mark : Mark) (ps : List Placed) (bs cs : List Breach) →
    KeepsBoth at_end old ps mark bs middle → KeepsCodes middle mark cs new →
    KeepsBoth at_end old ps mark (bs ++ cs) new

-- its codes, then the nodes in it
abbrev pub CodesAreKeptBeforeParts : Type 0
CodesAreKeptBeforeParts =
    (at_end : Env) (old middle new : Kept) (mark : Mark) (bs : List Breach) (ps : List Placed) →
    KeepsCodes old mark bs middle → KeepsNodes at_end middle ps new → KeepsBoth at_end old ps mark bs new

-- all nodes in it, and its codes in any order: the node is walked
abbrev pub BothAreAllOfANode : Type 0
BothAreAllOfANode =
    (at_end env : Env) (node : Node) (old new : Kept) (bs : List Breach) → hiding at_end env node ≡ [] →
    ((b : Breach) → (IsIn b bs ↔ IsIn b (breaches at_end env node))) →
    KeepsBoth at_end old (parts at_end env node) (mark_of node) bs new →
    KeepsNodes at_end old (at env node ∷ []) new

-- ---- whether nodes are broken

abbrev pub NodesAreBrokenInTurn : Type 0
NodesAreBrokenInTurn = (at_end : Env) (ps qs : List Placed) →
    IsBroken at_end (ps ++ qs) ↔ (IsBroken at_end ps ⊎ IsBroken at_end qs)

-- ---- a whole source

-- behind all external declarations the first fault is kept, or there is none
abbrev pub TheFirstFaultIsKept : Type 0
TheFirstFaultIsKept =
    (externs : List Name) (unit : Unit) (new : Kept) →
    KeepsNodes (units.at_end externs unit) none_kept (externals externs unit) new →
    MatchOption new.least ((f : Fault) → IsFaultOf externs unit f → ⊥) (λ f. IsFirstFault externs unit f)
