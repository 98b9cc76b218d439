-- Where each place in a source has a property, so has the place of each node of it, and that of each fault.
use Rattle.std.proofs.Common.{inl, inr, List, [], ◌∷◌, refl, sym, subst}
use Rattle.std.specs.List.{AllByRecursion}
use Rattle.lk_base.specs.declared.spot.Spot.{Spot}
use Rattle.lk_tree.specs.declared.declaration.Entry.{Entry}
use Rattle.lk_tree.specs.declared.declaration.Init.TheOpen.{Init-F}
use Rattle.lk_tree.specs.declared.declaration.Init.{Init}
use Rattle.lk_tree.specs.declared.declaration.InitList.{InitList}
use Rattle.lk_tree.specs.declared.expression.Expr.{Expr}
use Rattle.lk_tree.specs.declared.statement.Decl.{Decl}
use Rattle.lk_tree.specs.declared.statement.Stmt.{Stmt}
use Rattle.lk_tree.specs.declared.statement.Unit.{Unit}
use Rattle.lk_typed.specs.Env.{Env, Name}
use Rattle.lk_typed.specs.Faults.{Fault}
use Rattle.lk_typed.specs.NodeParts.{parts, externals_in_turn}
use Rattle.lk_typed.specs.NodeRules.{breaches, decl_mark, hiding, init_mark, mark_of}
use Rattle.lk_typed.specs.Nodes.{Node, AnExternal, ADeclaration, ADefinition, AMember, AnItem, AParameter, ATypeName, ADeclarator, AnInitialiser, AStatement, AnExpression}
use Rattle.lk_typed.specs.Stands.{IsIn, Stands}
use Rattle.lk_typed.specs.Stands.Stands.{here, inside}
use Rattle.lk_typed.specs.Units as units
use Rattle.lk_typed.specs.Units.{IsNode, IsFaultOf}
use Rattle.lk_typed.specs.Units.IsFaultOf.{fault_of}
use Rattle.lk_typed.specs.Units.IsNode.{node_of}
use Rattle.lk_spots.specs.NodePlaces.{NodeSpots}
use Rattle.lk_spots.specs.Places as s
use Rattle.lk_spots.specs.Places.{Each, ExprSpots}
use Rattle.lk_spots.specs.StatementPlaces as t
use Rattle.lk_spots.specs.StatementPlaces.{InitFormSpots, StmtSpots, DeclSpots, UnitSpots}
use Rattle.lk_spots.proofs.Parts.{PartSpots, PartsSpots, in_node}

among : {A : Type 0} (Q : A → Type 0) (xs : List A) (x : A) → IsIn x xs → AllByRecursion Q xs → Q x
among Q [] x none all = absurd none
among Q (y ∷ ys) x (inl is) all = subst Q (sym is) all.0
among Q (y ∷ ys) x (inr is) all = among Q ys x is all.1

module _ (P : Spot → Type 0) where
  -- ---- the place of a node

  expr_place : {one : Expr} → ExprSpots P one → P one.spot
  expr_place (s.expr place form) = place

  init_place : {x : Init-F Init Entry InitList} → InitFormSpots P x → P (init_mark x).spot
  init_place (t.value value) = expr_place value
  init_place (t.list place entries) = place

  pub stmt_place : {one : Stmt} → StmtSpots P one → P one.spot
  stmt_place (t.stmt place form) = place

  decl_place : {one : Decl} → DeclSpots P one → P (decl_mark one).spot
  decl_place (t.function spots) = spots.spot
  decl_place (t.declare spots) = spots.spot
  decl_place (t.empty place) = place

  pub node_place : (node : Node) → NodeSpots P node → P (mark_of node).spot
  node_place (AnExternal d) spots = decl_place spots
  node_place (ADeclaration scope node) spots = spots.spot
  node_place (ADefinition node) spots = spots.spot
  node_place (AMember before m) (s.member_one place specifiers fields) = place
  node_place (AnItem before i) (s.item place value) = place
  node_place (AParameter lone p) (s.parameter place specifiers inner) = place
  node_place (ATypeName n) (s.type_name place specifiers inner) = place
  node_place (ADeclarator left d) (s.declarator place form) = place
  node_place (AnInitialiser object init) (t.init form) = init_place form
  node_place (AStatement around one) spots = stmt_place spots
  node_place (AnExpression e) spots = expr_place spots

  -- ---- all nodes of a source

  pub in_turn : (ds : List Decl) → Each (DeclSpots P) ds → (env : Env) → PartsSpots P (externals_in_turn env ds)
  in_turn [] each env = tt
  in_turn (d ∷ ds) each env = (each d (inl refl), in_turn ds (λ a is. each a (inr is)) _)

  pub standing : (at_end : Env) {env env' : Env} {node node' : Node} → Stands (parts at_end) (breaches at_end) (hiding at_end) mark_of env node env' node' → NodeSpots P node → NodeSpots P node'
  standing at_end here spots = spots
  standing at_end (inside {env = env} {node = node} part is inner) spots = standing at_end inner (among (PartSpots P) _ part is (in_node P at_end env node spots))

  pub node_spots : (externs : List Name) (unit : Unit) {env : Env} {node : Node} → UnitSpots P unit → IsNode externs unit env node → NodeSpots P node
  node_spots externs unit spots (node_of external is inner) =
      standing (units.at_end externs unit) inner (among (PartSpots P) _ external is (in_turn unit.externals spots (units.around externs unit)))

  pub fault_place : (externs : List Name) (unit : Unit) (f : Fault) → UnitSpots P unit → IsFaultOf externs unit f → P f.spot
  fault_place externs unit f spots (fault_of {node = node} is holds) = node_place node (node_spots externs unit spots is)
