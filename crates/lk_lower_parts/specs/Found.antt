-- What the nodes of a source have of their own, as it is found.
use Rattle.std.specs.Prelude.{◌≡◌, ◌++◌, ℕ, List, map}
use Rattle.lk_lower_expr.specs.Names.{Node}
use Rattle.lk_lower_expr.specs.Owned.{Owned, text, allocation, hidden, owned, in_form, in_item, in_stmt, of_callee, of_expr, of_form, of_library}
use Rattle.lk_lower_parts.specs.declared.owned.Owned.{Owned as FoundOwned}
use Rattle.lk_lower_parts.specs.declared.owned.Owned.TheVariants as found
use Rattle.lk_lower_parts.specs.declared.owned.OwnedNode.{OwnedNode}
use Rattle.lk_lower_parts.specs.declared.owned.Finding.{Finding}
use Rattle.lk_typed.specs.declared.expression.Callee.{Callee}
use Rattle.lk_typed.specs.declared.expression.Callee.TheFolds.{fold-Callee, fold-LibraryCall, fold-TypedForm}
use Rattle.lk_typed.specs.declared.expression.TypedExpr.{TypedExpr}
use Rattle.lk_typed.specs.declared.expression.TypedForm.{TypedForm}
use Rattle.lk_typed.specs.declared.library.LibraryCall.{LibraryCall}
use Rattle.lk_typed.specs.declared.statement.TypedItem.{TypedItem}
use Rattle.lk_typed.specs.declared.statement.TypedItem.TheFolds.{fold-TypedItem, fold-TypedStmtForm}
use Rattle.lk_typed.specs.declared.statement.TypedStmtForm.{TypedStmtForm}
use Rattle.lk_types.specs.Table.{type_at}
use Rattle.lk_types.specs.declared.c_type.CType.{CType}

-- the node of an expression
abbrev pub node_of : TypedExpr → Node
node_of e = record { ordinal = e.ordinal; spot = e.spot; type = e.ty }

abbrev pub as_node : OwnedNode → Node
as_node node = record { ordinal = node.ordinal; spot = node.spot; type = node.ty }

-- what is found, as the rules name it
abbrev pub as_owned : FoundOwned → Owned
as_owned (found.Text node bytes) = text (as_node node) bytes
as_owned (found.Allocation node type one) = allocation (as_node node) type one
as_owned (found.Hidden node) = hidden (as_node node)

abbrev pub all_found : List FoundOwned → List Owned
all_found list = map as_owned list

-- what the types of the source are
abbrev pub form_in : Finding → ℕ → CType
form_in finding = type_at finding.table.now

abbrev pub owned_here : Finding → TypedExpr → List Owned
owned_here finding = owned (form_in finding)

-- these are found behind others
abbrev pub Adds : List FoundOwned → List FoundOwned → List Owned → Type 0
Adds old new more = all_found new ≡ all_found old ++ more

-- what a form of expression has, a call of the library and what is called
module _ (form : ℕ → CType) where
  unfoldable pub owned_form : TypedForm → Node → List Owned
  owned_form =
      fold-TypedForm (List Owned) (Node → List Owned) (Node →
      List Owned) (List Owned) (of_callee form) (of_form form) (of_library form) (of_expr form)

  unfoldable pub library_owned : LibraryCall → Node → List Owned
  library_owned =
      fold-LibraryCall (List Owned) (Node → List Owned) (Node →
      List Owned) (List Owned) (of_callee form) (of_form form) (of_library form) (of_expr form)

  unfoldable pub callee_owned : Callee → List Owned
  callee_owned =
      fold-Callee (List Owned) (Node → List Owned) (Node →
      List Owned) (List Owned) (of_callee form) (of_form form) (of_library form) (of_expr form)

  -- what a form of statement has, and an item of a block
  unfoldable pub form_owned : TypedStmtForm → List Owned
  form_owned =
      fold-TypedStmtForm (List Owned) (List Owned) (List Owned) (in_item form) (in_form form) (in_stmt form)

  unfoldable pub item_owned : TypedItem → List Owned
  item_owned =
      fold-TypedItem (List Owned) (List Owned) (List Owned) (in_item form) (in_form form) (in_stmt form)
