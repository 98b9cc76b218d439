-- The spots of a form, at a variant of it.
use Rattle.std.proofs.Common.{◌≡◌, ◌∙◌, ℕ, List, Option, sym, ap, subst}
use Rattle.lk_base.specs.declared.spot.Spot.{Spot}
use Rattle.lk_tree.specs.declared.declaration.Entry.{Entry}
use Rattle.lk_tree.specs.declared.declaration.Init.TheOpen.{Init-F}
use Rattle.lk_tree.specs.declared.declaration.Init.{Init, out-Init, roll-Init, out-roll-Init}
use Rattle.lk_tree.specs.declared.declaration.InitList.{InitList, roll-InitList, out-roll-InitList}
use Rattle.lk_tree.specs.declared.expression.DeclaratorForm.{DeclaratorForm, out-DeclaratorForm, roll-DeclaratorForm, out-roll-DeclaratorForm}
use Rattle.lk_tree.specs.declared.expression.ExprForm.{ExprForm, out-ExprForm, roll-ExprForm, out-roll-ExprForm}
use Rattle.lk_tree.specs.declared.expression.Declarator.{Declarator}
use Rattle.lk_tree.specs.declared.expression.Expr.{Expr}
use Rattle.lk_tree.specs.declared.expression.Item.{roll-Item, out-roll-Item}
use Rattle.lk_tree.specs.declared.expression.Parameter.{roll-Parameter, out-roll-Parameter}
use Rattle.lk_tree.specs.declared.expression.TypeName.{roll-TypeName, out-roll-TypeName}
use Rattle.lk_tree.specs.declared.expression.MemberDeclarator.{MemberDeclarator, out-MemberDeclarator, roll-MemberDeclarator, out-roll-MemberDeclarator}
use Rattle.lk_tree.specs.declared.expression.Specifier.{Specifier, out-Specifier, roll-Specifier, out-roll-Specifier}
use Rattle.lk_tree.specs.declared.statement.BlockItem.TheOpen.{BlockItem-F, StmtForm-F}
use Rattle.lk_tree.specs.declared.statement.BlockItem.{BlockItem, out-BlockItem, roll-BlockItem, out-roll-BlockItem}
use Rattle.lk_tree.specs.declared.statement.Stmt.{Stmt}
use Rattle.lk_tree.specs.declared.statement.StmtForm.{StmtForm, out-StmtForm, roll-StmtForm, out-roll-StmtForm}
use Rattle.lk_spots.specs.Places as s
use Rattle.lk_spots.specs.Places.{ExprLayer, DeclaratorLayer, SpecifierLayer, FieldLayer, Each, IfThere, ExprSpots, ExprFormSpots, TypeNameSpots, SpecifierSpots, SpecifierFormSpots, FieldSpots, FieldFormSpots, ItemSpots, DeclaratorSpots, DeclaratorFormSpots, ParameterSpots}
use Rattle.lk_spots.specs.StatementPlaces as t
use Rattle.lk_spots.specs.StatementPlaces.{InitSpots, InitFormSpots, EntrySpots, StmtFormSpots, BlockItemSpots, BlockItemFormSpots}

module _ (P : Spot → Type 0) where
  pub expr_form_at : {f : ExprForm} (x : ExprLayer) → roll-ExprForm x ≡ f → ExprFormSpots P x → ExprFormSpots P (out-ExprForm f)
  expr_form_at x is spots = subst (ExprFormSpots P) (sym (out-roll-ExprForm x) ∙ ap out-ExprForm is) spots

  pub declarator_form_at : {f : DeclaratorForm} (x : DeclaratorLayer) → roll-DeclaratorForm x ≡ f → DeclaratorFormSpots P x → DeclaratorFormSpots P (out-DeclaratorForm f)
  declarator_form_at x is spots = subst (DeclaratorFormSpots P) (sym (out-roll-DeclaratorForm x) ∙ ap out-DeclaratorForm is) spots

  pub specifier_at : {f : Specifier} (x : SpecifierLayer) → roll-Specifier x ≡ f → SpecifierFormSpots P x → SpecifierSpots P f
  specifier_at x is spots = s.specifier (subst (SpecifierFormSpots P) (sym (out-roll-Specifier x) ∙ ap out-Specifier is) spots)

  pub field_at : {f : MemberDeclarator} (x : FieldLayer) → roll-MemberDeclarator x ≡ f → FieldFormSpots P x → FieldSpots P f
  field_at x is spots = s.field (subst (FieldFormSpots P) (sym (out-roll-MemberDeclarator x) ∙ ap out-MemberDeclarator is) spots)

  pub init_at : {f : Init} (x : Init-F Init Entry InitList) → roll-Init x ≡ f → InitFormSpots P x → InitSpots P f
  init_at x is spots = t.init (subst (InitFormSpots P) (sym (out-roll-Init x) ∙ ap out-Init is) spots)

  pub stmt_form_at : {f : StmtForm} (x : StmtForm-F BlockItem StmtForm Stmt) → roll-StmtForm x ≡ f → StmtFormSpots P x → StmtFormSpots P (out-StmtForm f)
  stmt_form_at x is spots = subst (StmtFormSpots P) (sym (out-roll-StmtForm x) ∙ ap out-StmtForm is) spots

  pub block_item_at : {f : BlockItem} (x : BlockItem-F BlockItem StmtForm Stmt) → roll-BlockItem x ≡ f → BlockItemFormSpots P x → BlockItemSpots P f
  block_item_at x is spots = t.block_item (subst (BlockItemFormSpots P) (sym (out-roll-BlockItem x) ∙ ap out-BlockItem is) spots)

  -- ---- nodes of these parts

  pub item_at : (spot : Spot) (n : ℕ) (name : List ℕ) (value : Option Expr) → P spot → IfThere (ExprSpots P) value
      → ItemSpots P (roll-Item (record { spot = spot; ordinal = n; name = name; value = value }))
  item_at spot n name value here has = let is = out-roll-Item (record { spot = spot; ordinal = n; name = name; value = value }) in s.item (rw is here) (rw is has)

  pub parameter_at : (spot : Spot) (n : ℕ) (specifiers : List Specifier) (inner : Option Declarator) → P spot → Each (SpecifierSpots P) specifiers → IfThere (DeclaratorSpots P) inner
      → ParameterSpots P (roll-Parameter (record { spot = spot; ordinal = n; specifiers = specifiers; declarator = inner }))
  parameter_at spot n specifiers inner here each has =
      let is = out-roll-Parameter (record { spot = spot; ordinal = n; specifiers = specifiers; declarator = inner }) in s.parameter (rw is here) (rw is each) (rw is has)

  pub type_name_at : (spot : Spot) (n : ℕ) (specifiers : List Specifier) (inner : Option Declarator) → P spot → Each (SpecifierSpots P) specifiers → IfThere (DeclaratorSpots P) inner
      → TypeNameSpots P (roll-TypeName (record { spot = spot; ordinal = n; specifiers = specifiers; declarator = inner }))
  type_name_at spot n specifiers inner here each has =
      let is = out-roll-TypeName (record { spot = spot; ordinal = n; specifiers = specifiers; declarator = inner }) in s.type_name (rw is here) (rw is each) (rw is has)

  pub init_list_at : (spot : Spot) (n : ℕ) (entries : List Entry) → P spot → Each (EntrySpots P) entries
      → InitFormSpots P (Init-F.List (roll-InitList (record { spot = spot; ordinal = n; entries = entries })))
  init_list_at spot n entries here each = let is = out-roll-InitList (record { spot = spot; ordinal = n; entries = entries }) in t.list (rw is here) (rw is each)
