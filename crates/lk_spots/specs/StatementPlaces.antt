-- A property of each place in an initialiser, a declaration, a statement or a whole source.
use Rattle.std.specs.Prelude.{◌≡◌, ℕ, List, Option, Some}
use Rattle.lk_base.specs.declared.spot.Spot.{Spot}
use Rattle.lk_tree.specs.declared.declaration.Declare.{Declare}
use Rattle.lk_tree.specs.declared.declaration.Designator.{Designator}
use Rattle.lk_tree.specs.declared.declaration.Designator.TheVariants as designator
use Rattle.lk_tree.specs.declared.declaration.Entry.{Entry}
use Rattle.lk_tree.specs.declared.declaration.Init.TheOpen.{Init-F}
use Rattle.lk_tree.specs.declared.declaration.Init.{Init, out-Init}
use Rattle.lk_tree.specs.declared.declaration.InitDeclarator.{InitDeclarator}
use Rattle.lk_tree.specs.declared.declaration.InitList.{InitList, out-InitList}
use Rattle.lk_tree.specs.declared.expression.Expr.{Expr}
use Rattle.lk_tree.specs.declared.statement.BlockItem.TheOpen.{BlockItem-F, StmtForm-F}
use Rattle.lk_tree.specs.declared.statement.BlockItem.{BlockItem, out-BlockItem}
use Rattle.lk_tree.specs.declared.statement.Decl.{Decl}
use Rattle.lk_tree.specs.declared.statement.Decl.TheVariants as decl
use Rattle.lk_tree.specs.declared.statement.Empty.{Empty}
use Rattle.lk_tree.specs.declared.statement.ForFirst.{ForFirst}
use Rattle.lk_tree.specs.declared.statement.ForFirst.TheVariants as first
use Rattle.lk_tree.specs.declared.statement.Function.{Function}
use Rattle.lk_tree.specs.declared.statement.Stmt.{Stmt}
use Rattle.lk_tree.specs.declared.statement.StmtForm.{StmtForm, out-StmtForm}
use Rattle.lk_tree.specs.declared.statement.Unit.{Unit}
use Rattle.lk_typed.specs.Stands.{IsIn}
use Rattle.lk_spots.specs.Places.{Each, IfThere, ExprSpots, SpecifierSpots, DeclaratorSpots}

module _ (P : Spot → Type 0) where
  -- ---- declarations

  pub data DesignatorSpots : Designator → Type 0 where
    member : {name : List ℕ} → DesignatorSpots (designator.Member name)
    index : {value : Expr} → ExprSpots P value → DesignatorSpots (designator.Index value)

  mutual
    pub data InitSpots : Init → Type 0 where
      init : {i : Init} → InitFormSpots (out-Init i) → InitSpots i

    pub data InitFormSpots : Init-F Init Entry InitList → Type 0 where
      value : {e : Expr} → ExprSpots P e → InitFormSpots (Init-F.Expr e)
      list : {node : InitList} → P (out-InitList node).spot →
          ((a : Entry) → IsIn a (out-InitList node).entries → EntrySpots a) → InitFormSpots (Init-F.List node)

    pub data EntrySpots : Entry → Type 0 where
      entry : {e : Entry} → Each DesignatorSpots e.designators → InitSpots e.init → EntrySpots e

  pub record InitDeclaratorSpots (d : InitDeclarator) : Type 0 where
    pub declarator : DeclaratorSpots P d.declarator
    pub init : IfThere InitSpots d.init

  pub record DeclareSpots (node : Declare) : Type 0 where
    pub spot : P node.spot
    pub specifiers : Each (SpecifierSpots P) node.specifiers
    pub declarators : Each InitDeclaratorSpots node.declarators

  -- ---- statements

  pub data FirstSpots : ForFirst → Type 0 where
    first_value : {value : Option Expr} → IfThere (ExprSpots P) value → FirstSpots (first.Expr value)
    first_declare : {node : Declare} → DeclareSpots node → FirstSpots (first.Declare node)

  mutual
    pub data StmtSpots : Stmt → Type 0 where
      stmt : {s : Stmt} → P s.spot → StmtFormSpots (out-StmtForm s.form) → StmtSpots s

    pub data StmtFormSpots : StmtForm-F BlockItem StmtForm Stmt → Type 0 where
      label : {name : List ℕ} {inner : Stmt} → StmtSpots inner → StmtFormSpots (StmtForm-F.Label name inner)
      case : {value : Expr} {inner : Stmt} → ExprSpots P value → StmtSpots inner →
          StmtFormSpots (StmtForm-F.Case value inner)
      default : {inner : Stmt} → StmtSpots inner → StmtFormSpots (StmtForm-F.Default inner)
      block : {items : List BlockItem} → ((a : BlockItem) → IsIn a items → BlockItemSpots a) →
          StmtFormSpots (StmtForm-F.Block items)
      do_expr : {value : Option Expr} → IfThere (ExprSpots P) value → StmtFormSpots (StmtForm-F.Do value)
      if_else : {value : Expr} {yes : Stmt} {no : Option Stmt} → ExprSpots P value → StmtSpots yes →
          ((a : Stmt) → no ≡ Some a → StmtSpots a) → StmtFormSpots (StmtForm-F.If value yes no)
      switch : {value : Expr} {inner : Stmt} → ExprSpots P value → StmtSpots inner →
          StmtFormSpots (StmtForm-F.Switch value inner)
      while : {value : Expr} {inner : Stmt} → ExprSpots P value → StmtSpots inner →
          StmtFormSpots (StmtForm-F.While value inner)
      until : {value : Expr} {inner : Stmt} → StmtSpots inner → ExprSpots P value →
          StmtFormSpots (StmtForm-F.Until inner value)
      for : {start : ForFirst} {value step : Option Expr} {inner : Stmt} → FirstSpots start →
          IfThere (ExprSpots P) value → IfThere (ExprSpots P) step → StmtSpots inner →
          StmtFormSpots (StmtForm-F.For start value step inner)
      goto : {name : List ℕ} → StmtFormSpots (StmtForm-F.Goto name)
      continue : StmtFormSpots StmtForm-F.Continue
      break : StmtFormSpots StmtForm-F.Break
      return : {value : Option Expr} → IfThere (ExprSpots P) value → StmtFormSpots (StmtForm-F.Return value)

    pub data BlockItemSpots : BlockItem → Type 0 where
      block_item : {i : BlockItem} → BlockItemFormSpots (out-BlockItem i) → BlockItemSpots i

    pub data BlockItemFormSpots : BlockItem-F BlockItem StmtForm Stmt → Type 0 where
      item_declare : {node : Declare} → DeclareSpots node → BlockItemFormSpots (BlockItem-F.Declare node)
      item_stmt : {inner : Stmt} → StmtSpots inner → BlockItemFormSpots (BlockItem-F.Stmt inner)

  -- ---- whole sources

  pub record FunctionSpots (node : Function) : Type 0 where
    pub spot : P node.spot
    pub specifiers : Each (SpecifierSpots P) node.specifiers
    pub declarator : DeclaratorSpots P node.declarator
    pub body : StmtSpots node.body

  pub data DeclSpots : Decl → Type 0 where
    function : {node : Function} → FunctionSpots node → DeclSpots (decl.Function node)
    declare : {node : Declare} → DeclareSpots node → DeclSpots (decl.Declare node)
    empty : {node : Empty} → P node.spot → DeclSpots (decl.Empty node)

  -- each place in a source has the property
  abbrev pub UnitSpots : Unit → Type 0
  UnitSpots unit = Each DeclSpots unit.externals
