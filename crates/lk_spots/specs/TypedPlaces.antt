-- A property of each place in an expression, a statement or a source with types.
use Rattle.std.specs.Prelude.{◌≡◌, ℕ, ℤ, Bool, List, Option, Some}
use Rattle.lk_arith.specs.declared.operators.Op.{Op}
use Rattle.lk_arith.specs.declared.operators.UnaryOp.{UnaryOp}
use Rattle.lk_base.specs.declared.spot.Spot.{Spot}
use Rattle.lk_tree.specs.declared.operators.StepOperator.{StepOperator}
use Rattle.lk_typed.specs.Stands.{IsIn}
use Rattle.lk_typed.specs.declared.entity.Declaration.{Declaration}
use Rattle.lk_typed.specs.declared.entity.Entity.{Entity}
use Rattle.lk_typed.specs.declared.entity.Use.{Use}
use Rattle.lk_typed.specs.declared.expression.Callee.TheOpen.{Callee-F, TypedForm-F, LibraryCall-F}
use Rattle.lk_typed.specs.declared.expression.Callee.{Callee, out-Callee}
use Rattle.lk_typed.specs.declared.expression.Change.{Change}
use Rattle.lk_typed.specs.declared.expression.Storage.{Storage}
use Rattle.lk_typed.specs.declared.expression.TypedExpr.{TypedExpr}
use Rattle.lk_typed.specs.declared.expression.TypedForm.{TypedForm, out-TypedForm}
use Rattle.lk_typed.specs.declared.initialiser.LocalPart.{LocalPart}
use Rattle.lk_typed.specs.declared.initialiser.LocalValue.TheVariants as value
use Rattle.lk_typed.specs.declared.initialiser.LocalValue.{LocalValue}
use Rattle.lk_typed.specs.declared.initialiser.StaticObject.{StaticObject}
use Rattle.lk_typed.specs.declared.initialiser.StaticPart.{StaticPart}
use Rattle.lk_typed.specs.declared.library.LibraryCall.{LibraryCall, out-LibraryCall}
use Rattle.lk_typed.specs.declared.statement.LocalInit.{LocalInit}
use Rattle.lk_typed.specs.declared.statement.SwitchCase.{SwitchCase}
use Rattle.lk_typed.specs.declared.statement.TypedFirst.TheVariants as first
use Rattle.lk_typed.specs.declared.statement.TypedFirst.{TypedFirst}
use Rattle.lk_typed.specs.declared.statement.TypedItem.TheOpen.{TypedItem-F, TypedStmtForm-F}
use Rattle.lk_typed.specs.declared.statement.TypedItem.{TypedItem, out-TypedItem}
use Rattle.lk_typed.specs.declared.statement.TypedStmt.{TypedStmt}
use Rattle.lk_typed.specs.declared.statement.TypedStmtForm.{TypedStmtForm, out-TypedStmtForm}
use Rattle.lk_typed.specs.declared.unit.Body.{Body}
use Rattle.lk_typed.specs.declared.unit.Local.{Local}
use Rattle.lk_typed.specs.declared.unit.TypedUnit.{TypedUnit}
use Rattle.lk_spots.specs.Places.{Each, IfThere}

module _ (P : Spot → Type 0) where
  -- ---- expressions

  mutual
    pub data TypedExprSpots : TypedExpr → Type 0 where
      typed : {t : TypedExpr} → P t.spot → TypedFormSpots (out-TypedForm t.form) → TypedExprSpots t

    pub data TypedFormSpots : TypedForm-F Callee TypedForm LibraryCall TypedExpr → Type 0 where
      object : {from : Storage} → TypedFormSpots (TypedForm-F.Object from)
      text : {bytes : List ℕ} → TypedFormSpots (TypedForm-F.Text bytes)
      member : {place : TypedExpr} {n : ℕ} → TypedExprSpots place →
          TypedFormSpots (TypedForm-F.Member place n)
      arrow : {pointer : TypedExpr} {n : ℕ} → TypedExprSpots pointer →
          TypedFormSpots (TypedForm-F.Arrow pointer n)
      index : {pointer : TypedExpr} {offset : TypedExpr} → TypedExprSpots pointer → TypedExprSpots offset →
          TypedFormSpots (TypedForm-F.Index pointer offset)
      indirection : {pointer : TypedExpr} → TypedExprSpots pointer →
          TypedFormSpots (TypedForm-F.Indirection pointer)
      paren : {inner : TypedExpr} → TypedExprSpots inner → TypedFormSpots (TypedForm-F.Paren inner)
      number : {n : ℤ} → TypedFormSpots (TypedForm-F.Number n)
      function : {entity : ℕ} → TypedFormSpots (TypedForm-F.TypedForm::Function entity)
      address : {place : TypedExpr} → TypedExprSpots place → TypedFormSpots (TypedForm-F.Address place)
      unary : {op : UnaryOp} {operand : TypedExpr} → TypedExprSpots operand →
          TypedFormSpots (TypedForm-F.Unary op operand)
      binary : {op : Op} {left : TypedExpr} {right : TypedExpr} → TypedExprSpots left → TypedExprSpots right →
          TypedFormSpots (TypedForm-F.Binary op left right)
      and : {left : TypedExpr} {right : TypedExpr} → TypedExprSpots left → TypedExprSpots right →
          TypedFormSpots (TypedForm-F.And left right)
      or : {left : TypedExpr} {right : TypedExpr} → TypedExprSpots left → TypedExprSpots right →
          TypedFormSpots (TypedForm-F.Or left right)
      choice : {condition : TypedExpr} {taken : TypedExpr} {other : TypedExpr} → TypedExprSpots condition →
          TypedExprSpots taken → TypedExprSpots other →
          TypedFormSpots (TypedForm-F.Choice condition taken other)
      comma : {left : TypedExpr} {right : TypedExpr} → TypedExprSpots left → TypedExprSpots right →
          TypedFormSpots (TypedForm-F.Comma left right)
      assign : {place : TypedExpr} {given : TypedExpr} → TypedExprSpots place → TypedExprSpots given →
          TypedFormSpots (TypedForm-F.Assign place given)
      compound : {op : Op} {place : TypedExpr} {given : TypedExpr} {type : ℕ} → TypedExprSpots place →
          TypedExprSpots given → TypedFormSpots (TypedForm-F.Compound op place given type)
      step : {op : StepOperator} {change : Change} {place : TypedExpr} {type : ℕ} → TypedExprSpots place →
          TypedFormSpots (TypedForm-F.Step op change place type)
      call : {callee : Callee} {arguments : List TypedExpr} → CalleeSpots (out-Callee callee) →
          ((a : TypedExpr) → IsIn a arguments → TypedExprSpots a) →
          TypedFormSpots (TypedForm-F.Call callee arguments)
      library : {call : LibraryCall} → LibraryCallSpots (out-LibraryCall call) →
          TypedFormSpots (TypedForm-F.Library call)
      extern : {entity : ℕ} {arguments : List TypedExpr} →
          ((a : TypedExpr) → IsIn a arguments → TypedExprSpots a) →
          TypedFormSpots (TypedForm-F.Extern entity arguments)
      size : {n : ℕ} → TypedFormSpots (TypedForm-F.Size n)
      load : {place : TypedExpr} → TypedExprSpots place → TypedFormSpots (TypedForm-F.Load place)
      decay : {place : TypedExpr} → TypedExprSpots place → TypedFormSpots (TypedForm-F.Decay place)
      convert : {inner : TypedExpr} → TypedExprSpots inner → TypedFormSpots (TypedForm-F.Convert inner)
      discard : {inner : TypedExpr} → TypedExprSpots inner → TypedFormSpots (TypedForm-F.Discard inner)
      null : TypedFormSpots TypedForm-F.Null

    pub data CalleeSpots : Callee-F Callee TypedForm LibraryCall TypedExpr → Type 0 where
      named : {entity : ℕ} → CalleeSpots (Callee-F.Callee::Function entity)
      pointed : {pointer : TypedExpr} → TypedExprSpots pointer → CalleeSpots (Callee-F.Pointer pointer)

    pub data LibraryCallSpots : LibraryCall-F Callee TypedForm LibraryCall TypedExpr → Type 0 where
      create : {id : TypedExpr} {entity : ℕ} {argument : TypedExpr} → TypedExprSpots id →
          TypedExprSpots argument → LibraryCallSpots (LibraryCall-F.Create id entity argument)
      join : {thread : TypedExpr} → TypedExprSpots thread → LibraryCallSpots (LibraryCall-F.Join thread)
      detach : {thread : TypedExpr} → TypedExprSpots thread → LibraryCallSpots (LibraryCall-F.Detach thread)
      exit_thread : {result : TypedExpr} → TypedExprSpots result →
          LibraryCallSpots (LibraryCall-F.ExitThread result)
      self_id : LibraryCallSpots LibraryCall-F.SelfId
      equal : {left : TypedExpr} {right : TypedExpr} → TypedExprSpots left → TypedExprSpots right →
          LibraryCallSpots (LibraryCall-F.Equal left right)
      init : {place : TypedExpr} → TypedExprSpots place → LibraryCallSpots (LibraryCall-F.Init place)
      destroy : {place : TypedExpr} → TypedExprSpots place → LibraryCallSpots (LibraryCall-F.Destroy place)
      lock : {place : TypedExpr} → TypedExprSpots place → LibraryCallSpots (LibraryCall-F.Lock place)
      unlock : {place : TypedExpr} → TypedExprSpots place → LibraryCallSpots (LibraryCall-F.Unlock place)
      signal : {place : TypedExpr} → TypedExprSpots place → LibraryCallSpots (LibraryCall-F.Signal place)
      wait : {cond : TypedExpr} {mutex : TypedExpr} → TypedExprSpots cond → TypedExprSpots mutex →
          LibraryCallSpots (LibraryCall-F.Wait cond mutex)
      allocate : {type : ℕ} {size : Option TypedExpr} {zeroed : Bool} →
          ((a : TypedExpr) → size ≡ Some a → TypedExprSpots a) →
          LibraryCallSpots (LibraryCall-F.Allocate type size zeroed)
      free : {pointer : TypedExpr} → TypedExprSpots pointer → LibraryCallSpots (LibraryCall-F.Free pointer)
      exit : {status : Option TypedExpr} → ((a : TypedExpr) → status ≡ Some a → TypedExprSpots a) →
          LibraryCallSpots (LibraryCall-F.Exit status)
      scan : {pointer : TypedExpr} → TypedExprSpots pointer → LibraryCallSpots (LibraryCall-F.Scan pointer)
      print : {format : TypedExpr} {arguments : List TypedExpr} → TypedExprSpots format →
          ((a : TypedExpr) → IsIn a arguments → TypedExprSpots a) →
          LibraryCallSpots (LibraryCall-F.Print format arguments)
      compute : {arguments : List TypedExpr} → ((a : TypedExpr) → IsIn a arguments → TypedExprSpots a) →
          LibraryCallSpots (LibraryCall-F.Compute arguments)

  -- ---- initialisers

  pub data LocalValueSpots : LocalValue → Type 0 where
    given : {e : TypedExpr} → TypedExprSpots e → LocalValueSpots (value.Expr e)
    bytes : {spot : Spot} {ordinal : ℕ} {text : List ℕ} → P spot →
        LocalValueSpots (value.Text spot ordinal text)
    ready : LocalValueSpots value.Ready

  abbrev pub LocalInitSpots : LocalInit → Type 0
  LocalInitSpots is = Each (λ (part : LocalPart). LocalValueSpots part.value) is.named

  -- ---- statements

  pub data TypedFirstSpots : TypedFirst → Type 0 where
    first_value : {e : Option TypedExpr} → IfThere TypedExprSpots e → TypedFirstSpots (first.Expr e)
    first_declare : {inits : List LocalInit} → Each LocalInitSpots inits →
        TypedFirstSpots (first.Declare inits)

  mutual
    pub data TypedStmtSpots : TypedStmt → Type 0 where
      typed_stmt : {s : TypedStmt} → P s.spot →
          TypedStmtFormSpots (out-TypedStmtForm s.form) → TypedStmtSpots s

    pub data TypedStmtFormSpots : TypedStmtForm-F TypedItem TypedStmtForm TypedStmt → Type 0 where
      label : {inner : TypedStmt} → TypedStmtSpots inner → TypedStmtFormSpots (TypedStmtForm-F.Label inner)
      case : {inner : TypedStmt} → TypedStmtSpots inner → TypedStmtFormSpots (TypedStmtForm-F.Case inner)
      default : {inner : TypedStmt} → TypedStmtSpots inner →
          TypedStmtFormSpots (TypedStmtForm-F.Default inner)
      block : {items : List TypedItem} → ((a : TypedItem) → IsIn a items → TypedItemSpots a) →
          TypedStmtFormSpots (TypedStmtForm-F.Block items)
      do_expr : {e : Option TypedExpr} → IfThere TypedExprSpots e → TypedStmtFormSpots (TypedStmtForm-F.Do e)
      if_else : {e : TypedExpr} {yes : TypedStmt} {no : Option TypedStmt} → TypedExprSpots e →
          TypedStmtSpots yes → ((a : TypedStmt) → no ≡ Some a → TypedStmtSpots a) →
          TypedStmtFormSpots (TypedStmtForm-F.If e yes no)
      switch : {e : TypedExpr} {cases : List SwitchCase} {default_ : Option ℕ} {inner : TypedStmt} →
          TypedExprSpots e → TypedStmtSpots inner →
          TypedStmtFormSpots (TypedStmtForm-F.Switch e cases default_ inner)
      while : {e : TypedExpr} {inner : TypedStmt} → TypedExprSpots e → TypedStmtSpots inner →
          TypedStmtFormSpots (TypedStmtForm-F.While e inner)
      until : {e : TypedExpr} {inner : TypedStmt} → TypedStmtSpots inner → TypedExprSpots e →
          TypedStmtFormSpots (TypedStmtForm-F.Until inner e)
      for : {start : TypedFirst} {condition next : Option TypedExpr} {inner : TypedStmt} →
          TypedFirstSpots start → IfThere TypedExprSpots condition → IfThere TypedExprSpots next →
          TypedStmtSpots inner → TypedStmtFormSpots (TypedStmtForm-F.For start condition next inner)
      goto : {label_ : ℕ} → TypedStmtFormSpots (TypedStmtForm-F.Goto label_)
      continue : TypedStmtFormSpots TypedStmtForm-F.Continue
      break : TypedStmtFormSpots TypedStmtForm-F.Break
      return : {e : Option TypedExpr} → IfThere TypedExprSpots e →
          TypedStmtFormSpots (TypedStmtForm-F.Return e)

    pub data TypedItemSpots : TypedItem → Type 0 where
      typed_item : {i : TypedItem} → TypedItemFormSpots (out-TypedItem i) → TypedItemSpots i

    pub data TypedItemFormSpots : TypedItem-F TypedItem TypedStmtForm TypedStmt → Type 0 where
      item_declare : {inits : List LocalInit} → Each LocalInitSpots inits →
          TypedItemFormSpots (TypedItem-F.Declare inits)
      item_stmt : {inner : TypedStmt} → TypedStmtSpots inner → TypedItemFormSpots (TypedItem-F.Stmt inner)

  -- ---- whole sources

  pub record BodySpots (body : Body) : Type 0 where
    pub spot : P body.spot
    pub locals : Each (λ (local : Local). P local.spot) body.locals
    pub block : TypedStmtSpots body.block

  pub record EntitySpots (entity : Entity) : Type 0 where
    pub declarations : Each (λ (declared : Declaration). P declared.spot) entity.declarations
    pub first_use : IfThere (λ (use_ : Use). P use_.spot) entity.first_use

  pub record ObjectSpots (object : StaticObject) : Type 0 where
    pub spot : P object.spot
    pub parts : Each (λ (part : StaticPart). IfThere TypedExprSpots part.pointer) object.parts

  -- each place in a source has the property
  pub record TypedUnitSpots (unit : TypedUnit) : Type 0 where
    pub entities : Each EntitySpots unit.entities
    pub objects : Each ObjectSpots unit.objects
    pub bodies : Each BodySpots unit.bodies
