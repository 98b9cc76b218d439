-- The nodes of a body that have an object or a slot of their own: texts, allocations, and expressions whose
-- value comes on several ways.
use Rattle.std.specs.Prelude.{ℕ, Bool, true, false, List, [], ◌∷◌, ◌++◌, Option, None, Some}
use Rattle.lk_lower_expr.specs.Names.{Node}
use Rattle.lk_typed.specs.declared.expression.Callee.TheFolds.{fold-TypedExpr}
use Rattle.lk_typed.specs.declared.expression.Callee.TheOpen.{Callee-F, TypedForm-F, LibraryCall-F, TypedExpr-F}
use Rattle.lk_typed.specs.declared.expression.TypedExpr.{TypedExpr}
use Rattle.lk_typed.specs.declared.initialiser.LocalPart.{LocalPart}
use Rattle.lk_typed.specs.declared.initialiser.LocalValue.{LocalValue}
use Rattle.lk_typed.specs.declared.initialiser.LocalValue.TheVariants as value
use Rattle.lk_typed.specs.declared.initialiser.StaticPart.{StaticPart}
use Rattle.lk_typed.specs.declared.statement.LocalInit.{LocalInit}
use Rattle.lk_typed.specs.declared.statement.TypedFirst.{TypedFirst}
use Rattle.lk_typed.specs.declared.statement.TypedFirst.TheVariants as for_first
use Rattle.lk_typed.specs.declared.statement.TypedItem.TheFolds.{fold-TypedStmt}
use Rattle.lk_typed.specs.declared.statement.TypedItem.TheOpen.{TypedItem-F, TypedStmtForm-F, TypedStmt-F}
use Rattle.lk_typed.specs.declared.statement.TypedStmt.{TypedStmt}
use Rattle.lk_types.specs.declared.c_type.CType.{CType}
use Rattle.lk_types.specs.declared.c_type.CType.TheVariants.{Void, Int, ThreadId, Mutex, Cond, Pointer, Array, Struct, Function, Opaque}

pub data Owned : Type 0 where
  -- a text with its bytes, which has the object of a literal
  text : Node → List ℕ → Owned
  -- an allocation: of one object of the type, or of an array of them
  allocation : Node → (type : ℕ) → (one : Bool) → Owned
  -- a slot of a value of the node's type
  hidden : Node → Owned

-- those of all parts, in the order of the text
abbrev pub all_of : List (List Owned) → List Owned
all_of [] = []
all_of (found ∷ others) = found ++ all_of others

abbrev pub of_optional : Option (List Owned) → List Owned
of_optional None = []
of_optional (Some found) = found

-- whether there is no count
abbrev pub is_one : {A : Type 0} → Option A → Bool
is_one None = true
is_one (Some count) = false

-- `form` says what a type of the source is
module _ (form : ℕ → CType) where
  abbrev pub Finder : Type 0
  Finder = Node → List Owned

  -- a choice of type void has no value
  abbrev pub hidden_of : CType → Node → List Owned
  hidden_of Void node = []
  hidden_of (Int k) node = hidden node ∷ []
  hidden_of ThreadId node = hidden node ∷ []
  hidden_of Mutex node = hidden node ∷ []
  hidden_of Cond node = hidden node ∷ []
  hidden_of (Pointer t) node = hidden node ∷ []
  hidden_of (Array t n) node = hidden node ∷ []
  hidden_of (Struct s) node = hidden node ∷ []
  hidden_of (Function result params dots) node = hidden node ∷ []
  hidden_of (Opaque n) node = hidden node ∷ []

  abbrev pub of_callee : Callee-F (List Owned) Finder Finder (List Owned) → List Owned
  of_callee (Callee-F.Callee::Function entity) = []
  of_callee (Callee-F.Pointer a) = a

  abbrev pub of_library : LibraryCall-F (List Owned) Finder Finder (List Owned) → Finder
  of_library (LibraryCall-F.Create id entity argument) node = id ++ argument
  of_library (LibraryCall-F.Join a) node = a
  of_library (LibraryCall-F.Detach a) node = a
  of_library (LibraryCall-F.ExitThread a) node = a
  of_library LibraryCall-F.SelfId node = []
  of_library (LibraryCall-F.Equal a b) node = a ++ b
  of_library (LibraryCall-F.Init a) node = a
  of_library (LibraryCall-F.Destroy a) node = a
  of_library (LibraryCall-F.Lock a) node = a
  of_library (LibraryCall-F.Unlock a) node = a
  of_library (LibraryCall-F.Signal a) node = a
  of_library (LibraryCall-F.Wait cond mutex) node = cond ++ mutex
  of_library (LibraryCall-F.Allocate t count zeroed) node =
      allocation node t (is_one count) ∷ of_optional count
  of_library (LibraryCall-F.Free a) node = a
  of_library (LibraryCall-F.Exit status) node = of_optional status
  of_library (LibraryCall-F.Scan a) node = a
  of_library (LibraryCall-F.Print format args) node = format ++ all_of args
  of_library (LibraryCall-F.Compute args) node = all_of args

  abbrev pub of_form : TypedForm-F (List Owned) Finder Finder (List Owned) → Finder
  of_form (TypedForm-F.Object storage) node = []
  of_form (TypedForm-F.Text bytes) node = text node bytes ∷ []
  of_form (TypedForm-F.Member a k) node = a
  of_form (TypedForm-F.Arrow a k) node = a
  of_form (TypedForm-F.Index a b) node = a ++ b
  of_form (TypedForm-F.Indirection a) node = a
  of_form (TypedForm-F.Paren a) node = a
  of_form (TypedForm-F.Number number) node = []
  of_form (TypedForm-F.TypedForm::Function entity) node = []
  of_form (TypedForm-F.Address a) node = a
  of_form (TypedForm-F.Unary op a) node = a
  of_form (TypedForm-F.Binary op a b) node = a ++ b
  of_form (TypedForm-F.And a b) node = hidden node ∷ (a ++ b)
  of_form (TypedForm-F.Or a b) node = hidden node ∷ (a ++ b)
  of_form (TypedForm-F.Choice c a b) node = hidden_of (form node.type) node ++ (c ++ (a ++ b))
  of_form (TypedForm-F.Comma a b) node = a ++ b
  of_form (TypedForm-F.Assign a b) node = a ++ b
  of_form (TypedForm-F.Compound op a b t) node = a ++ b
  of_form (TypedForm-F.Step operator change a t) node = a
  of_form (TypedForm-F.Call callee args) node = callee ++ all_of args
  of_form (TypedForm-F.Library call) node = call node
  of_form (TypedForm-F.Extern entity args) node = all_of args
  of_form (TypedForm-F.Size count) node = []
  of_form (TypedForm-F.Load a) node = a
  of_form (TypedForm-F.Decay a) node = a
  of_form (TypedForm-F.Convert a) node = a
  of_form (TypedForm-F.Discard a) node = a
  of_form TypedForm-F.Null node = []

  abbrev pub of_expr : TypedExpr-F (List Owned) Finder Finder (List Owned) → List Owned
  of_expr e = e.form (record { ordinal = e.ordinal; spot = e.spot; type = e.ty })

  unfoldable pub owned : TypedExpr → List Owned
  owned = fold-TypedExpr (List Owned) Finder Finder (List Owned) of_callee of_form of_library of_expr

  abbrev pub owned_in : Option TypedExpr → List Owned
  owned_in None = []
  owned_in (Some e) = owned e

  abbrev pub of_value : LocalValue → List Owned
  of_value (value.Expr e) = owned e
  of_value (value.Text spot node bytes) = []
  of_value value.Ready = []

  abbrev pub of_parts : List LocalPart → List Owned
  of_parts [] = []
  of_parts (one ∷ others) = of_value one.value ++ of_parts others

  abbrev pub of_static_parts : List StaticPart → List Owned
  of_static_parts [] = []
  of_static_parts (one ∷ others) = owned_in one.pointer ++ of_static_parts others

  abbrev pub of_inits : List LocalInit → List Owned
  of_inits [] = []
  of_inits (one ∷ others) = of_parts one.named ++ of_inits others

  abbrev pub of_first : TypedFirst → List Owned
  of_first (for_first.Expr e) = owned_in e
  of_first (for_first.Declare list) = of_inits list

  abbrev pub in_item : TypedItem-F (List Owned) (List Owned) (List Owned) → List Owned
  in_item (TypedItem-F.Declare list) = of_inits list
  in_item (TypedItem-F.Stmt a) = a

  abbrev pub in_form : TypedStmtForm-F (List Owned) (List Owned) (List Owned) → List Owned
  in_form (TypedStmtForm-F.Label a) = a
  in_form (TypedStmtForm-F.Case a) = a
  in_form (TypedStmtForm-F.Default a) = a
  in_form (TypedStmtForm-F.Block items) = all_of items
  in_form (TypedStmtForm-F.Do e) = owned_in e
  in_form (TypedStmtForm-F.If c a b) = owned c ++ (a ++ of_optional b)
  in_form (TypedStmtForm-F.Switch v cases default a) = owned v ++ a
  in_form (TypedStmtForm-F.While c a) = owned c ++ a
  in_form (TypedStmtForm-F.Until a c) = a ++ owned c
  in_form (TypedStmtForm-F.For f c s a) = of_first f ++ (owned_in c ++ (owned_in s ++ a))
  in_form (TypedStmtForm-F.Goto label) = []
  in_form TypedStmtForm-F.Continue = []
  in_form TypedStmtForm-F.Break = []
  in_form (TypedStmtForm-F.Return e) = owned_in e

  abbrev pub in_stmt : TypedStmt-F (List Owned) (List Owned) (List Owned) → List Owned
  in_stmt s = s.form

  unfoldable pub owned_by : TypedStmt → List Owned
  owned_by = fold-TypedStmt (List Owned) (List Owned) (List Owned) in_item in_form in_stmt
