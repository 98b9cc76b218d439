-- The typed tree of an expression (C99 6.5): each name resolved, each conversion written out. It is a
-- relation by the forms of the syntax tree, each part in the environment in which the rules of faults have it
-- (`placed`), and each node has the type that these rules find. The numbers of types are free: a number need
-- only mean the type (`Means`).
--
-- An expression stands in one of three ways. `IsTyped` is the expression itself, which may be a place: on the
-- left of `=`, under `&`, `++`, `.` and parentheses. `IsValue` is what it is where a value is asked for: a
-- place of scalar type is read, an array becomes the pointer to its first element (6.3.2.1). `IsConverted` is
-- that value converted to a type, which is written out where the two types differ. A conversion stands at the
-- node that it converts, so at the outermost parentheses. Only a cast stands at its own node.
use Rattle.std.specs.Prelude.{ℕ, ◌≡◌, ◌&&◌, Bool, true, false, Option, Some, None, List, [], ◌∷◌, ℤ, pos, codes, if◌then◌else◌}
use Rattle.lk_arith.specs.declared.operators.Op.{Op}
use Rattle.lk_arith.specs.declared.operators.UnaryOp.{UnaryOp}
use Rattle.lk_arith.specs.declared.operators.UnaryOp.TheVariants as unary
use Rattle.lk_base.specs.declared.code.Code.{Code}
use Rattle.lk_base.specs.declared.kind.Kind.{Kind}
use Rattle.lk_tree.specs.declared.expression.Declarator.{Declarator}
use Rattle.lk_tree.specs.declared.expression.DeclaratorForm.{DeclaratorForm}
use Rattle.lk_tree.specs.declared.expression.DeclaratorForm.TheOpen.{ExprForm-F}
use Rattle.lk_tree.specs.declared.expression.Expr.{Expr}
use Rattle.lk_tree.specs.declared.expression.ExprForm.{ExprForm, out-ExprForm}
use Rattle.lk_tree.specs.declared.expression.Item.{Item}
use Rattle.lk_tree.specs.declared.expression.Member.{Member}
use Rattle.lk_tree.specs.declared.expression.MemberDeclarator.{MemberDeclarator}
use Rattle.lk_tree.specs.declared.expression.Parameter.{Parameter}
use Rattle.lk_tree.specs.declared.expression.Specifier.{Specifier}
use Rattle.lk_tree.specs.declared.expression.TypeName.{TypeName}
use Rattle.lk_tree.specs.declared.operators.AssignOperator.{AssignOperator}
use Rattle.lk_tree.specs.declared.operators.AssignOperator.TheVariants as assigning
use Rattle.lk_tree.specs.declared.operators.BinaryOperator.{BinaryOperator}
use Rattle.lk_tree.specs.declared.operators.BinaryOperator.TheVariants as binary
use Rattle.lk_tree.specs.declared.operators.PrefixOperator.{PrefixOperator}
use Rattle.lk_tree.specs.declared.operators.PrefixOperator.TheVariants as prefix
use Rattle.lk_tree.specs.declared.operators.StepOperator.{StepOperator}
use Rattle.lk_typed.specs.Addresses.{value}
use Rattle.lk_typed.specs.Assignments.{operator_of}
use Rattle.lk_typed.specs.Calls.{passes_by, signature_of}
use Rattle.lk_typed.specs.Env.{Env, Name, Role, ConvertedTo, Field, Members, Known, Declared, Meaning, AnObject, AFunction, ATypedef, AnEnumerator, AnInitialiserWord, AFaultyName, extend, look_up, members_of, number_of_field}
use Rattle.lk_typed.specs.Expressions.{expression, named, type_found}
use Rattle.lk_typed.specs.Forms.{placed}
use Rattle.lk_typed.specs.Library.{Passing, Converted, NullFor, Routine, LibraryFunction, library_function}
use Rattle.lk_typed.specs.LibraryCalls.{OpenLibraryCall, IsCallBy}
use Rattle.lk_typed.specs.Operands.{node_type, promoted_type, promoting, computed_by, operand_types, moves_by_right, step_type}
use Rattle.lk_typed.specs.Operators.{is_scalar, row_of}
use Rattle.lk_typed.specs.Sizes.{bytes_in}
use Rattle.lk_typed.specs.Tables.{Tables, IsEntityAt, IsLocalAt}
use Rattle.lk_typed.specs.Ty.{Ty, Void, Pointer, Array, Struct, Means, is_array, is_pointer, is_same, is_void, size_type}
use Rattle.lk_typed.specs.Typing.{Typing, Named, known_value}
use Rattle.lk_typed.specs.Words.{is_extern}
use Rattle.lk_typed.specs.declared.expression.Callee.{Callee, out-Callee}
use Rattle.lk_typed.specs.declared.expression.Callee.TheOpen.{Callee-F, TypedForm-F, LibraryCall-F}
use Rattle.lk_typed.specs.declared.expression.Change.TheVariants.{After, Before}
use Rattle.lk_typed.specs.declared.expression.Storage.TheVariants as storage
use Rattle.lk_typed.specs.declared.expression.TypedExpr.{TypedExpr}
use Rattle.lk_typed.specs.declared.expression.TypedForm.{TypedForm, out-TypedForm}
use Rattle.lk_typed.specs.declared.library.LibraryCall.{LibraryCall, out-LibraryCall}
use Rattle.lk_typed.specs.declared.unit.Local.{Local}

-- ---- an expression in the environment in which it stands

abbrev pub InPlace : Type 0
InPlace = Env × Expr

abbrev pub PlacedForm : Type 0
PlacedForm =
    ExprForm-F DeclaratorForm ExprForm MemberDeclarator Specifier Declarator InPlace Item Member
    Parameter (Env × TypeName)

abbrev pub name_in : TypeName → Env → Named
name_in name env = named (type_found name) env

-- its form, with each part in its own environment
abbrev pub form_of : InPlace → PlacedForm
form_of p = placed expression name_in p.0 (out-ExprForm p.1.form)

abbrev pub typing_at : InPlace → Option Typing
typing_at p = (expression p.1 p.0).typing

-- it is a name, which stands for this (C99 6.5.1, 2)
abbrev pub StandsFor : InPlace → Declared → Type 0
StandsFor p d = (name : Name) × (form_of p ≡ ExprForm-F.Word name) × (look_up p.0 name ≡ Some d)

-- the members of a struct, as they are known behind it
abbrev pub members_behind : InPlace → ℕ → Members
members_behind p s = members_of (extend p.0 (expression p.1 p.0).adds).structs s

abbrev pub type_named : (Env × TypeName) → Option Ty
type_named t = (name_in t.1 t.0).type

-- whether a sizeof stands in it
abbrev pub holds_sizeof : InPlace → Bool
holds_sizeof p = (expression p.1 p.0).look.holds_sizeof

-- ---- what a call calls (C99 6.5.2.2)

pub data Called : Type 0 where
  ALibraryFunction : LibraryFunction → Called
  -- a function that --externs names, or one of the program, by the number of the node that declares it
  AnExternFunction : ℕ → Called
  AFunctionHere : ℕ → Called
  -- what a pointer points to
  AnyFunction : Called

abbrev function_called : Env → Declared → Option LibraryFunction → Called
function_called env d (Some f) = ALibraryFunction f
function_called env d None =
    if is_extern env d.name then AnExternFunction d.ordinal else AFunctionHere d.ordinal

abbrev meaning_called : Env → Declared → Meaning → Called
meaning_called env d (AnObject t is_static) = AnyFunction
meaning_called env d (AFunction t) = function_called env d (library_function d.name)
meaning_called env d (ATypedef t) = AnyFunction
meaning_called env d (AnEnumerator z) = AnyFunction
meaning_called env d (AnInitialiserWord t) = AnyFunction
meaning_called env d AFaultyName = AnyFunction

abbrev name_called : Env → Option Declared → Called
name_called env None = AnyFunction
name_called env (Some d) = meaning_called env d d.meaning

-- by a name, perhaps in parentheses, or else by a pointer
abbrev pub called : Env → InPlace → Called
called env f = name_called env (expression f.1 f.0).look.word

abbrev library_of : Called → Option LibraryFunction
library_of (ALibraryFunction f) = Some f
library_of (AnExternFunction n) = None
library_of (AFunctionHere n) = None
library_of AnyFunction = None

abbrev passes_to : Called → Option Typing → List Passing
passes_to called None = []
passes_to called (Some f) = passes_by (library_of called) (signature_of f)

-- how the arguments are passed
abbrev pub passes_in : Env → InPlace → List Passing
passes_in env f = passes_to (called env f) (typing_at f)

-- ---- the operand of sizeof, as the size of an allocation names the type of an element

pub data IsSizeof (p : InPlace) : Ty → Type 0 where
  of_expression : {e : InPlace} {a : Typing} → form_of p ≡ ExprForm-F.SizeofExpr e →
      typing_at e ≡ Some a → IsSizeof p a.type
  of_type : {n : Env × TypeName} {t : Ty} → form_of p ≡ ExprForm-F.SizeofType n →
      type_named n ≡ Some t → IsSizeof p t

-- ---- nodes

-- a node at the place and with the number of an expression, of this type and form
pub record Makes (tables : Tables) (p : InPlace) (ty : Ty)
    (form : TypedForm-F Callee TypedForm LibraryCall TypedExpr) (t : TypedExpr) : Type 0 where
  pub spot : t.spot ≡ p.1.spot
  pub ordinal : t.ordinal ≡ p.1.ordinal
  pub type : Means tables.types t.ty ty
  pub made : out-TypedForm t.form ≡ form

-- `folded` says that it stands in an address constant (C99 6.6, 9): there each integer constant expression
-- that a pointer moves by is a number at its own node
module _ (tables : Tables) (folded : Bool) where
  -- the node of the expression itself, with the type that the rules find
  abbrev MakesOwn : InPlace → TypedForm-F Callee TypedForm LibraryCall TypedExpr → TypedExpr → Type 0
  MakesOwn p form t =
      (typing : Typing) × (typing_at p ≡ Some typing) × Makes tables p (node_type typing.type) form t

  mutual
    -- ---- the expression itself

    pub data IsTyped : InPlace → TypedExpr → Type 0 where
      -- names (C99 6.5.1, 2)
      static_object : {p : InPlace} {d : Declared} {ty : Ty} {e : ℕ} {t : TypedExpr} → StandsFor p d →
          d.meaning ≡ AnObject ty true → IsEntityAt tables d.ordinal e →
          MakesOwn p (TypedForm-F.Object (storage.Entity e)) t → IsTyped p t
      local_object : {p : InPlace} {d : Declared} {ty : Ty} {l : ℕ} {local : Local} {t : TypedExpr} →
          StandsFor p d → d.meaning ≡ AnObject ty false → IsLocalAt tables d.ordinal l local →
          MakesOwn p (TypedForm-F.Object (storage.Local l)) t → IsTyped p t
      function : {p : InPlace} {d : Declared} {ty : Ty} {e : ℕ} {t : TypedExpr} → StandsFor p d →
          d.meaning ≡ AFunction ty → IsEntityAt tables d.ordinal e →
          MakesOwn p (TypedForm-F.TypedForm::Function e) t → IsTyped p t
      enumerator : {p : InPlace} {d : Declared} {z : ℤ} {t : TypedExpr} → StandsFor p d →
          d.meaning ≡ AnEnumerator z → MakesOwn p (TypedForm-F.Number z) t → IsTyped p t
      -- constants and texts (C99 6.4.4, 6.4.5)
      number : {p : InPlace} {k : Kind} {n : ℕ} {t : TypedExpr} → form_of p ≡ ExprForm-F.Number k n →
          MakesOwn p (TypedForm-F.Number (pos n)) t → IsTyped p t
      character : {p : InPlace} {z : ℤ} {t : TypedExpr} → form_of p ≡ ExprForm-F.Char z →
          MakesOwn p (TypedForm-F.Number z) t → IsTyped p t
      text : {p : InPlace} {bytes : List ℕ} {t : TypedExpr} → form_of p ≡ ExprForm-F.Text bytes →
          MakesOwn p (TypedForm-F.Text bytes) t → IsTyped p t
      paren : {p i : InPlace} {a t : TypedExpr} → form_of p ≡ ExprForm-F.Paren i → IsTyped i a →
          MakesOwn p (TypedForm-F.Paren a) t → IsTyped p t
      -- parts of objects (C99 6.5.2.1, 6.5.2.3, 6.5.3.2)
      member : {p i : InPlace} {name : Name} {s : ℕ} {fields : List Field} {object : Typing}
          {a t : TypedExpr} → form_of p ≡ ExprForm-F.Member i name → typing_at i ≡ Some object →
          object.type ≡ Struct s → members_behind p s ≡ Known fields → IsTyped i a →
          MakesOwn p (TypedForm-F.Member a (number_of_field fields name)) t → IsTyped p t
      arrow : {p i : InPlace} {name : Name} {s : ℕ} {fields : List Field} {pointer : Typing}
          {a t : TypedExpr} → form_of p ≡ ExprForm-F.Arrow i name → typing_at i ≡ Some pointer →
          (value pointer).type ≡ Pointer (Struct s) → members_behind p s ≡ Known fields → IsValue i a →
          MakesOwn p (TypedForm-F.Arrow a (number_of_field fields name)) t → IsTyped p t
      index : {p i j : InPlace} {offset : Typing} {a b t : TypedExpr} → form_of p ≡ ExprForm-F.Index i j →
          typing_at j ≡ Some offset → IsValue i a → IsOperand true j (value offset).type b →
          MakesOwn p (TypedForm-F.Index a b) t → IsTyped p t
      indirection : {p i : InPlace} {a t : TypedExpr} → form_of p ≡ ExprForm-F.Prefix prefix.Indirection i →
          IsValue i a → MakesOwn p (TypedForm-F.Indirection a) t → IsTyped p t
      address : {p i : InPlace} {a t : TypedExpr} → form_of p ≡ ExprForm-F.Prefix prefix.Address i →
          IsTyped i a → MakesOwn p (TypedForm-F.Address a) t → IsTyped p t
      -- operators before an operand (C99 6.5.3.3)
      promoting_operator : {p i : InPlace} {o : PrefixOperator} {u : UnaryOp} {operand : Typing}
          {a t : TypedExpr} → form_of p ≡ ExprForm-F.Prefix o i → promoting o ≡ Some u →
          typing_at i ≡ Some operand → IsConverted i (promoted_type (value operand).type) a →
          MakesOwn p (TypedForm-F.Unary u a) t → IsTyped p t
      negation : {p i : InPlace} {a t : TypedExpr} → form_of p ≡ ExprForm-F.Prefix prefix.Not i →
          IsValue i a → MakesOwn p (TypedForm-F.Unary unary.Not a) t → IsTyped p t
      -- operators between two operands (C99 6.5.5 to 6.5.14)
      operator : {p l r : InPlace} {o : BinaryOperator} {op : Op} {x y : Typing} {a b t : TypedExpr} →
          form_of p ≡ ExprForm-F.Binary o l r → computed_by (row_of o) ≡ Some op → typing_at l ≡ Some x →
          typing_at r ≡ Some y → IsConverted l (operand_types (row_of o) (value x) (value y)).left a →
          IsOperand (moves_by_right (row_of o) (value x) (value y)) r
          (operand_types (row_of o) (value x) (value y)).right b →
          MakesOwn p (TypedForm-F.Binary op a b) t → IsTyped p t
      and_ : {p l r : InPlace} {a b t : TypedExpr} → form_of p ≡ ExprForm-F.Binary binary.And l r →
          IsValue l a → IsValue r b → MakesOwn p (TypedForm-F.And a b) t → IsTyped p t
      or_ : {p l r : InPlace} {a b t : TypedExpr} → form_of p ≡ ExprForm-F.Binary binary.Or l r →
          IsValue l a → IsValue r b → MakesOwn p (TypedForm-F.Or a b) t → IsTyped p t
      -- `?:` (C99 6.5.15, 5 and 6) and the comma (6.5.17)
      choice : {p c l r : InPlace} {result : Typing} {a b d t : TypedExpr} →
          form_of p ≡ ExprForm-F.Choice c l r → typing_at p ≡ Some result → IsValue c a →
          IsConverted l result.type b → IsConverted r result.type d →
          MakesOwn p (TypedForm-F.Choice a b d) t → IsTyped p t
      comma : {p l r : InPlace} {a b t : TypedExpr} → form_of p ≡ ExprForm-F.Comma l r → IsValue l a →
          IsValue r b → MakesOwn p (TypedForm-F.Comma a b) t → IsTyped p t
      -- assignments (C99 6.5.16): the value is converted to the type of the place
      assignment : {p l r : InPlace} {place : Typing} {a b t : TypedExpr} →
          form_of p ≡ ExprForm-F.Assign assigning.Plain l r → typing_at l ≡ Some place → IsTyped l a →
          IsConverted r place.type b → MakesOwn p (TypedForm-F.Assign a b) t → IsTyped p t
      -- `op=` computes at the type to which the left value is converted (C99 6.5.16.2, 3)
      compound : {p l r : InPlace} {o : AssignOperator} {by : BinaryOperator} {op : Op} {x y : Typing}
          {at : ℕ} {a b t : TypedExpr} → form_of p ≡ ExprForm-F.Assign o l r → operator_of o ≡ Some by →
          computed_by (row_of by) ≡ Some op → typing_at l ≡ Some x → typing_at r ≡ Some y → IsTyped l a →
          IsConverted r (operand_types (row_of by) (value x) (value y)).right b →
          Means tables.types at (operand_types (row_of by) (value x) (value y)).left →
          MakesOwn p (TypedForm-F.Compound op a b at) t → IsTyped p t
      -- `++` and `--` (C99 6.5.2.4, 6.5.3.1)
      step_before : {p i : InPlace} {o : StepOperator} {place : Typing} {at : ℕ} {a t : TypedExpr} →
          form_of p ≡ ExprForm-F.Pre o i → typing_at i ≡ Some place → IsTyped i a →
          Means tables.types at (step_type place.type) →
          MakesOwn p (TypedForm-F.Step o Before a at) t → IsTyped p t
      step_after : {p i : InPlace} {o : StepOperator} {place : Typing} {at : ℕ} {a t : TypedExpr} →
          form_of p ≡ ExprForm-F.Post o i → typing_at i ≡ Some place → IsTyped i a →
          Means tables.types at (step_type place.type) →
          MakesOwn p (TypedForm-F.Step o After a at) t → IsTyped p t
      -- casts (C99 6.5.4): a cast is written out though the types are equal; to void it drops the value
      -- (6.3.2.2); a null pointer constant becomes a null pointer (6.3.2.3, 3)
      cast_to_void : {p i : InPlace} {n : Env × TypeName} {a t : TypedExpr} →
          form_of p ≡ ExprForm-F.Cast n i → type_named n ≡ Some Void → IsValue i a →
          MakesOwn p (TypedForm-F.Discard a) t → IsTyped p t
      cast_of_null : {p i : InPlace} {n : Env × TypeName} {target : Ty} {x : Typing} {t : TypedExpr} →
          form_of p ≡ ExprForm-F.Cast n i → type_named n ≡ Some target → typing_at i ≡ Some x →
          is_pointer target && (value x).is_null ≡ true → MakesOwn p TypedForm-F.Null t → IsTyped p t
      cast : {p i : InPlace} {n : Env × TypeName} {target : Ty} {x : Typing} {a t : TypedExpr} →
          form_of p ≡ ExprForm-F.Cast n i → type_named n ≡ Some target → is_void target ≡ false →
          typing_at i ≡ Some x → is_pointer target && (value x).is_null ≡ false → IsValue i a →
          MakesOwn p (TypedForm-F.Convert a) t → IsTyped p t
      -- sizeof computes nothing (C99 6.5.3.4, 2)
      size : {p : InPlace} {target : Ty} {n : ℕ} {t : TypedExpr} → IsSizeof p target →
          bytes_in target ≡ Some n → MakesOwn p (TypedForm-F.Size n) t → IsTyped p t
      -- calls (C99 6.5.2.2)
      call_by_name : {p f : InPlace} {arguments : List InPlace} {n e : ℕ} {callee : Callee}
          {as_ : List TypedExpr} {t : TypedExpr} → form_of p ≡ ExprForm-F.Call f arguments →
          called p.0 f ≡ AFunctionHere n → IsEntityAt tables n e →
          out-Callee callee ≡ Callee-F.Callee::Function e → ArePassed (passes_in p.0 f) arguments as_ →
          MakesOwn p (TypedForm-F.Call callee as_) t → IsTyped p t
      call_by_pointer : {p f : InPlace} {arguments : List InPlace} {a : TypedExpr} {callee : Callee}
          {as_ : List TypedExpr} {t : TypedExpr} → form_of p ≡ ExprForm-F.Call f arguments →
          called p.0 f ≡ AnyFunction → IsValue f a → out-Callee callee ≡ Callee-F.Pointer a →
          ArePassed (passes_in p.0 f) arguments as_ → MakesOwn p (TypedForm-F.Call callee as_) t → IsTyped p t
      call_of_extern : {p f : InPlace} {arguments : List InPlace} {n e : ℕ} {as_ : List TypedExpr}
          {t : TypedExpr} → form_of p ≡ ExprForm-F.Call f arguments → called p.0 f ≡ AnExternFunction n →
          IsEntityAt tables n e → ArePassed (passes_in p.0 f) arguments as_ →
          MakesOwn p (TypedForm-F.Extern e as_) t → IsTyped p t
      call_of_library : {p f : InPlace} {arguments : List InPlace} {known : LibraryFunction}
          {call : LibraryCall} {t : TypedExpr} → form_of p ≡ ExprForm-F.Call f arguments →
          called p.0 f ≡ ALibraryFunction known →
          IsLibraryCall p.0.role known arguments (out-LibraryCall call) →
          MakesOwn p (TypedForm-F.Library call) t → IsTyped p t

    -- ---- its value (C99 6.3.2.1, 2 to 4): nothing reads a struct

    pub data IsValue : InPlace → TypedExpr → Type 0 where
      read : {p : InPlace} {place : Typing} {a t : TypedExpr} → typing_at p ≡ Some place →
          place.is_place && is_scalar place.type ≡ true → IsTyped p a →
          Makes tables p place.type (TypedForm-F.Load a) t → IsValue p t
      first_element : {p : InPlace} {place : Typing} {element : Ty} {n : ℕ} {a t : TypedExpr} →
          typing_at p ≡ Some place → place.type ≡ Array element n → IsTyped p a →
          Makes tables p (Pointer element) (TypedForm-F.Decay a) t → IsValue p t
      itself : {p : InPlace} {typing : Typing} {t : TypedExpr} → typing_at p ≡ Some typing →
          typing.is_place && is_scalar typing.type ≡ false → is_array typing.type ≡ false →
          IsTyped p t → IsValue p t

    -- ---- its value converted to a type (C99 6.3); a null pointer constant computes nothing (6.3.2.3, 3)

    pub data IsConverted : InPlace → Ty → TypedExpr → Type 0 where
      alike : {p : InPlace} {typing : Typing} {target : Ty} {t : TypedExpr} → typing_at p ≡ Some typing →
          is_same (value typing).type target ≡ true → IsValue p t → IsConverted p target t
      null : {p : InPlace} {typing : Typing} {target : Ty} {t : TypedExpr} → typing_at p ≡ Some typing →
          is_same (value typing).type target ≡ false → is_pointer target && (value typing).is_null ≡ true →
          Makes tables p target TypedForm-F.Null t → IsConverted p target t
      converted : {p : InPlace} {typing : Typing} {target : Ty} {a t : TypedExpr} →
          typing_at p ≡ Some typing → is_same (value typing).type target ≡ false →
          is_pointer target && (value typing).is_null ≡ false → IsValue p a →
          Makes tables p target (TypedForm-F.Convert a) t → IsConverted p target t

    -- an operand, and whether a pointer moves by it
    pub data IsOperand : Bool → InPlace → Ty → TypedExpr → Type 0 where
      computes : {moves : Bool} {p : InPlace} {target : Ty} {t : TypedExpr} → folded && moves ≡ false →
          IsConverted p target t → IsOperand moves p target t
      constant : {moves : Bool} {p : InPlace} {typing : Typing} {target : Ty} {z : ℤ} {t : TypedExpr} →
          folded && moves ≡ true → typing_at p ≡ Some typing → known_value (value typing).constant ≡ Some z →
          Makes tables p target (TypedForm-F.Number z) t → IsOperand moves p target t

    -- ---- those arguments that compute something, in the order of the text (C99 6.5.2.2, 7): converted to their parameters; a further one is promoted

    pub data ArePassed : List Passing → List InPlace → List TypedExpr → Type 0 where
      no_arguments : ArePassed [] [] []
      to_parameter : {target : Ty} {passes : List Passing} {p : InPlace} {others : List InPlace}
          {a : TypedExpr} {as_ : List TypedExpr} → IsConverted p target a → ArePassed passes others as_ →
          ArePassed (Converted target ∷ passes) (p ∷ others) (a ∷ as_)
      null_for : {target : Ty} {code : Code} {passes : List Passing} {p : InPlace} {others : List InPlace}
          {as_ : List TypedExpr} → ArePassed passes others as_ →
          ArePassed (NullFor target code ∷ passes) (p ∷ others) as_
      routine : {passes : List Passing} {p : InPlace} {others : List InPlace} {as_ : List TypedExpr} →
          ArePassed passes others as_ → ArePassed (Routine ∷ passes) (p ∷ others) as_
      further : {p : InPlace} {typing : Typing} {others : List InPlace} {a : TypedExpr}
          {as_ : List TypedExpr} → typing_at p ≡ Some typing →
          IsConverted p (promoted_type (value typing).type) a → ArePassed [] others as_ →
          ArePassed [] (p ∷ others) (a ∷ as_)

    -- ---- the size of an allocation (C99 7.20.3): the type of an element, and how many there are; nothing for one object. Only the count is computed, as a size_t

    pub data IsAllocated : Role → InPlace → Ty → Option TypedExpr → Type 0 where
      one_object : {role : Role} {p : InPlace} {element : Ty} → IsSizeof p element →
          IsAllocated role p element None
      size_times : {role : Role} {p s n : InPlace} {element : Ty} {a : TypedExpr} →
          form_of p ≡ ExprForm-F.Binary binary.Multiply s n → IsSizeof s element → holds_sizeof n ≡ false →
          IsConverted n size_type a → IsAllocated role p element (Some a)
      times_size : {role : Role} {p s n : InPlace} {element : Ty} {a : TypedExpr} →
          form_of p ≡ ExprForm-F.Binary binary.Multiply n s → IsSizeof s element → holds_sizeof n ≡ false →
          IsConverted n size_type a → IsAllocated role p element (Some a)
      -- the call is converted directly to a pointer to bytes
      bytes : {role : Role} {p : InPlace} {element : Ty} {a : TypedExpr} → holds_sizeof p ≡ false →
          role ≡ ConvertedTo (Pointer element) → IsConverted p size_type a →
          IsAllocated role p element (Some a)

    -- ---- calls of the library (POSIX, pthread.h; C99 7.19, 7.20)

    pub data IsLibraryCall : Role → LibraryFunction → List InPlace → OpenLibraryCall → Type 0 where
      listed : {role : Role} {f : LibraryFunction} {arguments : List InPlace} {as_ : List TypedExpr}
          {call : OpenLibraryCall} → ArePassed f.passes arguments as_ → IsCallBy f.name as_ call →
          IsLibraryCall role f arguments call
      create : {role : Role} {f : LibraryFunction} {id attribute routine argument : InPlace} {a b : TypedExpr}
          {d : Declared} {e : ℕ} → f.name ≡ codes "pthread_create" →
          ArePassed f.passes (id ∷ attribute ∷ routine ∷ argument ∷ []) (a ∷ b ∷ []) →
          (expression routine.1 routine.0).look.routine ≡ Some d → IsEntityAt tables d.ordinal e →
          IsLibraryCall role f (id ∷ attribute ∷ routine ∷ argument ∷ []) (LibraryCall-F.Create a e b)
      allocate : {role : Role} {f : LibraryFunction} {size : InPlace} {element : Ty} {at : ℕ}
          {count : Option TypedExpr} → f.name ≡ codes "malloc" → IsAllocated role size element count →
          Means tables.types at element →
          IsLibraryCall role f (size ∷ []) (LibraryCall-F.Allocate at count false)
      allocate_zeroed : {role : Role} {f : LibraryFunction} {count size : InPlace} {element : Ty} {at : ℕ}
          {a : TypedExpr} → f.name ≡ codes "calloc" → IsConverted count size_type a → IsSizeof size element →
          Means tables.types at element →
          IsLibraryCall role f (count ∷ size ∷ []) (LibraryCall-F.Allocate at (Some a) true)
      print : {role : Role} {f : LibraryFunction} {arguments : List InPlace} {format : TypedExpr}
          {others : List TypedExpr} → f.name ≡ codes "printf" →
          ArePassed f.passes arguments (format ∷ others) →
          IsLibraryCall role f arguments (LibraryCall-F.Print format others)
