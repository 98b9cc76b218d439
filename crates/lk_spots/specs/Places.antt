-- A property of each place in an expression, a declarator or a specifier: of its own place, and of those of
-- all nodes in it. Each family says it of one kind of node, by the parts of its form.
use Rattle.std.specs.Prelude.{◌≡◌, ℕ, ℤ, Bool, List, Option, Some}
use Rattle.lk_base.specs.declared.kind.Kind.{Kind}
use Rattle.lk_base.specs.declared.spot.Spot.{Spot}
use Rattle.lk_tree.specs.declared.expression.Declarator.{Declarator}
use Rattle.lk_tree.specs.declared.expression.DeclaratorForm.TheOpen.{DeclaratorForm-F, ExprForm-F, MemberDeclarator-F, Specifier-F}
use Rattle.lk_tree.specs.declared.expression.DeclaratorForm.{DeclaratorForm, out-DeclaratorForm}
use Rattle.lk_tree.specs.declared.expression.Expr.{Expr}
use Rattle.lk_tree.specs.declared.expression.ExprForm.{ExprForm, out-ExprForm}
use Rattle.lk_tree.specs.declared.expression.Item.{Item, out-Item}
use Rattle.lk_tree.specs.declared.expression.Member.{Member}
use Rattle.lk_tree.specs.declared.expression.MemberDeclarator.{MemberDeclarator, out-MemberDeclarator}
use Rattle.lk_tree.specs.declared.expression.Parameter.{Parameter, out-Parameter}
use Rattle.lk_tree.specs.declared.expression.Specifier.{Specifier, out-Specifier}
use Rattle.lk_tree.specs.declared.expression.TypeName.{TypeName, out-TypeName}
use Rattle.lk_tree.specs.declared.operators.AssignOperator.{AssignOperator}
use Rattle.lk_tree.specs.declared.operators.BinaryOperator.{BinaryOperator}
use Rattle.lk_tree.specs.declared.operators.PrefixOperator.{PrefixOperator}
use Rattle.lk_tree.specs.declared.operators.StepOperator.{StepOperator}
use Rattle.lk_tree.specs.declared.specifiers.Qualifier.{Qualifier}
use Rattle.lk_tree.specs.declared.specifiers.Storage.{Storage}
use Rattle.lk_tree.specs.declared.specifiers.TypeWord.{TypeWord}
use Rattle.lk_typed.specs.Stands.{IsIn}

-- each of these has a property
abbrev pub Each : {A : Type 0} → (A → Type 0) → List A → Type 0
Each {A} Q list = (a : A) → IsIn a list → Q a

-- a part that may be missing has a property where it is there
abbrev pub IfThere : {A : Type 0} → (A → Type 0) → Option A → Type 0
IfThere {A} Q part = (a : A) → part ≡ Some a → Q a

abbrev pub ExprLayer : Type 0
ExprLayer =
    ExprForm-F DeclaratorForm ExprForm MemberDeclarator Specifier Declarator Expr Item Member
    Parameter TypeName

abbrev pub DeclaratorLayer : Type 0
DeclaratorLayer =
    DeclaratorForm-F DeclaratorForm ExprForm MemberDeclarator Specifier Declarator Expr Item Member
    Parameter TypeName

abbrev pub SpecifierLayer : Type 0
SpecifierLayer =
    Specifier-F DeclaratorForm ExprForm MemberDeclarator Specifier Declarator Expr Item Member
    Parameter TypeName

abbrev pub FieldLayer : Type 0
FieldLayer =
    MemberDeclarator-F DeclaratorForm ExprForm MemberDeclarator Specifier Declarator Expr Item Member
    Parameter TypeName

module _ (P : Spot → Type 0) where
  mutual
    pub data ExprSpots : Expr → Type 0 where
      expr : {e : Expr} → P e.spot → ExprFormSpots (out-ExprForm e.form) → ExprSpots e

    pub data ExprFormSpots : ExprLayer → Type 0 where
      comma : {left right : Expr} → ExprSpots left → ExprSpots right →
          ExprFormSpots (ExprForm-F.Comma left right)
      assign : {op : AssignOperator} {left right : Expr} → ExprSpots left → ExprSpots right →
          ExprFormSpots (ExprForm-F.Assign op left right)
      choice : {condition yes no : Expr} → ExprSpots condition → ExprSpots yes → ExprSpots no →
          ExprFormSpots (ExprForm-F.Choice condition yes no)
      binary : {op : BinaryOperator} {left right : Expr} → ExprSpots left → ExprSpots right →
          ExprFormSpots (ExprForm-F.Binary op left right)
      cast : {name : TypeName} {operand : Expr} → TypeNameSpots name → ExprSpots operand →
          ExprFormSpots (ExprForm-F.Cast name operand)
      pre : {op : StepOperator} {operand : Expr} → ExprSpots operand →
          ExprFormSpots (ExprForm-F.Pre op operand)
      prefix : {op : PrefixOperator} {operand : Expr} → ExprSpots operand →
          ExprFormSpots (ExprForm-F.Prefix op operand)
      sizeof_expr : {operand : Expr} → ExprSpots operand → ExprFormSpots (ExprForm-F.SizeofExpr operand)
      sizeof_type : {name : TypeName} → TypeNameSpots name → ExprFormSpots (ExprForm-F.SizeofType name)
      index : {array inner : Expr} → ExprSpots array → ExprSpots inner →
          ExprFormSpots (ExprForm-F.Index array inner)
      call : {function : Expr} {arguments : List Expr} → ExprSpots function →
          ((a : Expr) → IsIn a arguments → ExprSpots a) → ExprFormSpots (ExprForm-F.Call function arguments)
      member : {object : Expr} {name : List ℕ} → ExprSpots object →
          ExprFormSpots (ExprForm-F.Member object name)
      arrow : {pointer : Expr} {name : List ℕ} → ExprSpots pointer →
          ExprFormSpots (ExprForm-F.Arrow pointer name)
      post : {op : StepOperator} {operand : Expr} → ExprSpots operand →
          ExprFormSpots (ExprForm-F.Post op operand)
      word : {name : List ℕ} → ExprFormSpots (ExprForm-F.Word name)
      number : {kind : Kind} {value : ℕ} → ExprFormSpots (ExprForm-F.Number kind value)
      char : {value : ℤ} → ExprFormSpots (ExprForm-F.Char value)
      text : {bytes : List ℕ} → ExprFormSpots (ExprForm-F.Text bytes)
      paren : {inner : Expr} → ExprSpots inner → ExprFormSpots (ExprForm-F.Paren inner)

    pub data TypeNameSpots : TypeName → Type 0 where
      type_name : {n : TypeName} → P (out-TypeName n).spot →
          ((a : Specifier) → IsIn a (out-TypeName n).specifiers → SpecifierSpots a) →
          ((a : Declarator) → (out-TypeName n).declarator ≡ Some a → DeclaratorSpots a) → TypeNameSpots n

    pub data SpecifierSpots : Specifier → Type 0 where
      specifier : {s : Specifier} → SpecifierFormSpots (out-Specifier s) → SpecifierSpots s

    pub data SpecifierFormSpots : SpecifierLayer → Type 0 where
      storage : {word : Storage} → SpecifierFormSpots (Specifier-F.Storage word)
      inline : SpecifierFormSpots Specifier-F.Inline
      qualifier : {word : Qualifier} → SpecifierFormSpots (Specifier-F.Qualifier word)
      type : {word : TypeWord} → SpecifierFormSpots (Specifier-F.Type word)
      struct : {tag : Option (List ℕ)} {members : List Member} →
          ((a : Member) → IsIn a members → MemberSpots a) →
          SpecifierFormSpots (Specifier-F.Struct tag members)
      struct_tag : {tag : List ℕ} → SpecifierFormSpots (Specifier-F.StructTag tag)
      enum : {tag : Option (List ℕ)} {items : List Item} → ((a : Item) → IsIn a items → ItemSpots a) →
          SpecifierFormSpots (Specifier-F.Enum tag items)
      enum_tag : {tag : List ℕ} → SpecifierFormSpots (Specifier-F.EnumTag tag)
      typedef : {name : List ℕ} → SpecifierFormSpots (Specifier-F.Typedef name)

    pub data MemberSpots : Member → Type 0 where
      member_one : {m : Member} → P m.spot → ((a : Specifier) → IsIn a m.specifiers → SpecifierSpots a) →
          ((a : MemberDeclarator) → IsIn a m.declarators → FieldSpots a) → MemberSpots m

    -- a declarator of a member
    pub data FieldSpots : MemberDeclarator → Type 0 where
      field : {d : MemberDeclarator} → FieldFormSpots (out-MemberDeclarator d) → FieldSpots d

    pub data FieldFormSpots : FieldLayer → Type 0 where
      plain : {inner : Declarator} → DeclaratorSpots inner → FieldFormSpots (MemberDeclarator-F.Plain inner)
      width : {inner : Declarator} {bits : Expr} → DeclaratorSpots inner → ExprSpots bits →
          FieldFormSpots (MemberDeclarator-F.Field inner bits)
      unnamed : {bits : Expr} → ExprSpots bits → FieldFormSpots (MemberDeclarator-F.Unnamed bits)

    pub data ItemSpots : Item → Type 0 where
      item : {i : Item} → P (out-Item i).spot →
          ((a : Expr) → (out-Item i).value ≡ Some a → ExprSpots a) → ItemSpots i

    pub data DeclaratorSpots : Declarator → Type 0 where
      declarator : {d : Declarator} → P d.spot →
          DeclaratorFormSpots (out-DeclaratorForm d.form) → DeclaratorSpots d

    pub data DeclaratorFormSpots : DeclaratorLayer → Type 0 where
      star : {qualifiers : List Qualifier} {inner : Option Declarator} →
          ((a : Declarator) → inner ≡ Some a → DeclaratorSpots a) →
          DeclaratorFormSpots (DeclaratorForm-F.Star qualifiers inner)
      named : {name : List ℕ} → DeclaratorFormSpots (DeclaratorForm-F.Named name)
      group : {inner : Declarator} → DeclaratorSpots inner →
          DeclaratorFormSpots (DeclaratorForm-F.Group inner)
      array : {inner : Option Declarator} {size : Option Expr} →
          ((a : Declarator) → inner ≡ Some a → DeclaratorSpots a) →
          ((a : Expr) → size ≡ Some a → ExprSpots a) →
          DeclaratorFormSpots (DeclaratorForm-F.ArrayOf inner size)
      function : {inner : Option Declarator} {parameters : List Parameter} {dots : Bool} →
          ((a : Declarator) → inner ≡ Some a → DeclaratorSpots a) →
          ((a : Parameter) → IsIn a parameters → ParameterSpots a) →
          DeclaratorFormSpots (DeclaratorForm-F.FunctionOf inner parameters dots)

    pub data ParameterSpots : Parameter → Type 0 where
      parameter : {p : Parameter} → P (out-Parameter p).spot →
          ((a : Specifier) → IsIn a (out-Parameter p).specifiers → SpecifierSpots a) →
          ((a : Declarator) → (out-Parameter p).declarator ≡ Some a → DeclaratorSpots a) → ParameterSpots p
