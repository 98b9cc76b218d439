-- The names of which an expression speaks itself: the name that it is, and the one whose address it takes;
-- and when what is recorded of them is true and whole.
use Rattle.std.specs.Prelude.{ℕ, ◌≡◌, ◌≤◌, ⊤, Option, Some, None, List, nat_eq}
use Rattle.std.specs.Map.{lookup}
use Rattle.lk_tree.specs.declared.expression.DeclaratorForm.TheOpen.{ExprForm-F}
use Rattle.lk_tree.specs.declared.expression.Expr.{Expr}
use Rattle.lk_tree.specs.declared.operators.PrefixOperator.{PrefixOperator}
use Rattle.lk_tree.specs.declared.operators.PrefixOperator.TheVariants as prefix
use Rattle.lk_types.specs.Table.{Table}
use Rattle.lk_typed.specs.Elaborated.{InPlace, PlacedForm, form_of}
use Rattle.lk_typed.specs.Env.{Declared, Env, Name, look_up}
use Rattle.lk_typed.specs.Expressions.{AText, AWord, AnotherForm, Plainly, expression, written}
use Rattle.lk_typed.specs.Names.{IsKnownMeaning, meaning_in}
use Rattle.lk_typed.specs.NodeParts.{parts}
use Rattle.lk_typed.specs.NodeRules.{breaches, hiding, mark_of}
use Rattle.lk_typed.specs.Nodes.{AnExpression, Node, Placed}
use Rattle.lk_typed.specs.Stands.{IsIn, Stands}
use Rattle.lk_typed.specs.declared.entity.Use.{Use}
use Rattle.lk_found.specs.Recorded.{use_of}
use Rattle.lk_found.specs.Truth.{AddsTruth}
use Rattle.lk_found.specs.declared.records.Meant.{Meant}
use Rattle.lk_found.specs.declared.records.NamesIn.{NamesIn}

-- ---- names

-- what a name stands for, where there is one
abbrev pub found_by : Env → Option Name → Option Declared
found_by env None = None
found_by env (Some name) = look_up env name

abbrev pub name_written : Plainly → Option Name
name_written (AWord name) = Some name
name_written (AText bytes) = None
name_written AnotherForm = None

-- the name that an expression is (C99 6.5.1, 2)
abbrev pub word_in : Env → Expr → Option Declared
word_in env e = found_by env (name_written (written e))

abbrev pub address_by : PrefixOperator → InPlace → Option Declared
address_by prefix.Address operand = (expression operand.1 operand.0).look.word
address_by prefix.Indirection operand = None
address_by prefix.Plus operand = None
address_by prefix.Minus operand = None
address_by prefix.Complement operand = None
address_by prefix.Not operand = None

abbrev pub address_in : PlacedForm → Option Declared
address_in (ExprForm-F.Comma left right) = None
address_in (ExprForm-F.Assign op left right) = None
address_in (ExprForm-F.Choice condition taken other) = None
address_in (ExprForm-F.Binary op left right) = None
address_in (ExprForm-F.Cast type operand) = None
address_in (ExprForm-F.Pre op operand) = None
address_in (ExprForm-F.Prefix op operand) = address_by op operand
address_in (ExprForm-F.SizeofExpr operand) = None
address_in (ExprForm-F.SizeofType type) = None
address_in (ExprForm-F.Index array inner) = None
address_in (ExprForm-F.Call function arguments) = None
address_in (ExprForm-F.Member object member) = None
address_in (ExprForm-F.Arrow pointer member) = None
address_in (ExprForm-F.Post op operand) = None
address_in (ExprForm-F.Word name) = None
address_in (ExprForm-F.Number kind number) = None
address_in (ExprForm-F.Char number) = None
address_in (ExprForm-F.Text bytes) = None
address_in (ExprForm-F.Paren inner) = None

-- the name whose address it takes, perhaps in parentheses (C99 6.5.3.2)
abbrev pub taken_in : Env → Expr → Option Declared
taken_in env e = address_in (form_of (env, e))

-- ---- what a name stands for, as it is recorded

pub record StandsFor (table : Table) (meant : Meant) (declared : Declared) : Type 0 where
  pub meaning : meaning_in table meant.meaning ≡ declared.meaning
  pub ordinal : meant.ordinal ≡ declared.ordinal
  pub known : IsKnownMeaning table meant.meaning

abbrev pub IsMeant : Table → Option Meant → Option Declared → Type 0
IsMeant table None None = ⊤
IsMeant table None (Some declared) = ⊥
IsMeant table (Some meant) None = ⊥
IsMeant table (Some meant) (Some declared) = StandsFor table meant declared

-- the names of which an expression speaks in its environment
pub record AreNamesIn (table : Table) (env : Env) (e : Expr) (names : NamesIn) : Type 0 where
  pub word : IsMeant table names.word (word_in env e)
  pub taken : IsMeant table names.taken (taken_in env e)

-- the expression with this number is a name that stands for this
pub record IsOfWord (table : Table) (n : ℕ) (meant : Meant) (env : Env) (node : Node) : Type 0 where
  pub e : Expr
  pub is : node ≡ AnExpression e
  pub number : n ≡ e.ordinal
  pub declared : Declared
  pub found : word_in env e ≡ Some declared
  pub stands_for : StandsFor table meant declared

-- ---- the first expressions that speak of names, by the numbers of the nodes that declare these

-- one that stands no later speaks of the name
abbrev pub HasUse : List (ℕ × Use) → (declaring ordinal : ℕ) → Type 0
HasUse uses declaring ordinal =
    (used : Use) × (lookup (nat_eq declaring) uses ≡ Some used) × (used.ordinal ≤ ordinal)

-- `spoken_of` gives the name of which an expression speaks
module _ (spoken_of : Env → Expr → Option Declared) where
  -- an expression speaks of the name that the node with this number declares
  pub record IsOfUse (declaring : ℕ) (used : Use) (env : Env) (node : Node) : Type 0 where
    pub e : Expr
    pub is : node ≡ AnExpression e
    pub used_at : used ≡ use_of e
    pub declared : Declared
    pub found : spoken_of env e ≡ Some declared
    pub number : declared.ordinal ≡ declaring

  -- each expression in these nodes that speaks of a name is one, or a later one
  abbrev pub HasUses : Env → List Placed → List (ℕ × Use) → Type 0
  HasUses at_end nodes uses =
      (outer : Placed) → IsIn outer nodes → (env : Env) (e : Expr) (declared : Declared) →
      Stands (parts at_end) (breaches at_end) (hiding at_end) mark_of outer.env outer.node env
      (AnExpression e) → spoken_of env e ≡ Some declared → HasUse uses declared.ordinal e.ordinal

  -- what was there before, perhaps earlier, and what the expressions in these nodes speak of
  pub record AddsUses (at_end : Env) (old : List (ℕ × Use)) (nodes : List Placed)
      (new : List (ℕ × Use)) : Type 0 where
    pub truth : AddsTruth at_end IsOfUse old nodes new
    pub kept : (declaring ordinal : ℕ) → HasUse old declaring ordinal → HasUse new declaring ordinal
    pub each : HasUses at_end nodes new
