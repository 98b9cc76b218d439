-- The kind of a node, its number, and whether it has the number of a part of it.
use Rattle.std.specs.Prelude.{ℕ, Bool, true, false}
use Rattle.lk_tree.specs.declared.declaration.Entry.{Entry}
use Rattle.lk_tree.specs.declared.declaration.Init.TheOpen.{Init-F}
use Rattle.lk_tree.specs.declared.declaration.Init.{Init, out-Init}
use Rattle.lk_tree.specs.declared.declaration.InitList.{InitList}
use Rattle.lk_typed.specs.NodeRules.{mark_of}
use Rattle.lk_typed.specs.Nodes.{Node, AnExternal, ADeclaration, ADefinition, AMember, AnItem, AParameter, ATypeName, ADeclarator, AnInitialiser, AStatement, AnExpression}

pub data Kind : Type 0 where
  External : Kind
  Declaration : Kind
  Definition : Kind
  Member : Kind
  Item : Kind
  Parameter : Kind
  TypeName : Kind
  Declarator : Kind
  Initialiser : Kind
  Statement : Kind
  Expression : Kind

abbrev pub kind_of : Node → Kind
kind_of (AnExternal d) = External
kind_of (ADeclaration scope node) = Declaration
kind_of (ADefinition node) = Definition
kind_of (AMember before m) = Member
kind_of (AnItem before i) = Item
kind_of (AParameter lone p) = Parameter
kind_of (ATypeName n) = TypeName
kind_of (ADeclarator left d) = Declarator
kind_of (AnInitialiser object init) = Initialiser
kind_of (AStatement around s) = Statement
kind_of (AnExpression e) = Expression

abbrev pub number_of : Node → ℕ
number_of node = (mark_of node).ordinal

abbrev pub is_expression : Init-F Init Entry InitList → Bool
is_expression (Init-F.Expr e) = true
is_expression (Init-F.List entries) = false

-- an external declaration has the number of the declaration or definition that it is, and an initialiser
-- without braces that of its expression
abbrev pub is_numbered_by_its_part : Node → Bool
is_numbered_by_its_part (AnExternal d) = true
is_numbered_by_its_part (ADeclaration scope node) = false
is_numbered_by_its_part (ADefinition node) = false
is_numbered_by_its_part (AMember before m) = false
is_numbered_by_its_part (AnItem before i) = false
is_numbered_by_its_part (AParameter lone p) = false
is_numbered_by_its_part (ATypeName n) = false
is_numbered_by_its_part (ADeclarator left d) = false
is_numbered_by_its_part (AnInitialiser object init) = is_expression (out-Init init)
is_numbered_by_its_part (AStatement around s) = false
is_numbered_by_its_part (AnExpression e) = false
