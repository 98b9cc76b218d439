-- What is read is behind what it is read from.
use Rattle.std.proofs.Common.{◌≡◌, ℕ, ◌+◌, ◌≤◌, Bool, false, List, [], ◌∷◌, Option, length, drop, refl, arith}
use Rattle.lk_lex.specs.declared.token.TokenKind.TheVariants as k
use Rattle.lk_lex.specs.declared.token.Token.{Token}
use Rattle.lk_tree.specs.declared.specifiers.Qualifier.{Qualifier}
use Rattle.lk_tree.specs.declared.expression.Expr.{Expr}
use Rattle.lk_tree.specs.declared.expression.TypeName.{TypeName}
use Rattle.lk_tree.specs.declared.expression.Specifier.{Specifier}
use Rattle.lk_tree.specs.declared.expression.Member.{Member}
use Rattle.lk_tree.specs.declared.expression.MemberDeclarator.{MemberDeclarator}
use Rattle.lk_tree.specs.declared.expression.Item.{Item}
use Rattle.lk_tree.specs.declared.expression.Declarator.{Declarator}
use Rattle.lk_tree.specs.declared.expression.Parameter.{Parameter}
use Rattle.lk_parse_expr.specs.declared.naming.Naming.{Naming}
use Rattle.lk_parse_expr.specs.declared.naming.Head.{Head}
use Rattle.lk_parse_expr.specs.declared.naming.Head.TheVariants as head
use Rattle.lk_parse_expr.specs.Input.{Input, kind_of, peek, next, text, declare, leave}
use Rattle.lk_parse_expr.specs.Heads.{declare_head}
use Rattle.lk_parse_expr.specs.Readers.{left}
use Rattle.lk_parse_expr.specs.Grammar as g
use Rattle.lk_parse_expr.specs.Grammar.{ReadsTexts, ReadsQualifiers, ReadsExpr, ReadsArguments, ReadsExprs, ReadsTypeName, ReadsSpecifiers, ReadsSpecifier, ReadsTag, ReadsMembers, ReadsMember, ReadsMemberDeclarators, ReadsMemberDeclarator, ReadsItems, ReadsItem, ReadsDeclarator, ReadsSize, ReadsParameters, ReadsParameterList, ReadsParameter}

dropped : (tokens : List Token) → length (drop 1 tokens) ≤ length tokens
dropped [] = omega arith
dropped (t ∷ ts) = omega arith

pub left-next : (i : Input) → left (next i) ≤ left i
unfolding left next
left-next i = dropped i.tokens

taken : (tokens : List Token) → (kind_of tokens ≡ k.End → ⊥) → length (drop 1 tokens) + 1 ≡ length tokens
taken [] some = absurd (some refl)
taken (t ∷ ts) some = omega arith

-- a token that is not the end is taken
pub left-took : (i : Input) → (peek i ≡ k.End → ⊥) → left (next i) + 1 ≡ left i
unfolding left next peek
left-took i some = taken i.tokens some

pub left-declare : (name : List ℕ) (typedef : Bool) (i : Input) → left (declare name typedef i) ≡ left i
unfolding left declare
left-declare name typedef i = refl

pub left-leave : (outer i : Input) → left (leave outer i) ≡ left i
unfolding left leave
left-leave outer i = refl

pub left-head : (h : Head) (typedef : Bool) (i : Input) → left (declare_head h typedef i) ≡ left i
left-head head.Abstract typedef i = refl
left-head (head.Bare name) typedef i = left-declare name typedef i
left-head (head.Function name parameters) typedef i = left-declare name typedef i
left-head (head.Other name) typedef i = left-declare name typedef i

pub left-texts : {bytes : List ℕ} {from rest : Input} → ReadsTexts bytes from rest → left rest ≤ left from
left-texts (g.text_last {from} is) = left-next from
left-texts (g.text_more {from = from} is others) = omega (arith, left-next from, left-texts others)

pub left-qualifiers : {list : List Qualifier} {from rest : Input} → ReadsQualifiers list from rest → left rest ≤ left from
left-qualifiers (g.qualifiers_none is) = omega arith
left-qualifiers (g.qualifiers_more {from = from} is others) = omega (arith, left-next from, left-qualifiers others)

mutual
  pub left-expr : {level h : ℕ} {e : Expr} {from rest : Input} → ReadsExpr level h e from rest → left rest ≤ left from
  left-expr (g.comma {mid = mid} l a is b) = omega (arith, left-next mid, left-expr a, left-expr b)
  left-expr (g.assign {mid = mid} op l a is b) = omega (arith, left-next mid, left-expr a, left-expr b)
  left-expr (g.choice {mid = mid} {colon} l a is b so c) = omega (arith, left-next mid, left-next colon, left-expr a, left-expr b, left-expr c)
  left-expr (g.binary {mid = mid} op l a is b) = omega (arith, left-next mid, left-expr a, left-expr b)
  left-expr (g.cast {from = from} {close} l is begins name so operand) = omega (arith, left-next from, left-next close, left-type_name name, left-expr operand)
  left-expr (g.pre {from = from} op l is operand) = omega (arith, left-next from, left-expr operand)
  left-expr (g.prefix {from = from} op l is operand) = omega (arith, left-next from, left-expr operand)
  left-expr (g.sizeof_expr {from = from} l is opens operand) = omega (arith, left-next from, left-expr operand)
  left-expr (g.sizeof_type {from = from} {close} l is opens name so) = omega (arith, left-next from, left-next (next from), left-next close, left-type_name name)
  left-expr (g.index {mid = mid} {close} l a is b so) = omega (arith, left-next mid, left-next close, left-expr a, left-expr b)
  left-expr (g.call {mid = mid} {close} l a is b so) = omega (arith, left-next mid, left-next close, left-expr a, left-arguments b)
  left-expr (g.member {mid = mid} l a is so) = omega (arith, left-next mid, left-next (next mid), left-expr a)
  left-expr (g.arrow {mid = mid} l a is so) = omega (arith, left-next mid, left-next (next mid), left-expr a)
  left-expr (g.post {mid = mid} op l a is) = omega (arith, left-next mid, left-expr a)
  left-expr (g.word {from = from} l is) = left-next from
  left-expr (g.number {from = from} l is) = left-next from
  left-expr (g.char {from = from} l is) = left-next from
  left-expr (g.texts l is) = left-texts is
  left-expr (g.paren {from = from} {close} l is begins inner so) = omega (arith, left-next from, left-next close, left-expr inner)

  pub left-arguments : {h : ℕ} {list : List Expr} {from rest : Input} → ReadsArguments h list from rest → left rest ≤ left from
  left-arguments (g.arguments_none is) = omega arith
  left-arguments (g.arguments_some list) = left-exprs list

  pub left-exprs : {h : ℕ} {list : List Expr} {from rest : Input} → ReadsExprs h list from rest → left rest ≤ left from
  left-exprs (g.exprs_last one) = left-expr one
  left-exprs (g.exprs_more {mid = mid} one is others) = omega (arith, left-next mid, left-expr one, left-exprs others)

  pub left-type_name : {h : ℕ} {name : TypeName} {from rest : Input} → ReadsTypeName h name from rest → left rest ≤ left from
  left-type_name (g.name_plain list) = left-specifiers list
  left-type_name (g.name_declared list inner) = omega (arith, left-specifiers list, left-declarator inner)

  pub left-specifiers : {typed typedef : Bool} {h : ℕ} {list : List Specifier} {from rest : Input} → ReadsSpecifiers typed h typedef list from rest → left rest ≤ left from
  left-specifiers (g.specifiers_last one is) = left-specifier one
  left-specifiers (g.specifiers_more one others) = omega (arith, left-specifier one, left-specifiers others)

  pub left-specifier : {typed after typedef : Bool} {h : ℕ} {one : Specifier} {from rest : Input} → ReadsSpecifier typed after h typedef one from rest → left rest ≤ left from
  left-specifier (g.spec_keyword {from = from} specifier is) = left-next from
  left-specifier (g.spec_name {from} is so) = left-next from
  left-specifier (g.spec_struct_tag {from = from} is so not) = omega (arith, left-next from, left-next (next from))
  left-specifier (g.spec_struct {from = from} {brace} {close} is tag so list ends) = omega (arith, left-next from, left-next brace, left-next close, left-tag tag, left-members list)
  left-specifier (g.spec_enum_tag {from = from} is so not) = omega (arith, left-next from, left-next (next from))
  left-specifier (g.spec_enum {from = from} {brace} {close} is tag so list ends) = omega (arith, left-next from, left-next brace, left-next close, left-tag tag, left-items list)

  pub left-tag : {tag : Option (List ℕ)} {from rest : Input} → ReadsTag tag from rest → left rest ≤ left from
  left-tag (g.tag_none is) = omega arith
  left-tag (g.tag_some {from} is) = left-next from

  pub left-members : {h : ℕ} {list : List Member} {from rest : Input} → ReadsMembers h list from rest → left rest ≤ left from
  left-members (g.members_last one) = left-member one
  left-members (g.members_more one others) = omega (arith, left-member one, left-members others)

  pub left-member : {h : ℕ} {one : Member} {from rest : Input} → ReadsMember h one from rest → left rest ≤ left from
  left-member (g.member_one {rest = rest} list fields is) = omega (arith, left-next rest, left-specifiers list, left-fields fields)

  pub left-fields : {h : ℕ} {list : List MemberDeclarator} {from rest : Input} → ReadsMemberDeclarators h list from rest → left rest ≤ left from
  left-fields (g.fields_last one) = left-field one
  left-fields (g.fields_more {mid = mid} one is others) = omega (arith, left-next mid, left-field one, left-fields others)

  pub left-field : {h : ℕ} {one : MemberDeclarator} {from rest : Input} → ReadsMemberDeclarator h one from rest → left rest ≤ left from
  left-field (g.field_plain inner) = left-declarator inner
  left-field (g.field_width {mid = mid} inner is width) = omega (arith, left-next mid, left-declarator inner, left-expr width)
  left-field (g.field_unnamed {from = from} is width) = omega (arith, left-next from, left-expr width)

  pub left-items : {h : ℕ} {list : List Item} {from rest : Input} → ReadsItems h list from rest → left rest ≤ left from
  left-items (g.items_last one) = left-item one
  left-items (g.items_comma {rest = rest} one is so) = omega (arith, left-next rest, left-item one)
  left-items (g.items_more {mid = mid} one is others) = omega (arith, left-next mid, left-item one, left-items others)

  pub left-item : {h : ℕ} {one : Item} {from rest : Input} → ReadsItem h one from rest → left rest ≤ left from
  left-item (g.item_plain {from} is) = omega (arith, left-next from, left-declare (text from) false (next from))
  left-item (g.item_valued {from = from} {rest} is so value) =
      omega (arith, left-next from, left-next (next from), left-expr value, left-declare (text from) false rest)

  pub left-declarator : {n : Naming} {level h : ℕ} {one : Declarator} {head : Head} {from rest : Input} → ReadsDeclarator n level h one head from rest → left rest ≤ left from
  left-declarator (g.star {from = from} l is list inner) = omega (arith, left-next from, left-qualifiers list, left-declarator inner)
  left-declarator (g.star_alone {from = from} l may is list) = omega (arith, left-next from, left-qualifiers list)
  left-declarator (g.named {from = from} l may is) = left-next from
  left-declarator (g.group {from = from} {close} l is may inner so) = omega (arith, left-next from, left-next close, left-declarator inner)
  left-declarator (g.array {mid = mid} {close} l inner is size so) = omega (arith, left-next mid, left-next close, left-declarator inner, left-size size)
  left-declarator (g.array_alone {from = from} {close} l may is size so) = omega (arith, left-next from, left-next close, left-size size)
  left-declarator (g.function {mid = mid} {close} l inner is list so) =
      omega (arith, left-next mid, left-next close, left-declarator inner, left-parameters list, left-leave mid (next close))
  left-declarator (g.function_alone {from = from} {close} l may is opens list so) = omega (arith, left-next from, left-next close, left-parameters list, left-leave from (next close))

  pub left-size : {h : ℕ} {size : Option Expr} {from rest : Input} → ReadsSize h size from rest → left rest ≤ left from
  left-size (g.size_none is) = omega arith
  left-size (g.size_some e) = left-expr e

  pub left-parameters : {h : ℕ} {list : List Parameter} {dots : Bool} {from rest : Input} → ReadsParameters h list dots from rest → left rest ≤ left from
  left-parameters (g.parameters_none is) = omega arith
  left-parameters (g.parameters_some list) = left-parameter_list list

  pub left-parameter_list : {h : ℕ} {list : List Parameter} {dots : Bool} {from rest : Input} → ReadsParameterList h list dots from rest → left rest ≤ left from
  left-parameter_list (g.parameters_last one) = left-parameter one
  left-parameter_list (g.parameters_dots {rest = rest} one is so) = omega (arith, left-next rest, left-next (next rest), left-parameter one)
  left-parameter_list (g.parameters_more {mid = mid} one is others) = omega (arith, left-next mid, left-parameter one, left-parameter_list others)

  pub left-parameter : {h : ℕ} {one : Parameter} {from rest : Input} → ReadsParameter h one from rest → left rest ≤ left from
  left-parameter (g.parameter_plain list) = left-specifiers list
  left-parameter (g.parameter_declared {typedef = typedef} {head = head} {rest = rest} list inner) =
      omega (arith, left-specifiers list, left-declarator inner, left-head head typedef rest)
