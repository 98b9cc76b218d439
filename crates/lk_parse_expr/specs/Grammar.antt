-- The grammar of expressions, specifiers, declarators and type names (C99 6.5, 6.7), a
-- constructor for each production.
--
-- Each family relates a tree and its depth to the input from which it is read and to the input behind it. A
-- node has the place of its first token. The ordinals here are 0: they are given to the whole tree.
--
--     expr       = assign | Comma: expr "," assign
--     assign     = cond | Assign: cond op assign
--     cond       = binary | Choice: binary "?" expr ":" cond
-- binary     = cast | Binary: the ten levels of || && | ^ & == != < > <= >= << >> + - * /
-- %, each grouping to the left
--     cast       = unary | Cast: "(" typename ")" cast
--     unary      = postfix | Pre: ("++" | "--") unary | Prefix: ("&" | "*" | "+" | "-" | "~" | "!") cast
--                | SizeofExpr: "sizeof" unary | SizeofType: "sizeof" "(" typename ")"
--     postfix    = primary | Index: postfix "[" expr "]" | Call: postfix "(" [assign {"," assign}] ")"
--                | Member: postfix "." name | Arrow: postfix "->" name | Post: postfix ("++" | "--")
--     primary    = Word: name | Number | Char | Text: one or more texts | Paren: "(" expr ")"
--     typename   = specs [declarator without a name]
--     specs      = one or more specifiers; a typedef name is one exactly where no type came before it
--     struct     = "struct" [name] "{" member {member} "}" | "struct" name
--     member     = specs mdecl {"," mdecl} ";"
--     mdecl      = declarator [":" cond] | ":" cond
--     enum       = "enum" [name] "{" item {"," item} [","] "}" | "enum" name
--     item       = name ["=" cond]
--     declarator = Star: "*" {qualifier} declarator | direct
-- direct     = Named: name | Group: "(" declarator ")" | ArrayOf: direct "[" [assign] "]" |
-- FunctionOf: direct "(" [params] ")"
--     params     = param {"," param} ["," "..."]
--     param      = specs [declarator, with a name or without]
--
-- A `(` before what begins specifiers opens a type name and no Paren. In a declarator that may be without a
-- name, a `(` before `)` or before what begins specifiers opens parameters and no Group.
use Rattle.std.specs.Prelude.{◌≡◌, ℕ, ℤ, ◌+◌, ◌≤◌, max, Bool, true, false, ◌||◌, List, [], ◌∷◌, ◌++◌, Option, Some, None}
use Rattle.lk_lex.specs.declared.token.TokenKind.TheVariants as k
use Rattle.lk_lex.specs.declared.punct.Punct.TheVariants as p
use Rattle.lk_lex.specs.declared.keyword.Keyword.TheVariants as w
use Rattle.lk_base.specs.declared.kind.Kind.{Kind}
use Rattle.lk_base.specs.declared.spot.Spot.{Spot}
use Rattle.lk_tree.specs.declared.operators.BinaryOperator.{BinaryOperator}
use Rattle.lk_tree.specs.declared.operators.AssignOperator.{AssignOperator}
use Rattle.lk_tree.specs.declared.operators.StepOperator.{StepOperator}
use Rattle.lk_tree.specs.declared.operators.PrefixOperator.{PrefixOperator}
use Rattle.lk_tree.specs.declared.specifiers.Qualifier.{Qualifier}
use Rattle.lk_tree.specs.declared.expression.Expr.{Expr}
use Rattle.lk_tree.specs.declared.expression.ExprForm.{ExprForm}
use Rattle.lk_tree.specs.declared.expression.ExprForm.TheVariants as e
use Rattle.lk_tree.specs.declared.expression.TypeName.{TypeName, roll-TypeName}
use Rattle.lk_tree.specs.declared.expression.Specifier.{Specifier}
use Rattle.lk_tree.specs.declared.expression.Specifier.TheVariants as s
use Rattle.lk_tree.specs.declared.expression.Member.{Member}
use Rattle.lk_tree.specs.declared.expression.MemberDeclarator.{MemberDeclarator}
use Rattle.lk_tree.specs.declared.expression.MemberDeclarator.TheVariants as m
use Rattle.lk_tree.specs.declared.expression.Item.{Item, roll-Item}
use Rattle.lk_tree.specs.declared.expression.Declarator.{Declarator}
use Rattle.lk_tree.specs.declared.expression.DeclaratorForm.{DeclaratorForm}
use Rattle.lk_tree.specs.declared.expression.DeclaratorForm.TheVariants as d
use Rattle.lk_tree.specs.declared.expression.Parameter.{Parameter, roll-Parameter}
use Rattle.lk_parse_expr.specs.declared.naming.Naming.{Naming}
use Rattle.lk_parse_expr.specs.declared.naming.Naming.TheVariants as naming
use Rattle.lk_parse_expr.specs.declared.naming.Head.{Head}
use Rattle.lk_parse_expr.specs.declared.naming.Head.TheVariants as head
use Rattle.lk_parse_expr.specs.Input.{Input, peek, here, text, next, is_typedef, declare, leave, declared_since}
use Rattle.lk_lex.specs.Texts.{text_value}
use Rattle.lk_parse_expr.specs.Words.{level_of, binary_of, assign_of, step_of, prefix_of, qualifier_of, specifier_of, is_type_word, is_typedef_word, is_open_brace, continues_specifiers, begins_specifiers, opens_type_name, opens_parameters}
use Rattle.lk_parse_expr.specs.Heads.{may_name, may_omit, is_group, other, called, declare_head}

-- an expression whose first token is in front
abbrev pub expr_on : Spot → ExprForm → Expr
expr_on spot form = record { spot = spot; ordinal = 0; form = form }

abbrev pub expr_at : Input → ExprForm → Expr
expr_at from form = expr_on (here from) form

abbrev pub declarator_on : Spot → DeclaratorForm → Declarator
declarator_on spot form = record { spot = spot; ordinal = 0; form = form }

abbrev pub declarator_at : Input → DeclaratorForm → Declarator
declarator_at from form = declarator_on (here from) form

abbrev pub type_name_on : Spot → List Specifier → Option Declarator → TypeName
type_name_on spot specifiers inner =
    roll-TypeName (record { spot = spot; ordinal = 0; specifiers = specifiers; declarator = inner })

abbrev pub type_name_at : Input → List Specifier → Option Declarator → TypeName
type_name_at from specifiers inner = type_name_on (here from) specifiers inner

abbrev pub parameter_on : Spot → List Specifier → Option Declarator → Parameter
parameter_on spot specifiers inner =
    roll-Parameter (record { spot = spot; ordinal = 0; specifiers = specifiers; declarator = inner })

abbrev pub parameter_at : Input → List Specifier → Option Declarator → Parameter
parameter_at from specifiers inner = parameter_on (here from) specifiers inner

abbrev pub member_on : Spot → List Specifier → List MemberDeclarator → Member
member_on spot specifiers declarators =
    record { spot = spot; ordinal = 0; specifiers = specifiers; declarators = declarators }

abbrev pub member_at : Input → List Specifier → List MemberDeclarator → Member
member_at from specifiers declarators = member_on (here from) specifiers declarators

abbrev pub item_on : Spot → List ℕ → Option Expr → Item
item_on spot name value = roll-Item (record { spot = spot; ordinal = 0; name = name; value = value })

abbrev pub item_at : Input → Option Expr → Item
item_at from value = item_on (here from) (text from) value

-- one or more texts, by the bytes that they stand for together (C99 6.4.5)
pub data ReadsTexts : List ℕ → Input → Input → Type 0 where
  text_last : {from : Input} → peek from ≡ k.Text → ReadsTexts (text_value (text from)) from (next from)
  text_more : {bytes : List ℕ} {from rest : Input} → peek from ≡ k.Text → ReadsTexts bytes (next from) rest →
      ReadsTexts (text_value (text from) ++ bytes) from rest

-- qualifiers, perhaps none
pub data ReadsQualifiers : List Qualifier → Input → Input → Type 0 where
  qualifiers_none : {from : Input} → qualifier_of (peek from) ≡ None → ReadsQualifiers [] from from
  qualifiers_more : {first : Qualifier} {others : List Qualifier} {from rest : Input} →
      qualifier_of (peek from) ≡ Some first → ReadsQualifiers others (next from) rest →
      ReadsQualifiers (first ∷ others) from rest

mutual
  -- an expression that binds as tightly as the level or more tightly
  pub data ReadsExpr : (level depth : ℕ) → Expr → Input → Input → Type 0 where
    comma : {level g h : ℕ} {left right : Expr} {from mid rest : Input} → level ≤ 0
        → ReadsExpr 0 g left from mid → peek mid ≡ k.Punct p.Comma → ReadsExpr 1 h right (next mid) rest
        → ReadsExpr level (1 + max g h) (expr_at from (e.Comma left right)) from rest
    assign : {level g h : ℕ} {left right : Expr} {from mid rest : Input} (op : AssignOperator) → level ≤ 1
        → ReadsExpr 2 g left from mid → assign_of (peek mid) ≡ Some op → ReadsExpr 1 h right (next mid) rest
        → ReadsExpr level (1 + max g h) (expr_at from (e.Assign op left right)) from rest
    choice : {level g h l : ℕ} {condition yes no : Expr} {from mid colon rest : Input} → level ≤ 2 →
        ReadsExpr 3 g condition from mid → peek mid ≡ k.Punct p.Question →
        ReadsExpr 0 h yes (next mid) colon → peek colon ≡ k.Punct p.Colon →
        ReadsExpr 2 l no (next colon) rest →
        ReadsExpr level (1 + max g (max h l)) (expr_at from (e.Choice condition yes no)) from rest
    binary : {level g h : ℕ} {left right : Expr} {from mid rest : Input} (op : BinaryOperator) →
        level ≤ level_of op → ReadsExpr (level_of op) g left from mid → binary_of (peek mid) ≡ Some op →
        ReadsExpr (level_of op + 1) h right (next mid) rest →
        ReadsExpr level (1 + max g h) (expr_at from (e.Binary op left right)) from rest
    cast : {level g h : ℕ} {name : TypeName} {operand : Expr} {from close rest : Input} → level ≤ 13 →
        peek from ≡ k.Punct p.OpenParen → begins_specifiers (next from) ≡ true →
        ReadsTypeName g name (next from) close → peek close ≡ k.Punct p.CloseParen →
        ReadsExpr 13 h operand (next close) rest →
        ReadsExpr level (1 + max g h) (expr_at from (e.Cast name operand)) from rest
    pre : {level h : ℕ} {operand : Expr} {from rest : Input} (op : StepOperator) → level ≤ 14
        → step_of (peek from) ≡ Some op → ReadsExpr 14 h operand (next from) rest
        → ReadsExpr level (1 + h) (expr_at from (e.Pre op operand)) from rest
    prefix : {level h : ℕ} {operand : Expr} {from rest : Input} (op : PrefixOperator) → level ≤ 14
        → prefix_of (peek from) ≡ Some op → ReadsExpr 13 h operand (next from) rest
        → ReadsExpr level (1 + h) (expr_at from (e.Prefix op operand)) from rest
    sizeof_expr : {level h : ℕ} {operand : Expr} {from rest : Input} → level ≤ 14 →
        peek from ≡ k.Key w.Sizeof → opens_type_name (next from) ≡ false →
        ReadsExpr 14 h operand (next from) rest →
        ReadsExpr level (1 + h) (expr_at from (e.SizeofExpr operand)) from rest
    sizeof_type : {level h : ℕ} {name : TypeName} {from close : Input} → level ≤ 14 →
        peek from ≡ k.Key w.Sizeof → opens_type_name (next from) ≡ true →
        ReadsTypeName h name (next (next from)) close → peek close ≡ k.Punct p.CloseParen →
        ReadsExpr level (1 + h) (expr_at from (e.SizeofType name)) from (next close)
    index : {level g h : ℕ} {array inner : Expr} {from mid close : Input} → level ≤ 15 →
        ReadsExpr 15 g array from mid → peek mid ≡ k.Punct p.OpenBracket →
        ReadsExpr 0 h inner (next mid) close → peek close ≡ k.Punct p.CloseBracket →
        ReadsExpr level (1 + max g h) (expr_at from (e.Index array inner)) from (next close)
    call : {level g h : ℕ} {function : Expr} {arguments : List Expr} {from mid close : Input} → level ≤ 15 →
        ReadsExpr 15 g function from mid → peek mid ≡ k.Punct p.OpenParen →
        ReadsArguments h arguments (next mid) close → peek close ≡ k.Punct p.CloseParen →
        ReadsExpr level (1 + max g h) (expr_at from (e.Call function arguments)) from (next close)
    member : {level g : ℕ} {object : Expr} {from mid : Input} → level ≤ 15
        → ReadsExpr 15 g object from mid → peek mid ≡ k.Punct p.Dot → peek (next mid) ≡ k.Word
        → ReadsExpr level (1 + g) (expr_at from (e.Member object (text (next mid)))) from (next (next mid))
    arrow : {level g : ℕ} {pointer : Expr} {from mid : Input} → level ≤ 15
        → ReadsExpr 15 g pointer from mid → peek mid ≡ k.Punct p.Arrow → peek (next mid) ≡ k.Word
        → ReadsExpr level (1 + g) (expr_at from (e.Arrow pointer (text (next mid)))) from (next (next mid))
    post : {level g : ℕ} {operand : Expr} {from mid : Input} (op : StepOperator) → level ≤ 15
        → ReadsExpr 15 g operand from mid → step_of (peek mid) ≡ Some op
        → ReadsExpr level (1 + g) (expr_at from (e.Post op operand)) from (next mid)
    word : {level : ℕ} {from : Input} → level ≤ 16 → peek from ≡ k.Word →
        ReadsExpr level 1 (expr_at from (e.Word (text from))) from (next from)
    number : {level value : ℕ} {kind : Kind} {from : Input} → level ≤ 16 → peek from ≡ k.Number kind value
        → ReadsExpr level 1 (expr_at from (e.Number kind value)) from (next from)
    char : {level : ℕ} {value : ℤ} {from : Input} → level ≤ 16 → peek from ≡ k.Char value →
        ReadsExpr level 1 (expr_at from (e.Char value)) from (next from)
    texts : {level : ℕ} {bytes : List ℕ} {from rest : Input} → level ≤ 16 → ReadsTexts bytes from rest →
        ReadsExpr level 1 (expr_at from (e.Text bytes)) from rest
    paren : {level h : ℕ} {inner : Expr} {from close : Input} → level ≤ 16 → peek from ≡ k.Punct p.OpenParen →
        begins_specifiers (next from) ≡ false → ReadsExpr 0 h inner (next from) close →
        peek close ≡ k.Punct p.CloseParen →
        ReadsExpr level (1 + h) (expr_at from (e.Paren inner)) from (next close)

  -- the arguments of a call, perhaps none
  pub data ReadsArguments : ℕ → List Expr → Input → Input → Type 0 where
    arguments_none : {from : Input} → peek from ≡ k.Punct p.CloseParen → ReadsArguments 0 [] from from
    arguments_some : {h : ℕ} {arguments : List Expr} {from rest : Input} → ReadsExprs h arguments from rest →
        ReadsArguments h arguments from rest

  -- expressions with commas between them, one at least
  pub data ReadsExprs : ℕ → List Expr → Input → Input → Type 0 where
    exprs_last : {h : ℕ} {first : Expr} {from rest : Input} → ReadsExpr 1 h first from rest →
        ReadsExprs h (first ∷ []) from rest
    exprs_more : {g h : ℕ} {first : Expr} {others : List Expr} {from mid rest : Input} →
        ReadsExpr 1 g first from mid → peek mid ≡ k.Punct p.Comma → ReadsExprs h others (next mid) rest →
        ReadsExprs (max g h) (first ∷ others) from rest

  -- a type name (C99 6.7.6)
  pub data ReadsTypeName : ℕ → TypeName → Input → Input → Type 0 where
    name_plain : {h : ℕ} {typedef : Bool} {specifiers : List Specifier} {from rest : Input} →
        ReadsSpecifiers false h typedef specifiers from rest →
        ReadsTypeName (1 + h) (type_name_at from specifiers None) from rest
    name_declared : {g h : ℕ} {typedef : Bool} {specifiers : List Specifier} {inner : Declarator}
        {head : Head} {from mid rest : Input} → ReadsSpecifiers false g typedef specifiers from mid →
        ReadsDeclarator naming.Abstract 0 h inner head mid rest →
        ReadsTypeName (1 + max g h) (type_name_at from specifiers (Some inner)) from rest

  -- specifiers, where typed says whether a type came before them and typedef whether
  -- `typedef` is among them (C99 6.7)
  pub data ReadsSpecifiers : (typed : Bool) → ℕ → (typedef : Bool) → List Specifier → Input →
      Input → Type 0 where
    specifiers_last : {typed after typedef : Bool} {h : ℕ} {first : Specifier} {from rest : Input} →
        ReadsSpecifier typed after h typedef first from rest → continues_specifiers after rest ≡ false →
        ReadsSpecifiers typed h typedef (first ∷ []) from rest
    specifiers_more : {typed after a b : Bool} {g h : ℕ} {first : Specifier} {others : List Specifier}
        {from mid rest : Input} → ReadsSpecifier typed after g a first from mid →
        ReadsSpecifiers after h b others mid rest →
        ReadsSpecifiers typed (max g h) (a || b) (first ∷ others) from rest

  -- one specifier, where typed and after say whether a type came before what follows
  pub data ReadsSpecifier : (typed after : Bool) → ℕ → (typedef : Bool) → Specifier → Input →
      Input → Type 0 where
    spec_keyword : {typed : Bool} {from : Input} (specifier : Specifier) →
        specifier_of (peek from) ≡ Some specifier →
        ReadsSpecifier typed (typed || is_type_word (peek from)) 0
        (is_typedef_word (peek from)) specifier from (next from)
    spec_name : {from : Input} → peek from ≡ k.Word → is_typedef from.names (text from) ≡ true →
        ReadsSpecifier false true 0 false (s.Typedef (text from)) from (next from)
    spec_struct_tag : {typed : Bool} {from : Input} → peek from ≡ k.Key w.Struct → peek (next from) ≡ k.Word →
        is_open_brace (peek (next (next from))) ≡ false →
        ReadsSpecifier typed true 0 false (s.StructTag (text (next from))) from (next (next from))
    spec_struct : {typed : Bool} {h : ℕ} {tag : Option (List ℕ)} {members : List Member}
        {from brace close : Input} → peek from ≡ k.Key w.Struct → ReadsTag tag (next from) brace →
        peek brace ≡ k.Punct p.OpenBrace → ReadsMembers h members (next brace) close →
        peek close ≡ k.Punct p.CloseBrace →
        ReadsSpecifier typed true h false (s.Struct tag members) from (next close)
    spec_enum_tag : {typed : Bool} {from : Input} → peek from ≡ k.Key w.Enum → peek (next from) ≡ k.Word →
        is_open_brace (peek (next (next from))) ≡ false →
        ReadsSpecifier typed true 0 false (s.EnumTag (text (next from))) from (next (next from))
    spec_enum : {typed : Bool} {h : ℕ} {tag : Option (List ℕ)} {items : List Item}
        {from brace close : Input} → peek from ≡ k.Key w.Enum → ReadsTag tag (next from) brace →
        peek brace ≡ k.Punct p.OpenBrace → ReadsItems h items (next brace) close →
        peek close ≡ k.Punct p.CloseBrace →
        ReadsSpecifier typed true h false (s.Enum tag items) from (next close)

  -- the tag before a `{`, where there is one
  pub data ReadsTag : Option (List ℕ) → Input → Input → Type 0 where
    tag_none : {from : Input} → peek from ≡ k.Punct p.OpenBrace → ReadsTag None from from
    tag_some : {from : Input} → peek from ≡ k.Word → ReadsTag (Some (text from)) from (next from)

  -- the members of a struct, one at least
  pub data ReadsMembers : ℕ → List Member → Input → Input → Type 0 where
    members_last : {h : ℕ} {first : Member} {from rest : Input} → ReadsMember h first from rest →
        ReadsMembers h (first ∷ []) from rest
    members_more : {g h : ℕ} {first : Member} {others : List Member} {from mid rest : Input} →
        ReadsMember g first from mid → ReadsMembers h others mid rest →
        ReadsMembers (max g h) (first ∷ others) from rest

  pub data ReadsMember : ℕ → Member → Input → Input → Type 0 where
    member_one : {g h : ℕ} {typedef : Bool} {specifiers : List Specifier}
        {declarators : List MemberDeclarator} {from mid rest : Input} →
        ReadsSpecifiers false g typedef specifiers from mid → ReadsMemberDeclarators h declarators mid rest →
        peek rest ≡ k.Punct p.Semicolon →
        ReadsMember (1 + max g h) (member_at from specifiers declarators) from (next rest)

  pub data ReadsMemberDeclarators : ℕ → List MemberDeclarator → Input → Input → Type 0 where
    fields_last : {h : ℕ} {first : MemberDeclarator} {from rest : Input} →
        ReadsMemberDeclarator h first from rest → ReadsMemberDeclarators h (first ∷ []) from rest
    fields_more : {g h : ℕ} {first : MemberDeclarator} {others : List MemberDeclarator}
        {from mid rest : Input} → ReadsMemberDeclarator g first from mid → peek mid ≡ k.Punct p.Comma →
        ReadsMemberDeclarators h others (next mid) rest →
        ReadsMemberDeclarators (max g h) (first ∷ others) from rest

  pub data ReadsMemberDeclarator : ℕ → MemberDeclarator → Input → Input → Type 0 where
    field_plain : {h : ℕ} {inner : Declarator} {head : Head} {from rest : Input} →
        ReadsDeclarator naming.Named 0 h inner head from rest →
        ReadsMemberDeclarator h (m.Plain inner) from rest
    field_width : {g h : ℕ} {inner : Declarator} {head : Head} {width : Expr} {from mid rest : Input} →
        ReadsDeclarator naming.Named 0 g inner head from mid → peek mid ≡ k.Punct p.Colon →
        ReadsExpr 2 h width (next mid) rest → ReadsMemberDeclarator (max g h) (m.Field inner width) from rest
    field_unnamed : {h : ℕ} {width : Expr} {from rest : Input} → peek from ≡ k.Punct p.Colon →
        ReadsExpr 2 h width (next from) rest → ReadsMemberDeclarator h (m.Unnamed width) from rest

  -- the items of an enumeration, one at least, perhaps with a comma behind them
  pub data ReadsItems : ℕ → List Item → Input → Input → Type 0 where
    items_last : {h : ℕ} {first : Item} {from rest : Input} → ReadsItem h first from rest →
        ReadsItems h (first ∷ []) from rest
    items_comma : {h : ℕ} {first : Item} {from rest : Input} → ReadsItem h first from rest →
        peek rest ≡ k.Punct p.Comma → peek (next rest) ≡ k.Punct p.CloseBrace →
        ReadsItems h (first ∷ []) from (next rest)
    items_more : {g h : ℕ} {first : Item} {others : List Item} {from mid rest : Input} →
        ReadsItem g first from mid → peek mid ≡ k.Punct p.Comma → ReadsItems h others (next mid) rest →
        ReadsItems (max g h) (first ∷ others) from rest

  -- an item: its name is in scope behind it
  pub data ReadsItem : ℕ → Item → Input → Input → Type 0 where
    item_plain : {from : Input} → peek from ≡ k.Word →
        ReadsItem 1 (item_at from None) from (declare (text from) false (next from))
    item_valued : {h : ℕ} {value : Expr} {from rest : Input} → peek from ≡ k.Word →
        peek (next from) ≡ k.Punct p.Equal → ReadsExpr 2 h value (next (next from)) rest →
        ReadsItem (1 + h) (item_at from (Some value)) from (declare (text from) false rest)

  -- a declarator (level 0) or a direct one (level 1), and what it declares (C99 6.7.5)
  pub data ReadsDeclarator : Naming → (level depth : ℕ) → Declarator → Head → Input → Input → Type 0 where
    star : {n : Naming} {level h : ℕ} {qualifiers : List Qualifier} {inner : Declarator} {head : Head}
        {from mid rest : Input} → level ≤ 0 → peek from ≡ k.Punct p.Star →
        ReadsQualifiers qualifiers (next from) mid → ReadsDeclarator n 0 h inner head mid rest →
        ReadsDeclarator n level (1 + h) (declarator_at from (d.Star qualifiers (Some inner)))
        (other head) from rest
    star_alone : {n : Naming} {level : ℕ} {qualifiers : List Qualifier} {from rest : Input} → level ≤ 0 →
        may_omit n ≡ true → peek from ≡ k.Punct p.Star → ReadsQualifiers qualifiers (next from) rest →
        ReadsDeclarator n level 1 (declarator_at from (d.Star qualifiers None)) head.Abstract from rest
    named : {n : Naming} {level : ℕ} {from : Input} → level ≤ 1 → may_name n ≡ true → peek from ≡ k.Word →
        ReadsDeclarator n level 1 (declarator_at from (d.Named (text from)))
        (head.Bare (text from)) from (next from)
    group : {n : Naming} {level h : ℕ} {inner : Declarator} {head : Head} {from close : Input} → level ≤ 1 →
        peek from ≡ k.Punct p.OpenParen → is_group n (next from) ≡ true →
        ReadsDeclarator n 0 h inner head (next from) close → peek close ≡ k.Punct p.CloseParen →
        ReadsDeclarator n level (1 + h) (declarator_at from (d.Group inner)) head from (next close)
    array : {n : Naming} {level g h : ℕ} {inner : Declarator} {head : Head} {size : Option Expr}
        {from mid close : Input} → level ≤ 1 → ReadsDeclarator n 1 g inner head from mid →
        peek mid ≡ k.Punct p.OpenBracket → ReadsSize h size (next mid) close →
        peek close ≡ k.Punct p.CloseBracket →
        ReadsDeclarator n level (1 + max g h) (declarator_at from (d.ArrayOf (Some inner) size))
        (other head) from (next close)
    array_alone : {n : Naming} {level h : ℕ} {size : Option Expr} {from close : Input} → level ≤ 1 →
        may_omit n ≡ true → peek from ≡ k.Punct p.OpenBracket → ReadsSize h size (next from) close →
        peek close ≡ k.Punct p.CloseBracket →
        ReadsDeclarator n level (1 + h) (declarator_at from (d.ArrayOf None size))
        head.Abstract from (next close)
    function : {n : Naming} {level g h : ℕ} {inner : Declarator} {head : Head} {parameters : List Parameter}
        {dots : Bool} {from mid close : Input} → level ≤ 1 → ReadsDeclarator n 1 g inner head from mid →
        peek mid ≡ k.Punct p.OpenParen → ReadsParameters h parameters dots (next mid) close →
        peek close ≡ k.Punct p.CloseParen →
        ReadsDeclarator n level (1 + max g h) (declarator_at from (d.FunctionOf (Some inner) parameters dots))
        (called (declared_since mid close) head) from (leave mid (next close))
    function_alone : {n : Naming} {level h : ℕ} {parameters : List Parameter} {dots : Bool}
        {from close : Input} → level ≤ 1 → may_omit n ≡ true → peek from ≡ k.Punct p.OpenParen →
        opens_parameters (next from) ≡ true → ReadsParameters h parameters dots (next from) close →
        peek close ≡ k.Punct p.CloseParen →
        ReadsDeclarator n level (1 + h) (declarator_at from (d.FunctionOf None parameters dots)) head.Abstract
        from (leave from (next close))

  -- the size of an array, where there is one
  pub data ReadsSize : ℕ → Option Expr → Input → Input → Type 0 where
    size_none : {from : Input} → peek from ≡ k.Punct p.CloseBracket → ReadsSize 0 None from from
    size_some : {h : ℕ} {size : Expr} {from rest : Input} → ReadsExpr 1 h size from rest →
        ReadsSize h (Some size) from rest

  -- the parameters of a function, and whether they end with dots
  pub data ReadsParameters : ℕ → List Parameter → Bool → Input → Input → Type 0 where
    parameters_none : {from : Input} → peek from ≡ k.Punct p.CloseParen → ReadsParameters 0 [] false from from
    parameters_some : {h : ℕ} {parameters : List Parameter} {dots : Bool} {from rest : Input} →
        ReadsParameterList h parameters dots from rest → ReadsParameters h parameters dots from rest

  pub data ReadsParameterList : ℕ → List Parameter → Bool → Input → Input → Type 0 where
    parameters_last : {h : ℕ} {first : Parameter} {from rest : Input} → ReadsParameter h first from rest →
        ReadsParameterList h (first ∷ []) false from rest
    parameters_dots : {h : ℕ} {first : Parameter} {from rest : Input} → ReadsParameter h first from rest →
        peek rest ≡ k.Punct p.Comma → peek (next rest) ≡ k.Punct p.Ellipsis →
        ReadsParameterList h (first ∷ []) true from (next (next rest))
    parameters_more : {g h : ℕ} {first : Parameter} {others : List Parameter} {dots : Bool}
        {from mid rest : Input} → ReadsParameter g first from mid → peek mid ≡ k.Punct p.Comma →
        ReadsParameterList h others dots (next mid) rest →
        ReadsParameterList (max g h) (first ∷ others) dots from rest

  -- a parameter, whose name is in scope behind it
  pub data ReadsParameter : ℕ → Parameter → Input → Input → Type 0 where
    parameter_plain : {h : ℕ} {typedef : Bool} {specifiers : List Specifier} {from rest : Input} →
        ReadsSpecifiers false h typedef specifiers from rest →
        ReadsParameter h (parameter_at from specifiers None) from rest
    parameter_declared : {g h : ℕ} {typedef : Bool} {specifiers : List Specifier} {inner : Declarator}
        {head : Head} {from mid rest : Input} → ReadsSpecifiers false g typedef specifiers from mid →
        ReadsDeclarator naming.Either 0 h inner head mid rest →
        ReadsParameter (max g h) (parameter_at from specifiers (Some inner)) from
        (declare_head head typedef rest)
