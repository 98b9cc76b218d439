-- The readers of expressions, specifiers, declarators and type names, as functions.
use Rattle.std.specs.Prelude.{ℕ, zero, suc, ◌+◌, ◌-◌, min, Bool, true, false, not, ◌&&◌, ◌||◌, if◌then◌else◌, nat_le, List, [], ◌∷◌, ◌++◌, Option, Some, None, Ok}
use Rattle.lk_base.specs.declared.spot.Spot.{Spot}
use Rattle.lk_lex.specs.declared.token.TokenKind.{TokenKind}
use Rattle.lk_lex.specs.declared.token.TokenKind.TheVariants as k
use Rattle.lk_lex.specs.declared.punct.Punct.TheVariants as p
use Rattle.lk_lex.specs.declared.keyword.Keyword.TheVariants as w
use Rattle.lk_tree.specs.declared.specifiers.Qualifier.{Qualifier}
use Rattle.lk_tree.specs.declared.expression.Expr.{Expr}
use Rattle.lk_tree.specs.declared.expression.ExprForm.TheVariants as e
use Rattle.lk_tree.specs.declared.expression.TypeName.{TypeName}
use Rattle.lk_tree.specs.declared.expression.Specifier.{Specifier}
use Rattle.lk_tree.specs.declared.expression.Specifier.TheVariants as s
use Rattle.lk_tree.specs.declared.expression.Member.{Member}
use Rattle.lk_tree.specs.declared.expression.MemberDeclarator.{MemberDeclarator}
use Rattle.lk_tree.specs.declared.expression.MemberDeclarator.TheVariants as fields
use Rattle.lk_tree.specs.declared.expression.Item.{Item}
use Rattle.lk_tree.specs.declared.expression.Declarator.{Declarator}
use Rattle.lk_tree.specs.declared.expression.DeclaratorForm.TheVariants as d
use Rattle.lk_tree.specs.declared.expression.Parameter.{Parameter}
use Rattle.lk_parse_expr.specs.declared.found.Found.{Found}
use Rattle.lk_parse_expr.specs.declared.front.Start.{Start}
use Rattle.lk_parse_expr.specs.declared.front.Start.TheVariants as start
use Rattle.lk_parse_expr.specs.declared.front.Suffix.{Suffix}
use Rattle.lk_parse_expr.specs.declared.front.Suffix.TheVariants as suffix
use Rattle.lk_parse_expr.specs.declared.front.Infix.{Infix}
use Rattle.lk_parse_expr.specs.declared.front.Infix.TheVariants as between
use Rattle.lk_parse_expr.specs.declared.naming.Naming.{Naming}
use Rattle.lk_parse_expr.specs.declared.naming.Naming.TheVariants as naming
use Rattle.lk_parse_expr.specs.declared.naming.Head.{Head}
use Rattle.lk_parse_expr.specs.declared.naming.Head.TheVariants as head
use Rattle.lk_parse_expr.specs.Input.{Input, peek, here, text, next, declare, leave, declared_since}
use Rattle.lk_lex.specs.Texts.{text_value}
use Rattle.lk_parse_expr.specs.Words.{level_of, qualifier_of, specifier_of, is_type_word, is_typedef_word, is_word, continues_specifiers, begins_specifiers, opens_type_name, is_close_brace}
use Rattle.lk_parse_expr.specs.Heads.{may_name, may_omit, is_group, other, called, declare_head}
use Rattle.lk_parse_expr.specs.Front.{start_of, is_start, suffix_of, infix_of, infix_level}
use Rattle.lk_parse_expr.specs.Grammar.{expr_on, declarator_on, type_name_on, parameter_on, member_on, item_on}
use Rattle.lk_parse_expr.specs.Readers.{Parser, ◌>>=◌, ◌>>◌, pure, refuse, exhausted, sees, sees_key, left, take, expect, word, found, need, joined, separated, repeat}

-- ---- what needs no level

-- texts one after another, one at least
abbrev pub is_text : TokenKind → Bool
is_text k.Word = false
is_text (k.Key keyword) = false
is_text (k.Number kind value) = false
is_text (k.Char value) = false
is_text k.Text = true
is_text (k.Punct punct) = false
is_text k.End = false

unfoldable pub texts_from : ℕ → List ℕ → Parser (List ℕ)
texts_from zero before = pure before
texts_from (suc n) before =
    λ i. if is_text (peek i) then texts_from n (before ++ text_value (text i)) (next i) else Ok (before, i)

unfoldable pub texts : Parser (List ℕ)
texts = λ i. texts_from (left i) [] i

abbrev pub qualifiers_by : List Qualifier → (List Qualifier → Parser (List Qualifier)) → Option Qualifier →
    Parser (List Qualifier)
qualifiers_by before again None = pure before
qualifiers_by before again (Some first) = take >> again (before ++ first ∷ [])

unfoldable pub qualifiers_from : ℕ → List Qualifier → Parser (List Qualifier)
qualifiers_from zero before = pure before
qualifiers_from (suc n) before = λ i. qualifiers_by before (qualifiers_from n) (qualifier_of (peek i)) i

unfoldable pub qualifiers : Parser (List Qualifier)
qualifiers = λ i. qualifiers_from (left i) [] i

-- the tag before a `{`, where there is one
unfoldable pub tag : Parser (Option (List ℕ))
tag = λ i. if is_word (peek i) then Ok (Some (text i), next i) else Ok (None, i)

-- whether a declarator begins, where it has a name by this rule
abbrev pub begins_declarator : Naming → Input → Bool
begins_declarator n i =
    (sees p.Star i || sees p.OpenParen i)
    || ((is_word (peek i) && may_name n) || (sees p.OpenBracket i && may_omit n))

unfoldable pub comma_if_any : Parser (Unit {0})
comma_if_any = λ i. if sees p.Comma i then Ok (tt, next i) else Ok (tt, i)

abbrev pub is_ellipsis : TokenKind → Bool
is_ellipsis (k.Punct p.Ellipsis) = true
is_ellipsis _ = false

-- whether `, ...` follows
unfoldable pub dots : Parser Bool
dots = λ i. if sees p.Comma i then (take >> expect p.Ellipsis >> pure true) i else Ok (false, i)

-- a specifier with whether a type came before what follows it, and whether it is `typedef`
abbrev pub as_type : Found Specifier → Found (Specifier × Bool × Bool)
as_type one = found (one.tree, true, false) one.room

-- one more specifier
abbrev pub with_specifier : Found (List Specifier × Bool) → Found (Specifier × Bool × Bool) →
    Found (List Specifier × Bool)
with_specifier before one =
    found (before.tree.0 ++ one.tree.0 ∷ [], before.tree.1 || one.tree.2) (min before.room one.room)

-- behind the members of a struct
abbrev pub struct_end : Option (List ℕ) → Found (List Member) → Parser (Found Specifier)
struct_end tag members = expect p.CloseBrace >> pure (found (s.Struct tag members.tree) members.room)

-- behind the items of an enumeration
abbrev pub enum_end : Option (List ℕ) → Found (List Item) → Parser (Found Specifier)
enum_end tag items = comma_if_any >> expect p.CloseBrace >> pure (found (s.Enum tag items.tree) items.room)

-- ---- what reads the nodes inside a node

pub record Readers : Type 0 where
  -- an expression of this level
  pub expr : ℕ → Parser (Found Expr)
  pub type_name : Parser (Found TypeName)
  pub declarator : Naming → Parser (Found (Declarator × Head))
  pub member : Parser (Found Member)
  pub item : Parser (Found Item)

-- m is how many levels there are inside the node that is read; below reads what stands there
module _ (m : ℕ) (below : Readers) where
  -- ---- expressions

  abbrev pub leaf : Expr → Parser (Found Expr)
  leaf e = pure (found e m)

  unfoldable pub parens : Spot → Parser (Found Expr)
  parens spot =
      need 1 m >> take >> (below.expr 0 >>= (λ inner. expect p.CloseParen >> pure (found (expr_on spot (e.Paren inner.tree)) inner.room)))

  abbrev pub primary_by : Spot → Start → Parser (Found Expr)
  primary_by spot start.Word = word >>= (λ name. leaf (expr_on spot (e.Word name)))
  primary_by spot (start.Number kind value) = take >> leaf (expr_on spot (e.Number kind value))
  primary_by spot (start.Char value) = take >> leaf (expr_on spot (e.Char value))
  primary_by spot start.Text = texts >>= (λ bytes. leaf (expr_on spot (e.Text bytes)))
  primary_by spot start.Open = parens spot
  primary_by spot (start.Step op) = refuse
  primary_by spot (start.Prefix op) = refuse
  primary_by spot start.Sizeof = refuse
  primary_by spot start.Nothing = refuse

  unfoldable pub primary : Spot → Parser (Found Expr)
  primary spot = λ i. primary_by spot (start_of (peek i)) i

  unfoldable pub arguments : Parser (Found (List Expr))
  arguments =
      λ i. if sees p.CloseParen i then Ok (found [] m, i) else separated (λ _. false) (below.expr 1) m i

  unfoldable pub index : Spot → Found Expr → Parser (Found Expr)
  index spot array =
      below.expr 0 >>= (λ inner. expect p.CloseBracket
      >> pure (found (expr_on spot (e.Index array.tree inner.tree)) (min (array.room - 1) inner.room)))

  unfoldable pub call : Spot → Found Expr → Parser (Found Expr)
  call spot function =
      arguments >>= (λ inner. expect p.CloseParen
      >> pure (found (expr_on spot (e.Call function.tree inner.tree)) (min (function.room - 1) inner.room)))

  -- behind the token that makes the operand a part of a greater one
  abbrev pub suffixed : Spot → Found Expr → Suffix → Parser (Found Expr)
  suffixed spot operand suffix.Index = index spot operand
  suffixed spot operand suffix.Call = call spot operand
  suffixed spot operand suffix.Member =
      word >>= (λ name. pure (found (expr_on spot (e.Member operand.tree name)) (operand.room - 1)))
  suffixed spot operand suffix.Arrow =
      word >>= (λ name. pure (found (expr_on spot (e.Arrow operand.tree name)) (operand.room - 1)))
  suffixed spot operand (suffix.Post op) =
      pure (found (expr_on spot (e.Post op operand.tree)) (operand.room - 1))

  abbrev pub suffixes_by : Spot → (Found Expr → Parser (Found Expr)) → Found Expr → Option Suffix →
      Parser (Found Expr)
  suffixes_by spot again operand None = pure operand
  suffixes_by spot again operand (Some kind) =
      need 1 operand.room >> take >> (suffixed spot operand kind >>= again)

  unfoldable pub suffixes_from : Spot → ℕ → Found Expr → Parser (Found Expr)
  suffixes_from spot zero operand = pure operand
  suffixes_from spot (suc n) operand =
      λ i. suffixes_by spot (suffixes_from spot n) operand (suffix_of (peek i)) i

  unfoldable pub suffixes : Spot → Found Expr → Parser (Found Expr)
  suffixes spot operand = λ i. suffixes_from spot (left i) operand i

  unfoldable pub postfix : Spot → Parser (Found Expr)
  postfix spot = primary spot >>= suffixes spot

  -- behind the `(`
  unfoldable pub cast : Spot → Parser (Found Expr)
  cast spot = below.type_name >>= (λ name. expect p.CloseParen
      >> (below.expr 13 >>= (λ operand. pure (found (expr_on spot (e.Cast name.tree operand.tree)) (min name.room operand.room)))))

  -- the operand of `sizeof`. Where one level is left for it, a `(` may still open a type name, and what
  -- stands behind it is too deep
  unfoldable pub sizeof_operand : Parser (Found Expr)
  sizeof_operand =
      λ i. if sees p.OpenParen i && nat_le m 1 then exhausted (is_start (start_of (peek (next i)))) (next i)
      else below.expr 14 i

  -- behind `sizeof`
  unfoldable pub sizeof : Spot → Parser (Found Expr)
  sizeof spot = λ i.
      if opens_type_name i then
      (take >> (below.type_name >>= (λ name. expect p.CloseParen >> pure (found (expr_on spot (e.SizeofType name.tree)) name.room)))) i
      else (sizeof_operand >>= (λ operand. pure (found (expr_on spot (e.SizeofExpr operand.tree)) operand.room))) i

  abbrev pub cast_if : Bool → Spot → Parser (Found Expr)
  cast_if true spot = cast spot
  cast_if false spot = refuse

  -- a `(` is in front: casts says whether a cast may stand here
  unfoldable pub opened : Bool → Spot → Parser (Found Expr)
  opened casts spot = λ i. if begins_specifiers (next i) then (need 1 m >> take >> cast_if casts spot) i
      else postfix spot i

  abbrev pub operand_by : Bool → Spot → Start → Parser (Found Expr)
  operand_by casts spot start.Word = postfix spot
  operand_by casts spot (start.Number kind value) = postfix spot
  operand_by casts spot (start.Char value) = postfix spot
  operand_by casts spot start.Text = postfix spot
  operand_by casts spot start.Open = opened casts spot
  operand_by casts spot (start.Step op) =
      need 1 m >> take >> (below.expr 14 >>= (λ operand. pure (found (expr_on spot (e.Pre op operand.tree)) operand.room)))
  operand_by casts spot (start.Prefix op) =
      need 1 m >> take >> (below.expr 13 >>= (λ operand. pure (found (expr_on spot (e.Prefix op operand.tree)) operand.room)))
  operand_by casts spot start.Sizeof = need 1 m >> take >> sizeof spot
  operand_by casts spot start.Nothing = refuse

  unfoldable pub operand : Bool → Spot → Parser (Found Expr)
  operand casts spot = λ i. operand_by casts spot (start_of (peek i)) i

  -- the operand behind an operator of two
  abbrev pub combined : Spot → Found Expr → Infix → Parser (Found Expr)
  combined spot before between.Comma =
      below.expr 1 >>= (λ right. pure (found (expr_on spot (e.Comma before.tree right.tree)) (min (before.room - 1) right.room)))
  combined spot before (between.Assign op) =
      below.expr 1 >>= (λ right. pure (found (expr_on spot (e.Assign op before.tree right.tree)) (min (before.room - 1) right.room)))
  combined spot before between.Choice = below.expr 0 >>= (λ middle. expect p.Colon
      >> (below.expr 2 >>= (λ right. pure
      (found (expr_on spot (e.Choice before.tree middle.tree right.tree)) (min (before.room - 1) (min middle.room right.room))))))
  combined spot before (between.Binary op) =
      below.expr (level_of op + 1)
      >>= (λ right. pure (found (expr_on spot (e.Binary op before.tree right.tree)) (min (before.room - 1) right.room)))

  abbrev pub climb_on : Spot → (Found Expr → Parser (Found Expr)) → Found Expr → Infix → Parser (Found Expr)
  climb_on spot again before op = need 1 before.room >> take >> (combined spot before op >>= again)

  abbrev pub climb_by : ℕ → Spot → (Found Expr → Parser (Found Expr)) → Found Expr → Option Infix →
      Parser (Found Expr)
  climb_by least spot again before None = pure before
  climb_by least spot again before (Some op) =
      if nat_le least (infix_level op) then climb_on spot again before op else pure before

  unfoldable pub climb_from : ℕ → Spot → ℕ → Found Expr → Parser (Found Expr)
  climb_from least spot zero before = pure before
  climb_from least spot (suc n) before =
      λ i. climb_by least spot (climb_from least spot n) before (infix_of (peek i)) i

  unfoldable pub climb : ℕ → Spot → Found Expr → Parser (Found Expr)
  climb least spot before = λ i. climb_from least spot (left i) before i

  unfoldable pub expr : ℕ → Parser (Found Expr)
  expr least = λ i. (operand (nat_le least 13) (here i) >>= climb least (here i)) i

  -- ---- specifiers: the list, and whether `typedef` is among them

  -- the members behind the first one
  abbrev pub members : Found Member → Parser (Found (List Member))
  members first = repeat (sees p.CloseBrace) below.member (joined (found [] m) first)

  unfoldable pub struct_body : Option (List ℕ) → Parser (Found Specifier)
  struct_body tag =
      need 2 m >> expect p.OpenBrace >> (below.member >>= (λ first. members first >>= struct_end tag))

  abbrev pub items : Parser (Found (List Item))
  items = separated is_close_brace below.item m

  unfoldable pub enum_body : Option (List ℕ) → Parser (Found Specifier)
  enum_body tag = need 1 m >> expect p.OpenBrace >> (items >>= enum_end tag)

  abbrev pub struct_by : Option (List ℕ) → Parser (Found Specifier)
  struct_by None = λ i. if sees p.OpenBrace i then struct_body None i else refuse i
  struct_by (Some name) =
      λ i. if sees p.OpenBrace i then struct_body (Some name) i else Ok (found (s.StructTag name) m, i)

  abbrev pub enum_by : Option (List ℕ) → Parser (Found Specifier)
  enum_by None = λ i. if sees p.OpenBrace i then enum_body None i else refuse i
  enum_by (Some name) =
      λ i. if sees p.OpenBrace i then enum_body (Some name) i else Ok (found (s.EnumTag name) m, i)

  -- a specifier by its keyword or its name; with it whether a type came before what
  -- follows, and whether it is `typedef`
  abbrev pub keyword_by : Bool → TokenKind → Option Specifier → Parser (Found (Specifier × Bool × Bool))
  keyword_by typed kind (Some specifier) =
      take >> pure (found (specifier, typed || is_type_word kind, is_typedef_word kind) m)
  keyword_by typed kind None = word >>= (λ name. pure (found (s.Typedef name, true, false) m))

  abbrev pub plain_specifier : Bool → Parser (Found (Specifier × Bool × Bool))
  plain_specifier typed = λ i. keyword_by typed (peek i) (specifier_of (peek i)) i

  unfoldable pub specifier : Bool → Parser (Found (Specifier × Bool × Bool))
  specifier typed = λ i.
      if sees_key w.Struct i then (take >> (tag >>= struct_by) >>= (λ one. pure (as_type one))) i
      else if sees_key w.Enum i then (take >> (tag >>= enum_by) >>= (λ one. pure (as_type one))) i
      else plain_specifier typed i

  unfoldable pub specifiers_from : ℕ → Bool → Found (List Specifier × Bool) →
      Parser (Found (List Specifier × Bool))
  specifiers_from zero typed before = pure before
  specifiers_from (suc n) typed before = λ i.
      if continues_specifiers typed i
      then (specifier typed >>= (λ one. specifiers_from n one.tree.1 (with_specifier before one))) i
      else Ok (before, i)

  unfoldable pub specifiers : Parser (Found (List Specifier × Bool))
  specifiers =
      λ i. if begins_specifiers i then specifiers_from (left i) false (found ([], false) m) i else refuse i

  -- ---- type names, parameters, members and items

  unfoldable pub type_name_from : Spot → Parser (Found TypeName)
  type_name_from spot = specifiers >>= (λ first. λ i.
      if begins_declarator naming.Abstract i then
      (below.declarator naming.Abstract
      >>= (λ inner. pure (found (type_name_on spot first.tree.0 (Some inner.tree.0)) (min first.room inner.room)))) i
      else Ok (found (type_name_on spot first.tree.0 None) first.room, i))

  unfoldable pub parameter_from : Spot → Parser (Found Parameter)
  parameter_from spot = specifiers >>= (λ first. λ i.
      if begins_declarator naming.Either i then
      (below.declarator naming.Either >>= (λ inner. λ i.
      Ok (
        found (parameter_on spot first.tree.0 (Some inner.tree.0)) (min first.room inner.room),
        declare_head inner.tree.1 first.tree.1 i,
      ))) i
      else Ok (found (parameter_on spot first.tree.0 None) first.room, i))

  abbrev pub parameter : Parser (Found Parameter)
  parameter = λ i. parameter_from (here i) i

  abbrev pub parameter_list : Parser (Found (List Parameter))
  parameter_list = separated is_ellipsis parameter m

  unfoldable pub parameters : Parser (Found (List Parameter × Bool))
  parameters = λ i.
      if sees p.CloseParen i then Ok (found ([], false) m, i)
      else (parameter_list >>= (λ list. dots >>= (λ dots. pure (found (list.tree, dots) list.room)))) i

  unfoldable pub width : Parser (Found Expr)
  width = expect p.Colon >> below.expr 2

  unfoldable pub field : Parser (Found MemberDeclarator)
  field = λ i.
      if sees p.Colon i then (width >>= (λ one. pure (found (fields.Unnamed one.tree) one.room))) i
      else (below.declarator naming.Named >>= (λ inner. λ i.
      if sees p.Colon i then (width >>= (λ one. pure (found (fields.Field inner.tree.0 one.tree) (min inner.room one.room)))) i
      else Ok (found (fields.Plain inner.tree.0) inner.room, i))) i

  abbrev pub field_list : Parser (Found (List MemberDeclarator))
  field_list = separated (λ _. false) field m

  unfoldable pub member_from : Spot → Parser (Found Member)
  member_from spot = specifiers >>= (λ first. field_list
      >>= (λ list. expect p.Semicolon >> pure (found (member_on spot first.tree.0 list.tree) (min first.room list.room))))

  unfoldable pub value : Parser (Found (Option Expr))
  value =
      λ i. if sees p.Equal i then (need 1 m >> take
      >> (below.expr 2 >>= (λ one. pure (found (Some one.tree) one.room)))) i else Ok (found None m, i)

  unfoldable pub item_from : Spot → Parser (Found Item)
  item_from spot =
      word >>= (λ name. value >>= (λ one. λ i. Ok (found (item_on spot name one.tree) one.room, declare name false i)))

  -- ---- declarators

  unfoldable pub size : Parser (Found (Option Expr))
  size =
      λ i. if sees p.CloseBracket i then Ok (found None m, i)
      else (below.expr 1 >>= (λ one. pure (found (Some one.tree) one.room))) i

  -- behind the `[` of an array of what comes before
  unfoldable pub array_of : Spot → Option Declarator → Head → ℕ → Parser (Found (Declarator × Head))
  array_of spot inner head room =
      size >>= (λ one. expect p.CloseBracket
      >> pure (found (declarator_on spot (d.ArrayOf inner one.tree), other head) (min room one.room)))

  -- behind the `(` of a function, whose parameters go out of scope at the `)`
  unfoldable pub function_of : Spot → Option Declarator → Head → ℕ → Parser (Found (Declarator × Head))
  function_of spot inner head room = λ open_. (parameters >>= (λ list. λ close.
      (expect p.CloseParen >> (λ i. Ok (
        found (
          declarator_on spot (d.FunctionOf inner list.tree.0 list.tree.1),
          called (declared_since open_ close) head,
        ) (min room list.room),
        leave open_ i,
      ))) close)) open_

  abbrev pub grown : Spot → (Found (Declarator × Head) → Parser (Found (Declarator × Head))) →
      Found (Declarator × Head) → Parser (Found (Declarator × Head))
  grown spot again before = λ i.
      if sees p.OpenBracket i then (need 1 before.room >> take
      >> (array_of spot (Some before.tree.0) before.tree.1 (before.room - 1) >>= again)) i
      else if sees p.OpenParen i
      then (need 1 before.room >> take >> (function_of spot (Some before.tree.0) before.tree.1 (before.room - 1) >>= again)) i
      else Ok (before, i)

  unfoldable pub grown_from : Spot → ℕ → Found (Declarator × Head) → Parser (Found (Declarator × Head))
  grown_from spot zero before = pure before
  grown_from spot (suc n) before = grown spot (grown_from spot n) before

  unfoldable pub parts : Spot → Found (Declarator × Head) → Parser (Found (Declarator × Head))
  parts spot before = λ i. grown_from spot (left i) before i

  abbrev pub need_inside : Naming → Parser (Unit {0})
  need_inside naming.Named = need 1 m
  need_inside naming.Abstract = pure tt
  need_inside naming.Either = pure tt

  unfoldable pub group : Naming → Spot → Parser (Found (Declarator × Head))
  group n spot = need_inside n >> take >> (below.declarator n >>= (λ inner. expect p.CloseParen
      >> pure (found (declarator_on spot (d.Group inner.tree.0), inner.tree.1) inner.room)))

  -- behind the `*` and its qualifiers
  unfoldable pub star_of : Naming → Spot → List Qualifier → Parser (Found (Declarator × Head))
  star_of n spot list = λ i.
      if not (begins_declarator n i) && may_omit n
      then Ok (found (declarator_on spot (d.Star list None), head.Abstract) m, i)
      else (below.declarator n
      >>= (λ inner. pure (found (declarator_on spot (d.Star list (Some inner.tree.0)), other inner.tree.1) inner.room))) i

  unfoldable pub star : Naming → Spot → Parser (Found (Declarator × Head))
  star n spot = need_inside n >> take >> (qualifiers >>= star_of n spot)

  unfoldable pub direct : Naming → Spot → Parser (Found (Declarator × Head))
  direct n spot = λ i.
      if sees p.OpenParen i then (if is_group n (next i) then group n spot i else (take >> function_of spot None head.Abstract m) i)
      else if sees p.OpenBracket i && may_omit n then (take >> array_of spot None head.Abstract m) i
      else if may_name n then (word >>= (λ name. pure (found (declarator_on spot (d.Named name), head.Bare name) m))) i
      else refuse i

  unfoldable pub declarator : Naming → Spot → Parser (Found (Declarator × Head))
  declarator n spot = λ i. if sees p.Star i then star n spot i else (direct n spot >>= parts spot) i

-- ---- the readers, with so many levels

unfoldable pub exhausted_readers : Readers
exhausted_readers = record {
  expr = λ level i. exhausted (is_start (start_of (peek i))) i;
  type_name = λ i. exhausted (begins_specifiers i) i;
  declarator = λ n i. exhausted (begins_declarator n i) i;
  member = λ i. exhausted (begins_specifiers i) i;
  item = λ i. exhausted (is_word (peek i)) i;
}

unfoldable pub readers : ℕ → Readers
readers zero = exhausted_readers
readers (suc m) = record {
  expr = expr m (readers m);
  type_name = λ i. type_name_from m (readers m) (here i) i;
  declarator = λ n i. declarator m (readers m) n (here i) i;
  member = λ i. member_from m (readers m) (here i) i;
  item = λ i. item_from m (readers m) (here i) i;
}
