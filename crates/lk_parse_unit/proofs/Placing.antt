-- Each refusal of the readers is one for syntax or for depth, at a place of the source.
use Rattle.std.proofs.Common.{◌≡◌, ℕ, zero, suc, ◌+◌, nat_le, Bool, true, false, not, ◌&&◌, if◌then◌else◌, List, Option, None, Some, drop, Ok, Err, refl, ap, ◌∙◌}
use Rattle.std.proofs.lemmas.List.{drop-drop}
use Rattle.lk_base.specs.declared.spot.Spot.{Spot}
use Rattle.lk_base.specs.declared.fault.Fault.{Fault}
use Rattle.lk_lex.specs.declared.token.TokenKind.{TokenKind}
use Rattle.lk_lex.specs.declared.punct.Punct.{Punct}
use Rattle.lk_lex.specs.declared.punct.Punct.TheVariants as p
use Rattle.lk_lex.specs.declared.keyword.Keyword.{Keyword}
use Rattle.lk_lex.specs.declared.keyword.Keyword.TheVariants as w
use Rattle.lk_tree.specs.declared.specifiers.Qualifier.{Qualifier}
use Rattle.lk_tree.specs.declared.expression.Expr.{Expr}
use Rattle.lk_tree.specs.declared.expression.Specifier.{Specifier}
use Rattle.lk_tree.specs.declared.expression.Declarator.{Declarator}
use Rattle.lk_tree.specs.declared.declaration.Init.{Init}
use Rattle.lk_tree.specs.declared.declaration.InitDeclarator.{InitDeclarator}
use Rattle.lk_tree.specs.declared.statement.Stmt.{Stmt}
use Rattle.lk_parse_expr.specs.declared.found.Found.{Found}
use Rattle.lk_parse_expr.specs.declared.front.Start.{Start}
use Rattle.lk_parse_expr.specs.declared.front.Start.TheVariants as start
use Rattle.lk_parse_expr.specs.declared.front.Suffix.{Suffix}
use Rattle.lk_parse_expr.specs.declared.front.Suffix.TheVariants as suffix
use Rattle.lk_parse_expr.specs.declared.front.Infix.{Infix}
use Rattle.lk_parse_expr.specs.declared.front.Infix.TheVariants as between
use Rattle.lk_parse_expr.specs.declared.naming.Naming.{Naming}
use Rattle.lk_parse_expr.specs.declared.naming.Naming.TheVariants as naming
use Rattle.lk_parse_expr.specs.declared.naming.Head.{Head}
use Rattle.lk_parse_expr.specs.declared.naming.Head.TheVariants as head
use Rattle.lk_parse_expr.specs.Input.{Input, Names, peek, here, text, next, declare, leave, with_names}
use Rattle.lk_parse_expr.specs.Words.{level_of, qualifier_of, specifier_of, is_word, begins_specifiers, continues_specifiers, opens_type_name, is_close_brace}
use Rattle.lk_parse_expr.specs.Heads.{may_name, may_omit, is_group, declare_head}
use Rattle.lk_parse_expr.specs.Front.{start_of, is_start, suffix_of, infix_of, infix_level}
use Rattle.lk_parse_expr.specs.Readers.{Outcome, Parser, and_then, ◌>>◌, syntax_at, too_deep_at, exhausted, need, left, sees, sees_key, expect, expect_key, word, goes_on, separated_from, repeat_from, joined}
use Rattle.lk_parse_expr.specs.Reading as r
use Rattle.lk_parse_expr.specs.Reading.{Readers, readers, exhausted_readers}
use Rattle.lk_parse_expr.specs.Statements.{is_colon, begins_declaration}
use Rattle.lk_parse_decl.specs.Reading as dr
use Rattle.lk_parse_unit.specs.declared.lead.Lead.{Lead}
use Rattle.lk_parse_unit.specs.declared.lead.Lead.TheVariants as lead
use Rattle.lk_lex.specs.TokenList.{is_end}
use Rattle.lk_parse_unit.specs.Leads.{lead_of, begins_stmt}
use Rattle.lk_parse_unit.specs.Reading as u

-- an input of the same source behind this one
abbrev pub IsBehind : Input → Input → Type 0
IsBehind from i = (n : ℕ) × (i.tokens ≡ drop n from.tokens)

pub data IsPlaced (from : Input) : Fault → Type 0 where
  syntax_there : (i : Input) → IsBehind from i → IsPlaced from (syntax_at i)
  deep_there : (i : Input) → IsBehind from i → IsPlaced from (too_deep_at i)

abbrev pub Places : {A : Type 0} → Input → Outcome A → Type 0
Places from (Ok o) = IsBehind from o.1
Places from (Err e) = IsPlaced from e

module _ (from : Input) where
  on : (i : Input) → IsBehind from i → IsBehind from (next i)
  unfolding next
  on i at = (at.0 + 1, ap (drop 1) at.1 ∙ drop-drop 1 at.0 from.tokens)

  declared_at : (name : List ℕ) (typedef : Bool) (i : Input) → IsBehind from i → IsBehind from (declare name typedef i)
  unfolding declare
  declared_at name typedef i at = at

  left_at : (outer i : Input) → IsBehind from i → IsBehind from (leave outer i)
  unfolding leave
  left_at outer i at = at

  named_at : (names : Names) (i : Input) → IsBehind from i → IsBehind from (with_names names i)
  unfolding with_names
  named_at names i at = at

  head_at : (h : Head) (typedef : Bool) (i : Input) → IsBehind from i → IsBehind from (declare_head h typedef i)
  head_at head.Abstract typedef i at = at
  head_at (head.Bare name) typedef i at = declared_at name typedef i at
  head_at (head.Function name parameters) typedef i at = declared_at name typedef i at
  head_at (head.Other name) typedef i at = declared_at name typedef i at

  -- ---- steps

  and_places : {A B : Type 0} (o : Outcome A) (f : A → Parser B) → Places from o → ((a : A) (i : Input) → IsBehind from i → Places from (f a i)) → Places from (and_then o f)
  and_places (Ok o) f first so = so o.0 o.1 first
  and_places (Err e) f first so = first

  test : {A : Type 0} (b : Bool) (x y : Outcome A) → Places from x → Places from y → Places from (if b then x else y)
  test true x y = λ a b. a
  test false x y = λ a b. b

  test_on : {A : Type 0} (b : Bool) (x y : Parser A) (i : Input) → Places from (x i) → Places from (y i) → Places from ((if b then x else y) i)
  test_on true x y i = λ a b. a
  test_on false x y i = λ a b. b

  exhausted_at : (A : Type 0) (begins : Bool) (i : Input) → IsBehind from i → Places from (exhausted {A = A} begins i)
  exhausted_at A true i at = deep_there i at
  exhausted_at A false i at = syntax_there i at

  need_at : {A : Type 0} (least room : ℕ) (i : Input) (q : Parser A) → IsBehind from i → Places from (q i) → Places from ((need least room >> q) i)
  unfolding need
  need_at least room i q at so = by (nat_le least room) refl
    where
      by : (b : Bool) → nat_le least room ≡ b → Places from ((need least room >> q) i)
      by true e = rw e so
      by false e = rw e (deep_there i at)

  expect_at : {A : Type 0} (p : Punct) (i : Input) (q : Parser A) → IsBehind from i → (IsBehind from (next i) → Places from (q (next i))) → Places from ((expect p >> q) i)
  unfolding expect
  expect_at p i q at so = by (sees p i) refl
    where
      by : (b : Bool) → sees p i ≡ b → Places from ((expect p >> q) i)
      by true e = rw e (so (on i at))
      by false e = rw e (syntax_there i at)

  key_at : {A : Type 0} (w : Keyword) (i : Input) (q : Parser A) → IsBehind from i → (IsBehind from (next i) → Places from (q (next i))) → Places from ((expect_key w >> q) i)
  unfolding expect_key
  key_at w i q at so = by (sees_key w i) refl
    where
      by : (b : Bool) → sees_key w i ≡ b → Places from ((expect_key w >> q) i)
      by true e = rw e (so (on i at))
      by false e = rw e (syntax_there i at)

  word_at : {A : Type 0} (i : Input) (q : List ℕ → Parser A) → IsBehind from i → (IsBehind from (next i) → Places from (q (text i) (next i))) → Places from (and_then (word i) q)
  unfolding word
  word_at i q at so = by (is_word (peek i)) refl
    where
      by : (b : Bool) → is_word (peek i) ≡ b → Places from (and_then (word i) q)
      by true e = rw e (so (on i at))
      by false e = rw e (syntax_there i at)

  -- ---- lists

  separated_at : {A : Type 0} (ends : TokenKind → Bool) (item : Parser (Found A)) → ((i : Input) → IsBehind from i → Places from (item i))
      → (n : ℕ) (before : Found (List A)) (i : Input) → IsBehind from i → Places from (separated_from ends item n before i)
  unfolding separated_from
  separated_at ends item so zero before i at = syntax_there i at
  separated_at ends item so (suc n) before i at = and_places (item i) _ (so i at) (λ one j at. test (goes_on ends j) _ _ (separated_at ends item so n (joined before one) (next j) (on j at)) at)

  repeat_at : {A : Type 0} (stops : Input → Bool) (item : Parser (Found A)) → ((i : Input) → IsBehind from i → Places from (item i))
      → (n : ℕ) (before : Found (List A)) (i : Input) → IsBehind from i → Places from (repeat_from stops item n before i)
  unfolding repeat_from
  repeat_at stops item so zero before i at = at
  repeat_at stops item so (suc n) before i at = test (stops i) _ _ at (and_places (item i) _ (so i at) (λ one j at. repeat_at stops item so n (joined before one) j at))

  -- ---- what needs no level

  texts_from_at : (n : ℕ) (before : List ℕ) (i : Input) → IsBehind from i → Places from (r.texts_from n before i)
  unfolding r.texts_from
  texts_from_at zero before i at = at
  texts_from_at (suc n) before i at = test (r.is_text (peek i)) _ _ (texts_from_at n _ (next i) (on i at)) at

  texts_at : (i : Input) → IsBehind from i → Places from (r.texts i)
  unfolding r.texts
  texts_at i at = texts_from_at (left i) _ i at

  qualifiers_by_at : (before : List Qualifier) (again : List Qualifier → Parser (List Qualifier)) → ((list : List Qualifier) (i : Input) → IsBehind from i → Places from (again list i))
      → (o : Option Qualifier) (i : Input) → IsBehind from i → Places from (r.qualifiers_by before again o i)
  qualifiers_by_at before again so None i at = at
  qualifiers_by_at before again so (Some q) i at = so _ (next i) (on i at)

  qualifiers_from_at : (n : ℕ) (before : List Qualifier) (i : Input) → IsBehind from i → Places from (r.qualifiers_from n before i)
  unfolding r.qualifiers_from
  qualifiers_from_at zero before i at = at
  qualifiers_from_at (suc n) before i at = qualifiers_by_at before (r.qualifiers_from n) (λ list j at. qualifiers_from_at n list j at) (qualifier_of (peek i)) i at

  qualifiers_at : (i : Input) → IsBehind from i → Places from (r.qualifiers i)
  unfolding r.qualifiers
  qualifiers_at i at = qualifiers_from_at (left i) _ i at

  tag_at : (i : Input) → IsBehind from i → Places from (r.tag i)
  unfolding r.tag
  tag_at i at = test (is_word (peek i)) _ _ (on i at) at

  comma_at : (i : Input) → IsBehind from i → Places from (r.comma_if_any i)
  unfolding r.comma_if_any
  comma_at i at = test (sees p.Comma i) _ _ (on i at) at

  dots_at : (i : Input) → IsBehind from i → Places from (r.dots i)
  unfolding r.dots
  dots_at i at = test (sees p.Comma i) _ _ (expect_at p.Ellipsis (next i) _ (on i at) (λ at. at)) at

  -- ---- expressions, specifiers, declarators and type names

  record ArePlaced (below : Readers) : Type 0 where
    expr : (level : ℕ) (i : Input) → IsBehind from i → Places from (below.expr level i)
    type_name : (i : Input) → IsBehind from i → Places from (below.type_name i)
    declarator : (n : Naming) (i : Input) → IsBehind from i → Places from (below.declarator n i)
    member : (i : Input) → IsBehind from i → Places from (below.member i)
    item : (i : Input) → IsBehind from i → Places from (below.item i)

  module _ (m : ℕ) (below : Readers) (so : ArePlaced below) where
    parens_at : (spot : Spot) (i : Input) → IsBehind from i → Places from (r.parens m below spot i)
    unfolding r.parens
    parens_at spot i at = need_at 1 m i _ at (and_places (below.expr 0 (next i)) _ (so.expr 0 (next i) (on i at)) (λ inner j at. expect_at p.CloseParen j _ at (λ at. at)))

    primary_by_at : (spot : Spot) (kind : Start) (i : Input) → IsBehind from i → Places from (r.primary_by m below spot kind i)
    primary_by_at spot start.Word i at = word_at i _ at (λ at. at)
    primary_by_at spot (start.Number kind value) i at = on i at
    primary_by_at spot (start.Char value) i at = on i at
    primary_by_at spot start.Text i at = and_places (r.texts i) _ (texts_at i at) (λ bytes j at. at)
    primary_by_at spot start.Open i at = parens_at spot i at
    primary_by_at spot (start.Step op) i at = syntax_there i at
    primary_by_at spot (start.Prefix op) i at = syntax_there i at
    primary_by_at spot start.Sizeof i at = syntax_there i at
    primary_by_at spot start.Nothing i at = syntax_there i at

    primary_at : (spot : Spot) (i : Input) → IsBehind from i → Places from (r.primary m below spot i)
    unfolding r.primary
    primary_at spot i at = primary_by_at spot (start_of (peek i)) i at

    arguments_at : (i : Input) → IsBehind from i → Places from (r.arguments m below i)
    unfolding r.arguments
    arguments_at i at = test (sees p.CloseParen i) _ _ at (separated_at (λ _. false) (below.expr 1) (so.expr 1) (left i) _ i at)

    index_at : (spot : Spot) (array : Found Expr) (i : Input) → IsBehind from i → Places from (r.index m below spot array i)
    unfolding r.index
    index_at spot array i at = and_places (below.expr 0 i) _ (so.expr 0 i at) (λ inner j at. expect_at p.CloseBracket j _ at (λ at. at))

    call_at : (spot : Spot) (function : Found Expr) (i : Input) → IsBehind from i → Places from (r.call m below spot function i)
    unfolding r.call
    call_at spot function i at = and_places (r.arguments m below i) _ (arguments_at i at) (λ inner j at. expect_at p.CloseParen j _ at (λ at. at))

    suffixed_at : (spot : Spot) (operand : Found Expr) (kind : Suffix) (i : Input) → IsBehind from i → Places from (r.suffixed m below spot operand kind i)
    suffixed_at spot operand suffix.Index i at = index_at spot operand i at
    suffixed_at spot operand suffix.Call i at = call_at spot operand i at
    suffixed_at spot operand suffix.Member i at = word_at i _ at (λ at. at)
    suffixed_at spot operand suffix.Arrow i at = word_at i _ at (λ at. at)
    suffixed_at spot operand (suffix.Post op) i at = at

    suffixes_by_at : (spot : Spot) (again : Found Expr → Parser (Found Expr)) → ((one : Found Expr) (i : Input) → IsBehind from i → Places from (again one i)) → (operand : Found Expr) (o : Option Suffix)
        (i : Input) → IsBehind from i → Places from (r.suffixes_by m below spot again operand o i)
    suffixes_by_at spot again goes operand None i at = at
    suffixes_by_at spot again goes operand (Some kind) i at =
        need_at 1 operand.room i _ at (and_places (r.suffixed m below spot operand kind (next i)) _ (suffixed_at spot operand kind (next i) (on i at)) (λ one j at. goes one j at))

    suffixes_from_at : (spot : Spot) (n : ℕ) (operand : Found Expr) (i : Input) → IsBehind from i → Places from (r.suffixes_from m below spot n operand i)
    unfolding r.suffixes_from
    suffixes_from_at spot zero operand i at = at
    suffixes_from_at spot (suc n) operand i at =
        suffixes_by_at spot (r.suffixes_from m below spot n) (λ one j at. suffixes_from_at spot n one j at) operand (suffix_of (peek i)) i at

    suffixes_at : (spot : Spot) (operand : Found Expr) (i : Input) → IsBehind from i → Places from (r.suffixes m below spot operand i)
    unfolding r.suffixes
    suffixes_at spot operand i at = suffixes_from_at spot (left i) operand i at

    postfix_at : (spot : Spot) (i : Input) → IsBehind from i → Places from (r.postfix m below spot i)
    unfolding r.postfix
    postfix_at spot i at = and_places (r.primary m below spot i) _ (primary_at spot i at) (λ one j at. suffixes_at spot one j at)

    cast_at : (spot : Spot) (i : Input) → IsBehind from i → Places from (r.cast m below spot i)
    unfolding r.cast
    cast_at spot i at = and_places (below.type_name i) _ (so.type_name i at)
        (λ name j at. expect_at p.CloseParen j _ at (λ at. and_places (below.expr 13 (next j)) _ (so.expr 13 (next j) at) (λ operand l at. at)))

    sizeof_operand_at : (i : Input) → IsBehind from i → Places from (r.sizeof_operand m below i)
    unfolding r.sizeof_operand
    sizeof_operand_at i at = test (sees p.OpenParen i && nat_le m 1) _ _ (exhausted_at (Found Expr) (is_start (start_of (peek (next i)))) (next i) (on i at)) (so.expr 14 i at)

    sizeof_at : (spot : Spot) (i : Input) → IsBehind from i → Places from (r.sizeof m below spot i)
    unfolding r.sizeof
    sizeof_at spot i at = test (opens_type_name i) _ _
        (and_places (below.type_name (next i)) _ (so.type_name (next i) (on i at)) (λ name j at. expect_at p.CloseParen j _ at (λ at. at)))
        (and_places (r.sizeof_operand m below i) _ (sizeof_operand_at i at) (λ operand j at. at))

    cast_if_at : (casts : Bool) (spot : Spot) (i : Input) → IsBehind from i → Places from (r.cast_if m below casts spot i)
    cast_if_at true spot i at = cast_at spot i at
    cast_if_at false spot i at = syntax_there i at

    opened_at : (casts : Bool) (spot : Spot) (i : Input) → IsBehind from i → Places from (r.opened m below casts spot i)
    unfolding r.opened
    opened_at casts spot i at = test (begins_specifiers (next i)) _ _ (need_at 1 m i _ at (cast_if_at casts spot (next i) (on i at))) (postfix_at spot i at)

    operand_by_at : (casts : Bool) (spot : Spot) (kind : Start) (i : Input) → IsBehind from i → Places from (r.operand_by m below casts spot kind i)
    operand_by_at casts spot start.Word i at = postfix_at spot i at
    operand_by_at casts spot (start.Number kind value) i at = postfix_at spot i at
    operand_by_at casts spot (start.Char value) i at = postfix_at spot i at
    operand_by_at casts spot start.Text i at = postfix_at spot i at
    operand_by_at casts spot start.Open i at = opened_at casts spot i at
    operand_by_at casts spot (start.Step op) i at = need_at 1 m i _ at (and_places (below.expr 14 (next i)) _ (so.expr 14 (next i) (on i at)) (λ one j at. at))
    operand_by_at casts spot (start.Prefix op) i at = need_at 1 m i _ at (and_places (below.expr 13 (next i)) _ (so.expr 13 (next i) (on i at)) (λ one j at. at))
    operand_by_at casts spot start.Sizeof i at = need_at 1 m i _ at (sizeof_at spot (next i) (on i at))
    operand_by_at casts spot start.Nothing i at = syntax_there i at

    operand_at : (casts : Bool) (spot : Spot) (i : Input) → IsBehind from i → Places from (r.operand m below casts spot i)
    unfolding r.operand
    operand_at casts spot i at = operand_by_at casts spot (start_of (peek i)) i at

    combined_at : (spot : Spot) (before : Found Expr) (op : Infix) (i : Input) → IsBehind from i → Places from (r.combined m below spot before op i)
    combined_at spot before between.Comma i at = and_places (below.expr 1 i) _ (so.expr 1 i at) (λ one j at. at)
    combined_at spot before (between.Assign op) i at = and_places (below.expr 1 i) _ (so.expr 1 i at) (λ one j at. at)
    combined_at spot before between.Choice i at = and_places (below.expr 0 i) _ (so.expr 0 i at)
        (λ one j at. expect_at p.Colon j _ at (λ at. and_places (below.expr 2 (next j)) _ (so.expr 2 (next j) at) (λ other l at. at)))
    combined_at spot before (between.Binary op) i at = and_places (below.expr (level_of op + 1) i) _ (so.expr (level_of op + 1) i at) (λ one j at. at)

    climb_by_at : (least : ℕ) (spot : Spot) (again : Found Expr → Parser (Found Expr)) → ((one : Found Expr) (i : Input) → IsBehind from i → Places from (again one i)) → (before : Found Expr)
        (o : Option Infix) (i : Input) → IsBehind from i → Places from (r.climb_by m below least spot again before o i)
    climb_by_at least spot again goes before None i at = at
    climb_by_at least spot again goes before (Some op) i at = test_on (nat_le least (infix_level op)) _ _ i
        (need_at 1 before.room i _ at (and_places (r.combined m below spot before op (next i)) _ (combined_at spot before op (next i) (on i at)) (λ one j at. goes one j at))) at

    climb_from_at : (least : ℕ) (spot : Spot) (n : ℕ) (before : Found Expr) (i : Input) → IsBehind from i → Places from (r.climb_from m below least spot n before i)
    unfolding r.climb_from
    climb_from_at least spot zero before i at = at
    climb_from_at least spot (suc n) before i at =
        climb_by_at least spot (r.climb_from m below least spot n) (λ one j at. climb_from_at least spot n one j at) before (infix_of (peek i)) i at

    climb_at : (least : ℕ) (spot : Spot) (before : Found Expr) (i : Input) → IsBehind from i → Places from (r.climb m below least spot before i)
    unfolding r.climb
    climb_at least spot before i at = climb_from_at least spot (left i) before i at

    expr_at : (least : ℕ) (i : Input) → IsBehind from i → Places from (r.expr m below least i)
    unfolding r.expr
    expr_at least i at = and_places (r.operand m below (nat_le least 13) (here i) i) _ (operand_at (nat_le least 13) (here i) i at) (λ one j at. climb_at least (here i) one j at)

    -- ---- specifiers

    struct_body_at : (tag : Option (List ℕ)) (i : Input) → IsBehind from i → Places from (r.struct_body m below tag i)
    unfolding r.struct_body
    struct_body_at tag i at = need_at 2 m i _ at (expect_at p.OpenBrace i _ at (λ at. and_places (below.member (next i)) _ (so.member (next i) at)
        (λ first j at. and_places (r.members m below first j) _ (repeat_at (sees p.CloseBrace) below.member so.member (left j) _ j at) (λ list l at. expect_at p.CloseBrace l _ at (λ at. at)))))

    enum_body_at : (tag : Option (List ℕ)) (i : Input) → IsBehind from i → Places from (r.enum_body m below tag i)
    unfolding r.enum_body
    enum_body_at tag i at = need_at 1 m i _ at (expect_at p.OpenBrace i _ at (λ at. and_places (r.items m below (next i)) _ (separated_at is_close_brace below.item so.item (left (next i)) _ (next i) at)
        (λ list j at. and_places (r.comma_if_any j) _ (comma_at j at) (λ none l at. expect_at p.CloseBrace l _ at (λ at. at)))))

    struct_by_at : (tag : Option (List ℕ)) (i : Input) → IsBehind from i → Places from (r.struct_by m below tag i)
    struct_by_at None i at = test (sees p.OpenBrace i) _ _ (struct_body_at None i at) (syntax_there i at)
    struct_by_at (Some name) i at = test (sees p.OpenBrace i) _ _ (struct_body_at (Some name) i at) at

    enum_by_at : (tag : Option (List ℕ)) (i : Input) → IsBehind from i → Places from (r.enum_by m below tag i)
    enum_by_at None i at = test (sees p.OpenBrace i) _ _ (enum_body_at None i at) (syntax_there i at)
    enum_by_at (Some name) i at = test (sees p.OpenBrace i) _ _ (enum_body_at (Some name) i at) at

    keyword_by_at : (typed : Bool) (kind : TokenKind) (o : Option Specifier) (i : Input) → IsBehind from i → Places from (r.keyword_by m below typed kind o i)
    keyword_by_at typed kind None i at = word_at i _ at (λ at. at)
    keyword_by_at typed kind (Some specifier) i at = on i at

    specifier_at : (typed : Bool) (i : Input) → IsBehind from i → Places from (r.specifier m below typed i)
    unfolding r.specifier
    specifier_at typed i at = test (sees_key w.Struct i) _ _
        (and_places (and_then (r.tag (next i)) (r.struct_by m below)) _ (and_places (r.tag (next i)) _ (tag_at (next i) (on i at)) (λ tag j at. struct_by_at tag j at)) (λ one j at. at))
        (test (sees_key w.Enum i) _ _
        (and_places (and_then (r.tag (next i)) (r.enum_by m below)) _ (and_places (r.tag (next i)) _ (tag_at (next i) (on i at)) (λ tag j at. enum_by_at tag j at)) (λ one j at. at))
        (keyword_by_at typed (peek i) (specifier_of (peek i)) i at))

    specifiers_from_at : (n : ℕ) (typed : Bool) (before : Found (List Specifier × Bool)) (i : Input) → IsBehind from i → Places from (r.specifiers_from m below n typed before i)
    unfolding r.specifiers_from
    specifiers_from_at zero typed before i at = at
    specifiers_from_at (suc n) typed before i at = test (continues_specifiers typed i) _ _
        (and_places (r.specifier m below typed i) _ (specifier_at typed i at) (λ one j at. specifiers_from_at n one.tree.1 _ j at)) at

    specifiers_at : (i : Input) → IsBehind from i → Places from (r.specifiers m below i)
    unfolding r.specifiers
    specifiers_at i at = test (begins_specifiers i) _ _ (specifiers_from_at (left i) false _ i at) (syntax_there i at)

    -- ---- type names, parameters, members and items

    type_name_at : (spot : Spot) (i : Input) → IsBehind from i → Places from (r.type_name_from m below spot i)
    unfolding r.type_name_from
    type_name_at spot i at = and_places (r.specifiers m below i) _ (specifiers_at i at) (λ first j at. test (r.begins_declarator naming.Abstract j) _ _
        (and_places (below.declarator naming.Abstract j) _ (so.declarator naming.Abstract j at) (λ inner l at. at)) at)

    parameter_at : (spot : Spot) (i : Input) → IsBehind from i → Places from (r.parameter_from m below spot i)
    unfolding r.parameter_from
    parameter_at spot i at = and_places (r.specifiers m below i) _ (specifiers_at i at) (λ first j at. test (r.begins_declarator naming.Either j) _ _
        (and_places (below.declarator naming.Either j) _ (so.declarator naming.Either j at) (λ inner l at. head_at inner.tree.1 first.tree.1 l at)) at)

    parameters_at : (i : Input) → IsBehind from i → Places from (r.parameters m below i)
    unfolding r.parameters
    parameters_at i at = test (sees p.CloseParen i) _ _ at (and_places (r.parameter_list m below i) _
        (separated_at r.is_ellipsis (r.parameter m below) (λ i at. parameter_at (here i) i at) (left i) _ i at) (λ list j at. and_places (r.dots j) _ (dots_at j at) (λ dots l at. at)))

    width_at : (i : Input) → IsBehind from i → Places from (r.width m below i)
    unfolding r.width
    width_at i at = expect_at p.Colon i _ at (λ at. so.expr 2 (next i) at)

    field_at : (i : Input) → IsBehind from i → Places from (r.field m below i)
    unfolding r.field
    field_at i at = test (sees p.Colon i) _ _ (and_places (r.width m below i) _ (width_at i at) (λ one j at. at))
        (and_places (below.declarator naming.Named i) _ (so.declarator naming.Named i at) (λ inner j at. test (sees p.Colon j) _ _
        (and_places (r.width m below j) _ (width_at j at) (λ one l at. at)) at))

    member_at : (spot : Spot) (i : Input) → IsBehind from i → Places from (r.member_from m below spot i)
    unfolding r.member_from
    member_at spot i at = and_places (r.specifiers m below i) _ (specifiers_at i at) (λ first j at. and_places (r.field_list m below j) _
        (separated_at (λ _. false) (r.field m below) field_at (left j) _ j at) (λ list l at. expect_at p.Semicolon l _ at (λ at. at)))

    value_at : (i : Input) → IsBehind from i → Places from (r.value m below i)
    unfolding r.value
    value_at i at = test (sees p.Equal i) _ _ (need_at 1 m i _ at (and_places (below.expr 2 (next i)) _ (so.expr 2 (next i) (on i at)) (λ one j at. at))) at

    item_at : (spot : Spot) (i : Input) → IsBehind from i → Places from (r.item_from m below spot i)
    unfolding r.item_from
    item_at spot i at = word_at i _ at (λ at. and_places (r.value m below (next i)) _ (value_at (next i) at) (λ one j at. declared_at (text i) false j at))

    -- ---- declarators

    size_at : (i : Input) → IsBehind from i → Places from (r.size m below i)
    unfolding r.size
    size_at i at = test (sees p.CloseBracket i) _ _ at (and_places (below.expr 1 i) _ (so.expr 1 i at) (λ one j at. at))

    array_at : (spot : Spot) (inner : Option Declarator) (h : Head) (room : ℕ) (i : Input) → IsBehind from i → Places from (r.array_of m below spot inner h room i)
    unfolding r.array_of
    array_at spot inner h room i at = and_places (r.size m below i) _ (size_at i at) (λ one j at. expect_at p.CloseBracket j _ at (λ at. at))

    function_at : (spot : Spot) (inner : Option Declarator) (h : Head) (room : ℕ) (i : Input) → IsBehind from i → Places from (r.function_of m below spot inner h room i)
    unfolding r.function_of
    function_at spot inner h room i at = and_places (r.parameters m below i) _ (parameters_at i at) (λ list j at. expect_at p.CloseParen j _ at (λ at. left_at i (next j) at))

    grown_at : (spot : Spot) (n : ℕ) (before : Found (Declarator × Head)) (i : Input) → IsBehind from i → Places from (r.grown_from m below spot n before i)
    unfolding r.grown_from
    grown_at spot zero before i at = at
    grown_at spot (suc n) before i at = test (sees p.OpenBracket i) _ _
        (need_at 1 before.room i _ at (and_places (r.array_of m below spot _ _ _ (next i)) _ (array_at spot _ _ _ (next i) (on i at)) (λ one j at. grown_at spot n one j at)))
        (test (sees p.OpenParen i) _ _
        (need_at 1 before.room i _ at (and_places (r.function_of m below spot _ _ _ (next i)) _ (function_at spot _ _ _ (next i) (on i at)) (λ one j at. grown_at spot n one j at)))
        at)

    parts_at : (spot : Spot) (before : Found (Declarator × Head)) (i : Input) → IsBehind from i → Places from (r.parts m below spot before i)
    unfolding r.parts
    parts_at spot before i at = grown_at spot (left i) before i at

    inside_at : {A : Type 0} (n : Naming) (i : Input) (q : Parser A) → IsBehind from i → Places from (q i) → Places from ((r.need_inside m below n >> q) i)
    inside_at naming.Named i q at here_ = need_at 1 m i q at here_
    inside_at naming.Abstract i q at here_ = here_
    inside_at naming.Either i q at here_ = here_

    group_at : (n : Naming) (spot : Spot) (i : Input) → IsBehind from i → Places from (r.group m below n spot i)
    unfolding r.group
    group_at n spot i at = inside_at n i _ at (and_places (below.declarator n (next i)) _ (so.declarator n (next i) (on i at)) (λ inner j at. expect_at p.CloseParen j _ at (λ at. at)))

    star_of_at : (n : Naming) (spot : Spot) (list : List Qualifier) (i : Input) → IsBehind from i → Places from (r.star_of m below n spot list i)
    unfolding r.star_of
    star_of_at n spot list i at = test (not (r.begins_declarator n i) && may_omit n) _ _ at (and_places (below.declarator n i) _ (so.declarator n i at) (λ inner j at. at))

    star_at : (n : Naming) (spot : Spot) (i : Input) → IsBehind from i → Places from (r.star m below n spot i)
    unfolding r.star
    star_at n spot i at = inside_at n i _ at (and_places (r.qualifiers (next i)) _ (qualifiers_at (next i) (on i at)) (λ list j at. star_of_at n spot list j at))

    direct_at : (n : Naming) (spot : Spot) (i : Input) → IsBehind from i → Places from (r.direct m below n spot i)
    unfolding r.direct
    direct_at n spot i at = test (sees p.OpenParen i) _ _
        (test (is_group n (next i)) _ _ (group_at n spot i at) (function_at spot None head.Abstract m (next i) (on i at)))
        (test (sees p.OpenBracket i && may_omit n) _ _ (array_at spot None head.Abstract m (next i) (on i at)) (test (may_name n) _ _ (word_at i _ at (λ at. at)) (syntax_there i at)))

    declarator_at : (n : Naming) (spot : Spot) (i : Input) → IsBehind from i → Places from (r.declarator m below n spot i)
    unfolding r.declarator
    declarator_at n spot i at = test (sees p.Star i) _ _ (star_at n spot i at) (and_places (r.direct m below n spot i) _ (direct_at n spot i at) (λ one j at. parts_at spot one j at))

  placed : (m : ℕ) → ArePlaced (readers m)
  unfolding readers exhausted_readers
  placed zero = record {
    expr = λ level i at. exhausted_at _ (is_start (start_of (peek i))) i at;
    type_name = λ i at. exhausted_at _ (begins_specifiers i) i at;
    declarator = λ n i at. exhausted_at _ (r.begins_declarator n i) i at;
    member = λ i at. exhausted_at _ (begins_specifiers i) i at;
    item = λ i at. exhausted_at _ (is_word (peek i)) i at;
  }
  placed (suc m) = record {
    expr = λ level i at. expr_at m (readers m) (placed m) level i at;
    type_name = λ i at. type_name_at m (readers m) (placed m) (here i) i at;
    declarator = λ n i at. declarator_at m (readers m) (placed m) n (here i) i at;
    member = λ i at. member_at m (readers m) (placed m) (here i) i at;
    item = λ i at. item_at m (readers m) (placed m) (here i) i at;
  }

  -- ---- initialisers and declarations

  module _ (m : ℕ) (below : Parser (Found Init)) (so : (i : Input) → IsBehind from i → Places from (below i)) where
    designator_at : (i : Input) → IsBehind from i → Places from (dr.designator m below i)
    unfolding dr.designator
    designator_at i at = test (sees p.Dot i) _ _ (word_at (next i) _ (on i at) (λ at. at))
        (expect_at p.OpenBracket i _ at (λ at. and_places ((readers m).expr 2 (next i)) _ ((placed m).expr 2 (next i) at) (λ index j at. expect_at p.CloseBracket j _ at (λ at. at))))

    designators_at : (i : Input) → IsBehind from i → Places from (dr.designators m below i)
    unfolding dr.designators
    designators_at i at = test (dr.begins_designator i) _ _
        (and_places (dr.designator_list m below i) _ (repeat_at _ (dr.designator m below) designator_at (left i) _ i at) (λ list j at. expect_at p.Equal j _ at (λ at. at))) at

    entry_at : (i : Input) → IsBehind from i → Places from (dr.entry m below i)
    unfolding dr.entry
    entry_at i at = and_places (dr.designators m below i) _ (designators_at i at) (λ list j at. and_places (below j) _ (so j at) (λ value l at. at))

    braced_at : (spot : Spot) (i : Input) → IsBehind from i → Places from (dr.braced m below spot i)
    unfolding dr.braced
    braced_at spot i at = need_at 1 m i _ at (and_places (dr.entries m below (next i)) _ (separated_at is_close_brace (dr.entry m below) entry_at (left (next i)) _ (next i) (on i at))
        (λ list j at. and_places (r.comma_if_any j) _ (comma_at j at) (λ none l at. expect_at p.CloseBrace l _ at (λ at. at))))

    init_at : (spot : Spot) (i : Input) → IsBehind from i → Places from (dr.init_from m below spot i)
    unfolding dr.init_from
    init_at spot i at = test (sees p.OpenBrace i) _ _ (braced_at spot i at) (and_places ((readers (suc m)).expr 1 i) _ ((placed (suc m)).expr 1 i at) (λ value j at. at))

  initialiser_at : (m : ℕ) (i : Input) → IsBehind from i → Places from (dr.initialiser m i)
  unfolding dr.initialiser
  initialiser_at zero i at = exhausted_at _ (dr.begins_initialiser i) i at
  initialiser_at (suc m) i at = init_at m (dr.initialiser m) (initialiser_at m) (here i) i at

  module _ (m : ℕ) where
    initialised_at : (typedef : Bool) (one : Found (Declarator × Head)) (i : Input) → IsBehind from i → Places from (dr.initialised m typedef one i)
    unfolding dr.initialised
    initialised_at typedef one i at =
        let j : Input = declare_head one.tree.1 typedef i in
        let there = head_at one.tree.1 typedef i at in
        test (sees p.Equal i) _ _ (and_places (dr.initialiser m (next j)) _ (initialiser_at m (next j) (on j there)) (λ value l at. at)) there

    init_declarator_at : (typedef : Bool) (i : Input) → IsBehind from i → Places from (dr.init_declarator m typedef i)
    unfolding dr.init_declarator
    init_declarator_at typedef i at = and_places ((readers m).declarator naming.Named i) _ ((placed m).declarator naming.Named i at) (λ one j at. initialised_at typedef one j at)

    after_first_at : (typedef : Bool) (one : Found InitDeclarator) (i : Input) → IsBehind from i → Places from (dr.after_first m typedef one i)
    unfolding dr.after_first
    after_first_at typedef one i at = test (sees p.Comma i) _ _ (separated_at (λ _. false) (dr.init_declarator m typedef) (init_declarator_at typedef) (left i) _ (next i) (on i at)) at

    behind_at : (typedef : Bool) (first : Found (Declarator × Head)) (i : Input) → IsBehind from i → Places from (dr.declarators_behind m typedef first i)
    unfolding dr.declarators_behind
    behind_at typedef first i at = and_places (dr.initialised m typedef first i) _ (initialised_at typedef first i at) (λ one j at. after_first_at typedef one j at)

    declarators_at : (typedef : Bool) (i : Input) → IsBehind from i → Places from (dr.declarators m typedef i)
    unfolding dr.declarators
    declarators_at typedef i at = test (sees p.Semicolon i) _ _ at (separated_at (λ _. false) (dr.init_declarator m typedef) (init_declarator_at typedef) (left i) _ i at)

    declare_at_ : (spot : Spot) (i : Input) → IsBehind from i → Places from (dr.declare_from m spot i)
    unfolding dr.declare_from
    declare_at_ spot i at = and_places (r.specifiers m (readers m) i) _ (specifiers_at m (readers m) (placed m) i at)
        (λ first j at. and_places (dr.declarators m first.tree.1 j) _ (declarators_at first.tree.1 j at) (λ list l at. expect_at p.Semicolon l _ at (λ at. at)))

  declaration_at : (m : ℕ) (i : Input) → IsBehind from i → Places from (dr.declaration m i)
  unfolding dr.declaration
  declaration_at zero i at = exhausted_at _ (begins_specifiers i) i at
  declaration_at (suc m) i at = declare_at_ m (here i) i at

  -- ---- statements

  module _ (m : ℕ) (below : Parser (Found Stmt)) (so : (i : Input) → IsBehind from i → Places from (below i)) where
    optional_at : (end : Punct) (i : Input) → IsBehind from i → Places from (u.optional m below end i)
    unfolding u.optional
    optional_at end i at = test (sees end i) _ _ (on i at) (and_places ((readers m).expr 0 i) _ ((placed m).expr 0 i at) (λ value j at. expect_at end j _ at (λ at. at)))

    condition_at : (i : Input) → IsBehind from i → Places from (u.condition m below i)
    unfolding u.condition
    condition_at i at = expect_at p.OpenParen i _ at (λ at. and_places ((readers m).expr 0 (next i)) _ ((placed m).expr 0 (next i) at) (λ value j at. expect_at p.CloseParen j _ at (λ at. at)))

    scope_at : (i : Input) → IsBehind from i → Places from (u.scope m below i)
    unfolding u.scope
    scope_at i at = and_places (below i) _ (so i at) (λ inner j at. left_at i j at)

    labelled_at : (f i : Input) → IsBehind from i → Places from (u.labelled m below f i)
    unfolding u.labelled
    labelled_at f i at = need_at 1 m i _ at (word_at i _ at (λ at. expect_at p.Colon (next i) _ at (λ at. and_places (below (next (next i))) _ (so (next (next i)) at) (λ inner j at. at))))

    case_at : (f i : Input) → IsBehind from i → Places from (u.case_of m below f i)
    unfolding u.case_of
    case_at f i at = need_at 1 m i _ at (and_places ((readers m).expr 2 (next i)) _ ((placed m).expr 2 (next i) (on i at)) (λ value j at. expect_at p.Colon j _ at (λ at.
        and_places (below (next j)) _ (so (next j) at) (λ inner l at. at))))

    default_at : (f i : Input) → IsBehind from i → Places from (u.default_of m below f i)
    unfolding u.default_of
    default_at f i at = need_at 1 m i _ at (expect_at p.Colon (next i) _ (on i at) (λ at. and_places (below (next (next i))) _ (so (next (next i)) at) (λ inner j at. at)))

    block_item_at : (i : Input) → IsBehind from i → Places from (u.block_item m below i)
    unfolding u.block_item
    block_item_at i at = test (begins_declaration i) _ _ (and_places (dr.declaration m i) _ (declaration_at m i at) (λ one j at. at))
        (test (u.is_late_label m i) _ _ (deep_there (next i) (on i at)) (and_places (below i) _ (so i at) (λ one j at. at)))

    block_items_at : (i : Input) → IsBehind from i → Places from (u.block_items m below i)
    unfolding u.block_items
    block_items_at i at = repeat_at (sees p.CloseBrace) (u.block_item m below) block_item_at (left i) _ i at

    block_at : (f i : Input) → IsBehind from i → Places from (u.block m below f i)
    unfolding u.block
    block_at f i at = and_places (u.block_items m below (next i)) _ (block_items_at (next i) (on i at)) (λ items j at. expect_at p.CloseBrace j _ at (λ at. left_at f (next j) at))

    expression_at : (f i : Input) → IsBehind from i → Places from (u.expression m below f i)
    unfolding u.expression
    expression_at f i at = and_places (u.optional m below p.Semicolon i) _ (optional_at p.Semicolon i at) (λ value j at. at)

    if_behind_at : (value : Found Expr) (taken : Found Stmt) (i : Input) → IsBehind from i → Places from (u.if_behind m below value taken i)
    unfolding u.if_behind
    if_behind_at value taken i at = test (sees_key w.Else i) _ _ (and_places (u.scope m below (next i)) _ (scope_at (next i) (on i at)) (λ other j at. at)) at

    if_at : (f i : Input) → IsBehind from i → Places from (u.if_of m below f i)
    unfolding u.if_of
    if_at f i at = need_at 1 m i _ at (and_places (u.condition m below (next i)) _ (condition_at (next i) (on i at)) (λ value j at.
        and_places (u.scope m below j) _ (scope_at j at) (λ taken l at. and_places (u.if_behind m below value taken l) _ (if_behind_at value taken l at) (λ form n at. left_at f n at))))

    switch_at : (f i : Input) → IsBehind from i → Places from (u.switch_of m below f i)
    unfolding u.switch_of
    switch_at f i at = need_at 1 m i _ at (and_places (u.condition m below (next i)) _ (condition_at (next i) (on i at)) (λ value j at.
        and_places (u.scope m below j) _ (scope_at j at) (λ inner l at. left_at f l at)))

    while_at : (f i : Input) → IsBehind from i → Places from (u.while_of m below f i)
    unfolding u.while_of
    while_at f i at = need_at 1 m i _ at (and_places (u.condition m below (next i)) _ (condition_at (next i) (on i at)) (λ value j at.
        and_places (u.scope m below j) _ (scope_at j at) (λ inner l at. left_at f l at)))

    until_at : (f i : Input) → IsBehind from i → Places from (u.until_of m below f i)
    unfolding u.until_of
    until_at f i at = need_at 1 m i _ at (and_places (u.scope m below (next i)) _ (scope_at (next i) (on i at)) (λ inner j at. key_at w.While j _ at (λ at.
        and_places (u.condition m below (next j)) _ (condition_at (next j) at) (λ value l at. expect_at p.Semicolon l _ at (λ at. left_at f (next l) at)))))

    first_at : (i : Input) → IsBehind from i → Places from (u.for_first m below i)
    unfolding u.for_first
    first_at i at = test (begins_specifiers i) _ _ (and_places (dr.declaration m i) _ (declaration_at m i at) (λ one j at. at))
        (and_places (u.optional m below p.Semicolon i) _ (optional_at p.Semicolon i at) (λ value j at. at))

    for_head_at : (i : Input) → IsBehind from i → Places from (u.for_head m below i)
    unfolding u.for_head
    for_head_at i at = expect_at p.OpenParen i _ at (λ at. and_places (u.for_first m below (next i)) _ (first_at (next i) at) (λ start a at.
        and_places (u.optional m below p.Semicolon a) _ (optional_at p.Semicolon a at) (λ value b at. and_places (u.optional m below p.CloseParen b) _ (optional_at p.CloseParen b at) (λ step c at. at))))

    for_at : (f i : Input) → IsBehind from i → Places from (u.for_of m below f i)
    unfolding u.for_of
    for_at f i at = need_at 1 m i _ at (and_places (u.for_head m below (next i)) _ (for_head_at (next i) (on i at)) (λ parts j at. and_places (u.scope m below j) _ (scope_at j at) (λ inner l at. left_at f l at)))

    goto_at : (f i : Input) → IsBehind from i → Places from (u.goto_of m below f i)
    unfolding u.goto_of
    goto_at f i at = word_at (next i) _ (on i at) (λ at. expect_at p.Semicolon (next (next i)) _ at (λ at. at))

    return_at : (f i : Input) → IsBehind from i → Places from (u.return_of m below f i)
    unfolding u.return_of
    return_at f i at = and_places (u.optional m below p.Semicolon (next i)) _ (optional_at p.Semicolon (next i) (on i at)) (λ value j at. at)

    stmt_by_at : (f : Input) (l : Lead) (i : Input) → IsBehind from i → Places from (u.stmt_by m below f l i)
    stmt_by_at f lead.Word i at = test (is_colon (peek (next i))) _ _ (labelled_at f i at) (expression_at f i at)
    stmt_by_at f lead.Case i at = case_at f i at
    stmt_by_at f lead.Default i at = default_at f i at
    stmt_by_at f lead.If i at = if_at f i at
    stmt_by_at f lead.Switch i at = switch_at f i at
    stmt_by_at f lead.While i at = while_at f i at
    stmt_by_at f lead.Do i at = until_at f i at
    stmt_by_at f lead.For i at = for_at f i at
    stmt_by_at f lead.Goto i at = goto_at f i at
    stmt_by_at f lead.Continue i at = expect_at p.Semicolon (next i) _ (on i at) (λ at. at)
    stmt_by_at f lead.Break i at = expect_at p.Semicolon (next i) _ (on i at) (λ at. at)
    stmt_by_at f lead.Return i at = return_at f i at
    stmt_by_at f lead.Block i at = block_at f i at
    stmt_by_at f lead.Other i at = expression_at f i at

    stmt_from_at : (f i : Input) → IsBehind from i → Places from (u.stmt_from m below f i)
    unfolding u.stmt_from
    stmt_from_at f i at = stmt_by_at f (lead_of (peek i)) i at

  stmt_at_ : (m : ℕ) (i : Input) → IsBehind from i → Places from (u.stmt m i)
  unfolding u.stmt
  stmt_at_ zero i at = exhausted_at _ (begins_stmt (peek i)) i at
  stmt_at_ (suc m) i at = stmt_from_at m (u.stmt m) (stmt_at_ m) i i at

  -- ---- external declarations

  body_items_at : (m : ℕ) (i : Input) → IsBehind from i → Places from (u.body_items m i)
  body_items_at zero i at = syntax_there i at
  body_items_at (suc n) i at = block_items_at n (u.stmt n) (stmt_at_ n) i at

  module _ (m : ℕ) where
    function_body_at : (name : List ℕ) (typedef : Bool) (parameters : Names) (i : Input) → IsBehind from i → Places from (u.function_body m name typedef parameters i)
    unfolding u.function_body
    function_body_at name typedef parameters i at =
        let outer : Input = declare name typedef i in
        let j : Input = with_names parameters outer in
        and_places (u.body_items m (next j)) _ (body_items_at m (next j) (on j (named_at parameters outer (declared_at name typedef i at)))) (λ items k at. expect_at p.CloseBrace k _ at (λ at. left_at outer (next k) at))

    function_by_at : (spot : Spot) (first : Found (List Specifier × Bool)) (inner : Found (Declarator × Head)) (h : Head) (i : Input) → IsBehind from i → Places from (u.function_by m spot first inner h i)
    function_by_at spot first inner head.Abstract i at = syntax_there i at
    function_by_at spot first inner (head.Bare name) i at = syntax_there i at
    function_by_at spot first inner (head.Function name parameters) i at =
        and_places (u.function_body m name first.tree.1 parameters i) _ (function_body_at name first.tree.1 parameters i at) (λ body j at. at)
    function_by_at spot first inner (head.Other name) i at = syntax_there i at

    declared_behind_at : (spot : Spot) (first : Found (List Specifier × Bool)) (inner : Found (Declarator × Head)) (i : Input) → IsBehind from i → Places from (u.declared_behind m spot first inner i)
    unfolding u.declared_behind
    declared_behind_at spot first inner i at = and_places (dr.declarators_behind m first.tree.1 inner i) _ (behind_at m first.tree.1 inner i at) (λ list j at. expect_at p.Semicolon j _ at (λ at. at))

    declared_there : (spot : Spot) (first : Found (List Specifier × Bool)) (i : Input) → IsBehind from i → Places from (u.declared m spot first i)
    unfolding u.declared
    declared_there spot first i at = test (sees p.Semicolon i) _ _ (on i at) (and_places ((readers m).declarator naming.Named i) _ ((placed m).declarator naming.Named i at) (λ inner j at.
        test (sees p.OpenBrace j) _ _ (function_by_at spot first inner inner.tree.1 j at) (declared_behind_at spot first inner j at)))

    external_from_at : (spot : Spot) (i : Input) → IsBehind from i → Places from (u.external_from m spot i)
    unfolding u.external_from
    external_from_at spot i at = test (sees p.Semicolon i) _ _ (on i at) (and_places (r.specifiers m (readers m) i) _ (specifiers_at m (readers m) (placed m) i at) (λ first j at. declared_there spot first j at))

  external_at : (m : ℕ) (i : Input) → IsBehind from i → Places from (u.external m i)
  unfolding u.external
  external_at zero i at = exhausted_at _ (u.begins_external i) i at
  external_at (suc m) i at = external_from_at m (here i) i at

  pub unit_at : (m : ℕ) (i : Input) → IsBehind from i → Places from (u.unit m i)
  unfolding u.unit
  unit_at m i at = and_places (u.externals m i) _ (repeat_at _ (u.external m) (external_at m) (left i) _ i at) (λ list j at. test (is_end (peek j)) _ _ at (syntax_there j at))
