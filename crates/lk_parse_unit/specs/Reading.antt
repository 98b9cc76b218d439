-- The readers of statements and units, as functions.
use Rattle.std.specs.Prelude.{ℕ, zero, suc, min, ◌==◌, Bool, ◌&&◌, ◌||◌, if◌then◌else◌, List, [], Option, Some, None, Ok}
use Rattle.lk_base.specs.declared.spot.Spot.{Spot}
use Rattle.lk_lex.specs.declared.punct.Punct.{Punct}
use Rattle.lk_lex.specs.declared.punct.Punct.TheVariants as p
use Rattle.lk_lex.specs.declared.keyword.Keyword.TheVariants as w
use Rattle.lk_tree.specs.declared.expression.Expr.{Expr}
use Rattle.lk_tree.specs.declared.expression.Specifier.{Specifier}
use Rattle.lk_tree.specs.declared.expression.Declarator.{Declarator}
use Rattle.lk_tree.specs.declared.statement.Stmt.{Stmt}
use Rattle.lk_tree.specs.declared.statement.StmtForm.{StmtForm}
use Rattle.lk_tree.specs.declared.statement.StmtForm.TheVariants as s
use Rattle.lk_tree.specs.declared.statement.BlockItem.{BlockItem}
use Rattle.lk_tree.specs.declared.statement.BlockItem.TheVariants as item
use Rattle.lk_tree.specs.declared.statement.ForFirst.{ForFirst}
use Rattle.lk_tree.specs.declared.statement.ForFirst.TheVariants as first
use Rattle.lk_tree.specs.declared.statement.Decl.{Decl}
use Rattle.lk_tree.specs.declared.statement.Decl.TheVariants as decl
use Rattle.lk_parse_expr.specs.declared.found.Found.{Found}
use Rattle.lk_parse_expr.specs.declared.naming.Naming.TheVariants as naming
use Rattle.lk_parse_expr.specs.declared.naming.Head.{Head}
use Rattle.lk_parse_expr.specs.declared.naming.Head.TheVariants as head
use Rattle.lk_parse_expr.specs.Input.{Input, Names, peek, here, next, declare, leave, with_names}
use Rattle.lk_parse_expr.specs.Words.{begins_specifiers}
use Rattle.lk_parse_expr.specs.Statements.{is_colon, begins_declaration, stmt_at, stmt_on}
use Rattle.lk_parse_expr.specs.Declarations.{declare_on}
use Rattle.lk_parse_expr.specs.Readers.{Parser, ◌>>=◌, ◌>>◌, pure, refuse, exhaust, exhausted, sees, sees_key, take, expect, expect_key, word, found, need, repeat}
use Rattle.lk_parse_expr.specs.Reading.{readers, specifiers}
use Rattle.lk_parse_unit.specs.declared.lead.Lead.{Lead}
use Rattle.lk_parse_unit.specs.declared.lead.Lead.TheVariants as lead
use Rattle.lk_lex.specs.TokenList.{is_end}
use Rattle.lk_parse_unit.specs.Leads.{lead_of, begins_stmt}
use Rattle.lk_parse_decl.specs.Reading.{declaration, declarators_behind}

-- A label that is a typedef name could begin a declaration. Where only one level is left, which a declaration
-- needs and a labelled statement exceeds, its `:` is the token that is too deep.
abbrev pub is_late_label : ℕ → Input → Bool
is_late_label m i = (m == 1) && begins_specifiers i

-- m is how many levels there are inside the statement; below reads a statement that stands there
module _ (m : ℕ) (below : Parser (Found Stmt)) where
  -- an expression before this token, where there is one
  unfoldable pub optional : Punct → Parser (Found (Option Expr))
  optional end = λ i.
      if sees end i then Ok (found None m, next i)
      else ((readers m).expr 0 >>= (λ value. expect end >> pure (found (Some value.tree) value.room))) i

  -- an expression in parentheses
  unfoldable pub condition : Parser (Found Expr)
  condition = expect p.OpenParen >> ((readers m).expr 0 >>= (λ value. expect p.CloseParen >> pure value))

  -- a substatement, which is a scope
  unfoldable pub scope : Parser (Found Stmt)
  scope = λ from. (below >>= (λ inner. λ i. Ok (inner, leave from i))) from

  unfoldable pub labelled : Input → Parser (Found Stmt)
  labelled from =
      need 1 m >> (word >>= (λ name. expect p.Colon
      >> (below >>= (λ inner. pure (found (stmt_at from (s.Label name inner.tree)) inner.room)))))

  unfoldable pub case_of : Input → Parser (Found Stmt)
  case_of from =
      need 1 m >> take >> ((readers m).expr 2
      >>= (λ value. expect p.Colon
      >> (below >>= (λ inner. pure (found (stmt_at from (s.Case value.tree inner.tree)) (min value.room inner.room))))))

  unfoldable pub default_of : Input → Parser (Found Stmt)
  default_of from =
      need 1 m >> take >> expect p.Colon
      >> (below >>= (λ inner. pure (found (stmt_at from (s.Default inner.tree)) inner.room)))

  unfoldable pub block_item : Parser (Found BlockItem)
  block_item = λ i.
      if begins_declaration i then (declaration m >>= (λ one. pure (found (item.Declare one.tree) one.room)))
      i
      else if is_late_label m i then (take >> exhaust) i
      else (below >>= (λ one. pure (found (item.Stmt one.tree) one.room))) i

  -- items up to a `}`
  unfoldable pub block_items : Parser (Found (List BlockItem))
  block_items = repeat (sees p.CloseBrace) block_item (found [] m)

  unfoldable pub block : Input → Parser (Found Stmt)
  block from =
      take >> (block_items >>= (λ items. expect p.CloseBrace
      >> (λ i. Ok (found (stmt_at from (s.Block items.tree)) items.room, leave from i))))

  unfoldable pub expression : Input → Parser (Found Stmt)
  expression from =
      optional p.Semicolon >>= (λ value. pure (found (stmt_at from (s.Do value.tree)) value.room))

  -- behind the first substatement of an `if`
  unfoldable pub if_behind : Found Expr → Found Stmt → Parser (Found StmtForm)
  if_behind value taken = λ i.
      if sees_key w.Else i then
      (take >> (scope >>= (λ other. pure
      (found (s.If value.tree taken.tree (Some other.tree)) (min value.room (min taken.room other.room)))))) i
      else Ok (found (s.If value.tree taken.tree None) (min value.room taken.room), i)

  unfoldable pub if_of : Input → Parser (Found Stmt)
  if_of from =
      need 1 m >> take >> (condition >>= (λ value. scope >>= (λ taken. if_behind value taken >>= (λ form.
      λ i. Ok (found (stmt_at from form.tree) form.room, leave from i)))))

  unfoldable pub switch_of : Input → Parser (Found Stmt)
  switch_of from =
      need 1 m >> take >> (condition
      >>= (λ value. scope >>= (λ inner. λ i. Ok
      (found (stmt_at from (s.Switch value.tree inner.tree)) (min value.room inner.room), leave from i))))

  unfoldable pub while_of : Input → Parser (Found Stmt)
  while_of from =
      need 1 m >> take >> (condition
      >>= (λ value. scope >>= (λ inner. λ i. Ok
      (found (stmt_at from (s.While value.tree inner.tree)) (min value.room inner.room), leave from i))))

  unfoldable pub until_of : Input → Parser (Found Stmt)
  until_of from =
      need 1 m >> take >> (scope >>= (λ inner. expect_key w.While >> (condition >>= (λ value. expect p.Semicolon
      >> (λ i. Ok (found (stmt_at from (s.Until inner.tree value.tree)) (min inner.room value.room), leave from i))))))

  unfoldable pub for_first : Parser (Found ForFirst)
  for_first = λ i.
      if begins_specifiers i then (declaration m >>= (λ one. pure (found (first.Declare one.tree) one.room)))
      i
      else (optional p.Semicolon >>= (λ value. pure (found (first.Expr value.tree) value.room))) i

  -- what stands in the parentheses of a `for`
  unfoldable pub for_head : Parser (Found (ForFirst × Option Expr × Option Expr))
  for_head =
      expect p.OpenParen >> (for_first >>= (λ start. optional p.Semicolon >>= (λ value. optional p.CloseParen >>= (λ step.
      pure (found (start.tree, value.tree, step.tree) (min start.room (min value.room step.room)))))))

  unfoldable pub for_of : Input → Parser (Found Stmt)
  for_of from = need 1 m >> take >> (for_head >>= (λ parts. scope >>= (λ inner.
      λ i. Ok (found (stmt_at from (s.For parts.tree.0 parts.tree.1 parts.tree.2 inner.tree)) (min parts.room inner.room), leave from i))))

  unfoldable pub goto_of : Input → Parser (Found Stmt)
  goto_of from =
      take >> (word >>= (λ name. expect p.Semicolon >> pure (found (stmt_at from (s.Goto name)) m)))

  unfoldable pub return_of : Input → Parser (Found Stmt)
  return_of from =
      take >> (optional p.Semicolon >>= (λ value. pure (found (stmt_at from (s.Return value.tree)) value.room)))

  abbrev pub word_alone : Input → StmtForm → Parser (Found Stmt)
  word_alone from form = take >> expect p.Semicolon >> pure (found (stmt_at from form) m)

  abbrev pub stmt_by : Input → Lead → Parser (Found Stmt)
  stmt_by from lead.Word = λ i. if is_colon (peek (next i)) then labelled from i else expression from i
  stmt_by from lead.Case = case_of from
  stmt_by from lead.Default = default_of from
  stmt_by from lead.If = if_of from
  stmt_by from lead.Switch = switch_of from
  stmt_by from lead.While = while_of from
  stmt_by from lead.Do = until_of from
  stmt_by from lead.For = for_of from
  stmt_by from lead.Goto = goto_of from
  stmt_by from lead.Continue = word_alone from s.Continue
  stmt_by from lead.Break = word_alone from s.Break
  stmt_by from lead.Return = return_of from
  stmt_by from lead.Block = block from
  stmt_by from lead.Other = expression from

  unfoldable pub stmt_from : Input → Parser (Found Stmt)
  stmt_from from = λ i. stmt_by from (lead_of (peek i)) i

-- a statement, with so many levels
unfoldable pub stmt : ℕ → Parser (Found Stmt)
stmt zero = λ i. exhausted (begins_stmt (peek i)) i
stmt (suc m) = λ i. stmt_from m (stmt m) i i

-- ---- external declarations; m is how many levels there are inside one

-- the items in the body of a function, with so many levels for the body
abbrev pub body_items : ℕ → Parser (Found (List BlockItem))
body_items zero = refuse
body_items (suc n) = block_items n (stmt n)

module _ (m : ℕ) where
  -- the body of a function of this name with these parameters, which are in scope in it; its `{` is next
  unfoldable pub function_body : List ℕ → Bool → Names → Parser (Found Stmt)
  function_body name typedef parameters = λ i.
      (take >> (body_items m >>= (λ items. expect p.CloseBrace
      >> (λ j. Ok (found (stmt_on (here i) (s.Block items.tree)) items.room, leave (declare name typedef i) j)))))
      (with_names parameters (declare name typedef i))

  -- the definition of a function that has this body
  abbrev pub defined : Spot → Found (List Specifier × Bool) → Found (Declarator × Head) →
      Found Stmt → Found Decl
  defined spot first inner body =
      found (decl.Function (record {
        spot = spot;
        ordinal = 0;
        specifiers = first.tree.0;
        declarator = inner.tree.0;
        body = body.tree;
      })) (min first.room (min inner.room body.room))

  abbrev pub function_by : Spot → Found (List Specifier × Bool) → Found (Declarator × Head) → Head →
      Parser (Found Decl)
  function_by spot first inner head.Abstract = refuse
  function_by spot first inner (head.Bare name) = refuse
  function_by spot first inner (head.Function name parameters) =
      function_body name first.tree.1 parameters >>= (λ body. pure (defined spot first inner body))
  function_by spot first inner (head.Other name) = refuse

  -- a declaration, behind its specifiers and its first declarator
  unfoldable pub declared_behind : Spot → Found (List Specifier × Bool) → Found (Declarator × Head) →
      Parser (Found Decl)
  declared_behind spot first inner = declarators_behind m first.tree.1 inner >>= (λ list.
      expect p.Semicolon >> pure
      (found (decl.Declare (declare_on spot first.tree.0 list.tree)) (min first.room list.room)))

  unfoldable pub declared : Spot → Found (List Specifier × Bool) → Parser (Found Decl)
  declared spot first = λ i.
      if sees p.Semicolon i then Ok
      (found (decl.Declare (declare_on spot first.tree.0 [])) first.room, next i)
      else ((readers m).declarator naming.Named >>= (λ inner. λ i.
      if sees p.OpenBrace i then function_by spot first inner inner.tree.1 i
      else declared_behind spot first inner i)) i

  unfoldable pub external_from : Spot → Parser (Found Decl)
  external_from spot = λ i.
      if sees p.Semicolon i then Ok (found (decl.Empty (record { spot = spot; ordinal = 0 })) m, next i)
      else (specifiers m (readers m) >>= declared spot) i

-- an external declaration begins
abbrev pub begins_external : Input → Bool
begins_external i = sees p.Semicolon i || begins_specifiers i

-- an external declaration, with so many levels
unfoldable pub external : ℕ → Parser (Found Decl)
external zero = λ i. exhausted (begins_external i) i
external (suc m) = λ i. external_from m (here i) i

abbrev pub ended : Found (List Decl) → Parser (Found (List Decl))
ended list = λ i. if is_end (peek i) then Ok (list, i) else refuse i

-- external declarations one after another
abbrev pub externals : ℕ → Parser (Found (List Decl))
externals most = repeat (λ i. is_end (peek i)) (external most) (found [] most)

-- external declarations up to the end
unfoldable pub unit : ℕ → Parser (Found (List Decl))
unit most = externals most >>= ended
