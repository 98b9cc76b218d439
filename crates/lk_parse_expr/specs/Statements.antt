-- The grammar of statements and units (C99 6.8, 6.9), a constructor for each production.
--
--     unit     = {external}
--     external = Function: specs declarator compound | declaration | Empty: ";"
--     compound = Block: "{" {declaration | stmt} "}"
-- stmt     = Label: name ":" stmt | Case: "case" cond ":" stmt | Default: "default" ":"
-- stmt | compound | Do: [expr] ";"
-- | If: "if" "(" expr ")" stmt ["else" stmt] | Switch: "switch" "(" expr ")" stmt |
-- While: "while" "(" expr ")" stmt
-- | Until: "do" stmt "while" "(" expr ")" ";" | For: "for" "(" ([expr] ";" |
-- declaration) [expr] ";" [expr] ")" stmt
-- | Goto: "goto" name ";" | Continue: "continue" ";" | Break: "break" ";" | Return: "return" [expr] ";"
--
-- Blocks, `if`, `switch`, loops and their substatements are scopes (C99 6.8.2, 6.8.4, 6.8.5). An `else`
-- belongs to the nearest `if` that can take it.
use Rattle.std.specs.Prelude.{◌≡◌, ℕ, ◌+◌, max, Bool, true, false, not, ◌&&◌, List, [], ◌∷◌, Option, Some, None}
use Rattle.lk_lex.specs.declared.token.TokenKind.{TokenKind}
use Rattle.lk_lex.specs.declared.token.TokenKind.TheVariants as k
use Rattle.lk_lex.specs.declared.punct.Punct.TheVariants as p
use Rattle.lk_lex.specs.declared.keyword.Keyword.TheVariants as w
use Rattle.lk_base.specs.declared.spot.Spot.{Spot}
use Rattle.lk_tree.specs.declared.expression.Expr.{Expr}
use Rattle.lk_tree.specs.declared.expression.Specifier.{Specifier}
use Rattle.lk_tree.specs.declared.expression.Declarator.{Declarator}
use Rattle.lk_tree.specs.declared.declaration.Declare.{Declare}
use Rattle.lk_tree.specs.declared.statement.Stmt.{Stmt}
use Rattle.lk_tree.specs.declared.statement.StmtForm.{StmtForm}
use Rattle.lk_tree.specs.declared.statement.StmtForm.TheVariants as s
use Rattle.lk_tree.specs.declared.statement.BlockItem.{BlockItem}
use Rattle.lk_tree.specs.declared.statement.BlockItem.TheVariants as item
use Rattle.lk_tree.specs.declared.statement.ForFirst.{ForFirst}
use Rattle.lk_tree.specs.declared.statement.ForFirst.TheVariants as first
use Rattle.lk_tree.specs.declared.statement.Decl.{Decl}
use Rattle.lk_tree.specs.declared.statement.Decl.TheVariants as decl
use Rattle.lk_parse_expr.specs.declared.naming.Naming.TheVariants as naming
use Rattle.lk_parse_expr.specs.declared.naming.Head.TheVariants as head
use Rattle.lk_parse_expr.specs.Input.{Input, Names, peek, here, text, next, declare, leave, with_names}
use Rattle.lk_parse_expr.specs.Words.{is_word, begins_specifiers}
use Rattle.lk_parse_expr.specs.Grammar.{ReadsExpr, ReadsSpecifiers, ReadsDeclarator}
use Rattle.lk_parse_expr.specs.Declarations.{ReadsDeclare}

abbrev pub is_else : TokenKind → Bool
is_else (k.Key w.Else) = true
is_else _ = false

abbrev pub is_colon : TokenKind → Bool
is_colon (k.Punct p.Colon) = true
is_colon _ = false

-- whether an item of a block is a declaration: its first token begins specifiers, and it
-- isn't a name followed by `:`
abbrev pub begins_declaration : Input → Bool
begins_declaration i = begins_specifiers i && not (is_word (peek i) && is_colon (peek (next i)))

abbrev pub stmt_on : Spot → StmtForm → Stmt
stmt_on spot form = record { spot = spot; ordinal = 0; form = form }

abbrev pub stmt_at : Input → StmtForm → Stmt
stmt_at from form = stmt_on (here from) form

-- an expression before this token, where there is one
pub data ReadsOptional (end : TokenKind) : ℕ → Option Expr → Input → Input → Type 0 where
  optional_none : {from : Input} → peek from ≡ end → ReadsOptional end 0 None from (next from)
  optional_some : {h : ℕ} {value : Expr} {from rest : Input} → ReadsExpr 0 h value from rest →
      peek rest ≡ end → ReadsOptional end h (Some value) from (next rest)

-- an expression in parentheses
pub data ReadsCondition : ℕ → Expr → Input → Input → Type 0 where
  condition : {h : ℕ} {value : Expr} {from rest : Input} → peek from ≡ k.Punct p.OpenParen →
      ReadsExpr 0 h value (next from) rest → peek rest ≡ k.Punct p.CloseParen →
      ReadsCondition h value from (next rest)

-- the first part of a `for`: a declaration exactly where its first token begins specifiers
pub data ReadsForFirst : ℕ → ForFirst → Input → Input → Type 0 where
  first_expr : {h : ℕ} {value : Option Expr} {from rest : Input} → begins_specifiers from ≡ false →
      ReadsOptional (k.Punct p.Semicolon) h value from rest → ReadsForFirst h (first.Expr value) from rest
  first_declare : {h : ℕ} {declaration : Declare} {from rest : Input} → begins_specifiers from ≡ true →
      ReadsDeclare h declaration from rest → ReadsForFirst h (first.Declare declaration) from rest

mutual
  pub data ReadsStmt : ℕ → Stmt → Input → Input → Type 0 where
    label : {h : ℕ} {inner : Stmt} {from rest : Input} → peek from ≡ k.Word →
        peek (next from) ≡ k.Punct p.Colon → ReadsStmt h inner (next (next from)) rest →
        ReadsStmt (1 + h) (stmt_at from (s.Label (text from) inner)) from rest
    case : {g h : ℕ} {value : Expr} {inner : Stmt} {from mid rest : Input} → peek from ≡ k.Key w.Case →
        ReadsExpr 2 g value (next from) mid → peek mid ≡ k.Punct p.Colon → ReadsStmt h inner (next mid) rest →
        ReadsStmt (1 + max g h) (stmt_at from (s.Case value inner)) from rest
    default : {h : ℕ} {inner : Stmt} {from rest : Input} → peek from ≡ k.Key w.Default →
        peek (next from) ≡ k.Punct p.Colon → ReadsStmt h inner (next (next from)) rest →
        ReadsStmt (1 + h) (stmt_at from (s.Default inner)) from rest
    block : {h : ℕ} {items : List BlockItem} {from close : Input} → peek from ≡ k.Punct p.OpenBrace →
        ReadsBlockItems h items (next from) close → peek close ≡ k.Punct p.CloseBrace →
        ReadsStmt (1 + h) (stmt_at from (s.Block items)) from (leave from (next close))
    do_expr : {h : ℕ} {value : Option Expr} {from rest : Input} →
        ReadsOptional (k.Punct p.Semicolon) h value from rest →
        ReadsStmt (1 + h) (stmt_at from (s.Do value)) from rest
    if_alone : {g h : ℕ} {value : Expr} {yes : Stmt} {from mid rest : Input} → peek from ≡ k.Key w.If →
        ReadsCondition g value (next from) mid → ReadsScope h yes mid rest → is_else (peek rest) ≡ false →
        ReadsStmt (1 + max g h) (stmt_at from (s.If value yes None)) from (leave from rest)
    if_else : {g h l : ℕ} {value : Expr} {yes no : Stmt} {from mid other rest : Input} →
        peek from ≡ k.Key w.If → ReadsCondition g value (next from) mid → ReadsScope h yes mid other →
        peek other ≡ k.Key w.Else → ReadsScope l no (next other) rest →
        ReadsStmt (1 + max g (max h l)) (stmt_at from (s.If value yes (Some no))) from (leave from rest)
    switch : {g h : ℕ} {value : Expr} {inner : Stmt} {from mid rest : Input} → peek from ≡ k.Key w.Switch →
        ReadsCondition g value (next from) mid → ReadsScope h inner mid rest →
        ReadsStmt (1 + max g h) (stmt_at from (s.Switch value inner)) from (leave from rest)
    while : {g h : ℕ} {value : Expr} {inner : Stmt} {from mid rest : Input} → peek from ≡ k.Key w.While →
        ReadsCondition g value (next from) mid → ReadsScope h inner mid rest →
        ReadsStmt (1 + max g h) (stmt_at from (s.While value inner)) from (leave from rest)
    until : {g h : ℕ} {value : Expr} {inner : Stmt} {from mid rest : Input} → peek from ≡ k.Key w.Do →
        ReadsScope g inner (next from) mid → peek mid ≡ k.Key w.While →
        ReadsCondition h value (next mid) rest → peek rest ≡ k.Punct p.Semicolon →
        ReadsStmt (1 + max g h) (stmt_at from (s.Until inner value)) from (leave from (next rest))
    for : {g h l m : ℕ} {start : ForFirst} {value step : Option Expr} {inner : Stmt}
        {from second third body rest : Input} → peek from ≡ k.Key w.For →
        peek (next from) ≡ k.Punct p.OpenParen → ReadsForFirst g start (next (next from)) second →
        ReadsOptional (k.Punct p.Semicolon) h value second third →
        ReadsOptional (k.Punct p.CloseParen) l step third body → ReadsScope m inner body rest →
        ReadsStmt (1 + max g (max h (max l m))) (stmt_at from (s.For start value step inner))
        from (leave from rest)
    goto : {from : Input} → peek from ≡ k.Key w.Goto → peek (next from) ≡ k.Word →
        peek (next (next from)) ≡ k.Punct p.Semicolon →
        ReadsStmt 1 (stmt_at from (s.Goto (text (next from)))) from (next (next (next from)))
    continue : {from : Input} → peek from ≡ k.Key w.Continue → peek (next from) ≡ k.Punct p.Semicolon →
        ReadsStmt 1 (stmt_at from s.Continue) from (next (next from))
    break : {from : Input} → peek from ≡ k.Key w.Break → peek (next from) ≡ k.Punct p.Semicolon →
        ReadsStmt 1 (stmt_at from s.Break) from (next (next from))
    return : {h : ℕ} {value : Option Expr} {from rest : Input} → peek from ≡ k.Key w.Return →
        ReadsOptional (k.Punct p.Semicolon) h value (next from) rest →
        ReadsStmt (1 + h) (stmt_at from (s.Return value)) from rest

  -- a substatement, which is a scope
  pub data ReadsScope : ℕ → Stmt → Input → Input → Type 0 where
    scope : {h : ℕ} {inner : Stmt} {from rest : Input} → ReadsStmt h inner from rest →
        ReadsScope h inner from (leave from rest)

  -- the items of a block, perhaps none
  pub data ReadsBlockItems : ℕ → List BlockItem → Input → Input → Type 0 where
    items_none : {from : Input} → peek from ≡ k.Punct p.CloseBrace → ReadsBlockItems 0 [] from from
    items_more : {g h : ℕ} {first : BlockItem} {others : List BlockItem} {from mid rest : Input} →
        ReadsBlockItem g first from mid → ReadsBlockItems h others mid rest →
        ReadsBlockItems (max g h) (first ∷ others) from rest

  pub data ReadsBlockItem : ℕ → BlockItem → Input → Input → Type 0 where
    item_declare : {h : ℕ} {declaration : Declare} {from rest : Input} → begins_declaration from ≡ true →
        ReadsDeclare h declaration from rest → ReadsBlockItem h (item.Declare declaration) from rest
    item_stmt : {h : ℕ} {inner : Stmt} {from rest : Input} → begins_declaration from ≡ false →
        ReadsStmt h inner from rest → ReadsBlockItem h (item.Stmt inner) from rest

-- an external declaration. The parameters of a defined function are in scope in its body, whose outermost
-- block they share (C99 6.9.1)
pub data ReadsDecl : ℕ → Decl → Input → Input → Type 0 where
  empty : {from : Input} → peek from ≡ k.Punct p.Semicolon →
      ReadsDecl 1 (decl.Empty (record { spot = here from; ordinal = 0 })) from (next from)
  declared : {h : ℕ} {declaration : Declare} {from rest : Input} → ReadsDeclare h declaration from rest →
      ReadsDecl h (decl.Declare declaration) from rest
  function : {g h l : ℕ} {typedef : Bool} {specifiers : List Specifier} {inner : Declarator} {name : List ℕ}
      {parameters : Names} {items : List BlockItem} {from mid body close : Input} →
      ReadsSpecifiers false g typedef specifiers from mid →
      ReadsDeclarator naming.Named 0 h inner (head.Function name parameters) mid body →
      peek body ≡ k.Punct p.OpenBrace →
      ReadsBlockItems l items (next (with_names parameters (declare name typedef body))) close →
      peek close ≡ k.Punct p.CloseBrace → ReadsDecl (1 + max g (max h (1 + l)))
      (decl.Function (record {
        spot = here from;
        ordinal = 0;
        specifiers = specifiers;
        declarator = inner;
        body = stmt_at body (s.Block items);
      }))
      from (leave (declare name typedef body) (next close))

-- external declarations up to the end
pub data ReadsUnit : ℕ → List Decl → Input → Type 0 where
  unit_end : {from : Input} → peek from ≡ k.End → ReadsUnit 0 [] from
  unit_more : {g h : ℕ} {first : Decl} {others : List Decl} {from mid : Input} → ReadsDecl g first from mid →
      ReadsUnit h others mid → ReadsUnit (max g h) (first ∷ others) from
