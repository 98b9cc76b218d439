-- The grammar of initialisers and declarations (C99 6.7, 6.7.8), a constructor for each production.
--
--     declaration = Declare: specs [initdecl {"," initdecl}] ";"
--     initdecl    = declarator ["=" init]
--     init        = assign | List: "{" entry {"," entry} [","] "}"
--     entry       = [desig {desig} "="] init
--     desig       = "." name | "[" cond "]"
use Rattle.std.specs.Prelude.{◌≡◌, ℕ, ◌+◌, max, Bool, false, List, [], ◌∷◌, Some, None}
use Rattle.lk_lex.specs.declared.token.TokenKind.TheVariants as k
use Rattle.lk_lex.specs.declared.punct.Punct.TheVariants as p
use Rattle.lk_base.specs.declared.spot.Spot.{Spot}
use Rattle.lk_tree.specs.declared.expression.Expr.{Expr}
use Rattle.lk_tree.specs.declared.expression.Specifier.{Specifier}
use Rattle.lk_tree.specs.declared.expression.Declarator.{Declarator}
use Rattle.lk_tree.specs.declared.declaration.Declare.{Declare}
use Rattle.lk_tree.specs.declared.declaration.InitDeclarator.{InitDeclarator}
use Rattle.lk_tree.specs.declared.declaration.Init.{Init}
use Rattle.lk_tree.specs.declared.declaration.Init.TheVariants as init
use Rattle.lk_tree.specs.declared.declaration.InitList.{InitList, roll-InitList}
use Rattle.lk_tree.specs.declared.declaration.Entry.{Entry}
use Rattle.lk_tree.specs.declared.declaration.Designator.{Designator}
use Rattle.lk_tree.specs.declared.declaration.Designator.TheVariants as designator
use Rattle.lk_parse_expr.specs.declared.naming.Naming.TheVariants as naming
use Rattle.lk_parse_expr.specs.declared.naming.Head.{Head}
use Rattle.lk_parse_expr.specs.Input.{Input, peek, here, text, next}
use Rattle.lk_parse_expr.specs.Heads.{declare_head}
use Rattle.lk_parse_expr.specs.Grammar.{ReadsExpr, ReadsSpecifiers, ReadsDeclarator}

abbrev pub declare_on : Spot → List Specifier → List InitDeclarator → Declare
declare_on spot specifiers declarators =
    record { spot = spot; ordinal = 0; specifiers = specifiers; declarators = declarators }

abbrev pub declare_at : Input → List Specifier → List InitDeclarator → Declare
declare_at from specifiers declarators = declare_on (here from) specifiers declarators

abbrev pub list_on : Spot → List Entry → InitList
list_on spot entries = roll-InitList (record { spot = spot; ordinal = 0; entries = entries })

abbrev pub list_at : Input → List Entry → InitList
list_at from entries = list_on (here from) entries

pub data ReadsDesignator : ℕ → Designator → Input → Input → Type 0 where
  designator_member : {from : Input} → peek from ≡ k.Punct p.Dot → peek (next from) ≡ k.Word
      → ReadsDesignator 0 (designator.Member (text (next from))) from (next (next from))
  designator_index : {h : ℕ} {index : Expr} {from close : Input} → peek from ≡ k.Punct p.OpenBracket →
      ReadsExpr 2 h index (next from) close → peek close ≡ k.Punct p.CloseBracket →
      ReadsDesignator h (designator.Index index) from (next close)

-- designators, one at least
pub data ReadsDesignators : ℕ → List Designator → Input → Input → Type 0 where
  designators_last : {h : ℕ} {first : Designator} {from rest : Input} → ReadsDesignator h first from rest →
      ReadsDesignators h (first ∷ []) from rest
  designators_more : {g h : ℕ} {first : Designator} {others : List Designator} {from mid rest : Input} →
      ReadsDesignator g first from mid → ReadsDesignators h others mid rest →
      ReadsDesignators (max g h) (first ∷ others) from rest

mutual
  pub data ReadsInit : ℕ → Init → Input → Input → Type 0 where
    init_expr : {h : ℕ} {value : Expr} {from rest : Input} → ReadsExpr 1 h value from rest →
        ReadsInit h (init.Expr value) from rest
    init_list : {h : ℕ} {entries : List Entry} {from close : Input} → peek from ≡ k.Punct p.OpenBrace →
        ReadsEntries h entries (next from) close → peek close ≡ k.Punct p.CloseBrace →
        ReadsInit (1 + h) (init.List (list_at from entries)) from (next close)

  -- the entries of a list, one at least, perhaps with a comma behind them
  pub data ReadsEntries : ℕ → List Entry → Input → Input → Type 0 where
    entries_last : {h : ℕ} {first : Entry} {from rest : Input} → ReadsEntry h first from rest →
        ReadsEntries h (first ∷ []) from rest
    entries_comma : {h : ℕ} {first : Entry} {from rest : Input} → ReadsEntry h first from rest →
        peek rest ≡ k.Punct p.Comma → peek (next rest) ≡ k.Punct p.CloseBrace →
        ReadsEntries h (first ∷ []) from (next rest)
    entries_more : {g h : ℕ} {first : Entry} {others : List Entry} {from mid rest : Input} →
        ReadsEntry g first from mid → peek mid ≡ k.Punct p.Comma → ReadsEntries h others (next mid) rest →
        ReadsEntries (max g h) (first ∷ others) from rest

  pub data ReadsEntry : ℕ → Entry → Input → Input → Type 0 where
    entry_plain : {h : ℕ} {value : Init} {from rest : Input} → ReadsInit h value from rest →
        ReadsEntry h (record { designators = []; init = value }) from rest
    entry_designated : {g h : ℕ} {designators : List Designator} {value : Init} {from mid rest : Input} →
        ReadsDesignators g designators from mid → peek mid ≡ k.Punct p.Equal →
        ReadsInit h value (next mid) rest →
        ReadsEntry (max g h) (record { designators = designators; init = value }) from rest

-- a declarator of a declaration, whose name is in scope behind it, in its initialiser too (C99 6.2.1)
pub data ReadsInitDeclarator (typedef : Bool) : ℕ → InitDeclarator → Input → Input → Type 0 where
  plain : {h : ℕ} {inner : Declarator} {head : Head} {from rest : Input} →
      ReadsDeclarator naming.Named 0 h inner head from rest →
      ReadsInitDeclarator typedef h (record { declarator = inner; init = None }) from
      (declare_head head typedef rest)
  initialised : {g h : ℕ} {inner : Declarator} {head : Head} {value : Init} {from mid rest : Input} →
      ReadsDeclarator naming.Named 0 g inner head from mid → peek mid ≡ k.Punct p.Equal →
      ReadsInit h value (next (declare_head head typedef mid)) rest →
      ReadsInitDeclarator typedef (max g h) (record { declarator = inner; init = Some value }) from rest

pub data ReadsInitDeclarators (typedef : Bool) : ℕ → List InitDeclarator → Input → Input → Type 0 where
  declarators_last : {h : ℕ} {first : InitDeclarator} {from rest : Input} →
      ReadsInitDeclarator typedef h first from rest → ReadsInitDeclarators typedef h (first ∷ []) from rest
  declarators_more : {g h : ℕ} {first : InitDeclarator} {others : List InitDeclarator}
      {from mid rest : Input} → ReadsInitDeclarator typedef g first from mid → peek mid ≡ k.Punct p.Comma →
      ReadsInitDeclarators typedef h others (next mid) rest →
      ReadsInitDeclarators typedef (max g h) (first ∷ others) from rest

pub data ReadsDeclare : ℕ → Declare → Input → Input → Type 0 where
  declare_none : {h : ℕ} {typedef : Bool} {specifiers : List Specifier} {from rest : Input} →
      ReadsSpecifiers false h typedef specifiers from rest → peek rest ≡ k.Punct p.Semicolon →
      ReadsDeclare (1 + h) (declare_at from specifiers []) from (next rest)
  declare_some : {g h : ℕ} {typedef : Bool} {specifiers : List Specifier} {declarators : List InitDeclarator}
      {from mid rest : Input} → ReadsSpecifiers false g typedef specifiers from mid →
      ReadsInitDeclarators typedef h declarators mid rest → peek rest ≡ k.Punct p.Semicolon →
      ReadsDeclare (1 + max g h) (declare_at from specifiers declarators) from (next rest)
