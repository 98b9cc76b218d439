-- The readers of initialisers and declarations, as functions.
use Rattle.std.specs.Prelude.{ℕ, zero, suc, min, Bool, false, not, ◌||◌, if◌then◌else◌, List, [], Some, None, Ok}
use Rattle.lk_base.specs.declared.spot.Spot.{Spot}
use Rattle.lk_lex.specs.declared.punct.Punct.TheVariants as p
use Rattle.lk_tree.specs.declared.expression.Specifier.{Specifier}
use Rattle.lk_tree.specs.declared.expression.Declarator.{Declarator}
use Rattle.lk_tree.specs.declared.declaration.Declare.{Declare}
use Rattle.lk_tree.specs.declared.declaration.InitDeclarator.{InitDeclarator}
use Rattle.lk_tree.specs.declared.declaration.Init.{Init}
use Rattle.lk_tree.specs.declared.declaration.Init.TheVariants as init
use Rattle.lk_tree.specs.declared.declaration.Entry.{Entry}
use Rattle.lk_tree.specs.declared.declaration.Designator.{Designator}
use Rattle.lk_tree.specs.declared.declaration.Designator.TheVariants as designators_of
use Rattle.lk_parse_expr.specs.declared.found.Found.{Found}
use Rattle.lk_parse_expr.specs.declared.naming.Naming.TheVariants as naming
use Rattle.lk_parse_expr.specs.declared.naming.Head.{Head}
use Rattle.lk_parse_expr.specs.Input.{Input, peek, here, next}
use Rattle.lk_parse_expr.specs.Words.{is_close_brace, begins_specifiers}
use Rattle.lk_parse_expr.specs.Heads.{declare_head}
use Rattle.lk_parse_expr.specs.Front.{start_of, is_start}
use Rattle.lk_parse_expr.specs.Declarations.{declare_on, list_on}
use Rattle.lk_parse_expr.specs.Readers.{Parser, ◌>>=◌, ◌>>◌, pure, exhausted, sees, left, take, expect, word, found, need, joined, separated, separated_from, repeat}
use Rattle.lk_parse_expr.specs.Reading.{readers, specifiers, comma_if_any}

-- a designator begins
abbrev pub begins_designator : Input → Bool
begins_designator i = sees p.Dot i || sees p.OpenBracket i

-- an initialiser begins
abbrev pub begins_initialiser : Input → Bool
begins_initialiser i = is_start (start_of (peek i)) || sees p.OpenBrace i

-- behind the entries of a list
abbrev pub braced_end : Spot → Found (List Entry) → Parser (Found Init)
braced_end spot entries =
    comma_if_any >> expect p.CloseBrace >> pure (found (init.List (list_on spot entries.tree)) entries.room)

-- behind the declarators of a declaration
abbrev pub declare_end : Spot → Found (List Specifier × Bool) → Found (List InitDeclarator) →
    Parser (Found Declare)
declare_end spot first list =
    expect p.Semicolon >> pure (found (declare_on spot first.tree.0 list.tree) (min first.room list.room))

-- m is how many levels there are inside the node that is read; below reads an initialiser that stands there
module _ (m : ℕ) (below : Parser (Found Init)) where
  unfoldable pub designator : Parser (Found Designator)
  designator = λ i.
      if sees p.Dot i then (take >> (word >>= (λ name. pure (found (designators_of.Member name) m)))) i
      else (expect p.OpenBracket
      >> ((readers m).expr 2 >>= (λ index. expect p.CloseBracket >> pure (found (designators_of.Index index.tree) index.room)))) i

  abbrev pub designator_list : Parser (Found (List Designator))
  designator_list = repeat (λ i. not (begins_designator i)) designator (found [] m)

  -- designators and the `=` behind them, where there are any
  unfoldable pub designators : Parser (Found (List Designator))
  designators = λ i.
      if begins_designator i then (designator_list >>= (λ list. expect p.Equal >> pure list)) i
      else Ok (found [] m, i)

  unfoldable pub entry : Parser (Found Entry)
  entry =
      designators >>= (λ list. below
      >>= (λ value. pure (found (record { designators = list.tree; init = value.tree }) (min list.room value.room))))

  abbrev pub entries : Parser (Found (List Entry))
  entries = separated is_close_brace entry m

  unfoldable pub braced : Spot → Parser (Found Init)
  braced spot = need 1 m >> take >> (entries >>= braced_end spot)

  unfoldable pub init_from : Spot → Parser (Found Init)
  init_from spot = λ i.
      if sees p.OpenBrace i then braced spot i
      else ((readers (suc m)).expr 1 >>= (λ value. pure (found (init.Expr value.tree) value.room))) i

-- an initialiser, with so many levels
unfoldable pub initialiser : ℕ → Parser (Found Init)
initialiser zero = λ i. exhausted (begins_initialiser i) i
initialiser (suc m) = λ i. init_from m (initialiser m) (here i) i

-- m is how many levels there are inside the declaration
module _ (m : ℕ) where
  unfoldable pub initialised : Bool → Found (Declarator × Head) → Parser (Found InitDeclarator)
  initialised typedef one = λ i.
      if sees p.Equal i then
      (take >> (initialiser m >>= (λ value. pure
      (found (record { declarator = one.tree.0; init = Some value.tree })
      (min one.room value.room))))) (declare_head one.tree.1 typedef i)
      else Ok (found (record { declarator = one.tree.0; init = None }) one.room, declare_head one.tree.1 typedef i)

  unfoldable pub init_declarator : Bool → Parser (Found InitDeclarator)
  init_declarator typedef = (readers m).declarator naming.Named >>= initialised typedef

  -- behind the first declarator with its initialiser
  unfoldable pub after_first : Bool → Found InitDeclarator → Parser (Found (List InitDeclarator))
  after_first typedef one = λ i.
      if sees p.Comma i then separated_from (λ _. false) (init_declarator typedef) (left i)
      (joined (found [] m) one) (next i) else Ok (joined (found [] m) one, i)

  -- behind the first declarator
  unfoldable pub declarators_behind : Bool → Found (Declarator × Head) → Parser (Found (List InitDeclarator))
  declarators_behind typedef first = initialised typedef first >>= after_first typedef

  abbrev pub declarator_list : Bool → Parser (Found (List InitDeclarator))
  declarator_list typedef = separated (λ _. false) (init_declarator typedef) m

  unfoldable pub declarators : Bool → Parser (Found (List InitDeclarator))
  declarators typedef = λ i. if sees p.Semicolon i then Ok (found [] m, i) else declarator_list typedef i

  unfoldable pub declare_from : Spot → Parser (Found Declare)
  declare_from spot =
      specifiers m (readers m) >>= (λ first. declarators first.tree.1 >>= declare_end spot first)

-- a declaration, with so many levels
unfoldable pub declaration : ℕ → Parser (Found Declare)
declaration zero = λ i. exhausted (begins_specifiers i) i
declaration (suc m) = λ i. declare_from m (here i) i
