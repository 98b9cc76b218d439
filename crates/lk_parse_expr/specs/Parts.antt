-- Readers of parts of a form, where each is read by a function of its own.
use Rattle.std.specs.Prelude.{ℕ, ◌-◌, min, Bool, List, Some, Ok, take, drop}
use Rattle.lk_base.specs.declared.spot.Spot.{Spot}
use Rattle.lk_lex.specs.declared.punct.Punct.{Punct}
use Rattle.lk_lex.specs.declared.punct.Punct.TheVariants as p
use Rattle.lk_lex.specs.declared.keyword.Keyword.{Keyword}
use Rattle.lk_tree.specs.declared.expression.Expr.{Expr}
use Rattle.lk_tree.specs.declared.expression.ExprForm.TheVariants as e
use Rattle.lk_tree.specs.declared.expression.Specifier.{Specifier}
use Rattle.lk_tree.specs.declared.expression.Declarator.{Declarator}
use Rattle.lk_tree.specs.declared.expression.Parameter.{Parameter}
use Rattle.lk_parse_expr.specs.declared.found.Found.{Found}
use Rattle.lk_parse_expr.specs.declared.naming.Naming.TheVariants as naming
use Rattle.lk_parse_expr.specs.declared.naming.Head.{Head}
use Rattle.lk_parse_expr.specs.Input.{Names}
use Rattle.lk_parse_expr.specs.Heads.{declare_head}
use Rattle.lk_parse_expr.specs.Grammar.{expr_on, parameter_on}
use Rattle.lk_parse_expr.specs.Readers as reader
use Rattle.lk_parse_expr.specs.Readers.{Parser, and_then, ◌>>=◌, ◌>>◌, pure, expect, expect_key, found, need}
use Rattle.lk_parse_expr.specs.Reading.{Readers, tag, struct_by, enum_by, array_of, function_of}

-- the `)` behind parameters, where the scopes of the names end that were declared since there
-- were so many; and those names
abbrev pub close_parameters : ℕ → Parser Names
close_parameters mark =
    λ i. and_then (expect p.CloseParen i)
    (λ _. λ j. Ok (drop mark i.names, record j { names = take mark j.names }))

-- what is read behind something, with that
abbrev pub behind : {A B : Type 0} → A → Parser B → Parser (A × B)
behind before reads = reads >>= (λ next. pure (before, next))

-- a punctuator behind something, which alone is kept
abbrev pub closed : {A : Type 0} → A → Punct → Parser A
closed before punct = expect punct >> pure before

-- a token above something that leaves so many levels, which alone is kept
abbrev pub rise : {A : Type 0} → A → ℕ → Parser A
rise before room = need 1 room >> reader.take >> pure before

-- a keyword behind something, which alone is kept
abbrev pub closed_by_key : {A : Type 0} → A → Keyword → Parser A
closed_by_key before keyword = expect_key keyword >> pure before

module _ (m : ℕ) (below : Readers) where
  -- behind the `:` of a choice
  abbrev pub choice_end : Spot → Found Expr → Found Expr → Parser (Found Expr)
  choice_end spot before middle =
      below.expr 2 >>= (λ right. pure
      (found (expr_on spot (e.Choice before.tree middle.tree right.tree)) (min (before.room - 1) (min middle.room right.room))))

  -- a specifier whose `struct` is in front
  abbrev pub struct_specifier : Parser (Found Specifier)
  struct_specifier = reader.take >> (tag >>= struct_by m below)

  -- a specifier whose `enum` is in front
  abbrev pub enum_specifier : Parser (Found Specifier)
  enum_specifier = reader.take >> (tag >>= enum_by m below)

  -- the declarator of a parameter, behind its specifiers
  abbrev pub declared_parameter : Spot → Found (List Specifier × Bool) → Parser (Found Parameter)
  declared_parameter spot first = below.declarator naming.Either >>= (λ inner. λ i.
      Ok (found (parameter_on spot first.tree.0 (Some inner.tree.0)) (min first.room inner.room), declare_head inner.tree.1 first.tree.1 i))

  -- the `[` and what stands behind it, of an array of what comes before
  abbrev pub array_behind : Spot → Found (Declarator × Head) → Parser (Found (Declarator × Head))
  array_behind spot before =
      need 1 before.room >> reader.take
      >> array_of m below spot (Some before.tree.0) before.tree.1 (before.room - 1)

  -- the `(` and what stands behind it, of a function
  abbrev pub function_behind : Spot → Found (Declarator × Head) → Parser (Found (Declarator × Head))
  function_behind spot before =
      need 1 before.room >> reader.take
      >> function_of m below spot (Some before.tree.0) before.tree.1 (before.room - 1)
