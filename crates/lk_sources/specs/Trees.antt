-- The trees of several sources, each at most 200 deep (C99 6.5 to 6.9).
use Rattle.std.specs.Prelude.{List, [], ◌∷◌}
use Rattle.lk_base.specs.declared.refusal.Refusal.{Refusal}
use Rattle.lk_lex.specs.declared.token.Token.{Token}
use Rattle.lk_parse_unit.specs.Parsing.{IsRefusal}
use Rattle.lk_parse_unit.specs.Tree.{IsTree}
use Rattle.lk_tree.specs.declared.statement.Unit.{Unit}
use Rattle.lk_sources.specs.declared.reading.Source.{Source}

-- the tokens of each source are its tree
pub data AreTrees : List Source → List (List Token) → List Unit → Type 0 where
  nothing : AreTrees [] [] []
  next : {s : Source} {rest : List Source} {tokens : List Token} {lists : List (List Token)} {unit : Unit}
      {units : List Unit} → IsTree 200 s.bytes tokens unit → AreTrees rest lists units →
      AreTrees (s ∷ rest) (tokens ∷ lists) (unit ∷ units)

-- the first source whose tokens are none, with that refusal
pub data HasNoTree : List Source → List (List Token) → Refusal → Type 0 where
  here : {s : Source} {rest : List Source} {tokens : List Token} {lists : List (List Token)}
      {told : Refusal} → IsRefusal 200 s.bytes tokens told → HasNoTree (s ∷ rest) (tokens ∷ lists) told
  behind : {s : Source} {rest : List Source} {tokens : List Token} {lists : List (List Token)} {unit : Unit}
      {told : Refusal} → IsTree 200 s.bytes tokens unit → HasNoTree rest lists told →
      HasNoTree (s ∷ rest) (tokens ∷ lists) told
