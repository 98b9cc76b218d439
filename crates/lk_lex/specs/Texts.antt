-- The bytes that string literals stand for.
use Rattle.std.specs.Prelude.{ℕ, List, drop}
use Rattle.lk_lex.specs.declared.quoted.Quotation.TheVariants as q
use Rattle.lk_lex.specs.Characters.{quoted_bytes}

-- the values of the characters between the quotes of a literal, without the zero that stands behind them
-- (C99 6.4.5). Literals beside each other stand for theirs one after another (C99 5.1.1.2, phases 5 and 6)
unfoldable pub text_value : List ℕ → List ℕ
text_value text = quoted_bytes q.Text 0 (drop 1 text)
