-- What the readers with any number of levels read is a tree of their form.
use Rattle.std.proofs.Common.{ℕ, zero, suc, Bool, true, false}
use Rattle.lk_parse_expr.specs.Input.{Input}
use Rattle.lk_parse_expr.specs.Readers.{exhausted}
use Rattle.lk_parse_expr.specs.Reading.{readers, exhausted_readers}
use Rattle.lk_parse_expr.proofs.Yielding.{Yields}
use Rattle.lk_parse_expr.proofs.Sound.{Sound}
use Rattle.lk_parse_expr.proofs.SoundExpr.{expr_has}
use Rattle.lk_parse_expr.proofs.SoundParts.{type_name_has, declarator_has, member_has, item_has}

nothing : {A : Type 0} (Q : A → Input → Type 0) (begins : Bool) (i : Input) → Yields Q (exhausted begins i)
nothing Q true i = tt
nothing Q false i = tt

pub sounds : (m : ℕ) → Sound m (readers m)
unfolding readers exhausted_readers
sounds zero = record {
  expr = λ level from small. nothing _ _ from;
  type_name = λ from. nothing _ _ from;
  declarator = λ n from. nothing _ _ from;
  member = λ from. nothing _ _ from;
  item = λ from. nothing _ _ from;
}
sounds (suc m) = record {
  expr = λ level from small. expr_has m (readers m) (sounds m) level from small;
  type_name = type_name_has m (readers m) (sounds m);
  declarator = declarator_has m (readers m) (sounds m);
  member = member_has m (readers m) (sounds m);
  item = item_has m (readers m) (sounds m);
}
