-- The readers with any number of levels read each tree of their form.
use Rattle.std.proofs.Common.{◌≡◌, ℕ, zero, suc, ◌≤◌, Bool, true, refl, arith}
use Rattle.lk_tree.specs.declared.expression.TypeName.{TypeName}
use Rattle.lk_tree.specs.declared.expression.Item.{Item}
use Rattle.lk_parse_expr.specs.Input.{Input, peek}
use Rattle.lk_parse_expr.specs.Words.{is_word, begins_specifiers}
use Rattle.lk_parse_expr.specs.Readers.{exhausted}
use Rattle.lk_parse_expr.specs.Grammar as g
use Rattle.lk_parse_expr.specs.Grammar.{ReadsTypeName, ReadsItem}
use Rattle.lk_parse_expr.specs.Reading.{readers, exhausted_readers}
use Rattle.lk_parse_expr.proofs.Steps.{Answers, deep}
use Rattle.lk_parse_expr.proofs.Firsts.{positive, starts}
use Rattle.lk_parse_expr.proofs.Good.{Good}
use Rattle.lk_parse_expr.proofs.Climbing.{expr_read}
use Rattle.lk_parse_expr.proofs.Specifying.{specifiers_begin, declarator_one, member_begins, member_two, item_first, item_one}
use Rattle.lk_parse_expr.proofs.Declaring.{declarator_begins, type_name_read, member_read, item_read, declarator_read}

type_name_one : {h : ℕ} {name : TypeName} {from rest : Input} → ReadsTypeName h name from rest → 1 ≤ h
type_name_one (g.name_plain list) = omega arith
type_name_one (g.name_declared list inner) = omega arith

none_left : {A : Type 0} {h : ℕ} {tree : A} {rest : Input} (begins : Bool) (i : Input) → begins ≡ true → 1 ≤ h → Answers zero h tree rest (exhausted begins i)
none_left begins i e some = rw e (deep (omega arith) i refl)

type_name_begins : {h : ℕ} {name : TypeName} {from rest : Input} → ReadsTypeName h name from rest → begins_specifiers from ≡ true
type_name_begins (g.name_plain list) = specifiers_begin list
type_name_begins (g.name_declared list inner) = specifiers_begin list

is_word_first : {h : ℕ} {one : Item} {from rest : Input} → ReadsItem h one from rest → is_word (peek from) ≡ true
is_word_first one = rw (item_first one) refl

pub complete : (m : ℕ) → Good m (readers m)
unfolding readers exhausted_readers
complete zero = record {
  expr = λ {from = from} is stop. none_left _ from (starts is) (positive is);
  type_name = λ {from = from} is close. none_left _ from (type_name_begins is) (type_name_one is);
  declarator = λ {from = from} is end. none_left _ from (declarator_begins is) (declarator_one is);
  member = λ {from = from} is. none_left _ from (member_begins is) (omega (arith, member_two is));
  item = λ {from = from} is stop. none_left _ from (is_word_first is) (item_one is);
}
complete (suc m) = record {
  expr = expr_read m (readers m) (complete m);
  type_name = type_name_read m (readers m) (complete m);
  declarator = declarator_read m (readers m) (complete m);
  member = member_read m (readers m) (complete m);
  item = item_read m (readers m) (complete m);
}
