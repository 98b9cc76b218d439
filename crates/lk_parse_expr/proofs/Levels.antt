-- What the readers read with one level at least, and with none.
use Rattle.std.proofs.Common.{◌≡◌, ℕ, zero, suc, ◌-◌, ◌<◌, Bool, true, false, if◌then◌else◌, Err, refl, ap, sym, arith}
use Rattle.lk_base.specs.declared.fault.Fault.{Fault}
use Rattle.lk_lex.specs.declared.token.TokenKind.{TokenKind}
use Rattle.lk_parse_expr.specs.declared.naming.Naming.{Naming}
use Rattle.lk_parse_expr.specs.Input.{Input, here, peek}
use Rattle.lk_parse_expr.specs.Front.{start_of, is_start}
use Rattle.lk_parse_expr.specs.Words.{begins_specifiers, is_word}
use Rattle.lk_parse_expr.specs.Readers.{exhausted, too_deep_at, syntax_at}
use Rattle.lk_parse_expr.specs.Reading.{readers, exhausted_readers, begins_declarator, expr, type_name_from, declarator, member_from, item_from}

pub expr_inside : (d level : ℕ) (i : Input) → 0 < d → (readers d).expr level i ≡ expr (d - 1) (readers (d - 1)) level i
unfolding readers
expr_inside zero level i some = absurd (omega arith)
expr_inside (suc m) level i some = let e : suc m - 1 ≡ m = omega arith in rw e refl

pub type_name_inside : (d : ℕ) (i : Input) → 0 < d → (readers d).type_name i ≡ type_name_from (d - 1) (readers (d - 1)) (here i) i
unfolding readers
type_name_inside zero i some = absurd (omega arith)
type_name_inside (suc m) i some = let e : suc m - 1 ≡ m = omega arith in rw e refl

pub declarator_inside : (d : ℕ) (n : Naming) (i : Input) → 0 < d → (readers d).declarator n i ≡ declarator (d - 1) (readers (d - 1)) n (here i) i
unfolding readers
declarator_inside zero n i some = absurd (omega arith)
declarator_inside (suc m) n i some = let e : suc m - 1 ≡ m = omega arith in rw e refl

pub member_inside : (d : ℕ) (i : Input) → 0 < d → (readers d).member i ≡ member_from (d - 1) (readers (d - 1)) (here i) i
unfolding readers
member_inside zero i some = absurd (omega arith)
member_inside (suc m) i some = let e : suc m - 1 ≡ m = omega arith in rw e refl

pub item_inside : (d : ℕ) (i : Input) → 0 < d → (readers d).item i ≡ item_from (d - 1) (readers (d - 1)) (here i) i
unfolding readers
item_inside zero i some = absurd (omega arith)
item_inside (suc m) i some = let e : suc m - 1 ≡ m = omega arith in rw e refl

-- ---- with none

pub none_left : {A : Type 0} (begins : Bool) (i : Input) (e : Fault) → e ≡ (if begins then too_deep_at i else syntax_at i) → exhausted {A = A} begins i ≡ Err e
none_left true i e is = ap Err (sym is)
none_left false i e is = ap Err (sym is)

-- in each, b is what the code found that begins
pub no_expr : (d level : ℕ) (i : Input) (e : Fault) (kind : TokenKind) (b : Bool) → d ≡ 0 → kind ≡ peek i → b ≡ is_start (start_of kind) → e ≡ (if b then too_deep_at i else syntax_at i)
    → (readers d).expr level i ≡ Err e
unfolding readers exhausted_readers
no_expr zero level i e kind b none at so is = none_left (is_start (start_of (peek i))) i e (rw (← at, ← so) is)
no_expr (suc m) level i e kind b none at so is = absurd (omega (arith, none))

pub no_type_name : (d : ℕ) (i : Input) (e : Fault) (b : Bool) → d ≡ 0 → b ≡ begins_specifiers i → e ≡ (if b then too_deep_at i else syntax_at i) → (readers d).type_name i ≡ Err e
unfolding readers exhausted_readers
no_type_name zero i e b none so is = none_left (begins_specifiers i) i e (rw (← so) is)
no_type_name (suc m) i e b none so is = absurd (omega (arith, none))

pub no_declarator : (d : ℕ) (n : Naming) (i : Input) (e : Fault) (b : Bool) → d ≡ 0 → b ≡ begins_declarator n i → e ≡ (if b then too_deep_at i else syntax_at i)
    → (readers d).declarator n i ≡ Err e
unfolding readers exhausted_readers
no_declarator zero n i e b none so is = none_left (begins_declarator n i) i e (rw (← so) is)
no_declarator (suc m) n i e b none so is = absurd (omega (arith, none))

pub no_member : (d : ℕ) (i : Input) (e : Fault) (b : Bool) → d ≡ 0 → b ≡ begins_specifiers i → e ≡ (if b then too_deep_at i else syntax_at i) → (readers d).member i ≡ Err e
unfolding readers exhausted_readers
no_member zero i e b none so is = none_left (begins_specifiers i) i e (rw (← so) is)
no_member (suc m) i e b none so is = absurd (omega (arith, none))

pub no_item : (d : ℕ) (i : Input) (e : Fault) (kind : TokenKind) (b : Bool) → d ≡ 0 → kind ≡ peek i → b ≡ is_word kind → e ≡ (if b then too_deep_at i else syntax_at i) → (readers d).item i ≡ Err e
unfolding readers exhausted_readers
no_item zero i e kind b none at so is = none_left (is_word (peek i)) i e (rw (← at, ← so) is)
no_item (suc m) i e kind b none at so is = absurd (omega (arith, none))
