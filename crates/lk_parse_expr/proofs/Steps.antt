-- What a reader answers for a tree of a depth, and how the answers of steps join.
use Rattle.std.proofs.Common.{◌≡◌, ℕ, zero, suc, ◌+◌, ◌-◌, ◌<◌, ◌≤◌, nat_le, Bool, true, false, List, Ok, Err, refl, rules, ap, subst, ◌∙◌, arith}
use Rattle.std.proofs.lemmas.Bool.Decides.{nat_tests}
use denote.Enum.Bare.{true_same, same_true}
use Rattle.lk_lex.specs.declared.token.TokenKind.{TokenKind}
use Rattle.lk_lex.specs.declared.token.TokenKind.TheVariants as k
use Rattle.lk_lex.specs.declared.punct.Punct.{Punct}
use Rattle.lk_lex.specs.contracts.punct.Punct as punct
use Rattle.lk_lex.specs.declared.keyword.Keyword.{Keyword}
use Rattle.lk_lex.specs.contracts.keyword.Keyword as keyword
use Rattle.lk_parse_expr.specs.declared.found.Found.{Found}
use Rattle.lk_parse_expr.specs.Input.{Input, peek, next, text}
use Rattle.lk_parse_expr.specs.Words.{is_word}
use Rattle.lk_parse_expr.specs.Readers.{Outcome, Parser, and_then, ◌>>◌, too_deep_at, found, need, sees, sees_key, expect, word, same_punct, same_keyword, is_punct, is_key}

-- A tree of this depth was read, where so many levels are enough; else the reader told that it is too deep.
pub data Answers {A : Type 0} (m h : ℕ) (tree : A) (rest : Input) (outcome : Outcome (Found A)) : Type 0 where
  fits : (room : ℕ) → h + room ≡ m → outcome ≡ Ok (found tree room, rest) → Answers m h tree rest outcome
  deep : m < h → (i : Input) → outcome ≡ Err (too_deep_at i) → Answers m h tree rest outcome

pub as_same : {A : Type 0} {m h : ℕ} {tree : A} {rest : Input} {o q : Outcome (Found A)} → q ≡ o → Answers m h tree rest o → Answers m h tree rest q
as_same e (fits room same is) = fits room same (e ∙ is)
as_same e (deep past i is) = deep past i (e ∙ is)

pub as_deep : {A : Type 0} {m g h : ℕ} {tree : A} {rest : Input} {o : Outcome (Found A)} → g ≡ h → Answers m g tree rest o → Answers m h tree rest o
as_deep {A} {m} {tree = tree} {rest} {o} e a = subst (λ n. Answers m n tree rest o) e a

-- one step, then another
pub and_so : {A B : Type 0} {m g h : ℕ} {a : A} {b : B} {mid rest : Input} {o : Outcome (Found A)} (f : Found A → Parser (Found B)) → Answers m g a mid o → g ≤ h
    → ((room : ℕ) → g + room ≡ m → Answers m h b rest (f (found a room) mid)) → Answers m h b rest (and_then o f)
and_so f (fits room same is) within so = as_same (ap (λ o. and_then o f) is) (so room same)
and_so f (deep past i is) within so = deep (omega arith) i (ap (λ o. and_then o f) is)

-- the answer for the node around what was read
pub around : {A : Type 0} {m h : ℕ} {tree : A} {rest : Input} {o : Outcome (Found A)} → Answers m h tree rest o → Answers (suc m) (1 + h) tree rest o
around (fits room same is) = fits room (omega arith) is
around (deep past i is) = deep (omega arith) i is

-- a step that asks for levels
pub needs : {A : Type 0} {m h : ℕ} {tree : A} {rest : Input} (least : ℕ) (i : Input) (q : Parser (Found A)) → least ≤ h → (least ≤ m → Answers m h tree rest (q i))
    → Answers m h tree rest ((need least m >> q) i)
unfolding need
needs {A} {m} {h} {tree} {rest} least i q within so = by (nat_le least m) refl
  where
    by : (b : Bool) → nat_le least m ≡ b → Answers m h tree rest ((need least m >> q) i)
    by true e = rw e (so (grind (arith, nat_tests)))
    by false e = let past : m < least = grind (arith, nat_tests) in deep (omega arith) i (rw e refl)

-- a step that asks for a level above what was read, of depth g
pub rises : {A : Type 0} {m g h : ℕ} {tree : A} {rest : Input} (room : ℕ) (i : Input) (q : Parser (Found A)) → g + room ≡ suc m → g ≤ h
    → (g + (room - 1) ≡ m → Answers m h tree rest (q i)) → Answers m h tree rest ((need 1 room >> q) i)
unfolding need
rises zero i q same within so = deep (omega arith) i refl
rises {A} {m} {g} {h} {tree} {rest} (suc r) i q same within so = by (nat_le 1 (suc r)) refl
  where
    by : (b : Bool) → nat_le 1 (suc r) ≡ b → Answers m h tree rest ((need 1 (suc r) >> q) i)
    by true e = rw e (so (omega arith))
    by false e = let none : suc r < 1 = grind (arith, nat_tests) in absurd (omega arith)

-- ---- tokens

pub is_punct-same : (p : Punct) (kind : TokenKind) → kind ≡ k.Punct p → is_punct p kind ≡ true
unfolding same_punct
is_punct-same p kind e = ap (is_punct p) e ∙ true_same punct.the_type p p refl

pub is_key-same : (w : Keyword) (kind : TokenKind) → kind ≡ k.Key w → is_key w kind ≡ true
unfolding same_keyword
is_key-same w kind e = ap (is_key w) e ∙ true_same keyword.the_type w w refl

pub sees-same : (p : Punct) (i : Input) → peek i ≡ k.Punct p → sees p i ≡ true
unfolding sees
sees-same p i e = is_punct-same p (peek i) e

pub sees_key-same : (w : Keyword) (i : Input) → peek i ≡ k.Key w → sees_key w i ≡ true
unfolding sees_key
sees_key-same w i e = is_key-same w (peek i) e

pub punct-same : (p : Punct) (kind : TokenKind) → is_punct p kind ≡ true → kind ≡ k.Punct p
unfolding same_punct
punct-same p (k.Punct q) e = ap k.Punct (same_true punct.the_type (search rules) q p e)
punct-same p k.Word e = absurd cc
punct-same p (k.Key w) e = absurd cc
punct-same p (k.Number kind value) e = absurd cc
punct-same p (k.Char value) e = absurd cc
punct-same p k.Text e = absurd cc
punct-same p k.End e = absurd cc

pub key-same : (w : Keyword) (kind : TokenKind) → is_key w kind ≡ true → kind ≡ k.Key w
unfolding same_keyword
key-same w (k.Key v) e = ap k.Key (same_true keyword.the_type (search rules) v w e)
key-same w k.Word e = absurd cc
key-same w (k.Punct q) e = absurd cc
key-same w (k.Number kind value) e = absurd cc
key-same w (k.Char value) e = absurd cc
key-same w k.Text e = absurd cc
key-same w k.End e = absurd cc

pub seen : (p : Punct) (i : Input) → sees p i ≡ true → peek i ≡ k.Punct p
unfolding sees
seen p i e = punct-same p (peek i) e

pub seen_key : (w : Keyword) (i : Input) → sees_key w i ≡ true → peek i ≡ k.Key w
unfolding sees_key
seen_key w i e = key-same w (peek i) e

pub word-same : (kind : TokenKind) → is_word kind ≡ true → kind ≡ k.Word
word-same k.Word e = refl
word-same (k.Key w) e = absurd cc
word-same (k.Punct q) e = absurd cc
word-same (k.Number kind value) e = absurd cc
word-same (k.Char value) e = absurd cc
word-same k.Text e = absurd cc
word-same k.End e = absurd cc

-- ---- steps over tokens that are there

pub expects : {A : Type 0} {m h : ℕ} {tree : A} {rest : Input} {p : Punct} (i : Input) (q : Parser (Found A)) → peek i ≡ k.Punct p → Answers m h tree rest (q (next i))
    → Answers m h tree rest ((expect p >> q) i)
unfolding expect
expects {p = p} i q e a = rw (sees-same p i e) a

pub reads_word : {A : Type 0} {m h : ℕ} {tree : A} {rest : Input} (i : Input) (q : List ℕ → Parser (Found A)) → peek i ≡ k.Word → Answers m h tree rest (q (text i) (next i))
    → Answers m h tree rest (and_then (word i) q)
unfolding word
reads_word i q e a = rw e a
