-- Lists: items with commas between them, and items one after another.
use Rattle.std.proofs.Common.{◌≡◌, ℕ, zero, suc, ◌+◌, ◌≤◌, min, max, Bool, true, false, List, [], ◌∷◌, ◌++◌, Ok, refl, sym, ap, subst, ◌∙◌, append_assoc, append-nil, arith}
use Rattle.lk_lex.specs.declared.token.TokenKind.{TokenKind}
use Rattle.lk_lex.specs.declared.token.TokenKind.TheVariants as k
use Rattle.lk_lex.specs.declared.punct.Punct.TheVariants as p
use Rattle.lk_parse_expr.specs.declared.found.Found.{Found}
use Rattle.lk_parse_expr.specs.Input.{Input, peek, next}
use Rattle.lk_parse_expr.specs.Readers.{Parser, found, left, goes_on, separated_from, separated, repeat_from, repeat}
use Rattle.lk_parse_expr.proofs.Steps.{Answers, fits, as_deep, and_so, sees-same}
use Rattle.lk_parse_expr.proofs.Left.{left-took}

-- items of this relation with commas between them, one at least
pub data Row {A : Type 0} (R : ℕ → A → Input → Input → Type 0) : ℕ → List A → Input → Input → Type 0 where
  row_last : {h : ℕ} {one : A} {from rest : Input} → R h one from rest → Row R h (one ∷ []) from rest
  row_more : {g h : ℕ} {one : A} {others : List A} {from mid rest : Input} → R g one from mid → peek mid ≡ k.Punct p.Comma → Row R h others (next mid) rest
      → Row R (max g h) (one ∷ others) from rest

-- items one after another, perhaps none
pub data Run {A : Type 0} (R : ℕ → A → Input → Input → Type 0) : ℕ → List A → Input → Input → Type 0 where
  run_none : {from : Input} → Run R 0 [] from from
  run_more : {g h : ℕ} {one : A} {others : List A} {from mid rest : Input} → R g one from mid → Run R h others mid rest → Run R (max g h) (one ∷ others) from rest

-- what is asked of the items: they are read where a comma or the list's end follows, begin with a token that doesn't end the list, and take one
pub record Items {A : Type 0} (m : ℕ) (R : ℕ → A → Input → Input → Type 0) (ends follows : TokenKind → Bool) (item : Parser (Found A)) : Type 0 where
  pub reads : {h : ℕ} {one : A} {from rest : Input} → R h one from rest → follows (peek rest) ≡ true → Answers m h one rest (item from)
  pub comma : follows (k.Punct p.Comma) ≡ true
  pub begins : {h : ℕ} {one : A} {from rest : Input} → R h one from rest → ends (peek from) ≡ false
  pub some : {h : ℕ} {one : A} {from rest : Input} → R h one from rest → 1 ≤ left from
  pub behind : {h : ℕ} {one : A} {from rest : Input} → R h one from rest → left rest ≤ left from

module _ {A : Type 0} {m : ℕ} {R : ℕ → A → Input → Input → Type 0} {ends follows : TokenKind → Bool} {item : Parser (Found A)} (items : Items m R ends follows item) where
  row_begins : {h : ℕ} {list : List A} {from rest : Input} → Row R h list from rest → ends (peek from) ≡ false
  row_begins (row_last one) = items.begins one
  row_begins (row_more one is others) = items.begins one

  pub separated_on : (n d room : ℕ) (before : List A) {h : ℕ} {list : List A} {from rest : Input} → d + room ≡ m → left from ≤ n → Row R h list from rest
      → follows (peek rest) ≡ true → goes_on ends rest ≡ false → Answers m (max d h) (before ++ list) rest (separated_from ends item n (found before room) from)
  unfolding separated_from goes_on
  separated_on zero d room before same enough (row_last one) follow stop = absurd (omega (arith, items.some one))
  separated_on zero d room before same enough (row_more one is others) follow stop = absurd (omega (arith, items.some one))
  separated_on (suc n) d room before {rest = rest} same enough (row_last one) follow stop =
      and_so _ (items.reads one follow) (omega arith) (λ more also. rw stop (fits (min room more) (omega arith) refl))
  separated_on (suc n) d room before {rest = rest} same enough (row_more {g} {h} {one} {others} {mid = mid} first is row) follow stop =
      and_so _ (items.reads first (ap follows is ∙ items.comma)) (omega arith) (λ more also.
      rw (sees-same p.Comma mid is, row_begins row)
      (as_deep (omega arith) (subst (λ list. Answers m (max (max d g) h) list rest (separated_from ends item n (found (before ++ one ∷ []) (min room more)) (next mid))) (append_assoc before (one ∷ []) others)
      (separated_on n (max d g) (min room more) (before ++ one ∷ []) (omega arith) (omega (arith, left-took mid (λ end. cc), items.behind first)) row follow stop))))

  pub separated_read : {h : ℕ} {list : List A} {from rest : Input} → Row R h list from rest → follows (peek rest) ≡ true → goes_on ends rest ≡ false
      → Answers m h list rest (separated ends item m from)
  separated_read {h} {from = from} row follow stop = as_deep (omega arith) (separated_on (left from) 0 m [] (omega arith) (omega arith) row follow stop)

-- what is asked of items one after another, where a test on the input stops them
pub record Members {A : Type 0} (m : ℕ) (R : ℕ → A → Input → Input → Type 0) (stops : Input → Bool) (item : Parser (Found A)) : Type 0 where
  pub reads : {h : ℕ} {one : A} {from rest : Input} → R h one from rest → Answers m h one rest (item from)
  pub begins : {h : ℕ} {one : A} {from rest : Input} → R h one from rest → stops from ≡ false
  pub shorter : {h : ℕ} {one : A} {from rest : Input} → R h one from rest → left rest + 1 ≤ left from

module _ {A : Type 0} {m : ℕ} {R : ℕ → A → Input → Input → Type 0} {stops : Input → Bool} {item : Parser (Found A)} (items : Members m R stops item) where
  repeat_on : (n d room : ℕ) (before : List A) {h : ℕ} {list : List A} {from rest : Input} → d + room ≡ m → left from ≤ n → Run R h list from rest → stops rest ≡ true
      → Answers m (max d h) (before ++ list) rest (repeat_from stops item n (found before room) from)
  unfolding repeat_from
  repeat_on zero d room before {from = from} same enough run_none stop = fits room (omega arith) (ap (λ list. Ok (found list room, from)) (sym (append-nil before)))
  repeat_on (suc n) d room before {from = from} same enough run_none stop = rw stop (fits room (omega arith) (ap (λ list. Ok (found list room, from)) (sym (append-nil before))))
  repeat_on zero d room before same enough (run_more one others) stop = absurd (omega (arith, items.shorter one))
  repeat_on (suc n) d room before {rest = rest} same enough (run_more {g} {h} {one} {others} {mid = mid} first run) stop =
      rw (items.begins first) (and_so _ (items.reads first) (omega arith) (λ more also.
      as_deep (omega arith) (subst (λ list. Answers m (max (max d g) h) list rest (repeat_from stops item n (found (before ++ one ∷ []) (min room more)) mid)) (append_assoc before (one ∷ []) others)
      (repeat_on n (max d g) (min room more) (before ++ one ∷ []) (omega arith) (omega (arith, items.shorter first)) run stop))))

  pub repeat_read : {h : ℕ} {list : List A} {from rest : Input} (d room : ℕ) (before : List A) → d + room ≡ m → Run R h list from rest → stops rest ≡ true
      → Answers m (max d h) (before ++ list) rest (repeat stops item (found before room) from)
  repeat_read {from = from} d room before same run stop = repeat_on (left from) d room before same (omega arith) run stop
