-- What is asked of the readers of the nodes inside a node: what they read is a tree of their form.
use Rattle.std.proofs.Common.{◌≡◌, ℕ, zero, suc, ◌+◌, ◌≤◌, min, max, Bool, true, false, List, [], ◌∷◌, ◌++◌, refl, subst, arith}
use Rattle.lk_lex.specs.declared.token.TokenKind.{TokenKind}
use Rattle.lk_lex.specs.declared.token.TokenKind.TheVariants as k
use Rattle.lk_lex.specs.declared.punct.Punct.TheVariants as p
use Rattle.lk_tree.specs.declared.expression.Expr.{Expr}
use Rattle.lk_parse_expr.specs.declared.found.Found.{Found}
use Rattle.lk_parse_expr.specs.declared.naming.Naming.{Naming}
use Rattle.lk_parse_expr.specs.Input.{Input, peek, next}
use Rattle.lk_parse_expr.specs.Front.{infix_of}
use Rattle.lk_parse_expr.specs.Readers.{Parser, found, left, sees, goes_on, separated_from, separated, repeat_from, repeat}
use Rattle.lk_parse_expr.specs.Grammar.{ReadsExpr, ReadsTypeName, ReadsMember, ReadsItem, ReadsDeclarator}
use Rattle.lk_parse_expr.specs.Reading.{Readers}
use Rattle.lk_parse_expr.proofs.Steps.{seen}
use Rattle.lk_parse_expr.proofs.Tables.{is_none_below}
use Rattle.lk_parse_expr.proofs.Lists.{Row, row_last, row_more, Run, run_none, run_more}
use Rattle.lk_parse_expr.proofs.Yielding.{Yields, and_yields, by_test, Has}

-- an expression of this level, behind which stands nothing that goes on with it
pub record HasExpr (m level : ℕ) (from : Input) (f : Found Expr) (rest : Input) : Type 0 where
  pub depth : ℕ
  pub reads : ReadsExpr level depth f.tree from rest
  pub all : depth + f.room ≡ m
  pub stops : is_none_below level (infix_of (peek rest)) ≡ true

pub record Sound (m : ℕ) (below : Readers) : Type 0 where
  pub expr : (level : ℕ) (from : Input) → level ≤ 14 → Yields (HasExpr m level from) (below.expr level from)
  pub type_name : (from : Input) → Yields (Has m (λ h name rest. ReadsTypeName h name from rest)) (below.type_name from)
  pub declarator : (n : Naming) (from : Input) → Yields (Has m (λ h one rest. ReadsDeclarator n 0 h one.0 one.1 from rest)) (below.declarator n from)
  pub member : (from : Input) → Yields (Has m (λ h one rest. ReadsMember h one from rest)) (below.member from)
  pub item : (from : Input) → Yields (Has m (λ h one rest. ReadsItem h one from rest)) (below.item from)

-- ---- lists

pub row_on : {A : Type 0} {R : ℕ → A → Input → Input → Type 0} {g h : ℕ} {list : List A} {one : A} {from mid rest : Input} → Row R g list from mid → peek mid ≡ k.Punct p.Comma
    → R h one (next mid) rest → Row R (max g h) (list ++ one ∷ []) from rest
row_on (row_last first) is one = row_more first is (row_last one)
row_on {R = R} {h = h} {one = one} {from} {rest = rest} (row_more {g} {h = h2} {one = first} {others} before so row) is one_ =
    let e : max g (max h2 h) ≡ max (max g h2) h = omega arith in
    subst (λ n. Row R n (first ∷ (others ++ one ∷ [])) from rest) e (row_more before so (row_on row is one_))

pub run_on : {A : Type 0} {R : ℕ → A → Input → Input → Type 0} {g h : ℕ} {list : List A} {one : A} {from mid rest : Input} → Run R g list from mid
    → R h one mid rest → Run R (max g h) (list ++ one ∷ []) from rest
run_on {R = R} {h = h} {one = one} {from} {rest = rest} run_none one_ =
    let e : max h 0 ≡ max 0 h = omega arith in subst (λ n. Run R n (one ∷ []) from rest) e (run_more one_ run_none)
run_on {R = R} {h = h} {one = one} {from} {rest = rest} (run_more {g} {h = h2} {one = first} {others} before run) one_ =
    let e : max g (max h2 h) ≡ max (max g h2) h = omega arith in
    subst (λ n. Run R n (first ∷ (others ++ one ∷ [])) from rest) e (run_more before (run_on run one_))

-- a row, behind which no comma goes on
pub record HasRow {A : Type 0} (m : ℕ) (R : ℕ → A → Input → Input → Type 0) (ends : TokenKind → Bool) (from : Input) (f : Found (List A)) (rest : Input) : Type 0 where
  pub depth : ℕ
  pub row : Row R depth f.tree from rest
  pub all : depth + f.room ≡ m
  pub stop : goes_on ends rest ≡ false

comma_there : (ends : TokenKind → Bool) (i : Input) → goes_on ends i ≡ true → peek i ≡ k.Punct p.Comma
unfolding goes_on
comma_there ends i e = by (sees p.Comma i) refl
  where
    by : (b : Bool) → sees p.Comma i ≡ b → peek i ≡ k.Punct p.Comma
    by true f = seen p.Comma i f
    by false f = let g : goes_on ends i ≡ false = rw f refl in absurd cc

module _ {A : Type 0} (m : ℕ) (R : ℕ → A → Input → Input → Type 0) (ends : TokenKind → Bool) (item : Parser (Found A))
    (each : (i : Input) → Yields (Has m (λ h one rest. R h one i rest)) (item i)) where
  pub more_row : (n : ℕ) (from mid : Input) (d room : ℕ) (list : List A) → Row R d list from mid → d + room ≡ m → peek mid ≡ k.Punct p.Comma
      → Yields (HasRow m R ends from) (separated_from ends item n (found list room) (next mid))
  unfolding separated_from
  more_row zero from mid d room list row same is = tt
  more_row (suc n) from mid d room list row same is = and_yields _ _ (item (next mid)) _ (each (next mid)) (λ one i has.
      by_test _ (goes_on ends i) _ _
      (λ e. more_row n from i (max d has.depth) (min room one.room) (list ++ one.tree ∷ []) (row_on row is has.reads) (let a = has.all in omega arith) (comma_there ends i e))
      (λ e. record { depth = max d has.depth; row = row_on row is has.reads; all = (let a = has.all in omega arith); stop = e }))

  pub separated_has : (from : Input) → Yields (HasRow m R ends from) (separated ends item m from)
  unfolding separated_from
  separated_has from = by (left from)
    where
      by : (n : ℕ) → Yields (HasRow m R ends from) (separated_from ends item n (found [] m) from)
      by zero = tt
      by (suc n) = and_yields _ _ (item from) _ (each from) (λ one i has.
          by_test _ (goes_on ends i) _ _
          (λ e. more_row n from i has.depth (min m one.room) (one.tree ∷ []) (row_last has.reads) (let a = has.all in omega arith) (comma_there ends i e))
          (λ e. record { depth = has.depth; row = row_last has.reads; all = (let a = has.all in omega arith); stop = e }))

-- items one after another: a relation of what was read so far, which one more item keeps
module _ {A : Type 0} (m : ℕ) (R : ℕ → A → Input → Input → Type 0) (P : ℕ → List A → Input → Type 0) (stops : Input → Bool) (item : Parser (Found A))
    (each : (i : Input) → Yields (Has m (λ h one rest. R h one i rest)) (item i))
    (on : (d h : ℕ) (list : List A) (one : A) (i j : Input) → P d list i → R h one i j → P (max d h) (list ++ one ∷ []) j) where
  repeat_has_on : (n : ℕ) (i : Input) (d room : ℕ) (list : List A) → P d list i → d + room ≡ m → Yields (Has m P) (repeat_from stops item n (found list room) i)
  unfolding repeat_from
  repeat_has_on zero i d room list run same = record { depth = d; reads = run; all = same }
  repeat_has_on (suc n) i d room list run same = by_test _ (stops i) _ _
      (λ e. record { depth = d; reads = run; all = same })
      (λ e. and_yields _ _ (item i) _ (each i) (λ one j has.
      repeat_has_on n j (max d has.depth) (min room one.room) (list ++ one.tree ∷ []) (on d has.depth list one.tree i j run has.reads) (let a = has.all in omega arith)))

  pub repeat_has : (i : Input) (d room : ℕ) (list : List A) → P d list i → d + room ≡ m → Yields (Has m P) (repeat stops item (found list room) i)
  repeat_has i d room list run same = repeat_has_on (left i) i d room list run same
