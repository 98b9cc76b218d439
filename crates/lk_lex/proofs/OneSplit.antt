-- Bytes split in one way at most, or stop at one place.
use Rattle.std.proofs.Common.{◌≡◌, ℕ, List, ◌∷◌, take, drop, refl, sym, ap, subst, ◌∙◌}
use Rattle.lk_base.specs.declared.code.Code.{Code}
use Rattle.lk_base.specs.declared.spot.Spot.{Spot}
use Rattle.lk_lex.specs.declared.front.Front.TheVariants as f
use Rattle.lk_lex.specs.declared.mark.Mark.{Mark}
use Rattle.lk_lex.specs.declared.place.Place.{Place}
use Rattle.lk_lex.specs.declared.token.Token.{Token}
use Rattle.lk_lex.specs.declared.token.TokenKind.{TokenKind}
use Rattle.lk_lex.specs.Front.{cut}
use Rattle.lk_lex.specs.Tokens.{Splits, ends, gap, line_mark, token, Stops, nothing, broken, past_gap, past_mark, past_token, after, names_with, marked, token_at}
use Rattle.lk_lex.specs.Laws.{HasOneList, NeverBoth, HasOneStop}

behind_gap : {names last : List (List ℕ)} {place : Place} {b : ℕ} {bs : List ℕ} {tokens : List Token} → (n : ℕ) → cut place.fresh (b ∷ bs) ≡ f.Gap n → Splits names place (b ∷ bs) tokens last → Splits names (after place (take n (b ∷ bs))) (drop n (b ∷ bs)) tokens last
behind_gap {names} {last} {place} {b} {bs} {tokens} n e (gap m g s) = let same : m ≡ n = cc in subst (λ k. Splits names (after place (take k (b ∷ bs))) (drop k (b ∷ bs)) tokens last) same s
behind_gap n e (line_mark m mark g s) = absurd cc
behind_gap n e (token m kind g s) = absurd cc

behind_mark : {names last : List (List ℕ)} {place : Place} {b : ℕ} {bs : List ℕ} {tokens : List Token} → (n : ℕ) (mark : Mark) → cut place.fresh (b ∷ bs) ≡ f.Mark n mark → Splits names place (b ∷ bs) tokens last
    → Splits (names_with names mark.name) (marked names (after place (take n (b ∷ bs))) mark) (drop n (b ∷ bs)) tokens last
behind_mark n mark e (gap m g s) = absurd cc
behind_mark {names} {last} {place} {b} {bs} {tokens} n mark e (line_mark m other g s) =
    let same : m ≡ n = cc in let equal : other ≡ mark = cc in
    subst (λ k. Splits (names_with names mark.name) (marked names (after place (take k (b ∷ bs))) mark) (drop k (b ∷ bs)) tokens last) same
    (subst (λ w. Splits (names_with names w.name) (marked names (after place (take m (b ∷ bs))) w) (drop m (b ∷ bs)) tokens last) equal s)
behind_mark n mark e (token m kind g s) = absurd cc

behind_token : {names last : List (List ℕ)} {place : Place} {b : ℕ} {bs : List ℕ} {tokens : List Token} → (n : ℕ) (kind : TokenKind) → cut place.fresh (b ∷ bs) ≡ f.Token n kind → Splits names place (b ∷ bs) tokens last
    → (others : List Token) × (tokens ≡ token_at place (after place (take n (b ∷ bs))) kind ∷ others) × Splits names (after place (take n (b ∷ bs))) (drop n (b ∷ bs)) others last
behind_token n kind e (gap m g s) = absurd cc
behind_token n kind e (line_mark m mark g s) = absurd cc
behind_token {names} {last} {place} {b} {bs} {tokens} n kind e (token {tokens = others} m other g s) =
    let same : m ≡ n = cc in let equal : other ≡ kind = cc in (
      others,
      ap (λ w. token_at place (after place (take m (b ∷ bs))) w ∷ others) equal ∙ ap (λ k. token_at place (after place (take k (b ∷ bs))) kind ∷ others) same,
      subst (λ k. Splits names (after place (take k (b ∷ bs))) (drop k (b ∷ bs)) others last) same s,
    )

one_list : {names x y : List (List ℕ)} {place : Place} {bytes : List ℕ} {a b : List Token} → Splits names place bytes a x → Splits names place bytes b y → (a ≡ b) × (x ≡ y)
one_list ends ends = (refl, refl)
one_list (gap n e s) other = one_list s (behind_gap n e other)
one_list (line_mark n mark e s) other = one_list s (behind_mark n mark e other)
one_list {place = place} (token {b = b} {bs = bs} n kind e s) other =
    let behind = behind_token n kind e other in
    let others = one_list s behind.2 in
    (ap (λ m. token_at place (after place (take n (b ∷ bs))) kind ∷ m) others.0 ∙ sym behind.1, others.1)

stop_behind_gap : {names last : List (List ℕ)} {place : Place} {b : ℕ} {bs : List ℕ} {code : Code} {spot : Spot} → (n : ℕ) → cut place.fresh (b ∷ bs) ≡ f.Gap n → Stops names place (b ∷ bs) code spot last → Stops names (after place (take n (b ∷ bs))) (drop n (b ∷ bs)) code spot last
stop_behind_gap n e (nothing g) = absurd cc
stop_behind_gap n e (broken g) = absurd cc
stop_behind_gap {names} {last} {place} {b} {bs} {code} {spot} n e (past_gap m g s) = let same : m ≡ n = cc in subst (λ k. Stops names (after place (take k (b ∷ bs))) (drop k (b ∷ bs)) code spot last) same s
stop_behind_gap n e (past_mark m mark g s) = absurd cc
stop_behind_gap n e (past_token m kind g s) = absurd cc

stop_behind_mark : {names last : List (List ℕ)} {place : Place} {b : ℕ} {bs : List ℕ} {code : Code} {spot : Spot} → (n : ℕ) (mark : Mark) → cut place.fresh (b ∷ bs) ≡ f.Mark n mark → Stops names place (b ∷ bs) code spot last
    → Stops (names_with names mark.name) (marked names (after place (take n (b ∷ bs))) mark) (drop n (b ∷ bs)) code spot last
stop_behind_mark n mark e (nothing g) = absurd cc
stop_behind_mark n mark e (broken g) = absurd cc
stop_behind_mark n mark e (past_gap m g s) = absurd cc
stop_behind_mark {names} {last} {place} {b} {bs} {code} {spot} n mark e (past_mark m other g s) =
    let same : m ≡ n = cc in let equal : other ≡ mark = cc in
    subst (λ k. Stops (names_with names mark.name) (marked names (after place (take k (b ∷ bs))) mark) (drop k (b ∷ bs)) code spot last) same
    (subst (λ w. Stops (names_with names w.name) (marked names (after place (take m (b ∷ bs))) w) (drop m (b ∷ bs)) code spot last) equal s)
stop_behind_mark n mark e (past_token m kind g s) = absurd cc

stop_behind_token : {names last : List (List ℕ)} {place : Place} {b : ℕ} {bs : List ℕ} {code : Code} {spot : Spot} → (n : ℕ) (kind : TokenKind) → cut place.fresh (b ∷ bs) ≡ f.Token n kind → Stops names place (b ∷ bs) code spot last
    → Stops names (after place (take n (b ∷ bs))) (drop n (b ∷ bs)) code spot last
stop_behind_token n kind e (nothing g) = absurd cc
stop_behind_token n kind e (broken g) = absurd cc
stop_behind_token n kind e (past_gap m g s) = absurd cc
stop_behind_token n kind e (past_mark m mark g s) = absurd cc
stop_behind_token {names} {last} {place} {b} {bs} {code} {spot} n kind e (past_token m other g s) =
    let same : m ≡ n = cc in subst (λ k. Stops names (after place (take k (b ∷ bs))) (drop k (b ∷ bs)) code spot last) same s

not_both : {names last others : List (List ℕ)} {place : Place} {bytes : List ℕ} {tokens : List Token} {code : Code} {spot : Spot}
    → Splits names place bytes tokens last → Stops names place bytes code spot others → ⊥
not_both {others = others} {code = code} {spot = spot} (ends {names = names} {place = place}) stop = elim stop [ ]
not_both (gap n e s) stop = not_both s (stop_behind_gap n e stop)
not_both (line_mark n mark e s) stop = not_both s (stop_behind_mark n mark e stop)
not_both (token n kind e s) stop = not_both s (stop_behind_token n kind e stop)

one_stop : {names x y : List (List ℕ)} {place : Place} {bytes : List ℕ} {a b : Code} {s t : Spot} → Stops names place bytes a s x → Stops names place bytes b t y
    → (a ≡ b) × (s ≡ t) × (x ≡ y)
one_stop (nothing e) (nothing g) = (refl, refl, refl)
one_stop (nothing e) (broken g) = absurd cc
one_stop (nothing e) (past_gap m g s) = absurd cc
one_stop (nothing e) (past_mark m mark g s) = absurd cc
one_stop (nothing e) (past_token m kind g s) = absurd cc
one_stop (broken e) (nothing g) = absurd cc
one_stop (broken e) (broken g) = (refl, refl, refl)
one_stop (broken e) (past_gap m g s) = absurd cc
one_stop (broken e) (past_mark m mark g s) = absurd cc
one_stop (broken e) (past_token m kind g s) = absurd cc
one_stop (past_gap n e s) other = one_stop s (stop_behind_gap n e other)
one_stop (past_mark n mark e s) other = one_stop s (stop_behind_mark n mark e other)
one_stop (past_token n kind e s) other = one_stop s (stop_behind_token n kind e other)

pub has_one_list : HasOneList
has_one_list names place bytes a b x y first second = one_list first second

pub never_both : NeverBoth
never_both names place bytes tokens last code spot others splits stops = not_both splits stops

pub has_one_stop : HasOneStop
has_one_stop names place bytes a b s t x y first second = one_stop first second
