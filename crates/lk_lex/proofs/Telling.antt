-- Why a source is refused.
use Rattle.std.proofs.Common.{◌≡◌, ℕ, suc, ◌-◌, ◌<◌, ◌≤◌, Bool, true, false, cond, List, [], ◌∷◌, length, drop, Some, sym, subst, arith}
use Rattle.std.specs.List.{All, find}
use Rattle.std.proofs.lemmas.Bool.{and_parts}
use Rattle.std.proofs.lemmas.List.{length-take}
use Rattle.lk_base.specs.declared.code.Code.TheVariants as c
use Rattle.lk_base.specs.declared.refusal.Refusal.{Refusal}
use Rattle.lk_base.specs.declared.fault.Fault.{Fault}
use Rattle.lk_base.specs.declared.fault.Fault.TheVariants as e
use Rattle.lk_lex.specs.declared.token.Token.{Token}
use Rattle.lk_lex.specs.Answer.{IsRefused, stopped, unsupported, IsFault, is_refused, first_refused, text_of, refusal}
use Rattle.lk_lex.specs.Lengths.{IsStop, IsFaultOf}
use Rattle.lk_lex.specs.TokenList.{IsInside}
use Rattle.lk_lex.specs.Tokens.{Splits, start_of}
use Rattle.lk_lex.proofs.Fronts.{find-passes}
use Rattle.lk_lex.proofs.Inside.{splits_filed, stops_filed}

-- a stop as a fault
pub stop_fault : (names last : List (List ℕ)) (own : ℕ) (bytes : List ℕ) (fault : Fault) → own < length names → IsStop names (start_of own) bytes last fault → IsFault names own bytes last fault
stop_fault names last own bytes e.NoMemory there stop = tt
stop_fault names last own bytes (e.Refused told) there (code, spot, same, stops) =
    subst (λ r. IsRefused names own bytes last r × (r.spot.file < length last)) (sym same) (stopped code spot stops, stops_filed there stops)

fault_told : (names last : List (List ℕ)) (own : ℕ) (bytes : List ℕ) (told : Refusal) (fault : Fault) → IsFaultOf told fault → IsRefused names own bytes last told
    → told.spot.file < length last → IsFault names own bytes last fault
fault_told names last own bytes told e.NoMemory is refused there = tt
fault_told names last own bytes told (e.Refused refusal) is refused there =
    subst (λ r. IsRefused names own bytes last r × (r.spot.file < length last)) (sym is) (refused, there)

found_in : {A : Type 0} (P : A → Type 0) (p : A → Bool) (xs : List A) (x : A) → All P xs → find p xs ≡ Some x → P x
found_in P p [] x all found = absurd cc
found_in {A} P p (y ∷ ys) x all found = by (p y) (found_in P p ys x (λ k d there. all (suc k) d (omega arith))) found
  where
    by : (here : Bool) → (find p ys ≡ Some x → P x) → cond here (Some y) (find p ys) ≡ Some x → P x
    by true others found = let same : y ≡ x = cc in subst P same (all 0 y (omega arith))
    by false others found = others found

-- a refused word as a fault
pub word_fault : (names last : List (List ℕ)) (own : ℕ) (bytes : List ℕ) (tokens : List Token) (token : Token) (fault : Fault) → own < length names
    → Splits names (start_of own) bytes tokens last → first_refused bytes tokens ≡ Some token → IsFaultOf (refusal c.UnsupportedWord token.spot (text_of bytes token)) fault
    → IsFault names own bytes last fault
word_fault names last own bytes tokens token fault there split found is =
    fault_told names last own bytes _ fault is (unsupported tokens token split found)
    (found_in (λ t. t.spot.file < length last) (is_refused bytes) tokens token (splits_filed there split) found)

-- a refused word has at most 255 bytes
pub refused_short : (bytes : List ℕ) (tokens : List Token) (token : Token) → first_refused bytes tokens ≡ Some token → IsInside (length bytes) token → length (text_of bytes token) ≤ 255
refused_short bytes tokens token found inside =
    let short = inside.short (and_parts _ _ (find-passes (is_refused bytes) tokens token found)).0 in
    omega (arith, length-take (token.to - token.from) (drop token.from bytes), short)
