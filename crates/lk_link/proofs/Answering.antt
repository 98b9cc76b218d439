-- Questions about growing lists of pairs, answered one after the other.
use Rattle.std.proofs.Common.{◌≡◌, inl, inr, Bool, true, false, List, refl}
use Rattle.std.proofs.lemmas.Bool.{false≢true}
use Rattle.lk_link.specs.Pairs.{AreAmong, IsLonger, IsAnswered}
use Rattle.lk_link.specs.declared.place.StructPair.{StructPair}

pub longer_among : (old new : List StructPair) → IsLonger old new → AreAmong old new
longer_among old new longer pair among = (among.0, longer among.0 pair among.1)

-- further pairs may be as a weaker fact says
pub answered_weaker : {Allowed More : StructPair → Type 0} {old new : List StructPair} {answer : Bool} (A : List StructPair → Type 0) →
    ((pair : StructPair) → Allowed pair → More pair) → IsAnswered Allowed old new A answer → IsAnswered More old new A answer
answered_weaker A weaker h = record {
  longer = h.longer;
  from = λ pair among. elim (h.from pair among) [ inl there ↦ inl there | inr is ↦ inr (weaker pair is) ];
  holds = h.holds;
  needed = h.needed;
}

module _ {Allowed : StructPair → Type 0} where
  -- what is asked depends on no pair
  pub answered_by : (pairs : List StructPair) (A : List StructPair → Type 0) (answer : Bool) →
      (answer ≡ true → (ps : List StructPair) → A ps) → ((ps : List StructPair) → A ps → answer ≡ true) → IsAnswered Allowed pairs pairs A answer
  answered_by pairs A answer holds needed = record {
    longer = λ place pair at. at;
    from = λ pair among. inl among;
    holds = λ is ps among. holds is ps;
    needed = λ ps among asked. (needed ps asked, among);
  }

  -- it never holds
  pub answered_no : (pairs : List StructPair) (A : List StructPair → Type 0) → ((ps : List StructPair) → A ps → ⊥) → IsAnswered Allowed pairs pairs A false
  answered_no pairs A never = answered_by pairs A false (λ is ps. absurd (false≢true is)) (λ ps asked. absurd (never ps asked))

  -- it never holds, and the pairs grew before
  pub answered_never : {old new : List StructPair} (A B : List StructPair → Type 0) → IsAnswered Allowed old new A true → ((ps : List StructPair) → B ps → ⊥) → IsAnswered Allowed old new B false
  answered_never A B h never = record {
    longer = h.longer;
    from = h.from;
    holds = λ is ps among. absurd (false≢true is);
    needed = λ ps among asked. absurd (never ps asked);
  }

  -- the same is asked in other words
  pub answered_same : {old new : List StructPair} {answer : Bool} (A B : List StructPair → Type 0) →
      ((ps : List StructPair) → A ps → B ps) → ((ps : List StructPair) → B ps → A ps) → IsAnswered Allowed old new A answer → IsAnswered Allowed old new B answer
  answered_same A B there back h = record {
    longer = h.longer;
    from = h.from;
    holds = λ is ps among. there ps (h.holds is ps among);
    needed = λ ps among asked. h.needed ps among (back ps asked);
  }

  -- one part of what is asked holds, and then the other was asked
  pub answered_then : {old middle new : List StructPair} {answer : Bool} (A B C : List StructPair → Type 0) →
      ((ps : List StructPair) → A ps → B ps → C ps) → ((ps : List StructPair) → C ps → A ps) → ((ps : List StructPair) → C ps → B ps) →
      IsAnswered Allowed old middle A true → IsAnswered Allowed middle new B answer → IsAnswered Allowed old new C answer
  answered_then {old} {middle} {new} A B C both one other h k = record {
    longer = λ place pair at. k.longer place pair (h.longer place pair at);
    from = λ pair among. elim (k.from pair among) [ inl there ↦ h.from pair there | inr is ↦ inr is ];
    holds = λ is ps among.
        let first = h.holds refl ps (λ pair there. among pair (longer_among middle new k.longer pair there)) in
        both ps first (k.holds is ps among);
    needed = λ ps among asked. k.needed ps ((h.needed ps among (one ps asked)).1) (other ps asked);
  }

  -- and doesn't hold
  pub answered_then_stop : {old middle new : List StructPair} (A B C : List StructPair → Type 0) → ((ps : List StructPair) → C ps → A ps) → ((ps : List StructPair) → C ps → B ps) →
      IsAnswered Allowed old middle A true → IsAnswered Allowed middle new B false → IsAnswered Allowed old new C false
  answered_then_stop A B C one other h k = record {
    longer = λ place pair at. k.longer place pair (h.longer place pair at);
    from = λ pair among. elim (k.from pair among) [ inl there ↦ h.from pair there | inr is ↦ inr is ];
    holds = λ is ps among. absurd (false≢true is);
    needed = λ ps among asked. k.needed ps ((h.needed ps among (one ps asked)).1) (other ps asked);
  }
