-- Trails that have parted stay so, whatever the thread of the later or of the earlier one does.
use Rattle.std.proofs.Common.{◌≡◌, ℕ, Bool, true, false, List, [], ◌∷◌, ◌++◌, refl, sym, ap, subst, ◌∙◌}
use Rattle.std.proofs.lemmas.Bool.{false≢true}
use Rattle.lk_facts.specs.Reach.{IsLiveNext, After}
use Rattle.lk_facts.specs.Reach.Plus.{one, more}
use Rattle.lk_facts.specs.declared.program.Program.{Program}
use Rattle.lk_trails.specs.Trails.{Stay, Left, stay, left_at, first_of, HasCreation, Parts}
use Rattle.lk_trails.specs.Trails.HasCreation.{here as created_here, beyond}
use Rattle.lk_trails.specs.Trails.Parts.{same, apart}

-- ---- lists

pub heads : {X : Type 0} → (x y : X) (xs ys : List X) → x ∷ xs ≡ y ∷ ys → x ≡ y
heads x y xs ys h = cc

pub tails : {X : Type 0} → (x y : X) (xs ys : List X) → x ∷ xs ≡ y ∷ ys → xs ≡ ys
tails x y xs ys h = cc

pub none_more : {X : Type 0} → (x : X) (xs : List X) → x ∷ xs ≡ [] → ⊥
none_more x xs h = cc

-- one more frame that was left
pub first_more : (left : List Left) (top to : Stay) (created : Bool) → first_of (left ++ left_at top created ∷ []) to ≡ first_of left top
first_more [] top to created = refl
first_more (x ∷ left) top to created = refl

pub creation_more : {left : List Left} → HasCreation left → (x : Left) → HasCreation (left ++ x ∷ [])
creation_more (created_here y rest is) x = created_here y (rest ++ x ∷ []) is
creation_more (beyond y rest created) x = beyond y (rest ++ x ∷ []) (creation_more created x)

pub no_creation : {left : List Left} → HasCreation left → left ≡ [] → ⊥
no_creation (created_here x rest is) h = none_more x rest h
no_creation (beyond x rest created) h = none_more x rest h

-- a frame fewer that was left by a call
pub creation_less : {all : List Left} → HasCreation all → (left : List Left) (caller : Stay) → all ≡ left ++ left_at caller false ∷ [] → HasCreation left
creation_less (created_here y rest is) [] caller h = absurd (false≢true (sym (ap (λ (x : Left). x.created) (heads y (left_at caller false) rest [] h)) ∙ is))
creation_less (created_here y rest is) (z ∷ left) caller h = created_here z left (sym (ap (λ (x : Left). x.created) (heads y z rest (left ++ left_at caller false ∷ []) h)) ∙ is)
creation_less (beyond y rest created) [] caller h = absurd (no_creation created (tails y (left_at caller false) rest [] h))
creation_less (beyond y rest created) (z ∷ left) caller h = beyond z left (creation_less created left caller (tails y z rest (left ++ left_at caller false ∷ []) h))

module _ (program : Program) where
  pub after_more : {a b c : ℕ} → After program a b → IsLiveNext program b c → After program a c
  after_more (one next) last = more next (one last)
  after_more (more next rest) last = more next (after_more rest last)

  -- ---- the thread of the later trail moves

  pub later_goes : {earlier later : List Left} {top : Stay} → Parts program earlier later top → (q : ℕ) → IsLiveNext program top.point q → Parts program earlier later (stay q top.context)
  later_goes (same x earlier later top parts) q next = same x earlier later (stay q top.context) (later_goes parts q next)
  later_goes (apart x earlier [] top context after created) q next = apart x earlier [] (stay q top.context) context (after_more after next) created
  later_goes (apart x earlier (y ∷ later) top context after created) q next = apart x earlier (y ∷ later) (stay q top.context) context after created

  -- it goes into a function, by a call or by a creation
  pub later_enters : {earlier later : List Left} {top : Stay} → Parts program earlier later top → (created : Bool) (to : Stay) → Parts program earlier (later ++ left_at top created ∷ []) to
  later_enters (same x earlier later top parts) created to = same x earlier (later ++ left_at top created ∷ []) to (later_enters parts created to)
  later_enters (apart x earlier later top context after is) created to =
      let first = sym (first_more later top to created) in
      apart x earlier (later ++ left_at top created ∷ []) to (subst (λ (s : Stay). s.context ≡ x.at.context) first context) (subst (λ (s : Stay). After program x.at.point s.point) first after) is

  creation_of : {earlier later : List Left} {top : Stay} → Parts program earlier later top → later ≡ [] → HasCreation earlier
  creation_of (same x earlier later top parts) h = absurd (none_more x later h)
  creation_of (apart x earlier later top context after created) h = created

  -- it returns
  pub later_returns : {earlier all : List Left} {top : Stay} → Parts program earlier all top → (later : List Left) (caller : Stay) (q : ℕ) →
      all ≡ later ++ left_at caller false ∷ [] → IsLiveNext program caller.point q → Parts program earlier later (stay q caller.context)
  later_returns (same x earlier all top parts) [] caller q h next =
      let is : x ≡ left_at caller false = heads x (left_at caller false) all [] h in
      let last = one (subst (λ (s : Left). IsLiveNext program s.at.point q) (sym is) next) in
      apart x earlier [] (stay q caller.context) (sym (ap (λ (s : Left). s.at.context) is)) last (beyond x earlier (creation_of parts (tails x (left_at caller false) all [] h)))
  later_returns (same x earlier all top parts) (y ∷ later) caller q h next =
      subst (λ (z : Left). Parts program (x ∷ earlier) (z ∷ later) (stay q caller.context)) (heads x y all (later ++ left_at caller false ∷ []) h)
      (same x earlier later (stay q caller.context) (later_returns parts later caller q (tails x y all (later ++ left_at caller false ∷ []) h) next))
  later_returns (apart x earlier all top context after created) [] caller q h next =
      let first : first_of all top ≡ caller = ap (λ ls. first_of ls top) h in
      apart x earlier [] (stay q caller.context) (subst (λ (s : Stay). s.context ≡ x.at.context) first context)
      (after_more (subst (λ (s : Stay). After program x.at.point s.point) first after) next) created
  later_returns (apart x earlier all top context after created) (y ∷ later) caller q h next =
      let first : first_of all top ≡ y.at = ap (λ ls. first_of ls top) h in
      apart x earlier (y ∷ later) (stay q caller.context) (subst (λ (s : Stay). s.context ≡ x.at.context) first context) (subst (λ (s : Stay). After program x.at.point s.point) first after) created

  -- ---- the thread of the earlier trail moves

  pub earlier_enters : {earlier later : List Left} {top : Stay} → Parts program earlier later top → (x : Left) → Parts program (earlier ++ x ∷ []) later top
  earlier_enters (same y earlier later top parts) x = same y (earlier ++ x ∷ []) later top (earlier_enters parts x)
  earlier_enters (apart y earlier later top context after created) x = apart y (earlier ++ x ∷ []) later top context after (creation_more created x)

  none_earlier : {earlier later : List Left} {top : Stay} → Parts program earlier later top → earlier ≡ [] → ⊥
  none_earlier (same x earlier later top parts) h = none_more x earlier h
  none_earlier (apart x earlier later top context after created) h = none_more x earlier h

  pub earlier_returns : {all later : List Left} {top : Stay} → Parts program all later top → (earlier : List Left) (caller : Stay) → all ≡ earlier ++ left_at caller false ∷ [] →
      Parts program earlier later top
  earlier_returns (same x all later top parts) [] caller h = absurd (none_earlier parts (tails x (left_at caller false) all [] h))
  earlier_returns (same x all later top parts) (y ∷ earlier) caller h =
      subst (λ (z : Left). Parts program (y ∷ earlier) (z ∷ later) top) (sym (heads x y all (earlier ++ left_at caller false ∷ []) h))
      (same y earlier later top (earlier_returns parts earlier caller (tails x y all (earlier ++ left_at caller false ∷ []) h)))
  earlier_returns (apart x all later top context after created) [] caller h = absurd (no_creation (creation_less created [] caller h) refl)
  earlier_returns (apart x all later top context after created) (y ∷ earlier) caller h =
      let is = heads x y all (earlier ++ left_at caller false ∷ []) h in
      apart y earlier later top (subst (λ (s : Left). (first_of later top).context ≡ s.at.context) is context)
      (subst (λ (s : Left). After program s.at.point (first_of later top).point) is after) (creation_less created (y ∷ earlier) caller h)

  -- ---- a thread begins another one: the trail of the new one parts from its creator's, which goes on
  pub creation_parts : (left : List Left) (top : Stay) (q : ℕ) → IsLiveNext program top.point q → Parts program (left ++ left_at top true ∷ []) left (stay q top.context)
  creation_parts [] top q next = apart (left_at top true) [] [] (stay q top.context) refl (one next) (created_here (left_at top true) [] refl)
  creation_parts (x ∷ left) top q next = same x (left ++ left_at top true ∷ []) left (stay q top.context) (creation_parts left top q next)
