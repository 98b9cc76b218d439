-- What is kept while nodes are walked.
use Rattle.std.proofs.Common.{◌≡◌, ◌∙◌, ◌⊎◌, ◌++◌, ◌≤◌, ◌<◌, ◌↔◌, ◌||◌, ℕ, Bool, true, false, List, [], ◌∷◌, Option, Some, None, refl, sym, ap, subst, arith, inl, inr}
use Rattle.std.specs.Prelude.{MatchOption, if◌then◌else◌}
use Rattle.std.proofs.lemmas.Bool.{false≢true}
use Rattle.lk_base.specs.Code.{number_of}
use Rattle.lk_tree.specs.declared.statement.Unit.{Unit}
use Rattle.lk_typed.specs.Env.{Env, Name}
use Rattle.lk_typed.specs.Faults.{Breach, Fault, IsBefore, IsLeast}
use Rattle.lk_typed.specs.NodeParts.{parts}
use Rattle.lk_typed.specs.NodeRules.{breaches, hiding, mark_of, those_without_type, has_type, is_declaration}
use Rattle.lk_typed.specs.Nodes.{Node, Placed, at}
use Rattle.lk_typed.specs.Stands.{IsIn, Mark, Stands, Breaks, Holds, IsFault, fault_at}
use Rattle.lk_typed.specs.Stands.Stands.{here, inside}
use Rattle.lk_typed.specs.Stands.Breaks.{breaks}
use Rattle.lk_typed.specs.Stands.IsFault.{fault}
use Rattle.lk_typed.specs.Units as units
use Rattle.lk_typed.specs.Units.{IsFaultOf, IsFirstFault, externals}
use Rattle.lk_typed.specs.Units.IsNode.{node_of}
use Rattle.lk_typed.specs.Units.IsFaultOf.{fault_of}
use Rattle.lk_rules.specs.FirstFaults.{comes_before, lesser_fault}
use Rattle.lk_rules.specs.Keeping.{Kept, Keeps, KeepsLeast, IsAmong, FaultAt, HasBreach, FaultIn, IsBroken, KeepsBoth, KeepsCodes, KeepsNodes, breaches_told, keep, none_kept, seen_by, watched}
use Rattle.lk_rules.specs.Laws as laws
use Rattle.lk_rules.proofs.First.{isnt_again, isnt_itself, not_behind, tells, not_itself}

-- ---- membership

in_left : {A : Type 0} (x : A) (xs ys : List A) → IsIn x xs → IsIn x (xs ++ ys)
in_left x [] ys h = absurd h
in_left x (y ∷ xs) ys (inl e) = inl e
in_left x (y ∷ xs) ys (inr h) = inr (in_left x xs ys h)

in_right : {A : Type 0} (x : A) (xs ys : List A) → IsIn x ys → IsIn x (xs ++ ys)
in_right x [] ys h = h
in_right x (y ∷ xs) ys h = inr (in_right x xs ys h)

in_one : {A : Type 0} (x : A) (xs ys : List A) → IsIn x (xs ++ ys) → IsIn x xs ⊎ IsIn x ys
in_one x [] ys h = inr h
in_one x (y ∷ xs) ys (inl e) = inl (inl e)
in_one x (y ∷ xs) ys (inr h) = more (in_one x xs ys h)
  where
    more : IsIn x xs ⊎ IsIn x ys → IsIn x (y ∷ xs) ⊎ IsIn x ys
    more (inl i) = inl (inr i)
    more (inr i) = inr i

-- ---- the least of some, or none of them

abbrev Least : (Fault → Type 0) → Option Fault → Type 0
Least Among o = MatchOption o ((f : Fault) → Among f → ⊥) (λ f. IsLeast Among f)

abbrev pub Same : (Fault → Type 0) → (Fault → Type 0) → Type 0
Same P Q = (f : Fault) → (P f ↔ Q f)

least_same : (P Q : Fault → Type 0) (o : Option Fault) → Same P Q → Least P o → Least Q o
least_same P Q None same none = λ f q. none f ((same f).1 q)
least_same P Q (Some m) same least = record { holds = (same m).0 least.holds; first = λ g q. least.first g ((same g).1 q) }

-- the least of some, then of it and others
least_more : (P B : Fault → Type 0) (middle new : Option Fault) → Least P middle → Least (IsAmong middle B) new → Least (λ f. P f ⊎ B f) new
least_more P B None None h i = none
  where
    none : (f : Fault) → P f ⊎ B f → ⊥
    none f (inl p) = h f p
    none f (inr b) = i f b
least_more P B None (Some n) h i = record { holds = inr i.holds; first = first }
  where
    first : (g : Fault) → P g ⊎ B g → IsBefore g n → ⊥
    first g (inl p) before = h g p
    first g (inr b) before = i.first g b before
least_more P B (Some m) None h i = absurd (i m (inl refl))
least_more P B (Some m) (Some n) h i = record { holds = among i.holds; first = first }
  where
    among : (n ≡ m) ⊎ B n → P n ⊎ B n
    among (inl e) = inl (subst P (sym e) h.holds)
    among (inr b) = inr b

    first : (g : Fault) → P g ⊎ B g → IsBefore g n → ⊥
    first g (inl p) before = isnt_again g m n (h.first g p) (i.first m (inl refl)) before
    first g (inr b) before = i.first g (inr b) before

among_both : (old : Option Fault) (A B : Fault → Type 0) → Same (λ f. IsAmong old A f ⊎ B f) (IsAmong old (λ f. A f ⊎ B f))
among_both None A B f = ((λ x. x), (λ x. x))
among_both (Some o) A B f = (to, back)
  where
    to : ((f ≡ o) ⊎ A f) ⊎ B f → (f ≡ o) ⊎ (A f ⊎ B f)
    to (inl (inl e)) = inl e
    to (inl (inr a)) = inr (inl a)
    to (inr b) = inr (inr b)

    back : (f ≡ o) ⊎ (A f ⊎ B f) → ((f ≡ o) ⊎ A f) ⊎ B f
    back (inl e) = inl (inl e)
    back (inr (inl a)) = inl (inr a)
    back (inr (inr b)) = inr b

among_same : (old : Option Fault) (A B : Fault → Type 0) → Same A B → Same (IsAmong old A) (IsAmong old B)
among_same None A B same f = same f
among_same (Some o) A B same f = (to, back)
  where
    to : (f ≡ o) ⊎ A f → (f ≡ o) ⊎ B f
    to (inl e) = inl e
    to (inr a) = inr ((same f).0 a)

    back : (f ≡ o) ⊎ B f → (f ≡ o) ⊎ A f
    back (inl e) = inl e
    back (inr b) = inr ((same f).1 b)

-- ---- what is kept, of any faults

pub keeps_same : (old new : Kept) (A B : Fault → Type 0) (X Y : Type 0) → Same A B → (X ↔ Y) → Keeps old A X new → Keeps old B Y new
keeps_same old new A B X Y same alike kept =
    record {
      least = least_same (IsAmong old.least A) (IsAmong old.least B) new.least (among_same old.least A B same) kept.least;
      broken = ((λ is. to (kept.broken.0 is)), (λ is. kept.broken.1 (back is)));
    }
  where
    to : (old.is_broken ≡ true) ⊎ X → (old.is_broken ≡ true) ⊎ Y
    to (inl e) = inl e
    to (inr x) = inr (alike.0 x)

    back : (old.is_broken ≡ true) ⊎ Y → (old.is_broken ≡ true) ⊎ X
    back (inl e) = inl e
    back (inr y) = inr (alike.1 y)

pub keeps_then : (old middle new : Kept) (A B : Fault → Type 0) (X Y : Type 0) → Keeps old A X middle → Keeps middle B Y new → Keeps old (λ f. A f ⊎ B f) (X ⊎ Y) new
keeps_then old middle new A B X Y first second =
    record {
      least =
          least_same (λ f. IsAmong old.least A f ⊎ B f) (IsAmong old.least (λ f. A f ⊎ B f)) new.least (among_both old.least A B)
          (least_more (IsAmong old.least A) B middle.least new.least first.least second.least);
      broken = ((λ is. to (second.broken.0 is)), (λ is. second.broken.1 (back is)));
    }
  where
    before : (old.is_broken ≡ true) ⊎ X → (old.is_broken ≡ true) ⊎ (X ⊎ Y)
    before (inl e) = inl e
    before (inr x) = inr (inl x)

    to : (middle.is_broken ≡ true) ⊎ Y → (old.is_broken ≡ true) ⊎ (X ⊎ Y)
    to (inl e) = before (first.broken.0 e)
    to (inr y) = inr (inr y)

    back : (old.is_broken ≡ true) ⊎ (X ⊎ Y) → (middle.is_broken ≡ true) ⊎ Y
    back (inl e) = inl (first.broken.1 (inl e))
    back (inr (inl x)) = inl (first.broken.1 (inr x))
    back (inr (inr y)) = inr y

pub keeps_none : (kept : Kept) (A : Fault → Type 0) (X : Type 0) → ((f : Fault) → A f → ⊥) → (X → ⊥) → Keeps kept A X kept
keeps_none kept A X none never = record { least = least kept.least; broken = (inl, back) }
  where
    least : (o : Option Fault) → KeepsLeast o A o
    least None = none
    least (Some m) = record { holds = inl refl; first = first }
      where
        first : (g : Fault) → (g ≡ m) ⊎ A g → IsBefore g m → ⊥
        first g (inl e) before = isnt_itself m (subst (λ x. IsBefore x m) e before)
        first g (inr a) before = none g a

    back : (kept.is_broken ≡ true) ⊎ X → kept.is_broken ≡ true
    back (inl e) = e
    back (inr x) = absurd (never x)

-- ---- codes at one node

pub no_fault : (mark : Mark) (f : Fault) → FaultAt mark [] f → ⊥
no_fault mark f found = found.among

pub no_breach : HasBreach [] → ⊥
no_breach found = found.among

codes_same : (mark : Mark) (bs cs : List Breach) → ((b : Breach) → (IsIn b bs ↔ IsIn b cs)) → Same (FaultAt mark bs) (FaultAt mark cs)
codes_same mark bs cs same f = (
  (λ found. record { breach = found.breach; among = (same found.breach).0 found.among; is = found.is }),
  (λ found. record { breach = found.breach; among = (same found.breach).1 found.among; is = found.is }),
)

pub breach_same : (bs cs : List Breach) → ((b : Breach) → (IsIn b bs ↔ IsIn b cs)) → (HasBreach bs ↔ HasBreach cs)
breach_same bs cs same = (
  (λ found. record { breach = found.breach; among = (same found.breach).0 found.among }),
  (λ found. record { breach = found.breach; among = (same found.breach).1 found.among }),
)

pub codes_both : (mark : Mark) (bs cs : List Breach) → Same (λ f. FaultAt mark bs f ⊎ FaultAt mark cs f) (FaultAt mark (bs ++ cs))
codes_both mark bs cs f = (to, back)
  where
    to : FaultAt mark bs f ⊎ FaultAt mark cs f → FaultAt mark (bs ++ cs) f
    to (inl found) = record { breach = found.breach; among = in_left found.breach bs cs found.among; is = found.is }
    to (inr found) = record { breach = found.breach; among = in_right found.breach bs cs found.among; is = found.is }

    back : FaultAt mark (bs ++ cs) f → FaultAt mark bs f ⊎ FaultAt mark cs f
    back found = by_place (in_one found.breach bs cs found.among)
      where
        by_place : IsIn found.breach bs ⊎ IsIn found.breach cs → FaultAt mark bs f ⊎ FaultAt mark cs f
        by_place (inl i) = inl (record { breach = found.breach; among = i; is = found.is })
        by_place (inr i) = inr (record { breach = found.breach; among = i; is = found.is })

pub breach_both : (bs cs : List Breach) → ((HasBreach bs ⊎ HasBreach cs) ↔ HasBreach (bs ++ cs))
breach_both bs cs = (to, back)
  where
    to : HasBreach bs ⊎ HasBreach cs → HasBreach (bs ++ cs)
    to (inl found) = record { breach = found.breach; among = in_left found.breach bs cs found.among }
    to (inr found) = record { breach = found.breach; among = in_right found.breach bs cs found.among }

    back : HasBreach (bs ++ cs) → HasBreach bs ⊎ HasBreach cs
    back found = by_place (in_one found.breach bs cs found.among)
      where
        by_place : IsIn found.breach bs ⊎ IsIn found.breach cs → HasBreach bs ⊎ HasBreach cs
        by_place (inl i) = inl (record { breach = found.breach; among = i })
        by_place (inr i) = inr (record { breach = found.breach; among = i })

pub codes_are_kept_in_turn : laws.CodesAreKeptInTurn
codes_are_kept_in_turn old middle new mark bs cs first second =
    keeps_same old new (λ f. FaultAt mark bs f ⊎ FaultAt mark cs f) (FaultAt mark (bs ++ cs)) (HasBreach bs ⊎ HasBreach cs) (HasBreach (bs ++ cs))
    (codes_both mark bs cs) (breach_both bs cs) (keeps_then old middle new (FaultAt mark bs) (FaultAt mark cs) (HasBreach bs) (HasBreach cs) first second)

-- a fault that another one is at its place and number, whose code isn't greater, isn't before it
isnt_less : (mark : Mark) (b c : Breach) → number_of b.code ≤ number_of c.code → IsBefore (fault_at mark c) (fault_at mark b) → ⊥
isnt_less mark b c least (inl (inl less)) = grind arith
isnt_less mark b c least (inl (inr (inl both))) = let less = both.1 in grind arith
isnt_less mark b c least (inl (inr (inr all))) = let less = all.2 in grind arith
isnt_less mark b c least (inr (inl both)) = let less = both.1 in grind arith
isnt_less mark b c least (inr (inr all)) = let less = all.2 in grind arith

least_enough : (old new : Option Fault) (mark : Mark) (bs : List Breach) (b : Breach) → IsIn b bs → ((c : Breach) → IsIn c bs → number_of b.code ≤ number_of c.code) →
    KeepsLeast old (FaultAt mark (b ∷ [])) new → KeepsLeast old (FaultAt mark bs) new
least_enough None None mark bs b is least none = absurd (none (fault_at mark b) (record { breach = b; among = inl refl; is = refl }))
least_enough (Some o) None mark bs b is least none = absurd (none o (inl refl))
least_enough None (Some n) mark bs b is least kept =
    record {
      holds = record { breach = b; among = is; is = of_one kept.holds };
      first = λ g found. subst (λ x. IsBefore x n → ⊥) (sym found.is)
          (isnt_again (fault_at mark found.breach) (fault_at mark b) n (isnt_less mark b found.breach (least found.breach found.among))
          (kept.first (fault_at mark b) (record { breach = b; among = inl refl; is = refl })));
    }
  where
    of_one : FaultAt mark (b ∷ []) n → n ≡ fault_at mark b
    of_one found = by_place found.among
      where
        by_place : (found.breach ≡ b) ⊎ ⊥ → n ≡ fault_at mark b
        by_place (inl e) = found.is ∙ ap (fault_at mark) e
        by_place (inr never) = absurd never
least_enough (Some o) (Some n) mark bs b is least kept = record { holds = holds kept.holds; first = first }
  where
    of_one : FaultAt mark (b ∷ []) n → n ≡ fault_at mark b
    of_one found = by_place found.among
      where
        by_place : (found.breach ≡ b) ⊎ ⊥ → n ≡ fault_at mark b
        by_place (inl e) = found.is ∙ ap (fault_at mark) e
        by_place (inr never) = absurd never

    holds : (n ≡ o) ⊎ FaultAt mark (b ∷ []) n → (n ≡ o) ⊎ FaultAt mark bs n
    holds (inl e) = inl e
    holds (inr found) = inr (record { breach = b; among = is; is = of_one found })

    first : (g : Fault) → (g ≡ o) ⊎ FaultAt mark bs g → IsBefore g n → ⊥
    first g (inl e) = kept.first g (inl e)
    first g (inr found) =
        subst (λ x. IsBefore x n → ⊥) (sym found.is)
        (isnt_again (fault_at mark found.breach) (fault_at mark b) n (isnt_less mark b found.breach (least found.breach found.among))
        (kept.first (fault_at mark b) (inr (record { breach = b; among = inl refl; is = refl }))))

pub the_least_code_is_enough : laws.TheLeastCodeIsEnough
the_least_code_is_enough old new mark bs b is least kept =
    record {
      least = least_enough old.least new.least mark bs b is least kept.least;
      broken = ((λ broken. to (kept.broken.0 broken)), (λ broken. kept.broken.1 (back broken)));
    }
  where
    to : (old.is_broken ≡ true) ⊎ HasBreach (b ∷ []) → (old.is_broken ≡ true) ⊎ HasBreach bs
    to (inl e) = inl e
    to (inr found) = inr (record { breach = b; among = is })

    back : (old.is_broken ≡ true) ⊎ HasBreach bs → (old.is_broken ≡ true) ⊎ HasBreach (b ∷ [])
    back (inl e) = inl e
    back (inr found) = inr (record { breach = b; among = inl refl })

-- the lesser of a fault and one at this place
lesser_one : (o f : Fault) (before : Bool) → comes_before f o ≡ before → (A : Fault → Type 0) → A f → ((g : Fault) → A g → g ≡ f) → IsLeast (λ g. (g ≡ o) ⊎ A g) (if before then f else o)
lesser_one o f true is A holds only = record { holds = inr holds; first = first }
  where
    first : (g : Fault) → (g ≡ o) ⊎ A g → IsBefore g f → ⊥
    first g (inl e) before = false≢true (sym (not_behind f o is) ∙ tells o f (subst (λ x. IsBefore x f) e before))
    first g (inr a) before = isnt_itself f (subst (λ x. IsBefore x f) (only g a) before)
lesser_one o f false is A holds only = record { holds = inl refl; first = first }
  where
    first : (g : Fault) → (g ≡ o) ⊎ A g → IsBefore g o → ⊥
    first g (inl e) before = isnt_itself o (subst (λ x. IsBefore x o) e before)
    first g (inr a) before = false≢true (sym is ∙ tells f o (subst (λ x. IsBefore x o) (only g a) before))

the_one : (mark : Mark) (b : Breach) (g : Fault) → FaultAt mark (b ∷ []) g → g ≡ fault_at mark b
the_one mark b g found = by_place found.among
  where
    by_place : (found.breach ≡ b) ⊎ ⊥ → g ≡ fault_at mark b
    by_place (inl e) = found.is ∙ ap (fault_at mark) e
    by_place (inr never) = absurd never

lesser_kept : (old : Option Fault) (mark : Mark) (b : Breach) → KeepsLeast old (FaultAt mark (b ∷ [])) (lesser_fault old (fault_at mark b))
lesser_kept None mark b =
    record {
      holds = record { breach = b; among = inl refl; is = refl };
      first = λ g found before. isnt_itself (fault_at mark b) (subst (λ x. IsBefore x (fault_at mark b)) (the_one mark b g found) before);
    }
lesser_kept (Some o) mark b =
    lesser_one o (fault_at mark b) (comes_before (fault_at mark b) o) refl (FaultAt mark (b ∷ [])) (record { breach = b; among = inl refl; is = refl }) (the_one mark b)

pub the_lesser_is_kept : laws.TheLesserIsKept
the_lesser_is_kept old mark None = keeps_none old (FaultAt mark []) (HasBreach []) (no_fault mark) no_breach
the_lesser_is_kept old mark (Some b) =
    record { least = lesser_kept old.least mark b; broken = ((λ is. inr (record { breach = b; among = inl refl })), (λ is. refl)) }

-- ---- nodes

module _ (at_end : Env) where
  abbrev pub Fault_in : Placed → Fault → Type 0
  Fault_in p f = IsFault (parts at_end) (breaches at_end) (hiding at_end) mark_of p.env p.node f

  one_more : (p : Placed) (ps qs : List Placed) (f : Fault) → ((FaultIn at_end ps f ⊎ FaultIn at_end qs f) ↔ FaultIn at_end (ps ++ qs) f) →
      ((FaultIn at_end (p ∷ ps) f ⊎ FaultIn at_end qs f) ↔ FaultIn at_end ((p ∷ ps) ++ qs) f)
  one_more p ps qs f inner = (to, back)
    where
      to : (Fault_in p f ⊎ FaultIn at_end ps f) ⊎ FaultIn at_end qs f → Fault_in p f ⊎ FaultIn at_end (ps ++ qs) f
      to (inl (inl h)) = inl h
      to (inl (inr h)) = inr (inner.0 (inl h))
      to (inr h) = inr (inner.0 (inr h))

      more : FaultIn at_end ps f ⊎ FaultIn at_end qs f → (Fault_in p f ⊎ FaultIn at_end ps f) ⊎ FaultIn at_end qs f
      more (inl h) = inl (inr h)
      more (inr h) = inr h

      back : Fault_in p f ⊎ FaultIn at_end (ps ++ qs) f → (Fault_in p f ⊎ FaultIn at_end ps f) ⊎ FaultIn at_end qs f
      back (inl h) = inl (inl h)
      back (inr h) = more (inner.1 h)

  pub nodes_both : (ps qs : List Placed) → Same (λ f. FaultIn at_end ps f ⊎ FaultIn at_end qs f) (FaultIn at_end (ps ++ qs))
  nodes_both [] qs f = (to, inr)
    where
      to : ⊥ ⊎ FaultIn at_end qs f → FaultIn at_end qs f
      to (inl never) = absurd never
      to (inr h) = h
  nodes_both (p ∷ ps) qs f = one_more p ps qs f (nodes_both ps qs f)

  among_nodes : (ps : List Placed) (part : Placed) (f : Fault) → IsIn part ps → Fault_in part f → FaultIn at_end ps f
  among_nodes [] part f is h = absurd is
  among_nodes (p ∷ ps) part f (inl e) h = inl (subst (λ q. Fault_in q f) e h)
  among_nodes (p ∷ ps) part f (inr i) h = inr (among_nodes ps part f i h)

  pub broken_in : (ps qs : List Placed) → ((p : Placed) → IsIn p ps → IsIn p qs) → IsBroken at_end ps → IsBroken at_end qs
  broken_in ps qs all found = record { breach = found.breach; breaks = further found.breaks }
    where
      further : {b : Breach} → Breaks (parts at_end) (breaches at_end) (hiding at_end) mark_of ps b → Breaks (parts at_end) (breaches at_end) (hiding at_end) mark_of qs b
      further (breaks part is stands holds) = breaks part (all part is) stands holds

  pub broken_both : (ps qs : List Placed) → ((IsBroken at_end ps ⊎ IsBroken at_end qs) ↔ IsBroken at_end (ps ++ qs))
  broken_both ps qs = (to, back)
    where
      to : IsBroken at_end ps ⊎ IsBroken at_end qs → IsBroken at_end (ps ++ qs)
      to (inl h) = broken_in ps (ps ++ qs) (λ p i. in_left p ps qs i) h
      to (inr h) = broken_in qs (ps ++ qs) (λ p i. in_right p ps qs i) h

      by_breaks : {b : Breach} → Breaks (parts at_end) (breaches at_end) (hiding at_end) mark_of (ps ++ qs) b → IsBroken at_end ps ⊎ IsBroken at_end qs
      by_breaks {b} (breaks part is stands holds) = by_place (in_one part ps qs is)
        where
          by_place : IsIn part ps ⊎ IsIn part qs → IsBroken at_end ps ⊎ IsBroken at_end qs
          by_place (inl i) = inl (record { breach = b; breaks = breaks part i stands holds })
          by_place (inr i) = inr (record { breach = b; breaks = breaks part i stands holds })

      back : IsBroken at_end (ps ++ qs) → IsBroken at_end ps ⊎ IsBroken at_end qs
      back found = by_breaks found.breaks

  pub none_broken : IsBroken at_end [] → ⊥
  none_broken found = never found.breaks
    where
      never : {b : Breach} → Breaks (parts at_end) (breaches at_end) (hiding at_end) mark_of [] b → ⊥
      never (breaks part is stands holds) = is

pub nothing_is_kept : laws.NothingIsKept
nothing_is_kept at_end kept = keeps_none kept (FaultIn at_end []) (IsBroken at_end []) (λ f h. h) (none_broken at_end)

pub nodes_are_kept_in_turn : laws.NodesAreKeptInTurn
nodes_are_kept_in_turn at_end old middle new ps qs first second =
    keeps_same old new (λ f. FaultIn at_end ps f ⊎ FaultIn at_end qs f) (FaultIn at_end (ps ++ qs)) (IsBroken at_end ps ⊎ IsBroken at_end qs) (IsBroken at_end (ps ++ qs))
    (nodes_both at_end ps qs) (broken_both at_end ps qs)
    (keeps_then old middle new (FaultIn at_end ps) (FaultIn at_end qs) (IsBroken at_end ps) (IsBroken at_end qs) first second)

pub nodes_are_broken_in_turn : laws.NodesAreBrokenInTurn
nodes_are_broken_in_turn at_end ps qs = let both = broken_both at_end ps qs in (both.1, both.0)

-- ---- nodes and codes of one node

module _ (at_end : Env) (mark : Mark) where
  abbrev Both : List Placed → List Breach → Fault → Type 0
  Both ps bs f = FaultIn at_end ps f ⊎ FaultAt mark bs f

  abbrev IsOneBroken : List Placed → List Breach → Type 0
  IsOneBroken ps bs = IsBroken at_end ps ⊎ HasBreach bs

  more_nodes : (ps qs : List Placed) (bs : List Breach) → Same (λ f. Both ps bs f ⊎ FaultIn at_end qs f) (Both (ps ++ qs) bs)
  more_nodes ps qs bs f = (to, back)
    where
      to : (FaultIn at_end ps f ⊎ FaultAt mark bs f) ⊎ FaultIn at_end qs f → FaultIn at_end (ps ++ qs) f ⊎ FaultAt mark bs f
      to (inl (inl h)) = inl ((nodes_both at_end ps qs f).0 (inl h))
      to (inl (inr h)) = inr h
      to (inr h) = inl ((nodes_both at_end ps qs f).0 (inr h))

      of_nodes : FaultIn at_end ps f ⊎ FaultIn at_end qs f → (FaultIn at_end ps f ⊎ FaultAt mark bs f) ⊎ FaultIn at_end qs f
      of_nodes (inl h) = inl (inl h)
      of_nodes (inr h) = inr h

      back : FaultIn at_end (ps ++ qs) f ⊎ FaultAt mark bs f → (FaultIn at_end ps f ⊎ FaultAt mark bs f) ⊎ FaultIn at_end qs f
      back (inl h) = of_nodes ((nodes_both at_end ps qs f).1 h)
      back (inr h) = inl (inr h)

  more_nodes_broken : (ps qs : List Placed) (bs : List Breach) → ((IsOneBroken ps bs ⊎ IsBroken at_end qs) ↔ IsOneBroken (ps ++ qs) bs)
  more_nodes_broken ps qs bs = (to, back)
    where
      to : (IsBroken at_end ps ⊎ HasBreach bs) ⊎ IsBroken at_end qs → IsBroken at_end (ps ++ qs) ⊎ HasBreach bs
      to (inl (inl h)) = inl ((broken_both at_end ps qs).0 (inl h))
      to (inl (inr h)) = inr h
      to (inr h) = inl ((broken_both at_end ps qs).0 (inr h))

      of_nodes : IsBroken at_end ps ⊎ IsBroken at_end qs → (IsBroken at_end ps ⊎ HasBreach bs) ⊎ IsBroken at_end qs
      of_nodes (inl h) = inl (inl h)
      of_nodes (inr h) = inr h

      back : IsBroken at_end (ps ++ qs) ⊎ HasBreach bs → (IsBroken at_end ps ⊎ HasBreach bs) ⊎ IsBroken at_end qs
      back (inl h) = of_nodes ((broken_both at_end ps qs).1 h)
      back (inr h) = inl (inr h)

  more_codes : (ps : List Placed) (bs cs : List Breach) → Same (λ f. Both ps bs f ⊎ FaultAt mark cs f) (Both ps (bs ++ cs))
  more_codes ps bs cs f = (to, back)
    where
      to : (FaultIn at_end ps f ⊎ FaultAt mark bs f) ⊎ FaultAt mark cs f → FaultIn at_end ps f ⊎ FaultAt mark (bs ++ cs) f
      to (inl (inl h)) = inl h
      to (inl (inr h)) = inr ((codes_both mark bs cs f).0 (inl h))
      to (inr h) = inr ((codes_both mark bs cs f).0 (inr h))

      of_codes : FaultAt mark bs f ⊎ FaultAt mark cs f → (FaultIn at_end ps f ⊎ FaultAt mark bs f) ⊎ FaultAt mark cs f
      of_codes (inl h) = inl (inr h)
      of_codes (inr h) = inr h

      back : FaultIn at_end ps f ⊎ FaultAt mark (bs ++ cs) f → (FaultIn at_end ps f ⊎ FaultAt mark bs f) ⊎ FaultAt mark cs f
      back (inl h) = inl (inl h)
      back (inr h) = of_codes ((codes_both mark bs cs f).1 h)

  more_codes_broken : (ps : List Placed) (bs cs : List Breach) → ((IsOneBroken ps bs ⊎ HasBreach cs) ↔ IsOneBroken ps (bs ++ cs))
  more_codes_broken ps bs cs = (to, back)
    where
      to : (IsBroken at_end ps ⊎ HasBreach bs) ⊎ HasBreach cs → IsBroken at_end ps ⊎ HasBreach (bs ++ cs)
      to (inl (inl h)) = inl h
      to (inl (inr h)) = inr ((breach_both bs cs).0 (inl h))
      to (inr h) = inr ((breach_both bs cs).0 (inr h))

      of_codes : HasBreach bs ⊎ HasBreach cs → (IsBroken at_end ps ⊎ HasBreach bs) ⊎ HasBreach cs
      of_codes (inl h) = inl (inr h)
      of_codes (inr h) = inr h

      back : IsBroken at_end ps ⊎ HasBreach (bs ++ cs) → (IsBroken at_end ps ⊎ HasBreach bs) ⊎ HasBreach cs
      back (inl h) = inl (inl h)
      back (inr h) = of_codes ((breach_both bs cs).1 h)

pub nothing_is_kept_of_both : laws.NothingIsKeptOfBoth
nothing_is_kept_of_both at_end kept mark = keeps_none kept (Both at_end mark [] []) (IsOneBroken at_end mark [] []) none never
  where
    none : (f : Fault) → ⊥ ⊎ FaultAt mark [] f → ⊥
    none f (inl h) = h
    none f (inr h) = no_fault mark f h

    never : IsBroken at_end [] ⊎ HasBreach [] → ⊥
    never (inl h) = none_broken at_end h
    never (inr h) = no_breach h

pub nodes_are_kept_further : laws.NodesAreKeptFurther
nodes_are_kept_further at_end old middle new mark ps qs bs first second =
    keeps_same old new (λ f. Both at_end mark ps bs f ⊎ FaultIn at_end qs f) (Both at_end mark (ps ++ qs) bs) (IsOneBroken at_end mark ps bs ⊎ IsBroken at_end qs)
    (IsOneBroken at_end mark (ps ++ qs) bs) (more_nodes at_end mark ps qs bs) (more_nodes_broken at_end mark ps qs bs)
    (keeps_then old middle new (Both at_end mark ps bs) (FaultIn at_end qs) (IsOneBroken at_end mark ps bs) (IsBroken at_end qs) first second)

pub codes_are_kept_further : laws.CodesAreKeptFurther
codes_are_kept_further at_end old middle new mark ps bs cs first second =
    keeps_same old new (λ f. Both at_end mark ps bs f ⊎ FaultAt mark cs f) (Both at_end mark ps (bs ++ cs)) (IsOneBroken at_end mark ps bs ⊎ HasBreach cs)
    (IsOneBroken at_end mark ps (bs ++ cs)) (more_codes at_end mark ps bs cs) (more_codes_broken at_end mark ps bs cs)
    (keeps_then old middle new (Both at_end mark ps bs) (FaultAt mark cs) (IsOneBroken at_end mark ps bs) (HasBreach cs) first second)

pub codes_are_kept_before_parts : laws.CodesAreKeptBeforeParts
codes_are_kept_before_parts at_end old middle new mark bs ps first second =
    nodes_are_kept_further at_end old middle new mark [] ps bs
    (codes_are_kept_further at_end old old middle mark [] [] bs (nothing_is_kept_of_both at_end old mark) first) second

-- ---- a node whose parts are walked

module _ (at_end env : Env) (node : Node) where
  abbrev pub Own : List Breach → Fault → Type 0
  Own bs f = FaultAt (mark_of node) bs f

  abbrev pub HoldsHere : Breach → Type 0
  HoldsHere b = Holds (parts at_end) (breaches at_end) (hiding at_end) mark_of env node b

  abbrev pub FaultHere : Fault → Type 0
  FaultHere f = IsFault (parts at_end) (breaches at_end) (hiding at_end) mark_of env node f

  further : (part : Placed) (f : Fault) → IsIn part (parts at_end env node) → Fault_in at_end part f → FaultHere f
  further part f is (fault s h) = fault (inside part is s) h

  of_parts : (ps : List Placed) (f : Fault) → ((p : Placed) → IsIn p ps → IsIn p (parts at_end env node)) → FaultIn at_end ps f → FaultHere f
  of_parts [] f all h = absurd h
  of_parts (p ∷ ps) f all (inl h) = further p f (all p (inl refl)) h
  of_parts (p ∷ ps) f all (inr h) = of_parts ps f (λ q i. all q (inr i)) h

  -- the codes that hold at the node, where they are these
  pub node_faults : (bs : List Breach) → ((b : Breach) → (IsIn b bs ↔ HoldsHere b)) → Same (λ f. FaultIn at_end (parts at_end env node) f ⊎ Own bs f) (FaultIn at_end (at env node ∷ []))
  node_faults bs same f = (to, back)
    where
      to : FaultIn at_end (parts at_end env node) f ⊎ Own bs f → FaultHere f ⊎ ⊥
      to (inl h) = inl (of_parts (parts at_end env node) f (λ p i. i) h)
      to (inr own) = inl (subst FaultHere (sym own.is) (fault here ((same own.breach).0 own.among)))

      of_fault : {g : Fault} → FaultHere g → FaultIn at_end (parts at_end env node) g ⊎ Own bs g
      of_fault (fault {broken = b} here h) = inr (record { breach = b; among = (same b).1 h; is = refl })
      of_fault (fault (inside part is s) h) = inl (among_nodes at_end (parts at_end env node) part _ is (fault s h))

      back : FaultHere f ⊎ ⊥ → FaultIn at_end (parts at_end env node) f ⊎ Own bs f
      back (inl h) = of_fault h
      back (inr never) = absurd never

  -- a code holds in the node: in one of its parts, or at itself
  pub node_broken : (IsBroken at_end (parts at_end env node) ⊎ HasBreach (breaches at_end env node)) ↔ IsBroken at_end (at env node ∷ [])
  node_broken = (to, back)
    where
      deeper : {b : Breach} → Breaks (parts at_end) (breaches at_end) (hiding at_end) mark_of (parts at_end env node) b → IsBroken at_end (at env node ∷ [])
      deeper {b} (breaks part is s h) = record { breach = b; breaks = breaks (at env node) (inl refl) (inside part is s) h }

      to : IsBroken at_end (parts at_end env node) ⊎ HasBreach (breaches at_end env node) → IsBroken at_end (at env node ∷ [])
      to (inl found) = deeper found.breaks
      to (inr own) = record { breach = own.breach; breaks = breaks (at env node) (inl refl) here own.among }

      by_stands : {env' : Env} {node' : Node} (b : Breach) → Stands (parts at_end) (breaches at_end) (hiding at_end) mark_of env node env' node' → IsIn b (breaches at_end env' node') →
          IsBroken at_end (parts at_end env node) ⊎ HasBreach (breaches at_end env node)
      by_stands b here h = inr (record { breach = b; among = h })
      by_stands b (inside part is s) h = inl (record { breach = b; breaks = breaks part is s h })

      by_breaks : {b : Breach} → Breaks (parts at_end) (breaches at_end) (hiding at_end) mark_of (at env node ∷ []) b →
          IsBroken at_end (parts at_end env node) ⊎ HasBreach (breaches at_end env node)
      by_breaks {b} (breaks {env' = env'} {node' = node'} part (inl e) s h) =
          by_stands b (subst (λ p. Stands (parts at_end) (breaches at_end) (hiding at_end) mark_of p.env p.node env' node') e s) h
      by_breaks (breaks part (inr never) s h) = absurd never

      back : IsBroken at_end (at env node ∷ []) → IsBroken at_end (parts at_end env node) ⊎ HasBreach (breaches at_end env node)
      back found = by_breaks found.breaks

abbrev pub NeverHidden : Env → Env → Node → Type 0
NeverHidden at_end env node = (x : Breach) → Breaks (parts at_end) (breaches at_end) (hiding at_end) mark_of (hiding at_end env node) x → ⊥

pub none_hidden : (at_end env : Env) (node : Node) → hiding at_end env node ≡ [] → NeverHidden at_end env node
none_hidden at_end env node none x hidden =
    none_broken at_end (record { breach = x; breaks = subst (λ ps. Breaks (parts at_end) (breaches at_end) (hiding at_end) mark_of ps x) none hidden })

-- all of a node, where nothing is hidden
whole_node : (at_end env : Env) (node : Node) (old new : Kept) (bs : List Breach) → NeverHidden at_end env node → ((b : Breach) → (IsIn b bs ↔ IsIn b (breaches at_end env node))) →
    KeepsBoth at_end old (parts at_end env node) (mark_of node) bs new → KeepsNodes at_end old (at env node ∷ []) new
whole_node at_end env node old new bs never same kept =
    keeps_same old new (λ f. FaultIn at_end (parts at_end env node) f ⊎ Own at_end env node bs f) (FaultIn at_end (at env node ∷ []))
    (IsBroken at_end (parts at_end env node) ⊎ HasBreach bs) (IsBroken at_end (at env node ∷ [])) (node_faults at_end env node bs held) broken kept
  where
    held : (b : Breach) → (IsIn b bs ↔ HoldsHere at_end env node b)
    held b = ((λ i. record { breaks = (same b).0 i; shown = never }), (λ h. (same b).1 h.breaks))

    to : IsBroken at_end (parts at_end env node) ⊎ HasBreach bs → IsBroken at_end (at env node ∷ [])
    to (inl h) = (node_broken at_end env node).0 (inl h)
    to (inr h) = (node_broken at_end env node).0 (inr ((breach_same bs (breaches at_end env node) same).0 h))

    of_either : IsBroken at_end (parts at_end env node) ⊎ HasBreach (breaches at_end env node) → IsBroken at_end (parts at_end env node) ⊎ HasBreach bs
    of_either (inl h) = inl h
    of_either (inr h) = inr ((breach_same bs (breaches at_end env node) same).1 h)

    broken : (IsBroken at_end (parts at_end env node) ⊎ HasBreach bs) ↔ IsBroken at_end (at env node ∷ [])
    broken = (to, (λ h. of_either ((node_broken at_end env node).1 h)))

-- the nodes in a node, then its codes
both_of : (at_end env : Env) (node : Node) (old middle new : Kept) (bs : List Breach) → KeepsNodes at_end old (parts at_end env node) middle → KeepsCodes middle (mark_of node) bs new →
    KeepsBoth at_end old (parts at_end env node) (mark_of node) bs new
both_of at_end env node old middle new bs first second =
    keeps_then old middle new (FaultIn at_end (parts at_end env node)) (Own at_end env node bs) (IsBroken at_end (parts at_end env node)) (HasBreach bs) first second

itself : {A : Type 0} → (A ↔ A)
itself = ((λ x. x), (λ x. x))

pub both_are_all_of_a_node : laws.BothAreAllOfANode
both_are_all_of_a_node at_end env node old new bs none same kept = whole_node at_end env node old new bs (none_hidden at_end env node none) same kept

pub codes_are_kept_behind_parts : laws.CodesAreKeptBehindParts
codes_are_kept_behind_parts at_end env node old middle new none first second =
    whole_node at_end env node old new (breaches at_end env node) (none_hidden at_end env node none) (λ b. itself)
    (both_of at_end env node old middle new (breaches at_end env node) first second)

-- ---- codes that are hidden

left_over : (b : Bool) (p part : Placed) (ps : List Placed) → (IsIn part (those_without_type ps) → IsIn part ps) →
    IsIn part (if b then those_without_type ps else p ∷ those_without_type ps) → IsIn part (p ∷ ps)
left_over true p part ps inner i = inr (inner i)
left_over false p part ps inner (inl e) = inl e
left_over false p part ps inner (inr i) = inr (inner i)

are_left_over : (ps : List Placed) (part : Placed) → IsIn part (those_without_type ps) → IsIn part ps
are_left_over [] part is = is
are_left_over (p ∷ ps) part is = left_over (has_type p.env p.node) p part ps (are_left_over ps part) is

pub hiding_is_part : (at_end env : Env) (node : Node) (part : Placed) → IsIn part (hiding at_end env node) → IsIn part (parts at_end env node)
hiding_is_part at_end env node part = by_kind (is_declaration node)
  where
    by_kind : (b : Bool) → IsIn part (if b then those_without_type (parts at_end env node) else []) → IsIn part (parts at_end env node)
    by_kind true i = are_left_over (parts at_end env node) part i
    by_kind false i = absurd i

-- all of a node whose codes are hidden
hidden_node : (at_end env : Env) (node : Node) (old new : Kept) → IsBroken at_end (hiding at_end env node) →
    KeepsBoth at_end old (parts at_end env node) (mark_of node) [] new → KeepsNodes at_end old (at env node ∷ []) new
hidden_node at_end env node old new hidden kept =
    keeps_same old new (λ f. FaultIn at_end (parts at_end env node) f ⊎ Own at_end env node [] f) (FaultIn at_end (at env node ∷ []))
    (IsBroken at_end (parts at_end env node) ⊎ HasBreach []) (IsBroken at_end (at env node ∷ [])) (node_faults at_end env node [] held) broken kept
  where
    held : (b : Breach) → (⊥ ↔ HoldsHere at_end env node b)
    held b = ((λ i. absurd i), (λ h. h.shown hidden.breach hidden.breaks))

    to : IsBroken at_end (parts at_end env node) ⊎ HasBreach [] → IsBroken at_end (at env node ∷ [])
    to (inl h) = (node_broken at_end env node).0 (inl h)
    to (inr h) = absurd (no_breach h)

    of_either : IsBroken at_end (parts at_end env node) ⊎ HasBreach (breaches at_end env node) → IsBroken at_end (parts at_end env node) ⊎ HasBreach []
    of_either (inl h) = inl h
    of_either (inr h) = inl (broken_in at_end (hiding at_end env node) (parts at_end env node) (hiding_is_part at_end env node) hidden)

    broken : (IsBroken at_end (parts at_end env node) ⊎ HasBreach []) ↔ IsBroken at_end (at env node ∷ [])
    broken = (to, (λ h. of_either ((node_broken at_end env node).1 h)))

pub hidden_codes_are_left_out : laws.HiddenCodesAreLeftOut
hidden_codes_are_left_out at_end env node old middle new true is first second =
    hidden_node at_end env node old new (is.0 refl) (both_of at_end env node old middle new [] first second)
hidden_codes_are_left_out at_end env node old middle new false is first second =
    whole_node at_end env node old new (breaches at_end env node) (λ x hidden. false≢true (is.1 (record { breach = x; breaks = hidden }))) (λ b. itself)
    (both_of at_end env node old middle new (breaches at_end env node) first second)

-- ---- watching

either_true : (a b : Bool) (X : Type 0) → ((b ≡ true) ↔ X) → ((a || b) ≡ true) ↔ ((a ≡ true) ⊎ X)
either_true true b X is = ((λ h. inl refl), (λ h. refl))
either_true false b X is = ((λ h. inr (is.0 h)), back)
  where
    back : (false ≡ true) ⊎ X → b ≡ true
    back (inl e) = absurd (false≢true e)
    back (inr x) = is.1 x

pub a_watch_tells_faults : laws.AWatchTellsFaults
a_watch_tells_faults at_end old new ps kept = (seen, record { least = kept.least; broken = either_true old.is_broken new.is_broken (IsBroken at_end ps) seen })
  where
    of_either : (false ≡ true) ⊎ IsBroken at_end ps → IsBroken at_end ps
    of_either (inl e) = absurd (false≢true e)
    of_either (inr x) = x

    seen : (new.is_broken ≡ true) ↔ IsBroken at_end ps
    seen = ((λ h. of_either (kept.broken.0 h)), (λ x. kept.broken.1 (inr x)))

-- ---- a whole source

module _ (externs : List Name) (unit : Unit) where
  abbrev all_of : Env
  all_of = units.at_end externs unit

  of_externals : (ps : List Placed) (f : Fault) → ((p : Placed) → IsIn p ps → IsIn p (externals externs unit)) → FaultIn all_of ps f → IsFaultOf externs unit f
  of_externals [] f all h = absurd h
  of_externals (p ∷ ps) f all (inl (fault s holds)) = fault_of (node_of p (all p (inl refl)) s) holds
  of_externals (p ∷ ps) f all (inr h) = of_externals ps f (λ q i. all q (inr i)) h

  to_externals : (f : Fault) → IsFaultOf externs unit f → FaultIn all_of (externals externs unit) f
  to_externals f (fault_of (node_of p is s) holds) = among_nodes all_of (externals externs unit) p _ is (fault s holds)

pub the_first_fault_is_kept : laws.TheFirstFaultIsKept
the_first_fault_is_kept externs unit new kept =
    least_same (FaultIn (units.at_end externs unit) (externals externs unit)) (λ f. IsFaultOf externs unit f) new.least
    (λ f. (of_externals externs unit (externals externs unit) f (λ p i. i), to_externals externs unit f)) kept.least
