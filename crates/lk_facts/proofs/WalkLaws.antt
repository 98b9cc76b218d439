-- What walks say of matched paths: the laws up and down, and over.
use Rattle.std.proofs.Common.{◌≡◌, ℕ, Bool, true, false, List, [], ◌∷◌, ◌++◌, ◌⊎◌, inl, inr, refl, sym, ap, subst}
use Rattle.lk_facts.specs.declared.edge.Mark.{Mark}
use Rattle.lk_facts.specs.declared.edge.Mark.TheVariants.{Enter, Leave}
use Rattle.lk_facts.specs.PathRules.{Summary, IsLevelClosed, IsFlowClosed}
use Rattle.lk_facts.specs.PathRules.Summary.{plain as plain_edge, call}
use Rattle.lk_facts.specs.Paths.{Level, InAll, InInner, InCross}
use Rattle.lk_facts.specs.Walks.{Walk}
use Rattle.lk_facts.specs.Walks.Walk.{start, along, entering, leaving, elsewhere}
use Rattle.lk_facts.proofs.PathClosing.{level_itself, level_summary, level_join, level_closed, level_carries, level_least, flow_closed, all_least, inner_least, cross_least}

module _ (edge : ℕ → ℕ → Mark → Type 0) (global : ℕ → Bool) where
  -- b may be the first label x, with no site entered since, or isn't global
  abbrev Inside : ℕ → ℕ → List ℕ → Type 0
  Inside x b s = (global b ≡ false) ⊎ ((x ≡ b) × (s ≡ []))

  -- levels and Enters lead from x to b, through these sites, the last one first
  data Falling (x : ℕ) : ℕ → List ℕ → Type 0 where
    level : {b : ℕ} → Level edge global x b → Falling x b []
    enter : {m l b i : ℕ} {s : List ℕ} → Falling x m s → Inside x m s → edge m l (Enter i) → global l ≡ false → Level edge global l b → Falling x b (i ∷ s)

  module _ (origin : ℕ → Bool) (o : ℕ) (c : List ℕ) where
    -- where a walk stands: it has risen to x, and then fallen to b through the sites that its context has beyond that of x
    record Standing (b : ℕ) (d : List ℕ) : Type 0 where
      x : ℕ
      beyond : List ℕ
      rest : List ℕ
      context : d ≡ beyond ++ rest
      risen : InInner edge global origin x o
      walks : Walk edge global o c x rest
      falls : Falling x b beyond
      inside : Inside x b beyond

  -- a walk goes on along a level, and is back in its context
  walk_level : (o : ℕ) (c : List ℕ) {a b : ℕ} → Level edge global a b → (d : List ℕ) → Walk edge global o c a d → Walk edge global o c b d
  walk_level o c {a} {b} h =
      level_least Carries (record { itself = λ x d w. w; last = λ x y s. by s; more = λ x y z s at k d w. k d (by s d w) }) a b h
    where
      Carries : ℕ → ℕ → Type 0
      Carries x y = (d : List ℕ) → Walk edge global o c x d → Walk edge global o c y d

      by : {x y : ℕ} → Summary edge global Carries x y → Carries x y
      by (plain_edge e) d w = along w e
      by (call i x y enters at inside at' leaves) d w = leaving (inside (i ∷ d) (entering w enters)) leaves

  walk_down : (o : ℕ) (c : List ℕ) {x b : ℕ} {s : List ℕ} → Falling x b s → (t : List ℕ) → Walk edge global o c x t → Walk edge global o c b (s ++ t)
  walk_down o c (level h) t w = walk_level o c h t w
  walk_down o c (enter {s = s} f at e g h) t w = walk_level o c h _ (entering (walk_down o c f t w) e)

  extend : {x m e : ℕ} {s : List ℕ} → Falling x m s → Inside x m s → Level edge global m e → Falling x e s
  extend (level g) (inl at) h = level (level_join g (inr at) h)
  extend {x} {m} {e} (level g) (inr same) h = level (subst (λ y. Level edge global y e) (sym same.0) h)
  extend (enter f at' enters inside g) (inl at) h = enter f at' enters inside (level_join g (inr at) h)
  extend (enter f at' enters inside g) (inr same) h = absurd (cc (same.1))

  module _ (origin : ℕ → Bool) (o : ℕ) (c : List ℕ) where
    flow : IsFlowClosed edge global origin (Level edge global) (InAll edge global origin) (InInner edge global origin) (InCross edge global)
    flow = flow_closed {origin = origin}

    inner_level : {a b : ℕ} → Level edge global a b → InInner edge global origin a o → InInner edge global origin b o
    inner_level {a} {b} h =
        level_carries (Level edge global) level_closed (λ x. InInner edge global origin x o) (λ x y s. flow.inner_summary x y o s) a b h

    all_level : {a b : ℕ} → Level edge global a b → InAll edge global origin a o → InAll edge global origin b o
    all_level {a} {b} h =
        level_carries (Level edge global) level_closed (λ x. InAll edge global origin x o) (λ x y s. flow.all_summary x y o s) a b h

    all_down : {x b : ℕ} {s : List ℕ} → Falling x b s → InInner edge global origin x o → InAll edge global origin b o
    all_down {x} (level h) inner = all_level h (flow.inners x o inner)
    all_down (enter {m = m} {l = l} {i = i} f at e g h) inner = all_level h (flow.enters m l i o e (all_down f inner))

    fresh : (b : ℕ) (d : List ℕ) → InInner edge global origin b o → Walk edge global o c b d → Standing origin o c b d
    fresh b d risen walk =
        record { x = b; beyond = []; rest = d; context = refl; risen = risen; walks = walk; falls = level (level_itself b); inside = inr (refl, refl) }

    -- at a global label the walk begins anew
    arrive : (x b : ℕ) (s t d : List ℕ) → d ≡ s ++ t → InInner edge global origin x o → Walk edge global o c x t → Falling x b s → Walk edge global o c b d → Standing origin o c b d
    arrive x b s t d context risen walks falls walk = by (global b) refl
      where
        by : (q : Bool) → global b ≡ q → Standing origin o c b d
        by true at = fresh b d (flow.globals b o at (all_down falls risen)) walk
        by false at = record { x = x; beyond = s; rest = t; context = context; risen = risen; walks = walks; falls = falls; inside = inl at }

    enters : {b : ℕ} {d : List ℕ} (e i : ℕ) → Standing origin o c b d → edge b e (Enter i) → Walk edge global o c e (i ∷ d) → Standing origin o c e (i ∷ d)
    enters {b} {d} e i stands h walk = by (global e) refl
      where
        by : (q : Bool) → global e ≡ q → Standing origin o c e (i ∷ d)
        by true at = fresh e (i ∷ d) (flow.globals e o at (flow.enters b e i o h (all_down stands.falls stands.risen))) walk
        by false at = record {
          x = stands.x;
          beyond = i ∷ stands.beyond;
          rest = stands.rest;
          context = ap (λ s. i ∷ s) stands.context;
          risen = stands.risen;
          walks = stands.walks;
          falls = enter stands.falls stands.inside h at (level_itself e);
          inside = inl at;
        }

    leaves : {x b : ℕ} {s : List ℕ} (e i : ℕ) (t d : List ℕ) → Falling x b s → Inside x b s → i ∷ d ≡ s ++ t → InInner edge global origin x o → Walk edge global o c x t → edge b e (Leave i) → Walk edge global o c e d → Standing origin o c e d
    leaves {x} {b} e i t d (level h) at context risen walks leave walk = fresh e d (flow.leaves b e i o leave (inner_level h risen)) walk
    leaves {x} {b} e i t d (enter {m = m} {l = l} {i = j} {s = s} f at' enters inside h) (inl at) context risen walks leave walk =
        let same : i ≡ j = cc in
        let left : d ≡ s ++ t = cc in
        let over = level_summary (call j l b enters inside h at (subst (λ k. edge b e (Leave k)) same leave)) in
        arrive x e s t d left risen walks (extend f at' over) walk
    leaves e i t d (enter f at' enters inside h) (inr same) context risen walks leave walk = absurd (cc (same.1))

    stand : origin o ≡ true → {b : ℕ} {d : List ℕ} → Walk edge global o c b d → Standing origin o c b d
    stand h start = fresh o c (flow.starts o h) start
    stand h (along {e = e} {d = d} walk step) =
        let s = stand h walk in
        arrive s.x e s.beyond s.rest d s.context s.risen s.walks (extend s.falls s.inside (level_summary (plain_edge step))) (along walk step)
    stand h (entering {e = e} {i = i} walk step) = enters e i (stand h walk) step (entering walk step)
    stand h (leaving {e = e} {i = i} {d = d} walk step) =
        let s = stand h walk in
        leaves e i s.rest d s.falls s.inside s.context s.risen s.walks step (leaving walk step)
    stand h (elsewhere {b = b} {d' = d'} walk at) =
        let s = stand h walk in
        fresh b d' (flow.globals b o at (all_down s.falls s.risen)) (elsewhere walk at)

    -- Over: what the label b inside is outside, where the walk has entered the site i last and was in the context d before
    pub data IsOver (i b : ℕ) (d : List ℕ) : Type 0 where
      itself : InInner edge global origin b o → IsOver i b d
      outside : (m : ℕ) → InCross edge global i b m → InAll edge global origin m o → Walk edge global o c m d → IsOver i b d

    pub up_and_down : origin o ≡ true → (b : ℕ) (d : List ℕ) → Walk edge global o c b d → InAll edge global origin b o
    up_and_down h b d walk = let s = stand h walk in all_down s.falls s.risen

    pub over : origin o ≡ true → (i b : ℕ) (d : List ℕ) → Walk edge global o c b (i ∷ d) → IsOver i b d
    over h i b d walk = let s = stand h walk in by s.falls s.context s.risen s.walks
      where
        by : {x : ℕ} {s : List ℕ} {t : List ℕ} → Falling x b s → i ∷ d ≡ s ++ t → InInner edge global origin x o → Walk edge global o c x t → IsOver i b d
        by (level k) context risen walks = itself (inner_level k risen)
        by {t = t} (enter {m = m} {l = l} {i = j} {s = s} f at enters inside k) context risen walks =
            let same : j ≡ i = cc in
            let left : s ++ t ≡ d = cc in
            outside m (l, subst (λ n. edge m l (Enter n)) same enters, k) (all_down f risen) (subst (Walk edge global o c m) left (walk_down o c f t walks))

  -- The laws for all relations that are closed, also where they aren't the least ones.
  module _ (origin : ℕ → Bool) (level all inner : ℕ → ℕ → Type 0) (cross : ℕ → ℕ → ℕ → Type 0) (levels : IsLevelClosed edge global level) (closed : IsFlowClosed edge global origin level all inner cross) (o : ℕ) (c : List ℕ) where
    pub up_and_down_closed : origin o ≡ true → (b : ℕ) (d : List ℕ) → Walk edge global o c b d → all b o
    up_and_down_closed h b d walk = all_least level all inner cross levels closed b o (up_and_down origin o c h b d walk)

    pub over_closed : origin o ≡ true → (i b : ℕ) (d : List ℕ) → Walk edge global o c b (i ∷ d) → inner b o ⊎ ((m : ℕ) × cross i b m × all m o × Walk edge global o c m d)
    over_closed h i b d walk = by (over origin o c h i b d walk)
      where
        by : IsOver origin o c i b d → inner b o ⊎ ((m : ℕ) × cross i b m × all m o × Walk edge global o c m d)
        by (itself k) = inl (inner_least level all inner cross levels closed b o k)
        by (outside m k a w) = inr (m, cross_least level all inner cross levels closed i b m k, all_least level all inner cross levels closed m o a, w)
