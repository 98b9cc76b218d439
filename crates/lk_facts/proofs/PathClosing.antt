-- The relations of the words of marks are closed under the rules of matched paths, and are within each relation that is.
use Rattle.std.proofs.Common.{◌≡◌, ℕ, Bool, true, false, List, [], ◌∷◌, ◌++◌, ◌⊎◌, inl, inr, refl, sym, ap, ◌∙◌, subst}
use Rattle.lk_facts.specs.declared.edge.Mark.{Mark}
use Rattle.lk_facts.specs.declared.edge.Mark.TheVariants.{Plain, Enter, Leave}
use Rattle.lk_facts.specs.PathRules.{Summary, IsLevelClosed, IsPassClosed, IsFlowClosed}
use Rattle.lk_facts.specs.PathRules.Summary.{plain as plain_edge, call}
use Rattle.lk_facts.specs.Paths.{Balanced, OnlyUnmatched, Segment, Level, Passes, Part, Reach, InAll, InInner, InCross}
use Rattle.lk_facts.specs.Paths.Balanced.{empty as balanced_empty, plain, matched}
use Rattle.lk_facts.specs.Paths.InInner.{rises, through}
use Rattle.lk_facts.specs.Paths.OnlyUnmatched.{none, another}
use Rattle.lk_facts.specs.Paths.Reach.{one, more}
use Rattle.lk_facts.specs.Paths.Segment.{empty, step}
use Rattle.lk_facts.proofs.Segments.{OnlyUnmatched-append, Balanced-append, append, same_end, split}

module _ {edge : ℕ → ℕ → Mark → Type 0} {global : ℕ → Bool} where
  pub level_itself : (a : ℕ) → Level edge global a a
  level_itself a = ([], empty, balanced_empty)

  pub level_summary : {a b : ℕ} → Summary edge global (Level edge global) a b → Level edge global a b
  level_summary (plain_edge h) = (Plain ∷ [], step h (inl refl) empty, plain [] balanced_empty)
  level_summary (call i x y enters at inside at' leaves) = (
    Enter i ∷ inside.0 ++ Leave i ∷ [],
    step enters (inr at) (append inside.1 (inr at') (step leaves (inl refl) empty)),
    matched i inside.0 [] inside.2 balanced_empty,
  )

  -- levels join at a label that isn't global
  pub level_join : {a b c : ℕ} → Level edge global a b → (a ≡ b) ⊎ (global b ≡ false) → Level edge global b c → Level edge global a c
  level_join {c = c} g (inl same) h = subst (λ x. Level edge global x c) (sym same) h
  level_join g (inr at) h = (g.0 ++ h.0, append g.1 (inr at) h.1, Balanced-append g.2 h.2)

  pub level_closed : IsLevelClosed edge global (Level edge global)
  level_closed = record {
    itself = level_itself;
    last = λ a b s. level_summary s;
    more = λ a b c s at h. level_join (level_summary s) (inr at) h;
  }

  module _ (level : ℕ → ℕ → Type 0) (closed : IsLevelClosed edge global level) where
    onward : {a b c : ℕ} {w : List Mark} → Summary edge global level a b → (w ≡ []) ⊎ (global b ≡ false) → Segment edge global b w c → level b c → level a c
    onward {a} {b} {c} s (inl last) rest h = subst (level a) (same_end rest last) (closed.last a b s)
    onward {a} {b} {c} s (inr at) rest h = closed.more a b c s at h

    inside_call : {x : ℕ} (i : ℕ) (v w : List Mark) → (v ++ Leave i ∷ w ≡ []) ⊎ (global x ≡ false) → global x ≡ false
    inside_call i v w (inr at) = at
    inside_call i [] w (inl last) = absurd (cc)
    inside_call i (m ∷ v) w (inl last) = absurd (cc)

    still_inside : {x y : ℕ} {v : List Mark} → Segment edge global x v y → global x ≡ false → (v ≡ []) ⊎ (global y ≡ false) → global y ≡ false
    still_inside rest at (inl nothing) = ap global (sym (same_end rest nothing)) ∙ at
    still_inside rest at (inr at') = at'

    balanced_least : {w : List Mark} → Balanced w → (a b : ℕ) → Segment edge global a w b → level a b
    balanced_least balanced_empty a b empty = closed.itself a
    balanced_least (plain w h) a b (step {b = c} g at rest) = onward (plain_edge g) at rest (balanced_least h c b rest)
    balanced_least (matched i v w h k) a b (step {b = x} enters at rest) =
        let parts = split v (Leave i) w rest in
        let at' = inside_call i v w at in
        onward (call i x parts.b enters at' (balanced_least h x parts.b parts.before) (still_inside parts.before at' parts.inside_before) parts.at)
        parts.inside_behind parts.behind (balanced_least k parts.c b parts.behind)

    pub level_least : (a b : ℕ) → Level edge global a b → level a b
    level_least a b h = balanced_least h.2 a b h.1

    summary_level : {a b : ℕ} (P : ℕ → ℕ → Type 0) → Summary edge global (λ x y. level x y × P x y) a b → Summary edge global level a b
    summary_level P (plain_edge h) = plain_edge h
    summary_level P (call i x y enters at inside at' leaves) = call i x y enters at inside.0 at' leaves

  -- what summary edges carry on, levels carry on
  pub level_carries : (level : ℕ → ℕ → Type 0) → IsLevelClosed edge global level → (P : ℕ → Type 0) → ((a b : ℕ) → Summary edge global level a b → P a → P b) → (a b : ℕ) → Level edge global a b → P a → P b
  level_carries level closed P carries a b h =
      let Both : ℕ → ℕ → Type 0 = λ x y. level x y × (P x → P y) in
      let both : IsLevelClosed edge global Both = record {
        itself = λ x. (closed.itself x, λ p. p);
        last = λ x y s. let s' = summary_level level closed (λ x y. P x → P y) s in (closed.last x y s', carries x y s');
        more = λ x y z s at k. let s' = summary_level level closed (λ x y. P x → P y) s in (closed.more x y z s' at k.0, λ p. k.1 (carries x y s' p));
      } in
      (level_least Both both a b h).1

  -- a segment with unmatched marks of one kind

  pub pass_itself : (kind : ℕ → Mark) (a : ℕ) → Passes edge global kind a a
  pass_itself kind a = ([], empty, none [] balanced_empty)

  pub pass_level : {kind : ℕ → Mark} {a b : ℕ} → Level edge global a b → Passes edge global kind a b
  pass_level h = (h.0, h.1, none h.0 h.2)

  pub pass_edge : (kind : ℕ → Mark) (i : ℕ) {a b : ℕ} → edge a b (kind i) → Passes edge global kind a b
  pass_edge kind i h = (kind i ∷ [], step h (inl refl) empty, another i [] [] (none [] balanced_empty) balanced_empty)

  pub pass_join : {kind : ℕ → Mark} {a b c : ℕ} → Passes edge global kind a b → (a ≡ b) ⊎ (global b ≡ false) → Passes edge global kind b c → Passes edge global kind a c
  pass_join {kind} {c = c} g (inl same) h = subst (λ x. Passes edge global kind x c) (sym same) h
  pass_join g (inr at) h = (g.0 ++ h.0, append g.1 (inr at) h.1, OnlyUnmatched-append h.2 g.2)

  pub pass_closed : (kind : ℕ → Mark) → IsPassClosed edge global kind (Level edge global) (Passes edge global kind)
  pass_closed kind = record {
    levels = λ a b h. pass_level h;
    more = λ a b c d i p at h at' l. pass_join p at (behind i h at' (pass_level l));
  }
    where
      behind : {b c d : ℕ} (i : ℕ) → edge b c (kind i) → (c ≡ d) ⊎ (global c ≡ false) → Passes edge global kind c d → Passes edge global kind b d
      behind {b} i h (inl same) p = subst (Passes edge global kind b) same (pass_edge kind i h)
      behind i h (inr at) p = pass_join (pass_edge kind i h) (inr at) p

  module _ (kind : ℕ → Mark) (pass : ℕ → ℕ → Type 0) (closed : IsPassClosed edge global kind (Level edge global) pass) where
    same_or : {a b : ℕ} {v : List Mark} → Segment edge global a v b → (v ≡ []) ⊎ (global b ≡ false) → (a ≡ b) ⊎ (global b ≡ false)
    same_or rest (inl nothing) = inl (same_end rest nothing)
    same_or rest (inr at) = inr at

    same_or' : {a b : ℕ} {v : List Mark} → Segment edge global a v b → (v ≡ []) ⊎ (global a ≡ false) → (a ≡ b) ⊎ (global a ≡ false)
    same_or' rest (inl nothing) = inl (same_end rest nothing)
    same_or' rest (inr at) = inr at

    unmatched_least : {w : List Mark} → OnlyUnmatched kind w → (a b : ℕ) → Segment edge global a w b → pass a b
    unmatched_least (none w h) a b rest = closed.levels a b (w, rest, h)
    unmatched_least (another i v w h k) a b rest =
        let parts = split v (kind i) w rest in
        closed.more a parts.b parts.c b i (unmatched_least h a parts.b parts.before) (same_or parts.before parts.inside_before) parts.at (same_or' parts.behind parts.inside_behind) (w, parts.behind, k)

    pub pass_least : (a b : ℕ) → Passes edge global kind a b → pass a b
    pass_least a b h = unmatched_least h.2 a b h.1

  pub reach_on : {b c o : ℕ} → Passes edge global Enter b c → Reach edge global o b → Reach edge global o c
  reach_on {b} {c} {o} p reach = by (global b) refl reach
    where
      by : (q : Bool) → global b ≡ q → Reach edge global o b → Reach edge global o c
      by true is r = more r is (b, pass_itself Leave b, p)
      by false is (one part) = one (part.0, part.1, pass_join part.2 (inr is) p)
      by false is (more r at part) = more r at (part.0, part.1, pass_join part.2 (inr is) p)

  -- All and Inner
  module _ {origin : ℕ → Bool} where
    pub reach_of : {b o : ℕ} → InInner edge global origin b o → Reach edge global o b
    reach_of {b} (rises h r) = one (b, r, pass_itself Enter b)
    reach_of {b} (through g h reach at r) = more reach at (b, r, pass_itself Enter b)

    origin_of : {b o : ℕ} → InInner edge global origin b o → origin o ≡ true
    origin_of (rises h r) = h
    origin_of (through g h reach at r) = h

    pub inner_on : {b c o : ℕ} → Passes edge global Leave b c → InInner edge global origin b o → InInner edge global origin c o
    inner_on {b} {c} {o} p inner = by (global b) refl inner
      where
        by : (q : Bool) → global b ≡ q → InInner edge global origin b o → InInner edge global origin c o
        by true is i = through b (origin_of i) (reach_of i) is p
        by false is (rises h r) = rises h (pass_join r (inr is) p)
        by false is (through g h reach at r) = through g h reach at (pass_join r (inr is) p)

    pub flow_closed : IsFlowClosed edge global origin (Level edge global) (InAll edge global origin) (InInner edge global origin) (InCross edge global)
    flow_closed = record {
      starts = λ o h. rises h (pass_itself Leave o);
      inner_summary = λ b c o s inner. inner_on (pass_level (level_summary s)) inner;
      leaves = λ b c i o h inner. inner_on (pass_edge Leave i h) inner;
      globals = λ g o at all. through g all.0 all.1 at (pass_itself Leave g);
      inners = λ b o inner. (origin_of inner, reach_of inner);
      all_summary = λ b c o s all. (all.0, reach_on (pass_level (level_summary s)) all.1);
      enters = λ b c i o h all. (all.0, reach_on (pass_edge Enter i h) all.1);
      crosses = λ i m l b h level. (l, h, level);
    }

    module _ (level all inner : ℕ → ℕ → Type 0) (cross : ℕ → ℕ → ℕ → Type 0) (levels : IsLevelClosed edge global level) (closed : IsFlowClosed edge global origin level all inner cross) where
      rise_least : (o a b : ℕ) → Passes edge global Leave a b → inner a o → inner b o
      rise_least o a b r =
          let carries = level_carries level levels (λ x. inner x o) (λ x y s. closed.inner_summary x y o s) in
          pass_least Leave (λ x y. inner x o → inner y o) (record {
            levels = carries;
            more = λ x y z w i p at h at' l k. carries z w l (closed.leaves y z i o h (p k));
          }) a b r

      fall_least : (o a b : ℕ) → Passes edge global Enter a b → all a o → all b o
      fall_least o a b r =
          let carries = level_carries level levels (λ x. all x o) (λ x y s. closed.all_summary x y o s) in
          pass_least Enter (λ x y. all x o → all y o) (record {
            levels = carries;
            more = λ x y z w i p at h at' l k. carries z w l (closed.enters y z i o h (p k));
          }) a b r

      part_least : (o a b : ℕ) → Part edge global a b → inner a o → all b o
      part_least o a b part k = fall_least o part.0 b part.2 (closed.inners part.0 o (rise_least o a part.0 part.1 k))

      reach_least : {o b : ℕ} → Reach edge global o b → origin o ≡ true → all b o
      reach_least {o} {b} (one part) h = part_least o o b part (closed.starts o h)
      reach_least {o} {b} (more {g = g} reach at part) h = part_least o g b part (closed.globals g o at (reach_least reach h))

      pub all_least : (b o : ℕ) → InAll edge global origin b o → all b o
      all_least b o h = reach_least h.1 h.0

      pub inner_least : (b o : ℕ) → InInner edge global origin b o → inner b o
      inner_least b o (rises h r) = rise_least o o b r (closed.starts o h)
      inner_least b o (through g h reach at r) = rise_least o g b r (closed.globals g o at (reach_least reach h))

      pub cross_least : (i b m : ℕ) → InCross edge global i b m → cross i b m
      cross_least i b m h = closed.crosses i m h.0 b h.1 (level_least level levels h.0 b h.2)
