-- What flows along arrows, and that All and Inner are just that.
use Rattle.std.proofs.Common.{ℕ, ◌<◌, ◌≡◌, ◌↔◌, ◌⊎◌, ◌||◌, Bool, true, false, List, length, All, Contains, refl, sym, subst, inl, inr}
use Rattle.std.proofs.lemmas.Bool.{both_ways, or_right}
use Rattle.std.proofs.lemmas.List.Elements.{All-contains, All-contains_itself, All-weaker}
use Rattle.lk_sets.specs.Closing.{Grows}
use Rattle.lk_sets.specs.Rows.{Rows, has, IsSquare}
use Rattle.lk_sets.specs.Spread.{IsWithin, PassesOn, Spread}
use Rattle.lk_sets.specs.Spread.Spread.{stands, passed}
use Rattle.lk_sets.specs.declared.spread.Arrow.{Arrow}
use Rattle.lk_sets.proofs.Closing.{grows_twice}
use Rattle.lk_facts.specs.declared.edge.Edge.{Edge}
use Rattle.lk_facts.specs.declared.edge.Mark.{Mark}
use Rattle.lk_facts.specs.declared.edge.Mark.TheVariants.{Plain, Enter, Leave}
use Rattle.lk_facts.specs.Labels.{LabelTable, is_global_at, is_origin_at}
use Rattle.lk_facts.specs.PathRules.{Summary, IsFlowClosed}
use Rattle.lk_facts.specs.PathRules.Summary.{plain, call}
use Rattle.lk_facts.specs.Paths.{HasEdge, Level, InAll, InInner, InCross}
use Rattle.lk_facts.specs.PathTables.{IsEdgeWithin, AreEdgesWithin, AreLevels, IsFlowOf}
use Rattle.lk_facts.specs.Paths.InInner.{rises}
use Rattle.lk_facts.specs.Origins.{flow_of, origins_of}
use Rattle.lk_facts.specs.declared.crossing.Crossing.{Crossing}
use Rattle.lk_sets.specs.Ids.{has_id}
use Rattle.lk_origin.specs.Crossings.{crossed_of}
use Rattle.lk_facts.proofs.PathClosing.{level_closed, flow_closed, all_least, inner_least, pass_itself}
use Rattle.lk_facts.proofs.TableLemmas.{summary_more}
use Rattle.lk_match.specs.Passages.{mark_of}
use Rattle.lk_match.specs.declared.passage.Side.{Side}
use Rattle.lk_match.specs.declared.passage.Side.TheVariants.{Into, OutOf}
use Rattle.lk_match.specs.declared.summary.SummaryEdge.{SummaryEdge}
use Rattle.lk_origin.specs.Arrows.{passes, Flows}
use Rattle.lk_origin.specs.Flowing.{LeadsOn, AreWays, AreSound, AreClosed, Flowed}

-- what arrows keep, spread rows have
pub spread_sound : (P : ℕ → ℕ → Type 0) {arrows : List Arrow} {first : Rows} {b o : ℕ} → Spread arrows first b o → ((x y : ℕ) → has first x y ≡ true → P x y) → ((x : Arrow) → Contains arrows x → (y : ℕ) → P x.from y → P x.into y) → P b o
spread_sound P {b = b} {o = o} (stands h) base keeps = base b o h
spread_sound P {o = o} (passed arrow there rest) base keeps = keeps arrow there o (spread_sound P rest base keeps)

-- and they are passed on
pub spread_passes : (arrows : List Arrow) (first now : Rows) → ((a b : ℕ) → (has now a b ≡ true) ↔ Spread arrows first a b) → All (PassesOn now) arrows
spread_passes arrows first now spread =
    All-weaker (Contains arrows) (PassesOn now) (λ x there b h. (spread x.into b).1 (passed x there ((spread x.from b).0 h))) arrows (All-contains_itself arrows)

module _ (es : List Edge) (labels : LabelTable) (levels : Rows) (within : AreEdgesWithin labels es) (are : AreLevels es labels levels) (square : IsSquare levels) where
  abbrev Words : ℕ → ℕ → Type 0
  Words = Level (HasEdge es) (is_global_at labels)

  level_of : (x y : ℕ) → has levels x y ≡ true → Words x y
  level_of x y h = (are.levels x y (square.within x y h).0).0 h

  level_in : (x y : ℕ) → x < length labels.entries → Words x y → has levels x y ≡ true
  level_in x y at h = (are.levels x y (subst (λ n. x < n) (sym are.size) at)).1 h

  summary_in : (a b : ℕ) → Summary (HasEdge es) (is_global_at labels) Words a b → Summary (HasEdge es) (is_global_at labels) (λ x y. has levels x y ≡ true) a b
  summary_in a b (plain h) = plain h
  summary_in a b (call i x y enters at inside at' leaves) = call i x y enters at (level_in x y (All-contains (IsEdgeWithin (length labels.entries)) es _ within enters).1 inside) at' leaves

  passing : (side : Side) (a b : ℕ) (m : Mark) → HasEdge es a b m → passes side m ≡ true → (i : ℕ) × HasEdge es a b (mark_of side i)
  passing Into a b Plain there h = absurd (cc)
  passing OutOf a b Plain there h = absurd (cc)
  passing Into a b (Enter i) there h = (i, there)
  passing OutOf a b (Enter i) there h = absurd (cc)
  passing Into a b (Leave i) there h = absurd (cc)
  passing OutOf a b (Leave i) there h = (i, there)

  passes_mark : (side : Side) (i : ℕ) → passes side (mark_of side i) ≡ true
  passes_mark Into i = refl
  passes_mark OutOf i = refl

  -- the arrows of the code are those along which origins flow
  pub are_ways : (side : Side) (found : List SummaryEdge) (arrows : List Arrow) → ((s : SummaryEdge) → Contains found s ↔ Summary (HasEdge es) (is_global_at labels) (λ x y. has levels x y ≡ true) s.from s.to) → ((x : Arrow) → Contains arrows x ↔ Flows side found es x) → AreWays es labels side arrows
  are_ways side found arrows each flows x = (λ h. there ((flows x).0 h), λ h. (flows x).1 (back h))
    where
      there : Flows side found es x → LeadsOn es (is_global_at labels) side x
      there (inl given) = inl (subst (λ (y : Arrow). Summary (HasEdge es) (is_global_at labels) Words y.from y.into) given.2 (summary_more level_of ((each given.0).0 given.1)))
      there (inr given) =
          let e = given.0 in
          inr (subst (λ (y : Arrow). (i : ℕ) × HasEdge es y.from y.into (mark_of side i)) given.2.1 (passing side e.from e.to e.mark given.1 given.2.0))

      back : LeadsOn es (is_global_at labels) side x → Flows side found es x
      back (inl s) = inl (record { from = x.from; to = x.into }, (each (record { from = x.from; to = x.into })).1 (summary_in x.from x.into s), refl)
      back (inr edge) = inr (record { from = x.from; to = x.into; mark = mark_of side edge.0 }, edge.1, (passes_mark side edge.0, refl))

  pub lent_ways : (side : Side) (found lent : List SummaryEdge) (arrows : List Arrow) → ((s : SummaryEdge) → Contains found s ↔ Summary (HasEdge es) (is_global_at labels) (λ x y. has levels x y ≡ true) s.from s.to) → lent ≡ found → ((x : Arrow) → Contains arrows x ↔ Flows side lent es x) → AreWays es labels side arrows
  lent_ways side found lent arrows each same flows = are_ways side found arrows each (subst (λ ys. (x : Arrow) → Contains arrows x ↔ Flows side ys es x) same flows)

  -- all ways stay among the labels
  pub ways_within : (side : Side) (arrows : List Arrow) → AreWays es labels side arrows → All (IsWithin (length labels.entries)) arrows
  ways_within side arrows ways = All-weaker (Contains arrows) (IsWithin (length labels.entries)) (λ x h. of x ((ways x).0 h)) arrows (All-contains_itself arrows)
    where
      edge_within : (a b : ℕ) (m : Mark) → HasEdge es a b m → (a < length labels.entries) × (b < length labels.entries)
      edge_within a b m there = All-contains (IsEdgeWithin (length labels.entries)) es _ within there

      of : (x : Arrow) → LeadsOn es (is_global_at labels) side x → IsWithin (length labels.entries) x
      of x (inl (plain h)) = edge_within x.from x.into Plain h
      of x (inl (call i p q enters at inside at' leaves)) = ((edge_within x.from p (Enter i) enters).0, (edge_within q x.into (Leave i) leaves).1)
      of x (inr edge) = edge_within x.from x.into (mark_of side edge.0) edge.1

module _ (es : List Edge) (labels : LabelTable) (rising falling : List Arrow) where
  abbrev Inner : ℕ → ℕ → Type 0
  Inner = InInner (HasEdge es) (is_global_at labels) (is_origin_at labels)

  abbrev Every : ℕ → ℕ → Type 0
  Every = InAll (HasEdge es) (is_global_at labels) (is_origin_at labels)

  rules : IsFlowClosed (HasEdge es) (is_global_at labels) (is_origin_at labels) (Level (HasEdge es) (is_global_at labels)) Every Inner (InCross (HasEdge es) (is_global_at labels))
  rules = flow_closed {origin = is_origin_at labels}

  rise_keeps : AreWays es labels OutOf rising → (x : Arrow) → Contains rising x → (o : ℕ) → Inner x.from o → Inner x.into o
  rise_keeps ways x there o h = elim ((ways x).0 there) [ inl s ↦ rules.inner_summary x.from x.into o s h | inr edge ↦ rules.leaves x.from x.into edge.0 o edge.1 h ]

  fall_keeps : AreWays es labels Into falling → (x : Arrow) → Contains falling x → (o : ℕ) → Every x.from o → Every x.into o
  fall_keeps ways x there o h = elim ((ways x).0 there) [ inl s ↦ rules.all_summary x.from x.into o s h | inr edge ↦ rules.enters x.from x.into edge.0 o edge.1 h ]

  -- one round of the loop
  pub flowed : (inner risen inner' all taken all' : Rows) (p q changed : Bool) → Grows inner risen p → ((a b : ℕ) → (has risen a b ≡ true) ↔ Spread rising inner a b) → ((x y : ℕ) → (has taken x y ≡ true) ↔ ((has all x y ≡ true) ⊎ (has risen x y ≡ true))) → Grows taken all' q → ((a b : ℕ) → (has all' a b ≡ true) ↔ Spread falling taken a b) → ((x y : ℕ) → (has inner' x y ≡ true) ↔ ((has risen x y ≡ true) ⊎ ((is_global_at labels x ≡ true) × (has all' x y ≡ true)))) → Grows risen inner' changed → Flowed es labels rising falling inner all inner' all' changed
  flowed inner risen inner' all taken all' p q changed first rise take second fall globals third = record {
    any = p || changed;
    grows = grows_twice first third;
    new = λ h. or_right p changed h;
    sound = λ ways ways' sound.
        let risen_sound : (b o : ℕ) → has risen b o ≡ true → Inner b o = λ b o h. spread_sound Inner ((rise b o).0 h) sound.inners (rise_keeps ways) in
        let taken_sound : (b o : ℕ) → has taken b o ≡ true → Every b o = λ b o h. elim ((take b o).0 h) [ inl before ↦ sound.alls b o before | inr new ↦ rules.inners b o (risen_sound b o new) ] in
        let all_sound : (b o : ℕ) → has all' b o ≡ true → Every b o = λ b o h. spread_sound Every ((fall b o).0 h) taken_sound (fall_keeps ways') in
        record {
          inners = λ b o h. elim ((globals b o).0 h) [ inl before ↦ risen_sound b o before | inr new ↦ rules.globals b o new.0 (all_sound b o new.1) ];
          alls = all_sound;
        };
    done = λ none.
        let same = third.same none in
        record {
          rises = subst (λ r. All (PassesOn r) rising) (sym same) (spread_passes rising inner risen rise);
          falls = spread_passes falling taken all' fall;
          inners = λ b o h. second.kept b o ((take b o).1 (inr (subst (λ r. has r b o ≡ true) same h)));
          globals = λ g o at h. (globals g o).1 (inr (at, h));
        };
  }

  module _ (inner all : Rows) (ways : AreWays es labels OutOf rising) (ways' : AreWays es labels Into falling) (starts : (o : ℕ) → is_origin_at labels o ≡ true → has inner o o ≡ true) (closed : AreClosed (is_global_at labels) rising falling inner all) where
    flows : IsFlowClosed (HasEdge es) (is_global_at labels) (is_origin_at labels) (Level (HasEdge es) (is_global_at labels)) (λ b o. has all b o ≡ true) (λ b o. has inner b o ≡ true) (InCross (HasEdge es) (is_global_at labels))
    flows = record {
      starts = starts;
      inner_summary = λ b c o s h. All-contains (PassesOn inner) rising (record { from = b; into = c }) closed.rises ((ways (record { from = b; into = c })).1 (inl s)) o h;
      leaves = λ b c i o e h. All-contains (PassesOn inner) rising (record { from = b; into = c }) closed.rises ((ways (record { from = b; into = c })).1 (inr (i, e))) o h;
      globals = closed.globals;
      inners = closed.inners;
      all_summary = λ b c o s h. All-contains (PassesOn all) falling (record { from = b; into = c }) closed.falls ((ways' (record { from = b; into = c })).1 (inl s)) o h;
      enters = λ b c i o e h. All-contains (PassesOn all) falling (record { from = b; into = c }) closed.falls ((ways' (record { from = b; into = c })).1 (inr (i, e))) o h;
      crosses = λ i m l b h level. (l, h, level);
    }

    pub has_all : (b o : ℕ) → Every b o → has all b o ≡ true
    has_all = all_least _ _ _ _ level_closed flows

    pub has_inner : (b o : ℕ) → Inner b o → has inner b o ≡ true
    has_inner = inner_least _ _ _ _ level_closed flows

-- before the first round
pub sound_start : (es : List Edge) (labels : LabelTable) (inner all : Rows) → ((b o : ℕ) → has inner b o ≡ true → (is_origin_at labels b ≡ true) × (b ≡ o)) → ((b o : ℕ) → has all b o ≡ false) → AreSound es labels inner all
sound_start es labels inner all alone empty = record {
  inners = λ b o h. let start = alone b o h in subst (λ x. InInner (HasEdge es) (is_global_at labels) (is_origin_at labels) b x) start.1 (rises start.0 (pass_itself Leave b));
  alls = λ b o h. absurd (both_ways (has all b o) (empty b o) h);
}

-- the table of what was found
pub exact_flow : (es : List Edge) (labels : LabelTable) (levels : Rows) → AreEdgesWithin labels es → AreLevels es labels levels → (rising falling : List Arrow) (inner all : Rows) (crossings : List Crossing) → AreWays es labels OutOf rising → AreWays es labels Into falling → ((o : ℕ) → is_origin_at labels o ≡ true → has inner o o ≡ true) → AreSound es labels inner all → AreClosed (is_global_at labels) rising falling inner all → ((i b m : ℕ) → (has_id (crossed_of crossings i b) m ≡ true) ↔ ((l : ℕ) × HasEdge es m l (Enter i) × (has levels l b ≡ true))) → IsFlowOf es labels (flow_of (origins_of all inner crossings))
exact_flow es labels levels within are rising falling inner all crossings ways ways' starts sound closed cross = record {
  all = λ b o. (sound.alls b o, has_all es labels rising falling inner all ways ways' starts closed b o);
  inner = λ b o. (sound.inners b o, has_inner es labels rising falling inner all ways ways' starts closed b o);
  cross = λ i b m. (
    λ h. let found = (cross i b m).0 h in (found.0, found.1, (are.levels found.0 b (inside found.0 found.1)).0 found.2),
    λ k. (cross i b m).1 (k.0, k.1, (are.levels k.0 b (inside k.0 k.1)).1 k.2),
  );
}
  where
    inside : {i m : ℕ} (l : ℕ) → HasEdge es m l (Enter i) → l < levels.size
    inside l edge = subst (λ n. l < n) (sym are.size) (All-contains (IsEdgeWithin (length labels.entries)) es _ within edge).1

-- a round over lists that were lent
pub flowed_lent : (es : List Edge) (labels : LabelTable) (lent lent' rising falling : List Arrow) (inner all inner' all' : Rows) (changed : Bool) → lent ≡ rising → lent' ≡ falling → Flowed es labels lent lent' inner all inner' all' changed → Flowed es labels rising falling inner all inner' all' changed
flowed_lent es labels lent lent' rising falling inner all inner' all' changed same same' flowed =
    subst (λ xs. Flowed es labels xs falling inner all inner' all' changed) same (subst (λ ys. Flowed es labels lent ys inner all inner' all' changed) same' flowed)
