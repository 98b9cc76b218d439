-- Closing edges under their rules.
use Rattle.std.proofs.Common.{◌≡◌, ◌↔◌, ℕ, ◌+◌, ◌<◌, ◌≤◌, ◌⊎◌, List, [], length, Some, Contains, inl, inr, refl, sym, ◌∙◌, subst, arith}
use Rattle.std.specs.Prelude.{slice_get}
use Rattle.std.proofs.lemmas.Bool.{cases_lt}
use Rattle.std.proofs.lemmas.List.Elements.{All-contains_itself, All-weaker}
use Rattle.std.proofs.lemmas.Option.{same_Some, slice_get_within, slice_get-get_or}
use Rattle.lk_facts.specs.EdgeRules.{AreEdges, IsEdge, IsEdgeOf}
use Rattle.lk_facts.specs.EdgeRules.IsEdge.{row, argv, args, passed, given_back, forth, back as edge_back, inside as edge_inside, results as edge_results, parameters as edge_parameters}
use Rattle.lk_facts.specs.LabelRules.{AreLabels, IsLabel}
use Rattle.lk_facts.specs.Labels.{LabelTable}
use Rattle.lk_facts.specs.PathTables.{AreEdgesWithin, IsEdgeWithin}
use Rattle.lk_facts.specs.Paths.{HasEdge, edge_of, opposite}
use Rattle.lk_facts.specs.declared.edge.Edge.{Edge}
use Rattle.lk_facts.specs.declared.edge.Mark.{Mark}
use Rattle.lk_facts.specs.declared.label_entry.LabelName.{LabelName}
use Rattle.lk_facts.specs.declared.program.Program.{Program}
use Rattle.lk_laws.proofs.EdgeEnds.{join_labels}
use Rattle.lk_flow.specs.Closing.{AreEnds, Base, IsClosing, Next}
use Rattle.lk_flow.specs.Closing.Next.{targets as next_targets, inside as next_inside, results as next_results, parameters as next_parameters}
use Rattle.lk_flow.specs.Counting.{AnyOf, MainAt, RowAt, ValueAt}
use Rattle.lk_flow.specs.Growing.{Adds, Joins}
use Rattle.lk_flow.proofs.Finders.{adds_kept, joins_two}
use Rattle.lk_label.proofs.WalkSteps.{contains_got, got_contains}

module _ (program : Program) where
  base_edge : (u v : LabelName) (m : Mark) → Base program u v m → IsEdge program u v m
  base_edge u v m (inl (p, (f, act, at, fn, is))) = row p f act at fn is
  base_edge u v m (inr (inl (r, inl both))) = argv r both.0 both.1
  base_edge u v m (inr (inl (r, inr (root, (q, both))))) = args r q root both.0 both.1
  base_edge u v m (inr (inr (g, (i, at, inl (k, sub))))) = passed g i k at sub
  base_edge u v m (inr (inr (g, (i, at, inr sub)))) = given_back g i at sub

  next_edge : {u v x y : LabelName} {m n : Mark} → IsEdge program u v m → Next program u v m x y n → IsEdge program x y n
  next_edge {x = x} {y = y} e (next_targets (inl (same, px, py))) = subst (IsEdge program x y) (sym same) (forth e px py)
  next_edge {x = x} {y = y} e (next_targets (inr (same, px, py))) = subst (IsEdge program x y) (sym same) (edge_back e py px)
  next_edge {x = x} {y = y} e (next_inside s (same, px, py)) = subst (IsEdge program x y) (sym same) (edge_inside s e px py)
  next_edge {x = x} {y = y} e (next_results (same, px, py)) = subst (IsEdge program x y) (sym same) (edge_results e px py)
  next_edge {x = x} {y = y} e (next_parameters k (same, px, py)) = subst (IsEdge program x y) (sym same) (edge_parameters k e py px)

  module _ (names : List LabelName) where
    pub closing_start : (es : List Edge) → ((e : Edge) → Contains es e ↔ Joins names (Base program) e) → IsClosing program names 0 es
    closing_start es are = record {
      within = omega arith;
      sound = λ e there. (let is = (are e).0 there in record { u = is.u; v = is.v; begins = is.begins; ends = is.ends; joined = base_edge is.u is.v e.mark is.joined });
      based = λ e is. (are e).1 is;
      done = λ k e f u v less at ends is. absurd (omega (arith, less));
    }

    one_end : (l : ℕ) (u w : LabelName) → slice_get names l ≡ Some u → slice_get names l ≡ Some w → u ≡ w
    one_end l u w at at' = same_Some u w (sym at ∙ at')

    -- the edge that is followed is one between its ends
    pub followed : (n : ℕ) (es : List Edge) (k : ℕ) (e : Edge) (u v : LabelName) → IsClosing program names n es → slice_get es k ≡ Some e → AreEnds names e u v → IsEdge program u v e.mark
    followed n es k e u v closing at ends =
        let is = closing.sound e (contains_got es k e at) in
        subst (λ w. IsEdge program w v e.mark) (one_end e.from is.u u is.begins ends.begins) (subst (λ w. IsEdge program is.u w e.mark) (one_end e.to is.v v is.ends ends.ends) is.joined)

    pub closing_more : (n : ℕ) (e : Edge) (u v : LabelName) (old new : List Edge) → slice_get old n ≡ Some e → AreEnds names e u v → IsClosing program names n old → Adds (Joins names (Next program u v e.mark)) old new → IsClosing program names (n + 1) new
    closing_more n e u v old new at ends before adds = record {
      within = (let on = slice_get_within new n e (adds.places n e at) in omega (arith, on));
      sound = λ f there. sound f (adds.only f there);
      based = λ f is. adds_kept (Joins names (Next program u v e.mark)) old new adds f (before.based f is);
      done = done;
    }
      where
        sound : (f : Edge) → Contains old f ⊎ Joins names (Next program u v e.mark) f → Joins names (IsEdge program) f
        sound f (inl was) = before.sound f was
        sound f (inr is) = record { u = is.u; v = is.v; begins = is.begins; ends = is.ends; joined = next_edge (followed n old n e u v before at ends) is.joined }

        done : (k : ℕ) (d f : Edge) (w z : LabelName) → k < n + 1 → slice_get new k ≡ Some d → AreEnds names d w z → Joins names (Next program w z d.mark) f → Contains new f
        done k d f w z less d_at d_ends is = elim (cases_lt k n) [
          | inl lower ↦
              let within = slice_get_within old n e at in
              let was = slice_get-get_or old k e (omega (arith, lower, within)) in
              let old_d = was ∙ (sym (adds.places k _ was) ∙ d_at) in
              adds_kept (Joins names (Next program u v e.mark)) old new adds f (before.done k d f w z lower old_d d_ends is)
          | inr more ↦
              let level : k ≡ n = omega (arith, less, more) in
              let same : d ≡ e = same_Some d e (sym (subst (λ j. slice_get new j ≡ Some d) level d_at) ∙ adds.places n e at) in
              let w_is : w ≡ u = one_end e.from w u (subst (λ (x : Edge). slice_get names x.from ≡ Some w) same d_ends.begins) ends.begins in
              let z_is : z ≡ v = one_end e.to z v (subst (λ (x : Edge). slice_get names x.to ≡ Some z) same d_ends.ends) ends.ends in
              adds.added f (subst (λ (x : Edge). Joins names (Next program u v x.mark) f) same (subst (λ a. Joins names (Next program a v d.mark) f) w_is (subst (λ a. Joins names (Next program w a d.mark) f) z_is is)))
        ]

-- what is put into no edges is all that there is
pub all_base : (program : Program) (names : List LabelName) (none a b c : List Edge) → none ≡ [] → Adds (Joins names (AnyOf (RowAt program))) none a → Adds (Joins names (AnyOf (MainAt program))) a b → Adds (Joins names (AnyOf (ValueAt program))) b c →
    (e : Edge) → Contains c e ↔ Joins names (Base program) e
all_base program names none a b c empty rows mains values e = (there, all.added e)
  where
    all : Adds (Joins names (Base program)) none c
    all = joins_two names (AnyOf (RowAt program)) (λ u v m. AnyOf (MainAt program) u v m ⊎ AnyOf (ValueAt program) u v m) none a c rows (joins_two names (AnyOf (MainAt program)) (AnyOf (ValueAt program)) a b c mains values)

    there : Contains c e → Joins names (Base program) e
    there among = elim (all.only e among) [
      | inl was ↦ (let within = (subst (λ es. Contains es e) empty was).1 in absurd (omega (arith, within)))
      | inr is ↦ is
    ]

module _ (program : Program) (labels : LabelTable) (are : AreLabels program labels) where
  -- where all have been followed these are all edges
  pub closing_all : (n : ℕ) (es : List Edge) → length es ≤ n → IsClosing program labels.names n es → (a b : ℕ) (m : Mark) → HasEdge es a b m ↔ IsEdgeOf program labels.names a b m
  closing_all n es all closing a b m = (there, λ is. found is.4 a b is.2 is.3)
    where
      there : HasEdge es a b m → IsEdgeOf program labels.names a b m
      there has = let is = closing.sound (edge_of a b m) has in (is.u, is.v, is.begins, is.ends, is.joined)

      at_number : (x : LabelName) → IsLabel program x → (l : ℕ) × (slice_get labels.names l ≡ Some x)
      at_number x label = let among = (are.each x).1 label in (among.0, got_contains labels.names x among)

      joins : {R : LabelName → LabelName → Mark → Type 0} (i j : ℕ) (x y : LabelName) (k : Mark) → slice_get labels.names i ≡ Some x → slice_get labels.names j ≡ Some y → R x y k → Joins labels.names R (edge_of i j k)
      joins i j x y k i_at j_at is = record { u = x; v = y; begins = i_at; ends = j_at; joined = is }

      -- what follows from an edge that is there is there
      next : (u v x y : LabelName) (k l : Mark) (c d i j : ℕ) → slice_get labels.names c ≡ Some u → slice_get labels.names d ≡ Some v → Contains es (edge_of c d k) → slice_get labels.names i ≡ Some x → slice_get labels.names j ≡ Some y → Next program u v k x y l → Contains es (edge_of i j l)
      next u v x y k l c d i j c_at d_at has i_at j_at is =
          closing.done has.0 (edge_of c d k) (edge_of i j l) u v (omega (arith, has.1, all)) (got_contains es (edge_of c d k) has) (record { begins = c_at; ends = d_at }) (joins i j x y l i_at j_at is)

      based : (u v : LabelName) (k : Mark) (i j : ℕ) → slice_get labels.names i ≡ Some u → slice_get labels.names j ≡ Some v → Base program u v k → Contains es (edge_of i j k)
      based u v k i j i_at j_at is = closing.based (edge_of i j k) (joins i j u v k i_at j_at is)

      found : {u v : LabelName} {k : Mark} → IsEdge program u v k → (i j : ℕ) → slice_get labels.names i ≡ Some u → slice_get labels.names j ≡ Some v → Contains es (edge_of i j k)
      found {u} {v} {k} (row p f act at fn is) i j i_at j_at = based u v k i j i_at j_at (inl (p, (f, act, at, fn, is)))
      found {u} {v} {k} (argv r root loc) i j i_at j_at = based u v k i j i_at j_at (inr (inl (r, inl (root, loc))))
      found {u} {v} {k} (args r q root root' loc) i j i_at j_at = based u v k i j i_at j_at (inr (inl (r, inr (root, (q, (root', loc))))))
      found {u} {v} {k} (passed g s n at sub) i j i_at j_at = based u v k i j i_at j_at (inr (inr (g, (s, at, inl (n, sub)))))
      found {u} {v} {k} (given_back g s at sub) i j i_at j_at = based u v k i j i_at j_at (inr (inr (g, (s, at, inr sub))))
      found (forth {u} {v} {x} {y} {m = k} e px py) i j i_at j_at =
          let ends = join_labels program u v k e in
          let c = at_number u ends.0 in
          let d = at_number v ends.1 in
          next u v x y k k c.0 d.0 i j c.1 d.1 (found e c.0 d.0 c.1 d.1) i_at j_at (next_targets (inl (refl, px, py)))
      found (edge_back {u} {v} {x} {y} {m = k} e px py) i j i_at j_at =
          let ends = join_labels program u v k e in
          let c = at_number u ends.0 in
          let d = at_number v ends.1 in
          next u v y x k (opposite k) c.0 d.0 i j c.1 d.1 (found e c.0 d.0 c.1 d.1) i_at j_at (next_targets (inr (refl, py, px)))
      found (edge_inside {u} {v} {x} {y} {m = k} s e px py) i j i_at j_at =
          let ends = join_labels program u v k e in
          let c = at_number u ends.0 in
          let d = at_number v ends.1 in
          next u v x y k k c.0 d.0 i j c.1 d.1 (found e c.0 d.0 c.1 d.1) i_at j_at (next_inside s (refl, px, py))
      found (edge_results {u} {v} {x} {y} {m = k} e px py) i j i_at j_at =
          let ends = join_labels program u v k e in
          let c = at_number u ends.0 in
          let d = at_number v ends.1 in
          next u v x y k k c.0 d.0 i j c.1 d.1 (found e c.0 d.0 c.1 d.1) i_at j_at (next_results (refl, px, py))
      found (edge_parameters {u} {v} {x} {y} {m = k} n e px py) i j i_at j_at =
          let ends = join_labels program u v k e in
          let c = at_number u ends.0 in
          let d = at_number v ends.1 in
          next u v y x k (opposite k) c.0 d.0 i j c.1 d.1 (found e c.0 d.0 c.1 d.1) i_at j_at (next_parameters n (refl, py, px))

  -- the ends of all edges are labels
  pub edges_within : (es : List Edge) → length labels.names ≡ length labels.entries → AreEdges program labels.names es → AreEdgesWithin labels es
  edges_within es named edges = All-weaker (Contains es) (IsEdgeWithin (length labels.entries)) within es (All-contains_itself es)
    where
      within : (e : Edge) → Contains es e → IsEdgeWithin (length labels.entries) e
      within e there =
          let is = (edges.each e.from e.to e.mark).0 there in
          let from = slice_get_within labels.names e.from is.0 is.2 in
          let to = slice_get_within labels.names e.to is.1 is.3 in
          (omega (arith, from, named), omega (arith, to, named))
