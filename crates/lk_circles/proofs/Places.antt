-- A mutex that a thread takes through an operand is at a lock place: an edge leads from its place, and so its root has cells.
use Rattle.std.proofs.Common.{◌≡◌, ◌⊎◌, ◌<◌, ℕ, Bool, true, false, List, Option, Some, inl, inr, refl, sym, ap, subst, ◌∙◌}
use Rattle.std.proofs.lemmas.Option.{same_Some, slice_get_within}
use Rattle.std.specs.List.{slice_get}
use Rattle.std.specs.Option.{option_map_or}
use Rattle.std.specs.Prelude.{MatchOption, unwrap_or}
use Rattle.lk_facts.specs.Basis.{Basis}
use Rattle.lk_facts.specs.EdgeRules.{IsEdge}
use Rattle.lk_facts.specs.LabelRules.{IsTargetOf, IsWithin, form_of}
use Rattle.lk_facts.specs.Labels.{is_global_at, is_lock_at, target_at}
use Rattle.lk_facts.specs.Lowered.{IsPlaceOfMutex}
use Rattle.lk_facts.specs.Paths.{HasEdge}
use Rattle.lk_facts.specs.Program.{IsLockPlace, place_of, root_at}
use Rattle.lk_facts.specs.Walks.{Walk}
use Rattle.lk_facts.specs.Walks.Walk.{start, along, entering, leaving, elsewhere}
use Rattle.lk_facts.specs.declared.edge.Edge.{Edge}
use Rattle.lk_facts.specs.declared.edge.Mark.{Mark}
use Rattle.lk_facts.specs.declared.function.Function.{Function}
use Rattle.lk_facts.specs.declared.label_entry.LabelEntry.{LabelEntry}
use Rattle.lk_facts.specs.declared.label_entry.LabelName.{LabelName}
use Rattle.lk_facts.specs.declared.root.Holder.TheVariants.{Root, Point}
use Rattle.lk_facts.specs.declared.root.Root.{Root as RootOf}
use Rattle.lk_circles.proofs.Roots.{IsUsed, edge_used, no_mutex_in_function, no_mutex_in_text, within_direct}
use Rattle.lk_circles.proofs.Roots.IsUsed.{by_cells, by_code, by_text}
use Rattle.lk_right.specs.Contexts.{Home}
use Rattle.lk_right.specs.Laws.{IsAnalysed}
use Rattle.lk_safe.specs.Owners.{IsAt}
use Rattle.lk_sound.proofs.PlaceNumbers.{element_at, place_number}
use Rattle.lk_trails.specs.Named.{Means}
use Rattle.lk_trails.specs.Named.Means.{itself, flows}
use Rattle.lk_types.specs.Objects.{is_mutex}
use Rattle.lk_types.specs.Table.{type_at}
use Rattle.lk_types.specs.declared.c_type.CType.{CType}
use Rattle.lk_types.specs.declared.c_type.CType.TheVariants.{Void}
use Rattle.lk_values.proofs.Reasons.{chained, mapped}
use Rattle.lk_values.specs.declared.cell.Cell.{Cell}

-- a walk that ends elsewhere has a first edge
module _ (edge : ℕ → ℕ → Mark → Type 0) (global : ℕ → Bool) where
  abbrev Leaves : ℕ → Type 0
  Leaves a = (e : ℕ) × (m : Mark) × edge a e m

  after : {a b e : ℕ} {m : Mark} → (a ≡ b) ⊎ Leaves a → edge b e m → (a ≡ e) ⊎ Leaves a
  after {e = e} {m = m} (inl here) next = inr (e, m, subst (λ n. edge n e m) (sym here) next)
  after (inr first) next = inr first

  walk_leaves : {a : ℕ} {c : List ℕ} {b : ℕ} {d : List ℕ} → Walk edge global a c b d → (a ≡ b) ⊎ Leaves a
  walk_leaves start = inl refl
  walk_leaves (along walk next) = after (walk_leaves walk) next
  walk_leaves (entering walk next) = after (walk_leaves walk) next
  walk_leaves (leaving walk next) = after (walk_leaves walk) next
  walk_leaves (elsewhere walk at) = walk_leaves walk

point_or_root : (p r : ℕ) → Point p ≡ Root r → ⊥
point_or_root p r h = cc

module _ (basis : Basis) (es : List Edge) (ok : IsAnalysed basis.program basis.labels es) (homes : List Home) (cell : Cell) (o : ℕ) (h : List ℕ) (at : IsAt basis homes cell o h) where
  -- the label of an operand's target is none of a root
  target_other : (a label : ℕ) → target_at basis.labels a ≡ Some label → label ≡ o → ⊥
  target_other a label names same =
      let found = chained (λ (target : Option ℕ). target) (slice_get basis.labels.targets a) label names in
      let is : IsTargetOf basis.program basis.labels a label =
      subst (λ t. MatchOption t ((l : ℕ) → IsTargetOf basis.program basis.labels a l → ⊥) (IsTargetOf basis.program basis.labels a)) found.2 (ok.labelled.targets a found.0 found.1) in
      let name : is.1 ≡ at.name = same_Some is.1 at.name (sym (subst (λ n. slice_get basis.labels.names n ≡ Some is.1) same is.4) ∙ at.named) in
      let holder : at.name.holder ≡ Point a = ap (λ (x : LabelName). x.holder) (sym name) ∙ (is.3.holder ∙ is.2.holder) in
      point_or_root a at.home.root (sym holder ∙ at.place.holder)

  lock_form : is_lock_at basis.labels o ≡ true → is_mutex (form_of basis.program.types at.name.node) ≡ true
  lock_form is_lock =
      let entry = element_at basis.labels.entries o (subst (λ n. o < n) ok.few_labels.named (slice_get_within basis.labels.names o at.name at.named)) in
      sym (ok.labelled.entries o at.name entry.0 at.named entry.1).lock ∙ (sym (ap (λ x. option_map_or (λ (entry : LabelEntry). entry.is_lock) x false) entry.1) ∙ is_lock)

  -- the type of a root
  root_type : (root : RootOf) → root_at basis.program at.home.root ≡ Some root → root.ty ≡ at.place.ty
  root_type root there = ap (λ (x : RootOf). x.ty) (same_Some root at.place.of.0 (sym there ∙ at.place.of.1)) ∙ at.place.of.2

  by_root : is_mutex (form_of basis.program.types at.name.node) ≡ true → IsUsed basis.program ok.lowered at.home.root → IsLockPlace basis.program o
  by_root mutex (by_cells root there holds) =
      let place = place_of at.home.root at.name.node in
      let within = subst (λ t. IsWithin basis.program.types t at.name.node) (sym (root_type root there)) at.place.within in
      let is : IsPlaceOfMutex basis.program place = (record { root = root; of = there; cells = holds; within = within }, mutex) in
      let number = (ok.lowered.locks place).1 is in
      let same : o ≡ number.0 = place_number basis.program basis.labels es ok o number.0 at.name at.named (at.home.root, at.place.holder, number.2) in
      subst (IsLockPlace basis.program) (sym same) number.1
  by_root mutex (by_text is) =
      let array = sym (ap (type_at basis.program.types) (root_type is.root is.of)) ∙ ap (λ (x : Option CType). unwrap_or x Void) is.bytes in
      absurd (no_mutex_in_text basis.program.types at.place.ty is.char _ array (ap (λ (x : Option CType). unwrap_or x Void) is.is_char) at.place.within mutex)
  by_root mutex (by_code g of) =
      let there = mapped (λ (function : Function). function.root) (slice_get basis.program.functions g) at.home.root of in
      let typed = ok.lowered.functions g (slice_get_within basis.program.functions g there.0 there.1) in
      let root = typed.of.1 in
      let own : typed.of.0 ≡ at.home.root = same_Some typed.of.0 at.home.root (sym typed.of.2 ∙ of) in
      let ty = root_type root (subst (λ n. root_at basis.program n ≡ Some root) own typed.of.3) in
      let form = sym (ap (type_at basis.program.types) ty) ∙ ap (λ (x : Option CType). unwrap_or x Void) typed.of.4 in
      absurd (no_mutex_in_function basis.program.types at.place.ty typed.result typed.params typed.dots form at.place.within mutex)

pub lock_place : (basis : Basis) (es : List Edge) → IsAnalysed basis.program basis.labels es → (homes : List Home) (cell : Cell) (a o label : ℕ) (h c : List ℕ) →
    target_at basis.labels a ≡ Some label → Means basis.labels es o h label c → IsAt basis homes cell o h → is_lock_at basis.labels o ≡ true → IsLockPlace basis.program o
lock_place basis es ok homes cell a o label h c names (itself same) at is_lock = absurd (target_other basis es ok homes cell o h at a label names same)
lock_place basis es ok homes cell a o label h c names (flows walk) at is_lock = elim (walk_leaves (HasEdge es) (is_global_at basis.labels) walk) [
  | inl same ↦ absurd (target_other basis es ok homes cell o h at a label names (sym same))
  | inr first ↦ (let edge = (ok.joined.each o first.0 first.1).0 first.2 in
      let name = same_Some edge.0 at.name (sym edge.2 ∙ at.named) in
      let leads = subst (λ x. IsEdge basis.program x edge.1 first.1) name edge.4 in
      by_root basis es ok homes cell o h at (lock_form basis es ok homes cell o h at is_lock)
      (edge_used basis.program ok.lowered at.home.root at.place.ty leads at.place.holder (within_direct basis.program.types at.place.ty at.place.within)))
]
