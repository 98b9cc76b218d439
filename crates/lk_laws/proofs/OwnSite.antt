-- A function flows on only where it is used as a value.
use Rattle.std.proofs.Common.{◌≡◌, ◌⊎◌, ℕ, Bool, true, false, List, [], ◌∷◌, ◌++◌, Option, Some, None, inl, inr, refl, sym, ap, subst, ◌∙◌}
use Rattle.std.proofs.lemmas.Option.{none-some}
use Rattle.std.specs.List.{slice_get}
use Rattle.lk_facts.specs.EdgeRules.{Of, In, place, allocated, Converts, Returns, Row, IsEdge, AreEdges}
use Rattle.lk_facts.specs.EdgeRules.Converts.{same, to_void, from_void}
use Rattle.lk_facts.specs.EdgeRules.IsEdge.{row, argv, args, passed, given_back, forth, back, inside, results, parameters}
use Rattle.lk_facts.specs.LabelRules.{IsPart, IsWhole}
use Rattle.lk_facts.specs.Lowered.{IsLowered, IsUsedAsValue}
use Rattle.lk_facts.specs.Paths.{HasEdge, Segment, Part, Reach, InAll}
use Rattle.lk_facts.specs.Paths.Segment.{empty, step as segment_step}
use Rattle.lk_facts.specs.Paths.Reach.{one, more}
use Rattle.lk_facts.specs.Program.{root_at, root_of_function, function_of_root, function_of_kind, value_site_of, action_at}
use Rattle.lk_facts.specs.Typed.{IsTyped, IsObjectIn, IsObjectOfKind, IsAllocated}
use Rattle.lk_facts.specs.declared.action.Action.{Action}
use Rattle.lk_facts.specs.declared.action.Action.TheVariants as action
use Rattle.lk_facts.specs.declared.edge.Edge.{Edge}
use Rattle.lk_facts.specs.declared.edge.Mark.{Mark}
use Rattle.lk_facts.specs.declared.label_entry.LabelName.{LabelName}
use Rattle.lk_facts.specs.declared.program.Program.{Program}
use Rattle.lk_facts.specs.declared.root.Holder.TheVariants.{Root}
use Rattle.lk_facts.specs.declared.root.Root.{Root as RootOf}
use Rattle.lk_facts.specs.declared.root.RootKind.{RootKind}
use Rattle.lk_facts.specs.declared.root.RootKind.TheVariants as kind
use Rattle.lk_laws.proofs.EdgeEnds.{Stepped, stepped}
use Rattle.lk_types.specs.Nodes.{Node, node_of, first}
use Rattle.lk_types.specs.declared.node.Base.TheVariants.{Start, Tag}
use Rattle.lk_types.specs.declared.node.Sel.{Sel}

no_end : {X : Type 0} (xs : List X) (x : X) → xs ++ x ∷ [] ≡ [] → ⊥
no_end [] x h = absurd cc
no_end (y ∷ ys) x h = absurd cc

-- no step leads to a Start
never_start : (node : Node) (s : Sel) (k : Node) (t : ℕ) → Stepped node s k → k ≡ first (Start t) → ⊥
never_start node s k t (Stepped.tagged u is) h = tag_or_start u t (is ∙ h)
  where
    tag_or_start : (u t : ℕ) → first (Tag u) ≡ first (Start t) → ⊥
    tag_or_start u t h = let bases : Tag u ≡ Start t = ap (λ (n : Node). n.base) h in absurd cc
never_start node s k t (Stepped.inner base path) h = no_end node.path s (sym path ∙ ap (λ (n : Node). n.path) h)

module _ (program : Program) (lowered : IsLowered program) (f r : ℕ) (own : root_of_function program f ≡ Some r) where
  abbrev IsIt : LabelName → Type 0
  IsIt x = IsWhole program (Root r) x

  no_part : {x y : LabelName} {s : Sel} → IsPart program x s y → IsIt y → ⊥
  no_part {x} {y} {s} part it = never_start (node_of program.types x.node) s (node_of program.types y.node) it.ty (stepped program.types (node_of program.types x.node) s (node_of program.types y.node) part.steps.leads) it.start.first

  it_stands : function_of_root program r ≡ Some f
  it_stands = (lowered.function_roots f r).0 own

  one_root : (q : ℕ) {x : LabelName} → place program q x → IsIt x → q ≡ r
  one_root q w it = let h : Root q ≡ Root r = sym w.holder ∙ it.holder in cc

  -- the root of a function is no object of another kind
  other_kind : (root : RootOf) → root_at program r ≡ Some root → (k : RootKind) → root.kind ≡ k → function_of_kind k root.function ≡ None → ⊥
  other_kind root there k is none =
      let stands : function_of_kind k root.function ≡ Some f = subst (λ k. function_of_kind k root.function ≡ Some f) is (of_root root there) in
      none-some f (sym none ∙ stands)
    where
      of_root : (root : RootOf) → root_at program r ≡ Some root → function_of_kind root.kind root.function ≡ Some f
      of_root root there = let h = it_stands in cc

  object_kind : (g : ℕ) (owner : Option ℕ) (k : RootKind) → IsObjectOfKind program g owner k → function_of_kind k owner ≡ None
  object_kind g owner kind.Global h = refl
  object_kind g owner kind.Static h = refl
  object_kind g owner kind.Local h = refl
  object_kind g owner (kind.Heap single) h = absurd h
  object_kind g owner kind.Text h = absurd h
  object_kind g owner kind.Argv h = absurd h
  object_kind g owner kind.Args h = absurd h
  object_kind g owner kind.Function h = absurd h

  no_object : (g q : ℕ) {x : LabelName} → IsObjectIn program g q → place program q x → IsIt x → ⊥
  no_object g q object w it =
      let there = subst (λ q. root_at program q ≡ Some object.0) (one_root q w it) object.1 in
      other_kind object.0 there object.0.kind refl (object_kind g object.0.function object.0.kind object.2)

  of_part : {X : LabelName → Type 0} {s : Sel} {u : LabelName} → Of program X s u → IsIt u → IsUsedAsValue program f
  of_part h it = absurd (no_part h.2 it)

  in_part : {X : LabelName → Type 0} {s : Sel} {u : LabelName} → In program X s u → IsIt u → IsUsedAsValue program f
  in_part h it = absurd (no_part h.2.part it)

  converted : (a p : ℕ) {u v : LabelName} {m : Mark} → Converts program a p u v m → IsIt u → IsUsedAsValue program f
  converted a p (same s t from to alike h) it = of_part h.1 it
  converted a p (to_void t gives points h) it = of_part h.1 it
  converted a p (from_void t points gives h) it = in_part h.1 it

  returned : (g : ℕ) (a : Option ℕ) (u v : LabelName) (m : Mark) → Returns program g a u v m → IsIt u → IsUsedAsValue program f
  returned g None u v m h it = absurd h
  returned g (Some a) u v m h it = of_part h.1 it

  allocation : (p q t : ℕ) (count : Option ℕ) (u : LabelName) → IsAllocated program p q t count → allocated program q count u → IsIt u → IsUsedAsValue program f
  allocation p q t None u typed h it = absurd (other_kind typed.0 (subst (λ q. root_at program q ≡ Some typed.0) (one_root q h it) typed.1) (kind.Heap true) typed.2 refl)
  allocation p q t (Some n) u typed h it = in_part h it

  one_function : (g : ℕ) → root_of_function program g ≡ Some r → g ≡ f
  one_function g h = let stands = (lowered.function_roots g r).0 h in let own_stands = it_stands in cc

  row_uses : (p g : ℕ) (act : Action) (u v : LabelName) (m : Mark) → action_at program p ≡ Some act → IsTyped program p g act → Row program p g act u v m → IsIt u → IsUsedAsValue program f
  row_uses p g (action.Value number t) u v m here typed h it = absurd h
  row_uses p g (action.Null t) u v m here typed h it = absurd h
  row_uses p g (action.Func e) u v m here typed h it =
      let root : h.1.0 ≡ r = one_root h.1.0 h.1.2 it in
      let is : e ≡ f = one_function e (subst (λ q. root_of_function program e ≡ Some q) root h.1.1) in
      (p, subst (λ e. action_at program p ≡ Some (action.Func e)) is here)
  row_uses p g action.SelfId u v m here typed h it = absurd h
  row_uses p g (action.Root q) u v m here typed h it = absurd (no_object g q typed.0 h.1 it)
  row_uses p g (action.Text q) u v m here typed h it =
      let text = lowered.texts p q here in
      absurd (other_kind text.root (subst (λ q. root_at program q ≡ Some text.root) (one_root q h.1 it) text.of) kind.Text text.kind refl)
  row_uses p g (action.Field a k) u v m here typed h it = in_part h.1 it
  row_uses p g (action.Index a b true) u v m here typed h it = in_part h.1 it
  row_uses p g (action.Index a b false) u v m here typed h it = of_part h.1 it
  row_uses p g (action.Read a raw) u v m here typed h it = of_part h.1 it
  row_uses p g (action.Write a b raw) u v m here typed h it = of_part h.1 it
  row_uses p g (action.SlotRead s) u v m here typed h it = of_part h.1 it
  row_uses p g (action.SlotWrite s a) u v m here typed h it = of_part h.1 it
  row_uses p g (action.Unary o a) u v m here typed h it = absurd h
  row_uses p g (action.Binary o a b) u v m here typed h it = of_part h.1 it
  row_uses p g (action.Compute operands t equal) u v m here typed h it = absurd h
  row_uses p g (action.Convert a t) u v m here typed h it = converted a p h it
  row_uses p g (action.Branch a) u v m here typed h it = absurd h
  row_uses p g (action.Switch a cases) u v m here typed h it = absurd h
  row_uses p g action.Skip u v m here typed h it = absurd h
  row_uses p g (action.Call e operands) u v m here typed h it = elim h [ inl pass ↦ of_part pass.5.1 it | inr give ↦ of_part give.2.1 it ]
  row_uses p g (action.PointerCall a operands) u v m here typed h it = elim h [ inl pass ↦ of_part pass.3.1 it | inr give ↦ of_part give.1 it ]
  row_uses p g (action.Return a) u v m here typed h it = returned g a u v m h it
  row_uses p g (action.Create e a) u v m here typed h it = of_part h.5.1 it
  row_uses p g (action.StoreId a) u v m here typed h it = absurd h
  row_uses p g (action.Join a) u v m here typed h it = absurd h
  row_uses p g (action.Detach a) u v m here typed h it = absurd h
  row_uses p g action.ExitThread u v m here typed h it = absurd h
  row_uses p g action.ExitProcess u v m here typed h it = absurd h
  row_uses p g (action.Lock a) u v m here typed h it = absurd h
  row_uses p g (action.Unlock a) u v m here typed h it = absurd h
  row_uses p g (action.Release cond mutex) u v m here typed h it = absurd h
  row_uses p g (action.Retake a) u v m here typed h it = absurd h
  row_uses p g (action.Init a) u v m here typed h it = absurd h
  row_uses p g (action.Destroy a) u v m here typed h it = absurd h
  row_uses p g (action.Signal a) u v m here typed h it = absurd h
  row_uses p g (action.Allocate t count clear q) u v m here typed h it = allocation p q t count u typed.1 h.1 it
  row_uses p g (action.Free a) u v m here typed h it = absurd h
  row_uses p g (action.Scan a) u v m here typed h it = absurd h
  row_uses p g (action.Fill a spot named) u v m here typed h it = absurd h

  -- only a point that gives a pointer to the function has an edge from it
  edge_uses : {u v : LabelName} {m : Mark} → IsEdge program u v m → IsIt u → IsUsedAsValue program f
  edge_uses {u} {v} {m} (row p g act here at h) it = row_uses p g act u v m here (lowered.typed p g act here at) h it
  edge_uses (argv q is h) it = in_part h.1 it
  edge_uses (args q s is at h) it = in_part h.1 it
  edge_uses (passed g i k site h) it = of_part h.1 it
  edge_uses (given_back g i site h) it = of_part h.1 it
  edge_uses (forth e x y) it = absurd (no_part x it)
  edge_uses (back e x y) it = absurd (no_part y it)
  edge_uses (inside s e x y) it = absurd (no_part x.part it)
  edge_uses (results e x y) it = absurd (no_part x.points.2 it)
  edge_uses (parameters k e x y) it = absurd (no_part y.points.2 it)

-- a way that ends elsewhere has a first edge
module _ (edge : ℕ → ℕ → Mark → Type 0) (global : ℕ → Bool) where
  abbrev Leaves : ℕ → Type 0
  Leaves a = (c : ℕ) × (m : Mark) × edge a c m

  segment_leaves : {a b : ℕ} {w : List Mark} → Segment edge global a w b → (a ≡ b) ⊎ Leaves a
  segment_leaves empty = inl refl
  segment_leaves (segment_step {b = b} {m = m} e inner rest) = inr (b, m, e)

  part_leaves : {a b : ℕ} → Part edge global a b → (a ≡ b) ⊎ Leaves a
  part_leaves {a} {b} part = elim (segment_leaves part.1.1) [ inl here ↦ elim (segment_leaves part.2.1) [ inl there ↦ inl (here ∙ there) | inr first ↦ inr (subst Leaves (sym here) first) ] | inr first ↦ inr first ]

  reach_leaves : {a b : ℕ} → Reach edge global a b → (a ≡ b) ⊎ Leaves a
  reach_leaves (one part) = part_leaves part
  reach_leaves (more way at part) = elim (reach_leaves way) [ inl here ↦ elim (part_leaves part) [ inl there ↦ inl (here ∙ there) | inr first ↦ inr (subst Leaves (sym here) first) ] | inr first ↦ inr first ]

name_is : (x y : LabelName) → Some x ≡ Some y → x ≡ y
name_is x y h = cc

pub own_site : (program : Program) → IsLowered program → (names : List LabelName) (es : List Edge) → AreEdges program names es → (global origin : ℕ → Bool) (o b f r : ℕ) (x : LabelName) →
    slice_get names o ≡ Some x → IsWhole program (Root r) x → root_of_function program f ≡ Some r → InAll (HasEdge es) global origin b o → (o ≡ b → ⊥) → (i : ℕ) × (value_site_of program f ≡ Some i)
own_site program lowered names es are global origin o b f r x at it own all other =
    elim (reach_leaves (HasEdge es) global all.1) [
      | inl here ↦ absurd (other here)
      | inr first ↦ (let edge = (are.each o first.0 first.1).0 first.2 in (lowered.value_sites f).1 (edge_uses program lowered f r own (subst (λ u. IsEdge program u edge.1 first.1) (name_is edge.0 x (sym edge.2 ∙ at)) edge.4) it))
    ]
