-- What walks say of what their labels hold: the law of contents.
use Rattle.std.proofs.Common.{◌≡◌, ℕ, Bool, List, [], ◌∷◌, refl, ◌∙◌, subst}
use Rattle.lk_facts.specs.declared.edge.Mark.{Mark}
use Rattle.lk_facts.specs.Paths.{opposite}
use Rattle.lk_facts.specs.Walks.{Walk}
use Rattle.lk_facts.specs.Walks.Walk.{start, along, entering, leaving, elsewhere}

pub walk_on : {edge : ℕ → ℕ → Mark → Type 0} {global : ℕ → Bool} {a b : ℕ} {c d : List ℕ} {e : ℕ} {f : List ℕ} → Walk edge global b d e f → Walk edge global a c b d → Walk edge global a c e f
walk_on start first = first
walk_on (along w h) first = along (walk_on w first) h
walk_on (entering w h) first = entering (walk_on w first) h
walk_on (leaving w h) first = leaving (walk_on w first) h
walk_on (elsewhere w at) first = elsewhere (walk_on w first) at

module _ {Sel : Type 0} (part : Sel → ℕ → ℕ → Type 0) where
  -- a path of selectors leads from a label to a label
  pub data Leads : List Sel → ℕ → ℕ → Type 0 where
    here : {a : ℕ} → Leads [] a a
    into : {k : Sel} {ks : List Sel} {a b c : ℕ} → part k a b → Leads ks b c → Leads (k ∷ ks) a c

  module _ (target : ℕ → ℕ → Type 0) where
    -- t is part `there` of what part `ks` of the label a points to
    pub record Holds (ks there : List Sel) (a t : ℕ) : Type 0 where
      pub at : ℕ
      pub points_to : ℕ
      pub path : Leads ks a at
      pub pointer : target at points_to
      pub behind : Leads there points_to t

    -- along an edge there are edges both ways between what both ends hold
    record Beside (edge : ℕ → ℕ → Mark → Type 0) (ks there : List Sel) (u t : ℕ) (m : Mark) : Type 0 where
      s : ℕ
      holds : Holds ks there u s
      there_edge : edge s t m
      back_edge : edge t s (opposite m)

-- Parts and targets of labels, as edges respect them: both ends have one type, so that they have the same parts; an edge gives one with its
-- mark between the parts and between the targets, and one back between the targets with the opposite mark; a holder is global as a whole.
pub record AreContents {Sel : Type 0} (edge : ℕ → ℕ → Mark → Type 0) (global : ℕ → Bool) (part : Sel → ℕ → ℕ → Type 0) (target : ℕ → ℕ → Type 0) : Type 0 where
  pub one_part : (k : Sel) (u s t : ℕ) → part k u s → part k u t → s ≡ t
  pub one_target : (u s t : ℕ) → target u s → target u t → s ≡ t
  pub part_there : (k : Sel) (u v s : ℕ) (m : Mark) → edge u v m → part k u s → (t : ℕ) × part k v t
  pub part_back : (k : Sel) (u v t : ℕ) (m : Mark) → edge u v m → part k v t → (s : ℕ) × part k u s
  pub target_back : (u v t : ℕ) (m : Mark) → edge u v m → target v t → (s : ℕ) × target u s
  pub parts : (k : Sel) (u v s t : ℕ) (m : Mark) → edge u v m → part k u s → part k v t → edge s t m
  pub targets : (u v s t : ℕ) (m : Mark) → edge u v m → target u s → target v t → edge s t m
  pub backwards : (u v s t : ℕ) (m : Mark) → edge u v m → target u s → target v t → edge t s (opposite m)
  pub part_global : (k : Sel) (u s : ℕ) → part k u s → global s ≡ global u
  pub target_global : (u s : ℕ) → target u s → global s ≡ global u

module _ {Sel : Type 0} {edge : ℕ → ℕ → Mark → Type 0} {global : ℕ → Bool} {part : Sel → ℕ → ℕ → Type 0} {target : ℕ → ℕ → Type 0} (are : AreContents edge global part target) where
  leads_one : {ks : List Sel} {a b : ℕ} → Leads part ks a b → (c : ℕ) → Leads part ks a c → b ≡ c
  leads_one here c here = refl
  leads_one (into {k = k} {ks = ks} {a = a} {b = b} p ps) c (into {b = b'} q qs) =
      leads_one ps c (subst (λ x. Leads part ks x c) (are.one_part k a b' b q p) qs)

  leads_there : {ks : List Sel} {u s : ℕ} → Leads part ks u s → (v : ℕ) (m : Mark) → edge u v m → (t : ℕ) × Leads part ks v t × edge s t m
  leads_there here v m h = (v, here, h)
  leads_there (into {k = k} {a = a} {b = b} p ps) v m h =
      let there = are.part_there k a v b m h p in
      let on = leads_there ps there.0 m (are.parts k a v b there.0 m h p there.1) in
      (on.0, into there.1 on.1, on.2)

  leads_back : {ks : List Sel} {v t : ℕ} → Leads part ks v t → (u : ℕ) (m : Mark) → edge u v m → (s : ℕ) × Leads part ks u s × edge s t m
  leads_back here u m h = (u, here, h)
  leads_back (into {k = k} {a = a} {b = b} p ps) u m h =
      let back = are.part_back k u a b m h p in
      let on = leads_back ps back.0 m (are.parts k u a back.0 b m h back.1 p) in
      (on.0, into back.1 on.1, on.2)

  leads_both : {ks : List Sel} {u v s t : ℕ} {m : Mark} → edge u v m → Leads part ks u s → Leads part ks v t → edge s t m
  leads_both {v = v} {s = s} {t = t} {m = m} h p q =
      let there = leads_there p v m h in
      subst (λ x. edge s x m) (leads_one there.1 t q) there.2

  leads_global : {ks : List Sel} {a b : ℕ} → Leads part ks a b → global b ≡ global a
  leads_global here = refl
  leads_global (into {k = k} {a = a} {b = b} p ps) = leads_global ps ∙ are.part_global k a b p

  holds_one : {ks there : List Sel} {a s t : ℕ} → Holds part target ks there a s → Holds part target ks there a t → s ≡ t
  holds_one {there = there} {t = t} h k =
      let at = leads_one k.path h.at h.path in
      let to = are.one_target h.at k.points_to h.points_to (subst (λ x. target x k.points_to) at k.pointer) h.pointer in
      leads_one h.behind t (subst (λ x. Leads part there x t) to k.behind)

  holds_global : {ks there : List Sel} {a t : ℕ} → Holds part target ks there a t → global t ≡ global a
  holds_global h = leads_global h.behind ∙ (are.target_global h.at h.points_to h.pointer ∙ leads_global h.path)

  beside : {ks there : List Sel} {u v t : ℕ} {m : Mark} → edge u v m → Holds part target ks there v t → Beside part target edge ks there u t m
  beside {u = u} {m = m} h k =
      let path = leads_back k.path u m h in
      let target' = are.target_back path.0 k.at k.points_to m path.2 k.pointer in
      let to = are.targets path.0 k.at target'.0 k.points_to m path.2 target'.1 k.pointer in
      let back = are.backwards path.0 k.at target'.0 k.points_to m path.2 target'.1 k.pointer in
      let behind = leads_back k.behind target'.0 m to in
      record {
        s = behind.0;
        holds = record { at = path.0; points_to = target'.0; path = path.1; pointer = target'.1; behind = behind.1 };
        there_edge = behind.2;
        back_edge = leads_both back k.behind behind.1;
      }

  -- Contents: walks both ways between what the first label of a walk holds, in its context, and what the last one holds, in its own
  pub contents : {o : ℕ} {c : List ℕ} {ks there : List Sel} {b : ℕ} {d : List ℕ} (s : ℕ) → Holds part target ks there o s → Walk edge global o c b d → (t : ℕ) → Holds part target ks there b t → Walk edge global s c t d × Walk edge global t d s c
  contents {c = c} s h start t k =
      let same = holds_one h k in
      (subst (λ x. Walk edge global s c x c) same start, subst (λ x. Walk edge global x c s c) same start)
  contents s h (along w e) t k =
      let by = beside e k in
      let both = contents s h w by.s by.holds in
      (along both.0 by.there_edge, walk_on both.1 (along start by.back_edge))
  contents s h (entering w e) t k =
      let by = beside e k in
      let both = contents s h w by.s by.holds in
      (entering both.0 by.there_edge, walk_on both.1 (leaving start by.back_edge))
  contents s h (leaving w e) t k =
      let by = beside e k in
      let both = contents s h w by.s by.holds in
      (leaving both.0 by.there_edge, walk_on both.1 (entering start by.back_edge))
  contents s h (elsewhere w at) t k =
      let both = contents s h w t k in
      let at' = holds_global k ∙ at in
      (elsewhere both.0 at', walk_on both.1 (elsewhere start at'))
