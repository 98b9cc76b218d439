-- A walk goes into the parts of what it leads to.
use Rattle.std.proofs.Common.{ℕ, Bool, List, subst, ◌∙◌}
use Rattle.lk_facts.proofs.ContentLaw.{AreContents}
use Rattle.lk_facts.specs.Walks.{Walk}
use Rattle.lk_facts.specs.Walks.Walk.{start, along, entering, leaving, elsewhere}
use Rattle.lk_facts.specs.declared.edge.Mark.{Mark}
use Rattle.lk_laws.proofs.OneContent.{target_contents}
use Rattle.lk_laws.specs.CodeLaws.{WalksGoInside}

module _ {Sel : Type 0} {edge : ℕ → ℕ → Mark → Type 0} {global : ℕ → Bool} {part : Sel → ℕ → ℕ → Type 0} {target : ℕ → ℕ → Type 0} (are : AreContents edge global part target) where
  inside_on : {a : ℕ} {c : List ℕ} {b : ℕ} {d : List ℕ} → Walk edge global a c b d → (s : Sel) (x y : ℕ) → part s a x → part s b y → Walk edge global x c y d
  inside_on {a = a} {c = c} start s x y h k = subst (λ z. Walk edge global x c z c) (are.one_part s a x y h k) start
  inside_on (along {b = b} {e = e} w edge) s x y h k =
      let back = are.part_back s b e y _ edge k in
      along (inside_on w s x back.0 h back.1) (are.parts s b e back.0 y _ edge back.1 k)
  inside_on (entering {b = b} {e = e} w edge) s x y h k =
      let back = are.part_back s b e y _ edge k in
      entering (inside_on w s x back.0 h back.1) (are.parts s b e back.0 y _ edge back.1 k)
  inside_on (leaving {b = b} {e = e} w edge) s x y h k =
      let back = are.part_back s b e y _ edge k in
      leaving (inside_on w s x back.0 h back.1) (are.parts s b e back.0 y _ edge back.1 k)
  inside_on (elsewhere {b = b} w at) s x y h k = elsewhere (inside_on w s x y h k) (are.part_global s b y k ∙ at)

pub walks_go_inside : WalksGoInside
walks_go_inside program is lowered labels are in_range es edges a b c d walk s x y h k = inside_on (target_contents program is lowered labels are in_range es edges) walk s x y h k
