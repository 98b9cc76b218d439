-- Walks of what is pointed to, from label to label and from context to context. A context is the list of the
-- sites that are entered and not yet left, the last one first.
use Rattle.std.specs.Prelude.{◌≡◌, ℕ, Bool, true, List, ◌∷◌}
use Rattle.lk_facts.specs.declared.edge.Mark.{Mark}
use Rattle.lk_facts.specs.declared.edge.Mark.TheVariants.{Plain, Enter, Leave}

-- A list of edges leads from the label a in the context c to the label b in the context d: a Plain edge
-- keeps the context, Enter(i) appends i, Leave(i) takes away a last i, and at a global label the
-- context may become any other.
pub data Walk (edge : ℕ → ℕ → Mark → Type 0) (global : ℕ → Bool) (a : ℕ) (c : List ℕ) : ℕ →
    List ℕ → Type 0 where
  start : Walk edge global a c a c
  along : {b e : ℕ} {d : List ℕ} → Walk edge global a c b d → edge b e Plain → Walk edge global a c e d
  entering : {b e i : ℕ} {d : List ℕ} → Walk edge global a c b d → edge b e (Enter i) →
      Walk edge global a c e (i ∷ d)
  leaving : {b e i : ℕ} {d : List ℕ} → Walk edge global a c b (i ∷ d) → edge b e (Leave i) →
      Walk edge global a c e d
  elsewhere : {b : ℕ} {d d' : List ℕ} → Walk edge global a c b d → global b ≡ true → Walk edge global a c b d'
