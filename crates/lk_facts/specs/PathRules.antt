-- The rules under which matched paths are closed. The relations of the words of marks are
-- the least ones that keep them.
use Rattle.std.specs.Prelude.{◌≡◌, ℕ, Bool, true, false, ◌⊎◌}
use Rattle.lk_facts.specs.declared.edge.Mark.{Mark}
use Rattle.lk_facts.specs.declared.edge.Mark.TheVariants.{Plain, Enter, Leave}

module _ (edge : ℕ → ℕ → Mark → Type 0) (global : ℕ → Bool) where
  -- a summary edge: a Plain edge, or a call and return at one site, with the level between them inside
  pub data Summary (level : ℕ → ℕ → Type 0) (a b : ℕ) : Type 0 where
    plain : edge a b Plain → Summary level a b
    call : (i x y : ℕ) → edge a x (Enter i) → global x ≡ false → level x y → global y ≡ false →
        edge y b (Leave i) → Summary level a b

  -- Level is closed: each label stands in it with itself, and summary edges lead on
  -- through labels that aren't global
  pub record IsLevelClosed (level : ℕ → ℕ → Type 0) : Type 0 where
    pub itself : (a : ℕ) → level a a
    pub last : (a b : ℕ) → Summary level a b → level a b
    pub more : (a b c : ℕ) → Summary level a b → global b ≡ false → level b c → level a c

  -- Rise is closed for Leaves, and Fall for Enters, over a given Level: an edge of the kind leads on between
  -- two levels. Where a label is strictly inside, it isn't global.
  pub record IsPassClosed (kind : ℕ → Mark) (level pass : ℕ → ℕ → Type 0) : Type 0 where
    pub levels : (a b : ℕ) → level a b → pass a b
    pub more : (a b c d i : ℕ) → pass a b → (a ≡ b) ⊎ (global b ≡ false) → edge b c (kind i) →
        (c ≡ d) ⊎ (global c ≡ false) → level c d → pass a d

  module _ (origin : ℕ → Bool) where
    -- All, Inner and Cross are closed over a given Level: rows are passed on along summary edges, Inner also
    -- along Leaves, All also along Enters; at a global label both are the same
    pub record IsFlowClosed (level all inner : ℕ → ℕ → Type 0) (cross : ℕ → ℕ → ℕ → Type 0) : Type 0 where
      pub starts : (o : ℕ) → origin o ≡ true → inner o o
      pub inner_summary : (b c o : ℕ) → Summary level b c → inner b o → inner c o
      pub leaves : (b c i o : ℕ) → edge b c (Leave i) → inner b o → inner c o
      pub globals : (g o : ℕ) → global g ≡ true → all g o → inner g o
      pub inners : (b o : ℕ) → inner b o → all b o
      pub all_summary : (b c o : ℕ) → Summary level b c → all b o → all c o
      pub enters : (b c i o : ℕ) → edge b c (Enter i) → all b o → all c o
      pub crosses : (i m l b : ℕ) → edge m l (Enter i) → level l b → cross i b m
