-- Segments and words of marks: how they are joined and taken apart.
use Rattle.std.proofs.Common.{◌≡◌, ℕ, Bool, false, List, [], ◌∷◌, ◌++◌, ◌⊎◌, inl, inr, refl, sym, ap, ◌∙◌, subst}
use Rattle.lk_facts.specs.declared.edge.Mark.{Mark}
use Rattle.lk_facts.specs.declared.edge.Mark.TheVariants.{Enter, Leave}
use Rattle.lk_facts.specs.Paths.{Balanced, OnlyUnmatched, Segment}
use Rattle.lk_facts.specs.Paths.Balanced.{empty as balanced_empty, plain, matched}
use Rattle.lk_facts.specs.Paths.OnlyUnmatched.{none, another}
use Rattle.lk_facts.specs.Paths.Segment.{empty, step}

append_assoc : (u v w : List Mark) → (u ++ v) ++ w ≡ u ++ (v ++ w)
append_assoc [] v w = refl
append_assoc (m ∷ u) v w = ap (λ x. m ∷ x) (append_assoc u v w)

-- balanced words one behind another
pub Balanced-append : {v w : List Mark} → Balanced v → Balanced w → Balanced (v ++ w)
Balanced-append balanced_empty h = h
Balanced-append (plain v g) h = plain _ (Balanced-append g h)
Balanced-append {w = w} (matched i u v g k) h =
    subst (λ x. Balanced (Enter i ∷ x)) (sym (append_assoc u (Leave i ∷ v) w)) (matched i u (v ++ w) g (Balanced-append k h))

-- words with unmatched marks of one kind, one behind another
pub OnlyUnmatched-append : {kind : ℕ → Mark} {v w : List Mark} → OnlyUnmatched kind w → OnlyUnmatched kind v → OnlyUnmatched kind (v ++ w)
OnlyUnmatched-append (none w h) (none v g) = none _ (Balanced-append g h)
OnlyUnmatched-append {kind} (none w h) (another i u v g k) =
    subst (OnlyUnmatched kind) (sym (append_assoc u (kind i ∷ v) w)) (another i u (v ++ w) g (Balanced-append k h))
OnlyUnmatched-append {kind} {v} (another i u w h k) g = subst (OnlyUnmatched kind) (append_assoc v u (kind i ∷ w)) (another i (v ++ u) w (OnlyUnmatched-append h g) k)

-- a segment with this mark on it: what is before it and what is behind it
pub record Splits (edge : ℕ → ℕ → Mark → Type 0) (global : ℕ → Bool) (a : ℕ) (v : List Mark) (m : Mark) (w : List Mark) (d : ℕ) : Type 0 where
  pub b : ℕ
  pub c : ℕ
  pub before : Segment edge global a v b
  pub inside_before : (v ≡ []) ⊎ (global b ≡ false)
  pub at : edge b c m
  pub inside_behind : (w ≡ []) ⊎ (global c ≡ false)
  pub behind : Segment edge global c w d

module _ {edge : ℕ → ℕ → Mark → Type 0} {global : ℕ → Bool} where
  pub same_end : {a b : ℕ} {w : List Mark} → Segment edge global a w b → w ≡ [] → a ≡ b
  same_end empty e = refl
  same_end (step h at rest) e = absurd (cc)

  -- one segment behind another: where they join isn't global, or the second is empty
  pub append : {a b c : ℕ} {v w : List Mark} → Segment edge global a v b → (w ≡ []) ⊎ (global b ≡ false) → Segment edge global b w c → Segment edge global a (v ++ w) c
  append empty at other = other
  append {b = b} {w = w} (step {b = x} {w = u} h at rest) at' other = step h (here at at') (append rest at' other)
    where
      here : (u ≡ []) ⊎ (global x ≡ false) → (w ≡ []) ⊎ (global b ≡ false) → (u ++ w ≡ []) ⊎ (global x ≡ false)
      here (inr inside) both = inr inside
      here (inl last) (inl nothing) = inl (ap (λ y. y ++ w) last ∙ nothing)
      here (inl last) (inr inside) = inr (ap global (same_end rest last) ∙ inside)

  pub split : {a d : ℕ} (v : List Mark) (m : Mark) (w : List Mark) → Segment edge global a (v ++ m ∷ w) d → Splits edge global a v m w d
  split {a} [] m w (step {b = c} h at rest) = record { b = a; c = c; before = empty; inside_before = inl refl; at = h; inside_behind = at; behind = rest }
  split (k ∷ v) m w (step {b = x} h at rest) =
      let inner = split v m w rest in
      let inside : global x ≡ false = not_last v at in
      record {
        b = inner.b;
        c = inner.c;
        before = step h (inr inside) inner.before;
        inside_before = elim inner.inside_before [ inl nothing ↦ inr (ap global (sym (same_end inner.before nothing)) ∙ inside) | inr there ↦ inr there ];
        at = inner.at;
        inside_behind = inner.inside_behind;
        behind = inner.behind;
      }
    where
      not_last : (u : List Mark) → (u ++ m ∷ w ≡ []) ⊎ (global x ≡ false) → global x ≡ false
      not_last u (inr inside) = inside
      not_last [] (inl last) = absurd (cc)
      not_last (l ∷ u) (inl last) = absurd (cc)
