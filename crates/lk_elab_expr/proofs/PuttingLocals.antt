-- One local more, behind those before it.
use Rattle.std.proofs.Common.{◌≡◌, ◌∙◌, ◌<◌, ◌++◌, ◌-◌, inl, inr, ℕ, List, [], ◌∷◌, Some, length, slice_get, sym, ap, subst, arith, ne_eqb}
use Rattle.std.specs.Prelude.{nat_eq}
use Rattle.std.specs.Map.{lookup}
use Rattle.std.proofs.lemmas.Option.{same_Some, slice_get_within}
use Rattle.lk_typed.specs.declared.unit.Local.{Local}
use Rattle.lk_elaborator.specs.Keeping.{PutsNumber}
use Rattle.lk_elaborator.specs.PuttingLocals.{AreBefore, AreNumbered, Rise}
use Rattle.lk_elaborator.specs.declared.locals.Locals.{Locals}
use Rattle.lk_elaborator.proofs.Gathering.{at_before, at_last, at_split, same_or_not}

pub rise_last : (xs : List Local) (x : Local) → Rise xs → AreBefore xs x.ordinal → Rise (xs ++ x ∷ [])
rise_last xs x rise before l m a b order at_l at_m = elim (at_split xs x m b at_m) [
  | inl m_before ↦ elim (at_split xs x l a at_l) [
    | inl l_before ↦ rise l m a b order l_before m_before
    | inr last ↦ absurd (let h = slice_get_within xs m b m_before in omega (arith, h, order, last.0))
  ]
  | inr last ↦ elim (at_split xs x l a at_l) [
    | inl l_before ↦ subst (λ (y : Local). a.ordinal < y.ordinal) (sym last.1) (before l a l_before)
    | inr both ↦ absurd (omega (arith, order, both.0, last.0))
  ]
]

pub before_by_last : (xs : List Local) (last : Local) (n : ℕ) → slice_get xs (length xs - 1) ≡ Some last → last.ordinal < n → Rise xs → AreBefore xs n
before_by_last xs last n at_end below rise l a at_l =
    let within = slice_get_within xs l a at_l in
    elim (same_or_not l (length xs - 1)) [
      | inl same ↦ subst (λ (y : Local). y.ordinal < n) (same_Some last a (sym at_end ∙ (ap (slice_get xs) (sym same) ∙ at_l))) below
      | inr apart ↦ let h = rise l (length xs - 1) a last (omega (arith, within, apart)) at_l at_end in omega (arith, h, below)
    ]

pub numbered_put : (old new : Locals) (local : Local) → PutsNumber old.numbers.entries new.numbers.entries local.ordinal (length old.list.items) →
    new.list.items ≡ old.list.items ++ local ∷ [] → AreNumbered old → AreNumbered new
numbered_put old new local puts list was n l is = elim (same_or_not local.ordinal n) [
  | inl same ↦
      let l_is : l ≡ length old.list.items = same_Some l (length old.list.items) (sym is ∙ (ap (λ n. lookup (nat_eq n) new.numbers.entries) (sym same) ∙ puts.put)) in
      (local, subst (λ xs. slice_get xs l ≡ Some local) (sym list) (ap (slice_get (old.list.items ++ local ∷ [])) l_is ∙ at_last old.list.items local), same)
  | inr apart ↦
      let h = was n l (sym (puts.others n (ne_eqb local.ordinal n apart)) ∙ is) in
      (h.0, subst (λ xs. slice_get xs l ≡ Some h.0) (sym list) (at_before old.list.items (local ∷ []) l h.0 h.1), h.2)
]
