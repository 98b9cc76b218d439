-- Items: when two are the same, and what tables of them have.
use Rattle.std.proofs.Common.{◌≡◌, true, eqb, refl, sym, ap, subst}
use Rattle.std.proofs.Math.Bool.{beq}
use Rattle.std.specs.Cmp.{IsEquivalence, bool_eq_equiv, booleans_Decides}
use Rattle.std.proofs.lemmas.Bool.{and_from, and_parts, eqb-true, eq-eqb}
use Rattle.lk_sets.proofs.Members.{same_answers}
use Rattle.lk_rise.specs.declared.correlations.Correlation.{Correlation}
use Rattle.lk_rise.specs.Correlations.{is_same}

-- the same items are equal
pub same_item : (a b : Correlation) → is_same a b ≡ true → a ≡ b
same_item a b same =
    let first = and_parts (eqb a.function b.function) _ same in
    let second = and_parts (beq a.child b.child) _ first.1 in
    let third = and_parts (eqb a.subject b.subject) (eqb a.access b.access) second.1 in
    let function = eqb-true a.function b.function first.0 in
    let child : a.child ≡ b.child = (booleans_Decides a.child b.child).0 second.0 in
    let subject = eqb-true a.subject b.subject third.0 in
    let access = eqb-true a.access b.access third.1 in
    (λ i. record { function = function i; child = child i; subject = subject i; access = access i })

pub same_itself : (a : Correlation) → is_same a a ≡ true
same_itself a =
    and_from _ _ (eq-eqb a.function a.function refl)
    (and_from _ _ (bool_eq_equiv.refl a.child) (and_from _ _ (eq-eqb a.subject a.subject refl) (eq-eqb a.access a.access refl)))

pub same_from_equal : (a b : Correlation) → a ≡ b → is_same a b ≡ true
same_from_equal a b equal = subst (λ c. is_same a c ≡ true) equal (same_itself a)

pub same_laws : IsEquivalence is_same
same_laws = record {
  refl = same_itself;
  symm = λ a b. same_answers (is_same a b) (is_same b a) (λ h. same_from_equal b a (sym (same_item a b h))) (λ h. same_from_equal a b (sym (same_item b a h)));
  congr = λ a b c h. ap (λ d. is_same d c) (same_item a b h);
}
