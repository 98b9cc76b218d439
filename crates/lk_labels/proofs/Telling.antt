-- The codes of labels and of goto, by the least number of the labels with the name.
use Rattle.std.proofs.Common.{◌≡◌, ◌∙◌, ℕ, Bool, true, false, [], ◌∷◌, List, Option, Some, None, if◌then◌else◌, refl, sym, ap}
use Rattle.std.specs.Prelude.{is_some}
use Rattle.lk_base.specs.declared.code.Code.{Code}
use Rattle.lk_base.specs.declared.code.Code.TheVariants.{BadLabel}
use Rattle.lk_typed.specs.Codes.{least_code}
use Rattle.lk_typed.specs.Faults.{breach_of}
use Rattle.lk_typed.specs.StatementRules.{Around, goto_rules, label_rules}
use Rattle.lk_typed.specs.Typing.{if_so}
use Rattle.lk_check_decl.specs.Breaches.{told}
use Rattle.lk_labels.specs.Leasts.{AreLabels, Leasts, is_before, number_of}
use Rattle.lk_labels.proofs.Putting.{has_least, least_before}

abbrev code_unless : Bool → Option Code
code_unless b = if b then None else Some BadLabel

module _ (leasts : Leasts) (name : List ℕ) (found : Option ℕ) (at : found ≡ number_of leasts name) (around : Around) (are : AreLabels leasts around.labels) where
  goto_told : code_unless (is_some found) ≡ told (goto_rules around name)
  goto_told = ap (λ o. code_unless (is_some o)) (at ∙ are name) ∙ (ap code_unless (sym (has_least name around.labels)) ∙ by _)
    where
      by : (b : Bool) → code_unless b ≡ told (if b then [] else breach_of BadLabel name ∷ [])
      by true = refl
      by false = refl

  -- a label of a goto is there, or none is
  pub goto_there : (n : ℕ) → found ≡ Some n → None ≡ told (goto_rules around name)
  goto_there n is = ap (λ o. code_unless (is_some o)) (sym is) ∙ goto_told

  pub goto_nowhere : found ≡ None → Some BadLabel ≡ told (goto_rules around name)
  goto_nowhere is = ap (λ o. code_unless (is_some o)) (sym is) ∙ goto_told

  -- a label is there before a node
  pub label_told : (n : ℕ) (b : Bool) → b ≡ is_before found n → least_code (if_so b BadLabel) ≡ told (label_rules around name n)
  label_told n b is = ap (λ c. least_code (if_so c BadLabel)) (is ∙ (ap (λ o. is_before o n) (at ∙ are name) ∙ sym (least_before name around.labels n))) ∙ by _
    where
      by : (c : Bool) → least_code (if_so c BadLabel) ≡ told (if c then breach_of BadLabel name ∷ [] else [])
      by true = refl
      by false = refl
