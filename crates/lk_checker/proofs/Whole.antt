-- The type of a declarator is made, and its code is kept behind those of its forms (C99 6.7.5).
use Rattle.std.proofs.Common.{◌≡◌, ◌∙◌, ◌||◌, Bool, false, not, List, Option, reverse, sym, ap, subst, refl}
use Rattle.std.specs.Option.{option_map}
use Rattle.lk_base.specs.declared.code.Code.{Code}
use Rattle.lk_base.specs.declared.code.Code.TheVariants.{LargeType}
use Rattle.lk_tree.specs.declared.expression.Declarator.{Declarator}
use Rattle.lk_typed.specs.DeclaratorRules.{unless}
use Rattle.lk_typed.specs.Faults.{Breach, breach}
use Rattle.lk_typed.specs.Meaning.{meaning}
use Rattle.lk_typed.specs.NodeRules.{mark}
use Rattle.lk_typed.specs.Told.{Span}
use Rattle.lk_rules.specs.Keeping.{KeepsCodes}
use Rattle.lk_check_decl.specs.Breaches.{told}
use Rattle.lk_found.proofs.Keepings.{kept_told, unnamed_unless}
use Rattle.lk_found.specs.Shaped.{IsLeft, forms_in, is_large_shape, type_in}
use Rattle.lk_found.specs.Findings.{mark_at}
use Rattle.lk_found.specs.declared.declarators.DeclaratorFound.{DeclaratorFound}
use Rattle.lk_found.specs.declared.found.At.{At}
use Rattle.lk_found.specs.declared.shapes.Left.{Left}
use Rattle.lk_found.specs.declared.walked.Walked.{Walked}
use Rattle.lk_checker.proofs.GoingOn.{same_sound}
use Rattle.lk_checker.specs.Moves.{Puts, IsSame}
use Rattle.lk_checker.specs.Shaped.{IsShaped, IsWholeShaped}
use Rattle.lk_checker.specs.States.{IsIn, Tells, kept_in}
use Rattle.lk_checker.specs.declared.checker.Checker.{Checker}

-- ---- 32 is kept behind the codes of the forms

pub tells_same : {old new : Checker} {at : At} {broken : Option Breach} → Tells old new at broken → IsSame old new
tells_same tells = record { types = tells.types; names = tells.names; outside = tells.outside; records = tells.records }

pub puts_same : (old middle new : Checker) → Puts old middle → IsSame middle new → Puts old new
puts_same old middle new puts same = record {
  longer = rw same.types puts.longer;
  sound = same_sound middle new same puts.sound;
  outside = same.outside ∙ puts.outside;
  names = same.names ∙ puts.names;
  records = same.records ∙ puts.records;
}

abbrev pub large_rules : Bool → List Breach
large_rules b = unless (not b) LargeType

pub whole_shaped : (old middle new : Checker) (d : Declarator) (walked : Walked) (left made : Left) (may : Bool) (found : DeclaratorFound) (at : At) (code : Option Code) →
    ((span : Span) → IsIn old span.behind → IsLeft old.types span left → span.may_be_absent ≡ may → IsShaped old middle span (reverse (forms_in old.types walked.layers.items)) left made) →
    Tells middle new at (option_map breach code) → mark_at at ≡ mark d.spot d.ordinal → code ≡ told (large_rules made.is_large) → left.is_large ≡ false → found.ty ≡ made.ty →
    found.holds_sizeof ≡ walked.holds_sizeof → found.parameters ≡ walked.parameters → IsWholeShaped old new d walked left may found
whole_shaped old middle new d walked left made may found at code shapes tells place is small type holds parameters = record {
  holds_sizeof = holds;
  parameters = parameters;
  type = λ span is_in element absent.
      let s = shapes span is_in element absent in
      let fs = reverse (forms_in old.types walked.layers.items) in
      let large = s.large ∙ ap (λ b. b || is_large_shape span fs (type_in old.types left)) small in
      record {
        type = ap (option_map (meaning new.types)) type ∙ ap (λ table. option_map (meaning table) made.ty) tells.types ∙ s.type;
        middle = kept_in middle;
        forms = s.keeps;
        large = subst (λ b. KeepsCodes (kept_in middle) (mark d.spot d.ordinal) (large_rules b) (kept_in new)) large
            (subst (λ m. KeepsCodes (kept_in middle) m (large_rules made.is_large) (kept_in new)) place
            (subst (KeepsCodes (kept_in middle) (mark_at at) (large_rules made.is_large)) (sym tells.kept)
            (kept_told (kept_in middle) (mark_at at) code (large_rules made.is_large) is (unnamed_unless (not made.is_large) LargeType))));
      };
}

-- ---- where a declarator stands

pub place_is : (at : At) (d : Declarator) → at.spot ≡ d.spot → at.ordinal ≡ d.ordinal → mark_at at ≡ mark d.spot d.ordinal
place_is at d spot ordinal = rw spot (rw ordinal refl)
