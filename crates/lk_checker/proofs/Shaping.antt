-- The type of a declarator, form by form.
use Rattle.std.proofs.Common.{◌≡◌, ◌∙◌, ◌++◌, Bool, List, [], ◌∷◌, map, reverse, refl, sym, ap, subst, All}
use Rattle.std.specs.Prelude.{◌||◌, unwrap_or}
use Rattle.std.specs.List.{slice_get}
use Rattle.std.proofs.lemmas.List.{map-append, reverse-append}
use Rattle.lk_types.specs.Building.{IsTable, types_of as member_types}
use Rattle.lk_typed.specs.Env.{Env, members_of}
use Rattle.lk_typed.specs.Meaning.{meaning}
use Rattle.lk_typed.specs.MemberRules.{fields_in, types_in, is_over}
use Rattle.lk_typed.specs.Told.{Span}
use Rattle.lk_rules.specs.Keeping.{Kept}
use Rattle.lk_check_decl.specs.Making.{AreFields}
use Rattle.lk_found.specs.Keepings.{KeepsEach}
use Rattle.lk_found.specs.Shaped.{form_at, forms_in, shaped, is_large_shape, codes_by, type_in, IsKnownAt, IsKnownLeft, IsLeft}
use Rattle.lk_found.specs.Shapes.{made_of}
use Rattle.lk_found.specs.declared.shapes.LayerAt.{LayerAt}
use Rattle.lk_found.specs.declared.shapes.Left.{Left}
use Rattle.lk_found.proofs.Shaping.{listed_same, forms_same, layers_known, or_again, all_front, or_nothing}
use Rattle.lk_checker.proofs.States.{stays_in, puts_then}
use Rattle.lk_checker.specs.Moves.{Puts}
use Rattle.lk_checker.specs.Shaped.{IsStep, IsShaped}
use Rattle.lk_checker.specs.States.{IsIn, IsSound, kept_in}
use Rattle.lk_checker.specs.declared.checker.Checker.{Checker}

-- the members of each struct are those that the table has
pub fields_are : (checker : Checker) → IsSound checker → (env : Env) → IsIn checker env → AreFields checker.types (fields_in env)
fields_are checker sound env is = λ s.
    ap (λ (e : Env). types_in (members_of e.structs s)) (sym is.scope) ∙ listed_same checker.types checker.names.structs s ∙
    ap (λ members. map (meaning checker.types) (member_types (unwrap_or (slice_get members s) []))) (sym sound.structs.members)

-- ---- forms one after another

-- what is left to show of the forms that are left
pub record IsRest (first now : Checker) (span : Span) (forms : List LayerAt) (left : Left) (others : List LayerAt) (made : Left) : Type 0 where
  pub is_in : IsIn now span.behind
  pub element : IsLeft now.types span made
  pub type : shaped span (reverse (forms_in now.types others)) (type_in now.types made) ≡ shaped span (reverse (forms_in first.types forms)) (type_in first.types left)
  pub large : (made.is_large || is_large_shape span (reverse (forms_in now.types others)) (type_in now.types made)) ≡
      (left.is_large || is_large_shape span (reverse (forms_in first.types forms)) (type_in first.types left))
  pub keeps : (new : Kept) → KeepsEach (kept_in now) (codes_by span (reverse (forms_in now.types others)) (type_in now.types made)) new →
      KeepsEach (kept_in first) (codes_by span (reverse (forms_in first.types forms)) (type_in first.types left)) new

pub record IsShaping (first now : Checker) (forms : List LayerAt) (left : Left) (may_be_absent : Bool) (others : List LayerAt) (made : Left) : Type 0 where
  pub puts : Puts first now
  pub known_left : IsKnownLeft now.types made
  pub known_forms : All (IsKnownAt now.types) others
  pub rest : (span : Span) → IsIn first span.behind → IsLeft first.types span left → span.may_be_absent ≡ may_be_absent → IsRest first now span forms left others made

module _ (first now next : Checker) (forms : List LayerAt) (left : Left) (may : Bool) (form : LayerAt) (others : List LayerAt) (made later : Left) where
  rest_then : Puts now next → IsTable now.types → All (IsKnownAt now.types) others → (span : Span) → IsRest first now span forms left (others ++ form ∷ []) made → IsIn next span.behind →
      IsStep now next span (form_at now.types form) made later → IsRest first next span forms left others later
  rest_then puts good known span rest is_in step =
      let ahead = ap reverse (map-append (form_at now.types) others (form ∷ [])) ∙ reverse-append (forms_in now.types others) (form_at now.types form ∷ []) in
      let same = ap reverse (forms_same now.types next.types good puts.sound.ready.table_is puts.longer others known) in
      let f = form_at now.types form in
      let fs = reverse (forms_in now.types others) in
      record {
        is_in = is_in;
        element = step.element;
        type = ap (λ gs. shaped span gs (type_in next.types later)) same ∙ ap (shaped span fs) step.type ∙ ap (λ gs. shaped span gs (type_in now.types made)) (sym ahead) ∙ rest.type;
        large = ap (λ gs. later.is_large || is_large_shape span gs (type_in next.types later)) same ∙ ap (λ t. later.is_large || is_large_shape span fs t) step.type ∙
            ap (λ b. b || is_large_shape span fs (shaped span (f ∷ []) (type_in now.types made))) step.large ∙
            or_again made.is_large (is_over span.behind (made_of f.form span (type_in now.types made))) (is_large_shape span fs (shaped span (f ∷ []) (type_in now.types made))) ∙
            ap (λ gs. made.is_large || is_large_shape span gs (type_in now.types made)) (sym ahead) ∙ rest.large;
        keeps = λ new each. rest.keeps new (subst (λ gs. KeepsEach (kept_in now) (codes_by span gs (type_in now.types made)) new) (sym ahead) (
          kept_in next,
          step.keeps,
          subst (λ t. KeepsEach (kept_in next) (codes_by span fs t) new) step.type
              (subst (λ gs. KeepsEach (kept_in next) (codes_by span gs (type_in next.types later)) new) same each),
        ));
      }

pub shaping_then : (first now next : Checker) (forms : List LayerAt) (left : Left) (may : Bool) (form : LayerAt) (others items : List LayerAt) (made later : Left) →
    items ≡ others ++ form ∷ [] → IsShaping first now forms left may items made → Puts now next → IsKnownLeft next.types later →
    ((span : Span) → IsIn now span.behind → IsLeft now.types span made → span.may_be_absent ≡ may → IsStep now next span (form_at now.types form) made later) →
    IsShaping first next forms left may others later
shaping_then first now next forms left may form others items made later popped shaping puts known step =
    let before = subst (λ items. IsShaping first now forms left may items made) popped shaping in
    let good = before.puts.sound.ready.table_is in
    let front = all_front (IsKnownAt now.types) others (form ∷ []) before.known_forms in
    record {
      puts = puts_then first now next before.puts puts;
      known_left = known;
      known_forms = layers_known now.types next.types good puts.sound.ready.table_is puts.longer others front;
      rest = λ span is_in element absent.
          let rest = before.rest span is_in element absent in
          rest_then first now next forms left may form others made later puts good front span rest
          (stays_in now next before.puts.sound puts.longer puts.names puts.outside span.behind rest.is_in) (step span rest.is_in rest.element absent);
    }

-- no form is left
pub shaping_ends : (first now : Checker) (forms : List LayerAt) (left : Left) (may : Bool) (items : List LayerAt) (made : Left) → items ≡ [] → IsShaping first now forms left may items made →
    (span : Span) → IsIn first span.behind → IsLeft first.types span left → span.may_be_absent ≡ may →
    IsShaped first now span (reverse (forms_in first.types forms)) left made
shaping_ends first now forms left may items made ended shaping span is_in element absent =
    let last = subst (λ items. IsShaping first now forms left may items made) ended shaping in
    let rest = last.rest span is_in element absent in
    record {
      type = rest.type;
      large = sym (or_nothing made.is_large) ∙ rest.large;
      element = rest.element;
      keeps = rest.keeps (kept_in now) refl;
    }
