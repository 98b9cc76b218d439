-- The type of a declarator is the one that its forms make, from the outermost on.
use Rattle.std.proofs.Common.{◌≡◌, ◌∙◌, Bool, List, Option, Some, None, ap, sym}
use Rattle.std.specs.Prelude.{◌||◌}
use Rattle.lk_tree.specs.declared.expression.DeclaratorForm.{out-DeclaratorForm, DeclaratorForm, roll-DeclaratorForm, out-roll-DeclaratorForm}
use Rattle.lk_tree.specs.declared.expression.Declarator.{Declarator}
use Rattle.lk_typed.specs.Expressions.{declarator_found, declarator_layer}
use Rattle.lk_typed.specs.MemberRules.{is_over}
use Rattle.lk_typed.specs.Layers.{DeclaratorLayer}
use Rattle.lk_typed.specs.Telling.{in_declarator}
use Rattle.lk_typed.specs.Told.{Span}
use Rattle.lk_typed.specs.Ty.{Ty}
use Rattle.lk_rules.proofs.Layered.{declarators_follow_their_forms}
use Rattle.lk_rules.specs.LayerLaws.{DeclaratorTree, declarator_parts_told}
use Rattle.lk_found.specs.FormsOf.{TypesFollowForms, HasForms, sized, with_parameters, star_alone, star, named, group, array_alone, array, function_alone, function}
use Rattle.lk_found.specs.Shaped.{FormAt, shaped, is_large_shape}
use Rattle.lk_found.specs.Shapes.{Form, APointer, made_of, type_by}

-- what is found of a declarator of this form
pub told_by : (d : Declarator) (form : DeclaratorTree) → out-DeclaratorForm d.form ≡ form → declarator_layer d ≡ in_declarator (declarator_parts_told form) d.spot d.ordinal
told_by d form is = declarators_follow_their_forms d ∙ ap (λ form. in_declarator (declarator_parts_told form) d.spot d.ordinal) is

abbrev type_told : Span → Option Ty → DeclaratorLayer → Option Ty
type_told span t l = l.told.type span t

abbrev large_told : Span → Option Ty → DeclaratorLayer → Bool
large_told span t l = l.told.is_large span t

type_shaped : (span : Span) (d : Declarator) (fs : List FormAt) → HasForms span.env d fs → (t : Option Ty) → (declarator_found d).type span t ≡ shaped span fs t
type_shaped span d fs (star_alone is) t = ap (type_told span t) (told_by d _ is)
type_shaped span d fs (star {inner = inner} {fs = gs} is inside) t = ap (type_told span t) (told_by d _ is) ∙ type_shaped span inner gs inside (type_by span APointer t)
type_shaped span d fs (named is) t = ap (type_told span t) (told_by d _ is)
type_shaped span d fs (group {inner = inner} is inside) t = ap (type_told span t) (told_by d _ is) ∙ type_shaped span inner fs inside t
type_shaped span d fs (array_alone {size = None} is) t = ap (type_told span t) (told_by d _ is)
type_shaped span d fs (array_alone {size = Some x} is) t = ap (type_told span t) (told_by d _ is)
type_shaped span d fs (array {inner = inner} {size = None} {fs = gs} is inside) t =
    ap (type_told span t) (told_by d _ is) ∙ type_shaped span inner gs inside (type_by span (sized span.env (Some inner) None) t)
type_shaped span d fs (array {inner = inner} {size = Some x} {fs = gs} is inside) t =
    ap (type_told span t) (told_by d _ is) ∙ type_shaped span inner gs inside (type_by span (sized span.env (Some inner) (Some x)) t)
type_shaped span d fs (function_alone is) t = ap (type_told span t) (told_by d _ is)
type_shaped span d fs (function {inner = inner} {ps = ps} {dots = dots} {fs = gs} is inside) t =
    ap (type_told span t) (told_by d _ is) ∙ type_shaped span inner gs inside (type_by span (with_parameters span.env (Some inner) ps dots) t)

-- whether a type that it makes is over a bound
over : Span → Form → Option Ty → Bool
over span form t = is_over span.behind (made_of form span t)

large_shaped : (span : Span) (d : Declarator) (fs : List FormAt) → HasForms span.env d fs → (t : Option Ty) → (declarator_found d).is_large span t ≡ is_large_shape span fs t
unfolding over
large_shaped span d fs (star_alone is) t = ap (large_told span t) (told_by d _ is)
large_shaped span d fs (star {inner = inner} {fs = gs} is inside) t =
    ap (large_told span t) (told_by d _ is) ∙ ap (λ b. over span APointer t || b) (large_shaped span inner gs inside (type_by span APointer t))
large_shaped span d fs (named is) t = ap (large_told span t) (told_by d _ is)
large_shaped span d fs (group {inner = inner} is inside) t = ap (large_told span t) (told_by d _ is) ∙ large_shaped span inner fs inside t
large_shaped span d fs (array_alone {size = None} is) t = ap (large_told span t) (told_by d _ is)
large_shaped span d fs (array_alone {size = Some x} is) t = ap (large_told span t) (told_by d _ is)
large_shaped span d fs (array {inner = inner} {size = None} {fs = gs} is inside) t =
    let form = sized span.env (Some inner) None in ap (large_told span t) (told_by d _ is) ∙ ap (λ b. over span form t || b) (large_shaped span inner gs inside (type_by span form t))
large_shaped span d fs (array {inner = inner} {size = Some x} {fs = gs} is inside) t =
    let form = sized span.env (Some inner) (Some x) in ap (large_told span t) (told_by d _ is) ∙ ap (λ b. over span form t || b) (large_shaped span inner gs inside (type_by span form t))
large_shaped span d fs (function_alone is) t = ap (large_told span t) (told_by d _ is)
large_shaped span d fs (function {inner = inner} {ps = ps} {dots = dots} {fs = gs} is inside) t =
    let form = with_parameters span.env (Some inner) ps dots in
    ap (large_told span t) (told_by d _ is) ∙ ap (λ b. over span form t || b) (large_shaped span inner gs inside (type_by span form t))

pub types_follow_forms : TypesFollowForms
types_follow_forms span d fs has t = (type_shaped span d fs has t, large_shaped span d fs has t)

-- a declarator of a form is of its layer
pub form_of : (d : Declarator) (f : DeclaratorForm) (form : DeclaratorTree) → d.form ≡ f → roll-DeclaratorForm form ≡ f → out-DeclaratorForm d.form ≡ form
form_of d f form is rolls = ap out-DeclaratorForm (is ∙ sym rolls) ∙ out-roll-DeclaratorForm form

-- the declared name, by the form
pub name_found : (d : Declarator) (form : DeclaratorTree) → out-DeclaratorForm d.form ≡ form → (in_declarator (declarator_parts_told form) d.spot d.ordinal).told.name ≡ (declarator_layer d).told.name
name_found d form is = sym (ap (λ (l : DeclaratorLayer). l.told.name) (told_by d form is))
