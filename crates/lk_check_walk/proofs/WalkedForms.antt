-- The forms of a declarator are walked from the name on.
use Rattle.std.proofs.Common.{◌≡◌, ◌∙◌, ◌++◌, ◌||◌, ℕ, Bool, true, false, List, [], ◌∷◌, Option, Some, None, All, IfSome, map, reverse, refl, sym, ap, subst}
use Rattle.std.specs.Prelude.{if◌then◌else◌, length, option_map}
use Rattle.std.proofs.lemmas.Bool.{false≢true}
use Rattle.std.proofs.lemmas.List.{map-append, reverse-append}
use Rattle.std.proofs.lemmas.List.Elements.{All-push}
use Rattle.lk_tree.specs.declared.expression.DeclaratorForm.TheOpen.{DeclaratorForm-F}
use Rattle.lk_tree.specs.declared.expression.DeclaratorForm.{out-DeclaratorForm}
use Rattle.lk_tree.specs.declared.expression.Declarator.{Declarator}
use Rattle.lk_tree.specs.declared.expression.Expr.{Expr}
use Rattle.lk_tree.specs.declared.expression.Parameter.{Parameter}
use Rattle.lk_tree.specs.declared.specifiers.Qualifier.{Qualifier}
use Rattle.lk_types.specs.Building.{IsLonger, IsTable}
use Rattle.lk_types.specs.Table.{Table}
use Rattle.lk_typed.specs.Env.{Additions, Env, both, enter, extend, nothing, past_scope}
use Rattle.lk_typed.specs.Expressions.{declarator_layer, expression}
use Rattle.lk_typed.specs.Layers.{parameters_of}
use Rattle.lk_typed.specs.NodeRules.{mark}
use Rattle.lk_typed.specs.Nodes.{AnExpression, Placed, at as at_env}
use Rattle.lk_typed.specs.Parts.{added_by, inner_adds, tellers}
use Rattle.lk_typed.specs.Telling.{in_declarator, size_added, size_holds}
use Rattle.lk_typed.specs.Typing.{Typing, constant_in}
use Rattle.lk_typed.specs.declared.role.Role.TheVariants.{Operand}
use Rattle.lk_typed.specs.declared.typed.Typed.{Typed}
use Rattle.lk_names.proofs.Environments.{left_scope_stays}
use Rattle.lk_names.specs.Growing.{InLeftScope, IsKnownLeft}
use Rattle.lk_rules.specs.LayerLaws.{DeclaratorTree, declarator_parts_told}
use Rattle.lk_check_decl.specs.Arrays.{size_of as size_in_code}
use Rattle.lk_found.proofs.FormsOf.{told_by}
use Rattle.lk_found.proofs.Inside.{same_role}
use Rattle.lk_found.proofs.Shaping.{forms_same}
use Rattle.lk_found.proofs.Environments.{extend_nothing}
use Rattle.lk_found.specs.Declarators.{scope_told}
use Rattle.lk_found.specs.FormsOf.{HasForms, formed, sized, with_parameters, star_alone, star, named, group, array_alone, array, function_alone, function}
use Rattle.lk_found.specs.Shaped.{FormAt, form_at, forms_in, IsKnownAt}
use Rattle.lk_found.specs.Shapes.{APointer, AnArray, AFunction, Form, form_in, params_in}
use Rattle.lk_found.specs.Walked.{HasFunction, HasInner, HasLayer, none, some, inside, inside_inner, layer_of, parameter_parts, size_part}
use Rattle.lk_found.specs.Findings.{IsFoundTyping}
use Rattle.lk_found.specs.declared.walked.SizeFound.{SizeFound}
use Rattle.lk_found.specs.declared.found.At.{At}
use Rattle.lk_found.specs.declared.found.Found.{Found}
use Rattle.lk_found.specs.declared.found.Stands.{Stands}
use Rattle.lk_found.specs.declared.layers.Layer.{Layer}
use Rattle.lk_found.specs.declared.parameters.ParametersFound.{ParametersFound}
use Rattle.lk_found.specs.declared.shapes.LayerAt.{LayerAt}
use Rattle.lk_found.specs.declared.walked.Walked.{Walked}
use Rattle.lk_typed.specs.declared.role.Role as declared
use Rattle.lk_found.specs.declared.layers.Layer.TheVariants as layer
use Rattle.lk_checker.proofs.GoingOn.{stands_behind}
use Rattle.lk_checker.specs.Shaped.{IsKnownWalked}
use Rattle.lk_checker.specs.States.{operand_in, IsIn, IsSound, StandsIn}
use Rattle.lk_checker.specs.declared.checker.Checker.{Checker}
use Rattle.lk_checker.proofs.Whole.{place_is}
use Rattle.lk_check_walk.proofs.Walking.{no_walk, then_walks}
use Rattle.lk_check_walk.specs.Parameters.{AreKnownParameters, AreParametersFound, FindsParameters}
use Rattle.lk_check_walk.specs.Walked.{FindsSize, HasWalked, HasWalkedInner, IsSizeFound, IsWalked, WalksForms, WalksInner}
use Rattle.lk_check_walk.specs.Walking.{Judges}
use Rattle.lk_check_walk.specs.Walks.{Walks}

-- ---- lists of forms

layers_more : (table : Table) (before after : List LayerAt) (l : LayerAt) (f : FormAt) (fs : List FormAt) → after ≡ before ++ l ∷ [] → form_at table l ≡ f → forms_in table before ≡ reverse fs →
    forms_in table after ≡ reverse (f ∷ fs)
layers_more table before after l f fs more is same =
    ap (map (form_at table)) more ∙ map-append (form_at table) before (l ∷ []) ∙ ap (λ g. forms_in table before ++ g ∷ []) is ∙ ap (λ gs. gs ++ f ∷ []) same ∙ sym (reverse-append (f ∷ []) fs)

or_nothing : (b : Bool) → (b || false) ≡ b
or_nothing true = refl
or_nothing false = refl

adds_of : (o : Option Declarator) (e : Env) → inner_adds o e ≡ (layer_of o).told.additions e
adds_of None e = refl
adds_of (Some d) e = refl

-- ---- the forms of a declarator around one that may be missing

star_has : {e : Env} {d : Declarator} {qs : List Qualifier} {o : Option Declarator} {fs : List FormAt} → out-DeclaratorForm d.form ≡ DeclaratorForm-F.Star qs o → (h : HasInner e o fs) →
    (has : HasForms e d (formed d APointer ∷ fs)) × (inside has ≡ inside_inner h)
star_has is none = (star_alone is, refl)
star_has is (some h) = (star is h, refl)

array_has : {e : Env} {d : Declarator} {o : Option Declarator} {size : Option Expr} {fs : List FormAt} → out-DeclaratorForm d.form ≡ DeclaratorForm-F.ArrayOf o size → (h : HasInner e o fs) →
    (has : HasForms e d (formed d (sized e o size) ∷ fs)) × (inside has ≡ inside_inner h ++ size_part e o size)
array_has is none = (array_alone is, refl)
array_has is (some h) = (array is h, refl)

function_has : {e : Env} {d : Declarator} {o : Option Declarator} {ps : List Parameter} {dots : Bool} {fs : List FormAt} → out-DeclaratorForm d.form ≡ DeclaratorForm-F.FunctionOf o ps dots → (h : HasInner e o fs) →
    (has : HasForms e d (formed d (with_parameters e o ps dots) ∷ fs)) × (inside has ≡ inside_inner h ++ parameter_parts e o ps dots)
function_has is none = (function_alone is, refl)
function_has is (some h) = (function is h, refl)

-- ---- what was walked, in a later state

module _ (old new : Checker) (longer : IsLonger old.types new.types) (sound : IsSound old) (good : IsTable new.types) where
  pub scope_stays : (o : Option InLeftScope) → IfSome o (IsKnownLeft old.types (length old.names.structs)) → scope_told new.types o ≡ scope_told old.types o
  scope_stays None known = refl
  scope_stays (Some scope) known = left_scope_stays old.types new.types sound.ready.table_is longer (length old.names.structs) scope known

  layers_stay : (layers : List LayerAt) (fs : List FormAt) → All (IsKnownAt old.types) layers → forms_in old.types layers ≡ fs → forms_in new.types layers ≡ fs
  layers_stay layers fs known is = forms_same old.types new.types sound.ready.table_is good longer layers known ∙ is

-- ---- one form

-- what is found of the whole is what its form tells
as_told : {at_end : Env} {old new : Checker} {env : Env} {fs : List FormAt} {ps : List Placed} {w : Walked} (d : Declarator) (form : DeclaratorTree) → out-DeclaratorForm d.form ≡ form →
    IsWalked at_end old new env (in_declarator (declarator_parts_told form) d.spot d.ordinal) fs ps w → IsWalked at_end old new env (declarator_layer d) fs ps w
as_told {at_end} {old} {new} {env} {fs} {ps} {w} d form is walked = subst (λ l. IsWalked at_end old new env l fs ps w) (sym (told_by d form is)) walked

module _ {at_end : Env} {old new : Checker} {env : Env} (d : Declarator) where
  pub name_walked : {name : List ℕ} (w : Walked) → out-DeclaratorForm d.form ≡ DeclaratorForm-F.Named name → IsSound old → IsIn old env → w.layers.items ≡ [] → w.is_name ≡ true → w.holds_sizeof ≡ false →
      w.parameters ≡ None → old ≡ new → HasWalked at_end old new env d w
  name_walked w is sound is_in layers is_name holds parameters same = record {
    forms = [];
    has = named is;
    walked = as_told d _ is (record {
      walks = subst (λ new. Walks at_end old new env nothing []) same (no_walk at_end old env sound is_in);
      layers = ap (forms_in new.types) layers;
      is_name = is_name;
      alone = λ e. refl;
      holds_sizeof = holds;
      parameters = ap (scope_told new.types) parameters;
    });
  }

  pub group_walked : {inner : Declarator} (w : Walked) → out-DeclaratorForm d.form ≡ DeclaratorForm-F.Group inner → HasWalked at_end old new env inner w → HasWalked at_end old new env d w
  group_walked w is h = record { forms = h.forms; has = group is h.has; walked = as_told d _ is h.walked }

  pub pointer_walked : {qs : List Qualifier} {o : Option Declarator} (before after : Walked) (l : LayerAt) → out-DeclaratorForm d.form ≡ DeclaratorForm-F.Star qs o →
      form_at new.types l ≡ formed d APointer → HasLayer before after l false → HasWalkedInner at_end old new env o before → HasWalked at_end old new env d after
  pointer_walked {qs} {o} before after l is form more h =
      let has = star_has is h.has in
      record {
        forms = formed d APointer ∷ h.forms;
        has = has.0;
        walked = as_told d _ is (record {
          walks = subst (Walks at_end old new env ((layer_of o).told.additions env)) (sym has.1) h.walked.walks;
          layers = layers_more new.types before.layers.items after.layers.items l (formed d APointer) h.forms more.layers form h.walked.layers;
          is_name = more.is_name;
          alone = λ e. absurd (false≢true e);
          holds_sizeof = more.holds_sizeof ∙ or_nothing before.holds_sizeof ∙ h.walked.holds_sizeof;
          parameters = ap (scope_told new.types) more.parameters ∙ h.walked.parameters;
        });
      }

pub none_walked : {at_end : Env} {old new : Checker} {env : Env} (w : Walked) → IsSound old → IsIn old env → w.layers.items ≡ [] → w.is_name ≡ false → w.holds_sizeof ≡ false → w.parameters ≡ None →
    old ≡ new → HasWalkedInner at_end old new env None w
none_walked {at_end} {old} {new} {env} w sound is_in layers is_name holds parameters same = record {
  forms = [];
  has = none;
  walked = record {
    walks = subst (λ new. Walks at_end old new env nothing []) same (no_walk at_end old env sound is_in);
    layers = ap (forms_in new.types) layers;
    is_name = is_name;
    alone = λ e. refl;
    holds_sizeof = holds;
    parameters = ap (scope_told new.types) parameters;
  };
}

pub some_walked : {at_end : Env} {old new : Checker} {env : Env} {d : Declarator} (w : Walked) → HasWalked at_end old new env d w → HasWalkedInner at_end old new env (Some d) w
some_walked w h = record { forms = h.forms; has = some h.has; walked = h.walked }

-- ---- a size or parameters behind the declarator inside

size_adds : (size : Option Expr) (e : Env) → added_by size e ≡ size_added (option_map expression size) e
size_adds None e = refl
size_adds (Some x) e = refl

-- what follows stands behind the declarator inside
then_walked : (at_end : Env) (old middle new : Checker) (env : Env) (o : Option Declarator) (ps : List Placed) (b : Additions) (qs : List Placed) → Walks at_end old middle env ((layer_of o).told.additions env) ps →
    Walks at_end middle new (extend env (inner_adds o env)) b qs → Walks at_end old new env (both ((layer_of o).told.additions env) b) (ps ++ qs)
then_walked at_end old middle new env o ps b qs first walks =
    then_walks at_end old middle new env ((layer_of o).told.additions env) b ps qs first (subst (λ a. Walks at_end middle new (extend env a) b qs) (adds_of o env) walks)

module _ {at_end : Env} {old middle new : Checker} {env : Env} (d : Declarator) (o : Option Declarator) (before : Walked) (known : IsKnownWalked middle before) (h : HasWalkedInner at_end old middle env o before) where
  pub array_walked : {size : Option Expr} (after : Walked) (found : SizeFound) (l : LayerAt) → out-DeclaratorForm d.form ≡ DeclaratorForm-F.ArrayOf o size →
      form_at new.types l ≡ formed d (AnArray (size_in_code found.size)) → HasLayer before after l found.holds_sizeof →
      IsSizeFound at_end middle new (extend env (inner_adds o env)) size found → HasWalked at_end old new env d after
  array_walked {size} after found l is form more s =
      let has = array_has is h.has in
      let behind = extend env (inner_adds o env) in
      let f = formed d (sized env o size) in
      let sound = h.walked.walks.sound in
      let good = s.walks.sound.ready.table_is in
      let b = added_by size behind in
      record {
        forms = f ∷ h.forms;
        has = has.0;
        walked = as_told d _ is (record {
          walks = subst (λ b. Walks at_end old new env (both ((layer_of o).told.additions env) b) (inside has.0)) (size_adds size behind ∙ ap (λ a. size_added (option_map expression size) (extend env a)) (adds_of o env))
              (subst (Walks at_end old new env (both ((layer_of o).told.additions env) b)) (sym has.1) (then_walked at_end old middle new env o (inside_inner h.has) b (size_part env o size) h.walked.walks s.walks));
          layers = layers_more new.types before.layers.items after.layers.items l f h.forms more.layers (form ∙ ap (λ n. formed d (AnArray n)) s.size)
              (layers_stay middle new s.walks.longer sound good before.layers.items (reverse h.forms) known.layers h.walked.layers);
          is_name = more.is_name;
          alone = λ e. absurd (false≢true e);
          holds_sizeof = more.holds_sizeof ∙ ap (λ x. x || found.holds_sizeof) h.walked.holds_sizeof ∙
              ap (λ x. (layer_of o).told.holds_sizeof env || x) (s.holds_sizeof ∙ ap (λ a. size_holds (option_map expression size) (extend env a)) (adds_of o env));
          parameters = ap (scope_told new.types) more.parameters ∙ scope_stays middle new s.walks.longer sound good before.parameters known.parameters ∙ h.walked.parameters;
        });
      }

  -- what the parameters beside the name declare
  beside : {ps : List Parameter} {dots : Bool} (found : ParametersFound) (p : AreParametersFound at_end middle new (extend env (inner_adds o env)) ps dots found) (is_name : Bool) → before.is_name ≡ is_name →
      scope_told new.types (if is_name then Some found.scope else before.parameters) ≡
      record ((if is_name then (λ (e : Env). (parameters_of (tellers ps) dots e).additions) else (layer_of o).told.parameters) (enter env)) { structs = [] }
  beside {ps} {dots} found p true is =
      let alone = h.walked.alone (sym h.walked.is_name ∙ is) in
      p.scope ∙ ap (λ (e : Env). record (parameters_of (tellers ps) dots (enter e)).additions { structs = [] }) (ap (extend env) (adds_of o env ∙ alone) ∙ extend_nothing env)
  beside found p false is = scope_stays middle new p.walks.longer h.walked.walks.sound p.walks.sound.ready.table_is before.parameters known.parameters ∙ h.walked.parameters

  pub function_walked : {ps : List Parameter} {dots : Bool} (after : Walked) (found : ParametersFound) (l : LayerAt) → out-DeclaratorForm d.form ≡ DeclaratorForm-F.FunctionOf o ps dots →
      form_at new.types l ≡ formed d (AFunction (params_in new.types found.types) dots) → after.layers.items ≡ before.layers.items ++ l ∷ [] → after.is_name ≡ false →
      after.holds_sizeof ≡ (before.holds_sizeof || found.holds_sizeof) → after.parameters ≡ (if before.is_name then Some found.scope else before.parameters) →
      AreParametersFound at_end middle new (extend env (inner_adds o env)) ps dots found → HasWalked at_end old new env d after
  function_walked {ps} {dots} after found l is form layers is_name holds parameters p =
      let has = function_has is h.has in
      let told = λ (a : Additions). parameters_of (tellers ps) dots (enter (extend env a)) in
      let f = formed d (with_parameters env o ps dots) in
      let sound = h.walked.walks.sound in
      let good = p.walks.sound.ready.table_is in
      record {
        forms = f ∷ h.forms;
        has = has.0;
        walked = as_told d _ is (record {
          walks = subst (λ x. Walks at_end old new env (both ((layer_of o).told.additions env) (past_scope (told x).additions)) (inside has.0)) (adds_of o env)
              (subst (Walks at_end old new env (both ((layer_of o).told.additions env) (past_scope (told (inner_adds o env)).additions))) (sym has.1) (then_walked at_end old middle new env o (inside_inner h.has) (past_scope (told (inner_adds o env)).additions) (parameter_parts env o ps dots) h.walked.walks p.walks));
          layers = layers_more new.types before.layers.items after.layers.items l f h.forms layers (form ∙ ap (λ ts. formed d (AFunction ts dots)) p.types)
              (layers_stay middle new p.walks.longer sound good before.layers.items (reverse h.forms) known.layers h.walked.layers);
          is_name = is_name;
          alone = λ e. absurd (false≢true e);
          holds_sizeof = holds ∙ ap (λ x. x || found.holds_sizeof) h.walked.holds_sizeof ∙
              ap (λ x. (layer_of o).told.holds_sizeof env || x) (p.holds_sizeof ∙ ap (λ x. (told x).holds_sizeof) (adds_of o env));
          parameters = ap (scope_told new.types) parameters ∙ beside found p before.is_name refl ∙
              ap (λ b. record ((if b then (λ (e : Env). (parameters_of (tellers ps) dots e).additions) else (layer_of o).told.parameters) (enter env)) { structs = [] }) h.walked.is_name;
        });
      }

abbrev at_place : At → Layer → LayerAt
at_place at l = record { at = at; layer = l }

formed_at : (table : Table) (at : At) (l : Layer) (d : Declarator) (form : Form) → at.spot ≡ d.spot → at.ordinal ≡ d.ordinal → form_in table l ≡ form → form_at table (at_place at l) ≡ formed d form
formed_at table at l d form spot ordinal is = ap (λ m. record { mark = m; form = form_in table l }) (place_is at d spot ordinal) ∙ ap (λ f. record { mark = mark d.spot d.ordinal; form = f }) is

module _ (old middle new : Checker) (in_size : Bool) (d : Declarator) (at : At) (spot : at.spot ≡ d.spot) (ordinal : at.ordinal ≡ d.ordinal) where
  pub star_walks : (qs : List Qualifier) (o : Option Declarator) (before after : Walked) → out-DeclaratorForm d.form ≡ DeclaratorForm-F.Star qs o → WalksInner old new in_size o before →
      HasLayer before after (at_place at layer.Pointer) false → WalksForms old new in_size d after
  star_walks qs o before after is inner more at_end env stands =
      pointer_walked d before after (at_place at layer.Pointer) is (formed_at new.types at layer.Pointer d APointer spot ordinal refl) more (inner at_end env stands)

  -- what follows the declarator inside
  stands_then : (o : Option Declarator) (before : Walked) (at_end env : Env) → StandsIn old (operand_in in_size) env → HasWalkedInner at_end old middle env o before →
      StandsIn middle (operand_in in_size) (extend env (inner_adds o env))
  stands_then o before at_end env stands h =
      stands_behind old middle in_size env (inner_adds o env) stands (subst (λ a. IsIn middle (extend env a)) (sym (adds_of o env)) h.walked.walks.behind)

  pub array_walks : (o : Option Declarator) (size : Option Expr) (before after : Walked) (found : SizeFound) → out-DeclaratorForm d.form ≡ DeclaratorForm-F.ArrayOf o size → WalksInner old middle in_size o before →
      IsKnownWalked middle before → FindsSize middle new in_size size found → HasLayer before after (at_place at (layer.Array found.size)) found.holds_sizeof → WalksForms old new in_size d after
  array_walks o size before after found is inner known finds more at_end env stands =
      let h = inner at_end env stands in
      array_walked d o before known h after found (at_place at (layer.Array found.size)) is (formed_at new.types at (layer.Array found.size) d (AnArray (size_in_code found.size)) spot ordinal refl) more
      (finds at_end (extend env (inner_adds o env)) (stands_then o before at_end env stands h))

  pub function_walks : (o : Option Declarator) (ps : List Parameter) (dots : Bool) (before after : Walked) (found : ParametersFound) → out-DeclaratorForm d.form ≡ DeclaratorForm-F.FunctionOf o ps dots →
      WalksInner old middle in_size o before → IsKnownWalked middle before → FindsParameters middle new in_size ps dots found → HasFunction before after at dots found → WalksForms old new in_size d after
  function_walks o ps dots before after found is inner known finds more at_end env stands =
      let h = inner at_end env stands in
      let l = at_place at (layer.Function found.types dots) in
      function_walked d o before known h after found l is (formed_at new.types at (layer.Function found.types dots) d (AFunction (params_in new.types found.types) dots) spot ordinal refl)
      more.layers more.is_name more.holds_sizeof more.parameters (finds at_end (extend env (inner_adds o env)) (stands_then o before at_end env stands h))

pub name_walks : (old : Checker) (in_size : Bool) (d : Declarator) (name : List ℕ) (w : Walked) → IsSound old → out-DeclaratorForm d.form ≡ DeclaratorForm-F.Named name → w.layers.items ≡ [] → w.is_name ≡ true →
    w.holds_sizeof ≡ false → w.parameters ≡ None → WalksForms old old in_size d w
name_walks old in_size d name w sound is layers is_name holds parameters at_end env stands = name_walked d w is sound stands.is_in layers is_name holds parameters refl

pub group_walks : (old new : Checker) (in_size : Bool) (d inner : Declarator) (w : Walked) → out-DeclaratorForm d.form ≡ DeclaratorForm-F.Group inner → WalksForms old new in_size inner w → WalksForms old new in_size d w
group_walks old new in_size d inner w is walks at_end env stands = group_walked d w is (walks at_end env stands)

pub inner_walks : (old new : Checker) (in_size : Bool) (d : Declarator) (w : Walked) → WalksForms old new in_size d w → WalksInner old new in_size (Some d) w
inner_walks old new in_size d w walks at_end env stands = some_walked w (walks at_end env stands)

pub nothing_walks : (old : Checker) (in_size : Bool) (w : Walked) → IsSound old → w.layers.items ≡ [] → w.is_name ≡ false → w.holds_sizeof ≡ false → w.parameters ≡ None → WalksInner old old in_size None w
nothing_walks old in_size w sound layers is_name holds parameters at_end env stands = none_walked w sound stands.is_in layers is_name holds parameters refl

-- ---- the size

constant_found : (table : Table) (found : Found) (x : Option Typing) → IsFoundTyping table found x → Some (option_map (λ (t : Typed). t.constant) found.typing) ≡ Some (constant_in x)
constant_found table found None is = ap (λ (o : Option Typed). Some (option_map (λ (t : Typed). t.constant) o)) is
constant_found table found (Some x) is = ap (λ (o : Option Typed). Some (option_map (λ (t : Typed). t.constant) o)) is.1 ∙ ap (λ c. Some (Some c)) is.2.constant

stands_is : (s : Stands) → s.role ≡ Operand → s ≡ operand_in s.in_size
stands_is s is = ap (λ (role : declared.Role). record { role = role; in_size = s.in_size }) is

pub size_found : (old new : Checker) (stands : Stands) (e : Expr) (judged : Found) (found : SizeFound) → stands.role ≡ Operand → Judges old new stands e judged →
    size_in_code found.size ≡ Some (option_map (λ (t : Typed). t.constant) judged.typing) → found.holds_sizeof ≡ judged.look.holds_sizeof → FindsSize old new stands.in_size (Some e) found
size_found old new stands e judged found is judges size holds at_end env here =
    let h = judges at_end env (subst (λ s. StandsIn old s env) (sym (stands_is stands is)) here) in
    let same = sym (same_role env (sym here.role)) in
    record {
      walks = subst (λ e'. Walks at_end old new env (expression e e').adds (at_env env (AnExpression e) ∷ [])) same h.walks;
      size = size ∙ constant_found new.types judged (expression e env).typing h.found.typing ∙ ap (λ e'. Some (constant_in (expression e e').typing)) same;
      holds_sizeof = holds ∙ sym h.found.look.holds_sizeof ∙ ap (λ e'. (expression e e').look.holds_sizeof) same;
    }

-- ---- what is known of a function's

pub function_known : (new : Checker) (before after : Walked) (found : ParametersFound) (at : At) (dots : Bool) → IsKnownWalked new before → AreKnownParameters new found → HasFunction before after at dots found →
    IsKnownWalked new after
function_known new before after found at dots known params more = record {
  layers = subst (All (IsKnownAt new.types)) (sym more.layers) (All-push (IsKnownAt new.types) before.layers.items (at_place at (layer.Function found.types dots)) known.layers params.types);
  parameters = subst (λ o. IfSome o (IsKnownLeft new.types (length new.names.structs))) (sym more.parameters) (of before.is_name);
}
  where
    of : (b : Bool) → IfSome (if b then Some found.scope else before.parameters) (IsKnownLeft new.types (length new.names.structs))
    of true = params.scope
    of false = known.parameters
