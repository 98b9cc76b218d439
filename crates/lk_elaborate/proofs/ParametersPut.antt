-- The parameters of a definition are put as the rule for them says, by the type of the function (C99 6.7.5.3, 6.9.1).
use Rattle.std.proofs.Common.{◌≡◌, ◌∙◌, ◌++◌, ◌&&◌, ℕ, Bool, true, false, not, if◌then◌else◌, List, [], ◌∷◌, Option, Some, None, map, option_map, refl, sym, ap, subst}
use Rattle.std.proofs.lemmas.Bool.{false≢true}
use Rattle.std.proofs.lemmas.Option.{none-some, same_Some}
use Rattle.lk_tree.specs.declared.expression.Declarator.{Declarator}
use Rattle.lk_tree.specs.declared.expression.Parameter.{Parameter, out-Parameter}
use Rattle.lk_tree.specs.declared.statement.Unit.{Unit}
use Rattle.lk_types.specs.declared.c_type.CType.{CType}
use Rattle.lk_typed.specs.DeclarationRules.{InDefinition, InType, specifier_rules, type_in}
use Rattle.lk_typed.specs.DeclaratorRules.{adjusted, parameter_rules}
use Rattle.lk_typed.specs.Env.{Env, Name, enter, extend}
use Rattle.lk_typed.specs.Expressions.{declarator_found, declarator_layer, parameter_found, specifier_found, specifiers_found}
use Rattle.lk_typed.specs.Faults.{Breach}
use Rattle.lk_typed.specs.Layers.{DeclaratorLayer, ParameterTeller, each_parameter, has_name, is_void_type, no_parameter, one_more, parameter_told, parameter_type, parameters_of, span_of, with_declarator}
use Rattle.lk_typed.specs.Locals.{AreParameters, EachParameter, HasParameters}
use Rattle.lk_typed.specs.Locals.AreParameters.{lone, none, several, void_alone}
use Rattle.lk_typed.specs.Locals.EachParameter.{next, no_more}
use Rattle.lk_typed.specs.Meaning.{meaning}
use Rattle.lk_typed.specs.MemberRules.{within_bounds}
use Rattle.lk_typed.specs.Parts.{tellers}
use Rattle.lk_typed.specs.Told.{Named, SpecifierTeller, specifiers, type_of, unless_broken}
use Rattle.lk_typed.specs.Ty.{Function, Ty, Tys, list_of, types_of}
use Rattle.lk_typed.specs.declared.unit.Local.{Local}
use Rattle.lk_rules.proofs.Layered.{parameters_follow_their_parts}
use Rattle.lk_elaborator.specs.declared.elaborator.Elaborator.{Elaborator}
use Rattle.lk_elaborate.specs.PuttingParameters.{AreParametersOf, AreParametersSo, AreTypesOf, HasBeside}
use Rattle.lk_elaborate.specs.PuttingParameters.AreParametersSo.{all_put, one_put}
use Rattle.lk_elab_init.specs.Source.{IsToldSource}
use Rattle.lk_elaborate.proofs.FunctionTypes.{made_beside}
use Rattle.lk_elaborate.proofs.LocalsOf.{local_of}

-- ---- `void` alone has no type as a parameter

void_missing : (env : Env) (name : Option Named) (bs : List Breach) (t : Option Ty) → is_void_type t ≡ true → parameter_type env name (unless_broken bs t) ≡ None
void_missing env name [] None is = refl
void_missing env name [] (Some t) is = ap (λ b. if b then None else unless_broken (parameter_rules (has_name name) (Some t)) (within_bounds env (Some (adjusted t)))) is
void_missing env name (b ∷ bs) t is = refl

void_told : (ss : List SpecifierTeller) (inner : Option DeclaratorLayer) (env : Env) → (parameter_told ss inner env).is_bare_void ≡ true → (parameter_told ss inner env).type ≡ None
void_told ss None env is =
    let told = specifiers ss env false in
    let whole = with_declarator env true told None in
    void_missing (extend env whole.additions) whole.name (specifier_rules InType told) (type_of told) is
void_told ss (Some inner) env is = absurd (false≢true is)

void_untyped : (p : Parameter) (env : Env) → (parameter_found p env).is_bare_void ≡ true → (parameter_found p env).type ≡ None
void_untyped p env is =
    let parts = parameters_follow_their_parts p in
    ap (λ (f : ParameterTeller). (f env).type) parts ∙
    void_told (map specifier_found (out-Parameter p).specifiers) (option_map declarator_layer (out-Parameter p).declarator) env (sym (ap (λ (f : ParameterTeller). (f env).is_bare_void) parts) ∙ is)

-- ---- lists

same_head : {A : Type 0} {a b : A} {xs ys : List A} → a ∷ xs ≡ b ∷ ys → a ≡ b
same_head is = cc

same_tail : {A : Type 0} {a b : A} {xs ys : List A} → a ∷ xs ≡ b ∷ ys → xs ≡ ys
same_tail is = cc

never_both : {A : Type 0} {a : A} {xs : List A} → a ∷ xs ≡ [] → ⊥
never_both is = cc

-- the types of two parts, where there are types of both
record AreTyped (first : Option Ty) (others : Option (List Ty)) (params : List Ty) : Type 0 where
  t : Ty
  ts : List Ty
  is : first ≡ Some t
  are : others ≡ Some ts
  both : params ≡ t ∷ ts

typed_by : (first : Option Ty) (others : Option (List Ty)) (params : List Ty) → one_more first others ≡ Some params → AreTyped first others params
typed_by None others params is = absurd (none-some params is)
typed_by (Some t) None params is = absurd (none-some params is)
typed_by (Some t) (Some ts) params is = record { t = t; ts = ts; is = refl; are = refl; both = sym (same_Some (t ∷ ts) params is) }

listed : (ts : List Ty) → list_of (types_of ts) ≡ ts
listed [] = refl
listed (t ∷ ts) = ap (λ us. t ∷ us) (listed ts)

same_types : (ts us : List Ty) → types_of ts ≡ types_of us → ts ≡ us
same_types ts us is = sym (listed ts) ∙ ap list_of is ∙ listed us

same_params : {a b : Ty} {xs ys : Tys} {c d : Bool} → Function a xs c ≡ Function b ys d → xs ≡ ys
same_params is = cc

first_holds : (a b : Bool) → (a && b) ≡ true → a ≡ true
first_holds true b is = refl
first_holds false b is = is

-- ---- parameters of these types

module _ (externs : List Name) (unit : Unit) (walk : Elaborator) (told : IsToldSource externs unit walk) (more : List CType) where
  Each : Env → List Parameter → List Local → Type 0
  Each = EachParameter externs unit (walk.types.types ++ more)

  abbrev meant : List ℕ → List Ty
  meant ts = map (meaning walk.types) ts

  each : {ps : List Parameter} {ts : List ℕ} {locals : List Local} → AreParametersSo walk ps ts locals → (env : Env) (params : List Ty) → (each_parameter (tellers ps) env).types ≡ Some params →
      meant ts ≡ params → Each env ps locals
  unfolding Each
  each {ps = []} all_put env params found is = no_more
  each {ps = p ∷ ps} all_put env params found is =
      let typed = typed_by (parameter_found p env).type (each_parameter (tellers ps) (extend env (parameter_found p env).additions)).types params found in
      absurd (never_both (sym (is ∙ typed.both)))
  each (one_put {p = p} {ps = ps} {t = t} {ts = ts} {local = local} one others) env params found is =
      let behind = extend env (parameter_found p env).additions in
      let typed = typed_by (parameter_found p env).type (each_parameter (tellers ps) behind).types params found in
      let same = is ∙ typed.both in
      next typed.is (local_of externs unit walk told more local typed.t one.so (ap (meaning walk.types) one.type ∙ same_head same)) (one.stands externs unit)
      (each others behind typed.ts typed.are (same_tail same))

  lone_by : (p : Parameter) (env : Env) (params : List Ty) {locals : List Local} → (each_parameter (tellers (p ∷ [])) env).types ≡ Some params → Each env (p ∷ []) locals →
      (b : Bool) → (parameter_found p env).is_bare_void ≡ b → AreParameters externs unit (walk.types.types ++ more) env (p ∷ []) locals
  unfolding Each
  lone_by p env params found are false is = lone is are
  lone_by p env params found are true is = absurd (none-some params (sym (ap (λ t. one_more t (Some [])) (void_untyped p env is)) ∙ found))

  one_by : (p : Parameter) (dots : Bool) {ts : List ℕ} {locals : List Local} (env : Env) (params : List Ty) → AreParametersSo walk (p ∷ []) ts locals → meant ts ≡ params → (b : Bool) →
      ((parameter_found p env).is_bare_void && not dots) ≡ b →
      (if b then record no_parameter { additions = (parameter_found p env).additions; holds_sizeof = (parameter_found p env).holds_sizeof } else each_parameter (tellers (p ∷ [])) env).types ≡ Some params →
      AreParameters externs unit (walk.types.types ++ more) env (p ∷ []) locals
  one_by p dots env params all_put is true void found = void_alone (first_holds (parameter_found p env).is_bare_void (not dots) void)
  one_by p dots env params (one_put one others) is true void found = absurd (never_both (is ∙ sym (same_Some [] params found)))
  one_by p dots env params are is false void found = lone_by p env params found (each are env params found is) (parameter_found p env).is_bare_void refl

  are_parameters : (ps : List Parameter) (dots : Bool) {ts : List ℕ} {locals : List Local} (env : Env) (params : List Ty) → AreParametersSo walk ps ts locals → meant ts ≡ params →
      (parameters_of (tellers ps) dots env).types ≡ Some params → AreParameters externs unit (walk.types.types ++ more) env ps locals
  unfolding Each
  are_parameters [] dots env params all_put is found = none
  are_parameters (p ∷ []) dots env params are is found = one_by p dots env params are is ((parameter_found p env).is_bare_void && not dots) refl found
  are_parameters (p ∷ q ∷ ps) dots env params are is found = several (each are env params found is)

-- those of a definition, whose types are those in its type
pub parameters_put : (walk : Elaborator) (d : Declarator) (t : ℕ) (ps : List Parameter) (ts : List ℕ) (locals : List Local) → HasBeside d ps → AreTypesOf walk.types (meaning walk.types t) ts →
    AreParametersSo walk ps ts locals → AreParametersOf walk d t ps locals
parameters_put walk d t ps ts locals has types are externs unit told env node same type more =
    let specified = specifiers_found node.specifiers env false in
    let after = extend env specified.additions in
    let declared = declarator_found node.declarator in
    let made = made_beside (subst (λ d. HasParameters d ps has.0) (sym same) has.1) (span_of after false declared) (type_in InDefinition specified) (meaning walk.types t) type in
    are_parameters externs unit walk told more ps has.0 (enter after) made.params are (same_types _ _ (same_params (sym types.2 ∙ made.is))) made.types
