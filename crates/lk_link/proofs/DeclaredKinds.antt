-- A declared name is a function exactly where its type is one of functions.
use Rattle.std.proofs.Common.{◌≡◌, ◌∙◌, ◌++◌, Bool, true, false, List, [], ◌∷◌, None, Option, Some, append_assoc, ap, ℕ, if◌then◌else◌, refl, sym}
use Rattle.std.proofs.lemmas.Option.{none-some, same_Some}
use Rattle.std.proofs.lemmas.Slice.Eq.{bytes_eq-Decides}
use Rattle.std.specs.List.{slice_get}
use Rattle.lk_tree.specs.declared.declaration.InitDeclarator.{InitDeclarator}
use Rattle.lk_tree.specs.declared.specifiers.Storage.{Storage}
use Rattle.lk_tree.specs.declared.statement.Function.{Function as Definition}
use Rattle.lk_types.specs.declared.c_type.CType.{CType}
use Rattle.lk_types.specs.declared.c_type.CType.TheVariants as form
use Rattle.lk_typed.specs.DeclarationRules.{AtFile, Defined, InDeclaration, InDefinition, Scope, has, is_static_object, is_typedef, meaning_of, type_in}
use Rattle.lk_typed.specs.Declarations.{completed, composite, composite_if_equal, declared_as, given_by, may_lack_size, name_adds, named_additions, one_name, type_of_name}
use Rattle.lk_typed.specs.Entities.{DeclaresName, NameDeclared, entity_kind, in_declaration, by_definition, specifiers_of}
use Rattle.lk_typed.specs.Env.{AFunction, ATypedef, AnObject, Additions, Declared, Env, Name, both, extend, is_name, latest, look_up, or_else}
use Rattle.lk_typed.specs.Expressions.{declarator_found, specifiers_found}
use Rattle.lk_typed.specs.Faults.{Breach}
use Rattle.lk_typed.specs.Layers.{type_made}
use Rattle.lk_typed.specs.NodeParts.{type_declared}
use Rattle.lk_typed.specs.Nodes.{Node}
use Rattle.lk_typed.specs.Told.{Named, SpecifierTold, unless_broken, with_optional}
use Rattle.lk_typed.specs.Ty as ty
use Rattle.lk_typed.specs.Ty.{Ty, Means, array_of, function_of, is_function, is_redeclarable, target_of}
use Rattle.lk_typed.specs.Ty.Means.{a_void, an_integer, a_thread_id, a_mutex, a_cond, a_pointer, an_array, a_struct, a_function, an_opaque}
use Rattle.lk_typed.specs.declared.entity.EntityKind.{EntityKind}
use Rattle.lk_typed.specs.declared.entity.EntityKind.TheVariants as kind
use Rattle.lk_link.specs.EntityKinds.{is_function_form, is_function_kind}

-- ---- the form of a type

pub record HasFormOf (types : List CType) (t : ℕ) (type : Ty) : Type 0 where
  pub form : CType
  pub at : slice_get types t ≡ Some form
  pub alike : is_function_form form ≡ is_function type

pub form_of : {types : List CType} {t : ℕ} {type : Ty} → Means types t type → HasFormOf types t type
form_of (a_void at) = record { form = form.Void; at = at; alike = refl }
form_of (an_integer {k = k} at) = record { form = form.Int k; at = at; alike = refl }
form_of (a_thread_id at) = record { form = form.ThreadId; at = at; alike = refl }
form_of (a_mutex at) = record { form = form.Mutex; at = at; alike = refl }
form_of (a_cond at) = record { form = form.Cond; at = at; alike = refl }
form_of (a_pointer {u = u} at target) = record { form = form.Pointer u; at = at; alike = refl }
form_of (an_array {u = u} {n = n} at element) = record { form = form.Array u n; at = at; alike = refl }
form_of (a_struct {s = s} at) = record { form = form.Struct s; at = at; alike = refl }
form_of (a_function {r = r} {ps = ps} {dots = dots} at result params) = record { form = form.Function r ps dots; at = at; alike = refl }
form_of (an_opaque {n = n} at) = record { form = form.Opaque n; at = at; alike = refl }

-- ---- the composite of two types is a function where they are

either : {A : Type 0} (o : Option A) (t : Ty) (f : A → Ty) (b : Bool) → is_function t ≡ b → ((a : A) → is_function (f a) ≡ b) → is_function (with_optional t f o) ≡ b
either None t f b this that = this
either (Some a) t f b this that = that a

composite_alike : (t old : Ty) → is_function (composite t old) ≡ is_function t
composite_alike ty.Void old = refl
composite_alike (ty.Int k) old = refl
composite_alike ty.ThreadId old = refl
composite_alike ty.Mutex old = refl
composite_alike ty.Cond old = refl
composite_alike (ty.Pointer t) old = either (target_of old) (ty.Pointer t) _ false refl (λ a. refl)
composite_alike (ty.Array t n) old = either (array_of old) (ty.Array t n) _ false refl (λ a. refl)
composite_alike (ty.Struct s) old = refl
composite_alike (ty.Function result params dots) old = either (function_of old) (ty.Function result params dots) _ true refl (λ a. refl)
composite_alike (ty.Opaque n) old = refl

composite_function : (t : Ty) (old : Option Ty) → is_function (composite_if_equal t old) ≡ is_function t
composite_function t None = refl
composite_function t (Some old) = by_test (is_redeclarable t old) t old
  where
    by_test : (equal : Bool) (t old : Ty) → is_function (if equal then composite t old else t) ≡ is_function t
    by_test true t old = composite_alike t old
    by_test false t old = refl

-- ---- the kind of a meaning

kind_of : (scope : Scope) (ss : List Storage) (t : Ty) (k : EntityKind) → entity_kind (meaning_of scope ss (Some t)) ≡ Some k → is_function t ≡ is_function_kind k
kind_of scope ss t k is = by_tests t k (has is_typedef ss) (is_function t) (is_static_object scope ss) is
  where
    by_tests : (t : Ty) (k : EntityKind) (typedef function static : Bool) →
        entity_kind (if typedef then ATypedef t else if function then AFunction t else AnObject t static) ≡ Some k → function ≡ is_function_kind k
    by_tests t k true function static is = absurd (none-some k is)
    by_tests t k false true static is = ap is_function_kind (same_Some kind.Function k is)
    by_tests t k false false true is = ap is_function_kind (same_Some kind.Object k is)
    by_tests t k false false false is = absurd (none-some k is)

kind_unbroken : (scope : Scope) (ss : List Storage) (t : Ty) (k : EntityKind) (broken : List Breach) →
    entity_kind (meaning_of scope ss (unless_broken broken (Some t))) ≡ Some k → is_function t ≡ is_function_kind k
kind_unbroken scope ss t k [] is = kind_of scope ss t k is
kind_unbroken scope ss t k (breach ∷ others) is = absurd (none-some k is)

-- ---- a name is found behind its declarator

last_is : {A : Type 0} (test : A → Bool) (xs : List A) (x : A) → test x ≡ true → latest test (xs ++ x ∷ []) ≡ Some x
last_is test [] x is = ap (λ b. or_else None (if b then Some x else None)) is
last_is test (y ∷ xs) x is = ap (λ o. or_else o (if test y then Some y else None)) (last_is test xs x is)

itself : (name : Name) → is_name name name ≡ true
itself name = (bytes_eq-Decides name name).1 refl

found_alone : (env : Env) (d : Declared) → look_up (extend env (one_name d)) d.name ≡ Some d
found_alone env d = last_is (λ (x : Declared). is_name x.name d.name) env.declared d (itself d.name)

found_behind : (env : Env) (a : Additions) (d : Declared) → look_up (extend env (both a (one_name d))) d.name ≡ Some d
found_behind env a d =
    ap (latest (λ (x : Declared). is_name x.name d.name)) (sym (append_assoc env.declared a.declared (d ∷ []))) ∙
    last_is (λ (x : Declared). is_name x.name d.name) (env.declared ++ a.declared) d (itself d.name)

-- ---- the kind of a declared name

module _ (k : EntityKind) where
  abbrev IsKind : Declared → Type 0
  IsKind is = entity_kind is.meaning ≡ Some k

  in_declarator : (scope : Scope) (told : SpecifierTold) (env : Env) (d : InitDeclarator) (named : Named) (is : Declared) (t : Ty) → (declarator_found d.declarator).name ≡ Some named →
      look_up (extend env (name_adds scope told env d)) named.name ≡ Some is → type_declared scope told env d ≡ Some t → IsKind is → is_function t ≡ is_function_kind k
  in_declarator scope told env d named is t name found type is_kind =
      let inner = declarator_found d.declarator in
      let ss = told.storages in
      let a = inner.additions env in
      let after = extend env a in
      let made = type_made env (may_lack_size ss d.init) (type_in InDeclaration told) inner in
      let it = declared_as after scope ss (given_by d.init) d.init named.name named.ordinal made in
      let adds = ap (λ n. both a (named_additions after scope ss (given_by d.init) d.init n made)) name in
      let same = same_Some it is (sym (found_behind env a it) ∙ sym (ap (λ more. look_up (extend env more) named.name) adds) ∙ found) in
      let type_is = sym (ap (λ n. completed d.init (type_of_name after scope ss n made)) name) ∙ type in
      kind_of scope ss t k (ap (λ o. entity_kind (meaning_of scope ss o)) (sym type_is) ∙ ap (λ (x : Declared). entity_kind x.meaning) same ∙ is_kind)

  in_definition : (env : Env) (told : SpecifierTold) (node : Definition) (named : Named) (is : Declared) (t : Ty) → (declarator_found node.declarator).name ≡ Some named →
      (let inner = declarator_found node.declarator in
      let after = extend env (inner.additions env) in
      look_up (extend after (named_additions after AtFile told.storages Defined None inner.name (type_made env false (type_in InDefinition told) inner))) named.name ≡ Some is) →
      type_made env false (type_in InDefinition told) (declarator_found node.declarator) ≡ Some t → IsKind is → is_function t ≡ is_function_kind k
  in_definition env told node named is t name found type is_kind =
      let inner = declarator_found node.declarator in
      let ss = told.storages in
      let after = extend env (inner.additions env) in
      let made = type_made env false (type_in InDefinition told) inner in
      let it = declared_as after AtFile ss Defined None named.name named.ordinal (Some t) in
      let adds = ap (λ n. named_additions after AtFile ss Defined None n made) name ∙ ap (λ o. named_additions after AtFile ss Defined None (Some named) o) type in
      let same = same_Some it is (sym (found_alone after it) ∙ sym (ap (λ more. look_up (extend after more) named.name) adds) ∙ found) in
      sym (composite_function t _) ∙ kind_unbroken AtFile ss _ k _ (ap (λ (x : Declared). entity_kind x.meaning) same ∙ is_kind)

  pub kind_declared : {env : Env} {node : Node} {n : NameDeclared} → DeclaresName env node n → IsKind n.is → is_function n.type ≡ is_function_kind k
  kind_declared {env} (in_declaration {scope = scope} {node = node} {env' = env'} {d = d} {named = named} {is = is} {t = t} among name found type) is_kind =
      in_declarator scope (specifiers_of env node) env' d named is t name found type is_kind
  kind_declared {env} (by_definition {node = node} {named = named} {is = is} {t = t} name found type) is_kind =
      let told = specifiers_found node.specifiers env false in
      in_definition (extend env told.additions) told node named is t name found type is_kind
