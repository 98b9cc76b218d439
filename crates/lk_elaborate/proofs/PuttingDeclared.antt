-- What is put of the names and initialisers of a declaration, one declarator after the other.
use Rattle.std.proofs.Common.{◌≡◌, ◌∙◌, ◌⊎◌, ℕ, length, Bool, true, false, Option, Some, None, List, [], ◌∷◌, inl, inr, refl, sym, ap, subst}
use Rattle.std.proofs.lemmas.Option.{none-some, same_Some}
use Rattle.lk_tree.specs.declared.declaration.Declare.{Declare}
use Rattle.lk_tree.specs.declared.declaration.Init.{Init}
use Rattle.lk_tree.specs.declared.declaration.InitDeclarator.{InitDeclarator}
use Rattle.lk_tree.specs.declared.statement.Unit.{Unit}
use Rattle.lk_types.specs.Table.{IsKnown, Table}
use Rattle.lk_types.specs.declared.c_type.CType.{CType}
use Rattle.lk_typed.proofs.Means.{means_meaning}
use Rattle.lk_typed.specs.DeclarationRules.{AtFile, InBlock, Scope, is_static_object}
use Rattle.lk_typed.specs.Declarations.{declarator_adds, is_alone, name_adds}
use Rattle.lk_typed.specs.Entities.{DeclaresName, IsDeclaratorOf, NameDeclared, StandsAmong, entity_kind, specifiers_of}
use Rattle.lk_typed.specs.Env as env
use Rattle.lk_typed.specs.Env.{AnObject, Env, Name, extend, look_up}
use Rattle.lk_typed.specs.Expressions.{declarator_found}
use Rattle.lk_typed.specs.InitialiserRules.{Object}
use Rattle.lk_typed.specs.Meaning.{meaning}
use Rattle.lk_typed.specs.Names.{IsKnownMeaning, is_static, meaning_in}
use Rattle.lk_typed.specs.NodeParts.{initialiser_part, object_of, parts, type_declared}
use Rattle.lk_typed.specs.Nodes.{ADeclaration, AnInitialiser, Node, Placed, at}
use Rattle.lk_typed.specs.Parts.{perhaps, specifiers_parts}
use Rattle.lk_typed.specs.Stands.{IsIn}
use Rattle.lk_typed.specs.Tables.{IsEntityAt}
use Rattle.lk_typed.specs.Told.{Named, SpecifierTold}
use Rattle.lk_typed.specs.Ty.{Means, Ty}
use Rattle.lk_typed.specs.TypedUnits.{IsStaticObject}
use Rattle.lk_typed.specs.Units.{IsNode, at_end}
use Rattle.lk_typed.specs.declared.entity.Entity.{Entity}
use Rattle.lk_typed.specs.declared.entity.EntityKind.{EntityKind}
use Rattle.lk_typed.specs.declared.entity.EntityKind.TheVariants as kinds
use Rattle.lk_typed.specs.declared.entity.Linkage.{Linkage}
use Rattle.lk_typed.specs.declared.entity.Linkage.TheVariants as linkages
use Rattle.lk_typed.specs.declared.names.Duration.{Duration}
use Rattle.lk_typed.specs.declared.names.Meaning.TheVariants as means
use Rattle.lk_typed.specs.declared.unit.Local.{Local}
use Rattle.lk_check_decl.specs.Twins.{scope_of}
use Rattle.lk_check_decl.specs.declared.words.Scope.{Scope as CodeScope}
use Rattle.lk_check_decl.specs.declared.words.Scope.TheVariants as scopes
use Rattle.lk_found.specs.Named.{name_in}
use Rattle.lk_found.specs.declared.declarators.DeclaredName.{DeclaredName}
use Rattle.lk_found.specs.declared.records.DeclaredHere.{DeclaredHere}
use Rattle.lk_elaborator.proofs.Growing.{grows_same}
use Rattle.lk_elaborator.specs.Gathering.{Gathers}
use Rattle.lk_elaborator.specs.Leading.{GoesOn, Grows}
use Rattle.lk_elaborator.specs.PuttingLocals.{IsLocalSo, PutsLocalOf}
use Rattle.lk_elaborator.specs.Rising.{Rises}
use Rattle.lk_elaborator.specs.declared.elaborator.Elaborator.{Elaborator}
use Rattle.lk_elaborator.specs.declared.entities.NamedEntity.{NamedEntity}
use Rattle.lk_elaborate.proofs.Carried.{goes_same, goes_then, in_rest, node_part, source_stays}
use Rattle.lk_elaborate.proofs.Declaring.{among_parts, declared_so, static_so, the_name, there}
use Rattle.lk_elaborate.proofs.Inside.{Inside, itself, itself_or_part, node_inside, nothing_inside}
use Rattle.lk_elaborate.proofs.PuttingThose.{contains_it, contains_one, no_locals, no_names, no_objects, puts_nothing, puts_same, puts_then}
use Rattle.lk_elaborate.proofs.Quiet.{AreQuiet, IsQuiet, both_quiet, declarators_quiet, specifiers_quiet}
use Rattle.lk_elaborate.specs.Making.{StandIn}
use Rattle.lk_elaborate.specs.Outside.{tables_of}
use Rattle.lk_elaborate.specs.Putting.{HasBodyIn, IsGivenInside, IsLocalHere, IsPutAs, PutsAll, PutsObject, StandsInside}
use Rattle.lk_elaborate.specs.PuttingDeclared.{DeclaredBy, GivenBy, HasBodyFor, IsBodyAt, NoName, NoObject, PutsDeclaration, PutsDeclarator, PutsEntity, PutsInitialised, PutsInitialisedAs, PutsNamed, PutsRecorded, PutsThose, StandsThere}

-- ---- where a name stands

-- a name without linkage stands in the body that is made
pub none_in_block : (scope : CodeScope) (walk : Elaborator) (l : Linkage) (n : ℕ) → l ≡ linkages.None → scope ≡ scopes.Block → n ≡ length walk.bodies.items → HasBodyFor scope walk l (Some n)
none_in_block scope walk l n none block is =
    subst (λ s. HasBodyFor s walk l (Some n)) (sym block) (subst (λ l. HasBodyFor scopes.Block walk l (Some n)) (sym none) (λ body at_body. HasBodyIn.in_block refl (at_body ∙ ap Some (sym is))))

-- one that is linked has none
pub linked_anywhere : (scope : CodeScope) (walk : Elaborator) (l : Linkage) → (l ≡ linkages.External) ⊎ (l ≡ linkages.Internal) → HasBodyFor scope walk l None
linked_anywhere scope walk l (inl external) = subst (λ l. HasBodyFor scope walk l None) (sym external) (λ body at_body. HasBodyIn.linked refl)
linked_anywhere scope walk l (inr internal) = subst (λ l. HasBodyFor scope walk l None) (sym internal) (λ body at_body. HasBodyIn.linked refl)

-- ---- a name

-- the entity of a name that was recorded so
abbrev entity_of : DeclaredName → EntityKind → DeclaredHere → Name → Option ℕ → NamedEntity
entity_of named kind h name body =
    record { name = name; linkage = h.linkage; kind = kind; spot = named.at.spot; ordinal = named.at.ordinal; ty = h.ty; defines = h.defines; body = body }

-- an object of automatic storage is no entity
no_entity : (m : env.Meaning) (kind : EntityKind) (t : Ty) → m ≡ AnObject t false → entity_kind m ≡ Some kind → ⊥
no_entity m kind t object is = none-some kind (sym (ap entity_kind object) ∙ is)

abbrev object_type : env.Meaning → Option Ty
object_type (env.AnObject t static) = Some t
object_type (env.AFunction t) = None
object_type (env.ATypedef t) = None
object_type (env.AnEnumerator z) = None
object_type (env.AnInitialiserWord t) = None
object_type env.AFaultyName = None

module _ (scope : CodeScope) (old new : Elaborator) (named : DeclaredName) (h : DeclaredHere) where
  -- it is put
  pub entity_put : (kind : EntityKind) (name : Name) (has : Option ℕ) → name ≡ (name_in named).name → HasBodyFor scope old h.linkage has → new ≡ record old { entities = new.entities } →
      Gathers old.entities new.entities (entity_of named kind h name has) → Rises old.entities new.entities (entity_of named kind h name has) →
      PutsEntity scope old new named kind h
  entity_put kind name has copied body_is same gathers rises externs unit n body ready so declared kind_is at_body =
      let it = entity_of named kind h name has in
      let type : Means new.types.types h.ty n.type =
      subst (λ (walk : Elaborator). Means walk.types.types h.ty n.type) (sym same) (subst (Means old.types.types h.ty) declared.type (means_meaning old.types ready.table_is h.ty declared.known)) in
      let put_so : IsPutAs new.types.types body n it = record {
        name = copied ∙ so.name;
        linkage = declared.linkage;
        kind = kind_is;
        declaration = record { spot = so.spot; ordinal = so.ordinal; type = type; defines = declared.defines };
        body = subst (λ l. HasBodyIn body l has) declared.linkage (body_is body at_body);
      } in
      record {
        names = it ∷ [];
        names_put = record {
          gathers = gathers;
          rise = rises;
          all = λ m k is m_kind. (it, contains_it it, subst (λ x. IsPutAs new.types.types body x it) (sym is) put_so);
          none_else = λ other among. (n, refl, subst (IsPutAs new.types.types body n) (contains_one it other among) put_so);
        };
        locals = [];
        locals_put = no_locals (λ m. m ≡ n) (λ m t is object. no_entity m.is.meaning kind t object (ap (λ (x : NameDeclared). entity_kind x.is.meaning) is ∙ kind_is)) old new
            (ap (λ (walk : Elaborator). walk.locals) same);
        objects = [];
        objects_put = no_objects externs unit NoObject (λ ordinal none. none) old new (ap (λ (walk : Elaborator). walk.objects) same);
        bodies = ap (λ (walk : Elaborator). walk.bodies) same;
      }

  -- by what was recorded it is one of this kind
  pub named_entity : (kind : EntityKind) → ((table : Table) → entity_kind (meaning_in table h.meaning) ≡ Some kind) → PutsEntity scope old new named kind h → PutsNamed scope old new named h
  named_entity kind is puts externs unit n body ready so declared at_body = puts externs unit n body ready so declared (ap entity_kind (sym declared.meaning_is) ∙ is old.types) at_body

  -- a local of a name that was recorded as an object of automatic storage
  pub local_put : (t : ℕ) (duration : Duration) → h.meaning ≡ means.Object t duration → is_static duration ≡ false → (name : Name) → name ≡ (name_in named).name →
      PutsLocalOf old new name t named.at.spot named.at.ordinal → PutsNamed scope old new named h
  local_put t duration meant automatic name copied puts externs unit n body ready so declared at_body =
      let it : Local = record { name = name; ty = t; spot = named.at.spot; ordinal = named.at.ordinal; is_slot = puts.0 } in
      let one = puts.1 in
      let known : IsKnown old.types t = subst (IsKnownMeaning old.types) meant declared.known_meaning in
      let object : n.is.meaning ≡ AnObject (meaning old.types t) false = sym declared.meaning_is ∙ (ap (meaning_in old.types) meant ∙ ap (AnObject (meaning old.types t)) automatic) in
      let type : Means new.types.types t (meaning old.types t) = subst (λ (walk : Elaborator). Means walk.types.types t (meaning old.types t)) (sym one.same)
      (means_meaning old.types ready.table_is t known) in
      let put_so : IsLocalHere new n (meaning old.types t) it = record {
        name = copied ∙ so.name;
        spot = so.spot;
        ordinal = so.ordinal;
        type = type;
        so = subst (λ (walk : Elaborator). IsLocalSo walk it) (sym one.same) (record { known = one.so.known; slot = one.so.slot });
      } in
      record {
        names = [];
        names_put = no_names (λ m. m ≡ n) (λ m kind is entity. no_entity n.is.meaning kind (meaning old.types t) object (ap (λ (x : NameDeclared). entity_kind x.is.meaning) (sym is) ∙ entity))
            old.entities new.entities
            new.types.types body (ap (λ (walk : Elaborator). walk.entities) one.same);
        locals = it ∷ [];
        locals_put = record {
          list = one.puts.list;
          numbered = one.puts.numbered;
          rise = one.puts.rise;
          all = λ m u is m_object. (
            it,
            contains_it it,
            subst (λ x. IsLocalHere new x u it) (sym is)
                (subst (λ v. IsLocalHere new n v it) (same_Some _ _ (ap object_type (sym object ∙ (ap (λ (x : NameDeclared). x.is.meaning) (sym is) ∙ m_object)))) put_so),
          );
          none_else = λ local among. (n, meaning old.types t, refl, object, subst (IsLocalHere new n (meaning old.types t)) (contains_one it local among) put_so);
        };
        objects = [];
        objects_put = no_objects externs unit NoObject (λ ordinal none. none) old new (ap (λ (walk : Elaborator). walk.objects) one.same);
        bodies = ap (λ (walk : Elaborator). walk.bodies) one.same;
      }

-- an object of static storage is an entity, and so is a function
pub object_kind : (h : DeclaredHere) (u : ℕ) (duration : Duration) → h.meaning ≡ means.Object u duration → is_static duration ≡ true → (table : Table) →
    entity_kind (meaning_in table h.meaning) ≡ Some kinds.Object
object_kind h u duration meant static table = ap (λ m. entity_kind (meaning_in table m)) meant ∙ ap (λ b. entity_kind (AnObject (meaning table u) b)) static

pub function_kind : (h : DeclaredHere) (u : ℕ) → h.meaning ≡ means.Function u → (table : Table) → entity_kind (meaning_in table h.meaning) ≡ Some kinds.Function
function_kind h u meant table = ap (λ m. entity_kind (meaning_in table m)) meant

-- a typedef is neither
pub typedef_put : (scope : CodeScope) (walk : Elaborator) (named : DeclaredName) (h : DeclaredHere) (t : ℕ) → h.meaning ≡ means.Typedef t → PutsNamed scope walk walk named h
typedef_put scope walk named h t meant externs unit n body ready so declared at_body =
    let typedef : n.is.meaning ≡ env.ATypedef (meaning walk.types t) = sym declared.meaning_is ∙ ap (meaning_in walk.types) meant in
    record {
      names = [];
      names_put = no_names (λ m. m ≡ n) (λ m kind is entity. none-some kind (sym (ap entity_kind typedef) ∙ (ap (λ (x : NameDeclared). entity_kind x.is.meaning) (sym is) ∙ entity)))
          walk.entities walk.entities
          walk.types.types body refl;
      locals = [];
      locals_put = no_locals (λ m. m ≡ n) (λ m u is object. none-some u (sym (ap object_type typedef) ∙ ap object_type (ap (λ (x : NameDeclared). x.is.meaning) (sym is) ∙ object))) walk walk refl;
      objects = [];
      objects_put = no_objects externs unit NoObject (λ ordinal none. none) walk walk refl;
      bodies = refl;
    }

-- ---- the name of a declarator

one_name : (a b : NameDeclared) → a.is ≡ b.is → a.spot ≡ b.spot → a.type ≡ b.type → a ≡ b
one_name a b is spot type =
    ap (λ x. record { is = x; spot = a.spot; type = a.type }) is ∙ (ap (λ x. record { is = b.is; spot = x; type = a.type }) spot ∙ ap (λ x. record { is = b.is; spot = b.spot; type = x }) type)

module _ (scope : Scope) (env : Env) (node : Declare) (here : Env) (d : InitDeclarator) (named : Named) (name_is : (declarator_found d.declarator).name ≡ Some named) where
  -- it declares one name
  declared_by : (t : Ty) → type_declared scope (specifiers_of env node) here d ≡ Some t → (m : NameDeclared) → m ≡ the_name scope env node here d named name_is t →
      DeclaredBy scope (specifiers_of env node) here d m
  declared_by t typed m is =
      subst (DeclaredBy scope (specifiers_of env node) here d) (sym is) (record { named = named; has_name = name_is; found = there scope env node here d named name_is; spot = refl; type = typed })

  no_other : (t : Ty) → type_declared scope (specifiers_of env node) here d ≡ Some t → (m : NameDeclared) → DeclaredBy scope (specifiers_of env node) here d m →
      m ≡ the_name scope env node here d named name_is t
  no_other t typed m by =
      let same : by.named ≡ named = same_Some _ _ (sym by.has_name ∙ name_is) in
      let found = ap (λ (x : Named). look_up (extend here (name_adds scope (specifiers_of env node) here d)) x.name) (sym same) ∙ by.found in
      let is = same_Some _ _ (sym found ∙ there scope env node here d named name_is) in
      let spot = by.spot ∙ ap (λ (x : Named). x.spot) same in
      let type = same_Some _ _ (sym by.type ∙ typed) in
      one_name m (the_name scope env node here d named name_is t) is spot type

-- a name that stands in the source is put as it was recorded
pub name_put : (scope : CodeScope) (old new : Elaborator) (d : InitDeclarator) (named : DeclaredName) → (declarator_found d.declarator).name ≡ Some (name_in named) → PutsRecorded scope old new named →
    (node : Declare) (env here : Env) (body : Option ℕ) (is : StandsThere (scope_of scope) old node env here d) → IsBodyAt (scope_of scope) old body →
    PutsThose is.stand.externs is.stand.unit (DeclaredBy (scope_of scope) (specifiers_of env node) here d) NoObject old new body
name_put scope old new d named name_is recorded node env here body is at_body =
    let s = scope_of scope in
    let stand = is.stand.each (at env (ADeclaration s node)) (inl refl) in
    let told = is.stand.told in
    let type = told.declared_type env s node here d (name_in named) recorded.0 stand is.among name_is recorded.1 in
    let n = the_name s env node here d (name_in named) name_is type.0 in
    let declared = declared_so s env node here d (name_in named) name_is is.among type.0 type.1 is.stand.externs is.stand.unit old told stand recorded.0 recorded.1 in
    puts_same is.stand.externs is.stand.unit (λ m. m ≡ n) (DeclaredBy s (specifiers_of env node) here d) NoObject NoObject (declared_by s env node here d (name_in named) name_is type.0 type.1)
    (no_other s env node here d (name_in named) name_is type.0 type.1) (λ ordinal none. none) old new body
    (recorded.2 is.stand.externs is.stand.unit n body told.ready (record { name = refl; spot = refl; ordinal = refl }) declared at_body)

-- ---- its initialiser

-- the initialiser stands in the source
initialiser_there : (scope : Scope) (walk : Elaborator) (node : Declare) (env here : Env) (d : InitDeclarator) → StandsThere scope walk node env here d →
    StandIn walk (initialiser_part scope (specifiers_of env node) here d)
initialiser_there scope walk node env here d is = record {
  externs = is.stand.externs;
  unit = is.stand.unit;
  told = is.stand.told;
  each = λ part among.
      let last = at_end is.stand.externs is.stand.unit in
      node_part is.stand.externs is.stand.unit env (ADeclaration scope node) part (is.stand.each (at env (ADeclaration scope node)) (inl refl))
      (in_rest part (specifiers_parts (is_alone node.declarators) env node.specifiers) _
      (among_parts last scope (specifiers_of env node) (extend env (specifiers_of env node).additions) node.declarators here d part is.among among));
}

abbrev first_of : List Placed → Option Placed
first_of [] = None
first_of (p ∷ ps) = Some p

abbrev part_by : Scope → Env → InitDeclarator → SpecifierTold → Option Ty → Option Init → List Placed
part_by scope here d told t init = perhaps (extend here (name_adds scope told here d)) (AnInitialiser (object_of t (is_static_object scope told.storages))) init

-- a declarator without an initialiser gives nothing
not_given : (scope : Scope) (told : SpecifierTold) (here : Env) (d : InitDeclarator) → d.init ≡ None → (ordinal : ℕ) → GivenBy scope told here d ordinal → ⊥
not_given scope told here d none ordinal by = none-some _ (ap (λ init. first_of (part_by scope here d told (type_declared scope told here d) init)) (sym none) ∙ ap first_of by.is_given)

abbrev some_if : Bool → Option Bool
some_if true = Some true
some_if false = None

-- a declarator of a local gives no object of static storage
pub local_given : (old new : Elaborator) (named : DeclaredName) (h : DeclaredHere) (u : ℕ) (duration : Duration) (init : Init) → h.meaning ≡ means.Object u duration →
    is_static duration ≡ false → Grows old new →
    PutsInitialisedAs old new named h init
local_given old new named h u duration init meant automatic grows found d name_is given s node env here body is =
    let stand = is.stand.each (at env (ADeclaration s node)) (inl refl) in
    let type = is.stand.told.declared_type env s node here d (name_in named) h stand is.among name_is found in
    let so = static_so s env node here d (name_in named) name_is is.among type.0 type.1 is.stand.externs is.stand.unit old is.stand.told stand h found u duration meant ∙ automatic in
    puts_nothing is.stand.externs is.stand.unit NoName (GivenBy s (specifiers_of env node) here d) (λ n none. none) (λ ordinal by. none-some true (ap some_if (sym so ∙ by.is_static)))
    old new body grows

-- the object of a declarator of static storage
pub static_given : (old new : Elaborator) (named : DeclaredName) (h : DeclaredHere) (u : ℕ) (duration : Duration) (init : Init) → h.meaning ≡ means.Object u duration →
    is_static duration ≡ true → PutsObject old new named.at h.ty init →
    PutsInitialisedAs old new named h init
static_given old new named h u duration init meant static puts found d name_is given s node env here body is =
    let stand = is.stand.each (at env (ADeclaration s node)) (inl refl) in
    let type = is.stand.told.declared_type env s node here d (name_in named) h stand is.among name_is found in
    let so = static_so s env node here d (name_in named) name_is is.among type.0 type.1 is.stand.externs is.stand.unit old is.stand.told stand h found u duration meant ∙ static in
    let declared = declared_so s env node here d (name_in named) name_is is.among type.0 type.1 is.stand.externs is.stand.unit old is.stand.told stand h found in
    let told = specifiers_of env node in
    let behind = extend here (name_adds s told here d) in
    let object : Object = record { type = type.0; is_inner = false; is_static = is_static_object s told.storages } in
    let part : initialiser_part s told here d ≡ at behind (AnInitialiser (Some object) init) ∷ [] =
    ap (λ t. part_by s here d told t d.init) type.1 ∙ ap (part_by s here d told (Some type.0)) given in
    let parts = puts.is.parts behind object (sym declared.type) (subst (StandIn old) part (initialiser_there s old node env here d is)) in
    record {
      names = [];
      names_put = no_names NoName (λ n kind none is. none) old.entities new.entities new.types.types body (ap (λ (walk : Elaborator). walk.entities) puts.same);
      locals = [];
      locals_put = no_locals NoName (λ n t none is. none) old new (ap (λ (walk : Elaborator). walk.locals) puts.same);
      objects = puts.object ∷ [];
      objects_put = record {
        list = puts.list;
        rise = puts.rise;
        all = λ ordinal by. (puts.object, contains_it puts.object, puts.is.ordinal ∙ (ap (λ (x : Named). x.ordinal) (same_Some _ _ (sym name_is ∙ by.has_name)) ∙ by.numbered));
        each = λ other among types entities leads.
            let given_parts = parts types entities leads in
            subst (IsStaticObject is.stand.externs is.stand.unit types entities) (contains_one puts.object other among) (record {
              of = record {
                env = env;
                scope = s;
                node = node;
                stands = stand;
                env' = here;
                d = d;
                declarator = is.among;
                is_static = so;
                named = name_in named;
                has_name = name_is;
                numbered = sym puts.is.ordinal;
                behind = behind;
                object = object;
                init = init;
                is_given = part;
              };
              entity = subst (λ n. IsEntityAt (tables_of types entities []) n puts.object.entity) (sym puts.is.ordinal) (puts.is.entity types entities leads);
              spot = puts.is.spot;
              parts = given_parts.0;
              are_given = given_parts.1;
              are_parts = given_parts.2;
            });
      };
      bodies = ap (λ (walk : Elaborator). walk.bodies) puts.same;
    }

-- ---- one declarator

module _ (scope : CodeScope) (old mid new : Elaborator) (d : InitDeclarator) (named : DeclaredName) (name_is : (declarator_found d.declarator).name ≡ Some (name_in named)) (on : GoesOn old mid)
    (recorded : PutsRecorded scope old mid named) where
  -- without an initialiser
  pub bare_put : d.init ≡ None → PutsDeclarator scope old mid d
  bare_put none node env here body is at_body =
      let s = scope_of scope in
      let told = specifiers_of env node in
      puts_same is.stand.externs is.stand.unit (DeclaredBy s told here d) (DeclaredBy s told here d) NoObject (GivenBy s told here d) (λ n by. by) (λ n by. by) (not_given s told here d none)
      old mid body
      (name_put scope old mid d named name_is recorded node env here body is at_body)

  -- with one
  pub given_put : (init : Init) → d.init ≡ Some init → GoesOn mid new → PutsInitialised mid new named init → PutsDeclarator scope old new d
  given_put init given further puts node env here body is at_body =
      let s = scope_of scope in
      let told = specifiers_of env node in
      let e = is.stand.externs in
      let u = is.stand.unit in
      let is_told = source_stays old mid on e u is.stand.told in
      let later : StandsThere s mid node env here d = record { stand = record { externs = e; unit = u; told = is_told; each = is.stand.each }; among = is.among } in
      puts_same e u (λ n. DeclaredBy s told here d n ⊎ NoName n) (DeclaredBy s told here d) (λ ordinal. NoObject ordinal ⊎ GivenBy s told here d ordinal) (GivenBy s told here d)
      (λ n by. elim by [ inl one ↦ one | inr none ↦ absurd none ]) (λ n by. inl by) (λ ordinal by. inr by) old new body
      (puts_then e u (DeclaredBy s told here d) NoName NoObject (GivenBy s told here d) old mid new body is_told.ready further
      (name_put scope old mid d named name_is recorded node env here body is at_body)
      (puts d name_is given s node env here body later))

-- ---- what the nodes of a source declare

-- a node declares the object of static storage with this number, with an initialiser
pub data GivesObject (env : Env) : Node → ℕ → Type 0 where
  gives : {scope : Scope} {node : Declare} {here : Env} {d : InitDeclarator} {ordinal : ℕ} → IsDeclaratorOf scope env node here d → GivenBy scope (specifiers_of env node) here d ordinal →
      GivesObject env (ADeclaration scope node) ordinal

pub loud_name : (env : Env) (node : Node) (n : NameDeclared) → DeclaresName env node n → IsQuiet node → ⊥
loud_name env node n (DeclaresName.in_declaration among name found type) quiet = quiet
loud_name env node n (DeclaresName.by_definition name found type) quiet = quiet

pub loud_object : (env : Env) (node : Node) (ordinal : ℕ) → GivesObject env node ordinal → IsQuiet node → ⊥
loud_object env node ordinal (gives among by) quiet = quiet

module _ (externs : List Name) (unit : Unit) where
  abbrev pub NamesIn : List Placed → NameDeclared → Type 0
  NamesIn = Inside externs unit DeclaresName

  abbrev pub ObjectsIn : List Placed → ℕ → Type 0
  ObjectsIn = Inside externs unit GivesObject

  object_in : (placed : List Placed) (types : List CType) (entities : List Entity) (ordinal : ℕ) → IsGivenInside externs unit placed types entities ordinal → ObjectsIn placed ordinal
  object_in placed types entities ordinal is =
      let g = is.given in (
        g.env,
        ADeclaration g.scope g.node,
        is.stands,
        gives g.declarator
            (record { is_static = g.is_static; named = g.named; has_name = g.has_name; numbered = g.numbered; behind = g.behind; object = g.object; init = g.init; is_given = g.is_given }),
      )

  pub all_of : (placed : List Placed) (old new : Elaborator) (body : Option ℕ) → PutsThose externs unit (NamesIn placed) (ObjectsIn placed) old new body → PutsAll externs unit placed old new body
  all_of placed old new body puts = record {
    names = puts.names;
    puts_names = record {
      gathers = puts.names_put.gathers;
      rise = puts.names_put.rise;
      all = λ env node n kind is kind_is. puts.names_put.all n kind (env, node, is.stands, is.declares) kind_is;
      none_else = λ named there. let one = puts.names_put.none_else named there in (one.1.0, one.1.1, one.0, record { stands = one.1.2; declares = one.1.3 }, one.2);
    };
    locals = puts.locals;
    puts_locals = record {
      list = puts.locals_put.list;
      numbered = puts.locals_put.numbered;
      rise = puts.locals_put.rise;
      all = λ env node n t is object. puts.locals_put.all n t (env, node, is.stands, is.declares) object;
      none_else = λ local there. let one = puts.locals_put.none_else local there in (one.2.0, one.2.1, one.0, one.1, record { stands = one.2.2; declares = one.2.3 }, one.3, one.4);
    };
    objects = puts.objects;
    puts_objects = record {
      list = puts.objects_put.list;
      rise = puts.objects_put.rise;
      all = λ types entities ordinal is. puts.objects_put.all ordinal (object_in placed types entities ordinal is);
      each = puts.objects_put.each;
    };
    bodies = puts.bodies;
  }

  given_in : (placed : List Placed) → ((part : Placed) → IsIn part placed → IsNode externs unit part.env part.node) → (env : Env) (node : Node) (ordinal : ℕ) →
      StandsInside externs unit placed env node →
      GivesObject env node ordinal → IsGivenInside externs unit placed [] [] ordinal
  given_in placed each env node ordinal is (gives {scope = scope} {node = declared} {here = at_here} {d = d} among by) = record {
    given = record {
      env = env;
      scope = scope;
      node = declared;
      stands = node_inside externs unit placed env (ADeclaration scope declared) each is;
      env' = at_here;
      d = d;
      declarator = among;
      is_static = by.is_static;
      named = by.named;
      has_name = by.has_name;
      numbered = by.numbered;
      behind = by.behind;
      object = by.object;
      init = by.init;
      is_given = by.is_given;
    };
    stands = is;
  }

  pub those_of : (placed : List Placed) (old new : Elaborator) (body : Option ℕ) → ((part : Placed) → IsIn part placed → IsNode externs unit part.env part.node) →
      PutsAll externs unit placed old new body →
      PutsThose externs unit (NamesIn placed) (ObjectsIn placed) old new body
  those_of placed old new body each puts = record {
    names = puts.names;
    names_put = record {
      gathers = puts.puts_names.gathers;
      rise = puts.puts_names.rise;
      all = λ n kind is kind_is. puts.puts_names.all is.0 is.1 n kind (record { stands = is.2; declares = is.3 }) kind_is;
      none_else = λ named there. let one = puts.puts_names.none_else named there in (one.2, (one.0, one.1, one.3.stands, one.3.declares), one.4);
    };
    locals = puts.locals;
    locals_put = record {
      list = puts.puts_locals.list;
      numbered = puts.puts_locals.numbered;
      rise = puts.puts_locals.rise;
      all = λ n t is object. puts.puts_locals.all is.0 is.1 n t (record { stands = is.2; declares = is.3 }) object;
      none_else = λ local there. let one = puts.puts_locals.none_else local there in (one.2, one.3, (one.0, one.1, one.4.stands, one.4.declares), one.5, one.6);
    };
    objects = puts.objects;
    objects_put = record {
      list = puts.puts_objects.list;
      rise = puts.puts_objects.rise;
      all = λ ordinal is. puts.puts_objects.all [] [] ordinal (given_in placed each is.0 is.1 ordinal is.2 is.3);
      each = puts.puts_objects.each;
    };
    bodies = puts.bodies;
  }

-- ---- the declarators of a declaration, one after the other

module _ (scope : Scope) (told : SpecifierTold) {X : Type 0} (P : Env → InitDeclarator → X → Type 0) where
  -- it is so of one of them
  abbrev Among : Env → List InitDeclarator → X → Type 0
  Among here ds x = (e : Env) × (d : InitDeclarator) × StandsAmong scope told here ds e d × P e d x

  -- of the first of them, or of one of the others
  join : (here : Env) (d : InitDeclarator) (ds : List InitDeclarator) (x : X) → P here d x ⊎ Among (extend here (declarator_adds scope told here d)) ds x → Among here (d ∷ ds) x
  join here d ds x (inl by) = (here, d, StandsAmong.first, by)
  join here d ds x (inr (e, other, among, by)) = (e, other, StandsAmong.later among, by)

  part : (here : Env) (d : InitDeclarator) (ds : List InitDeclarator) (x : X) (e : Env) (other : InitDeclarator) → StandsAmong scope told here (d ∷ ds) e other → P e other x →
      P here d x ⊎ Among (extend here (declarator_adds scope told here d)) ds x
  part here d ds x e other StandsAmong.first by = inl by
  part here d ds x e other (StandsAmong.later among) by = inr (e, other, among, by)

  none_among : (here e : Env) (d : InitDeclarator) → StandsAmong scope told here [] e d → ⊥
  none_among here e d among = elim among [ ]

module _ (scope : Scope) (told : SpecifierTold) where
  abbrev NamesAmong : Env → List InitDeclarator → NameDeclared → Type 0
  NamesAmong = Among scope told (DeclaredBy scope told)

  abbrev ObjectsAmong : Env → List InitDeclarator → ℕ → Type 0
  ObjectsAmong = Among scope told (GivenBy scope told)

abbrev PutsAmong : Scope → Elaborator → Elaborator → Declare → Env → Env → List InitDeclarator → Type 0
PutsAmong scope old new node env here ds =
    (body : Option ℕ) (stand : StandIn old (at env (ADeclaration scope node) ∷ [])) → ((e : Env) (d : InitDeclarator) → StandsAmong scope (specifiers_of env node) here ds e d →
    IsDeclaratorOf scope env node e d) →
    IsBodyAt scope old body →
    PutsThose stand.externs stand.unit (NamesAmong scope (specifiers_of env node) here ds) (ObjectsAmong scope (specifiers_of env node) here ds) old new body

-- with what those that are left put, the whole declaration puts all of it
pub record DeclaratorsLeft (scope : CodeScope) (old now : Elaborator) (node : Declare) (env : Env) (left : List InitDeclarator) : Type 0 where
  pub here : Env
  pub on : (new : Elaborator) → GoesOn now new → PutsAmong (scope_of scope) now new node env here left →
      PutsAmong (scope_of scope) old new node env (extend env (specifiers_of env node).additions) node.declarators

abbrev pub AreDeclaratorsLeft : CodeScope → Elaborator → Elaborator → Declare → List InitDeclarator → Type 0
AreDeclaratorsLeft scope old now node left = (env : Env) → DeclaratorsLeft scope old now node env left

pub all_left : (scope : CodeScope) (old : Elaborator) (node : Declare) (left : List InitDeclarator) → left ≡ node.declarators → AreDeclaratorsLeft scope old old node left
all_left scope old node left same env =
    let here = extend env (specifiers_of env node).additions in record { here = here; on = λ new on puts. subst (PutsAmong (scope_of scope) old new node env here) same puts }

-- a declaration puts no body
body_on : (scope : Scope) (old new : Elaborator) (body : Option ℕ) → new.bodies ≡ old.bodies → IsBodyAt scope old body → IsBodyAt scope new body
body_on AtFile old new body same is = is
body_on InBlock old new body same is = is ∙ ap (λ bodies. Some (length bodies.items)) (sym same)

puts_both : (scope : CodeScope) (old mid new : Elaborator) (node : Declare) (env here : Env) (d : InitDeclarator) (rest : List InitDeclarator) → GoesOn old mid → GoesOn mid new →
    PutsDeclarator scope old mid d →
    PutsAmong (scope_of scope) mid new node env (extend here (declarator_adds (scope_of scope) (specifiers_of env node) here d)) rest → PutsAmong (scope_of scope) old new node env here (d ∷ rest)
puts_both scope old mid new node env here d rest on further puts others body stand among at_body =
    let s = scope_of scope in
    let told = specifiers_of env node in
    let behind = extend here (declarator_adds s told here d) in
    let e = stand.externs in
    let u = stand.unit in
    let is_told = source_stays old mid on e u stand.told in
    let first = puts node env here body (record { stand = stand; among = among here d StandsAmong.first }) at_body in
    let second = others body (record { externs = e; unit = u; told = is_told; each = stand.each }) (λ x y is. among x y (StandsAmong.later is)) (body_on s old mid body first.bodies at_body) in
    puts_same e u (λ n. DeclaredBy s told here d n ⊎ NamesAmong s told behind rest n) (NamesAmong s told here (d ∷ rest)) (λ o. GivenBy s told here d o ⊎ ObjectsAmong s told behind rest o)
    (ObjectsAmong s told here (d ∷ rest))
    (join s told (DeclaredBy s told) here d rest) (λ n by. part s told (DeclaredBy s told) here d rest n by.0 by.1 by.2 by.3)
    (λ o by. part s told (GivenBy s told) here d rest o by.0 by.1 by.2 by.3) old new body
    (puts_then e u (DeclaredBy s told here d) (NamesAmong s told behind rest) (GivenBy s told here d) (ObjectsAmong s told behind rest) old mid new body is_told.ready further first second)

pub one_less : (scope : CodeScope) (old now mid : Elaborator) (node : Declare) (left rest : List InitDeclarator) (d : InitDeclarator) → left ≡ d ∷ rest → GoesOn now mid →
    PutsDeclarator scope now mid d →
    AreDeclaratorsLeft scope old now node left → AreDeclaratorsLeft scope old mid node rest
one_less scope old now mid node left rest d is on puts were env =
    let was = were env in
    record {
      here = extend was.here (declarator_adds (scope_of scope) (specifiers_of env node) was.here d);
      on = λ new further others. was.on new (goes_then now mid new on further)
          (subst (PutsAmong (scope_of scope) now new node env was.here) (sym is) (puts_both scope now mid new node env was.here d rest on further puts others));
    }

none_put : (scope : Scope) (walk : Elaborator) (node : Declare) (env here : Env) → PutsAmong scope walk walk node env here []
none_put scope walk node env here body stand among at_body =
    let told = specifiers_of env node in
    puts_nothing stand.externs stand.unit (NamesAmong scope told here []) (ObjectsAmong scope told here []) (λ n by. none_among scope told (DeclaredBy scope told) here by.0 by.1 by.2)
    (λ o by. none_among scope told (GivenBy scope told) here by.0 by.1 by.2) walk walk body (grows_same walk)

-- ---- a declaration declares what its declarators declare, and nothing in it declares more

module _ (externs : List Name) (unit : Unit) (scope : Scope) (env : Env) (node : Declare) where
  abbrev behind_specifiers : Env
  behind_specifiers = extend env (specifiers_of env node).additions

  abbrev it : List Placed
  it = at env (ADeclaration scope node) ∷ []

  parts_are_quiet : AreQuiet (parts (at_end externs unit) env (ADeclaration scope node))
  parts_are_quiet =
      both_quiet _ _ (specifiers_quiet (is_alone node.declarators) node.specifiers env) (declarators_quiet (at_end externs unit) scope (specifiers_of env node) node.declarators behind_specifiers)

  name_there : (n : NameDeclared) → NamesAmong scope (specifiers_of env node) behind_specifiers node.declarators n → NamesIn externs unit it n
  name_there n (e, d, among, by) =
      itself externs unit DeclaresName env (ADeclaration scope node) n
      (subst (λ spot. DeclaresName env (ADeclaration scope node) (record { is = n.is; spot = spot; type = n.type })) (sym by.spot) (DeclaresName.in_declaration among by.has_name by.found by.type))

  of_declaration : (n : NameDeclared) → DeclaresName env (ADeclaration scope node) n → NamesAmong scope (specifiers_of env node) behind_specifiers node.declarators n
  of_declaration n (DeclaresName.in_declaration {env' = e} {d = d} {named = named} among name found type) =
      (e, d, among, record { named = named; has_name = name; found = found; spot = refl; type = type })

  name_among : (n : NameDeclared) → NamesIn externs unit it n → NamesAmong scope (specifiers_of env node) behind_specifiers node.declarators n
  name_among n is = elim (itself_or_part externs unit DeclaresName env (ADeclaration scope node) n is) [
    | inl declares_it ↦ of_declaration n declares_it
    | inr deeper ↦ absurd (nothing_inside externs unit DeclaresName loud_name _ n parts_are_quiet deeper)
  ]

  of_given : (o : ℕ) → GivesObject env (ADeclaration scope node) o → ObjectsAmong scope (specifiers_of env node) behind_specifiers node.declarators o
  of_given o (gives {here = e} {d = d} among by) = (e, d, among, by)

  object_among : (o : ℕ) → ObjectsIn externs unit it o → ObjectsAmong scope (specifiers_of env node) behind_specifiers node.declarators o
  object_among o is = elim (itself_or_part externs unit GivesObject env (ADeclaration scope node) o is) [
    | inl gives_it ↦ of_given o gives_it
    | inr deeper ↦ absurd (nothing_inside externs unit GivesObject loud_object _ o parts_are_quiet deeper)
  ]

pub none_left : (scope : CodeScope) (old now : Elaborator) (node : Declare) (left : List InitDeclarator) → left ≡ [] → AreDeclaratorsLeft scope old now node left → PutsDeclaration scope old now node
none_left scope old now node left is were env body stand at_body =
    let was = were env in
    let s = scope_of scope in
    let told = specifiers_of env node in
    let here = extend env told.additions in
    let e = stand.externs in
    let u = stand.unit in
    let placed = at env (ADeclaration s node) ∷ [] in
    let those = was.on now (goes_same now) (subst (PutsAmong s now now node env was.here) (sym is) (none_put s now node env was.here)) body stand (λ x d there. there) at_body in
    all_of e u placed old now body
    (puts_same e u (NamesAmong s told here node.declarators) (NamesIn e u placed) (ObjectsAmong s told here node.declarators) (ObjectsIn e u placed) (name_there e u s env node)
    (name_among e u s env node)
    (object_among e u s env node) old now body those)
