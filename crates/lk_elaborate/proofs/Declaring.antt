-- What is made of the declarators of a declaration in a block, one after the other.
use Rattle.std.proofs.Common.{◌≡◌, ◌∙◌, ◌++◌, ℕ, Bool, true, false, Option, Some, None, List, [], ◌∷◌, inl, inr, refl, sym, ap, subst, append_assoc}
use Rattle.std.specs.Prelude.{nat_eq, ◌&&◌, if◌then◌else◌}
use Rattle.std.specs.Cmp.Lexicographic.{pointwise}
use Rattle.std.specs.Map.{lookup}
use Rattle.std.proofs.lemmas.List.{append-nil}
use Rattle.std.proofs.lemmas.Option.{none-some, same_Some}
use Rattle.lk_typed.proofs.SameTrees.{number_itself}
use Rattle.lk_tree.specs.declared.declaration.Declare.{Declare}
use Rattle.lk_tree.specs.declared.declaration.Init.{Init}
use Rattle.lk_tree.specs.declared.declaration.InitDeclarator.{InitDeclarator}
use Rattle.lk_tree.specs.declared.statement.Unit.{Unit}
use Rattle.lk_typed.specs.DeclarationRules.{InBlock, InDeclaration, Scope, has, is_static_object, meaning_of, type_in}
use Rattle.lk_typed.specs.DeclarationRules as rules
use Rattle.lk_typed.specs.Declarations.{completed, composite_type, declared_as, declarator_adds, given_by, is_alone, may_lack_size, name_adds, named_additions, one_name, type_of_name}
use Rattle.lk_typed.specs.Entities.{DeclaresName, IsDeclaratorOf, NameDeclared, StandsAmong, specifiers_of}
use Rattle.lk_typed.specs.Env as env
use Rattle.lk_typed.specs.Env.{Env, Name, Declared, AnObject, AFunction, ATypedef, Meaning, Additions, extend, is_name, latest, look_up, or_else}
use Rattle.lk_typed.specs.Expressions.{declarator_found}
use Rattle.lk_typed.specs.InitialiserRules.{Object}
use Rattle.lk_typed.specs.Layers.{type_made}
use Rattle.lk_typed.specs.LocalInits.{AreLocalInits, IsBlockDeclaration}
use Rattle.lk_typed.specs.Meaning.{meaning}
use Rattle.lk_typed.specs.Names.{meaning_in, is_static}
use Rattle.lk_typed.specs.NodeParts.{declarators_in_turn, initialiser_part, object_of, type_declared}
use Rattle.lk_typed.specs.Nodes.{ADeclaration, AnInitialiser, Placed, at}
use Rattle.lk_typed.specs.Parts.{perhaps, specifiers_parts}
use Rattle.lk_typed.specs.Stands.{IsIn}
use Rattle.lk_typed.specs.Tables.{Tables}
use Rattle.lk_typed.specs.Told.{Named, SpecifierTold}
use Rattle.lk_typed.specs.Ty.{Ty, is_function}
use Rattle.lk_typed.specs.Units.{IsNode, at_end}
use Rattle.lk_typed.specs.declared.names.Duration.{Duration}
use Rattle.lk_typed.specs.declared.names.Meaning.TheVariants as means
use Rattle.lk_typed.specs.declared.statement.LocalInit.{LocalInit}
use Rattle.lk_found.specs.Named.{name_in}
use Rattle.lk_found.specs.declared.declarators.DeclaredName.{DeclaredName}
use Rattle.lk_found.specs.declared.records.DeclaredHere.{DeclaredHere}
use Rattle.lk_found.specs.Findings.{IsDeclaredAs}
use Rattle.lk_elaborator.proofs.Growing.{leads_back}
use Rattle.lk_elaborator.specs.Leading.{GoesOn, Leads}
use Rattle.lk_elaborator.specs.declared.elaborator.Elaborator.{Elaborator}
use Rattle.lk_elab_init.specs.Source.{IsToldSource}
use Rattle.lk_elaborate.proofs.Carried.{in_first, in_rest, node_part, stand_on}
use Rattle.lk_elaborate.specs.Declaring.{MakesDeclarator, MakesLocalInit, MakesNamed, MakesOneInit, MakesRecorded, StandsAt}
use Rattle.lk_elaborate.specs.LocalParts.{GivesLocalInit}
use Rattle.lk_elaborate.specs.Making.{MakesDeclaration, StandIn}

-- ---- the name that a declarator declares is found behind it

same_name : (name : Name) → is_name name name ≡ true
same_name [] = refl
same_name (x ∷ xs) = ap (λ b. b && pointwise nat_eq xs xs) (number_itself x) ∙ same_name xs

latest_last : {A : Type 0} (test : A → Bool) (xs : List A) (a : A) → test a ≡ true → latest test (xs ++ a ∷ []) ≡ Some a
latest_last test [] a is = ap (λ b. if b then Some a else None) is
latest_last test (x ∷ xs) a is = ap (λ found. or_else found (if test x then Some x else None)) (latest_last test xs a is)

named_there : (env : Env) (a : Additions) (d : Declared) → latest (λ x. is_name x.name d.name) (env.declared ++ (a.declared ++ d ∷ [])) ≡ Some d
named_there env a d =
    ap (latest (λ x. is_name x.name d.name)) (sym (append_assoc env.declared a.declared (d ∷ []))) ∙ latest_last (λ x. is_name x.name d.name) (env.declared ++ a.declared) d (same_name d.name)

-- ---- what was recorded of an object

abbrev in_static : Meaning → Option Bool
in_static (AnObject t static) = Some static
in_static (AFunction t) = None
in_static (ATypedef t) = None
in_static (env.AnEnumerator z) = None
in_static (env.AnInitialiserWord t) = None
in_static env.AFaultyName = None

by_tests : (a b : Bool) (t u : Ty) (s static : Bool) → AnObject u s ≡ (if a then ATypedef t else if b then AFunction t else AnObject t static) → static ≡ s
by_tests true b t u s static is = absurd (none-some _ (sym (ap in_static is)))
by_tests false true t u s static is = absurd (none-some _ (sym (ap in_static is)))
by_tests false false t u s static is = sym (same_Some s static (ap in_static is))

-- ---- a declarator of a declaration

module _ (scope : Scope) (env : Env) (node : Declare) (here : Env) (d : InitDeclarator) (named : Named) (name_is : (declarator_found d.declarator).name ≡ Some named) where
  abbrev told : SpecifierTold
  told = specifiers_of env node

  abbrev after : Env
  after = extend here ((declarator_found d.declarator).additions here)

  abbrev type_so_far : Option Ty
  type_so_far = type_made here (may_lack_size told.storages d.init) (type_in InDeclaration told) (declarator_found d.declarator)

  abbrev it : Declared
  it = declared_as after scope told.storages (given_by d.init) d.init named.name named.ordinal type_so_far

  -- the name that it declares, of this type
  abbrev pub the_name : Ty → NameDeclared
  the_name t = record { is = it; spot = named.spot; type = t }

  additions_are : named_additions after scope told.storages (given_by d.init) d.init (declarator_found d.declarator).name type_so_far ≡ one_name it
  additions_are = ap (λ n. named_additions after scope told.storages (given_by d.init) d.init n type_so_far) name_is

  type_is : type_declared scope told here d ≡ completed d.init (composite_type after scope told.storages named.name type_so_far)
  type_is = ap (λ n. completed d.init (type_of_name after scope told.storages n type_so_far)) name_is

  pub there : look_up (extend here (name_adds scope told here d)) named.name ≡ Some it
  there =
      ap (λ (a : Additions). look_up (extend here (record { declared = ((declarator_found d.declarator).additions here).declared ++ a.declared; tags = []; structs = [] })) named.name) additions_are ∙
      named_there here ((declarator_found d.declarator).additions here) it

  module _ (among : IsDeclaratorOf scope env node here d) (t : Ty) (typed : type_declared scope told here d ≡ Some t) where
    pub declares : DeclaresName env (ADeclaration scope node) (the_name t)
    declares = DeclaresName.in_declaration among name_is there typed

    module _ (externs : List Name) (unit : Unit) (walk : Elaborator) (is_told : IsToldSource externs unit walk) (stands : IsNode externs unit env (ADeclaration scope node)) (h : DeclaredHere)
        (found : lookup (nat_eq named.ordinal) walk.records.declared ≡ Some h) where
      pub declared_so : IsDeclaredAs walk.types h (the_name t)
      declared_so = is_told.declared env (ADeclaration scope node) (the_name t) h stands declares found

      -- an object is static exactly where it was recorded so
      pub static_so : (u : ℕ) (duration : Duration) → h.meaning ≡ means.Object u duration → is_static_object scope told.storages ≡ is_static duration
      static_so u duration is =
          by_tests (has rules.is_typedef told.storages) (is_function t) t (meaning walk.types u) (is_static duration) (is_static_object scope told.storages)
          (ap (meaning_in walk.types) (sym is) ∙ (declared_so.meaning_is ∙ ap (meaning_of scope told.storages) (sym type_is ∙ typed)))

-- ---- where its initialiser stands

pub among_parts : (last : Env) (scope : Scope) (told : SpecifierTold) (e : Env) (ds : List InitDeclarator) (here : Env) (d : InitDeclarator) (part : Placed) → StandsAmong scope told e ds here d →
    IsIn part (initialiser_part scope told here d) → IsIn part (declarators_in_turn last scope told e ds)
among_parts last scope told e [] here d part none is = elim none [ ]
among_parts last scope told e (x ∷ ds) here d part StandsAmong.first is = inr (in_first part (initialiser_part scope told e d) _ is)
among_parts last scope told e (x ∷ ds) here d part (StandsAmong.later among) is =
    inr (in_rest part (initialiser_part scope told e x) _ (among_parts last scope told (extend e (declarator_adds scope told e x)) ds here d part among is))

initialiser_stands : (walk : Elaborator) (node : Declare) (env here : Env) (d : InitDeclarator) → StandsAt walk node env here d → StandIn walk (initialiser_part InBlock (specifiers_of env node) here d)
initialiser_stands walk node env here d is = record {
  externs = is.stands.externs;
  unit = is.stands.unit;
  told = is.stands.told;
  each = λ part there.
      let last = at_end is.stands.externs is.stands.unit in
      node_part is.stands.externs is.stands.unit env (ADeclaration InBlock node) part (is.stands.each (at env (ADeclaration InBlock node)) (inl refl))
      (in_rest part (specifiers_parts (is_alone node.declarators) env node.specifiers) _
      (among_parts last InBlock (specifiers_of env node) (extend env (specifiers_of env node).additions) node.declarators here d part is.among there));
}

abbrev part_by : Env → InitDeclarator → SpecifierTold → Option Ty → Option Init → List Placed
part_by here d told t init = perhaps (extend here (name_adds InBlock told here d)) (AnInitialiser (object_of t (is_static_object InBlock told.storages))) init

-- ---- one declarator

-- without an initialiser
pub bare : (old new : Elaborator) (d : InitDeclarator) (inits : List LocalInit) → d.init ≡ None → MakesDeclarator old new d inits inits
bare old new d inits none node env here is = record {
  added = [];
  is = sym (append-nil inits);
  on = λ tables leads ds others are. AreLocalInits.not_given (inl none) are;
}

-- of an object of static storage
pub static_made : (old new : Elaborator) (named : DeclaredName) (h : DeclaredHere) (u : ℕ) (duration : Duration) (init : Init) (inits : List LocalInit) → h.meaning ≡ means.Object u duration →
    is_static duration ≡ true → MakesRecorded old new named h init inits inits
static_made old new named h u duration init inits is static found d name given node env here stands =
    let type = stands.stands.told.declared_type env InBlock node here d (name_in named) h (stands.stands.each (at env (ADeclaration InBlock node)) (inl refl)) stands.among name found in
    let so = static_so InBlock env node here d (name_in named) name stands.among type.0 type.1 stands.stands.externs stands.stands.unit old stands.stands.told
    (stands.stands.each (at env (ADeclaration InBlock node)) (inl refl)) h found u duration is in
    record {
      added = [];
      is = sym (append-nil inits);
      on = λ tables leads ds others are. AreLocalInits.not_given (inr (so ∙ static)) are;
    }

-- of a local
pub local_made : (old new : Elaborator) (named : DeclaredName) (h : DeclaredHere) (u : ℕ) (duration : Duration) (init : Init) (inits : List LocalInit) (made : LocalInit) →
    h.meaning ≡ means.Object u duration → is_static duration ≡ false → MakesLocalInit old new named.at.ordinal h.ty init made → MakesRecorded old new named h init inits (inits ++ made ∷ [])
local_made old new named h u duration init inits made is automatic makes found d name given node env here stands =
    let stand = stands.stands.each (at env (ADeclaration InBlock node)) (inl refl) in
    let type = stands.stands.told.declared_type env InBlock node here d (name_in named) h stand stands.among name found in
    let so = static_so InBlock env node here d (name_in named) name stands.among type.0 type.1 stands.stands.externs stands.stands.unit old stands.stands.told stand h found u duration is in
    let declared = declared_so InBlock env node here d (name_in named) name stands.among type.0 type.1 stands.stands.externs stands.stands.unit old stands.stands.told stand h found in
    let told = specifiers_of env node in
    let behind = extend here (name_adds InBlock told here d) in
    let object : Object = record { type = type.0; is_inner = false; is_static = is_static_object InBlock told.storages } in
    let part : initialiser_part InBlock told here d ≡ at behind (AnInitialiser (Some object) init) ∷ [] =
    ap (λ t. part_by here d told t d.init) type.1 ∙ ap (part_by here d told (Some type.0)) given in
    record {
      added = made ∷ [];
      is = refl;
      on = λ tables leads ds others are.
          AreLocalInits.given (so ∙ automatic) name part
          (makes behind object (sym declared.type) (subst (StandIn old) part (initialiser_stands old node env here d stands)) tables leads) are;
    }

-- by what was recorded
pub named_made : (old new : Elaborator) (named : DeclaredName) (h : DeclaredHere) (init : Init) (before after : List LocalInit) → lookup (nat_eq named.at.ordinal) old.records.declared ≡ Some h →
    MakesRecorded old new named h init before after → MakesNamed old new named init before after
named_made old new named h init before after found makes = makes found

-- behind its name
pub behind_name : (old middle new : Elaborator) (d : InitDeclarator) (named : DeclaredName) (init : Init) (before after : List LocalInit) → GoesOn old middle →
    (declarator_found d.declarator).name ≡ Some (name_in named) → d.init ≡ Some init → MakesNamed middle new named init before after → MakesDeclarator old new d before after
behind_name old middle new d named init before after on name given makes node env here stands =
    makes d name given node env here (record { stands = stand_on old middle on _ stands.stands; among = stands.among })

-- ---- the declarators, one after the other

-- those that are left stand behind those that are made
pub record DeclaratorsLeft (old now : Elaborator) (node : Declare) (env : Env) (left : List InitDeclarator) (made : List LocalInit) : Type 0 where
  pub here : Env
  pub stands : StandIn now (at env (ADeclaration InBlock node) ∷ [])
  pub among : (e : Env) (d : InitDeclarator) → StandsAmong InBlock (specifiers_of env node) here left e d → IsDeclaratorOf InBlock env node e d
  pub on : (tables : Tables) → Leads now tables → (more : List LocalInit) → AreLocalInits tables (specifiers_of env node) here left more → IsBlockDeclaration tables env node (made ++ more)

abbrev pub AreLeft : Elaborator → Elaborator → Declare → List InitDeclarator → List LocalInit → Type 0
AreLeft old now node left made = (env : Env) → StandIn old (at env (ADeclaration InBlock node) ∷ []) → DeclaratorsLeft old now node env left made

pub all_left : (old : Elaborator) (node : Declare) (left : List InitDeclarator) (made : List LocalInit) → left ≡ node.declarators → made ≡ [] → AreLeft old old node left made
all_left old node left made same none env stands =
    let told = specifiers_of env node in
    let here = extend env told.additions in
    record {
      here = here;
      stands = stands;
      among = λ e d is. subst (λ ds. StandsAmong InBlock told here ds e d) same is;
      on = λ tables leads more are.
          subst (IsBlockDeclaration tables env node) (sym (ap (λ xs. xs ++ more) none)) (subst (λ ds. AreLocalInits tables told here ds more) same are);
    }

pub one_less : (old now new : Elaborator) (node : Declare) (left rest : List InitDeclarator) (d : InitDeclarator) (before after : List LocalInit) → left ≡ d ∷ rest → GoesOn now new →
    MakesDeclarator now new d before after → AreLeft old now node left before → AreLeft old new node rest after
one_less old now new node left rest d before after is on makes were env stands =
    let was = were env stands in
    let told = specifiers_of env node in
    let first = was.among was.here d (subst (λ ds. StandsAmong InBlock told was.here ds was.here d) (sym is) StandsAmong.first) in
    let adds = makes node env was.here (record { stands = was.stands; among = first }) in
    record {
      here = extend was.here (declarator_adds InBlock told was.here d);
      stands = stand_on now new on _ was.stands;
      among = λ e x there. was.among e x (subst (λ ds. StandsAmong InBlock told was.here ds e x) (sym is) (StandsAmong.later there));
      on = λ tables leads more are.
          subst (IsBlockDeclaration tables env node) (sym (ap (λ xs. xs ++ more) adds.is ∙ append_assoc before adds.added more))
          (was.on tables (leads_back now new tables on leads) (adds.added ++ more)
          (subst (λ ds. AreLocalInits tables told was.here ds (adds.added ++ more)) (sym is) (adds.on tables leads rest more are)));
    }

pub none_left : (old now : Elaborator) (node : Declare) (left : List InitDeclarator) (made : List LocalInit) → left ≡ [] → AreLeft old now node left made → MakesDeclaration old now node made
none_left old now node left made is were env stands tables leads =
    let was = were env stands in
    subst (IsBlockDeclaration tables env node) (append-nil made)
    (was.on tables leads [] (subst (λ ds. AreLocalInits tables (specifiers_of env node) was.here ds []) (sym is) AreLocalInits.no_more))

-- ---- the initialiser of a local

-- what is given to the object that a node declares is its initialiser, where that stands in a source
pub one_init_made : (old new : Elaborator) (n t : ℕ) (init : Init) (made : LocalInit) (before after : List LocalInit) → after ≡ before ++ made ∷ [] → GivesLocalInit old new n t init made →
    MakesOneInit old new n t init before after
one_init_made old new n t init made before after is gives = (
  made,
  is,
  λ env object type stands tables leads.
      gives stands.externs stands.unit stands.told env object (stands.each (at env (AnInitialiser (Some object) init)) (inl refl)) type tables leads,
)
