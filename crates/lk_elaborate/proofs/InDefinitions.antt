-- The names that a definition declares: its own, and those that the items of its body declare (C99 6.9.1).
use Rattle.std.proofs.Common.{◌≡◌, ◌∙◌, ◌++◌, ◌⊎◌, inl, inr, Bool, true, false, if◌then◌else◌, List, [], ◌∷◌, Option, Some, None, refl, sym, ap, subst}
use Rattle.std.proofs.lemmas.Option.{same_Some}
use Rattle.std.proofs.lemmas.Slice.Eq.{bytes_eq-Decides}
use Rattle.std.specs.Prelude.{ℕ, ⊤}
use Rattle.lk_tree.specs.declared.specifiers.Storage.{Storage}
use Rattle.lk_tree.specs.declared.statement.Decl.TheVariants as decl
use Rattle.lk_tree.specs.declared.statement.Function.{Function as Definition}
use Rattle.lk_tree.specs.declared.statement.Unit.{Unit}
use Rattle.lk_types.specs.declared.c_type.CType.{CType}
use Rattle.lk_typed.specs.declared.entity.Entity.{Entity}
use Rattle.lk_typed.specs.DeclarationRules.{AtFile, Defined, InDefinition, has, is_typedef, meaning_of, type_in}
use Rattle.lk_typed.specs.Declarations.{completed, composite_type, declared_as, named_additions}
use Rattle.lk_typed.specs.Entities.{DeclaresName, NameDeclared, StandsIn, behind_name}
use Rattle.lk_typed.specs.Entities.DeclaresName.{by_definition, in_declaration}
use Rattle.lk_typed.specs.Env.{AFunction, ATypedef, AnObject, Declared, Env, Name, extend, is_name, latest, look_up, or_else}
use Rattle.lk_typed.specs.Expressions.{declarator_found, specifiers_found}
use Rattle.lk_typed.specs.Layers.{type_made}
use Rattle.lk_typed.specs.Locals.{IsLocalName}
use Rattle.lk_typed.specs.NodeParts.{defined_left}
use Rattle.lk_typed.specs.Nodes.{ADeclaration, ADeclarator, ADefinition, AMember, AParameter, ATypeName, AnExpression, AnExternal, AnInitialiser, AnItem, AStatement, Node, Placed, at}
use Rattle.lk_typed.specs.Parts.{specifiers_parts}
use Rattle.lk_typed.specs.Stands.{IsIn}
use Rattle.lk_typed.specs.Stands as stands
use Rattle.lk_typed.specs.Told.{Named}
use Rattle.lk_typed.specs.Ty.{Ty, is_function}
use Rattle.lk_typed.specs.Units.{at_end}
use Rattle.lk_elaborate.proofs.Carried.{in_rest}
use Rattle.lk_elaborate.proofs.Quiet.{IsQuiet, among_quiet, specifiers_quiet, stands_quiet}
use Rattle.lk_elaborate.specs.DefinitionSteps.{items_of}
use Rattle.lk_elaborate.specs.Putting.{IsGivenInside, IsNameInside, StandsInside}

-- the definition as an external declaration
abbrev pub whole : Env → Definition → List Placed
whole env node = at env (AnExternal (decl.Function node)) ∷ []

either : {A : Type 0} (a : A) (xs ys : List A) → IsIn a (xs ++ ys) → IsIn a xs ⊎ IsIn a ys
either a [] ys there = inr there
either {A} a (x ∷ xs) ys (inl same) = inl (inl same)
either {A} a (x ∷ xs) ys (inr there) = deeper (either a xs ys there)
  where
    deeper : IsIn a xs ⊎ IsIn a ys → IsIn a (x ∷ xs) ⊎ IsIn a ys
    deeper (inl first) = inl (inr first)
    deeper (inr second) = inr second

-- ---- a definition's own name is no object

latest_behind : {A : Type 0} (test : A → Bool) (xs : List A) (a : A) → test a ≡ true → latest test (xs ++ a ∷ []) ≡ Some a
latest_behind test [] a is = ap (λ passes. if passes then Some a else None) is
latest_behind test (x ∷ xs) a is = ap (λ found. or_else found (if test x then Some x else None)) (latest_behind test xs a is)

-- what its name is declared as
abbrev pub own_declared : Env → Definition → Named → Declared
own_declared env node named =
    let told = specifiers_found node.specifiers env false in
    let start = extend env told.additions in
    let inner = declarator_found node.declarator in
    declared_as (extend start (inner.additions start)) AtFile told.storages Defined None named.name named.ordinal (type_made start false (type_in InDefinition told) inner)

-- it stands for that behind its declarator
pub own_name : (env : Env) (node : Definition) (named : Named) → (declarator_found node.declarator).name ≡ Some named → look_up (behind_name env node) named.name ≡ Some (own_declared env node named)
own_name env node named has_name =
    let told = specifiers_found node.specifiers env false in
    let start = extend env told.additions in
    let inner = declarator_found node.declarator in
    let after = extend start (inner.additions start) in
    let type = type_made start false (type_in InDefinition told) inner in
    let d = own_declared env node named in
    subst (λ name. look_up (extend after (named_additions after AtFile told.storages Defined None name type)) named.name ≡ Some d) (sym has_name)
    (latest_behind (λ (other : Declared). is_name other.name named.name) after.declared d ((bytes_eq-Decides named.name named.name).1 refl))

object_by : (typedef function : Bool) (u t : Ty) → (if typedef then ATypedef u else if function then AFunction u else AnObject u true) ≡ AnObject t false → ⊥
object_by true function u t is = cc
object_by false true u t is = cc
object_by false false u t is = cc

not_automatic : (ss : List Storage) (o : Option Ty) (t : Ty) → meaning_of AtFile ss o ≡ AnObject t false → ⊥
not_automatic ss None t is = cc
not_automatic ss (Some u) t is = object_by (has is_typedef ss) (is_function u) u t is

pub own_is_no_local : {env : Env} {node : Definition} {n : NameDeclared} {t : Ty} → DeclaresName env (ADefinition node) n → n.is.meaning ≡ AnObject t false → ⊥
own_is_no_local {env} {node} {t = t} (by_definition {named = named} {is = is} name found type) meaning =
    let told = specifiers_found node.specifiers env false in
    let start = extend env told.additions in
    let inner = declarator_found node.declarator in
    let after = extend start (inner.additions start) in
    let made = type_made start false (type_in InDefinition told) inner in
    not_automatic told.storages (completed None (composite_type after AtFile told.storages named.name made)) t
    (ap (λ (d : Declared). d.meaning) (same_Some _ is (sym (own_name env node named name) ∙ found)) ∙ meaning)

-- ---- where nodes stand

-- nodes that may declare names
abbrev MayDeclare : Node → Type 0
MayDeclare (AnExternal d) = ⊥
MayDeclare (ADeclaration scope node) = ⊤
MayDeclare (ADefinition node) = ⊤
MayDeclare (AMember before m) = ⊥
MayDeclare (AnItem before i) = ⊥
MayDeclare (AParameter lone p) = ⊥
MayDeclare (ATypeName n) = ⊥
MayDeclare (ADeclarator left d) = ⊥
MayDeclare (AnInitialiser object init) = ⊥
MayDeclare (AStatement around s) = ⊥
MayDeclare (AnExpression e) = ⊥

may_declare : {env : Env} {node : Node} {n : NameDeclared} → DeclaresName env node n → MayDeclare node
may_declare (in_declaration among name found type) = tt
may_declare (by_definition name found type) = tt

declares_none : {env : Env} {node : Node} {n : NameDeclared} → DeclaresName env node n → IsQuiet node → ⊥
declares_none (in_declaration among name found type) never = never
declares_none (by_definition name found type) never = never

-- nodes that stand in items alone
abbrev IsDeclaration : Node → Type 0
IsDeclaration (AnExternal d) = ⊥
IsDeclaration (ADeclaration scope node) = ⊤
IsDeclaration (ADefinition node) = ⊥
IsDeclaration (AMember before m) = ⊥
IsDeclaration (AnItem before i) = ⊥
IsDeclaration (AParameter lone p) = ⊥
IsDeclaration (ATypeName n) = ⊥
IsDeclaration (ADeclarator left d) = ⊥
IsDeclaration (AnInitialiser object init) = ⊥
IsDeclaration (AStatement around s) = ⊥
IsDeclaration (AnExpression e) = ⊥

never_both : (node : Node) → IsDeclaration node → IsQuiet node → ⊥
never_both (AnExternal d) is never = never
never_both (ADeclaration scope node) is never = never
never_both (ADefinition node) is never = never
never_both (AMember before m) never is = never
never_both (AnItem before i) never is = never
never_both (AParameter lone p) never is = never
never_both (ATypeName n) never is = never
never_both (ADeclarator left d) never is = never
never_both (AnInitialiser object init) never is = never
never_both (AStatement around s) never is = never
never_both (AnExpression e) never is = never

module _ (externs : List Name) (unit : Unit) where
  -- a node stands in a definition
  data StandsWhere (env : Env) (definition : Definition) : Env → Node → Type 0 where
    outermost : StandsWhere env definition env (AnExternal (decl.Function definition))
    itself : StandsWhere env definition env (ADefinition definition)
    quiet : {env' : Env} {node' : Node} → IsQuiet node' → StandsWhere env definition env' node'
    in_items : {env' : Env} {node' : Node} → StandsInside externs unit (items_of env definition) env' node' → StandsWhere env definition env' node'

  -- its parts behind the specifiers
  abbrev others : Env → Definition → List Placed
  others env definition =
      let told = specifiers_found definition.specifiers env false in
      let after = extend env told.additions in
      at after (ADeclarator (defined_left told (at_end externs unit) after definition) definition.declarator) ∷ items_of env definition

  stands_where : {env : Env} {definition : Definition} {env' : Env} {node' : Node} → StandsIn externs unit env (ADefinition definition) env' node' → StandsWhere env definition env' node'
  stands_where stands.Stands.here = itself
  stands_where {env} {definition} {env'} {node'} (stands.Stands.inside part there below) = by_part (either part (specifiers_parts false env definition.specifiers) (others env definition) there)
    where
      by_part : IsIn part (specifiers_parts false env definition.specifiers) ⊎ IsIn part (others env definition) → StandsWhere env definition env' node'
      by_part (inl first) = quiet (stands_quiet (at_end externs unit) below (among_quiet (specifiers_parts false env definition.specifiers) part first (specifiers_quiet false definition.specifiers env)))
      by_part (inr (inl same)) = quiet (stands_quiet (at_end externs unit) below (subst (λ (p : Placed). IsQuiet p.node) (sym same) tt))
      by_part (inr (inr among)) = in_items (record { outer = part; among = among; stands = below })

  -- in the external declaration that it is
  inside_where : {env : Env} {definition : Definition} {env' : Env} {node' : Node} → StandsIn externs unit env (AnExternal (decl.Function definition)) env' node' → StandsWhere env definition env' node'
  inside_where stands.Stands.here = outermost
  inside_where {env' = env'} {node' = node'} (stands.Stands.inside part (inl same) below) = stands_where (subst (λ (p : Placed). StandsIn externs unit p.env p.node env' node') same below)
  inside_where (stands.Stands.inside part (inr never) below) = absurd never

  whole_where : {env : Env} {definition : Definition} {env' : Env} {node' : Node} → StandsInside externs unit (whole env definition) env' node' → StandsWhere env definition env' node'
  whole_where {env} {definition} {env'} {node'} is = by_outer is.among
    where
      by_outer : IsIn is.outer (whole env definition) → StandsWhere env definition env' node'
      by_outer (inl same) = inside_where (subst (λ (p : Placed). StandsIn externs unit p.env p.node env' node') same is.stands)
      by_outer (inr never) = absurd never

  -- what stands in the items stands in the definition
  items_stand : {env : Env} {definition : Definition} {env' : Env} {node' : Node} → StandsInside externs unit (items_of env definition) env' node' → StandsIn externs unit env (ADefinition definition) env' node'
  items_stand {env} {definition} is = stands.Stands.inside is.outer (in_rest is.outer (specifiers_parts false env definition.specifiers) _ (inr is.among)) is.stands

  pub items_in_whole : {env : Env} {definition : Definition} {env' : Env} {node' : Node} → StandsInside externs unit (items_of env definition) env' node' →
      StandsInside externs unit (whole env definition) env' node'
  items_in_whole {env} {definition} is = record {
    outer = at env (AnExternal (decl.Function definition));
    among = inl refl;
    stands = stands.Stands.inside (at env (ADefinition definition)) (inl refl) (items_stand is);
  }

  pub itself_in_whole : (env : Env) (definition : Definition) → StandsInside externs unit (whole env definition) env (ADefinition definition)
  itself_in_whole env definition = record {
    outer = at env (AnExternal (decl.Function definition));
    among = inl refl;
    stands = stands.Stands.inside (at env (ADefinition definition)) (inl refl) stands.Stands.here;
  }

  -- ---- names

  pub data DeclaresWhere (env : Env) (definition : Definition) : Env → Node → NameDeclared → Type 0 where
    own : {n : NameDeclared} → DeclaresName env (ADefinition definition) n → DeclaresWhere env definition env (ADefinition definition) n
    inner : {env' : Env} {node' : Node} {n : NameDeclared} → IsNameInside externs unit (items_of env definition) env' node' n → DeclaresWhere env definition env' node' n

  by_where : {env : Env} {definition : Definition} {env' : Env} {node' : Node} {n : NameDeclared} → StandsWhere env definition env' node' → DeclaresName env' node' n → DeclaresWhere env definition env' node' n
  by_where outermost declares = absurd (may_declare declares)
  by_where itself declares = own declares
  by_where (quiet is) declares = absurd (declares_none declares is)
  by_where (in_items is) declares = inner (record { stands = is; declares = declares })

  pub names_where : {env : Env} {definition : Definition} {env' : Env} {node' : Node} {n : NameDeclared} → IsNameInside externs unit (whole env definition) env' node' n →
      DeclaresWhere env definition env' node' n
  names_where is = by_where (whole_where is.stands) is.declares

  -- ---- locals

  pub local_inside : {env : Env} {definition : Definition} {n : NameDeclared} {t : Ty} → IsLocalName externs unit env definition n t →
      (env' : Env) × (node' : Node) × IsNameInside externs unit (items_of env definition) env' node' n
  local_inside {env} {definition} {n} is = by_name (by_where (stands_where is.stands) is.declares) is.is_object
    where
      by_name : {env' : Env} {node' : Node} {t : Ty} → DeclaresWhere env definition env' node' n → n.is.meaning ≡ AnObject t false →
          (env' : Env) × (node' : Node) × IsNameInside externs unit (items_of env definition) env' node' n
      by_name (own declares) object = absurd (own_is_no_local declares object)
      by_name (inner name) object = (_, _, name)

  pub inside_local : {env : Env} {definition : Definition} {env' : Env} {node' : Node} {n : NameDeclared} {t : Ty} → IsNameInside externs unit (items_of env definition) env' node' n →
      n.is.meaning ≡ AnObject t false → IsLocalName externs unit env definition n t
  inside_local is object = record { env' = _; node = _; stands = items_stand is.stands; declares = is.declares; is_object = object }

  -- ---- objects of static storage

  by_declaration : {env : Env} {definition : Definition} {env' : Env} {node' : Node} → StandsWhere env definition env' node' → IsDeclaration node' → StandsInside externs unit (items_of env definition) env' node'
  by_declaration outermost never = absurd never
  by_declaration itself never = absurd never
  by_declaration {node' = node'} (quiet is) declaration = absurd (never_both node' declaration is)
  by_declaration (in_items is) declaration = is

  pub given_inside : {env : Env} {definition : Definition} {types : List CType} {entities : List Entity} {ordinal : ℕ} → IsGivenInside externs unit (whole env definition) types entities ordinal → IsGivenInside externs unit (items_of env definition) types entities ordinal
  given_inside is = record { given = is.given; stands = by_declaration (whole_where is.stands) tt }
