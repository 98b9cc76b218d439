-- Each body of a typed tree is that of an entity that its source defines.
use Rattle.std.proofs.Common.{◌≡◌, ◌∙◌, ◌++◌, inl, inr, ℕ, zero, suc, Bool, true, false, if◌then◌else◌, List, [], ◌∷◌, None, Option, Some, slice_get, ap, refl, subst, sym}
use Rattle.std.specs.List.{Contains}
use Rattle.std.proofs.lemmas.Option.{none-some, same_Some}
use Rattle.std.proofs.lemmas.Slice.Eq.{bytes_eq-Decides}
use Rattle.lk_link.specs.Sources.{IsDefining, IsDefinition}
use Rattle.lk_lower_parts.proofs.PlaceLists.{at_there}
use Rattle.lk_nodes.proofs.Names.{defined_names_have_types, names_are_told_apart}
use Rattle.lk_tree.specs.Numbers.{numbered}
use Rattle.lk_tree.specs.declared.statement.Decl.TheVariants as decl
use Rattle.lk_tree.specs.declared.statement.Function.{Function as Definition}
use Rattle.lk_tree.specs.declared.statement.Unit.{Unit}
use Rattle.lk_typed.specs.DeclarationRules.{AtFile, Defined, InDefinition, type_in}
use Rattle.lk_typed.specs.Declarations.{declared_as, named_additions, one_name}
use Rattle.lk_typed.specs.Entities.{NameDeclared, behind_name, by_definition, defined_type}
use Rattle.lk_typed.specs.Env.{Declared, Env, Name, extend, is_name, latest, look_up, or_else}
use Rattle.lk_typed.specs.Expressions.{declarator_found, specifiers_found}
use Rattle.lk_typed.specs.Layers.{type_made}
use Rattle.lk_typed.specs.Nodes.{ADefinition, AnExternal, Placed, at}
use Rattle.lk_typed.specs.Stands.{IsIn}
use Rattle.lk_typed.specs.Stands.Stands.{here, inside}
use Rattle.lk_typed.specs.Told.{Named}
use Rattle.lk_typed.specs.Ty.{Ty}
use Rattle.lk_typed.specs.TypedUnits.{AreBodies, IsBody, IsTypedUnit}
use Rattle.lk_typed.specs.TypedUnits.AreBodies.{no_more, definition, declaration, empty}
use Rattle.lk_typed.specs.Units.{IsNode, externals}
use Rattle.lk_typed.specs.Units.IsNode.{node_of}
use Rattle.lk_typed.specs.declared.entity.Entity.{Entity}
use Rattle.lk_typed.specs.declared.unit.Body.{Body}
use Rattle.lk_typed.specs.declared.unit.TypedUnit.{TypedUnit}
use Rattle.lk_types.specs.declared.c_type.CType.{CType}

-- ---- a name that was just declared is found

last_is : {A : Type 0} (test : A → Bool) (xs : List A) (x : A) → test x ≡ true → latest test (xs ++ x ∷ []) ≡ Some x
last_is test [] x is = ap (λ b. or_else None (if b then Some x else None)) is
last_is test (y ∷ xs) x is = ap (λ o. or_else o (if test y then Some y else None)) (last_is test xs x is)

found_alone : (env : Env) (d : Declared) → look_up (extend env (one_name d)) d.name ≡ Some d
found_alone env d = last_is (λ (x : Declared). is_name x.name d.name) env.declared d ((bytes_eq-Decides d.name d.name).1 refl)

-- what a definition of this type declares
abbrev declares : Env → Definition → Named → Ty → Declared
declares env node named t =
    let told = specifiers_found node.specifiers env false in
    let before = extend env told.additions in
    declared_as (extend before ((declarator_found node.declarator).additions before)) AtFile told.storages Defined None named.name named.ordinal (Some t)

found_there : (env : Env) (node : Definition) (named : Named) (t : Ty) → (declarator_found node.declarator).name ≡ Some named → defined_type env node ≡ Some t → look_up (behind_name env node) named.name ≡ Some (declares env node named t)
found_there env node named t name type =
    let told = specifiers_found node.specifiers env false in
    let before = extend env told.additions in
    let inner = declarator_found node.declarator in
    let after = extend before (inner.additions before) in
    let made = type_made before false (type_in InDefinition told) inner in
    ap (λ n. look_up (extend after (named_additions after AtFile told.storages Defined None n made)) named.name) name
    ∙ ap (λ o. look_up (extend after (named_additions after AtFile told.storages Defined None (Some named) o)) named.name) type
    ∙ found_alone after (declares env node named t)

-- ---- the definitions of bodies

module _ (externs : List Name) (tree : Unit) (types : List CType) (entities : List Entity) where
  -- each body is that of an external definition
  pub record IsOfDefinition (placed : List Placed) (body : Body) : Type 0 where
    pub env : Env
    pub node : Definition
    pub external : IsIn (at env (AnExternal (decl.Function node))) placed
    pub is : IsBody externs tree types entities env node body

  later : {placed : List Placed} {body : Body} (one : Placed) → IsOfDefinition placed body → IsOfDefinition (one ∷ placed) body
  later one of = record { env = of.env; node = of.node; external = inr of.external; is = of.is }

  pub body_is : {placed : List Placed} {bodies : List Body} → AreBodies externs tree types entities placed bodies → (b : ℕ) (body : Body) → slice_get bodies b ≡ Some body → IsOfDefinition placed body
  body_is no_more b body at_b = absurd (none-some body at_b)
  body_is (definition {env = env} {node = node} is others) zero body at_b =
      record { env = env; node = node; external = inl refl; is = subst (IsBody externs tree types entities env node) (same_Some _ body at_b) is }
  body_is (definition {env = env} {node = node} is others) (suc b) body at_b = later (at env (AnExternal (decl.Function node))) (body_is others b body at_b)
  body_is (declaration {env = env} {node = node} others) b body at_b = later (at env (AnExternal (decl.Declare node))) (body_is others b body at_b)
  body_is (empty {env = env} {node = node} others) b body at_b = later (at env (AnExternal (decl.Empty node))) (body_is others b body at_b)

-- ---- their entities

module _ (externs : List Name) (before tree : Unit) (numbers : tree ≡ numbered before) (unit : TypedUnit) (typed : IsTypedUnit externs tree unit) where
  definition_stands : (env : Env) (node : Definition) → IsIn (at env (AnExternal (decl.Function node))) (externals externs tree) → IsNode externs tree env (ADefinition node)
  definition_stands env node external = node_of (at env (AnExternal (decl.Function node))) external (inside (at env (ADefinition node)) (inl refl) here)

  -- each body is that of an entity that a definition declares
  pub body_defined : (b : ℕ) (body : Body) → slice_get unit.bodies b ≡ Some body → (entity : Entity) × (slice_get unit.entities body.entity ≡ Some entity) × IsDefinition entity
  body_defined b body at_b =
      let of = body_is externs tree unit.types.types unit.entities typed.bodies b body at_b in
      let named = of.is.named in
      let entity = of.is.entity.0 in
      let by = of.is.entity.2.0 in
      let there : Contains entity.declarations by = of.is.entity.2.1 in
      let has = typed.entities.none_else body.entity there.0 by (record { entity = entity; at = of.is.entity.1; has = at_there entity.declarations by there }) in
      let n : NameDeclared = has.2 in
      let number : named.ordinal ≡ n.is.ordinal = sym of.is.entity.2.2 ∙ has.4.ordinal in
      let stands = definition_stands of.env of.node of.external in
      let type = defined_names_have_types externs before tree numbers of.env of.node named has.0 has.1 n stands of.is.has_name has.3.stands has.3.declares number in
      let it = declares of.env of.node named n.type in
      let m : NameDeclared = record { is = it; spot = named.spot; type = n.type } in
      let same = names_are_told_apart externs before tree numbers of.env has.0 (ADefinition of.node) has.1 m n stands
      (by_definition of.is.has_name (found_there of.env of.node named n.type of.is.has_name type) type) has.3.stands has.3.declares number in
      let defines : it.defines ≡ by.defines = ap (λ (x : NameDeclared). x.is.defines) same.2 ∙ sym has.4.defines in
      (entity, of.is.entity.1, (there.0, by, there.1, there.2, subst IsDefining defines tt))
