-- A definition puts its own name, what the items of its body declare, and its body (C99 6.9.1).
use Rattle.std.proofs.Common.{◌≡◌, ◌∙◌, ◌++◌, ◌⊎◌, ℕ, inl, inr, false, List, [], ◌∷◌, Option, Some, None, length, refl, sym, ap, subst, append_assoc, arith}
use Rattle.std.proofs.lemmas.List.Elements.{Contains-append_cases, Contains-append_left, Contains-append_right}
use Rattle.std.proofs.lemmas.Option.{same_Some}
use Rattle.std.specs.Map.{lookup}
use Rattle.std.specs.Prelude.{nat_eq}
use Rattle.lk_base.specs.declared.spot.Spot.{Spot}
use Rattle.lk_tree.specs.declared.statement.Decl.TheVariants as decl
use Rattle.lk_tree.specs.declared.statement.Function.{Function as Definition}
use Rattle.lk_tree.specs.declared.statement.Unit.{Unit}
use Rattle.lk_types.specs.declared.c_type.CType.{CType}
use Rattle.lk_typed.specs.Entities.{DeclaresName, NameDeclared, behind_name, defined_type}
use Rattle.lk_typed.specs.Entities.DeclaresName.{by_definition}
use Rattle.lk_typed.specs.Env.{AsOperand, Declared, Env, Name, look_up}
use Rattle.lk_typed.specs.Locals.{AreLocals}
use Rattle.lk_typed.specs.Meaning.{meaning}
use Rattle.lk_typed.specs.Nodes.{ADefinition, AnExternal, Node, Placed, at}
use Rattle.lk_typed.specs.Parts.{specifiers_parts}
use Rattle.lk_typed.specs.Stands.{IsIn}
use Rattle.lk_typed.specs.Tables.{Tables}
use Rattle.lk_typed.specs.Told.{Named}
use Rattle.lk_typed.specs.Ty.{Ty}
use Rattle.lk_typed.specs.TypedUnits.{IsBody}
use Rattle.lk_typed.specs.Units.{IsNode}
use Rattle.lk_typed.specs.declared.entity.Entity.{Entity}
use Rattle.lk_typed.specs.declared.initialiser.StaticObject.{StaticObject}
use Rattle.lk_typed.specs.declared.statement.TypedStmt.{TypedStmt}
use Rattle.lk_typed.specs.declared.unit.Local.{Local}
use Rattle.lk_found.specs.Named.{name_in}
use Rattle.lk_elaborator.specs.Leading.{GoesOn, Leads}
use Rattle.lk_elaborator.specs.PuttingLocals.{AreNumbered}
use Rattle.lk_elaborator.specs.declared.elaborator.Elaborator.{Elaborator}
use Rattle.lk_elaborator.specs.declared.entities.NamedEntity.{NamedEntity}
use Rattle.lk_elaborate.specs.PuttingParameters.{PutsParameters}
use Rattle.lk_elab_init.specs.Source.{IsToldSource}
use Rattle.lk_elaborate.proofs.BodyLocals.{locals_are}
use Rattle.lk_elaborate.proofs.Carried.{goes_same, goes_then, in_rest, node_part}
use Rattle.lk_elaborate.proofs.InDefinitions.{DeclaresWhere, given_inside, items_in_whole, itself_in_whole, names_where, own_declared, own_is_no_local, own_name, whole}
use Rattle.lk_elaborate.proofs.InDefinitions.DeclaresWhere.{inner, own}
use Rattle.lk_elaborate.proofs.Outside.{goes_outside, outside_back, outside_then, source_outside}
use Rattle.lk_elaborate.proofs.PuttingThose.{names_same, names_then}
use Rattle.lk_elaborate.specs.Defining.{IsBlockOf, MakesBlock}
use Rattle.lk_elaborate.specs.DefinitionSteps.{IsHead, PutsBodyOf, body_of, items_of}
use Rattle.lk_elaborate.specs.Making.{StandIn}
use Rattle.lk_elaborate.specs.Outlining.{HasNoLocals, MakesDefinition, PutsBody}
use Rattle.lk_elaborate.specs.Outside.{GoesOutside, LeadsOutside, tables_of}
use Rattle.lk_elaborate.specs.Putting.{AreRising, IsNameInside, PutsAll, PutsNames, PutsObjects}
use Rattle.lk_elaborate.specs.PuttingDeclared.{LocalsPut, NamesPut, NoObject, PutsThose}
use Rattle.lk_elaborate.specs.PuttingStatements.{PutsBlock}
use Rattle.lk_elaborate.specs.declared.definitions.Head.{Head}

-- ---- the definition's own name

same_name : {a b : Declared} {s r : Spot} {t u : Ty} → a ≡ b → s ≡ r → t ≡ u → ◌≡◌ {A = NameDeclared} (record { is = a; spot = s; type = t }) (record { is = b; spot = r; type = u })
same_name p q r = cc

-- it has one
one_name : {env : Env} {node : Definition} {n m : NameDeclared} → DeclaresName env (ADefinition node) n → DeclaresName env (ADefinition node) m → n ≡ m
one_name {env} {node} (by_definition {named = named} {is = is} {t = t} name found type) (by_definition {named = named'} {is = is'} {t = t'} name' found' type') =
    let same : named ≡ named' = same_Some named named' (sym name ∙ name') in
    same_name (same_Some is is' (sym found ∙ (ap (λ (named : Named). look_up (behind_name env node) named.name) same ∙ found'))) (ap (λ (named : Named). named.spot) same) (same_Some t t' (sym type ∙ type'))

-- where it is put, no local is
no_local : {env : Env} {node : Definition} {n : NameDeclared} → DeclaresName env (ADefinition node) n → (old new : Elaborator) (locals : List Local) → LocalsPut (λ m. m ≡ n) old new locals → locals ≡ []
no_local declares old new [] put = refl
no_local {env} {node} declares old new (local ∷ locals) put =
    let of = put.none_else local (Contains-append_left (local ∷ []) locals local (0, omega arith, refl)) in
    absurd (own_is_no_local (subst (DeclaresName env (ADefinition node)) (sym of.2) declares) of.3)

-- ---- the end of the body

none_numbered : (walk : Elaborator) → walk.locals.numbers.entries ≡ [] → AreNumbered walk.locals
none_numbered walk none n l is = absurd (never (sym (ap (lookup (nat_eq n)) none) ∙ is))
  where
    never : ◌≡◌ {A = Option ℕ} None (Some l) → ⊥
    never is = cc

-- what the numbers stand for there
leads_inside : (end : Elaborator) (types : List CType) (entities : List Entity) → AreNumbered end.locals → LeadsOutside end types entities → Leads end (tables_of types entities end.locals.list.items)
leads_inside end types entities numbered leads = record {
  types = leads.longer;
  entities = leads.entities;
  locals = λ n l is. let has = numbered n l is in (has.0, record { at = has.1; by = has.2 });
}

module _ (old one two end new : Elaborator) (node : Definition) (head : Head) (count : ℕ) (block : TypedStmt) (one_on : GoesOn old one) (two_on : GoesOn one two) (end_on : GoesOn two end)
    (is_head : IsHead old one node head) (parameters : PutsParameters one two node.declarator head.ty count) (makes : MakesBlock two end node head.ty block) (items : PutsBlock two end node)
    (puts : PutsBodyOf end new node head.entity count block) where
  -- the state behind it, but for its name
  behind : Elaborator
  behind = record end { locals = new.locals; bodies = new.bodies }

  all_on : GoesOn one end
  all_on = goes_then one two end two_on end_on

  pub definition_goes : GoesOutside old new
  unfolding behind
  definition_goes = subst (GoesOutside old) (sym puts.same) (outside_then old end behind (goes_outside old end (goes_then old one end one_on all_on)) same_but)
    where
      same_but : GoesOutside end behind
      same_but =
          let same = goes_outside end end (goes_same end) in
          record { longer = same.longer; members = same.members; ready = same.ready; entities = same.entities; records = same.records; names = same.names; outside = same.outside }

  module _ (env : Env) (role : env.role ≡ AsOperand) (empty : HasNoLocals old) (stand : StandIn old (whole env node)) where
    abbrev named : Named
    named = name_in is_head.named

    abbrev externs : List Name
    externs = stand.externs

    abbrev unit : Unit
    unit = stand.unit

    told_one : IsToldSource externs unit one
    told_one = source_outside old one (goes_outside old one one_on) externs unit stand.told

    told_two : IsToldSource externs unit two
    told_two = source_outside one two (goes_outside one two two_on) externs unit told_one

    told_end : IsToldSource externs unit end
    told_end = source_outside two end (goes_outside two end end_on) externs unit told_two

    is_node : IsNode externs unit env (ADefinition node)
    is_node = node_part externs unit env (AnExternal (decl.Function node)) (at env (ADefinition node)) (stand.each (at env (AnExternal (decl.Function node))) (inl refl)) (inl refl)

    itself_there : (part : Placed) → IsIn part (at env (ADefinition node) ∷ []) → IsNode externs unit part.env part.node
    itself_there part (inl same) = subst (λ (p : Placed). IsNode externs unit p.env p.node) (sym same) is_node
    itself_there part (inr never) = absurd never

    abbrev stands_then : StandIn two (at env (ADefinition node) ∷ [])
    stands_then = record { externs = externs; unit = unit; told = told_two; each = itself_there }

    abbrev items_stand : StandIn two (items_of env node)
    items_stand = record {
      externs = externs;
      unit = unit;
      told = told_two;
      each = λ part there. node_part externs unit env (ADefinition node) part is_node (in_rest part (specifiers_parts false env node.specifiers) _ (inr there));
    }

    -- ---- its name

    typed : (t : Ty) × (defined_type env node ≡ Some t)
    typed = stand.told.defined_type env node named is_head.puts.0 is_node is_head.has_name is_head.puts.1

    abbrev n : NameDeclared
    n = record { is = own_declared env node named; spot = named.spot; type = typed.0 }

    declares : DeclaresName env (ADefinition node) n
    declares = by_definition is_head.has_name (own_name env node named is_head.has_name) typed.1

    abbrev body : Option ℕ
    body = Some (length old.bodies.items)

    name_put : PutsThose externs unit (λ m. m ≡ n) NoObject old one body
    name_put =
        is_head.puts.2 externs unit n body stand.told.ready (record { name = refl; spot = refl; ordinal = refl })
        (stand.told.declared env (ADefinition node) n is_head.puts.0 is_node declares is_head.puts.1) tt

    type_is : defined_type env node ≡ Some (meaning one.types head.ty)
    type_is =
        let recorded = told_one.declared env (ADefinition node) n is_head.type.0 is_node declares is_head.type.1 in
        typed.1 ∙ ap Some (sym recorded.type ∙ ap (meaning one.types) is_head.type.2)

    -- ---- its parameters and its items

    two_is : two ≡ record one { locals = two.locals }
    two_is = parameters.puts.same

    type_then : defined_type env node ≡ Some (meaning two.types head.ty)
    type_then = type_is ∙ ap (λ (walk : Elaborator). Some (meaning walk.types head.ty)) (sym two_is)

    same_bodies : two.bodies.items ≡ old.bodies.items
    same_bodies = ap (λ (walk : Elaborator). walk.bodies.items) two_is ∙ ap (λ bodies. bodies.items) name_put.bodies

    those : PutsAll externs unit (items_of env node) two end body
    those =
        subst (λ bodies. PutsAll externs unit (items_of env node) two end (Some (length bodies))) same_bodies
        (items env items_stand)

    block_is : (tables : Tables) → Leads end tables → IsBlockOf tables env node block
    block_is tables leads = makes env role type_then stands_then tables leads

    -- ---- names

    abbrev Inner : NameDeclared → Type 0
    Inner m = (env' : Env) × (node' : Node) × IsNameInside externs unit (items_of env node) env' node' m

    abbrev Whole : NameDeclared → Type 0
    Whole m = (env' : Env) × (node' : Node) × IsNameInside externs unit (whole env node) env' node' m

    inner_put : NamesPut Inner one.entities end.entities end.types.types body those.names
    inner_put =
        subst (λ (walk : Elaborator). NamesPut Inner walk.entities end.entities end.types.types body those.names) two_is (record {
          gathers = those.puts_names.gathers;
          rise = those.puts_names.rise;
          all = λ m kind there is. those.puts_names.all there.0 there.1 m kind there.2 is;
          none_else = λ one there. let of = those.puts_names.none_else one there in (of.2, (of.0, of.1, of.3), of.4);
        })

    to_whole : (m : NameDeclared) → (m ≡ n) ⊎ Inner m → Whole m
    to_whole m (inl same) = (env, ADefinition node, record { stands = itself_in_whole externs unit env node; declares = subst (DeclaresName env (ADefinition node)) (sym same) declares })
    to_whole m (inr there) = (there.0, there.1, record { stands = items_in_whole externs unit there.2.stands; declares = there.2.declares })

    from_whole : (m : NameDeclared) → Whole m → (m ≡ n) ⊎ Inner m
    from_whole m there = by (names_where externs unit there.2)
      where
        by : {env' : Env} {node' : Node} → DeclaresWhere externs unit env node env' node' m → (m ≡ n) ⊎ Inner m
        by (own is) = inl (one_name is declares)
        by (inner is) = inr (_, _, is)

    abbrev names : List NamedEntity
    names = name_put.names ++ those.names

    names_put : NamesPut Whole old.entities end.entities end.types.types body names
    names_put =
        names_same (λ m. (m ≡ n) ⊎ Inner m) Whole to_whole from_whole old.entities end.entities end.types.types body names
        (names_then (λ m. m ≡ n) Inner old.entities one.entities end.entities one.types end.types all_on.longer body name_put.names those.names name_put.names_put inner_put)

    puts_names : PutsNames externs unit (whole env node) old behind body names
    unfolding behind
    puts_names = record {
      gathers = names_put.gathers;
      rise = names_put.rise;
      all = λ env' node' m kind there is. names_put.all m kind (env', node', there) is;
      none_else = λ one there. let of = names_put.none_else one there in (of.1.0, of.1.1, of.0, of.1.2, of.2);
    }

    -- ---- objects

    abbrev objects : List StaticObject
    objects = name_put.objects ++ those.objects

    two_objects : two.objects.items ≡ one.objects.items
    two_objects = ap (λ (walk : Elaborator). walk.objects.items) two_is

    leads_end : (types : List CType) (entities : List Entity) → LeadsOutside behind types entities → LeadsOutside end types entities
    unfolding behind
    leads_end types entities leads = record { longer = leads.longer; entities = leads.entities }

    puts_objects : PutsObjects externs unit (whole env node) old behind objects
    unfolding behind
    puts_objects = record {
      list = those.puts_objects.list ∙ (ap (λ before. before ++ those.objects) (two_objects ∙ name_put.objects_put.list) ∙ append_assoc old.objects.items name_put.objects those.objects);
      rise = λ rise. those.puts_objects.rise (subst AreRising (sym two_objects) (name_put.objects_put.rise rise));
      all = λ types entities ordinal given.
          let has = those.puts_objects.all types entities ordinal (given_inside externs unit given) in (has.0, Contains-append_right name_put.objects those.objects has.0 has.1, has.2);
      each = λ object there types entities leads. elim (Contains-append_cases name_put.objects those.objects object there) [
        | inl early ↦ name_put.objects_put.each object early types entities (outside_back one end types entities (goes_outside one end all_on) (leads_end types entities leads))
        | inr late ↦ those.puts_objects.each object late types entities (leads_end types entities leads)
      ];
    }

    -- ---- locals

    none_yet : one.locals.list.items ≡ []
    none_yet =
        name_put.locals_put.list ∙ (ap (λ before. before ++ name_put.locals) empty.list ∙ no_local declares old one name_put.locals name_put.locals_put)

    numbered : AreNumbered end.locals
    numbered = those.puts_locals.numbered (parameters.puts.numbered (name_put.locals_put.numbered (none_numbered old empty.numbers)))

    locals : (types : List CType) (entities : List Entity) → LeadsOutside end types entities → AreLocals externs unit types env node count end.locals.list.items
    locals types entities leads =
        subst (λ types. AreLocals externs unit types env node count end.locals.list.items) (sym leads.longer.1)
        (locals_are externs unit one two end env node head.ty count those.locals all_on.longer.types.0 leads.longer.0 none_yet told_one told_end all_on.longer.types.1 type_is parameters those.puts_locals)

    -- ---- the body

    is_body : (types : List CType) (entities : List Entity) → LeadsOutside behind types entities → IsBody externs unit types entities env node (body_of end node head.entity count block)
    is_body types entities leads =
        let leads = leads_end types entities leads in
        let made = block_is (tables_of types entities end.locals.list.items) (leads_inside end types entities numbered leads) in
        record {
          spot = refl;
          ordinal = refl;
          named = named;
          has_name = is_head.has_name;
          entity = leads.entities named.ordinal head.entity (all_on.entities named.ordinal head.entity is_head.entity);
          locals = locals types entities leads;
          items = made.items;
          are_items = made.are_items;
          block = made.block;
        }

    end_bodies : end.bodies.items ≡ old.bodies.items
    end_bodies = ap (λ bodies. bodies.items) those.bodies ∙ same_bodies

    body_put : PutsBody externs unit env old behind node
    unfolding behind
    body_put = record {
      body = body_of end node head.entity count block;
      bodies = puts.bodies ∙ ap (λ before. before ++ body_of end node head.entity count block ∷ []) end_bodies;
      ordinal = refl;
      is_body = is_body;
      names = names;
      puts_names = puts_names;
      objects = objects;
      puts_objects = puts_objects;
    }

  pub definition_made : MakesDefinition old new node
  unfolding behind
  definition_made env role empty stand = subst (λ new. PutsBody stand.externs stand.unit env old new node) (sym puts.same) (body_put env role empty stand)
