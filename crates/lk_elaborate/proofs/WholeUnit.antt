-- The typed tree that is made of a source is the one that the rules give.
use Rattle.std.proofs.Common.{◌≡◌, ◌∙◌, ◌++◌, ℕ, All, List, [], ◌∷◌, Some, map, refl, sym, ap, subst, slice_get}
use Rattle.std.proofs.lemmas.List.Elements.{All-head, All-tail}
use Rattle.std.proofs.lemmas.Option.{none-some, same_Some}
use Rattle.lk_tree.specs.declared.statement.Unit.{Unit}
use Rattle.lk_types.specs.Table.{Table, IsKnown}
use Rattle.lk_types.specs.declared.c_type.CType.{CType}
use Rattle.lk_typed.proofs.Means.{means_meaning}
use Rattle.lk_typed.specs.Entities.{AreEntities, NameDeclared}
use Rattle.lk_typed.specs.Env.{Env, Name}
use Rattle.lk_typed.specs.Meaning.{IsReady, meaning}
use Rattle.lk_typed.specs.Nodes.{Node}
use Rattle.lk_typed.specs.Stands.Stands.{here}
use Rattle.lk_typed.specs.Structs.{AreMembers, AreStructs, HaveTags}
use Rattle.lk_typed.specs.Structs.AreMembers.{no_more as no_fields, next as one_field}
use Rattle.lk_typed.specs.Structs.AreStructs.{no_more as no_structs, incomplete, complete}
use Rattle.lk_typed.specs.Ty.{Means}
use Rattle.lk_typed.specs.TypedUnits.{AreBodies, AreObjects, AreTypes, IsTypedUnit}
use Rattle.lk_typed.specs.Typings.{HasKnownFields, field_in, members_in, structs_in}
use Rattle.lk_typed.specs.Units.{IsNode, around, at_end, externals}
use Rattle.lk_typed.specs.Units.IsNode.{node_of}
use Rattle.lk_typed.specs.declared.initialiser.StaticObject.{StaticObject}
use Rattle.lk_typed.specs.declared.members.Field.{Field}
use Rattle.lk_typed.specs.declared.members.Members.{Members}
use Rattle.lk_typed.specs.declared.members.Members.TheVariants as members
use Rattle.lk_typed.specs.declared.unit.TypedUnit.{TypedUnit}
use Rattle.lk_found.specs.Structs.{listed, member_of}
use Rattle.lk_checker.specs.declared.checker.Checked.{Checked}
use Rattle.lk_elaborator.proofs.Gathering.{at_contained, contains_at}
use Rattle.lk_elaborator.proofs.Numbers.{means_on}
use Rattle.lk_elaborator.specs.Beginning.{Begins}
use Rattle.lk_elaborator.specs.Gathering.{AreFinished, IsGathered, declaration_of, entity_at}
use Rattle.lk_elaborator.specs.Rising.{IsRising}
use Rattle.lk_elaborator.specs.declared.elaborator.Elaborator.{Elaborator}
use Rattle.lk_elaborator.specs.declared.entities.NamedEntity.{NamedEntity}
use Rattle.lk_elab_expr.proofs.Gathered as entities
use Rattle.lk_elab_expr.proofs.Used.{first_uses}
use Rattle.lk_elab_expr.specs.Naming.{AreFirstUses, AreNamesOf, IsNameOf}
use Rattle.lk_nodes.proofs.Settled.{sources_are_settled}
use Rattle.lk_elab_init.specs.Source.{IsToldSource}
use Rattle.lk_elaborate.proofs.Externals.{name_on}
use Rattle.lk_elaborate.proofs.Outside.{source_outside}
use Rattle.lk_elaborate.proofs.ToldSource.{told_source}
use Rattle.lk_elaborate.specs.Checked.{IsCheckedOf}
use Rattle.lk_elaborate.specs.Externals.{MakesExternals, PutsExternals}
use Rattle.lk_elaborate.specs.Finishing.{HasWholeStructs, IsTreeOf, IsWhole}
use Rattle.lk_elaborate.specs.Outside.{GoesOutside, LeadsOutside}
use Rattle.lk_elaborate.specs.Putting.{AreRising, StandsInside}

-- ---- structs

module _ (table : Table) (types : List CType) (means : (t : ℕ) → IsKnown table t → Means types t (meaning table t)) where
  members_are : (found : List Field) → All (λ (field : Field). IsKnown table field.ty) found → AreMembers types (map (field_in table) found) (map member_of found)
  members_are [] known = no_fields
  members_are (field ∷ found) known =
      one_field refl (means field.ty (All-head (λ (field : Field). IsKnown table field.ty) field found known)) (members_are found (All-tail (λ (field : Field). IsKnown table field.ty) field found known))

  structs_are : (all : List Members) → All IsWhole all → All (HasKnownFields table) all → AreStructs types (map (members_in table) all) (map listed all)
  structs_are [] whole known = no_structs
  structs_are (one ∷ others) whole known = by_one one (All-head IsWhole one others whole) (All-head (HasKnownFields table) one others known)
      (structs_are others (All-tail IsWhole one others whole) (All-tail (HasKnownFields table) one others known))
    where
      by_one : (one : Members) → IsWhole one → HasKnownFields table one → AreStructs types (map (members_in table) others) (map listed others) →
          AreStructs types (members_in table one ∷ map (members_in table) others) (listed one ∷ map listed others)
      by_one members.NotYet whole known rest = incomplete rest
      by_one members.Begun whole known rest = absurd whole
      by_one (members.Known found) whole known rest = complete (members_are found known) rest
      by_one members.Faulty whole known rest = absurd whole

-- ---- lists

none_rises : (objects : List StaticObject) → objects ≡ [] → AreRising objects
none_rises objects none o p a b order at_o at_p = absurd (none-some a (sym (ap (λ objects. slice_get objects o) none) ∙ at_o))

-- ---- the source

module _ (externs : List Name) (unit : Unit) where
  stands_inside : (env : Env) (node : Node) → IsNode externs unit env node → StandsInside externs unit (externals externs unit) env node
  stands_inside env node (node_of outer among stands) = record { outer = outer; among = among; stands = stands }

  stands_there : (env : Env) (node : Node) → StandsInside externs unit (externals externs unit) env node → IsNode externs unit env node
  stands_there env node is = node_of is.outer is.among is.stands

  module _ (checked : Checked) (is : IsCheckedOf externs unit checked) (ready : IsReady checked.types) (has : HasWholeStructs checked) (first : Elaborator) (begins : Begins checked first) where
    told_first : IsToldSource externs unit first
    told_first = told_source externs is.before unit is.numbers first (rw (begins.types, begins.records) is.records) (rw begins.types ready) (rw begins.outside is.behind.outside)
        (rw (begins.types, begins.names) (ap (λ (env : Env). env.structs) is.behind.scope)) (rw (begins.types, begins.names) is.behind.known)
        (rw (begins.types, begins.names) is.behind.structs) (rw (begins.records, begins.names) has.counted) (sources_are_settled externs unit is.faultless)

    module _ (last : Elaborator) (goes : GoesOutside first last) (makes : MakesExternals first last unit.externals) (typed : TypedUnit) (tree : IsTreeOf last typed) where
      puts : PutsExternals externs unit (externals externs unit) first last
      puts = makes (around externs unit) refl (record { externs = externs; unit = unit; told = told_first; each = λ part among. node_of part among here })

      told_last : IsToldSource externs unit last
      told_last = source_outside first last goes externs unit told_first

      ready_typed : IsReady typed.types
      ready_typed = tree.ready told_last.ready

      -- ---- entities

      gathered : IsGathered puts.names last.entities
      gathered = puts.puts_names.gathers [] begins.entities

      rising : IsRising puts.names last.entities
      rising = puts.puts_names.rise [] begins.rise

      name_last : (env : Env) (node : Node) (n : NameDeclared) (named : NamedEntity) → IsNameOf externs unit last.types.types last.bodies.items env node n named →
          IsNameOf externs unit typed.types.types typed.bodies env node n named
      name_last env node n named of =
          subst (λ types. IsNameOf externs unit types typed.bodies env node n named) (sym tree.longer.types.1)
          (subst (λ bodies. IsNameOf externs unit (last.types.types ++ tree.longer.types.0) bodies env node n named) (append_none last.bodies.items ∙ sym tree.bodies)
          (name_on externs unit last.types.types tree.longer.types.0 last.bodies.items [] env node n named of))
        where
          append_none : {A : Type 0} (xs : List A) → xs ++ [] ≡ xs
          append_none [] = refl
          append_none (x ∷ xs) = ap (λ ys. x ∷ ys) (append_none xs)

      are_names : AreNamesOf externs unit typed.types.types typed.bodies puts.names
      are_names = record {
        all = λ env node n name.
            let found = puts.puts_names.all env node n name.kind (record { stands = stands_inside env node name.stands; declares = name.declares }) name.is_entity in
            (found.0, found.1, name_last env node n found.0 found.2);
        none_else = λ named there.
            let found = puts.puts_names.none_else named there in (
              found.0,
              found.1,
              found.2,
              record { stands = stands_there found.0 found.1 found.3.stands; declares = found.3.declares; kind = named.kind; is_entity = found.4.kind },
              name_last found.0 found.1 found.2 named found.4,
            );
        rise = rising.rise;
      }

      uses : AreFirstUses externs unit last.records.first_uses
      uses = first_uses externs unit last.records.first_uses told_last.uses.truth told_last.uses.each

      finished : AreFinished typed.types.types last.records.first_uses last.entities.list.items typed.entities
      finished = tree.finished told_last.ready

      are_entities : AreEntities externs unit typed.types.types typed.bodies typed.entities
      are_entities = record {
        all = entities.all externs unit typed.types.types typed.bodies puts.names are_names last.entities gathered last.records.first_uses uses typed.entities finished;
        none_else = entities.none_else externs unit typed.types.types typed.bodies puts.names are_names last.entities gathered last.records.first_uses uses typed.entities finished;
        one = entities.one externs unit typed.types.types typed.bodies puts.names are_names last.entities gathered last.records.first_uses uses typed.entities finished;
        first = entities.first_of externs unit typed.types.types typed.bodies puts.names are_names last.entities gathered last.records.first_uses uses typed.entities finished;
        entities_rise = entities.entities_rise externs unit typed.types.types typed.bodies puts.names are_names last.entities gathered last.records.first_uses uses typed.entities finished;
        declarations_rise = entities.declarations_rise externs unit typed.types.types typed.bodies puts.names are_names last.entities gathered last.records.first_uses uses typed.entities finished;
      }

      leads : LeadsOutside last typed.types.types typed.entities
      leads = record {
        longer = tree.longer.types;
        entities = λ n e at.
            let named = gathered.numbered n e at in
            let has_it = gathered.all named.0 named.1 in
            let same = same_Some has_it.0 e (sym has_it.2 ∙ (ap (entity_at last.entities) named.2 ∙ at)) in
            let there = entities.there externs unit typed.types.types typed.bodies puts.names are_names last.entities gathered last.records.first_uses uses typed.entities finished
            has_it.0 has_it.1 (declaration_of named.0) has_it.3 in (
              there.entity,
              subst (λ k. slice_get typed.entities k ≡ Some there.entity) same there.at,
              (declaration_of named.0, contains_at there.entity.declarations has_it.1 (declaration_of named.0) there.has, named.2),
            );
      }

      -- ---- objects and bodies

      objects_are : typed.objects ≡ puts.objects
      objects_are = tree.objects ∙ (puts.puts_objects.list ∙ ap (λ before. before ++ puts.objects) begins.objects)

      bodies_are : typed.bodies ≡ puts.bodies
      bodies_are = tree.bodies ∙ (puts.puts_bodies.list ∙ ap (λ before. before ++ puts.bodies) begins.bodies)

      are_objects : AreObjects externs unit typed.types.types typed.entities typed.objects
      are_objects = record {
        each = λ o object at.
            puts.puts_objects.each object (contains_at puts.objects o object (subst (λ objects. slice_get objects o ≡ Some object) objects_are at)) typed.types.types typed.entities leads;
        all = λ ordinal given.
            let found = puts.puts_objects.all typed.types.types typed.entities ordinal (record { given = given; stands = stands_inside given.env _ given.stands }) in
            let at = at_contained puts.objects found.0 found.1 in
            (at.0, found.0, subst (λ objects. slice_get objects at.0 ≡ Some found.0) (sym objects_are) at.1, found.2);
        rise = subst AreRising (sym tree.objects) (puts.puts_objects.rise (none_rises first.objects.items begins.objects));
      }

      are_bodies : AreBodies externs unit typed.types.types typed.entities (externals externs unit) typed.bodies
      are_bodies = subst (AreBodies externs unit typed.types.types typed.entities (externals externs unit)) (sym bodies_are) (puts.puts_bodies.are typed.types.types typed.entities leads)

      -- ---- types

      means : (t : ℕ) → IsKnown last.types t → Means typed.types.types t (meaning last.types t)
      means t known = subst (λ types. Means types t (meaning last.types t)) (sym tree.longer.types.1)
          (means_on last.types.types tree.longer.types.0 (means_meaning last.types told_last.ready.table_is t known))

      whole_last : All IsWhole last.names.structs
      whole_last = rw (goes.names, begins.names) has.whole

      are_structs : AreStructs typed.types.types (at_end externs unit).structs typed.types.members
      are_structs =
          subst (λ those. AreStructs typed.types.types those typed.types.members) told_last.structs
          (subst (AreStructs typed.types.types (structs_in last.types last.names.structs)) (sym (tree.members ∙ told_last.listed.members))
          (structs_are last.types typed.types.types means last.names.structs whole_last told_last.fields))

      are_types : AreTypes externs unit typed.types
      are_types = record { is_table = ready_typed.table_is; predeclared = ready_typed.predeclared; structs = are_structs; parts = tree.parts }

      -- ---- the tree

      pub is_typed : IsTypedUnit externs unit typed
      is_typed = record {
        types = are_types;
        tags = subst (HaveTags externs unit (at_end externs unit).structs) (sym tree.tags) told_last.tags;
        entities = are_entities;
        objects = are_objects;
        bodies = are_bodies;
      }
