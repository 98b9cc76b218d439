-- What external declarations put, put together (C99 6.9).
use Rattle.std.proofs.Common.{◌≡◌, ◌∙◌, ◌++◌, ◌⊎◌, inl, inr, ℕ, List, [], ◌∷◌, Option, Some, None, length, slice_get, refl, sym, ap, subst, append_assoc, arith}
use Rattle.std.specs.List.{Contains}
use Rattle.std.proofs.lemmas.List.{append-nil}
use Rattle.std.proofs.lemmas.List.Elements.{Contains-append_cases, Contains-append_left, Contains-append_right}
use Rattle.std.proofs.lemmas.Option.{none-some, same_Some}
use Rattle.lk_tree.specs.declared.declaration.Declare.{Declare}
use Rattle.lk_tree.specs.declared.statement.Decl.{Decl}
use Rattle.lk_tree.specs.declared.statement.Decl.TheVariants as decl
use Rattle.lk_tree.specs.declared.statement.Empty.{Empty}
use Rattle.lk_tree.specs.declared.statement.Function.{Function as Definition}
use Rattle.lk_tree.specs.declared.statement.Unit.{Unit}
use Rattle.lk_types.specs.declared.c_type.CType.{CType}
use Rattle.lk_typed.specs.DeclarationRules.{AtFile, Scope}
use Rattle.lk_typed.specs.Entities.{DeclaresName, HasBody, NameDeclared, StandsIn}
use Rattle.lk_typed.specs.Entities.DeclaresName.{in_declaration, by_definition}
use Rattle.lk_typed.specs.Entities.HasBody.{none, in_block}
use Rattle.lk_typed.specs.Env.{Env, Name}
use Rattle.lk_typed.specs.NodeParts.{parts}
use Rattle.lk_typed.specs.Nodes.{ADeclaration, ADefinition, AnExternal, Node, Placed, at}
use Rattle.lk_typed.specs.Stands.{IsIn}
use Rattle.lk_typed.specs.Stands.Stands.{here, inside}
use Rattle.lk_typed.specs.TypedUnits.{AreBodies}
use Rattle.lk_typed.specs.TypedUnits.AreBodies.{no_more, definition, declaration, empty}
use Rattle.lk_typed.specs.Units.{IsNode, at_end}
use Rattle.lk_typed.specs.declared.entity.Entity.{Entity}
use Rattle.lk_typed.specs.declared.initialiser.StaticObject.{StaticObject}
use Rattle.lk_typed.specs.declared.unit.Body.{Body}
use Rattle.lk_elaborator.proofs.Gathering.{at_before, at_last}
use Rattle.lk_elaborator.proofs.Numbers.{means_on}
use Rattle.lk_elaborator.specs.Gathering.{IsGathered}
use Rattle.lk_elaborator.specs.Rising.{IsRising}
use Rattle.lk_elaborator.specs.declared.elaborator.Elaborator.{Elaborator}
use Rattle.lk_elaborator.specs.declared.entities.NamedEntity.{NamedEntity}
use Rattle.lk_elaborator.specs.declared.locals.Locals.{Locals}
use Rattle.lk_elab_expr.specs.Naming.{IsNameOf}
use Rattle.lk_elab_init.proofs.Standing.{part_stands}
use Rattle.lk_elaborate.proofs.Outside.{outside_back, source_with}
use Rattle.lk_elaborate.specs.Externals.{MakesExternal, PutsEntities, PutsExternals}
use Rattle.lk_elaborate.specs.Outlining.{HasNoLocals, MakesDefinition, PutsBody}
use Rattle.lk_elaborate.specs.Outside.{GoesOutside, LeadsOutside}
use Rattle.lk_elaborate.specs.Putting.{HasBodyIn, IsNameInside, IsPutAs, PutsNames, PutsObjects, PutsAll, PutsOutside, StandsInside}
use Rattle.lk_elaborate.specs.Putting.HasBodyIn.{linked, in_block as in_this}

-- ---- among more nodes

in_some : (xs ys : List Placed) (p : Placed) → IsIn p (xs ++ ys) → IsIn p xs ⊎ IsIn p ys
in_some [] ys p there = inr there
in_some (x ∷ xs) ys p (inl same) = inl (inl same)
in_some (x ∷ xs) ys p (inr there) = elim (in_some xs ys p there) [ inl before ↦ inl (inr before) | inr behind ↦ inr behind ]

in_first : (xs ys : List Placed) (p : Placed) → IsIn p xs → IsIn p (xs ++ ys)
in_first [] ys p there = absurd there
in_first (x ∷ xs) ys p (inl same) = inl same
in_first (x ∷ xs) ys p (inr there) = inr (in_first xs ys p there)

pub in_second : (xs ys : List Placed) (p : Placed) → IsIn p ys → IsIn p (xs ++ ys)
in_second [] ys p there = there
in_second (x ∷ xs) ys p there = inr (in_second xs ys p there)

module _ (externs : List Name) (unit : Unit) where
  -- ---- bodies

  bodies_both : (types : List CType) (entities : List Entity) {xs ys : List Placed} {bs cs : List Body} → AreBodies externs unit types entities xs bs → AreBodies externs unit types entities ys cs →
      AreBodies externs unit types entities (xs ++ ys) (bs ++ cs)
  bodies_both types entities no_more others = others
  bodies_both types entities (definition is those) others = definition is (bodies_both types entities those others)
  bodies_both types entities (declaration those) others = declaration (bodies_both types entities those others)
  bodies_both types entities (empty those) others = empty (bodies_both types entities those others)

  -- ---- names, among more types and bodies

  body_on : (bodies more : List Body) (env : Env) (node : Node) (n : NameDeclared) (b : Option ℕ) → HasBody externs unit bodies env node n b → HasBody externs unit (bodies ++ more) env node n b
  body_on bodies more env node n b (none both) = none both
  body_on bodies more env node n b (in_block alone stands) = in_block alone (record {
    around = stands.around;
    definition = stands.definition;
    of = stands.of;
    inside = stands.inside;
    body = stands.body;
    at = at_before bodies more _ stands.body stands.at;
    is = stands.is;
  })

  pub name_on : (types more : List CType) (bodies others : List Body) (env : Env) (node : Node) (n : NameDeclared) (named : NamedEntity) → IsNameOf externs unit types bodies env node n named →
      IsNameOf externs unit (types ++ more) (bodies ++ others) env node n named
  name_on types more bodies others env node n named is = record {
    name = is.name;
    linkage = is.linkage;
    kind = is.kind;
    declaration = record { spot = is.declaration.spot; ordinal = is.declaration.ordinal; type = means_on types more is.declaration.type; defines = is.declaration.defines };
    body = body_on bodies others env node n named.body is.body;
  }

  -- ---- in other nodes

  stands_among : (xs ys : List Placed) → ((p : Placed) → IsIn p xs → IsIn p ys) → (env : Env) (node : Node) → StandsInside externs unit xs env node → StandsInside externs unit ys env node
  stands_among xs ys among env node is = record { outer = is.outer; among = among is.outer is.among; stands = is.stands }

  stands_split : (xs ys : List Placed) (env : Env) (node : Node) → StandsInside externs unit (xs ++ ys) env node → StandsInside externs unit xs env node ⊎ StandsInside externs unit ys env node
  stands_split xs ys env node is = elim (in_some xs ys is.outer is.among) [
    | inl first ↦ inl (record { outer = is.outer; among = first; stands = is.stands })
    | inr second ↦ inr (record { outer = is.outer; among = second; stands = is.stands })
  ]

  -- ---- nothing

  module _ (walk : Elaborator) where
    pub none_put : PutsExternals externs unit [] walk walk
    none_put = record {
      bodies = [];
      puts_bodies = record { list = sym (append-nil walk.bodies.items); are = λ types entities leads. no_more };
      names = [];
      puts_names = record {
        gathers = λ ns are. subst (λ ms. IsGathered ms walk.entities) (sym (append-nil ns)) are;
        rise = λ ns are. subst (λ ms. IsRising ms walk.entities) (sym (append-nil ns)) are;
        all = λ env node n kind is of. absurd is.stands.among;
        none_else = λ named there. absurd (none_in named there);
      };
      objects = [];
      puts_objects = record {
        list = sym (append-nil walk.objects.items);
        rise = λ rise. rise;
        all = λ types entities ordinal is. absurd is.stands.among;
        each = λ object there types entities leads. absurd (none_in object there);
      };
    }
      where
        none_in : {A : Type 0} (x : A) → Contains [] x → ⊥
        none_in x there = omega (arith, there.1)

  -- ---- one behind another

  module _ (xs ys : List Placed) (old mid new : Elaborator) (on : GoesOutside mid new) where
    objects_both : (first second : List StaticObject) → PutsObjects externs unit xs old mid first → PutsObjects externs unit ys mid new second → PutsObjects externs unit (xs ++ ys) old new (first ++ second)
    objects_both first second one two = record {
      list = two.list ∙ (ap (λ os. os ++ second) one.list ∙ append_assoc old.objects.items first second);
      rise = λ rise. two.rise (one.rise rise);
      all = λ types entities ordinal is. elim (stands_split xs ys is.given.env (ADeclaration is.given.scope is.given.node) is.stands) [
        | inl before ↦ let h = one.all types entities ordinal (record { given = is.given; stands = before }) in (h.0, Contains-append_left first second h.0 h.1, h.2)
        | inr behind ↦ let h = two.all types entities ordinal (record { given = is.given; stands = behind }) in (h.0, Contains-append_right first second h.0 h.1, h.2)
      ];
      each = λ object there types entities leads. elim (Contains-append_cases first second object there) [
        | inl before ↦ one.each object before types entities (outside_back mid new types entities on leads)
        | inr behind ↦ two.each object behind types entities leads
      ];
    }

    module _ (first : PutsExternals externs unit xs old mid) (second : PutsExternals externs unit ys mid new) where
      stays : (env : Env) (node : Node) (n : NameDeclared) (named : NamedEntity) → IsNameOf externs unit mid.types.types mid.bodies.items env node n named →
          IsNameOf externs unit new.types.types new.bodies.items env node n named
      stays env node n named is =
          subst (λ types. IsNameOf externs unit types new.bodies.items env node n named) (sym on.longer.types.1)
          (subst (λ bodies. IsNameOf externs unit (mid.types.types ++ on.longer.types.0) bodies env node n named) (sym second.puts_bodies.list)
          (name_on mid.types.types on.longer.types.0 mid.bodies.items second.bodies env node n named is))

      pub both_put : PutsExternals externs unit (xs ++ ys) old new
      both_put = record {
        bodies = first.bodies ++ second.bodies;
        puts_bodies = record {
          list = second.puts_bodies.list ∙ (ap (λ bs. bs ++ second.bodies) first.puts_bodies.list ∙ append_assoc old.bodies.items first.bodies second.bodies);
          are = λ types entities leads.
              bodies_both types entities (first.puts_bodies.are types entities (outside_back mid new types entities on leads)) (second.puts_bodies.are types entities leads);
        };
        names = first.names ++ second.names;
        puts_names = record {
          gathers = λ ns are. subst (λ ms. IsGathered ms new.entities) (append_assoc ns first.names second.names) (second.puts_names.gathers (ns ++ first.names) (first.puts_names.gathers ns are));
          rise = λ ns are. subst (λ ms. IsRising ms new.entities) (append_assoc ns first.names second.names) (second.puts_names.rise (ns ++ first.names) (first.puts_names.rise ns are));
          all = λ env node n kind is of. elim (stands_split xs ys env node is.stands) [
            | inl before ↦
                let h = first.puts_names.all env node n kind (record { stands = before; declares = is.declares }) of in
                (h.0, Contains-append_left first.names second.names h.0 h.1, stays env node n h.0 h.2)
            | inr behind ↦
                let h = second.puts_names.all env node n kind (record { stands = behind; declares = is.declares }) of in
                (h.0, Contains-append_right first.names second.names h.0 h.1, h.2)
          ];
          none_else = λ named there. elim (Contains-append_cases first.names second.names named there) [
            | inl before ↦
                let h = first.puts_names.none_else named before in (
                  h.0,
                  h.1,
                  h.2,
                  record { stands = stands_among xs (xs ++ ys) (in_first xs ys) h.0 h.1 h.3.stands; declares = h.3.declares },
                  stays h.0 h.1 h.2 named h.4,
                )
            | inr behind ↦
                let h = second.puts_names.none_else named behind in
                (h.0, h.1, h.2, record { stands = stands_among ys (xs ++ ys) (in_second xs ys) h.0 h.1 h.3.stands; declares = h.3.declares }, h.4)
          ];
        };
        objects = first.objects ++ second.objects;
        puts_objects = objects_both first.objects second.objects first.puts_objects second.puts_objects;
      }

  -- ---- what stands in an external declaration that is one part

  -- a name is declared in the part
  name_in_part : (env : Env) (d : Decl) (part : Node) → ((env' : Env) (node : Node) → StandsIn externs unit env (AnExternal d) env' node → (node ≡ AnExternal d) ⊎ StandsIn externs unit env part env' node) →
      (env' : Env) (node : Node) → (node ≡ AnExternal d → ⊥) → StandsInside externs unit (at env (AnExternal d) ∷ []) env' node → StandsInside externs unit (at env part ∷ []) env' node
  name_in_part env d part within env' node other is = elim is.among [
    | inl same ↦ elim (within env' node (subst (λ (p : Placed). StandsIn externs unit p.env p.node env' node) same is.stands)) [
      | inl itself ↦ absurd (other itself)
      | inr there ↦ record { outer = at env part; among = inl refl; stands = there }
    ]
    | inr never ↦ absurd never
  ]

  name_of_part : (env : Env) (d : Decl) (part : Node) → IsIn (at env part) (parts (at_end externs unit) env (AnExternal d)) → (env' : Env) (node : Node) →
      StandsInside externs unit (at env part ∷ []) env' node → StandsInside externs unit (at env (AnExternal d) ∷ []) env' node
  name_of_part env d part among env' node is = elim is.among [
    | inl same ↦ record {
      outer = at env (AnExternal d);
      among = inl refl;
      stands = inside (at env part) among (subst (λ (p : Placed). StandsIn externs unit p.env p.node env' node) same is.stands);
    }
    | inr never ↦ absurd never
  ]

  within_definition : (env : Env) (f : Definition) (env' : Env) (node : Node) → StandsIn externs unit env (AnExternal (decl.Function f)) env' node →
      (node ≡ AnExternal (decl.Function f)) ⊎ StandsIn externs unit env (ADefinition f) env' node
  within_definition env f env' node here = inl refl
  within_definition env f env' node (inside part (inl same) stands) = inr (subst (λ (p : Placed). StandsIn externs unit p.env p.node env' node) same stands)
  within_definition env f env' node (inside part (inr never) stands) = absurd never

  within_declaration : (env : Env) (d : Declare) (env' : Env) (node : Node) → StandsIn externs unit env (AnExternal (decl.Declare d)) env' node →
      (node ≡ AnExternal (decl.Declare d)) ⊎ StandsIn externs unit env (ADeclaration AtFile d) env' node
  within_declaration env d env' node here = inl refl
  within_declaration env d env' node (inside part (inl same) stands) = inr (subst (λ (p : Placed). StandsIn externs unit p.env p.node env' node) same stands)
  within_declaration env d env' node (inside part (inr never) stands) = absurd never

  within_empty : (env : Env) (d : Empty) (env' : Env) (node : Node) → StandsIn externs unit env (AnExternal (decl.Empty d)) env' node → node ≡ AnExternal (decl.Empty d)
  within_empty env d env' node here = refl
  within_empty env d env' node (inside part never stands) = absurd never

  -- an external declaration itself declares no name
  no_external : {env : Env} {node : Node} {n : NameDeclared} (d : Decl) → DeclaresName env node n → node ≡ AnExternal d → ⊥
  no_external d (in_declaration among name found t) is = cc
  no_external d (by_definition name found t) is = cc

  -- and is no declaration
  no_declaration : (scope : Scope) (node : Declare) (d : Decl) → ADeclaration scope node ≡ AnExternal d → ⊥
  no_declaration scope node d is = cc

  -- ---- what is put in the part is put in the external declaration

  module _ (env : Env) (d : Decl) (part : Node) (among : IsIn (at env part) (parts (at_end externs unit) env (AnExternal d)))
      (within : (env' : Env) (node : Node) → StandsIn externs unit env (AnExternal d) env' node → (node ≡ AnExternal d) ⊎ StandsIn externs unit env part env' node) where
    name_there : (env' : Env) (node : Node) (n : NameDeclared) → IsNameInside externs unit (at env (AnExternal d) ∷ []) env' node n → IsNameInside externs unit (at env part ∷ []) env' node n
    name_there env' node n is = record { stands = name_in_part env d part within env' node (no_external d is.declares) is.stands; declares = is.declares }

    name_back : (env' : Env) (node : Node) (n : NameDeclared) → IsNameInside externs unit (at env part ∷ []) env' node n → IsNameInside externs unit (at env (AnExternal d) ∷ []) env' node n
    name_back env' node n is = record { stands = name_of_part env d part among env' node is.stands; declares = is.declares }

    module _ (old new : Elaborator) where
      objects_there : (objects : List StaticObject) → PutsObjects externs unit (at env part ∷ []) old new objects → PutsObjects externs unit (at env (AnExternal d) ∷ []) old new objects
      objects_there objects puts = record {
        list = puts.list;
        rise = puts.rise;
        all = λ types entities ordinal is. puts.all types entities ordinal (record {
          given = is.given;
          stands = name_in_part env d part within is.given.env (ADeclaration is.given.scope is.given.node) (no_declaration is.given.scope is.given.node d) is.stands;
        });
        each = puts.each;
      }

      names_there : (names : List NamedEntity) (body : Option ℕ) → PutsNames externs unit (at env part ∷ []) old new body names → PutsNames externs unit (at env (AnExternal d) ∷ []) old new body names
      names_there names body puts = record {
        gathers = puts.gathers;
        rise = puts.rise;
        all = λ env' node n kind is of. puts.all env' node n kind (name_there env' node n is) of;
        none_else = λ named there. let h = puts.none_else named there in (h.0, h.1, h.2, name_back h.0 h.1 h.2 h.3, h.4);
      }

  -- ---- names with their bodies

  module _ (placed : List Placed) (old new : Elaborator) (body : Option ℕ) (names : List NamedEntity)
      (has : (env : Env) (node : Node) (n : NameDeclared) (b : Option ℕ) → IsNameInside externs unit placed env node n → HasBodyIn body n.is.linkage b → HasBody externs unit new.bodies.items env node n b) where
    put_as : (env : Env) (node : Node) (n : NameDeclared) (named : NamedEntity) → IsNameInside externs unit placed env node n → IsPutAs new.types.types body n named →
        IsNameOf externs unit new.types.types new.bodies.items env node n named
    put_as env node n named inside_ is = record {
      name = is.name;
      linkage = is.linkage;
      kind = is.kind;
      declaration = is.declaration;
      body = has env node n named.body inside_ is.body;
    }

    entities_put : PutsNames externs unit placed old new body names → PutsEntities externs unit placed old new names
    entities_put puts = record {
      gathers = puts.gathers;
      rise = puts.rise;
      all = λ env node n kind is of. let h = puts.all env node n kind is of in (h.0, h.1, put_as env node n h.0 is h.2);
      none_else = λ named there. let h = puts.none_else named there in (h.0, h.1, h.2, h.3, put_as h.0 h.1 h.2 named h.3 h.4);
    }

  -- ---- a definition

  module _ (env : Env) (f : Definition) (old new : Elaborator) (stands : IsNode externs unit env (AnExternal (decl.Function f))) (puts : PutsBody externs unit env old new f) where
    body_there : slice_get new.bodies.items (length old.bodies.items) ≡ Some puts.body
    body_there = subst (λ bodies. slice_get bodies (length old.bodies.items) ≡ Some puts.body) (sym puts.bodies) (at_last old.bodies.items puts.body)

    leads_empty : (types : List CType) (entities : List Entity) → LeadsOutside new types entities → AreBodies externs unit types entities (at env (AnExternal (decl.Function f)) ∷ []) (puts.body ∷ [])
    leads_empty types entities leads = definition (puts.is_body types entities leads) no_more

    body_of : (env' : Env) (node : Node) (n : NameDeclared) (b : Option ℕ) → IsNameInside externs unit (at env (AnExternal (decl.Function f)) ∷ []) env' node n →
        HasBodyIn (Some (length old.bodies.items)) n.is.linkage b → HasBody externs unit new.bodies.items env' node n b
    body_of env' node n b is (linked both) = none both
    body_of env' node n b is (in_this {b = k} alone same) =
        let there = name_in_part env (decl.Function f) (ADefinition f) (within_definition env f) env' node (no_external (decl.Function f) is.declares) is.stands in
        in_block alone (record {
          around = env;
          definition = f;
          of = part_stands externs unit (at env (ADefinition f)) stands (inl refl);
          inside = inside_part there;
          body = puts.body;
          at = subst (λ k. slice_get new.bodies.items k ≡ Some puts.body) (same_Some (length old.bodies.items) k same) body_there;
          is = puts.ordinal;
        })
      where
        inside_part : StandsInside externs unit (at env (ADefinition f) ∷ []) env' node → StandsIn externs unit env (ADefinition f) env' node
        inside_part there = elim there.among [
          | inl one ↦ subst (λ (p : Placed). StandsIn externs unit p.env p.node env' node) one there.stands
          | inr never ↦ absurd never
        ]

    pub definition_put : PutsExternals externs unit (at env (AnExternal (decl.Function f)) ∷ []) old new
    definition_put = record {
      bodies = puts.body ∷ [];
      puts_bodies = record { list = puts.bodies; are = leads_empty };
      names = puts.names;
      puts_names = entities_put (at env (AnExternal (decl.Function f)) ∷ []) old new (Some (length old.bodies.items)) puts.names body_of puts.puts_names;
      objects = puts.objects;
      puts_objects = puts.puts_objects;
    }

  -- ---- a declaration at file scope

  module _ (env : Env) (d : Declare) (old new : Elaborator) (puts : PutsAll externs unit (at env (ADeclaration AtFile d) ∷ []) old new None) where
    no_body : (env' : Env) (node : Node) (n : NameDeclared) (b : Option ℕ) → IsNameInside externs unit (at env (AnExternal (decl.Declare d)) ∷ []) env' node n →
        HasBodyIn None n.is.linkage b → HasBody externs unit new.bodies.items env' node n b
    no_body env' node n b is (linked both) = none both
    no_body env' node n b is (in_this alone same) = absurd (none-some _ same)

    pub declaration_put : PutsExternals externs unit (at env (AnExternal (decl.Declare d)) ∷ []) old new
    declaration_put = record {
      bodies = [];
      puts_bodies = record {
        list = ap (λ (bodies : _). bodies.items) puts.bodies ∙ sym (append-nil old.bodies.items);
        are = λ types entities leads. declaration no_more;
      };
      names = puts.names;
      puts_names = entities_put (at env (AnExternal (decl.Declare d)) ∷ []) old new None puts.names no_body
          (names_there env (decl.Declare d) (ADeclaration AtFile d) (inl refl) (within_declaration env d) old new puts.names None puts.puts_names);
      objects = puts.objects;
      puts_objects = objects_there env (decl.Declare d) (ADeclaration AtFile d) (inl refl) (within_declaration env d) old new puts.objects puts.puts_objects;
    }

  -- ---- whatever locals there were

  module _ (placed : List Placed) (old new : Elaborator) (locals : Locals) where
    pub whatever_locals : PutsExternals externs unit placed (record old { locals = locals }) new → PutsExternals externs unit placed old new
    whatever_locals puts = record {
      bodies = puts.bodies;
      puts_bodies = record { list = puts.puts_bodies.list; are = puts.puts_bodies.are };
      names = puts.names;
      puts_names = record { gathers = puts.puts_names.gathers; rise = puts.puts_names.rise; all = puts.puts_names.all; none_else = puts.puts_names.none_else };
      objects = puts.objects;
      puts_objects = record { list = puts.puts_objects.list; rise = puts.puts_objects.rise; all = puts.puts_objects.all; each = puts.puts_objects.each };
    }

  -- ---- `;` alone

  module _ (env : Env) (d : Empty) (walk : Elaborator) where
    nothing_inside : (env' : Env) (node : Node) → (node ≡ AnExternal (decl.Empty d) → ⊥) → StandsInside externs unit (at env (AnExternal (decl.Empty d)) ∷ []) env' node → ⊥
    nothing_inside env' node other is = elim is.among [
      | inl same ↦ other (within_empty env d env' node (subst (λ (p : Placed). StandsIn externs unit p.env p.node env' node) same is.stands))
      | inr never ↦ never
    ]

    none_in : {A : Type 0} (x : A) → Contains [] x → ⊥
    none_in x there = omega (arith, there.1)

    pub empty_put : PutsExternals externs unit (at env (AnExternal (decl.Empty d)) ∷ []) walk walk
    empty_put = record {
      bodies = [];
      puts_bodies = record { list = sym (append-nil walk.bodies.items); are = λ types entities leads. empty no_more };
      names = [];
      puts_names = record {
        gathers = λ ns are. subst (λ ms. IsGathered ms walk.entities) (sym (append-nil ns)) are;
        rise = λ ns are. subst (λ ms. IsRising ms walk.entities) (sym (append-nil ns)) are;
        all = λ env' node n kind is of. absurd (nothing_inside env' node (no_external (decl.Empty d) is.declares) is.stands);
        none_else = λ named there. absurd (none_in named there);
      };
      objects = [];
      puts_objects = record {
        list = sym (append-nil walk.objects.items);
        rise = λ rise. rise;
        all = λ types entities ordinal is.
            absurd (nothing_inside is.given.env (ADeclaration is.given.scope is.given.node) (no_declaration is.given.scope is.given.node (decl.Empty d)) is.stands);
        each = λ object there types entities leads. absurd (none_in object there);
      };
    }

-- ---- what is made of an external declaration

pub definition_made : (old : Elaborator) (locals : Locals) (new : Elaborator) (f : Definition) → HasNoLocals (record old { locals = locals }) → MakesDefinition (record old { locals = locals }) new f →
    MakesExternal old new (decl.Function f)
definition_made old locals new f no_locals makes env role stand =
    whatever_locals stand.externs stand.unit (at env (AnExternal (decl.Function f)) ∷ []) old new locals
    (definition_put stand.externs stand.unit env f (record old { locals = locals }) new (stand.each (at env (AnExternal (decl.Function f))) (inl refl))
    (makes env role no_locals (record { externs = stand.externs; unit = stand.unit; told = source_with old locals stand.externs stand.unit stand.told; each = stand.each })))

pub declaration_made : (old new : Elaborator) (d : Declare) → ((env : Env) → PutsOutside old new (at env (ADeclaration AtFile d) ∷ [])) → MakesExternal old new (decl.Declare d)
declaration_made old new d puts env role stand =
    declaration_put stand.externs stand.unit env d old new
    (puts env (record {
      externs = stand.externs;
      unit = stand.unit;
      told = stand.told;
      each = λ part among. elim among [
        | inl same ↦ subst (λ (p : Placed). IsNode stand.externs stand.unit p.env p.node) (sym same)
            (part_stands stand.externs stand.unit (at env (ADeclaration AtFile d)) (stand.each (at env (AnExternal (decl.Declare d))) (inl refl)) (inl refl))
        | inr never ↦ absurd never
      ];
    }))

pub empty_made : (walk : Elaborator) (d : Empty) → MakesExternal walk walk (decl.Empty d)
empty_made walk d env role stand = empty_put stand.externs stand.unit env d walk
