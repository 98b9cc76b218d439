-- In a source without fault an object with an initialiser holds structs alone that are complete where the initialiser stands (C99 6.7, 7; 6.7.8, 3), and so stay as they are.
use Rattle.std.proofs.Common.{◌≡◌, ◌∙◌, ◌⊎◌, inl, inr, ℕ, zero, suc, Bool, true, false, List, [], ◌∷◌, Option, Some, None, map, refl, sym, ap, subst}
use Rattle.std.specs.Prelude.{not, nat_eq, nat_le, ◌||◌, if◌then◌else◌, slice_get}
use Rattle.lk_tree.specs.declared.declaration.Entry.{Entry}
use Rattle.lk_tree.specs.declared.declaration.Init.TheOpen.{Init-F}
use Rattle.lk_tree.specs.declared.declaration.Init.{Init, out-Init}
use Rattle.lk_tree.specs.declared.declaration.InitDeclarator.{InitDeclarator}
use Rattle.lk_tree.specs.declared.declaration.InitList.{InitList, out-InitList}
use Rattle.lk_tree.specs.declared.declaration.Declare.{Declare}
use Rattle.lk_tree.specs.declared.statement.Unit.{Unit}
use Rattle.lk_typed.specs.DeclarationRules.{InDeclaration, Scope, is_static_object, type_in}
use Rattle.lk_typed.specs.Declarations.{declarator_adds, elements_given, given_by, is_alone, may_lack_size, name_adds, named_additions}
use Rattle.lk_typed.specs.Env.{Env, Field, Members, Name, NotYet, Begun, Known, Outside, extend, members_of}
use Rattle.lk_typed.specs.Expressions.{declarator_found, expr_word, specifiers_found}
use Rattle.lk_typed.specs.Faults.{Breach, Fault}
use Rattle.lk_typed.specs.InitialiserRules.{Object, entry_type, is_text_for}
use Rattle.lk_typed.specs.Initialisers.{as_initialiser, designator_parts, designators_add, entries_in_turn, entry_object, init_adds, inner_object, parts_of_init, text_alone, unless_word}
use Rattle.lk_typed.specs.Layers.{type_made}
use Rattle.lk_typed.specs.MemberRules.{fields_in, types_in}
use Rattle.lk_typed.specs.NodeParts.{declarators_in_turn, declared_left, initialiser_part, object_of, parts, type_declared, type_without_size}
use Rattle.lk_typed.specs.NodeRules.{breaches, hiding, is_declaration, mark_of, those_without_type}
use Rattle.lk_typed.specs.Nodes.{Node, AnExternal, ADeclaration, ADefinition, AMember, AnItem, AParameter, ATypeName, ADeclarator, AnInitialiser, AStatement, AnExpression, Declares, Placed, at}
use Rattle.lk_typed.specs.Parts.{perhaps, specifiers_parts}
use Rattle.lk_typed.specs.Sizes.{are_known}
use Rattle.lk_typed.specs.Stands.{Breaks, IsIn}
use Rattle.lk_typed.specs.Stands.Breaks.{breaks}
use Rattle.lk_typed.specs.Stands.Stands.{here, inside}
use Rattle.lk_typed.specs.Told.{SpecifierTold}
use Rattle.lk_typed.specs.Ty.{Ty, Void, Int, ThreadId, Mutex, Cond, Pointer, Array, Struct, Function, Opaque}
use Rattle.lk_typed.specs.Units.{IsFaultOf, IsNode, around, at_end, externals}
use Rattle.lk_typed.specs.Units.IsFaultOf.{fault_of}
use Rattle.lk_typed.specs.Units.IsNode.{node_of}
use Rattle.lk_nodes.specs.Laws.{SourcesAreSettled}
use Rattle.lk_nodes.specs.Settled.{Holds}
use Rattle.lk_nodes.specs.Settled.Holds.{in_element, in_member, itself}
use Rattle.lk_nodes.proofs.Adding.{Sound, extended}
use Rattle.lk_nodes.proofs.Bodies.{all_specifiers, made_elements, name_kept, one_declarator, specifiers_types}
use Rattle.lk_nodes.proofs.Elements.{HoldsComplete, MayHold, TypesHaveElements, complete_holds, declared_holding, may_holding_stays, told_elements, types_further}
use Rattle.lk_nodes.proofs.Environments.{external_fits, inside_fits, node_fits, node_tells, part_fits}
use Rattle.lk_nodes.proofs.Laid.{StandsIn}
use Rattle.lk_nodes.proofs.Making.{IsGiven, Unbroken, declarator_makes, unbroken_part}
use Rattle.lk_nodes.proofs.Objects.{IsOther, externals_without, given_type, object_type, in_both, is_behind, others_without, without_object, designators_without, specifiers_without}
use Rattle.lk_nodes.proofs.Structs.{AllComplete, AreComplete, AreWhole, KnownStay, after_both, known_behind, structs_behind}
use Rattle.lk_nodes.proofs.Trees.{declarator_part, declarator_tells}

-- ---- what an object holds

-- a field is complete
field_holds : (structs : List Members) (fields : List Field) (k : ℕ) → AllComplete structs fields → MayHold structs (slice_get (map (λ field. field.type) fields) k)
field_holds structs [] k all = tt
field_holds structs (field ∷ fields) zero all = complete_holds structs field.type all.0
field_holds structs (field ∷ fields) (suc k) all = field_holds structs fields k all.1

-- so is a member of a struct
member_holds : (structs : List Members) (m : Members) (k : ℕ) → AreComplete structs m → MayHold structs (slice_get (types_in m) k)
member_holds structs NotYet k are = tt
member_holds structs Begun k are = tt
member_holds structs (Known fields) k are = field_holds structs fields k are
member_holds structs Members.Faulty k are = tt

-- each struct that an object holds is complete, where it holds complete ones directly
held_known : (env : Env) → AreWhole env.structs → (s : ℕ) {t : Ty} → Holds (fields_in env) s t → HoldsComplete env.structs t → are_known (members_of env.structs s) ≡ true
held_known env whole s itself complete = complete
held_known env whole s (in_element {t} {n} held) complete = held_known env whole s held (complete_holds env.structs t complete)
held_known env whole s (in_member {r} {t} k is held) complete =
    held_known env whole s held (subst (MayHold env.structs) is (member_holds env.structs (members_of env.structs r) k (whole r)))

-- ---- entries of a list

-- what an entry initialises holds complete structs where that of the list does
entry_type_holds : (env : Env) → AreWhole env.structs → (t : Ty) (k : ℕ) → HoldsComplete env.structs t → MayHold env.structs (entry_type (fields_in env) t k)
entry_type_holds env whole Void k complete = tt
entry_type_holds env whole (Int j) k complete = tt
entry_type_holds env whole ThreadId k complete = tt
entry_type_holds env whole Mutex k complete = tt
entry_type_holds env whole Cond k complete = tt
entry_type_holds env whole (Pointer t) k complete = tt
entry_type_holds env whole (Array t n) k complete = by_count (nat_eq n 0 || not (nat_le n k))
  where
    by_count : (b : Bool) → MayHold env.structs (if b then Some t else None)
    by_count true = complete_holds env.structs t complete
    by_count false = tt
entry_type_holds env whole (Struct s) k complete = member_holds env.structs (members_of env.structs s) k (whole s)
entry_type_holds env whole (Function result params dots) k complete = tt
entry_type_holds env whole (Opaque n) k complete = tt

entry_holds : (env : Env) → AreWhole env.structs → (object : Option Object) (text : Option ℕ) (k : ℕ) → MayHold env.structs (object_type object) →
    MayHold env.structs (object_type (entry_object env object text k))
entry_holds env whole None text k complete = tt
entry_holds env whole (Some object) text k complete = by_text (is_text_for object.type text)
  where
    by_inner : (t : Option Ty) → MayHold env.structs t → MayHold env.structs (object_type (inner_object object t))
    by_inner None complete = tt
    by_inner (Some t) complete = complete

    by_text : (b : Bool) → MayHold env.structs (object_type (if b then Some object else inner_object object (entry_type (fields_in env) object.type k)))
    by_text true = complete
    by_text false = by_inner (entry_type (fields_in env) object.type k) (entry_type_holds env whole object.type k complete)

-- a part of a list has no object, or that of an entry
abbrev IsEntry : Option Object → Option ℕ → Placed → Type 0
IsEntry object text p = (given_type p.node ≡ None) ⊎ ((k : ℕ) × (given_type p.node ≡ object_type (entry_object p.env object text k)))

entry_in : (es : List Entry) (object : Option Object) (text : Option ℕ) (env : Env) (k : ℕ) (p : Placed) → IsIn p (entries_in_turn object text env k es) → IsEntry object text p
entry_in [] object text env k p is = absurd is
entry_in (e ∷ es) object text env k p is = by_place (in_both (designator_parts env e.designators) _ p is) (entry_in es object text (extend behind (init_adds e.init behind)) (suc k) p)
  where
    behind : Env
    behind = extend env (designators_add env e.designators)

    others : List Placed
    others = entries_in_turn object text (extend behind (init_adds e.init behind)) (suc k) es

    by_place : IsIn p (designator_parts env e.designators) ⊎ IsIn p (at behind (AnInitialiser (entry_object behind object text k) e.init) ∷ others) → (IsIn p others → IsEntry object text p) →
        IsEntry object text p
    by_place (inl is) rest = inl (without_object (designator_parts env e.designators) p (designators_without e.designators env) is)
    by_place (inr (inl same)) rest = inr (k, subst (λ (p : Placed). given_type p.node ≡ object_type (entry_object p.env object text k)) (sym same) refl)
    by_place (inr (inr is)) rest = rest is

-- a part of an initialiser
init_given : (form : Init-F Init Entry InitList) (object : Option Object) (env : Env) (p : Placed) → AreWhole p.env.structs → KnownStay env.structs p.env.structs →
    MayHold env.structs (object_type object) → IsIn p (parts_of_init object env form) → MayHold p.env.structs (given_type p.node)
init_given (Init-F.Expr e) object env p whole stays complete is = by_word (expr_word e env) is
  where
    by_word : (word : Option Ty) → IsIn p (unless_word word (at (as_initialiser object env) (AnExpression e) ∷ [])) → MayHold p.env.structs (given_type p.node)
    by_word None (inl same) = subst (λ (p : Placed). MayHold p.env.structs (given_type p.node)) (sym same) tt
    by_word None (inr is) = absurd is
    by_word (Some lock) is = absurd is
init_given (Init-F.List list) object env p whole stays complete is = by_entry (entry_in (out-InitList list).entries object text env 0 p is)
  where
    text : Option ℕ
    text = text_alone (out-InitList list).entries

    by_entry : IsEntry object text p → MayHold p.env.structs (given_type p.node)
    by_entry (inl none) = subst (MayHold p.env.structs) (sym none) tt
    by_entry (inr (k, same)) = subst (MayHold p.env.structs) (sym same) (entry_holds p.env whole object text k (may_holding_stays env.structs p.env.structs stays (object_type object) complete))

-- ---- declarations

-- the object of a declaration, if it has a type
object_holds : (structs : List Members) (t : Option Ty) (is_static : Bool) → MayHold structs t → MayHold structs (object_type (object_of t is_static))
object_holds structs None is_static complete = tt
object_holds structs (Some t) is_static complete = complete

module _ (outside : Outside) (at_end : Env) where
  -- the declared type of an object with an initialiser, behind its name
  declared_holds : (scope : Scope) (told : SpecifierTold) (d : InitDeclarator) (env : Env) (init : Init) → d.init ≡ Some init → Sound outside env → TypesHaveElements env.structs told.types →
      Unbroken at_end env (ADeclarator (declared_left scope told at_end env d) d.declarator) → MayHold (extend env (name_adds scope told env d)).structs (type_declared scope told env d)
  declared_holds scope told d env init is sound types unbroken =
      let inner = declarator_found d.declarator in
      let a = inner.additions env in
      let left = declared_left scope told at_end env d in
      let t = type_made env (may_lack_size told.storages d.init) (type_in InDeclaration told) inner in
      let name = named_additions (extend env a) scope told.storages (given_by d.init) d.init inner.name t in
      let one = declarator_part outside at_end d.declarator (declarator_tells outside at_end d.declarator) env left sound in
      let kept = name_kept (structs_behind env.structs a) (extend env a) scope told.storages (given_by d.init) d.init inner.name t
      (made_elements outside at_end d.declarator env (may_lack_size told.storages d.init) InDeclaration told sound types) in
      let given = subst (λ init. IsGiven (Declares scope told.storages (given_by init) (elements_given d.init (type_without_size scope told env d)) at_end)) (sym is) tt in
      let made = (declarator_makes at_end d.declarator).holds env left given (known_behind one.kept) (told_elements env.structs InDeclaration told types) unbroken in
      subst (λ xs. MayHold xs (type_declared scope told env d)) (sym (after_both env.structs a.structs name.structs))
      (may_holding_stays _ _ (known_behind kept) (type_declared scope told env d) (declared_holding (structs_behind env.structs a) (extend env a) scope told.storages inner.name d.init t made))

  -- its initialiser
  initialiser_given : (scope : Scope) (told : SpecifierTold) (d : InitDeclarator) (env : Env) → Sound outside env → TypesHaveElements env.structs told.types →
      Unbroken at_end env (ADeclarator (declared_left scope told at_end env d) d.declarator) → (p : Placed) → IsIn p (initialiser_part scope told env d) → MayHold p.env.structs (given_type p.node)
  initialiser_given scope told d env sound types unbroken p is = by_init d.init refl is
    where
      by_init : (init : Option Init) → d.init ≡ init →
          IsIn p (perhaps (extend env (name_adds scope told env d)) (AnInitialiser (object_of (type_declared scope told env d) (is_static_object scope told.storages))) init) →
          MayHold p.env.structs (given_type p.node)
      by_init None none is = absurd is
      by_init (Some init) some (inl same) =
          subst (λ (p : Placed). MayHold p.env.structs (given_type p.node)) (sym same)
          (object_holds _ (type_declared scope told env d) (is_static_object scope told.storages) (declared_holds scope told d env init some sound types unbroken))
      by_init (Some init) some (inr is) = absurd is

  -- a part of the declarators of a declaration
  declarators_given : (ds : List InitDeclarator) (scope : Scope) (told : SpecifierTold) (env : Env) → Sound outside env → TypesHaveElements env.structs told.types →
      ((q : Placed) → IsIn q (declarators_in_turn at_end scope told env ds) → Unbroken at_end q.env q.node) → (p : Placed) → IsIn p (declarators_in_turn at_end scope told env ds) →
      MayHold p.env.structs (given_type p.node)
  declarators_given [] scope told env sound types unbroken p is = absurd is
  declarators_given (d ∷ ds) scope told env sound types unbroken p (inl same) = subst (λ (p : Placed). MayHold p.env.structs (given_type p.node)) (sym same) tt
  declarators_given (d ∷ ds) scope told env sound types unbroken p (inr is) =
      let after = extend env (declarator_adds scope told env d) in
      let others = declarators_in_turn at_end scope told after ds in
      let one = one_declarator outside at_end scope told d env sound types in
      by_place others (in_both (initialiser_part scope told env d) others p is)
      (declarators_given ds scope told after (extended outside env sound one.kept) (types_further _ _ (known_behind one.kept) told.types types)
      (λ q is. unbroken q (inr (is_behind (initialiser_part scope told env d) others q is))) p)
    where
      by_place : (others : List Placed) → IsIn p (initialiser_part scope told env d) ⊎ IsIn p others → (IsIn p others → MayHold p.env.structs (given_type p.node)) →
          MayHold p.env.structs (given_type p.node)
      by_place others (inl is) rest = initialiser_given scope told d env sound types (unbroken (at env (ADeclarator (declared_left scope told at_end env d) d.declarator)) (inl refl)) p is
      by_place others (inr is) rest = rest is

  -- a part of a declaration
  declaration_given : (scope : Scope) (node : Declare) (env : Env) → Sound outside env → Unbroken at_end env (ADeclaration scope node) → (p : Placed) →
      IsIn p (parts at_end env (ADeclaration scope node)) → MayHold p.env.structs (given_type p.node)
  declaration_given scope node env sound unbroken p is = by_place (in_both (specifiers_parts alone env node.specifiers) _ p is)
    where
      alone : Bool
      alone = is_alone node.declarators

      told : SpecifierTold
      told = specifiers_found node.specifiers env alone

      after : Env
      after = extend env told.additions

      by_place : IsIn p (specifiers_parts alone env node.specifiers) ⊎ IsIn p (declarators_in_turn at_end scope told after node.declarators) → MayHold p.env.structs (given_type p.node)
      by_place (inl is) = subst (MayHold p.env.structs) (sym (without_object (specifiers_parts alone env node.specifiers) p (specifiers_without node.specifiers alone env) is)) tt
      by_place (inr is) =
          let one = all_specifiers outside at_end node.specifiers env alone sound in
          declarators_given node.declarators scope told after (extended outside env sound one.kept) (specifiers_types outside at_end node.specifiers env alone sound)
          (λ q is. unbroken_part at_end q unbroken (is_behind (specifiers_parts alone env node.specifiers) (declarators_in_turn at_end scope told after node.declarators) q is)) p is

  -- ---- all nodes

  -- a part of another node has no object
  other_given : (env : Env) (node : Node) → IsOther node → (p : Placed) → IsIn p (parts at_end env node) → MayHold p.env.structs (given_type p.node)
  other_given env node other p is = subst (MayHold p.env.structs) (sym (without_object (parts at_end env node) p (others_without at_end env node other) is)) tt

  -- the object of a part holds complete structs where that of the node does
  part_given : (env : Env) (node : Node) → Sound outside env → Unbroken at_end env node → MayHold env.structs (given_type node) → (p : Placed) → IsIn p (parts at_end env node) →
      MayHold p.env.structs (given_type p.node)
  part_given env (ADeclaration scope node) sound unbroken complete p is = declaration_given scope node env sound unbroken p is
  part_given env (AnInitialiser object init) sound unbroken complete p is =
      let fits = part_fits outside at_end env (AnInitialiser object init) sound p is in init_given (out-Init init) object env p fits.sound.2 fits.earlier complete is
  part_given env (AnExternal d) sound unbroken complete p is = other_given env (AnExternal d) tt p is
  part_given env (ADefinition node) sound unbroken complete p is = other_given env (ADefinition node) tt p is
  part_given env (AMember before m) sound unbroken complete p is = other_given env (AMember before m) tt p is
  part_given env (AnItem before i) sound unbroken complete p is = other_given env (AnItem before i) tt p is
  part_given env (AParameter lone q) sound unbroken complete p is = other_given env (AParameter lone q) tt p is
  part_given env (ATypeName n) sound unbroken complete p is = other_given env (ATypeName n) tt p is
  part_given env (ADeclarator left d) sound unbroken complete p is = other_given env (ADeclarator left d) tt p is
  part_given env (AStatement around s) sound unbroken complete p is = other_given env (AStatement around s) tt p is
  part_given env (AnExpression e) sound unbroken complete p is = other_given env (AnExpression e) tt p is

  -- so it is with what stands in the node
  inside_given : {env env' : Env} {node node' : Node} → Sound outside env → Unbroken at_end env node → MayHold env.structs (given_type node) → StandsIn at_end env node env' node' →
      MayHold env'.structs (given_type node')
  inside_given sound unbroken complete here = complete
  inside_given {env} {node = node} sound unbroken complete (inside p is stands) =
      inside_given (part_fits outside at_end env node sound p is).sound (unbroken_part at_end p unbroken is) (part_given env node sound unbroken complete p is) stands

-- ---- a source

module _ (externs : List Name) (unit : Unit) (faultless : (f : Fault) → IsFaultOf externs unit f → ⊥) where
  -- in a source without fault no rule is broken, declarations aside: nothing hides a fault there
  none_broken : (env : Env) (node : Node) → IsNode externs unit env node → is_declaration node ≡ false → breaches (at_end externs unit) env node ≡ []
  none_broken env node stands plain = by_breaches (breaches (at_end externs unit) env node) refl
    where
      none_hide : (hidden : Breach) → Breaks (parts (at_end externs unit)) (breaches (at_end externs unit)) (hiding (at_end externs unit)) mark_of [] hidden → ⊥
      none_hide hidden (breaks part is inner broken) = is

      by_breaches : (bs : List Breach) → breaches (at_end externs unit) env node ≡ bs → breaches (at_end externs unit) env node ≡ []
      by_breaches [] none = none
      by_breaches (b ∷ bs) some =
          absurd (faultless _ (fault_of {broken = b} stands (record {
            breaks = subst (IsIn b) (sym some) (inl refl);
            shown = λ hidden. subst (λ c. Breaks (parts (at_end externs unit)) (breaches (at_end externs unit)) (hiding (at_end externs unit)) mark_of
                (if c then those_without_type (parts (at_end externs unit) env node) else []) hidden → ⊥) (sym plain) (none_hide hidden);
          })))

  -- the object of each node holds complete structs
  node_given : (env : Env) (node : Node) → IsNode externs unit env node → MayHold env.structs (given_type node)
  node_given env node (node_of p is stands) =
      inside_given (around externs unit).outside (at_end externs unit) (external_fits externs unit p is).sound (λ env' node' stands plain. none_broken env' node' (node_of p is stands) plain)
      (subst (MayHold p.env.structs) (sym (without_object (externals externs unit) p (externals_without unit.externals (around externs unit)) is)) tt) stands

pub sources_are_settled : SourcesAreSettled
sources_are_settled externs unit faultless env env' object init node s is held stands =
    let outside = (around externs unit).outside in
    let end = at_end externs unit in
    let fits = node_fits externs unit env (AnInitialiser (Some object) init) is in
    let known = held_known env fits.sound.2 s held (node_given externs unit faultless env (AnInitialiser (Some object) init) is) in
    let there = (inside_fits outside end fits.sound stands).earlier s known in
    let behind = known_behind (node_tells outside end env (AnInitialiser (Some object) init) fits.sound).kept s known in
    ap types_in (there ∙ sym (fits.stays s (ap are_known behind ∙ known) ∙ behind))
