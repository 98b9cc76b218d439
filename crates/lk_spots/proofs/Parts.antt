-- The parts of a node have the property of places that the node has.
use Rattle.std.proofs.Common.{inl, inr, ℕ, ℤ, suc, Bool, false, List, [], ◌∷◌, ◌++◌, Option, Some, None, map, refl}
use Rattle.std.specs.List.{AllByRecursion}
use Rattle.lk_base.specs.declared.spot.Spot.{Spot}
use Rattle.lk_tree.specs.declared.declaration.Declare.{Declare}
use Rattle.lk_tree.specs.declared.declaration.Designator.{Designator}
use Rattle.lk_tree.specs.declared.declaration.Entry.{Entry}
use Rattle.lk_tree.specs.declared.declaration.Init.TheOpen.{Init-F}
use Rattle.lk_tree.specs.declared.declaration.Init.{Init}
use Rattle.lk_tree.specs.declared.declaration.InitDeclarator.{InitDeclarator}
use Rattle.lk_tree.specs.declared.declaration.InitList.{InitList, out-InitList}
use Rattle.lk_tree.specs.declared.expression.Declarator.{Declarator}
use Rattle.lk_tree.specs.declared.expression.Expr.{Expr}
use Rattle.lk_tree.specs.declared.expression.Item.{Item}
use Rattle.lk_tree.specs.declared.expression.Member.{Member}
use Rattle.lk_tree.specs.declared.expression.MemberDeclarator.{MemberDeclarator, out-MemberDeclarator}
use Rattle.lk_tree.specs.declared.expression.Parameter.{Parameter}
use Rattle.lk_tree.specs.declared.expression.Specifier.{Specifier, out-Specifier}
use Rattle.lk_tree.specs.declared.expression.TypeName.{TypeName}
use Rattle.lk_tree.specs.declared.statement.BlockItem.TheOpen.{BlockItem-F, StmtForm-F}
use Rattle.lk_tree.specs.declared.statement.BlockItem.{BlockItem, out-BlockItem}
use Rattle.lk_tree.specs.declared.statement.Decl.{Decl}
use Rattle.lk_tree.specs.declared.statement.ForFirst.{ForFirst}
use Rattle.lk_tree.specs.declared.statement.Function.{Function}
use Rattle.lk_tree.specs.declared.statement.Stmt.{Stmt}
use Rattle.lk_tree.specs.declared.statement.StmtForm.{StmtForm, out-StmtForm}
use Rattle.lk_typed.specs.DeclarationRules.{Scope}
use Rattle.lk_typed.specs.Declarations.{is_alone}
use Rattle.lk_typed.specs.Env.{Env, Field, enter, extend}
use Rattle.lk_typed.specs.ExprRules as rules
use Rattle.lk_typed.specs.Expressions.{at_pair, expression, named, specifiers_found, type_found}
use Rattle.lk_typed.specs.Forms.{in_place, placed_arguments}
use Rattle.lk_typed.specs.InitialiserRules.{Object}
use Rattle.lk_typed.specs.Initialisers.{designator_part, designator_parts, designators_add, entries_in_turn, init_adds, parts_of_init, unless_word}
use Rattle.lk_typed.specs.Library.{Passing}
use Rattle.lk_typed.specs.NodeParts.{body_items, declaration_parts, declarators_in_turn, definition_parts, external_part, initialiser_part, member_part, members_in_turn, parts, type_part_if_there, type_parts}
use Rattle.lk_typed.specs.Nodes.{Node, AnExternal, ADeclaration, ADefinition, AMember, AnItem, AParameter, ATypeName, ADeclarator, AnInitialiser, AStatement, AnExpression, Placed, at, Left, NameUse}
use Rattle.lk_typed.specs.Parts.{added_by, declarator_parts, first_adds, first_part, for_parts, inner_part, item_part, items_in_turn, items_parts, members_parts, parameters_in_turn, perhaps, specifier_parts, specifiers_parts, statement_parts}
use Rattle.lk_typed.specs.StatementRules.{Around, in_body_of_loop}
use Rattle.lk_typed.specs.Told.{SpecifierTold}
use Rattle.lk_typed.specs.Ty.{Ty}
use Rattle.lk_typed.specs.Typing.{Named}
use Rattle.lk_spots.specs.NodePlaces.{NodeSpots}
use Rattle.lk_spots.specs.Places as s
use Rattle.lk_spots.specs.Places.{Each, IfThere, ExprLayer, DeclaratorLayer, SpecifierLayer, FieldLayer, ExprSpots, ExprFormSpots, SpecifierSpots, SpecifierFormSpots, MemberSpots, FieldSpots, FieldFormSpots, ItemSpots, DeclaratorSpots, DeclaratorFormSpots, ParameterSpots}
use Rattle.lk_spots.specs.StatementPlaces as t
use Rattle.lk_spots.specs.StatementPlaces.{DesignatorSpots, InitSpots, InitFormSpots, EntrySpots, InitDeclaratorSpots, DeclareSpots, FirstSpots, StmtSpots, StmtFormSpots, BlockItemSpots, BlockItemFormSpots, FunctionSpots, DeclSpots}
use Rattle.lk_spots.proofs.Lists.{each_none}

-- what is found of a type name
abbrev name_found : TypeName → Env → Named
name_found n env = named (type_found n) env

module _ (P : Spot → Type 0) where
  abbrev pub PartSpots : Placed → Type 0
  PartSpots part = NodeSpots P part.node

  abbrev pub PartsSpots : List Placed → Type 0
  PartsSpots list = AllByRecursion PartSpots list

  both_parts : (ps qs : List Placed) → PartsSpots ps → PartsSpots qs → PartsSpots (ps ++ qs)
  both_parts [] qs first others = others
  both_parts (p ∷ ps) qs first others = (first.0, both_parts ps qs first.1 others)

  perhaps_part : {A : Type 0} (env : Env) (node : A → Node) (part : Option A) → IfThere (λ a. NodeSpots P (node a)) part → PartsSpots (perhaps env node part)
  perhaps_part env node None spots = tt
  perhaps_part env node (Some a) spots = (spots a refl, tt)

  -- ---- expressions

  argument_parts : (xs : List Expr) → Each (ExprSpots P) xs → (env : Env) (passes : List Passing) → PartsSpots (map at_pair (map (in_place AnExpression) (placed_arguments expression env passes xs)))
  argument_parts [] each env passes = tt
  argument_parts (x ∷ xs) each env [] = (each x (inl refl), argument_parts xs (λ a is. each a (inr is)) _ [])
  argument_parts (x ∷ xs) each env (pass ∷ passes) = (each x (inl refl), argument_parts xs (λ a is. each a (inr is)) _ passes)

  form_parts : {x : ExprLayer} → ExprFormSpots P x → (env : Env) → PartsSpots (map at_pair (rules.parts AnExpression ATypeName expression name_found env x))
  form_parts (s.comma left right) env = (left, (right, tt))
  form_parts (s.assign left right) env = (left, (right, tt))
  form_parts (s.choice condition taken other) env = (condition, (taken, (other, tt)))
  form_parts (s.binary left right) env = (left, (right, tt))
  form_parts (s.cast name operand) env = (name, (operand, tt))
  form_parts (s.pre operand) env = (operand, tt)
  form_parts (s.prefix operand) env = (operand, tt)
  form_parts (s.sizeof_expr operand) env = (operand, tt)
  form_parts (s.sizeof_type name) env = (name, tt)
  form_parts (s.index array inner) env = (array, (inner, tt))
  form_parts (s.call {arguments = xs} function arguments) env = (function, argument_parts xs arguments _ _)
  form_parts (s.member object) env = (object, tt)
  form_parts (s.arrow pointer) env = (pointer, tt)
  form_parts (s.post operand) env = (operand, tt)
  form_parts s.word env = tt
  form_parts s.number env = tt
  form_parts s.char env = tt
  form_parts s.text env = tt
  form_parts (s.paren inner) env = (inner, tt)

  -- ---- specifiers

  member_list : (ms : List Member) → Each (MemberSpots P) ms → (env : Env) (before : List Field) → PartsSpots (members_parts env before ms)
  member_list [] each env before = tt
  member_list (m ∷ ms) each env before = (each m (inl refl), member_list ms (λ a is. each a (inr is)) _ _)

  item_list : (is : List Item) → Each (ItemSpots P) is → (env : Env) (before : Option ℤ) → PartsSpots (items_parts env before is)
  item_list [] each env before = tt
  item_list (i ∷ is) each env before = (each i (inl refl), item_list is (λ a is. each a (inr is)) _ _)

  one_specifier : {x : SpecifierLayer} → SpecifierFormSpots P x → (env : Env) → PartsSpots (specifier_parts env x)
  one_specifier s.storage env = tt
  one_specifier s.inline env = tt
  one_specifier s.qualifier env = tt
  one_specifier s.type env = tt
  one_specifier (s.struct {members = ms} members) env = member_list ms members _ []
  one_specifier s.struct_tag env = tt
  one_specifier (s.enum {items = is} items) env = item_list is items env _
  one_specifier s.enum_tag env = tt
  one_specifier s.typedef env = tt

  in_specifier : {one : Specifier} → SpecifierSpots P one → (env : Env) → PartsSpots (specifier_parts env (out-Specifier one))
  in_specifier (s.specifier form) env = one_specifier form env

  specifier_list : (alone : Bool) (ss : List Specifier) → Each (SpecifierSpots P) ss → (env : Env) → PartsSpots (specifiers_parts alone env ss)
  specifier_list alone [] each env = tt
  specifier_list alone (x ∷ xs) each env = both_parts _ _ (in_specifier (each x (inl refl)) env) (specifier_list alone xs (λ a is. each a (inr is)) _)

  -- ---- declarators

  inner_one : (env : Env) (left : Left) (inner : Option Declarator) → IfThere (DeclaratorSpots P) inner → PartsSpots (inner_part env left inner)
  inner_one env left None spots = tt
  inner_one env left (Some d) spots = (spots d refl, tt)

  parameter_list : (lone : Bool) (ps : List Parameter) → Each (ParameterSpots P) ps → (env : Env) → PartsSpots (parameters_in_turn lone env ps)
  parameter_list lone [] each env = tt
  parameter_list lone (p ∷ ps) each env = (each p (inl refl), parameter_list lone ps (λ a is. each a (inr is)) _)

  in_declarator : {x : DeclaratorLayer} → DeclaratorFormSpots P x → (env : Env) (left : Left) → PartsSpots (declarator_parts env left x)
  in_declarator (s.star {inner = d} inner) env left = inner_one env _ d inner
  in_declarator s.named env left = tt
  in_declarator (s.group inner) env left = (inner, tt)
  in_declarator (s.array {inner = d} {size = e} inner size) env left = both_parts _ _ (inner_one env _ d inner) (perhaps_part _ AnExpression e size)
  in_declarator (s.function {inner = d} {parameters = ps} inner parameters) env left = both_parts _ _ (inner_one env _ d inner) (parameter_list _ ps parameters _)

  -- ---- members, parameters and type names

  type_one : (env : Env) (told : SpecifierTold) (may_be_absent : Bool) (name : NameUse) (d : Option Declarator) → IfThere (DeclaratorSpots P) d → PartsSpots (type_part_if_there env told may_be_absent name d)
  type_one env told may_be_absent name None spots = tt
  type_one env told may_be_absent name (Some d) spots = (spots d refl, tt)

  in_type : (env : Env) (may_be_absent : Bool) (name : NameUse) (ss : List Specifier) (d : Option Declarator) → Each (SpecifierSpots P) ss → IfThere (DeclaratorSpots P) d
      → PartsSpots (type_parts env may_be_absent name ss d)
  in_type env may_be_absent name ss d specifiers inner = both_parts _ _ (specifier_list _ ss specifiers env) (type_one _ (specifiers_found ss env false) may_be_absent name d inner)

  one_field : {x : FieldLayer} → FieldFormSpots P x → (env : Env) (told : SpecifierTold) (before : List Field) → PartsSpots (member_part env told before x)
  one_field (s.plain inner) env told before = (inner, tt)
  one_field (s.width inner bits) env told before = (inner, (bits, tt))
  one_field (s.unnamed bits) env told before = (bits, tt)

  in_field : {one : MemberDeclarator} → FieldSpots P one → (env : Env) (told : SpecifierTold) (before : List Field) → PartsSpots (member_part env told before (out-MemberDeclarator one))
  in_field (s.field form) env told before = one_field form env told before

  field_list : (told : SpecifierTold) (ds : List MemberDeclarator) → Each (FieldSpots P) ds → (env : Env) (before : List Field) → PartsSpots (members_in_turn told env before ds)
  field_list told [] each env before = tt
  field_list told (d ∷ ds) each env before = both_parts _ _ (in_field (each d (inl refl)) env told before) (field_list told ds (λ a is. each a (inr is)) _ _)

  -- ---- initialisers

  in_designator : {one : Designator} → DesignatorSpots P one → (env : Env) → PartsSpots (designator_part env one)
  in_designator t.member env = tt
  in_designator (t.index value) env = (value, tt)

  designator_list : (ds : List Designator) → Each (DesignatorSpots P) ds → (env : Env) → PartsSpots (designator_parts env ds)
  designator_list [] each env = tt
  designator_list (d ∷ ds) each env = both_parts _ _ (in_designator (each d (inl refl)) env) (designator_list ds (λ a is. each a (inr is)) _)

  entry_init : {one : Entry} → EntrySpots P one → InitSpots P one.init
  entry_init (t.entry designators value) = value

  entry_designators : {one : Entry} → EntrySpots P one → Each (DesignatorSpots P) one.designators
  entry_designators (t.entry designators value) = designators

  entry_list : (object : Option Object) (text : Option ℕ) (es : List Entry) → Each (EntrySpots P) es → (env : Env) (k : ℕ) → PartsSpots (entries_in_turn object text env k es)
  entry_list object text [] each env k = tt
  entry_list object text (e ∷ es) each env k =
      let others : PartsSpots (entries_in_turn object text (extend (extend env (designators_add env e.designators)) (init_adds e.init (extend env (designators_add env e.designators)))) (suc k) es) = entry_list object text es (λ a is. each a (inr is)) _ _ in
      both_parts _ _ (designator_list e.designators (entry_designators (each e (inl refl))) env) (entry_init (each e (inl refl)), others)

  unless_a_word : (word : Option Ty) (part : Placed) → PartSpots part → PartsSpots (unless_word word (part ∷ []))
  unless_a_word None part spots = (spots, tt)
  unless_a_word (Some lock) part spots = tt

  in_init : {x : Init-F Init Entry InitList} → InitFormSpots P x → (object : Option Object) (env : Env) → PartsSpots (parts_of_init object env x)
  in_init (t.value value) object env = unless_a_word _ _ value
  in_init (t.list {node = node} here entries) object env = entry_list object _ (out-InitList node).entries entries env _

  -- ---- declarations

  pub in_initialiser : (scope : Scope) (told : SpecifierTold) (env : Env) (d : InitDeclarator) → IfThere (InitSpots P) d.init → PartsSpots (initialiser_part scope told env d)
  in_initialiser scope told env d spots = perhaps_part _ _ d.init spots

  init_declarator_list : (at_end : Env) (scope : Scope) (told : SpecifierTold) (ds : List InitDeclarator) → Each (InitDeclaratorSpots P) ds → (env : Env)
      → PartsSpots (declarators_in_turn at_end scope told env ds)
  init_declarator_list at_end scope told [] each env = tt
  init_declarator_list at_end scope told (d ∷ ds) each env =
      let first = each d (inl refl) in
      (first.declarator, both_parts _ _ (in_initialiser scope told env d first.init) (init_declarator_list at_end scope told ds (λ a is. each a (inr is)) _))

  in_declaration : {one : Declare} → DeclareSpots P one → (at_end : Env) (scope : Scope) (env : Env) → PartsSpots (declaration_parts at_end scope env one)
  in_declaration {one} spots at_end scope env =
      let told = specifiers_found one.specifiers env (is_alone one.declarators) in
      both_parts _ _ (specifier_list _ one.specifiers spots.specifiers env) (init_declarator_list at_end scope told one.declarators spots.declarators (extend env told.additions))

  -- ---- statements

  one_item : {x : BlockItem-F BlockItem StmtForm Stmt} → BlockItemFormSpots P x → (around : Around) (env : Env) → PartSpots (item_part around env x)
  one_item (t.item_declare node) around env = node
  one_item (t.item_stmt inner) around env = inner

  in_item : {one : BlockItem} → BlockItemSpots P one → (around : Around) (env : Env) → PartSpots (item_part around env (out-BlockItem one))
  in_item (t.block_item form) around env = one_item form around env

  pub block_item_list : (is : List BlockItem) → Each (BlockItemSpots P) is → (around : Around) (env : Env) → PartsSpots (items_in_turn around env is)
  block_item_list [] each around env = tt
  block_item_list (i ∷ is) each around env = (in_item (each i (inl refl)) around env, block_item_list is (λ a is. each a (inr is)) _ _)

  in_first : {one : ForFirst} → FirstSpots P one → (env : Env) → PartsSpots (first_part env one)
  in_first (t.first_value {value = e} value) env = perhaps_part env AnExpression e value
  in_first (t.first_declare node) env = (node, tt)

  in_for : {start : ForFirst} {inner : Stmt} (around : Around) (env : Env) → FirstSpots P start → (e : Option Expr) → IfThere (ExprSpots P) e → (e' : Option Expr) → IfThere (ExprSpots P) e'
      → StmtSpots P inner → PartsSpots (for_parts around env start e e' inner)
  in_for {start} {inner} around env first e value e' step last =
      let second = extend env (first_adds start env) in
      let third = extend second (added_by e second) in
      let body : Placed = at (enter (extend third (added_by e' third))) (AStatement (in_body_of_loop around) inner) in
      both_parts _ (body ∷ []) (both_parts _ _ (both_parts _ _ (in_first first env) (perhaps_part second AnExpression e value)) (perhaps_part third AnExpression e' step)) (last, tt)

  pub in_statement : {x : StmtForm-F BlockItem StmtForm Stmt} → StmtFormSpots P x → (around : Around) (env : Env) → PartsSpots (statement_parts around env x)
  in_statement (t.label inner) around env = (inner, tt)
  in_statement (t.case value inner) around env = (value, (inner, tt))
  in_statement (t.default inner) around env = (inner, tt)
  in_statement (t.block {items = is} items) around env = block_item_list is items around _
  in_statement (t.do_expr {value = e} value) around env = perhaps_part env AnExpression e value
  in_statement (t.if_else {no = part} value taken other) around env = (value, (taken, perhaps_part _ _ part other))
  in_statement (t.switch value inner) around env = (value, (inner, tt))
  in_statement (t.while value inner) around env = (value, (inner, tt))
  in_statement (t.until inner value) around env = (inner, (value, tt))
  in_statement (t.for {value = e} {step = e'} start value step inner) around env =
      in_for around (enter env) start e value e' step inner
  in_statement t.goto around env = tt
  in_statement t.continue around env = tt
  in_statement t.break around env = tt
  in_statement (t.return {value = e} value) around env = perhaps_part _ AnExpression e value

  -- ---- definitions of functions

  pub in_body_form : {x : StmtForm-F BlockItem StmtForm Stmt} → StmtFormSpots P x → Each (BlockItemSpots P) (body_items x)
  in_body_form (t.label inner) = each_none (BlockItemSpots P)
  in_body_form (t.case value inner) = each_none (BlockItemSpots P)
  in_body_form (t.default inner) = each_none (BlockItemSpots P)
  in_body_form (t.block items) = items
  in_body_form (t.do_expr value) = each_none (BlockItemSpots P)
  in_body_form (t.if_else value taken other) = each_none (BlockItemSpots P)
  in_body_form (t.switch value inner) = each_none (BlockItemSpots P)
  in_body_form (t.while value inner) = each_none (BlockItemSpots P)
  in_body_form (t.until inner value) = each_none (BlockItemSpots P)
  in_body_form (t.for start value step inner) = each_none (BlockItemSpots P)
  in_body_form t.goto = each_none (BlockItemSpots P)
  in_body_form t.continue = each_none (BlockItemSpots P)
  in_body_form t.break = each_none (BlockItemSpots P)
  in_body_form (t.return value) = each_none (BlockItemSpots P)

  pub stmt_form : {one : Stmt} → StmtSpots P one → StmtFormSpots P (out-StmtForm one.form)
  stmt_form (t.stmt here form) = form

  in_definition : {one : Function} → FunctionSpots P one → (at_end env : Env) → PartsSpots (definition_parts at_end env one)
  in_definition {one} spots at_end env =
      both_parts _ _ (specifier_list _ one.specifiers spots.specifiers env) (spots.declarator, block_item_list _ (in_body_form (stmt_form spots.body)) _ _)

  -- ---- all nodes

  in_external : {one : Decl} → DeclSpots P one → (env : Env) → PartsSpots (external_part env one)
  in_external (t.function spots) env = (spots, tt)
  in_external (t.declare spots) env = (spots, tt)
  in_external (t.empty here) env = tt

  pub in_node : (at_end env : Env) (node : Node) → NodeSpots P node → PartsSpots (parts at_end env node)
  in_node at_end env (AnExternal d) spots = in_external spots env
  in_node at_end env (ADeclaration scope node) spots = in_declaration spots at_end scope env
  in_node at_end env (ADefinition node) spots = in_definition spots at_end env
  in_node at_end env (AMember before m) (s.member_one here specifiers fields) =
      let told = specifiers_found m.specifiers env false in both_parts _ _ (specifier_list _ _ specifiers env) (field_list told m.declarators fields (extend env told.additions) before)
  in_node at_end env (AnItem before i) (s.item here value) = perhaps_part env AnExpression _ value
  in_node at_end env (AParameter lone p) (s.parameter here specifiers inner) = in_type env _ _ _ _ specifiers inner
  in_node at_end env (ATypeName n) (s.type_name here specifiers inner) = in_type env _ _ _ _ specifiers inner
  in_node at_end env (ADeclarator left d) (s.declarator here form) = in_declarator form env left
  in_node at_end env (AnInitialiser object init) (t.init form) = in_init form object env
  in_node at_end env (AStatement around one) (t.stmt here form) = in_statement form around env
  in_node at_end env (AnExpression e) (s.expr here form) = form_parts form env
