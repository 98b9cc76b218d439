-- What the nodes of an expression, a declarator or a specifier add.
use Rattle.std.proofs.Common.{◌≡◌, ◌∙◌, ℕ, ℤ, Bool, true, false, List, [], ◌∷◌, ◌++◌, Option, Some, None, map, refl, sym, ap, subst}
use Rattle.std.specs.Prelude.{⊤, ◌&&◌, not, if◌then◌else◌, is_some, option_map}
use Rattle.std.proofs.lemmas.Bool.{false≢true}
use Rattle.std.proofs.lemmas.List.{append-nil}
use Rattle.lk_base.specs.declared.code.Code.TheVariants.{Incomplete, Redeclared}
use Rattle.lk_base.specs.declared.spot.Spot.{Spot}
use Rattle.lk_tree.specs.declared.expression.DeclaratorForm.TheOpen.{DeclaratorForm-F, ExprForm-F, MemberDeclarator-F, Specifier-F, Declarator-F, Expr-F, Item-F, Member-F, Parameter-F, TypeName-F}
use Rattle.lk_tree.specs.declared.expression.DeclaratorForm.TheFolds.{ind-Declarator, ind-Expr, ind-Item, ind-Member, ind-Parameter, ind-Specifier, ind-TypeName, map-DeclaratorForm, map-ExprForm, map-MemberDeclarator, map-Specifier, map-Declarator, map-Expr, map-Item, map-Member, map-Parameter, map-TypeName}
use Rattle.lk_tree.specs.declared.expression.DeclaratorForm.{DeclaratorForm, out-DeclaratorForm, roll-DeclaratorForm, out-roll-DeclaratorForm}
use Rattle.lk_tree.specs.declared.expression.ExprForm.{ExprForm, out-ExprForm, roll-ExprForm, out-roll-ExprForm}
use Rattle.lk_tree.specs.declared.expression.MemberDeclarator.{MemberDeclarator, out-MemberDeclarator, roll-MemberDeclarator, out-roll-MemberDeclarator}
use Rattle.lk_tree.specs.declared.expression.Specifier.{Specifier, out-Specifier, roll-Specifier, out-roll-Specifier}
use Rattle.lk_tree.specs.declared.expression.Declarator.{Declarator, roll-Declarator}
use Rattle.lk_tree.specs.declared.expression.Expr.{Expr, roll-Expr}
use Rattle.lk_tree.specs.declared.expression.Item.{Item, out-Item, roll-Item, out-roll-Item}
use Rattle.lk_tree.specs.declared.expression.Member.{Member, roll-Member}
use Rattle.lk_tree.specs.declared.expression.Parameter.{Parameter, out-Parameter, roll-Parameter, out-roll-Parameter}
use Rattle.lk_tree.specs.declared.expression.TypeName.{TypeName, out-TypeName, roll-TypeName, out-roll-TypeName}
use Rattle.lk_tree.specs.declared.operators.BinaryOperator.{BinaryOperator}
use Rattle.lk_typed.specs.Assignments.{operator_of}
use Rattle.lk_typed.specs.DeclarationRules.{InType, type_in}
use Rattle.lk_typed.specs.Env.{Env, Additions, Field, Members, Outside, as_function, as_operand, both, converted_to, enter, extend, field_of, nothing, past_scope}
use Rattle.lk_typed.specs.ExprRules as rules
use Rattle.lk_typed.specs.ExprRules.{adds_of_expr, all_additions, judged}
use Rattle.lk_typed.specs.Expressions.{at_pair, declarator_found, declarator_layer, expression, item_found, member_found, member_declarator_found, parameter_found, specifier_found, specifiers_found, type_found}
use Rattle.lk_typed.specs.Faults.{Breach, breach_of}
use Rattle.lk_typed.specs.Forms.{as_cast, as_passed, as_right, behind, found_at, in_place, passes_of, placed_arguments}
use Rattle.lk_typed.specs.Layers as layers
use Rattle.lk_typed.specs.Layers.{DeclaratorLayer, each_parameter, faulty_member, field_told, field_unless, inner_of, parameter_name, parameter_type, parameters_of, type_made, with_declarator}
use Rattle.lk_typed.specs.Library.{Passing, Converted, NullFor, Routine, Size}
use Rattle.lk_typed.specs.MemberRules.{large_struct_rules, member_rules}
use Rattle.lk_typed.specs.NodeParts as parts
use Rattle.lk_typed.specs.NodeParts.{member_part, type_part_if_there, type_parts}
use Rattle.lk_typed.specs.Nodes.{AMember, AnItem, AParameter, ATypeName, ADeclarator, AnExpression, Placed, at, Left, NameUse, IsParameter, Unnamed}
use Rattle.lk_typed.specs.Parts.{declarator_parts, items_parts, members_parts, parameters_in_turn, perhaps, specifier_parts, specifiers_parts}
use Rattle.lk_typed.specs.Redeclared.{typedef_type}
use Rattle.lk_typed.specs.Sizes.{is_broken, is_complete}
use Rattle.lk_typed.specs.Telling.{added, in_declarator, of_member_declarator, of_specifier, size_added}
use Rattle.lk_typed.specs.Told as told
use Rattle.lk_typed.specs.Told.{MemberTold, Named, SpecifierTold, before_first, enum_tag, enumerator, known_or_faulty, members_made, specifiers, struct_begins, struct_meant_by, struct_use}
use Rattle.lk_typed.specs.Ty.{Ty, is_function}
use Rattle.lk_typed.specs.Typing.{Typing}
use Rattle.lk_rules.specs.LayerLaws.{DeclaratorTree, MemberDeclaratorTree, SpecifierTree, declarator_parts_told, member_declarator_parts_told, specifier_parts_told}
use Rattle.lk_rules.specs.Laws.{name_found}
use Rattle.lk_rules.proofs.Found.{Layer, expressions_follow_their_rules}
use Rattle.lk_rules.proofs.Layered.{declarators_follow_their_forms, items_follow_their_parts, member_declarators_follow_their_forms, members_follow_their_parts, parameters_follow_their_parts, specifiers_follow_their_forms, type_names_follow_their_parts}
use Rattle.lk_rules.proofs.Roles.{additions_in_any_role}
use Rattle.lk_nodes.proofs.Adding.{NodeTells, Sound, Tells, extended, fit_earlier, fit_further, more, next, none, part, past, turn}
use Rattle.lk_nodes.proofs.Lists.{IfThere, With}
use Rattle.lk_nodes.proofs.Rules.{none_before, none_behind, rule_holds}
use Rattle.lk_nodes.proofs.Structs.{AddsWithin, AllComplete, AreComplete, KeepsStructs, MayHaveElements, adds_further, after_both, enum_kept, fields_both, fields_stay, known_behind, known_behind_struct, named_kept, names_kept, nothing_kept, struct_begun, structs_behind, whole_kept}

-- ---- layers of trees

abbrev DeclaratorNode : Type 0
DeclaratorNode = Declarator-F DeclaratorForm ExprForm MemberDeclarator Specifier Declarator Expr Item Member Parameter TypeName

abbrev ExprNode : Type 0
ExprNode = Expr-F DeclaratorForm ExprForm MemberDeclarator Specifier Declarator Expr Item Member Parameter TypeName

abbrev ItemNode : Type 0
ItemNode = Item-F DeclaratorForm ExprForm MemberDeclarator Specifier Declarator Expr Item Member Parameter TypeName

abbrev MemberNode : Type 0
MemberNode = Member-F DeclaratorForm ExprForm MemberDeclarator Specifier Declarator Expr Item Member Parameter TypeName

abbrev ParameterNode : Type 0
ParameterNode = Parameter-F DeclaratorForm ExprForm MemberDeclarator Specifier Declarator Expr Item Member Parameter TypeName

abbrev TypeNameNode : Type 0
TypeNameNode = TypeName-F DeclaratorForm ExprForm MemberDeclarator Specifier Declarator Expr Item Member Parameter TypeName

-- ---- each of a list

-- it holds of each
abbrev pub Each : {A : Type 0} → (A → Type 0) → List A → Type 0
Each P [] = ⊤
Each P (x ∷ xs) = P x × Each P xs

-- of values with proofs
pub each_of : {A : Type 0} (P : A → Type 0) (xs : List (With P)) → Each P (map (λ a. a.0) xs)
each_of P [] = tt
each_of P (x ∷ xs) = (x.1, each_of P xs)

-- of all values
pub each_all : {A : Type 0} (P : A → Type 0) → ((a : A) → P a) → (xs : List A) → Each P xs
each_all P all [] = tt
each_all P all (x ∷ xs) = (all x, each_all P all xs)

-- ---- additions

-- additions, then nothing
pub both_nothing : (a : Additions) → both a nothing ≡ a
both_nothing a =
    ap (λ xs. record { declared = xs; tags = a.tags ++ []; structs = a.structs ++ [] }) (append-nil a.declared) ∙
    ap (λ xs. record { declared = a.declared; tags = xs; structs = a.structs ++ [] }) (append-nil a.tags) ∙
    ap (λ xs. record { declared = a.declared; tags = a.tags; structs = xs }) (append-nil a.structs)

-- the environment behind nothing
pub extend_nothing : (env : Env) → extend env nothing ≡ env
extend_nothing env =
    ap (λ xs. record env { declared = xs; tags = env.tags ++ [] }) (append-nil env.declared) ∙
    ap (λ xs. record env { tags = xs }) (append-nil env.tags)

-- a member adds the same, sound or faulty
unless_adds : (bs : List Breach) (name : List ℕ) (t : Ty) (faulty : MemberTold) → (field_unless bs name t faulty).additions ≡ faulty.additions
unless_adds [] name t faulty = refl
unless_adds (b ∷ bs) name t faulty = refl

-- so does one that breaks no rule of its struct
field_adds : (env : Env) (before : List Field) (name : Option Named) (t : Option Ty) (faulty : MemberTold) → (field_told env before name t faulty).additions ≡ faulty.additions
field_adds env before None t faulty = refl
field_adds env before (Some named) None faulty = refl
field_adds env before (Some named) (Some t) faulty = by_struct (is_broken env.structs t)
  where
    by_struct : (b : Bool) → (if b then faulty else field_unless (member_rules env before named.name t ++ large_struct_rules env before t) named.name t faulty).additions ≡ faulty.additions
    by_struct true = refl
    by_struct false = unless_adds (member_rules env before named.name t ++ large_struct_rules env before t) named.name t faulty

-- ---- fields have complete types

-- a field that breaks no rule is complete
unless_complete : (structs : List Members) (bs : List Breach) (name : List ℕ) (t : Ty) (faulty : MemberTold) → (bs ≡ [] → is_complete structs t ≡ true) → AllComplete structs faulty.fields →
    AllComplete structs (field_unless bs name t faulty).fields
unless_complete structs [] name t faulty holds all = (holds refl, tt)
unless_complete structs (b ∷ bs) name t faulty holds all = all

-- the field that a declarator makes
told_complete : (env : Env) (before : List Field) (name : Option Named) (t : Option Ty) (faulty : MemberTold) → AllComplete env.structs faulty.fields →
    AllComplete env.structs (field_told env before name t faulty).fields
told_complete env before None t faulty all = all
told_complete env before (Some named) None faulty all = all
told_complete env before (Some named) (Some t) faulty all = by_struct (is_broken env.structs t)
  where
    by_struct : (b : Bool) → AllComplete env.structs (if b then faulty else field_unless (member_rules env before named.name t ++ large_struct_rules env before t) named.name t faulty).fields
    by_struct true = all
    by_struct false =
        let declared = if is_some (field_of before named.name) then breach_of Redeclared named.name ∷ [] else [] in
        unless_complete env.structs _ named.name t faulty
        (λ none. rule_holds (is_complete env.structs t) Incomplete (none_behind declared _ (none_before _ (large_struct_rules env before t) none))) all

-- the field that a declarator of a member makes is complete behind it
field_complete : (d : MemberDeclarator) (env : Env) (t : Option Ty) (before : List Field) →
    AllComplete (structs_behind env.structs (member_declarator_found d env t before).additions) (member_declarator_found d env t before).fields
field_complete d env t before =
    subst (λ f. AllComplete (structs_behind env.structs (f env t before).additions) (f env t before).fields) (sym (member_declarators_follow_their_forms d)) (by_form (out-MemberDeclarator d))
  where
    by_form : (form : MemberDeclaratorTree) →
        (λ (told : MemberTold). AllComplete (structs_behind env.structs told.additions) told.fields) (of_member_declarator (member_declarator_parts_told form) env t before)
    by_form (MemberDeclarator-F.Plain inner) =
        let found = declarator_found inner in
        let behind = extend env (found.additions env) in
        let faulty = faulty_member (found.additions env) (found.holds_sizeof env) in
        let made = type_made env false t found in
        subst (λ a. AllComplete (structs_behind env.structs a) (field_told behind before found.name made faulty).fields)
        (sym (field_adds behind before found.name made faulty)) (told_complete behind before found.name made faulty tt)
    by_form (MemberDeclarator-F.Field inner width) = tt
    by_form (MemberDeclarator-F.Unnamed width) = tt

-- what is made of complete fields has complete members
made_complete : (structs : List Members) (told : MemberTold) → AllComplete structs told.fields → AreComplete structs (members_made told)
made_complete structs told all = by_sound told.sound told.fields all
  where
    by_sound : (b : Bool) (fields : List Field) → AllComplete structs fields → AreComplete structs (if b then known_or_faulty fields else Members.Faulty)
    by_sound false fields all = tt
    by_sound true [] all = tt
    by_sound true (field ∷ fields) all = all

-- an enumerator is no typedef
item_elements : (structs : List Members) (value : Option ℤ) → MayHaveElements structs (typedef_type (enumerator value))
item_elements structs None = tt
item_elements structs (Some z) = tt

module _ (outside : Outside) (at_end : Env) where
  -- ---- of each kind of node: its additions with its parts

  -- an expression
  abbrev pub PExpr : Expr → Type 0
  PExpr e = (env : Env) → NodeTells outside at_end env (AnExpression e)

  -- a type name
  abbrev pub PTypeName : TypeName → Type 0
  PTypeName n = (env : Env) → NodeTells outside at_end env (ATypeName n)

  -- a member, behind any fields; its own fields are complete behind it
  pub record PMember (m : Member) : Type 0 where
    pub tells : (env : Env) (before : List Field) → NodeTells outside at_end env (AMember before m)
    pub complete : (env : Env) (before : List Field) → Sound outside env → AllComplete (structs_behind env.structs (member_found m env before).additions) (member_found m env before).fields

  -- an enumerator, behind any value
  abbrev pub PItem : Item → Type 0
  PItem i = (env : Env) (before : Option ℤ) → NodeTells outside at_end env (AnItem before i)

  -- a parameter, alone or not
  abbrev pub PParameter : Parameter → Type 0
  PParameter p = (env : Env) (lone : Bool) → NodeTells outside at_end env (AParameter lone p)

  -- a specifier, which is no node
  abbrev pub PSpecifier : Specifier → Type 0
  PSpecifier s = (env : Env) (alone : Bool) → Sound outside env → Tells outside env.structs (specifier_found s env alone).additions (specifier_parts env (out-Specifier s))

  -- a declarator of a member, which is none either
  abbrev pub PField : MemberDeclarator → Type 0
  PField d =
      (env : Env) (told : SpecifierTold) (t : Option Ty) (before : List Field) → Sound outside env →
      Tells outside env.structs (member_declarator_found d env t before).additions (member_part env told before (out-MemberDeclarator d))

  -- a declarator that is the name alone adds nothing; the tags of its parameters mean structs that there are behind it
  pub record LayerTells (l : DeclaratorLayer) (ps : Env → Left → List Placed) : Type 0 where
    pub tells : (env : Env) (left : Left) → Sound outside env → Tells outside env.structs (l.told.additions env) (ps env left)
    pub name : l.is_name ≡ true → (env : Env) → l.told.additions env ≡ nothing
    pub parameters : (env : Env) → Sound outside env → AddsWithin (structs_behind env.structs (l.told.additions env)) (l.told.parameters (enter env))

  -- a declarator
  abbrev pub PDeclarator : Declarator → Type 0
  PDeclarator d = LayerTells (declarator_layer d) (λ env left. declarator_parts env left (out-DeclaratorForm d.form))

  -- a layer of an expression
  abbrev FormTells : Layer → Type 0
  FormTells form =
      (env : Env) (n : ℕ) → Sound outside env →
      Tells outside env.structs (judged expression name_found env n form).adds (map at_pair (rules.parts AnExpression ATypeName expression name_found env form))

  -- a form of an expression
  abbrev PExprForm : ExprForm → Type 0
  PExprForm form = FormTells (out-ExprForm form)

  -- a layer of a declarator
  abbrev DeclaratorTells : DeclaratorTree → Type 0
  DeclaratorTells form = (spot : Spot) (n : ℕ) → LayerTells (in_declarator (declarator_parts_told form) spot n) (λ env left. declarator_parts env left form)

  -- a form of a declarator
  abbrev PDeclaratorForm : DeclaratorForm → Type 0
  PDeclaratorForm form = DeclaratorTells (out-DeclaratorForm form)

  -- ---- expressions as parts

  -- an expression
  pub expr_part : (e : Expr) → PExpr e → (env : Env) → Sound outside env → Tells outside env.structs (expression e env).adds (at env (AnExpression e) ∷ [])
  expr_part e tells env sound = part outside at_end env (AnExpression e) sound (tells env)

  -- an expression whose additions are asked as those of an operand
  pub operand_part : (e : Expr) → PExpr e → (env : Env) → Sound outside env → Tells outside env.structs (added (expression e) env) (at env (AnExpression e) ∷ [])
  operand_part e tells env sound = subst (λ a. Tells outside env.structs a (at env (AnExpression e) ∷ [])) (additions_in_any_role e env) (expr_part e tells env sound)

  -- a type name
  name_part : (n : TypeName) → PTypeName n → (env : Env) → Sound outside env → Tells outside env.structs (type_found n env).additions (at env (ATypeName n) ∷ [])
  name_part n tells env sound = part outside at_end env (ATypeName n) sound (tells env)

  -- the right side of an assignment
  right_part : (e : Expr) → PExpr e → (op : Option BinaryOperator) (left : Option Typing) (env : Env) → Sound outside env →
      Tells outside env.structs (expression e (as_right op left env)).adds (at (as_right op left env) (AnExpression e) ∷ [])
  right_part e tells None None env sound = expr_part e tells (as_operand env) sound
  right_part e tells None (Some left) env sound = by_kind (is_function left.type)
    where
      by_kind : (b : Bool) →
          (λ (inside : Env). Tells outside env.structs (expression e inside).adds (at inside (AnExpression e) ∷ [])) (if b then as_operand env else converted_to env left.type)
      by_kind true = expr_part e tells (as_operand env) sound
      by_kind false = expr_part e tells (converted_to env left.type) sound
  right_part e tells (Some op) left env sound = expr_part e tells (as_operand env) sound

  -- the operand of a cast
  cast_part : (e : Expr) → PExpr e → (t : Option Ty) (env : Env) → Sound outside env → Tells outside env.structs (expression e (as_cast t env)).adds (at (as_cast t env) (AnExpression e) ∷ [])
  cast_part e tells None env sound = expr_part e tells (as_operand env) sound
  cast_part e tells (Some t) env sound = expr_part e tells (converted_to env t) sound

  -- an argument
  argument_part : (e : Expr) → PExpr e → (pass : Passing) (env : Env) → Sound outside env →
      Tells outside env.structs (expression e (as_passed pass env)).adds (at (as_passed pass env) (AnExpression e) ∷ [])
  argument_part e tells (Converted t) env sound = expr_part e tells _ sound
  argument_part e tells (NullFor t code) env sound = expr_part e tells _ sound
  argument_part e tells Routine env sound = expr_part e tells _ sound
  argument_part e tells Size env sound = expr_part e tells _ sound

  -- the arguments of a call
  arguments_tell : (es : List Expr) → Each PExpr es → (env : Env) (passes : List Passing) → Sound outside env →
      Tells outside env.structs (all_additions (map adds_of_expr (map (found_at expression) (placed_arguments expression env passes es))))
      (map at_pair (map (in_place AnExpression) (placed_arguments expression env passes es)))
  arguments_tell [] all env passes sound = none outside env.structs
  arguments_tell (e ∷ es) all env [] sound =
      let first = expr_part e all.0 (as_operand env) sound in
      next outside first (arguments_tell es all.1 (behind env (expression e (as_operand env))) [] (extended outside env sound first.kept))
  arguments_tell (e ∷ es) all env (pass ∷ passes) sound =
      let first = argument_part e all.0 pass env sound in
      next outside first (arguments_tell es all.1 (behind env (expression e (as_passed pass env))) passes (extended outside env sound first.kept))

  -- an expression that may be missing
  pub perhaps_tells : (e : Option Expr) → IfThere PExpr e → (env : Env) → Sound outside env →
      Tells outside env.structs (size_added (option_map expression e) env) (perhaps env AnExpression e)
  perhaps_tells None all env sound = none outside env.structs
  perhaps_tells (Some e) all env sound = operand_part e all env sound

  -- ---- parts in turn

  -- specifiers
  pub specifiers_tell : (ss : List Specifier) → Each PSpecifier ss → (env : Env) (alone : Bool) → Sound outside env →
      Tells outside env.structs (specifiers_found ss env alone).additions (specifiers_parts alone env ss)
  specifiers_tell [] all env alone sound = none outside env.structs
  specifiers_tell (s ∷ ss) all env alone sound =
      let first = all.0 env alone sound in
      let a = (specifier_found s env alone).additions in
      turn outside first (subst (λ b. Tells outside (structs_behind env.structs a) (specifiers_found ss (extend env a) alone).additions (specifiers_parts alone (extend env b) ss))
      (sym (both_nothing a)) (specifiers_tell ss all.1 (extend env a) alone (extended outside env sound first.kept)))

  -- the members of a struct
  members_tell : (ms : List Member) → Each PMember ms → (env : Env) (before : List Field) → Sound outside env →
      Tells outside env.structs (told.members_in_turn (map member_found ms) env before).additions (members_parts env before ms)
  members_tell [] all env before sound = none outside env.structs
  members_tell (m ∷ ms) all env before sound =
      let first = part outside at_end env (AMember before m) sound (all.0.tells env before) in
      next outside first (members_tell ms all.1 _ _ (extended outside env sound first.kept))

  -- the fields of the members of a struct are complete behind them
  members_complete : (ms : List Member) → Each PMember ms → (env : Env) (before : List Field) → Sound outside env →
      AllComplete (structs_behind env.structs (told.members_in_turn (map member_found ms) env before).additions) (told.members_in_turn (map member_found ms) env before).fields
  members_complete [] all env before sound = tt
  members_complete (m ∷ ms) all env before sound =
      let found = member_found m env before in
      let after = extend env found.additions in
      let others = told.members_in_turn (map member_found ms) after (before ++ found.fields) in
      let stays = extended outside env sound (all.0.tells env before sound).kept in
      let kept = (members_tell ms all.1 after (before ++ found.fields) stays).kept in
      subst (λ xs. AllComplete xs (found.fields ++ others.fields)) (sym (after_both env.structs found.additions.structs others.additions.structs))
      (fields_both _ found.fields others.fields (fields_stay _ _ (known_behind kept) found.fields (all.0.complete env before sound)) (members_complete ms all.1 after (before ++ found.fields) stays))

  -- the enumerators of an enumeration
  items_tell : (is : List Item) → Each PItem is → (env : Env) (before : Option ℤ) → Sound outside env →
      Tells outside env.structs (told.items_in_turn (map item_found is) env before) (items_parts env before is)
  items_tell [] all env before sound = none outside env.structs
  items_tell (i ∷ is) all env before sound =
      let first = part outside at_end env (AnItem before i) sound (all.0 env before) in
      next outside first (items_tell is all.1 _ _ (extended outside env sound first.kept))

  -- parameters
  each_tells : (ps : List Parameter) → Each PParameter ps → (lone : Bool) (env : Env) → Sound outside env →
      Tells outside env.structs (each_parameter (map parameter_found ps) env).additions (parameters_in_turn lone env ps)
  each_tells [] all lone env sound = none outside env.structs
  each_tells (p ∷ ps) all lone env sound =
      let first = part outside at_end env (AParameter lone p) sound (all.0 env lone) in
      next outside first (each_tells ps all.1 lone _ (extended outside env sound first.kept))

  -- the parameters of a list, where `(void)` is none
  parameters_tell : (ps : List Parameter) → Each PParameter ps → (lone dots : Bool) (env : Env) → Sound outside env →
      Tells outside env.structs (parameters_of (map parameter_found ps) dots env).additions (parameters_in_turn lone env ps)
  parameters_tell [] all lone dots env sound = none outside env.structs
  parameters_tell (p ∷ []) all lone dots env sound = by_void ((parameter_found p env).is_bare_void && not dots)
    where
      by_void : (b : Bool) →
          Tells outside env.structs
          (if b then record layers.no_parameter { additions = (parameter_found p env).additions; holds_sizeof = (parameter_found p env).holds_sizeof } else each_parameter (parameter_found p ∷ []) env).additions
          (at env (AParameter lone p) ∷ [])
      by_void true = part outside at_end env (AParameter lone p) sound (all.0 env lone)
      by_void false = each_tells (p ∷ []) all lone env sound
  parameters_tell (p ∷ q ∷ ps) all lone dots env sound = each_tells (p ∷ q ∷ ps) all lone env sound

  -- the declarators of a member
  fields_tell : (ds : List MemberDeclarator) → Each PField ds → (told : SpecifierTold) (env : Env) (before : List Field) → Sound outside env →
      Tells outside env.structs (layers.declarators_in_turn (map member_declarator_found ds) env (type_in InType told) before).additions (parts.members_in_turn told env before ds)
  fields_tell [] all told env before sound = none outside env.structs
  fields_tell (d ∷ ds) all told env before sound =
      let first = all.0 env told (type_in InType told) before sound in
      turn outside first (fields_tell ds all.1 told _ _ (extended outside env sound first.kept))

  -- the fields of the declarators of a member are complete behind them
  fields_complete : (ds : List MemberDeclarator) → Each PField ds → (told : SpecifierTold) (env : Env) (before : List Field) → Sound outside env →
      (λ (made : MemberTold). AllComplete (structs_behind env.structs made.additions) made.fields) (layers.declarators_in_turn (map member_declarator_found ds) env (type_in InType told) before)
  fields_complete [] all told env before sound = tt
  fields_complete (d ∷ ds) all told env before sound =
      let t = type_in InType told in
      let found = member_declarator_found d env t before in
      let after = extend env found.additions in
      let others = layers.declarators_in_turn (map member_declarator_found ds) after t (before ++ found.fields) in
      let stays = extended outside env sound (all.0 env told t before sound).kept in
      let kept = (fields_tell ds all.1 told after (before ++ found.fields) stays).kept in
      subst (λ xs. AllComplete xs (found.fields ++ others.fields)) (sym (after_both env.structs found.additions.structs others.additions.structs))
      (fields_both _ found.fields others.fields (fields_stay _ _ (known_behind kept) found.fields (field_complete d env t before)) (fields_complete ds all.1 told after (before ++ found.fields) stays))

  -- a declarator
  pub declarator_part : (d : Declarator) → PDeclarator d → (env : Env) (left : Left) → Sound outside env →
      Tells outside env.structs ((declarator_found d).additions env) (at env (ADeclarator left d) ∷ [])
  declarator_part d tells env left sound = part outside at_end env (ADeclarator left d) sound (tells.tells env left)

  -- specifiers, and a declarator that may be missing
  type_tells : (ss : List Specifier) (d : Option Declarator) → Each PSpecifier ss → IfThere PDeclarator d → (env : Env) (may_be_absent : Bool) (name : NameUse) → Sound outside env →
      Tells outside env.structs (with_declarator env may_be_absent (specifiers_found ss env false) (option_map declarator_layer d)).additions (type_parts env may_be_absent name ss d)
  type_tells ss d all there env may_be_absent name sound =
      let first = specifiers_tell ss all env false sound in turn outside first (by_declarator d there (extended outside env sound first.kept))
    where
      by_declarator : (d : Option Declarator) → IfThere PDeclarator d → Sound outside (extend env (specifiers_found ss env false).additions) →
          Tells outside (structs_behind env.structs (specifiers_found ss env false).additions)
          ((inner_of (option_map declarator_layer d)).told.additions (extend env (specifiers_found ss env false).additions))
          (type_part_if_there (extend env (specifiers_found ss env false).additions) (specifiers_found ss env false) may_be_absent name d)
      by_declarator None there sound = none outside _
      by_declarator (Some d) there sound = declarator_part d there _ _ sound

  -- ---- each kind of node, by its form or its parts

  -- an expression, by its form
  expr_tells_by : (e : Expr) → PExprForm e.form → PExpr e
  expr_tells_by e form env sound =
      subst (λ j. Tells outside env.structs j.adds (map at_pair (rules.parts AnExpression ATypeName expression name_found env (out-ExprForm e.form)))) (sym (expressions_follow_their_rules e env))
      (form env e.ordinal sound)

  -- a declarator, by its form
  declarator_tells_by : (d : Declarator) → PDeclaratorForm d.form → PDeclarator d
  declarator_tells_by d form =
      subst (λ l. LayerTells l (λ env left. declarator_parts env left (out-DeclaratorForm d.form))) (sym (declarators_follow_their_forms d)) (form d.spot d.ordinal)

  -- a type name, by its parts
  type_name_tells_by : (n : TypeName) → Each PSpecifier (out-TypeName n).specifiers → IfThere PDeclarator (out-TypeName n).declarator → PTypeName n
  type_name_tells_by n all there env sound =
      subst (λ f. Tells outside env.structs (f env).additions (type_parts env false Unnamed (out-TypeName n).specifiers (out-TypeName n).declarator)) (sym (type_names_follow_their_parts n))
      (type_tells (out-TypeName n).specifiers (out-TypeName n).declarator all there env false Unnamed sound)

  -- a parameter, by its parts
  parameter_tells_by : (p : Parameter) → Each PSpecifier (out-Parameter p).specifiers → IfThere PDeclarator (out-Parameter p).declarator → PParameter p
  parameter_tells_by p all there env lone sound =
      subst (λ f. Tells outside env.structs (f env).additions (type_parts env true IsParameter (out-Parameter p).specifiers (out-Parameter p).declarator)) (sym (parameters_follow_their_parts p))
      (more outside (type_tells (out-Parameter p).specifiers (out-Parameter p).declarator all there env true IsParameter sound) (by_name _ _ _))
    where
      by_name : (structs : List Members) (name : Option Named) (t : Option Ty) → KeepsStructs structs (parameter_name name t)
      by_name structs None t = nothing_kept structs
      by_name structs (Some named) None = names_kept structs _ (tt, tt)
      by_name structs (Some named) (Some t) = names_kept structs _ (tt, tt)

  -- a member, by its parts
  member_tells_by : (m : Member) → Each PSpecifier m.specifiers → Each PField m.declarators → PMember m
  member_tells_by m all fields =
      record {
        tells = λ env before sound.
            subst (λ f. Tells outside env.structs (f env before).additions (parts.member_parts env before m)) (sym (members_follow_their_parts m))
            (let first = specifiers_tell m.specifiers all env false sound in
            turn outside first (fields_tell m.declarators fields (specifiers_found m.specifiers env false) _ before (extended outside env sound first.kept)));
        complete = λ env before sound.
            let told = specifiers_found m.specifiers env false in
            let after = extend env told.additions in
            let made = layers.declarators_in_turn (map member_declarator_found m.declarators) after (type_in InType told) before in
            let stays = extended outside env sound (specifiers_tell m.specifiers all env false sound).kept in
            subst (λ f. AllComplete (structs_behind env.structs (f env before).additions) (f env before).fields) (sym (members_follow_their_parts m))
            (subst (λ xs. AllComplete xs made.fields) (sym (after_both env.structs told.additions.structs made.additions.structs)) (fields_complete m.declarators fields told after before stays));
      }

  -- an enumerator, by its value
  item_tells_by : (i : Item) → IfThere PExpr (out-Item i).value → PItem i
  item_tells_by i there env before sound =
      subst (λ f. Tells outside env.structs (f env before).additions (perhaps env AnExpression (out-Item i).value)) (sym (items_follow_their_parts i))
      (more outside (perhaps_tells (out-Item i).value there env sound) (names_kept _ _ (item_elements _ _, tt)))

  -- ---- one layer, where this holds of its parts

  abbrev DeclaratorGiven : Type 0
  DeclaratorGiven = DeclaratorForm-F (With PDeclaratorForm) (With PExprForm) (With PField) (With PSpecifier) (With PDeclarator) (With PExpr) (With PItem) (With PMember) (With PParameter) (With PTypeName)

  abbrev LayerGiven : Type 0
  LayerGiven = ExprForm-F (With PDeclaratorForm) (With PExprForm) (With PField) (With PSpecifier) (With PDeclarator) (With PExpr) (With PItem) (With PMember) (With PParameter) (With PTypeName)

  abbrev MemberDeclaratorGiven : Type 0
  MemberDeclaratorGiven = MemberDeclarator-F (With PDeclaratorForm) (With PExprForm) (With PField) (With PSpecifier) (With PDeclarator) (With PExpr) (With PItem) (With PMember) (With PParameter) (With PTypeName)

  abbrev SpecifierGiven : Type 0
  SpecifierGiven = Specifier-F (With PDeclaratorForm) (With PExprForm) (With PField) (With PSpecifier) (With PDeclarator) (With PExpr) (With PItem) (With PMember) (With PParameter) (With PTypeName)

  abbrev DeclaratorNodeGiven : Type 0
  DeclaratorNodeGiven = Declarator-F (With PDeclaratorForm) (With PExprForm) (With PField) (With PSpecifier) (With PDeclarator) (With PExpr) (With PItem) (With PMember) (With PParameter) (With PTypeName)

  abbrev ExprNodeGiven : Type 0
  ExprNodeGiven = Expr-F (With PDeclaratorForm) (With PExprForm) (With PField) (With PSpecifier) (With PDeclarator) (With PExpr) (With PItem) (With PMember) (With PParameter) (With PTypeName)

  abbrev ItemNodeGiven : Type 0
  ItemNodeGiven = Item-F (With PDeclaratorForm) (With PExprForm) (With PField) (With PSpecifier) (With PDeclarator) (With PExpr) (With PItem) (With PMember) (With PParameter) (With PTypeName)

  abbrev MemberNodeGiven : Type 0
  MemberNodeGiven = Member-F (With PDeclaratorForm) (With PExprForm) (With PField) (With PSpecifier) (With PDeclarator) (With PExpr) (With PItem) (With PMember) (With PParameter) (With PTypeName)

  abbrev ParameterNodeGiven : Type 0
  ParameterNodeGiven = Parameter-F (With PDeclaratorForm) (With PExprForm) (With PField) (With PSpecifier) (With PDeclarator) (With PExpr) (With PItem) (With PMember) (With PParameter) (With PTypeName)

  abbrev TypeNameNodeGiven : Type 0
  TypeNameNodeGiven = TypeName-F (With PDeclaratorForm) (With PExprForm) (With PField) (With PSpecifier) (With PDeclarator) (With PExpr) (With PItem) (With PMember) (With PParameter) (With PTypeName)

  -- each layer without these proofs
  abbrev declarator_form_below : DeclaratorGiven → DeclaratorTree
  declarator_form_below = map-DeclaratorForm (With PDeclaratorForm) (With PExprForm) (With PField) (With PSpecifier) (With PDeclarator) (With PExpr) (With PItem) (With PMember) (With PParameter) (With PTypeName) DeclaratorForm ExprForm MemberDeclarator Specifier Declarator Expr Item Member Parameter TypeName (λ a. a.0) (λ a. a.0) (λ a. a.0) (λ a. a.0) (λ a. a.0) (λ a. a.0) (λ a. a.0) (λ a. a.0) (λ a. a.0) (λ a. a.0)

  abbrev expr_form_below : LayerGiven → Layer
  expr_form_below = map-ExprForm (With PDeclaratorForm) (With PExprForm) (With PField) (With PSpecifier) (With PDeclarator) (With PExpr) (With PItem) (With PMember) (With PParameter) (With PTypeName) DeclaratorForm ExprForm MemberDeclarator Specifier Declarator Expr Item Member Parameter TypeName (λ a. a.0) (λ a. a.0) (λ a. a.0) (λ a. a.0) (λ a. a.0) (λ a. a.0) (λ a. a.0) (λ a. a.0) (λ a. a.0) (λ a. a.0)

  abbrev field_below : MemberDeclaratorGiven → MemberDeclaratorTree
  field_below = map-MemberDeclarator (With PDeclaratorForm) (With PExprForm) (With PField) (With PSpecifier) (With PDeclarator) (With PExpr) (With PItem) (With PMember) (With PParameter) (With PTypeName) DeclaratorForm ExprForm MemberDeclarator Specifier Declarator Expr Item Member Parameter TypeName (λ a. a.0) (λ a. a.0) (λ a. a.0) (λ a. a.0) (λ a. a.0) (λ a. a.0) (λ a. a.0) (λ a. a.0) (λ a. a.0) (λ a. a.0)

  abbrev specifier_below : SpecifierGiven → SpecifierTree
  specifier_below = map-Specifier (With PDeclaratorForm) (With PExprForm) (With PField) (With PSpecifier) (With PDeclarator) (With PExpr) (With PItem) (With PMember) (With PParameter) (With PTypeName) DeclaratorForm ExprForm MemberDeclarator Specifier Declarator Expr Item Member Parameter TypeName (λ a. a.0) (λ a. a.0) (λ a. a.0) (λ a. a.0) (λ a. a.0) (λ a. a.0) (λ a. a.0) (λ a. a.0) (λ a. a.0) (λ a. a.0)

  abbrev declarator_below : DeclaratorNodeGiven → DeclaratorNode
  declarator_below = map-Declarator (With PDeclaratorForm) (With PExprForm) (With PField) (With PSpecifier) (With PDeclarator) (With PExpr) (With PItem) (With PMember) (With PParameter) (With PTypeName) DeclaratorForm ExprForm MemberDeclarator Specifier Declarator Expr Item Member Parameter TypeName (λ a. a.0) (λ a. a.0) (λ a. a.0) (λ a. a.0) (λ a. a.0) (λ a. a.0) (λ a. a.0) (λ a. a.0) (λ a. a.0) (λ a. a.0)

  abbrev expr_below : ExprNodeGiven → ExprNode
  expr_below = map-Expr (With PDeclaratorForm) (With PExprForm) (With PField) (With PSpecifier) (With PDeclarator) (With PExpr) (With PItem) (With PMember) (With PParameter) (With PTypeName) DeclaratorForm ExprForm MemberDeclarator Specifier Declarator Expr Item Member Parameter TypeName (λ a. a.0) (λ a. a.0) (λ a. a.0) (λ a. a.0) (λ a. a.0) (λ a. a.0) (λ a. a.0) (λ a. a.0) (λ a. a.0) (λ a. a.0)

  abbrev item_below : ItemNodeGiven → ItemNode
  item_below = map-Item (With PDeclaratorForm) (With PExprForm) (With PField) (With PSpecifier) (With PDeclarator) (With PExpr) (With PItem) (With PMember) (With PParameter) (With PTypeName) DeclaratorForm ExprForm MemberDeclarator Specifier Declarator Expr Item Member Parameter TypeName (λ a. a.0) (λ a. a.0) (λ a. a.0) (λ a. a.0) (λ a. a.0) (λ a. a.0) (λ a. a.0) (λ a. a.0) (λ a. a.0) (λ a. a.0)

  abbrev member_below : MemberNodeGiven → MemberNode
  member_below = map-Member (With PDeclaratorForm) (With PExprForm) (With PField) (With PSpecifier) (With PDeclarator) (With PExpr) (With PItem) (With PMember) (With PParameter) (With PTypeName) DeclaratorForm ExprForm MemberDeclarator Specifier Declarator Expr Item Member Parameter TypeName (λ a. a.0) (λ a. a.0) (λ a. a.0) (λ a. a.0) (λ a. a.0) (λ a. a.0) (λ a. a.0) (λ a. a.0) (λ a. a.0) (λ a. a.0)

  abbrev parameter_below : ParameterNodeGiven → ParameterNode
  parameter_below = map-Parameter (With PDeclaratorForm) (With PExprForm) (With PField) (With PSpecifier) (With PDeclarator) (With PExpr) (With PItem) (With PMember) (With PParameter) (With PTypeName) DeclaratorForm ExprForm MemberDeclarator Specifier Declarator Expr Item Member Parameter TypeName (λ a. a.0) (λ a. a.0) (λ a. a.0) (λ a. a.0) (λ a. a.0) (λ a. a.0) (λ a. a.0) (λ a. a.0) (λ a. a.0) (λ a. a.0)

  abbrev type_name_below : TypeNameNodeGiven → TypeNameNode
  type_name_below = map-TypeName (With PDeclaratorForm) (With PExprForm) (With PField) (With PSpecifier) (With PDeclarator) (With PExpr) (With PItem) (With PMember) (With PParameter) (With PTypeName) DeclaratorForm ExprForm MemberDeclarator Specifier Declarator Expr Item Member Parameter TypeName (λ a. a.0) (λ a. a.0) (λ a. a.0) (λ a. a.0) (λ a. a.0) (λ a. a.0) (λ a. a.0) (λ a. a.0) (λ a. a.0) (λ a. a.0)

  -- ---- each form

  -- a form of an expression
  in_expr_form : (y : LayerGiven) → FormTells (expr_form_below y)
  in_expr_form (ExprForm-F.Comma left right) env n sound =
      let first = expr_part left.0 left.1 (as_operand env) sound in
      next outside first (next outside (expr_part right.0 right.1 _ (extended outside env sound first.kept)) (none outside _))
  in_expr_form (ExprForm-F.Assign op left right) env n sound =
      let first = expr_part left.0 left.1 (as_operand env) sound in
      next outside first (next outside (right_part right.0 right.1 (operator_of op) (expression left.0 (as_operand env)).typing (behind env (expression left.0 (as_operand env))) (extended outside env sound first.kept)) (none outside _))
  in_expr_form (ExprForm-F.Choice condition taken other) env n sound =
      let first = expr_part condition.0 condition.1 (as_operand env) sound in
      let inside = as_operand (behind env (expression condition.0 (as_operand env))) in
      let stays = extended outside env sound first.kept in
      let second = expr_part taken.0 taken.1 inside stays in
      next outside first (next outside second (next outside (expr_part other.0 other.1 (behind inside (expression taken.0 inside)) (extended outside inside stays second.kept)) (none outside _)))
  in_expr_form (ExprForm-F.Binary op left right) env n sound =
      let first = expr_part left.0 left.1 (as_operand env) sound in
      next outside first (next outside (expr_part right.0 right.1 _ (extended outside env sound first.kept)) (none outside _))
  in_expr_form (ExprForm-F.Cast name operand) env n sound =
      let first = name_part name.0 name.1 (as_operand env) sound in
      let found = name_found name.0 (as_operand env) in
      next outside first (next outside (cast_part operand.0 operand.1 found.type (extend env found.adds) (extended outside env sound first.kept)) (none outside _))
  in_expr_form (ExprForm-F.Pre op operand) env n sound = next outside (expr_part operand.0 operand.1 _ sound) (none outside _)
  in_expr_form (ExprForm-F.Prefix op operand) env n sound = next outside (expr_part operand.0 operand.1 _ sound) (none outside _)
  in_expr_form (ExprForm-F.SizeofExpr operand) env n sound = next outside (expr_part operand.0 operand.1 _ sound) (none outside _)
  in_expr_form (ExprForm-F.SizeofType name) env n sound = next outside (name_part name.0 name.1 _ sound) (none outside _)
  in_expr_form (ExprForm-F.Index array inner) env n sound =
      let first = expr_part array.0 array.1 (as_operand env) sound in
      next outside first (next outside (expr_part inner.0 inner.1 _ (extended outside env sound first.kept)) (none outside _))
  in_expr_form (ExprForm-F.Call function arguments) env n sound =
      let first = expr_part function.0 function.1 (as_function env) sound in
      let found = expression function.0 (as_function env) in
      next outside first (arguments_tell (map (λ a. a.0) arguments) (each_of PExpr arguments) (behind env found) (passes_of found found.typing) (extended outside env sound first.kept))
  in_expr_form (ExprForm-F.Member object name) env n sound = next outside (expr_part object.0 object.1 _ sound) (none outside _)
  in_expr_form (ExprForm-F.Arrow pointer name) env n sound = next outside (expr_part pointer.0 pointer.1 _ sound) (none outside _)
  in_expr_form (ExprForm-F.Post op operand) env n sound = next outside (expr_part operand.0 operand.1 _ sound) (none outside _)
  in_expr_form (ExprForm-F.Word name) env n sound = none outside env.structs
  in_expr_form (ExprForm-F.Number kind value) env n sound = none outside env.structs
  in_expr_form (ExprForm-F.Char value) env n sound = none outside env.structs
  in_expr_form (ExprForm-F.Text bytes) env n sound = none outside env.structs
  in_expr_form (ExprForm-F.Paren inner) env n sound = next outside (expr_part inner.0 inner.1 _ sound) (none outside _)

  -- a declarator inside, and then a size
  size_tells : {a : Additions} {ps : List Placed} (size : Option Expr) → IfThere PExpr size → (env : Env) → Sound outside env → Tells outside env.structs a ps →
      Tells outside env.structs (both a (size_added (option_map expression size) (extend env a))) (ps ++ perhaps (extend env a) AnExpression size)
  size_tells {a} size there env sound first = turn outside first (perhaps_tells size there (extend env a) (extended outside env sound first.kept))

  -- a declarator inside, and then parameters in a scope of their own
  list_tells : {a : Additions} {ps : List Placed} (of : List Parameter) → Each PParameter of → (lone dots : Bool) (env : Env) → Sound outside env → Tells outside env.structs a ps →
      Tells outside env.structs (both a (past_scope (parameters_of (map parameter_found of) dots (enter (extend env a))).additions)) (ps ++ parameters_in_turn lone (enter (extend env a)) of)
  list_tells {a} of all lone dots env sound first =
      turn outside first (past outside (parameters_tell of all lone dots (enter (extend env a)) (extended outside env sound first.kept)))

  -- a function declarator, whose parameters are those beside the name
  function_tells : (inner : Declarator) → PDeclarator inner → (ps : List Parameter) → Each PParameter ps → (dots : Bool) → DeclaratorTells (DeclaratorForm-F.FunctionOf (Some inner) ps dots)
  function_tells inner tells ps all dots spot n =
      record {
        tells = λ env left sound. list_tells ps all _ dots env sound (declarator_part inner tells env _ sound);
        name = λ is. absurd (false≢true is);
        parameters = λ env sound. by_name (declarator_layer inner).is_name refl env sound;
      }
    where
      behind_all : Env → List Members
      behind_all env =
          let a = (declarator_found inner).additions env in structs_behind env.structs (both a (past_scope (parameters_of (map parameter_found ps) dots (enter (extend env a))).additions))

      by_name : (b : Bool) → (declarator_layer inner).is_name ≡ b → (env : Env) → Sound outside env →
          AddsWithin (behind_all env) ((if b then (λ env. (parameters_of (map parameter_found ps) dots env).additions) else (declarator_found inner).parameters) (enter env))
      by_name true is env sound =
          let a = (declarator_found inner).additions env in
          let first = declarator_part inner tells env (record { type = None; may_be_absent = false; behind = env; use_of_name = Unnamed; is_whole = false }) sound in
          let second = parameters_tell ps all false dots (enter (extend env a)) (extended outside env sound first.kept) in
          subst (λ (e : Env). AddsWithin (behind_all env) (parameters_of (map parameter_found ps) dots (enter e)).additions) (ap (extend env) (tells.name is env) ∙ extend_nothing env)
          (subst (λ xs. AddsWithin xs (parameters_of (map parameter_found ps) dots (enter (extend env a))).additions) (sym (after_both env.structs a.structs _)) (second.kept.tags, second.kept.names))
      by_name false is env sound =
          let a = (declarator_found inner).additions env in
          let first = declarator_part inner tells env (record { type = None; may_be_absent = false; behind = env; use_of_name = Unnamed; is_whole = false }) sound in
          let second = parameters_tell ps all false dots (enter (extend env a)) (extended outside env sound first.kept) in
          subst (λ xs. AddsWithin xs ((declarator_found inner).parameters (enter env))) (sym (after_both env.structs a.structs _))
          (adds_further _ _ ((declarator_found inner).parameters (enter env)) second.kept (tells.parameters env sound))

  -- an array declarator
  array_tells : (inner : Declarator) → PDeclarator inner → (size : Option Expr) → IfThere PExpr size → DeclaratorTells (DeclaratorForm-F.ArrayOf (Some inner) size)
  array_tells inner tells size there spot n =
      record {
        tells = λ env left sound. size_tells size there env sound (declarator_part inner tells env _ sound);
        name = λ is. absurd (false≢true is);
        parameters = λ env sound.
            let a = (declarator_found inner).additions env in
            let first = declarator_part inner tells env (record { type = None; may_be_absent = false; behind = env; use_of_name = Unnamed; is_whole = false }) sound in
            let second = perhaps_tells size there (extend env a) (extended outside env sound first.kept) in
            subst (λ xs. AddsWithin xs ((declarator_found inner).parameters (enter env))) (sym (after_both env.structs a.structs _))
            (adds_further _ _ ((declarator_found inner).parameters (enter env)) second.kept (tells.parameters env sound));
      }

  -- a form of a declarator
  in_declarator_form : (y : DeclaratorGiven) → DeclaratorTells (declarator_form_below y)
  in_declarator_form (DeclaratorForm-F.Star qualifiers None) spot n = record { tells = λ env left sound. none outside env.structs; name = λ is. absurd (false≢true is); parameters = λ env sound. (tt, tt) }
  in_declarator_form (DeclaratorForm-F.Star qualifiers (Some inner)) spot n =
      record { tells = λ env left sound. declarator_part inner.0 inner.1 env _ sound; name = λ is. absurd (false≢true is); parameters = inner.1.parameters }
  in_declarator_form (DeclaratorForm-F.Named name) spot n = record { tells = λ env left sound. none outside env.structs; name = λ is env. refl; parameters = λ env sound. (tt, tt) }
  in_declarator_form (DeclaratorForm-F.Group inner) spot n = record { tells = λ env left sound. declarator_part inner.0 inner.1 env _ sound; name = inner.1.name; parameters = inner.1.parameters }
  in_declarator_form (DeclaratorForm-F.ArrayOf None None) spot n =
      record { tells = λ env left sound. size_tells None tt env sound (none outside env.structs); name = λ is. absurd (false≢true is); parameters = λ env sound. (tt, tt) }
  in_declarator_form (DeclaratorForm-F.ArrayOf None (Some size)) spot n =
      record { tells = λ env left sound. size_tells (Some size.0) size.1 env sound (none outside env.structs); name = λ is. absurd (false≢true is); parameters = λ env sound. (tt, tt) }
  in_declarator_form (DeclaratorForm-F.ArrayOf (Some inner) None) spot n = array_tells inner.0 inner.1 None tt spot n
  in_declarator_form (DeclaratorForm-F.ArrayOf (Some inner) (Some size)) spot n = array_tells inner.0 inner.1 (Some size.0) size.1 spot n
  in_declarator_form (DeclaratorForm-F.FunctionOf None ps dots) spot n =
      record {
        tells = λ env left sound. list_tells (map (λ a. a.0) ps) (each_of PParameter ps) _ dots env sound (none outside env.structs);
        name = λ is. absurd (false≢true is);
        parameters = λ env sound. (tt, tt);
      }
  in_declarator_form (DeclaratorForm-F.FunctionOf (Some inner) ps dots) spot n = function_tells inner.0 inner.1 (map (λ a. a.0) ps) (each_of PParameter ps) dots spot n

  -- a specifier of this form
  abbrev SpecifierTells : SpecifierTree → Type 0
  SpecifierTells form = (s : Specifier) → out-Specifier s ≡ form → PSpecifier s

  -- a specifier with the layer that it is
  specifier_at : (s : Specifier) (form : SpecifierTree) → out-Specifier s ≡ form →
      ((env : Env) (alone : Bool) → Sound outside env → Tells outside env.structs (of_specifier (specifier_parts_told form) env alone).additions (specifier_parts env form)) → PSpecifier s
  specifier_at s form is tells env alone sound =
      subst (λ f. Tells outside env.structs (f env alone).additions (specifier_parts env (out-Specifier s))) (sym (specifiers_follow_their_forms s))
      (subst (λ form. Tells outside env.structs (of_specifier (specifier_parts_told form) env alone).additions (specifier_parts env form)) (sym is) (tells env alone sound))

  -- a struct with its members
  struct_tells : (tag : Option (List ℕ)) (ms : List Member) → Each PMember ms → (env : Env) → Sound outside env →
      Tells outside env.structs (told.struct_defined env tag (map member_found ms)).additions (members_parts (extend env (struct_begins env tag)) [] ms)
  struct_tells tag ms all env sound =
      let begins = struct_begun env tag sound.1 in
      let start = extend env (struct_begins env tag) in
      let inside = members_tell ms all start [] (extended outside env sound begins.kept) in
      let made = members_made (told.members_in_turn (map member_found ms) start []) in
      record {
        kept = whole_kept made begins inside.kept (made_complete _ (told.members_in_turn (map member_found ms) start []) (members_complete ms all start [] (extended outside env sound begins.kept)));
        parts = fit_earlier outside (members_parts start [] ms) _ _ _ (known_behind begins.kept)
            (fit_further outside (members_parts start [] ms) _ _ _ (known_behind_struct made begins inside.kept) inside.parts);
      }

  -- a specifier, by its layer
  in_specifier : (y : SpecifierGiven) → SpecifierTells (specifier_below y)
  in_specifier (Specifier-F.Storage word) s is = specifier_at s _ is (λ env alone sound. none outside env.structs)
  in_specifier Specifier-F.Inline s is = specifier_at s _ is (λ env alone sound. none outside env.structs)
  in_specifier (Specifier-F.Qualifier word) s is = specifier_at s _ is (λ env alone sound. none outside env.structs)
  in_specifier (Specifier-F.Type word) s is = specifier_at s _ is (λ env alone sound. none outside env.structs)
  in_specifier (Specifier-F.Struct tag members) s is = specifier_at s _ is (λ env alone sound. struct_tells tag (map (λ a. a.0) members) (each_of PMember members) env sound)
  in_specifier (Specifier-F.StructTag tag) s is = specifier_at s _ is (λ env alone sound. record { kept = named_kept env (struct_use alone) tag; parts = tt })
  in_specifier (Specifier-F.Enum tag items) s is =
      specifier_at s _ is (λ env alone sound. more outside (items_tell (map (λ a. a.0) items) (each_of PItem items) env before_first sound) (enum_kept _ env tag))
  in_specifier (Specifier-F.EnumTag tag) s is = specifier_at s _ is (λ env alone sound. none outside env.structs)
  in_specifier (Specifier-F.Typedef name) s is = specifier_at s _ is (λ env alone sound. none outside env.structs)

  -- a declarator of a member of this form
  abbrev FieldTells : MemberDeclaratorTree → Type 0
  FieldTells form = (d : MemberDeclarator) → out-MemberDeclarator d ≡ form → PField d

  -- a declarator of a member with the layer that it is
  field_at : (d : MemberDeclarator) (form : MemberDeclaratorTree) → out-MemberDeclarator d ≡ form →
      ((env : Env) (told : SpecifierTold) (t : Option Ty) (before : List Field) → Sound outside env →
      Tells outside env.structs (of_member_declarator (member_declarator_parts_told form) env t before).additions (member_part env told before form)) → PField d
  field_at d form is tells env told t before sound =
      subst (λ f. Tells outside env.structs (f env t before).additions (member_part env told before (out-MemberDeclarator d))) (sym (member_declarators_follow_their_forms d))
      (subst (λ form. Tells outside env.structs (of_member_declarator (member_declarator_parts_told form) env t before).additions (member_part env told before form)) (sym is) (tells env told t before sound))

  -- a declarator of a member, by its layer
  in_field : (y : MemberDeclaratorGiven) → FieldTells (field_below y)
  in_field (MemberDeclarator-F.Plain inner) d is =
      field_at d _ is (λ env told t before sound.
      let found = declarator_found inner.0 in
      subst (λ a. Tells outside env.structs a (member_part env told before (MemberDeclarator-F.Plain inner.0)))
      (sym (field_adds (extend env (found.additions env)) before found.name (type_made env false t found) (faulty_member (found.additions env) (found.holds_sizeof env))))
      (declarator_part inner.0 inner.1 env _ sound))
  in_field (MemberDeclarator-F.Field inner width) d is =
      field_at d _ is (λ env told t before sound.
      let first = declarator_part inner.0 inner.1 env _ sound in
      next outside first (operand_part width.0 width.1 _ (extended outside env sound first.kept)))
  in_field (MemberDeclarator-F.Unnamed width) d is = field_at d _ is (λ env told t before sound. operand_part width.0 width.1 env sound)

  -- ---- whole trees

  -- of each kind: a layer tells where its parts do
  expr_form_step : (x : Layer) (y : LayerGiven) → expr_form_below y ≡ x → PExprForm (roll-ExprForm x)
  expr_form_step x y is = subst FormTells (sym (out-roll-ExprForm x)) (subst FormTells is (in_expr_form y))

  declarator_form_step : (x : DeclaratorTree) (y : DeclaratorGiven) → declarator_form_below y ≡ x → PDeclaratorForm (roll-DeclaratorForm x)
  declarator_form_step x y is = subst DeclaratorTells (sym (out-roll-DeclaratorForm x)) (subst DeclaratorTells is (in_declarator_form y))

  field_step : (x : MemberDeclaratorTree) (y : MemberDeclaratorGiven) → field_below y ≡ x → PField (roll-MemberDeclarator x)
  field_step x y is = in_field y (roll-MemberDeclarator x) (out-roll-MemberDeclarator x ∙ sym is)

  specifier_step : (x : SpecifierTree) (y : SpecifierGiven) → specifier_below y ≡ x → PSpecifier (roll-Specifier x)
  specifier_step x y is = in_specifier y (roll-Specifier x) (out-roll-Specifier x ∙ sym is)

  declarator_step : (x : DeclaratorNode) (y : DeclaratorNodeGiven) → declarator_below y ≡ x → PDeclarator (roll-Declarator x)
  declarator_step x y is = declarator_tells_by (roll-Declarator x) (subst (λ (x : DeclaratorNode). PDeclaratorForm x.form) is y.form.1)

  expr_step : (x : ExprNode) (y : ExprNodeGiven) → expr_below y ≡ x → PExpr (roll-Expr x)
  expr_step x y is = expr_tells_by (roll-Expr x) (subst (λ (x : ExprNode). PExprForm x.form) is y.form.1)

  value_there : (spot : Spot) (ordinal : ℕ) (name : List ℕ) (value : Option (With PExpr)) → IfThere PExpr (item_below (record { spot = spot; ordinal = ordinal; name = name; value = value })).value
  value_there spot ordinal name None = tt
  value_there spot ordinal name (Some value) = value.1

  item_step : (x : ItemNode) (y : ItemNodeGiven) → item_below y ≡ x → PItem (roll-Item x)
  item_step x y is =
      item_tells_by (roll-Item x) (subst (λ (x : ItemNode). IfThere PExpr x.value) (sym (out-roll-Item x))
      (subst (λ (x : ItemNode). IfThere PExpr x.value) is (value_there y.spot y.ordinal y.name y.value)))

  member_step : (x : MemberNode) (y : MemberNodeGiven) → member_below y ≡ x → PMember (roll-Member x)
  member_step x y is =
      member_tells_by (roll-Member x) (subst (λ (x : MemberNode). Each PSpecifier x.specifiers) is (each_of PSpecifier y.specifiers))
      (subst (λ (x : MemberNode). Each PField x.declarators) is (each_of PField y.declarators))

  parameter_there : (spot : Spot) (ordinal : ℕ) (ss : List (With PSpecifier)) (inner : Option (With PDeclarator)) →
      IfThere PDeclarator (parameter_below (record { spot = spot; ordinal = ordinal; specifiers = ss; declarator = inner })).declarator
  parameter_there spot ordinal ss None = tt
  parameter_there spot ordinal ss (Some inner) = inner.1

  parameter_step : (x : ParameterNode) (y : ParameterNodeGiven) → parameter_below y ≡ x → PParameter (roll-Parameter x)
  parameter_step x y is =
      parameter_tells_by (roll-Parameter x)
      (subst (λ (x : ParameterNode). Each PSpecifier x.specifiers) (is ∙ sym (out-roll-Parameter x)) (each_of PSpecifier y.specifiers))
      (subst (λ (x : ParameterNode). IfThere PDeclarator x.declarator) (is ∙ sym (out-roll-Parameter x)) (parameter_there y.spot y.ordinal y.specifiers y.declarator))

  type_name_there : (spot : Spot) (ordinal : ℕ) (ss : List (With PSpecifier)) (inner : Option (With PDeclarator)) →
      IfThere PDeclarator (type_name_below (record { spot = spot; ordinal = ordinal; specifiers = ss; declarator = inner })).declarator
  type_name_there spot ordinal ss None = tt
  type_name_there spot ordinal ss (Some inner) = inner.1

  type_name_step : (x : TypeNameNode) (y : TypeNameNodeGiven) → type_name_below y ≡ x → PTypeName (roll-TypeName x)
  type_name_step x y is =
      type_name_tells_by (roll-TypeName x)
      (subst (λ (x : TypeNameNode). Each PSpecifier x.specifiers) (is ∙ sym (out-roll-TypeName x)) (each_of PSpecifier y.specifiers))
      (subst (λ (x : TypeNameNode). IfThere PDeclarator x.declarator) (is ∙ sym (out-roll-TypeName x)) (type_name_there y.spot y.ordinal y.specifiers y.declarator))

  -- each expression tells its additions
  pub expr_tells : (a : Expr) → PExpr a
  expr_tells = ind-Expr PDeclaratorForm PExprForm PField PSpecifier PDeclarator PExpr PItem PMember PParameter PTypeName declarator_form_step expr_form_step field_step specifier_step declarator_step expr_step item_step member_step parameter_step type_name_step

  -- each declarator
  pub declarator_tells : (a : Declarator) → PDeclarator a
  declarator_tells = ind-Declarator PDeclaratorForm PExprForm PField PSpecifier PDeclarator PExpr PItem PMember PParameter PTypeName declarator_form_step expr_form_step field_step specifier_step declarator_step expr_step item_step member_step parameter_step type_name_step

  -- each specifier
  pub specifier_tells : (a : Specifier) → PSpecifier a
  specifier_tells = ind-Specifier PDeclaratorForm PExprForm PField PSpecifier PDeclarator PExpr PItem PMember PParameter PTypeName declarator_form_step expr_form_step field_step specifier_step declarator_step expr_step item_step member_step parameter_step type_name_step

  -- each member
  pub member_tells : (a : Member) → PMember a
  member_tells = ind-Member PDeclaratorForm PExprForm PField PSpecifier PDeclarator PExpr PItem PMember PParameter PTypeName declarator_form_step expr_form_step field_step specifier_step declarator_step expr_step item_step member_step parameter_step type_name_step

  -- each enumerator
  pub item_tells : (a : Item) → PItem a
  item_tells = ind-Item PDeclaratorForm PExprForm PField PSpecifier PDeclarator PExpr PItem PMember PParameter PTypeName declarator_form_step expr_form_step field_step specifier_step declarator_step expr_step item_step member_step parameter_step type_name_step

  -- each parameter
  pub parameter_tells : (a : Parameter) → PParameter a
  parameter_tells = ind-Parameter PDeclaratorForm PExprForm PField PSpecifier PDeclarator PExpr PItem PMember PParameter PTypeName declarator_form_step expr_form_step field_step specifier_step declarator_step expr_step item_step member_step parameter_step type_name_step

  -- each type name
  pub type_name_tells : (a : TypeName) → PTypeName a
  type_name_tells = ind-TypeName PDeclaratorForm PExprForm PField PSpecifier PDeclarator PExpr PItem PMember PParameter PTypeName declarator_form_step expr_form_step field_step specifier_step declarator_step expr_step item_step member_step parameter_step type_name_step
