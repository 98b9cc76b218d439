-- The nodes of a numbered expression, declarator or specifier are laid in ranges.
use Rattle.std.proofs.Common.{◌≡◌, ◌∙◌, ◌+◌, ℕ, ℤ, Bool, true, false, List, [], ◌∷◌, Option, Some, None, map, refl, sym, ap, subst, arith}
use Rattle.lk_base.specs.declared.spot.Spot.{Spot}
use Rattle.lk_tree.specs.declared.expression.DeclaratorForm.TheOpen.{DeclaratorForm-F, ExprForm-F, MemberDeclarator-F, Specifier-F, Declarator-F, Expr-F, Item-F, Member-F, Parameter-F, TypeName-F}
use Rattle.lk_tree.specs.declared.expression.DeclaratorForm.TheFolds.{ind-Specifier, ind-Declarator, ind-Expr, map-DeclaratorForm, map-ExprForm, map-MemberDeclarator, map-Specifier, map-Declarator, map-Expr, map-Item, map-Member, map-Parameter, map-TypeName}
use Rattle.lk_tree.specs.declared.expression.DeclaratorForm.{DeclaratorForm, out-DeclaratorForm, roll-DeclaratorForm, out-roll-DeclaratorForm}
use Rattle.lk_tree.specs.declared.expression.DeclaratorForm.TheVariants as d
use Rattle.lk_tree.specs.declared.expression.ExprForm.{ExprForm, out-ExprForm, roll-ExprForm, out-roll-ExprForm}
use Rattle.lk_tree.specs.declared.expression.ExprForm.TheVariants as e
use Rattle.lk_tree.specs.declared.expression.MemberDeclarator.{MemberDeclarator, out-MemberDeclarator, roll-MemberDeclarator, out-roll-MemberDeclarator}
use Rattle.lk_tree.specs.declared.expression.MemberDeclarator.TheVariants as m
use Rattle.lk_tree.specs.declared.expression.Specifier.{Specifier, out-Specifier, roll-Specifier, out-roll-Specifier}
use Rattle.lk_tree.specs.declared.expression.Specifier.TheVariants as s
use Rattle.lk_tree.specs.declared.expression.Declarator.{Declarator, roll-Declarator}
use Rattle.lk_tree.specs.declared.expression.Expr.{Expr, roll-Expr}
use Rattle.lk_tree.specs.declared.expression.Item.{Item, roll-Item, out-roll-Item}
use Rattle.lk_tree.specs.declared.expression.Member.{Member, roll-Member}
use Rattle.lk_tree.specs.declared.expression.Parameter.{Parameter, roll-Parameter, out-roll-Parameter}
use Rattle.lk_tree.specs.declared.expression.TypeName.{TypeName, roll-TypeName, out-roll-TypeName}
use Rattle.lk_tree.specs.Numbers.{list, expr, declarator, specifier, in_declarator, in_expr, of_member_declarator, of_specifier, of_declarator, of_expr, of_item, of_member, of_parameter, of_type_name}
use Rattle.lk_typed.specs.Env.{Env, Field, extend}
use Rattle.lk_typed.specs.ExprRules as rules
use Rattle.lk_typed.specs.Expressions.{at_pair, expression, named, specifiers_found, type_found}
use Rattle.lk_typed.specs.Forms.{in_place, placed_arguments}
use Rattle.lk_typed.specs.Library.{Passing}
use Rattle.lk_typed.specs.NodeParts.{member_part, members_in_turn, parts, type_part_if_there, type_parts}
use Rattle.lk_typed.specs.Nodes.{Node, AMember, AnItem, AParameter, ATypeName, ADeclarator, AnExpression, Placed, Left, NameUse, IsParameter, Unnamed}
use Rattle.lk_typed.specs.Parts.{declarator_parts, items_parts, members_parts, parameters_in_turn, perhaps, specifier_parts, specifiers_parts}
use Rattle.lk_typed.specs.Told.{SpecifierTold}
use Rattle.lk_typed.specs.Typing.{Named}
use Rattle.lk_nodes.specs.Kinds.{number_of}
use Rattle.lk_nodes.proofs.Folds.{declarator_form, expr_form, member_declarator, item, member, parameter, type_name, declarator_form_layer, expr_form_layer, field_layer, specifier_layer, declarator_layer, expr_layer, item_layer, member_layer, parameter_layer, type_name_layer, declarator_form_rolled, expr_form_rolled, field_rolled, specifier_rolled, declarator_rolled, expr_rolled, item_rolled, member_rolled, parameter_rolled, type_name_rolled}
use Rattle.lk_nodes.proofs.Laid.{Laid, InTurn, both, inner_from, rising}
use Rattle.lk_nodes.proofs.Laid.InTurn.{nil, next}
use Rattle.lk_nodes.proofs.Laid.Laid.{laid}
use Rattle.lk_nodes.proofs.Lists.{With, Lays, ListLies, OptionLies, list_lies}
use Rattle.lk_nodes.proofs.Lists.ListLies.{no_more, one_more}
use Rattle.lk_nodes.proofs.Lists.OptionLies.{missing, present}

-- what is found of a type name
abbrev name_found : TypeName → Env → Named
name_found n env = named (type_found n) env

module _ (at_end : Env) where
  -- ---- what lies in a range, in each environment

  -- an expression
  abbrev pub ExprLies : Expr → ℕ → ℕ → Type 0
  ExprLies one n m = (env : Env) → Laid at_end n env (AnExpression one) m

  -- a type name
  abbrev pub TypeNameLies : TypeName → ℕ → ℕ → Type 0
  TypeNameLies one n m = (env : Env) → Laid at_end n env (ATypeName one) m

  -- a member, behind any fields
  abbrev pub MemberLies : Member → ℕ → ℕ → Type 0
  MemberLies one n m = (env : Env) (before : List Field) → Laid at_end n env (AMember before one) m

  -- an enumerator, behind any value
  abbrev pub ItemLies : Item → ℕ → ℕ → Type 0
  ItemLies one n m = (env : Env) (before : Option ℤ) → Laid at_end n env (AnItem before one) m

  -- a parameter, alone or not
  abbrev pub ParameterLies : Parameter → ℕ → ℕ → Type 0
  ParameterLies one n m = (env : Env) (lone : Bool) → Laid at_end n env (AParameter lone one) m

  -- a declarator, whatever is on its left
  abbrev pub DeclaratorLies : Declarator → ℕ → ℕ → Type 0
  DeclaratorLies one n m = (env : Env) (left : Left) → Laid at_end n env (ADeclarator left one) m

  -- the parts of a form, of a specifier and of a declarator of a member
  abbrev ExprFormLies : ExprForm → ℕ → ℕ → Type 0
  ExprFormLies one n m = (env : Env) → InTurn at_end n (map at_pair (rules.parts AnExpression ATypeName expression name_found env (out-ExprForm one))) m

  -- the parts of a form of a declarator
  abbrev DeclaratorFormLies : DeclaratorForm → ℕ → ℕ → Type 0
  DeclaratorFormLies one n m = (env : Env) (left : Left) → InTurn at_end n (declarator_parts env left (out-DeclaratorForm one)) m

  -- the parts of a specifier
  abbrev pub SpecifierLies : Specifier → ℕ → ℕ → Type 0
  SpecifierLies one n m = (env : Env) → InTurn at_end n (specifier_parts env (out-Specifier one)) m

  -- the parts of a declarator of a member
  abbrev FieldLies : MemberDeclarator → ℕ → ℕ → Type 0
  FieldLies one n m = (env : Env) (told : SpecifierTold) (before : List Field) → InTurn at_end n (member_part env told before (out-MemberDeclarator one)) m

  -- ---- parts in turn

  -- a node with a number of its own
  pub own : {n m : ℕ} {env : Env} {node : Node} → number_of node ≡ n → inner_from node ≡ n + 1 → InTurn at_end (n + 1) (parts at_end env node) m → Laid at_end n env node m
  own {m = m} {env = env} {node = node} is behind inner =
      let rises = rising at_end inner in
      laid (omega (arith, is)) (omega (arith, is, rises)) (subst (λ k. InTurn at_end k (parts at_end env node) m) (sym behind) inner)

  -- no node
  pub no_parts : {n : ℕ} → InTurn at_end n [] n
  no_parts = nil (omega arith)

  -- one node
  pub only : {n m : ℕ} {part : Placed} → Laid at_end n part.env part.node m → InTurn at_end n (part ∷ []) m
  only first = next first no_parts

  -- two nodes
  pub two_parts : {n k m : ℕ} {part other : Placed} → Laid at_end n part.env part.node k → Laid at_end k other.env other.node m → InTurn at_end n (part ∷ other ∷ []) m
  two_parts first second = next first (only second)

  -- an expression that may be missing
  pub perhaps_lies : {n m : ℕ} (part : Option Expr) → OptionLies ExprLies part n m → (env : Env) → InTurn at_end n (perhaps env AnExpression part) m
  perhaps_lies None (missing rises) env = nil rises
  perhaps_lies (Some one) (present is) env = only (is env)

  -- the arguments of a call
  arguments_lie : (xs : List Expr) {n m : ℕ} → ListLies ExprLies xs n m → (env : Env) (passes : List Passing) →
      InTurn at_end n (map at_pair (map (in_place AnExpression) (placed_arguments expression env passes xs))) m
  arguments_lie [] (no_more rises) env passes = nil rises
  arguments_lie (x ∷ xs) (one_more first others) env [] = next (first _) (arguments_lie xs others _ [])
  arguments_lie (x ∷ xs) (one_more first others) env (pass ∷ passes) = next (first _) (arguments_lie xs others _ passes)

  -- the parts of specifiers
  pub specifiers_lie : (ss : List Specifier) {n m : ℕ} → ListLies SpecifierLies ss n m → (alone : Bool) (env : Env) → InTurn at_end n (specifiers_parts alone env ss) m
  specifiers_lie [] (no_more rises) alone env = nil rises
  specifiers_lie (x ∷ xs) (one_more first others) alone env = both at_end (first env) (specifiers_lie xs others alone _)

  -- the members of a struct
  members_lie : (ms : List Member) {n m : ℕ} → ListLies MemberLies ms n m → (env : Env) (before : List Field) → InTurn at_end n (members_parts env before ms) m
  members_lie [] (no_more rises) env before = nil rises
  members_lie (x ∷ xs) (one_more first others) env before = next (first env before) (members_lie xs others _ _)

  -- the enumerators of an enumeration
  items_lie : (is : List Item) {n m : ℕ} → ListLies ItemLies is n m → (env : Env) (before : Option ℤ) → InTurn at_end n (items_parts env before is) m
  items_lie [] (no_more rises) env before = nil rises
  items_lie (x ∷ xs) (one_more first others) env before = next (first env before) (items_lie xs others _ _)

  -- the parameters of a list
  parameters_lie : (ps : List Parameter) {n m : ℕ} → ListLies ParameterLies ps n m → (lone : Bool) (env : Env) → InTurn at_end n (parameters_in_turn lone env ps) m
  parameters_lie [] (no_more rises) lone env = nil rises
  parameters_lie (x ∷ xs) (one_more first others) lone env = next (first env lone) (parameters_lie xs others lone _)

  -- the parts of the declarators of a member
  fields_lie : (ds : List MemberDeclarator) {n m : ℕ} → ListLies FieldLies ds n m → (told : SpecifierTold) (env : Env) (before : List Field) → InTurn at_end n (members_in_turn told env before ds) m
  fields_lie [] (no_more rises) told env before = nil rises
  fields_lie (x ∷ xs) (one_more first others) told env before = both at_end (first env told before) (fields_lie xs others told _ _)

  -- the declarator of a type name or a parameter, which may be missing
  type_lies : {n m : ℕ} (inner : Option Declarator) → OptionLies DeclaratorLies inner n m → (env : Env) (told : SpecifierTold) (may_be_absent : Bool) (name : NameUse) →
      InTurn at_end n (type_part_if_there env told may_be_absent name inner) m
  type_lies None (missing rises) env told may_be_absent name = nil rises
  type_lies (Some one) (present is) env told may_be_absent name = only (is env _)

  -- ---- trees of which this holds

  -- an expression, numbered from anywhere on, lies from there up to the number behind it; and so of the others
  abbrev PExpr : Expr → Type 0
  PExpr one = Lays ExprLies (expr one)

  abbrev PTypeName : TypeName → Type 0
  PTypeName one = Lays TypeNameLies (type_name one)

  abbrev PMember : Member → Type 0
  PMember one = Lays MemberLies (member one)

  abbrev PItem : Item → Type 0
  PItem one = Lays ItemLies (item one)

  abbrev PParameter : Parameter → Type 0
  PParameter one = Lays ParameterLies (parameter one)

  abbrev PDeclarator : Declarator → Type 0
  PDeclarator one = Lays DeclaratorLies (declarator one)

  abbrev PExprForm : ExprForm → Type 0
  PExprForm one = Lays ExprFormLies (expr_form one)

  abbrev PDeclaratorForm : DeclaratorForm → Type 0
  PDeclaratorForm one = Lays DeclaratorFormLies (declarator_form one)

  abbrev PSpecifier : Specifier → Type 0
  PSpecifier one = Lays SpecifierLies (specifier one)

  abbrev PField : MemberDeclarator → Type 0
  PField one = Lays FieldLies (member_declarator one)

  -- ---- one layer, where this holds of its parts: the layer without their proofs

  abbrev declarator_form_below : DeclaratorForm-F (With PDeclaratorForm) (With PExprForm) (With PField) (With PSpecifier) (With PDeclarator) (With PExpr) (With PItem) (With PMember) (With PParameter) (With PTypeName) → DeclaratorForm-F DeclaratorForm ExprForm MemberDeclarator Specifier Declarator Expr Item Member Parameter TypeName
  declarator_form_below = map-DeclaratorForm (With PDeclaratorForm) (With PExprForm) (With PField) (With PSpecifier) (With PDeclarator) (With PExpr) (With PItem) (With PMember) (With PParameter) (With PTypeName) DeclaratorForm ExprForm MemberDeclarator Specifier Declarator Expr Item Member Parameter TypeName (λ a. a.0) (λ a. a.0) (λ a. a.0) (λ a. a.0) (λ a. a.0) (λ a. a.0) (λ a. a.0) (λ a. a.0) (λ a. a.0) (λ a. a.0)

  abbrev expr_form_below : ExprForm-F (With PDeclaratorForm) (With PExprForm) (With PField) (With PSpecifier) (With PDeclarator) (With PExpr) (With PItem) (With PMember) (With PParameter) (With PTypeName) → ExprForm-F DeclaratorForm ExprForm MemberDeclarator Specifier Declarator Expr Item Member Parameter TypeName
  expr_form_below = map-ExprForm (With PDeclaratorForm) (With PExprForm) (With PField) (With PSpecifier) (With PDeclarator) (With PExpr) (With PItem) (With PMember) (With PParameter) (With PTypeName) DeclaratorForm ExprForm MemberDeclarator Specifier Declarator Expr Item Member Parameter TypeName (λ a. a.0) (λ a. a.0) (λ a. a.0) (λ a. a.0) (λ a. a.0) (λ a. a.0) (λ a. a.0) (λ a. a.0) (λ a. a.0) (λ a. a.0)

  abbrev field_below : MemberDeclarator-F (With PDeclaratorForm) (With PExprForm) (With PField) (With PSpecifier) (With PDeclarator) (With PExpr) (With PItem) (With PMember) (With PParameter) (With PTypeName) → MemberDeclarator-F DeclaratorForm ExprForm MemberDeclarator Specifier Declarator Expr Item Member Parameter TypeName
  field_below = map-MemberDeclarator (With PDeclaratorForm) (With PExprForm) (With PField) (With PSpecifier) (With PDeclarator) (With PExpr) (With PItem) (With PMember) (With PParameter) (With PTypeName) DeclaratorForm ExprForm MemberDeclarator Specifier Declarator Expr Item Member Parameter TypeName (λ a. a.0) (λ a. a.0) (λ a. a.0) (λ a. a.0) (λ a. a.0) (λ a. a.0) (λ a. a.0) (λ a. a.0) (λ a. a.0) (λ a. a.0)

  abbrev specifier_below : Specifier-F (With PDeclaratorForm) (With PExprForm) (With PField) (With PSpecifier) (With PDeclarator) (With PExpr) (With PItem) (With PMember) (With PParameter) (With PTypeName) → Specifier-F DeclaratorForm ExprForm MemberDeclarator Specifier Declarator Expr Item Member Parameter TypeName
  specifier_below = map-Specifier (With PDeclaratorForm) (With PExprForm) (With PField) (With PSpecifier) (With PDeclarator) (With PExpr) (With PItem) (With PMember) (With PParameter) (With PTypeName) DeclaratorForm ExprForm MemberDeclarator Specifier Declarator Expr Item Member Parameter TypeName (λ a. a.0) (λ a. a.0) (λ a. a.0) (λ a. a.0) (λ a. a.0) (λ a. a.0) (λ a. a.0) (λ a. a.0) (λ a. a.0) (λ a. a.0)

  abbrev declarator_below : Declarator-F (With PDeclaratorForm) (With PExprForm) (With PField) (With PSpecifier) (With PDeclarator) (With PExpr) (With PItem) (With PMember) (With PParameter) (With PTypeName) → Declarator-F DeclaratorForm ExprForm MemberDeclarator Specifier Declarator Expr Item Member Parameter TypeName
  declarator_below = map-Declarator (With PDeclaratorForm) (With PExprForm) (With PField) (With PSpecifier) (With PDeclarator) (With PExpr) (With PItem) (With PMember) (With PParameter) (With PTypeName) DeclaratorForm ExprForm MemberDeclarator Specifier Declarator Expr Item Member Parameter TypeName (λ a. a.0) (λ a. a.0) (λ a. a.0) (λ a. a.0) (λ a. a.0) (λ a. a.0) (λ a. a.0) (λ a. a.0) (λ a. a.0) (λ a. a.0)

  abbrev expr_below : Expr-F (With PDeclaratorForm) (With PExprForm) (With PField) (With PSpecifier) (With PDeclarator) (With PExpr) (With PItem) (With PMember) (With PParameter) (With PTypeName) → Expr-F DeclaratorForm ExprForm MemberDeclarator Specifier Declarator Expr Item Member Parameter TypeName
  expr_below = map-Expr (With PDeclaratorForm) (With PExprForm) (With PField) (With PSpecifier) (With PDeclarator) (With PExpr) (With PItem) (With PMember) (With PParameter) (With PTypeName) DeclaratorForm ExprForm MemberDeclarator Specifier Declarator Expr Item Member Parameter TypeName (λ a. a.0) (λ a. a.0) (λ a. a.0) (λ a. a.0) (λ a. a.0) (λ a. a.0) (λ a. a.0) (λ a. a.0) (λ a. a.0) (λ a. a.0)

  abbrev item_below : Item-F (With PDeclaratorForm) (With PExprForm) (With PField) (With PSpecifier) (With PDeclarator) (With PExpr) (With PItem) (With PMember) (With PParameter) (With PTypeName) → Item-F DeclaratorForm ExprForm MemberDeclarator Specifier Declarator Expr Item Member Parameter TypeName
  item_below = map-Item (With PDeclaratorForm) (With PExprForm) (With PField) (With PSpecifier) (With PDeclarator) (With PExpr) (With PItem) (With PMember) (With PParameter) (With PTypeName) DeclaratorForm ExprForm MemberDeclarator Specifier Declarator Expr Item Member Parameter TypeName (λ a. a.0) (λ a. a.0) (λ a. a.0) (λ a. a.0) (λ a. a.0) (λ a. a.0) (λ a. a.0) (λ a. a.0) (λ a. a.0) (λ a. a.0)

  abbrev member_below : Member-F (With PDeclaratorForm) (With PExprForm) (With PField) (With PSpecifier) (With PDeclarator) (With PExpr) (With PItem) (With PMember) (With PParameter) (With PTypeName) → Member-F DeclaratorForm ExprForm MemberDeclarator Specifier Declarator Expr Item Member Parameter TypeName
  member_below = map-Member (With PDeclaratorForm) (With PExprForm) (With PField) (With PSpecifier) (With PDeclarator) (With PExpr) (With PItem) (With PMember) (With PParameter) (With PTypeName) DeclaratorForm ExprForm MemberDeclarator Specifier Declarator Expr Item Member Parameter TypeName (λ a. a.0) (λ a. a.0) (λ a. a.0) (λ a. a.0) (λ a. a.0) (λ a. a.0) (λ a. a.0) (λ a. a.0) (λ a. a.0) (λ a. a.0)

  abbrev parameter_below : Parameter-F (With PDeclaratorForm) (With PExprForm) (With PField) (With PSpecifier) (With PDeclarator) (With PExpr) (With PItem) (With PMember) (With PParameter) (With PTypeName) → Parameter-F DeclaratorForm ExprForm MemberDeclarator Specifier Declarator Expr Item Member Parameter TypeName
  parameter_below = map-Parameter (With PDeclaratorForm) (With PExprForm) (With PField) (With PSpecifier) (With PDeclarator) (With PExpr) (With PItem) (With PMember) (With PParameter) (With PTypeName) DeclaratorForm ExprForm MemberDeclarator Specifier Declarator Expr Item Member Parameter TypeName (λ a. a.0) (λ a. a.0) (λ a. a.0) (λ a. a.0) (λ a. a.0) (λ a. a.0) (λ a. a.0) (λ a. a.0) (λ a. a.0) (λ a. a.0)

  abbrev type_name_below : TypeName-F (With PDeclaratorForm) (With PExprForm) (With PField) (With PSpecifier) (With PDeclarator) (With PExpr) (With PItem) (With PMember) (With PParameter) (With PTypeName) → TypeName-F DeclaratorForm ExprForm MemberDeclarator Specifier Declarator Expr Item Member Parameter TypeName
  type_name_below = map-TypeName (With PDeclaratorForm) (With PExprForm) (With PField) (With PSpecifier) (With PDeclarator) (With PExpr) (With PItem) (With PMember) (With PParameter) (With PTypeName) DeclaratorForm ExprForm MemberDeclarator Specifier Declarator Expr Item Member Parameter TypeName (λ a. a.0) (λ a. a.0) (λ a. a.0) (λ a. a.0) (λ a. a.0) (λ a. a.0) (λ a. a.0) (λ a. a.0) (λ a. a.0) (λ a. a.0)

  -- ---- a variant of a form has the parts of its layer

  -- a form of an expression
  expr_form_at : {one : ExprForm} {n m : ℕ} (x : ExprForm-F DeclaratorForm ExprForm MemberDeclarator Specifier Declarator Expr Item Member Parameter TypeName) → roll-ExprForm x ≡ one →
      ((env : Env) → InTurn at_end n (map at_pair (rules.parts AnExpression ATypeName expression name_found env x)) m) → ExprFormLies one n m
  expr_form_at {n = n} {m = m} x is lies env =
      subst (λ x. InTurn at_end n (map at_pair (rules.parts AnExpression ATypeName expression name_found env x)) m) (sym (out-roll-ExprForm x) ∙ ap out-ExprForm is) (lies env)

  -- a form of a declarator
  declarator_form_at : {one : DeclaratorForm} {n m : ℕ} (x : DeclaratorForm-F DeclaratorForm ExprForm MemberDeclarator Specifier Declarator Expr Item Member Parameter TypeName) → roll-DeclaratorForm x ≡ one →
      ((env : Env) (left : Left) → InTurn at_end n (declarator_parts env left x) m) → DeclaratorFormLies one n m
  declarator_form_at {n = n} {m = m} x is lies env left =
      subst (λ x. InTurn at_end n (declarator_parts env left x) m) (sym (out-roll-DeclaratorForm x) ∙ ap out-DeclaratorForm is) (lies env left)

  -- a specifier
  specifier_at : {one : Specifier} {n m : ℕ} (x : Specifier-F DeclaratorForm ExprForm MemberDeclarator Specifier Declarator Expr Item Member Parameter TypeName) → roll-Specifier x ≡ one → ((env : Env) → InTurn at_end n (specifier_parts env x) m) → SpecifierLies one n m
  specifier_at {n = n} {m = m} x is lies env = subst (λ x. InTurn at_end n (specifier_parts env x) m) (sym (out-roll-Specifier x) ∙ ap out-Specifier is) (lies env)

  -- a declarator of a member
  field_at : {one : MemberDeclarator} {n m : ℕ} (x : MemberDeclarator-F DeclaratorForm ExprForm MemberDeclarator Specifier Declarator Expr Item Member Parameter TypeName) → roll-MemberDeclarator x ≡ one →
      ((env : Env) (told : SpecifierTold) (before : List Field) → InTurn at_end n (member_part env told before x) m) → FieldLies one n m
  field_at {n = n} {m = m} x is lies env told before =
      subst (λ x. InTurn at_end n (member_part env told before x) m) (sym (out-roll-MemberDeclarator x) ∙ ap out-MemberDeclarator is) (lies env told before)

  -- ---- each form

  -- the parts of a form of an expression
  in_expr_form : (y : ExprForm-F (With PDeclaratorForm) (With PExprForm) (With PField) (With PSpecifier) (With PDeclarator) (With PExpr) (With PItem) (With PMember) (With PParameter) (With PTypeName)) → Lays ExprFormLies (in_expr (expr_form_layer (expr_form_below y)))
  in_expr_form (ExprForm-F.Comma left right) n = expr_form_at _ (e.rolls-Comma _ _) (λ env. two_parts (left.1 n _) (right.1 _ _))
  in_expr_form (ExprForm-F.Assign op left right) n = expr_form_at _ (e.rolls-Assign _ _ _) (λ env. two_parts (left.1 n _) (right.1 _ _))
  in_expr_form (ExprForm-F.Choice condition taken other) n = expr_form_at _ (e.rolls-Choice _ _ _) (λ env. next (condition.1 n _) (two_parts (taken.1 _ _) (other.1 _ _)))
  in_expr_form (ExprForm-F.Binary op left right) n = expr_form_at _ (e.rolls-Binary _ _ _) (λ env. two_parts (left.1 n _) (right.1 _ _))
  in_expr_form (ExprForm-F.Cast name operand) n = expr_form_at _ (e.rolls-Cast _ _) (λ env. two_parts (name.1 n _) (operand.1 _ _))
  in_expr_form (ExprForm-F.Pre op operand) n = expr_form_at _ (e.rolls-Pre _ _) (λ env. only (operand.1 n _))
  in_expr_form (ExprForm-F.Prefix op operand) n = expr_form_at _ (e.rolls-Prefix _ _) (λ env. only (operand.1 n _))
  in_expr_form (ExprForm-F.SizeofExpr operand) n = expr_form_at _ (e.rolls-SizeofExpr _) (λ env. only (operand.1 n _))
  in_expr_form (ExprForm-F.SizeofType name) n = expr_form_at _ (e.rolls-SizeofType _) (λ env. only (name.1 n _))
  in_expr_form (ExprForm-F.Index array inner) n = expr_form_at _ (e.rolls-Index _ _) (λ env. two_parts (array.1 n _) (inner.1 _ _))
  in_expr_form (ExprForm-F.Call function arguments) n =
      expr_form_at _ (e.rolls-Call _ _) (λ env. next (function.1 n _) (arguments_lie _ (list_lies ExprLies expr arguments _) _ _))
  in_expr_form (ExprForm-F.Member object name) n = expr_form_at _ (e.rolls-Member _ _) (λ env. only (object.1 n _))
  in_expr_form (ExprForm-F.Arrow pointer name) n = expr_form_at _ (e.rolls-Arrow _ _) (λ env. only (pointer.1 n _))
  in_expr_form (ExprForm-F.Post op operand) n = expr_form_at _ (e.rolls-Post _ _) (λ env. only (operand.1 n _))
  in_expr_form (ExprForm-F.Word name) n = expr_form_at _ (e.rolls-Word _) (λ env. no_parts)
  in_expr_form (ExprForm-F.Number kind value) n = expr_form_at _ (e.rolls-Number _ _) (λ env. no_parts)
  in_expr_form (ExprForm-F.Char value) n = expr_form_at _ (e.rolls-Char _) (λ env. no_parts)
  in_expr_form (ExprForm-F.Text bytes) n = expr_form_at _ (e.rolls-Text _) (λ env. no_parts)
  in_expr_form (ExprForm-F.Paren inner) n = expr_form_at _ (e.rolls-Paren _) (λ env. only (inner.1 n _))

  -- the parts of a form of a declarator
  in_declarator_form : (y : DeclaratorForm-F (With PDeclaratorForm) (With PExprForm) (With PField) (With PSpecifier) (With PDeclarator) (With PExpr) (With PItem) (With PMember) (With PParameter) (With PTypeName)) → Lays DeclaratorFormLies (in_declarator (declarator_form_layer (declarator_form_below y)))
  in_declarator_form (DeclaratorForm-F.Star qualifiers None) n = declarator_form_at (DeclaratorForm-F.Star qualifiers None) (d.rolls-Star _ _) (λ env left. no_parts)
  in_declarator_form (DeclaratorForm-F.Star qualifiers (Some inner)) n =
      declarator_form_at (DeclaratorForm-F.Star qualifiers (Some (declarator inner.0 n).0)) (d.rolls-Star _ _) (λ env left. only (inner.1 n _ _))
  in_declarator_form (DeclaratorForm-F.Named name) n = declarator_form_at (DeclaratorForm-F.Named name) (d.rolls-Named _) (λ env left. no_parts)
  in_declarator_form (DeclaratorForm-F.Group inner) n = declarator_form_at (DeclaratorForm-F.Group (declarator inner.0 n).0) (d.rolls-Group _) (λ env left. only (inner.1 n _ _))
  in_declarator_form (DeclaratorForm-F.ArrayOf None None) n = declarator_form_at (DeclaratorForm-F.ArrayOf None None) (d.rolls-ArrayOf _ _) (λ env left. no_parts)
  in_declarator_form (DeclaratorForm-F.ArrayOf None (Some size)) n =
      declarator_form_at (DeclaratorForm-F.ArrayOf None (Some (expr size.0 n).0)) (d.rolls-ArrayOf _ _) (λ env left. only (size.1 n _))
  in_declarator_form (DeclaratorForm-F.ArrayOf (Some inner) None) n =
      declarator_form_at (DeclaratorForm-F.ArrayOf (Some (declarator inner.0 n).0) None) (d.rolls-ArrayOf _ _) (λ env left. only (inner.1 n _ _))
  in_declarator_form (DeclaratorForm-F.ArrayOf (Some inner) (Some size)) n =
      let one = declarator inner.0 n in
      declarator_form_at (DeclaratorForm-F.ArrayOf (Some one.0) (Some (expr size.0 one.1).0)) (d.rolls-ArrayOf _ _) (λ env left. two_parts (inner.1 n _ _) (size.1 _ _))
  in_declarator_form (DeclaratorForm-F.FunctionOf None ps dots) n =
      let others = list_lies ParameterLies parameter ps n in
      declarator_form_at (DeclaratorForm-F.FunctionOf None (list (map parameter (map (λ a. a.0) ps)) n).0 dots) (d.rolls-FunctionOf _ _ _) (λ env left. parameters_lie _ others _ _)
  in_declarator_form (DeclaratorForm-F.FunctionOf (Some inner) ps dots) n =
      let one = declarator inner.0 n in
      let others = list_lies ParameterLies parameter ps one.1 in
      declarator_form_at (DeclaratorForm-F.FunctionOf (Some one.0) (list (map parameter (map (λ a. a.0) ps)) one.1).0 dots) (d.rolls-FunctionOf _ _ _)
      (λ env left. next (inner.1 n _ _) (parameters_lie _ others _ _))

  -- the parts of a specifier
  in_specifier : (y : Specifier-F (With PDeclaratorForm) (With PExprForm) (With PField) (With PSpecifier) (With PDeclarator) (With PExpr) (With PItem) (With PMember) (With PParameter) (With PTypeName)) → Lays SpecifierLies (of_specifier (specifier_layer (specifier_below y)))
  in_specifier (Specifier-F.Storage word) n = specifier_at _ (s.rolls-Storage _) (λ env. no_parts)
  in_specifier Specifier-F.Inline n = specifier_at _ s.rolls-Inline (λ env. no_parts)
  in_specifier (Specifier-F.Qualifier word) n = specifier_at _ (s.rolls-Qualifier _) (λ env. no_parts)
  in_specifier (Specifier-F.Type word) n = specifier_at _ (s.rolls-Type _) (λ env. no_parts)
  in_specifier (Specifier-F.Struct tag members) n = specifier_at _ (s.rolls-Struct _ _) (λ env. members_lie _ (list_lies MemberLies member members n) _ _)
  in_specifier (Specifier-F.StructTag tag) n = specifier_at _ (s.rolls-StructTag _) (λ env. no_parts)
  in_specifier (Specifier-F.Enum tag items) n = specifier_at _ (s.rolls-Enum _ _) (λ env. items_lie _ (list_lies ItemLies item items n) _ _)
  in_specifier (Specifier-F.EnumTag tag) n = specifier_at _ (s.rolls-EnumTag _) (λ env. no_parts)
  in_specifier (Specifier-F.Typedef name) n = specifier_at _ (s.rolls-Typedef _) (λ env. no_parts)

  -- the parts of a declarator of a member
  in_field : (y : MemberDeclarator-F (With PDeclaratorForm) (With PExprForm) (With PField) (With PSpecifier) (With PDeclarator) (With PExpr) (With PItem) (With PMember) (With PParameter) (With PTypeName)) → Lays FieldLies (of_member_declarator (field_layer (field_below y)))
  in_field (MemberDeclarator-F.Plain inner) n = field_at _ (m.rolls-Plain _) (λ env told before. only (inner.1 n _ _))
  in_field (MemberDeclarator-F.Field inner width) n = field_at _ (m.rolls-Field _ _) (λ env told before. two_parts (inner.1 n _ _) (width.1 _ _))
  in_field (MemberDeclarator-F.Unnamed width) n = field_at _ (m.rolls-Unnamed _) (λ env told before. only (width.1 n _))

  -- ---- each node

  -- an expression, by its form
  in_expr_node : (y : Expr-F (With PDeclaratorForm) (With PExprForm) (With PField) (With PSpecifier) (With PDeclarator) (With PExpr) (With PItem) (With PMember) (With PParameter) (With PTypeName)) → Lays ExprLies (of_expr (expr_layer (expr_below y)))
  in_expr_node y n env = own refl refl (y.form.1 (n + 1) env)

  -- a declarator, by its form
  in_declarator_node : (y : Declarator-F (With PDeclaratorForm) (With PExprForm) (With PField) (With PSpecifier) (With PDeclarator) (With PExpr) (With PItem) (With PMember) (With PParameter) (With PTypeName)) → Lays DeclaratorLies (of_declarator (declarator_layer (declarator_below y)))
  in_declarator_node y n env left = own refl refl (y.form.1 (n + 1) env left)

  -- the parts of a type name or a parameter
  pub type_parts_lie : (ss : List Specifier) (inner : Option Declarator) {n k m : ℕ} → ListLies SpecifierLies ss n k → OptionLies DeclaratorLies inner k m →
      (env : Env) (may_be_absent : Bool) (name : NameUse) → InTurn at_end n (type_parts env may_be_absent name ss inner) m
  type_parts_lie ss inner first others env may_be_absent name =
      let told = specifiers_found ss env false in both at_end (specifiers_lie ss first false env) (type_lies inner others (extend env told.additions) told may_be_absent name)

  -- a member, by its specifiers and declarators
  member_lies : (one : Member) {k m : ℕ} → ListLies SpecifierLies one.specifiers (one.ordinal + 1) k → ListLies FieldLies one.declarators k m → MemberLies one one.ordinal m
  member_lies one first others env before =
      let told = specifiers_found one.specifiers env false in
      own refl refl (both at_end (specifiers_lie one.specifiers first false env) (fields_lie one.declarators others told (extend env told.additions) before))

  -- a member, by its layer
  in_member_node : (y : Member-F (With PDeclaratorForm) (With PExprForm) (With PField) (With PSpecifier) (With PDeclarator) (With PExpr) (With PItem) (With PMember) (With PParameter) (With PTypeName)) → Lays MemberLies (of_member (member_layer (member_below y)))
  in_member_node y n = member_lies (of_member (member_layer (member_below y)) n).0 (list_lies SpecifierLies specifier y.specifiers (n + 1)) (list_lies FieldLies member_declarator y.declarators _)

  -- an enumerator, by its value
  item_at : {m : ℕ} (x : Item-F DeclaratorForm ExprForm MemberDeclarator Specifier Declarator Expr Item Member Parameter TypeName) → ((env : Env) → InTurn at_end (x.ordinal + 1) (perhaps env AnExpression x.value) m) → ItemLies (roll-Item x) x.ordinal m
  item_at {m = m} x lies env before =
      let is = out-roll-Item x in
      own (ap (λ (x : Item-F DeclaratorForm ExprForm MemberDeclarator Specifier Declarator Expr Item Member Parameter TypeName). x.ordinal) is) (ap (λ (x : Item-F DeclaratorForm ExprForm MemberDeclarator Specifier Declarator Expr Item Member Parameter TypeName). x.ordinal + 1) is) (subst (λ (z : Item-F DeclaratorForm ExprForm MemberDeclarator Specifier Declarator Expr Item Member Parameter TypeName). InTurn at_end (x.ordinal + 1) (perhaps env AnExpression z.value) m) (sym is) (lies env))

  -- an enumerator, by its layer
  in_item : (spot : Spot) (ordinal : ℕ) (name : List ℕ) (value : Option (With PExpr)) →
      Lays ItemLies (of_item (item_layer (item_below (record { spot = spot; ordinal = ordinal; name = name; value = value }))))
  in_item spot ordinal name None n = item_at (record { spot = spot; ordinal = n; name = name; value = None }) (λ env. no_parts)
  in_item spot ordinal name (Some value) n = item_at (record { spot = spot; ordinal = n; name = name; value = Some (expr value.0 (n + 1)).0 }) (λ env. only (value.1 (n + 1) env))

  -- a parameter, by its parts
  parameter_at : {m : ℕ} (x : Parameter-F DeclaratorForm ExprForm MemberDeclarator Specifier Declarator Expr Item Member Parameter TypeName) → ((env : Env) (name : NameUse) → InTurn at_end (x.ordinal + 1) (type_parts env true name x.specifiers x.declarator) m) →
      ParameterLies (roll-Parameter x) x.ordinal m
  parameter_at {m = m} x lies env lone =
      let is = out-roll-Parameter x in
      own (ap (λ (x : Parameter-F DeclaratorForm ExprForm MemberDeclarator Specifier Declarator Expr Item Member Parameter TypeName). x.ordinal) is) (ap (λ (x : Parameter-F DeclaratorForm ExprForm MemberDeclarator Specifier Declarator Expr Item Member Parameter TypeName). x.ordinal + 1) is)
      (subst (λ (z : Parameter-F DeclaratorForm ExprForm MemberDeclarator Specifier Declarator Expr Item Member Parameter TypeName). InTurn at_end (x.ordinal + 1) (type_parts env true IsParameter z.specifiers z.declarator) m) (sym is) (lies env IsParameter))

  -- a parameter, by its layer
  in_parameter : (spot : Spot) (ordinal : ℕ) (ss : List (With PSpecifier)) (inner : Option (With PDeclarator)) →
      Lays ParameterLies (of_parameter (parameter_layer (parameter_below (record { spot = spot; ordinal = ordinal; specifiers = ss; declarator = inner }))))
  in_parameter spot ordinal ss None n =
      let others = list_lies SpecifierLies specifier ss (n + 1) in
      parameter_at (record { spot = spot; ordinal = n; specifiers = (list (map specifier (map (λ a. a.0) ss)) (n + 1)).0; declarator = None })
      (λ env name. type_parts_lie _ None others (missing (omega arith)) env true name)
  in_parameter spot ordinal ss (Some inner) n =
      let others = list_lies SpecifierLies specifier ss (n + 1) in
      let k = (list (map specifier (map (λ a. a.0) ss)) (n + 1)).1 in
      parameter_at (record { spot = spot; ordinal = n; specifiers = (list (map specifier (map (λ a. a.0) ss)) (n + 1)).0; declarator = Some (declarator inner.0 k).0 })
      (λ env name. type_parts_lie _ (Some (declarator inner.0 k).0) others (present (inner.1 k)) env true name)

  -- a type name, by its parts
  type_name_at : {m : ℕ} (x : TypeName-F DeclaratorForm ExprForm MemberDeclarator Specifier Declarator Expr Item Member Parameter TypeName) → ((env : Env) (name : NameUse) → InTurn at_end (x.ordinal + 1) (type_parts env false name x.specifiers x.declarator) m) →
      TypeNameLies (roll-TypeName x) x.ordinal m
  type_name_at {m = m} x lies env =
      let is = out-roll-TypeName x in
      own (ap (λ (x : TypeName-F DeclaratorForm ExprForm MemberDeclarator Specifier Declarator Expr Item Member Parameter TypeName). x.ordinal) is) (ap (λ (x : TypeName-F DeclaratorForm ExprForm MemberDeclarator Specifier Declarator Expr Item Member Parameter TypeName). x.ordinal + 1) is)
      (subst (λ (z : TypeName-F DeclaratorForm ExprForm MemberDeclarator Specifier Declarator Expr Item Member Parameter TypeName). InTurn at_end (x.ordinal + 1) (type_parts env false Unnamed z.specifiers z.declarator) m) (sym is) (lies env Unnamed))

  -- a type name, by its layer
  in_type_name : (spot : Spot) (ordinal : ℕ) (ss : List (With PSpecifier)) (inner : Option (With PDeclarator)) →
      Lays TypeNameLies (of_type_name (type_name_layer (type_name_below (record { spot = spot; ordinal = ordinal; specifiers = ss; declarator = inner }))))
  in_type_name spot ordinal ss None n =
      let others = list_lies SpecifierLies specifier ss (n + 1) in
      type_name_at (record { spot = spot; ordinal = n; specifiers = (list (map specifier (map (λ a. a.0) ss)) (n + 1)).0; declarator = None })
      (λ env name. type_parts_lie _ None others (missing (omega arith)) env false name)
  in_type_name spot ordinal ss (Some inner) n =
      let others = list_lies SpecifierLies specifier ss (n + 1) in
      let k = (list (map specifier (map (λ a. a.0) ss)) (n + 1)).1 in
      type_name_at (record { spot = spot; ordinal = n; specifiers = (list (map specifier (map (λ a. a.0) ss)) (n + 1)).0; declarator = Some (declarator inner.0 k).0 })
      (λ env name. type_parts_lie _ (Some (declarator inner.0 k).0) others (present (inner.1 k)) env false name)

  -- ---- whole trees

  -- of each kind: what a layer makes lies where its parts do
  declarator_form_step : (x : DeclaratorForm-F DeclaratorForm ExprForm MemberDeclarator Specifier Declarator Expr Item Member Parameter TypeName) (y : DeclaratorForm-F (With PDeclaratorForm) (With PExprForm) (With PField) (With PSpecifier) (With PDeclarator) (With PExpr) (With PItem) (With PMember) (With PParameter) (With PTypeName)) → declarator_form_below y ≡ x → PDeclaratorForm (roll-DeclaratorForm x)
  declarator_form_step x y is = subst (Lays DeclaratorFormLies) (sym (declarator_form_rolled x)) (subst (λ x. Lays DeclaratorFormLies (in_declarator (declarator_form_layer x))) is (in_declarator_form y))

  expr_form_step : (x : ExprForm-F DeclaratorForm ExprForm MemberDeclarator Specifier Declarator Expr Item Member Parameter TypeName) (y : ExprForm-F (With PDeclaratorForm) (With PExprForm) (With PField) (With PSpecifier) (With PDeclarator) (With PExpr) (With PItem) (With PMember) (With PParameter) (With PTypeName)) → expr_form_below y ≡ x → PExprForm (roll-ExprForm x)
  expr_form_step x y is = subst (Lays ExprFormLies) (sym (expr_form_rolled x)) (subst (λ x. Lays ExprFormLies (in_expr (expr_form_layer x))) is (in_expr_form y))

  field_step : (x : MemberDeclarator-F DeclaratorForm ExprForm MemberDeclarator Specifier Declarator Expr Item Member Parameter TypeName) (y : MemberDeclarator-F (With PDeclaratorForm) (With PExprForm) (With PField) (With PSpecifier) (With PDeclarator) (With PExpr) (With PItem) (With PMember) (With PParameter) (With PTypeName)) → field_below y ≡ x → PField (roll-MemberDeclarator x)
  field_step x y is = subst (Lays FieldLies) (sym (field_rolled x)) (subst (λ x. Lays FieldLies (of_member_declarator (field_layer x))) is (in_field y))

  specifier_step : (x : Specifier-F DeclaratorForm ExprForm MemberDeclarator Specifier Declarator Expr Item Member Parameter TypeName) (y : Specifier-F (With PDeclaratorForm) (With PExprForm) (With PField) (With PSpecifier) (With PDeclarator) (With PExpr) (With PItem) (With PMember) (With PParameter) (With PTypeName)) → specifier_below y ≡ x → PSpecifier (roll-Specifier x)
  specifier_step x y is = subst (Lays SpecifierLies) (sym (specifier_rolled x)) (subst (λ x. Lays SpecifierLies (of_specifier (specifier_layer x))) is (in_specifier y))

  declarator_step : (x : Declarator-F DeclaratorForm ExprForm MemberDeclarator Specifier Declarator Expr Item Member Parameter TypeName) (y : Declarator-F (With PDeclaratorForm) (With PExprForm) (With PField) (With PSpecifier) (With PDeclarator) (With PExpr) (With PItem) (With PMember) (With PParameter) (With PTypeName)) → declarator_below y ≡ x → PDeclarator (roll-Declarator x)
  declarator_step x y is = subst (Lays DeclaratorLies) (sym (declarator_rolled x)) (subst (λ x. Lays DeclaratorLies (of_declarator (declarator_layer x))) is (in_declarator_node y))

  expr_step : (x : Expr-F DeclaratorForm ExprForm MemberDeclarator Specifier Declarator Expr Item Member Parameter TypeName) (y : Expr-F (With PDeclaratorForm) (With PExprForm) (With PField) (With PSpecifier) (With PDeclarator) (With PExpr) (With PItem) (With PMember) (With PParameter) (With PTypeName)) → expr_below y ≡ x → PExpr (roll-Expr x)
  expr_step x y is = subst (Lays ExprLies) (sym (expr_rolled x)) (subst (λ x. Lays ExprLies (of_expr (expr_layer x))) is (in_expr_node y))

  item_step : (x : Item-F DeclaratorForm ExprForm MemberDeclarator Specifier Declarator Expr Item Member Parameter TypeName) (y : Item-F (With PDeclaratorForm) (With PExprForm) (With PField) (With PSpecifier) (With PDeclarator) (With PExpr) (With PItem) (With PMember) (With PParameter) (With PTypeName)) → item_below y ≡ x → PItem (roll-Item x)
  item_step x y is = subst (Lays ItemLies) (sym (item_rolled x)) (subst (λ x. Lays ItemLies (of_item (item_layer x))) is (in_item y.spot y.ordinal y.name y.value))

  member_step : (x : Member-F DeclaratorForm ExprForm MemberDeclarator Specifier Declarator Expr Item Member Parameter TypeName) (y : Member-F (With PDeclaratorForm) (With PExprForm) (With PField) (With PSpecifier) (With PDeclarator) (With PExpr) (With PItem) (With PMember) (With PParameter) (With PTypeName)) → member_below y ≡ x → PMember (roll-Member x)
  member_step x y is = subst (Lays MemberLies) (sym (member_rolled x)) (subst (λ x. Lays MemberLies (of_member (member_layer x))) is (in_member_node y))

  parameter_step : (x : Parameter-F DeclaratorForm ExprForm MemberDeclarator Specifier Declarator Expr Item Member Parameter TypeName) (y : Parameter-F (With PDeclaratorForm) (With PExprForm) (With PField) (With PSpecifier) (With PDeclarator) (With PExpr) (With PItem) (With PMember) (With PParameter) (With PTypeName)) → parameter_below y ≡ x → PParameter (roll-Parameter x)
  parameter_step x y is =
      subst (Lays ParameterLies) (sym (parameter_rolled x)) (subst (λ x. Lays ParameterLies (of_parameter (parameter_layer x))) is (in_parameter y.spot y.ordinal y.specifiers y.declarator))

  type_name_step : (x : TypeName-F DeclaratorForm ExprForm MemberDeclarator Specifier Declarator Expr Item Member Parameter TypeName) (y : TypeName-F (With PDeclaratorForm) (With PExprForm) (With PField) (With PSpecifier) (With PDeclarator) (With PExpr) (With PItem) (With PMember) (With PParameter) (With PTypeName)) → type_name_below y ≡ x → PTypeName (roll-TypeName x)
  type_name_step x y is =
      subst (Lays TypeNameLies) (sym (type_name_rolled x)) (subst (λ x. Lays TypeNameLies (of_type_name (type_name_layer x))) is (in_type_name y.spot y.ordinal y.specifiers y.declarator))

  -- a numbered expression lies from its number up to the one behind it
  pub expr_lies : (one : Expr) → Lays ExprLies (expr one)
  expr_lies = ind-Expr PDeclaratorForm PExprForm PField PSpecifier PDeclarator PExpr PItem PMember PParameter PTypeName declarator_form_step expr_form_step field_step specifier_step declarator_step expr_step item_step member_step parameter_step type_name_step

  -- so does a numbered declarator
  pub declarator_lies : (one : Declarator) → Lays DeclaratorLies (declarator one)
  declarator_lies = ind-Declarator PDeclaratorForm PExprForm PField PSpecifier PDeclarator PExpr PItem PMember PParameter PTypeName declarator_form_step expr_form_step field_step specifier_step declarator_step expr_step item_step member_step parameter_step type_name_step

  -- and what stands in a numbered specifier
  pub specifier_lies : (one : Specifier) → Lays SpecifierLies (specifier one)
  specifier_lies = ind-Specifier PDeclaratorForm PExprForm PField PSpecifier PDeclarator PExpr PItem PMember PParameter PTypeName declarator_form_step expr_form_step field_step specifier_step declarator_step expr_step item_step member_step parameter_step type_name_step
