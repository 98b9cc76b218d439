-- The walk of an expression, by how many parts its form has.
use Rattle.std.proofs.Common.{◌≡◌, ◌∙◌, ℕ, Bool, true, false, List, [], ◌∷◌, Option, Some, None, refl, sym, ap, subst}
use Rattle.std.specs.Prelude.{IfSome, if◌then◌else◌, option_map}
use Rattle.lk_types.specs.Building.{IsLonger, IsTable}
use Rattle.lk_types.specs.Table.{Table, IsKnown}
use Rattle.lk_types.proofs.GrowLemmas.{longer_then}
use Rattle.lk_tree.specs.declared.expression.DeclaratorForm.TheOpen.{ExprForm-F}
use Rattle.lk_tree.specs.declared.expression.Expr.{Expr}
use Rattle.lk_tree.specs.declared.expression.ExprForm.{out-ExprForm}
use Rattle.lk_tree.specs.declared.expression.TypeName.{TypeName}
use Rattle.lk_tree.specs.declared.operators.AssignOperator.{AssignOperator}
use Rattle.lk_tree.specs.declared.operators.BinaryOperator.{BinaryOperator}
use Rattle.lk_typed.proofs.Meanings.{meaning_stays}
use Rattle.lk_typed.specs.Assignments.{operator_of}
use Rattle.lk_typed.specs.Env.{Additions, Env, Role, AsFunction, AsOperand, as_function, as_operand, both, converted_to, extend, nothing}
use Rattle.lk_typed.specs.ExprRules.{additions_of}
use Rattle.lk_typed.specs.Expressions.{expression}
use Rattle.lk_typed.specs.Forms.{as_cast, as_right}
use Rattle.lk_typed.specs.Meaning.{meaning}
use Rattle.lk_typed.specs.Names.{IsKnownRole, role_in}
use Rattle.lk_typed.specs.Nodes.{AnExpression, ATypeName, Placed, at}
use Rattle.lk_typed.specs.Ty.{Ty, is_function}
use Rattle.lk_typed.specs.Typing.{Judged, Named, Typing}
use Rattle.lk_rules.specs.Laws.{name_found}
use Rattle.lk_found.specs.Arguments.{IsGiven, added_by, arguments_placed, found_of, function_in, nodes_of}
use Rattle.lk_found.specs.Judging.{HasKnownType, HasOperand}
use Rattle.lk_found.specs.Findings.{IsFound, IsFoundType, IsFoundTyping, JudgedForm}
use Rattle.lk_found.specs.declared.arguments.Given.{Given}
use Rattle.lk_found.specs.declared.found.Found.{Found}
use Rattle.lk_found.specs.declared.found.Stands.{Stands}
use Rattle.lk_found.specs.declared.found.TypeFound.{TypeFound}
use Rattle.lk_found.proofs.Argued.{given_elsewhere}
use Rattle.lk_found.proofs.Lasting.{found_elsewhere, found_longer, found_operand}
use Rattle.lk_found.proofs.Forms.{Layer, form_in, in_role}
use Rattle.lk_checker.specs.Moves.{IsFurther}
use Rattle.lk_checker.specs.States.{operand_in, IsIn, IsSound, Settles, StandsIn}
use Rattle.lk_checker.specs.declared.checker.Checker.{Checker}
use Rattle.lk_checker.proofs.Somewhere.{somewhere}
use Rattle.lk_check_walk.specs.Arguments.{JudgesArguments}
use Rattle.lk_check_walk.specs.Walking.{AreJudged, IsFormJudged, Judges, JudgesForm, JudgesSides, JudgesTwo, NamesType, behind_operand}
use Rattle.lk_check_walk.specs.Walks.{Walks}
use Rattle.lk_check_walk.proofs.Further.{role_further}
use Rattle.lk_check_walk.proofs.Walking.{in_any_role, judged_as, no_walk, parts_of_layer, then_walks, walks_in}

pub stands_inside : (checker : Checker) (stands inner : Stands) (env : Env) (role : Role) → StandsIn checker stands env → role_in checker.types inner.role ≡ role → inner.in_size ≡ stands.in_size →
    StandsIn checker inner (in_role env role)
stands_inside checker stands inner env role is same size = record { is_in = in_any_role checker env role env.in_size is.is_in; role = same; in_size = size ∙ is.in_size }

-- ---- no part

pub arm_none : (at_end : Env) (old new : Checker) (stands : Stands) (e : Expr) (env : Env) (found : Found) (layer : Layer) (form : JudgedForm) → IsSound old → StandsIn old stands env →
    out-ExprForm e.form ≡ layer → form_in env layer ≡ form → parts_of_layer env layer ≡ [] → additions_of form ≡ nothing →
    (IsIn old (extend env nothing) → Settles old new e env (extend env nothing) form found) → IsFormJudged at_end old new env e found
arm_none at_end old new stands e env found layer form sound is layered forms places adds settles =
    let none = no_walk at_end old env sound is.is_in in
    judged_as at_end old old new e env found layer layered
    (subst (λ f. Walks at_end old old env (additions_of f) (parts_of_layer env layer)) (sym forms)
    (subst (λ ps. Walks at_end old old env (additions_of form) ps) (sym places) (subst (λ a. Walks at_end old old env a []) (sym adds) none)))
    (subst (λ f. Settles old new e env (extend env (additions_of f)) f found) (sym forms) (subst (λ a. Settles old new e env (extend env a) form found) (sym adds) (settles none.behind)))

-- ---- one part

pub walks_one : (at_end : Env) (old middle : Checker) (env : Env) (role : Role) (a : Additions) (p : Placed) → Walks at_end old middle (in_role env role) a (p ∷ []) →
    Walks at_end old middle env (both a nothing) (p ∷ [])
walks_one at_end old middle env role a p inner =
    let walks = walks_in at_end old middle env role env.in_size a (p ∷ []) inner in
    then_walks at_end old middle middle env a nothing (p ∷ []) [] walks (no_walk at_end middle (extend env a) walks.sound walks.behind)

pub arm_one : (at_end : Env) (old middle new : Checker) (stands inner : Stands) (e operand : Expr) (env : Env) (a found : Found) (role : Role) (layer : Layer) (shape : Judged → JudgedForm) →
    StandsIn old stands env → Judges old middle inner operand a → role_in old.types inner.role ≡ role → inner.in_size ≡ stands.in_size → out-ExprForm e.form ≡ layer →
    form_in env layer ≡ shape (expression operand (in_role env role)) → parts_of_layer env layer ≡ at (in_role env role) (AnExpression operand) ∷ [] →
    additions_of (shape (expression operand (in_role env role))) ≡ both (expression operand (in_role env role)).adds nothing →
    ((behind : Env) → behind.in_size ≡ env.in_size → IsIn middle behind → IsFound middle.types env a (expression operand (in_role env role)) →
    Settles middle new e env behind (shape (expression operand (in_role env role))) found) →
    IsFormJudged at_end old new env e found
arm_one at_end old middle new stands inner e operand env a found role layer shape is judges same size layered forms places adds settles =
    let inside = in_role env role in
    let x = expression operand inside in
    let p = at inside (AnExpression operand) in
    let judged = judges at_end inside (stands_inside old stands inner env role is same size) in
    let walks = walks_one at_end old middle env role x.adds p judged.walks in
    judged_as at_end old middle new e env found layer layered
    (subst (λ f. Walks at_end old middle env (additions_of f) (parts_of_layer env layer)) (sym forms)
    (subst (λ ps. Walks at_end old middle env (additions_of (shape x)) ps) (sym places) (subst (λ added. Walks at_end old middle env added (p ∷ [])) (sym adds) walks)))
    (subst (λ f. Settles middle new e env (extend env (additions_of f)) f found) (sym forms)
    (subst (λ added. Settles middle new e env (extend env added) (shape x) found) (sym adds)
    (settles (extend env (both x.adds nothing)) refl walks.behind (found_elsewhere middle.types inside env a x refl judged.found))))

-- ---- an operand and an expression behind it

pub arm_two : (at_end : Env) (old middle new : Checker) (e left right : Expr) (env inner : Env) (a b found : Found) (layer : Layer) (form : JudgedForm) →
    AreJudged at_end old middle env inner left right a b → out-ExprForm e.form ≡ layer → form_in env layer ≡ form →
    parts_of_layer env layer ≡ at (as_operand env) (AnExpression left) ∷ at inner (AnExpression right) ∷ [] →
    additions_of form ≡ both (expression left (as_operand env)).adds (both (expression right inner).adds nothing) →
    ((behind : Env) → IsIn middle behind → IsFound middle.types env a (expression left (as_operand env)) → IsFound middle.types env b (expression right inner) →
    Settles middle new e env behind form found) → IsFormJudged at_end old new env e found
arm_two at_end old middle new e left right env inner a b found layer form judged layered forms places adds settles =
    let added = both (expression left (as_operand env)).adds (both (expression right inner).adds nothing) in
    let ps = at (as_operand env) (AnExpression left) ∷ at inner (AnExpression right) ∷ [] in
    judged_as at_end old middle new e env found layer layered
    (subst (λ f. Walks at_end old middle env (additions_of f) (parts_of_layer env layer)) (sym forms)
    (subst (λ ps. Walks at_end old middle env (additions_of form) ps) (sym places) (subst (λ added. Walks at_end old middle env added ps) (sym adds) judged.walks)))
    (subst (λ f. Settles middle new e env (extend env (additions_of f)) f found) (sym forms)
    (subst (λ added. Settles middle new e env (extend env added) form found) (sym adds) (settles (extend env added) judged.walks.behind judged.first judged.second)))

-- an operand is judged, and behind it an expression in another role
both_judged : (at_end : Env) (old middle new : Checker) (first second : Stands) (in_size : Bool) (left right : Expr) (env : Env) (role : Role) (a b : Found) → first.in_size ≡ in_size → second.in_size ≡ in_size →
    role_in old.types first.role ≡ AsOperand → (IsFound middle.types env a (expression left (as_operand env)) → role_in middle.types second.role ≡ role) →
    Judges old middle first left a → Judges middle new second right b → IsIn old env → in_size ≡ env.in_size →
    AreJudged at_end old new env (in_role (behind_operand left env) role) left right a b
both_judged at_end old middle new first second in_size left right env role a b size again is_operand is_role one two is_in same =
    let inside = as_operand env in
    let x = expression left inside in
    let p = at inside (AnExpression left) in
    let j = one at_end inside (record { is_in = in_any_role old env AsOperand env.in_size is_in; role = is_operand; in_size = size ∙ same }) in
    let walks = walks_in at_end old middle env AsOperand env.in_size x.adds (p ∷ []) j.walks in
    let found = found_elsewhere middle.types inside env a x refl j.found in
    let next = extend env x.adds in
    let inner = in_role next role in
    let y = expression right inner in
    let q = at inner (AnExpression right) in
    let k = two at_end inner (record { is_in = in_any_role middle next role env.in_size walks.behind; role = is_role found; in_size = again ∙ same }) in
    let last = walks_one at_end middle new next role y.adds q k.walks in
    record {
      walks = then_walks at_end old middle new env x.adds (both y.adds nothing) (p ∷ []) (q ∷ []) walks last;
      first = found_longer middle.types new.types env a x walks.sound.ready.table_is last.longer found;
      second = found_elsewhere new.types inner env b y refl k.found;
    }

-- two operands that are judged one after the other
pub two_judged : (old middle new : Checker) (first second : Stands) (in_size : Bool) (left right : Expr) (a b : Found) → first.in_size ≡ in_size → second.in_size ≡ in_size →
    role_in old.types first.role ≡ AsOperand → role_in middle.types second.role ≡ AsOperand → Judges old middle first left a → Judges middle new second right b →
    JudgesTwo old new in_size left right a b
two_judged old middle new first second in_size left right a b size again is_operand is_other one two at_end env is_in same =
    both_judged at_end old middle new first second in_size left right env AsOperand a b size again is_operand (λ found. is_other) one two is_in same

-- what stands on the right of an assignment is the environment behind the left side in a role
right_is : (o : Option BinaryOperator) (t : Option Typing) (env : Env) → as_right o t env ≡ in_role env (as_right o t env).role
right_is None None env = refl
right_is None (Some left) env = by_test left.type env (is_function left.type)
  where
    by_test : (t : Ty) (env : Env) (b : Bool) → (if b then as_operand env else converted_to env t) ≡ in_role env (if b then as_operand env else converted_to env t).role
    by_test t env true = refl
    by_test t env false = refl
right_is (Some o) left env = refl

-- the sides of an assignment
pub sides_judged : (old middle new : Checker) (first second : Stands) (op : AssignOperator) (in_size : Bool) (left right : Expr) (a b : Found) → first.in_size ≡ in_size → second.in_size ≡ in_size →
    role_in old.types first.role ≡ AsOperand →
    ((env : Env) (x : Option Typing) → IsFoundTyping middle.types a x → role_in middle.types second.role ≡ (as_right (operator_of op) x env).role) →
    Judges old middle first left a → Judges middle new second right b → JudgesSides old new op in_size left right a b
sides_judged old middle new first second op in_size left right a b size again is_operand is_role one two at_end env is_in same =
    let x = expression left (as_operand env) in
    let next = behind_operand left env in
    let inner = as_right (operator_of op) x.typing next in
    subst (λ inner. AreJudged at_end old new env inner left right a b) (sym (right_is (operator_of op) x.typing next))
    (both_judged at_end old middle new first second in_size left right env inner.role a b size again is_operand (λ found. is_role next x.typing found.typing) one two is_in same)

-- ---- three operands

pub arm_three : (at_end : Env) (old middle last new : Checker) (stands : Stands) (e condition taken other : Expr) (env : Env) (c a b found : Found) →
    StandsIn old stands env → Judges old middle (operand_in stands.in_size) condition c → JudgesTwo middle last stands.in_size taken other a b →
    out-ExprForm e.form ≡ ExprForm-F.Choice condition taken other →
    ((env behind : Env) (z x y : Judged) → IsIn last behind → IsFound last.types env c z → IsFound last.types env a x → IsFound last.types env b y →
    Settles last new e env behind (ExprForm-F.Choice z x y) found) → IsFormJudged at_end old new env e found
arm_three at_end old middle last new stands e condition taken other env c a b found is one two layered settles =
    let inside = as_operand env in
    let z = expression condition inside in
    let p = at inside (AnExpression condition) in
    let j = one at_end inside (stands_inside old stands (operand_in stands.in_size) env AsOperand is refl refl) in
    let walks = walks_in at_end old middle env AsOperand env.in_size z.adds (p ∷ []) j.walks in
    let next = extend env z.adds in
    let k = two at_end next walks.behind is.in_size in
    let x = expression taken (as_operand next) in
    let y = expression other (as_operand (behind_operand taken next)) in
    let qs = at (as_operand next) (AnExpression taken) ∷ at (as_operand (behind_operand taken next)) (AnExpression other) ∷ [] in
    let all = then_walks at_end old middle last env z.adds (both x.adds (both y.adds nothing)) (p ∷ []) qs walks k.walks in
    judged_as at_end old last new e env found (ExprForm-F.Choice condition taken other) layered all
    (settles env (extend env (both z.adds (both x.adds (both y.adds nothing)))) z x y all.behind
    (found_longer middle.types last.types env c z walks.sound.ready.table_is k.walks.longer (found_elsewhere middle.types inside env c z refl j.found))
    (found_elsewhere last.types next env a x refl k.first) (found_elsewhere last.types next env b y refl k.second))

-- ---- type names

cast_is : (t : Option Ty) (env : Env) → as_cast t env ≡ in_role env (as_cast t env).role
cast_is None env = refl
cast_is (Some t) env = refl

pub type_longer : (old new : Table) (found : TypeFound) (x : Named) → IsTable old → IsLonger old new → HasKnownType old found → IsFoundType old found x → IsFoundType new found x
type_longer old new found x good longer known h = record { type = by_type found.ty known ∙ h.type; holds_sizeof = h.holds_sizeof }
  where
    by_type : (o : Option ℕ) → IfSome o (IsKnown old) → option_map (meaning new) o ≡ option_map (meaning old) o
    by_type None known = refl
    by_type (Some t) known = ap Some (meaning_stays old new good longer t known)

-- the walk of a type name that stands in this environment
walks_named : (at_end : Env) (old new : Checker) (stands : Stands) (env : Env) (n : TypeName) (t : TypeFound) → StandsIn old stands env → NamesType old new stands.in_size n t →
    Walks at_end old new env (name_found n (as_operand env)).adds (at (as_operand env) (ATypeName n) ∷ []) × IsFoundType new.types t (name_found n (as_operand env))
walks_named at_end old new stands env n t is names =
    let inside = as_operand env in
    let named = names at_end inside (stands_inside old stands (operand_in stands.in_size) env AsOperand is refl refl) in
    (walks_in at_end old new env AsOperand env.in_size (name_found n inside).adds (at inside (ATypeName n) ∷ []) named.walks, named.found)

pub arm_sizeof_type : (at_end : Env) (old middle new : Checker) (stands : Stands) (e : Expr) (n : TypeName) (env : Env) (t : TypeFound) (found : Found) → StandsIn old stands env →
    NamesType old middle stands.in_size n t → out-ExprForm e.form ≡ ExprForm-F.SizeofType n →
    ((behind : Env) (x : Named) → IsIn middle behind → behind.in_size ≡ env.in_size → IsFoundType middle.types t x → Settles middle new e env behind (ExprForm-F.SizeofType x) found) →
    IsFormJudged at_end old new env e found
arm_sizeof_type at_end old middle new stands e n env t found is names layered settles =
    let x = name_found n (as_operand env) in
    let p = at (as_operand env) (ATypeName n) in
    let named = walks_named at_end old middle stands env n t is names in
    let all = then_walks at_end old middle middle env x.adds nothing (p ∷ []) [] named.0 (no_walk at_end middle (extend env x.adds) named.0.sound named.0.behind) in
    judged_as at_end old middle new e env found (ExprForm-F.SizeofType n) layered all (settles (extend env (both x.adds nothing)) x all.behind refl named.1)

pub arm_cast : (at_end : Env) (old middle last new : Checker) (stands inner : Stands) (e operand : Expr) (n : TypeName) (env : Env) (t : TypeFound) (a found : Found) → StandsIn old stands env →
    NamesType old middle stands.in_size n t → HasKnownType middle.types t → ((env : Env) (x : Option Ty) → option_map (meaning middle.types) t.ty ≡ x → role_in middle.types inner.role ≡ (as_cast x env).role) →
    inner.in_size ≡ stands.in_size → Judges middle last inner operand a → out-ExprForm e.form ≡ ExprForm-F.Cast n operand →
    ((behind : Env) (x : Named) (y : Judged) → IsIn last behind → IsFoundType last.types t x → IsFound last.types env a y → Settles last new e env behind (ExprForm-F.Cast x y) found) →
    IsFormJudged at_end old new env e found
arm_cast at_end old middle last new stands inner e operand n env t a found is names known is_role size judges layered settles =
    let x = name_found n (as_operand env) in
    let p = at (as_operand env) (ATypeName n) in
    let named = walks_named at_end old middle stands env n t is names in
    let next = extend env x.adds in
    let role = (as_cast x.type next).role in
    let inside = as_cast x.type next in
    let same = cast_is x.type next in
    let y = expression operand inside in
    let q = at inside (AnExpression operand) in
    let j = judges at_end inside (subst (StandsIn middle inner) (sym same)
    (record { is_in = in_any_role middle next role env.in_size named.0.behind; role = is_role next x.type named.1.type; in_size = size ∙ is.in_size })) in
    let walks = walks_one at_end middle last next role y.adds q (subst (λ inside. Walks at_end middle last inside y.adds (q ∷ [])) same j.walks) in
    let all = then_walks at_end old middle last env x.adds (both y.adds nothing) (p ∷ []) (q ∷ []) named.0 walks in
    let found_there = subst (λ inside. IsFound last.types inside a y) same j.found in
    judged_as at_end old last new e env found (ExprForm-F.Cast n operand) layered all
    (settles (extend env (both x.adds (both y.adds nothing))) x y all.behind (type_longer middle.types last.types t x named.0.sound.ready.table_is walks.longer known named.1)
    (found_elsewhere last.types (in_role next role) env a y refl found_there))

-- ---- calls

pub arm_call : (at_end : Env) (old middle last new : Checker) (stands : Stands) (e function : Expr) (arguments : List Expr) (env : Env) (f : Found) (given : Given) (found : Found) → IsSound old →
    IsKnownRole old.types stands.role → StandsIn old stands env → Judges old middle (function_in stands.in_size) function f → JudgesArguments middle last stands.in_size f arguments given →
    out-ExprForm e.form ≡ ExprForm-F.Call function arguments →
    ((behind : Env) (x : Judged) (ys : List Judged) → behind.outside ≡ env.outside → role_in last.types stands.role ≡ behind.role → IsFound last.types env f x → IsGiven last.types env given ys →
    Settles last new e env behind (ExprForm-F.Call x ys) found) → IsFormJudged at_end old new env e found
arm_call at_end old middle last new stands e function arguments env f given found sound known is judges each layered settles =
    let inside = as_function env in
    let x = expression function inside in
    let p = at inside (AnExpression function) in
    let j = judges at_end inside (stands_inside old stands (function_in stands.in_size) env AsFunction is refl refl) in
    let walks = walks_in at_end old middle env AsFunction env.in_size x.adds (p ∷ []) j.walks in
    let next = extend env x.adds in
    let k = each at_end next x walks.behind is.in_size (found_elsewhere middle.types inside next f x refl j.found) in
    let places = arguments_placed next x arguments in
    let ys = found_of places in
    let all = then_walks at_end old middle last env x.adds (added_by ys) (p ∷ []) (nodes_of places) walks k.walks in
    judged_as at_end old last new e env found (ExprForm-F.Call function arguments) layered all
    (settles (extend env (both x.adds (added_by ys))) x ys refl
    (role_further old.types last.types stands.role sound.ready.table_is (longer_then old.types middle.types last.types walks.longer k.walks.longer) known ∙ is.role)
    (found_longer middle.types last.types env f x walks.sound.ready.table_is k.walks.longer (found_elsewhere middle.types inside env f x refl j.found))
    (given_elsewhere last.types next env given ys refl k.given))

-- ---- what holds in whatever environment it stands

pub judged_further : (old new : Checker) (stands : Stands) (e : Expr) (found : Found) → JudgesForm old new stands e found → IsFurther old new
judged_further old new stands e found judges =
    let some = somewhere old stands in
    let walks = (judges some.0 some.0 some.1).walks in
    record { longer = walks.longer; sound = walks.sound; outside = walks.outside; begun = walks.begun }

pub judged_operand : (old new : Checker) (stands : Stands) (e : Expr) (found : Found) → JudgesForm old new stands e found → HasOperand new.types found
judged_operand old new stands e found judges =
    let some = somewhere old stands in found_operand new.types some.0 found (expression e some.0) (judges some.0 some.0 some.1).found
