use Rattle.std.proofs.Common.{◌∙◌, ◌&&◌, [], false, true, Some, None, IfSome, All, ap, refl, subst, sym, take, arith, rules, ◌++◌, ◌∷◌, ◌+◌, drop}
use Rattle.std.specs.Prelude.{if◌then◌else◌, is_some}
use Rattle.lk_tree.specs.declared.expression.DeclaratorForm.TheOpen.{ExprForm-F, MemberDeclarator-F, Specifier-F}
use Rattle.std.specs.Option.{option_map, option_copied}
use Rattle.lk_types.specs.Building.{IsPassed}
use Rattle.lk_typed.specs.DeclarationRules.{InType}
use Rattle.lk_typed.specs.Meaning.{meaning}
use Rattle.std.specs.Int.{w32}
use Rattle.std.proofs.lemmas.Int.{to_z-of_z}
use Rattle.std.proofs.lemmas.Result.{IfOk-weaker}
use Rattle.std.proofs.lemmas.List.{length-take-le, take_all}
use Rattle.lk_typed.specs.Env.{AsOperand, as_operand, extend, nothing, look_up, look_up_tag}
use Rattle.lk_typed.specs.Expressions.{breach_at, expression, plainly, specifiers_found}
use Rattle.lk_typed.specs.Forms.{role_in_parentheses, role_in_prefix}
use Rattle.lk_typed.specs.Names.{IsKnownRole}
use Rattle.lk_base.specs.declared.code.Code.TheVariants.{BitField}
use Rattle.lk_typed.specs.Faults.{breach}
use Rattle.lk_tree.specs.declared.expression.Item.{out-Item}
use Rattle.lk_tree.specs.declared.expression.TypeName.{out-TypeName}
use Rattle.lk_types.specs.Table.{Table, IsKnown}
use Rattle.lk_types.proofs.GrowLemmas.{longer_then}
use Rattle.lk_typed.specs.HolderRules.{counted_rules, enum_rules, has_bit_field, written_rules}
use Rattle.lk_typed.specs.Redeclared.{tag_rules}
use Rattle.lk_typed.specs.Structs.{struct_begun}
use Rattle.lk_typed.specs.Told.{before_first, enum_named, no_specifier, of_type_alone, struct_named, struct_use, typedef_of, written_value}
use Rattle.lk_check_decl.specs.Twins.{holder_of}
use Rattle.lk_found.specs.Parameters.{types_listed}
use Rattle.lk_found.specs.Arguments.{function_in}
use Rattle.lk_found.proofs.Argued.{argument_taken, operands_longer}
use Rattle.lk_found.proofs.Forms.{in_role, layer_is}
use Rattle.lk_found.proofs.Defines.{nothing_put, spec_layer, storage_put, word_put}
use Rattle.lk_found.specs.Specified.{breaches_in}
use Rattle.lk_found.specs.declared.fields.MembersFound.{MembersFound}
use Rattle.lk_found.specs.declared.found.At.{At}
use Rattle.lk_found.proofs.FieldsGrow.{fields_grow, fields_same}
use Rattle.lk_found.proofs.Turns.{drop_next, drop_none}
use Rattle.lk_found.specs.MembersOf.{HasFields}
use Rattle.lk_tree.specs.declared.expression.DeclaratorForm.TheVariants as shape
use Rattle.lk_tree.specs.declared.expression.ExprForm.TheVariants as form
use Rattle.lk_tree.specs.declared.expression.MemberDeclarator.TheVariants as member
use Rattle.lk_tree.specs.declared.expression.Specifier.TheVariants as specifier_form
use Rattle.lk_found.proofs.Listing as lists
use Rattle.lk_found.proofs.FormsOf as forms
use Rattle.lk_checker.specs.Parameters.{SettlesParameter}
use Rattle.lk_checker.specs.Moves.{KeepsAt}
use Rattle.lk_checker.specs.States.{operand_in, Settles}
use Rattle.lk_checker.proofs.GoingOn.{alone_further}
use Rattle.lk_checker.proofs.KeepsAll.{in_same}
use Rattle.lk_checker.specs.Counting.{constant_found}
use Rattle.lk_checker.proofs.GoingOn as on
use Rattle.lk_check_walk.proofs.Passing.{bare_found, named_found}
use Rattle.lk_check_walk.proofs.Whole.{declarator_is}
use Rattle.lk_check_walk.specs.Parameters.{FindsParameters, ListsParameters}
use Rattle.lk_check_walk.specs.Specifying.{Specifies, AreSpecified, GathersEnum, GathersStruct}
use Rattle.lk_check_walk.specs.Walked.{WalksForms, WalksInner, FindsSize}
use Rattle.lk_check_walk.specs.Arguments.{JudgesArguments}
use Rattle.lk_check_walk.specs.Walking.{Judges, JudgesSides, JudgesTwo, NamesType, behind_left, behind_operand}
use Rattle.lk_check_walk.proofs.Argued.{AreArgued, argued_then, argument_judged, none_argued}
use Rattle.lk_check_walk.proofs.Arms.{arm_call, arm_cast, arm_none, arm_one, arm_sizeof_type, arm_three, arm_two, judged_further, judged_operand, sides_judged, two_judged}
use Rattle.lk_check_walk.proofs.Further.{named_further, operand_further, role_known_further}
use Rattle.lk_check_walk.proofs.Recordings.{further_recorded, judged_recorded, named_recorded}
use Rattle.lk_check_walk.proofs.Walking.{no_walk}
use Rattle.lk_check_walk.proofs.Defines.{arm, arm_begins, begun_gathered, enum_gathered, same_further, named_gathered, struct_gathered, word_gathered}
use Rattle.lk_check_walk.proofs.TypeNamed.{named_alone, named_with}
use Rattle.lk_check_walk.specs.MembersOf.{DeclaresMembers}
use Rattle.lk_check_walk.proofs.WalkedForms.{size_found}
use Rattle.lk_check_walk.proofs.Listing as listing
use Rattle.lk_check_walk.proofs.WalkedForms as walked
use Rattle.lk_check_walk.proofs.Counts as counts
use Rattle.lk_check_walk.proofs.Finds as finds
use Rattle.lk_check_walk.proofs.Gathers as gathers
use Rattle.lk_check_walk.proofs.+walk.Goals as goal

pub expressions::judge-returns-clause-judged : goal.expressions::judge-returns-clause-judged
expressions::judge-returns-clause-judged t c =
    judged_recorded c.args.checker.now c.judge_form.new.checker c.put_expression.new.self c.args.stands c.args.e.now c.in_ok-found.found c.names_in-names.result c.requires.sound c.in_ok-put_expression.ensures
    c.names_in-names.ensures c.in_ok-found.ensures

pub expressions::judge-returns-clause-further : goal.expressions::judge-returns-clause-further
expressions::judge-returns-clause-further t c =
    further_recorded c.args.checker.now c.judge_form.new.checker c.put_expression.new.self
    (judged_further c.args.checker.now c.judge_form.new.checker c.args.stands c.args.e.now c.in_ok-found.found c.in_ok-found.ensures)

pub expressions::judge-returns-clause-operand : goal.expressions::judge-returns-clause-operand
expressions::judge-returns-clause-operand t c = judged_operand c.args.checker.now c.judge_form.new.checker c.args.stands c.args.e.now c.in_ok-found.found c.in_ok-found.ensures

pub expressions::judge_form-returns-in_ok-a-in-Comma : goal.expressions::judge_form-returns-in_ok-a-in-Comma
expressions::judge_form-returns-in_ok-a-in-Comma t c = IfOk-weaker c.settle_comma.result _ _ (λ found settled at_end env is.
    let e = c.args.e.now in
    let left = c.in-Comma.left in
    let right = c.in-Comma.right in
    let x = expression left (as_operand env) in
    let y = expression right (as_operand (behind_operand left env)) in
    let layered = layer_is e (form.Comma left right) (ExprForm-F.Comma left right) c.in-Comma.is (form.rolls-Comma left right) in
    arm_two at_end c.args.checker.now c.judge_two.new.checker c.settle_comma.new.self e left right env (as_operand (behind_operand left env)) c.in_ok-a-in-Comma.a c.in_ok-a-in-Comma.b found
    (ExprForm-F.Comma left right) (ExprForm-F.Comma x y)
    ((subst (λ l. JudgesTwo c.args.checker.now c.judge_two.new.checker c.args.stands.in_size l right c.in_ok-a-in-Comma.a c.in_ok-a-in-Comma.b) c.get.ensures
    (subst (λ r. JudgesTwo c.args.checker.now c.judge_two.new.checker c.args.stands.in_size c.get.result.now r c.in_ok-a-in-Comma.a c.in_ok-a-in-Comma.b) c.get-in-Comma.ensures c.in_ok-a-in-Comma.ensures.judged)) at_end env is.is_in is.in_size) layered refl refl refl
    (λ behind is_behind first second. settled env behind x y is_behind (λ code. ap (λ l. breach_at (plainly l) code) layered) first second)) c.settle_comma.ensures

pub expressions::judge_form-returns-in_ok-a-in-Binary : goal.expressions::judge_form-returns-in_ok-a-in-Binary
expressions::judge_form-returns-in_ok-a-in-Binary t c = IfOk-weaker c.settle_binary.result _ _ (λ found settled at_end env is.
    let e = c.args.e.now in
    let left = c.in-Binary.left in
    let right = c.in-Binary.right in
    let x = expression left (as_operand env) in
    let y = expression right (as_operand (behind_operand left env)) in
    let layered = layer_is e (form.Binary c.in-Binary.op left right) (ExprForm-F.Binary c.in-Binary.op left right) c.in-Binary.is (form.rolls-Binary c.in-Binary.op left right) in
    arm_two at_end c.args.checker.now c.judge_two-in-Binary.new.checker c.settle_binary.new.self e left right env (as_operand (behind_operand left env)) c.in_ok-a-in-Binary.a c.in_ok-a-in-Binary.b found
    (ExprForm-F.Binary c.in-Binary.op left right) (ExprForm-F.Binary c.in-Binary.op x y)
    ((subst (λ l. JudgesTwo c.args.checker.now c.judge_two-in-Binary.new.checker c.args.stands.in_size l right c.in_ok-a-in-Binary.a c.in_ok-a-in-Binary.b) c.get-in-Binary.ensures
    (subst (λ r. JudgesTwo c.args.checker.now c.judge_two-in-Binary.new.checker c.args.stands.in_size c.get-in-Binary.result.now r c.in_ok-a-in-Binary.a c.in_ok-a-in-Binary.b) c.get-in-Binary-2.ensures c.in_ok-a-in-Binary.ensures.judged)) at_end env is.is_in is.in_size) layered refl refl refl
    (λ behind is_behind first second. settled env behind x y is_behind (λ code. ap (λ l. breach_at (plainly l) code) layered) first second)) c.settle_binary.ensures

pub expressions::judge_form-returns-in_ok-a-in-Index : goal.expressions::judge_form-returns-in_ok-a-in-Index
expressions::judge_form-returns-in_ok-a-in-Index t c = IfOk-weaker c.settle_index.result _ _ (λ found settled at_end env is.
    let e = c.args.e.now in
    let left = c.in-Index.array in
    let right = c.in-Index.inner in
    let x = expression left (as_operand env) in
    let y = expression right (as_operand (behind_operand left env)) in
    let layered = layer_is e (form.Index left right) (ExprForm-F.Index left right) c.in-Index.is (form.rolls-Index left right) in
    arm_two at_end c.args.checker.now c.judge_two-in-Index.new.checker c.settle_index.new.self e left right env (as_operand (behind_operand left env)) c.in_ok-a-in-Index.a c.in_ok-a-in-Index.b found
    (ExprForm-F.Index left right) (ExprForm-F.Index x y)
    ((subst (λ l. JudgesTwo c.args.checker.now c.judge_two-in-Index.new.checker c.args.stands.in_size l right c.in_ok-a-in-Index.a c.in_ok-a-in-Index.b) c.get-in-Index.ensures
    (subst (λ r. JudgesTwo c.args.checker.now c.judge_two-in-Index.new.checker c.args.stands.in_size c.get-in-Index.result.now r c.in_ok-a-in-Index.a c.in_ok-a-in-Index.b) c.get-in-Index-2.ensures c.in_ok-a-in-Index.ensures.judged)) at_end env is.is_in is.in_size) layered refl refl refl
    (λ behind is_behind first second. settled env behind x y is_behind (λ code. ap (λ l. breach_at (plainly l) code) layered) first second)) c.settle_index.ensures

pub expressions::judge_form-returns-in_ok-a-in-Pre : goal.expressions::judge_form-returns-in_ok-a-in-Pre
expressions::judge_form-returns-in_ok-a-in-Pre t c = IfOk-weaker c.settle_pre.result _ _ (λ found settled at_end env is.
    let e = c.args.e.now in
    let part = c.in-Pre.operand in
    let role = AsOperand in
    let x = expression part (in_role env role) in
    let layered = layer_is e (form.Pre c.in-Pre.op part) (ExprForm-F.Pre c.in-Pre.op part) c.in-Pre.is (form.rolls-Pre c.in-Pre.op part) in
    arm_one at_end c.args.checker.now c.judge_operand-in-Pre.new.checker c.settle_pre.new.self c.args.stands (operand_in c.args.stands.in_size) e part env c.in_ok-a-in-Pre.a found role
    (ExprForm-F.Pre c.in-Pre.op part) (λ x. ExprForm-F.Pre c.in-Pre.op x) is (subst (λ part. Judges c.args.checker.now c.judge_operand-in-Pre.new.checker (operand_in c.args.stands.in_size) part c.in_ok-a-in-Pre.a) c.get-in-Pre.ensures c.in_ok-a-in-Pre.ensures.judged) refl refl layered refl refl refl
    (λ behind size is_behind operand. settled env behind x is_behind (λ code. ap (λ l. breach_at (plainly l) code) layered) operand)) c.settle_pre.ensures

pub expressions::judge_form-returns-in_ok-a-in-Post : goal.expressions::judge_form-returns-in_ok-a-in-Post
expressions::judge_form-returns-in_ok-a-in-Post t c = IfOk-weaker c.settle_post.result _ _ (λ found settled at_end env is.
    let e = c.args.e.now in
    let part = c.in-Post.operand in
    let role = AsOperand in
    let x = expression part (in_role env role) in
    let layered = layer_is e (form.Post c.in-Post.op part) (ExprForm-F.Post c.in-Post.op part) c.in-Post.is (form.rolls-Post c.in-Post.op part) in
    arm_one at_end c.args.checker.now c.judge_operand-in-Post.new.checker c.settle_post.new.self c.args.stands (operand_in c.args.stands.in_size) e part env c.in_ok-a-in-Post.a found role
    (ExprForm-F.Post c.in-Post.op part) (λ x. ExprForm-F.Post c.in-Post.op x) is (subst (λ part. Judges c.args.checker.now c.judge_operand-in-Post.new.checker (operand_in c.args.stands.in_size) part c.in_ok-a-in-Post.a) c.get-in-Post.ensures c.in_ok-a-in-Post.ensures.judged) refl refl layered refl refl refl
    (λ behind size is_behind operand. settled env behind x is_behind (λ code. ap (λ l. breach_at (plainly l) code) layered) operand)) c.settle_post.ensures

pub expressions::judge_form-returns-in_ok-a-in-Prefix : goal.expressions::judge_form-returns-in_ok-a-in-Prefix
expressions::judge_form-returns-in_ok-a-in-Prefix t c = IfOk-weaker c.settle_prefix.result _ _ (λ found settled at_end env is.
    let e = c.args.e.now in
    let part = c.in-Prefix.operand in
    let role = role_in_prefix c.in-Prefix.op env.role in
    let x = expression part (in_role env role) in
    let layered = layer_is e (form.Prefix c.in-Prefix.op part) (ExprForm-F.Prefix c.in-Prefix.op part) c.in-Prefix.is (form.rolls-Prefix c.in-Prefix.op part) in
    arm_one at_end c.args.checker.now c.judge-in-Prefix.new.checker c.settle_prefix.new.self c.args.stands c.in_prefix-inner.result e part env c.in_ok-a-in-Prefix.a found role
    (ExprForm-F.Prefix c.in-Prefix.op part) (λ x. ExprForm-F.Prefix c.in-Prefix.op x) is
    (subst (λ part. Judges c.args.checker.now c.judge-in-Prefix.new.checker c.in_prefix-inner.result part c.in_ok-a-in-Prefix.a) c.get-in-Prefix.ensures c.in_ok-a-in-Prefix.ensures.judged) (c.in_prefix-inner.ensures.value ∙ ap (role_in_prefix c.in-Prefix.op) is.role) c.in_prefix-inner.ensures.in_size layered refl refl refl
    (λ behind size is_behind operand. settled env behind x is_behind (λ code. ap (λ l. breach_at (plainly l) code) layered) operand)) c.settle_prefix.ensures

pub expressions::judge_form-returns-in_ok-a-in-SizeofExpr : goal.expressions::judge_form-returns-in_ok-a-in-SizeofExpr
expressions::judge_form-returns-in_ok-a-in-SizeofExpr t c = IfOk-weaker c.settle_sizeof_expr.result _ _ (λ found settled at_end env is.
    let e = c.args.e.now in
    let part = c.in-SizeofExpr.operand in
    let role = AsOperand in
    let x = expression part (in_role env role) in
    let layered = layer_is e (form.SizeofExpr part) (ExprForm-F.SizeofExpr part) c.in-SizeofExpr.is (form.rolls-SizeofExpr part) in
    arm_one at_end c.args.checker.now c.judge_operand-in-SizeofExpr.new.checker c.settle_sizeof_expr.new.self c.args.stands (operand_in c.args.stands.in_size) e part env c.in_ok-a-in-SizeofExpr.a found role
    (ExprForm-F.SizeofExpr part) (λ x. ExprForm-F.SizeofExpr x) is (subst (λ part. Judges c.args.checker.now c.judge_operand-in-SizeofExpr.new.checker (operand_in c.args.stands.in_size) part c.in_ok-a-in-SizeofExpr.a) c.get-in-SizeofExpr.ensures c.in_ok-a-in-SizeofExpr.ensures.judged) refl refl layered refl refl refl
    (λ behind size is_behind operand. settled env behind x is_behind (λ code. ap (λ l. breach_at (plainly l) code) layered) (is.in_size ∙ sym size) operand)) c.settle_sizeof_expr.ensures

pub expressions::judge_form-returns-in_ok-a-in-Member : goal.expressions::judge_form-returns-in_ok-a-in-Member
expressions::judge_form-returns-in_ok-a-in-Member t c = IfOk-weaker c.settle_dot.result _ _ (λ found settled at_end env is.
    let e = c.args.e.now in
    let part = c.in-Member.object in
    let role = AsOperand in
    let x = expression part (in_role env role) in
    let layered = layer_is e (form.Member part c.in-Member.name) (ExprForm-F.Member part c.in-Member.name) c.in-Member.is (form.rolls-Member part c.in-Member.name) in
    arm_one at_end c.args.checker.now c.judge_operand-in-Member.new.checker c.settle_dot.new.self c.args.stands (operand_in c.args.stands.in_size) e part env c.in_ok-a-in-Member.a found role
    (ExprForm-F.Member part c.in-Member.name) (λ x. ExprForm-F.Member x c.in-Member.name) is (subst (λ part. Judges c.args.checker.now c.judge_operand-in-Member.new.checker (operand_in c.args.stands.in_size) part c.in_ok-a-in-Member.a) c.get-in-Member.ensures c.in_ok-a-in-Member.ensures.judged) refl refl layered refl refl refl
    (λ behind size is_behind operand. settled env behind x is_behind (λ code. ap (λ l. breach_at (plainly l) code) layered) operand)) c.settle_dot.ensures

pub expressions::judge_form-returns-in_ok-a-in-Arrow : goal.expressions::judge_form-returns-in_ok-a-in-Arrow
expressions::judge_form-returns-in_ok-a-in-Arrow t c = IfOk-weaker c.settle_arrow.result _ _ (λ found settled at_end env is.
    let e = c.args.e.now in
    let part = c.in-Arrow.pointer in
    let role = AsOperand in
    let x = expression part (in_role env role) in
    let layered = layer_is e (form.Arrow part c.in-Arrow.name) (ExprForm-F.Arrow part c.in-Arrow.name) c.in-Arrow.is (form.rolls-Arrow part c.in-Arrow.name) in
    arm_one at_end c.args.checker.now c.judge_operand-in-Arrow.new.checker c.settle_arrow.new.self c.args.stands (operand_in c.args.stands.in_size) e part env c.in_ok-a-in-Arrow.a found role
    (ExprForm-F.Arrow part c.in-Arrow.name) (λ x. ExprForm-F.Arrow x c.in-Arrow.name) is (subst (λ part. Judges c.args.checker.now c.judge_operand-in-Arrow.new.checker (operand_in c.args.stands.in_size) part c.in_ok-a-in-Arrow.a) c.get-in-Arrow.ensures c.in_ok-a-in-Arrow.ensures.judged) refl refl layered refl refl refl
    (λ behind size is_behind operand. settled env behind x is_behind (λ code. ap (λ l. breach_at (plainly l) code) layered) operand)) c.settle_arrow.ensures

pub expressions::judge_form-returns-in_ok-a-in-Paren : goal.expressions::judge_form-returns-in_ok-a-in-Paren
expressions::judge_form-returns-in_ok-a-in-Paren t c = IfOk-weaker c.settle_paren.result _ _ (λ found settled at_end env is.
    let e = c.args.e.now in
    let part = c.in-Paren.inner in
    let role = role_in_parentheses env.role in
    let x = expression part (in_role env role) in
    let layered = layer_is e (form.Paren part) (ExprForm-F.Paren part) c.in-Paren.is (form.rolls-Paren part) in
    arm_one at_end c.args.checker.now c.judge-in-Paren.new.checker c.settle_paren.new.self c.args.stands c.in_parentheses-inside.result e part env c.in_ok-a-in-Paren.a found role
    (ExprForm-F.Paren part) (λ x. ExprForm-F.Paren x) is
    (subst (λ part. Judges c.args.checker.now c.judge-in-Paren.new.checker c.in_parentheses-inside.result part c.in_ok-a-in-Paren.a) c.get-in-Paren.ensures c.in_ok-a-in-Paren.ensures.judged) (c.in_parentheses-inside.ensures.value ∙ ap role_in_parentheses is.role) c.in_parentheses-inside.ensures.in_size layered refl refl refl
    (λ behind size is_behind operand. settled env behind x is_behind (λ code. ap (λ l. breach_at (plainly l) code) layered) operand)) c.settle_paren.ensures

pub expressions::judge_form-returns-in-Number : goal.expressions::judge_form-returns-in-Number
expressions::judge_form-returns-in-Number t c = IfOk-weaker c.settle_number.result _ _ (λ found settled at_end env is.
    let e = c.args.e.now in
    let layered = layer_is e (form.Number c.in-Number.kind c.in-Number.n) (ExprForm-F.Number c.in-Number.kind c.in-Number.n) c.in-Number.is (form.rolls-Number c.in-Number.kind c.in-Number.n) in
    arm_none at_end c.args.checker.now c.settle_number.new.self c.args.stands e env found (ExprForm-F.Number c.in-Number.kind c.in-Number.n) (ExprForm-F.Number c.in-Number.kind c.in-Number.n) c.requires.sound is layered refl refl refl
    (λ is_behind. settled env (extend env nothing) (λ code. ap (λ l. breach_at (plainly l) code) layered))) c.settle_number.ensures

pub expressions::judge_form-returns-in-Char : goal.expressions::judge_form-returns-in-Char
expressions::judge_form-returns-in-Char t c = IfOk-weaker c.settle_char.result _ _ (λ found settled at_end env is.
    let e = c.args.e.now in
    let layered = layer_is e (form.Char c.in-Char.n) (ExprForm-F.Char c.in-Char.n) c.in-Char.is (form.rolls-Char c.in-Char.n) in
    arm_none at_end c.args.checker.now c.settle_char.new.self c.args.stands e env found (ExprForm-F.Char c.in-Char.n) (ExprForm-F.Char c.in-Char.n) c.requires.sound is layered refl refl refl
    (λ is_behind.
    subst (λ n. Settles c.args.checker.now c.settle_char.new.self e env (extend env nothing) (ExprForm-F.Char n) found) (to_z-of_z w32 c.in-Char.n (search rules))
    (settled env (extend env nothing) (λ code. ap (λ l. breach_at (plainly l) code) layered)))) c.settle_char.ensures

pub expressions::judge_form-returns-in-Word : goal.expressions::judge_form-returns-in-Word
expressions::judge_form-returns-in-Word t c = IfOk-weaker c.settle_word.result _ _ (λ found settled at_end env is.
    let e = c.args.e.now in
    let layered = layer_is e (form.Word c.in-Word.name) (ExprForm-F.Word c.in-Word.name) c.in-Word.is (form.rolls-Word c.in-Word.name) in
    arm_none at_end c.args.checker.now c.settle_word.new.self c.args.stands e env found (ExprForm-F.Word c.in-Word.name) (ExprForm-F.Word c.in-Word.name) c.requires.sound is layered refl refl refl
    (λ is_behind. settled env (extend env nothing) is.is_in is_behind is.role is.role (ap plainly layered))) c.settle_word.ensures

pub expressions::judge_form-returns-in-Text : goal.expressions::judge_form-returns-in-Text
expressions::judge_form-returns-in-Text t c = IfOk-weaker c.settle_text.result _ _ (λ found settled at_end env is.
    let e = c.args.e.now in
    let layered = layer_is e (form.Text c.in-Text.bytes) (ExprForm-F.Text c.in-Text.bytes) c.in-Text.is (form.rolls-Text c.in-Text.bytes) in
    arm_none at_end c.args.checker.now c.settle_text.new.self c.args.stands e env found (ExprForm-F.Text c.in-Text.bytes) (ExprForm-F.Text c.in-Text.bytes) c.requires.sound is layered refl refl refl
    (λ is_behind.
    subst (λ bytes. Settles c.args.checker.now c.settle_text.new.self e env (extend env nothing) (ExprForm-F.Text bytes) found) c.list-in-Text.ensures
    (settled env (extend env nothing) (λ code. ap (λ l. breach_at (plainly l) code) layered)))) c.settle_text.ensures

pub expressions::judge_form-returns-in_ok-a-in-Assign : goal.expressions::judge_form-returns-in_ok-a-in-Assign
expressions::judge_form-returns-in_ok-a-in-Assign t c = IfOk-weaker c.settle_assign.result _ _ (λ found settled at_end env is.
    let e = c.args.e.now in
    let op = c.in-Assign.op in
    let left = c.in-Assign.left in
    let right = c.in-Assign.right in
    let inner = behind_left op left env in
    let x = expression left (as_operand env) in
    let y = expression right inner in
    let layered = layer_is e (form.Assign op left right) (ExprForm-F.Assign op left right) c.in-Assign.is (form.rolls-Assign op left right) in
    let sides =
    (subst (λ l. JudgesSides c.args.checker.now c.judge_sides.new.checker op c.args.stands.in_size l right c.in_ok-a-in-Assign.a c.in_ok-a-in-Assign.b) c.get-in-Assign.ensures
    (subst (λ r. JudgesSides c.args.checker.now c.judge_sides.new.checker op c.args.stands.in_size c.get-in-Assign.result.now r c.in_ok-a-in-Assign.a c.in_ok-a-in-Assign.b) c.get-in-Assign-2.ensures c.in_ok-a-in-Assign.ensures.judged)) in
    arm_two at_end c.args.checker.now c.judge_sides.new.checker c.settle_assign.new.self e left right env inner c.in_ok-a-in-Assign.a c.in_ok-a-in-Assign.b found
    (ExprForm-F.Assign op left right) (ExprForm-F.Assign op x y) (sides at_end env is.is_in is.in_size) layered refl refl refl
    (λ behind is_behind first second. settled env behind x y is_behind (λ code. ap (λ l. breach_at (plainly l) code) layered) first second)) c.settle_assign.ensures

pub expressions::judge_form-settle_choice-requires-clause-condition : goal.expressions::judge_form-settle_choice-requires-clause-condition
expressions::judge_form-settle_choice-requires-clause-condition t c =
    operand_further c.judge_operand.new.checker.types c.judge_two-in-Choice.new.checker.types c.in_ok-c-in-Choice.c c.in_ok-a-in-Choice.ensures.further.longer c.in_ok-c-in-Choice.ensures.operand

pub expressions::judge_form-returns-in_ok-a-in-Choice : goal.expressions::judge_form-returns-in_ok-a-in-Choice
expressions::judge_form-returns-in_ok-a-in-Choice t c = IfOk-weaker c.settle_choice.result _ _ (λ found settled at_end env is.
    let e = c.args.e.now in
    let condition = c.in-Choice.condition in
    let taken = c.in-Choice.taken in
    let other = c.in-Choice.other in
    let old = c.args.checker.now in
    let middle = c.judge_operand.new.checker in
    let last = c.judge_two-in-Choice.new.checker in
    let in_size = c.args.stands.in_size in
    let layered = layer_is e (form.Choice condition taken other) (ExprForm-F.Choice condition taken other) c.in-Choice.is (form.rolls-Choice condition taken other) in
    arm_three at_end old middle last c.settle_choice.new.self c.args.stands e condition taken other env c.in_ok-c-in-Choice.c c.in_ok-a-in-Choice.a c.in_ok-a-in-Choice.b found is
    (subst (λ part. Judges old middle (operand_in in_size) part c.in_ok-c-in-Choice.c) c.get-in-Choice.ensures c.in_ok-c-in-Choice.ensures.judged)
    (subst (λ l. JudgesTwo middle last in_size l other c.in_ok-a-in-Choice.a c.in_ok-a-in-Choice.b) c.get-in-Choice-2.ensures
    (subst (λ r. JudgesTwo middle last in_size c.get-in-Choice-2.result.now r c.in_ok-a-in-Choice.a c.in_ok-a-in-Choice.b) c.get-in-Choice-3.ensures c.in_ok-a-in-Choice.ensures.judged)) layered
    (λ env behind z x y is_behind one two three. settled env behind z x y is_behind (λ code. ap (λ l. breach_at (plainly l) code) layered) one two three)) c.settle_choice.ensures

pub expressions::judge_form-returns-in_ok-a-in-Cast : goal.expressions::judge_form-returns-in_ok-a-in-Cast
expressions::judge_form-returns-in_ok-a-in-Cast t c = IfOk-weaker c.settle_cast.result _ _ (λ found settled at_end env is.
    let e = c.args.e.now in
    let n = c.in-Cast.target in
    let operand = c.in-Cast.operand in
    let old = c.args.checker.now in
    let middle = c.type_name.new.checker in
    let last = c.judge.new.checker in
    let inner = c.in_cast-inner.result in
    let layered = layer_is e (form.Cast n operand) (ExprForm-F.Cast n operand) c.in-Cast.is (form.rolls-Cast n operand) in
    arm_cast at_end old middle last c.settle_cast.new.self c.args.stands inner e operand n env c.in_ok-t-in-Cast.t c.in_ok-a-in-Cast.a found is
    (subst (λ n. NamesType old middle c.args.stands.in_size n c.in_ok-t-in-Cast.t) c.get-in-Cast.ensures c.in_ok-t-in-Cast.ensures.named) c.in_ok-t-in-Cast.ensures.known
    (c.in_cast-inner.ensures.value middle.types) c.in_cast-inner.ensures.in_size
    (subst (λ part. Judges middle last inner part c.in_ok-a-in-Cast.a) c.get-in-Cast-2.ensures c.in_ok-a-in-Cast.ensures.judged) layered
    (λ behind x y is_behind target operand. settled env behind x y is_behind (λ code. ap (λ l. breach_at (plainly l) code) layered) target operand)) c.settle_cast.ensures

pub expressions::judge_form-settle_cast-requires-clause-target : goal.expressions::judge_form-settle_cast-requires-clause-target
expressions::judge_form-settle_cast-requires-clause-target t c =
    named_further c.type_name.new.checker.types c.judge.new.checker.types c.in_ok-t-in-Cast.t c.in_ok-a-in-Cast.ensures.further.longer c.in_ok-t-in-Cast.ensures.known

pub expressions::judge_form-returns-in_ok-t-in-SizeofType : goal.expressions::judge_form-returns-in_ok-t-in-SizeofType
expressions::judge_form-returns-in_ok-t-in-SizeofType t c = IfOk-weaker c.settle_sizeof_type.result _ _ (λ found settled at_end env is.
    let e = c.args.e.now in
    let n = c.in-SizeofType.named in
    let old = c.args.checker.now in
    let middle = c.type_name-in-SizeofType.new.checker in
    let layered = layer_is e (form.SizeofType n) (ExprForm-F.SizeofType n) c.in-SizeofType.is (form.rolls-SizeofType n) in
    arm_sizeof_type at_end old middle c.settle_sizeof_type.new.self c.args.stands e n env c.in_ok-t-in-SizeofType.t found is
    (subst (λ n. NamesType old middle c.args.stands.in_size n c.in_ok-t-in-SizeofType.t) c.get-in-SizeofType.ensures c.in_ok-t-in-SizeofType.ensures.named) layered
    (λ behind x is_behind size named. settled env behind x is_behind (λ code. ap (λ l. breach_at (plainly l) code) layered) (is.in_size ∙ sym size) named)) c.settle_sizeof_type.ensures

pub expressions::judge_form-returns-in_ok-given-in-Call : goal.expressions::judge_form-returns-in_ok-given-in-Call
expressions::judge_form-returns-in_ok-given-in-Call t c = IfOk-weaker c.settle_call.result _ _ (λ found settled at_end env is.
    let e = c.args.e.now in
    let function = c.in-Call.function in
    let arguments = c.in-Call.arguments in
    let old = c.args.checker.now in
    let middle = c.judge_function.new.checker in
    let last = c.judge_arguments.new.checker in
    let f = c.in_ok-f-in-Call.f in
    let given = c.in_ok-given-in-Call.given in
    let layered = layer_is e (form.Call function arguments) (ExprForm-F.Call function arguments) c.in-Call.is (form.rolls-Call function arguments) in
    arm_call at_end old middle last c.settle_call.new.self c.args.stands e function arguments env f given found c.requires.sound c.requires.role is
    (subst (λ part. Judges old middle (function_in c.args.stands.in_size) part f) c.get-in-Call.ensures c.in_ok-f-in-Call.ensures.judged)
    (subst (λ es. JudgesArguments middle last c.args.stands.in_size f es given) c.list.ensures c.in_ok-given-in-Call.ensures.judged) layered
    (λ behind x ys outside role function given. settled env behind x ys (λ code. ap (λ l. breach_at (plainly l) code) layered) outside role function given)) c.settle_call.ensures

pub expressions::judge_form-settle_call-requires-clause-role : goal.expressions::judge_form-settle_call-requires-clause-role
expressions::judge_form-settle_call-requires-clause-role t c =
    role_known_further c.args.checker.now.types c.judge_arguments.new.checker.types c.args.stands.role
    (longer_then c.args.checker.now.types c.judge_function.new.checker.types c.judge_arguments.new.checker.types c.in_ok-f-in-Call.ensures.further.longer c.in_ok-given-in-Call.ensures.further.longer) c.requires.role

pub expressions::judge_form-settle_call-requires-clause-function : goal.expressions::judge_form-settle_call-requires-clause-function
expressions::judge_form-settle_call-requires-clause-function t c =
    operand_further c.judge_function.new.checker.types c.judge_arguments.new.checker.types c.in_ok-f-in-Call.f c.in_ok-given-in-Call.ensures.further.longer c.in_ok-f-in-Call.ensures.operand

pub expressions::judge_two-returns-clause-judged : goal.expressions::judge_two-returns-clause-judged
expressions::judge_two-returns-clause-judged t c =
    two_judged c.args.checker.now c.judge_operand.new.checker c.judge_operand-2.new.checker (operand_in c.args.in_size) (operand_in c.args.in_size) c.args.in_size c.args.left.now c.args.right.now
    c.in_ok-first.first c.in_ok-second.second refl refl refl refl c.in_ok-first.ensures.judged c.in_ok-second.ensures.judged

pub expressions::judge_two-returns-clause-further : goal.expressions::judge_two-returns-clause-further
expressions::judge_two-returns-clause-further t c =
    on.then_further c.args.checker.now c.judge_operand.new.checker c.judge_operand-2.new.checker c.in_ok-first.ensures.further c.in_ok-second.ensures.further

pub expressions::judge_two-returns-clause-first : goal.expressions::judge_two-returns-clause-first
expressions::judge_two-returns-clause-first t c =
    operand_further c.judge_operand.new.checker.types c.judge_operand-2.new.checker.types c.in_ok-first.first c.in_ok-second.ensures.further.longer c.in_ok-first.ensures.operand

pub expressions::judge_sides-returns-clause-judged : goal.expressions::judge_sides-returns-clause-judged
expressions::judge_sides-returns-clause-judged t c =
    sides_judged c.args.checker.now c.judge_operand.new.checker c.judge.new.checker (operand_in c.args.in_size) c.on_right-stands.result c.args.op c.args.in_size c.args.left.now c.args.right.now
    c.in_ok-first.first c.in_ok-second.second refl c.on_right-stands.ensures.in_size refl c.on_right-stands.ensures.value c.in_ok-first.ensures.judged c.in_ok-second.ensures.judged

pub expressions::judge_sides-returns-clause-further : goal.expressions::judge_sides-returns-clause-further
expressions::judge_sides-returns-clause-further t c =
    on.then_further c.args.checker.now c.judge_operand.new.checker c.judge.new.checker c.in_ok-first.ensures.further c.in_ok-second.ensures.further

pub expressions::judge_sides-returns-clause-first : goal.expressions::judge_sides-returns-clause-first
expressions::judge_sides-returns-clause-first t c =
    operand_further c.judge_operand.new.checker.types c.judge.new.checker.types c.in_ok-first.first c.in_ok-second.ensures.further.longer c.in_ok-first.ensures.operand

pub arguments::judge_arguments-loop-index-init : goal.arguments::judge_arguments-loop-index-init
arguments::judge_arguments-loop-index-init t c = none_argued c.args.checker.now c.args.f.now c.args.in_size c.none-given.result c.requires.sound c.requires.function c.none-given.ensures

pub arguments::judge_arguments-loop-index-preserved : goal.arguments::judge_arguments-loop-index-preserved
arguments::judge_arguments-loop-index-preserved t c =
    let old = c.args.checker.now in
    let middle = c.loop-index.checker in
    let new = c.judge.new.checker in
    let f = c.args.f.now in
    let in_size = c.args.in_size in
    let es = c.args.arguments.now in
    let i = c.loop-index.index in
    let e = c.index-arguments-index.result in
    let before = c.loop-index.given in
    let after = c.add.new.self in
    let so_far = c.loop-index.invariant in
    subst (λ list. AreArgued old new f in_size list after) (argument_taken es i e c.index-arguments-index.is c.loop-index-test.true)
    (argued_then old middle new f in_size (take i es) i e before after c.requires.sound so_far (length-take-le i es (omega (arith, c.loop-index-test.true)))
    (argument_judged middle new f in_size i e before after c.as_argument-stands.result c.in_ok-a.a so_far.further.sound c.as_argument-stands.ensures.stands c.in_ok-a.ensures.judged c.in_ok-add.ensures.given)
    c.in_ok-a.ensures.further (λ operands. c.in_ok-add.ensures.operands new.types (operands_longer middle.types new.types before c.in_ok-a.ensures.further.longer operands) c.in_ok-a.ensures.operand))

pub arguments::judge_arguments-returns-clause-judged : goal.arguments::judge_arguments-returns-clause-judged
arguments::judge_arguments-returns-clause-judged t c =
    let es = c.args.arguments.now in
    subst (λ list. JudgesArguments c.args.checker.now c.loop-index.checker c.args.in_size c.args.f.now list c.loop-index.given) (take_all c.loop-index.index es (omega (arith, c.loop-index-test.false))) c.loop-index.invariant.judged

pub expressions::judge_two-judge_operand-requires-2 : goal.expressions::judge_two-judge_operand-requires-2
expressions::judge_two-judge_operand-requires-2 t c = (search rules, c.in_ok-first.ensures.further.sound)

pub expressions::judge_sides-judge-requires : goal.expressions::judge_sides-judge-requires
expressions::judge_sides-judge-requires t c = (search rules, (c.in_ok-first.ensures.further.sound, c.on_right-stands.ensures.known))

pub specifying::specifiers-loop-s-init : goal.specifying::specifiers-loop-s-init
specifying::specifiers-loop-s-init t c =
    (c.requires, gathers.leaves_all c.args.checker.now c.args.in_size c.args.alone c.args.list.now c.new-gathered.result c.new-gathered.ensures)

pub specifying::specifiers-loop-s-preserved : goal.specifying::specifiers-loop-s-preserved
specifying::specifiers-loop-s-preserved t c =
    let old = c.args.checker.now in
    let now = c.loop-s.checker in
    let next = c.specifier.new.checker in
    let ss = c.args.list.now in
    let i = c.loop-s.s-index in
    let s = c.s-item.result in
    let between = c.loop-s.gathered in
    let after = c.specifier.new.out in
    let gathered = c.in_ok-specifier.ensures in (
      (gathers.gathers_further now next c.args.in_size c.args.alone s between after gathered).sound,
      gathers.leaves_rest old now next c.args.in_size c.args.alone ss s (drop (i + 1) ss) between after
          (subst (λ rest. gathers.LeavesSpecifiers old now c.args.in_size c.args.alone ss rest between) (drop_next ss i s c.s-item.is c.loop-s-test.true) c.loop-s.invariant.1) gathered,
    )

pub specifying::specifiers-returns-clause-specified : goal.specifying::specifiers-returns-clause-specified
specifying::specifiers-returns-clause-specified t c =
    let old = c.args.checker.now in
    let new = c.loop-s.checker in
    let ss = c.args.list.now in
    let none = drop_none ss c.loop-s.s-index (omega (arith, c.loop-s-test.false)) in
    gathers.specifies old new (holder_of c.args.holder) c.args.in_size c.args.alone ss c.loop-s.gathered c.in_ok-specified.specified c.loop-s.invariant.0
    (subst (λ rest. gathers.LeavesSpecifiers old new c.args.in_size c.args.alone ss rest c.loop-s.gathered) none c.loop-s.invariant.1) c.in_ok-specified.ensures

pub specifying::specifiers-returns-clause-further : goal.specifying::specifiers-returns-clause-further
specifying::specifiers-returns-clause-further t c =
    gathers.specifies_further c.args.checker.now c.loop-s.checker (holder_of c.args.holder) c.args.in_size c.args.alone c.args.list.now c.in_ok-specified.specified (specifying::specifiers-returns-clause-specified t c)

pub specifying::specifiers-returns-clause-named : goal.specifying::specifiers-returns-clause-named
specifying::specifiers-returns-clause-named t c =
    gathers.specifies_named c.args.checker.now c.loop-s.checker (holder_of c.args.holder) c.args.in_size c.args.alone c.args.list.now c.in_ok-specified.specified (specifying::specifiers-returns-clause-specified t c)

pub specifying::specifiers-returns-clause-known : goal.specifying::specifiers-returns-clause-known
specifying::specifiers-returns-clause-known t c =
    gathers.specifies_known c.args.checker.now c.loop-s.checker (holder_of c.args.holder) c.args.in_size c.args.alone c.args.list.now c.in_ok-specified.specified (specifying::specifiers-returns-clause-specified t c)

pub items::items-loop-i-init : goal.items::items-loop-i-init
items::items-loop-i-init t c = (c.requires, counts.leaves_all c.args.checker.now c.args.in_size before_first c.args.list.now)

pub items::items-loop-i-preserved : goal.items::items-loop-i-preserved
items::items-loop-i-preserved t c =
    let old = c.args.checker.now in
    let now = c.loop-i.checker in
    let next = c.item.new.checker in
    let is = c.args.list.now in
    let n = c.loop-i.i-index in
    let i = c.i-item.result in
    let before = c.loop-i.before in
    let found = c.in_ok-found.found in (
      counts.counts_sound now next c.args.in_size before i found c.in_ok-found.ensures,
      subst (counts.LeavesItems old next c.args.in_size before_first found.value is (drop (n + 1) is)) (sym c.either-holds_sizeof.ensures)
          (counts.leaves_rest old now next c.args.in_size before_first before is i (drop (n + 1) is) c.loop-i.holds_sizeof found
          (subst (λ rest. counts.LeavesItems old now c.args.in_size before_first before is rest c.loop-i.holds_sizeof) (drop_next is n i c.i-item.is c.loop-i-test.true) c.loop-i.invariant.1) c.in_ok-found.ensures),
    )

pub items::items-returns : goal.items::items-returns
items::items-returns t c =
    let is = c.args.list.now in
    let none = drop_none is c.loop-i.i-index (omega (arith, c.loop-i-test.false)) in
    counts.leaves_none c.args.checker.now c.loop-i.checker c.args.in_size before_first c.loop-i.before is c.loop-i.holds_sizeof c.loop-i.invariant.0
    (subst (λ rest. counts.LeavesItems c.args.checker.now c.loop-i.checker c.args.in_size before_first c.loop-i.before is rest c.loop-i.holds_sizeof) none c.loop-i.invariant.1)

pub items::item-returns-in_ok-item-in-Some : goal.items::item-returns-in_ok-item-in-Some
items::item-returns-in_ok-item-in-Some t c = λ at_end env stands.
    let old = c.args.checker.now in
    let middle = c.judge.new.checker in
    let i = c.args.i.now in
    let e = c.in-Some.e in
    let found = c.in-Ok.found in
    let item = c.in_ok-item-in-Some.ensures in
    let judged = c.in-Ok.ensures.judged at_end env (counts.stands_as old c.operand.result c.args.in_size env c.operand.ensures.role c.operand.ensures.in_size stands) in
    let constant = counts.operand_constant at_end old middle c.args.in_size env e found stands judged in
    counts.item_by at_end old middle c.written_item.new.self env c.args.before i c.in_ok-item-in-Some.item (record { spot = (out-Item i).spot; ordinal = (out-Item i).ordinal })
    (Some e) (written_rules (constant_found found)) (is_some found.typing) c.in-Some.is refl (counts.operand_walks at_end old middle c.args.in_size env e found stands judged)
    (item.value ∙ ap written_value constant) (item.holds_sizeof ∙ counts.operand_holds at_end old middle c.args.in_size env e found stands judged) (ap written_rules constant)
    (counts.operand_typed at_end old middle c.args.in_size env e found stands judged) item.settled

pub items::item-returns-in_ok-item-in-None : goal.items::item-returns-in_ok-item-in-None
items::item-returns-in_ok-item-in-None t c = λ at_end env stands.
    let old = c.args.checker.now in
    let i = c.args.i.now in
    let item = c.in_ok-item-in-None.ensures in
    counts.item_by at_end old old c.counted_item.new.self env c.args.before i c.in_ok-item-in-None.item (record { spot = (out-Item i).spot; ordinal = (out-Item i).ordinal })
    None (counted_rules c.args.before) true c.in-None.is refl (no_walk at_end old env c.requires stands.is_in) item.value item.holds_sizeof refl refl item.settled

pub specifying::specifier-returns-in_ok-put_storage-in-Storage : goal.specifying::specifier-returns-in_ok-put_storage-in-Storage
specifying::specifier-returns-in_ok-put_storage-in-Storage t c = λ at_end env stands.
    let old = c.args.checker.now in
    let s = c.args.specifier.now in
    let word = c.in-Storage.word in
    let before = c.args.out.now in
    let after = c.put_storage.new.self in
    arm at_end old old env c.args.alone s before after (Specifier-F.Storage word) (spec_layer s (specifier_form.Storage word) (Specifier-F.Storage word) c.in-Storage.is (specifier_form.rolls-Storage word))
    (word_gathered at_end old env (record no_specifier { storages = word ∷ [] }) before after refl c.requires stands.is_in
    (λ others codes g. storage_put old.types after others codes word (c.in_ok-put_storage-in-Storage.ensures old.types others codes g)))

pub specifying::specifier-returns-in-Inline : goal.specifying::specifier-returns-in-Inline
specifying::specifier-returns-in-Inline t c = λ at_end env stands.
    let old = c.args.checker.now in
    let s = c.args.specifier.now in
    let before = c.args.out.now in
    arm at_end old old env c.args.alone s before before Specifier-F.Inline (spec_layer s specifier_form.Inline Specifier-F.Inline c.in-Inline.is specifier_form.rolls-Inline)
    (word_gathered at_end old env no_specifier before before refl c.requires stands.is_in (nothing_put old.types before))

pub specifying::specifier-returns-in-Qualifier : goal.specifying::specifier-returns-in-Qualifier
specifying::specifier-returns-in-Qualifier t c = λ at_end env stands.
    let old = c.args.checker.now in
    let s = c.args.specifier.now in
    let before = c.args.out.now in
    arm at_end old old env c.args.alone s before before (Specifier-F.Qualifier _) (spec_layer s (specifier_form.Qualifier _) (Specifier-F.Qualifier _) c.in-Qualifier.is (specifier_form.rolls-Qualifier _))
    (word_gathered at_end old env no_specifier before before refl c.requires stands.is_in (nothing_put old.types before))

pub specifying::specifier-returns-in_ok-put_word-in-Type : goal.specifying::specifier-returns-in_ok-put_word-in-Type
specifying::specifier-returns-in_ok-put_word-in-Type t c = λ at_end env stands.
    let old = c.args.checker.now in
    let s = c.args.specifier.now in
    let word = c.in-Type.word in
    let before = c.args.out.now in
    let after = c.put_word.new.self in
    arm at_end old old env c.args.alone s before after (Specifier-F.Type word) (spec_layer s (specifier_form.Type word) (Specifier-F.Type word) c.in-Type.is (specifier_form.rolls-Type word))
    (word_gathered at_end old env (record no_specifier { words = word ∷ [] }) before after refl c.requires stands.is_in
    (λ others codes g. word_put old.types after others codes word (c.in_ok-put_word-in-Type.ensures old.types others codes g)))

pub specifying::specifier-returns-in_ok-struct_defined-in-Struct : goal.specifying::specifier-returns-in_ok-struct_defined-in-Struct
specifying::specifier-returns-in_ok-struct_defined-in-Struct t c = λ at_end env stands.
    let old = c.args.checker.now in
    let new = c.struct_defined.new.checker in
    let s = c.args.specifier.now in
    let tag = c.in-Struct.tag in
    let ms = c.in-Struct.members in
    let before = c.args.out.now in
    let after = c.struct_defined.new.out in
    arm_begins at_end old new env c.args.alone s before after (Specifier-F.Struct tag ms) (spec_layer s (specifier_form.Struct tag ms) (Specifier-F.Struct tag ms) c.in-Struct.is (specifier_form.rolls-Struct tag ms))
    (subst (λ tag. GathersStruct old new c.args.in_size tag ms before after) c.as_ref.ensures.value
    (subst (λ ms. GathersStruct old new c.args.in_size (option_copied c.as_ref.result) ms before after) c.list.ensures c.in_ok-struct_defined-in-Struct.ensures) at_end env stands)

pub specifying::specifier-returns-in_ok-struct_named-in-StructTag : goal.specifying::specifier-returns-in_ok-struct_named-in-StructTag
specifying::specifier-returns-in_ok-struct_named-in-StructTag t c = λ at_end env stands.
    let old = c.args.checker.now in
    let new = c.struct_named.new.self in
    let s = c.args.specifier.now in
    let name = c.in-StructTag.name in
    let before = c.args.out.now in
    let after = c.struct_named.new.out in
    let named = c.in_ok-struct_named-in-StructTag.ensures in
    arm_begins at_end old new env c.args.alone s before after (Specifier-F.StructTag name) (spec_layer s (specifier_form.StructTag name) (Specifier-F.StructTag name) c.in-StructTag.is (specifier_form.rolls-StructTag name))
    (begun_gathered (struct_begun env c.args.alone (Specifier-F.StructTag name)) at_end old new env (struct_named env (struct_use c.args.alone) name) (tag_rules env (struct_use c.args.alone) name) before after
    (alone_further old new named.grows named.begun) named.grows.kept (named.tag env stands.is_in) (named.put env stands.is_in))

pub specifying::specifier-returns-in_ok-enum_defined-in-Enum : goal.specifying::specifier-returns-in_ok-enum_defined-in-Enum
specifying::specifier-returns-in_ok-enum_defined-in-Enum t c = λ at_end env stands.
    let old = c.args.checker.now in
    let new = c.enum_defined.new.checker in
    let s = c.args.specifier.now in
    let tag = c.in-Enum.tag in
    let is = c.in-Enum.items in
    let before = c.args.out.now in
    let after = c.enum_defined.new.out in
    arm at_end old new env c.args.alone s before after (Specifier-F.Enum tag is) (spec_layer s (specifier_form.Enum tag is) (Specifier-F.Enum tag is) c.in-Enum.is (specifier_form.rolls-Enum tag is))
    (subst (λ tag. GathersEnum old new c.args.in_size tag is before after) c.as_ref-in-Enum.ensures.value
    (subst (λ is. GathersEnum old new c.args.in_size (option_copied c.as_ref-in-Enum.result) is before after) c.list-in-Enum.ensures c.in_ok-enum_defined-in-Enum.ensures) at_end env stands)

pub specifying::specifier-returns-in_ok-enum_named-in-EnumTag : goal.specifying::specifier-returns-in_ok-enum_named-in-EnumTag
specifying::specifier-returns-in_ok-enum_named-in-EnumTag t c = λ at_end env stands.
    let old = c.args.checker.now in
    let s = c.args.specifier.now in
    let name = c.in-EnumTag.name in
    let before = c.args.out.now in
    let after = c.enum_named.new.out in
    arm at_end old old env c.args.alone s before after (Specifier-F.EnumTag name) (spec_layer s (specifier_form.EnumTag name) (Specifier-F.EnumTag name) c.in-EnumTag.is (specifier_form.rolls-EnumTag name))
    (named_gathered at_end old old env (enum_named env name) (enum_rules env name (look_up_tag env name)) before after
    (on.same_further old c.requires) refl refl (c.in_ok-enum_named-in-EnumTag.ensures env stands.is_in))

pub specifying::specifier-returns-in-Typedef : goal.specifying::specifier-returns-in-Typedef
specifying::specifier-returns-in-Typedef t c = λ at_end env stands.
    let old = c.args.checker.now in
    let s = c.args.specifier.now in
    let name = c.in-Typedef.name in
    let before = c.args.out.now in
    let after = c.typedef_named.new.out in
    arm at_end old old env c.args.alone s before after (Specifier-F.Typedef name) (spec_layer s (specifier_form.Typedef name) (Specifier-F.Typedef name) c.in-Typedef.is (specifier_form.rolls-Typedef name))
    (named_gathered at_end old old env (of_type_alone nothing (typedef_of (look_up env name))) [] before after
    (on.same_further old c.requires) refl refl (c.typedef_named.ensures env stands.is_in))

pub specifying::struct_defined-end_struct-requires-clause-begun : goal.specifying::struct_defined-end_struct-requires-clause-begun
specifying::struct_defined-end_struct-requires-clause-begun t c = c.in_ok-found.ensures.further.begun c.in_ok-begun.begun.number c.in_ok-begun.ensures.is

pub specifying::struct_defined-returns : goal.specifying::struct_defined-returns
specifying::struct_defined-returns t c = λ at_end env stands.
    let begins = c.in_ok-begun.ensures in
    let ends = c.in_ok-end_struct.ensures in
    struct_gathered at_end c.args.checker.now c.begin_struct.new.self c.members.new.checker c.end_struct.new.self c.args.in_size env (option_copied c.args.tag) c.args.list.now c.in_ok-begun.begun c.in_ok-found.found
    c.args.out.now c.begin_struct.new.out c.end_struct.new.out stands c.requires begins.further begins.kept (begins.tag env stands.is_in) (begins.begins env stands.is_in) c.in_ok-found.ensures.found ends.grows begins.fresh ends.others ends.behind ends.put

pub specifying::enum_defined-returns : goal.specifying::enum_defined-returns
specifying::enum_defined-returns t c = λ at_end env stands.
    let ends = c.in_ok-end_enum.ensures in
    enum_gathered at_end c.args.checker.now c.items.new.checker c.end_enum.new.self c.args.in_size env (option_copied c.args.tag) c.args.list.now c.in_ok-is_admitted.is_admitted c.in_ok-holds_sizeof.holds_sizeof
    c.args.out.now c.put_tag_use.new.out c.end_enum.new.out stands c.requires (c.in_ok-is_admitted.ensures env stands.is_in) c.in_ok-holds_sizeof.ensures ends.grows ends.structs ends.behind ends.put

pub members::members-loop-m-init : goal.members::members-loop-m-init
members::members-loop-m-init t c =
    let old = c.args.checker.now in
    (on.same_further old c.requires, c.new-found.ensures.fields old.types, finds.leaves_all old c.args.in_size c.args.list.now c.new-found.result (c.new-found.ensures.members old.types))

pub members::members-loop-m-preserved : goal.members::members-loop-m-preserved
members::members-loop-m-preserved t c =
    let old = c.args.checker.now in
    let now = c.loop-m.checker in
    let next = c.member.new.checker in
    let ms = c.args.list.now in
    let i = c.loop-m.m-index in
    let m = c.m-item.result in
    let one = c.in_ok-member.ensures in (
      on.then_further old now next c.loop-m.invariant.0 one.further,
      one.fields,
      finds.leaves_rest old now next c.args.in_size ms m (drop (i + 1) ms) c.loop-m.found c.member.new.out
          (subst (λ rest. finds.LeavesMembers old now c.args.in_size ms rest c.loop-m.found) (drop_next ms i m c.m-item.is c.loop-m-test.true) c.loop-m.invariant.2) one.found,
    )

pub members::members-returns-clause-found : goal.members::members-returns-clause-found
members::members-returns-clause-found t c =
    let ms = c.args.list.now in
    let none = drop_none ms c.loop-m.m-index (omega (arith, c.loop-m-test.false)) in
    finds.leaves_none c.args.checker.now c.loop-m.checker c.args.in_size ms c.loop-m.found c.loop-m.invariant.0.sound
    (subst (λ rest. finds.LeavesMembers c.args.checker.now c.loop-m.checker c.args.in_size ms rest c.loop-m.found) none c.loop-m.invariant.2)

pub members::member_declarators-loop-d-init : goal.members::member_declarators-loop-d-init
members::member_declarators-loop-d-init t c =
    let old = c.args.checker.now in
    (c.requires.sound, c.requires.left, on.same_further old c.requires.sound, c.requires.fields, finds.begins_declarators old c.args.in_size c.args.left.now c.args.list.now c.args.out.now)

pub members::member_declarators-loop-d-preserved : goal.members::member_declarators-loop-d-preserved
members::member_declarators-loop-d-preserved t c =
    let old = c.args.checker.now in
    let now = c.loop-d.checker in
    let next = c.member_declarator.new.checker in
    let left = c.args.left.now in
    let ds = c.args.list.now in
    let i = c.loop-d.d-index in
    let d = c.d-item.result in
    let one = c.in_ok-is_typed.ensures in
    let further = c.loop-d.invariant.2 in
    let after = on.then_further old now next further one.further in (
      after.sound,
      finds.left_stays old next left after c.requires.sound c.requires.left,
      after,
      one.fields,
      subst (finds.LeavesDeclarators old next c.args.in_size left ds (drop (i + 1) ds) c.args.out.now c.member_declarator.new.out) (sym c.both-are_typed.ensures)
          (finds.next_declarator old now next c.args.in_size left ds d (drop (i + 1) ds) c.args.out.now c.loop-d.out c.member_declarator.new.out c.loop-d.are_typed c.in_ok-is_typed.is_typed
          further.sound.ready.table_is one.further.longer c.loop-d.invariant.1
          (subst (λ rest. finds.LeavesDeclarators old now c.args.in_size left ds rest c.args.out.now c.loop-d.out c.loop-d.are_typed) (drop_next ds i d c.d-item.is c.loop-d-test.true) c.loop-d.invariant.4) one.declared),
    )

pub members::member_declarators-returns-clause-declared : goal.members::member_declarators-returns-clause-declared
members::member_declarators-returns-clause-declared t c =
    let old = c.args.checker.now in
    let new = c.loop-d.checker in
    let ds = c.args.list.now in
    let none = drop_none ds c.loop-d.d-index (omega (arith, c.loop-d-test.false)) in
    finds.ends_declarators old new c.args.in_size c.args.left.now ds c.args.out.now c.loop-d.out c.loop-d.are_typed c.loop-d.invariant.0
    (subst (λ rest. finds.LeavesDeclarators old new c.args.in_size c.args.left.now ds rest c.args.out.now c.loop-d.out c.loop-d.are_typed) none c.loop-d.invariant.4)

pub members::member-put_specified-requires : goal.members::member-put_specified-requires
members::member-put_specified-requires t c =
    fields_grow c.args.checker.now.types c.specifiers.new.checker.types c.requires.sound.ready.table_is c.in_ok-told.ensures.further.longer c.args.out.now c.requires.fields

pub members::member-returns-clause-found : goal.members::member-returns-clause-found
members::member-returns-clause-found t c = λ at_end env others stands members.
    let m = c.args.m.now in
    finds.member_walked at_end c.args.checker.now c.specifiers.new.checker c.member_declarators.new.checker c.keep_member.new.self c.args.in_size env m others c.in_ok-told.told c.args.out.now c.put_specified.new.out c.member_declarators.new.out
    (record { spot = m.spot; ordinal = m.ordinal }) c.in_ok-are_typed.are_typed c.requires.sound c.requires.fields stands members refl
    (subst (λ ss. AreSpecified at_end c.args.checker.now c.specifiers.new.checker env InType false ss c.in_ok-told.told) c.list.ensures (c.in_ok-told.ensures.specified at_end env stands))
    (ap (λ (m : MembersFound). m.fields) c.put_specified.ensures.put) (ap (λ (m : MembersFound). m.is_sound) c.put_specified.ensures.put) (ap (λ (m : MembersFound). m.holds_sizeof) c.put_specified.ensures.put)
    (subst (λ ds. DeclaresMembers c.specifiers.new.checker c.member_declarators.new.checker c.args.in_size c.in_ok-told.told.ty ds c.put_specified.new.out c.member_declarators.new.out c.in_ok-are_typed.are_typed) c.list-2.ensures
    c.in_ok-are_typed.ensures.declared)
    c.in_ok-keep_member.ensures.same
    (subst (λ b. KeepsAt c.member_declarators.new.checker c.keep_member.new.self (record { spot = m.spot; ordinal = m.ordinal }) (if c.in_ok-are_typed.are_typed then breaches_in c.in_ok-told.told.breaches.items ++ (if b then breach BitField ∷ [] else []) else []))
    (c.has_bit_field-has_bit_field.ensures ∙ ap has_bit_field c.list-3.ensures)
    (subst (λ bs. KeepsAt c.member_declarators.new.checker c.keep_member.new.self (record { spot = m.spot; ordinal = m.ordinal }) (if c.in_ok-are_typed.are_typed then breaches_in bs ++ (if c.has_bit_field-has_bit_field.result then breach BitField ∷ [] else []) else []))
    c.as_slice.ensures.value c.in_ok-keep_member.ensures.kept))

pub members::member-returns-clause-further : goal.members::member-returns-clause-further
members::member-returns-clause-further t c =
    let one = c.in_ok-told.ensures.further in
    let two = c.in_ok-are_typed.ensures.further in
    same_further c.args.checker.now c.member_declarators.new.checker c.keep_member.new.self (on.then_further c.args.checker.now c.specifiers.new.checker c.member_declarators.new.checker one two) c.in_ok-keep_member.ensures.same

pub members::member-returns-clause-fields : goal.members::member-returns-clause-fields
members::member-returns-clause-fields t c =
    subst (λ table. HasFields table c.member_declarators.new.out) (sym c.in_ok-keep_member.ensures.same.types) c.in_ok-are_typed.ensures.fields

pub members::member_declarator-returns-in_ok-field-in-Plain-clause-declared : goal.members::member_declarator-returns-in_ok-field-in-Plain-clause-declared
members::member_declarator-returns-in_ok-field-in-Plain-clause-declared t c = λ at_end env specified others stands same members.
    let d = c.args.d.now in
    let inner = c.in-Plain.inner in
    finds.member_arm at_end c.args.checker.now c.field.new.checker env specified others d c.field.new.out true (MemberDeclarator-F.Plain inner)
    (finds.member_layer d (member.Plain inner) (MemberDeclarator-F.Plain inner) c.in-Plain.is (member.rolls-Plain inner))
    (record { found = c.in_ok-field-in-Plain.ensures.declared at_end env specified others stands same members; typed = refl })

pub members::member_declarator-returns-in_ok-is_typed-in-Field-clause-declared : goal.members::member_declarator-returns-in_ok-is_typed-in-Field-clause-declared
members::member_declarator-returns-in_ok-is_typed-in-Field-clause-declared t c = λ at_end env specified others stands same members.
    let d = c.args.d.now in
    let inner = c.in-Field.inner in
    let width = c.in-Field.bits in
    finds.member_arm at_end c.args.checker.now c.width.new.checker env specified others d c.width.new.out c.in_ok-is_typed-in-Field.is_typed (MemberDeclarator-F.Field inner width)
    (finds.member_layer d (member.Field inner width) (MemberDeclarator-F.Field inner width) c.in-Field.is (member.rolls-Field inner width))
    (finds.field_then_width c.args.checker.now c.field-in-Field.new.checker c.width.new.checker c.args.in_size c.args.left.now inner width c.args.out.now c.field-in-Field.new.out c.width.new.out c.in_ok-is_typed-in-Field.is_typed
    c.in_ok-field-in-Field.ensures.declared c.in_ok-is_typed-in-Field.ensures.declared at_end env specified others stands same members)

pub members::member_declarator-returns-in_ok-is_typed-in-Unnamed-clause-declared : goal.members::member_declarator-returns-in_ok-is_typed-in-Unnamed-clause-declared
members::member_declarator-returns-in_ok-is_typed-in-Unnamed-clause-declared t c = λ at_end env specified others stands same members.
    let d = c.args.d.now in
    let width = c.in-Unnamed.bits in
    finds.member_arm at_end c.args.checker.now c.width-in-Unnamed.new.checker env specified others d c.width-in-Unnamed.new.out c.in_ok-is_typed-in-Unnamed.is_typed (MemberDeclarator-F.Unnamed width)
    (finds.member_layer d (member.Unnamed width) (MemberDeclarator-F.Unnamed width) c.in-Unnamed.is (member.rolls-Unnamed width))
    (c.in_ok-is_typed-in-Unnamed.ensures.declared at_end env others stands members)

pub members::field-returns-clause-declared : goal.members::field-returns-clause-declared
members::field-returns-clause-declared t c =
    finds.declares_field c.args.checker.now c.declarator.new.checker c.put_member.new.self c.args.in_size c.args.left.now c.args.is_bit_field c.args.d.now (record { may_be_absent = false; in_size = c.args.in_size })
    c.in_ok-found.found c.args.out.now c.put_member.new.out refl c.requires.sound c.requires.fields c.in_ok-found.ensures.further c.in_ok-put_member.ensures.same c.in_ok-found.ensures.declared c.in_ok-put_member.ensures.puts

pub members::field-returns-clause-further : goal.members::field-returns-clause-further
members::field-returns-clause-further t c = same_further c.args.checker.now c.declarator.new.checker c.put_member.new.self c.in_ok-found.ensures.further c.in_ok-put_member.ensures.same

pub members::field-put_member-requires-clause-fields : goal.members::field-put_member-requires-clause-fields
members::field-put_member-requires-clause-fields t c =
    fields_grow c.args.checker.now.types c.declarator.new.checker.types c.requires.sound.ready.table_is c.in_ok-found.ensures.further.longer c.args.out.now c.requires.fields

pub members::width-returns-clause-declared : goal.members::width-returns-clause-declared
members::width-returns-clause-declared t c =
    let put = c.put_width-is_typed.ensures.put in
    finds.declares_width c.args.checker.now c.judge.new.checker c.args.in_size c.args.e.now c.in-Ok.found c.args.out.now c.put_width-is_typed.new.self c.put_width-is_typed.result c.requires.sound c.requires.fields
    (λ at_end env stands. c.in-Ok.ensures.judged at_end env (counts.stands_as c.args.checker.now c.operand.result c.args.in_size env c.operand.ensures.role c.operand.ensures.in_size stands))
    (ap (λ (m : MembersFound). m.fields) put) (ap (λ (m : MembersFound). m.is_sound) put) (ap (λ (m : MembersFound). m.holds_sizeof) put) c.put_width-is_typed.ensures.typed

pub members::width-returns-clause-fields : goal.members::width-returns-clause-fields
members::width-returns-clause-fields t c =
    let put = c.put_width-is_typed.ensures.put in
    fields_same c.judge.new.checker.types c.args.out.now c.put_width-is_typed.new.self
    (fields_grow c.args.checker.now.types c.judge.new.checker.types c.requires.sound.ready.table_is c.in-Ok.ensures.further.longer c.args.out.now c.requires.fields)
    (ap (λ (m : MembersFound). m.fields) put) (ap (λ (m : MembersFound). m.size) put)

pub type_names::named_type-returns-in-Some-clause-named : goal.type_names::named_type-returns-in-Some-clause-named
type_names::named_type-returns-in-Some-clause-named t c = λ at_end env stands.
    let old = c.args.checker.now in
    let first = c.specifiers.new.checker in
    let middle = c.keep_all.new.self in
    let n = c.args.n.now in
    let told = c.in_ok-told.told in
    let at_n : At = record { spot = (out-TypeName n).spot; ordinal = (out-TypeName n).ordinal } in
    let specifies = subst (λ ss. AreSpecified at_end old first env InType false ss told) c.list.ensures (c.in_ok-told.ensures.specified at_end env stands) in
    let keeps = subst (λ bs. KeepsAt first middle at_n (breaches_in bs)) c.as_slice.ensures.value c.in_ok-keep_all.ensures.kept in
    let same = c.in_ok-keep_all.ensures.same in
    let found = c.in_ok-found-in-Some.found in
    let added = (specifiers_found (out-TypeName n).specifiers env false).additions in
    named_with at_end old first middle c.declarator.new.checker c.args.in_size env n c.in-Some.d told at_n (record { may_be_absent = false; in_size = c.args.in_size }) found
    (record { ty = found.ty; holds_sizeof = c.either.result }) refl specifies same keeps c.in-Some.is refl c.in_ok-found-in-Some.ensures.further
    (c.in_ok-found-in-Some.ensures.declared at_end (extend env added) (on.stands_behind old middle c.args.in_size env added stands (in_same first middle (extend env added) same specifies.walks.behind))) refl c.either.ensures

pub type_names::named_type-returns-in-Some-clause-further : goal.type_names::named_type-returns-in-Some-clause-further
type_names::named_type-returns-in-Some-clause-further t c =
    on.then_further c.args.checker.now c.keep_all.new.self c.declarator.new.checker
    (same_further c.args.checker.now c.specifiers.new.checker c.keep_all.new.self c.in_ok-told.ensures.further c.in_ok-keep_all.ensures.same) c.in_ok-found-in-Some.ensures.further

pub type_names::named_type-returns-clause-named : goal.type_names::named_type-returns-clause-named
type_names::named_type-returns-clause-named t c = λ at_end env stands.
    let old = c.args.checker.now in
    let first = c.specifiers.new.checker in
    let middle = c.keep_all.new.self in
    let n = c.args.n.now in
    let told = c.in_ok-told.told in
    let at_n : At = record { spot = (out-TypeName n).spot; ordinal = (out-TypeName n).ordinal } in
    let specifies = subst (λ ss. AreSpecified at_end old first env InType false ss told) c.list.ensures (c.in_ok-told.ensures.specified at_end env stands) in
    let keeps = subst (λ bs. KeepsAt first middle at_n (breaches_in bs)) c.as_slice.ensures.value c.in_ok-keep_all.ensures.kept in
    let same = c.in_ok-keep_all.ensures.same in
    named_alone at_end old first middle env n told at_n (record { ty = told.ty; holds_sizeof = told.holds_sizeof }) refl specifies same keeps c.in-None.is refl refl

pub type_names::named_type-returns-clause-further : goal.type_names::named_type-returns-clause-further
type_names::named_type-returns-clause-further t c =
    same_further c.args.checker.now c.specifiers.new.checker c.keep_all.new.self c.in_ok-told.ensures.further c.in_ok-keep_all.ensures.same

pub type_names::named_type-returns-clause-known : goal.type_names::named_type-returns-clause-known
type_names::named_type-returns-clause-known t c =
    subst (λ (table : Table). IfSome c.in_ok-told.told.ty (IsKnown table)) (sym c.in_ok-keep_all.ensures.same.types) c.in_ok-told.ensures.known

pub type_names::type_name-returns-clause-named : goal.type_names::type_name-returns-clause-named
type_names::type_name-returns-clause-named t c =
    named_recorded c.args.checker.now c.named_type.new.checker c.put_named.new.self c.args.in_size c.args.n.now c.in_ok-found.found c.in_ok-put_named.ensures c.in_ok-found.ensures.known c.in_ok-found.ensures.named

pub type_names::type_name-returns-clause-further : goal.type_names::type_name-returns-clause-further
type_names::type_name-returns-clause-further t c = further_recorded c.args.checker.now c.named_type.new.checker c.put_named.new.self c.in_ok-found.ensures.further

pub specifying::enum_defined-end_enum-requires : goal.specifying::enum_defined-end_enum-requires
specifying::enum_defined-end_enum-requires t c =
    counts.counts_all_sound c.args.checker.now c.items.new.checker c.args.in_size before_first c.args.list.now c.in_ok-holds_sizeof.holds_sizeof c.in_ok-holds_sizeof.ensures

-- ---- declarators

pub declarators::declarator-returns-clause-declared : goal.declarators::declarator-returns-clause-declared
declarators::declarator-returns-clause-declared t c =
    declarator_is c.args.checker.now c.forms.new.checker c.shape_whole.new.self c.args.d.now c.args.left c.args.asked c.in_ok-walked.walked
    c.left_of-left.result c.in_ok-found.found c.requires.sound c.in_ok-walked.ensures.further c.in_ok-found.ensures.puts c.requires.left c.left_of-left.ensures.ty
    c.in_ok-walked.ensures.known c.left_of-left.ensures.is c.in_ok-walked.ensures.walked c.in_ok-found.ensures.shaped

pub declarators::declarator-returns-clause-further : goal.declarators::declarator-returns-clause-further
declarators::declarator-returns-clause-further t c =
    on.then_further c.args.checker.now c.forms.new.checker c.shape_whole.new.self c.in_ok-walked.ensures.further (on.puts_further c.forms.new.checker c.shape_whole.new.self c.in_ok-found.ensures.puts)

pub declarators::declarator-shape_whole-requires-clause-left : goal.declarators::declarator-shape_whole-requires-clause-left
declarators::declarator-shape_whole-requires-clause-left t c = on.left_known c.args.checker.now c.forms.new.checker c.requires.sound c.in_ok-walked.ensures.further c.left_of-left.result c.left_of-left.ensures.known

-- ---- their forms

pub declarators::forms-returns-in_ok-walked-in-Star-clause-walked : goal.declarators::forms-returns-in_ok-walked-in-Star-clause-walked
declarators::forms-returns-in_ok-walked-in-Star-clause-walked t c =
    let new = c.inner_forms.new.checker in
    walked.star_walks c.args.checker.now new new c.args.in_size c.args.d.now c.at_declarator-at.result c.at_declarator-at.ensures.spot c.at_declarator-at.ensures.ordinal _ c.in-Star.inner c.in_ok-inside-in-Star.inside
    c.in_ok-walked-in-Star.walked (forms.form_of c.args.d.now _ _ c.in-Star.is (shape.rolls-Star _ c.in-Star.inner)) c.in_ok-inside-in-Star.ensures.walked c.in_ok-walked-in-Star.ensures

pub declarators::forms-returns-in_ok-walked-in-Star-clause-known : goal.declarators::forms-returns-in_ok-walked-in-Star-clause-known
declarators::forms-returns-in_ok-walked-in-Star-clause-known t c =
    on.layer_known c.inner_forms.new.checker c.in_ok-inside-in-Star.inside c.in_ok-walked-in-Star.walked _ false c.in_ok-inside-in-Star.ensures.known tt c.in_ok-walked-in-Star.ensures

pub declarators::forms-returns-in-Named-clause-walked : goal.declarators::forms-returns-in-Named-clause-walked
declarators::forms-returns-in-Named-clause-walked t c =
    walked.name_walks c.args.checker.now c.args.in_size c.args.d.now _ c.new.result c.requires (forms.form_of c.args.d.now _ _ c.in-Named.is (shape.rolls-Named _)) c.new.ensures.layers c.new.ensures.is_name
    c.new.ensures.holds_sizeof c.new.ensures.parameters

pub declarators::forms-returns-in-Named-clause-further : goal.declarators::forms-returns-in-Named-clause-further
declarators::forms-returns-in-Named-clause-further t c = on.same_further c.args.checker.now c.requires

pub declarators::forms-returns-in-Named-clause-known : goal.declarators::forms-returns-in-Named-clause-known
declarators::forms-returns-in-Named-clause-known t c = on.nothing_known c.args.checker.now c.new.result c.new.ensures.layers c.new.ensures.parameters

pub declarators::forms-returns-in_ok-walked-in-Group-clause-walked : goal.declarators::forms-returns-in_ok-walked-in-Group-clause-walked
declarators::forms-returns-in_ok-walked-in-Group-clause-walked t c =
    let new = c.forms.new.checker in
    let w = c.in_ok-walked-in-Group.walked in
    walked.group_walks c.args.checker.now new c.args.in_size c.args.d.now c.in-Group.inner w (forms.form_of c.args.d.now _ _ c.in-Group.is (shape.rolls-Group c.in-Group.inner))
    (subst (λ d. WalksForms c.args.checker.now new c.args.in_size d w) c.get.ensures c.in_ok-walked-in-Group.ensures.walked)

pub declarators::forms-returns-in_ok-walked-in-ArrayOf-clause-walked : goal.declarators::forms-returns-in_ok-walked-in-ArrayOf-clause-walked
declarators::forms-returns-in_ok-walked-in-ArrayOf-clause-walked t c =
    walked.array_walks c.args.checker.now c.inner_forms-in-ArrayOf.new.checker c.array_size.new.checker c.args.in_size c.args.d.now c.at_declarator-at.result c.at_declarator-at.ensures.spot
    c.at_declarator-at.ensures.ordinal c.in-ArrayOf.inner c.in-ArrayOf.size c.in_ok-inside-in-ArrayOf.inside c.in_ok-walked-in-ArrayOf.walked c.in_ok-found-in-ArrayOf.found
    (forms.form_of c.args.d.now _ _ c.in-ArrayOf.is (shape.rolls-ArrayOf c.in-ArrayOf.inner c.in-ArrayOf.size)) c.in_ok-inside-in-ArrayOf.ensures.walked c.in_ok-inside-in-ArrayOf.ensures.known
    c.in_ok-found-in-ArrayOf.ensures.found c.in_ok-walked-in-ArrayOf.ensures

pub declarators::forms-returns-in_ok-walked-in-ArrayOf-clause-further : goal.declarators::forms-returns-in_ok-walked-in-ArrayOf-clause-further
declarators::forms-returns-in_ok-walked-in-ArrayOf-clause-further t c =
    on.then_further c.args.checker.now c.inner_forms-in-ArrayOf.new.checker c.array_size.new.checker c.in_ok-inside-in-ArrayOf.ensures.further c.in_ok-found-in-ArrayOf.ensures.further

pub declarators::forms-returns-in_ok-walked-in-ArrayOf-clause-known : goal.declarators::forms-returns-in_ok-walked-in-ArrayOf-clause-known
declarators::forms-returns-in_ok-walked-in-ArrayOf-clause-known t c =
    let inside = c.in_ok-inside-in-ArrayOf.inside in
    let middle = c.inner_forms-in-ArrayOf.new.checker in
    on.layer_known c.array_size.new.checker inside c.in_ok-walked-in-ArrayOf.walked _ c.in_ok-found-in-ArrayOf.found.holds_sizeof
    (on.walked_known middle c.array_size.new.checker c.in_ok-inside-in-ArrayOf.ensures.further.sound c.in_ok-found-in-ArrayOf.ensures.further inside c.in_ok-inside-in-ArrayOf.ensures.known) tt
    c.in_ok-walked-in-ArrayOf.ensures

pub declarators::forms-returns-in_ok-walked-in-FunctionOf-clause-walked : goal.declarators::forms-returns-in_ok-walked-in-FunctionOf-clause-walked
declarators::forms-returns-in_ok-walked-in-FunctionOf-clause-walked t c =
    let middle = c.inner_forms-in-FunctionOf.new.checker in
    let new = c.parameters.new.checker in
    let found = c.in_ok-found-in-FunctionOf.found in
    walked.function_walks c.args.checker.now middle new c.args.in_size c.args.d.now c.at_declarator-at.result c.at_declarator-at.ensures.spot c.at_declarator-at.ensures.ordinal c.in-FunctionOf.inner c.in-FunctionOf.list
    c.in-FunctionOf.dots c.in_ok-inside-in-FunctionOf.inside c.in_ok-walked-in-FunctionOf.walked found
    (forms.form_of c.args.d.now _ _ c.in-FunctionOf.is (shape.rolls-FunctionOf c.in-FunctionOf.inner c.in-FunctionOf.list c.in-FunctionOf.dots)) c.in_ok-inside-in-FunctionOf.ensures.walked
    c.in_ok-inside-in-FunctionOf.ensures.known (subst (λ ps. FindsParameters middle new c.args.in_size ps c.in-FunctionOf.dots found) c.list.ensures c.in_ok-found-in-FunctionOf.ensures.found)
    c.in_ok-walked-in-FunctionOf.ensures

pub declarators::forms-returns-in_ok-walked-in-FunctionOf-clause-further : goal.declarators::forms-returns-in_ok-walked-in-FunctionOf-clause-further
declarators::forms-returns-in_ok-walked-in-FunctionOf-clause-further t c =
    on.then_further c.args.checker.now c.inner_forms-in-FunctionOf.new.checker c.parameters.new.checker c.in_ok-inside-in-FunctionOf.ensures.further c.in_ok-found-in-FunctionOf.ensures.further

pub declarators::forms-returns-in_ok-walked-in-FunctionOf-clause-known : goal.declarators::forms-returns-in_ok-walked-in-FunctionOf-clause-known
declarators::forms-returns-in_ok-walked-in-FunctionOf-clause-known t c =
    let inside = c.in_ok-inside-in-FunctionOf.inside in
    let middle = c.inner_forms-in-FunctionOf.new.checker in
    let new = c.parameters.new.checker in
    walked.function_known new inside c.in_ok-walked-in-FunctionOf.walked c.in_ok-found-in-FunctionOf.found c.at_declarator-at.result c.in-FunctionOf.dots
    (on.walked_known middle new c.in_ok-inside-in-FunctionOf.ensures.further.sound c.in_ok-found-in-FunctionOf.ensures.further inside c.in_ok-inside-in-FunctionOf.ensures.known)
    c.in_ok-found-in-FunctionOf.ensures.known c.in_ok-walked-in-FunctionOf.ensures

-- ---- the declarator inside

pub declarators::inner_forms-returns-in_ok-walked-in-Some-clause-walked : goal.declarators::inner_forms-returns-in_ok-walked-in-Some-clause-walked
declarators::inner_forms-returns-in_ok-walked-in-Some-clause-walked t c =
    let new = c.forms.new.checker in
    let w = c.in_ok-walked-in-Some.walked in
    subst (λ o. WalksInner c.args.checker.now new c.args.in_size o w) (sym c.in-Some.is)
    (walked.inner_walks c.args.checker.now new c.args.in_size c.in-Some.inner w (subst (λ d. WalksForms c.args.checker.now new c.args.in_size d w) c.get.ensures c.in_ok-walked-in-Some.ensures.walked))

pub declarators::inner_forms-returns-in-None-clause-walked : goal.declarators::inner_forms-returns-in-None-clause-walked
declarators::inner_forms-returns-in-None-clause-walked t c =
    subst (λ o. WalksInner c.args.checker.now c.args.checker.now c.args.in_size o c.new.result) (sym c.in-None.is)
    (walked.nothing_walks c.args.checker.now c.args.in_size c.new.result c.requires c.new.ensures.layers c.new.ensures.is_name c.new.ensures.holds_sizeof c.new.ensures.parameters)

pub declarators::inner_forms-returns-in-None-clause-further : goal.declarators::inner_forms-returns-in-None-clause-further
declarators::inner_forms-returns-in-None-clause-further t c = on.same_further c.args.checker.now c.requires

pub declarators::inner_forms-returns-in-None-clause-known : goal.declarators::inner_forms-returns-in-None-clause-known
declarators::inner_forms-returns-in-None-clause-known t c = on.nothing_known c.args.checker.now c.new.result c.new.ensures.layers c.new.ensures.parameters

-- ---- parameters

pub parameters::each_parameter-loop-p-init : goal.parameters::each_parameter-loop-p-init
parameters::each_parameter-loop-p-init t c =
    let listed = c.new-listed.result in
    let e = c.new-listed.ensures in
    (on.same_further c.args.checker.now c.requires, lists.none_known c.args.checker.now.types listed e.types, listing.none_listed c.args.checker.now c.args.in_size c.args.is_lone listed c.requires e.types e.has_void e.holds_sizeof)

pub parameters::each_parameter-loop-p-preserved : goal.parameters::each_parameter-loop-p-preserved
parameters::each_parameter-loop-p-preserved t c =
    let old = c.args.checker.now in
    let now = c.loop-p.checker in
    let next = c.parameter.new.checker in
    let before = c.loop-p.listed in
    let after = c.put.new.self in
    let found = c.in_ok-found.found in
    let put = c.in_ok-put.ensures in
    let further = c.in_ok-found.ensures.further in
    let sound = c.loop-p.invariant.0.sound in
    let ps = c.args.list.now in
    let i = c.loop-p.p-index in
    let p = c.p-item.result in (
      on.then_further old now next c.loop-p.invariant.0 further,
      subst (λ ts. IfSome ts (All (IsPassed next.types))) (sym put.types)
          (lists.last_known next.types (types_listed before) found.ty (listing.params_known now next sound further (types_listed before) c.loop-p.invariant.1) c.in_ok-found.ensures.known),
      subst (λ ps. ListsParameters old next c.args.in_size c.args.is_lone ps after) (lists.take_next ps i p c.p-item.is c.loop-p-test.true)
          (listing.listed_more old now next c.args.in_size c.args.is_lone (take i ps) p before after found sound further c.loop-p.invariant.2 c.loop-p.invariant.1 c.in_ok-found.ensures.found put.types put.has_void put.holds_sizeof),
    )

pub parameters::each_parameter-returns-clause-listed : goal.parameters::each_parameter-returns-clause-listed
parameters::each_parameter-returns-clause-listed t c =
    subst (λ ps. ListsParameters c.args.checker.now c.loop-p.checker c.args.in_size c.args.is_lone ps c.loop-p.listed) (lists.take_all c.args.list.now c.loop-p.p-index c.loop-p-test.false) c.loop-p.invariant.2

pub parameters::each_parameter-returns-clause-further : goal.parameters::each_parameter-returns-clause-further
parameters::each_parameter-returns-clause-further t c = c.loop-p.invariant.0

pub parameters::each_parameter-returns-clause-known : goal.parameters::each_parameter-returns-clause-known
parameters::each_parameter-returns-clause-known t c = c.loop-p.invariant.1

pub parameters::parameters-returns-clause-found : goal.parameters::parameters-returns-clause-found
parameters::parameters-returns-clause-found t c =
    let old = c.args.checker.now in
    let first = c.enter_scope-mark.new.self in
    let second = c.each_parameter.new.checker in
    let new = c.leave_scope.new.self in
    let listed = c.in_ok-listed.listed in
    let lone = c.is_lone-is_lone.ensures in
    listing.parameters_found old first second new c.args.in_size c.args.dots c.args.list.now c.enter_scope-mark.result listed _ c.enter_scope-mark.ensures.grows c.enter_scope-mark.ensures.structs
    c.in_ok-listed.ensures.further c.in_ok-scope.ensures.grows c.in_ok-scope.ensures.structs c.enter_scope-mark.ensures.entered
    (subst (λ lone. ListsParameters first second c.args.in_size lone c.args.list.now listed) lone c.in_ok-listed.ensures.listed) c.in_ok-scope.ensures.left c.in_ok-scope.ensures.types
    (c.all_types-types.ensures ∙ ap (λ lone. if lone && listed.has_void then Some [] else types_listed listed) lone) refl

pub parameters::parameters-returns-clause-further : goal.parameters::parameters-returns-clause-further
parameters::parameters-returns-clause-further t c =
    let old = c.args.checker.now in
    let first = c.enter_scope-mark.new.self in
    let second = c.each_parameter.new.checker in
    let new = c.leave_scope.new.self in
    on.then_further old second new (on.then_further old first second (on.grows_further old first c.enter_scope-mark.ensures.grows c.enter_scope-mark.ensures.structs) c.in_ok-listed.ensures.further)
    (on.grows_further second new c.in_ok-scope.ensures.grows c.in_ok-scope.ensures.structs)

pub parameters::parameters-returns-clause-known : goal.parameters::parameters-returns-clause-known
parameters::parameters-returns-clause-known t c =
    let second = c.each_parameter.new.checker in
    let new = c.leave_scope.new.self in
    let listed = c.in_ok-listed.listed in
    record {
      types = lists.all_types_known new.types c.is_lone-is_lone.result listed c.all_types-types.result c.all_types-types.ensures
          (listing.params_known second new c.in_ok-listed.ensures.further.sound (on.grows_further second new c.in_ok-scope.ensures.grows c.in_ok-scope.ensures.structs) (types_listed listed) c.in_ok-listed.ensures.known);
      scope = c.in_ok-scope.ensures.known;
    }

pub parameters::parameter-returns-in-Some-clause-found : goal.parameters::parameter-returns-in-Some-clause-found
parameters::parameter-returns-in-Some-clause-found t c =
    let old = c.args.checker.now in
    let one = c.specifiers.new.checker in
    let two = c.declarator.new.checker in
    let new = c.settle_parameter.new.self in
    let told = c.in_ok-told.told in
    let declared = c.in_ok-declared-in-Some.declared in
    let further = on.then_further old two new (on.then_further old one two c.in_ok-told.ensures.further c.in_ok-declared-in-Some.ensures.further) c.in_ok-ty-in-Some.ensures.further in
    named_found old one two new c.args.is_lone c.args.in_size c.args.p.now told _ further
    (subst (λ ss. Specifies old one InType false c.args.in_size ss told) c.list.ensures c.in_ok-told.ensures.specified) c.in-Some.d (record { may_be_absent = true; in_size = c.args.in_size }) declared c.in-Some.is refl
    refl c.in_ok-declared-in-Some.ensures.declared c.in_ok-declared-in-Some.ensures.further c.in_ok-ty-in-Some.ensures.further (subst (λ bs. SettlesParameter two new c.args.p.now bs false (option_map (meaning two.types) declared.ty) c.in_ok-ty-in-Some.ty) c.as_slice.ensures.value
    c.in_ok-ty-in-Some.ensures.settled) refl c.either-holds_sizeof.ensures

pub parameters::parameter-returns-in-Some-clause-further : goal.parameters::parameter-returns-in-Some-clause-further
parameters::parameter-returns-in-Some-clause-further t c =
    let old = c.args.checker.now in
    let one = c.specifiers.new.checker in
    let two = c.declarator.new.checker in
    on.then_further old two c.settle_parameter.new.self (on.then_further old one two c.in_ok-told.ensures.further c.in_ok-declared-in-Some.ensures.further) c.in_ok-ty-in-Some.ensures.further

pub parameters::parameter-returns-clause-found : goal.parameters::parameter-returns-clause-found
parameters::parameter-returns-clause-found t c =
    let old = c.args.checker.now in
    let one = c.specifiers.new.checker in
    let new = c.settle_parameter-in-None.new.self in
    let told = c.in_ok-told.told in
    let further = on.then_further old one new c.in_ok-told.ensures.further c.in_ok-ty-in-None.ensures.further in
    bare_found old one one new c.args.is_lone c.args.in_size c.args.p.now told _ further
    (subst (λ ss. Specifies old one InType false c.args.in_size ss told) c.list.ensures c.in_ok-told.ensures.specified) c.both-is_void.result c.in-None.is refl c.in_ok-ty-in-None.ensures.further
    (subst (λ bs. SettlesParameter one new c.args.p.now bs c.both-is_void.result (option_map (meaning one.types) told.ty) c.in_ok-ty-in-None.ty) c.as_slice-in-None.ensures.value c.in_ok-ty-in-None.ensures.settled)
    c.both-is_void.ensures c.is_void_type-is_bare_void.ensures refl

pub declarators::array_size-returns-in_ok-found-in-Some-clause-found : goal.declarators::array_size-returns-in_ok-found-in-Some-clause-found
declarators::array_size-returns-in_ok-found-in-Some-clause-found t c =
    let old = c.args.checker.now in
    let new = c.judge_size.new.checker in
    let found = c.in_ok-found-in-Some.found in
    subst (λ o. FindsSize old new c.args.in_size o found) (sym c.in-Some.is) (subst (λ e. FindsSize old new c.args.in_size (Some e) found) c.get.ensures c.in_ok-found-in-Some.ensures.found)

pub declarators::judge_size-judge-requires : goal.declarators::judge_size-judge-requires
declarators::judge_size-judge-requires t c = (search rules, (c.requires.sound, subst (IsKnownRole c.args.checker.now.types) (sym c.requires.role) tt))

pub declarators::judge_size-returns-in-Ok-clause-found : goal.declarators::judge_size-returns-in-Ok-clause-found
declarators::judge_size-returns-in-Ok-clause-found t c =
    size_found c.args.checker.now c.judge.new.checker c.args.stands c.args.e.now c.in-Ok.found c.size_by.result c.requires.role c.in-Ok.ensures.judged c.size_by.ensures.size c.size_by.ensures.holds_sizeof
