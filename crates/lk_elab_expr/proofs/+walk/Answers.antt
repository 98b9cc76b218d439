use Rattle.std.proofs.Common.{◌∙◌, None, inl, inr, length, refl, sym, ap, subst}
use Rattle.std.specs.Prelude.{if◌then◌else◌}
use Rattle.std.proofs.lemmas.Option.{slice_get_read}
use Rattle.std.proofs.lemmas.Result.{IfOk-weaker}
use Rattle.lk_base.specs.declared.kind.Kind.TheVariants as kind
use Rattle.lk_tree.specs.declared.expression.DeclaratorForm.TheOpen.{ExprForm-F}
use Rattle.lk_tree.specs.declared.expression.Expr.{Expr}
use Rattle.lk_typed.proofs.FirstTypes.{kind_means}
use Rattle.lk_typed.specs.Elaborated.{InPlace, IsConverted, IsLibraryCall, IsTyped}
use Rattle.lk_typed.specs.Nodes.{AnExpression}
use Rattle.lk_typed.specs.declared.expression.Callee.TheOpen.{Callee-F, LibraryCall-F, TypedForm-F}
use Rattle.lk_typed.specs.declared.expression.Callee.TheVariants as callee
use Rattle.lk_typed.specs.declared.expression.TypedForm.TheVariants as form
use Rattle.lk_typed.specs.declared.expression.TypedForm.{out-TypedForm}
use Rattle.lk_typed.specs.declared.library.LibraryCall.TheVariants as library
use Rattle.lk_elaborator.specs.Standing.{IsOne, IsPart, MakesOwn, PartStandsAs}
use Rattle.lk_elaborator.proofs.Growing.{grows_then, leads_before, part_stands_stay, stands_stay, told_on}
use Rattle.lk_elaborator.proofs.Knowing.{both_ok, on_ok}
use Rattle.lk_elaborator.proofs.Numbers.{means_led, own_node}
use Rattle.lk_elab_expr.specs.Allocating.{AreCounted, Counts}
use Rattle.lk_elab_expr.specs.Calling.{IsCalling}
use Rattle.lk_elab_expr.specs.PassedArguments.{PutsPart}
use Rattle.lk_elab_expr.proofs.CallForms.{allocation_is, creating_is, library_is, named_is, pointed_is}
use Rattle.lk_elab_expr.proofs.FormsAt.{call_at, call_made_of, callee_made_of, form_at, made_of, one_at, two_at}
use Rattle.lk_elab_expr.proofs.Passing.{all_passed, call_on, none_passed, passed_more, put_more, told_function}
use Rattle.lk_elab_expr.proofs.Sizing.{factors_at, some_placed}
use Rattle.lk_elab_expr.proofs.Within.{expression_at, placed_of, told_by, told_of, told_one, told_left, told_right}
use Rattle.lk_tree.specs.declared.expression.ExprForm.TheVariants as tree
use Rattle.lk_elab_expr.proofs.+walk.Goals as goal

pub expressions::expression_in-returns-clause-made : goal.expressions::expression_in-returns-clause-made
expressions::expression_in-returns-clause-made t c = λ at_end env told stands tables leads.
    let p : InPlace = (env, c.args.e.now) in
    let old = c.args.walk.now in
    let middle = c.node_type_at.new.walk in
    let new = c.form_of.new.walk in
    let first = c.in_ok-ty.ensures.grows in
    let has = c.in_ok-ty.ensures.means p refl (told_of at_end old p told) in
    let node = c.node_of.ensures in
    let own = own_node middle tables (first.ready told.ready) (leads_before middle new tables c.in_ok-form.ensures.grows leads) p c.in_ok-ty.ty (out-TypedForm c.in_ok-form.form) c.node_of.result has
    (record { spot = node.spot; ordinal = node.ordinal; type = node.type; made = node.made }) in
    c.in_ok-form.ensures.made at_end env (told_on old middle first at_end env (AnExpression c.args.e.now) told)
    (stands_stay old.types middle.types told.ready.table_is first.longer c.args.way.role env.role stands) tables leads c.node_of.result own

pub expressions::form_of-returns-in-Choice-clause-made : goal.expressions::form_of-returns-in-Choice-clause-made
expressions::form_of-returns-in-Choice-clause-made t c = IfOk-weaker c.with_three.result _ _ (λ made forms at_end env told stands tables leads.
    let p : InPlace = (env, c.args.e.now) in
    let x = c.in-Choice.condition in
    let y = c.in-Choice.taken in
    let z = c.in-Choice.other in
    forms at_end p _ _ _ refl (form_at p (tree.Choice x y z) (ExprForm-F.Choice x y z) c.in-Choice.is (tree.rolls-Choice x y z)) (sym c.get.ensures) (sym c.get-in-Choice.ensures) (sym c.get-in-Choice-2.ensures)
    told tables leads) c.with_three.ensures.made

pub expressions::form_of-returns-in-Call-clause-made : goal.expressions::form_of-returns-in-Call-clause-made
expressions::form_of-returns-in-Call-clause-made t c = IfOk-weaker c.call.result _ _ (λ made forms at_end env told stands tables leads.
    let p : InPlace = (env, c.args.e.now) in
    let at = call_at p c.in-Call.function c.in-Call.arguments c.in-Call.is in
    forms at_end p at.function at.arguments (record { form = at.at; are = at.are ∙ sym c.list.ensures; told = told }) (at.is ∙ sym c.get-in-Call.ensures) stands tables leads) c.call.ensures.made

pub expressions::form_of-returns-in-SizeofExpr-clause-made : goal.expressions::form_of-returns-in-SizeofExpr-clause-made
expressions::form_of-returns-in-SizeofExpr-clause-made t c = IfOk-weaker c.leaf.result _ _ (λ made forms at_end env told stands tables leads.
    forms env (told_of at_end c.args.walk.now (env, c.args.e.now) told) tables leads c.args.way.folded) c.leaf.ensures

pub expressions::form_of-returns-in-Cast-clause-made : goal.expressions::form_of-returns-in-Cast-clause-made
expressions::form_of-returns-in-Cast-clause-made t c = IfOk-weaker c.with_one.result _ _ (λ made forms at_end env told stands tables leads.
    let p : InPlace = (env, c.args.e.now) in
    let one = one_at p c.in-Cast.operand c.in-Cast.is in
    forms at_end p one.operand refl one.at (one.is ∙ sym c.get-in-Cast.ensures) told tables leads) c.with_one.ensures.made

pub expressions::form_of-returns-in-Comma-clause-made : goal.expressions::form_of-returns-in-Comma-clause-made
expressions::form_of-returns-in-Comma-clause-made t c = IfOk-weaker c.with_two.result _ _ (λ made forms at_end env told stands tables leads.
    let p : InPlace = (env, c.args.e.now) in
    let two = two_at p c.in-Comma.left c.in-Comma.right c.in-Comma.is in
    forms at_end p two.left two.right refl two.at (two.left_is ∙ sym c.get-in-Comma.ensures) (two.right_is ∙ sym c.get-in-Comma-2.ensures) told tables leads) c.with_two.ensures.made

pub expressions::part_node-returns-in_ok-node-in-Operand-clause-made : goal.expressions::part_node-returns-in_ok-node-in-Operand-clause-made
expressions::part_node-returns-in_ok-node-in-Operand-clause-made t c = IfOk-weaker c.made_node.result _ _ (λ made is at_end i same told stands tables leads.
    let old = c.args.walk.now in
    let there = placed_of at_end old i c.args.e.now same told in
    let as_ = subst (λ part. PartStandsAs old.types part i.0.role) c.in-Operand.is stands in
    let typed = c.in_ok-node-in-Operand.ensures.made at_end i.0 there as_ tables leads in
    subst (λ part. IsPart tables c.args.folded i part made) (sym c.in-Operand.is)
    (record { itself = c.in_ok-node-in-Operand.node; typed = subst (λ e. IsTyped tables c.args.folded (i.0, e) c.in_ok-node-in-Operand.node) (sym same) typed; made = is })) c.made_node.ensures

pub expressions::of_one-returns-in_ok-a-in-Of-clause-made : goal.expressions::of_one-returns-in_ok-a-in-Of-clause-made
expressions::of_one-returns-in_ok-a-in-Of-clause-made t c = λ at_end p i same told tables leads is.
    let old = c.args.walk.now in
    let of = subst (IsOne old.types tables c.args.folded p i) c.in-Of.is is in
    λ t makes. of.gives c.in_ok-a-in-Of.a (c.in_ok-a-in-Of.ensures.made at_end i same told of.role tables leads) t
    (subst (λ form. MakesOwn tables p form t) c.form_of_one.ensures makes)

pub expressions::of_one-returns-in-Null-clause-made : goal.expressions::of_one-returns-in-Null-clause-made
expressions::of_one-returns-in-Null-clause-made t c = λ at_end p i same told tables leads is.
    let old = c.args.walk.now in
    let null = subst (IsOne old.types tables c.args.folded p i) c.in-Null.is is in
    λ t makes. null t (subst (λ form. MakesOwn tables p form t) (made_of form.Null TypedForm-F.Null form.rolls-Null) makes)

pub expressions::with_one-returns-in-Ok-clause-made : goal.expressions::with_one-returns-in-Ok-clause-made
expressions::with_one-returns-in-Ok-clause-made t c = IfOk-weaker c.of_one.result _ _ (λ made two at_end p i at_p at same told tables leads.
    let old = c.args.walk.now in
    let middle = c.one_of.new.walk in
    let first = c.in-Ok.ensures.grows in
    let decides = c.in-Ok.ensures.one at_end p i (ap (λ (e : Expr). e.form) at_p) at (ap (λ (e : Expr). e.ordinal) same) told tables (leads_before middle c.of_one.new.walk tables two.0 leads) c.args.folded in
    two.1 at_end p i same (told_on old middle first at_end i.0 (AnExpression i.1) (told_one at_end old p told i at)) tables leads decides)
    (both_ok c.of_one.result _ _ c.of_one.ensures.grows c.of_one.ensures.made)

pub expressions::with_one-returns-in-Ok-clause-grows : goal.expressions::with_one-returns-in-Ok-clause-grows
expressions::with_one-returns-in-Ok-clause-grows t c = on_ok c.of_one.result _ _ (λ second. grows_then c.args.walk.now c.one_of.new.walk c.of_one.new.walk c.in-Ok.ensures.grows second) c.of_one.ensures.grows

pub expressions::with_two-returns-in-Ok-clause-made : goal.expressions::with_two-returns-in-Ok-clause-made
expressions::with_two-returns-in-Ok-clause-made t c = IfOk-weaker c.of_two.result _ _ (λ made two at_end p l r at_p at left right told tables leads.
    let old = c.args.walk.now in
    let middle = c.two_of.new.walk in
    let first = c.in-Ok.ensures.grows in
    let decides = c.in-Ok.ensures.two at_end p l r (ap (λ (e : Expr). e.form) at_p) at (ap (λ (e : Expr). e.ordinal) left) (ap (λ (e : Expr). e.ordinal) right) told tables
    (leads_before middle c.of_two.new.walk tables two.0 leads) in
    two.1 at_end p l r left right (told_on old middle first at_end l.0 (AnExpression l.1) (told_left at_end old p told l r at))
    (told_on old middle first at_end r.0 (AnExpression r.1) (told_right at_end old p told l r at)) tables leads decides)
    (both_ok c.of_two.result _ _ c.of_two.ensures.grows c.of_two.ensures.made)

pub expressions::with_two-returns-in-Ok-clause-grows : goal.expressions::with_two-returns-in-Ok-clause-grows
expressions::with_two-returns-in-Ok-clause-grows t c = on_ok c.of_two.result _ _ (λ second. grows_then c.args.walk.now c.two_of.new.walk c.of_two.new.walk c.in-Ok.ensures.grows second) c.of_two.ensures.grows

pub expressions::with_three-returns-in-Ok-clause-made : goal.expressions::with_three-returns-in-Ok-clause-made
expressions::with_three-returns-in-Ok-clause-made t c = IfOk-weaker c.of_three.result _ _ (λ made two at_end p x l r same form condition taken other told tables leads.
    let old = c.args.walk.now in
    let middle = c.choice.new.walk in
    let first = c.in-Ok.ensures.grows in
    let at_x = told_by at_end old p told (ExprForm-F.Choice x l r) (expression_at x) form (inl refl) in
    let at_l = told_by at_end old p told (ExprForm-F.Choice x l r) (expression_at l) form (inr (inl refl)) in
    let at_r = told_by at_end old p told (ExprForm-F.Choice x l r) (expression_at r) form (inr (inr (inl refl))) in
    let decides = c.in-Ok.ensures.three p x l r form same (ap (λ (e : Expr). e.ordinal) condition) (ap (λ (e : Expr). e.ordinal) taken) (ap (λ (e : Expr). e.ordinal) other)
    (told_of at_end old p told) (told_of at_end old x at_x) (told_of at_end old l at_l) (told_of at_end old r at_r) tables (leads_before middle c.of_three.new.walk tables two.0 leads) c.args.folded in
    two.1 at_end p x l r condition taken other (told_on old middle first at_end x.0 (AnExpression x.1) at_x) (told_on old middle first at_end l.0 (AnExpression l.1) at_l)
    (told_on old middle first at_end r.0 (AnExpression r.1) at_r) tables leads decides)
    (both_ok c.of_three.result _ _ c.of_three.ensures.grows c.of_three.ensures.made)

pub expressions::with_three-returns-in-Ok-clause-grows : goal.expressions::with_three-returns-in-Ok-clause-grows
expressions::with_three-returns-in-Ok-clause-grows t c = on_ok c.of_three.result _ _ (λ second. grows_then c.args.walk.now c.choice.new.walk c.of_three.new.walk c.in-Ok.ensures.grows second) c.of_three.ensures.grows

pub expressions::of_two-returns-clause-made : goal.expressions::of_two-returns-clause-made
expressions::of_two-returns-clause-made t c = λ at_end p l r left right told_l told_r tables leads is.
    let old = c.args.walk.now in
    let middle = c.part_of.new.walk in
    let new = c.part_of-2.new.walk in
    let first = c.in_ok-a.ensures.grows in
    λ t makes. is.gives c.in_ok-a.a c.in_ok-b.b
    (c.in_ok-a.ensures.made at_end l left told_l is.left tables (leads_before middle new tables c.in_ok-b.ensures.grows leads))
    (c.in_ok-b.ensures.made at_end r right (told_on old middle first at_end r.0 (AnExpression r.1) told_r)
    (part_stands_stay old.types middle.types told_l.ready.table_is first.longer c.args.two.right r.0.role is.right) tables leads) t
    (subst (λ form. MakesOwn tables p form t) c.form_of_two.ensures makes)

pub expressions::of_two-returns-clause-grows : goal.expressions::of_two-returns-clause-grows
expressions::of_two-returns-clause-grows t c = grows_then c.args.walk.now c.part_of.new.walk c.part_of-2.new.walk c.in_ok-a.ensures.grows c.in_ok-b.ensures.grows

pub expressions::of_three-returns-clause-made : goal.expressions::of_three-returns-clause-made
expressions::of_three-returns-clause-made t c = λ at_end p x l r condition taken other told_x told_l told_r tables leads is.
    let old = c.args.walk.now in
    let one = c.part_of.new.walk in
    let two = c.part_of-2.new.walk in
    let new = c.part_of-3.new.walk in
    let first = c.in_ok-a.ensures.grows in
    let second = grows_then old one two first c.in_ok-b.ensures.grows in
    let leads_two = leads_before two new tables c.in_ok-d.ensures.grows leads in
    λ t makes. is.gives c.in_ok-a.a c.in_ok-b.b c.in_ok-d.d
    (c.in_ok-a.ensures.made at_end x condition told_x is.condition tables (leads_before one two tables c.in_ok-b.ensures.grows leads_two))
    (c.in_ok-b.ensures.made at_end l taken (told_on old one first at_end l.0 (AnExpression l.1) told_l)
    (part_stands_stay old.types one.types told_x.ready.table_is first.longer c.args.three.taken l.0.role is.taken) tables leads_two)
    (c.in_ok-d.ensures.made at_end r other (told_on old two second at_end r.0 (AnExpression r.1) told_r)
    (part_stands_stay old.types two.types told_x.ready.table_is second.longer c.args.three.other r.0.role is.other) tables leads) t
    (subst (λ form. MakesOwn tables p form t)
    (made_of (form.Choice c.in_ok-a.a c.in_ok-b.b c.in_ok-d.d) (TypedForm-F.Choice c.in_ok-a.a c.in_ok-b.b c.in_ok-d.d) (form.rolls-Choice c.in_ok-a.a c.in_ok-b.b c.in_ok-d.d)) makes)

pub expressions::of_three-returns-clause-grows : goal.expressions::of_three-returns-clause-grows
expressions::of_three-returns-clause-grows t c = grows_then c.args.walk.now c.part_of-2.new.walk c.part_of-3.new.walk
    (grows_then c.args.walk.now c.part_of.new.walk c.part_of-2.new.walk c.in_ok-a.ensures.grows c.in_ok-b.ensures.grows) c.in_ok-d.ensures.grows

pub calls::call-returns-clause-made : goal.calls::call-returns-clause-made
calls::call-returns-clause-made t c = λ at_end p f ps call same stands tables leads.
    let old = c.args.walk.now in
    let middle = c.how_called.new.walk in
    let is = c.in_ok-calling.ensures.decides at_end p f ps call same stands in
    c.in_ok-form.ensures.made at_end p f ps (call_on old middle c.in_ok-calling.ensures.grows at_end p f ps c.args.arguments.now call) same is tables leads

pub calls::call-returns-clause-grows : goal.calls::call-returns-clause-grows
calls::call-returns-clause-grows t c = grows_then c.args.walk.now c.how_called.new.walk c.call_so.new.walk c.in_ok-calling.ensures.grows c.in_ok-form.ensures.grows

pub calls::call_so-returns-in-Allocating-clause-made : goal.calls::call_so-returns-in-Allocating-clause-made
calls::call_so-returns-in-Allocating-clause-made t c = IfOk-weaker c.allocate.result _ _ (λ form forms at_end p f ps call same is tables leads.
    forms at_end p f ps call (subst (IsCalling c.args.walk.now p f ps) c.in-Allocating.is is) tables leads) c.allocate.ensures.made

pub calls::call_so-returns-in-Creating-clause-made : goal.calls::call_so-returns-in-Creating-clause-made
calls::call_so-returns-in-Creating-clause-made t c = IfOk-weaker c.call_create.result _ _ (λ form forms at_end p f ps call same is tables leads.
    forms at_end p f ps call (ap (λ (e : Expr). e.ordinal) same) (subst (IsCalling c.args.walk.now p f ps) c.in-Creating.is is) tables leads) c.call_create.ensures.made

pub calls::call_so-returns-in-Named-clause-made : goal.calls::call_so-returns-in-Named-clause-made
calls::call_so-returns-in-Named-clause-made t c = IfOk-weaker c.call_named.result _ _ (λ form forms at_end p f ps call same is tables leads.
    forms at_end p f ps call (ap (λ (e : Expr). e.ordinal) same) (subst (IsCalling c.args.walk.now p f ps) c.in-Named.is is) tables leads) c.call_named.ensures.made

pub calls::call_so-returns-in-Pointed-clause-made : goal.calls::call_so-returns-in-Pointed-clause-made
calls::call_so-returns-in-Pointed-clause-made t c = IfOk-weaker c.call_pointed.result _ _ (λ form forms at_end p f ps call same is tables leads.
    forms at_end p f ps call same (subst (IsCalling c.args.walk.now p f ps) c.in-Pointed.is is) tables leads) c.call_pointed.ensures.made

pub calls::call_named-returns-clause-made : goal.calls::call_named-returns-clause-made
calls::call_named-returns-clause-made t c = λ at_end p f ps call same is tables leads.
    let old = c.args.walk.now in
    let new = c.passed_arguments.new.walk in
    named_is tables c.args.folded p f ps call.form old (leads_before old new tables c.in_ok-values.ensures.grows leads) c.args.called c.in_ok-values.values (out-TypedForm c.in_ok-form.form) is
    (c.in_ok-values.ensures.passed at_end p f ps call same tables leads) c.in_ok-form.ensures

pub calls::call_create-returns-clause-made : goal.calls::call_create-returns-clause-made
calls::call_create-returns-clause-made t c = λ at_end p f ps call same is tables leads.
    let old = c.args.walk.now in
    let new = c.passed_arguments.new.walk in
    let made = c.in_ok-call.call in
    creating_is tables c.args.folded p f ps call.form old (leads_before old new tables c.in_ok-values.ensures.grows leads) c.args.routine is c.in_ok-values.values
    (c.in_ok-values.ensures.passed at_end p f ps call same tables leads) made c.in_ok-call.ensures _ (made_of (form.Library made) (TypedForm-F.Library made) (form.rolls-Library made))

pub calls::pointer_of-returns-in_ok-pointer-in-Ok-clause-made : goal.calls::pointer_of-returns-in_ok-pointer-in-Ok-clause-made
calls::pointer_of-returns-in_ok-pointer-in-Ok-clause-made t c = λ at_end f same told tables leads.
    let old = c.args.walk.now in
    let middle = c.value_as.new.walk in
    let first = c.in-Ok.ensures.grows in
    let pointer = c.in_ok-pointer-in-Ok.pointer in
    c.in-Ok.ensures.value f (ap (λ (e : Expr). e.ordinal) same) (told_of at_end old f told) tables (leads_before middle c.part_of.new.walk tables c.in_ok-pointer-in-Ok.ensures.grows leads) c.args.folded pointer
    (c.in_ok-pointer-in-Ok.ensures.made at_end f same (told_on old middle first at_end f.0 (AnExpression f.1) told) (c.in-Ok.ensures.role middle.types f.0.role tt) tables leads)

pub calls::pointer_of-returns-in_ok-pointer-in-Ok-clause-grows : goal.calls::pointer_of-returns-in_ok-pointer-in-Ok-clause-grows
calls::pointer_of-returns-in_ok-pointer-in-Ok-clause-grows t c = grows_then c.args.walk.now c.value_as.new.walk c.part_of.new.walk c.in-Ok.ensures.grows c.in_ok-pointer-in-Ok.ensures.grows

pub calls::call_pointed-returns-clause-made : goal.calls::call_pointed-returns-clause-made
calls::call_pointed-returns-clause-made t c = λ at_end p f ps call same is tables leads.
    let old = c.args.walk.now in
    let middle = c.pointer_of.new.walk in
    let new = c.passed_arguments.new.walk in
    let first = c.in_ok-pointer.ensures.grows in
    let es = c.args.arguments.now in
    let a = c.in_ok-pointer.pointer in
    let values = c.in_ok-values.values in
    let pointed = callee.Pointer a in
    pointed_is tables c.args.folded p f ps call.form is a
    (c.in_ok-pointer.ensures.made at_end f same (told_function at_end old p f ps es call) tables (leads_before middle new tables c.in_ok-values.ensures.grows leads)) values
    (c.in_ok-values.ensures.passed at_end p f ps (call_on old middle first at_end p f ps es call) (ap (λ (e : Expr). e.ordinal) same) tables leads) pointed
    (callee_made_of pointed (Callee-F.Pointer a) (callee.rolls-Pointer a)) _ (made_of (form.Call pointed values) (TypedForm-F.Call pointed values) (form.rolls-Call pointed values))

pub calls::call_pointed-returns-clause-grows : goal.calls::call_pointed-returns-clause-grows
calls::call_pointed-returns-clause-grows t c = grows_then c.args.walk.now c.pointer_of.new.walk c.passed_arguments.new.walk c.in_ok-pointer.ensures.grows c.in_ok-values.ensures.grows

pub arguments::put_part-returns-in_ok-push-in-Some-clause-puts : goal.arguments::put_part-returns-in_ok-push-in-Some-clause-puts
arguments::put_part-returns-in_ok-push-in-Some-clause-puts t c =
    subst (λ part. PutsPart c.args.walk.now c.part_node.new.walk c.args.e.now part c.args.folded c.args.out.now c.push.new.self) (sym c.in-Some.is)
    (c.in_ok-node-in-Some.node, c.in_ok-push-in-Some.ensures.ok, c.in_ok-node-in-Some.ensures.made)

pub arguments::put_part-returns-in-None-clause-puts : goal.arguments::put_part-returns-in-None-clause-puts
arguments::put_part-returns-in-None-clause-puts t c =
    subst (λ part. PutsPart c.args.walk.now c.args.walk.now c.args.e.now part c.args.folded c.args.out.now c.args.out.now) (sym c.in-None.is) refl

pub arguments::put_argument-returns-in_ok-put_part-in-Ok-clause-puts : goal.arguments::put_argument-returns-in_ok-put_part-in-Ok-clause-puts
arguments::put_argument-returns-in_ok-put_part-in-Ok-clause-puts t c =
    put_more c.args.walk.now c.argument_part.new.walk c.put_part.new.walk c.args.function c.args.index c.args.e.now c.in-Ok.part c.args.folded c.args.out.now c.put_part.new.out
    c.in-Ok.ensures.grows c.in-Ok.ensures.passes c.in_ok-put_part-in-Ok.ensures.grows c.in_ok-put_part-in-Ok.ensures.puts

pub arguments::put_argument-returns-in_ok-put_part-in-Ok-clause-grows : goal.arguments::put_argument-returns-in_ok-put_part-in-Ok-clause-grows
arguments::put_argument-returns-in_ok-put_part-in-Ok-clause-grows t c = grows_then c.args.walk.now c.argument_part.new.walk c.put_part.new.walk c.in-Ok.ensures.grows c.in_ok-put_part-in-Ok.ensures.grows

pub arguments::passed_arguments-loop-index-init : goal.arguments::passed_arguments-loop-index-init
arguments::passed_arguments-loop-index-init t c = none_passed c.args.walk.now c.args.function c.args.arguments.now c.args.folded c.new-out.result (c.new-out.ensures ∙ c.new.ensures.items)

pub arguments::passed_arguments-loop-index-preserved : goal.arguments::passed_arguments-loop-index-preserved
arguments::passed_arguments-loop-index-preserved t c =
    let es = c.args.arguments.now in
    let i = c.loop-index.index in
    let e = c.index-arguments-index.result in
    passed_more c.args.walk.now c.args.function es c.args.folded c.loop-index.walk c.put_argument.new.walk i e c.loop-index.out c.put_argument.new.out c.loop-index.invariant
    (slice_get_read es (length es) i e refl c.loop-index-test.true c.index-arguments-index.is) c.in_ok-put_argument.ensures.grows c.in_ok-put_argument.ensures.puts

pub arguments::passed_arguments-returns-clause-passed : goal.arguments::passed_arguments-returns-clause-passed
arguments::passed_arguments-returns-clause-passed t c =
    all_passed c.args.walk.now c.args.function c.args.arguments.now c.args.folded c.loop-index.walk c.loop-index.index c.loop-index.out c.loop-index.invariant c.loop-index-test.false c.in_ok-none_wanting.ensures

pub arguments::passed_arguments-returns-clause-grows : goal.arguments::passed_arguments-returns-clause-grows
arguments::passed_arguments-returns-clause-grows t c = c.loop-index.invariant.grows

pub allocations::counted-returns-in_ok-count-in-Ok-clause-counts : goal.allocations::counted-returns-in_ok-count-in-Ok-clause-counts
allocations::counted-returns-in_ok-count-in-Ok-clause-counts t c = λ at_end p at told tables leads.
    let old = c.args.walk.now in
    let middle = c.converted_operand.new.walk in
    let new = c.part_of.new.walk in
    let first = c.in-Ok.ensures.grows in
    let a = c.in_ok-count-in-Ok.count in
    let folded = c.args.folded in
    let made = c.in_ok-count-in-Ok.ensures.made at_end p at (told_on old middle first at_end p.0 (AnExpression p.1) told) (c.in-Ok.ensures.role middle.types p.0.role) tables leads in (
      a,
      refl,
      subst (λ ty. IsConverted tables folded p ty a) (kind_means old.types told.ready kind.ULong)
          (c.in-Ok.ensures.converted p (ap (λ (e : Expr). e.ordinal) at) (told_of at_end old p told) tables (leads_before middle new tables c.in_ok-count-in-Ok.ensures.grows leads) folded a made),
    )

pub allocations::counted-returns-in_ok-count-in-Ok-clause-grows : goal.allocations::counted-returns-in_ok-count-in-Ok-clause-grows
allocations::counted-returns-in_ok-count-in-Ok-clause-grows t c = grows_then c.args.walk.now c.converted_operand.new.walk c.part_of.new.walk c.in-Ok.ensures.grows c.in_ok-count-in-Ok.ensures.grows

pub allocations::counted_by_factor-returns-then-is_left-clause-counts : goal.allocations::counted_by_factor-returns-then-is_left-clause-counts
allocations::counted_by_factor-returns-then-is_left-clause-counts t c = IfOk-weaker c.counted.result _ _ (λ count counts at_end p l r o at told form tables leads.
    let old = c.args.walk.now in
    let same = factors_at p l r o _ _ _ form (ap (λ (e : Expr). e.form) at ∙ c.in-Binary.is) in
    subst (λ b. Counts tables c.args.folded (if b then l else r) count) (sym c.if-is_left.true)
    (counts at_end l (same.0 ∙ sym c.get.ensures) (told_by at_end old p told (ExprForm-F.Binary o l r) (expression_at l) form (inl refl)) tables leads)) c.counted.ensures.counts

pub allocations::counted_by_factor-returns-else-is_left-clause-counts : goal.allocations::counted_by_factor-returns-else-is_left-clause-counts
allocations::counted_by_factor-returns-else-is_left-clause-counts t c = IfOk-weaker c.counted-else-is_left.result _ _ (λ count counts at_end p l r o at told form tables leads.
    let old = c.args.walk.now in
    let same = factors_at p l r o _ _ _ form (ap (λ (e : Expr). e.form) at ∙ c.in-Binary.is) in
    subst (λ b. Counts tables c.args.folded (if b then l else r) count) (sym c.if-is_left.false)
    (counts at_end r (same.1 ∙ sym c.get-else-is_left.ensures) (told_by at_end old p told (ExprForm-F.Binary o l r) (expression_at r) form (inr (inl refl))) tables leads)) c.counted-else-is_left.ensures.counts

pub allocations::count_of-returns-in-One-clause-counts : goal.allocations::count_of-returns-in-One-clause-counts
allocations::count_of-returns-in-One-clause-counts t c = λ at_end p at told tables leads. subst (λ by. AreCounted tables c.args.folded p by None) (sym c.in-One.is) refl

pub allocations::count_of-returns-in-Whole-clause-counts : goal.allocations::count_of-returns-in-Whole-clause-counts
allocations::count_of-returns-in-Whole-clause-counts t c = IfOk-weaker c.counted.result _ _ (λ count counts at_end p at told tables leads.
    subst (λ by. AreCounted tables c.args.folded p by count) (sym c.in-Whole.is) (counts at_end p at told tables leads)) c.counted.ensures.counts

pub allocations::count_of-returns-in-Left-clause-counts : goal.allocations::count_of-returns-in-Left-clause-counts
allocations::count_of-returns-in-Left-clause-counts t c = IfOk-weaker c.counted_by_factor.result _ _ (λ count counts at_end p at told tables leads.
    subst (λ by. AreCounted tables c.args.folded p by count) (sym c.in-Left.is) (λ l r o form. counts at_end p l r o at told form tables leads)) c.counted_by_factor.ensures.counts

pub allocations::count_of-returns-in-Right-clause-counts : goal.allocations::count_of-returns-in-Right-clause-counts
allocations::count_of-returns-in-Right-clause-counts t c = IfOk-weaker c.counted_by_factor-in-Right.result _ _ (λ count counts at_end p at told tables leads.
    subst (λ by. AreCounted tables c.args.folded p by count) (sym c.in-Right.is) (λ l r o form. counts at_end p l r o at told form tables leads)) c.counted_by_factor-in-Right.ensures.counts

pub allocations::allocate-returns-in_ok-count-in-len1-up-clause-made : goal.allocations::allocate-returns-in_ok-count-in-len1-up-clause-made
allocations::allocate-returns-in_ok-count-in-len1-up-clause-made t c = λ at_end p f ps call is tables leads.
    let old = c.args.walk.now in
    let new = c.count_of.new.walk in
    let folded = c.args.folded in
    let a = c.args.allocation in
    let count = c.in_ok-count-in-len1-up.count in
    let made = library.Allocate a.element count a.zeroed in
    let open_ = LibraryCall-F.Allocate a.element count a.zeroed in
    let at = some_placed at_end old p f c.args.arguments.now c.counting-item.result ps c.in-len1-up.len_at_least c.counting-item.is call in
    let counted = c.in_ok-count-in-len1-up.ensures.counts at_end at.first at.is at.told tables leads in
    let of = is.allocation in
    let means = means_led old tables call.told.ready (leads_before old new tables c.in_ok-count-in-len1-up.ensures.grows leads) a.element of.element of.known of.means in
    library_is tables folded p f ps call.form is.row is.is made
    (subst (IsLibraryCall tables folded p.0.role is.row ps) (sym (call_made_of made open_ (library.rolls-Allocate a.element count a.zeroed)))
    (allocation_is tables folded p f ps call.form is.row a.zeroed is.name of.element a.element means a.count of.sizes at.first at.others at.are count counted)) _
    (made_of (form.Library made) (TypedForm-F.Library made) (form.rolls-Library made))
