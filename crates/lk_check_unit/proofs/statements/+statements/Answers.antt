use Rattle.std.proofs.Common.{◌∙◌, Some, refl, sym, ap, subst, drop, ◌+◌, rules}
use Rattle.std.specs.Prelude.{OnOk, IfOk}
use Rattle.std.proofs.lemmas.Result.{IfOk-weaker, on_ok_weaker}
use Rattle.lk_tree.specs.declared.statement.StmtForm.{out-StmtForm}
use Rattle.lk_tree.specs.declared.statement.StmtForm.TheVariants as form
use Rattle.lk_tree.specs.declared.statement.BlockItem.TheOpen.{StmtForm-F}
use Rattle.lk_checker.specs.States.{IsSound}
use Rattle.lk_check_unit.specs.Bodies.{IsKnownResult, WalksForm, WalksItem, WalksScoped}
use Rattle.lk_check_unit.proofs.Forming as forming
use Rattle.lk_check_unit.proofs.Items.{all_left, item_declared, none_left, one_less}
use Rattle.lk_rules.proofs.Rests.{next_left, nothing_left}
use Rattle.lk_rules.proofs.Shapes as shape
use Rattle.lk_check_unit.proofs.Staying.{grows_none, known_behind, stays_by, stays_entered, stays_left, stays_then, stays_told}
use Rattle.lk_check_unit.proofs.statements.+statements.Goals as goal

pub labelled-returns-clause-walks : goal.labelled-returns-clause-walks
labelled-returns-clause-walks t c =
    forming.labelled c.args.ordinal c.args.name.now c.args.inner.now c.args.checker.now c.statement.new.checker c.args.body.now c.statement.new.body c.label_code-code.result
    c.in_ok-statement.ensures.walks c.label_code-code.ensures

pub case-returns-clause-stays : goal.case-returns-clause-stays
case-returns-clause-stays t c =
    stays_then c.args.checker.now c.case_constant.new.checker c.statement.new.checker c.args.body.now c.around_case.new.body c.statement.new.body
    (stays_by c.args.checker.now c.case_constant.new.checker c.args.body.now c.around_case.new.body c.requires.sound c.requires.known c.in_ok-constant.ensures.grows c.in_ok-code.ensures.returned)
    c.in_ok-statement.ensures.stays

pub case-returns-clause-walks : goal.case-returns-clause-walks
case-returns-clause-walks t c = λ n.
    forming.cased n c.args.e.now c.args.inner.now c.args.checker.now c.case_constant.new.checker c.statement.new.checker c.args.body.now c.around_case.new.body c.statement.new.body
    c.in_ok-constant.constant c.in_ok-code.code c.requires.sound c.requires.known c.in_ok-constant.ensures.walks c.in_ok-constant.ensures.constant c.in_ok-code.ensures.code
    c.in_ok-code.ensures.around c.in_ok-code.ensures.returned c.in_ok-statement.ensures.walks

pub default_case-returns-clause-stays : goal.default_case-returns-clause-stays
default_case-returns-clause-stays t c =
    stays_then c.args.checker.now c.args.checker.now c.statement.new.checker c.args.body.now c.around_default-code.new.body c.statement.new.body
    (stays_by c.args.checker.now c.args.checker.now c.args.body.now c.around_default-code.new.body c.requires.sound c.requires.known (grows_none c.args.checker.now c.requires.sound)
    c.around_default-code.ensures.returned)
    c.in_ok-statement.ensures.stays

pub default_case-returns-clause-walks : goal.default_case-returns-clause-walks
default_case-returns-clause-walks t c = λ n.
    forming.defaulted n c.args.inner.now c.args.checker.now c.statement.new.checker c.args.body.now c.around_default-code.new.body c.statement.new.body c.around_default-code.result
    c.in_ok-statement.ensures.walks c.around_default-code.ensures.code c.around_default-code.ensures.around c.around_default-code.ensures.returned

pub block-returns-clause-stays : goal.block-returns-clause-stays
block-returns-clause-stays t c =
    stays_left c.args.checker.now c.block_items.new.checker c.leave.new.checker c.enter-mark.result c.args.body.now c.block_items.new.body
    (stays_then c.args.checker.now c.enter-mark.new.checker c.block_items.new.checker c.args.body.now c.args.body.now c.block_items.new.body
    (stays_entered c.args.checker.now c.enter-mark.new.checker c.enter-mark.result c.args.body.now c.requires.sound c.requires.known c.enter-mark.ensures) c.in_ok-block_items.ensures.stays)
    c.leave.ensures

pub block-returns-clause-walks : goal.block-returns-clause-walks
block-returns-clause-walks t c = λ n.
    forming.blocked n c.args.items.now c.args.checker.now c.enter-mark.new.checker c.block_items.new.checker c.leave.new.checker c.enter-mark.result c.args.body.now c.block_items.new.body
    c.enter-mark.ensures c.in_ok-block_items.ensures.walks c.leave.ensures

pub scoped-returns-clause-stays : goal.scoped-returns-clause-stays
scoped-returns-clause-stays t c =
    stays_left c.args.checker.now c.statement.new.checker c.leave.new.checker c.enter-mark.result c.args.body.now c.statement.new.body
    (stays_then c.args.checker.now c.enter-mark.new.checker c.statement.new.checker c.args.body.now c.args.body.now c.statement.new.body
    (stays_entered c.args.checker.now c.enter-mark.new.checker c.enter-mark.result c.args.body.now c.requires.sound c.requires.known c.enter-mark.ensures) c.in_ok-statement.ensures.stays)
    c.leave.ensures

pub scoped-returns-clause-walks : goal.scoped-returns-clause-walks
scoped-returns-clause-walks t c =
    forming.in_scope c.args.s.now c.args.checker.now c.enter-mark.new.checker c.statement.new.checker c.leave.new.checker c.enter-mark.result c.args.body.now c.statement.new.body
    c.enter-mark.ensures c.in_ok-statement.ensures.walks c.leave.ensures

pub scoped_if_any-returns-in-None-clause-stays : goal.scoped_if_any-returns-in-None-clause-stays
scoped_if_any-returns-in-None-clause-stays t c =
    stays_by c.args.checker.now c.args.checker.now c.args.body.now c.args.body.now c.requires.sound c.requires.known (grows_none c.args.checker.now c.requires.sound) refl

pub scoped_if_any-returns-in-None-clause-walks : goal.scoped_if_any-returns-in-None-clause-walks
scoped_if_any-returns-in-None-clause-walks t c =
    subst (λ s. WalksScoped s c.args.checker.now c.args.checker.now c.args.body.now c.args.body.now) (sym c.in-None.is) (forming.absent c.args.checker.now c.args.body.now c.requires.sound)

pub turning-returns-clause-stays : goal.turning-returns-clause-stays
turning-returns-clause-stays t c =
    record { grows = c.in_ok-scoped.ensures.stays.grows; returned = c.in_ok-scoped.ensures.stays.returned; known = c.in_ok-scoped.ensures.stays.known }

pub turning-returns-clause-walks : goal.turning-returns-clause-walks
turning-returns-clause-walks t c = forming.turned c.args.s.now c.args.checker.now c.scoped.new.checker c.args.body.now c.scoped.new.body c.in_ok-scoped.ensures.walks

pub while_loop-returns-clause-stays : goal.while_loop-returns-clause-stays
while_loop-returns-clause-stays t c =
    stays_left c.args.checker.now c.turning.new.checker c.leave.new.checker c.enter-mark.result c.args.body.now c.turning.new.body
    (stays_then c.args.checker.now c.enter-mark.new.checker c.turning.new.checker c.args.body.now c.args.body.now c.turning.new.body (stays_entered c.args.checker.now c.enter-mark.new.checker c.enter-mark.result c.args.body.now c.requires.sound c.requires.known c.enter-mark.ensures)
    (stays_then c.enter-mark.new.checker c.condition.new.checker c.turning.new.checker c.args.body.now c.args.body.now c.turning.new.body (stays_by c.enter-mark.new.checker c.condition.new.checker c.args.body.now c.args.body.now (c.enter-mark.ensures.beside.sound c.requires.sound) (stays_entered c.args.checker.now c.enter-mark.new.checker c.enter-mark.result c.args.body.now c.requires.sound c.requires.known c.enter-mark.ensures).known c.in_ok-asked.ensures.grows refl) c.in_ok-turning.ensures.stays))
    c.leave.ensures

pub while_loop-returns-clause-walks : goal.while_loop-returns-clause-walks
while_loop-returns-clause-walks t c =
    λ n.
    forming.while_turned n c.args.e.now c.args.inner.now c.args.checker.now c.enter-mark.new.checker c.condition.new.checker c.turning.new.checker c.leave.new.checker c.enter-mark.result c.args.body.now c.turning.new.body c.in_ok-asked.asked (c.enter-mark.ensures.beside.sound c.requires.sound) (stays_entered c.args.checker.now c.enter-mark.new.checker c.enter-mark.result c.args.body.now c.requires.sound c.requires.known c.enter-mark.ensures).known c.enter-mark.ensures
    c.in_ok-asked.ensures.asks c.in_ok-turning.ensures.walks c.leave.ensures

pub until_loop-returns-clause-stays : goal.until_loop-returns-clause-stays
until_loop-returns-clause-stays t c =
    stays_left c.args.checker.now c.condition.new.checker c.leave.new.checker c.enter-mark.result c.args.body.now c.turning.new.body
    (stays_then c.args.checker.now c.enter-mark.new.checker c.condition.new.checker c.args.body.now c.args.body.now c.turning.new.body (stays_entered c.args.checker.now c.enter-mark.new.checker c.enter-mark.result c.args.body.now c.requires.sound c.requires.known c.enter-mark.ensures)
    (stays_then c.enter-mark.new.checker c.turning.new.checker c.condition.new.checker c.args.body.now c.turning.new.body c.turning.new.body c.in_ok-turning.ensures.stays (stays_by c.turning.new.checker c.condition.new.checker c.turning.new.body c.turning.new.body c.in_ok-turning.ensures.stays.grows.sound c.in_ok-turning.ensures.stays.known c.in_ok-asked.ensures.grows refl)))
    c.leave.ensures

pub until_loop-returns-clause-walks : goal.until_loop-returns-clause-walks
until_loop-returns-clause-walks t c =
    λ n.
    forming.until_turned n c.args.inner.now c.args.e.now c.args.checker.now c.enter-mark.new.checker c.turning.new.checker c.condition.new.checker c.leave.new.checker c.enter-mark.result c.args.body.now c.turning.new.body c.in_ok-asked.asked (c.enter-mark.ensures.beside.sound c.requires.sound) (stays_entered c.args.checker.now c.enter-mark.new.checker c.enter-mark.result c.args.body.now c.requires.sound c.requires.known c.enter-mark.ensures).known c.enter-mark.ensures
    c.in_ok-turning.ensures.walks c.in_ok-turning.ensures.stays.returned c.in_ok-asked.ensures.asks c.leave.ensures

pub for_loop-returns-clause-stays : goal.for_loop-returns-clause-stays
for_loop-returns-clause-stays t c =
    stays_left c.args.checker.now c.turning.new.checker c.leave.new.checker c.enter-mark.result c.args.body.now c.turning.new.body
    (stays_then c.args.checker.now c.enter-mark.new.checker c.turning.new.checker c.args.body.now c.args.body.now c.turning.new.body (stays_entered c.args.checker.now c.enter-mark.new.checker c.enter-mark.result c.args.body.now c.requires.sound c.requires.known c.enter-mark.ensures)
    (stays_then c.enter-mark.new.checker c.for_head.new.checker c.turning.new.checker c.args.body.now c.args.body.now c.turning.new.body (stays_by c.enter-mark.new.checker c.for_head.new.checker c.args.body.now c.args.body.now (c.enter-mark.ensures.beside.sound c.requires.sound) (stays_entered c.args.checker.now c.enter-mark.new.checker c.enter-mark.result c.args.body.now c.requires.sound c.requires.known c.enter-mark.ensures).known c.in_ok-code.ensures.grows refl) c.in_ok-turning.ensures.stays))
    c.leave.ensures

pub for_loop-returns-clause-walks : goal.for_loop-returns-clause-walks
for_loop-returns-clause-walks t c =
    λ n.
    forming.for_turned n c.args.first.now c.args.test.now c.args.step.now c.args.inner.now c.args.checker.now c.enter-mark.new.checker c.for_head.new.checker c.turning.new.checker c.leave.new.checker c.enter-mark.result c.args.body.now c.turning.new.body c.in_ok-code.code (c.enter-mark.ensures.beside.sound c.requires.sound) (stays_entered c.args.checker.now c.enter-mark.new.checker c.enter-mark.result c.args.body.now c.requires.sound c.requires.known c.enter-mark.ensures).known c.enter-mark.ensures
    c.in_ok-code.ensures.walks c.in_ok-turning.ensures.walks c.leave.ensures

pub switch-returns-clause-stays : goal.switch-returns-clause-stays
switch-returns-clause-stays t c =
    stays_left c.args.checker.now c.scoped.new.checker c.leave.new.checker c.enter-mark.result c.args.body.now (record c.scoped.new.body { switch = c.begin_switch-outer.result })
    (stays_then c.args.checker.now c.enter-mark.new.checker c.scoped.new.checker c.args.body.now c.args.body.now (record c.scoped.new.body { switch = c.begin_switch-outer.result }) (stays_entered c.args.checker.now c.enter-mark.new.checker c.enter-mark.result c.args.body.now c.requires.sound c.requires.known c.enter-mark.ensures)
    (stays_then c.enter-mark.new.checker c.switch_value.new.checker c.scoped.new.checker c.args.body.now c.begin_switch-outer.new.body (record c.scoped.new.body { switch = c.begin_switch-outer.result }) (stays_by c.enter-mark.new.checker c.switch_value.new.checker c.args.body.now c.begin_switch-outer.new.body (c.enter-mark.ensures.beside.sound c.requires.sound) (stays_entered c.args.checker.now c.enter-mark.new.checker c.enter-mark.result c.args.body.now c.requires.sound c.requires.known c.enter-mark.ensures).known c.in_ok-found.ensures.grows c.begin_switch-outer.ensures.returned) (record { grows = c.in_ok-scoped.ensures.stays.grows; returned = c.in_ok-scoped.ensures.stays.returned; known = c.in_ok-scoped.ensures.stays.known })))
    c.leave.ensures

pub switch-returns-clause-walks : goal.switch-returns-clause-walks
switch-returns-clause-walks t c =
    λ n.
    forming.switched n c.args.e.now c.args.inner.now c.args.checker.now c.enter-mark.new.checker c.switch_value.new.checker c.scoped.new.checker c.leave.new.checker c.enter-mark.result c.args.body.now c.begin_switch-outer.new.body c.scoped.new.body (record c.scoped.new.body { switch = c.begin_switch-outer.result }) c.in_ok-found.found.0 c.in_ok-found.found.1 (c.enter-mark.ensures.beside.sound c.requires.sound) (stays_entered c.args.checker.now c.enter-mark.new.checker c.enter-mark.result c.args.body.now c.requires.sound c.requires.known c.enter-mark.ensures).known c.enter-mark.ensures
    c.in_ok-found.ensures.asks c.in_ok-found.ensures.kind c.begin_switch-outer.ensures.around c.begin_switch-outer.ensures.returned c.in_ok-scoped.ensures.walks
    (ap (λ s. record c.scoped.new.body { switch = s }) c.begin_switch-outer.ensures.outer) c.leave.ensures

pub statement-returns-clause-stays : goal.statement-returns-clause-stays
statement-returns-clause-stays t c =
    stays_told c.args.checker.now c.statement_parts.new.checker c.keep_code.new.checker _ _ c.args.body.now c.statement_parts.new.body c.in_ok-code.ensures.stays c.in_ok-keep_code.ensures

pub statement-returns-clause-walks : goal.statement-returns-clause-walks
statement-returns-clause-walks t c =
    forming.stated c.args.s.now c.args.checker.now c.statement_parts.new.checker c.keep_code.new.checker c.args.body.now c.statement_parts.new.body c.in_ok-code.code c.in_ok-code.ensures.walks c.in_ok-keep_code.ensures

pub block_items-loop-item-init : goal.block_items-loop-item-init
block_items-loop-item-init t c =
    record {
      stays = stays_by c.args.checker.now c.args.checker.now c.args.body.now c.args.body.now c.requires.sound c.requires.known (grows_none c.args.checker.now c.requires.sound) refl;
      left = all_left c.args.checker.now c.args.body.now c.args.items.now;
    }

pub block_items-loop-item-preserved : goal.block_items-loop-item-preserved
block_items-loop-item-preserved t c =
    record {
      stays = stays_then c.args.checker.now c.loop-item.checker c.block_item.new.checker c.args.body.now c.loop-item.body c.block_item.new.body c.loop-item.invariant.stays c.in_ok-block_item.ensures.stays;
      left =
          one_less c.args.checker.now c.loop-item.checker c.block_item.new.checker c.args.body.now c.loop-item.body c.block_item.new.body c.args.items.now (drop c.loop-item.item-index c.args.items.now) (drop (c.loop-item.item-index + 1) c.args.items.now)
          c.item-item.result c.loop-item.invariant.stays.grows.sound c.loop-item.invariant.stays.known (next_left c.args.items.now c.loop-item.item-index c.item-item.result c.loop-item-test.true c.item-item.is) c.loop-item.invariant.left
          c.in_ok-block_item.ensures.walks c.in_ok-block_item.ensures.stays.returned;
    }

pub block_items-returns-clause-walks : goal.block_items-returns-clause-walks
block_items-returns-clause-walks t c =
    none_left c.args.checker.now c.loop-item.checker c.args.body.now c.loop-item.body c.args.items.now (drop c.loop-item.item-index c.args.items.now) c.loop-item.invariant.stays.grows.sound
    (nothing_left c.args.items.now c.loop-item.item-index c.loop-item-test.false) c.loop-item.invariant.left

pub case-statement-requires : goal.case-statement-requires
case-statement-requires t c =
    let s : IsSound c.case_constant.new.checker = c.in_ok-constant.ensures.grows.sound in
    let k : IsKnownResult c.case_constant.new.checker c.around_case.new.body = known_behind c.args.checker.now c.case_constant.new.checker c.args.body.now c.around_case.new.body c.requires.sound c.in_ok-constant.ensures.grows c.in_ok-code.ensures.returned c.requires.known in
    (search rules, (s, k))

pub default_case-statement-requires : goal.default_case-statement-requires
default_case-statement-requires t c =
    let k : IsKnownResult c.args.checker.now c.around_default-code.new.body =
    known_behind c.args.checker.now c.args.checker.now c.args.body.now c.around_default-code.new.body c.requires.sound (grows_none c.args.checker.now c.requires.sound) c.around_default-code.ensures.returned c.requires.known in
    search rules

pub block-block_items-requires : goal.block-block_items-requires
block-block_items-requires t c =
    let s : IsSound c.enter-mark.new.checker = (c.enter-mark.ensures.beside.sound c.requires.sound) in
    let k : IsKnownResult c.enter-mark.new.checker c.args.body.now = (stays_entered c.args.checker.now c.enter-mark.new.checker c.enter-mark.result c.args.body.now c.requires.sound c.requires.known c.enter-mark.ensures).known in
    search rules

pub scoped-statement-requires : goal.scoped-statement-requires
scoped-statement-requires t c =
    let s : IsSound c.enter-mark.new.checker = (c.enter-mark.ensures.beside.sound c.requires.sound) in
    let k : IsKnownResult c.enter-mark.new.checker c.args.body.now = (stays_entered c.args.checker.now c.enter-mark.new.checker c.enter-mark.result c.args.body.now c.requires.sound c.requires.known c.enter-mark.ensures).known in
    search rules

pub until_loop-turning-requires : goal.until_loop-turning-requires
until_loop-turning-requires t c =
    let s : IsSound c.enter-mark.new.checker = (c.enter-mark.ensures.beside.sound c.requires.sound) in
    let k : IsKnownResult c.enter-mark.new.checker c.args.body.now = (stays_entered c.args.checker.now c.enter-mark.new.checker c.enter-mark.result c.args.body.now c.requires.sound c.requires.known c.enter-mark.ensures).known in
    search rules

pub while_loop-condition-requires : goal.while_loop-condition-requires
while_loop-condition-requires t c =
    c.enter-mark.ensures.beside.sound c.requires.sound

pub for_loop-for_head-requires : goal.for_loop-for_head-requires
for_loop-for_head-requires t c =
    c.enter-mark.ensures.beside.sound c.requires.sound

pub switch-switch_value-requires : goal.switch-switch_value-requires
switch-switch_value-requires t c =
    c.enter-mark.ensures.beside.sound c.requires.sound

pub while_loop-turning-requires : goal.while_loop-turning-requires
while_loop-turning-requires t c =
    let s : IsSound c.condition.new.checker = (stays_by c.enter-mark.new.checker c.condition.new.checker c.args.body.now c.args.body.now (c.enter-mark.ensures.beside.sound c.requires.sound) (stays_entered c.args.checker.now c.enter-mark.new.checker c.enter-mark.result c.args.body.now c.requires.sound c.requires.known c.enter-mark.ensures).known c.in_ok-asked.ensures.grows refl).grows.sound in
    let k : IsKnownResult c.condition.new.checker c.args.body.now = (stays_by c.enter-mark.new.checker c.condition.new.checker c.args.body.now c.args.body.now (c.enter-mark.ensures.beside.sound c.requires.sound) (stays_entered c.args.checker.now c.enter-mark.new.checker c.enter-mark.result c.args.body.now c.requires.sound c.requires.known c.enter-mark.ensures).known c.in_ok-asked.ensures.grows refl).known in
    (search rules, (s, k))

pub for_loop-turning-requires : goal.for_loop-turning-requires
for_loop-turning-requires t c =
    let s : IsSound c.for_head.new.checker = (stays_by c.enter-mark.new.checker c.for_head.new.checker c.args.body.now c.args.body.now (c.enter-mark.ensures.beside.sound c.requires.sound) (stays_entered c.args.checker.now c.enter-mark.new.checker c.enter-mark.result c.args.body.now c.requires.sound c.requires.known c.enter-mark.ensures).known c.in_ok-code.ensures.grows refl).grows.sound in
    let k : IsKnownResult c.for_head.new.checker c.args.body.now = (stays_by c.enter-mark.new.checker c.for_head.new.checker c.args.body.now c.args.body.now (c.enter-mark.ensures.beside.sound c.requires.sound) (stays_entered c.args.checker.now c.enter-mark.new.checker c.enter-mark.result c.args.body.now c.requires.sound c.requires.known c.enter-mark.ensures).known c.in_ok-code.ensures.grows refl).known in
    (search rules, (s, k))

pub switch-scoped-requires : goal.switch-scoped-requires
switch-scoped-requires t c =
    let s : IsSound c.switch_value.new.checker = (stays_by c.enter-mark.new.checker c.switch_value.new.checker c.args.body.now c.begin_switch-outer.new.body (c.enter-mark.ensures.beside.sound c.requires.sound) (stays_entered c.args.checker.now c.enter-mark.new.checker c.enter-mark.result c.args.body.now c.requires.sound c.requires.known c.enter-mark.ensures).known c.in_ok-found.ensures.grows c.begin_switch-outer.ensures.returned).grows.sound in
    let k : IsKnownResult c.switch_value.new.checker c.begin_switch-outer.new.body = (stays_by c.enter-mark.new.checker c.switch_value.new.checker c.args.body.now c.begin_switch-outer.new.body (c.enter-mark.ensures.beside.sound c.requires.sound) (stays_entered c.args.checker.now c.enter-mark.new.checker c.enter-mark.result c.args.body.now c.requires.sound c.requires.known c.enter-mark.ensures).known c.in_ok-found.ensures.grows c.begin_switch-outer.ensures.returned).known in
    (search rules, (s, k))

pub statement_parts-returns-in-Label-clause-walks : goal.statement_parts-returns-in-Label-clause-walks
statement_parts-returns-in-Label-clause-walks t c =
    subst (λ f. IfOk c.labelled.result (WalksForm f c.args.s.now.ordinal c.args.checker.now c.labelled.new.checker c.args.body.now c.labelled.new.body))
    (sym (shape.a_label c.args.s.now.form c.in-Label.name c.get.result.now (c.in-Label.is ∙ ap (form.Label c.in-Label.name) (sym c.get.ensures))))
    c.labelled.ensures.walks

pub statement_parts-returns-in-Case-clause-walks : goal.statement_parts-returns-in-Case-clause-walks
statement_parts-returns-in-Case-clause-walks t c =
    forming.of_form_is (StmtForm-F.Case c.in-Case.e c.get-in-Case.result.now) (out-StmtForm c.args.s.now.form) c.args.s.now.ordinal c.args.checker.now c.case.new.checker c.args.body.now c.case.new.body c.case.result
    (shape.a_case c.args.s.now.form c.in-Case.e c.get-in-Case.result.now (c.in-Case.is ∙ ap (form.Case c.in-Case.e) (sym c.get-in-Case.ensures)))
    c.case.ensures.walks

pub statement_parts-returns-in-Default-clause-walks : goal.statement_parts-returns-in-Default-clause-walks
statement_parts-returns-in-Default-clause-walks t c =
    forming.of_form_is (StmtForm-F.Default c.get-in-Default.result.now) (out-StmtForm c.args.s.now.form) c.args.s.now.ordinal c.args.checker.now c.default_case.new.checker c.args.body.now c.default_case.new.body c.default_case.result
    (shape.a_default c.args.s.now.form c.get-in-Default.result.now (c.in-Default.is ∙ ap form.Default (sym c.get-in-Default.ensures)))
    c.default_case.ensures.walks

pub statement_parts-returns-in-Block-clause-walks : goal.statement_parts-returns-in-Block-clause-walks
statement_parts-returns-in-Block-clause-walks t c =
    forming.of_form_is (StmtForm-F.Block c.list.result.now) (out-StmtForm c.args.s.now.form) c.args.s.now.ordinal c.args.checker.now c.block.new.checker c.args.body.now c.block.new.body c.block.result
    (shape.a_block c.args.s.now.form c.list.result.now (c.in-Block.is ∙ ap form.Block (sym c.list.ensures)))
    c.block.ensures.walks

pub statement_parts-returns-in-Do-clause-walks : goal.statement_parts-returns-in-Do-clause-walks
statement_parts-returns-in-Do-clause-walks t c =
    forming.of_form_is (StmtForm-F.Do c.in-Do.e) (out-StmtForm c.args.s.now.form) c.args.s.now.ordinal c.args.checker.now c.expression.new.checker c.args.body.now c.expression.new.body c.expression.result
    (shape.a_do c.args.s.now.form c.in-Do.e c.in-Do.is)
    c.expression.ensures.walks

pub statement_parts-returns-in-Switch-clause-walks : goal.statement_parts-returns-in-Switch-clause-walks
statement_parts-returns-in-Switch-clause-walks t c =
    forming.of_form_is (StmtForm-F.Switch c.in-Switch.e c.get-in-Switch.result.now) (out-StmtForm c.args.s.now.form) c.args.s.now.ordinal c.args.checker.now c.switch.new.checker c.args.body.now c.switch.new.body c.switch.result
    (shape.a_switch c.args.s.now.form c.in-Switch.e c.get-in-Switch.result.now (c.in-Switch.is ∙ ap (form.Switch c.in-Switch.e) (sym c.get-in-Switch.ensures)))
    c.switch.ensures.walks

pub statement_parts-returns-in-While-clause-walks : goal.statement_parts-returns-in-While-clause-walks
statement_parts-returns-in-While-clause-walks t c =
    forming.of_form_is (StmtForm-F.While c.in-While.e c.get-in-While.result.now) (out-StmtForm c.args.s.now.form) c.args.s.now.ordinal c.args.checker.now c.while_loop.new.checker c.args.body.now c.while_loop.new.body c.while_loop.result
    (shape.a_while c.args.s.now.form c.in-While.e c.get-in-While.result.now (c.in-While.is ∙ ap (form.While c.in-While.e) (sym c.get-in-While.ensures)))
    c.while_loop.ensures.walks

pub statement_parts-returns-in-Until-clause-walks : goal.statement_parts-returns-in-Until-clause-walks
statement_parts-returns-in-Until-clause-walks t c =
    forming.of_form_is (StmtForm-F.Until c.get-in-Until.result.now c.in-Until.e) (out-StmtForm c.args.s.now.form) c.args.s.now.ordinal c.args.checker.now c.until_loop.new.checker c.args.body.now c.until_loop.new.body c.until_loop.result
    (shape.an_until c.args.s.now.form c.get-in-Until.result.now c.in-Until.e (c.in-Until.is ∙ ap (λ i. form.Until i c.in-Until.e) (sym c.get-in-Until.ensures)))
    c.until_loop.ensures.walks

pub statement_parts-returns-in-For-clause-walks : goal.statement_parts-returns-in-For-clause-walks
statement_parts-returns-in-For-clause-walks t c =
    forming.of_form_is (StmtForm-F.For c.in-For.first c.in-For.test c.in-For.step c.get-in-For.result.now) (out-StmtForm c.args.s.now.form) c.args.s.now.ordinal c.args.checker.now c.for_loop.new.checker c.args.body.now c.for_loop.new.body c.for_loop.result
    (shape.a_for c.args.s.now.form c.in-For.first c.in-For.test c.in-For.step c.get-in-For.result.now (c.in-For.is ∙ ap (form.For c.in-For.first c.in-For.test c.in-For.step) (sym c.get-in-For.ensures)))
    c.for_loop.ensures.walks

pub statement_parts-returns-in-Goto-clause-walks : goal.statement_parts-returns-in-Goto-clause-walks
statement_parts-returns-in-Goto-clause-walks t c =
    subst (λ f. WalksForm f c.args.s.now.ordinal c.args.checker.now c.args.checker.now c.args.body.now c.args.body.now c.goto_code.result) (sym (shape.a_goto c.args.s.now.form c.in-Goto.name c.in-Goto.is))
    (forming.jumped c.args.s.now.ordinal c.in-Goto.name c.args.checker.now c.args.body.now c.goto_code.result c.requires.sound c.goto_code.ensures)

pub statement_parts-returns-in-Continue-clause-walks : goal.statement_parts-returns-in-Continue-clause-walks
statement_parts-returns-in-Continue-clause-walks t c =
    subst (λ f. WalksForm f c.args.s.now.ordinal c.args.checker.now c.args.checker.now c.args.body.now c.args.body.now c.continue_code.result) (sym (shape.a_continue c.args.s.now.form c.in-Continue.is))
    (forming.continued c.args.s.now.ordinal c.args.checker.now c.args.body.now c.continue_code.result c.requires.sound c.continue_code.ensures)

pub statement_parts-returns-in-Break-clause-walks : goal.statement_parts-returns-in-Break-clause-walks
statement_parts-returns-in-Break-clause-walks t c =
    subst (λ f. WalksForm f c.args.s.now.ordinal c.args.checker.now c.args.checker.now c.args.body.now c.args.body.now c.break_code.result) (sym (shape.a_break c.args.s.now.form c.in-Break.is))
    (forming.broken c.args.s.now.ordinal c.args.checker.now c.args.body.now c.is_some.result c.break_code.result c.requires.sound c.is_some.ensures c.break_code.ensures)

pub statement_parts-returns-in-Return-clause-walks : goal.statement_parts-returns-in-Return-clause-walks
statement_parts-returns-in-Return-clause-walks t c =
    subst (λ f. IfOk c.returning.result (WalksForm f c.args.s.now.ordinal c.args.checker.now c.returning.new.checker c.args.body.now c.args.body.now)) (sym (shape.a_return c.args.s.now.form c.in-Return.e c.in-Return.is))
    (IfOk-weaker c.returning.result _ _ (λ code walks. forming.returns c.args.s.now.ordinal c.in-Return.e c.args.checker.now c.returning.new.checker c.args.body.now code walks) c.returning.ensures.walks)

pub statement_parts-returns-in_ok-scoped_if_any-in-If-clause-walks : goal.statement_parts-returns-in_ok-scoped_if_any-in-If-clause-walks
statement_parts-returns-in_ok-scoped_if_any-in-If-clause-walks t c =
    subst (λ f. WalksForm f c.args.s.now.ordinal c.args.checker.now c.leave.new.checker c.args.body.now c.scoped_if_any.new.body c.in_ok-asked-in-If.asked.code)
    (sym (shape.an_if c.args.s.now.form c.in-If.e c.get-in-If.result.now c.in-If.other (c.in-If.is ∙ ap (λ s. form.If c.in-If.e s c.in-If.other) (sym c.get-in-If.ensures))))
    (forming.branched c.args.s.now.ordinal c.in-If.e c.get-in-If.result.now c.in-If.other c.args.checker.now c.enter-mark.new.checker c.condition_in.new.checker c.scoped.new.checker c.scoped_if_any.new.checker c.leave.new.checker c.enter-mark.result c.args.body.now c.scoped.new.body c.scoped_if_any.new.body c.in_ok-asked-in-If.asked (c.enter-mark.ensures.beside.sound c.requires.sound) (stays_entered c.args.checker.now c.enter-mark.new.checker c.enter-mark.result c.args.body.now c.requires.sound c.requires.known c.enter-mark.ensures).known (stays_by c.enter-mark.new.checker c.condition_in.new.checker c.args.body.now c.args.body.now (c.enter-mark.ensures.beside.sound c.requires.sound) (stays_entered c.args.checker.now c.enter-mark.new.checker c.enter-mark.result c.args.body.now c.requires.sound c.requires.known c.enter-mark.ensures).known c.in_ok-asked-in-If.ensures.grows refl).grows.sound (stays_by c.enter-mark.new.checker c.condition_in.new.checker c.args.body.now c.args.body.now (c.enter-mark.ensures.beside.sound c.requires.sound) (stays_entered c.args.checker.now c.enter-mark.new.checker c.enter-mark.result c.args.body.now c.requires.sound c.requires.known c.enter-mark.ensures).known c.in_ok-asked-in-If.ensures.grows refl).known c.enter-mark.ensures c.in_ok-asked-in-If.ensures.asks
    c.in_ok-scoped-in-If.ensures.walks c.in_ok-scoped-in-If.ensures.stays.returned c.in_ok-scoped_if_any-in-If.ensures.walks c.leave.ensures)

pub statement_parts-returns-in_ok-scoped_if_any-in-If-clause-stays : goal.statement_parts-returns-in_ok-scoped_if_any-in-If-clause-stays
statement_parts-returns-in_ok-scoped_if_any-in-If-clause-stays t c =
    stays_left c.args.checker.now c.scoped_if_any.new.checker c.leave.new.checker c.enter-mark.result c.args.body.now c.scoped_if_any.new.body
    (stays_then c.args.checker.now c.enter-mark.new.checker c.scoped_if_any.new.checker c.args.body.now c.args.body.now c.scoped_if_any.new.body (stays_entered c.args.checker.now c.enter-mark.new.checker c.enter-mark.result c.args.body.now c.requires.sound c.requires.known c.enter-mark.ensures)
    (stays_then c.enter-mark.new.checker c.condition_in.new.checker c.scoped_if_any.new.checker c.args.body.now c.args.body.now c.scoped_if_any.new.body (stays_by c.enter-mark.new.checker c.condition_in.new.checker c.args.body.now c.args.body.now (c.enter-mark.ensures.beside.sound c.requires.sound) (stays_entered c.args.checker.now c.enter-mark.new.checker c.enter-mark.result c.args.body.now c.requires.sound c.requires.known c.enter-mark.ensures).known c.in_ok-asked-in-If.ensures.grows refl)
    (stays_then c.condition_in.new.checker c.scoped.new.checker c.scoped_if_any.new.checker c.args.body.now c.scoped.new.body c.scoped_if_any.new.body c.in_ok-scoped-in-If.ensures.stays c.in_ok-scoped_if_any-in-If.ensures.stays)))
    c.leave.ensures

pub statement_parts-condition_in-requires-clause-sound : goal.statement_parts-condition_in-requires-clause-sound
statement_parts-condition_in-requires-clause-sound t c = c.enter-mark.ensures.beside.sound c.requires.sound

pub statement_parts-condition_in-requires-clause-known : goal.statement_parts-condition_in-requires-clause-known
statement_parts-condition_in-requires-clause-known t c =
    (stays_entered c.args.checker.now c.enter-mark.new.checker c.enter-mark.result c.args.body.now c.requires.sound c.requires.known c.enter-mark.ensures).known

pub block_item-returns-in-Declare-clause-walks : goal.block_item-returns-in-Declare-clause-walks
block_item-returns-in-Declare-clause-walks t c =
    subst (λ f. OnOk c.declaration_in_block.result (WalksItem f c.args.checker.now c.declaration_in_block.new.checker c.args.body.now c.args.body.now)) (sym (shape.a_declaration c.args.item.now c.in-Declare.node c.in-Declare.is))
    (on_ok_weaker c.declaration_in_block.result (λ walks. item_declared c.in-Declare.node c.args.checker.now c.declaration_in_block.new.checker c.args.body.now walks) c.declaration_in_block.ensures.walks)

pub block_item-returns-in-Declare-clause-stays : goal.block_item-returns-in-Declare-clause-stays
block_item-returns-in-Declare-clause-stays t c =
    on_ok_weaker c.declaration_in_block.result (λ grows. stays_by c.args.checker.now c.declaration_in_block.new.checker c.args.body.now c.args.body.now c.requires.sound c.requires.known grows refl) c.declaration_in_block.ensures.grows

pub block_item-returns-in-Stmt-clause-walks : goal.block_item-returns-in-Stmt-clause-walks
block_item-returns-in-Stmt-clause-walks t c =
    subst (λ f. OnOk c.statement.result (WalksItem f c.args.checker.now c.statement.new.checker c.args.body.now c.statement.new.body)) (sym (shape.a_statement c.args.item.now c.in-Stmt.inner c.in-Stmt.is)) c.statement.ensures.walks

pub scoped_if_any-returns-in-Some-clause-walks : goal.scoped_if_any-returns-in-Some-clause-walks
scoped_if_any-returns-in-Some-clause-walks t c =
    subst (λ s. OnOk c.scoped.result (WalksScoped s c.args.checker.now c.scoped.new.checker c.args.body.now c.scoped.new.body)) (sym (c.in-Some.is ∙ ap Some (sym c.get.ensures))) c.scoped.ensures.walks
