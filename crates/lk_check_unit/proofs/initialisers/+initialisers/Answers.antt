use Rattle.std.proofs.Common.{◌∙◌, ◌+◌, drop, refl, sym, ap, subst}
use Rattle.std.proofs.lemmas.Result.{IfOk-weaker, on_ok_weaker}
use Rattle.lk_typed.specs.Env.{Env}
use Rattle.lk_typed.specs.Initialisers.{entry_object}
use Rattle.lk_typed.specs.Typings.{structs_in}
use Rattle.lk_check_decl.specs.Initialisers.{braces_of}
use Rattle.lk_check_unit.specs.Initialising.{WalksDesignators, WalksEntries, WalksEntry}
use Rattle.lk_check_unit.proofs.Entries.{AreLeft, all_left, entry_walked, none_left, object_stays, one_less, target_known}
use Rattle.lk_check_unit.proofs.Initialised.{list_walked}
use Rattle.lk_check_unit.proofs.Initials.{a_list, an_expression}
use Rattle.lk_rules.proofs.Rests.{next_left, nothing_left}
use Rattle.lk_check_unit.proofs.Staying.{grows_none, grows_then, grows_told}
use Rattle.lk_check_unit.proofs.initialisers.+initialisers.Goals as goal

pub list-returns-clause-grows : goal.list-returns-clause-grows
list-returns-clause-grows t c =
    on_ok_weaker c.keep.result
    (λ tells. grows_then c.args.checker.now c.entries.new.checker c.keep.new.self c.in_ok-are_typed.ensures.grows (grows_told c.entries.new.checker c.keep.new.self _ _ c.in_ok-are_typed.ensures.grows.sound tells))
    c.keep.ensures

pub list-returns-clause-walks : goal.list-returns-clause-walks
list-returns-clause-walks t c =
    on_ok_weaker c.keep.result
    (λ tells.
    list_walked c.args.target.now c.args.init.now (braces_of c.in_ok-braces.braces) c.in_ok-are_typed.are_typed c.args.checker.now c.entries.new.checker c.keep.new.self _ c.braces_code-code.result c.only_if.result
    c.in_ok-braces.ensures (λ env is. c.braces_code-code.ensures env (is ∙ ap (structs_in c.args.checker.now.types) (sym c.structs.ensures)))
    (subst (λ es. WalksEntries c.args.target.now c.in_ok-braces.braces.text es c.args.checker.now c.entries.new.checker c.in_ok-are_typed.are_typed) c.list.ensures c.in_ok-are_typed.ensures.walks)
    refl refl c.only_if.ensures tells)
    c.keep.ensures

pub entries-loop-e-init : goal.entries-loop-e-init
entries-loop-e-init t c =
    record {
      grows = grows_none c.args.checker.now c.requires.sound;
      target = c.requires.target;
      left = all_left c.args.target.now c.args.text c.args.checker.now c.args.list.now;
    }

pub entries-loop-e-preserved : goal.entries-loop-e-preserved
entries-loop-e-preserved t c =
    record {
      grows = grows_then c.args.checker.now c.loop-e.checker c.entry.new.checker c.loop-e.invariant.grows c.in_ok-is_typed.ensures.grows;
      target = target_known c.loop-e.checker c.entry.new.checker c.loop-e.invariant.grows.sound c.in_ok-is_typed.ensures.grows.longer c.args.target.now c.loop-e.invariant.target;
      left =
          subst (λ b. AreLeft c.args.target.now c.args.text c.args.checker.now c.entry.new.checker b c.in_ok-number.number c.args.list.now (drop (c.loop-e.e-index + 1) c.args.list.now)) (sym c.both-are_typed.ensures)
          (one_less c.args.target.now c.args.text c.args.checker.now c.loop-e.checker c.entry.new.checker c.loop-e.are_typed c.in_ok-is_typed.is_typed c.loop-e.number c.in_ok-number.number c.args.list.now
          (drop c.loop-e.e-index c.args.list.now) (drop (c.loop-e.e-index + 1) c.args.list.now) c.e-item.result c.in_ok-number.ensures
          (next_left c.args.list.now c.loop-e.e-index c.e-item.result c.loop-e-test.true c.e-item.is)
          (object_stays c.args.checker.now c.loop-e.checker c.requires.sound c.loop-e.invariant.grows.longer c.args.target.now c.requires.target) c.loop-e.invariant.left c.in_ok-is_typed.ensures.walks);
    }

pub entries-returns-clause-walks : goal.entries-returns-clause-walks
entries-returns-clause-walks t c =
    none_left c.args.target.now c.args.text c.args.checker.now c.loop-e.checker c.loop-e.are_typed c.loop-e.number c.args.list.now (drop c.loop-e.e-index c.args.list.now) c.loop-e.invariant.grows.sound
    (nothing_left c.args.list.now c.loop-e.e-index c.loop-e-test.false) c.loop-e.invariant.left

pub entry-part_of-inner-requires : goal.entry-part_of-inner-requires
entry-part_of-inner-requires t c = target_known c.args.checker.now c.designators.new.checker c.requires.sound c.in_ok-are_typed.ensures.grows.longer c.args.target.now c.requires.target

pub entry-returns-clause-grows : goal.entry-returns-clause-grows
entry-returns-clause-grows t c =
    grows_then c.args.checker.now c.designators.new.checker c.initialiser.new.checker c.in_ok-are_typed.ensures.grows c.in_ok-is_typed.ensures.grows

pub entry-returns-clause-walks : goal.entry-returns-clause-walks
entry-returns-clause-walks t c =
    subst (WalksEntry c.args.target.now c.args.text c.args.number c.args.e.now c.args.checker.now c.initialiser.new.checker) (sym c.both.ensures)
    (entry_walked c.args.target.now c.part_of-inner.result c.args.text c.args.number c.args.e.now c.args.checker.now c.designators.new.checker c.initialiser.new.checker c.in_ok-are_typed.are_typed
    c.in_ok-is_typed.is_typed (subst (λ ds. WalksDesignators ds c.args.checker.now c.designators.new.checker c.in_ok-are_typed.are_typed) c.list.ensures c.in_ok-are_typed.ensures.walks)
    (λ env plain.
    c.part_of-inner.ensures.value env (ap (λ (e : Env). e.structs) (sym plain.is_in.scope) ∙ ap (structs_in c.designators.new.checker.types) (sym c.structs.ensures)) ∙
    ap (λ o. entry_object env o c.args.text c.args.number)
    (object_stays c.args.checker.now c.designators.new.checker c.requires.sound c.in_ok-are_typed.ensures.grows.longer c.args.target.now c.requires.target))
    c.in_ok-is_typed.ensures.walks)

pub initialiser-returns-in-Expr-clause-walks : goal.initialiser-returns-in-Expr-clause-walks
initialiser-returns-in-Expr-clause-walks t c =
    IfOk-weaker c.expression.result _ _ (λ answer walks. walks c.args.init.now (an_expression c.args.init.now c.in-Expr.e c.in-Expr.is)) c.expression.ensures.walks

pub initialiser-returns-in_ok-list-in-List-clause-walks : goal.initialiser-returns-in_ok-list-in-List-clause-walks
initialiser-returns-in_ok-list-in-List-clause-walks t c = c.in_ok-list-in-List.ensures.walks c.args.init.now (a_list c.args.init.now c.in-List.inner c.in-List.is)
