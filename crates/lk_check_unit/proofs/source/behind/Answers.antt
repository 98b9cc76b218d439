use Rattle.std.proofs.Common.{refl, subst, sym}
use Rattle.std.proofs.lemmas.Result.{on_ok_weaker}
use Rattle.std.specs.Option.{option_map}
use Rattle.lk_typed.specs.Elements.{HasFewElements}
use Rattle.lk_typed.specs.Meaning.{IsReady}
use Rattle.lk_typed.specs.Units.{at_end}
use Rattle.lk_names.specs.InScope.{IsKnownScope}
use Rattle.lk_found.specs.Findings.{refusal_of}
use Rattle.lk_found.specs.Structs.{AreListed}
use Rattle.lk_checker.specs.States.{IsIn, kept_in}
use Rattle.lk_checker.specs.declared.checker.Checker.{Checker}
use Rattle.lk_checker.specs.declared.checker.Outside.{Outside}
use Rattle.lk_checker.proofs.LetThrough.{let_through}
use Rattle.lk_checker.specs.Sources.{IsOutsideOf, RecordsOf, TellsFirst}
use Rattle.lk_check_unit.specs.Sources.{WalksOver}
use Rattle.lk_check_unit.proofs.Checking.{behind_all, few_behind, first_told, known_behind, outside_stays, ready_behind, records_told, structs_behind}
use Rattle.lk_check_unit.proofs.source.behind.Goals as goal

pub returns-clause-told : goal.returns-clause-told
returns-clause-told c =
    let first = c.in_ok-checker.checker in
    let last = c.walk_over-walked.new.checker in
    let told = c.in_ok-checker.ensures in
    let begins = told.begins c.args.externs.now c.args.unit.now c.in_ok-outside.ensures in
    let over = subst (WalksOver first last) c.list.ensures in
    let_through c.walk_over-walked.result last c.and.result c.and.ensures (λ (checker : Checker). TellsFirst c.args.externs.now c.args.unit.now (option_map refusal_of (kept_in checker).least))
    (on_ok_weaker c.walk_over-walked.result (λ walks. first_told c.args.externs.now c.args.unit.now first last begins told.kept (over walks) _ refl) c.walk_over-walked.ensures)

pub returns-clause-ready : goal.returns-clause-ready
returns-clause-ready c =
    let first = c.in_ok-checker.checker in
    let last = c.walk_over-walked.new.checker in
    let told = c.in_ok-checker.ensures in
    let begins = told.begins c.args.externs.now c.args.unit.now c.in_ok-outside.ensures in
    let over = subst (WalksOver first last) c.list.ensures in
    let_through c.walk_over-walked.result last c.and.result c.and.ensures (λ (checker : Checker). IsReady checker.types)
    (on_ok_weaker c.walk_over-walked.result (λ walks. ready_behind first last c.args.unit.now.externals (over walks)) c.walk_over-walked.ensures)

pub returns-clause-few : goal.returns-clause-few
returns-clause-few c =
    let first = c.in_ok-checker.checker in
    let last = c.walk_over-walked.new.checker in
    let told = c.in_ok-checker.ensures in
    let begins = told.begins c.args.externs.now c.args.unit.now c.in_ok-outside.ensures in
    let over = subst (WalksOver first last) c.list.ensures in
    let_through c.walk_over-walked.result last c.and.result c.and.ensures (λ (checker : Checker). HasFewElements checker.types)
    (on_ok_weaker c.walk_over-walked.result (λ walks. few_behind first last c.args.unit.now.externals (over walks)) c.walk_over-walked.ensures)

pub returns-clause-known : goal.returns-clause-known
returns-clause-known c =
    let first = c.in_ok-checker.checker in
    let last = c.walk_over-walked.new.checker in
    let told = c.in_ok-checker.ensures in
    let begins = told.begins c.args.externs.now c.args.unit.now c.in_ok-outside.ensures in
    let over = subst (WalksOver first last) c.list.ensures in
    let_through c.walk_over-walked.result last c.and.result c.and.ensures (λ (checker : Checker). IsKnownScope checker.types checker.names)
    (on_ok_weaker c.walk_over-walked.result (λ walks. known_behind first last c.args.unit.now.externals (over walks)) c.walk_over-walked.ensures)

pub returns-clause-structs : goal.returns-clause-structs
returns-clause-structs c =
    let first = c.in_ok-checker.checker in
    let last = c.walk_over-walked.new.checker in
    let told = c.in_ok-checker.ensures in
    let begins = told.begins c.args.externs.now c.args.unit.now c.in_ok-outside.ensures in
    let over = subst (WalksOver first last) c.list.ensures in
    let_through c.walk_over-walked.result last c.and.result c.and.ensures (λ (checker : Checker). AreListed checker.types checker.names.structs)
    (on_ok_weaker c.walk_over-walked.result (λ walks. structs_behind first last c.args.unit.now.externals (over walks)) c.walk_over-walked.ensures)

pub returns-clause-scope : goal.returns-clause-scope
returns-clause-scope c =
    let first = c.in_ok-checker.checker in
    let last = c.walk_over-walked.new.checker in
    let told = c.in_ok-checker.ensures in
    let begins = told.begins c.args.externs.now c.args.unit.now c.in_ok-outside.ensures in
    let over = subst (WalksOver first last) c.list.ensures in
    let_through c.walk_over-walked.result last c.and.result c.and.ensures (λ (checker : Checker). IsIn checker (at_end c.args.externs.now c.args.unit.now))
    (on_ok_weaker c.walk_over-walked.result (λ walks. behind_all c.args.externs.now c.args.unit.now first last begins told.kept (over walks) told.records) c.walk_over-walked.ensures)

pub returns-clause-outside : goal.returns-clause-outside
returns-clause-outside c =
    let first = c.in_ok-checker.checker in
    let last = c.walk_over-walked.new.checker in
    let told = c.in_ok-checker.ensures in
    let begins = told.begins c.args.externs.now c.args.unit.now c.in_ok-outside.ensures in
    let over = subst (WalksOver first last) c.list.ensures in
    let_through c.walk_over-walked.result last c.and.result c.and.ensures (λ (checker : Checker). IsOutsideOf checker.outside c.args.externs.now c.args.unit.now)
    (on_ok_weaker c.walk_over-walked.result (λ walks. outside_stays c.args.externs.now c.args.unit.now first last begins told.kept (over walks) told.records (subst (λ (o : Outside). IsOutsideOf o c.args.externs.now c.args.unit.now) (sym told.outside) c.in_ok-outside.ensures)) c.walk_over-walked.ensures)

pub returns-clause-records : goal.returns-clause-records
returns-clause-records c =
    let first = c.in_ok-checker.checker in
    let last = c.walk_over-walked.new.checker in
    let told = c.in_ok-checker.ensures in
    let begins = told.begins c.args.externs.now c.args.unit.now c.in_ok-outside.ensures in
    let over = subst (WalksOver first last) c.list.ensures in
    let_through c.walk_over-walked.result last c.and.result c.and.ensures (λ (checker : Checker). RecordsOf c.args.externs.now c.args.unit.now checker.types checker.records)
    (on_ok_weaker c.walk_over-walked.result (λ walks. records_told c.args.externs.now c.args.unit.now first last begins told.kept (over walks) told.records) c.walk_over-walked.ensures)
