use Rattle.std.specs.Prelude.{◌≡◌, List}
use Rattle.std.proofs.lemmas.Result.{on_ok_weaker}
use Rattle.lk_tree.specs.declared.statement.Unit.{Unit}
use Rattle.lk_typed.specs.Env.{Name}
use Rattle.lk_typed.specs.Units.{around}
use Rattle.lk_rules.specs.Keeping.{none_kept}
use Rattle.lk_found.specs.Recorded.{nothing_recorded}
use Rattle.lk_checker.specs.States.{IsIn, IsSound, kept_in}
use Rattle.lk_checker.specs.declared.checker.Checker.{Checker}
use Rattle.lk_checker.proofs.LetThrough.{let_through}
use Rattle.lk_checker.specs.Sources.{IsOutsideOf}
use Rattle.lk_predeclared.proofs.Begun.{begins_in, begins_sound}
use Rattle.lk_predeclared.proofs.beginning.begin.Goals as goal

pub returns-clause-sound : goal.returns-clause-sound
returns-clause-sound c =
    let first = c.in_ok-checker.checker in
    let told = c.in_ok-checker.ensures in
    let declared = c.declare_all-declared in
    let last = record first { types = declared.new.types; names = declared.new.names } in
    let_through declared.result last c.and.result c.and.ensures IsSound
    (on_ok_weaker declared.result (λ makes. begins_sound first last told.sound told.names makes.grows makes.adds) declared.ensures)

pub returns-clause-begins : goal.returns-clause-begins
returns-clause-begins c =
    let first = c.in_ok-checker.checker in
    let told = c.in_ok-checker.ensures in
    let declared = c.declare_all-declared in
    let last = record first { types = declared.new.types; names = declared.new.names } in
    let_through declared.result last c.and.result c.and.ensures (λ (checker : Checker). (externs : List Name) (unit : Unit) → IsOutsideOf c.args.outside externs unit → IsIn checker (around externs unit))
    (on_ok_weaker declared.result (λ makes. begins_in first last told.sound told.names makes.grows makes.adds c.args.outside told.outside) declared.ensures)

pub returns-clause-kept : goal.returns-clause-kept
returns-clause-kept c =
    let first = c.in_ok-checker.checker in
    let declared = c.declare_all-declared in
    let last = record first { types = declared.new.types; names = declared.new.names } in
    let_through declared.result last c.and.result c.and.ensures (λ (checker : Checker). kept_in checker ≡ none_kept) (on_ok_weaker declared.result (λ makes. c.in_ok-checker.ensures.kept) declared.ensures)

pub returns-clause-outside : goal.returns-clause-outside
returns-clause-outside c =
    let first = c.in_ok-checker.checker in
    let declared = c.declare_all-declared in
    let last = record first { types = declared.new.types; names = declared.new.names } in
    let_through declared.result last c.and.result c.and.ensures (λ (checker : Checker). checker.outside ≡ c.args.outside) (on_ok_weaker declared.result (λ makes. c.in_ok-checker.ensures.outside) declared.ensures)

pub returns-clause-records : goal.returns-clause-records
returns-clause-records c =
    let first = c.in_ok-checker.checker in
    let declared = c.declare_all-declared in
    let last = record first { types = declared.new.types; names = declared.new.names } in
    let_through declared.result last c.and.result c.and.ensures (λ (checker : Checker). checker.records ≡ nothing_recorded)
    (on_ok_weaker declared.result (λ makes. c.in_ok-checker.ensures.records) declared.ensures)
