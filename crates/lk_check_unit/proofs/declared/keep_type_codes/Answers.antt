use Rattle.std.proofs.Common.{None, refl, sym, subst}
use Rattle.std.proofs.lemmas.Result.{IfOk-weaker}
use Rattle.lk_found.specs.Named.{name_in}
use Rattle.lk_check_unit.specs.Declaring.{AsksType}
use Rattle.lk_check_unit.proofs.Naming.{both_ok, no_type_asked, type_asked}
use Rattle.lk_check_unit.proofs.declared.keep_type_codes.Goals as goal

pub returns-in_ok-keep_use-in-Some-clause-asks : goal.returns-in_ok-keep_use-in-Some-clause-asks
returns-in_ok-keep_use-in-Some-clause-asks c =
    IfOk-weaker c.keep_complete.result _ _
    (λ pending both.
    subst (λ t. AsksType c.args.checker.now c.keep_complete.new.checker c.args.words.now c.args.how.now (name_in c.args.named.now) t pending) (sym c.in-Some.is)
    (type_asked c.args.checker.now c.keep_use.new.checker c.keep_complete.new.checker c.args.words.now c.args.how.now (name_in c.args.named.now) c.args.named.now.at c.in-Some.ty pending refl
    c.in_ok-keep_use-in-Some.ensures.same both.0 c.in_ok-keep_use-in-Some.ensures.kept both.1))
    (both_ok _ _ c.keep_complete.result c.keep_complete.ensures.same c.keep_complete.ensures.asks)

pub returns-in-None-clause-asks : goal.returns-in-None-clause-asks
returns-in-None-clause-asks c =
    subst (λ t. AsksType c.args.checker.now c.args.checker.now c.args.words.now c.args.how.now (name_in c.args.named.now) t None) (sym c.in-None.is)
    (no_type_asked c.args.checker.now c.args.words.now c.args.how.now (name_in c.args.named.now))
