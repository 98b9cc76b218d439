use Rattle.std.proofs.Common.{sym, subst}
use Rattle.lk_typed.specs.NodeRules.{item_meaning, plain_name}
use Rattle.lk_typed.specs.Redeclared.{name_rules}
use Rattle.lk_rules.proofs.Kept.{codes_are_kept_in_turn}
use Rattle.lk_rules.specs.Keeping.{KeepsCodes}
use Rattle.lk_found.proofs.Keepings.{kept_told}
use Rattle.lk_found.specs.Findings.{mark_at}
use Rattle.lk_checker.proofs.States.{same_in}
use Rattle.lk_checker.specs.States.{kept_in}
use Rattle.lk_checker.proofs.checker.Checker.keep_item.Goals as goal

pub keep_name-requires-clause-meaning : goal.keep_name-requires-clause-meaning
keep_name-requires-clause-meaning c = c.named-meaning.ensures.known c.keep.new.self.types

pub returns-clause-keeps : goal.returns-clause-keeps
returns-clause-keeps c = λ env broken is code unnamed.
    let old = c.args.self.now in
    let middle = c.keep.new.self in
    let mark = mark_at c.args.at in
    let name = c.args.name.now in
    let tells = c.in_ok-keep.ensures in
    codes_are_kept_in_turn (kept_in old) (kept_in middle) (kept_in c.keep_name.new.self) mark broken (name_rules env (plain_name name (item_meaning c.args.found.value)))
    (subst (KeepsCodes (kept_in old) mark broken) (sym tells.kept) (kept_told (kept_in old) mark c.args.found.code broken code unnamed))
    (subst (λ meaning. KeepsCodes (kept_in middle) mark (name_rules env (plain_name name meaning)) (kept_in c.keep_name.new.self)) (c.named-meaning.ensures.value middle.types)
    (c.in_ok-keep_name.ensures.keeps env (same_in old middle tells.types tells.names tells.outside env is)))
