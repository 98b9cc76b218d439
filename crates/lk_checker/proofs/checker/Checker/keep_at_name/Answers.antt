use Rattle.std.proofs.Common.{◌∙◌, refl, subst}
use Rattle.std.specs.Option.{option_map}
use Rattle.lk_typed.specs.Meaning.{meaning}
use Rattle.lk_typed.specs.NodeRules.{plain_name}
use Rattle.lk_typed.specs.Redeclared.{name_rules}
use Rattle.lk_rules.specs.Keeping.{KeepsCodes}
use Rattle.lk_found.proofs.Adjusting.{name_kept}
use Rattle.lk_found.specs.Named.{named_at}
use Rattle.lk_found.specs.Findings.{mark_at}
use Rattle.lk_checker.specs.States.{kept_in}
use Rattle.lk_checker.proofs.checker.Checker.keep_at_name.Goals as goal

pub returns-clause-same : goal.returns-clause-same
returns-clause-same c = record {
  types = c.in_ok-keep.ensures.types ∙ c.in_ok-keep_name.ensures.types;
  names = c.in_ok-keep.ensures.names ∙ c.in_ok-keep_name.ensures.names;
  outside = c.in_ok-keep.ensures.outside ∙ c.in_ok-keep_name.ensures.outside;
  records = c.in_ok-keep.ensures.records ∙ c.in_ok-keep_name.ensures.records;
}

pub returns-clause-keeps : goal.returns-clause-keeps
returns-clause-keeps c = λ env is.
    let old = c.args.self.now in
    let middle = c.keep_name.new.self in
    let new = c.keep.new.self in
    let name = c.args.name.now in
    let m = mark_at c.args.at in
    let asked = c.at_name-meaning.result in
    name_kept (kept_in old) (kept_in middle) (kept_in new) env (option_map (meaning old.types) c.args.t.now) (named_at name c.args.at) m asked.code refl
    (subst (λ meaning. KeepsCodes (kept_in old) m (name_rules env (plain_name name meaning)) (kept_in middle)) c.at_name-meaning.ensures.value (c.in_ok-keep_name.ensures.keeps env is))
    c.at_name-meaning.ensures.code c.in_ok-keep.ensures.kept
