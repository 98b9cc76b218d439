use Rattle.std.proofs.Common.{◌∙◌, ◌++◌, ap, subst}
use Rattle.std.specs.Option.{option_copied}
use Rattle.lk_typed.specs.Env.{Env}
use Rattle.lk_typed.specs.HolderRules.{optional_tag_rules}
use Rattle.lk_typed.specs.Redeclared.{may_use}
use Rattle.lk_typed.specs.Told.{tag_found}
use Rattle.lk_names.specs.Uses.{rules_use}
use Rattle.lk_found.specs.Specified.{IsGathered}
use Rattle.lk_checker.proofs.checker.Checker.put_tag_use.Goals as goal

pub returns : goal.returns
returns c = λ env is.
    let checker = c.args.self.now in
    let tag = option_copied c.args.tag in
    let wanted = rules_use c.args.wanted in
    record {
      may = c.admits-is_admitted.ensures checker.types env ∙ ap (λ (e : Env). may_use e (tag_found e wanted tag) wanted) is.scope;
      gathered = λ table others codes g.
          subst (λ bs. IsGathered table c.put_breach.new.self others (codes ++ bs))
          (c.in_ok-breach.ensures checker.types env ∙ ap (λ (e : Env). optional_tag_rules e wanted tag) is.scope)
          (c.in_ok-put_breach.ensures table others codes g);
    }
