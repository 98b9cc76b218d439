use Rattle.std.proofs.Common.{◌∙◌, sym, ap, subst}
use Rattle.std.specs.Option.{option_map}
use Rattle.std.proofs.lemmas.Result.{on_ok_weaker}
use Rattle.lk_found.specs.Named.{name_in}
use Rattle.lk_check_unit.specs.Definitions.{DefinesName}
use Rattle.lk_check_unit.proofs.Defining.{nothing_named}
use Rattle.lk_check_unit.proofs.Naming.{further_same, same_itself}
use Rattle.lk_check_unit.proofs.definitions.name_of_definition.Goals as goal

pub returns-in-Some-clause-names : goal.returns-in-Some-clause-names
returns-in-Some-clause-names c =
    on_ok_weaker c.name_function.result
    (λ names. subst (λ n. DefinesName c.args.checker.now c.name_function.new.checker c.args.words.now n c.args.t.now) (ap (option_map name_in) (sym c.in-Some.is) ∙ c.declared_name.ensures) names) c.name_function.ensures.names

pub returns-in-None-clause-further : goal.returns-in-None-clause-further
returns-in-None-clause-further c = further_same c.args.checker.now c.args.checker.now c.requires.sound (same_itself c.args.checker.now)

pub returns-in-None-clause-names : goal.returns-in-None-clause-names
returns-in-None-clause-names c =
    subst (λ n. DefinesName c.args.checker.now c.args.checker.now c.args.words.now n c.args.t.now) (ap (option_map name_in) (sym c.in-None.is) ∙ c.declared_name.ensures)
    (nothing_named c.args.checker.now c.args.words.now c.args.t.now)
