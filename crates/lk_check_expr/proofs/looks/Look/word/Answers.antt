use Rattle.std.proofs.Common.{sym, subst}
use Rattle.std.specs.Option.{option_map}
use Rattle.lk_typed.specs.Names.{declared_in}
use Rattle.lk_check_expr.specs.Looks.{IsLook, word_look}
use Rattle.lk_check_expr.proofs.looks.Look.word.Goals as goal

pub returns-in-None : goal.returns-in-None
returns-in-None c = λ env used.
    subst (λ found. IsLook env c.plain.result (word_look (option_map (λ d. declared_in c.args.types.now d.now) found))) (sym c.in-None.is) (c.plain.ensures env)
