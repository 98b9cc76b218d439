use Rattle.std.proofs.Common.{◌∙◌, [], sym, ap}
use Rattle.std.specs.Prelude.{if◌then◌else◌}
use Rattle.lk_typed.specs.Codes.{least_code}
use Rattle.lk_typed.specs.Words.{codes_in, refused_names}
use Rattle.lk_check_expr.proofs.words.refused_code.Goals as goal

pub returns-else-is_defined : goal.returns-else-is_defined
unfolding refused_names
returns-else-is_defined c = λ env defined.
    c.code_among.ensures ∙ ap (λ b. least_code (if b then [] else codes_in refused_names c.args.name.now)) (sym (defined ∙ c.if-is_defined.false))
