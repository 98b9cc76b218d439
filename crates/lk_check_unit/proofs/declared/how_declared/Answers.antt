use Rattle.std.proofs.Common.{◌∙◌, refl, ap}
use Rattle.lk_typed.specs.DeclarationRules.{defines_of}
use Rattle.lk_check_decl.specs.Twins.{given_of}
use Rattle.lk_check_unit.proofs.declared.how_declared.Goals as goal

pub returns : goal.returns
returns c =
    record {
      stands = refl;
      gives = refl;
      linkage = c.reach_of.ensures;
      defines = λ place. c.defines_of.ensures place ∙ ap (λ b. defines_of place c.args.words.now b (given_of c.args.given)) c.is_function_type-is_function.ensures;
    }
