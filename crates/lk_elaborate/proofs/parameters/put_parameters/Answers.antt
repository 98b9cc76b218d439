use Rattle.std.proofs.Common.{sym, subst}
use Rattle.lk_typed.specs.Meaning.{meaning}
use Rattle.lk_elaborate.specs.PuttingParameters.{AreTypesOf}
use Rattle.lk_elaborate.proofs.ParametersMore.{goes_more}
use Rattle.lk_elaborate.proofs.ParametersPut.{parameters_put}
use Rattle.lk_elaborate.proofs.parameters.put_parameters.Goals as goal

pub returns-in-Some-clause-goes_on : goal.returns-in-Some-clause-goes_on
returns-in-Some-clause-goes_on c = goes_more c.args.walk.now c.put_typed.new.walk c.in_ok-put_typed-in-Some.ensures.locals c.in_ok-put_typed-in-Some.ensures.puts

pub returns-in-Some-clause-puts : goal.returns-in-Some-clause-puts
returns-in-Some-clause-puts c =
    let put = c.in_ok-put_typed-in-Some.ensures in
    let types = c.args.walk.now.types in
    record {
      parameters = c.in-Some.list.now;
      beside = c.in-Some.ensures;
      locals = put.locals;
      puts = put.puts;
      count_is = c.in_ok-count-in-Some.ensures;
      are =
          parameters_put c.args.walk.now c.args.d.now c.args.t c.in-Some.list.now c.list.result.now put.locals c.in-Some.ensures
          (subst (AreTypesOf types (meaning types c.args.t)) (sym c.list.ensures) c.in_ok-types.ensures) put.are;
    }
