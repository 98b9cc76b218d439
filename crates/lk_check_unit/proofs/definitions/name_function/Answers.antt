use Rattle.std.proofs.Common.{subst}
use Rattle.std.specs.Prelude.{IfOk, None}
use Rattle.lk_check_decl.specs.declared.words.Given.TheVariants.{Body}
use Rattle.lk_check_decl.specs.declared.words.Scope.TheVariants.{File}
use Rattle.lk_found.specs.Named.{name_in}
use Rattle.lk_check_unit.specs.Declaring.{DeclaresName, WaitsIn}
use Rattle.lk_check_unit.proofs.Defining.{function_named}
use Rattle.lk_check_unit.proofs.definitions.name_function.Goals as goal

pub returns-in-Ok-clause-names : goal.returns-in-Ok-clause-names
returns-in-Ok-clause-names c =
    function_named c.args.checker.now c.declare_name.new.checker c.args.words.now (name_in c.args.named.now) c.args.t.now _
    (subst (λ r. IfOk r (λ found. WaitsIn c.declare_name.new.checker.types File Body found.pending)) c.in-Ok.is c.declare_name.ensures.waits)
    (subst (λ r. IfOk r (DeclaresName c.args.checker.now c.declare_name.new.checker File c.args.words.now Body (name_in c.args.named.now) c.args.t.now None)) c.in-Ok.is c.declare_name.ensures.declares)
