use Rattle.std.proofs.Common.{◌∙◌, sym, ap}
use Rattle.std.specs.Option.{option_map}
use Rattle.std.proofs.lemmas.Result.{IfOk-weaker}
use Rattle.lk_found.specs.Named.{name_in}
use Rattle.lk_check_unit.proofs.Declares.{name_found, no_name_found, waits_known}
use Rattle.lk_check_unit.proofs.Naming.{further_puts}
use Rattle.lk_check_unit.proofs.declarations.name_of.Goals as goal

pub returns-in-Some-clause-finds : goal.returns-in-Some-clause-finds
returns-in-Some-clause-finds c =
    IfOk-weaker c.declare_name.result _ _
    (λ found declares. name_found c.args.checker.now c.declare_name.new.checker c.args.scope c.args.words.now c.given_by.result c.args.d.now c.args.t.now found (name_in c.in-Some.named)
    (ap (option_map name_in) (sym c.in-Some.is) ∙ c.declared_name.ensures) c.given_by.ensures declares) c.declare_name.ensures.declares

pub returns-in_ok-ty-in-None-clause-further : goal.returns-in_ok-ty-in-None-clause-further
returns-in_ok-ty-in-None-clause-further c = further_puts c.args.checker.now c.sized.new.checker c.in_ok-ty-in-None.ensures.puts

pub returns-in_ok-ty-in-None-clause-finds : goal.returns-in_ok-ty-in-None-clause-finds
returns-in_ok-ty-in-None-clause-finds c =
    no_name_found c.args.checker.now c.sized.new.checker c.args.scope c.args.words.now c.args.d.now c.args.t.now c.in_ok-ty-in-None.ty c.requires.sound
    (ap (option_map name_in) (sym c.in-None.is) ∙ c.declared_name.ensures) c.in_ok-ty-in-None.ensures.puts c.in_ok-ty-in-None.ensures.means

pub returns-in-Some-clause-waits : goal.returns-in-Some-clause-waits
returns-in-Some-clause-waits c =
    IfOk-weaker c.declare_name.result _ _ (λ found waits. waits_known c.declare_name.new.checker.types c.args.scope c.given_by.result found.pending waits) c.declare_name.ensures.waits
