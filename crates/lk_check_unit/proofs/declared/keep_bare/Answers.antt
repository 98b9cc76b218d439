use Rattle.std.proofs.Common.{◌∙◌, ap}
use Rattle.std.specs.Prelude.{if◌then◌else◌}
use Rattle.lk_typed.specs.Meaning.{meaning}
use Rattle.lk_check_unit.proofs.Naming.{bare_waits, waits_so}
use Rattle.lk_check_unit.proofs.declared.keep_bare.Goals as goal

pub keep_object-requires-clause-here : goal.keep_object-requires-clause-here
keep_object-requires-clause-here c = λ env at_end. c.waits_for_end.ensures env at_end ∙ ap (λ b. if b then at_end else env) c.if-waits_for_end.false

pub returns-then-waits_for_end-clause-asks : goal.returns-then-waits_for_end-clause-asks
returns-then-waits_for_end-clause-asks c =
    bare_waits c.args.checker.now c.args.words.now c.args.at c.args.how.now c.waiting.result c.requires.bare
    (λ env at_end. c.waits_for_end.ensures env at_end ∙ ap (λ b. if b then at_end else env) c.if-waits_for_end.true) c.waiting.ensures

pub returns-then-waits_for_end-clause-waits : goal.returns-then-waits_for_end-clause-waits
returns-then-waits_for_end-clause-waits c =
    waits_so c.args.checker.now.types c.args.how.now.scope c.args.words.now c.args.how.now.given c.args.at (meaning c.args.checker.now.types c.args.how.now.ty) c.args.how.now.ty c.waiting.result c.requires.known c.requires.bare
    (λ env at_end. c.waits_for_end.ensures env at_end ∙ ap (λ b. if b then at_end else env) c.if-waits_for_end.true) c.waiting.ensures
