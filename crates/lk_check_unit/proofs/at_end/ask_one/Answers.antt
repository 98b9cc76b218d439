use Rattle.std.proofs.Common.{◌∙◌, ap}
use Rattle.std.proofs.lemmas.Result.{on_ok_weaker}
use Rattle.lk_base.specs.declared.code.Code.TheVariants.{Incomplete}
use Rattle.lk_typed.specs.DeclaratorRules.{unless}
use Rattle.lk_typed.specs.Meaning.{meaning}
use Rattle.lk_typed.specs.Sizes.{is_complete}
use Rattle.lk_typed.specs.Typings.{structs_in}
use Rattle.lk_check_decl.specs.Breaches.{told}
use Rattle.lk_check_unit.proofs.AtEnd.{asked_one}
use Rattle.lk_check_unit.proofs.Naming.{same_told}
use Rattle.lk_check_unit.proofs.at_end.ask_one.Goals as goal

pub returns-clause-kept : goal.returns-clause-kept
returns-clause-kept c =
    on_ok_weaker c.keep.result
    (λ tells at_end is_in. asked_one c.args.checker.now c.keep.new.self c.args.pending.now c.incomplete_code-code.result
    (c.incomplete_code-code.ensures ∙ ap (λ ss. told (unless (is_complete (structs_in c.args.checker.now.types ss) (meaning c.args.checker.now.types c.args.pending.now.ty)) Incomplete)) c.structs.ensures)
    tells at_end is_in)
    c.keep.ensures

pub returns-clause-same : goal.returns-clause-same
returns-clause-same c = on_ok_weaker c.keep.result (λ tells. same_told c.args.checker.now c.keep.new.self c.args.pending.now.at _ tells) c.keep.ensures
