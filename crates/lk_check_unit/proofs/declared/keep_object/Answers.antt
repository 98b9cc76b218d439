use Rattle.std.proofs.Common.{◌∙◌, ap}
use Rattle.std.proofs.lemmas.Result.{on_ok_weaker}
use Rattle.lk_typed.specs.Meaning.{meaning}
use Rattle.lk_typed.specs.Typings.{structs_in}
use Rattle.lk_check_decl.specs.Breaches.{told}
use Rattle.lk_check_decl.specs.Names.{object_rules}
use Rattle.lk_check_decl.specs.Twins.{given_of}
use Rattle.lk_check_unit.proofs.Naming.{object_kept, same_told}
use Rattle.lk_check_unit.proofs.declared.keep_object.Goals as goal

pub returns-clause-kept : goal.returns-clause-kept
returns-clause-kept c =
    on_ok_weaker c.keep.result
    (λ tells at_end env is_in.
    object_kept c.args.checker.now c.keep.new.self c.args.words.now c.args.at c.args.how.now c.object_code-code.result env at_end is_in (c.requires.here env at_end)
    (c.object_code-code.ensures ∙ ap (λ ss. told (object_rules (structs_in c.args.checker.now.types ss) c.args.words.now (meaning c.args.checker.now.types c.args.how.now.ty) (given_of c.args.how.now.given))) c.structs.ensures) tells)
    c.keep.ensures

pub returns-clause-same : goal.returns-clause-same
returns-clause-same c = on_ok_weaker c.keep.result (λ tells. same_told c.args.checker.now c.keep.new.self c.args.at _ tells) c.keep.ensures
