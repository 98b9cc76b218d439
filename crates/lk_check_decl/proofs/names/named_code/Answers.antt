use Rattle.std.proofs.Common.{◌∙◌, sym, ap}
use Rattle.lk_typed.specs.DeclarationRules.{env_for, linkage_of}
use Rattle.lk_typed.specs.Meaning.{meaning}
use Rattle.lk_typed.specs.Ty.{is_function}
use Rattle.lk_check_decl.specs.Breaches.{told}
use Rattle.lk_check_decl.specs.Names.{use_rules, object_rules}
use Rattle.lk_check_decl.specs.Twins.{scope_of, given_of}
use Rattle.lk_check_decl.proofs.Told.{both_told}
use Rattle.lk_check_decl.proofs.names.named_code.Goals as goal

pub returns : goal.returns
returns c = λ env at_end used same.
    let declared = c.args.declared.now in
    let t = meaning c.args.types.now declared.ty in
    let scope = scope_of declared.scope in
    let given = given_of declared.given in
    let words = c.args.words.now in
    let name = c.args.name.now in
    both_told (use_rules scope words name (linkage_of env scope words (is_function t) name) t given) (object_rules (env_for env at_end scope words given).structs words t given)
    (c.use_code-by_use.ensures ∙ ap (λ reach. told (use_rules scope words name reach t given)) used)
    (c.object_code-by_type.ensures ∙ ap (λ structs. told (object_rules structs words t given)) (sym same)) c.lesser.ensures
