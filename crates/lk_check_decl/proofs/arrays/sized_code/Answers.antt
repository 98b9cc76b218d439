use Rattle.std.proofs.Common.{◌∙◌, Some, sym, ap}
use Rattle.lk_base.specs.declared.code.Code.TheVariants.{Incomplete, VariableArray}
use Rattle.lk_typed.specs.DeclaratorRules as spec
use Rattle.lk_typed.specs.Meaning.{meaning}
use Rattle.lk_typed.specs.Sizes.{is_complete}
use Rattle.lk_check_decl.specs.Arrays.{size_of}
use Rattle.lk_check_decl.specs.Breaches.{told}
use Rattle.lk_check_decl.proofs.Told.{both_told, second_none, unless_none}
use Rattle.lk_check_decl.proofs.arrays.sized_code.Goals as goal

pub returns-clause-rules : goal.returns-clause-rules
returns-clause-rules c = λ env same.
    let t = meaning c.args.types.now c.args.element in
    both_told (spec.unless (is_complete env.structs t) Incomplete) (spec.unless (spec.has_size c.args.may_be_absent (Some t) (size_of c.args.size)) VariableArray)
    (c.unless-incomplete.ensures ∙ ap (λ b. told (spec.unless b Incomplete)) same)
    (c.unless-variable.ensures ∙ ap (λ b. told (spec.unless b VariableArray)) c.has_size.ensures) c.lesser.ensures

pub returns-clause-sized : goal.returns-clause-sized
returns-clause-sized c = λ none.
    let holds = spec.has_size c.args.may_be_absent (Some (meaning c.args.types.now c.args.element)) (size_of c.args.size) in
    unless_none holds VariableArray (sym (c.unless-variable.ensures ∙ ap (λ b. told (spec.unless b VariableArray)) c.has_size.ensures) ∙ second_none _ _ (sym c.lesser.ensures ∙ none))
