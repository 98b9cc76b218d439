use Rattle.std.proofs.Common.{◌∙◌, None, sym, ap, subst}
use Rattle.std.specs.Option.{option_map}
use Rattle.lk_typed.specs.DeclaratorRules.{array_rules}
use Rattle.lk_typed.specs.Meaning.{meaning}
use Rattle.lk_check_decl.specs.Arrays.{size_of}
use Rattle.lk_check_decl.specs.Breaches.{told}
use Rattle.lk_found.specs.Shapes.{AnArray, IsMadeBy}
use Rattle.lk_found.proofs.Forming.{codes_asked, nothing_made_by, no_array}
use Rattle.lk_found.proofs.layers.made_array.Goals as goal

pub returns-in-None-clause-made : goal.returns-in-None-clause-made
returns-in-None-clause-made c = λ span same element may.
    let table = c.args.types.now in
    let made = c.nothing-in-None.result in
    let size = c.args.size in
    let whole = sym c.is_faulty.ensures ∙ c.if-is_faulty.false in
    subst (λ left. IsMadeBy table table span (AnArray (size_of size)) (option_map (meaning table) left) made) (sym c.in-None.is)
    (nothing_made_by table table span (AnArray (size_of size)) None made
    (c.nothing-in-None.ensures.code ∙ c.array_code-code.ensures.rules span.env tt ∙ ap (λ b. told (array_rules span.env b None (size_of size))) (sym may) ∙
    ap told (sym (codes_asked span None size whole)))
    (no_array span (size_of size)) c.nothing-in-None.ensures.ty c.nothing-in-None.ensures.large)
