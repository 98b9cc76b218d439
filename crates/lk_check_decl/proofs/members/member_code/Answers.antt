use Rattle.std.proofs.Common.{◌∙◌, [], ◌∷◌, map, sym, ap}
use Rattle.std.specs.Prelude.{is_some, not, if◌then◌else◌}
use Rattle.lk_base.specs.declared.code.Code.TheVariants.{Redeclared, Incomplete}
use Rattle.lk_typed.specs.DeclaratorRules.{unless}
use Rattle.lk_typed.specs.Env.{field_of}
use Rattle.lk_typed.specs.Faults.{breach_of}
use Rattle.lk_typed.specs.Meaning.{meaning}
use Rattle.lk_typed.specs.Sizes.{is_complete}
use Rattle.lk_typed.specs.Typings.{field_in}
use Rattle.lk_check_decl.specs.Breaches.{told}
use Rattle.lk_check_decl.proofs.Told.{both_told, if_told}
use Rattle.lk_check_decl.proofs.members.member_code.Goals as goal

pub returns : goal.returns
returns c = λ env same.
    let table = c.args.types.now in
    let t = meaning table c.args.t in
    let name = c.args.name.now in
    let again = is_some (field_of (map (field_in table) c.args.before.now) name) in
    both_told (if again then breach_of Redeclared name ∷ [] else []) (unless (is_complete env.structs t) Incomplete)
    (c.unless-again.ensures ∙ ap (λ b. told (unless (not b) Redeclared)) (c.has.ensures table) ∙ if_told again Redeclared name)
    (c.unless-incomplete.ensures ∙ ap (λ b. told (unless b Incomplete)) (c.is_complete.ensures ∙ ap (λ structs. is_complete structs t) (sym same))) c.lesser.ensures
