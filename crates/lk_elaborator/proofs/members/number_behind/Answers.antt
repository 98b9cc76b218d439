use Rattle.std.proofs.Common.{◌≡◌, ◌∙◌, sym, ap, subst}
use Rattle.std.specs.Option.{option_map}
use Rattle.std.proofs.lemmas.Result.{IfOk-weaker}
use Rattle.lk_typed.specs.Meaning.{meaning, meaning_of}
use Rattle.lk_typed.specs.Ty.{Pointer, target_of}
use Rattle.lk_elaborator.proofs.Knowing.{target_is}
use Rattle.lk_elaborator.proofs.members.number_behind.Goals as goal

pub returns-in-Some : goal.returns-in-Some
returns-in-Some c = IfOk-weaker c.number_in.result _ _ (λ k is p same true_of.
    let table = c.args.walk.now.types in
    let has = c.in_ok-v.ensures.value p same true_of in
    let by = subst (λ table. option_map (meaning table) c.target_of.result ≡ target_of (meaning_of table c.in_ok-v.v.ty)) c.table.ensures.value c.target_of.ensures.value in
    let points = target_is _ _ (sym by ∙ ap (option_map (meaning table)) c.in-Some.is) in
    record { s = is.s; typing = has.typing; found = has.found; type = sym has.is.type ∙ points ∙ ap Pointer is.type; number = is.number }) c.number_in.ensures
