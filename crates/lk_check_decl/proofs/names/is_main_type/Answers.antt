use Rattle.std.proofs.Common.{sym, subst, arith, All, ℕ}
use Rattle.std.specs.Prelude.{◌<◌}
use Rattle.std.proofs.lemmas.List.Elements.{All-tail}
use Rattle.lk_types.specs.Building.{IsMadeOf}
use Rattle.lk_types.specs.Table.{IsKnown}
use Rattle.lk_check_decl.proofs.names.is_main_type.Goals as goal

pub is_main_signature-requires-clause-params : goal.is_main_signature-requires-clause-params
is_main_signature-requires-clause-params c =
    let table = c.args.types.now in
    let t : ℕ = c.args.t in
    let made = subst (IsMadeOf table t) c.in-Function.is c.form.ensures.made_of in
    let less = All-tail (λ u. u < t) c.in-Function.returned c.in-Function.params made in
    subst (All (IsKnown table)) (sym c.list.ensures) (λ k d within. let below = less k d within in omega (arith, below, c.requires.known))
