use Rattle.std.proofs.Common.{All, sym, subst}
use Rattle.std.proofs.lemmas.List.Elements.{All-tail}
use Rattle.lk_types.proofs.RedeclareLemmas.{made_known}
use Rattle.lk_types.specs.Table.{IsKnown, HasKnown}
use Rattle.lk_link.proofs.library_types.is_routine.Goals as goal

pub is_start_parameter-requires : goal.is_start_parameter-requires
is_start_parameter-requires c =
    let table = c.args.types.now in
    let p = c.in-Function in
    let known = subst (HasKnown table) p.is (made_known table c.args.t c.form.result.now c.requires c.form.ensures.made_of) in
    subst (All (IsKnown table)) (sym c.list.ensures) (All-tail (IsKnown table) p.result p.params known)
