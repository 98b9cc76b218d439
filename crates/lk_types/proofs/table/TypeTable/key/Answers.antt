use Rattle.std.proofs.Common.{List, ℕ, All, sym, subst}
use Rattle.std.proofs.lemmas.List.Elements.{All-tail}
use Rattle.lk_types.specs.Table.{IsKnown}
use Rattle.lk_types.proofs.SizeLemmas.{passed_known}
use Rattle.lk_types.proofs.table.TypeTable.key.Goals as goal

pub least_of_all-requires : goal.least_of_all-requires
least_of_all-requires c =
    let now = c.args.self.now in
    let ps = c.in-Function.params in
    subst (λ (us : List ℕ). All (IsKnown now) us) (sym c.list.ensures)
    (All-tail (IsKnown now) c.in-Function.result ps (passed_known now c.in-Function.result ps c.in-Function.dots c.args.form.now c.in-Function.is c.requires))
