use Rattle.std.proofs.Common.{All, sym, subst}
use Rattle.std.proofs.lemmas.List.Sorted.{All-permutation}
use Rattle.lk_report.specs.Report.{IsAccessThere}
use Rattle.lk_report.proofs.lines.Lines.push_racing.Goals as goal

pub push_all-requires-clause-there : goal.push_all-requires-clause-there
push_all-requires-clause-there c =
    let There = IsAccessThere c.args.self.now.points.now in
    let told = c.in_ok-told-in-Suspect.told.items in
    let given = subst (All There) (sym c.list.ensures) c.requires.there.accesses in
    subst (All There) (sym c.as_slice.ensures.value) (All-permutation There c.list.result.now told c.in_ok-told-in-Suspect.ensures.permutation given)
