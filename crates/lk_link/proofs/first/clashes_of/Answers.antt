use Rattle.lk_link.specs.First.{IsOfDeclarations, IsUndefined}
use Rattle.lk_link.proofs.Gathering.{all_joined, all_kinds}
use Rattle.lk_link.proofs.first.clashes_of.Goals as goal

pub returns : goal.returns
returns c =
    let units = c.args.units.now in
    let externs = c.args.externs.now in
    let all = c.in_ok-clashes.clashes.items in
    all_kinds units externs all
    (all_joined (IsOfDeclarations units) (IsUndefined units externs) c.in_ok-declared.declared.items c.in_ok-undefined.undefined.items all c.in_ok-clashes.ensures c.in_ok-declared.ensures c.in_ok-undefined.ensures)
