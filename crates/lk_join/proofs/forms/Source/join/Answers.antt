use Rattle.std.proofs.Common.{◌≡◌, ◌≤◌, List, ℕ, ap, arith, length, sym, subst}
use Rattle.std.proofs.lemmas.List.{take_all}
use Rattle.lk_join.specs.Completing.{GivesMembers}
use Rattle.lk_join.specs.Forms.{ArePutAt}
use Rattle.lk_join.specs.Large.{IsJoining}
use Rattle.lk_join.proofs.Completed.{gives_then}
use Rattle.lk_join.proofs.forms.Source.join.Goals as goal

pub complete_all-requires-clause-whole : goal.complete_all-requires-clause-whole
complete_all-requires-clause-whole c =
    let whole = c.in_ok-row.ensures.whole in
    let slice = ap (λ (row : List ℕ). length row) c.as_slice.ensures.value in
    omega (arith, whole, slice)

pub complete_all-requires-clause-joining : goal.complete_all-requires-clause-joining
complete_all-requires-clause-joining c =
    subst (λ r. IsJoining c.args.self.now.types.now r c.args.self.now.structs.now c.put_types.new.table) (sym c.as_slice.ensures.value) c.in_ok-row.ensures.joining

pub returns-clause-large : goal.returns-clause-large
returns-clause-large c = c.in_ok-complete_all.ensures.joining.large

pub returns-clause-put : goal.returns-clause-put
returns-clause-put c =
    let structs = c.args.self.now.structs.now in
    let types = c.args.self.now.types.now in
    let row = c.in_ok-row.row.items in
    let after = c.complete_all.new.table in
    let joining = subst (λ r. IsJoining types r structs after) c.as_slice.ensures.value c.in_ok-complete_all.ensures.joining in
    let whole = c.in_ok-row.ensures.whole in
    subst (λ r. ArePutAt after r structs types.types) (sym c.new.ensures)
    (subst (ArePutAt after row structs) (take_all (length row) types.types (omega (arith, whole))) joining.put)

pub returns-clause-gives : goal.returns-clause-gives
returns-clause-gives c =
    let structs = c.args.self.now.structs.now in
    let types = c.args.self.now.types.now in
    let before = c.put_types.new.table in
    let after = c.complete_all.new.table in
    let gives = subst (λ row. GivesMembers types row structs before after) c.as_slice.ensures.value c.in_ok-complete_all.ensures.gives in
    subst (λ row. GivesMembers types row structs c.args.table.now after) (sym c.new.ensures)
    (gives_then types structs c.in_ok-row.row.items c.args.table.now before after c.in_ok-row.ensures.gives gives)
