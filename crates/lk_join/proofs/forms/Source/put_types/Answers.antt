use Rattle.std.proofs.Common.{◌≡◌, ◌+◌, ◌++◌, ◌∷◌, [], List, ℕ, arith, ap, length, length-append, sym, subst}
use Rattle.lk_join.specs.Completing.{GivesMembers}
use Rattle.lk_join.specs.Large.{IsJoining}
use Rattle.lk_join.proofs.Completed.{gives_more, gives_same, gives_then}
use Rattle.lk_join.proofs.forms.Source.put_types.Goals as goal

pub loop-t-init : goal.loop-t-init
loop-t-init c =
    let types = c.args.self.now.types.now in
    let structs = c.args.self.now.structs.now in
    let table = c.args.table.now in (
      subst (λ row. GivesMembers types row structs table table) (sym c.new-row.ensures.items) (gives_same types structs [] table),
      subst (λ row. IsJoining types row structs table) (sym c.new-row.ensures.items) c.requires,
      ap (λ (row : List ℕ). length row) c.new-row.ensures.items,
    )

pub loop-t-preserved : goal.loop-t-preserved
loop-t-preserved c =
    let structs = c.args.self.now.structs.now in
    let before = c.loop-t.table in
    let after = c.put_type.new.table in
    let row = c.loop-t.row.items in
    let here = c.in_ok-here.here in
    let table = c.args.self.now.types.now in
    let first = c.args.table.now in
    let more = here ∷ [] in
    let gives = subst (λ r. GivesMembers table r structs before after) c.as_slice.ensures.value c.in_ok-here.ensures.gives in
    let joining = subst (λ r. IsJoining table (r ++ more) structs after) c.as_slice.ensures.value c.in_ok-here.ensures.joining in
    let size = c.loop-t.invariant.2 in
    let long : length (row ++ more) ≡ c.loop-t.t + 1 = omega (arith, size, length-append row more) in (
      subst (λ r. GivesMembers table r structs first after) (sym c.in_ok-push.ensures.items)
          (gives_then table structs (row ++ more) first before after (gives_more table structs row more first before c.loop-t.invariant.0) (gives_more table structs row more before after gives)),
      subst (λ r. IsJoining table r structs after) (sym c.in_ok-push.ensures.items) joining,
      subst (λ (r : List ℕ). length r ≡ c.loop-t.t + 1) (sym c.in_ok-push.ensures.items) long,
    )

pub put_type-requires-clause-before : goal.put_type-requires-clause-before
put_type-requires-clause-before c =
    let size = c.loop-t.invariant.2 in
    let slice = ap (λ (row : List ℕ). length row) c.as_slice.ensures.value in
    omega (arith, size, slice)

pub put_type-requires-clause-joining : goal.put_type-requires-clause-joining
put_type-requires-clause-joining c =
    subst (λ r. IsJoining c.args.self.now.types.now r c.args.self.now.structs.now c.loop-t.table) (sym c.as_slice.ensures.value) c.loop-t.invariant.1

pub returns-clause-whole : goal.returns-clause-whole
returns-clause-whole c =
    let size = c.loop-t.invariant.2 in
    let count = c.count-t-end.ensures.value in
    omega (arith, size, count)
