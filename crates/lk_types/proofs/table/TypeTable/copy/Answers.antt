use Rattle.std.proofs.Common.{◌∙◌, ◌≤◌, List, ℕ, length, subst}
use Rattle.lk_types.specs.declared.facts.StructEntry.{StructEntry}
use Rattle.lk_types.proofs.SizeLemmas.{kept_equal, all_taken}
use Rattle.lk_types.proofs.table.TypeTable.copy.Goals as goal

pub invariant_of-result : goal.invariant_of-result
invariant_of-result c =
    let inside = c.self.inside in
    let parts = inside.parts in
    let structs = inside.structs.items in
    let past : length structs ≤ c.loop-entry.entry-index = subst (λ (xs : List StructEntry). length xs ≤ c.loop-entry.entry-index) c.deref-entry-items.ensures.value c.loop-entry-test.false in
    let past' : length parts ≤ c.loop-part.part-index = subst (λ (xs : List ℕ). length xs ≤ c.loop-part.part-index) c.list-part-items.ensures c.loop-part-test.false in
    kept_equal c.in_ok-copy-2.ensures c.in_ok-copy-3.ensures (c.loop-entry.invariant ∙ all_taken structs c.loop-entry.entry-index past)
    (c.new.ensures ∙ c.loop-part.invariant ∙ all_taken parts c.loop-part.part-index past') c.self.invariant
