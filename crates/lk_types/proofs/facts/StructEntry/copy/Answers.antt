use Rattle.std.proofs.Common.{◌∙◌, ◌≤◌, List, length, ap, subst}
use Rattle.lk_types.specs.declared.facts.StructEntry.{StructEntry}
use Rattle.lk_types.specs.declared.member.StructMember.{StructMember}
use Rattle.lk_types.proofs.SizeLemmas.{all_taken}
use Rattle.lk_types.proofs.facts.StructEntry.copy.Goals as goal

pub returns : goal.returns
returns c =
    let ms = c.args.self.now.members in
    let past : length ms ≤ c.loop-member.member-index = subst (λ (xs : List StructMember). length xs ≤ c.loop-member.member-index) c.list-member-items.ensures c.loop-member-test.false in
    ap (λ (xs : List StructMember). with_those xs) (c.new.ensures ∙ c.loop-member.invariant ∙ all_taken ms c.loop-member.member-index past)
  where
    with_those : List StructMember → StructEntry
    with_those xs = record { members = xs; size = c.args.self.now.size }
