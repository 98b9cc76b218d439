use Rattle.std.proofs.Common.{◌∙◌, ◌++◌, ◌∷◌, [], ap}
use Rattle.lk_rise.proofs.GroupLemmas.{group_here, group_other, group_read}
use Rattle.lk_rise.proofs.groups.push_place.Goals as goal

pub returns-clause-here : goal.returns-clause-here
returns-clause-here c =
    let lists = c.args.lists.now.items in
    group_here lists c.args.key c.push.new.self c.requires ∙ c.in_ok-push.ensures.items ∙ ap (λ xs. xs ++ c.args.place ∷ []) (group_read lists c.args.key c.index_mut.result.now c.requires c.index_mut.ensures.value)

pub returns-clause-others : goal.returns-clause-others
returns-clause-others c = λ k other. group_other c.args.lists.now.items c.args.key c.push.new.self k other
