use Rattle.std.proofs.Common.{Some, ◌∙◌, sym, ap, refl, subst}
use Rattle.std.specs.List.{list_all}
use Rattle.std.proofs.lemmas.Option.{slice_get_read}
use Rattle.lk_sets.specs.Ids.{has_id, IsSetOf}
use Rattle.lk_held.proofs.StateLemmas.{left_all, left_copy, left_met}
use Rattle.lk_order.proofs.states.States.left.Goals as goal

pub returns-then-has_all : goal.returns-then-has_all
returns-then-has_all c =
    let there = slice_get_read c.args.self.now.sets.items _ c.args.point c.index.result.now refl c.requires.point c.index.ensures in
    left_all (record { locks = c.args.self.now.locks; sets = c.args.self.now.sets }) c.args.point c.args.set.now c.in-Some.old (there ∙ ap Some c.in-Some.is)
    (ap (list_all (has_id c.args.set.now)) (sym c.ids-in-Some.ensures.list) ∙ sym c.has_all.ensures ∙ c.if-has_all.true)

pub returns-in_ok-copy-in-None : goal.returns-in_ok-copy-in-None
returns-in_ok-copy-in-None c =
    let there = slice_get_read c.args.self.now.sets.items _ c.args.point c.index.result.now refl c.requires.point c.index.ensures in
    left_copy (record { locks = c.args.self.now.locks; sets = c.args.self.now.sets }) c.args.point c.args.set.now c.in_ok-copy-in-None.copy (there ∙ ap Some c.in-None.is) c.requires.sorted c.requires.within
    (subst (λ ids. IsSetOf (has_id ids) c.in_ok-copy-in-None.copy) c.ids.ensures.list c.in_ok-copy-in-None.ensures)

pub returns-in_ok-met-in-Some : goal.returns-in_ok-met-in-Some
returns-in_ok-met-in-Some c =
    let there = slice_get_read c.args.self.now.sets.items _ c.args.point c.index.result.now refl c.requires.point c.index.ensures in
    left_met (record { locks = c.args.self.now.locks; sets = c.args.self.now.sets }) c.args.point c.args.set.now c.in-Some.old c.in_ok-met-in-Some.met (there ∙ ap Some c.in-Some.is) c.ids-in-Some.ensures.sorted
    (ap (list_all (has_id c.args.set.now)) (sym c.ids-in-Some.ensures.list) ∙ sym c.has_all.ensures ∙ c.if-has_all.false) c.in_ok-met-in-Some.ensures
