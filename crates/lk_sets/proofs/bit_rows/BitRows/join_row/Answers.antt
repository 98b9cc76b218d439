use Rattle.lk_sets.proofs.Square.{Joins, joins, rows_apart}
use Rattle.lk_sets.proofs.bit_rows.BitRows.join_row.Goals as goal
use Rattle.lk_sets.proofs.bit_rows.BitRows.join_row.Goals.{After-join_words}

pub join_words-requires-clause-apart : goal.join_words-requires-clause-apart
join_words-requires-clause-apart c = rows_apart c.width-width.result c.args.from c.args.into

join : (c : After-join_words) → Joins c.self.inside.size c.args.self.now c.join_words.new.words.items c.args.from c.args.into c.join_words.result
join c = joins _ _ c.self.inside.words.items _ _ _ c.width-width.result _ c.self.view_is c.self.invariant c.requires.from c.requires.into c.width-width.ensures c.join_words.ensures.joined c.join_words.ensures.added c.join_words.ensures.same

pub invariant_of-self : goal.invariant_of-self
invariant_of-self c = (join c).rows

pub returns-clause-pairs : goal.returns-clause-pairs
returns-clause-pairs c = (join c).pairs

pub returns-clause-new : goal.returns-clause-new
returns-clause-new c = ((join c).adds, (join c).only)

pub returns-clause-grows : goal.returns-clause-grows
returns-clause-grows c = (join c).grows
