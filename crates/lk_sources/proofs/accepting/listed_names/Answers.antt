use Rattle.std.proofs.Common.{◌≤◌, length, sym, subst}
use Rattle.lk_sources.proofs.Told.{text_short, told_names}
use Rattle.lk_sources.proofs.accepting.listed_names.Goals as goal

pub names_in-requires : goal.names_in-requires
names_in-requires c = subst (λ t. length t ≤ 65536) (sym c.externs_text.ensures) (text_short c.args.externs.now c.requires)

pub returns-in-Names-clause-ok : goal.returns-in-Names-clause-ok
returns-in-Names-clause-ok c = told_names c.args.externs.now c.externs_text.result.now c.externs_text.ensures c.in-Names.names (rw c.in-Names.is at c.in_ok-names.ensures)
