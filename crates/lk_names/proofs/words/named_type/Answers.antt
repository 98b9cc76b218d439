use Rattle.lk_names.proofs.words.named_type.Goals as goal

pub returns-else-is_empty-clause-named : goal.returns-else-is_empty-clause-named
returns-else-is_empty-clause-named c table ready = c.type_alone.ensures.named table
