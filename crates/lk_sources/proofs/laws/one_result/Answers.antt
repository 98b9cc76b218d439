use Rattle.lk_sources.proofs.OneResult.{has_one_result, never_refused, has_one_result_for, never_refused_for}
use Rattle.lk_sources.proofs.laws.one_result.Goals as goal

pub returns-clause-result : goal.returns-clause-result
returns-clause-result c = has_one_result c.one_split.ensures.list c.one_split.ensures.never_both c.one_tree.ensures

pub returns-clause-never : goal.returns-clause-never
returns-clause-never c = never_refused c.one_split.ensures.list c.one_split.ensures.never_both c.one_tree.ensures

pub returns-clause-of_command : goal.returns-clause-of_command
returns-clause-of_command c = has_one_result_for c.one_split.ensures.list c.one_split.ensures.never_both c.one_tree.ensures

pub returns-clause-never_of_command : goal.returns-clause-never_of_command
returns-clause-never_of_command c = never_refused_for c.one_split.ensures.list c.one_split.ensures.never_both c.one_tree.ensures
