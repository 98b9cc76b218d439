use Rattle.lk_parse_expr.proofs.Exactly.{exprs_are_read, only_exprs_are_read, type_names_are_read, only_type_names_are_read, declarators_are_read, only_declarators_are_read}
use Rattle.lk_parse_expr.proofs.laws.exact_readers.Goals as goal

pub returns-clause-exprs : goal.returns-clause-exprs
returns-clause-exprs c = exprs_are_read

pub returns-clause-only_exprs : goal.returns-clause-only_exprs
returns-clause-only_exprs c = only_exprs_are_read

pub returns-clause-type_names : goal.returns-clause-type_names
returns-clause-type_names c = type_names_are_read

pub returns-clause-only_type_names : goal.returns-clause-only_type_names
returns-clause-only_type_names c = only_type_names_are_read

pub returns-clause-declarators : goal.returns-clause-declarators
returns-clause-declarators c = declarators_are_read

pub returns-clause-only_declarators : goal.returns-clause-only_declarators
returns-clause-only_declarators c = only_declarators_are_read
