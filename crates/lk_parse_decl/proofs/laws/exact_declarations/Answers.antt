use Rattle.lk_parse_decl.proofs.Exactly.{initialisers_are_read, only_initialisers_are_read, declarations_are_read, only_declarations_are_read}
use Rattle.lk_parse_decl.proofs.laws.exact_declarations.Goals as goal

pub returns-clause-initialisers : goal.returns-clause-initialisers
returns-clause-initialisers c = initialisers_are_read

pub returns-clause-only_initialisers : goal.returns-clause-only_initialisers
returns-clause-only_initialisers c = only_initialisers_are_read

pub returns-clause-declarations : goal.returns-clause-declarations
returns-clause-declarations c = declarations_are_read

pub returns-clause-only_declarations : goal.returns-clause-only_declarations
returns-clause-only_declarations c = only_declarations_are_read
