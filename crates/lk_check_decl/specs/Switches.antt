-- The switches of the code, in the words of the rules.
use Rattle.lk_typed.specs.StatementRules as spec
use Rattle.lk_check_decl.specs.declared.switches.Switch.{Switch}

abbrev pub switch_of : Switch → spec.Switch
switch_of s = record { kind = s.kind; values = s.values; has_default = s.has_default }
