use Rattle.std.proofs.Common.{Bor}
use Rattle.std.specs.Option.{option_map}
use Rattle.lk_typed.specs.Names.{declared_in}
use Rattle.lk_typed.specs.Words.{use_of_declared}
use Rattle.lk_typed.specs.declared.names.Declared.{Declared}
use Rattle.lk_found.specs.Addresses.{name_address}
use Rattle.lk_found.proofs.GivenAddresses.{name_gives}
use Rattle.lk_found.proofs.Rules.{addressed}
use Rattle.lk_found.proofs.names.word_ruled.Goals as goal

pub returns : goal.returns
returns c = λ env used.
    let table = c.args.types.now in
    let found = option_map (λ (d : Bor Declared). declared_in table d.now) c.args.found in
    addressed table c.word-verdict.result c.named-address.result (use_of_declared env c.args.name.now found) (name_address found) (c.word-verdict.ensures env used)
    (name_gives env c.args.name.now found) (c.named-address.ensures table)
