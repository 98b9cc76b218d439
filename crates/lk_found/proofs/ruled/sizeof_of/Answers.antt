use Rattle.lk_typed.specs.Meaning.{meaning_of}
use Rattle.lk_typed.specs.Places.{sizeof_rule}
use Rattle.lk_typed.specs.Typings.{structs_in}
use Rattle.lk_found.proofs.GivenAddresses.{sizeof_gives}
use Rattle.lk_found.proofs.Rules.{plainly}
use Rattle.lk_found.proofs.ruled.sizeof_of.Goals as goal

pub returns : goal.returns
returns c =
    let table = c.args.types.now in
    let structs = structs_in table c.args.structs.now in
    let t = meaning_of table c.args.ty.now in
    plainly table c.size_of-verdict.result c.plain.result (sizeof_rule structs c.args.in_size t) c.plain.ensures.verdict c.plain.ensures.address c.size_of-verdict.ensures
    (sizeof_gives structs c.args.in_size t)
