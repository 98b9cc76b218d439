use Rattle.std.proofs.Common.{◌≡◌, rules}
use Rattle.lk_typed.specs.Meaning.{meaning, tree_of}
use Rattle.lk_typed.proofs.Meanings.{meaning_by}
use Rattle.lk_check_decl.proofs.CompositeTypes.{array_by}
use Rattle.lk_check_decl.proofs.composite.array_parts.Goals as goal

pub returns-in-Array : goal.returns-in-Array
returns-in-Array c = array_by c.args.types.now c.get.ensures.table c.args.t c.requires c.get.result.now c.get.ensures.value c.in-Array.element c.in-Array.size c.in-Array.is

pub returns-in-Void : goal.returns-in-Void
returns-in-Void c =
    let table = c.args.types.now in
    let tree : meaning table c.args.t ≡ tree_of (meaning table) c.get.result.now = meaning_by table c.get.ensures.table c.args.t c.get.result.now c.requires c.get.ensures.value in
    search rules
