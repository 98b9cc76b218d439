use Rattle.std.proofs.Common.{◌++◌, []}
use Rattle.std.specs.Prelude.{if◌then◌else◌}
use Rattle.lk_typed.specs.NodeRules.{item_meaning, plain_name}
use Rattle.lk_typed.specs.Redeclared.{name_rules}
use Rattle.lk_checker.proofs.Counts.{item_settled}
use Rattle.lk_checker.proofs.KeepsAll.{sound_same}
use Rattle.lk_checker.proofs.checker.Checker.settle_item.Goals as goal

pub declare_item-requires : goal.declare_item-requires
declare_item-requires c = sound_same c.args.self.now c.keep_typed_item.new.self c.in_ok-keep_typed_item.ensures.same c.requires

pub returns : goal.returns
returns c = λ env broken is code unnamed.
    let name = c.args.name.now in
    let ends = c.in_ok-declare_item.ensures in
    item_settled c.args.self.now c.keep_typed_item.new.self c.declare_item.new.self env c.args.at name c.args.found.value
    (if c.args.is_typed then broken ++ name_rules env (plain_name name (item_meaning c.args.found.value)) else [])
    c.in_ok-keep_typed_item.ensures.same (c.in_ok-keep_typed_item.ensures.keeps env broken is code unnamed) ends.grows ends.structs ends.behind is
