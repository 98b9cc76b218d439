use Rattle.lk_join.proofs.Joined.{are_entities}
use Rattle.lk_join.proofs.Typing.{are_types}
use Rattle.lk_join.proofs.linking.whole_of.Goals as goal

pub returns : goal.returns
returns c =
    let units = c.args.units.items in
    let types = c.args.types.rows.items in
    let numbers = c.args.joined.rows.items in
    let linked = c.in_ok-sources.ensures in
    let main = c.requires.main_at in
    record {
      sources = linked.units_are;
      types = are_types _ units types numbers linked c.requires.types;
      entities = are_entities _ units types numbers linked c.requires.entities;
      main_ = main.entity;
      main_is = main.at;
      named = main.is.named;
      external = main.is.external;
      is_function = main.is.is_function;
    }
