use Rattle.std.proofs.Common.{◌∙◌, ap, sym, subst}
use Rattle.std.specs.List.{Any}
use Rattle.lk_join.specs.Entities.{Gathered}
use Rattle.lk_join.specs.Program.{IsMainFunction}
use Rattle.lk_join.proofs.Starting.{main_listed}
use Rattle.lk_join.proofs.entities.join_entities.Goals as goal

pub main_of-main-requires-clause-there : goal.main_of-main-requires-clause-there
main_of-main-requires-clause-there c =
    let list = c.put_sources.new.self.list in
    let same = c.as_slice.ensures.value ∙ ap (λ (entities : Gathered). entities.list) c.entities.view_is in
    subst (Any IsMainFunction) (sym same) (main_listed c.args.units.now c.args.types.now c.in_ok-rows.rows.items list c.in_ok-rows.ensures c.requires.main)
