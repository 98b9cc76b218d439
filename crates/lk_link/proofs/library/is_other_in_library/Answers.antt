use Rattle.lk_link.proofs.LibraryRows.{other_in_library}
use Rattle.lk_link.proofs.library.is_other_in_library.Goals as goal

pub returns-in-Some : goal.returns-in-Some
returns-in-Some c =
    other_in_library c.args.types.now c.is_table.ensures c.numbers_mean_one_tree.ensures c.args.t c.requires c.args.name.now c.in-Some.function c.in-Some.ensures c.is_type_of.result c.is_type_of.ensures
