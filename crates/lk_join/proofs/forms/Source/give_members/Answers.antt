use Rattle.std.proofs.Common.{length}
use Rattle.lk_join.proofs.Carrying.{can_give, done_numbers, give_all, shut_known}
use Rattle.lk_join.proofs.forms.Source.give_members.Goals as goal

pub members_here-requires-clause-known : goal.members_here-requires-clause-known
members_here-requires-clause-known c = shut_known c.args.self.now.types.now c.args.s c.requires.here.shut

pub members_here-requires-clause-types : goal.members_here-requires-clause-types
members_here-requires-clause-types c = done_numbers c.args.self.now.types.now (length c.args.row.now) c.args.s c.requires.before c.requires.here.shut

pub complete_struct-requires : goal.complete_struct-requires
complete_struct-requires c =
    can_give c.args.self.now.types.now c.args.row.now c.args.self.now.structs.now c.requires.joining.source c.args.table.now c.requires.joining c.args.s c.struct_here-here.result c.in_ok-members.members
    c.struct_here-here.ensures c.requires.here.shut (c.requires.here.here c.struct_here-here.result c.struct_here-here.ensures) c.requires.held c.in_ok-members.ensures

pub returns-clause-gives : goal.returns-clause-gives
returns-clause-gives c =
    (give_all c.args.self.now.types.now c.args.row.now c.args.self.now.structs.now c.requires.joining.source c.args.self.now.as_large c.args.table.now c.complete_struct.new.self c.args.s
    c.struct_here-here.result c.in_ok-members.members c.requires.joining c.requires.here c.requires.held c.struct_here-here.ensures c.in_ok-members.ensures c.complete_struct.ensures.longer
    c.complete_struct.ensures.value c.is_type_table.ensures).gives

pub returns-clause-joining : goal.returns-clause-joining
returns-clause-joining c =
    (give_all c.args.self.now.types.now c.args.row.now c.args.self.now.structs.now c.requires.joining.source c.args.self.now.as_large c.args.table.now c.complete_struct.new.self c.args.s
    c.struct_here-here.result c.in_ok-members.members c.requires.joining c.requires.here c.requires.held c.struct_here-here.ensures c.in_ok-members.ensures c.complete_struct.ensures.longer
    c.complete_struct.ensures.value c.is_type_table.ensures).joining

pub returns-clause-completed : goal.returns-clause-completed
returns-clause-completed c =
    (give_all c.args.self.now.types.now c.args.row.now c.args.self.now.structs.now c.requires.joining.source c.args.self.now.as_large c.args.table.now c.complete_struct.new.self c.args.s
    c.struct_here-here.result c.in_ok-members.members c.requires.joining c.requires.here c.requires.held c.struct_here-here.ensures c.in_ok-members.ensures c.complete_struct.ensures.longer
    c.complete_struct.ensures.value c.is_type_table.ensures).completed

pub returns-clause-stays : goal.returns-clause-stays
returns-clause-stays c =
    (give_all c.args.self.now.types.now c.args.row.now c.args.self.now.structs.now c.requires.joining.source c.args.self.now.as_large c.args.table.now c.complete_struct.new.self c.args.s
    c.struct_here-here.result c.in_ok-members.members c.requires.joining c.requires.here c.requires.held c.struct_here-here.ensures c.in_ok-members.ensures c.complete_struct.ensures.longer
    c.complete_struct.ensures.value c.is_type_table.ensures).stays
