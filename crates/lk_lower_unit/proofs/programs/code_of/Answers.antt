use Rattle.std.proofs.Common.{refl, rules, subst, sym}
use Rattle.lk_lower_parts.specs.MadeFunctions.{HaveSlots}
use Rattle.lk_lower_unit.proofs.Coding.{is_code}
use Rattle.lk_lower_unit.proofs.programs.code_of.Goals as goal

pub all_functions-requires : goal.all_functions-requires
all_functions-requires c = subst (HaveSlots c.args.given.now) (sym c.deref.ensures.value) c.requires.slots

pub returns : goal.returns
returns c =
    is_code c.args.given.now c.args.types.now c.args.slots.items c.args.count c.in_ok-points.points.items c.give_life.new.points.items c.give_sites.new.points.items c.in_ok-functions.functions.items c.give_sites.new.functions.items c.in_ok-sites.sites _
    c.in_ok-points.ensures (search rules) (search rules) c.in_ok-sites.ensures refl refl refl
