use Rattle.std.proofs.Common.{map}
use Rattle.lk_types.specs.Building.{types_of}
use Rattle.lk_types.specs.Sizes.{steps_of}
use Rattle.lk_typed.specs.Meaning.{meaning}
use Rattle.lk_elab_init.specs.Giving.{Puts}
use Rattle.lk_elab_init.specs.Settled.{fields_listed}
use Rattle.lk_elab_init.proofs.Putting.{AreMembersPut}
use Rattle.lk_elab_init.proofs.absent.+put_absent.Given as goal

abbrev pub decreases-put_absent : goal.decreases-put_absent
decreases-put_absent l = steps_of l.types.now l.t

-- the absent cells of the members before this one are put
abbrev pub invariant-loop-number : goal.invariant-loop-number
invariant-loop-number l = Puts l.initial.out.items l.out.items (AreMembersPut (fields_listed l.types) l.cells l.way (map (meaning l.types) (types_of l.member-items)) l.number)
