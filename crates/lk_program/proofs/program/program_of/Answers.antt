use Rattle.std.proofs.Common.{subst}
use Rattle.lk_sources.specs.Accepting.{units_of}
use Rattle.lk_program.specs.Program.{IsProgram, IsUnlinked}
use Rattle.lk_program.proofs.Places.{all_numbered, refused, stands, unlinked_in}
use Rattle.lk_program.proofs.program.program_of.Goals as goal

pub whole_of-requires-clause-numbered : goal.whole_of-requires-clause-numbered
whole_of-requires-clause-numbered c = all_numbered _ c.args.accepted.sources.items c.requires.checked.placed

pub refused_in-requires : goal.refused_in-requires
refused_in-requires c =
    let refusal = c.in-Err-Refused.refusal in
    let why = rw c.in-Err-Refused.field-0-is at c.in-Err-Refused.ensures.err in
    rw c.in-Err-Refused.field-0-is
    (unlinked_in c.typed_trees_stand_in_files.ensures c.args.accepted c.requires.checked c.requires.few refusal
    (subst (λ externs. IsUnlinked externs (units_of c.args.accepted.sources.items) refusal) c.deref.ensures.value why))

pub returns-in-Ok-clause-ok : goal.returns-in-Ok-clause-ok
returns-in-Ok-clause-ok c =
    stands c.typed_trees_stand_in_files.ensures c.args.accepted c.requires.checked c.requires.few c.in-Ok.whole
    (subst (λ externs. IsProgram externs (units_of c.args.accepted.sources.items) c.in-Ok.whole) c.deref.ensures.value c.in-Ok.ensures.ok)

pub returns-in-Err-Refused-clause-err : goal.returns-in-Err-Refused-clause-err
returns-in-Err-Refused-clause-err c =
    let refusal = c.in-Err-Refused.refusal in
    let why = rw c.in-Err-Refused.field-0-is at c.in-Err-Refused.ensures.err in
    refused c.args.accepted refusal c.refused_in.result
    (subst (λ externs. IsUnlinked externs (units_of c.args.accepted.sources.items) refusal) c.deref.ensures.value why) (rw c.in-Err-Refused.field-0-is at c.refused_in.ensures)
