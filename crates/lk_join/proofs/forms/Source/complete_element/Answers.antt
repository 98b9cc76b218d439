use Rattle.std.proofs.Common.{◌≡◌, Some, subst, sym}
use Rattle.std.specs.List.{slice_get}
use Rattle.lk_types.specs.declared.c_type.CType.TheVariants.{Array, Struct}
use Rattle.lk_join.proofs.Carrying.{element_before, held_element, held_struct}
use Rattle.lk_join.proofs.Completed.{gives_same}
use Rattle.lk_join.proofs.Stepping.{below_more, few_steps}
use Rattle.lk_join.proofs.forms.Source.complete_element.Goals as goal

pub returns-in-None-clause-gives : goal.returns-in-None-clause-gives
returns-in-None-clause-gives c = gives_same c.args.self.now.types.now c.args.self.now.structs.now c.args.row.now c.args.table.now

pub returns-in-None-clause-held : goal.returns-in-None-clause-held
returns-in-None-clause-held c = λ u n at. absurd (c.in-None.ensures.exact u n at)

pub returns-in-None-struct_of-clause-gives : goal.returns-in-None-struct_of-clause-gives
returns-in-None-struct_of-clause-gives c = gives_same c.args.self.now.types.now c.args.self.now.structs.now c.args.row.now c.args.table.now

pub returns-in-None-struct_of-clause-held : goal.returns-in-None-struct_of-clause-held
returns-in-None-struct_of-clause-held c =
    let exact = c.in-Some.ensures.exact in
    held_element c.args.self.now.types.now c.args.self.now.structs.now c.args.table.now c.args.t c.in-Some.element exact.0 exact.1 (λ s at. absurd (c.in-None-struct_of.ensures.exact s at))

pub returns-clause-held : goal.returns-clause-held
returns-clause-held c =
    let types = c.args.self.now.types.now in
    let structs = c.args.self.now.structs.now in
    let exact = c.in-Some.ensures.exact in
    held_element types structs c.complete.new.table c.args.t c.in-Some.element exact.0 exact.1
    (held_struct types structs c.complete.new.table c.in-Some.element c.in-Some-struct_of.s c.in-Some-struct_of.ensures.exact c.in_ok-complete.ensures.completed)

pub complete-requires-clause-steps : goal.complete-requires-clause-steps
complete-requires-clause-steps c =
    let types = c.args.self.now.types.now in
    below_more types _ _ c.in-Some-struct_of.s (few_steps types c.requires.joining.source.table_is c.in-Some.element c.in-Some.ensures.known) c.in-Some-struct_of.ensures.steps

pub complete-requires-clause-before : goal.complete-requires-clause-before
complete-requires-clause-before c =
    let exact = c.in-Some.ensures.exact in
    λ shut. element_before c.args.self.now.types.now c.requires.joining.source c.args.t c.in-Some.element exact.0 c.in-Some-struct_of.s _ exact.1 c.in-Some-struct_of.ensures.exact c.requires.before
