use Rattle.std.proofs.Common.{◌≡◌, ◌∙◌, ◌+◌, Some, refl, suc, ap, arith, subst}
use Rattle.lk_types.specs.Building.{IsMadeOf}
use Rattle.lk_types.specs.Places.{entry_at, is_node, branch_of}
use Rattle.lk_types.specs.declared.node.Sel.TheVariants.{Element}
use Rattle.lk_types.specs.Walks.{branches, element}
use Rattle.lk_types.proofs.NodeLemmas.{in_only, in_target, type_is}
use Rattle.lk_types.proofs.table.TypeTable.part_at.Goals as goal

pub returns-in-Pointer : goal.returns-in-Pointer
returns-in-Pointer c =
    let now = c.args.self.now in
    let at = c.get.ensures.value ∙ ap Some c.in-Pointer.is in
    let made = subst (IsMadeOf now c.args.t) c.in-Pointer.is c.get.ensures.made_of in
    let number : c.args.number + 1 ≡ suc c.args.number = omega arith in
    in_target now c.get.ensures.table c.args.t c.requires.known c.in-Pointer.part (type_is now c.args.t _ at) (omega (arith, made, c.requires.known)) c.args.number
    (subst (λ n. is_node (entry_at now c.args.t n)) number c.requires.entry)

pub returns-in-Array : goal.returns-in-Array
returns-in-Array c =
    let now = c.args.self.now in
    let at = c.get.ensures.value ∙ ap Some c.in-Array.is in
    let made = subst (IsMadeOf now c.args.t) c.in-Array.is c.get.ensures.made_of in
    let number : c.args.number + 1 ≡ suc c.args.number = omega arith in
    in_only now c.get.ensures.table c.args.t c.requires.known (element c.in-Array.part) refl (ap (branches now) (type_is now c.args.t _ at))
    (ap (λ form. branch_of now form Element) (type_is now c.args.t _ at)) (omega (arith, made, c.requires.known)) c.args.number
    (subst (λ n. is_node (entry_at now c.args.t n)) number c.requires.entry)
