use Rattle.std.proofs.Common.{◌∙◌, ◌++◌, ◌∷◌, [], ap, refl, sym, subst, All}
use Rattle.std.proofs.lemmas.List.Elements.{All-cons, All-nil}
use Rattle.lk_types.specs.Building.{IsPassed}
use Rattle.lk_typed.specs.Ty.{Pointer, void_pointer}
use Rattle.lk_predeclared.specs.Plain.{IsSmall}
use Rattle.lk_predeclared.proofs.FirstPlain.{grows_on, grows_then, passes, routine_tree, small_routine, small_routine_pointer}
use Rattle.lk_predeclared.proofs.types.routine.Goals as goal

pub function_of_types-requires-clause-passed : goal.function_of_types-requires-clause-passed
function_of_types-requires-clause-passed c =
    let table = c.pointer_to_first.new.types in
    let address = c.in_ok-address.address in
    let passed = passes table c.in_ok-address.ensures.grows.ready.table_is address void_pointer c.in_ok-address.ensures.plain refl in
    subst (λ params. All (IsPassed table) (address ∷ params)) (sym (c.in_ok-push.ensures.items ∙ ap (λ ts. ts ++ address ∷ []) c.new-params.ensures.items))
    (All-cons (IsPassed table) address (address ∷ []) passed (All-cons (IsPassed table) address [] passed (All-nil (IsPassed table))))

pub function_of_types-requires-clause-small : goal.function_of_types-requires-clause-small
function_of_types-requires-clause-small c =
    subst IsSmall
    (sym
    (routine_tree c.pointer_to_first.new.types c.in_ok-address.address c.push.new.self.items (c.in_ok-push.ensures.items ∙ ap (λ ts. ts ++ c.in_ok-address.address ∷ []) c.new-params.ensures.items)
    c.in_ok-address.ensures.plain.means))
    small_routine

pub pointer-requires-clause-small : goal.pointer-requires-clause-small
pointer-requires-clause-small c =
    subst (λ tree. IsSmall (Pointer tree))
    (sym
    (c.in_ok-t.ensures.plain.means ∙
    routine_tree c.pointer_to_first.new.types c.in_ok-address.address c.push.new.self.items (c.in_ok-push.ensures.items ∙ ap (λ ts. ts ++ c.in_ok-address.address ∷ []) c.new-params.ensures.items)
    c.in_ok-address.ensures.plain.means))
    small_routine_pointer

pub returns-clause-grows : goal.returns-clause-grows
returns-clause-grows c =
    grows_on c.args.types.now c.function_of_types.new.types c.pointer.new.types c.pointer.result
    (grows_then c.args.types.now c.pointer_to_first.new.types c.function_of_types.new.types c.in_ok-address.ensures.grows c.in_ok-t.ensures.grows) c.pointer.ensures.grows
