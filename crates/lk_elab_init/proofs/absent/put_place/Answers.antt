use Rattle.std.proofs.Common.{◌∙◌, ap, sym}
use Rattle.lk_typed.specs.Absent.{those_alike}
use Rattle.lk_elab_init.proofs.Putting.{no_place_put, place_put}
use Rattle.lk_elab_init.proofs.absent.put_place.Goals as goal

pub returns-in-Some : goal.returns-in-Some
returns-in-Some c =
    let cells = c.args.cells.now in
    let those = c.as_slice.ensures.value ∙ (c.in_ok-named.ensures ∙ ap (λ first. those_alike first cells) (c.list.ensures ∙ c.in_ok-first.ensures)) in
    place_put cells c.args.way.now c.as_slice.result.now those c.new.result c.in_ok-first-2.field-0 c.in-Some.first c.args.out.now.items c.push.new.self.items (c.new.ensures ∙ sym c.as_slice.ensures.value) c.in-Some.is c.in_ok-first-2.ensures
    c.in_ok-push-in-Some.ensures.items

pub returns : goal.returns
returns c =
    let cells = c.args.cells.now in
    let those = c.as_slice.ensures.value ∙ (c.in_ok-named.ensures ∙ ap (λ first. those_alike first cells) (c.list.ensures ∙ c.in_ok-first.ensures)) in
    no_place_put cells c.args.way.now c.as_slice.result.now those c.in_ok-first-2.field-0 c.args.out.now.items c.in-None.is c.in_ok-first-2.ensures
