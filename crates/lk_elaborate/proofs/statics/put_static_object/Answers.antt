use Rattle.std.proofs.Common.{◌∙◌, ◌++◌, ◌∷◌, [], refl, sym, ap, subst}
use Rattle.lk_typed.specs.declared.initialiser.StaticObject.{StaticObject}
use Rattle.lk_elaborator.proofs.Growing.{grows_on}
use Rattle.lk_elaborator.specs.declared.elaborator.Elaborator.{Elaborator}
use Rattle.lk_elaborate.specs.Putting.{AreRising}
use Rattle.lk_elaborate.specs.StaticParts.{AreBefore, GivesPartsOutside}
use Rattle.lk_elaborate.proofs.Carried.{put_object}
use Rattle.lk_elaborate.proofs.MakingStatics.{object_put}
use Rattle.lk_elaborate.proofs.statics.put_static_object.Goals as goal

pub returns-clause-goes_on : goal.returns-clause-goes_on
returns-clause-goes_on c = put_object c.args.walk.now c.named_parts.new.walk _ refl (grows_on c.args.walk.now c.named_parts.new.walk c.in_ok-parts.ensures.grows)

pub returns-clause-puts : goal.returns-clause-puts
returns-clause-puts c =
    let old = c.args.walk.now in
    let mid = c.named_parts.new.walk in
    let grows = c.in_ok-parts.ensures.grows in
    let named = c.in_ok-parts.ensures.parts in
    let object : StaticObject = record { entity = c.in_ok-entity.entity; spot = c.args.at.spot; ordinal = c.args.at.ordinal; parts = c.new.result } in
    object_put old mid _ c.args.at c.args.ty c.args.init.now named.0 object grows refl
    (c.in_ok-push.ensures.items ∙ ap (λ xs. xs ++ object ∷ []) (ap (λ (w : Elaborator). w.objects.items) grows.same))
    (subst (λ xs. AreRising xs → AreBefore xs c.args.at.ordinal) c.as_slice.ensures.value (c.if-not-is_later.ensures refl)) refl refl c.in_ok-entity.ensures named.1
    (subst (GivesPartsOutside old mid named.0) (sym c.new.ensures) named.2)
