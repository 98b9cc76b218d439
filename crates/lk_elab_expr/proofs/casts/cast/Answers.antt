use Rattle.std.proofs.Common.{◌≡◌, ◌∙◌, Some, sym, ap}
use Rattle.std.specs.Prelude.{◌&&◌}
use Rattle.lk_typed.specs.Elaborated.IsTyped.{cast_to_void, cast_of_null, cast}
use Rattle.lk_typed.specs.Env.{ConvertedTo}
use Rattle.lk_typed.specs.Meaning.{meaning}
use Rattle.lk_typed.specs.Ty.{is_pointer, is_void}
use Rattle.lk_typed.specs.declared.typed.ExprType.TheVariants.{Listed}
use Rattle.lk_elaborator.proofs.Growing.{known_stays, type_on}
use Rattle.lk_elaborator.proofs.Knowing.{void_is}
use Rattle.lk_elab_expr.specs.CastForms.{casting}
use Rattle.lk_elab_expr.specs.declared.casts.Casting.TheVariants as how
use Rattle.lk_elab_expr.proofs.Casting.{convert_by, discard_by, null_by}
use Rattle.lk_elab_expr.proofs.Roles.{cast_given}
use Rattle.lk_elab_expr.proofs.casts.cast.Goals as goal

pub returns-in-Null-clause-one : goal.returns-in-Null-clause-one
returns-in-Null-clause-one c = λ n name names p i form same own true_of tables leads folded t makes.
    let old = c.args.walk.now.types in
    let target = meaning old c.in_ok-type_named_at.field-0 in
    let named = c.in_ok-type_named_at.ensures.named n name names in
    let has = c.in_ok-v.ensures.value i same true_of in
    let by : how.Null ≡ casting (is_void target) (is_pointer target && c.in_ok-v.v.is_null) = rw (sym c.table.ensures.value) (sym c.in-Null.is ∙ c.cast_to.ensures) in
    cast_of_null form named has.found (ap (λ b. is_pointer target && b) (sym has.is.null) ∙ null_by _ _ by) makes

pub returns-in_ok-part-in-Discard-clause-one : goal.returns-in_ok-part-in-Discard-clause-one
returns-in_ok-part-in-Discard-clause-one c = λ n name names p i form same own true_of tables leads folded.
    let old = c.args.walk.now in
    let new = c.value_as.new.walk in
    let ty = c.in_ok-type_named_at.field-0 in
    let target = meaning old.types ty in
    let named = c.in_ok-type_named_at.ensures.named n name names in
    let known = c.in_ok-type_named_at.ensures.known in
    let has = c.in_ok-v.ensures.value i same true_of in
    let grows = c.in_ok-part-in-Discard.ensures.grows in
    let by : how.Discard ≡ casting (is_void target) (is_pointer target && c.in_ok-v.v.is_null) = rw (sym c.table.ensures.value) (sym c.in-Discard.is ∙ c.cast_to.ensures) in
    record {
      role = c.in_ok-part-in-Discard.ensures.role new.types i.0.role
          (known_stays old.types new.types grows.longer ty known, cast_given p n i form target named ∙ ap ConvertedTo (sym (type_on old new grows own.ready (Listed ty) known)));
      gives = λ x is t makes. cast_to_void form (named ∙ ap Some (void_is target (discard_by _ _ by))) (c.in_ok-part-in-Discard.ensures.value i same true_of tables leads folded x is) makes;
    }

pub returns-in_ok-part-in-Convert-clause-one : goal.returns-in_ok-part-in-Convert-clause-one
returns-in_ok-part-in-Convert-clause-one c = λ n name names p i form same own true_of tables leads folded.
    let old = c.args.walk.now in
    let new = c.value_as-in-Convert.new.walk in
    let ty = c.in_ok-type_named_at.field-0 in
    let target = meaning old.types ty in
    let named = c.in_ok-type_named_at.ensures.named n name names in
    let known = c.in_ok-type_named_at.ensures.known in
    let has = c.in_ok-v.ensures.value i same true_of in
    let grows = c.in_ok-part-in-Convert.ensures.grows in
    let by : how.Convert ≡ casting (is_void target) (is_pointer target && c.in_ok-v.v.is_null) = rw (sym c.table.ensures.value) (sym c.in-Convert.is ∙ c.cast_to.ensures) in
    record {
      role = c.in_ok-part-in-Convert.ensures.role new.types i.0.role
          (known_stays old.types new.types grows.longer ty known, cast_given p n i form target named ∙ ap ConvertedTo (sym (type_on old new grows own.ready (Listed ty) known)));
      gives = λ x is t makes.
          let two = convert_by _ _ by in
          cast form named two.0 has.found (ap (λ b. is_pointer target && b) (sym has.is.null) ∙ two.1) (c.in_ok-part-in-Convert.ensures.value i same true_of tables leads folded x is) makes;
    }
