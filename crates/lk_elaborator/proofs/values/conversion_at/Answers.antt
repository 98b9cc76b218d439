use Rattle.std.proofs.Common.{◌≡◌, ◌∙◌, sym, ap}
use Rattle.std.specs.Prelude.{◌&&◌}
use Rattle.std.proofs.lemmas.Result.{IfOk-weaker}
use Rattle.lk_typed.specs.Meaning.{meaning_of}
use Rattle.lk_typed.specs.Ty.{is_pointer, is_same}
use Rattle.lk_elaborator.specs.Converting.{converting}
use Rattle.lk_elaborator.specs.declared.values.Converting.TheVariants as how
use Rattle.lk_elaborator.proofs.Conversions.{alike_is, node_makes, null_is, written_is}
use Rattle.lk_elaborator.proofs.Numbers.{means_led}
use Rattle.lk_elaborator.proofs.values.conversion_at.Goals as goal

pub returns-in-Alike-clause-converts : goal.returns-in-Alike-clause-converts
returns-in-Alike-clause-converts c = IfOk-weaker c.alike.result _ _ (λ made gives p same true_of tables leads folded t is.
    let old = c.args.walk.now.types in
    let v = c.in_ok-v.v in
    let target = c.args.target.now in
    let by : how.Alike ≡ converting (is_same (meaning_of old v.ty) (meaning_of old target)) (is_pointer (meaning_of old target) && v.is_null) =
    rw (sym c.table-2.ensures.value, sym c.in_ok-target.ensures.value) (sym c.in-Alike.is ∙ c.how_converted.ensures) in
    alike_is tables folded p old v (meaning_of old target) (c.in_ok-v.ensures.value p same true_of) t by (gives p same true_of tables leads folded t is)) c.alike.ensures.value

pub returns-in_ok-listed-in-Null-clause-converts : goal.returns-in_ok-listed-in-Null-clause-converts
returns-in_ok-listed-in-Null-clause-converts c = λ p same true_of tables leads folded t is.
    let old = c.args.walk.now in
    let v = c.in_ok-v.v in
    let target = c.args.target.now in
    let by : how.Null ≡ converting (is_same (meaning_of old.types v.ty) (meaning_of old.types target)) (is_pointer (meaning_of old.types target) && v.is_null) =
    rw (sym c.table-2.ensures.value, sym c.in_ok-target.ensures.value) (sym c.in-Null.is ∙ c.how_converted.ensures) in
    let middle = record old { types = c.listed.new.types } in
    let means = means_led middle tables (c.in_ok-listed-in-Null.ensures.ready true_of.ready) leads c.in_ok-listed-in-Null.field-0 _ c.in_ok-listed-in-Null.ensures.known
    (c.in_ok-listed-in-Null.ensures.means ∙ ap (meaning_of old.types) c.in_ok-target.ensures.value) in
    null_is tables folded p old.types v (meaning_of old.types target) (c.in_ok-v.ensures.value p same true_of) t by (node_makes tables folded p _ _ _ t means is)

pub returns-in-Written-clause-converts : goal.returns-in-Written-clause-converts
returns-in-Written-clause-converts c = IfOk-weaker c.written.result _ _ (λ made gives p same true_of tables leads folded t is.
    let old = c.args.walk.now.types in
    let v = c.in_ok-v.v in
    let target = c.args.target.now in
    let by : how.Written ≡ converting (is_same (meaning_of old v.ty) (meaning_of old target)) (is_pointer (meaning_of old target) && v.is_null) =
    rw (sym c.table-2.ensures.value, sym c.in_ok-target.ensures.value) (sym c.in-Written.is ∙ c.how_converted.ensures) in
    written_is tables folded p old v (meaning_of old target) (c.in_ok-v.ensures.value p same true_of) t by
    (rw (sym c.in_ok-target.ensures.value) (gives p same true_of tables leads folded t is))) c.written.ensures.value
