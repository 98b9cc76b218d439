use Rattle.std.proofs.Common.{◌≡◌, ◌∙◌, Bool, Global, Vec, ap, length, refl, true, Some}
use Rattle.std.specs.Prelude.{slice_get}
use Rattle.std.proofs.lemmas.List.{length-replicate, length-set}
use Rattle.std.proofs.lemmas.Option.{slice_get_read}
use Rattle.lk_lower_parts.proofs.Naming.{named_all, named_more, named_other, none_named}
use Rattle.lk_lower_parts.proofs.sites.used.Goals as goal
use Rattle.lk_lower_parts.proofs.sites.used.Goals.{in-Func, in_default}

pub loop-point-init : goal.loop-point-init
loop-point-init c =
    let all = c.in_ok-used.ensures.items_if_clones_equal (λ y h. h) in
    record { long = ap length all ∙ length-replicate c.args.functions _; each = none_named c.args.points.now c.args.functions c.in_ok-used.used.items all }

pub loop-point-preserved : goal.loop-point-preserved
loop-point-preserved c =
    let points = c.args.points.now in
    let i = c.loop-point.point-index in
    let was = c.loop-point.invariant in
    let at : slice_get points i ≡ Some c.point-item.result = slice_get_read points _ _ _ refl c.loop-point-test.true c.point-item.is in
    elim c.match-point.branch [
      | in-Func w ↦
          let put = ap (λ (v : Vec Bool Global). v.items) w.used-is ∙ w.note.ensures in
          record {
            long = ap length put ∙ length-set c.loop-point.used.items _ true ∙ was.long;
            each = named_more points c.args.functions i _ c.point-item.result c.loop-point.used.items c.match-point.used.items at w.in-Func.is was.long put was.each;
          }
      | in_default w ↦
          let same = ap (λ (v : Vec Bool Global). v.items) w.used-is in
          record {
            long = ap length same ∙ was.long;
            each = named_other points c.args.functions i c.point-item.result c.loop-point.used.items c.match-point.used.items same at w.in_default.not-Func was.each;
          }
    ]

pub returns-clause-each : goal.returns-clause-each
returns-clause-each c = named_all c.args.points.now c.args.functions c.loop-point.point-index c.loop-point.used.items c.loop-point.auto.point-index-end c.loop-point-test.false c.loop-point.invariant.each
