use Rattle.std.proofs.Common.{◌≡◌, ◌∙◌, ◌+◌, ℕ, Bool, Global, Vec, ap, arith, length, refl, subst, sym, Some, None}
use Rattle.std.specs.Prelude.{slice_get}
use Rattle.std.proofs.lemmas.Option.{slice_get_read}
use Rattle.lk_lower_parts.proofs.Parted.{given_more, given_nothing, part_is, void_parts_of}
use Rattle.lk_lower_parts.specs.Parts.{AreGivenBefore, AreMarkedParts, IsWith, part_at}
use Rattle.lk_lower_parts.proofs.parts.void_parts.Goals as goal
use Rattle.lk_lower_parts.proofs.parts.void_parts.Goals.{in-Some+in_ok-push_part, in_default}
use Rattle.lk_types.specs.declared.type_id.TypeId.{TypeId}
use Rattle.lk_types.specs.Table.{least_of}

by_vecs : (seen now : Vec Bool Global) (parts parts_now : Vec TypeId Global) → now ≡ seen → parts_now ≡ parts → AreMarkedParts seen.items parts.items → AreMarkedParts now.items parts_now.items
by_vecs seen now parts parts_now seen_is parts_is marked =
    subst (λ (v : Vec Bool Global). AreMarkedParts v.items parts_now.items) (sym seen_is) (subst (λ (v : Vec TypeId Global). AreMarkedParts seen.items v.items) (sym parts_is) marked)

as_long : (seen now : Vec Bool Global) (n : ℕ) → now ≡ seen → length seen.items ≡ n → length now.items ≡ n
as_long seen now n is long = ap (λ (v : Vec Bool Global). length v.items) is ∙ long

pub loop-point-preserved : goal.loop-point-preserved
loop-point-preserved c =
    let types = c.args.types.now in
    let points = c.args.points.now in
    let i = c.loop-point.point-index in
    let at : slice_get points i ≡ Some c.point-item.result = slice_get_read points _ _ _ refl c.loop-point-test.true c.point-item.is in
    elim c.match-given.branch [
      | in-Some+in_ok-push_part w ↦
          record {
            given = given_more (part_at types points) i (least_of types w.in-Some.t) c.loop-point.parts.items c.match-given.parts.items (part_is types points i c.point-item.result (Some w.in-Some.t) at (sym w.in-Some.is ∙ c.given.ensures))
                (subst (λ (parts : Vec TypeId Global). IsWith (least_of types w.in-Some.t) c.loop-point.parts.items parts.items) (sym w.parts-is) w.in_ok-push_part.ensures.with) c.loop-point.invariant.given;
            long = as_long w.push_part.new.seen c.match-given.seen (length types.types) w.seen-is w.in_ok-push_part.ensures.long;
            marked = by_vecs w.push_part.new.seen c.match-given.seen w.push_part.new.parts c.match-given.parts w.seen-is w.parts-is w.in_ok-push_part.ensures.marked;
          }
      | in_default w ↦
          record {
            given = subst (λ (parts : Vec TypeId Global). AreGivenBefore (part_at types points) (i + 1) parts.items) (sym w.parts-is)
                (given_nothing (part_at types points) i c.loop-point.parts.items (part_is types points i c.point-item.result None at (sym w.in_default.is ∙ c.given.ensures)) c.loop-point.invariant.given);
            long = as_long c.loop-point.seen c.match-given.seen (length types.types) w.seen-is c.loop-point.invariant.long;
            marked = by_vecs c.loop-point.seen c.match-given.seen c.loop-point.parts c.match-given.parts w.seen-is w.parts-is c.loop-point.invariant.marked;
          }
    ]

pub returns : goal.returns
returns c = void_parts_of c.args.types.now c.args.points.now c.loop-point.parts.items c.loop-point.point-index c.count.ensures.table (omega (arith, c.loop-point-test.false)) c.loop-point.invariant.given
