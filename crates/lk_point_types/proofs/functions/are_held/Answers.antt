use Rattle.std.proofs.Common.{refl, arith, get_or}
use Rattle.std.proofs.lemmas.Bool.{false≢true}
use Rattle.std.proofs.lemmas.Option.{slice_get_within, slice_get-get_or}
use borrow.Author.Count.{below_none, below_more}
use Rattle.lk_facts.specs.declared.root.Holder.TheVariants.{Root}
use Rattle.lk_types.proofs.KeptLemmas.{read_got}
use Rattle.lk_point_types.proofs.WholeLemmas.{IsHeldAt, held_here, here_held}
use Rattle.lk_point_types.proofs.functions.are_held.Goals as goal

pub loop-place-init : goal.loop-place-init
loop-place-init c = below_none (IsHeldAt c.args.points.now c.args.f c.args.holders.now c.args.types.now)

pub loop-place-preserved : goal.loop-place-preserved
loop-place-preserved c =
    let holders = c.args.holders.now in
    let types = c.args.types.now in
    let k = c.loop-place.place in
    let holder = get_or holders k (Root 0) in
    let t = c.index-types-place.result in
    below_more (IsHeldAt c.args.points.now c.args.f holders types) k c.loop-place.invariant
    (held_here c.args.points.now c.args.f k t holder holders types
    (slice_get-get_or holders k (Root 0) (omega (arith, c.if-holders-types.false, c.loop-place-test.true)))
    (read_got types k t c.loop-place-test.true c.index-types-place.is) (c.if-not-is_held.ensures.0 refl))

pub returns-then-not-is_held : goal.returns-then-not-is_held
returns-then-not-is_held c =
    let holders = c.args.holders.now in
    let types = c.args.types.now in
    let k = c.loop-place.place in
    let holder = get_or holders k (Root 0) in
    let t = c.index-types-place.result in (
      (λ none. absurd (false≢true none)),
      (λ all. absurd (false≢true (c.if-not-is_held.ensures.1
          (here_held c.args.points.now c.args.f k t holder holders types
          (slice_get-get_or holders k (Root 0) (omega (arith, c.if-holders-types.false, c.loop-place-test.true)))
          (read_got types k t c.loop-place-test.true c.index-types-place.is) all)))),
    )

pub returns : goal.returns
returns c = (
  (λ _. record {
    as_many = c.if-holders-types.false;
    each = λ k t at. let within = slice_get_within c.args.types.now k t at in c.loop-place.invariant k (omega (arith, within, c.loop-place-test.false)) t at;
  }),
  (λ _. refl),
)
