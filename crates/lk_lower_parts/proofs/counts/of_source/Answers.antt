use Rattle.std.proofs.Common.{arith, ap, length, length-set, refl, set, subst, sym, ◌∙◌, ◌≡◌, ◌<◌, ◌+◌, ◌-◌, ℕ, Some, slice_get}
use Rattle.std.proofs.lemmas.Option.{slice_get_read}
use Rattle.lk_lower_parts.proofs.FunctionCounts.{give_more}
use Rattle.lk_typed.specs.declared.unit.Body.{Body}
use Rattle.lk_lower_parts.proofs.counts.of_source.Goals as goal

pub loop-k-preserved : goal.loop-k-preserved
loop-k-preserved c =
    let bodies = c.list-bodies.result.now in
    let k = c.loop-k.k in
    let b : ℕ = length bodies - 1 - k in
    let body = c.index-bodies-b.result in
    let old = c.loop-k.row.items in
    let at : slice_get c.args.linked.now.unit.bodies b ≡ Some body = subst (λ all. slice_get all b ≡ Some body) c.list-bodies.ensures (slice_get_read bodies _ b body refl (omega (arith, c.loop-k-test.true)) c.index-bodies-b.is) in
    let within : body.entity < length old = omega (arith, c.requires b body at, c.loop-k.invariant.long) in
    let put : c.give.new.row.items ≡ set old body.entity (c.args.first + b) = c.give.ensures ∙ ap (λ (x : Body). set old x.entity c.in_ok-function.function) (sym c.index-bodies-b.is) ∙ ap (λ n. set old body.entity n) (c.in_ok-function.ensures ∙ ap (λ n. c.args.first + n) c.in_ok-count_of-2.ensures) in record {
      long = ap length c.give.ensures ∙ (length-set old _ _ ∙ c.loop-k.invariant.long);
      numbered = give_more bodies k b body c.args.first c.in_ok-none.none old c.give.new.row.items c.loop-k-test.true refl c.index-bodies-b.is within put c.loop-k.invariant.numbered;
    }
