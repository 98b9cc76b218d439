use Rattle.std.proofs.Common.{◌<◌, ◌≡◌, ℕ, true, false, length, Some, refl, sym, subst, ◌∙◌, arith, ap}
use Rattle.std.specs.Prelude.{slice_get}
use Rattle.std.proofs.lemmas.List.{length-replicate}
use Rattle.std.proofs.lemmas.Option.{slice_get_read, slice_get_within}
use Rattle.lk_facts.proofs.LiveLemmas.{unmarked, entries_more, entry_reached}
use Rattle.lk_facts.proofs.Sets.{All-read}
use Rattle.lk_facts.proofs.live.entries.Goals as goal

pub loop-function-init : goal.loop-function-init
loop-function-init c =
    let all = c.in_ok-vec.ensures.items_if_clones_equal (λ y h. h) in
    let none : (p : ℕ) → slice_get c.in_ok-vec.field-0.items p ≡ Some true → ⊥ =
    λ p at. unmarked (record { live = c.in_ok-vec.field-0; found = c.new.result }) _ p all at in
    record {
      long = ap length all ∙ length-replicate (length c.args.points.now) false;
      entries = λ f function less. absurd (omega arith);
      sound = λ p at. absurd (none p at);
      listed = record { listed = λ p at. absurd (none p at); marked = λ p there. absurd (omega (arith, subst (λ xs. there.0 < length xs) c.new.ensures.items there.1)) };
    }

pub loop-function-preserved : goal.loop-function-preserved
loop-function-preserved c =
    let at : slice_get c.args.functions.now c.loop-function.function-index ≡ Some c.function-item.result = slice_get_read c.args.functions.now _ _ _ refl c.loop-function-test.true c.function-item.is in
    record {
      long = c.in_ok-put.ensures.long ∙ c.loop-function.invariant.long;
      entries = entries_more c.args.points.now _ _ _ _ _ at c.in_ok-put.ensures c.loop-function.invariant.entries;
      sound = entry_reached _ _ _ _ _ _ at c.in_ok-put.ensures c.loop-function.invariant.sound;
      listed = c.in_ok-put.ensures.listed c.loop-function.invariant.listed;
    }

pub put-requires : goal.put-requires
put-requires c =
    subst (λ n. c.function-item.result.entry < n) (sym c.loop-function.invariant.long)
    (All-read (λ function. function.entry < length c.args.points.now) c.args.functions.now _ c.function-item.result c.requires.entries c.loop-function-test.true c.function-item.is)

pub returns : goal.returns
returns c = record {
  long = c.loop-function.invariant.long;
  entries = λ f function at. c.loop-function.invariant.entries f function (omega (arith, slice_get_within c.args.functions.now f function at, c.loop-function-test.false)) at;
  sound = c.loop-function.invariant.sound;
  listed = c.loop-function.invariant.listed;
}
