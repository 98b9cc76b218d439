use Rattle.std.proofs.Common.{arith, subst, sym, ◌<◌, ◌+◌, ℕ, length}
use Rattle.std.proofs.lemmas.List.Elements.{All-push}
use Rattle.lk_lower_parts.proofs.PlaceLists.{roots_more}
use Rattle.lk_lower_parts.proofs.places.in_text.Goals as goal
use Rattle.lk_lower_parts.specs.Within.{AreRoots, HaveRoots}

pub loop-root-preserved : goal.loop-root-preserved
loop-root-preserved c =
    let spot = c.root-item.result.spot in
    record {
      counted = omega (arith, c.in_ok-number.ensures);
      only = subst (λ xs. AreRoots xs (length c.args.roots.now)) (sym c.in_ok-push.ensures.items)
          (All-push (λ (one : ℕ × ℕ × ℕ × ℕ). one.3 < length c.args.roots.now) c.loop-root.order.items (spot.file, spot.line, spot.col, c.loop-root.number) c.loop-root.invariant.only (omega (arith, c.loop-root.invariant.counted)));
      have = subst (HaveRoots c.push.new.self.items) (sym c.in_ok-number.ensures) (subst (λ xs. HaveRoots xs (c.loop-root.number + 1)) (sym c.in_ok-push.ensures.items) (roots_more c.loop-root.order.items c.loop-root.number spot.file spot.line spot.col c.loop-root.invariant.have));
    }
