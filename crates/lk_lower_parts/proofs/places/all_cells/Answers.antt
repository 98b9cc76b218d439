use Rattle.std.proofs.Common.{subst, sym, ◌<◌, ℕ, [], ◌∙◌, length}
use Rattle.std.proofs.lemmas.List.Elements.{All-get_or}
use Rattle.lk_lower_parts.proofs.CellLists.{are_none, roots_put}
use Rattle.lk_lower_parts.proofs.PlaceLists.{no_roots, all_gone}
use Rattle.lk_lower_parts.proofs.places.all_cells.Goals as goal
use Rattle.lk_lower_parts.specs.Within.{AreCells, AreRoots, IsInRoots}
use Rattle.lk_types.proofs.SizeLemmas.{all_taken}

pub loop-root-init : goal.loop-root-init
loop-root-init c =
    are_none c.args.types.now (IsInRoots c.args.types.now c.args.roots.now []) (record { values = c.new.result; locks = c.new-2.result }) c.new.ensures.items c.new-2.ensures.items (no_roots c.args.types.now c.args.roots.now)

pub push_root-requires-clause-within : goal.push_root-requires-clause-within
push_root-requires-clause-within c =
    All-get_or (λ (one : ℕ × ℕ × ℕ × ℕ). one.3 < length c.args.roots.now) c.deref-root-items.result.now c.loop-root.root-index (0, 0, 0, 0) c.loop-root-test.true
    (subst (λ order. AreRoots order (length c.args.roots.now)) (sym c.deref-root-items.ensures.value) c.in_ok-order.ensures.only)

pub loop-root-preserved : goal.loop-root-preserved
loop-root-preserved c =
    let h = c.in_ok-push_root.ensures in
    roots_put c.args.types.now c.args.roots.now c.deref-root-items.result.now c.loop-root.root-index (0, 0, 0, 0) c.loop-root.cells c.push_root.new.cells c.loop-root-test.true c.loop-root.invariant c.in_ok-push_root.ensures

pub returns : goal.returns
returns c =
    all_gone c.args.types.now c.args.roots.now c.in_ok-order.order.items c.loop-root.cells c.in_ok-order.ensures.have
    (subst (λ xs. AreCells c.args.types.now (IsInRoots c.args.types.now c.args.roots.now xs) c.loop-root.cells) (all_taken c.deref-root-items.result.now c.loop-root.root-index c.loop-root-test.false ∙ c.deref-root-items.ensures.value) c.loop-root.invariant)
