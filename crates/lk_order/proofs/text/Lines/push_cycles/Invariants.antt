use Rattle.std.proofs.Common.{◌≡◌, ◌++◌, take, flat_map}
use Rattle.lk_order.specs.Text.{cycle_text}
use Rattle.lk_order.proofs.text.Lines.push_cycles.Given as goal

-- the places so far are appended
abbrev pub invariant-loop-q : goal.invariant-loop-q
invariant-loop-q l =
    l.out.items ≡ l.fn.out.items ++ flat_map (cycle_text l.self.files.now l.self.points.now) (take l.q-index l.places)
