use Rattle.std.proofs.Common.{◌≡◌, ◌++◌, take, flat_map}
use Rattle.lk_order.specs.Text.{rank_text}
use Rattle.lk_order.proofs.text.Lines.push_ranks.Given as goal

-- the places so far are appended
abbrev pub invariant-loop-q : goal.invariant-loop-q
invariant-loop-q l =
    l.out.items ≡ l.fn.out.items ++ flat_map (rank_text l.self.files.now l.self.points.now l.self.order.now) (take l.q-index l.places)
