use Rattle.std.proofs.Common.{◌≡◌, ◌++◌, ◌-◌, ◌∙◌, length, ap, sym, arith}
use Rattle.std.proofs.lemmas.List.FromFn.{length-range_with_len}
use Rattle.std.proofs.lemmas.Result.{on_ok_weaker}
use Rattle.lk_order.specs.Text.{mutex_places, places_on_cycles, totals_line}
use Rattle.lk_order.proofs.text.Lines.push_totals.Goals as goal

pub returns : goal.returns
returns c =
    let points = c.args.self.now.points.now in
    let order = c.args.self.now.order.now in
    let locks : c.locks.result ≡ length (mutex_places points) = c.locks.ensures.value ∙ sym (length-range_with_len points.locations (length points.places - points.locations)) in
    let pairs : c.pairs.result.now ≡ order.pairs = c.pairs.ensures in
    let many : c.len.result ≡ length c.in_ok-cycles.cycles.items = omega (arith, c.len.ensures, c.in_ok-cycles.cycles.ok.0) in
    let cycles : length c.in_ok-cycles.cycles.items ≡ length (places_on_cycles points order) = ap length c.in_ok-cycles.ensures.value in
    on_ok_weaker c.push_totals_line.result
    (λ told. told ∙ ap (λ n. c.args.out.now.items ++ totals_line n (length c.pairs.result.now) c.len.result) locks
    ∙ ap (λ ps. c.args.out.now.items ++ totals_line (length (mutex_places points)) (length ps) c.len.result) pairs
    ∙ ap (λ n. c.args.out.now.items ++ totals_line (length (mutex_places points)) (length order.pairs) n) many
    ∙ ap (λ n. c.args.out.now.items ++ totals_line (length (mutex_places points)) (length order.pairs) n) cycles)
    c.push_totals_line.ensures
