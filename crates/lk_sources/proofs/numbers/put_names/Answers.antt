use Rattle.std.proofs.Common.{◌∙◌, List, [], ◌∷◌, ℕ, Bor, fold, get_or, map, take, sym, ap}
use Rattle.std.proofs.lemmas.List.Sums.{fold-append}
use Rattle.lk_base.specs.Files.{with_name}
use Rattle.lk_sources.proofs.Lists.{mapped_more}
use Rattle.lk_sources.proofs.numbers.put_names.Goals as goal

pub loop-name-preserved : goal.loop-name-preserved
loop-name-preserved c =
    let xs = c.args.names.now in
    let i = c.loop-name.name-index in
    let none : Bor (List ℕ) = record { ref_ptr = (0, 0); now = [] } in
    let now = λ (name : Bor (List ℕ)). name.now in
    let more = ap (fold with_name c.args.files.now) (mapped_more now xs i none c.loop-name-test.true) ∙ fold-append with_name c.args.files.now (map now (take i xs)) ((get_or xs i none).now ∷ []) in
    (rw c.as_bytes.ensures.value at c.in_ok-put_name.ensures.ok) ∙ (ap (λ l. with_name l (get_or xs i none).now) c.loop-name.invariant ∙ sym more)
