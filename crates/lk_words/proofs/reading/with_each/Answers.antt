use Rattle.std.proofs.Common.{◌∙◌, ◌∷◌, [], List, ℕ, Bor, get_or, map, take, sym, ap}
use Rattle.std.proofs.lemmas.List.Sums.{fold-append}
use Rattle.clap.specs.Simple.{with_rule}
use Rattle.clap.specs.Words.{app_of}
use Rattle.lk_words.specs.Reading.{bare_app, option_rule, with_options}
use Rattle.std.proofs.lemmas.List.{map_more}
use Rattle.lk_words.proofs.reading.with_each.Goals as goal

pub loop-name-preserved : goal.loop-name-preserved
loop-name-preserved c =
    let xs = c.args.options.now in
    let i = c.loop-name.name-index in
    let none : Bor (List ℕ) = record { ref_ptr = (0, 0); now = [] } in
    let now = λ (name : Bor (List ℕ)). name.now in
    let old = app_of c.loop-name.command in
    let added = c.in_ok-command.ensures.shape c.option.ensures.local ∙ ap (with_rule old) c.option.ensures.rule in
    let more = ap (with_options bare_app) (map_more now xs i none c.loop-name-test.true)
    ∙ fold-append (λ a name. with_rule a (option_rule name)) bare_app (map now (take i xs)) ((get_or xs i none).now ∷ []) in
    added ∙ (ap (λ a. with_rule a (option_rule (get_or xs i none).now)) c.loop-name.invariant ∙ sym more)
