use Rattle.std.proofs.Common.{◌∙◌, ap, codes, List, [], ℕ, Option}
use Rattle.std.specs.Prelude.{map}
use Rattle.std.specs.Option.{unwrap_or}
use Rattle.clap.proofs.WalkLemmas.{raw_values-rows}
use Rattle.clap.specs.Matches.{found_of}
use Rattle.lk_words.proofs.Matches.{part_of}
use Rattle.lk_words.proofs.reading.files_of.Goals as goal

pub returns-in-Some : goal.returns-in-Some
returns-in-Some c =
    let named = c.in-Some.ensures ∙ raw_values-rows (found_of c.args.matches.now) (codes "file") in
    part_of c.copied.result (λ copy. copy.items) (map (λ name. name.now)) c.in-Some.files.now _ c.copied.ensures
    (ap (λ (files : Option (List (List ℕ))). unwrap_or files []) named)

pub returns-in-None : goal.returns-in-None
returns-in-None c =
    let named = c.in-None.ensures ∙ raw_values-rows (found_of c.args.matches.now) (codes "file") in
    ap (map (λ name. name.now)) c.new.ensures.items ∙ ap (λ (files : Option (List (List ℕ))). unwrap_or files []) named
