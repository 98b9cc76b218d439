use Rattle.std.proofs.Common.{◌∙◌, IfOk, IfErr, ◌≡◌, Some, None, codes, map, refl, sym, subst}
use Rattle.std.specs.Prelude.{string_bytes}
use Rattle.clap.proofs.WalkLemmas.{first_value-rows}
use Rattle.clap.specs.Matches.{found_of}
use Rattle.lk_words.specs.Seen.{seen}
use Rattle.lk_words.specs.Words.{Play}
use Rattle.lk_words.specs.declared.task.WordsFault.TheVariants.{Usage}
use Rattle.lk_words.proofs.Commands.{with_option_as, with_option_none}
use Rattle.lk_words.proofs.words.play.Goals as goal

pub returns-in-Some-clause-ok : goal.returns-in-Some-clause-ok
returns-in-Some-clause-ok c =
    let m = c.in_ok-matches.matches in
    let found = sym (c.in-Some.ensures ∙ first_value-rows (found_of m) (codes "schedule")) in
    let is = with_option_as (codes "schedule") Play (map string_bytes c.args.words.now) m c.in_ok-matches.ensures.ok refl refl c.in-Some.schedule.now found in
    subst (λ found. IfOk c.with_task.result (λ command. found ≡ Some (seen command))) (sym is) c.with_task.ensures.ok

pub returns-in-Some-clause-usage : goal.returns-in-Some-clause-usage
returns-in-Some-clause-usage c =
    let m = c.in_ok-matches.matches in
    let found = sym (c.in-Some.ensures ∙ first_value-rows (found_of m) (codes "schedule")) in
    let is = with_option_as (codes "schedule") Play (map string_bytes c.args.words.now) m c.in_ok-matches.ensures.ok refl refl c.in-Some.schedule.now found in
    subst (λ found. IfErr c.with_task.result (λ fault. fault ≡ Usage → found ≡ None)) (sym is) c.with_task.ensures.usage

pub returns-clause-usage : goal.returns-clause-usage
returns-clause-usage c = λ usage.
    let m = c.in_ok-matches.matches in
    let none = sym (c.in-None.ensures ∙ first_value-rows (found_of m) (codes "schedule")) in
    with_option_none (codes "schedule") Play (map string_bytes c.args.words.now) m c.in_ok-matches.ensures.ok refl refl none
