use Rattle.std.proofs.Common.{IfOk, IfErr, ◌≡◌, Some, None, map, sym, subst}
use Rattle.std.specs.Prelude.{string_bytes}
use Rattle.lk_words.specs.Seen.{seen, seen_task}
use Rattle.lk_words.specs.declared.task.WordsFault.TheVariants.{Usage}
use Rattle.lk_words.proofs.Commands.{plain_as}
use Rattle.lk_words.proofs.words.plain.Goals as goal

pub returns-clause-ok : goal.returns-clause-ok
returns-clause-ok c =
    subst (λ found. IfOk c.with_task.result (λ command. found ≡ Some (seen command))) (sym (plain_as (seen_task c.args.task) (map string_bytes c.args.words.now) c.in_ok-matches.matches c.in_ok-matches.ensures.ok)) c.with_task.ensures.ok

pub returns-clause-usage : goal.returns-clause-usage
returns-clause-usage c =
    subst (λ found. IfErr c.with_task.result (λ fault. fault ≡ Usage → found ≡ None)) (sym (plain_as (seen_task c.args.task) (map string_bytes c.args.words.now) c.in_ok-matches.matches c.in_ok-matches.ensures.ok)) c.with_task.ensures.usage
