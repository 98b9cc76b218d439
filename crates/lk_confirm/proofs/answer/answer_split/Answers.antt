use Rattle.lk_confirm.specs.Seen.{seen_split}
use Rattle.lk_words.specs.Seen.{seen}
use Rattle.lk_confirm.proofs.answer.answer_split.Goals as goal

pub examine-requires : goal.examine-requires
examine-requires g c =
    c.commands_are_in_bounds.ensures (seen_split c.args.split.now).others (seen c.in_ok-asked.asked.check) c.in_ok-asked.ensures.ok.check
