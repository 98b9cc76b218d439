use Rattle.std.proofs.Common.{◌≡◌, rules}
use Rattle.lk_links.proofs.SetLemmas.{All-from_has_id, All-has_id}
use Rattle.lk_links.proofs.over.are_all.Goals as goal

pub returns : goal.returns
returns c = (λ all o. All-has_id (λ y. y ≡ c.args.m) c.args.ids.now o (search rules), λ only. search (rules, All-from_has_id (λ y. y ≡ c.args.m) c.args.ids.now only))
