use Rattle.std.proofs.Common.{◌≡◌, get_or, refl, sym, subst}
use Rattle.lk_facts.proofs.LiveLemmas.{put_new, put_old}
use Rattle.lk_facts.proofs.live.Marks.put.Goals as goal

pub returns-in_ok-push : goal.returns-in_ok-push
returns-in_ok-push c = put_new _ _ c.args.p c.requires refl c.in_ok-push.ensures.items

pub returns-else-not-index : goal.returns-else-not-index
returns-else-not-index c =
    put_old _ c.args.p c.requires (subst (λ b. get_or c.args.self.now.live.items c.args.p b ≡ b) c.if-not-index.false (sym c.index.ensures))
