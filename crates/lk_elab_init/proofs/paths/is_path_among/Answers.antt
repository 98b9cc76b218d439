use Rattle.std.proofs.Common.{◌∙◌, refl}
use Rattle.lk_elab_init.proofs.Putting.{in_at}
use Rattle.lk_elab_init.proofs.paths.is_path_among.Goals as goal

pub returns-then-are_same_paths : goal.returns-then-are_same_paths
returns-then-are_same_paths c =
    let same = c.if-are_same_paths.ensures.0 refl ∙ c.list.ensures in
    (λ _. in_at c.args.paths.now c.loop-other.other-index c.args.path.now c.other-item.result c.loop-other-test.true c.other-item.is same, λ _. refl)
