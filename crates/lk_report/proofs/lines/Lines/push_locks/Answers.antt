use Rattle.std.proofs.Common.{◌<◌, length, append-nil, sym, subst}
use Rattle.std.proofs.lemmas.List.Elements.{All-tail}
use Rattle.lk_report.specs.Report.{AreLockPlaces}
use Rattle.lk_report.proofs.lines.Lines.push_locks.Goals as goal

pub loop-lock-init : goal.loop-lock-init
loop-lock-init c =
    let places = c.args.self.now.points.now.places in (
      sym (append-nil c.push_text.new.out.items),
      All-tail (λ q. q < length places) c.in-Some.first.now c.in-Some.others.now (subst (AreLockPlaces c.args.self.now.points.now) c.in-Some.ensures.cases.0 c.requires.locks),
    )
