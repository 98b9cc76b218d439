use Rattle.std.proofs.Common.{◌≡◌, drop}
use Rattle.lk_labels.specs.Leasts.{put_labels}
use Rattle.lk_labels.specs.Parts.{labels_of_items}
use Rattle.lk_labels.proofs.collecting.+labels.Given as goal

abbrev pub invariant-put_items-loop-item : goal.invariant-put_items-loop-item
invariant-put_items-loop-item l = put_labels l.initial.out (labels_of_items l.items) ≡ put_labels l.out (labels_of_items (drop l.item-index l.items))
