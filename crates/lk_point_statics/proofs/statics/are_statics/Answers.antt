use Rattle.lk_point_statics.proofs.Near.{written_too}
use Rattle.lk_point_statics.proofs.statics.are_statics.Goals as goal

pub returns : goal.returns
returns c = (
  (λ kept.
      let both = c.are_kept.ensures.0 kept in
      record {
        initials = both.0;
        written = λ i initial at. written_too c.args.points.now initial initial.value (both.1 i initial at);
        near = both.1;
      }),
  (λ are. c.are_kept.ensures.1 (are.initials, are.near)),
)
