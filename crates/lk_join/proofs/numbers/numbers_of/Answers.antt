use Rattle.std.proofs.Common.{sym, subst}
use Rattle.lk_join.specs.Places.{AreAllPutAt}
use Rattle.lk_join.proofs.numbers.numbers_of.Goals as goal

pub returns : goal.returns
returns c =
    let classes = c.put_rows.new.set in
    let named = c.in_ok-named.named.items in
    let rows = c.new.result in
    record {
      classes = classes;
      named = named;
      labelled = c.in_ok-named.ensures;
      put = subst (λ old. AreAllPutAt old classes named rows) c.new-classes.ensures
          (subst (λ given. AreAllPutAt c.new-classes.result classes given rows) c.as_slice.ensures.value
          (subst (AreAllPutAt c.new-classes.result classes c.as_slice.result.now) (sym c.new.ensures) c.in_ok-rows.ensures));
      distinct = c.len.ensures.distinct;
      whole = c.len.ensures.value;
    }
