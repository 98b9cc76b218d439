use Rattle.std.proofs.Common.{arith, refl}
use Rattle.std.proofs.lemmas.Option.{none-some}
use Rattle.lk_elaborator.proofs.elaborator.Elaborator.new.Goals as goal

pub returns : goal.returns
returns c = record {
  types = c.new.ensures;
  names = refl;
  outside = refl;
  records = refl;
  entities = c.new-2.ensures;
  rise = record { rise = λ i j n m order at_i at_j. absurd (none-some n at_i); last = λ n there. absurd (omega (arith, there.1)) };
  objects = c.new-4.ensures.items;
  bodies = c.new-5.ensures.items;
}
