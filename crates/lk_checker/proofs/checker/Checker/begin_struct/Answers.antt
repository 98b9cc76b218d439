use Rattle.lk_checker.proofs.GoingOn.{alone_further}
use Rattle.lk_checker.proofs.checker.Checker.begin_struct.Goals as goal

pub returns-clause-further : goal.returns-clause-further
returns-clause-further c = alone_further c.args.self.now c.begin_definition.new.self c.in_ok-number.ensures.grows c.in_ok-number.ensures.begun

pub returns-clause-begins : goal.returns-clause-begins
returns-clause-begins c = λ env is. record {
  number = c.in_ok-number.ensures.number env is;
  admitted = c.in_ok-is_admitted.ensures env is;
  behind = c.in_ok-number.ensures.behind env is;
}
