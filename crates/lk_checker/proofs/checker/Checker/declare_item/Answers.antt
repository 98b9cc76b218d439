use Rattle.lk_checker.proofs.checker.Checker.declare_item.Goals as goal

pub declare_plain-requires-clause-meaning : goal.declare_plain-requires-clause-meaning
declare_plain-requires-clause-meaning c = c.declared-meaning.ensures.known c.args.self.now.types
