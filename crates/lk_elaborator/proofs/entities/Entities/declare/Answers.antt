use Rattle.std.proofs.Common.{◌∷◌, ◌++◌, [], arith, refl}
use Rattle.lk_elaborator.proofs.Rising.{rising, with_last}
use Rattle.lk_elaborator.proofs.entities.Entities.declare.Goals as goal

pub returns-clause-gathers : goal.returns-clause-gathers
returns-clause-gathers c = λ ns was. with_last (ns ++ c.args.named ∷ []) c.put.new.self c.args.named.ordinal (c.in_ok-put.ensures.gathers ns was)

pub returns-clause-rises : goal.returns-clause-rises
returns-clause-rises c = λ ns was.
    rising ns c.args.named c.args.self.now (record c.put.new.self { last = c.args.named.ordinal }) (omega (arith, c.if-ordinal-self.false)) refl was
