use Rattle.std.proofs.Common.{sym, subst}
use Rattle.lk_typed.specs.declared.entity.Declaration.{Declaration}
use Rattle.lk_elaborator.specs.Gathering.{DeclaresAgain}
use Rattle.lk_elaborator.specs.Keeping.{PutsNumber}
use Rattle.lk_elaborator.proofs.Gathering.{begins_gathers, again_gathers}
use Rattle.lk_elaborator.proofs.entities.Entities.put.Goals as goal

pub returns-in_ok-declare_again-in-Some-clause-gathers : goal.returns-in_ok-declare_again-in-Some-clause-gathers
returns-in_ok-declare_again-in-Some-clause-gathers c =
    let again = c.in_ok-declare_again-in-Some.ensures in
    let old = c.args.self.now in
    let new = c.declare_again.new.self in
    let number = subst (λ (is : Declaration). PutsNumber old.by_ordinal.entries new.by_ordinal.entries is.ordinal c.in-Some.number) c.declaration_of.ensures again.number in
    let entity = subst (DeclaresAgain old.list.items new.list.items c.in-Some.number) c.declaration_of.ensures again.entity in
    λ ns was. again_gathers ns c.args.named old new was c.in-Some.number (sym c.in-Some.ensures) number again.external again.internal entity

pub returns-in_ok-begin-in-None-clause-gathers : goal.returns-in_ok-begin-in-None-clause-gathers
returns-in_ok-begin-in-None-clause-gathers c = let begun = c.in_ok-begin-in-None.ensures in λ ns was.
    begins_gathers ns c.args.named c.args.self.now c.begin.new.self was (sym c.in-None.ensures) begun.number begun.name begun.entity
