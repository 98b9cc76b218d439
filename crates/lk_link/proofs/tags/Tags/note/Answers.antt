use Rattle.std.proofs.Common.{◌∙◌, sym}
use Rattle.std.proofs.lemmas.Bool.{false≢true}
use Rattle.lk_link.proofs.Resolving.{firsts_same, firsts_put}
use Rattle.lk_link.proofs.tags.Tags.note.Goals as goal

pub returns-then-is_open : goal.returns-then-is_open
returns-then-is_open c =
    firsts_same c.args.units.now c.args.self.now c.args.s c.requires.firsts (λ name k. false≢true (sym k.complete ∙ sym c.is_open.ensures ∙ c.if-is_open.true))

pub returns-in_ok-put-in-Some : goal.returns-in_ok-put-in-Some
returns-in_ok-put-in-Some c =
    firsts_put c.args.units.now c.args.self.now c.args.s c.requires.firsts c.put.new.self c.in-Some.name.now
    (record { outside = c.in-Some.ensures; complete = sym c.is_open.ensures ∙ c.if-is_open.false }) c.requires.known c.in_ok-put-in-Some.ensures

pub returns-in-None : goal.returns-in-None
returns-in-None c = firsts_same c.args.units.now c.args.self.now c.args.s c.requires.firsts (λ name k. c.in-None.ensures name k.outside)
