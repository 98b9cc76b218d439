use Rattle.std.proofs.Common.{◌≡◌, ◌∙◌, true, false, sym, subst, length}
use Rattle.lk_link.specs.Sources.{IsStruct}
use Rattle.lk_link.specs.Structs.{Becomes}
use Rattle.lk_link.proofs.Resolving.{becomes_closed, becomes_inside, becomes_by, in_sources}
use Rattle.lk_link.proofs.tags.Tags.becomes.Goals as goal

pub returns-then-not-is_open-clause-becomes : goal.returns-then-not-is_open-clause-becomes
returns-then-not-is_open-clause-becomes c =
    let closed : c.is_open.result ≡ false = cc in
    becomes_closed c.args.units.now c.args.self.now (length c.args.units.now) c.requires.firsts (in_sources c.args.units.now) c.args.s (sym c.is_open.ensures ∙ closed)

pub returns-in-Some-clause-becomes : goal.returns-in-Some-clause-becomes
returns-in-Some-clause-becomes c =
    let open_ : c.is_open.result ≡ true = cc in
    subst (Becomes c.args.units.now c.args.s) (sym c.unwrap_or.ensures)
    (becomes_by c.args.units.now c.args.self.now (length c.args.units.now) c.requires.firsts (in_sources c.args.units.now) c.args.s c.in-Some.name.now c.find.result c.find.ensures (sym c.is_open.ensures ∙ open_) c.in-Some.ensures c.requires.known).0

pub returns-in-Some-clause-known : goal.returns-in-Some-clause-known
returns-in-Some-clause-known c =
    let open_ : c.is_open.result ≡ true = cc in
    subst (IsStruct c.args.units.now) (sym c.unwrap_or.ensures)
    (becomes_by c.args.units.now c.args.self.now (length c.args.units.now) c.requires.firsts (in_sources c.args.units.now) c.args.s c.in-Some.name.now c.find.result c.find.ensures (sym c.is_open.ensures ∙ open_) c.in-Some.ensures c.requires.known).1

pub returns-in-None-clause-becomes : goal.returns-in-None-clause-becomes
returns-in-None-clause-becomes c = becomes_inside c.args.units.now c.args.self.now (length c.args.units.now) c.requires.firsts (in_sources c.args.units.now) c.args.s c.in-None.ensures
