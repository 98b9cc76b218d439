use Rattle.std.proofs.Common.{sym}
use Rattle.std.proofs.lemmas.Option.{slice_get_within}
use Rattle.lk_join.proofs.Named.{found_may, pushed_listed, pushed_named, told_listed, told_named}
use Rattle.lk_join.proofs.entities.Entities.put_external.Goals as goal

pub tell-requires-clause-may : goal.tell-requires-clause-may
tell-requires-clause-may c = found_may c.args.self.now c.args.is c.in-Some.number c.requires.named c.requires.external (sym c.in-Some.ensures) c.requires.may

pub tell-requires-clause-there : goal.tell-requires-clause-there
tell-requires-clause-there c =
    let number = c.in-Some.number in
    let found = c.requires.named.found c.args.is.name number (sym c.in-Some.ensures) in
    slice_get_within c.args.self.now.list number found.0 found.1

pub returns-in-Some-clause-listed : goal.returns-in-Some-clause-listed
returns-in-Some-clause-listed c =
    told_listed c.args.self.now c.tell.new.self c.args.is c.in-Some.number c.requires.named c.requires.external (sym c.in-Some.ensures) c.tell.ensures

pub returns-in-Some-clause-named : goal.returns-in-Some-clause-named
returns-in-Some-clause-named c =
    told_named c.args.self.now c.tell.new.self c.args.is c.in-Some.number c.requires.named c.requires.external (sym c.in-Some.ensures) c.tell.ensures

pub returns-in_ok-number-in-None-clause-listed : goal.returns-in_ok-number-in-None-clause-listed
returns-in_ok-number-in-None-clause-listed c =
    pushed_listed c.args.self.now c.push_named.new.self c.args.is c.in_ok-number-in-None.number c.requires.named c.requires.external (sym c.in-None.ensures) c.in_ok-number-in-None.ensures

pub returns-in_ok-number-in-None-clause-named : goal.returns-in_ok-number-in-None-clause-named
returns-in_ok-number-in-None-clause-named c =
    pushed_named c.args.self.now c.push_named.new.self c.args.is c.in_ok-number-in-None.number c.requires.named c.requires.external (sym c.in-None.ensures) c.in_ok-number-in-None.ensures
