use Rattle.lk_join.proofs.Refusing.{agreed, main_there, nothing_clashes, refused_clashing, refused_without}
use Rattle.lk_join.proofs.linking.link.Goals as goal

pub returns-then-not-has_main-clause-err : goal.returns-then-not-has_main-clause-err
returns-then-not-has_main-clause-err c =
    refused_without c.args.units.items c.as_slice.result.now c.as_slice.ensures.value c.args.externs.now c.has_main.result c.no_main.result c.has_main.ensures c.if-not-has_main.true c.no_main.ensures

pub returns-in-Some-clause-err : goal.returns-in-Some-clause-err
returns-in-Some-clause-err c =
    let units = c.args.units.items in
    let main = main_there units c.as_slice.result.now c.as_slice.ensures.value c.has_main.result c.has_main.ensures c.if-not-has_main.false in
    refused_clashing units c.as_slice-2.result.now c.as_slice-2.ensures.value c.args.externs.now c.in_ok-clash.field-0 c.in-Some.clash c.refusal_of.result main c.in_ok-clash.ensures c.in-Some.is c.refusal_of.ensures

pub returns-in_ok-whole-in-None-clause-ok : goal.returns-in_ok-whole-in-None-clause-ok
returns-in_ok-whole-in-None-clause-ok c =
    let units = c.args.units.items in
    record {
      has_main = main_there units c.as_slice.result.now c.as_slice.ensures.value c.has_main.result c.has_main.ensures c.if-not-has_main.false;
      no_clash = nothing_clashes units c.as_slice-2.result.now c.as_slice-2.ensures.value c.args.externs.now c.in_ok-clash.field-0 c.in_ok-clash.ensures c.in-None.is;
      joined = c.in_ok-whole-in-None.ensures;
    }

pub join-requires-clause-agreed : goal.join-requires-clause-agreed
join-requires-clause-agreed c =
    agreed c.args.units.items c.args.externs.now
    (nothing_clashes c.args.units.items c.as_slice-2.result.now c.as_slice-2.ensures.value c.args.externs.now c.in_ok-clash.field-0 c.in_ok-clash.ensures c.in-None.is)
