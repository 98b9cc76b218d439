use Rattle.std.proofs.Common.{refl, subst, sym}
use Rattle.std.specs.Option.{option_map}
use Rattle.std.proofs.lemmas.Result.{on_ok_weaker}
use Rattle.lk_check_walk.proofs.Recordings.{further_recorded}
use Rattle.lk_typed.specs.Meaning.{meaning}
use Rattle.lk_check_unit.specs.Declaring.{IsRecordedAs, PutsName, meant_by}
use Rattle.lk_check_unit.proofs.Naming.{both_held, put_further, put_recorded, put_so, same_name}
use Rattle.lk_check_unit.proofs.NamesTold.{recorded_as}
use Rattle.lk_check_unit.proofs.declared.put_name.Goals as goal

pub returns-clause-further : goal.returns-clause-further
returns-clause-further c =
    let old = c.args.checker.now in
    on_ok_weaker c.declare.result
    (λ all. further_recorded old (record old { names = c.declare.new.self }) c.put_declared.new.self
    (put_further old c.declare.new.self (record c.args.declared { meaning = c.meaning_of-declared.result }) c.requires.sound all.0
    (all.1 old.types c.requires.sound.scope c.meaning_of-declared.ensures.known)))
    (both_held _ _ c.declare.result c.declare.ensures.ok c.declare.ensures.known)

pub returns-clause-puts : goal.returns-clause-puts
returns-clause-puts c =
    let old = c.args.checker.now in
    on_ok_weaker c.declare.result
    (λ adds. put_recorded old (record old { names = c.declare.new.self }) c.put_declared.new.self _
    (subst (PutsName old (record old { names = c.declare.new.self })) (same_name refl c.meaning_of-declared.ensures.value refl refl refl)
    (put_so old c.declare.new.self (record c.args.declared { meaning = c.meaning_of-declared.result }) adds)))
    c.declare.ensures.adds

pub returns-clause-records : goal.returns-clause-records
returns-clause-records c =
    let table = c.args.checker.now.types in
    let d = meant_by c.args.words.now c.args.how.now c.args.declared (option_map (meaning table) c.args.t.now) in
    let is = recorded_as table c.meaning_of-declared.result c.args.declared d c.args.recorded.now c.meaning_of-declared.ensures.value c.meaning_of-declared.ensures.known refl refl c.requires.recorded in
    on_ok_weaker c.declare.result
    (λ all. record {
      here = c.here-recorded.result;
      same = c.in_ok-put_declared.ensures;
      is = subst (λ o. IsRecordedAs table o d (option_map (meaning table) c.args.recorded.now)) (sym c.here-recorded.ensures) is;
    })
    c.declare.ensures.ok
