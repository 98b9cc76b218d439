use Rattle.std.proofs.Common.{◌∙◌, arith, sym}
use Rattle.std.proofs.lemmas.Bool.{false≢true}
use Rattle.lk_types.proofs.KeptLemmas.{read_got}
use Rattle.lk_join.proofs.Starting.{never_none, no_main_more}
use Rattle.lk_join.proofs.entities.main_of.Goals as goal

pub loop-number-init : goal.loop-number-init
loop-number-init c = λ k entity less. absurd (omega (arith, less))

pub loop-number-preserved : goal.loop-number-preserved
loop-number-preserved c =
    let n = c.loop-number.number in
    let entity = c.index-entities-number.result in
    no_main_more c.args.entities.now n entity (read_got c.args.entities.now n entity (omega arith) c.index-entities-number.is)
    (λ is. false≢true (sym c.if-is_main.false ∙ c.is_main.ensures.1 is)) c.loop-number.invariant

pub unreachable-requires : goal.unreachable-requires
unreachable-requires c =
    let past = c.loop-number-test.false in
    never_none c.args.entities.now c.loop-number.number (omega (arith, past)) c.requires.there c.loop-number.invariant
