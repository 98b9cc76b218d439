use Rattle.std.proofs.Common.{◌≡◌, ◌++◌, ◌∷◌, [], arith, length, take, sym, subst}
use Rattle.std.proofs.lemmas.List.{take_more}
use Rattle.lk_types.proofs.KeptLemmas.{read_got}
use Rattle.lk_join.specs.Entities.{ArePut, IsSaid}
use Rattle.lk_join.specs.Entities.ArePut.{more, none}
use Rattle.lk_join.proofs.Fitting.{fit_behind, may_put}
use Rattle.lk_join.proofs.entities.Entities.put_source.Goals as goal

pub loop-entity-init : goal.loop-entity-init
loop-entity-init c =
    let list = c.args.self.now.list in
    (c.requires.named, subst (λ numbers. ArePut c.args.source c.args.row.now list [] numbers list) (sym c.new-numbers.ensures.items) none, c.requires.fit)

pub loop-entity-preserved : goal.loop-entity-preserved
loop-entity-preserved c =
    let source = c.args.source in
    let row = c.args.row.now in
    let old = c.args.self.now.list in
    let new = c.put.new.self.list in
    let entities = c.args.entities.now in
    let n = c.loop-entity.entity-index in
    let entity = c.entity-item.result in
    let numbers = c.loop-entity.numbers.items in
    let place : c.in_ok-place.place ≡ length numbers = let is = c.in_ok-place.ensures in omega (arith, is) in
    let said = subst (λ k. IsSaid row (source, k) entity c.in_ok-said.said) place c.in_ok-said.ensures in (
      c.in_ok-number.ensures.named,
      subst (λ es. ArePut source row old es c.push.new.self.items new) (sym (take_more entities n entity c.loop-entity-test.true))
          (subst (λ e. ArePut source row old (take n entities ++ e ∷ []) c.push.new.self.items new) c.entity-item.is
          (subst (λ ns. ArePut source row old (take n entities ++ entity ∷ []) ns new) (sym c.in_ok-push.ensures.items)
          (more c.loop-entity.invariant.1 said c.in_ok-number.ensures.listed))),
      fit_behind entities c.requires.names c.loop-entity.self.list new row (source, length numbers) n entity c.in_ok-said.said c.in_ok-number.number
          (read_got entities n entity c.loop-entity-test.true c.entity-item.is) said c.in_ok-number.ensures.listed c.loop-entity.invariant.2,
    )

pub put-requires-clause-may : goal.put-requires-clause-may
put-requires-clause-may c =
    let entities = c.args.entities.now in
    let n = c.loop-entity.entity-index in
    let entity = c.entity-item.result in
    may_put c.loop-entity.self.list c.args.row.now _ entity c.in_ok-said.said c.in_ok-said.ensures
    (c.loop-entity.invariant.2 n entity (omega arith) (read_got entities n entity c.loop-entity-test.true c.entity-item.is))
