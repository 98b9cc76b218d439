use Rattle.std.proofs.Common.{◌≡◌, ◌∙◌, ◌++◌, Some, List, ap, arith, length, map, refl, sym, subst}
use Rattle.std.specs.Vec.Iter.{into_iter_items}
use Rattle.lk_typed.specs.declared.whole.Linked.{Linked}
use Rattle.lk_join.proofs.Taking.{all_taken, as_many_taken, taken}
use Rattle.lk_join.proofs.linking.linked.Goals as goal

pub loop-unit-preserved : goal.loop-unit-preserved
loop-unit-preserved c =
    let sources = c.loop-unit.sources.items in
    let source : Linked = record { unit = c.in-Some.unit; types = c.unwrap-types.result; entities = c.unwrap-entities.result } in
    let before = c.loop-unit.invariant in
    let pushed = sym c.in_ok-push.ensures.items in
    let units = into_iter_items c.next.new.self in
    let types = into_iter_items c.next-in-loop-unit.new.self in
    let entities = into_iter_items c.next-in-loop-unit-2.new.self in (
      subst (λ (now : List Linked). c.args.units.items ≡ map (λ s. s.unit) now ++ units) pushed
          (taken (λ (s : Linked). s.unit) c.args.units.items (into_iter_items c.loop-unit.unit-iterator) units sources source (Some c.in-Some.unit)
          before.0 c.in-Some.ensures.steps.0 refl),
      subst (λ (now : List Linked). c.args.types.items ≡ map (λ s. s.types) now ++ types) pushed
          (taken (λ (s : Linked). s.types) c.args.types.items (into_iter_items c.loop-unit.rows) types sources source c.next-in-loop-unit.result
          before.1 c.next-in-loop-unit.ensures.items c.unwrap-types.ensures),
      subst (λ (now : List Linked). c.args.entities.items ≡ map (λ s. s.entities) now ++ entities) pushed
          (taken (λ (s : Linked). s.entities) c.args.entities.items (into_iter_items c.loop-unit.numbers) entities sources source c.next-in-loop-unit-2.result
          before.2 c.next-in-loop-unit-2.ensures.items c.unwrap-entities.ensures),
    )

pub returns : goal.returns
returns c =
    let sources = c.loop-unit.sources.items in
    let before = c.loop-unit.invariant in
    let units = into_iter_items c.loop-unit.unit-iterator in
    let types = into_iter_items c.loop-unit.rows in
    let entities = into_iter_items c.loop-unit.numbers in
    let none : length units ≡ 0 = let last = c.in-None.ensures.steps.0 in let long = c.loop-unit.unit-iterator.rest.ok.0 in omega (arith, last, long) in
    record {
      units_are = ap (map (λ (s : Linked). s.unit)) c.new.ensures ∙ all_taken (λ (s : Linked). s.unit) c.args.units.items units sources before.0 none;
      types_are = ap (map (λ (s : Linked). s.types)) c.new.ensures
          ∙ as_many_taken (λ (s : Linked). s.types) (λ (s : Linked). s.unit) c.args.types.items types c.args.units.items units sources before.1 before.0 c.requires.types none;
      entities_are = ap (map (λ (s : Linked). s.entities)) c.new.ensures
          ∙ as_many_taken (λ (s : Linked). s.entities) (λ (s : Linked). s.unit) c.args.entities.items entities c.args.units.items units sources before.2 before.0 c.requires.entities none;
    }
