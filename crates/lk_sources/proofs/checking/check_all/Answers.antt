use Rattle.std.proofs.Common.{◌≡◌, ◌∙◌, [], ◌∷◌, ◌++◌, All, Err, IfErr, map, sym, ap, subst}
use Rattle.std.proofs.iter.Next.{Yields-more}
use Rattle.std.proofs.lemmas.List.Elements.{All-push}
use Rattle.std.proofs.lemmas.Result.{err_from_is_err_and}
use Rattle.std.specs.Vec.Iter.{into_iter_items, into_iter_steps}
use Rattle.lk_parse_unit.specs.declared.parse.Parsed.{Parsed}
use Rattle.lk_sources.specs.Accepting.{IsCheckedSource, units_of}
use Rattle.lk_sources.specs.Faults.{AreFaultless}
use Rattle.lk_sources.specs.Judging.{IsFaulty}
use Rattle.lk_sources.specs.declared.checking.AcceptedSource.{AcceptedSource}
use Rattle.lk_sources.proofs.FaultsUpto.{faulty_next, faultless_more, yielded_front}
use Rattle.lk_sources.proofs.Lists.{map_push, mapped_front}
use Rattle.lk_sources.proofs.checking.check_all.Goals as goal

pub returns-in_err-source-clause-err : goal.returns-in_err-source-clause-err
returns-in_err-source-clause-err c =
    let p = err_from_is_err_and c.from_residual.result c.from_residual.ensures.1 in
    let it = c.into_iter-parsed-iterator in
    let xs = c.loop-parsed.yielded in
    let x = c.in-Some.parsed in
    let rest = into_iter_items c.next.new.self in
    let unit_of = λ (parsed : Parsed). parsed.unit in
    let more = Yields-more into_iter_steps it.result xs c.loop-parsed.parsed-iterator x c.next.new.self c.loop-parsed.yielded_by c.in-Some.ensures.steps in
    let whole : c.args.trees.items ≡ (xs ++ x ∷ []) ++ rest = sym it.ensures.into_iter_gives.0 ∙ yielded_front it.result c.next.new.self (xs ++ x ∷ []) more in
    subst (λ result. IfErr result (IsFaulty c.args.externs.now (map unit_of c.args.trees.items))) (sym (p.1 ∙ ap Err p.2))
    (faulty_next c.args.externs.now (map unit_of xs) x.unit (map unit_of rest) (map unit_of c.args.trees.items) c.in_err-source.field-0.0 c.loop-parsed.invariant.faultless
    (mapped_front unit_of c.args.trees.items xs x rest whole) c.in_err-source.ensures.err)

pub loop-parsed-preserved : goal.loop-parsed-preserved
loop-parsed-preserved c =
    let externs = c.args.externs.now in
    let xs = c.loop-parsed.yielded in
    let x = c.in-Some.parsed in
    let before = c.loop-parsed.sources.items in
    let source = c.in_ok-source.source in
    let unit_of = λ (parsed : Parsed). parsed.unit in
    let tree_of = λ (s : AcceptedSource). s.parsed.unit in
    let items = c.in_ok-push.ensures.items in
    record {
      checked = subst (All (IsCheckedSource externs)) (sym items) (All-push (IsCheckedSource externs) before source c.loop-parsed.invariant.checked c.in_ok-source.ensures.checked);
      units = ap units_of items ∙ map_push tree_of before source ∙ ap (λ us. us ++ tree_of source ∷ []) c.loop-parsed.invariant.units
          ∙ ap (λ u. map unit_of xs ++ u ∷ []) c.in_ok-source.ensures.unit ∙ sym (map_push unit_of xs x);
      faultless = subst (AreFaultless externs) (sym (map_push unit_of xs x))
          (faultless_more externs (map unit_of xs) x.unit c.loop-parsed.invariant.faultless c.in_ok-source.ensures.ok);
    }
