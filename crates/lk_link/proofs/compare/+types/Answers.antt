use Rattle.std.proofs.Common.{◌≡◌, ◌∙◌, ◌+◌, All, refl, ap, sym, subst, arith, true, false, suc, take, length}
use Rattle.std.proofs.lemmas.List.Elements.{All-head, All-tail}
use Rattle.std.proofs.Math.Seq.{take-length}
use Rattle.lk_types.specs.Table.{IsKnown, HasKnown}
use Rattle.lk_types.specs.declared.c_type.CType.TheVariants.{Function}
use Rattle.lk_types.proofs.KeptLemmas.{read_got}
use Rattle.lk_types.proofs.SizeLemmas.{all_read}
use Rattle.lk_types.proofs.RedeclareLemmas.{above_all, above_at, above_made, above_pointer, above_array, above_result, above_params}
use Rattle.lk_link.specs.Comparing.{IsAnsweredHere, AreOneHere, AreAllOneHere, AreMadeAs}
use Rattle.lk_link.specs.Types.AreAllOne.{none}
use Rattle.lk_link.proofs.Answering.{answered_by, answered_no, answered_same, answered_then, answered_then_stop}
use Rattle.lk_link.proofs.Making.{functions_answered, parts_of_one, one_of_parts, all_long, all_more, all_less, all_last, all_take}
use Rattle.lk_link.proofs.Meeting.{bools_same}
use Rattle.lk_link.proofs.compare.+types.Goals as goal

pub compare_all-returns-then-ts-us : goal.compare_all-returns-then-ts-us
compare_all-returns-then-ts-us t c =
    answered_no c.args.pairs.now (λ ps. AreAllOneHere c.args.first.now c.args.second.now ps c.args.rule c.args.ts.now c.args.us.now)
    (λ ps h. c.if-ts-us.true (all_long c.args.first.now c.args.second.now c.args.rule ps h))

pub compare_all-loop-place-init : goal.compare_all-loop-place-init
compare_all-loop-place-init t c =
    answered_by c.args.pairs.now (λ ps. AreAllOneHere c.args.first.now c.args.second.now ps c.args.rule (take 0 c.args.ts.now) (take 0 c.args.us.now)) true (λ yes ps. none) (λ ps h. refl)

pub compare_all-compare_types-requires : goal.compare_all-compare_types-requires
compare_all-compare_types-requires t c =
    let at = read_got c.args.ts.now c.loop-place.place c.index-ts-place.result c.loop-place-test.true c.index-ts-place.is in
    let bt = read_got c.args.us.now c.loop-place.place c.index-us-place.result (omega (arith, c.if-ts-us.false, c.loop-place-test.true)) c.index-us-place.is in (
      omega (arith, c.decreases, above_at c.args.ts.now c.loop-place.place c.index-ts-place.result at),
      (
        all_read (IsKnown c.args.first.now.types) c.args.ts.now c.loop-place.place c.index-ts-place.result c.requires.first at,
        all_read (IsKnown c.args.second.now.types) c.args.us.now c.loop-place.place c.index-us-place.result c.requires.second bt,
      ),
    )

pub compare_all-returns-then-not-branch : goal.compare_all-returns-then-not-branch
compare_all-returns-then-not-branch t c =
    let at = read_got c.args.ts.now c.loop-place.place c.index-ts-place.result c.loop-place-test.true c.index-ts-place.is in
    let bt = read_got c.args.us.now c.loop-place.place c.index-us-place.result (omega (arith, c.if-ts-us.false, c.loop-place-test.true)) c.index-us-place.is in
    let first = c.args.first.now in
    let second = c.args.second.now in
    let rule = c.args.rule in
    let k = c.loop-place.place in
    let ts = c.args.ts.now in
    let us = c.args.us.now in
    let no : c.in_ok-compare_types.field-0 ≡ false = cc in
    answered_then_stop (λ ps. AreAllOneHere first second ps rule (take k ts) (take k us)) (λ ps. AreOneHere first second ps rule c.index-ts-place.result c.index-us-place.result)
    (λ ps. AreAllOneHere first second ps rule ts us)
    (λ ps h. all_take first second rule ps h k)
    (λ ps h. all_last first second rule ps ts us k c.index-ts-place.result c.index-us-place.result at bt (all_take first second rule ps h (suc k)))
    c.loop-place.invariant
    (subst (IsAnsweredHere c.args.first.now c.args.second.now c.loop-place.pairs c.compare_types.new.pairs (λ ps. AreOneHere first second ps rule c.index-ts-place.result c.index-us-place.result)) no c.in_ok-compare_types.ensures)

pub compare_all-loop-place-preserved : goal.compare_all-loop-place-preserved
compare_all-loop-place-preserved t c =
    let at = read_got c.args.ts.now c.loop-place.place c.index-ts-place.result c.loop-place-test.true c.index-ts-place.is in
    let bt = read_got c.args.us.now c.loop-place.place c.index-us-place.result (omega (arith, c.if-ts-us.false, c.loop-place-test.true)) c.index-us-place.is in
    let first = c.args.first.now in
    let second = c.args.second.now in
    let rule = c.args.rule in
    let k = c.loop-place.place in
    let ts = c.args.ts.now in
    let us = c.args.us.now in
    let yes : c.in_ok-compare_types.field-0 ≡ true = cc in
    let number : suc k ≡ k + 1 = omega arith in
    let more = answered_then (λ ps. AreAllOneHere first second ps rule (take k ts) (take k us)) (λ ps. AreOneHere first second ps rule c.index-ts-place.result c.index-us-place.result)
    (λ ps. AreAllOneHere first second ps rule (take (suc k) ts) (take (suc k) us))
    (λ ps hs h. all_more first second rule ps ts us k c.index-ts-place.result c.index-us-place.result at bt hs h)
    (λ ps h. all_less first second rule ps ts us k h)
    (λ ps h. all_last first second rule ps ts us k c.index-ts-place.result c.index-us-place.result at bt h)
    c.loop-place.invariant
    (subst (IsAnsweredHere c.args.first.now c.args.second.now c.loop-place.pairs c.compare_types.new.pairs (λ ps. AreOneHere first second ps rule c.index-ts-place.result c.index-us-place.result)) yes c.in_ok-compare_types.ensures) in
    subst (λ n. IsAnsweredHere c.args.first.now c.args.second.now c.args.pairs.now c.compare_types.new.pairs (λ ps. AreAllOneHere first second ps rule (take n ts) (take n us)) true) number more

pub compare_all-returns : goal.compare_all-returns
compare_all-returns t c =
    let first = c.args.first.now in
    let second = c.args.second.now in
    let rule = c.args.rule in
    let ts = c.args.ts.now in
    let us = c.args.us.now in
    let n : c.loop-place.place ≡ length ts = omega arith in
    let m : c.loop-place.place ≡ length us = omega arith in
    let whole = ap (λ k. take k ts) n ∙ take-length ts in
    let whole_us = ap (λ k. take k us) m ∙ take-length us in
    subst (λ x. IsAnsweredHere c.args.first.now c.args.second.now c.args.pairs.now c.loop-place.pairs (λ ps. AreAllOneHere first second ps rule x us) true) whole
    (subst (λ x. IsAnsweredHere c.args.first.now c.args.second.now c.args.pairs.now c.loop-place.pairs (λ ps. AreAllOneHere first second ps rule (take c.loop-place.place ts) x) true) whole_us c.loop-place.invariant)

pub compare_forms-compare_types-requires : goal.compare_forms-compare_types-requires
compare_forms-compare_types-requires t c =
    let p = c.in-Pointer-Pointer in
    (omega (arith, c.decreases, above_pointer c.args.form.now p.a p.is-0), (subst (HasKnown c.args.first.now.types) p.is-0 c.requires.first, subst (HasKnown c.args.second.now.types) p.is-1 c.requires.second))

pub compare_forms-compare_types-requires-in-Array-Array :
    goal.compare_forms-compare_types-requires-in-Array-Array
compare_forms-compare_types-requires-in-Array-Array t c =
    let p = c.in-Array-Array in
    (omega (arith, c.decreases, above_array c.args.form.now p.a p.n p.is-0), (subst (HasKnown c.args.first.now.types) p.is-0 c.requires.first, subst (HasKnown c.args.second.now.types) p.is-1 c.requires.second))

pub compare_forms-compare_types-requires-else-d-e :
    goal.compare_forms-compare_types-requires-else-d-e
compare_forms-compare_types-requires-else-d-e t c =
    let first = c.args.first.now.types in
    let second = c.args.second.now.types in
    let p = c.in-Function-Function in
    (omega (arith, c.decreases, above_result c.args.form.now p.a p.ps p.d p.is-0), (All-head (IsKnown first) p.a p.ps (subst (HasKnown first) p.is-0 c.requires.first), All-head (IsKnown second) p.b p.qs (subst (HasKnown second) p.is-1 c.requires.second)))

pub compare_forms-compare_all-requires : goal.compare_forms-compare_all-requires
compare_forms-compare_all-requires t c =
    let first = c.args.first.now.types in
    let second = c.args.second.now.types in
    let p = c.in-Function-Function in (
      omega (arith, c.decreases, above_params c.args.form.now p.a p.ps p.d p.is-0, ap above_all c.list.ensures),
      (
        subst (All (IsKnown first)) (sym c.list.ensures) (All-tail (IsKnown first) p.a p.ps (subst (HasKnown first) p.is-0 c.requires.first)),
        subst (All (IsKnown second)) (sym c.list-in-Function-Function.ensures) (All-tail (IsKnown second) p.b p.qs (subst (HasKnown second) p.is-1 c.requires.second)),
      ),
    )

pub compare_forms-returns-in_ok-answer-in-Function-Function :
    goal.compare_forms-returns-in_ok-answer-in-Function-Function
compare_forms-returns-in_ok-answer-in-Function-Function t c =
    let first = c.args.first.now in
    let second = c.args.second.now in
    let rule = c.args.rule in
    let p = c.in-Function-Function in
    let same = bools_same p.d p.e c.if-d-e.false in
    let yes : c.in_ok-compare_types-in-Function-Function.field-0 ≡ true = cc in
    let one = subst (IsAnsweredHere c.args.first.now c.args.second.now c.args.pairs.now c.compare_types-else-d-e.new.pairs (λ ps. AreOneHere first second ps rule p.a p.b)) yes c.in_ok-compare_types-in-Function-Function.ensures in
    let all = subst (λ ts. IsAnsweredHere c.args.first.now c.args.second.now c.compare_types-else-d-e.new.pairs c.compare_all.new.pairs (λ ps. AreAllOneHere first second ps rule ts p.qs) c.in_ok-answer-in-Function-Function.answer) c.list.ensures
    (subst (λ us. IsAnsweredHere c.args.first.now c.args.second.now c.compare_types-else-d-e.new.pairs c.compare_all.new.pairs (λ ps. AreAllOneHere first second ps rule c.list.result.now us) c.in_ok-answer-in-Function-Function.answer) c.list-in-Function-Function.ensures c.in_ok-answer-in-Function-Function.ensures) in
    let both = functions_answered first second rule p.a p.b p.ps p.qs p.d p.e same one all in
    subst (λ f. IsAnsweredHere c.args.first.now c.args.second.now c.args.pairs.now c.compare_all.new.pairs (λ ps. AreMadeAs first second ps rule f c.args.other.now) c.in_ok-answer-in-Function-Function.answer) (sym p.is-0)
    (subst (λ f. IsAnsweredHere c.args.first.now c.args.second.now c.args.pairs.now c.compare_all.new.pairs (λ ps. AreMadeAs first second ps rule (Function p.a p.ps p.d) f) c.in_ok-answer-in-Function-Function.answer) (sym p.is-1) both)

pub compare_types-compare_forms-requires : goal.compare_types-compare_forms-requires
compare_types-compare_forms-requires t c =
    (omega (arith, c.decreases, above_made c.args.first.now.types c.args.t c.form.result.now c.form.ensures.made_of), (c.form.ensures.known, c.form-2.ensures.known))

pub compare_types-returns : goal.compare_types-returns
compare_types-returns t c =
    answered_same (λ ps. AreMadeAs c.args.first.now c.args.second.now ps c.args.rule c.form.result.now c.form-2.result.now) (λ ps. AreOneHere c.args.first.now c.args.second.now ps c.args.rule c.args.t c.args.u)
    (λ ps h. one_of_parts c.args.first.now c.args.second.now c.args.rule ps c.form.result.now c.form-2.result.now c.form.ensures.value c.form-2.ensures.value h)
    (λ ps h. parts_of_one c.args.first.now c.args.second.now c.args.rule ps c.form.result.now c.form-2.result.now c.form.ensures.value c.form-2.ensures.value h)
    c.in_ok-answer.ensures
