use Rattle.std.proofs.Common.{All, refl, ap, sym, subst, arith}
use Rattle.std.proofs.lemmas.Bool.{false≢true}
use Rattle.std.proofs.lemmas.Bool.Decides.{nat_tests}
use Rattle.std.proofs.lemmas.List.Elements.{All-head, All-tail}
use Rattle.lk_types.specs.Equal.AreEqualBut.{none}
use Rattle.lk_types.specs.Equal.IsEqualBut.{same}
use Rattle.lk_types.specs.Table.{IsKnown, HasKnown}
use Rattle.lk_types.proofs.KeptLemmas.{read_got}
use Rattle.lk_types.proofs.SizeLemmas.{all_read}
use Rattle.lk_types.proofs.RedeclareLemmas.{above_all, above_at, above_made, above_pointer, above_array, above_result, above_params, made_known, made_alike, lists_long, lists_at, lists_more}
use Rattle.lk_types.proofs.table.TypeTable.+redeclarable.Goals as goal

pub are_all_redeclarable-returns-then-a-b : goal.are_all_redeclarable-returns-then-a-b
are_all_redeclarable-returns-then-a-b t c = ((λ is. absurd (false≢true is)), (λ h. absurd (c.if-a-b.true (lists_long h))))

pub are_all_redeclarable-loop-place-init : goal.are_all_redeclarable-loop-place-init
are_all_redeclarable-loop-place-init t c = none

pub are_all_redeclarable-are_redeclarable-requires :
    goal.are_all_redeclarable-are_redeclarable-requires
are_all_redeclarable-are_redeclarable-requires t c =
    let at = read_got c.args.a.now c.loop-place.place c.index-a-place.result c.loop-place-test.true c.index-a-place.is in
    let bt = read_got c.args.b.now c.loop-place.place c.index-b-place.result (omega (arith, c.if-a-b.false, c.loop-place-test.true)) c.index-b-place.is in (
      omega (arith, c.decreases, above_at c.args.a.now c.loop-place.place c.index-a-place.result at),
      (
        all_read (IsKnown c.args.self.now) c.args.a.now c.loop-place.place c.index-a-place.result c.requires.a at,
        all_read (IsKnown c.args.self.now) c.args.b.now c.loop-place.place c.index-b-place.result c.requires.b bt,
      ),
    )

pub are_all_redeclarable-returns-then-not-are_redeclarable :
    goal.are_all_redeclarable-returns-then-not-are_redeclarable
are_all_redeclarable-returns-then-not-are_redeclarable t c =
    let at = read_got c.args.a.now c.loop-place.place c.index-a-place.result c.loop-place-test.true c.index-a-place.is in
    let bt = read_got c.args.b.now c.loop-place.place c.index-b-place.result (omega (arith, c.if-a-b.false, c.loop-place-test.true)) c.index-b-place.is in
    ((λ is. absurd (false≢true is)), (λ h. absurd (false≢true (c.if-not-are_redeclarable.ensures.1 (lists_at h c.loop-place.place c.index-a-place.result c.index-b-place.result at bt)))))

pub are_all_redeclarable-loop-place-preserved : goal.are_all_redeclarable-loop-place-preserved
are_all_redeclarable-loop-place-preserved t c =
    let at = read_got c.args.a.now c.loop-place.place c.index-a-place.result c.loop-place-test.true c.index-a-place.is in
    let bt = read_got c.args.b.now c.loop-place.place c.index-b-place.result (omega (arith, c.if-a-b.false, c.loop-place-test.true)) c.index-b-place.is in
    lists_more c.args.a.now c.args.b.now c.loop-place.place c.index-a-place.result c.index-b-place.result at bt (c.if-not-are_redeclarable.ensures.0 refl) c.loop-place.invariant

pub are_made_alike-are_redeclarable-requires : goal.are_made_alike-are_redeclarable-requires
are_made_alike-are_redeclarable-requires t c =
    let p = c.in-Pointer-Pointer in
    (omega (arith, c.decreases, above_pointer c.args.a.now p.s p.is-0), (subst (HasKnown c.args.self.now) p.is-0 c.requires.a, subst (HasKnown c.args.self.now) p.is-1 c.requires.b))

pub are_made_alike-are_redeclarable-requires-then-are_sizes_redeclarable :
    goal.are_made_alike-are_redeclarable-requires-then-are_sizes_redeclarable
are_made_alike-are_redeclarable-requires-then-are_sizes_redeclarable t c =
    let p = c.in-Array-Array in
    (omega (arith, c.decreases, above_array c.args.a.now p.s p.n p.is-0), (subst (HasKnown c.args.self.now) p.is-0 c.requires.a, subst (HasKnown c.args.self.now) p.is-1 c.requires.b))

pub are_made_alike-are_redeclarable-requires-then-d-e :
    goal.are_made_alike-are_redeclarable-requires-then-d-e
are_made_alike-are_redeclarable-requires-then-d-e t c =
    let now = c.args.self.now in
    let p = c.in-Function-Function in
    (omega (arith, c.decreases, above_result c.args.a.now p.r p.ps p.d p.is-0), (All-head (IsKnown now) p.r p.ps (subst (HasKnown now) p.is-0 c.requires.a), All-head (IsKnown now) p.s p.qs (subst (HasKnown now) p.is-1 c.requires.b)))

pub are_made_alike-are_all_redeclarable-requires :
    goal.are_made_alike-are_all_redeclarable-requires
are_made_alike-are_all_redeclarable-requires t c =
    let now = c.args.self.now in
    let p = c.in-Function-Function in (
      omega (arith, c.decreases, above_params c.args.a.now p.r p.ps p.d p.is-0, ap above_all c.list.ensures),
      (
        subst (All (IsKnown now)) (sym c.list.ensures) (All-tail (IsKnown now) p.r p.ps (subst (HasKnown now) p.is-0 c.requires.a)),
        subst (All (IsKnown now)) (sym c.list-then-are_redeclarable.ensures) (All-tail (IsKnown now) p.s p.qs (subst (HasKnown now) p.is-1 c.requires.b)),
      ),
    )

pub are_redeclarable-returns-then-eq : goal.are_redeclarable-returns-then-eq
are_redeclarable-returns-then-eq t c = ((λ is. same (grind (arith, nat_tests, c.if-eq.ensures))), (λ h. refl))

pub are_redeclarable-are_made_alike-requires : goal.are_redeclarable-are_made_alike-requires
are_redeclarable-are_made_alike-requires t c =
    let now = c.args.self.now in (
      omega (arith, c.decreases, above_made now c.args.a c.get.result.now c.get.ensures.made_of),
      (
        made_known now c.args.a c.get.result.now c.requires.a c.get.ensures.made_of,
        made_known now c.args.b c.get-2.result.now c.requires.b c.get-2.ensures.made_of,
      ),
    )

pub are_redeclarable-returns : goal.are_redeclarable-returns
are_redeclarable-returns t c =
    let iff = made_alike c.args.self.now.types c.args.a c.args.b c.get.result.now c.get-2.result.now c.get.ensures.value c.get-2.ensures.value (λ e. grind (arith, nat_tests, c.if-eq.ensures, e)) in
    ((λ is. iff.0 (c.are_made_alike.ensures.0 is)), (λ h. c.are_made_alike.ensures.1 (iff.1 h)))
