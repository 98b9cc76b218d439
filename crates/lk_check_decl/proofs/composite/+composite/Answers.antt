use Rattle.std.proofs.Common.{◌+◌, take, ◌≡◌, ◌∙◌, ◌<◌, ◌≤◌, [], ap, sym, subst, arith, All}
use Rattle.std.proofs.lemmas.List.{take_all}
use Rattle.std.proofs.lemmas.Bool.Decides.{nat_tests}
use Rattle.std.proofs.lemmas.List.Elements.{All-head, All-tail}
use Rattle.lk_types.specs.Building.{IsPassed}
use Rattle.lk_types.specs.Table.{IsKnown}
use Rattle.lk_types.proofs.GrowLemmas.{known_same, longer_then}
use Rattle.lk_types.proofs.KeptLemmas.{read_got}
use Rattle.lk_types.proofs.RedeclareLemmas.{above_all, above_at, above_bound}
use Rattle.lk_types.proofs.SizeLemmas.{all_read}
use Rattle.lk_typed.specs.Declarations.{composite}
use Rattle.lk_typed.specs.Meaning.{meaning}
use Rattle.lk_typed.specs.Ty.{Pointer, Array}
use Rattle.lk_check_decl.specs.Making.{function_tree}
use Rattle.lk_check_decl.specs.Composites.{IsFunctionOf, StandEach, none}
use Rattle.lk_check_decl.proofs.Composites.{composite_self}
use Rattle.lk_check_decl.proofs.CompositeTypes.{both_made, equal_function, equal_later, equal_now, few_array, stands_now, function_made, function_passed, adds_none, adds_then, array_composite, each_later, each_next, element_composite, equal_at, equal_elements, equal_long, equal_targets, made_stands, made_there, passed_known, pointer_composite}
use Rattle.lk_check_decl.proofs.composite.+composite.Goals as goal

-- ---- a type that is declared again
pub composite-returns-then-eq-clause-means : goal.composite-returns-then-eq-clause-means
composite-returns-then-eq-clause-means t c =
    let m = meaning c.args.types.now in
    let same : c.args.t ≡ c.args.old = grind (arith, nat_tests, c.if-eq.ensures) in
    sym (composite_self (m c.args.t)) ∙ ap (λ u. composite (m c.args.t) (m u)) same

-- ---- pointers
pub of_pointers-composite-requires : goal.of_pointers-composite-requires
of_pointers-composite-requires t c =
    let m = meaning c.args.types.now in
    let points = c.requires.points in
    let other = c.in-Some.ensures in (
      omega (arith, c.decreases, points.below),
      (
        omega (arith, points.below, c.requires.t),
        (omega (arith, other.below, c.requires.old), (equal_targets (m c.args.target) (m c.in-Some.other) (m c.args.t) (m c.args.old) points.means other.means c.requires.equal, c.requires.few)),
      ),
    )

pub of_pointers-unwrap-requires : goal.of_pointers-unwrap-requires
of_pointers-unwrap-requires t c =
    let m = meaning c.args.types.now in
    let mid = c.composite.new.types in
    let both = c.in_ok-both-in-Some in
    made_there c.args.types.now mid c.is_table.ensures c.is_table-in-Some.ensures both.ensures.longer c.args.t c.requires.t (m c.args.old) (Pointer (meaning mid both.both))
    (pointer_composite (m c.args.target) (m c.in-Some.other) (meaning mid both.both) (m c.args.t) (m c.args.old) c.requires.points.means c.in-Some.ensures.means both.ensures.means)
    c.stored_pointer.new.types c.in_ok-made-in-Some.made c.in_ok-made-in-Some.ensures.ok

-- ---- arrays
pub of_arrays-composite-requires : goal.of_arrays-composite-requires
of_arrays-composite-requires t c =
    let m = meaning c.args.types.now in
    let parts = c.requires.parts in
    let other = c.in-Some.ensures in (
      omega (arith, c.decreases, parts.below),
      (
        parts.element.known,
        (
          other.element.known,
          (
            equal_elements (m c.args.parts.element) (m c.in-Some.other.element) (m c.args.t) (m c.args.old) c.args.parts.size c.in-Some.other.size parts.means other.means c.requires.equal,
            c.requires.few,
          ),
        ),
      ),
    )

pub of_arrays-stored_array-requires : goal.of_arrays-stored_array-requires
of_arrays-stored_array-requires t c =
    let both = c.in_ok-both-in-Some in
    element_composite c.args.types.now c.composite.new.types c.is_table.ensures c.is_table-in-Some.ensures both.ensures.members c.args.parts.element both.both (meaning c.args.types.now c.in-Some.other.element)
    c.requires.parts.element both.ensures.known both.ensures.means

pub of_arrays-unwrap-requires : goal.of_arrays-unwrap-requires
of_arrays-unwrap-requires t c =
    let m = meaning c.args.types.now in
    let mid = c.composite.new.types in
    let both = c.in_ok-both-in-Some in
    made_there c.args.types.now mid c.is_table.ensures c.is_table-in-Some.ensures both.ensures.longer c.args.t c.requires.t (m c.args.old) (Array (meaning mid both.both) c.sized.result)
    (array_composite (m c.args.parts.element) (m c.in-Some.other.element) (meaning mid both.both) (m c.args.t) (m c.args.old) c.args.parts.size c.in-Some.other.size c.sized.result
    c.requires.parts.means c.in-Some.ensures.means both.ensures.means c.sized.ensures)
    c.stored_array.new.types c.in_ok-made-in-Some.made c.in_ok-made-in-Some.ensures.ok

pub of_arrays-returns-in_ok-made-in-Some-clause-adds : goal.of_arrays-returns-in_ok-made-in-Some-clause-adds
of_arrays-returns-in_ok-made-in-Some-clause-adds t c =
    let table = c.args.types.now in
    let m = meaning table in
    let parts = c.requires.parts in
    let other = c.in-Some.ensures in
    let both = c.in_ok-both-in-Some in
    let made = c.in_ok-made-in-Some.ensures in
    adds_then table c.composite.new.types c.stored_array.new.types both.ensures.longer both.ensures.members made.longer made.members
    (made.few
    (few_array table c.is_table.ensures c.requires.few c.args.t c.args.old c.args.parts c.in-Some.other parts other c.requires.t c.requires.old c.requires.equal
    (meaning c.composite.new.types both.both) c.sized.result both.ensures.means c.sized.ensures)
    both.ensures.few)

-- ---- functions
pub of_functions-composite-requires : goal.of_functions-composite-requires
of_functions-composite-requires t c =
    let table = c.args.types.now in
    let parts = c.args.parts.now in
    let with = c.in-Some.other in
    let is = c.requires.parts in
    let is_other : IsFunctionOf table c.args.old with = rw c.in-Some.is at c.in_ok-other.ensures in
    let less : parts.result < c.args.t = All-head (λ u. u < c.args.t) parts.result parts.params is.below in (
      omega (arith, c.decreases, less),
      (
        (All-head (IsPassed table) parts.result parts.params is.passed).known,
        (
          (All-head (IsPassed table) with.result with.params is_other.passed).known,
          ((equal_function table c.args.t c.args.old parts with is is_other c.requires.equal).0, c.requires.few),
        ),
      ),
    )

pub of_functions-of_params-requires : goal.of_functions-of_params-requires
of_functions-of_params-requires t c =
    let table = c.args.types.now in
    let mid = c.composite.new.types in
    let parts = c.args.parts.now in
    let with = c.in-Some.other in
    let is = c.requires.parts in
    let is_other : IsFunctionOf table c.args.old with = rw c.in-Some.is at c.in_ok-other.ensures in
    let passed = All-tail (IsPassed table) parts.result parts.params is.passed in
    let others = All-tail (IsPassed table) with.result with.params is_other.passed in
    let longer = c.in_ok-both-in-Some.ensures.longer in
    let less : above_all parts.params ≤ c.args.t = above_bound c.args.t parts.params (All-tail (λ u. u < c.args.t) parts.result parts.params is.below) in
    let same = ap above_all c.list.ensures in (
      omega (arith, c.decreases, less, same),
      (
        subst (All (IsKnown mid)) (sym c.list.ensures) (passed_known table mid c.is_table.ensures longer parts.params passed),
        (
          subst (All (IsKnown mid)) (sym c.list-in-Some.ensures) (passed_known table mid c.is_table.ensures longer with.params others),
          (
            equal_later table mid c.is_table.ensures longer parts.params with.params c.list.result.now c.list-in-Some.result.now c.list.ensures c.list-in-Some.ensures passed others
                (equal_function table c.args.t c.args.old parts with is is_other c.requires.equal).1,
            c.in_ok-both-in-Some.ensures.few,
          ),
        ),
      ),
    )

pub of_functions-stored_function-requires : goal.of_functions-stored_function-requires
of_functions-stored_function-requires t c =
    function_passed c.args.types.now c.composite.new.types c.of_params.new.types c.args.t c.args.old c.in_ok-both-in-Some.both c.in_ok-params-in-Some.params c.args.parts.now c.in-Some.other
    (both_made c.is_table.ensures c.is_table-in-Some.ensures c.is_table-in-Some-2.ensures c.in_ok-both-in-Some.ensures.longer c.in_ok-params-in-Some.ensures.adds.longer c.requires.parts
    (rw c.in-Some.is at c.in_ok-other.ensures) c.in_ok-both-in-Some.ensures.known c.in_ok-both-in-Some.ensures.means c.list.ensures c.list-in-Some.ensures c.in_ok-params-in-Some.ensures.made)

pub of_functions-unwrap-requires : goal.of_functions-unwrap-requires
of_functions-unwrap-requires t c =
    let table = c.args.types.now in
    let last = c.of_params.new.types in
    let both = c.in_ok-both-in-Some.both in
    let params = c.in_ok-params-in-Some.params in
    let parts = c.args.parts.now in
    made_there table last c.is_table.ensures c.is_table-in-Some-2.ensures
    (longer_then table c.composite.new.types last c.in_ok-both-in-Some.ensures.longer c.in_ok-params-in-Some.ensures.adds.longer) c.args.t c.requires.t (meaning table c.args.old)
    (function_tree last both params parts.dots)
    (function_made table c.composite.new.types last c.args.t c.args.old both params parts c.in-Some.other
    (both_made c.is_table.ensures c.is_table-in-Some.ensures c.is_table-in-Some-2.ensures c.in_ok-both-in-Some.ensures.longer c.in_ok-params-in-Some.ensures.adds.longer c.requires.parts
    (rw c.in-Some.is at c.in_ok-other.ensures) c.in_ok-both-in-Some.ensures.known c.in_ok-both-in-Some.ensures.means c.list.ensures c.list-in-Some.ensures c.in_ok-params-in-Some.ensures.made))
    c.stored_function.new.types c.in_ok-made-in-Some.made c.in_ok-made-in-Some.ensures.ok

pub of_functions-returns-in_ok-made-in-Some-clause-made : goal.of_functions-returns-in_ok-made-in-Some-clause-made
of_functions-returns-in_ok-made-in-Some-clause-made t c =
    let table = c.args.types.now in
    let last = c.of_params.new.types in
    let both = c.in_ok-both-in-Some.both in
    let params = c.in_ok-params-in-Some.params in
    let parts = c.args.parts.now in
    made_stands last c.stored_function.new.types (function_tree last both params parts.dots) (composite (meaning table c.args.t) (meaning table c.args.old)) c.in_ok-made-in-Some.made c.unwrap.result
    c.in_ok-made-in-Some.ensures.ok c.unwrap.ensures
    (function_made table c.composite.new.types last c.args.t c.args.old both params parts c.in-Some.other
    (both_made c.is_table.ensures c.is_table-in-Some.ensures c.is_table-in-Some-2.ensures c.in_ok-both-in-Some.ensures.longer c.in_ok-params-in-Some.ensures.adds.longer c.requires.parts
    (rw c.in-Some.is at c.in_ok-other.ensures) c.in_ok-both-in-Some.ensures.known c.in_ok-both-in-Some.ensures.means c.list.ensures c.list-in-Some.ensures c.in_ok-params-in-Some.ensures.made))

-- ---- parameters
pub of_params-loop-place-init : goal.of_params-loop-place-init
of_params-loop-place-init t c = record {
  table = c.is_table.ensures;
  adds = adds_none c.args.types.now c.requires.few;
  made = subst (StandEach c.args.types.now c.args.types.now [] []) (sym c.new-made.ensures.items) none;
}

pub of_params-bounds-others-place : goal.of_params-bounds-others-place
of_params-bounds-others-place t c =
    let long = equal_long (meaning c.args.types.now) c.args.params.now c.args.others.now c.requires.equal in
    omega (arith, long, c.loop-place-test.true)

pub of_params-composite-requires : goal.of_params-composite-requires
of_params-composite-requires t c =
    let old = c.args.types.now in
    let now = c.loop-place.types in
    let ps = c.args.params.now in
    let qs = c.args.others.now in
    let p = c.index-params-place.result in
    let q = c.index-others-place.result in
    let at = read_got ps c.loop-place.place p c.loop-place-test.true c.index-params-place.is in
    let bt = read_got qs c.loop-place.place q (omega (arith, equal_long (meaning old) ps qs c.requires.equal, c.loop-place-test.true)) c.index-others-place.is in
    let longer = c.loop-place.invariant.adds.longer in
    let p_known = all_read (IsKnown old) ps c.loop-place.place p c.requires.params at in
    let q_known = all_read (IsKnown old) qs c.loop-place.place q c.requires.others bt in (
      omega (arith, c.decreases, above_at ps c.loop-place.place p at),
      (
        known_same old now c.is_table.ensures longer p p_known,
        (
          known_same old now c.is_table.ensures longer q q_known,
          (equal_now old now c.is_table.ensures longer p q p_known q_known (equal_at (meaning old) ps qs c.requires.equal c.loop-place.place p q at bt), c.loop-place.invariant.adds.few),
        ),
      ),
    )

pub of_params-loop-place-preserved : goal.of_params-loop-place-preserved
of_params-loop-place-preserved t c =
    let old = c.args.types.now in
    let now = c.loop-place.types in
    let new = c.composite.new.types in
    let ps = c.args.params.now in
    let qs = c.args.others.now in
    let p = c.index-params-place.result in
    let q = c.index-others-place.result in
    let at = read_got ps c.loop-place.place p c.loop-place-test.true c.index-params-place.is in
    let bt = read_got qs c.loop-place.place q (omega (arith, equal_long (meaning old) ps qs c.requires.equal, c.loop-place-test.true)) c.index-others-place.is in
    let loop = c.loop-place.invariant in
    let both = c.in_ok-both.ensures in
    record {
      table = c.is_table-in-loop-place.ensures;
      adds = adds_then old now new loop.adds.longer loop.adds.members both.longer both.members both.few;
      made =
          subst (StandEach old new (take (c.loop-place.place + 1) ps) (take (c.loop-place.place + 1) qs)) (sym c.in_ok-push.ensures.items)
          (each_next old new ps qs c.loop-place.made.items c.loop-place.place p q c.in_ok-both.both at bt (each_later old now new loop.table both.longer loop.made)
          (stands_now old now new c.is_table.ensures loop.adds.longer p q c.in_ok-both.both (all_read (IsKnown old) ps c.loop-place.place p c.requires.params at)
          (all_read (IsKnown old) qs c.loop-place.place q c.requires.others bt) both.known both.means));
    }

pub of_params-returns-clause-made : goal.of_params-returns-clause-made
of_params-returns-clause-made t c =
    let old = c.args.types.now in
    let now = c.loop-place.types in
    let long = equal_long (meaning old) c.args.params.now c.args.others.now c.requires.equal in
    subst (StandEach old now c.args.params.now c.args.others.now) (sym c.new.ensures)
    (subst (λ ps. StandEach old now ps c.args.others.now c.loop-place.made.items) (take_all c.loop-place.place c.args.params.now (omega (arith, c.loop-place-test.false)))
    (subst (λ qs. StandEach old now (take c.loop-place.place c.args.params.now) qs c.loop-place.made.items) (take_all c.loop-place.place c.args.others.now (omega (arith, long, c.loop-place-test.false)))
    c.loop-place.invariant.made))
