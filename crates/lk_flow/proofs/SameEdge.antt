-- Edges: when the derived `==` says that two are the same.
use Rattle.std.proofs.Common.{◌≡◌, true, eqb, refl, ap}
use Rattle.std.specs.Prelude.{◌&&◌}
use Rattle.std.proofs.lemmas.Bool.{and_from, and_parts, eqb-true, eq-eqb, false≢true}
use Rattle.lk_facts.specs.contracts.edge.EdgePartialEq.TheImpl as edge_test
use Rattle.lk_facts.specs.contracts.edge.MarkPartialEq.TheImpl as mark_test
use Rattle.lk_facts.specs.declared.edge.Edge.{Edge}
use Rattle.lk_facts.specs.declared.edge.Mark.{Mark}
use Rattle.lk_facts.specs.declared.edge.Mark.TheVariants.{Plain, Enter, Leave}

same_mark : (a b : Mark) → mark_test.eq-value.it a b ≡ true → a ≡ b
same_mark Plain Plain same = refl
same_mark Plain (Enter j) same = absurd (false≢true same)
same_mark Plain (Leave j) same = absurd (false≢true same)
same_mark (Enter i) Plain same = absurd (false≢true same)
same_mark (Enter i) (Enter j) same = ap Enter (eqb-true i j same)
same_mark (Enter i) (Leave j) same = absurd (false≢true same)
same_mark (Leave i) Plain same = absurd (false≢true same)
same_mark (Leave i) (Enter j) same = absurd (false≢true same)
same_mark (Leave i) (Leave j) same = ap Leave (eqb-true i j same)

mark_itself : (a : Mark) → mark_test.eq-value.it a a ≡ true
mark_itself Plain = refl
mark_itself (Enter i) = eq-eqb i i refl
mark_itself (Leave i) = eq-eqb i i refl

pub same_edge : (a b : Edge) → edge_test.eq-value.it a b ≡ true → a ≡ b
same_edge a b same =
    let both = and_parts (eqb a.from b.from) (eqb a.to b.to && mark_test.eq-value.it a.mark b.mark) same in
    let rest = and_parts (eqb a.to b.to) (mark_test.eq-value.it a.mark b.mark) both.1 in
    let from = eqb-true a.from b.from both.0 in
    let to = eqb-true a.to b.to rest.0 in
    let mark = same_mark a.mark b.mark rest.1 in
    (λ i. record { from = from i; to = to i; mark = mark i })

pub edge_itself : (a : Edge) → edge_test.eq-value.it a a ≡ true
edge_itself a = and_from _ _ (eq-eqb a.from a.from refl) (and_from _ _ (eq-eqb a.to a.to refl) (mark_itself a.mark))
