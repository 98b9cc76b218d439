use Rattle.std.proofs.Common.{◌≡◌, ◌<◌, ℕ, true, false, length, Some, subst, sym}
use Rattle.lk_facts.specs.Doing.{Accesses}
use Rattle.lk_facts.specs.Facts.{basis_of}
use Rattle.lk_facts.specs.Program.{live_at, function_at}
use Rattle.lk_facts.specs.declared.program.Program.{Program}
use Rattle.lk_items.specs.Accesses.{IsAccess}
use Rattle.lk_items.proofs.AccessLemmas.{access_is}
use Rattle.lk_items.proofs.accesses.access.Goals as goal

pub returns-in_err-subject : goal.returns-in_err-subject
returns-in_err-subject c =
    let none : (f x : ℕ) → Accesses (basis_of c.args.facts.now) c.args.point f x → ⊥ = λ f x accesses. c.in_err-subject.ensures.value x (f, accesses) in
    rw c.from_residual.ensures none

pub returns : goal.returns
returns c =
    let facts = c.args.facts.now in
    let p = c.args.point in
    let f = c.function.result in
    let program = c.points-points.ensures.value in
    subst (λ x. IsAccess facts p (record { function = f; child = false; subject = x; access = p })) (sym c.subject.view_is)
    (access_is facts p f c.in_ok-subject.subject (subst (λ (q : Program). function_at q p ≡ Some f) program c.function.ensures.value)
    (subst (λ (q : Program). live_at q p ≡ true → f < length q.functions) program c.function.ensures.live_in_range)
    c.in_ok-subject.ensures.value c.in_ok-subject.ensures.in_range)
