-- The steps of a program, as arrows.
use Rattle.std.proofs.Common.{◌≡◌, ◌<◌, ◌≤◌, ◌&&◌, ◌||◌, ◌↔◌, ℕ, true, eqb, nat_lt, List, [], length, take, sym, ap, ◌∙◌, subst, inl, inr, arith}
use Rattle.std.specs.Option.{option_map_or}
use Rattle.std.proofs.lemmas.Bool.{false≢true, and_from, and_parts, lt-ltb}
use Rattle.std.proofs.lemmas.List.{take_all}
use Rattle.std.proofs.lemmas.Option.{slice_get_cases}
use Rattle.lk_facts.specs.declared.point.Point.{Point}
use Rattle.lk_facts.specs.declared.program.Program.{Program}
use Rattle.lk_facts.specs.Program.{next_of}
use Rattle.lk_facts.specs.Reach.{Plus, IsNext}
use Rattle.lk_facts.specs.Reach.Plus.{one, more}
use Rattle.lk_sets.specs.Ids.{has_id}
use Rattle.lk_sets.proofs.Members.{has_id-filter}
use Rattle.lk_graph.specs.declared.steps.Steps.{Steps}
use Rattle.lk_graph.specs.declared.steps.Steps.TheVariants.{All as Every, Live}
use Rattle.lk_graph.specs.Graph.{leads}
use Rattle.lk_graph.specs.Steps.{counts, IsStep, steps_at}

-- a step leads from a point
next_from : (program : Program) (p q : ℕ) → IsNext program p q → p < length program.points
next_from program p q next =
    elim (slice_get_cases program.points p).1 [
      | inl found ↦ found.1
      | inr past ↦ absurd (false≢true (subst (λ point. has_id (option_map_or (λ (x : Point). x.next) point []) q ≡ true) past.1 next))
    ]

step_from : (steps : Steps) (program : Program) (p q : ℕ) → IsStep steps program p q → p < length program.points
step_from Every program p q step = next_from program p q step
step_from Live program p q step = next_from program p q step.0

step_is : (steps : Steps) (program : Program) (p q : ℕ) → (has_id (steps_at steps program p) q ≡ true) ↔ IsStep steps program p q
step_is Every program p q =
    let same = has_id-filter (counts Every program) (next_of program p) q in
    (λ h. sym same ∙ h, λ h. same ∙ h)
step_is Live program p q =
    let same = has_id-filter (counts Live program) (next_of program p) q in
    (λ h. let parts = and_parts _ _ (sym same ∙ h) in (parts.1, parts.0), λ h. same ∙ and_from _ _ h.1 h.0)

-- the arrows of a point are its steps
pub put_at_all : (steps : Steps) (program : Program) (point : ℕ) (old new : List (List ℕ)) (items : List ℕ) (n : ℕ) → length items ≤ n → items ≡ next_of program point → ((p q : ℕ) → leads new p q ≡ (leads old p q || (eqb p point && (counts steps program q && has_id (take n items) q)))) → (p q : ℕ) → leads new p q ≡ (leads old p q || (eqb p point && has_id (steps_at steps program point) q))
put_at_all steps program point old new items n past are all p q =
    all p q
    ∙ ap (λ ids. leads old p q || (eqb p point && (counts steps program q && has_id ids q))) (take_all n items past ∙ are)
    ∙ ap (λ b. leads old p q || (eqb p point && b)) (sym (has_id-filter (counts steps program) (next_of program point) q))

-- the arrows of all points are the steps
pub steps_all : (steps : Steps) (program : Program) (graph : List (List ℕ)) (n : ℕ) → length program.points ≤ n → ((p q : ℕ) → leads graph p q ≡ (nat_lt p n && has_id (steps_at steps program p) q)) → (p q : ℕ) → (leads graph p q ≡ true) ↔ IsStep steps program p q
steps_all steps program graph n past all p q = (
  λ h. (step_is steps program p q).0 (and_parts (nat_lt p n) _ (sym (all p q) ∙ h)).1,
  λ step. all p q ∙ and_from _ _ (lt-ltb p n (omega (arith, past, step_from steps program p q step))) ((step_is steps program p q).1 step),
)

plus_map : {R S : ℕ → ℕ → Type 0} → ((a b : ℕ) → R a b → S a b) → {a b : ℕ} → Plus R a b → Plus S a b
plus_map to (one {a} {b} r) = one (to a b r)
plus_map to (more {a} {b} {c} r rest) = more (to a b r) (plus_map to rest)

-- two relations that are one have the same chains
pub same_plus : (R S : ℕ → ℕ → Type 0) → ((a b : ℕ) → R a b ↔ S a b) → (a b : ℕ) → Plus R a b ↔ Plus S a b
same_plus R S same a b = (plus_map (λ x y. (same x y).0), plus_map (λ x y. (same x y).1))

-- one step more at the end
pub plus_end : {R : ℕ → ℕ → Type 0} {a b c : ℕ} → Plus R a b → R b c → Plus R a c
plus_end (one r) last = more r (one last)
plus_end (more r rest) last = more r (plus_end rest last)

-- one chain behind another
pub plus_both : {R : ℕ → ℕ → Type 0} {a b c : ℕ} → Plus R a b → Plus R b c → Plus R a c
plus_both (one r) more_steps = more r more_steps
plus_both (more r rest) more_steps = more r (plus_both rest more_steps)
