-- Which roots have one object at most, and which lock places are linear.
use Rattle.std.proofs.Common.{◌≤◌, ℕ, List, length, refl, sym, subst, ◌∙◌, arith}
use Rattle.lk_facts.specs.Lists.{Lists}
use Rattle.lk_facts.specs.Many.{IsLinear}
use Rattle.lk_facts.specs.declared.program.Program.{Program}
use Rattle.lk_sets.proofs.Members.{Contains-from_has_id, has_id-from_Contains}
use Rattle.lk_sets.specs.Ids.{has_id, IsSetOf}
use Rattle.lk_graph.proofs.FoundLemmas.{AreGivenBelow}
use Rattle.lk_graph.specs.Single.{IsLinearAt}

module _ (program : Program) where
  -- all of them, as a set
  pub linear_all : (n : ℕ) (ids set : List ℕ) → length program.places ≤ n → AreGivenBelow (IsLinearAt program) n ids → IsSetOf (has_id ids) set → Lists (IsLinear program) set
  linear_all n ids set all below made = record {
    sorted = made.sorted;
    members = λ x. (
      λ there. let given = (below x).0 (Contains-from_has_id ids x (sym (made.members x) ∙ there)) in subst (IsLinear program) given.2.0 given.2.1,
      λ linear. made.members x ∙ has_id-from_Contains ids x ((below x).1 (x, omega (arith, all, linear.is_lock.1), (refl, linear))),
    );
  }
