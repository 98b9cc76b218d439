-- The order that rows of pairs make.
use Rattle.std.proofs.Common.{◌≡◌, ◌↔◌, ℕ, Bool, true, false, List, Contains, slice_index_or, sym, ◌∙◌, arith}
use Rattle.lk_facts.specs.Basis.{Basis}
use Rattle.lk_facts.specs.Facts.{FactTable, basis_of}
use Rattle.lk_facts.specs.Flow.{Flow}
use Rattle.lk_facts.specs.Labels.{LabelTable}
use Rattle.lk_facts.specs.Origins.{flow_of}
use Rattle.lk_facts.specs.declared.program.Program.{Program}
use Rattle.lk_graph.proofs.StepLemmas.{same_plus}
use Rattle.lk_order.specs.Finding.{AreOrderRows}
use Rattle.lk_order.specs.Order.{Precedes, LiesOnCycle, AreRanks}
use Rattle.lk_order.specs.Ranking.{AreBefore, AreRanksBy, Leads, rank_in}
use Rattle.lk_order.specs.Table.{AreAscending, IsOrder, pair_of, table_of}
use Rattle.lk_order.specs.declared.order.Pair.{Pair}
use Rattle.lk_sets.specs.Rows.{Rows, has}

-- the program and labels of facts are those of their basis
abbrev pub basis_with : Program → LabelTable → Flow → Basis
basis_with program labels flow = record { program = program; labels = labels; flow = flow }

pub basis_same : (program : Program) (labels : LabelTable) (facts : FactTable) → program ≡ facts.program → labels ≡ facts.labels →
    basis_with program labels (flow_of facts.origins) ≡ basis_of facts
basis_same program labels facts one other = λ i. record { program = one i; labels = other i; flow = flow_of facts.origins }

module _ (rows : Rows) (pairs : List Pair) (before : Rows) (cycles : List Bool) (cyclic : Bool) (ranks : List ℕ) (ascending : AreAscending pairs) (are_pairs : (q r : ℕ) → Contains pairs (pair_of q r) ↔ (has rows q r ≡ true))
    (first : AreBefore pairs rows.size before) (on : (q : ℕ) → slice_index_or cycles q false ≡ has before q q) (some : (cyclic ≡ true) ↔ ((q : ℕ) × (slice_index_or cycles q false ≡ true))) (ranked : cyclic ≡ false → AreRanksBy pairs ranks)
    (basis : Basis) (linear : ℕ → Bool) (are : AreOrderRows basis linear rows) where
  leads_is : (q r : ℕ) → Leads pairs q r ↔ Precedes basis linear q r
  leads_is q r = (λ leads. (are.exact q r).0 ((are_pairs q r).0 leads), λ precedes. (are_pairs q r).1 ((are.exact q r).1 precedes))

  cycle_is : (q : ℕ) → (slice_index_or cycles q false ≡ true) ↔ LiesOnCycle basis linear q
  cycle_is q =
      let same = same_plus (Leads pairs) (Precedes basis linear) leads_is q q in
      (λ yes. same.0 ((first.members q q).0 (sym (on q) ∙ yes)), λ lies. on q ∙ (first.members q q).1 (same.1 lies))

  are_ranks : AreRanksBy pairs ranks → AreRanks basis linear (rank_in ranks)
  are_ranks by = record {
    above = λ q r precedes. by.above q r ((leads_is q r).1 precedes);
    next = λ r more. let why = by.next r more in (why.0, (leads_is why.0 r).0 why.1, omega (arith, why.2));
  }

  pub order_is : IsOrder basis linear (table_of pairs cycles cyclic ranks)
  order_is = record {
    ascending = ascending;
    pairs = leads_is;
    cycles = cycle_is;
    cyclic = (
      λ yes. let found = some.0 yes in (found.0, (cycle_is found.0).0 found.1),
      λ found. some.1 (found.0, (cycle_is found.0).1 found.1),
    );
    ranks = λ not. are_ranks (ranked not);
  }
