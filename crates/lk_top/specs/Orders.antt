-- What is told of the order in which a program locks its mutexes (POSIX pthread_mutex_lock: deadlock).
use Rattle.std.specs.Prelude.{ℕ, ◌≡◌, Bool, false, List, if◌then◌else◌}
use Rattle.lk_base.specs.declared.status.Status.{Status}
use Rattle.lk_base.specs.declared.status.Status.TheVariants as status
use Rattle.lk_circles.specs.Circles.{HasNoCircle}
use Rattle.lk_facts.specs.Analysis.{IsLinearTest}
use Rattle.lk_facts.specs.Facts.{basis_of, facts_of}
use Rattle.lk_facts.specs.LabelRules.{AreLabels}
use Rattle.lk_facts.specs.Labels.{AreLabelsInRange, LabelTable}
use Rattle.lk_facts.specs.Origins.{OriginTable}
use Rattle.lk_facts.specs.declared.program.Program.{Program}
use Rattle.lk_order.specs.Table.{IsOrder, OrderTable}
use Rattle.lk_order.specs.Text.{order_text}
use Rattle.lk_solve.specs.Verdicts.{HasFlow}
use Rattle.lk_sources.specs.declared.accepting.Accepted as code
use Rattle.lk_top.specs.Analysis.{IsToldOf}

-- the labels of a program, what flows to them, its linear lock places, and the order that follows
pub record HasOrder (program : Program) (order : OrderTable) : Type 0 where
  pub labels : LabelTable
  pub are_labels : AreLabels program labels
  pub in_range : AreLabelsInRange labels
  pub origins : OriginTable
  pub flow : HasFlow program labels origins
  pub linear : ℕ → Bool
  pub is_linear : IsLinearTest program linear
  pub follows : IsOrder (basis_of (facts_of program labels origins)) linear order

-- the status by whether some mutex place lies on a cycle
abbrev pub status_of_order : Bool → Status
status_of_order cyclic = if cyclic then status.Suspects else status.Clean

-- the text is that of the order
pub record TellsOrder (files : List (List ℕ)) (points : Program) (text : List ℕ)
    (ends : Status) : Type 0 where
  pub order : OrderTable
  pub has : HasOrder points order
  pub text_is : text ≡ order_text files points order
  pub status : ends ≡ status_of_order order.cyclic
  -- where none does, no state that a run of the program reaches has threads that wait in a circle, each for a
  -- mutex that the next one owns
  pub no_circle : order.cyclic ≡ false → HasNoCircle points

-- the text is the order of the points of the program
abbrev pub IsOrdered : code.Accepted → List ℕ → Status → Type 0
IsOrdered sources text ends = IsToldOf sources (λ points. TellsOrder sources.files points text ends)
