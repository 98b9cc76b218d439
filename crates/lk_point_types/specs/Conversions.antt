-- The kinds of conversions, of a value that one point gives to that of another one (C99 6.3).
use Rattle.std.specs.Prelude.{◌⊎◌, ℕ}
use Rattle.lk_base.specs.declared.kind.Kind.TheVariants as kind
use Rattle.lk_facts.specs.Typed.{GivesForm, GivesNumber, GivesPointer, IsObjectType, PointsTo, PointsToForm}
use Rattle.lk_facts.specs.declared.program.Program.{Program}
use Rattle.lk_types.specs.declared.c_type.CType.TheVariants.{Int, ThreadId, Void}

module _ (program : Program) where
  -- both are numbers
  abbrev pub BecomesNumber : (a p : ℕ) → Type 0
  BecomesNumber a p = GivesNumber program a × GivesNumber program p

  -- a pointer becomes a truth value
  abbrev pub BecomesTruth : (a p : ℕ) → Type 0
  BecomesTruth a p = GivesPointer program a × GivesForm program p (Int kind.Bool)

  abbrev pub ConvertsNumber : (a p : ℕ) → Type 0
  ConvertsNumber a p = BecomesNumber a p ⊎ BecomesTruth a p

  -- both are pointers to one type
  abbrev pub PointAlike : (a p : ℕ) → Type 0
  PointAlike a p = (t : ℕ) × PointsTo program a t × PointsTo program p t

  abbrev pub PointsToObject : ℕ → Type 0
  PointsToObject a = (t : ℕ) × PointsTo program a t × IsObjectType program.types t

  -- a pointer to an object becomes a `void *`, and a `void *` one to an object
  abbrev pub ToVoid : (a p : ℕ) → Type 0
  ToVoid a p = PointsToObject a × PointsToForm program p Void

  abbrev pub FromVoid : (a p : ℕ) → Type 0
  FromVoid a p = PointsToForm program a Void × PointsToObject p

  abbrev pub ConvertsPointer : (a p : ℕ) → Type 0
  ConvertsPointer a p = PointAlike a p ⊎ ToVoid a p ⊎ FromVoid a p

  abbrev pub ConvertsValue : (a p : ℕ) → Type 0
  ConvertsValue a p = ConvertsNumber a p ⊎ ConvertsPointer a p

  -- both are thread ids
  abbrev pub AreThreads : (a p : ℕ) → Type 0
  AreThreads a p = GivesForm program a ThreadId × GivesForm program p ThreadId
