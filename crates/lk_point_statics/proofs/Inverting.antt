-- How a point gives a pointer, by its action.
use Rattle.std.proofs.Common.{ℕ, ◌≡◌, ◌∙◌, Bool, false, true, List, [], ◌∷◌, ◌++◌, Some, refl, subst, sym}
use Rattle.std.specs.Prelude.{ℤ, pos}
use Rattle.std.proofs.lemmas.Option.{same_Some}
use Rattle.lk_arith.specs.declared.operators.Op.{Op}
use Rattle.lk_arith.specs.declared.operators.Op.TheVariants.{Add, Subtract}
use Rattle.lk_base.specs.declared.cell.CellStep.{CellStep}
use Rattle.lk_base.specs.declared.cell.CellStep.TheVariants as cell
use Rattle.lk_facts.specs.Initials.{IsNumber}
use Rattle.lk_facts.specs.Program.{action_at}
use Rattle.lk_facts.specs.declared.action.Action.{Action}
use Rattle.lk_facts.specs.declared.action.Action.TheVariants as action
use Rattle.lk_facts.specs.declared.program.Program.{Program}
use Rattle.lk_point_statics.specs.Backwards.{moved_by}
use Rattle.lk_point_statics.specs.Near.{GivesNear, IsMovedNear}

-- the operator that moves a pointer on, or back
abbrev pub sum_op : Bool → Op
sum_op false = Add
sum_op true = Subtract

module _ (program : Program) where
  -- the pointer of the operand a moves by the number that b gives, or back by it
  pub record IsMovedFrom (a b : ℕ) (back : Bool) (r : ℕ) (to : List CellStep) (after : Bool) : Type 0 where
    pub number : ℤ
    pub path : List CellStep
    pub past : Bool
    pub is : IsNumber program b number
    pub gives : GivesNear program a r path past
    pub moves : IsMovedNear path past (moved_by number back) to after

  -- one more step leads from the pointer of the operand
  pub record IsOneFurther (a : ℕ) (step : CellStep) (r : ℕ) (to : List CellStep) (after : Bool) : Type 0 where
    pub path : List CellStep
    pub gives : GivesNear program a r path false
    pub leads : to ≡ path ++ step ∷ []
    pub ends : after ≡ false

  abbrev pub AsIndex : Bool → (a b r : ℕ) → List CellStep → Bool → Type 0
  AsIndex true a b r to after = (k : ℕ) × IsNumber program b (pos k) × IsOneFurther a (cell.Index k) r to after
  AsIndex false a b r to after = IsMovedFrom a b false r to after

  abbrev pub AsObject : (own r : ℕ) → List CellStep → Bool → Type 0
  AsObject own r to after = (own ≡ r) × (to ≡ []) × (after ≡ false)

  abbrev pub AsSum : Op → (a b r : ℕ) → List CellStep → Bool → Type 0
  AsSum op a b r to after = (back : Bool) × (op ≡ sum_op back) × IsMovedFrom a b back r to after

  abbrev pub AsGiven : Action → (r : ℕ) → List CellStep → Bool → Type 0
  AsGiven (action.Root own) r to after = AsObject own r to after
  AsGiven (action.Text own) r to after = AsObject own r to after
  AsGiven (action.Field a k) r to after = IsOneFurther a (cell.Field k) r to after
  AsGiven (action.Index a b into) r to after = AsIndex into a b r to after
  AsGiven (action.Binary op a b) r to after = AsSum op a b r to after
  AsGiven (action.Convert a ty) r to after = GivesNear program a r to after
  AsGiven (action.Value number ty) r to after = ⊥
  AsGiven (action.Null ty) r to after = ⊥
  AsGiven (action.Func f) r to after = ⊥
  AsGiven action.SelfId r to after = ⊥
  AsGiven (action.Read a raw) r to after = ⊥
  AsGiven (action.Write a b raw) r to after = ⊥
  AsGiven (action.SlotRead s) r to after = ⊥
  AsGiven (action.SlotWrite s a) r to after = ⊥
  AsGiven (action.Unary op a) r to after = ⊥
  AsGiven (action.Compute args ty equal) r to after = ⊥
  AsGiven (action.Branch a) r to after = ⊥
  AsGiven (action.Switch a cases) r to after = ⊥
  AsGiven action.Skip r to after = ⊥
  AsGiven (action.Call f args) r to after = ⊥
  AsGiven (action.PointerCall a args) r to after = ⊥
  AsGiven (action.Return a) r to after = ⊥
  AsGiven (action.Create f a) r to after = ⊥
  AsGiven (action.StoreId a) r to after = ⊥
  AsGiven (action.Join a) r to after = ⊥
  AsGiven (action.Detach a) r to after = ⊥
  AsGiven action.ExitThread r to after = ⊥
  AsGiven action.ExitProcess r to after = ⊥
  AsGiven (action.Lock a) r to after = ⊥
  AsGiven (action.Unlock a) r to after = ⊥
  AsGiven (action.Release cond mutex) r to after = ⊥
  AsGiven (action.Retake a) r to after = ⊥
  AsGiven (action.Init a) r to after = ⊥
  AsGiven (action.Destroy a) r to after = ⊥
  AsGiven (action.Signal a) r to after = ⊥
  AsGiven (action.Allocate ty count zero root) r to after = ⊥
  AsGiven (action.Free a) r to after = ⊥
  AsGiven (action.Scan a) r to after = ⊥
  AsGiven (action.Fill a place named) r to after = ⊥

  own_action : (p : ℕ) (does is : Action) (r : ℕ) (to : List CellStep) (after : Bool) → action_at program p ≡ Some does → action_at program p ≡ Some is → AsGiven does r to after → AsGiven is r to after
  own_action p does is r to after at bt given = subst (λ x. AsGiven x r to after) (same_Some does is (sym at ∙ bt)) given

  pub inverted : (p r : ℕ) (to : List CellStep) (after : Bool) (is : Action) → GivesNear program p r to after → action_at program p ≡ Some is → AsGiven is r to after
  inverted p r to after is (GivesNear.root _ _ does) at = own_action p (action.Root r) is r [] false does at (refl, refl, refl)
  inverted p r to after is (GivesNear.text _ _ does) at = own_action p (action.Text r) is r [] false does at (refl, refl, refl)
  inverted p r to after is (GivesNear.member _ a k _ path does gives) at =
      own_action p (action.Field a k) is r (path ++ cell.Field k ∷ []) false does at (record { path = path; gives = gives; leads = refl; ends = refl })
  inverted p r to after is (GivesNear.element _ a b k _ path does number gives) at =
      own_action p (action.Index a b true) is r (path ++ cell.Index k ∷ []) false does at (k, number, record { path = path; gives = gives; leads = refl; ends = refl })
  inverted p r to after is (GivesNear.index _ a b _ n path _ past _ does number gives moves) at =
      own_action p (action.Index a b false) is r to after does at (record { number = n; path = path; past = past; is = number; gives = gives; moves = moves })
  inverted p r to after is (GivesNear.plus _ a b _ n path _ past _ does number gives moves) at =
      own_action p (action.Binary Add a b) is r to after does at (false, refl, record { number = n; path = path; past = past; is = number; gives = gives; moves = moves })
  inverted p r to after is (GivesNear.minus _ a b _ n path _ past _ does number gives moves) at =
      own_action p (action.Binary Subtract a b) is r to after does at (true, refl, record { number = n; path = path; past = past; is = number; gives = gives; moves = moves })
  inverted p r to after is (GivesNear.converted _ a t _ _ _ does gives) at = own_action p (action.Convert a t) is r to after does at gives
