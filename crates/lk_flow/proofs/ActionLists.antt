-- What the actions of points join.
use Rattle.std.proofs.Common.{◌≡◌, ℕ, zero, suc, ◌<◌, ◌≤◌, true, false, List, [], ◌∷◌, length, Option, Some, None, inl, inr, refl, sym, ap, ◌∙◌, subst, arith}
use Rattle.std.specs.Prelude.{is_some, slice_get}
use Rattle.std.specs.Option.{option_and_then, option_map}
use Rattle.std.proofs.lemmas.Bool.{false≢true}
use Rattle.std.proofs.lemmas.Option.{none-some, same_Some, slice_get_within}
use Rattle.lk_facts.specs.EdgeRules.{In, IsRootOf, Loc, Of, Row, allocated, parameter, place, result, slot, target}
use Rattle.lk_facts.specs.LabelRules.{IsWhole}
use Rattle.lk_facts.specs.Program.{action_at, function_at, parameter_of, root_at, root_of_function, slots_of, is_args, is_argv}
use Rattle.lk_facts.specs.declared.action.Action.{Action}
use Rattle.lk_facts.specs.declared.action.Action.TheVariants as action
use Rattle.lk_facts.specs.declared.edge.Edge.{Edge}
use Rattle.lk_facts.specs.declared.edge.Mark.{Mark}
use Rattle.lk_facts.specs.declared.edge.Mark.TheVariants.{Plain}
use Rattle.lk_facts.specs.declared.function.Function.{Function}
use Rattle.lk_facts.specs.declared.label_entry.LabelName.{LabelName}
use Rattle.lk_facts.specs.declared.point.Point.{Point as PointOf}
use Rattle.lk_facts.specs.declared.program.Program.{Program}
use Rattle.lk_facts.specs.declared.root.Holder.{Holder}
use Rattle.lk_facts.specs.declared.root.Root.{Root as RootOf}
use Rattle.lk_facts.specs.declared.root.RootKind.{RootKind}
use Rattle.lk_facts.specs.declared.root.RootKind.TheVariants as kind
use Rattle.lk_types.specs.declared.node.Sel.TheVariants.{Element, Part, Target}
use Rattle.lk_flow.specs.Actions.{is_local, is_passing}
use Rattle.lk_flow.specs.Counting.{AnyOf, ArgsAt, MainAt, RowAt, ValueAt}
use Rattle.lk_flow.specs.Finding.{Finds}
use Rattle.lk_flow.specs.Growing.{Adds, Joins}
use Rattle.lk_flow.specs.Rows.{object_of}
use Rattle.lk_flow.proofs.Finders.{finds_as, joins_as, joins_none}

-- what is read at a number is there
read_within : {X Y : Type 0} (read : X → Y) (xs : List X) (k : ℕ) (y : Y) → option_map read (slice_get xs k) ≡ Some y → k < length xs
read_within read [] k y is = absurd (none-some y is)
read_within read (x ∷ xs) zero y is = omega arith
read_within read (x ∷ xs) (suc k) y is = let on = read_within read xs k y is in omega (arith, on)

found_within : {X Y : Type 0} (read : X → Option Y) (xs : List X) (k : ℕ) (y : Y) → option_and_then read (slice_get xs k) ≡ Some y → k < length xs
found_within read [] k y is = absurd (none-some y is)
found_within read (x ∷ xs) zero y is = omega arith
found_within read (x ∷ xs) (suc k) y is = let on = found_within read xs k y is in omega (arith, on)

-- an action that is neither local nor passing joins nothing
pub no_row : (program : Program) (p f : ℕ) (act : Action) → is_local act ≡ false → is_passing act ≡ false → (u v : LabelName) (m : Mark) → Row program p f act u v m → ⊥
no_row program p f (action.Value number ty) here there u v m is = is
no_row program p f (action.Null ty) here there u v m is = is
no_row program p f (action.Func g) here there u v m is = false≢true (sym here)
no_row program p f action.SelfId here there u v m is = is
no_row program p f (action.Root r) here there u v m is = false≢true (sym here)
no_row program p f (action.Text r) here there u v m is = false≢true (sym here)
no_row program p f (action.Field a k) here there u v m is = false≢true (sym here)
no_row program p f (action.Index a b into) here there u v m is = false≢true (sym here)
no_row program p f (action.Read a raw) here there u v m is = false≢true (sym here)
no_row program p f (action.Write a b raw) here there u v m is = false≢true (sym here)
no_row program p f (action.SlotRead s) here there u v m is = false≢true (sym here)
no_row program p f (action.SlotWrite s a) here there u v m is = false≢true (sym here)
no_row program p f (action.Unary op a) here there u v m is = is
no_row program p f (action.Binary op a b) here there u v m is = false≢true (sym here)
no_row program p f (action.Compute args ty equal) here there u v m is = is
no_row program p f (action.Convert a ty) here there u v m is = false≢true (sym here)
no_row program p f (action.Branch a) here there u v m is = is
no_row program p f (action.Switch a cases) here there u v m is = is
no_row program p f action.Skip here there u v m is = is
no_row program p f (action.Call g args) here there u v m is = false≢true (sym there)
no_row program p f (action.PointerCall a args) here there u v m is = false≢true (sym there)
no_row program p f (action.Return a) here there u v m is = false≢true (sym there)
no_row program p f (action.Create g a) here there u v m is = false≢true (sym there)
no_row program p f (action.StoreId a) here there u v m is = is
no_row program p f (action.Join a) here there u v m is = is
no_row program p f (action.Detach a) here there u v m is = is
no_row program p f action.ExitThread here there u v m is = is
no_row program p f action.ExitProcess here there u v m is = is
no_row program p f (action.Lock a) here there u v m is = is
no_row program p f (action.Unlock a) here there u v m is = is
no_row program p f (action.Release cond mutex) here there u v m is = is
no_row program p f (action.Retake a) here there u v m is = is
no_row program p f (action.Init a) here there u v m is = is
no_row program p f (action.Destroy a) here there u v m is = is
no_row program p f (action.Signal a) here there u v m is = is
no_row program p f (action.Allocate ty count clear r) here there u v m is = false≢true (sym there)
no_row program p f (action.Free a) here there u v m is = is
no_row program p f (action.Scan a) here there u v m is = is
no_row program p f (action.Fill a at named) here there u v m is = is

module _ (program : Program) (names : List LabelName) where
  pub nothing_put : (p f : ℕ) (act : Action) (es : List Edge) → is_local act ≡ false → is_passing act ≡ false → Adds (Joins names (Row program p f act)) es es
  nothing_put p f act es here there = joins_none names (Row program p f act) es (no_row program p f act here there)

  -- the row of a point
  pub row_at : (p f : ℕ) (act : Action) (old new : List Edge) → action_at program p ≡ Some act → function_at program p ≡ Some f → Adds (Joins names (Row program p f act)) old new → Adds (Joins names (RowAt program p)) old new
  row_at p f act old new at fn adds = joins_as names (Row program p f act) (RowAt program p) old new (λ u v m is. (f, act, at, fn, is)) back adds
    where
      back : (u v : LabelName) (m : Mark) → RowAt program p u v m → Row program p f act u v m
      back u v m is =
          let g : is.0 ≡ f = same_Some is.0 f (sym is.3 ∙ fn) in
          let a : is.1 ≡ act = same_Some is.1 act (sym is.2 ∙ at) in
          subst (λ x. Row program p x act u v m) g (subst (λ b. Row program p is.0 b u v m) a is.4)

  -- a function's address
  pub code_put : (p f g r : ℕ) (old new : List Edge) → root_of_function program g ≡ Some r → Adds (Joins names (Loc program Plain (place program r) (target program p))) old new → Adds (Joins names (Row program p f (action.Func g))) old new
  code_put p f g r old new is adds =
      joins_as names (Loc program Plain (place program r) (target program p)) (Row program p f (action.Func g)) old new (λ u v m loc. (loc.0, (r, is, loc.1), loc.2))
      (λ u v m loc. (loc.0, subst (λ q. place program q u) (same_Some loc.1.0 r (sym loc.1.1 ∙ is)) loc.1.2, loc.2)) adds

  -- what an allocation makes
  pub allocation_put : (p r ty : ℕ) (count : Option ℕ) (old new : List Edge) → Adds (Joins names (Loc program Plain (object_of program r (is_some count)) (In program (target program p) (Part ty)))) old new → Adds (Joins names (Loc program Plain (allocated program r count) (In program (target program p) (Part ty)))) old new
  allocation_put p r ty None old new adds = adds
  allocation_put p r ty (Some n) old new adds = adds

  -- what a slot or a result of no function points to
  pub no_slot : (f s : ℕ) → length program.functions ≤ f → Finds names (Of program (slot program f s) Target) None
  no_slot f s past = λ u of. (let within = function_within f of.1.has.0 of.1.has.1 in omega (arith, within, past))
    where
      function_within : (g : ℕ) (slots : List ℕ) → slots_of program g ≡ Some slots → g < length program.functions
      function_within g slots is = read_within (λ (function : Function). function.slots) program.functions g slots is

  pub no_result : (f : ℕ) → length program.functions ≤ f → Finds names (Of program (result program f) Target) None
  no_result f past = λ u of. (let within = read_within (λ (function : Function). function.result) program.functions f of.1.ty of.1.has in omega (arith, within, past))

  -- what a parameter points to
  pub no_parameter : (f k : ℕ) → None ≡ parameter_of program f k → Finds names (Of program (parameter program f k) Target) None
  no_parameter f k is = λ u of. none-some of.1.0 (is ∙ of.1.1)

  pub a_parameter : (f k : ℕ) (h : Holder) (found : Option ℕ) → Some h ≡ parameter_of program f k → Finds names (Of program (IsWhole program h) Target) found → Finds names (Of program (parameter program f k) Target) found
  a_parameter f k h found is at =
      finds_as names (Of program (IsWhole program h) Target) (Of program (parameter program f k) Target) found (λ u of. (of.0, (h, sym is, of.1), of.2))
      (λ u of. (of.0, subst (λ g. IsWhole program g of.0) (same_Some of.1.0 h (sym of.1.1 ∙ sym is)) of.1.2, of.2)) at

argv_kind : (k : RootKind) → is_argv k ≡ true → k ≡ kind.Argv
argv_kind kind.Global is = absurd (false≢true is)
argv_kind kind.Static is = absurd (false≢true is)
argv_kind kind.Local is = absurd (false≢true is)
argv_kind (kind.Heap one) is = absurd (false≢true is)
argv_kind kind.Text is = absurd (false≢true is)
argv_kind kind.Argv is = refl
argv_kind kind.Args is = absurd (false≢true is)
argv_kind kind.Function is = absurd (false≢true is)

args_kind : (k : RootKind) → is_args k ≡ true → k ≡ kind.Args
args_kind kind.Global is = absurd (false≢true is)
args_kind kind.Static is = absurd (false≢true is)
args_kind kind.Local is = absurd (false≢true is)
args_kind (kind.Heap one) is = absurd (false≢true is)
args_kind kind.Text is = absurd (false≢true is)
args_kind kind.Argv is = absurd (false≢true is)
args_kind kind.Args is = refl
args_kind kind.Function is = absurd (false≢true is)

module _ (program : Program) (names : List LabelName) where
  -- a root of this kind, and one of another
  is_root_of : (k : RootKind) (r : ℕ) (root : RootOf) → root_at program r ≡ Some root → root.kind ≡ k → IsRootOf program k r
  is_root_of k r root at is = (root, at, is)

  kind_of_root : (k : RootKind) (r : ℕ) (root : RootOf) → root_at program r ≡ Some root → IsRootOf program k r → root.kind ≡ k
  kind_of_root k r root at is = ap (λ (x : RootOf). x.kind) (same_Some root is.0 (sym at ∙ is.1)) ∙ is.2

  pub argv_put : (r : ℕ) (root : RootOf) (old new : List Edge) → root_at program r ≡ Some root → is_argv root.kind ≡ true → Adds (Joins names (Loc program Plain (In program (place program r) Element) (Of program (parameter program program.main 2) Target))) old new → Adds (Joins names (MainAt program r)) old new
  argv_put r root old new at is adds =
      joins_as names (Loc program Plain (In program (place program r) Element) (Of program (parameter program program.main 2) Target)) (MainAt program r) old new (λ u v m loc. inl (is_root_of kind.Argv r root at (argv_kind root.kind is), loc)) back adds
    where
      back : (u v : LabelName) (m : Mark) → MainAt program r u v m → Loc program Plain (In program (place program r) Element) (Of program (parameter program program.main 2) Target) u v m
      back u v m (inl both) = both.1
      back u v m (inr both) = absurd (false≢true (sym (ap is_argv (kind_of_root kind.Args r root at both.0)) ∙ is))

  pub args_put : (r : ℕ) (root : RootOf) (old new : List Edge) → root_at program r ≡ Some root → is_args root.kind ≡ true → Adds (Joins names (AnyOf (ArgsAt program r))) old new → Adds (Joins names (MainAt program r)) old new
  args_put r root old new at is adds = joins_as names (AnyOf (ArgsAt program r)) (MainAt program r) old new (λ u v m any. inr (is_root_of kind.Args r root at (args_kind root.kind is), any)) back adds
    where
      back : (u v : LabelName) (m : Mark) → MainAt program r u v m → AnyOf (ArgsAt program r) u v m
      back u v m (inr both) = both.1
      back u v m (inl both) = absurd (false≢true (sym (ap is_args (kind_of_root kind.Argv r root at both.0)) ∙ is))

  pub no_main : (r : ℕ) (root : RootOf) (es : List Edge) → root_at program r ≡ Some root → is_argv root.kind ≡ false → is_args root.kind ≡ false → Adds (Joins names (MainAt program r)) es es
  no_main r root es at no_argv no_args = joins_none names (MainAt program r) es (λ u v m is. elim is [
    | inl both ↦ false≢true (sym no_argv ∙ ap is_argv (kind_of_root kind.Argv r root at both.0))
    | inr both ↦ false≢true (sym no_args ∙ ap is_args (kind_of_root kind.Args r root at both.0))
  ])

  pub strings_put : (r q : ℕ) (root : RootOf) (old new : List Edge) → root_at program q ≡ Some root → is_argv root.kind ≡ true → Adds (Joins names (Loc program Plain (In program (place program r) Element) (Of program (In program (place program q) Element) Target))) old new → Adds (Joins names (ArgsAt program r q)) old new
  strings_put r q root old new at is adds =
      joins_as names (Loc program Plain (In program (place program r) Element) (Of program (In program (place program q) Element) Target)) (ArgsAt program r q) old new (λ u v m loc. (is_root_of kind.Argv q root at (argv_kind root.kind is), loc)) (λ u v m both. both.1) adds

  pub no_strings : (r q : ℕ) (root : RootOf) (es : List Edge) → root_at program q ≡ Some root → is_argv root.kind ≡ false → Adds (Joins names (ArgsAt program r q)) es es
  no_strings r q root es at isnt = joins_none names (ArgsAt program r q) es (λ u v m both. false≢true (sym isnt ∙ ap is_argv (kind_of_root kind.Argv q root at both.0)))

  pub strings_below : (r : ℕ) (q : ℕ) (u v : LabelName) (m : Mark) → ArgsAt program r q u v m → q < length program.roots
  strings_below r q u v m both = slice_get_within program.roots q both.0.0 both.0.1

  pub mains_below : (r : ℕ) (u v : LabelName) (m : Mark) → MainAt program r u v m → r < length program.roots
  mains_below r u v m (inl both) = slice_get_within program.roots r both.0.0 both.0.1
  mains_below r u v m (inr both) = slice_get_within program.roots r both.0.0 both.0.1

  pub rows_below : (p : ℕ) (u v : LabelName) (m : Mark) → RowAt program p u v m → p < length program.points
  rows_below p u v m is = read_within (λ (point : PointOf). point.action) program.points p is.1 is.2

  pub values_below : (g : ℕ) (u v : LabelName) (m : Mark) → ValueAt program g u v m → g < length program.functions
  values_below g u v m is = found_within (λ (function : Function). function.value_site) program.functions g is.0 is.1
