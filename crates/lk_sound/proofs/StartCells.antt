-- The objects of string literals and of main's arguments, before the initialisers are performed: they are sound, in the empty context.
use Rattle.std.proofs.Common.{◌≡◌, ℕ, zero, suc, ◌<◌, List, [], ◌∷◌, fold, Some, refl, sym, subst, pos, arith}
use Rattle.std.specs.List.{enumerate_from}
use Rattle.lk_arith.specs.Conversions.{convert}
use Rattle.lk_base.specs.declared.cell.CellStep.{CellStep}
use Rattle.lk_base.specs.declared.cell.CellStep.TheVariants.{Index}
use Rattle.lk_base.specs.declared.kind.Kind.TheVariants as kind
use Rattle.lk_birth.specs.Starts.{static_object, with_byte, with_bytes, with_pointers}
use Rattle.lk_cells.specs.Cells.{with_value}
use Rattle.lk_cells.specs.declared.object.Initial.TheVariants as initial
use Rattle.lk_cells.specs.declared.object.Object.{Object}
use Rattle.lk_facts.specs.Labels.{LabelTable}
use Rattle.lk_facts.specs.Program.{root_at}
use Rattle.lk_facts.specs.declared.edge.Edge.{Edge}
use Rattle.lk_facts.specs.declared.label_entry.LabelName.{LabelName}
use Rattle.lk_facts.specs.declared.program.Program.{Program}
use Rattle.lk_facts.specs.declared.root.Root.{Root}
use Rattle.lk_right.specs.Contexts.{Home, home_of}
use Rattle.lk_right.specs.Right.{IsPlaceAt, IsRight}
use Rattle.lk_right.specs.Sound.{IsObjectSound}
use Rattle.lk_sound.proofs.ObjectsKept.{new_sound, value_sound}
use Rattle.lk_values.specs.Pointers.{pointer_to}
use Rattle.lk_values.specs.declared.value.Value.{Value}
use Rattle.lk_values.specs.declared.value.Value.TheVariants.{Number, Pointer}

module _ (program : Program) (labels : LabelTable) (es : List Edge) (homes : List Home) where
  abbrev Right : Value → (LabelName → Type 0) → Type 0
  Right v X = IsRight program labels es homes v X []

  -- an object is sound, at home in its root and the empty context
  abbrev pub IsGood : Object → Type 0
  IsGood object = IsObjectSound program labels es homes (home_of object.root []) object

  pub good_put : (object : Object) (path : List CellStep) (v : Value) → IsGood object → Right v (IsPlaceAt program object.root path) → IsGood (with_value object path v)
  good_put object path v good right = value_sound program labels es homes (home_of object.root []) object good path v right

  -- an object of static storage
  pub static_good : (r count : ℕ) (root : Root) → root_at program r ≡ Some root → IsGood (static_object r root.ty count)
  static_good r count root at = new_sound program labels es homes (home_of r []) r root.ty count initial.Zero refl (root, at, refl)

  -- with bytes
  bytes_put : (entries : List (ℕ × ℕ)) (object : Object) → IsGood object → IsGood (fold with_byte object entries)
  bytes_put [] object good = good
  bytes_put (entry ∷ entries) object good = bytes_put entries (with_byte object entry) (good_put object (Index entry.0 ∷ []) (Number kind.Char (convert kind.Char (pos entry.1))) good tt)

  pub bytes_good : (object : Object) (bytes : List ℕ) → IsGood object → IsGood (with_bytes object bytes)
  bytes_good object bytes good = bytes_put (enumerate_from 0 bytes) object good

  -- with pointers
  pub pointers_root : (object : Object) (n : ℕ) → (with_pointers object n).root ≡ object.root
  pointers_root object zero = refl
  pointers_root object (suc n) = pointers_root object n

  pub pointers_good : (object : Object) (n : ℕ) → IsGood object → ((i : ℕ) → i < n → Right (Pointer (pointer_to i (Index 0 ∷ []))) (IsPlaceAt program object.root (Index i ∷ []))) → IsGood (with_pointers object n)
  pointers_good object zero good right = good
  pointers_good object (suc n) good right =
      good_put (with_pointers object n) (Index n ∷ []) (Pointer (pointer_to n (Index 0 ∷ []))) (pointers_good object n good (λ i less. right i (omega (arith, less))))
      (subst (λ r. Right (Pointer (pointer_to n (Index 0 ∷ []))) (IsPlaceAt program r (Index n ∷ []))) (sym (pointers_root object n)) (right n (omega arith)))

bytes_kept : (entries : List (ℕ × ℕ)) (object : Object) → (fold with_byte object entries).root ≡ object.root
bytes_kept [] object = refl
bytes_kept (entry ∷ entries) object = bytes_kept entries (with_byte object entry)

pub bytes_root : (object : Object) (bytes : List ℕ) → (with_bytes object bytes).root ≡ object.root
bytes_root object bytes = bytes_kept (enumerate_from 0 bytes) object
