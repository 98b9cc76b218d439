-- What a static initialiser writes into a cell is right for the cell, in the empty context.
use Rattle.std.proofs.Common.{◌≡◌, ℕ, Bool, false, List, [], Some, sym, ap, subst, ◌∙◌, length}
use Rattle.std.proofs.lemmas.Option.{same_Some}
use Rattle.std.specs.List.{slice_get}
use Rattle.lk_base.specs.declared.cell.CellStep.{CellStep}
use Rattle.lk_birth.specs.Begins.{StartsRight}
use Rattle.lk_cells.specs.Parts.{node_along}
use Rattle.lk_facts.specs.EdgeRules.{value}
use Rattle.lk_facts.specs.Initials.{GivesAddress, GivesFunction, Writes}
use Rattle.lk_facts.specs.Labels.{LabelTable}
use Rattle.lk_facts.specs.Lowered.{HasPart}
use Rattle.lk_facts.specs.Program.{function_at}
use Rattle.lk_facts.specs.Typed.{IsForm, GivesForm, IsRootType}
use Rattle.lk_facts.specs.declared.action.Action.TheVariants as action
use Rattle.lk_facts.specs.declared.edge.Edge.{Edge}
use Rattle.lk_facts.specs.declared.initial.Initial.{Initial}
use Rattle.lk_facts.specs.declared.label_entry.LabelName.{LabelName}
use Rattle.lk_facts.specs.declared.program.Program.{Program}
use Rattle.lk_laws.proofs.AlikeTypes.{back, joined}
use Rattle.lk_laws.proofs.NodesThere.{pointer_too}
use Rattle.lk_laws.proofs.VoidNodes.{void_too}
use Rattle.lk_laws.specs.FlowLaws.{type_of}
use Rattle.lk_right.proofs.Addresses.{address_right, function_right}
use Rattle.lk_right.proofs.Cells.{write_right}
use Rattle.lk_right.proofs.Conversions.{origin_type}
use Rattle.lk_right.proofs.Paths.{typed_node, part_along}
use Rattle.lk_right.proofs.Sees.{sees_type, scalar_no_void}
use Rattle.lk_right.specs.Contexts.{Home, home_of}
use Rattle.lk_right.specs.Laws.{IsAnalysed}
use Rattle.lk_right.specs.Right.{IsPlaceAt, IsFunctionRight, IsRight}
use Rattle.lk_types.specs.Equal.{IsAlike}
use Rattle.lk_types.specs.Nodes.{Node, node_of, first}
use Rattle.lk_types.specs.declared.c_type.CType.TheVariants.{Pointer}
use Rattle.lk_types.specs.declared.node.Base.TheVariants.{Start}
use Rattle.lk_values.specs.Pointers.{pointer_to}
use Rattle.lk_values.specs.declared.value.Value.{Value}
use Rattle.lk_values.specs.declared.value.Value.TheVariants as of

module _ (program : Program) (labels : LabelTable) (es : List Edge) (ok : IsAnalysed program labels es) (homes : List Home) (begins : StartsRight program) where
  abbrev Stands : ℕ → Type 0
  Stands p = function_at program p ≡ Some (length program.functions)

  one_root_type : (r s t : ℕ) → IsRootType program r s → IsRootType program r t → s ≡ t
  one_root_type r s t h k = cc

  -- the place of a part has the part's type
  part_type : (r : ℕ) (path : List CellStep) (t : ℕ) → HasPart program r path t → (x : LabelName) → IsPlaceAt program r path x → type_of program x ≡ t
  part_type r path t part x place =
      let node = typed_node program.types 0 part.0 path t (part_along program.types 0 part.0 path t part.2) in
      let leads = subst (λ q. node_along program.types (first (Start q)) path ≡ Some (node_of program.types x.node)) (one_root_type r place.ty part.0 place.of part.1) place.leads in
      ap (λ (n : Node). n.type) (same_Some (node_of program.types x.node) node.0 (sym leads ∙ node.1)) ∙ node.2

  -- What a point of a static initialiser writes is right for the cell, where it is right for the point that gives it; that one gives a
  -- pointer where the cell is one.
  written_right : (entry : Initial) (t u : ℕ) → HasPart program entry.root entry.path t → IsForm program.types t (Pointer u) → (o : ℕ) → slice_get homes o ≡ Some (home_of entry.root []) → (b : ℕ) → Writes program entry b → (v : Value) →
      ((w : ℕ) → Stands b → GivesForm program b (Pointer w) → IsRight program labels es homes v (value program b) []) → IsRight program labels es homes v (IsPlaceAt program entry.root entry.path) []
  written_right entry t u part form o lives b writes v given =
      let p = writes.0 in
      let a = writes.1 in
      let at = pointer_to o entry.path in
      let operands = ok.lowered.operands p (action.Write a b false) writes.3 in
      let is = ok.lowered.typed p (length program.functions) (action.Write a b false) writes.3 writes.2 in
      let right = address_right program labels es ok homes begins a entry.root entry.path false writes.4 (operands.0 ∙ writes.2) o lives is.1.0 is.1.1 in
      let plain = scalar_no_void program labels es ok b is.0 is.2 is.3 in
      let leads = sees_type program labels es ok homes a [] at right is.0 is.1 plain in
      let home : right.home ≡ home_of entry.root [] = same_Some right.home (home_of entry.root []) (sym right.lives_in ∙ lives) in
      let place = subst (λ (h : Home). IsPlaceAt program h.root entry.path right.origin) home right.place in
      let type_is = part_type entry.root entry.path t part right.origin place in
      let alike = joined program.types.types (origin_type program labels es ok homes a [] at right is.1.0 is.1.1 (void_too program.types ok.table is.1.0 is.0 is.1.2 ∙ plain)) is.1.2 in
      let cell = pointer_too program.types ok.table t is.0 u (subst (λ s. IsAlike program.types.types s is.0) type_is alike) form in
      let own = pointer_too program.types ok.table is.0 is.2.0 cell.0 (back program.types.types is.2.2) cell.1 in
      let put = write_right program labels es ok homes p (length program.functions) a [] writes.2 at right leads b false writes.3 v (given own.0 (operands.1 ∙ writes.2) (is.2.0, is.2.1, own.1)) in
      subst (λ (h : Home). IsRight program labels es homes v (IsPlaceAt program h.root entry.path) h.context) home put

  -- an address
  pub written_address : (entry : Initial) (t u : ℕ) → HasPart program entry.root entry.path t → IsForm program.types t (Pointer u) → (o : ℕ) → slice_get homes o ≡ Some (home_of entry.root []) → (b r : ℕ) (path : List CellStep) (past : Bool) → Writes program entry b →
      GivesAddress program b r path past → (q : ℕ) → slice_get homes q ≡ Some (home_of r []) → IsRight program labels es homes (of.Pointer (record { part = record { object = q; path = path }; past = past })) (IsPlaceAt program entry.root entry.path) []
  written_address entry t u part form o lives b r path past writes gives q at_home =
      written_right entry t u part form o lives b writes (of.Pointer (record { part = record { object = q; path = path }; past = past })) (λ w stands pointer has. address_right program labels es ok homes begins b r path past gives stands q at_home w pointer)

  -- a function
  pub written_function : (entry : Initial) (t u : ℕ) → HasPart program entry.root entry.path t → IsForm program.types t (Pointer u) → (o : ℕ) → slice_get homes o ≡ Some (home_of entry.root []) → (b g : ℕ) → Writes program entry b → GivesFunction program b g →
      IsFunctionRight program labels es homes g (IsPlaceAt program entry.root entry.path) []
  written_function entry t u part form o lives b g writes gives =
      written_right entry t u part form o lives b writes (of.Function g) (λ w stands pointer. function_right program labels es ok homes b g gives (length program.functions) stands w pointer)
