-- A linear lock place has one mutex: its root has one object, and its path goes into no array, so one path of an object leads there.
use Rattle.std.proofs.Common.{◌≡◌, ◌<◌, ℕ, List, [], ◌∷◌, ◌++◌, Some, refl, sym, ap, subst, ◌∙◌}
use Rattle.std.proofs.lemmas.List.{append-nil, append_assoc}
use Rattle.std.proofs.lemmas.Option.{none-some, same_Some, slice_get-map, slice_get_within}
use Rattle.std.specs.List.{slice_get}
use Rattle.std.specs.Option.{option_map}
use Rattle.std.specs.Prelude.{map}
use Rattle.lk_base.specs.declared.cell.CellStep.{CellStep}
use Rattle.lk_base.specs.declared.cell.CellStep.TheVariants.{Field, Index}
use Rattle.lk_cells.specs.Parts.{sel_of, node_along}
use Rattle.lk_cells.specs.declared.state.State.{State}
use Rattle.lk_facts.specs.Basis.{Basis}
use Rattle.lk_facts.specs.Labels.{name_with}
use Rattle.lk_facts.specs.Many.{IsLinear}
use Rattle.lk_facts.specs.declared.edge.Edge.{Edge}
use Rattle.lk_facts.specs.declared.label_entry.LabelName.{LabelName}
use Rattle.lk_facts.specs.declared.root.Holder.TheVariants.{Root}
use Rattle.lk_right.proofs.Carrying.{numbered}
use Rattle.lk_right.specs.Contexts.{Home, Contexts}
use Rattle.lk_right.specs.Laws.{IsAnalysed}
use Rattle.lk_right.specs.Right.{IsPlaceAt}
use Rattle.lk_right.specs.Sound.{IsSound}
use Rattle.lk_safe.proofs.CountsReached.{ReachedIsCounted}
use Rattle.lk_safe.specs.Owners.{roots_in, trails_in}
use Rattle.lk_safe.specs.Soundness.{LinearIsOne}
use Rattle.lk_sound.proofs.PlaceNumbers.{element_at, place_number, place_within}
use Rattle.lk_sound.specs.Soundness.{HasOrigin}
use Rattle.lk_trails.specs.Counting.{AreCounted, IsMade}
use Rattle.lk_trails.specs.Trails.{Trail}
use Rattle.lk_types.specs.Nodes.{Node, node_of, first, step, along, element_of, field_of, HasNoElement}
use Rattle.lk_types.specs.Table.{Table, type_at, fields_of}
use Rattle.lk_types.specs.Walks.{Branch, element, field}
use Rattle.lk_types.specs.declared.c_type.CType.{CType}
use Rattle.lk_types.specs.declared.c_type.CType.TheVariants.{Void, Int, ThreadId, Mutex, Cond, Pointer, Array, Struct, Function, Opaque}
use Rattle.lk_types.specs.declared.node.Base.TheVariants.{Start}
use Rattle.lk_types.specs.declared.node.Sel.{Sel}
use Rattle.lk_types.specs.declared.node.Sel.TheVariants as sel
use Rattle.lk_values.proofs.Reasons.{mapped, chained}
use Rattle.lk_values.specs.declared.cell.Cell.{Cell}

-- ---- the path of a node to which a path leads

-- what an array is made of
element_is : (form : CType) (b : Branch) → element_of form ≡ Some b → (t : ℕ) × (element t ≡ b)
element_is Void b h = absurd (none-some b h)
element_is (Int kind) b h = absurd (none-some b h)
element_is ThreadId b h = absurd (none-some b h)
element_is Mutex b h = absurd (none-some b h)
element_is Cond b h = absurd (none-some b h)
element_is (Pointer t) b h = absurd (none-some b h)
element_is (Array t n) b h = (t, same_Some (element t) b h)
element_is (Struct s) b h = absurd (none-some b h)
element_is (Function result params dots) b h = absurd (none-some b h)
element_is (Opaque n) b h = absurd (none-some b h)

module _ (table : Table) where
  -- a step to a part stands behind those to the whole
  step_path : (n m : Node) (st : CellStep) → step table n (sel_of st) ≡ Some m → m.path ≡ n.path ++ sel_of st ∷ []
  step_path n m (Field k) h =
      let branch = mapped (along n) (field_of table (type_at table n.type) k) m h in
      let part = mapped (field k) (slice_get (fields_of table (type_at table n.type)) k) branch.0 branch.1 in
      ap (λ (x : Node). x.path) (sym branch.2 ∙ ap (along n) (sym part.2))
  step_path n m (Index i) h =
      let branch = mapped (along n) (element_of (type_at table n.type)) m h in
      let part = element_is (type_at table n.type) branch.0 branch.1 in
      ap (λ (x : Node). x.path) (sym branch.2 ∙ ap (along n) (sym part.1))

  -- so the steps of a path stand behind those to where it begins
  along_path : (n m : Node) (path : List CellStep) → node_along table n path ≡ Some m → m.path ≡ n.path ++ map sel_of path
  along_path n m [] h = ap (λ (x : Node). x.path) (sym (same_Some n m h)) ∙ sym (append-nil n.path)
  along_path n m (st ∷ path) h =
      let next = chained (λ x. node_along table x path) (step table n (sel_of st)) m h in
      along_path next.0 m path next.2
      ∙ (ap (λ front. front ++ map sel_of path) (step_path n next.0 st next.1) ∙ append_assoc n.path (sel_of st ∷ []) (map sel_of path))

-- ---- paths that go into no array

none_some_sel : (s : Sel) (path : List Sel) → [] ≡ s ∷ path → ⊥
none_some_sel s path h = cc

some_none_sel : (s : Sel) (path : List Sel) → s ∷ path ≡ [] → ⊥
some_none_sel s path h = cc

same_field : (k j : ℕ) (ps qs : List Sel) → sel.Field k ∷ ps ≡ sel.Field j ∷ qs → k ≡ j
same_field k j ps qs h = cc

same_rest : (s r : Sel) (ps qs : List Sel) → s ∷ ps ≡ r ∷ qs → ps ≡ qs
same_rest s r ps qs h = cc

field_or_element : (k : ℕ) (ps qs : List Sel) → sel.Field k ∷ ps ≡ sel.Element ∷ qs → ⊥
field_or_element k ps qs h = cc

-- they differ in nothing but indices, and have none
same_path : (p q : List CellStep) → map sel_of p ≡ map sel_of q → HasNoElement (map sel_of p) → p ≡ q
same_path [] [] same single = refl
same_path [] (st ∷ q) same single = absurd (none_some_sel (sel_of st) (map sel_of q) same)
same_path (Field k ∷ p) [] same single = absurd (some_none_sel (sel.Field k) (map sel_of p) same)
same_path (Field k ∷ p) (Field j ∷ q) same single =
    ap (λ n. Field n ∷ p) (same_field k j (map sel_of p) (map sel_of q) same) ∙ ap (λ ps. Field j ∷ ps) (same_path p q (same_rest (sel.Field k) (sel.Field j) (map sel_of p)
    (map sel_of q) same) single)
same_path (Field k ∷ p) (Index i ∷ q) same single = absurd (field_or_element k (map sel_of p) (map sel_of q) same)
same_path (Index i ∷ p) q same single = absurd single

-- ---- the mutexes of a linear lock place

root_is : (r q : ℕ) → Root r ≡ Root q → r ≡ q
root_is r q h = cc

abbrev cell_of : ℕ → List CellStep → Cell
cell_of o path = record { object = o; path = path }

module _ (basis : Basis) (es : List Edge) (ok : IsAnalysed basis.program basis.labels es) (q : ℕ) (linear : IsLinear basis.program q) where
  -- the label of the place
  abbrev name : LabelName
  name = name_with (Root linear.place.root) linear.place.node

  name_is : (x : LabelName) → slice_get basis.labels.names q ≡ Some x → x ≡ name
  name_is x named =
      let part = ((ok.lowered.locks linear.place).0 (q, linear.is_lock, linear.is)).0 in
      let number = numbered basis.program basis.labels es ok name (part.root.ty, (part.root, part.of, refl), place_within basis.program.types part.root.ty part.within) in
      let same : number.0 ≡ q = place_number basis.program basis.labels es ok number.0 q name number.1 (linear.place.root, refl, linear.is) in
      same_Some x name (sym named ∙ (ap (λ n. slice_get basis.labels.names n) (sym same) ∙ number.1))

  module _ (contexts : Contexts) (s : State) (sound : IsSound basis.program basis.labels es contexts s) (cell : Cell) (origin : HasOrigin basis.program basis.labels s cell q) where
    place_in : IsPlaceAt basis.program origin.object.root cell.path name
    place_in = subst (IsPlaceAt basis.program origin.object.root cell.path) (name_is origin.name origin.named) origin.place

    -- its object is one of the root
    made_of_root : IsMade basis.program (roots_in contexts) cell.object linear.place.root
    made_of_root =
        let home = element_at contexts.homes cell.object (subst (λ n. cell.object < n) (sym sound.objects_many) (slice_get_within s.objects cell.object origin.object origin.there)) in
        let root : home.0.root ≡ linear.place.root = sym (sound.objects cell.object origin.object home.0 origin.there home.1).root ∙ sym
        (root_is linear.place.root origin.object.root place_in.holder) in
        slice_get-map (λ (x : Home). x.root) contexts.homes cell.object ∙ (ap (option_map (λ (x : Home). x.root)) home.1 ∙ ap Some root)

    -- and its path has the steps of the place
    path_is : (node_of basis.program.types linear.place.node).path ≡ map sel_of cell.path
    path_is = along_path basis.program.types (first (Start place_in.ty)) (node_of basis.program.types linear.place.node) cell.path place_in.leads

  one_cell : (contexts : Contexts) (s : State) → IsSound basis.program basis.labels es contexts s → (done : List ℕ) (trails : List Trail) →
      AreCounted basis.program done trails (roots_in contexts) → (c d : Cell) →
      HasOrigin basis.program basis.labels s c q → HasOrigin basis.program basis.labels s d q → c ≡ d
  one_cell contexts s sound done trails counted c d at_c at_d =
      let objects : c.object ≡ d.object =
      counted.one c.object d.object linear.place.root linear.root (made_of_root contexts s sound c at_c) (made_of_root contexts s sound d at_d) linear.of linear.one in
      let to_c = path_is contexts s sound c at_c in
      let paths : c.path ≡ d.path = same_path c.path d.path (sym to_c ∙ path_is contexts s sound d at_d) (subst HasNoElement to_c linear.single) in
      ap (λ o. cell_of o c.path) objects ∙ ap (λ path. cell_of d.object path) paths

-- so there is one cell of it in a state that is reached
pub linear_is_one : ReachedIsCounted → LinearIsOne
linear_is_one reach basis es follows s reached q linear c d at_c at_d =
    let found = reach basis es follows s reached in
    one_cell basis es follows.analysed q linear found.0 s found.1 found.2.0 (trails_in found.0 s) found.2.1 c d at_c at_d
