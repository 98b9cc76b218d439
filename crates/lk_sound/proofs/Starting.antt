-- The invariant holds at the start.
use Rattle.std.proofs.Common.{◌≡◌, ℕ, zero, suc, ◌<◌, ◌+◌, true, List, [], ◌∷◌, ◌++◌, map, length, Option, None, Some, inl, inr, refl, sym, ap, subst, ◌∙◌}
use Rattle.std.proofs.lemmas.Bool.{false≢true}
use Rattle.std.proofs.lemmas.List.{length-map}
use Rattle.std.proofs.lemmas.Option.{none-some, same_Some, slice_get-map}
use Rattle.std.specs.Option.{option_and_then, option_map, option_map_or}
use Rattle.std.specs.Prelude.{slice_get}
use Rattle.lk_base.specs.declared.cell.CellStep.TheVariants.{Index}
use Rattle.lk_birth.specs.Begins.{StartsRight}
use Rattle.lk_birth.specs.Births.{argument, is_root, local_object, local_objects, bare_local, locals_of, made_for, new_thread}
use Rattle.lk_birth.specs.Starts.{root_of, string_object, strings_of, string_objects, bare_objects, first_objects, main_args, with_main, without_threads, started}
use Rattle.lk_cells.specs.Cells.{object_of_root, with_value}
use Rattle.lk_cells.specs.declared.object.Object.{Object}
use Rattle.lk_cells.specs.declared.state.Frame.{Frame}
use Rattle.lk_cells.specs.declared.state.State.{State}
use Rattle.lk_cells.specs.declared.state.Thread.{Thread}
use Rattle.lk_facts.specs.EdgeRules.{Of, In, place, parameter, IsRootOf, IsEdge}
use Rattle.lk_facts.specs.EdgeRules.IsEdge.{argv, args}
use Rattle.lk_facts.specs.LabelRules.{IsPart, IsWhole}
use Rattle.lk_facts.specs.LabelRules.IsWithin.{start as within_start, part as within_part}
use Rattle.lk_facts.specs.Labels.{LabelTable}
use Rattle.lk_facts.specs.Lowered.{IsArgument}
use Rattle.lk_facts.specs.Program.{entry_of, parameter_of, is_args, is_argv}
use Rattle.lk_facts.specs.Walks.Walk.{start}
use Rattle.lk_facts.specs.declared.edge.Edge.{Edge}
use Rattle.lk_facts.specs.declared.edge.Mark.TheVariants.{Plain}
use Rattle.lk_facts.specs.declared.label_entry.LabelName.{LabelName}
use Rattle.lk_facts.specs.declared.program.Program.{Program}
use Rattle.lk_facts.specs.declared.root.Holder.{Holder}
use Rattle.lk_facts.specs.declared.root.Root.{Root as RootOf}
use Rattle.lk_facts.specs.declared.root.RootKind.{RootKind}
use Rattle.lk_facts.specs.declared.root.RootKind.TheVariants as sort
use Rattle.lk_laws.proofs.AlikeTypes.{joined, target_step}
use Rattle.lk_laws.proofs.EdgeEnds.{join_labels}
use Rattle.lk_laws.proofs.RowEnds.{rows_give}
use Rattle.lk_laws.specs.RowLaws.{Joins}
use Rattle.lk_right.proofs.Carrying.{numbered, flow_on}
use Rattle.lk_right.proofs.Carrying.Crosses.{stays}
use Rattle.lk_right.proofs.Meeting.{alike_along}
use Rattle.lk_right.proofs.Paths.{along_step}
use Rattle.lk_right.proofs.Rooted.{position_found}
use Rattle.lk_right.specs.Contexts.{Home, home_of, frames_of, homes_in}
use Rattle.lk_right.specs.Laws.{IsAnalysed}
use Rattle.lk_right.specs.Right.{IsPlaceAt, Flows, IsPointerRight, IsRight}
use Rattle.lk_right.specs.Right.IsAim.{typed}
use Rattle.lk_right.specs.Sound.{IsFrameSound, IsFrameSoundAt, AreFramesSound, IsObjectSound, IsSound}
use Rattle.lk_sound.proofs.Elements.{split, get_right, left_there, mapped_from}
use Rattle.lk_sound.proofs.Entered.{given_frame_sound, given_locals_sound}
use Rattle.lk_sound.proofs.PlaceNumbers.{element_at}
use Rattle.lk_sound.proofs.StartCells.{bytes_root}
use Rattle.lk_sound.proofs.StartObjects.{AreReady, below_good, first_home, first_ready, first_roots, roots_in, search_finds, strings_first}
use Rattle.lk_sound.specs.Soundness.{StartIsSound, first_contexts}
use Rattle.lk_types.specs.Nodes.{Node, node_of, first}
use Rattle.lk_types.specs.declared.node.Base.TheVariants.{Start}
use Rattle.lk_types.specs.declared.node.Sel.TheVariants.{Target, Element}
use Rattle.lk_values.proofs.Reasons.{mapped, chained}
use Rattle.lk_values.specs.Pointers.{pointer_to}
use Rattle.lk_values.specs.declared.cell.Pointer.{Pointer as PointerTo}
use Rattle.lk_values.specs.declared.value.Value.{Value}
use Rattle.lk_values.specs.declared.value.Value.TheVariants.{Pointer}

-- ---- the roots of main's arguments

args_kind : (kind : RootKind) → is_args kind ≡ true → kind ≡ sort.Args
args_kind sort.Global h = absurd (false≢true h)
args_kind sort.Static h = absurd (false≢true h)
args_kind sort.Local h = absurd (false≢true h)
args_kind (sort.Heap one) h = absurd (false≢true h)
args_kind sort.Text h = absurd (false≢true h)
args_kind sort.Argv h = absurd (false≢true h)
args_kind sort.Args h = refl
args_kind sort.Function h = absurd (false≢true h)

argv_kind : (kind : RootKind) → is_argv kind ≡ true → kind ≡ sort.Argv
argv_kind sort.Global h = absurd (false≢true h)
argv_kind sort.Static h = absurd (false≢true h)
argv_kind sort.Local h = absurd (false≢true h)
argv_kind (sort.Heap one) h = absurd (false≢true h)
argv_kind sort.Text h = absurd (false≢true h)
argv_kind sort.Argv h = refl
argv_kind sort.Args h = absurd (false≢true h)
argv_kind sort.Function h = absurd (false≢true h)

module _ (program : Program) where
  args_root : (r : ℕ) → root_of is_args program ≡ Some r → IsRootOf program sort.Args r
  args_root r h = let found = position_found (λ (root : RootOf). is_args root.kind) program.roots r h in (found.item, found.there, args_kind found.item.kind found.passes)

  argv_root : (r : ℕ) → root_of is_argv program ≡ Some r → IsRootOf program sort.Argv r
  argv_root r h = let found = position_found (λ (root : RootOf). is_argv root.kind) program.roots r h in (found.item, found.there, argv_kind found.item.kind found.passes)

  -- an element of an object has a place
  element_place : (r : ℕ) (x : LabelName) (i : ℕ) → In program (place program r) Element x → IsPlaceAt program r (Index i ∷ []) x
  element_place r x i is = record {
    ty = is.1.ty;
    of = is.1.has;
    holder = is.2.part.holder ∙ is.1.holder;
    within = within_part is.0.node x.node Element (within_start is.0.node is.1.start) is.2.inside is.2.part.steps;
    leads = along_step program.types (first (Start is.1.ty)) (node_of program.types is.0.node) (node_of program.types x.node) [] (Index i) (ap (λ (n : Node). Some n) (sym is.1.start.first)) is.2.part.steps.leads;
  }

  local_object_root : (f : ℕ) (values : List Value) (r : ℕ) → (local_object program f values r).root ≡ r
  local_object_root f values r = by (argument program f values (is_root r))
    where
      by : (found : Option Value) → (option_map_or (with_value (bare_local program f values r) []) found (bare_local program f values r)).root ≡ r
      by None = refl
      by (Some v) = refl

-- ---- objects and their homes

abbrev pub homes_of : List Object → List Home
homes_of objects = map (λ object. home_of object.root []) objects

home_at : (objects : List Object) (o : ℕ) (object : Object) → slice_get objects o ≡ Some object → slice_get (homes_of objects) o ≡ Some (home_of object.root [])
home_at objects o object there = slice_get-map (λ (x : Object). home_of x.root []) objects o ∙ ap (λ x. option_map (λ (x : Object). home_of x.root []) x) there

-- an object of the front has its root's home
covers : (front all : List Object) → ((o : ℕ) (object : Object) → slice_get front o ≡ Some object → slice_get all o ≡ Some object) → (o r : ℕ) → slice_get (roots_in front) o ≡ Some r → slice_get (homes_of all) o ≡ Some (home_of r [])
covers front all in_all o r h =
    let found = mapped (λ (x : Object). x.root) (slice_get front o) r (sym (slice_get-map (λ (x : Object). x.root) front o) ∙ h) in
    home_at all o found.0 (in_all o found.0 found.1) ∙ ap (λ q. Some (home_of q [])) found.2

module _ (program : Program) (labels : LabelTable) (es : List Edge) (ok : IsAnalysed program labels es)
    (argv_joins : (r : ℕ) (h : Holder) → IsRootOf program sort.Argv r → parameter_of program program.main 2 ≡ Some h → Joins program (In program (place program r) Element) (Of program (parameter program program.main 2) Target))
    (args_joins : (r q : ℕ) → IsRootOf program sort.Args r → IsRootOf program sort.Argv q → Joins program (In program (place program r) Element) (Of program (In program (place program q) Element) Target)) where
  module _ (homes : List Home) where
    -- a pointer is right for what X names where an edge leads from the place of its part to what X points to
    edge_right : (at : PointerTo) (X : LabelName → Type 0) (r : ℕ) → slice_get homes at.part.object ≡ Some (home_of r []) → (x y z : LabelName) → IsPlaceAt program r at.part.path x → X z → IsPart program z Target y → IsEdge program x y Plain →
        IsPointerRight program labels es homes at X []
    edge_right at X r lives x y z at_place is part edge =
        let number = numbered program labels es ok x (join_labels program x y Plain edge).0 in
        let first_flow : Flows program labels es x [] x [] = record { from = number.0; to = number.0; from_at = number.1; to_at = number.1; walk = start } in
        let on = flow_on program labels es ok first_flow edge stays in
        let points = target_step program.types ok.table (node_of program.types z.node) (node_of program.types y.node) part.steps.leads in
        let alike = alike_along program labels es ok on.walk x y on.from_at on.to_at in
        record { home = home_of r []; lives_in = lives; origin = x; place = at_place; held_by = z; is = is; aim = y; aims = typed points.to points.pointer (joined program.types.types alike points.alike) part; flows = on }

    -- the pointers to the strings
    strings_right : (r q i : ℕ) → IsRootOf program sort.Args r → IsRootOf program sort.Argv q → slice_get homes i ≡ Some (home_of r []) → IsRight program labels es homes (Pointer (pointer_to i (Index 0 ∷ []))) (IsPlaceAt program q (Index i ∷ [])) []
    strings_right r q i is_args_root is_argv_root lives =
        let joins = args_joins r q is_args_root is_argv_root in
        let x = joins.0.0 in
        let y = joins.1.0 in
        let points = joins.1.1 in
        λ has. edge_right (pointer_to i (Index 0 ∷ [])) (IsPlaceAt program q (Index i ∷ [])) r lives x y points.0 (element_place program r x 0 joins.0.1) (element_place program q points.0 i points.1) points.2
        (args r q is_args_root is_argv_root (refl, joins.0.1, points))

    one_holder : (x y : Holder) → Some x ≡ Some y → x ≡ y
    one_holder x y h = cc

    -- the pointer to them
    argv_right : (r o : ℕ) (h : Holder) → IsRootOf program sort.Argv r → slice_get homes o ≡ Some (home_of r []) → parameter_of program program.main 2 ≡ Some h → IsRight program labels es homes (Pointer (pointer_to o (Index 0 ∷ []))) (IsWhole program h) []
    argv_right r o h is_argv_root lives takes =
        let joins = argv_joins r h is_argv_root takes in
        let x = joins.0.0 in
        let y = joins.1.0 in
        let points = joins.1.1 in
        let held = subst (λ g. IsWhole program g points.0) (one_holder points.1.0 h (sym points.1.1 ∙ takes)) points.1.2 in
        λ has. edge_right (pointer_to o (Index 0 ∷ [])) (IsWhole program h) r lives x y points.0 (element_place program r x 0 joins.0.1) held points.2 (argv r is_argv_root (refl, joins.0.1, points))

  -- The objects at the start come first among all, whose homes these are.
  module _ (begins : StartsRight program) (strings : List (List ℕ)) (all : List Object) (in_all : (o : ℕ) (object : Object) → slice_get (first_objects program strings) o ≡ Some object → slice_get all o ≡ Some object) where
    abbrev homes : List Home
    homes = homes_of all

    abbrev roots : List ℕ
    roots = roots_in (bare_objects program strings)

    covered : (o r : ℕ) → slice_get roots o ≡ Some r → slice_get homes o ≡ Some (home_of r [])
    covered o r h = covers (first_objects program strings) all in_all o r (ap (λ rs. slice_get rs o) (first_roots program strings) ∙ h)

    -- where there are pointers to the strings, the strings have a root
    strings_root : (q : ℕ) → IsRootOf program sort.Argv q → (r : ℕ) × (root_of is_args program ≡ Some r)
    strings_root q is =
        let argument_is = subst (λ kind. IsArgument program kind is.0.ty) is.2 (ok.lowered.arguments q is.0 is.1) in
        let has = argument_is.4 in
        search_finds (λ (root : RootOf). is_args root.kind) 0 program.roots has.0 has.1 has.2 (ap is_args has.3)

    string_home : (r i : ℕ) → root_of is_args program ≡ Some r → i < length strings → slice_get homes i ≡ Some (home_of r [])
    string_home r i found less =
        let root = args_root program r found in
        let text = element_at strings i less in
        let all_strings : string_objects program strings ≡ map (string_object r root.0.ty) strings =
        ap (λ o. option_map_or (strings_of program strings) o []) found ∙ ap (λ o. option_map_or (λ (root : RootOf). map (string_object r root.ty) strings) o []) root.1 in
        let object : slice_get (string_objects program strings) i ≡ Some (string_object r root.0.ty text.0) =
        ap (λ xs. slice_get xs i) all_strings ∙ (slice_get-map (string_object r root.0.ty) strings i ∙ ap (λ o. option_map (string_object r root.0.ty) o) text.1) in
        let bare = strings_first program strings (length program.roots) i (string_object r root.0.ty text.0) object in
        let own : slice_get roots i ≡ Some r =
        slice_get-map (λ (x : Object). x.root) (bare_objects program strings) i ∙ (ap (λ o. option_map (λ (x : Object). x.root) o) bare ∙ ap Some (bytes_root _ text.0)) in
        covered i r own

    ready : AreReady program labels es ok begins homes roots covered (first_objects program strings)
    ready =
        first_ready program labels es ok begins homes roots covered strings (record {
          good = below_good program labels es ok begins homes roots covered strings
              (λ q is i less. (let r = strings_root q is in strings_right homes r.0 q i (args_root program r.0 r.1) is (string_home r.0 i r.1 less))) (length program.roots);
          same = refl;
        })

    pub front_sound : (o : ℕ) (object : Object) → slice_get (first_objects program strings) o ≡ Some object → IsObjectSound program labels es homes (home_of object.root []) object
    front_sound o object there = ready.good o object there

    -- main's arguments
    abbrev values : List Value
    values = main_args program (first_objects program strings) strings

    values_right : (k : ℕ) (v : Value) (h : Holder) → slice_get values k ≡ Some v → parameter_of program program.main (suc k) ≡ Some h → IsRight program labels es homes v (IsWhole program h) []
    values_right zero v h there takes = subst (λ x. IsRight program labels es homes x (IsWhole program h) []) (same_Some _ v there) tt
    values_right (suc k) v h there takes = by (option_and_then (object_of_root (first_objects program strings)) (root_of is_argv program)) refl k there takes
      where
        by : (found : Option ℕ) → option_and_then (object_of_root (first_objects program strings)) (root_of is_argv program) ≡ found → (k : ℕ) → slice_get (option_map_or (λ o. Pointer (pointer_to o (Index 0 ∷ [])) ∷ []) found []) k ≡ Some v →
            parameter_of program program.main (suc (suc k)) ≡ Some h → IsRight program labels es homes v (IsWhole program h) []
        by None is k there takes = absurd (none-some v there)
        by (Some o) is zero there takes =
            let found = chained (object_of_root (first_objects program strings)) (root_of is_argv program) o is in
            let lives = first_home program labels es ok begins homes roots covered (first_objects program strings) ready.same found.0 o found.2 in
            subst (λ x. IsRight program labels es homes x (IsWhole program h) []) (same_Some _ v there) (argv_right homes found.0 o h (argv_root program found.0 found.1) lives takes)
        by (Some o) is (suc k) there takes = absurd (none-some v there)

  module _ (begins : StartsRight program) (strings : List (List ℕ)) where
    abbrev objects : List Object
    objects = first_objects program strings

    one_home : (all : List Object) (o : ℕ) (object : Object) (home : Home) → slice_get all o ≡ Some object → slice_get (homes_of all) o ≡ Some home → home_of object.root [] ≡ home
    one_home all o object home there lives = same_Some (home_of object.root []) home (sym (home_at all o object there) ∙ lives)

    -- without main there is no thread
    bare_start : IsSound program labels es (first_contexts (without_threads objects)) (without_threads objects)
    bare_start = record {
      objects_many = length-map objects (λ (x : Object). home_of x.root []);
      objects = λ o object home there lives. subst (λ h. IsObjectSound program labels es (homes_of objects) h object) (one_home objects o object home there lives)
          (front_sound begins strings objects (λ o object there. there) o object there);
      threads_many = refl;
      threads = λ t thread cs there lives. absurd (none-some thread there);
    }

    module _ (entry : ℕ) (main_begins : entry_of program program.main ≡ Some entry) where
      abbrev own : List Object
      own = local_objects program program.main (main_args program objects strings)

      abbrev all : List Object
      all = objects ++ own

      abbrev frame : Frame
      frame = (made_for program (length objects) program.main entry (main_args program objects strings)).frame

      in_all : (o : ℕ) (object : Object) → slice_get objects o ≡ Some object → slice_get all o ≡ Some object
      in_all o object there = left_there objects own o object there

      arguments_right : (k : ℕ) (v : Value) (h : Holder) → slice_get (main_args program objects strings) k ≡ Some v → parameter_of program program.main (suc k) ≡ Some h → IsRight program labels es (homes_of all) v (IsWhole program h) []
      arguments_right k v h there takes = values_right begins strings all in_all k v h there takes

      locals_home : (i r : ℕ) → slice_get (locals_of program program.main) i ≡ Some r → slice_get (homes_of all) (length objects + i) ≡ Some (home_of r [])
      locals_home i r there =
          let object = local_object program program.main (main_args program objects strings) r in
          let own_there : slice_get own i ≡ Some object =
          slice_get-map (local_object program program.main (main_args program objects strings)) (locals_of program program.main) i ∙ ap (λ o. option_map (local_object program program.main (main_args program objects strings)) o) there in
          home_at all (length objects + i) object (get_right objects own (length objects + i) i refl ∙ own_there) ∙ ap (λ q. Some (home_of q [])) (local_object_root program program.main (main_args program objects strings) r)

      frame_sound : IsFrameSound program labels es (homes_of all) program.main [] frame
      frame_sound = given_frame_sound program labels es ok (homes_of all) program.main entry (main_args program objects strings) [] main_begins arguments_right (length objects) locals_home

      own_sound : (k : ℕ) (object : Object) → slice_get own k ≡ Some object → IsObjectSound program labels es (homes_of all) (home_of object.root []) object
      own_sound k object there =
          let local = mapped_from (local_object program program.main (main_args program objects strings)) (locals_of program program.main) k object there in
          let home : slice_get (homes_in program program.main []) k ≡ Some (home_of local.0 []) = slice_get-map (λ r. home_of r []) (locals_of program program.main) k ∙ ap (λ o. option_map (λ r. home_of r []) o) local.1 in
          let sound = given_locals_sound program labels es ok (homes_of all) program.main entry (main_args program objects strings) [] main_begins arguments_right k object (home_of local.0 []) there home in
          subst (λ r. IsObjectSound program labels es (homes_of all) (home_of r []) object) (sym sound.root) sound

      all_sound : (o : ℕ) (object : Object) → slice_get all o ≡ Some object → IsObjectSound program labels es (homes_of all) (home_of object.root []) object
      all_sound o object there = elim (split objects own o object there) [
        | inl first ↦ front_sound begins strings all in_all o object first
        | inr second ↦ own_sound second.0 object second.2
      ]

      -- the one thread runs main
      frames_sound : AreFramesSound program labels es (homes_of all) (frame ∷ []) ([] ∷ [])
      frames_sound = record { many = refl; each = λ j other there. each j other there; calls = λ j g caller callee c d there next there_c next_d stands. absurd (none-some callee next) }
        where
          each : (j : ℕ) (other : Frame) → slice_get (frame ∷ []) j ≡ Some other → IsFrameSoundAt program labels es (homes_of all) ([] ∷ []) j other
          each zero other there = record { function = program.main; context = []; in_context = refl; sound = subst (IsFrameSound program labels es (homes_of all) program.main []) (same_Some frame other there) frame_sound }
          each (suc j) other there = absurd (none-some other there)

      threads_sound : (t : ℕ) (thread : Thread) (cs : List (List ℕ)) → slice_get (new_thread frame ∷ []) t ≡ Some thread → slice_get (([] ∷ []) ∷ []) t ≡ Some cs → AreFramesSound program labels es (homes_of all) (frames_of thread) cs
      threads_sound zero thread cs there contexts =
          subst (λ x. AreFramesSound program labels es (homes_of all) (frames_of x) cs) (same_Some (new_thread frame) thread there) (subst (AreFramesSound program labels es (homes_of all) (frame ∷ [])) (same_Some ([] ∷ []) cs contexts) frames_sound)
      threads_sound (suc t) thread cs there contexts = absurd (none-some thread there)

      main_start : IsSound program labels es (first_contexts (with_main objects (made_for program (length objects) program.main entry (main_args program objects strings)))) (with_main objects (made_for program (length objects) program.main entry (main_args program objects strings)))
      main_start = record {
        objects_many = length-map all (λ (x : Object). home_of x.root []);
        objects = λ o object home there lives. subst (λ h. IsObjectSound program labels es (homes_of all) h object) (one_home all o object home there lives) (all_sound o object there);
        threads_many = refl;
        threads = threads_sound;
      }

    abbrev begun_by : Option ℕ → State
    begun_by found = option_map_or (λ entry. with_main objects (made_for program (length objects) program.main entry (main_args program objects strings))) found (without_threads objects)

    pub started_sound : IsSound program labels es (first_contexts (started program strings)) (started program strings)
    started_sound = by (entry_of program program.main) refl
      where
        by : (found : Option ℕ) → entry_of program program.main ≡ found → IsSound program labels es (first_contexts (begun_by found)) (begun_by found)
        by None is = bare_start
        by (Some entry) is = main_start entry is

-- the invariant holds at the start
pub start_is_sound : StartIsSound
start_is_sound program labels es ok begins strings =
    let main_joins = (rows_give program ok.table ok.in_range ok.lowered).arguments in
    started_sound program labels es ok main_joins.argv main_joins.args begins strings
