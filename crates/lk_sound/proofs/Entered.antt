-- What a call begins with: its frame, its locals, and their objects.
use Rattle.lk_cells.specs.declared.object.Object.{Object}
use Rattle.std.proofs.Common.{◌≡◌, ℕ, ◌<◌, ◌+◌, zero, suc, Bool, true, false, List, [], ◌∷◌, length, Option, None, Some, refl, sym, ap, ◌∙◌, subst, inl, inr, arith, length-append}
use Rattle.std.proofs.lemmas.Bool.{eqb-true, true≢false}
use Rattle.std.proofs.lemmas.Option.{none-some, same_Some, slice_get_within, slice_get-get_or}
use Rattle.std.specs.List.{position_from}
use Rattle.std.specs.Option.{option_map, option_map_or, option_and_then}
use Rattle.std.specs.Prelude.{slice_get, unwrap_or, if◌then◌else◌}
use Rattle.lk_birth.specs.Births.{is_local_of, listed, local_at, locals_below, locals_of, type_of_root, is_slot, is_root, argument, first_in_slot, slots_below, bare_local, local_object, local_objects, numbered_from, made_for}
use Rattle.lk_cells.specs.Cells.{with_value}
use Rattle.lk_cells.specs.declared.object.Initial.TheVariants as initial
use Rattle.lk_cells.specs.declared.state.Local.{Local}
use Rattle.lk_change.specs.declared.change.Call.{Call}
use Rattle.lk_facts.specs.EdgeRules.{parameter, slot}
use Rattle.lk_facts.specs.LabelRules.{IsWhole}
use Rattle.lk_facts.specs.LabelRules.IsWithin.{start as within_start}
use Rattle.lk_facts.specs.Labels.{LabelTable}
use Rattle.lk_facts.specs.Live.{IsReached}
use Rattle.lk_facts.specs.Live.IsReached.{entry}
use Rattle.lk_facts.specs.Program.{entry_of, parameter_of, parameters_of, slots_of}
use Rattle.lk_facts.specs.Typed.{IsHolderIn, IsRootType}
use Rattle.lk_facts.specs.declared.edge.Edge.{Edge}
use Rattle.lk_facts.specs.declared.function.Function.{Function}
use Rattle.lk_facts.specs.declared.label_entry.LabelName.{LabelName}
use Rattle.lk_facts.specs.declared.program.Program.{Program}
use Rattle.lk_facts.specs.declared.root.Holder.{Holder}
use Rattle.lk_facts.specs.declared.root.Holder.TheVariants.{Root, Slot, Result, Point}
use Rattle.lk_facts.specs.declared.root.Root.{Root as RootOf}
use Rattle.lk_right.proofs.Cells.{within_node}
use Rattle.lk_right.specs.Changes.{IsCallRight}
use Rattle.lk_right.specs.Contexts.{Home, home_of, homes_in}
use Rattle.lk_right.specs.Laws.{IsAnalysed}
use Rattle.lk_right.specs.Right.{IsPlaceAt, IsRight}
use Rattle.lk_right.specs.Sound.{IsFrameSound, IsObjectSound}
use Rattle.lk_sound.proofs.Elements.{split, split_last, before_none, mapped_from, position_is}
use Rattle.lk_sound.proofs.GrownRight.{keeps_itself, right_later}
use Rattle.lk_sound.proofs.ObjectsKept.{AreObjectsSound, new_sound, value_sound}
use Rattle.lk_types.specs.Nodes.{Node, node_of, first}
use Rattle.lk_types.specs.declared.node.Base.TheVariants.{Start}
use Rattle.lk_values.specs.declared.value.Value.{Value}
use Rattle.lk_values.specs.declared.value.Value.TheVariants.{Indeterminate}

-- ---- locals

-- a local has the root of its place, and the number of its object
pub numbered_is : (first : ℕ) (rs : List ℕ) (i : ℕ) (local : Local) → slice_get (numbered_from first rs) i ≡ Some local → (slice_get rs i ≡ Some local.root) × (local.object ≡ first + i)
numbered_is first [] i local is = absurd (none-some local is)
numbered_is first (r ∷ rs) zero local is =
    let whole = same_Some (record { root = r; object = first }) local is in
    (ap (λ (l : Local). Some l.root) whole, sym (ap (λ (l : Local). l.object) whole) ∙ omega arith)
numbered_is first (r ∷ rs) (suc i) local is =
    let rest = numbered_is (first + 1) rs i local is in
    let object = rest.1 in
    (rest.0, omega (arith, object))

listed_is : (o : Option ℕ) (k r : ℕ) → slice_get (listed o) k ≡ Some r → o ≡ Some r
listed_is None k r is = absurd (none-some r is)
listed_is (Some x) zero r is = is
listed_is (Some x) (suc k) r is = absurd (none-some r is)

module _ (program : Program) where
  if_some : (b : Bool) (n r : ℕ) → (if b then Some n else None) ≡ Some r → n ≡ r
  if_some true n r is = same_Some n r is
  if_some false n r is = absurd (none-some r is)

  root_local : (f n r : ℕ) → local_at program f n ≡ Some r → (root : RootOf) × (slice_get program.roots r ≡ Some root)
  root_local f n r is = by (slice_get program.roots n) refl is
    where
      by : (found : Option RootOf) → slice_get program.roots n ≡ found → option_and_then (λ (root : RootOf). if is_local_of f root then Some n else None) found ≡ Some r →
          (root : RootOf) × (slice_get program.roots r ≡ Some root)
      by None none is = absurd (none-some r is)
      by (Some root) there is = (root, subst (λ k. slice_get program.roots k ≡ Some root) (if_some (is_local_of f root) n r is) there)

  roots_below : (f n i r : ℕ) → slice_get (locals_below program f n) i ≡ Some r → (root : RootOf) × (slice_get program.roots r ≡ Some root)
  roots_below f zero i r is = absurd (none-some r is)
  roots_below f (suc n) i r is = elim (split (locals_below program f n) (listed (local_at program f n)) i r is) [
    | inl old ↦ roots_below f n i r old
    | inr last ↦ root_local f n r (listed_is (local_at program f n) last.0 r last.2)
  ]

  -- the root of a local of a function is there, with its type
  pub local_typed : (f i r : ℕ) → slice_get (locals_of program f) i ≡ Some r → IsRootType program r (type_of_root program r)
  local_typed f i r is =
      let there = roots_below f (length program.roots) i r is in
      (there.0, there.1, sym (ap (λ o. option_map_or (λ (root : RootOf). root.ty) o 0) there.1))

  -- ---- parameters

  -- of a function that is there, with what holds its parameter
  record HasParameter (f i : ℕ) (h : Holder) : Type 0 where
    function : Function
    there : slice_get program.functions f ≡ Some function
    holds : slice_get function.parameters i ≡ Some h

  has_parameter : (f i : ℕ) (h : Holder) → parameter_of program f (suc i) ≡ Some h → HasParameter f i h
  has_parameter f i h is = by (slice_get program.functions f) refl is
    where
      by : (found : Option Function) → slice_get program.functions f ≡ found → option_and_then (λ (function : Function). slice_get function.parameters i) found ≡ Some h → HasParameter f i h
      by None none is = absurd (none-some h is)
      by (Some function) there is = record { function = function; there = there; holds = is }

  module _ (f : ℕ) (args : List Value) where
    -- the argument for the first parameter that passes a test
    record HasArgument (test : Holder → Bool) (v : Value) : Type 0 where
      place : ℕ
      holder : Holder
      holds : parameter_of program f (suc place) ≡ Some holder
      passes : test holder ≡ true
      given : slice_get args place ≡ Some v

    argument_is : (test : Holder → Bool) (v : Value) → argument program f args test ≡ Some v → HasArgument test v
    argument_is test v is = by (position_from test 0 (unwrap_or (parameters_of program f) [])) refl is
      where
        parameter_is : (k : ℕ) (h : Holder) (found : Option Function) → slice_get (unwrap_or (option_map (λ (function : Function). function.parameters) found) []) k ≡ Some h →
            option_and_then (λ (function : Function). slice_get function.parameters k) found ≡ Some h
        parameter_is k h None is = absurd (none-some h is)
        parameter_is k h (Some function) is = is

        by : (found : Option ℕ) → position_from test 0 (unwrap_or (parameters_of program f) []) ≡ found → option_and_then (slice_get args) found ≡ Some v → HasArgument test v
        by None none is = absurd (none-some v is)
        by (Some i) first is =
            let found = position_is test 0 i (unwrap_or (parameters_of program f) []) first in
            let same : i ≡ found.0 = found_at i found.0 found.1 in
            record {
              place = found.0;
              holder = found.2.0;
              holds = parameter_is found.0 found.2.0 (slice_get program.functions f) found.2.1;
              passes = found.2.2;
              given = subst (λ k. slice_get args k ≡ Some v) same is;
            }
          where
            found_at : (i k : ℕ) → i ≡ 0 + k → i ≡ k
            found_at i k h = omega (arith, h)

    slots_many : (n : ℕ) → length (slots_below program f args n) ≡ n
    slots_many zero = refl
    slots_many (suc n) = let below = slots_many n in let more = length-append (slots_below program f args n) (first_in_slot program f args n ∷ []) in omega (arith, below, more)

    slots_are : (n k : ℕ) (v : Value) → slice_get (slots_below program f args n) k ≡ Some v → v ≡ first_in_slot program f args k
    slots_are zero k v is = absurd (none-some v is)
    slots_are (suc n) k v is = elim (split_last (slots_below program f args n) (first_in_slot program f args n) k v is) [
      | inl old ↦ slots_are n k v old
      | inr last ↦ last.1 ∙ ap (first_in_slot program f args) (sym (last.0 ∙ slots_many n))
    ]

  slot_holder : (f k : ℕ) (h : Holder) → is_slot k h ≡ true → IsHolderIn program f h → h ≡ Slot f k
  slot_holder f k (Root r) passes holds = absurd (true≢false (sym passes))
  slot_holder f k (Slot g s) passes holds = ap (λ n. Slot n s) holds ∙ ap (λ n. Slot f n) (eqb-true s k passes)
  slot_holder f k (Result g) passes holds = absurd (true≢false (sym passes))
  slot_holder f k (Point p) passes holds = absurd (true≢false (sym passes))

  root_holder : (r : ℕ) (h : Holder) → is_root r h ≡ true → h ≡ Root r
  root_holder r (Root s) passes = ap (λ n. Root n) (eqb-true s r passes)
  root_holder r (Slot g s) passes = absurd (true≢false (sym passes))
  root_holder r (Result g) passes = absurd (true≢false (sym passes))
  root_holder r (Point p) passes = absurd (true≢false (sym passes))

  -- a label that is that of a parameter is that of what holds it
  parameter_whole : (f k : ℕ) (h other : Holder) (x : LabelName) → parameter_of program f (suc k) ≡ Some h → h ≡ other → parameter program f (suc k) x → IsWhole program other x
  parameter_whole f k h other x holds is (g, held, whole) = subst (λ z. IsWhole program z x) (same_Some g h (sym held ∙ holds) ∙ is) whole

  -- the place of a whole object
  place_whole : (r : ℕ) (x : LabelName) → IsWhole program (Root r) x → IsPlaceAt program r [] x
  place_whole r x whole = record { ty = whole.ty; of = whole.has; holder = whole.holder; within = within_start x.node whole.start; leads = ap (λ (n : Node). Some n) (sym whole.start.first) }

  -- and the whole object of a place
  whole_place : (r : ℕ) (x : LabelName) → IsPlaceAt program r [] x → IsWhole program (Root r) x
  whole_place r x place = record {
    holder = place.holder;
    ty = place.ty;
    has = place.of;
    start = record { node = within_node program place.within; first = sym (same_Some (first (Start place.ty)) (node_of program.types x.node) place.leads) };
  }

  module _ (labels : LabelTable) (es : List Edge) (ok : IsAnalysed program labels es) where
    abbrev Right : List Home → Value → (LabelName → Type 0) → List ℕ → Type 0
    Right = IsRight program labels es

    abbrev OfObject : List Home → Home → Object → Type 0
    OfObject = IsObjectSound program labels es

    -- what holds a parameter of a function is a slot or an object of its frame
    holder_stands : (f i : ℕ) (h : Holder) → parameter_of program f (suc i) ≡ Some h → IsHolderIn program f h
    holder_stands f i h is =
        let has = has_parameter f i h is in
        let typed = ok.lowered.functions f (slice_get_within program.functions f has.function has.there) in
        let none : slice_get has.function.parameters (length typed.params) ≡ None =
        subst (λ o. option_and_then (λ (function : Function). slice_get function.parameters (length typed.params)) o ≡ None) has.there typed.takes_no_more in
        let within : i < length typed.params = before_none has.function.parameters (length typed.params) i h none has.holds in
        let takes = typed.takes i _ (slice_get-get_or typed.params i 0 within) in
        subst (λ z. IsHolderIn program f z) (same_Some takes.0 h (sym takes.2 ∙ is)) takes.3

    -- A function is entered in the context d, and its arguments are right for its parameters, where it has these. The homes are those after it.
    module _ (homes : List Home) (g entered : ℕ) (args : List Value) (d : List ℕ) (begins : entry_of program g ≡ Some entered)
        (given : (k : ℕ) (v : Value) (h : Holder) → slice_get args k ≡ Some v → parameter_of program g (suc k) ≡ Some h → Right homes v (IsWhole program h) d) where
      argument_right : (v : Value) (test : Holder → Bool) (other : Holder) → ((h : Holder) → test h ≡ true → IsHolderIn program g h → h ≡ other) → argument program g args test ≡ Some v →
          Right homes v (IsWhole program other) d
      argument_right v test other only is =
          let has = argument_is g args test v is in
          let holder_is : has.holder ≡ other = only has.holder has.passes (holder_stands g has.place has.holder has.holds) in
          subst (λ h. Right homes v (IsWhole program h) d) holder_is (given has.place v has.holder has.given has.holds)

      slot_right : (k : ℕ) → Right homes (first_in_slot program g args k) (slot program g k) d
      slot_right k = by (argument program g args (is_slot k)) refl
        where
          by : (o : Option Value) → argument program g args (is_slot k) ≡ o → Right homes (unwrap_or o Indeterminate) (slot program g k) d
          by None none = tt
          by (Some v) is = argument_right v (is_slot k) (Slot g k) (λ h passes holds. slot_holder g k h passes holds) is

      local_sound : (i r : ℕ) → slice_get (locals_of program g) i ≡ Some r → OfObject homes (home_of r d) (local_object program g args r)
      local_sound i r is = by (argument program g args (is_root r)) refl
        where
          bare : OfObject homes (home_of r d) (bare_local program g args r)
          bare = new_sound program labels es homes (home_of r d) r (type_of_root program r) 1 initial.Indeterminate refl (local_typed g i r is)

          by : (o : Option Value) → argument program g args (is_root r) ≡ o →
              OfObject homes (home_of r d) (option_map_or (with_value (bare_local program g args r) []) o (bare_local program g args r))
          by None none = bare
          by (Some v) is =
              value_sound program labels es homes (home_of r d) (bare_local program g args r) bare [] v
              (right_later program labels es homes homes (keeps_itself homes) v (IsWhole program (Root r)) (IsPlaceAt program r []) d (λ x whole. place_whole r x whole)
              (λ pointer. (pointer.0, whole_place r pointer.0 pointer.1, pointer.2))
              (argument_right v (is_root r) (Root r) (λ h passes holds. root_holder r h passes) is))

      -- the objects of its locals are sound
      pub given_locals_sound : AreObjectsSound program labels es homes (homes_in program g d) (local_objects program g args)
      given_locals_sound o object home object_is home_is =
          let of_object = mapped_from (local_object program g args) (locals_of program g) o object object_is in
          let of_home = mapped_from (λ r. home_of r d) (locals_of program g) o home home_is in
          let one : of_home.0 ≡ of_object.0 = same_Some of_home.0 of_object.0 (sym of_home.1 ∙ of_object.1) in
          let home_there : home ≡ home_of of_object.0 d = of_home.2 ∙ ap (λ r. home_of r d) one in
          subst (λ h. OfObject homes h object) (sym home_there) (subst (λ x. OfObject homes (home_of of_object.0 d) x) (sym of_object.2) (local_sound o of_object.0 of_object.1))

      function_there : (e : ℕ) → entry_of program g ≡ Some e → (function : Function) × (slice_get program.functions g ≡ Some function) × (function.entry ≡ e)
      function_there e is = by (slice_get program.functions g) refl is
        where
          by : (found : Option Function) → slice_get program.functions g ≡ found → option_map (λ (function : Function). function.entry) found ≡ Some e →
              (function : Function) × (slice_get program.functions g ≡ Some function) × (function.entry ≡ e)
          by None none is = absurd (none-some e is)
          by (Some function) there is = (function, there, same_Some function.entry e is)

      -- its frame is sound
      pub given_frame_sound : (first : ℕ) → ((i r : ℕ) → slice_get (locals_of program g) i ≡ Some r → slice_get homes (first + i) ≡ Some (home_of r d)) →
          IsFrameSound program labels es homes g d (made_for program first g entered args).frame
      given_frame_sound first housed =
          let function = function_there entered begins in
          record {
            stands = (ok.lowered.entries g entered begins).stands;
            live = (ok.lowered.live entered).1 (subst (λ e. IsReached program.points program.functions e) function.2 (entry g function.0 function.1));
            slots = λ k v is. subst (λ w. Right homes w (slot program g k) d) (sym (slots_are g args (option_map_or length (slots_of program g) 0) k v is)) (slot_right k);
            values = λ p v is. absurd (none-some v is);
            locals = λ i local is. local_housed i local is;
            next = λ a p accesses is. absurd (none-some p is);
          }
        where
          local_housed : (i : ℕ) (local : Local) → slice_get (numbered_from first (locals_of program g)) i ≡ Some local → slice_get homes local.object ≡ Some (home_of local.root d)
          local_housed i local is =
              let numbered = numbered_is first (locals_of program g) i local is in
              ap (λ n. slice_get homes n) numbered.1 ∙ housed i local.root numbered.0

    -- so it is with a call of which it is known that it is right in the context d
    module _ (homes : List Home) (call : Call) (d : List ℕ) (right : IsCallRight program labels es homes call d) where
      call_gives : (k : ℕ) (v : Value) (h : Holder) → slice_get call.args k ≡ Some v → parameter_of program call.function (suc k) ≡ Some h → Right homes v (IsWhole program h) d
      call_gives k v h there holds =
          right_later program labels es homes homes (keeps_itself homes) v (parameter program call.function (suc k)) (IsWhole program h) d
          (λ x of. parameter_whole call.function k h h x holds refl of)
          (λ pointer. (pointer.0, (h, holds, pointer.1), pointer.2))
          (right.args k v there)

      pub locals_sound : AreObjectsSound program labels es homes (homes_in program call.function d) (local_objects program call.function call.args)
      locals_sound = given_locals_sound homes call.function call.entry call.args d right.begins call_gives

      pub frame_sound : (first : ℕ) → ((i r : ℕ) → slice_get (locals_of program call.function) i ≡ Some r → slice_get homes (first + i) ≡ Some (home_of r d)) →
          IsFrameSound program labels es homes call.function d (made_for program first call.function call.entry call.args).frame
      frame_sound = given_frame_sound homes call.function call.entry call.args d right.begins call_gives
