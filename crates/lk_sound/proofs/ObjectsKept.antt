-- The objects of a state as they come, end, and hold other values.
use Rattle.std.proofs.Common.{◌≡◌, ℕ, ◌+◌, List, [], ◌∷◌, ◌++◌, length, Option, None, Some, refl, sym, ap, ◌∙◌, subst, inl, inr, ◌⊎◌, arith}
use Rattle.std.proofs.lemmas.Option.{none-some, same_Some, slice_get_within}
use Rattle.std.specs.Option.{option_map, option_or, option_and_then}
use Rattle.std.specs.Prelude.{slice_get, pos}
use Rattle.lk_base.specs.declared.cell.CellStep.{CellStep}
use Rattle.lk_birth.proofs.Changed.{length_changed}
use Rattle.lk_birth.specs.Births.{changed_at}
use Rattle.lk_cells.specs.Cells.{found_at, put_at, first_value, form_at, value_at, zero_of, new_object, with_value, after_life}
use Rattle.lk_cells.specs.declared.object.Initial.{Initial}
use Rattle.lk_cells.specs.declared.object.Initial.TheVariants as initial
use Rattle.lk_cells.specs.declared.object.Object.{Object}
use Rattle.lk_cells.specs.declared.state.Frame.{Frame}
use Rattle.lk_cells.specs.declared.state.Local.{Local}
use Rattle.lk_facts.specs.Labels.{LabelTable}
use Rattle.lk_facts.specs.Typed.{IsRootType}
use Rattle.lk_facts.specs.declared.edge.Edge.{Edge}
use Rattle.lk_facts.specs.declared.label_entry.LabelName.{LabelName}
use Rattle.lk_facts.specs.declared.program.Program.{Program}
use Rattle.lk_meaning.proofs.CellLemmas.{one_path}
use Rattle.lk_meaning.specs.After.{after_lives, after_frames, with_put}
use Rattle.lk_meaning.specs.declared.applying.Put.TheVariants as put
use Rattle.lk_right.specs.Changes.{IsPutRight}
use Rattle.lk_right.specs.Contexts.{Home}
use Rattle.lk_right.specs.Right.{IsPlaceAt, IsRight}
use Rattle.lk_right.specs.Sound.{IsObjectSound}
use Rattle.lk_sound.proofs.Elements.{was_left, get_right, split, changed_cases, put_found}
use Rattle.lk_sound.proofs.GrownRight.{Keeps, right_later}
use Rattle.lk_types.specs.declared.c_type.CType.{CType}
use Rattle.lk_types.specs.declared.c_type.CType.TheVariants as type
use Rattle.lk_values.specs.Paths.{is_path}
use Rattle.lk_values.specs.declared.cell.Cell.{Cell}
use Rattle.lk_values.specs.declared.value.Condition.{Condition}
use Rattle.lk_values.specs.declared.value.Mutex.{Mutex}
use Rattle.lk_values.specs.declared.value.Value.{Value}
use Rattle.lk_values.specs.declared.value.Value.TheVariants.{Number, Null, Thread, Indeterminate}

-- no object goes when lives end
pub length_lives : (objects : List Object) (locals : List Local) → length (after_lives objects locals) ≡ length objects
length_lives objects [] = refl
length_lives objects (local ∷ more) = length_lives (changed_at objects local.object after_life) more ∙ length_changed objects local.object after_life

pub length_frames : (objects : List Object) (frames : List Frame) → length (after_frames objects frames) ≡ length objects
length_frames objects [] = refl
length_frames objects (frame ∷ more) = length_frames (after_lives objects frame.locals) more ∙ length_lives objects frame.locals

module _ (program : Program) (labels : LabelTable) (es : List Edge) where
  abbrev Right : List Home → Value → (LabelName → Type 0) → List ℕ → Type 0
  Right = IsRight program labels es

  abbrev OfObject : List Home → Home → Object → Type 0
  OfObject = IsObjectSound program labels es

  -- ---- what cells hold at first is no pointer

  module _ (homes : List Home) (X : LabelName → Type 0) (d : List ℕ) where
    same_right : (u v : Value) → Right homes u X d → Some u ≡ Some v → Right homes v X d
    same_right u v right is = subst (λ w. Right homes w X d) (same_Some u v is) right

    zero_right : (form : CType) (v : Value) → zero_of form ≡ Some v → Right homes v X d
    zero_right type.Void v is = absurd (none-some v is)
    zero_right (type.Int kind) v is = same_right (Number kind (pos 0)) v tt is
    zero_right type.ThreadId v is = same_right (Thread None) v tt is
    zero_right type.Mutex v is = absurd (none-some v is)
    zero_right type.Cond v is = absurd (none-some v is)
    zero_right (type.Pointer t) v is = same_right Null v tt is
    zero_right (type.Array t n) v is = absurd (none-some v is)
    zero_right (type.Struct s) v is = absurd (none-some v is)
    zero_right (type.Function result params dots) v is = absurd (none-some v is)
    zero_right (type.Opaque n) v is = absurd (none-some v is)

    nothing_right : (zero : Option Value) (v : Value) → option_map (λ (z : Value). Indeterminate) zero ≡ Some v → Right homes v X d
    nothing_right None v is = absurd (none-some v is)
    nothing_right (Some z) v is = same_right Indeterminate v tt is

    first_right : (first : Initial) (form : CType) (v : Value) → first_value first form ≡ Some v → Right homes v X d
    first_right initial.Zero form v is = zero_right form v is
    first_right initial.Indeterminate form v is = nothing_right (zero_of form) v is

    pub began_right : (first : Initial) (form : Option CType) (v : Value) → option_and_then (first_value first) form ≡ Some v → Right homes v X d
    began_right first None v is = absurd (none-some v is)
    began_right first (Some form) v is = first_right first form v is

  -- ---- one object

  -- a new object, into which nothing was put, is sound
  pub new_sound : (homes : List Home) (home : Home) (r ty n : ℕ) (first : Initial) → r ≡ home.root → IsRootType program r ty → OfObject homes home (new_object r ty n first)
  new_sound homes home r ty n first root typed = record {
    root = root;
    typed = typed;
    cells = λ path v is. began_right homes (IsPlaceAt program home.root path) home.context first (form_at program.types (new_object r ty n first) path) v is;
  }

  -- of a table of cells with something put at a path
  found_cases : (entries : List (List CellStep × Value)) (path q : List CellStep) (v w : Value) → found_at (put_at entries path v) q ≡ Some w → (found_at entries q ≡ Some w) ⊎ ((q ≡ path) × (w ≡ v))
  found_cases entries path q v w is = put_found is_path one_path put_at (λ k u. refl) (λ e rest k u. refl) entries path q v w is

  -- a value that is right for the cell is put there
  pub value_sound : (homes : List Home) (home : Home) (object : Object) → OfObject homes home object → (path : List CellStep) (v : Value) →
      Right homes v (IsPlaceAt program home.root path) home.context →
      OfObject homes home (with_value object path v)
  value_sound homes home object sound path v right = record { root = sound.root; typed = sound.typed; cells = cells }
    where
      by : (q : List CellStep) (w : Value) (found : Option Value) → found_at (put_at object.values path v) q ≡ found →
          option_or found (option_and_then (first_value object.initial) (form_at program.types object q)) ≡ Some w →
          Right homes w (IsPlaceAt program home.root q) home.context
      by q w None none is = began_right homes (IsPlaceAt program home.root q) home.context object.initial (form_at program.types object q) w is
      by q w (Some u) there is = elim (found_cases object.values path q v u there) [
        | inl was ↦ sound.cells q w (ap (λ o. option_or o (option_and_then (first_value object.initial) (form_at program.types object q))) was ∙ is)
        | inr put ↦
            let w_is : w ≡ v = sym (same_Some u w is) ∙ put.1 in
            subst (λ p. Right homes w (IsPlaceAt program home.root p) home.context) (sym put.0) (subst (λ z. Right homes z (IsPlaceAt program home.root path) home.context) (sym w_is) right)
      ]

      cells : (q : List CellStep) (w : Value) → value_at program.types (with_value object path v) q ≡ Some w → Right homes w (IsPlaceAt program home.root q) home.context
      cells q w is = by q w (found_at (put_at object.values path v) q) refl is

  pub object_later : (homes later : List Home) → Keeps homes later → (home : Home) (object : Object) → OfObject homes home object → OfObject later home object
  object_later homes later keeps home object sound = record {
    root = sound.root;
    typed = sound.typed;
    cells = λ path v is. right_later program labels es homes later keeps v (IsPlaceAt program home.root path) (IsPlaceAt program home.root path) home.context (λ x h. h) (λ has. has) (sound.cells path v is);
  }

  -- ---- all objects

  -- each object is sound in its home; what is right is so by the homes that are there later
  abbrev pub AreObjectsSound : List Home → List Home → List Object → Type 0
  AreObjectsSound later homes objects = (o : ℕ) (object : Object) (home : Home) → slice_get objects o ≡ Some object → slice_get homes o ≡ Some home → OfObject later home object

  pub objects_later : (homes later own : List Home) → Keeps homes later → (objects : List Object) → AreObjectsSound homes own objects → AreObjectsSound later own objects
  objects_later homes later own keeps objects sound o object home object_is home_is = object_later homes later keeps home object (sound o object home object_is home_is)

  -- one object is changed so that it stays sound
  pub object_changed : (later homes : List Home) (objects : List Object) (i : ℕ) (f : Object → Object) → AreObjectsSound later homes objects →
      ((home : Home) (object : Object) → slice_get homes i ≡ Some home → OfObject later home object → OfObject later home (f object)) → AreObjectsSound later homes (changed_at objects i f)
  object_changed later homes objects i f sound kept o object home object_is home_is = elim (changed_cases objects i o f object object_is) [
    | inl was ↦ sound o object home was home_is
    | inr put ↦
        let home_there : slice_get homes i ≡ Some home = subst (λ n. slice_get homes n ≡ Some home) put.0 home_is in
        subst (λ x. OfObject later home x) (sym put.1.2) (kept home put.1.0 home_there (sound i put.1.0 home put.1.1 home_there))
  ]

  -- a life ends; the lives of locals end, and of the locals of frames
  pub life_ended : (later homes : List Home) (objects : List Object) (i : ℕ) → AreObjectsSound later homes objects → AreObjectsSound later homes (changed_at objects i after_life)
  life_ended later homes objects i sound = object_changed later homes objects i after_life sound (λ home object there one. record { root = one.root; typed = one.typed; cells = one.cells })

  pub lives_ended : (later homes : List Home) (objects : List Object) (locals : List Local) → AreObjectsSound later homes objects → AreObjectsSound later homes (after_lives objects locals)
  lives_ended later homes objects [] sound = sound
  lives_ended later homes objects (local ∷ more) sound = lives_ended later homes (changed_at objects local.object after_life) more (life_ended later homes objects local.object sound)

  pub frames_ended : (later homes : List Home) (objects : List Object) (frames : List Frame) → AreObjectsSound later homes objects → AreObjectsSound later homes (after_frames objects frames)
  frames_ended later homes objects [] sound = sound
  frames_ended later homes objects (frame ∷ more) sound = frames_ended later homes (after_lives objects frame.locals) more (lives_ended later homes objects frame.locals sound)

  -- a value that is right for the cell is put
  pub value_put : (homes : List Home) (objects : List Object) (c : Cell) (v : Value) → AreObjectsSound homes homes objects → IsPutRight program labels es homes c v →
      AreObjectsSound homes homes (changed_at objects c.object (with_put c.path (put.Value v)))
  value_put homes objects c v sound right = object_changed homes homes objects c.object (with_put c.path (put.Value v)) sound kept
    where
      kept : (home : Home) (object : Object) → slice_get homes c.object ≡ Some home → OfObject homes home object → OfObject homes home (with_value object c.path v)
      kept home object there one =
          let home_is : right.home ≡ home = same_Some right.home home (sym right.lives_in ∙ there) in
          value_sound homes home object one c.path v (subst (λ (h : Home). Right homes v (IsPlaceAt program h.root c.path) h.context) home_is right.right)

  -- a mutex or a condition variable is put
  pub mutex_put : (later homes : List Home) (objects : List Object) (c : Cell) (m : Mutex) → AreObjectsSound later homes objects →
      AreObjectsSound later homes (changed_at objects c.object (with_put c.path (put.Mutex m)))
  mutex_put later homes objects c m sound =
      object_changed later homes objects c.object (with_put c.path (put.Mutex m)) sound (λ home object there one. record { root = one.root; typed = one.typed; cells = one.cells })

  pub condition_put : (later homes : List Home) (objects : List Object) (c : Cell) (m : Condition) → AreObjectsSound later homes objects →
      AreObjectsSound later homes (changed_at objects c.object (with_put c.path (put.Condition m)))
  condition_put later homes objects c m sound =
      object_changed later homes objects c.object (with_put c.path (put.Condition m)) sound (λ home object there one. record { root = one.root; typed = one.typed; cells = one.cells })

  -- objects come with their homes
  pub objects_added : (later homes more : List Home) (objects new : List Object) → length homes ≡ length objects → AreObjectsSound later homes objects → AreObjectsSound later more new →
      AreObjectsSound later (homes ++ more) (objects ++ new)
  objects_added later homes more objects new many sound added o object home object_is home_is = elim (split objects new o object object_is) [
    | inl old ↦ let within = slice_get_within objects o object old in sound o object home old (was_left homes more o home (omega (arith, within, many)) home_is)
    | inr one ↦ added one.0 object home one.2 (sym (get_right homes more o one.0 (one.1 ∙ ap (λ n. n + one.0) (sym many))) ∙ home_is)
  ]
