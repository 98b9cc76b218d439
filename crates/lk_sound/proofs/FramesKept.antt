-- The frames of a thread as one of them comes, goes, or changes.
use Rattle.lk_facts.specs.declared.label_entry.LabelName.{LabelName}
use Rattle.std.proofs.Common.{◌≡◌, ℕ, ◌<◌, ◌-◌, suc, List, [], ◌∷◌, ◌++◌, length, take, Option, None, Some, refl, sym, ap, ◌∙◌, subst, inl, inr, ◌⊎◌, arith, length-append}
use Rattle.std.proofs.lemmas.Bool.{eqb-true}
use Rattle.std.proofs.lemmas.Option.{none-some, same_Some, slice_get_within, unwrap_or-slice_get, slice_get-get_or}
use Rattle.std.specs.Map.{lookup}
use Rattle.std.specs.Prelude.{slice_get, option_and_then, nat_eq}
use Rattle.lk_cells.specs.Frames.{given_by, with_given}
use Rattle.lk_cells.specs.declared.state.Frame.{Frame}
use Rattle.lk_change.specs.declared.change.Turn.{Turn}
use Rattle.lk_change.specs.declared.change.Turn.TheVariants as turn
use Rattle.lk_facts.specs.EdgeRules.{value, slot}
use Rattle.lk_facts.specs.Labels.{LabelTable}
use Rattle.lk_facts.specs.Program.{function_at}
use Rattle.lk_facts.specs.declared.edge.Edge.{Edge}
use Rattle.lk_facts.specs.declared.program.Program.{Program}
use Rattle.lk_meaning.specs.After.{turned, recorded}
use Rattle.lk_right.specs.Changes.{IsGivenRight, IsTurnRight}
use Rattle.lk_right.specs.Contexts.{Home, last_of}
use Rattle.lk_right.specs.Right.{IsPointerRight, IsRight}
use Rattle.lk_right.specs.Sound.{IsCalling, IsFrameSound, IsFrameSoundAt, AreFramesSound}
use Rattle.lk_sound.proofs.Elements.{left_there, was_left, get_last, split_last, front_and_last, put_found}
use Rattle.lk_sound.proofs.GrownRight.{Keeps, right_later, pointer_later}
use Rattle.lk_values.specs.declared.value.Value.{Value}

one_number : (a b : ℕ) → Some a ≡ Some b → a ≡ b
one_number a b h = cc

-- the context of the last frame stands at the end
pub last_context : (cs : List (List ℕ)) (n : ℕ) → length cs ≡ suc n → cs ≡ take (length cs - 1) cs ++ last_of cs ∷ []
last_context cs n many = front_and_last cs (last_of cs) (slice_get-get_or cs (length cs - 1) [] (omega (arith, many)) ∙ ap (λ c. Some c) (sym (unwrap_or-slice_get cs (length cs - 1) [])))

-- what a point gave, after a point gave something: what it gave before, or that
given_cases : (frame : Frame) (p q : ℕ) (v : Option Value) (w : Value) → given_by (with_given frame p v) q ≡ Some w → (given_by frame q ≡ Some w) ⊎ ((q ≡ p) × (v ≡ Some w))
given_cases frame p q v w is =
    elim (put_found nat_eq eqb-true put (λ k o. refl) (λ e es k o. refl) frame.values p q v (Some w) (whole (lookup (nat_eq q) (with_given frame p v).values) is)) [
      | inl was ↦ inl (ap (option_and_then (λ (given : Option Value). given)) was)
      | inr put ↦ inr (put.0, sym put.1)
    ]
  where
    put : List (ℕ × Option Value) → ℕ → Option Value → List (ℕ × Option Value)
    put es k o = (with_given (record frame { values = es }) k o).values

    whole : (o : Option (Option Value)) → option_and_then (λ (given : Option Value). given) o ≡ Some w → o ≡ Some (Some w)
    whole None h = absurd (none-some w h)
    whole (Some o) h = ap (λ (given : Option Value). Some given) h

module _ (program : Program) (labels : LabelTable) (es : List Edge) where
  abbrev Frames : List Home → List Frame → List (List ℕ) → Type 0
  Frames = AreFramesSound program labels es

  abbrev OfFrame : List Home → ℕ → List ℕ → Frame → Type 0
  OfFrame = IsFrameSound program labels es

  abbrev Right : List Home → Value → (LabelName → Type 0) → List ℕ → Type 0
  Right = IsRight program labels es

  -- ---- one frame

  pub frame_later : (homes later : List Home) → Keeps homes later → (f : ℕ) (c : List ℕ) (frame : Frame) → OfFrame homes f c frame → OfFrame later f c frame
  frame_later homes later keeps f c frame sound = record {
    stands = sound.stands;
    live = sound.live;
    slots = λ k v is. right_later program labels es homes later keeps v (slot program f k) (slot program f k) c (λ x h. h) (λ has. has) (sound.slots k v is);
    values = λ p v is. right_later program labels es homes later keeps v (value program p) (value program p) c (λ x h. h) (λ has. has) (sound.values p v is);
    locals = λ i local is. keeps local.object _ (sound.locals i local is);
    next = λ a p accesses is. pointer_later program labels es homes later keeps p (value program a) (value program a) c (λ x h. h) (sound.next a p accesses is);
  }

  module _ (homes : List Home) (f : ℕ) (c : List ℕ) (frame : Frame) (sound : OfFrame homes f c frame) where
    given_right : (v : Option Value) (p : ℕ) → IsGivenRight program labels es homes v p c → (q : ℕ) (w : Value) → given_by (with_given frame p v) q ≡ Some w → Right homes w (value program q) c
    given_right v p right q w is = elim (given_cases frame p q v w is) [
      | inl was ↦ sound.values q w was
      | inr put ↦ subst (λ n. Right homes w (value program n) c) (sym put.0) (subst (λ o. IsGivenRight program labels es homes o p c) put.1 right)
    ]

    -- a frame keeps what a point gave
    pub frame_given : (v : Option Value) (p : ℕ) → IsGivenRight program labels es homes v p c → OfFrame homes f c (with_given frame p v)
    frame_given v p right = record { stands = sound.stands; live = sound.live; slots = sound.slots; values = given_right v p right; locals = sound.locals; next = sound.next }

    pub frame_recorded : (v : Option Value) → IsGivenRight program labels es homes v frame.point c → OfFrame homes f c (recorded v frame)
    frame_recorded None right = sound
    frame_recorded (Some v) right = frame_given (Some v) frame.point right

    -- a frame goes where its point sends it
    pub frame_turned : (to : Turn) → IsTurnRight program labels es homes frame.point f c to → OfFrame homes f c (turned to frame)
    frame_turned (turn.To q) goes =
        record { stands = goes.stands; live = goes.live; slots = sound.slots; values = sound.values; locals = sound.locals; next = λ a p accesses is. absurd (none-some p is) }
    frame_turned (turn.OnAt next) goes = record {
      stands = sound.stands;
      live = sound.live;
      slots = sound.slots;
      values = sound.values;
      locals = sound.locals;
      next = λ a p accesses is. subst (λ n. IsPointerRight program labels es homes n (value program a) c) (same_Some next p is) (goes a accesses);
    }

  -- ---- lists of frames

  module _ (homes : List Home) where
    abbrev Sound : List Frame → List (List ℕ) → Type 0
    Sound frames cs = Frames homes frames cs

    -- who called the frame above these: the last of them, where there is one
    abbrev pub IsCalledBy : List Frame → List (List ℕ) → (g : ℕ) → List ℕ → Type 0
    IsCalledBy frames cs g d = (k : ℕ) (caller : Frame) (c : List ℕ) → length frames ≡ suc k → slice_get frames k ≡ Some caller → slice_get cs k ≡ Some c → IsCalling program caller c g d

    -- a frame comes on top
    pub pushed : (frames : List Frame) (cs : List (List ℕ)) (frame : Frame) (g : ℕ) (d : List ℕ) → Sound frames cs → OfFrame homes g d frame → IsCalledBy frames cs g d →
        Sound (frames ++ frame ∷ []) (cs ++ d ∷ [])
    pushed frames cs frame g d sound top called = record { many = many; each = each; calls = calls }
      where
        many : length (cs ++ d ∷ []) ≡ length (frames ++ frame ∷ [])
        many = let below = sound.many in let more = length-append cs (d ∷ []) in let framed = length-append frames (frame ∷ []) in omega (arith, below, more, framed)

        each : (j : ℕ) (x : Frame) → slice_get (frames ++ frame ∷ []) j ≡ Some x → IsFrameSoundAt program labels es homes (cs ++ d ∷ []) j x
        each j x is = elim (split_last frames frame j x is) [
          | inl old ↦
              let one = sound.each j x old in
              record { function = one.function; context = one.context; in_context = left_there cs (d ∷ []) j one.context one.in_context; sound = one.sound }
          | inr last ↦ record { function = g; context = d; in_context = get_last cs d j (last.0 ∙ sym sound.many); sound = subst (λ y. OfFrame homes g d y) (sym last.1) top }
        ]

        calls : (j h : ℕ) (caller callee : Frame) (c e : List ℕ) → slice_get (frames ++ frame ∷ []) j ≡ Some caller → slice_get (frames ++ frame ∷ []) (suc j) ≡ Some callee →
            slice_get (cs ++ d ∷ []) j ≡ Some c → slice_get (cs ++ d ∷ []) (suc j) ≡ Some e →
            function_at program callee.point ≡ Some h → IsCalling program caller c h e
        calls j h caller callee c e caller_is callee_is c_is e_is stands =
            let within = slice_get_within (frames ++ frame ∷ []) (suc j) callee callee_is in
            let framed = length-append frames (frame ∷ []) in
            let same = sound.many in
            let low : j < length frames = omega (arith, within, framed) in
            let low_too : j < length cs = omega (arith, low, same) in
            let old_caller = was_left frames (frame ∷ []) j caller low caller_is in
            let old_c = was_left cs (d ∷ []) j c low_too c_is in
            elim (split_last frames frame (suc j) callee callee_is) [
              | inl old ↦
                  let inside_too = slice_get_within frames (suc j) callee old in
                  sound.calls j h caller callee c e old_caller old old_c (was_left cs (d ∷ []) (suc j) e (omega (arith, inside_too, same)) e_is) stands
              | inr last ↦
                  let d_is : e ≡ d = same_Some e d (sym e_is ∙ get_last cs d (suc j) (last.0 ∙ sym same)) in
                  let h_is : g ≡ h = one_number g h (sym top.stands ∙ (ap (λ (x : Frame). function_at program x.point) (sym last.1) ∙ stands)) in
                  subst (λ z. IsCalling program caller c h z) (sym d_is) (subst (λ z. IsCalling program caller c z d) h_is (called j caller c (sym last.0) old_caller old_c))
            ]

    -- of frames with one on top
    module _ (frames : List Frame) (cs : List (List ℕ)) (frame : Frame) (d : List ℕ) (sound : Sound (frames ++ frame ∷ []) (cs ++ d ∷ [])) where
      as_many : length cs ≡ length frames
      as_many = let both = sound.many in let more = length-append cs (d ∷ []) in let framed = length-append frames (frame ∷ []) in omega (arith, both, more, framed)

      -- the one on top goes
      pub popped : Sound frames cs
      popped = record { many = as_many; each = each; calls = calls }
        where
          each : (j : ℕ) (x : Frame) → slice_get frames j ≡ Some x → IsFrameSoundAt program labels es homes cs j x
          each j x is =
              let one = sound.each j x (left_there frames (frame ∷ []) j x is) in
              let within = slice_get_within frames j x is in
              let same = as_many in
              record { function = one.function; context = one.context; in_context = was_left cs (d ∷ []) j one.context (omega (arith, within, same)) one.in_context; sound = one.sound }

          calls : (j h : ℕ) (caller callee : Frame) (c e : List ℕ) → slice_get frames j ≡ Some caller → slice_get frames (suc j) ≡ Some callee → slice_get cs j ≡ Some c →
              slice_get cs (suc j) ≡ Some e → function_at program callee.point ≡ Some h → IsCalling program caller c h e
          calls j h caller callee c e caller_is callee_is c_is e_is stands =
              sound.calls j h caller callee c e (left_there frames (frame ∷ []) j caller caller_is) (left_there frames (frame ∷ []) (suc j) callee callee_is)
              (left_there cs (d ∷ []) j c c_is) (left_there cs (d ∷ []) (suc j) e e_is) stands

      -- it is sound in the last context, as of the function in which it stands
      pub top_sound : (g : ℕ) → function_at program frame.point ≡ Some g → OfFrame homes g d frame
      top_sound g stands =
          let one = sound.each (length frames) frame (get_last frames frame (length frames) refl) in
          let d_is : one.context ≡ d = same_Some one.context d (sym one.in_context ∙ get_last cs d (length frames) (sym as_many)) in
          let g_is : one.function ≡ g = one_number one.function g (sym one.sound.stands ∙ stands) in
          subst (λ h. OfFrame homes h d frame) g_is (subst (λ e. OfFrame homes one.function e frame) d_is one.sound)

      -- and was called by the one below it
      pub top_called : (g : ℕ) → function_at program frame.point ≡ Some g → IsCalledBy frames cs g d
      top_called g stands k caller c many caller_is c_is =
          sound.calls k g caller frame c d (left_there frames (frame ∷ []) k caller caller_is) (get_last frames frame (suc k) (sym many))
          (left_there cs (d ∷ []) k c c_is) (get_last cs d (suc k) (sym many ∙ sym as_many)) stands

      -- another frame of the same function comes in its place
      pub replaced : (g : ℕ) (other : Frame) → function_at program frame.point ≡ Some g → OfFrame homes g d other → Sound (frames ++ other ∷ []) (cs ++ d ∷ [])
      replaced g other stands top = pushed frames cs other g d popped top (top_called g stands)

  pub frames_later : (homes later : List Home) → Keeps homes later → (frames : List Frame) (cs : List (List ℕ)) → Frames homes frames cs → Frames later frames cs
  frames_later homes later keeps frames cs sound = record { many = sound.many; each = each; calls = sound.calls }
    where
      each : (j : ℕ) (frame : Frame) → slice_get frames j ≡ Some frame → IsFrameSoundAt program labels es later cs j frame
      each j frame is =
          let one = sound.each j frame is in
          record { function = one.function; context = one.context; in_context = one.in_context; sound = frame_later homes later keeps one.function one.context frame one.sound }
