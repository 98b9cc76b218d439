-- The threads of a state as they come, and as one of them changes.
use Rattle.std.proofs.Common.{◌≡◌, ℕ, List, [], ◌∷◌, ◌++◌, length, Some, refl, sym, ◌∙◌, subst, inl, inr, arith}
use Rattle.std.proofs.lemmas.Option.{none-some, same_Some, slice_get_within}
use Rattle.std.specs.Prelude.{slice_get}
use Rattle.lk_birth.specs.Births.{changed_at, new_thread}
use Rattle.lk_cells.specs.declared.state.Frame.{Frame}
use Rattle.lk_cells.specs.declared.state.Thread.{Thread}
use Rattle.lk_facts.specs.Labels.{LabelTable}
use Rattle.lk_facts.specs.declared.edge.Edge.{Edge}
use Rattle.lk_facts.specs.declared.program.Program.{Program}
use Rattle.lk_meaning.proofs.Reading.{is_same}
use Rattle.lk_right.specs.Contexts.{Home, frames_of}
use Rattle.lk_right.specs.Sound.{IsFrameSound, AreFramesSound}
use Rattle.lk_sound.proofs.Elements.{split_last, was_left, changed_other, changed_from, get_last}
use Rattle.lk_sound.proofs.FramesKept.{frames_later, pushed}
use Rattle.lk_sound.proofs.GrownRight.{Keeps}

module _ (program : Program) (labels : LabelTable) (es : List Edge) where
  abbrev Frames : List Home → List Frame → List (List ℕ) → Type 0
  Frames = AreFramesSound program labels es

  -- the frames of each thread are sound, in the contexts of that thread
  abbrev pub AreThreadsSound : List Home → List Thread → List (List (List ℕ)) → Type 0
  AreThreadsSound homes threads frames = (t : ℕ) (thread : Thread) (cs : List (List ℕ)) → slice_get threads t ≡ Some thread → slice_get frames t ≡ Some cs → Frames homes (frames_of thread) cs

  pub threads_later : (homes later : List Home) → Keeps homes later → (threads : List Thread) (frames : List (List (List ℕ))) → AreThreadsSound homes threads frames →
      AreThreadsSound later threads frames
  threads_later homes later keeps threads frames sound t thread cs there in_contexts = frames_later program labels es homes later keeps (frames_of thread) cs (sound t thread cs there in_contexts)

  module _ (homes : List Home) (threads : List Thread) (frames : List (List (List ℕ))) (i : ℕ) (sound : AreThreadsSound homes threads frames) where
    -- a thread changes, and its contexts with it
    both_changed : (f : Thread → Thread) (g : List (List ℕ) → List (List ℕ)) →
        ((thread : Thread) (cs : List (List ℕ)) → slice_get threads i ≡ Some thread → slice_get frames i ≡ Some cs → Frames homes (frames_of (f thread)) (g cs)) →
        AreThreadsSound homes (changed_at threads i f) (changed_at frames i g)
    both_changed f g kept t thread cs there in_contexts = elim (is_same t i) [
      | inl same ↦
          let one = changed_from threads i f thread (subst (λ n. slice_get (changed_at threads i f) n ≡ Some thread) same there) in
          let context = changed_from frames i g cs (subst (λ n. slice_get (changed_at frames i g) n ≡ Some cs) same in_contexts) in
          subst (λ x. Frames homes (frames_of x) cs) (sym one.2) (subst (λ ds. Frames homes (frames_of (f one.0)) ds) (sym context.2) (kept one.0 context.0 one.1 context.1))
      | inr other ↦ sound t thread cs (sym (changed_other threads i t f other) ∙ there) (sym (changed_other frames i t g other) ∙ in_contexts)
    ]

    -- a thread changes, and its contexts stay
    pub one_changed : (f : Thread → Thread) →
        ((thread : Thread) (cs : List (List ℕ)) → slice_get threads i ≡ Some thread → slice_get frames i ≡ Some cs → Frames homes (frames_of (f thread)) cs) →
        AreThreadsSound homes (changed_at threads i f) frames
    one_changed f kept t thread cs there in_contexts = elim (is_same t i) [
      | inl same ↦
          let one = changed_from threads i f thread (subst (λ n. slice_get (changed_at threads i f) n ≡ Some thread) same there) in
          subst (λ x. Frames homes (frames_of x) cs) (sym one.2) (kept one.0 cs one.1 (subst (λ n. slice_get frames n ≡ Some cs) same in_contexts))
      | inr other ↦ sound t thread cs (sym (changed_other threads i t f other) ∙ there) in_contexts
    ]

    -- a thread whose frames stay as they are
    pub other_changed : (f : Thread → Thread) → ((thread : Thread) → frames_of (f thread) ≡ frames_of thread) → AreThreadsSound homes (changed_at threads i f) frames
    other_changed f same = one_changed f (λ thread cs there in_contexts. subst (λ fs. Frames homes fs cs) (sym (same thread)) (sound i thread cs there in_contexts))

    -- the same of a thread that is known
    module _ (own : Thread) (own_cs : List (List ℕ)) (own_there : slice_get threads i ≡ Some own) (own_contexts : slice_get frames i ≡ Some own_cs) where
      pub known_changed : (f : Thread → Thread) → Frames homes (frames_of (f own)) own_cs → AreThreadsSound homes (changed_at threads i f) frames
      known_changed f kept = one_changed f (λ thread cs there in_contexts.
          subst (λ x. Frames homes (frames_of (f x)) cs) (same_Some own thread (sym own_there ∙ there))
          (subst (λ ds. Frames homes (frames_of (f own)) ds) (same_Some own_cs cs (sym own_contexts ∙ in_contexts)) kept))

      pub known_both : (f : Thread → Thread) (g : List (List ℕ) → List (List ℕ)) → Frames homes (frames_of (f own)) (g own_cs) → AreThreadsSound homes (changed_at threads i f) (changed_at frames i g)
      known_both f g kept = both_changed f g (λ thread cs there in_contexts.
          subst (λ x. Frames homes (frames_of (f x)) (g cs)) (same_Some own thread (sym own_there ∙ there))
          (subst (λ ds. Frames homes (frames_of (f own)) (g ds)) (same_Some own_cs cs (sym own_contexts ∙ in_contexts)) kept))

  -- a thread comes that has one frame
  pub thread_added : (homes : List Home) (threads : List Thread) (frames : List (List (List ℕ))) (frame : Frame) (g : ℕ) (d : List ℕ) → length frames ≡ length threads →
      AreThreadsSound homes threads frames → IsFrameSound program labels es homes g d frame →
      AreThreadsSound homes (threads ++ new_thread frame ∷ []) (frames ++ (d ∷ []) ∷ [])
  thread_added homes threads frames frame g d many sound top t thread cs there in_contexts = elim (split_last threads (new_thread frame) t thread there) [
    | inl old ↦
        let within = slice_get_within threads t thread old in
        sound t thread cs old (was_left frames ((d ∷ []) ∷ []) t cs (omega (arith, within, many)) in_contexts)
    | inr last ↦
        let cs_is : cs ≡ d ∷ [] = same_Some cs (d ∷ []) (sym in_contexts ∙ get_last frames (d ∷ []) t (last.0 ∙ sym many)) in
        subst (λ x. Frames homes (frames_of x) cs) (sym last.1) (subst (λ ds. Frames homes (frame ∷ []) ds) (sym cs_is) one_frame)
  ]
    where
      nothing : Frames homes [] []
      nothing = record {
        many = refl;
        each = λ j x is. absurd (none-some x is);
        calls = λ j h caller callee c e caller_is callee_is c_is e_is stands. absurd (none-some caller caller_is);
      }

      one_frame : Frames homes (frame ∷ []) (d ∷ [])
      one_frame = pushed program labels es homes [] [] frame g d nothing top (λ k caller c called caller_is c_is. absurd (none-some caller caller_is))
