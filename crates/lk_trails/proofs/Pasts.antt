-- Any two threads have parted in the frames that lead to them: so it stays, whatever a thread does next.
use Rattle.std.proofs.Common.{◌≡◌, ℕ, ◌+◌, Bool, true, false, List, [], ◌∷◌, ◌++◌, length-append, Some, inl, inr, refl, sym, ap, subst, ◌∙◌}
use Rattle.std.proofs.lemmas.List.{append_assoc, append-nil, length-set}
use Rattle.std.proofs.lemmas.Option.{same_Some}
use Rattle.std.specs.Prelude.{slice_get, slice_set}
use Rattle.lk_facts.specs.Basis.{Basis}
use Rattle.lk_facts.specs.Lowered.{IsLowered}
use Rattle.lk_facts.specs.Reach.{IsLiveNext}
use Rattle.lk_facts.specs.declared.program.Program.{Program}
use Rattle.lk_trails.specs.Laws.{PastsAreKept}
use Rattle.lk_trails.specs.Trails.{Act, Stay, Left, Trail, stay, left_at, trail, whole, HasCreation, Begins, IsFromMain, Moves, ArePast, IsBirth, ArePasts}
use Rattle.lk_trails.specs.Trails.Act.{other, inward}
use Rattle.lk_trails.specs.Trails.ArePast.{first, second}
use Rattle.lk_trails.specs.Trails.IsBirth.{later as born_later}
use Rattle.lk_trails.specs.Trails.Moves.{goes, calls, returns}
use Rattle.lk_trails.specs.Trails.TrailsMove.{still, one, creates}
use Rattle.lk_trails.proofs.Linking.{main_goes, main_enters, main_moves, birth_of}
use Rattle.lk_trails.proofs.Members.{put_cases, added_cases, both_added}
use Rattle.lk_trails.proofs.Parting.{creation_more, creation_less, no_creation, later_goes, later_enters, later_returns, earlier_enters, earlier_returns, creation_parts}

-- ---- two trails that have parted

module _ (program : Program) where
  other_way : {s t : Trail} → ArePast program s t → ArePast program t s
  other_way (first parts) = second parts
  other_way (second parts) = first parts

  past_goes : (left : List Left) (top : Stay) (q : ℕ) (t : Trail) → IsLiveNext program top.point q → ArePast program (trail left top) t → ArePast program (trail left (stay q top.context)) t
  past_goes left top q t next (first parts) = first parts
  past_goes left top q t next (second parts) = second (later_goes program parts q next)

  past_enters : (left : List Left) (top to : Stay) (created : Bool) (t : Trail) → ArePast program (trail left top) t → ArePast program (trail (left ++ left_at top created ∷ []) to) t
  past_enters left top to created t (first parts) = first (earlier_enters program parts (left_at top created))
  past_enters left top to created t (second parts) = second (later_enters program parts created to)

  past_returns : (left : List Left) (caller top : Stay) (q : ℕ) (t : Trail) → IsLiveNext program caller.point q → ArePast program (trail (left ++ left_at caller false ∷ []) top) t →
      ArePast program (trail left (stay q caller.context)) t
  past_returns left caller top q t next (first parts) = first (earlier_returns program parts left caller refl)
  past_returns left caller top q t next (second parts) = second (later_returns program parts left caller q refl next)

module _ (basis : Basis) where
  past_moves : {act : Act} {s t : Trail} → Moves basis act s t → (u : Trail) → ArePast basis.program s u → ArePast basis.program t u
  past_moves (goes left p q c runs next) u past = past_goes basis.program left (stay p c) q u next past
  past_moves (calls left top to begins) u past = past_enters basis.program left top to false u past
  past_moves (returns left caller top q enters return next) u past = past_returns basis.program left caller top q u next past

  -- the whole trail of a thread moves as its own frames do
  whole_moves : (born : List Left) → {act : Act} {s t : Trail} → Moves basis act s t → Moves basis act (whole born s) (whole born t)
  whole_moves born (goes left p q c runs next) = goes (born ++ left) p q c runs next
  whole_moves born (calls left top to begins) =
      subst (λ ls. Moves basis (inward begins.enters.g) (trail (born ++ left) top) (trail ls to)) (append_assoc born left (left_at top false ∷ [])) (calls (born ++ left) top to begins)
  whole_moves born (returns left caller top q enters return next) =
      subst (λ ls. Moves basis other (trail ls top) (trail (born ++ left) (stay q caller.context))) (append_assoc born left (left_at caller false ∷ []))
      (returns (born ++ left) caller top q enters return next)

  -- a thread's own frames were left by calls alone
  calls_alone : {act : Act} {s t : Trail} → Moves basis act s t → HasCreation t.left → HasCreation s.left
  calls_alone (goes left p q c runs next) created = created
  calls_alone (calls left top to begins) created = creation_less created left top refl
  calls_alone (returns left caller top q enters return next) created = creation_more created (left_at caller false)

  -- what is asked of a thread's trail, before a step of its own, is so of that after it
  record Follows (before after : Trail) : Type 0 where
    from_main : (b : List Left) → IsFromMain basis (whole b before) → IsFromMain basis (whole b after)
    own : HasCreation after.left → HasCreation before.left
    past : (b : List Left) (u : Trail) → ArePast basis.program (whole b before) u → ArePast basis.program (whole b after) u

  module _ (lowered : IsLowered basis.program) where
    moves_follow : {act : Act} (s t : Trail) → Moves basis act s t → Follows s t
    moves_follow s t moves = record {
      from_main = λ b is. main_moves basis lowered (whole_moves b moves) is;
      own = calls_alone moves;
      past = λ b u past. past_moves (whole_moves b moves) u past;
    }

    goes_follow : (left : List Left) (p q : ℕ) (c : List ℕ) → IsLiveNext basis.program p q → Follows (trail left (stay p c)) (trail left (stay q c))
    goes_follow left p q c next = record {
      from_main = λ b is. main_goes basis lowered (b ++ left) (stay p c) q next is;
      own = λ created. created;
      past = λ b u past. past_goes basis.program (b ++ left) (stay p c) q u next past;
    }

  -- ---- the trails of all threads: one moves

  module _ (born : List (List Left)) (t : ℕ) (old : List Trail) (are : ArePasts basis born old) (before after : Trail) (there : slice_get old t ≡ Some before) (follows : Follows before after) where
    main_followed : (u : ℕ) (b : List Left) (own : Trail) → slice_get born u ≡ Some b → slice_get (slice_set old t after) u ≡ Some own → IsFromMain basis (whole b own)
    main_followed u b own b_at at = elim (put_cases old t u after own at) [
      | inl (same, is) ↦ subst (λ o. IsFromMain basis (whole b o)) (sym is) (follows.from_main b (are.from_main t b before (subst (λ n. slice_get born n ≡ Some b) same b_at) there))
      | inr (differ, was) ↦ are.from_main u b own b_at was
    ]

    own_followed : (u : ℕ) (own : Trail) → slice_get (slice_set old t after) u ≡ Some own → HasCreation own.left → ⊥
    own_followed u own at created = elim (put_cases old t u after own at) [
      | inl (same, is) ↦ are.own t before there (follows.own (subst (λ (o : Trail). HasCreation o.left) is created))
      | inr (differ, was) ↦ are.own u own was created
    ]

    -- the one that moved, and another one
    past_mine : (u v : ℕ) (b d : List Left) (s x : Trail) → u ≡ t → s ≡ after → (v ≡ t → ⊥) → slice_get born u ≡ Some b → slice_get born v ≡ Some d → slice_get old v ≡ Some x →
        ArePast basis.program (whole b s) (whole d x)
    past_mine u v b d s x same is differ b_at d_at x_at =
        let b_there = subst (λ n. slice_get born n ≡ Some b) same b_at in
        subst (λ o. ArePast basis.program (whole b o) (whole d x)) (sym is) (follows.past b (whole d x) (are.past t v b d before x (λ h. differ (sym h)) b_there there d_at x_at))

    past_followed : (u v : ℕ) (b d : List Left) (s x : Trail) → (u ≡ v → ⊥) → slice_get born u ≡ Some b → slice_get (slice_set old t after) u ≡ Some s → slice_get born v ≡ Some d →
        slice_get (slice_set old t after) v ≡ Some x → ArePast basis.program (whole b s) (whole d x)
    past_followed u v b d s x apart b_at s_at d_at x_at = elim (put_cases old t u after s s_at) [
      | inl (same, is) ↦ elim (put_cases old t v after x x_at) [
        | inl (same', is') ↦ absurd (apart (same ∙ sym same'))
        | inr (differ, was) ↦ past_mine u v b d s x same is differ b_at d_at was
      ]
      | inr (differ, was) ↦ elim (put_cases old t v after x x_at) [
        | inl (same, is) ↦ other_way basis.program (past_mine v u d b x s same is differ d_at b_at was)
        | inr (differ', was') ↦ are.past u v b d s x apart b_at was d_at was'
      ]
    ]

    one_follows : ArePasts basis born (slice_set old t after)
    one_follows = record {
      many = are.many ∙ sym (length-set old t after);
      births = are.births;
      from_main = main_followed;
      own = own_followed;
      past = past_followed;
    }

  -- ---- another one begins

  module _ (born : List (List Left)) (trails : List Trail) (are : ArePasts basis born trails) (b : List Left) (own : Trail) (birth : IsBirth b)
      (from_main : IsFromMain basis (whole b own)) (alone : HasCreation own.left → ⊥)
      (parted : (u : ℕ) (d : List Left) (x : Trail) → slice_get born u ≡ Some d → slice_get trails u ≡ Some x → ArePast basis.program (whole b own) (whole d x)) where
    one_more : ArePasts basis (born ++ b ∷ []) (trails ++ own ∷ [])
    one_more = record {
      many = length-append born (b ∷ []) ∙ (ap (λ n. n + 1) are.many ∙ sym (length-append trails (own ∷ [])));
      births = λ u d d_at. elim (added_cases born b u d d_at) [
        | inl was ↦ are.births u d was
        | inr last ↦ subst IsBirth (sym last.1) birth
      ];
      from_main = λ u d x d_at x_at. elim (both_added born trails b own u d x are.many d_at x_at) [
        | inl was ↦ are.from_main u d x was.0 was.1
        | inr (last, d_is, x_is) ↦ subst (λ ls. IsFromMain basis (whole ls x)) (sym d_is) (subst (λ o. IsFromMain basis (whole b o)) (sym x_is) from_main)
      ];
      own = λ u x x_at created. elim (added_cases trails own u x x_at) [
        | inl was ↦ are.own u x was created
        | inr last ↦ alone (subst (λ (o : Trail). HasCreation o.left) last.1 created)
      ];
      past = λ u v d e x y apart d_at x_at e_at y_at. elim (both_added born trails b own u d x are.many d_at x_at) [
        | inl was ↦ elim (both_added born trails b own v e y are.many e_at y_at) [
          | inl was' ↦ are.past u v d e x y apart was.0 was.1 was'.0 was'.1
          | inr (last, e_is, y_is) ↦ other_way basis.program (with_new u d x e y was.0 was.1 e_is y_is)
        ]
        | inr (last, d_is, x_is) ↦ elim (both_added born trails b own v e y are.many e_at y_at) [
          | inl was ↦ with_new v e y d x was.0 was.1 d_is x_is
          | inr (last', e_is, y_is) ↦ absurd (apart (last ∙ sym last'))
        ]
      ];
    }
      where
        with_new : (u : ℕ) (d : List Left) (x : Trail) (e : List Left) (y : Trail) → slice_get born u ≡ Some d → slice_get trails u ≡ Some x → e ≡ b → y ≡ own →
            ArePast basis.program (whole e y) (whole d x)
        with_new u d x e y d_at x_at e_is y_is =
            subst (λ ls. ArePast basis.program (whole ls y) (whole d x)) (sym e_is) (subst (λ o. ArePast basis.program (whole b o) (whole d x)) (sym y_is) (parted u d x d_at x_at))

  -- ---- a thread begins another one, and goes on

  module _ (lowered : IsLowered basis.program) (born : List (List Left)) (t : ℕ) (old : List Trail) (are : ArePasts basis born old)
      (left : List Left) (p q : ℕ) (c : List ℕ) (to : Stay) (b : List Left)
      (there : slice_get old t ≡ Some (trail left (stay p c))) (b_there : slice_get born t ≡ Some b) (next : IsLiveNext basis.program p q) (begins : Begins basis (stay p c) true to) where
    -- the trail to the creation
    abbrev birth : List Left
    birth = b ++ left ++ left_at (stay p c) true ∷ []

    abbrev gone : List Trail
    gone = slice_set old t (trail left (stay q c))

    gone_are : ArePasts basis born gone
    gone_are = one_follows born t old are (trail left (stay p c)) (trail left (stay q c)) there (goes_follow lowered left p q c next)

    -- it has parted from each other one, and from that which began it
    new_parted : (u : ℕ) (d : List Left) (x : Trail) → slice_get born u ≡ Some d → slice_get gone u ≡ Some x → ArePast basis.program (trail birth to) (whole d x)
    new_parted u d x d_at x_at = elim (put_cases old t u (trail left (stay q c)) x x_at) [
      | inl (same, is) ↦
          let d_is : b ≡ d = same_Some b d (sym b_there ∙ subst (λ n. slice_get born n ≡ Some d) same d_at) in
          subst (λ ls. ArePast basis.program (trail birth to) (whole ls x)) d_is
          (subst (λ o. ArePast basis.program (trail birth to) (whole b o)) (sym is) (first (creation_parts basis.program (b ++ left) (stay p c) q next)))
      | inr (differ, was) ↦ past_enters basis.program (b ++ left) (stay p c) to true (whole d x) (are.past t u b d (trail left (stay p c)) x (λ h. differ (sym h)) b_there there d_at was)
    ]

    begun : ArePasts basis (born ++ birth ∷ []) (gone ++ trail [] to ∷ [])
    begun = one_more born gone gone_are birth (trail [] to) (born_later (b ++ left) (left_at (stay p c) true) refl)
        (subst (λ ls. IsFromMain basis (trail ls to)) (sym (append-nil birth))
        (main_enters basis lowered (b ++ left) (stay p c) to true begins (are.from_main t b (trail left (stay p c)) b_there there)))
        (λ created. no_creation created refl)
        (λ u d x d_at x_at. subst (λ ls. ArePast basis.program (trail ls to) (whole d x)) (sym (append-nil birth)) (new_parted u d x d_at x_at))

pub pasts_are_kept : PastsAreKept
pasts_are_kept basis lowered born t old new act are (still same frees) = (born, subst (λ trails. ArePasts basis born trails) (sym same) are)
pasts_are_kept basis lowered born t old new act are (one before after there moves same) =
    (born, subst (λ trails. ArePasts basis born trails) (sym same) (one_follows basis born t old are before after there (moves_follow basis lowered before after moves)))
pasts_are_kept basis lowered born t old new act are (creates left p q c to there next begins same) =
    let b = birth_of basis born old are t (trail left (stay p c)) there in
    let later = born ++ (b.0 ++ left ++ left_at (stay p c) true ∷ []) ∷ [] in
    (later, subst (λ trails. ArePasts basis later trails) (sym same) (begun basis lowered born t old are left p q c to b.0 there b.1 next begins))
