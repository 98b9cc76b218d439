-- Labels that are the same lock in a function mean one and the same place there, which has one mutex.
use Rattle.std.proofs.Common.{◌≡◌, ◌⊎◌, ℕ, Bool, true, List, [], ◌∷◌, ◌++◌, Some, inl, inr, refl, sym, ap, subst, ◌∙◌}
use Rattle.lk_facts.specs.Basis.{Basis}
use Rattle.lk_facts.specs.Doing.{Runs}
use Rattle.lk_facts.specs.Doing.Starts.{create}
use Rattle.lk_facts.specs.Flow.{Up}
use Rattle.lk_facts.specs.Labels.{is_origin_at}
use Rattle.lk_facts.specs.Lowered.{IsLowered}
use Rattle.lk_facts.specs.Many.{IsLinear}
use Rattle.lk_facts.specs.PathTables.{IsClosed}
use Rattle.lk_facts.specs.Program.{function_at, value_site_of}
use Rattle.lk_facts.specs.declared.edge.Edge.{Edge}
use Rattle.lk_facts.specs.declared.effect.Effect.TheVariants as effect
use Rattle.lk_facts.specs.declared.way.Way.{Way}
use Rattle.lk_facts.specs.declared.way.Way.TheVariants.{Through, AsValue}
use Rattle.lk_order.specs.Mutexes.{Enters as Goes}
use Rattle.lk_order.specs.Same.{HasSite, MeanOneLock, MeanOneLockOver, Same, SameOver}
use Rattle.lk_order.specs.Same.HasSite.{entered, value}
use Rattle.lk_order.specs.Same.Same.{one_lock, outside}
use Rattle.lk_order.specs.Same.SameOver.{over}
use Rattle.lk_trails.proofs.Dropping.{one_function}
use Rattle.lk_trails.proofs.Linking.{linked_before}
use Rattle.lk_trails.proofs.Meaning.{means_all, meaning_out}
use Rattle.lk_trails.proofs.Onces.{goes_from, no_site, no_value}
use Rattle.lk_trails.proofs.Parting.{heads, tails, none_more}
use Rattle.lk_trails.specs.Named.{Means}
use Rattle.lk_trails.specs.Trails.{Left, Stay, trail, first_of, inside_of, Enters, GoesInto, IsFromMain, IsLinked}
use Rattle.lk_trails.specs.Trails.IsLinked.{only, more}

-- ---- the last frame that was left

-- a list is empty, or has a last element
ends : (left : List Left) → (left ≡ []) ⊎ ((front : List Left) × (x : Left) × (left ≡ front ++ x ∷ []))
ends [] = inl refl
ends (y ∷ left) = elim (ends left) [
  | inl none ↦ inr ([], y, ap (λ ls. y ∷ ls) none)
  | inr found ↦ inr (y ∷ found.0, found.1, ap (λ ls. y ∷ ls) found.2)
]

none_last : (front : List Left) (x : Left) → [] ≡ front ++ x ∷ [] → ⊥
none_last [] x h = none_more x [] (sym h)
none_last (y ∷ front) x h = none_more y (front ++ x ∷ []) (sym h)

pub first_behind : (front : List Left) (x : Left) (rest : List Left) (top : Stay) → first_of (front ++ x ∷ rest) top ≡ first_of front x.at
first_behind [] x rest top = refl
first_behind (y ∷ front) x rest top = refl

module _ (basis : Basis) where
  last_enters : {all : List Left} {top : Stay} → IsLinked basis all top → (front : List Left) (x : Left) → all ≡ front ++ x ∷ [] → Enters basis x.at x.created top
  last_enters (only top f live function) front x h = absurd (none_last front x h)
  last_enters (more y rest top into linked) [] x h =
      let first : first_of rest top ≡ top = ap (λ ls. first_of ls top) (tails y x rest [] h) in
      subst (λ (z : Left). Enters basis z.at z.created top) (heads y x rest [] h) (subst (λ (s : Stay). Enters basis y.at y.created s) first into)
  last_enters (more y rest top into linked) (z ∷ front) x h = last_enters linked front x (tails y z rest (front ++ x ∷ []) h)

  -- the trail to a frame that was left
  pub main_until : (front : List Left) (x : Left) (rest : List Left) (top : Stay) → IsFromMain basis (trail (front ++ x ∷ rest) top) → IsFromMain basis (trail front x.at)
  main_until front x rest top is =
      let first = first_behind front x rest top in
      record {
        linked = linked_before basis is.linked front x rest refl;
        main = subst (λ (s : Stay). function_at basis.program s.point ≡ Some basis.program.main) first is.main;
        empty = subst (λ (s : Stay). s.context ≡ []) first is.empty;
      }

  -- what goes into a function along a trail does so by the rules
  pub by_rules : {p f g : ℕ} {way : Way} {created : Bool} → GoesInto basis p f way g created → Goes basis p f way g
  by_rules (GoesInto.run runs) = Goes.run runs
  by_rules (GoesInto.start starts) = Goes.start starts

-- ---- one mutex

module _ (basis : Basis) (es : List Edge) where
  -- the label means the place in the context
  abbrev pub Meant : ℕ → List ℕ → ℕ → List ℕ → Type 0
  Meant o h x c = (is_origin_at basis.labels o ≡ true) × Means basis.labels es o h x c

  -- the place o has one mutex, and q is the same place
  abbrev pub IsTheOne : ℕ → ℕ → Type 0
  IsTheOne o q = IsLinear basis.program o × (q ≡ o)

  -- labels of a function mean one place, which has one mutex, where a trail from main leads into it
  abbrev pub MeanTheOne : ℕ → ℕ → ℕ → Type 0
  MeanTheOne f x y =
      (left : List Left) (s : Stay) → IsFromMain basis (trail left s) → function_at basis.program s.point ≡ Some f → (o q : ℕ) (h k : List ℕ) →
      Meant o h x s.context → Meant q k y s.context → IsTheOne o q

  -- and so do labels of a function into which one goes by the way
  abbrev pub MeanTheOneBy : ℕ → Way → ℕ → ℕ → Type 0
  MeanTheOneBy f way x y =
      (left : List Left) (s : Stay) → IsFromMain basis (trail left s) → function_at basis.program s.point ≡ Some f → (o q : ℕ) (h k : List ℕ) →
      Meant o h x (inside_of way s.context) → Meant q k y (inside_of way s.context) → IsTheOne o q

  module _ (closed : IsClosed es basis.labels basis.flow) where
    -- outside a way by which a label is one label alone that one means the same
    pub out_by : (o x m : ℕ) (h c : List ℕ) (way : Way) → Up basis.flow way x m → Meant o h x (inside_of way c) → Meant o h m c
    out_by o x m h c way up meant =
        let out = meaning_out es basis.labels basis.flow closed o x h c way meant.0 meant.1 in
        (meant.0, subst (λ z. Means basis.labels es o h z c) (up.only out.0 out.1) out.2)

    module _ (lowered : IsLowered basis.program) (linear : ℕ → Bool) (are_linear : (q : ℕ) → linear q ≡ true → IsLinear basis.program q) where
      no_main : HasSite basis linear basis.program.main → ⊥
      no_main (entered (Goes.run (Runs.call g i does site))) = no_site basis.program lowered _ (record { live = does.live; effect = effect.Runs g; is = does.is; enters = refl })
      no_main (entered (Goes.start (create g i does site))) = no_site basis.program lowered _ (record { live = does.live; effect = effect.Starts g; is = does.is; enters = refl })
      no_main (value {i = i} is) = no_value basis.program lowered i is

      one_place : (x y o q : ℕ) (h k c : List ℕ) → MeanOneLock basis linear x y → Meant o h x c → Meant q k y c → IsTheOne o q
      one_place x y o q h k c mean meant also =
          let o_is : o ≡ mean.place = mean.first.only o (means_all es basis.labels basis.flow closed o x h c meant.0 meant.1) in
          let q_is : q ≡ mean.place = mean.second.only q (means_all es basis.labels basis.flow closed q y k c also.0 also.1) in
          (subst (IsLinear basis.program) (sym o_is) (are_linear mean.place mean.one), q_is ∙ sym o_is)

      one_over : (f x y : ℕ) (way : Way) → MeanOneLockOver basis linear way x y → MeanTheOneBy f way x y
      one_over f x y way mean left s from stands o q h k meant also =
          one_place mean.first mean.second o q h k s.context mean.mean (out_by o x mean.first h s.context way mean.first_up meant) (out_by q y mean.second k s.context way mean.second_up also)

      over_one : (f x y m n : ℕ) (way : Way) → Up basis.flow way x m → Up basis.flow way y n → MeanTheOne f m n → MeanTheOneBy f way x y
      over_one f x y m n way first second one left s from stands o q h k meant also =
          one left s from stands o q h k (out_by o x m h s.context way first meant) (out_by q y n k s.context way second also)

      -- by the way by which the trail goes into the function
      by_way : (f x y : ℕ) → ((p g i : ℕ) → Goes basis p g (Through i) f → MeanTheOneBy g (Through i) x y) → ((i g : ℕ) → value_site_of basis.program f ≡ Some i → MeanTheOneBy g (AsValue i) x y) →
          {p g : ℕ} {way : Way} {created : Bool} → GoesInto basis p g way f created → MeanTheOneBy g way x y
      by_way f x y sites values {p = p} {g = g} (GoesInto.run (Runs.call _ i does site)) = sites p g i (Goes.run (Runs.call f i does site))
      by_way f x y sites values {p = p} {g = g} (GoesInto.run (Runs.pointer _ a i does may)) = values i g may.own_site
      by_way f x y sites values {p = p} {g = g} (GoesInto.start (create _ i does site)) = sites p g i (Goes.start (create f i does site))

      outside_one : (f x y : ℕ) → HasSite basis linear f → ((p g i : ℕ) → Goes basis p g (Through i) f → MeanTheOneBy g (Through i) x y) →
          ((i g : ℕ) → value_site_of basis.program f ≡ Some i → MeanTheOneBy g (AsValue i) x y) → MeanTheOne f x y
      outside_one f x y site sites values left s from stands o q h k meant also = elim (ends left) [
        | inl none ↦ absurd (no_main (subst (HasSite basis linear) (is_main none) site))
        | inr found ↦ behind found.0 found.1 found.2
      ]
        where
          is_main : left ≡ [] → f ≡ basis.program.main
          is_main none = one_function basis.program s.point f basis.program.main stands (subst (λ ls. function_at basis.program (first_of ls s).point ≡ Some basis.program.main) none from.main)

          behind : (front : List Left) (l : Left) → left ≡ front ++ l ∷ [] → IsTheOne o q
          behind front l is =
              let enters = last_enters basis from.linked front l is in
              let g_is : enters.g ≡ f = one_function basis.program s.point enters.g f enters.stands stands in
              let goes_in : GoesInto basis l.at.point enters.f enters.way f l.created = subst (λ g. GoesInto basis l.at.point enters.f enters.way g l.created) g_is enters.goes in
              by_way f x y sites values goes_in front l.at (main_until basis front l [] s (subst (λ ls. IsFromMain basis (trail ls s)) is from)) (goes_from basis enters.goes) o q h k
              (subst (Meant o h x) enters.inside meant) (subst (Meant q k y) enters.inside also)

      mutual
        -- labels that are the same in a function
        pub same_one : {f x y : ℕ} → Same basis linear f x y → MeanTheOne f x y
        same_one {x = x} {y = y} (one_lock mean) = λ left s from stands o q h k meant also. one_place x y o q h k s.context mean meant also
        same_one {f = f} {x = x} {y = y} (outside differ site sites values) =
            outside_one f x y site (λ p g i goes. over_same (sites p g i goes)) (λ i g is. one_over g x y (AsValue i) (values i is))

        over_same : {f x y : ℕ} {way : Way} → SameOver basis linear f way x y → MeanTheOneBy f way x y
        over_same {f = f} {x = x} {y = y} {way = way} (over {m = m} {n = n} first second same) = over_one f x y m n way first second (same_one same)
