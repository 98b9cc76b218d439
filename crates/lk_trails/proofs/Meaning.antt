-- What labels mean goes out of functions: of what a label inside may be outside, one means the same place there.
use Rattle.std.proofs.Common.{◌≡◌, ℕ, true, List, [], inl, inr, refl, sym, subst, ◌∙◌}
use Rattle.std.proofs.lemmas.Bool.{false≢true}
use Rattle.lk_facts.specs.Basis.{Basis}
use Rattle.lk_facts.specs.Flow.{Flow, Over, RisesAs, IsHeldAs}
use Rattle.lk_facts.specs.Flow.IsHeldAs.{place, itself as by_itself}
use Rattle.lk_facts.specs.Labels.{LabelTable, is_origin_at}
use Rattle.lk_facts.specs.LockSets.{LockSets}
use Rattle.lk_facts.specs.PathTables.{IsClosed}
use Rattle.lk_facts.specs.declared.edge.Edge.{Edge}
use Rattle.lk_facts.specs.declared.way.Way.{Way}
use Rattle.lk_facts.specs.declared.way.Way.TheVariants.{Through, AsValue}
use Rattle.lk_laws.proofs.Walking.{up_down, over_call, over_value}
use Rattle.lk_trails.specs.Holding.{Owned, AreKept}
use Rattle.lk_trails.specs.Holding.AreKept.{none, before, own}
use Rattle.lk_trails.specs.Laws.{MeaningGoesOut}
use Rattle.lk_trails.specs.Named.{Means, Holds}
use Rattle.lk_trails.specs.Named.Means.{itself, flows}
use Rattle.lk_trails.specs.Trails.{Left, inside_of}
use Rattle.lk_trails.proofs.Statements.{HeldBegins, HeldStays, LocksGoOut}

module _ (es : List Edge) (labels : LabelTable) (flow : Flow) (closed : IsClosed es labels flow) where
  -- an origin that a label means may flow to it
  pub means_all : (o x : ℕ) (h c : List ℕ) → is_origin_at labels o ≡ true → Means labels es o h x c → flow.all x o ≡ true
  means_all o x h c is_origin (itself same) = subst (λ z. flow.all z o ≡ true) (sym same) (closed.inners o o (closed.starts o is_origin))
  means_all o x h c is_origin (flows walk) = up_down es labels flow closed o x h c is_origin walk

  -- a label that is the origin itself may be it outside, by whatever way
  own_outside : (o x : ℕ) (way : Way) → is_origin_at labels o ≡ true → x ≡ o → Over flow way x o
  own_outside o x (Through i) is_origin same = inl (subst (λ z. flow.inner z o ≡ true) (sym same) (closed.starts o is_origin))
  own_outside o x (AsValue i) is_origin same = inl (subst (λ z. flow.inner z o ≡ true) (sym same) (closed.starts o is_origin))

  pub meaning_out : (o x : ℕ) (h c : List ℕ) (way : Way) → is_origin_at labels o ≡ true → Means labels es o h x (inside_of way c) → (m : ℕ) × Over flow way x m × Means labels es o h m c
  meaning_out o x h c way is_origin (itself same) = (o, own_outside o x way is_origin same, itself refl)
  meaning_out o x h c (Through i) is_origin (flows walk) =
      let found = over_call es labels flow closed o x i h c is_origin walk in
      (found.0, found.1, elim found.2 [ inl same ↦ itself same | inr out ↦ flows out ])
  meaning_out o x h c (AsValue i) is_origin (flows walk) = (o, over_value es labels flow closed o x i h [] is_origin walk, itself refl)

  -- what stands in a lock set for a label means what the label means
  pub held_as : (o m x : ℕ) (h c : List ℕ) → is_origin_at labels o ≡ true → IsHeldAs flow m x → Means labels es o h m c → Means labels es o h x c
  held_as o m x h c is_origin (place only) means = itself (sym (only.only o (means_all o m h c is_origin means)))
  held_as o m x h c is_origin (by_itself others) means = means

  pub lock_out : (owned : ℕ → List ℕ → Type 0) (x y : ℕ) (c : List ℕ) (way : Way) → RisesAs flow way y x → Holds labels es owned y (inside_of way c) → Holds labels es owned x c
  lock_out owned x y c way (m, up, held) holds =
      let out = meaning_out holds.origin y holds.home c way holds.is_origin holds.means in
      let same : out.0 ≡ m = up.only out.0 out.1 in
      record {
        origin = holds.origin;
        home = holds.home;
        is_owned = holds.is_owned;
        is_origin = holds.is_origin;
        means = held_as holds.origin m x holds.home c holds.is_origin held (subst (λ z. Means labels es holds.origin holds.home z c) same out.2);
      }

pub meaning_goes_out : MeaningGoesOut
meaning_goes_out es labels flow closed o x h c way is_origin means = meaning_out es labels flow closed o x h c way is_origin means

pub locks_go_out : LocksGoOut
locks_go_out es labels flow closed owned x y c way rises holds = lock_out es labels flow closed owned x y c way rises holds

-- ---- a trail that doesn't move, and one that begins

module _ (basis : Basis) (es : List Edge) (held : LockSets) (old new : Owned basis es held) (on : (o : ℕ) (h : List ℕ) → old o h → new o h) where
  pub holds_on : (x : ℕ) (c : List ℕ) → Holds basis.labels es old x c → Holds basis.labels es new x c
  holds_on x c holds = record { origin = holds.origin; home = holds.home; is_owned = on holds.origin holds.home holds.is_owned; is_origin = holds.is_origin; means = holds.means }

  pub kept_on : {left : List Left} → AreKept basis es held old left → AreKept basis es held new left
  kept_on none = none
  kept_on (before x rest created kept) = before x rest created (kept_on kept)
  kept_on (own x rest holds kept) = own x rest (λ y keeps. holds_on y x.at.context (holds y keeps)) (kept_on kept)

pub held_stays : HeldStays
held_stays basis es held old new on t is = record {
  at = λ x there. holds_on basis es held old new on x t.top.context (is.at x there);
  kept = kept_on basis es held old new on is.kept;
}

pub held_begins : HeldBegins
held_begins basis es held closed owned f to entry = record {
  at = λ x there. absurd (false≢true (sym (closed.at.entries f to.point x entry) ∙ there));
  kept = none;
}
