-- Labels of a frame that rise to those of a frame below it, and that they aren't dropped where the frame stands.
use Rattle.std.proofs.Common.{◌≡◌, ◌⊎◌, ℕ, true, false, List, [], ◌∷◌, ◌++◌, Some, inl, inr, refl, sym, ap, subst, ◌∙◌}
use Rattle.std.proofs.lemmas.Option.{same_Some}
use Rattle.lk_facts.specs.Basis.{Basis}
use Rattle.lk_facts.specs.Flow.{IsHeldAs, MeansOnly, RisesAs, Up}
use Rattle.lk_facts.specs.Flow.IsHeldAs.{place, itself as by_itself}
use Rattle.lk_facts.specs.Held.{RunsNone}
use Rattle.lk_facts.specs.Lowered.{IsLowered}
use Rattle.lk_facts.specs.PathTables.{IsClosed}
use Rattle.lk_facts.specs.Program.{exit_of, live_at}
use Rattle.lk_facts.specs.Reach.{IsNext, IsLiveNext}
use Rattle.lk_facts.specs.declared.edge.Edge.{Edge}
use Rattle.lk_facts.specs.declared.way.Way.{Way}
use Rattle.lk_circles.proofs.Points.{next_live, return_goes_none, return_runs_none, runs_goes_none}
use Rattle.lk_circles.proofs.Sames.{Meant, IsTheOne, out_by}
use Rattle.lk_order.specs.Dropped.{NotDropped}
use Rattle.lk_order.specs.Dropped.NotDropped.{entry, still}
use Rattle.lk_order.specs.Dropped.Spares.{runs_none, not_from}
use Rattle.lk_order.specs.Mutexes.{LetsGo}
use Rattle.lk_trails.proofs.Dropping.{one_function, runs_of, runs_live}
use Rattle.lk_trails.proofs.Linking.{entry_live}
use Rattle.lk_trails.proofs.Meaning.{means_all}
use Rattle.lk_trails.specs.Named.{Means}
use Rattle.lk_trails.specs.Named.Means.{itself}
use Rattle.lk_trails.specs.Trails.{Left, Stay, stay, left_at, inside_of, Begins, Enters, IsReturn}

-- ---- labels that rise

module _ (basis : Basis) (es : List Edge) where
  -- y is a name of m: itself, or the one place that it can mean
  abbrev pub IsNamed : ℕ → ℕ → Type 0
  IsNamed m y = (y ≡ m) ⊎ MeansOnly basis.flow m y

  -- outside the way z is one label alone, of which some name has the property
  abbrev pub RisesTo : (ℕ → Type 0) → Way → ℕ → Type 0
  RisesTo P way z = (m y : ℕ) × Up basis.flow way z m × IsNamed m y × P y

  pub rises_named : (P : ℕ → Type 0) (way : Way) (z y : ℕ) → RisesAs basis.flow way z y → P y → RisesTo P way z
  rises_named P way z y (m, up, held) is = (m, y, up, named held, is)
    where
      named : {m y : ℕ} → IsHeldAs basis.flow m y → IsNamed m y
      named (place only) = inr only
      named (by_itself others) = inl refl

  -- no label with the property was dropped on the way to where a frame stands
  abbrev pub IsSpared : (ℕ → Type 0) → ℕ → Type 0
  IsSpared P p = (z : ℕ) → P z → NotDropped basis p z

  -- nor is one that rises to such a label, in any frame from the next one on
  abbrev pub AreSpared : (ℕ → Type 0) → Stay → List Left → Stay → Type 0
  AreSpared P out [] top = (into : Enters basis out false top) → IsSpared (RisesTo P into.way) top.point
  AreSpared P out (x ∷ rest) top =
      (into : Enters basis out false x.at) → IsSpared (RisesTo P into.way) x.at.point × AreSpared (RisesTo P into.way) x.at rest top

  -- what these labels mean in the context is the place o, which has one mutex
  abbrev pub AreTheOne : (ℕ → Type 0) → List ℕ → ℕ → Type 0
  AreTheOne P c o = (y q : ℕ) (k : List ℕ) → P y → Meant basis es q k y c → IsTheOne basis es o q

  -- The point lets no mutex go at the place o, where that has one mutex: its label means another place.
  abbrev pub GoesElsewhere : ℕ → Stay → Type 0
  GoesElsewhere o s = (f y : ℕ) → LetsGo basis s.point f y → (q : ℕ) × (k : List ℕ) × Meant basis es q k y s.context × (IsTheOne basis es o q → ⊥)

  spares_one : (P : ℕ → Type 0) (o : ℕ) (s : Stay) → AreTheOne P s.context o → GoesElsewhere o s → (y : ℕ) → P y → (f : ℕ) → LetsGo basis s.point f y → ⊥
  spares_one P o s one elsewhere y is f goes = let found = elsewhere f y goes in found.3 (one y found.0 found.1 is found.2)

  module _ (closed : IsClosed es basis.labels basis.flow) (lowered : IsLowered basis.program) where
    named_means : (q m y : ℕ) (k c : List ℕ) → IsNamed m y → Meant basis es q k m c → Meant basis es q k y c
    named_means q m y k c (inl same) meant = (meant.0, subst (λ z. Means basis.labels es q k z c) (sym same) meant.1)
    named_means q m y k c (inr only) meant = (meant.0, itself (sym (only.only q (means_all es basis.labels basis.flow closed q m k c meant.0 meant.1))))

    pub one_rises : (P : ℕ → Type 0) (way : Way) (c : List ℕ) (o : ℕ) → AreTheOne P c o → AreTheOne (RisesTo P way) (inside_of way c) o
    one_rises P way c o one z q k (m, y, up, named, is) meant = one y q k is (named_means q m y k c named (out_by basis es closed q z m k c way up meant))

    one_inside : (P : ℕ → Type 0) (out to : Stay) (o : ℕ) → AreTheOne P out.context o → (into : Enters basis out false to) → AreTheOne (RisesTo P into.way) to.context o
    one_inside P out to o one into = subst (λ c. AreTheOne (RisesTo P into.way) c o) (sym into.inside) (one_rises P into.way out.context o one)

    abbrev came : (out : Stay) (p q : ℕ) (c : List ℕ) → IsNext basis.program p q → Enters basis out false (stay q c) → Enters basis out false (stay p c)
    came out p q c next into = record {
      f = into.f;
      g = into.g;
      way = into.way;
      goes = into.goes;
      stands = sym (lowered.successors p q next) ∙ into.stands;
      inside = into.inside;
    }

    -- ---- the last frame goes on

    pub spared_goes : (o p q : ℕ) (c : List ℕ) → live_at basis.program p ≡ true → RunsNone basis p → IsLiveNext basis.program p q → GoesElsewhere o (stay p c) →
        (P : ℕ → Type 0) (out : Stay) (left : List Left) → AreTheOne P out.context o → AreSpared P out left (stay p c) → AreSpared P out left (stay q c)
    spared_goes o p q c live runs next elsewhere P out [] one spared = λ into z rises.
        let was = came out p q c next.0 into in
        still live next (runs_none (spares_one (RisesTo P into.way) o (stay p c) (one_inside P out (stay p c) o one was) elsewhere z rises) runs) (spared was z rises)
    spared_goes o p q c live runs next elsewhere P out (x ∷ rest) one spared = λ into. (
      (spared into).0,
      spared_goes o p q c live runs next elsewhere (RisesTo P into.way) x.at rest (one_inside P out x.at o one into) (spared into).1,
    )

    -- ---- it calls

    pub spared_calls : (top to : Stay) → Begins basis top false to → (P : ℕ → Type 0) (out : Stay) (left : List Left) → AreSpared P out left top →
        AreSpared P out (left ++ left_at top false ∷ []) to
    spared_calls top to begins P out [] spared = λ into. (spared into, λ also z rises. entry begins.enters.g (entry_live basis lowered begins.enters.g to.point begins.entry) begins.entry)
    spared_calls top to begins P out (x ∷ rest) spared = λ into. ((spared into).0, spared_calls top to begins (RisesTo P into.way) x.at rest (spared into).1)

    -- ---- it returns

    module _ (caller top : Stay) (into : Enters basis caller false top) (return : IsReturn basis top.point) where
      -- the exit to which a return leads is live
      pub exit_live : live_at basis.program return.exit ≡ true
      exit_live = next_live basis.program lowered top.point return.exit return.live return.next

      -- what isn't dropped at the return isn't dropped at the exit
      pub spared_exit : (z e : ℕ) → exit_of basis.program into.g ≡ Some e → NotDropped basis top.point z → NotDropped basis e z
      spared_exit z e exits spared =
          let same : return.g ≡ into.g = one_function basis.program top.point return.g into.g return.stands into.stands in
          let exit : return.exit ≡ e = same_Some return.exit e (sym return.exits ∙ ap (λ n. exit_of basis.program n) same ∙ exits) in
          subst (λ n. NotDropped basis n z) exit (still return.live (return.next, exit_live) (runs_none (λ f. return_goes_none basis lowered return f z) (return_runs_none basis return)) spared)

      spared_back : (q : ℕ) → IsLiveNext basis.program caller.point q → (P : ℕ → Type 0) → IsSpared P caller.point → IsSpared (RisesTo P into.way) top.point → IsSpared P q
      spared_back q next P outside inside z is =
          let runs = runs_of basis into.goes refl in
          still (runs_live basis runs) next
          (not_from (λ f. runs_goes_none basis runs f z) runs (λ y e lock rises exits. spared_exit y e exits (inside y (rises_named P into.way y z rises is)))) (outside z is)

      pub spared_returns : (q : ℕ) → IsLiveNext basis.program caller.point q → (P : ℕ → Type 0) (out : Stay) (left : List Left) →
          AreSpared P out (left ++ left_at caller false ∷ []) top → AreSpared P out left (stay q caller.context)
      spared_returns q next P out [] spared = λ to.
          let was = came out caller.point q caller.context next.0 to in
          spared_back q next (RisesTo P to.way) (spared was).0 ((spared was).1 into)
      spared_returns q next P out (x ∷ rest) spared = λ to. ((spared to).0, spared_returns q next (RisesTo P to.way) x.at rest (spared to).1)
