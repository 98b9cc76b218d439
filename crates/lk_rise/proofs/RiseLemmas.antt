-- What has risen: from the given items, and when nothing changes any more.
use Rattle.std.proofs.Common.{◌≡◌, ◌<◌, ◌+◌, ◌||◌, ℕ, Bool, true, false, List, [], Some, Contains, length, is_some, refl, sym, ap, ◌∙◌, subst, ⊎_elim, inl, inr, slice_get, below_more, arith}
use Rattle.std.specs.Option.{option_map_or, unwrap_or}
use Rattle.std.proofs.lemmas.Bool.{false≢true}
use Rattle.std.proofs.lemmas.List.Elements.{All-nil}
use Rattle.std.proofs.lemmas.Option.{slice_get_within, slice_get_read, get_or_from_slice_get}
use Rattle.lk_facts.specs.Analysis.{held_table}
use Rattle.lk_facts.specs.Facts.{basis_of}
use Rattle.lk_facts.specs.Items.{Rises, HasLock}
use Rattle.lk_facts.specs.Origins.{flow_of}
use Rattle.lk_facts.specs.declared.source.Source.TheVariants.{ItemBelow}
use Rattle.lk_facts.specs.declared.way.Way.{Way}
use Rattle.lk_rise.specs.declared.correlations.Correlation.{Correlation}
use Rattle.lk_links.specs.declared.link.Link.{Link}
use Rattle.lk_rise.specs.Correlations.{item_of, set_of, has_item, has_lock, locks_of, AreInRange, IsEntryInRange}
use Rattle.lk_rise.specs.Links.{AreLinksInto, links_into}
use Rattle.lk_rise.specs.Rising.{Carries, AreRisen, subjects_below}
use Rattle.lk_rise.specs.Rising.Risen.{based, risen}
use Rattle.lk_rise.specs.Tables.{Setting, Fits, Offered, HasRisen, IsSound, Grows, Steps, HasPassed, HasMet, IsSettled, HasBased, weight}
use Rattle.lk_rise.proofs.ListLemmas.{none_there}
use Rattle.lk_rise.proofs.PassLemmas.{stays_passed, stays_settled}
use Rattle.lk_rise.proofs.TableLemmas.{item_known}
use Rattle.lk_rise.proofs.WorkLemmas.{offered_grows}
use Rattle.lk_sets.specs.Ids.{has_id}

-- a table of no items
pub none_sound : (s : Setting) → IsSound s []
none_sound s = record {
  in_range = All-nil _;
  items = λ item there. absurd (false≢true there);
  locks = λ other allowed item y there. absurd (false≢true there);
}

module _ (s : Setting) (ranged : AreInRange s.facts (subjects_below s.facts s.subjects) s.base) where
  -- a given item fits
  base_fits : (i : ℕ) (item : Correlation) (set : List ℕ) → slice_get s.base i ≡ Some (item, set) → Fits s item set
  base_fits i item set at =
      let within = slice_get_within s.base i (item, set) at in
      let here = get_or_from_slice_get s.base i (item, set) (item, set) at in
      let contains : Contains s.base (item, set) = (i, within, here) in
      record {
        risen = based set contains;
        locks = λ other allowed y lock. allowed.based item set y contains lock;
        in_range = subst (IsEntryInRange s.facts (subjects_below s.facts s.subjects)) here (ranged i (item, set) within);
      }

  -- and is there once it was offered
  pub base_more : (i : ℕ) (item : Correlation) (set : List ℕ) (mid new : List (Correlation × List ℕ)) (fewer : Bool) → slice_get s.base i ≡ Some (item, set) →
      ((k : ℕ) → k < i → HasBased s k mid) → Offered mid new item set fewer → Grows s mid new × ((k : ℕ) → k < i + 1 → HasBased s k new)
  base_more i item set mid new fewer at before offered =
      let step = offered_grows s mid new item set fewer (base_fits i item set at) offered in (
        step.0,
        below_more (λ k. HasBased s k new) i
            (λ k below other its there.
            let had = before k below other its there in
            (step.0.kept other had.0, λ y lock. had.1 y (step.0.fewer other y had.0 lock)))
            (λ other its there.
            let entry : (item, set) ≡ (other, its) = ap (λ o. unwrap_or o (item, set)) (sym at ∙ there) in
            subst (λ e. (has_item new e.0 ≡ true) × ((y : ℕ) → has_lock new e.0 y ≡ true → has_id e.1 y ≡ true)) entry (step.1, step.2)),
      )

-- a given item stays there, with no more locks
pub stays_based : (s : Setting) (i : ℕ) (older newer : List (Correlation × List ℕ)) → Grows s older newer → HasBased s i older → HasBased s i newer
stays_based s i older newer grows had item set at =
    let here = had item set at in
    (grows.kept item here.0, λ y lock. here.1 y (grows.fewer item y here.0 lock))

-- a table in which all items have risen with the locks that they have
module _ (s : Setting) (into : List (List Link)) (entries : List (Correlation × List ℕ)) (are : AreLinksInto (basis_of s.facts) into) (sound : IsSound s entries)
    (there : (i : ℕ) → i < length s.base → HasBased s i entries) (passed : (item : Correlation) → has_item entries item ≡ true → HasPassed s into item entries)
    (met : (item : Correlation) (set : List ℕ) → set_of entries item ≡ Some set → HasMet s into item set entries) where
  -- what holds of each link holds of all that rises
  by_link : (P : (p f g : ℕ) (way : Way) (child above : Bool) → Type 0) →
      ((h : ℕ) (link : Link) → Contains (links_into into h) link → (child : Bool) → P link.point link.above link.below link.way child (child || link.starts)) →
      (p f g : ℕ) (way : Way) (child above : Bool) → Rises (basis_of s.facts) p f way g child above → P p f g way child above
  by_link P each p f g way child above rises =
      let found = are.all p f g way child above rises in
      let link = found.0 in
      let by = found.3 in
      subst (λ q. P q f g way child above) found.2
      (subst (λ h. P link.point h g way child above) by.from
      (subst (λ h. P link.point link.above h way child above) by.into
      (subst (λ w. P link.point link.above link.below w child above) by.by
      (subst (λ b. P link.point link.above link.below link.way child b) by.becomes
      (each g link found.1 child)))))

  -- a link into a function is one of those into its own function below
  among : (h : ℕ) (link : Link) → Contains (links_into into h) link → Contains (links_into into link.below) link
  among h link at = subst (λ g. Contains (links_into into g) link) (sym (are.each h link at).into) at

  -- items above the items are there
  passed_on : (h : ℕ) (link : Link) → Contains (links_into into h) link → (child : Bool) (t x a : ℕ) → has_item entries (item_of link.below child t a) ≡ true →
      Carries (flow_of s.facts.origins) s.subjects link.way t x → has_item entries (item_of link.above (child || link.starts) x a) ≡ true
  passed_on h link at child t x a has carried = passed (item_of link.below child t a) has link (among h link at) x carried

  -- so each item that has risen is there
  has_risen : {f t a : ℕ} {child : Bool} → HasRisen s (item_of f child t a) → has_item entries (item_of f child t a) ≡ true
  has_risen {f} {t} {a} {child} (based set contains) = (there contains.0 contains.1 (item_of f child t a) set (slice_get_read s.base _ contains.0 (item_of f child t a, set) refl contains.1 (sym contains.2))).0
  has_risen (risen {p} {f} {g} {s = t} {x} {a} {way} {child} {above} rises below carried) =
      by_link (λ p f g way child above. has_item entries (item_of g child t a) ≡ true → Carries (flow_of s.facts.origins) s.subjects way t x → has_item entries (item_of f above x a) ≡ true)
      (λ h link at child has carried. passed_on h link at child t x a has carried)
      p f g way child above rises (has_risen below) carried

  -- and has no more locks than those with which it rises
  met_on : (h : ℕ) (link : Link) → Contains (links_into into h) link → (child : Bool) (t x a y : ℕ) → has_item entries (item_of link.below child t a) ≡ true →
      Carries (flow_of s.facts.origins) s.subjects link.way t x → has_lock entries (item_of link.above (child || link.starts) x a) y ≡ true →
      HasLock (basis_of s.facts) (held_table s.held) (locks_of entries) link.point (ItemBelow link.way link.below child t) (child || link.starts) a y
  met_on h link at child t x a y has carried lock =
      let item = item_of link.below child t a in
      let known = item_known entries item has in
      ⊎_elim
      (λ from. inl (from.0, ap (λ o. option_map_or (λ set. has_id set from.0) o false) known.1 ∙ from.1, from.2))
      (λ kept. inr kept)
      (met item known.0 known.1 link (among h link at) x y carried lock)

  pub rise_is : AreRisen (basis_of s.facts) (Carries (flow_of s.facts.origins) s.subjects) s.base (held_table s.held) entries
  rise_is = record {
    exact = λ f child t a. (λ has. sound.items (item_of f child t a) has, λ rose. has_risen rose);
    within = record {
      based = λ f child t a y set contains lock.
          (there contains.0 contains.1 (item_of f child t a) set (slice_get_read s.base _ contains.0 (item_of f child t a, set) refl contains.1 (sym contains.2))).1 y lock;
      risen = λ p f g t x a y way child above rises has carried lock.
          by_link
          (λ p f g way child above. has_item entries (item_of g child t a) ≡ true → Carries (flow_of s.facts.origins) s.subjects way t x → has_lock entries (item_of f above x a) y ≡ true →
          HasLock (basis_of s.facts) (held_table s.held) (locks_of entries) p (ItemBelow way g child t) above a y)
          (λ h link at child. met_on h link at child t x a y)
          p f g way child above rises has carried lock;
    };
    greatest = λ other allows f child t a y has lock.
        sound.locks other
        (record {
          based = λ item set z contains there. allows.based item.function item.child item.subject item.access z set contains there;
          risen = λ p f g t x a z way child above rises below carried there. allows.risen p f g t x a z way child above rises (has_risen below) carried there;
        })
        (item_of f child t a) y has lock;
  }

-- one round over the items that are to rise again
module _ (s : Setting) (into : List (List Link)) (old new : List (Correlation × List ℕ)) (items again : List Correlation) (steps : Steps s (λ e. (item : Correlation) → Contains items item → HasPassed s into item e) old new [] again)
    (there : (item : Correlation) → Contains items item → has_item old item ≡ true) (passed : (item : Correlation) → has_item old item ≡ true → HasPassed s into item old) where
  pub again_there : (item : Correlation) → Contains again item → has_item new item ≡ true
  again_there = steps.there (λ item among. absurd (none_there item among))

  was_there : (item : Correlation) → has_item new item ≡ true → has_item old item ≡ true
  was_there = steps.same (λ item among. passed item (there item among))

  pub again_passed : (item : Correlation) → has_item new item ≡ true → HasPassed s into item new
  again_passed item now = stays_passed s into item old new steps.grows (passed item (was_there item now))

  pub again_settled : ((item : Correlation) → has_item old item ≡ true → IsSettled s into items item old) → ((item : Correlation) → Contains items item → IsSettled s into again item new) →
      (item : Correlation) → has_item new item ≡ true → IsSettled s into again item new
  again_settled before settled item now =
      let was = was_there item now in
      ⊎_elim
      (λ met. stays_settled s into (λ e. (other : Correlation) → Contains items other → HasPassed s into other e) old new [] again item steps was (passed item was) (inl met))
      (λ among. settled item among)
      (before item was)

  -- there is less to do
  pub again_less : 0 < length items → weight new + length again < weight old + length items
  again_less some = omega (arith, steps.falls (λ item among. passed item (there item among)), some)

-- once none is to rise again each item has with its locks
pub all_met : (s : Setting) (into : List (List Link)) (entries : List (Correlation × List ℕ)) (again : List Correlation) → again ≡ [] → ((item : Correlation) → has_item entries item ≡ true → IsSettled s into again item entries) →
    (item : Correlation) (set : List ℕ) → set_of entries item ≡ Some set → HasMet s into item set entries
all_met s into entries again none settled item set at =
    ⊎_elim (λ met. met set at) (λ among. absurd (none_there item (subst (λ items. Contains items item) none among))) (settled item (ap is_some at))
