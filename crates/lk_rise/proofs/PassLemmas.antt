-- How an item rises by a link, and by all.
use Rattle.std.proofs.Common.{◌≡◌, ◌<◌, ◌≤◌, ◌+◌, ◌||◌, ◌↔◌, ℕ, true, false, List, [], All, Contains, Some, length, get_or, is_some, refl, sym, ap, ◌∙◌, subst, ⊎_elim, inl, inr, arith, slice_get, below_more}
use Rattle.std.specs.Option.{option_map_or, unwrap_or}
use Rattle.std.proofs.lemmas.List.{get_or_default}
use Rattle.std.proofs.lemmas.List.Elements.{Contains-get_or}
use Rattle.std.proofs.lemmas.Option.{slice_get_within, slice_get_read, get_or_from_slice_get}
use Rattle.lk_facts.specs.Facts.{basis_of}
use Rattle.lk_facts.specs.Origins.{IsSetBelow}
use Rattle.lk_links.proofs.ListLemmas.{contained}
use Rattle.lk_links.proofs.SetLemmas.{place_of_id}
use Rattle.lk_links.specs.Links.{IsLink}
use Rattle.lk_links.specs.declared.link.Link.{Link}
use Rattle.lk_rise.specs.declared.correlations.Correlation.{Correlation}
use Rattle.lk_rise.specs.Correlations.{item_of, set_of, has_item, has_lock, AreCorrelations, IsEntryInRange}
use Rattle.lk_rise.specs.Links.{links_into}
use Rattle.lk_rise.specs.Rising.{Risen, subjects_below}
use Rattle.lk_rise.specs.Tables.{Setting, Fits, HasRisen, HasWithin, IsCarried, IsOffer, IsSound, Grows, Steps, Works, HasLockAbove, AreAbove, AreAboveWithin, AreMet, HasPassed, IsSettled, above_of, lock_in, item_at}
use Rattle.lk_rise.proofs.ListLemmas.{none_there}
use Rattle.lk_rise.proofs.TableLemmas.{at_has_item, item_at_known, item_known, item_there, place_of_item, place_within}
use Rattle.lk_rise.proofs.WorkLemmas.{steps_as, steps_below, steps_not, works_below}
use Rattle.lk_sets.specs.Ids.{has_id}
use Rattle.lk_sets.proofs.Members.{has_id-from_Contains}

module _ (s : Setting) (link : Link) (item : Correlation) (set subjects : List ℕ) where
  -- the item above for the subject at a place
  abbrev pub IsThere : ℕ → List (Correlation × List ℕ) → Type 0
  IsThere j entries = has_item entries (above_of link item (get_or subjects j 0)) ≡ true

  abbrev pub IsMet : ℕ → List (Correlation × List ℕ) → Type 0
  IsMet j entries = (y : ℕ) → has_lock entries (above_of link item (get_or subjects j 0)) y ≡ true → has_id set y ≡ true

  -- the first n subjects
  abbrev pub OffersBelow : ℕ → List (Correlation × List ℕ) → List (Correlation × List ℕ) → List Correlation → List Correlation → Type 0
  OffersBelow n old new was again = Works s (λ entries. (j : ℕ) → j < n → IsThere j entries) (λ entries. (j : ℕ) → j < n → IsMet j entries) old new was again

  pub offers_none : (entries : List (Correlation × List ℕ)) (was : List Correlation) → OffersBelow 0 entries entries was was
  offers_none entries was = record {
    steps = steps_not s (λ e. (j : ℕ) → j < 0 → IsThere j e) entries was (λ j below. absurd (omega arith));
    done = λ j below. absurd (omega arith);
  }

  -- one offer more
  pub offers_more : (j : ℕ) (old mid new : List (Correlation × List ℕ)) (was between again : List Correlation) → OffersBelow j old mid was between →
      Works s (λ entries. has_item entries (above_of link item (get_or subjects j 0)) ≡ true) (HasWithin (above_of link item (get_or subjects j 0)) set) mid new between again → OffersBelow (j + 1) old new was again
  offers_more j old mid new was between again before works =
      works_below s IsThere IsMet j old mid new was between again
      (λ k older newer grows there. grows.kept (above_of link item (get_or subjects k 0)) there)
      (λ k older newer grows there met y lock. met y (grows.fewer (above_of link item (get_or subjects k 0)) y there lock))
      before works

  module _ (members : (x : ℕ) → (has_id subjects x ≡ true) ↔ IsCarried s link item x) (in_range : All (λ x. x < subjects_below s.facts s.subjects) subjects) where
    carried_at : (j : ℕ) → j < length subjects → IsCarried s link item (get_or subjects j 0)
    carried_at j below = (members (get_or subjects j 0)).0 (has_id-from_Contains subjects (get_or subjects j 0) (Contains-get_or subjects j 0 below))

    -- the item above may be offered the set
    pub offers_fit : (j : ℕ) → j < length subjects → IsOffer s link item set → Fits s (above_of link item (get_or subjects j 0)) set
    offers_fit j below offer = record {
      risen = offer.risen (get_or subjects j 0) (carried_at j below);
      locks = λ other allowed y. offer.locks other allowed (get_or subjects j 0) y (carried_at j below);
      in_range = record { function = offer.function; subject = in_range j 0 below; access = offer.access; locks = offer.below };
    }

    place_of : (x : ℕ) → IsCarried s link item x → (j : ℕ) × (j < length subjects) × (get_or subjects j 0 ≡ x)
    place_of x carried = place_of_id subjects x ((members x).1 carried)

    -- all subjects
    pub offers_all : (old new : List (Correlation × List ℕ)) (was again : List Correlation) → OffersBelow (length subjects) old new was again → Works s (AreAbove s link item) (AreAboveWithin s link item set) old new was again
    offers_all old new was again works = record {
      steps = steps_as s (λ entries. (j : ℕ) → j < length subjects → IsThere j entries) (AreAbove s link item) old new was again
          (λ present j below. present (get_or subjects j 0) (carried_at j below))
          (λ present x carried. let place = place_of x carried in subst (λ z. has_item new (above_of link item z) ≡ true) place.2 (present place.0 place.1))
          works.steps;
      done = λ x y carried. let place = place_of x carried in subst (λ z. has_lock new (above_of link item z) y ≡ true → has_id set y ≡ true) place.2 (works.done place.0 place.1 y);
    }

-- an item of a sound table fits
pub entry_fits : (s : Setting) (item : Correlation) (locks : List ℕ) (entries : List (Correlation × List ℕ)) → IsSound s entries → set_of entries item ≡ Some locks → Fits s item locks
entry_fits s item locks entries sound found =
    let present : has_item entries item ≡ true = ap is_some found in
    let here = place_of_item entries item locks found in
    let within = slice_get_within entries here.0 (item, locks) here.1 in
    record {
      risen = sound.items item present;
      locks = λ other allowed y lock. sym (ap (λ o. option_map_or (λ set. has_id set y) o false) found) ∙ sound.locks other allowed item y present lock;
      in_range = subst (IsEntryInRange s.facts (subjects_below s.facts s.subjects)) (get_or_from_slice_get entries here.0 (item, locks) (item, locks) here.1) (sound.in_range here.0 (item, locks) within);
    }

-- the locks with which an item rises may be offered above
pub offer_fits : (s : Setting) (link : Link) (item : Correlation) (locks set : List ℕ) → IsLink (basis_of s.facts) link.point link → Fits s item locks → item.function ≡ link.below →
    ((y : ℕ) → (has_id set y ≡ true) ↔ HasLockAbove s link item.child locks y) → IsSetBelow (length s.facts.labels.entries) set → IsOffer s link item set
offer_fits s link item locks set is_link fits same members below =
    let below_risen : HasRisen s (item_of link.below item.child item.subject item.access) = subst (λ f. HasRisen s (item_of f item.child item.subject item.access)) same fits.risen in
    record {
      risen = λ x carried. Risen.risen (is_link.rises item.child) below_risen carried;
      locks = λ other allowed x y carried lock.
          (members y).1
          (⊎_elim
          (λ from.
          let lower : lock_in other item from.0 ≡ true = subst (λ f. other f item.child item.subject item.access from.0 ≡ true) (sym same) from.1 in
          inl (from.0, fits.locks other allowed from.0 lower, from.2))
          (λ kept. inr kept)
          (allowed.risen link.point link.above link.below item.subject x item.access y link.way item.child (item.child || link.starts) (is_link.rises item.child) below_risen carried lock));
      below = below;
      function = is_link.above;
      subject = fits.in_range.subject;
      access = fits.in_range.access;
    }

-- what is offered above is all that the items there keep
pub met_up : (s : Setting) (link : Link) (item : Correlation) (locks set : List ℕ) (old new : List (Correlation × List ℕ)) (was again : List Correlation) →
    ((y : ℕ) → (has_id set y ≡ true) ↔ HasLockAbove s link item.child locks y) → Works s (AreAbove s link item) (AreAboveWithin s link item set) old new was again →
    Works s (AreAbove s link item) (AreMet s link item locks) old new was again
met_up s link item locks set old new was again members works = record {
  steps = works.steps;
  done = λ x y carried lock. (members y).0 (works.done x y carried lock);
}

-- what stands above an item has no more locks later
pub met_stays : (s : Setting) (link : Link) (item : Correlation) (locks : List ℕ) (older newer : List (Correlation × List ℕ)) → Grows s older newer → AreAbove s link item older → AreMet s link item locks older → AreMet s link item locks newer
met_stays s link item locks older newer grows above met x y carried lock = met x y carried (grows.fewer (above_of link item x) y (above x carried) lock)

pub above_stays : (s : Setting) (link : Link) (item : Correlation) (older newer : List (Correlation × List ℕ)) → Grows s older newer → AreAbove s link item older → AreAbove s link item newer
above_stays s link item older newer grows above x carried = grows.kept (above_of link item x) (above x carried)

-- the first n links, for an item with its locks
module _ (s : Setting) (links : List Link) (item : Correlation) (locks : List ℕ) where
  abbrev pub AreUpAt : ℕ → List (Correlation × List ℕ) → Type 0
  AreUpAt j entries = (link : Link) → slice_get links j ≡ Some link → AreAbove s link item entries

  abbrev pub AreMetAt : ℕ → List (Correlation × List ℕ) → Type 0
  AreMetAt j entries = (link : Link) → slice_get links j ≡ Some link → AreMet s link item locks entries

  abbrev pub RisesBelow : ℕ → List (Correlation × List ℕ) → List (Correlation × List ℕ) → List Correlation → List Correlation → Type 0
  RisesBelow n old new was again = Works s (λ entries. (j : ℕ) → j < n → AreUpAt j entries) (λ entries. (j : ℕ) → j < n → AreMetAt j entries) old new was again

  pub rises_none : (entries : List (Correlation × List ℕ)) (was : List Correlation) → RisesBelow 0 entries entries was was
  rises_none entries was = record {
    steps = steps_not s (λ e. (j : ℕ) → j < 0 → AreUpAt j e) entries was (λ j below. absurd (omega arith));
    done = λ j below. absurd (omega arith);
  }

  pub rises_more : (j : ℕ) (link : Link) (old mid new : List (Correlation × List ℕ)) (was between again : List Correlation) → slice_get links j ≡ Some link →
      RisesBelow j old mid was between → Works s (AreAbove s link item) (AreMet s link item locks) mid new between again → RisesBelow (j + 1) old new was again
  rises_more j link old mid new was between again at before works =
      let one : (other : Link) → slice_get links j ≡ Some other → link ≡ other = λ other there. ap (λ o. unwrap_or o link) (sym at ∙ there) in
      works_below s AreUpAt AreMetAt j old mid new was between again
      (λ i older newer grows up other there. above_stays s other item older newer grows (up other there))
      (λ i older newer grows up met other there. met_stays s other item locks older newer grows (up other there) (met other there))
      before
      (record {
        steps = steps_as s (AreAbove s link item) (AreUpAt j) mid new between again
            (λ up. up link at)
            (λ above other there. subst (λ l. AreAbove s l item new) (one other there) above)
            works.steps;
        done = λ other there. subst (λ l. AreMet s l item locks new) (one other there) works.done;
      })

-- the function of an item of a sound table is there
pub item_within : (s : Setting) (entries : List (Correlation × List ℕ)) (item : Correlation) → IsSound s entries → has_item entries item ≡ true → item.function < length s.facts.program.functions
item_within s entries item sound there =
    let known = item_known entries item there in
    (entry_fits s item known.0 entries sound known.1).in_range.function

-- so are the links that are read for it
pub links_read : (into : List (List Link)) (g : ℕ) (links found : List Link) → g < length into → found ≡ get_or into g found → links ≡ found → links ≡ links_into into g
links_read into g links found below is same = same ∙ is ∙ get_or_default into g found [] below

-- an item stays passed
pub stays_passed : (s : Setting) (into : List (List Link)) (item : Correlation) (older newer : List (Correlation × List ℕ)) → Grows s older newer → HasPassed s into item older → HasPassed s into item newer
stays_passed s into item older newer grows passed link there = above_stays s link item older newer grows (passed link there)

module _ (s : Setting) (into : List (List Link)) where
  -- an item that is settled is so later, or is to rise again
  pub stays_settled : (Present : List (Correlation × List ℕ) → Type 0) (old new : List (Correlation × List ℕ)) (was again : List Correlation) (item : Correlation) → Steps s Present old new was again → has_item old item ≡ true →
      HasPassed s into item old → IsSettled s into was item old → IsSettled s into again item new
  stays_settled Present old new was again item steps there passed settled =
      let known = item_known old item there in
      ⊎_elim
      (λ met.
      ⊎_elim
      (λ same.
      inl
      (λ set at link among.
      let one : known.0 ≡ set = ap (λ o. unwrap_or o set) (sym same ∙ at) in
      subst (λ locks. AreMet s link item locks new) one (met_stays s link item known.0 old new steps.grows (passed link among) (met known.0 known.1 link among))))
      (λ anew. inr anew)
      (steps.kept item known.0 known.1))
      (λ before. inr (steps.more item before))
      settled

  -- an item that goes up by each of its links has passed, and is settled
  module _ (item : Correlation) (old new : List (Correlation × List ℕ)) (was again : List Correlation) where
    abbrev links : List Link
    links = links_into into item.function

    -- a place of the links, for one of them
    at_place : (P : Link → Type 0) → ((j : ℕ) → j < length links → (link : Link) → slice_get links j ≡ Some link → P link) → (link : Link) → Contains links link → P link
    at_place P each link there = each there.0 there.1 link (slice_get_read links _ there.0 link refl there.1 (sym there.2))

    pub passes_all : (locks : List ℕ) → RisesBelow s links item locks (length links) old new was again → Steps s (HasPassed s into item) old new was again
    passes_all locks works =
        steps_as s (λ entries. (j : ℕ) → j < length links → AreUpAt s links item locks j entries) (HasPassed s into item) old new was again
        (λ all j below link place. all link (j, below, get_or_from_slice_get links j link link place))
        (λ up. at_place (λ link. AreAbove s link item new) up)
        works.steps

    pub settles : (locks : List ℕ) → set_of old item ≡ Some locks → RisesBelow s links item locks (length links) old new was again → IsSettled s into again item new
    settles locks at works =
        ⊎_elim
        (λ same.
        inl
        (λ set is link there.
        let one : locks ≡ set = ap (λ o. unwrap_or o set) (sym same ∙ is) in
        subst (λ ids. AreMet s link item ids new) one (at_place (λ l. AreMet s l item locks new) works.done link there)))
        (λ anew. inr anew)
        (works.steps.kept item locks at)

  -- an item whose function no link goes into has passed, and is settled
  pub passes_nothing : (item : Correlation) (entries : List (Correlation × List ℕ)) (was : List Correlation) → links_into into item.function ≡ [] → Steps s (HasPassed s into item) entries entries was was
  passes_nothing item entries was none =
      steps_not s (HasPassed s into item) entries was (λ link there. absurd (none_there link (subst (λ links. Contains links link) none there)))

  pub settles_nothing : (item : Correlation) (entries : List (Correlation × List ℕ)) (was : List Correlation) → links_into into item.function ≡ [] → IsSettled s into was item entries
  settles_nothing item entries was none = inl (λ set at link there. absurd (none_there link (subst (λ links. Contains links link) none there)))

  -- the items of the first k places
  abbrev pub AreSettledBelow : ℕ → List Correlation → List (Correlation × List ℕ) → Type 0
  AreSettledBelow k again entries = (i : ℕ) → i < k → (item : Correlation) → item_at entries i ≡ Some item → HasPassed s into item entries × IsSettled s into again item entries

  pub settled_more : (k : ℕ) (old new : List (Correlation × List ℕ)) (was again : List Correlation) (item : Correlation) → AreCorrelations old → item_at old k ≡ Some item → AreSettledBelow k was old →
      Steps s (HasPassed s into item) old new was again → IsSettled s into again item new → AreSettledBelow (k + 1) again new
  settled_more k old new was again item each at before steps settled =
      below_more (λ i. (other : Correlation) → item_at new i ≡ Some other → HasPassed s into other new × IsSettled s into again other new) k
      (λ i below other now.
      let had = item_there old i (omega (arith, below, place_within old k item at)) in
      let one : had.0 ≡ other = ap (λ o. unwrap_or o other) (sym (steps.grows.places i had.0 had.1) ∙ now) in
      let before_it = before i below had.0 had.1 in
      subst (λ z. HasPassed s into z new × IsSettled s into again z new) one (
        stays_passed s into had.0 old new steps.grows before_it.0,
        stays_settled (HasPassed s into item) old new was again had.0 steps (at_has_item old i had.0 each had.1) before_it.0 before_it.1,
      ))
      (λ other now.
      let one : item ≡ other = ap (λ o. unwrap_or o other) (sym (steps.grows.places k item at) ∙ now) in
      subst (λ z. HasPassed s into z new × IsSettled s into again z new) one (steps.present, settled))

  -- once all places are, all items are
  pub settled_all : (k : ℕ) (again : List Correlation) (entries : List (Correlation × List ℕ)) → length entries ≤ k → AreSettledBelow k again entries → (item : Correlation) → has_item entries item ≡ true →
      HasPassed s into item entries × IsSettled s into again item entries
  settled_all k again entries past all item there =
      let known = item_known entries item there in
      let here = place_of_item entries item known.0 known.1 in
      let at = item_at_known entries here.0 item known.0 here.1 in
      all here.0 (omega (arith, place_within entries here.0 item at, past)) item at

  -- the first n of some items
  module _ (items : List Correlation) where
    abbrev pub PassedAt : ℕ → List (Correlation × List ℕ) → Type 0
    PassedAt i entries = (item : Correlation) → slice_get items i ≡ Some item → HasPassed s into item entries

    abbrev pub AreSettledOf : ℕ → List Correlation → List (Correlation × List ℕ) → Type 0
    AreSettledOf n again entries = (i : ℕ) → i < n → (item : Correlation) → slice_get items i ≡ Some item → IsSettled s into again item entries

    pub round_none : (entries : List (Correlation × List ℕ)) → Steps s (λ e. (i : ℕ) → i < 0 → PassedAt i e) entries entries [] []
    round_none entries = steps_not s (λ e. (i : ℕ) → i < 0 → PassedAt i e) entries [] (λ i below. absurd (omega arith))

    pub round_more : (n : ℕ) (old mid new : List (Correlation × List ℕ)) (was between again : List Correlation) (item : Correlation) → slice_get items n ≡ Some item →
        Steps s (λ e. (i : ℕ) → i < n → PassedAt i e) old mid was between → Steps s (HasPassed s into item) mid new between again → Steps s (λ e. (i : ℕ) → i < n + 1 → PassedAt i e) old new was again
    round_more n old mid new was between again item at before steps =
        let one : (other : Correlation) → slice_get items n ≡ Some other → item ≡ other = λ other there. ap (λ o. unwrap_or o item) (sym at ∙ there) in
        steps_below s PassedAt n old mid new was between again
        (λ i older newer grows passed other there. stays_passed s into other older newer grows (passed other there))
        before
        (steps_as s (HasPassed s into item) (PassedAt n) mid new between again
        (λ passed. passed item at)
        (λ passed other there. subst (λ z. HasPassed s into z new) (one other there) passed)
        steps)

    pub round_settled : (n : ℕ) (old mid new : List (Correlation × List ℕ)) (was between again : List Correlation) (item : Correlation) → slice_get items n ≡ Some item →
        ((other : Correlation) → Contains items other → has_item old other ≡ true) →
        Steps s (λ e. (i : ℕ) → i < n → PassedAt i e) old mid was between → Steps s (HasPassed s into item) mid new between again →
        AreSettledOf n between mid → IsSettled s into again item new → AreSettledOf (n + 1) again new
    round_settled n old mid new was between again item at there first steps before settled =
        below_more (λ i. (other : Correlation) → slice_get items i ≡ Some other → IsSettled s into again other new) n
        (λ i below other place.
        stays_settled (HasPassed s into item) mid new between again other steps
        (first.grows.kept other (there other (contained items i other place)))
        (first.present i below other place) (before i below other place))
        (λ other place. subst (λ z. IsSettled s into again z new) (ap (λ o. unwrap_or o item) (sym at ∙ place)) settled)

    -- all of them
    pub round_all : (old new : List (Correlation × List ℕ)) (was again : List Correlation) → Steps s (λ e. (i : ℕ) → i < length items → PassedAt i e) old new was again →
        Steps s (λ e. (item : Correlation) → Contains items item → HasPassed s into item e) old new was again
    round_all old new was again =
        steps_as s (λ e. (i : ℕ) → i < length items → PassedAt i e) (λ e. (item : Correlation) → Contains items item → HasPassed s into item e) old new was again
        (λ all i below item place. all item (contained items i item place))
        (λ all item among. all among.0 among.1 item (slice_get_read items _ among.0 item refl among.1 (sym among.2)))

    pub settled_of_all : (again : List Correlation) (entries : List (Correlation × List ℕ)) → AreSettledOf (length items) again entries → (item : Correlation) → Contains items item → IsSettled s into again item entries
    settled_of_all again entries all item among = all among.0 among.1 item (slice_get_read items _ among.0 item refl among.1 (sym among.2))
