-- Racing items are what rises from the items that are in conflict.
use Rattle.std.proofs.Common.{◌≡◌, ◌<◌, ◌&&◌, ◌||◌, ◌⊎◌, ℕ, Bool, true, List, [], Contains, refl, sym, ap, subst, ⊎_elim, inl, inr}
use Rattle.std.proofs.lemmas.Bool.{and_from, and_parts, or_cases, or_left, or_right}
use Rattle.lk_facts.specs.Facts.{FactTable, basis_of}
use Rattle.lk_facts.specs.Items.{PointItem}
use Rattle.lk_facts.specs.Program.{writes_at}
use Rattle.lk_facts.specs.Racing.{Setting, Conflict, Conflicts, Races, AreRaces}
use Rattle.lk_facts.specs.Racing.Conflicts.{first, second}
use Rattle.lk_facts.specs.Racing.Races.{conflict, risen}
use Rattle.lk_facts.specs.declared.source.Source.{Source}
use Rattle.lk_conflict.specs.Bases.{MayBeAt, IsInConflict, IsBasis, Adds}
use Rattle.lk_conflict.specs.Kinds.{kind_of, may_meet}
use Rattle.lk_rise.proofs.ListLemmas.{none_there}
use Rattle.lk_rise.specs.Correlations.{item_of, has_of, locks_of}
use Rattle.lk_rise.specs.Rising.{Carries, Risen, AreRisen}
use Rattle.lk_rise.specs.declared.correlations.Correlation.{Correlation}
use Rattle.lk_rise.specs.declared.point_items.ItemAt.{ItemAt}
use Rattle.lk_rise.specs.declared.rising.Subjects.TheVariants.{AsTheyAre}

module _ (facts : FactTable) (setting : Setting) where
  -- an item that may meet a later one is the first of a conflict
  is_first : (f o : ℕ) (i j : ItemAt) → o < facts.program.locations → MayBeAt facts setting f o i → MayBeAt facts setting f o j → may_meet setting.after (kind_of facts.program i) (kind_of facts.program j) ≡ true →
      Conflict (basis_of facts) setting f o i.point i.source i.subject i.access j.point j.source j.child j.subject j.access
  is_first f o i j location here there meets =
      let parts = and_parts i.child (setting.after i.point j.point && (writes_at facts.program i.access || writes_at facts.program j.access)) meets in
      let rest = and_parts (setting.after i.point j.point) (writes_at facts.program i.access || writes_at facts.program j.access) parts.1 in
      record {
        location = location;
        first = subst (λ c. PointItem (basis_of facts) setting.has i.point f i.source c i.subject i.access) parts.0 here.item;
        second = there.item;
        later = rest.0;
        first_may = here.may;
        second_may = there.may;
        write = or_cases (writes_at facts.program i.access) (writes_at facts.program j.access) rest.1;
      }

  to_conflicts : (f o : ℕ) (i : ItemAt) → IsInConflict facts setting f o i → Conflicts (basis_of facts) setting f o i.point i.source i.child i.access
  to_conflicts f o i is =
      elim (or_cases (may_meet setting.after (kind_of facts.program i) (kind_of facts.program is.other)) (may_meet setting.after (kind_of facts.program is.other) (kind_of facts.program i)) is.conflict) [
        | inl meets ↦
            let child = (and_parts i.child (setting.after i.point is.other.point && (writes_at facts.program i.access || writes_at facts.program is.other.access)) meets).0 in
            subst (λ c. Conflicts (basis_of facts) setting f o i.point i.source c i.access) (sym child) (first (is_first f o i is.other is.location is.here is.there meets))
        | inr meets ↦ second (is_first f o is.other i is.location is.there is.here meets)
      ]

  wrote : (a b : ℕ) → (writes_at facts.program a ≡ true) ⊎ (writes_at facts.program b ≡ true) → (writes_at facts.program a || writes_at facts.program b) ≡ true
  wrote a b either = ⊎_elim (λ one. or_left _ _ one) (λ other. or_right (writes_at facts.program a) _ other) either

  from_conflicts : (f o p a : ℕ) (source : Source) (child : Bool) → Conflicts (basis_of facts) setting f o p source child a → (s : ℕ) × IsInConflict facts setting f o (record { point = p; source = source; child = child; subject = s; access = a })
  from_conflicts f o p a source child (first {s = s} {q = q} {t = t} {b = b} {source' = other} {child = whose} is) = (
    s,
    record {
      location = is.location;
      here = record { item = is.first; may = is.first_may };
      other = record { point = q; source = other; child = whose; subject = t; access = b };
      there = record { item = is.second; may = is.second_may };
      conflict = or_left _ _ (and_from _ _ refl (and_from _ _ is.later (wrote a b is.write)));
    },
  )
  from_conflicts f o q b source child (second {p = p} {s = s} {a = a} {t = t} {source = other} is) = (
    t,
    record {
      location = is.location;
      here = record { item = is.second; may = is.second_may };
      other = record { point = p; source = other; child = true; subject = s; access = a };
      there = record { item = is.first; may = is.first_may };
      conflict = or_right (may_meet setting.after (kind_of facts.program (record { point = q; source = source; child = child; subject = t; access = b })) (kind_of facts.program (record { point = p; source = other; child = true; subject = s; access = a }))) _
          (and_from _ _ refl (and_from _ _ is.later (wrote a b is.write)));
    },
  )

  -- what rises from the bases of all items that are in conflict
  module _ (based entries : List (Correlation × List ℕ)) (adds : Adds facts setting (λ f o i. IsInConflict facts setting f o i) [] based) where
    begun : (b : Correlation × List ℕ) → Contains based b → (f o : ℕ) × (i : ItemAt) × IsInConflict facts setting f o i × IsBasis facts setting f o i b
    begun b there = ⊎_elim (λ none. absurd (none_there b none)) (λ found. found) (adds.sound b there)

    -- a conflict's item has a basis
    begins : (f o p a : ℕ) (source : Source) (child : Bool) → Conflicts (basis_of facts) setting f o p source child a →
        (set : List ℕ) × Contains based (item_of f child o a, set) × ((s : ℕ) × IsBasis facts setting f o (record { point = p; source = source; child = child; subject = s; access = a }) (item_of f child o a, set))
    begins f o p a source child conflicts =
        let found = from_conflicts f o p a source child conflicts in
        let i : ItemAt = record { point = p; source = source; child = child; subject = found.0; access = a } in
        let basis = adds.complete f o i found.1 in
        let same : basis.0 ≡ (item_of f child o a, basis.0.1) = ap (λ (item : Correlation). (item, basis.0.1)) basis.2.item in
        (basis.0.1, subst (λ b. Contains based b) same basis.1, (found.0, subst (λ b. IsBasis facts setting f o i b) same basis.2))

    to_races : {f : ℕ} {child : Bool} {s a : ℕ} → Risen (basis_of facts) (Carries (basis_of facts).flow AsTheyAre) based f child s a → Races (basis_of facts) setting f child s a
    to_races (Risen.based {f} {s} {a} {child} set there) =
        let found = begun (item_of f child s a, set) there in
        subst (λ (item : Correlation). Races (basis_of facts) setting item.function item.child item.subject item.access) (sym found.4.item)
        (conflict (to_conflicts found.0 found.1 found.2 found.3))
    to_races (Risen.risen {f = f} {s = s} {x = x} {a = a} {above = above} rises below same) =
        subst (λ o. Races (basis_of facts) setting f above o a) (sym same) (risen rises (to_races below))

    from_races : {f : ℕ} {child : Bool} {o a : ℕ} → Races (basis_of facts) setting f child o a → Risen (basis_of facts) (Carries (basis_of facts).flow AsTheyAre) based f child o a
    from_races (conflict {p} {f} {o} {a} {source} {child} conflicts) = let found = begins f o p a source child conflicts in Risen.based found.0 found.1
    from_races (risen rises below) = Risen.risen rises (from_races below) refl

    pub races_are : AreRisen (basis_of facts) (Carries (basis_of facts).flow AsTheyAre) based setting.held entries → AreRaces (basis_of facts) setting (has_of entries) (locks_of entries)
    races_are are = record {
      closed = record {
        conflict = λ f o p source child a conflicts. (are.exact f child o a).1 (from_races (conflict conflicts));
        risen = λ p f g o a way child above rises there. (are.exact f above o a).1 (Risen.risen rises ((are.exact g child o a).0 there) refl);
        within = record {
          conflict = λ f o p source child a x conflicts locked.
              let found = begins f o p a source child conflicts in
              (found.2.1.is_locked x).0 (are.within.based f child o a x found.0 found.1 locked);
          risen = λ p f g o a x way child above rises there locked. are.within.risen p f g o o a x way child above rises there refl locked;
        };
      };
      exact = record {
        least = λ f child o a there. to_races ((are.exact f child o a).0 there);
        greatest = λ other allowed. are.greatest other (record {
          based = λ f child s a x set there locked.
              let found = begun (item_of f child s a, set) there in
              (found.4.is_locked x).1
              (allowed.conflict found.0 found.1 found.2.point found.2.source found.2.child found.2.access x (to_conflicts found.0 found.1 found.2 found.3)
              (subst (λ (item : Correlation). other item.function item.child item.subject item.access x ≡ true) found.4.item locked));
          risen = λ p f g s x a y way child above rises there same locked. allowed.risen p f g s a y way child above rises there (subst (λ o. other f above o a y ≡ true) same locked);
        });
      };
    }
