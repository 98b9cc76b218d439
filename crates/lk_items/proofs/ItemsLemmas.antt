-- What has risen from the accesses of points are the items of a program.
use Rattle.std.proofs.Common.{◌≡◌, ℕ, Bool, true, false, List, Contains, length, sym, ◌∙◌, subst}
use Rattle.std.proofs.lemmas.List.Elements.{All-contains}
use Rattle.lk_facts.specs.Analysis.{held_table}
use Rattle.lk_facts.specs.Facts.{FactTable, basis_of}
use Rattle.lk_facts.specs.Items.{HasItem, PointItem, HasLock, AreItems}
use Rattle.lk_facts.specs.LockSets.{LockSets}
use Rattle.lk_facts.specs.Origins.{flow_of}
use Rattle.lk_facts.specs.declared.source.Source.{Source}
use Rattle.lk_facts.specs.declared.source.Source.TheVariants.{OwnAccess, ItemBelow}
use Rattle.lk_rise.specs.declared.correlations.Correlation.{Correlation}
use Rattle.lk_rise.specs.declared.rising.Subjects.TheVariants.{AsOutside}
use Rattle.lk_rise.specs.Correlations.{item_of, has_of, locks_of}
use Rattle.lk_rise.specs.Rising.{Carries, Risen, AreRisen}
use Rattle.lk_items.specs.Accesses.{IsOwn, AreAccessesBelow}
use Rattle.lk_rise.proofs.DoingLemmas.{accesses_within}

module _ (facts : FactTable) (held : LockSets) (base found : List (Correlation × List ℕ)) (are : AreAccessesBelow facts held (length facts.program.points) base)
    (rise : AreRisen (basis_of facts) (Carries (flow_of facts.origins) AsOutside) base (held_table held) found) where
  -- a based item is the own item of its access
  own : (f : ℕ) (child : Bool) (s a : ℕ) (set : List ℕ) → Contains base (item_of f child s a, set) → IsOwn facts held (item_of f child s a, set)
  own f child s a set contains = All-contains (IsOwn facts held) base (item_of f child s a, set) are.each contains

  from_risen : {f s a : ℕ} {child : Bool} → Risen (basis_of facts) (Carries (flow_of facts.origins) AsOutside) base f child s a → HasItem (basis_of facts) f child s a
  from_risen {f} {s} {a} {child} (Risen.based set contains) =
      let is = own f child s a set contains in
      subst (λ b. HasItem (basis_of facts) f b s a) (sym is.own) (HasItem.accessed is.accesses)
  from_risen (Risen.risen rises below over) = HasItem.risen rises (from_risen below) over

  to_risen : {f s a : ℕ} {child : Bool} → HasItem (basis_of facts) f child s a → Risen (basis_of facts) (Carries (flow_of facts.origins) AsOutside) base f child s a
  to_risen (HasItem.accessed {p} {f} {x} accesses) = let there = are.all p f x (accesses_within (basis_of facts) p f x accesses) accesses in Risen.based there.0 there.1
  to_risen (HasItem.risen rises below over) = Risen.risen rises (to_risen below) over

  pub items_are : AreItems (basis_of facts) (held_table held) (has_of found) (locks_of found)
  items_are = record {
    closed = record {
      closed = λ p f source child s a item. is_there p f source child s a item;
      within = λ p f source child s a x item lock. at_item p f source child s a x item lock;
    };
    exact = record {
      least = λ f child s a has. from_risen ((rise.exact f child s a).0 has);
      greatest = λ other allows f child s a x has lock.
          rise.greatest other
          (record {
            based = λ f child s a x set contains there.
                let is = own f child s a set contains in
                let at : other f false s a x ≡ true = subst (λ b. other f b s a x ≡ true) is.own there in
                is.locks x ∙ allows a f OwnAccess false s a x (PointItem.accessed is.accesses) at;
            risen = λ p f g s x a y way child above rises has over there. allows p f (ItemBelow way g child s) above x a y (PointItem.risen rises has over) there;
          })
          f child s a x has lock;
    };
  }
    where
      is_there : (p f : ℕ) (source : Source) (child : Bool) (s a : ℕ) → PointItem (basis_of facts) (has_of found) p f source child s a → has_of found f child s a ≡ true
      is_there p f source child s a (PointItem.accessed accesses) = (rise.exact f child s a).1 (to_risen (HasItem.accessed accesses))
      is_there p f source child s a (PointItem.risen {g} {s = t} {way = way} {child = below} rises has over) = (rise.exact f child s a).1 (Risen.risen rises ((rise.exact g below t a).0 has) over)

      at_item : (p f : ℕ) (source : Source) (child : Bool) (s a x : ℕ) → PointItem (basis_of facts) (has_of found) p f source child s a → locks_of found f child s a x ≡ true → HasLock (basis_of facts) (held_table held) (locks_of found) p source child a x
      at_item p f source child s a x (PointItem.accessed accesses) lock =
          let there = are.all p f s (accesses_within (basis_of facts) p f s accesses) accesses in
          sym ((own f false s p there.0 there.1).locks x) ∙ rise.within.based f false s p x there.0 there.1 lock
      at_item p f source child s a x (PointItem.risen {g} {s = t} {way = way} {child = below} rises has over) lock = rise.within.risen p f g t s a x way below child rises has over lock
