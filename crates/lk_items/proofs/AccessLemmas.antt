-- A point makes one access at most, and the accesses of all points are told one by one.
use Rattle.std.proofs.Common.{◌≡◌, ◌<◌, ◌+◌, ◌++◌, ℕ, true, false, List, [], ◌∷◌, Contains, length, Some, refl, sym, ◌∙◌, subst, inl, inr, arith}
use Rattle.std.proofs.lemmas.Bool.{cases_lt}
use Rattle.std.proofs.lemmas.Option.{same_Some}
use Rattle.std.proofs.lemmas.List.Elements.{All-nil, All-push, Contains-append_left, Contains-push}
use Rattle.lk_facts.specs.Doing.{Accesses}
use Rattle.lk_facts.specs.Facts.{FactTable, basis_of}
use Rattle.lk_facts.specs.LockSets.{LockSets, at_of}
use Rattle.lk_facts.specs.Origins.{IsSetBelow}
use Rattle.lk_facts.specs.Program.{live_at, function_at}
use Rattle.lk_links.specs.Only.{IsTheOne}
use Rattle.lk_rise.proofs.DoingLemmas.{accessed_by}
use Rattle.lk_rise.specs.declared.correlations.Correlation.{Correlation}
use Rattle.lk_rise.specs.Correlations.{item_of, IsEntryInRange}
use Rattle.lk_links.proofs.SetLemmas.{All-from_has_id, All-has_id}
use Rattle.lk_sets.specs.Ids.{has_id, IsSetOf}
use Rattle.lk_items.specs.Accesses.{IsAccess, IsOwn, AreAccessesBelow}

module _ (facts : FactTable) where
  -- what a point accesses
  pub access_is : (p f x : ℕ) → function_at facts.program p ≡ Some f → (live_at facts.program p ≡ true → f < length facts.program.functions) →
      IsTheOne (λ y. (g : ℕ) × Accesses (basis_of facts) p g y) (Some x) → x < length facts.labels.entries → IsAccess facts p (record { function = f; child = false; subject = x; access = p })
  access_is p f x of within is below =
      let by = accessed_by (basis_of facts) p is.holds.0 x is.holds.1 in
      record {
        accesses = subst (λ g. Accesses (basis_of facts) p g x) (same_Some is.holds.0 f (sym by.2.of ∙ of)) is.holds.1;
        own = refl;
        access = refl;
        function = within by.2.live;
        subject = below;
        only = λ g y other. (same_Some g f (sym (accessed_by (basis_of facts) p g y other).2.of ∙ of), is.only y (g, other));
      }

  module _ (held : LockSets) where
    pub accesses_none : AreAccessesBelow facts held 0 []
    accesses_none = record {
      each = All-nil (IsOwn facts held);
      all = λ p f x below. absurd (omega arith);
      in_range = All-nil (IsEntryInRange facts (length facts.labels.entries));
    }

    -- a point that accesses nothing
    pub accesses_same : (n : ℕ) (base : List (Correlation × List ℕ)) → ((f x : ℕ) → Accesses (basis_of facts) n f x → ⊥) → AreAccessesBelow facts held n base → AreAccessesBelow facts held (n + 1) base
    accesses_same n base none are = record {
      each = are.each;
      all = λ p f x below accesses.
          elim (cases_lt p n) [
            | inl before ↦ are.all p f x before accesses
            | inr after ↦ let same : p ≡ n = omega (arith, below, after) in absurd (none f x (subst (λ q. Accesses (basis_of facts) q f x) same accesses))
          ];
      in_range = are.in_range;
    }

    -- a point that accesses something
    pub accesses_more : (n : ℕ) (item : Correlation) (set : List ℕ) (base : List (Correlation × List ℕ)) → n < length facts.program.points → IsAccess facts n item → IsSetBelow (length facts.labels.entries) (at_of held n) →
        IsSetOf (has_id (at_of held n)) set → AreAccessesBelow facts held n base → AreAccessesBelow facts held (n + 1) (base ++ (item, set) ∷ [])
    accesses_more n item set base within is below members are = record {
      each = All-push (IsOwn facts held) base (item, set) are.each (record {
        accesses = subst (λ p. Accesses (basis_of facts) p item.function item.subject) (sym is.access) is.accesses;
        own = is.own;
        locks = λ x. subst (λ p. has_id set x ≡ has_id (at_of held p) x) (sym is.access) (members.members x);
      });
      all = λ p f x under accesses.
          elim (cases_lt p n) [
            | inl before ↦ let found = are.all p f x before accesses in (found.0, Contains-append_left base ((item, set) ∷ []) (item_of f false x p, found.0) found.1)
            | inr after ↦
                let same : p ≡ n = omega (arith, under, after) in
                let one = is.only f x (subst (λ q. Accesses (basis_of facts) q f x) same accesses) in
                let equal : item ≡ item_of f false x p = (λ i. record { function = sym one.0 i; child = is.own i; subject = sym one.1 i; access = (is.access ∙ sym same) i }) in
                (set, subst (λ i. Contains (base ++ (item, set) ∷ []) (i, set)) equal (Contains-push base (item, set)))
          ];
      in_range = All-push (IsEntryInRange facts (length facts.labels.entries)) base (item, set) are.in_range (record {
        function = is.function;
        subject = is.subject;
        access = subst (λ p. p < length facts.program.points) (sym is.access) within;
        locks = record {
          sorted = members.sorted;
          below = All-from_has_id (λ x. x < length facts.labels.entries) set (λ x there. All-has_id (λ z. z < length facts.labels.entries) (at_of held n) x below.below (sym (members.members x) ∙ there));
        };
      });
    }
