-- No more operands lead back from a point than the program has points, where they lead to one that gives its pointer by itself.
use Rattle.std.proofs.Common.{ℕ, ◌≡◌, ◌∙◌, ◌<◌, ◌≤◌, ◌+◌, false, true, Bool, List, [], ◌∷◌, Option, Some, None, All, ap, arith, eqb, inl, inr, length, refl, subst, suc, sym, zero}
use Rattle.std.specs.Prelude.{◌||◌, slice_get}
use Rattle.std.specs.List.{AllByRecursion, IsDistinct, list_any}
use Rattle.std.specs.Option.{option_map}
use Rattle.std.proofs.lemmas.Bool.{cases_eq, false≢true, ne_eqb}
use Rattle.std.proofs.lemmas.Map.Steps.{length-le_from_distinct_below}
use Rattle.std.proofs.lemmas.Option.{none-some, same_Some, slice_get_cases}
use Rattle.lk_facts.proofs.Sets.{All-got}
use Rattle.lk_facts.specs.InRange.{AllOperands, IsInRange, IsPointInRange, sizes_of}
use Rattle.lk_facts.specs.Initials.{GivesFunction}
use Rattle.lk_facts.specs.Program.{action_at}
use Rattle.lk_facts.specs.declared.action.Action.{Action}
use Rattle.lk_facts.specs.declared.action.Action.TheVariants.{Field, Func, Index, Binary, Convert, Root, Text}
use Rattle.lk_arith.specs.declared.operators.Op.TheVariants.{Add, Subtract}
use Rattle.lk_facts.specs.declared.program.Program.{Program}
use Rattle.lk_base.specs.declared.cell.CellStep.{CellStep}
use Rattle.lk_point_statics.specs.Behind.{IsBehind, LeadsBack}
use Rattle.lk_point_statics.specs.Behind.LeadsBack.{here, there}
use Rattle.lk_point_statics.specs.Near.{GivesNear}

-- the operands of an action are there
pub operands_within : (program : Program) → IsInRange program → (p : ℕ) (action : Action) → action_at program p ≡ Some action → AllOperands (λ a. a < length program.points) action
operands_within program good p action at =
    elim (slice_get_cases program.points p).1 [
      | inl is ↦
          let own = same_Some _ _ (sym (ap (option_map (λ point. point.action)) is.2) ∙ at) in
          subst (AllOperands (λ a. a < length program.points)) own (All-got (IsPointInRange (sizes_of program)) program.points p is.0 good.parts.points is.2).action.operands
      | inr past ↦ absurd (none-some action (sym (ap (option_map (λ point. point.action)) past.1) ∙ at))
    ]

module _ (program : Program) where
  one_behind : (p a b : ℕ) → IsBehind program p a → IsBehind program p b → a ≡ b
  one_behind p a b (IsBehind.member _ _ k does) (IsBehind.member _ _ l is) = cc
  one_behind p a b (IsBehind.member _ _ k does) (IsBehind.index _ _ c into is) = absurd cc
  one_behind p a b (IsBehind.member _ _ k does) (IsBehind.sum _ _ c op is) = absurd cc
  one_behind p a b (IsBehind.member _ _ k does) (IsBehind.converted _ _ t is) = absurd cc
  one_behind p a b (IsBehind.index _ _ c into does) (IsBehind.member _ _ l is) = absurd cc
  one_behind p a b (IsBehind.index _ _ c into does) (IsBehind.index _ _ d onto is) = cc
  one_behind p a b (IsBehind.index _ _ c into does) (IsBehind.sum _ _ d op is) = absurd cc
  one_behind p a b (IsBehind.index _ _ c into does) (IsBehind.converted _ _ t is) = absurd cc
  one_behind p a b (IsBehind.sum _ _ c op does) (IsBehind.member _ _ l is) = absurd cc
  one_behind p a b (IsBehind.sum _ _ c op does) (IsBehind.index _ _ d into is) = absurd cc
  one_behind p a b (IsBehind.sum _ _ c op does) (IsBehind.sum _ _ d other is) = cc
  one_behind p a b (IsBehind.sum _ _ c op does) (IsBehind.converted _ _ t is) = absurd cc
  one_behind p a b (IsBehind.converted _ _ t does) (IsBehind.member _ _ l is) = absurd cc
  one_behind p a b (IsBehind.converted _ _ t does) (IsBehind.index _ _ d into is) = absurd cc
  one_behind p a b (IsBehind.converted _ _ t does) (IsBehind.sum _ _ d op is) = absurd cc
  one_behind p a b (IsBehind.converted _ _ t does) (IsBehind.converted _ _ u is) = cc

  -- a point behind which no other one stands
  abbrev IsLast : ℕ → Type 0
  IsLast z = (a : ℕ) → IsBehind program z a → ⊥

  -- so many operands lead back to the last one
  abbrev pub Ends : ℕ → ℕ → Type 0
  Ends steps p = (z : ℕ) × LeadsBack program steps p z × IsLast z

  step_end : (steps p a : ℕ) → IsBehind program p a → Ends steps a → Ends (suc steps) p
  step_end steps p a behind ends = (ends.0, there steps p a ends.0 behind ends.1, ends.2)

  last_root : (p n : ℕ) → action_at program p ≡ Some (Root n) → IsLast p
  last_root p n does a (IsBehind.member _ _ k is) = absurd cc
  last_root p n does a (IsBehind.index _ _ b into is) = absurd cc
  last_root p n does a (IsBehind.sum _ _ b op is) = absurd cc
  last_root p n does a (IsBehind.converted _ _ t is) = absurd cc

  last_text : (p n : ℕ) → action_at program p ≡ Some (Text n) → IsLast p
  last_text p n does a (IsBehind.member _ _ k is) = absurd cc
  last_text p n does a (IsBehind.index _ _ b into is) = absurd cc
  last_text p n does a (IsBehind.sum _ _ b op is) = absurd cc
  last_text p n does a (IsBehind.converted _ _ t is) = absurd cc

  last_function : (p n : ℕ) → action_at program p ≡ Some (Func n) → IsLast p
  last_function p n does a (IsBehind.member _ _ k is) = absurd cc
  last_function p n does a (IsBehind.index _ _ b into is) = absurd cc
  last_function p n does a (IsBehind.sum _ _ b op is) = absurd cc
  last_function p n does a (IsBehind.converted _ _ t is) = absurd cc

  -- where a point gives a pointer to a part of an object or to a function, operands lead back to a last one
  pub ends_near : (p r : ℕ) (path : List CellStep) (past : Bool) → GivesNear program p r path past → (steps : ℕ) × Ends steps p
  ends_near p r path past (GivesNear.root _ _ does) = (0, (p, here p, last_root p r does))
  ends_near p r path past (GivesNear.text _ _ does) = (0, (p, here p, last_text p r does))
  ends_near p r path past (GivesNear.member _ a k _ from does gives) =
      let ends = ends_near a r from false gives in
      (suc ends.0, step_end ends.0 p a (IsBehind.member p a k does) ends.1)
  ends_near p r path past (GivesNear.element _ a b k _ from does number gives) =
      let ends = ends_near a r from false gives in
      (suc ends.0, step_end ends.0 p a (IsBehind.index p a b true does) ends.1)
  ends_near p r path past (GivesNear.index _ a b _ n from to before after does number gives moves) =
      let ends = ends_near a r from before gives in
      (suc ends.0, step_end ends.0 p a (IsBehind.index p a b false does) ends.1)
  ends_near p r path past (GivesNear.plus _ a b _ n from to before after does number gives moves) =
      let ends = ends_near a r from before gives in
      (suc ends.0, step_end ends.0 p a (IsBehind.sum p a b Add does) ends.1)
  ends_near p r path past (GivesNear.minus _ a b _ n from to before after does number gives moves) =
      let ends = ends_near a r from before gives in
      (suc ends.0, step_end ends.0 p a (IsBehind.sum p a b Subtract does) ends.1)
  ends_near p r path past (GivesNear.converted _ a t _ from before does gives) =
      let ends = ends_near a r from before gives in
      (suc ends.0, step_end ends.0 p a (IsBehind.converted p a t does) ends.1)

  pub ends_function : (p f : ℕ) → GivesFunction program p f → (steps : ℕ) × Ends steps p
  ends_function p f (GivesFunction.function _ _ does) = (0, (p, here p, last_function p f does))
  ends_function p f (GivesFunction.converted _ a t _ does gives) =
      let ends = ends_function a f gives in
      (suc ends.0, step_end ends.0 p a (IsBehind.converted p a t does) ends.1)

  -- one more operand back
  pub further : (steps p q a : ℕ) → LeadsBack program steps p q → IsBehind program q a → LeadsBack program (steps + 1) p a
  further steps p q a (here _) behind = there 0 p a a behind (here a)
  further steps p q a (there before _ b _ first rest) behind =
      let number : suc (before + 1) ≡ suc before + 1 = omega arith in
      subst (λ n. LeadsBack program n p a) number (there (before + 1) p b a first (further before b q a rest behind))

  -- nothing stands further back than the last one
  no_further : (steps most p q z : ℕ) → LeadsBack program steps p q → LeadsBack program most p z → IsLast z → steps ≤ most
  no_further steps most p q z (here _) far last = omega arith
  no_further steps most p q z (there before _ a _ behind back) (here _) last = absurd (last a behind)
  no_further steps most p q z (there before _ a _ behind back) (there fewer _ b _ behind' back') last =
      let rest = no_further before fewer a q z back (subst (λ x. LeadsBack program fewer x z) (one_behind p b a behind' behind) back') last in
      omega (arith, rest)

  one_end : (steps other p : ℕ) → Ends steps p → Ends other p → steps ≤ other
  one_end steps other p ends ends' = no_further steps other p ends.0 ends'.0 ends.1 ends'.1 ends'.2

  -- the points on the way back
  abbrev visited : (steps p z : ℕ) → LeadsBack program steps p z → List ℕ
  visited steps p z (here _) = p ∷ []
  visited steps p z (there before _ a _ behind back) = p ∷ visited before a z back

  as_many : (steps p z : ℕ) (back : LeadsBack program steps p z) → length (visited steps p z back) ≡ suc steps
  as_many steps p z (here _) = refl
  as_many steps p z (there before _ a _ behind back) = ap suc (as_many before a z back)

  -- none of them is a point from which more operands lead back
  apart : (x steps p z : ℕ) (back : LeadsBack program steps p z) → IsLast z → ((more : ℕ) → Ends more x → steps < more) →
      AllByRecursion (λ y. eqb x y ≡ false) (visited steps p z back)
  apart x steps p z (here _) last more = (
    ne_eqb x p (λ same. let less = more 0 (subst (Ends 0) (sym same) (p, here p, last)) in absurd (omega (arith, less))),
    tt,
  )
  apart x steps p z (there before _ a _ behind back) last more = (
    ne_eqb x p (λ same. let less = more (suc before) (subst (Ends (suc before)) (sym same) (z, there before p a z behind back, last)) in absurd (omega (arith, less))),
    apart x before a z back last (λ n is. let less = more n is in omega (arith, less)),
  )

  distinct : (steps p z : ℕ) (back : LeadsBack program steps p z) → IsLast z → IsDistinct eqb (visited steps p z back)
  unfolding IsDistinct
  distinct steps p z (here _) last = (tt, tt)
  distinct steps p z (there before _ a _ behind back) last =
      let ends : Ends (suc before) p = (z, there before p a z behind back, last) in
      (apart p before a z back last (λ n is. let same = one_end (suc before) n p ends is in omega (arith, same)), distinct before a z back last)

  module _ (good : IsInRange program) where
    behind_within : (p a : ℕ) → IsBehind program p a → a < length program.points
    behind_within p a (IsBehind.member _ _ k does) = operands_within program good p (Field a k) does
    behind_within p a (IsBehind.index _ _ b into does) = (operands_within program good p (Index a b into) does).0
    behind_within p a (IsBehind.sum _ _ b op does) = (operands_within program good p (Binary op a b) does).0
    behind_within p a (IsBehind.converted _ _ t does) = operands_within program good p (Convert a t) does

    all_within : (steps p z : ℕ) (back : LeadsBack program steps p z) → p < length program.points → (q : ℕ) → list_any (eqb q) (visited steps p z back) ≡ true → q < length program.points
    all_within steps p z (here _) within q among =
        elim (cases_eq q p) [
          | inl same ↦ subst (λ x. x < length program.points) (sym same) within
          | inr other ↦ absurd (false≢true (sym (ap (λ b. b || false) (ne_eqb q p other)) ∙ among))
        ]
    all_within steps p z (there before _ a _ behind back) within q among =
        elim (cases_eq q p) [
          | inl same ↦ subst (λ x. x < length program.points) (sym same) within
          | inr other ↦ all_within before a z back (behind_within p a behind) q (sym (ap (λ b. b || list_any (eqb q) (visited before a z back)) (ne_eqb q p other)) ∙ among)
        ]

    -- so operands lead back fewer times than there are points
    pub never_so_far : (far p q : ℕ) → p < length program.points → length program.points ≤ far → LeadsBack program far p q → (steps : ℕ) → Ends steps p → ⊥
    never_so_far far p q within many back steps ends =
        let most = no_further far steps p q ends.0 back ends.1 ends.2 in
        let few = length-le_from_distinct_below (visited steps p ends.0 ends.1) (length program.points) (distinct steps p ends.0 ends.1 ends.2) (all_within steps p ends.0 ends.1 within) in
        omega (arith, most, many, few, as_many steps p ends.0 ends.1)
