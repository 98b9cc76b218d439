-- How far the check of several trees has come.
use Rattle.std.proofs.Common.{◌≡◌, ◌∙◌, inl, inr, ℕ, List, [], ◌∷◌, ◌++◌, None, sym, ap, subst}
use Rattle.std.specs.Iterator.{Yields}
use Rattle.std.specs.Vec.Iter.{into_iter_items, into_iter_steps}
use Rattle.std.specs.declared.vec.IntoIter.{IntoIter}
use Rattle.lk_base.specs.declared.fault.Fault.{Fault}
use Rattle.lk_base.specs.declared.fault.Fault.TheVariants as fault
use Rattle.lk_base.specs.declared.refusal.Refusal.{Refusal}
use Rattle.lk_check_unit.specs.Sources.{IsRefused}
use Rattle.lk_lex.specs.declared.token.Token.{Token}
use Rattle.lk_tree.specs.declared.statement.Unit.{Unit}
use Rattle.lk_typed.specs.Env.{Name}
use Rattle.lk_sources.specs.Accepting.{stopped, unsupported, without_tree, faulty}
use Rattle.lk_sources.specs.Calls.{IsSplitFault}
use Rattle.lk_sources.specs.Faults.{IsFaultless, AreFaultless, AreFaulty, here, behind}
use Rattle.lk_sources.specs.Judging.{IsFaulty, IsJudged, IsTreeFault}
use Rattle.lk_sources.specs.Splitting.{AreSplit, first_word}
use Rattle.lk_sources.specs.Trees.{AreTrees}
use Rattle.lk_sources.specs.declared.reading.Source.{Source}

-- a tree that the checker refuses
pub faulty_one : (externs : List Name) (unit : Unit) (fault : Fault) → IsRefused externs unit fault → IsFaulty externs (unit ∷ []) fault
faulty_one externs unit fault.NoMemory is = tt
faulty_one externs unit (fault.Refused told) (f, first, is) = here f first is

pub faultless_more : (externs : List Name) (units : List Unit) (unit : Unit) → AreFaultless externs units → IsFaultless externs unit → AreFaultless externs (units ++ unit ∷ [])
faultless_more externs [] unit all is = (is, tt)
faultless_more externs (first ∷ units) unit all is = (all.0, faultless_more externs units unit all.1 is)

faulty_behind : (externs : List Name) (before : List Unit) (unit : Unit) (more : List Unit) (told : Refusal) → AreFaultless externs before → AreFaulty externs (unit ∷ []) told →
    AreFaulty externs (before ++ unit ∷ more) told
faulty_behind externs [] unit more told all (here f first is) = here f first is
faulty_behind externs [] unit more told all (behind none rest) = elim rest [ ]
faulty_behind externs (first ∷ before) unit more told all is = behind all.0 (faulty_behind externs before unit more told all.1 is)

-- the next tree is the first with a fault
pub faulty_next : (externs : List Name) (before : List Unit) (unit : Unit) (more all : List Unit) (fault : Fault) → AreFaultless externs before → all ≡ before ++ unit ∷ more → IsFaulty externs (unit ∷ []) fault →
    IsFaulty externs all fault
faulty_next externs before unit more all fault.NoMemory none whole is = tt
faulty_next externs before unit more all (fault.Refused told) none whole is = subst (λ l. AreFaulty externs l told) (sym whole) (faulty_behind externs before unit more told none is)

-- what the iterator of a list has given is a front of it
pub yielded_front : {X A : Type 0} (s t : IntoIter X A) (xs : List X) → Yields into_iter_steps s xs t → into_iter_items s ≡ xs ++ into_iter_items t
yielded_front s t [] same = ap into_iter_items same
yielded_front s t (x ∷ xs) (u, step, rest) = step.0 ∙ ap (λ l. x ∷ l) (yielded_front u t xs rest)

-- ---- all of it

module _ (names : List (List ℕ)) (externs : List Name) (sources : List Source) (last : List (List ℕ)) where
  pub judged_split : (fault : Fault) → IsSplitFault names sources last fault → IsJudged names externs sources last fault
  judged_split fault.NoMemory is = tt
  judged_split (fault.Refused told) (inl stops) = stopped stops
  judged_split (fault.Refused told) (inr (lists, split, word)) = unsupported lists split word

  module _ (lists : List (List Token)) (split : AreSplit names sources lists last) (supported : first_word sources lists ≡ None) where
    pub judged_tree : (fault : Fault) → IsTreeFault sources lists fault → IsJudged names externs sources last fault
    judged_tree fault.NoMemory is = tt
    judged_tree (fault.Refused told) is = without_tree lists split supported is

    pub judged_faulty : (units : List Unit) → AreTrees sources lists units → (fault : Fault) → IsFaulty externs units fault → IsJudged names externs sources last fault
    judged_faulty units trees fault.NoMemory is = tt
    judged_faulty units trees (fault.Refused told) is = faulty lists units split supported trees is
