-- How far the trees of several sources have come.
use Rattle.std.proofs.Common.{◌≡◌, ◌∙◌, ℕ, zero, suc, ◌+◌, ◌<◌, ◌≤◌, List, [], ◌∷◌, ◌++◌, length, get_or, take, drop, refl, sym, ap, subst, arith}
use Rattle.std.specs.List.{All}
use Rattle.lk_base.specs.declared.fault.Fault.{Fault}
use Rattle.lk_base.specs.declared.fault.Fault.TheVariants as fault
use Rattle.lk_base.specs.declared.refusal.Refusal.{Refusal}
use Rattle.lk_lex.specs.TokenList.{IsInside}
use Rattle.lk_lex.specs.declared.token.Token.{Token}
use Rattle.lk_parse_unit.specs.Parsing.{IsRefused}
use Rattle.lk_parse_unit.specs.Tree.{IsTree}
use Rattle.lk_tree.specs.declared.statement.Unit.{Unit}
use Rattle.lk_sources.specs.Calls.{AreAllInside}
use Rattle.lk_sources.specs.Judging.{IsTreeFault}
use Rattle.lk_sources.specs.Trees.{AreTrees, nothing, next, HasNoTree, here, behind}
use Rattle.lk_sources.specs.declared.reading.Source.{Source}
use Rattle.lk_sources.proofs.Lists.{taken_more, cut_at, all_taken}

pub as_many : (sources : List Source) (lists : List (List Token)) → AreAllInside sources lists → length sources ≡ length lists
as_many [] [] all = refl
as_many [] (list ∷ lists) all = absurd all
as_many (s ∷ sources) [] all = absurd all
as_many (s ∷ sources) (list ∷ lists) all = ap suc (as_many sources lists all.1)

pub inside_at : (sources : List Source) (lists : List (List Token)) (i : ℕ) (s : Source) (list : List Token) → AreAllInside sources lists → i < length sources → s ≡ get_or sources i s → list ≡ get_or lists i list →
    All (IsInside (length s.bytes)) list
inside_at [] lists i s list all below is is_list = absurd (omega arith)
inside_at (x ∷ sources) [] i s list all below is is_list = absurd all
inside_at (x ∷ sources) (y ∷ lists) zero s list all below is is_list =
    subst (λ z. All (IsInside (length z.bytes)) list) (sym is) (subst (All (IsInside (length x.bytes))) (sym is_list) all.0)
inside_at (x ∷ sources) (y ∷ lists) (suc i) s list all below is is_list = inside_at sources lists i s list all.1 (omega arith) is is_list

trees_push : {before : List Source} {lists : List (List Token)} {units : List Unit} (s : Source) (tokens : List Token) (unit : Unit) → AreTrees before lists units → IsTree 200 s.bytes tokens unit →
    AreTrees (before ++ s ∷ []) (lists ++ tokens ∷ []) (units ++ unit ∷ [])
trees_push s tokens unit nothing tree = next tree nothing
trees_push s tokens unit (next first rest) tree = next first (trees_push s tokens unit rest tree)

no_tree_behind : {before rest : List Source} {lists more : List (List Token)} {units : List Unit} {told : Refusal} → AreTrees before lists units → HasNoTree rest more told →
    HasNoTree (before ++ rest) (lists ++ more) told
no_tree_behind nothing none = none
no_tree_behind (next first others) none = behind first (no_tree_behind others none)

module _ (sources : List Source) (lists : List (List Token)) (i : ℕ) (units : List Unit) (so_far : AreTrees (take i sources) (take i lists) units) where
  module _ (s : Source) (list : List Token) (below : i < length sources) (below_lists : i < length lists) (is : s ≡ get_or sources i s) (is_list : list ≡ get_or lists i list) where
    pub trees_more : (all : List Unit) (unit : Unit) → all ≡ units ++ unit ∷ [] → IsTree 200 s.bytes list unit → AreTrees (take (i + 1) sources) (take (i + 1) lists) all
    trees_more all unit pushed tree =
        subst (AreTrees (take (i + 1) sources) (take (i + 1) lists)) (sym pushed)
        (subst (λ l. AreTrees l (take (i + 1) lists) (units ++ unit ∷ [])) (sym (taken_more sources i s below ∙ ap (λ x. take i sources ++ x ∷ []) (sym is)))
        (subst (λ l. AreTrees (take i sources ++ s ∷ []) l (units ++ unit ∷ [])) (sym (taken_more lists i list below_lists ∙ ap (λ x. take i lists ++ x ∷ []) (sym is_list)))
        (trees_push s list unit so_far tree)))

    pub no_tree_next : (fault : Fault) → IsRefused 200 s.bytes list fault → IsTreeFault sources lists fault
    no_tree_next fault.NoMemory refused = tt
    no_tree_next (fault.Refused told) refused =
        subst (λ l. HasNoTree l lists told) (sym (cut_at sources i s below ∙ ap (λ x. take i sources ++ x ∷ drop (suc i) sources) (sym is)))
        (subst (λ l. HasNoTree (take i sources ++ s ∷ drop (suc i) sources) l told) (sym (cut_at lists i list below_lists ∙ ap (λ x. take i lists ++ x ∷ drop (suc i) lists) (sym is_list)))
        (no_tree_behind so_far (here refused)))

  pub trees_all : length sources ≤ i → length sources ≡ length lists → AreTrees sources lists units
  trees_all past same =
      subst (λ l. AreTrees l lists units) (all_taken sources i past) (subst (λ l. AreTrees (take i sources) l units) (all_taken lists i (omega (arith, same))) so_far)
