-- The path of a node, from what is left of it.
use Rattle.std.proofs.Common.{◌≡◌, ◌∙◌, ◌++◌, ℕ, suc, List, [], ◌∷◌, refl, sym, ap, Some}
use Rattle.std.proofs.lemmas.Option.{same_Some}
use Rattle.std.specs.Option.{option_map}
use Rattle.lk_types.specs.Building.{IsTable}
use Rattle.lk_types.specs.Nodes.{IsNode, entry_of, base_type}
use Rattle.lk_types.specs.Places.{entry_at, is_node, IsInPart}
use Rattle.lk_types.specs.Table.{Table, IsKnown}
use Rattle.lk_types.specs.Walks.{Entry, under, start}
use Rattle.lk_types.specs.declared.node.NodeId.{NodeId}
use Rattle.lk_types.specs.declared.node.Sel.{Sel}
use Rattle.lk_types.proofs.NewLemmas.{append-assoc}
use Rattle.lk_types.proofs.NodeLemmas.{append-nil, known_base, same_part}
use Rattle.lk_types.proofs.PathLemmas.{entry_got}
use Rattle.lk_types.proofs.SubwalkLemmas.{first_entry}

-- these steps are done, and what is left of the way to a node is the way to entry k of the walk of t
pub record IsAhead (table : Table) (n : NodeId) (done : List Sel) (t k : ℕ) : Type 0 where
  pub known : IsKnown table t
  pub node : is_node (entry_at table t k)
  pub path : (e : Entry) → entry_at table t k ≡ Some e → (entry_of table n).path ≡ done ++ e.path

pub all_ahead : (table : Table) (n : NodeId) → IsNode table n → IsAhead table n [] (base_type n.base) n.number
all_ahead table n node = record {
  known = known_base table n.base node.base;
  node = ap (option_map (λ e. e.tag)) (entry_got table n node.number) ∙ ap Some node.no_tag;
  path = λ e at. ap (λ x. x.path) (same_Some (entry_of table n) e (sym (entry_got table n node.number) ∙ at));
}

-- one step more
pub step_ahead : (table : Table) (n : NodeId) (done : List Sel) (t k : ℕ) (sel : Sel) (u rest : ℕ) → IsAhead table n done t (suc k) → IsInPart table t k sel u rest → IsAhead table n (done ++ sel ∷ []) u rest
step_ahead table n done t k sel u rest ahead part = record {
  known = part.known;
  node = sym (same_part table t k sel u rest part).tag ∙ ahead.node;
  path = λ e at. ahead.path (under sel e) (part.same ∙ ap (option_map (under sel)) at) ∙ sym (append-assoc done (sel ∷ []) e.path);
}

-- where nothing is left the path is done
pub none_ahead : (table : Table) (good : IsTable table) (n : NodeId) (done : List Sel) (t : ℕ) → IsAhead table n done t 0 → done ≡ (entry_of table n).path
none_ahead table good n done t ahead = sym (ahead.path (start t) (first_entry table good t) ∙ sym (append-nil done))
