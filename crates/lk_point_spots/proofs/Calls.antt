-- The steps of each form of call stand at the call's node or at those of its operands.
use Rattle.std.proofs.Common.{ℕ, suc, Bool, true, false, Option, None, Some, List, [], ◌∷◌}
use Rattle.std.specs.Prelude.{⊤, if◌then◌else◌}
use Rattle.lk_base.specs.declared.spot.Spot.{Spot}
use Rattle.lk_facts.specs.declared.action.Action.{Action}
use Rattle.lk_lower_expr.specs.Library as calls
use Rattle.lk_lower_expr.specs.Library.{Called, by_name, by_pointer, is_text, scans, texts_of}
use Rattle.lk_lower_expr.specs.Names.{Names, Node}
use Rattle.lk_lower_expr.specs.Parts.{Part}
use Rattle.lk_point_spots.proofs.Walks.{StepsSpots, PartSpots, PartsSpots, computes_spots, one_spots}

module _ (P : Spot → Type 0) where
  abbrev pub CalledSpots : Called → Type 0
  CalledSpots (by_name entity) = ⊤
  CalledSpots (by_pointer a) = PartSpots P a

  abbrev pub OptionalSpots : Option Part → Type 0
  OptionalSpots None = ⊤
  OptionalSpots (Some a) = PartSpots P a

  module _ (names : Names) where
    count_spots : (count : Option Part) → OptionalSpots count → PartsSpots P (calls.count_of names count)
    count_spots None spots = tt
    count_spots (Some n) spots = (spots, tt)

    texts_by : (test : Bool) (a : Part) (others : List Part) → PartSpots P a → PartsSpots P others → PartsSpots P (if test then a ∷ others else others)
    texts_by true a others x all = (x, all)
    texts_by false a others x all = all

    texts_spots : (list : List Part) → PartsSpots P list → PartsSpots P (texts_of names list)
    texts_spots [] all = tt
    texts_spots (a ∷ others) all = texts_by (is_text (names.form a.node.type)) a (texts_of names others) all.0 (texts_spots others all.1)

    scans_spots : (node : Node) (k : ℕ) (list : List Part) (on : ℕ) → PartsSpots P list → StepsSpots P (scans names node k list on)
    scans_spots node k [] on all = tt
    scans_spots node k (a ∷ others) on all = (all.0.at, scans_spots node (suc k) others on all.1)

  module _ (names : Names) (node : Node) (place : P node.spot) where
    pub call_spots : (callee : Called) (args : List Part) → CalledSpots callee → PartsSpots P args → PartSpots P (calls.call_part names node callee args)
    call_spots (by_name entity) args spots all = one_spots P names node place args _ _ all
    call_spots (by_pointer a) args spots all = one_spots P names node place (a ∷ args) _ _ (spots, all)

    pub extern_spots : (entity : ℕ) (args : List Part) → PartsSpots P args → PartSpots P (calls.extern_part names node entity args)
    extern_spots entity args all = one_spots P names node place args _ _ all

    pub on_one_spots : (does : ℕ → Action) (a : Part) → PartSpots P a → PartSpots P (calls.on_one names node does a)
    on_one_spots does a x = one_spots P names node place (a ∷ []) _ _ (x, tt)

    pub create_spots : (id : Part) (entity : ℕ) (argument : Part) → PartSpots P id → PartSpots P argument → PartSpots P (calls.create_part names node id entity argument)
    create_spots id entity argument x y = computes_spots P names node place (id ∷ argument ∷ []) _ _ (x, (y, tt)) (λ on. (place, (x.at, tt)))

    pub wait_spots : (a b : Part) → PartSpots P a → PartSpots P b → PartSpots P (calls.wait_part names node a b)
    wait_spots a b x y = computes_spots P names node place (a ∷ b ∷ []) _ _ (x, (y, tt)) (λ on. (place, (place, tt)))

    pub allocate_spots : (t : ℕ) (count : Option Part) (zeroed : Bool) → OptionalSpots count → PartSpots P (calls.allocate_part names node t count zeroed)
    allocate_spots t count zeroed spots = one_spots P names node place (calls.count_of names count) _ _ (count_spots names count spots)

    pub scan_spots : (a : Part) → PartSpots P a → PartSpots P (calls.scan_part names node a)
    scan_spots a x = computes_spots P names node place (a ∷ []) _ _ (x, tt) (λ on. (x.at, tt))

    pub print_spots : (format : Part) (args : List Part) → PartSpots P format → PartsSpots P args → PartSpots P (calls.print_part names node format args)
    print_spots format args x all =
        computes_spots P names node place (format ∷ args) _ _ (x, all) (λ on. (x.at, scans_spots names node 1 (texts_of names args) on (texts_spots names args all)))

    pub compute_spots : (args : List Part) → PartsSpots P args → PartSpots P (calls.compute_part names node args)
    compute_spots args all = one_spots P names node place args _ _ all

    pub equal_spots : (a b : Part) → PartSpots P a → PartSpots P b → PartSpots P (calls.equal_part names node a b)
    equal_spots a b x y = one_spots P names node place (a ∷ b ∷ []) _ _ (x, (y, tt))

    pub exit_thread_spots : (a : Part) → PartSpots P a → PartSpots P (calls.exit_thread_part names node a)
    exit_thread_spots a x = computes_spots P names node place (a ∷ []) _ _ (x, tt) (λ on. (place, tt))

    pub exit_spots : (status : Option Part) → OptionalSpots status → PartSpots P (calls.exit_part names node status)
    exit_spots status spots = computes_spots P names node place (calls.count_of names status) _ _ (count_spots names status spots) (λ on. (place, tt))
