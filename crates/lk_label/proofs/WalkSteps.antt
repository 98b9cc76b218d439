-- A walk from turn to turn: what it has listed and what is ahead.
use Rattle.std.proofs.Common.{◌≡◌, ◌↔◌, ℕ, ◌+◌, ◌-◌, ◌<◌, ◌⊎◌, Bool, true, false, reverse, List, [], ◌∷◌, ◌++◌, map, length, get_or, Option, Some, None, All, Contains, inl, inr, refl, sym, ap, ◌∙◌, subst, arith}
use Rattle.std.specs.Prelude.{slice_get, IsSome}
use Rattle.std.specs.Option.{option_to_list}
use Rattle.std.proofs.lemmas.Bool.{both_ways, false≢true}
use Rattle.std.proofs.lemmas.List.{map-append, length_push, reverse-append}
use Rattle.std.proofs.lemmas.List.Elements.{All-append, All-contains, All-push}
use Rattle.std.proofs.lemmas.Option.{none-some, slice_get-get_or, slice_get_within, get_or_from_slice_get}
use Rattle.lk_facts.specs.LabelRules.{Walk, parts_of}
use Rattle.lk_facts.specs.LabelRules.Walk.{done, again, fresh}
use Rattle.lk_facts.specs.Places.{IsMissing}
use Rattle.lk_types.specs.Nodes.{Node, IsNode, node_of, first}
use Rattle.lk_types.specs.Table.{Table}
use Rattle.lk_types.specs.declared.node.Base.TheVariants.{Start}
use Rattle.lk_types.specs.declared.node.NodeId.{NodeId}
use Rattle.lk_types.proofs.PathLemmas.{equal_nodes_have_equal_ids}
use Rattle.lk_label.specs.Walking.{IsNext, Goes, IsWalking, IsWalkOf}
use Rattle.lk_label.specs.Walking.IsNext.{none, here, over}
use Rattle.lk_label.proofs.Walks.{assoc, split, Contains-first, Contains-behind, Contains-cons_cases, Contains-none}

pub contains_map : {X Y : Type 0} (f : X → Y) (xs : List X) (x : X) → Contains xs x → Contains (map f xs) (f x)
contains_map f [] x there = absurd (Contains-none x there)
contains_map f (y ∷ ys) x there =
    elim (Contains-cons_cases y x ys there) [
      | inl same ↦ subst (λ z. Contains (f y ∷ map f ys) (f z)) same (Contains-first (f y) (map f ys))
      | inr behind ↦ Contains-behind (f y) (f x) (map f ys) (contains_map f ys x behind)
    ]

pub from_map : {X Y : Type 0} (f : X → Y) (xs : List X) (y : Y) → Contains (map f xs) y → (x : X) × Contains xs x × (f x ≡ y)
from_map f [] y there = absurd (Contains-none y there)
from_map f (x ∷ xs) y there =
    elim (Contains-cons_cases (f x) y (map f xs) there) [
      | inl same ↦ (x, Contains-first x xs, same)
      | inr behind ↦ let on = from_map f xs y behind in (on.0, Contains-behind x on.0 xs on.1, on.2)
    ]

pub contains_got : {X : Type 0} (xs : List X) (i : ℕ) (x : X) → slice_get xs i ≡ Some x → Contains xs x
contains_got xs i x at = (i, slice_get_within xs i x at, get_or_from_slice_get xs i x x at)

pub got_contains : {X : Type 0} (xs : List X) (x : X) → (there : Contains xs x) → slice_get xs there.0 ≡ Some x
got_contains xs x there = slice_get-get_or xs there.0 x there.1 ∙ ap Some there.2

-- a stack whose last is next
pub last_got : {X : Type 0} (xs : List X) (x : X) → slice_get (xs ++ x ∷ []) (length xs) ≡ Some x
last_got [] x = refl
last_got (y ∷ ys) x = last_got ys x

pub reverse_push : {X : Type 0} (xs : List X) (x : X) → reverse (xs ++ x ∷ []) ≡ x ∷ reverse xs
reverse_push xs x = reverse-append xs (x ∷ [])

pub popped : (old new : List NodeId) (result : Option NodeId) (n : NodeId) → old ≡ new ++ option_to_list result → (0 < length old → IsSome result) → slice_get old (length old - 1) ≡ Some n → (result ≡ Some n) × (reverse old ≡ n ∷ reverse new)
popped old new None n items some at = let within = slice_get_within old (length old - 1) n at in absurd (false≢true (some (omega (arith, within))))
popped old new (Some m) n items some at =
    let long : length old - 1 ≡ length new = omega (arith, ap length items, length_push new m) in
    let here : slice_get old (length old - 1) ≡ Some m = subst (λ k. slice_get old k ≡ Some m) (sym long) (subst (λ xs. slice_get xs (length new) ≡ Some m) (sym items) (last_got new m)) in
    let same : Some m ≡ Some n = sym here ∙ at in
    let is : m ≡ n = cc in
    (same, ap reverse items ∙ (reverse_push new m ∙ ap (λ k. k ∷ reverse new) is))

pub none_left : (xs : List NodeId) → None ≡ slice_get xs (length xs - 1) → xs ≡ []
none_left [] lacks = refl
none_left (x ∷ xs) lacks = absurd (none-some _ (lacks ∙ slice_get-get_or (x ∷ xs) (length (x ∷ xs) - 1) x (omega arith)))

pub missing_from : {X : Type 0} (xs : List X) (n : X) (b : Bool) → (b ≡ true) ↔ Contains xs n → b ≡ false → IsMissing xs n
missing_from xs n b iff isnt i at = both_ways b isnt (iff.1 (contains_got xs i n at))

pub next_here : (listed old new : List NodeId) (result : Option NodeId) (n : NodeId) → (result ≡ Some n) × (reverse old ≡ n ∷ reverse new) → IsMissing listed n → IsNext listed (reverse old) result (reverse new)
next_here listed old new result n popped out =
    subst (λ r. IsNext listed (reverse old) r (reverse new)) (sym popped.0) (subst (λ ahead. IsNext listed ahead (Some n) (reverse new)) (sym popped.1) (here n (reverse new) out))

pub next_over : (listed old new : List NodeId) (result : Option NodeId) (n : NodeId) → (result ≡ Some n) × (reverse old ≡ n ∷ reverse new) → Contains listed n → (next : Option NodeId) (rest : List NodeId) → IsNext listed (reverse new) next rest → IsNext listed (reverse old) next rest
next_over listed old new result n popped there next rest on = subst (λ ahead. IsNext listed ahead next rest) (sym popped.1) (over n (reverse new) next rest there on)

pub next_none : (listed ahead : List NodeId) → None ≡ slice_get ahead (length ahead - 1) → IsNext listed (reverse ahead) None (reverse ahead)
next_none listed ahead empty = subst (λ xs. IsNext listed (reverse xs) None (reverse xs)) (sym (none_left ahead empty)) none

module _ (table : Table) where
  -- of two ids of one node there is one
  pub one_id : (n m : NodeId) → IsNode table n → IsNode table m → node_of table n ≡ node_of table m → n ≡ m
  one_id n m a b same = equal_nodes_have_equal_ids table n m a b same

  pub contains_id : (ids : List NodeId) (n : NodeId) → All (IsNode table) ids → IsNode table n → Contains (map (node_of table) ids) (node_of table n) → Contains ids n
  contains_id ids n nodes is there =
      let found = from_map (node_of table) ids (node_of table n) there in
      subst (Contains ids) (one_id found.0 n (All-contains (IsNode table) ids found.0 nodes found.1) is found.2) found.1

  pub missing_node : (ids : List NodeId) (n : NodeId) → All (IsNode table) ids → IsNode table n → IsMissing ids n → IsMissing (map (node_of table) ids) (node_of table n)
  missing_node ids n nodes is out i at =
      let there = contains_id ids n nodes is (contains_got _ i _ at) in
      out there.0 (got_contains ids n there)

  no_next : {listed ahead rest : List NodeId} {next : Option NodeId} → IsNext listed ahead next rest → next ≡ None → Walk table (map (node_of table) listed) (map (node_of table) ahead) []
  no_next {listed} none is = done (map (node_of table) listed)
  no_next (here n rest out) is = absurd (cc (is))
  no_next {listed} (over n ahead next rest there on) is = again (node_of table n) (map (node_of table) listed) (map (node_of table) ahead) [] (contains_map (node_of table) listed n there) (no_next on is)

  skipped : {listed ahead rest : List NodeId} {next : Option NodeId} → IsNext listed ahead next rest → (n : NodeId) → next ≡ Some n → (more : List Node) → Walk table (map (node_of table) listed) (node_of table n ∷ map (node_of table) rest) more → Walk table (map (node_of table) listed) (map (node_of table) ahead) more
  skipped none n is more walk = absurd (cc (is))
  skipped {listed} (here m rest out) n is more walk =
      let same : n ≡ m = cc in
      subst (λ k. Walk table (map (node_of table) listed) (node_of table k ∷ map (node_of table) rest) more) same walk
  skipped {listed} (over m ahead next rest there on) n is more walk = again (node_of table m) (map (node_of table) listed) (map (node_of table) ahead) more (contains_map (node_of table) listed m there) (skipped on n is more walk)

  next_missing : {listed ahead rest : List NodeId} {next : Option NodeId} → IsNext listed ahead next rest → (n : NodeId) → next ≡ Some n → IsMissing listed n
  next_missing none n is = absurd (cc (is))
  next_missing {listed} (here m rest out) n is = let same : m ≡ n = cc in subst (IsMissing listed) same out
  next_missing (over m ahead next rest there on) n is = next_missing on n is

  next_from : {listed ahead rest : List NodeId} {next : Option NodeId} → IsNext listed ahead next rest → (n : NodeId) → (next ≡ Some n) ⊎ Contains rest n → Contains ahead n
  next_from none n of = elim of [ inl is ↦ absurd (cc (is)) | inr there ↦ there ]
  next_from (here m rest out) n of = elim of [ inl is ↦ (let same : m ≡ n = cc in subst (Contains (m ∷ rest)) same (Contains-first m rest)) | inr there ↦ Contains-behind m n rest there ]
  next_from (over m ahead next rest there on) n of = Contains-behind m n ahead (next_from on n of)

  all_from : (ids : List NodeId) → ((n : NodeId) → Contains ids n → IsNode table n) → All (IsNode table) ids
  all_from ids each k d below = each (get_or ids k d) (k, below, get_or_itself ids k d below)
    where
      get_or_itself : (xs : List NodeId) (k : ℕ) (d : NodeId) → k < length xs → get_or xs k (get_or xs k d) ≡ get_or xs k d
      get_or_itself xs k d below = get_or_from_slice_get xs k (get_or xs k d) (get_or xs k d) (slice_get-get_or xs k d below)

  pub next_facts : {listed ahead rest : List NodeId} {t k : ℕ} (n : NodeId) → IsWalking table t k listed ahead → IsNext listed ahead (Some n) rest → IsNode table n × IsMissing listed n
  next_facts {ahead = ahead} n walking next = (All-contains (IsNode table) ahead n walking.nodes_ahead (next_from next n (inl refl)), next_missing next n refl)

  pub walking_starts : (t : ℕ) (n : NodeId) → IsNode table n → node_of table n ≡ first (Start t) → IsWalking table t 0 [] (n ∷ [])
  walking_starts t n is start = record {
    count = refl;
    nodes = λ k d below. absurd (omega (arith, below));
    nodes_ahead = All-push (IsNode table) [] n (λ k d below. absurd (omega (arith, below))) is;
    goes_on = λ more walk. subst (λ m. Walk table [] (m ∷ []) more) start walk;
  }

  pub walking_more : {t k : ℕ} {listed listed' ahead rest ahead' : List NodeId} (n : NodeId) → IsWalking table t k listed ahead → IsNext listed ahead (Some n) rest → Goes table n listed listed' rest ahead' → IsWalking table t (k + 1) listed' ahead'
  walking_more {t} {k} {listed} {listed'} {ahead} {rest} {ahead'} n walking next goes =
      subst (λ xs. IsWalking table t (k + 1) xs ahead') (sym goes.put) (subst (IsWalking table t (k + 1) (listed ++ n ∷ [])) (sym goes.before) on)
    where
      f : NodeId → Node
      f = node_of table

      facts : IsNode table n × IsMissing listed n
      facts = next_facts n walking next

      goes_on : (more : List Node) → Walk table (map (node_of table) (listed ++ n ∷ [])) (map (node_of table) (goes.parts ++ rest)) more → Walk table [] (first (Start t) ∷ []) (map (node_of table) (listed ++ n ∷ []) ++ more)
      goes_on more walk =
          let l = map (node_of table) listed in
          let x = node_of table n in
          let put = map-append (node_of table) listed (n ∷ []) in
          let walk' = subst (λ xs. Walk table xs (parts_of table x ++ map (node_of table) rest) more) put (subst (λ ys. Walk table (map (node_of table) (listed ++ n ∷ [])) (ys ++ map (node_of table) rest) more) goes.of.are (subst (λ ys. Walk table (map (node_of table) (listed ++ n ∷ [])) ys more) (map-append (node_of table) goes.parts rest) walk)) in
          let parts = split table (parts_of table x) (map (node_of table) rest) walk' in
          let then = subst (λ s. Walk table s (map (node_of table) rest) parts.more) (assoc l (x ∷ []) parts.below) parts.then in
          let whole = fresh x l (map (node_of table) rest) parts.below parts.more (missing_node listed n walking.nodes facts.0 facts.1) parts.first then in
          let whole' = subst (λ ys. Walk table l (x ∷ map (node_of table) rest) (x ∷ ys)) (sym parts.is) whole in
          let all = walking.goes_on (x ∷ more) (skipped next n refl (x ∷ more) whole') in
          subst (λ xs. Walk table [] (first (Start t) ∷ []) (xs ++ more)) (sym put) (subst (λ xs. Walk table [] (first (Start t) ∷ []) xs) (sym (assoc l (x ∷ []) more)) all)

      on : IsWalking table t (k + 1) (listed ++ n ∷ []) (goes.parts ++ rest)
      on = record {
        count = length_push listed n ∙ ap (λ i. i + 1) walking.count;
        nodes = All-push (IsNode table) listed n walking.nodes facts.0;
        nodes_ahead = All-append (IsNode table) goes.parts rest goes.of.nodes (all_from rest (λ m h. All-contains (IsNode table) ahead m walking.nodes_ahead (next_from next m (inr h))));
        goes_on = goes_on;
      }

  pub walking_ends : {t k : ℕ} {listed ahead rest : List NodeId} → IsWalking table t k listed ahead → IsNext listed ahead None rest → IsWalkOf table t listed
  walking_ends {t} {listed = listed} walking next = record {
    walk = subst (λ xs. Walk table [] (first (Start t) ∷ []) xs) (append_none (map (node_of table) listed)) (walking.goes_on [] (no_next next refl));
    nodes = walking.nodes;
  }
    where
      append_none : {X : Type 0} (xs : List X) → xs ++ [] ≡ xs
      append_none [] = refl
      append_none (x ∷ xs) = ap (λ y. x ∷ y) (append_none xs)
