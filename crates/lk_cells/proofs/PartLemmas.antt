-- Paths and the types along them.
use Rattle.std.proofs.Common.{◌≡◌, ℕ, ◌<◌, suc, List, [], ◌∷◌, ◌++◌, drop, take, length, Option, None, Some, true, false, nat_eq, slice_index_or, refl, sym, ap}
use Rattle.std.specs.Option.{option_map, option_or, option_and_then}
use Rattle.std.proofs.Math.Seq.{drop-cons, take-suc}
use Rattle.lk_types.specs.Table.{Table}
use Rattle.lk_cells.specs.Parts.{form_of, part_at, type_along}
use Rattle.lk_base.specs.Steps.{number_of}
use Rattle.lk_cells.specs.Moves.{before, whole_at, on_or_next, path_after, path_turned, next_step}
use Rattle.lk_base.specs.declared.cell.CellStep.{CellStep}

-- where a step leads to no part, the path that goes on with it leads to none
pub type_along-stops : (table : Table) (own : ℕ) (path : List CellStep) (i t : ℕ) (d : CellStep) → i < length path → part_at table own t (slice_index_or path i d) ≡ None → type_along table own (drop i path) t ≡ None
type_along-stops table own path i t d below stops = rw (drop-cons path i d) (rw stops refl)

-- a last step to a first part doesn't count, and any other ends a path that counts whole
pub whole_at-zero : (xs : List CellStep) (s : CellStep) → nat_eq (number_of s) 0 ≡ true → whole_at (xs ++ s ∷ []) ≡ whole_at xs
whole_at-zero [] s first = rw first refl
whole_at-zero (x ∷ xs) s first = ap (before x) (whole_at-zero xs s first)

pub whole_at-end : (xs : List CellStep) (s : CellStep) → nat_eq (number_of s) 0 ≡ false → whole_at (xs ++ s ∷ []) ≡ xs ++ s ∷ []
whole_at-end [] s later = rw later refl
whole_at-end (x ∷ []) s later = ap (before x) (whole_at-end [] s later)
whole_at-end (x ∷ (y ∷ ys)) s later = ap (before x) (whole_at-end (y ∷ ys) s later)

-- the next path, where the steps so far have led to `rest`, and the last of them that has a next step led to `best`
abbrev pub joined : List CellStep → Option (List CellStep) → Option (List CellStep) → Option (List CellStep)
joined front rest best = option_or (option_map (λ q. front ++ q) rest) best

append-one : (xs : List CellStep) (s : CellStep) (q : List CellStep) → (xs ++ s ∷ []) ++ q ≡ xs ++ s ∷ q
append-one [] s q = refl
append-one (x ∷ xs) s q = ap (λ r. x ∷ r) (append-one xs s q)

-- one step more: what follows it, and the next step, before these others
pub joined-step : (front others : List CellStep) (s : CellStep) (next : Option CellStep) (rest best : Option (List CellStep)) →
    joined front (on_or_next s next others rest) best ≡ joined (front ++ s ∷ []) rest (option_or (option_map (λ n. front ++ n ∷ others) next) best)
joined-step front others s next (Some q) best = ap Some (sym (append-one front s q))
joined-step front others s (Some n) None best = refl
joined-step front others s None None best = refl

-- where the last step leads to no part, the next path is known
pub joined-ends : (front others : List CellStep) (next : Option CellStep) (rest best : Option (List CellStep)) → rest ≡ option_map (λ n. n ∷ others) next →
    joined front rest best ≡ option_or (option_map (λ n. front ++ n ∷ others) next) best
joined-ends front others (Some n) rest best ends = rw ends refl
joined-ends front others None rest best ends = rw ends refl

-- what stands after a part, where the last step leads to none
pub path_after-stops : (table : Table) (own : ℕ) (path : List CellStep) (i t : ℕ) (d : CellStep) → i < length path → part_at table own t (slice_index_or path i d) ≡ None →
    path_after table own (drop i path) t ≡ option_map (λ n. n ∷ []) (option_and_then (λ form. next_step table own form (slice_index_or path i d)) (form_of table t))
path_after-stops table own path i t d below stops = rw (drop-cons path i d) (rw stops refl)

whole_at-at : (path : List CellStep) (j : ℕ) (d : CellStep) → j < length path → nat_eq (number_of (slice_index_or path j d)) 0 ≡ true → whole_at (take (suc j) path) ≡ whole_at (take j path)
whole_at-at path j d below first = rw (take-suc path j d) (whole_at-zero (take j path) (slice_index_or path j d) first)

whole_at-by : (path : List CellStep) (j : ℕ) (d : CellStep) → j < length path → nat_eq (number_of (slice_index_or path j d)) 0 ≡ false → whole_at (take (suc j) path) ≡ take (suc j) path
whole_at-by path j d below later = rw (take-suc path j d) (whole_at-end (take j path) (slice_index_or path j d) later)

-- a path cut before a step to a first part counts as much; one cut after another step counts whole
pub whole_at-cut : (path : List CellStep) (k j : ℕ) (d : CellStep) → k ≡ suc j → j < length path → nat_eq (number_of (slice_index_or path j d)) 0 ≡ true → whole_at (take k path) ≡ whole_at (take j path)
whole_at-cut path k j d e below first = rw e (whole_at-at path j d below first)

pub whole_at-kept : (path : List CellStep) (k j : ℕ) (d : CellStep) → k ≡ suc j → j < length path → nat_eq (number_of (slice_index_or path j d)) 0 ≡ false → whole_at (take k path) ≡ take k path
whole_at-kept path k j d e below later = rw e (whole_at-by path j d below later)

-- the path turned at a newer place, where there is one
pub turned-or : (path : List CellStep) (i : ℕ) (next : Option CellStep) (found : Option (ℕ × CellStep)) →
    path_turned path (option_or (option_map (λ n. (i, n)) next) found) ≡ option_or (option_map (λ n. take i path ++ n ∷ []) next) (path_turned path found)
turned-or path i (Some n) found = refl
turned-or path i None found = refl
