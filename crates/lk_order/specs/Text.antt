-- The text of an order of mutexes: a line for each mutex place with its rank, or one for each place
-- on a cycle, and a line of totals.
use Rattle.std.specs.Prelude.{ℕ, if◌then◌else◌, List, [], ◌∷◌, ◌++◌, ◌-◌, flat_map, length, codes}
use Rattle.std.specs.Fmt.{decimal}
use Rattle.std.specs.List.{filter, range_with_len}
use Rattle.std.specs.Ordering.{is_lt, nat_cmp}
use Rattle.lk_facts.specs.declared.program.Program.{Program}
use Rattle.lk_order.specs.Table.{OrderTable, on_cycle, rank_at}
use Rattle.lk_report.specs.Names.{place_text, location_spot_text}
use Rattle.lk_report.specs.Order.{sort_by}

-- the mutex places of a program, in the order of the report
abbrev pub mutex_places : Program → List ℕ
mutex_places program = range_with_len program.locations (length program.places - program.locations)

-- those on cycles
abbrev pub places_on_cycles : Program → OrderTable → List ℕ
places_on_cycles program order = filter (on_cycle order) (mutex_places program)

-- by their ranks; places of one rank stay in the order of the report
abbrev pub by_rank : Program → OrderTable → List ℕ
by_rank program order =
    sort_by (λ q r. is_lt (nat_cmp (rank_at order q) (rank_at order r))) (mutex_places program)

-- the line with these numbers of mutex places, of pairs, and of places on cycles
abbrev pub totals_line : (locks pairs cycles : ℕ) → List ℕ
totals_line locks pairs cycles =
    codes "locks "
    ++ (decimal locks
    ++ (codes ", pairs " ++ (decimal pairs ++ (codes ", on cycles " ++ (decimal cycles ++ 10 ∷ [])))))

-- how many there are in the program
abbrev pub totals_text : Program → OrderTable → List ℕ
totals_text program order =
    totals_line (length (mutex_places program)) (length order.pairs) (length (places_on_cycles program order))

module _ (files : List (List ℕ)) (program : Program) where
  -- the text of a mutex place, and its place in a source
  abbrev pub mutex_text : ℕ → List ℕ
  mutex_text q =
      place_text files program q ++ (codes " " ++ (location_spot_text files program q ++ 10 ∷ []))

  abbrev pub rank_text : OrderTable → ℕ → List ℕ
  rank_text order q = codes "rank " ++ (decimal (rank_at order q) ++ (codes " " ++ mutex_text q))

  abbrev pub cycle_text : ℕ → List ℕ
  cycle_text q = codes "cycle " ++ mutex_text q

  abbrev pub places_text : OrderTable → List ℕ
  places_text order =
      if order.cyclic then flat_map cycle_text (places_on_cycles program order)
      else flat_map (rank_text order) (by_rank program order)

  abbrev pub order_text : OrderTable → List ℕ
  order_text order = places_text order ++ totals_text program order
