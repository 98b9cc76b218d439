-- What a shelf in memory shows.
use Rattle.std.specs.Prelude.{ℕ, List, Option, map as each, String, Vec, string_bytes, refl}
use Rattle.std.specs.declared.alloc.Global.{Global}
use Rattle.std.specs.Ordering.{nat_cmp}
use Rattle.std.specs.Cmp.Lexicographic.{slice_cmp}
use Rattle.std.specs.FinMap as map
use Rattle.std.specs.Coded.{Coded, code_by, coded×, coded_ℕ, coded_list, coded_option}
use Rattle.lk_io.specs.Calls.{CallState}

-- the bytes of each file, by name
abbrev pub FileMap : Type 0
FileMap = map.FinMap (slice_cmp nat_cmp) (List ℕ)

-- its files, the reads, and the name of the last read that failed
pub record ShelfState : Type 0 where
  pub files : FileMap
  pub calls : CallState
  pub bad : Option (List ℕ)

-- the files that a map of names and bytes holds
abbrev pub file_map : List (String Global × Vec ℕ Global) → FileMap
file_map entries = map.from_entries (each (λ e. (string_bytes e.0, e.1.items)) entries)

-- how these values are told apart: as the tuples of their parts
abbrev pub call_code : Coded CallState
call_code =
    code_by (List ℕ × (ℕ × ℕ)) (coded× (coded_list coded_ℕ) (coded× coded_ℕ coded_ℕ))
    (λ c. (c.listed, (c.made, c.faults)))
    (λ p. record { listed = p.0; made = p.1.0; faults = p.1.1 }) (λ _. refl)

abbrev pub shelf_code : Coded ShelfState
shelf_code =
    code_by (FileMap × (CallState × Option (List ℕ)))
    (coded× (map.code (coded_list coded_ℕ) (coded_list coded_ℕ)) (coded× call_code (coded_option (coded_list coded_ℕ))))
    (λ s. (s.files, (s.calls, s.bad))) (λ p. record { files = p.0; calls = p.1.0; bad = p.1.1 }) (λ _. refl)
