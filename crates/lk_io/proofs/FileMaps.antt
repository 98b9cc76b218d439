-- The files of a shelf in memory, by name, and the map of the code that holds them.
use Rattle.std.proofs.Common.{ℕ, ◌≡◌, ◌∙◌, Bool, true, false, cond, List, [], ◌∷◌, Option, Some, refl, sym, ap, String, Vec, string_bytes, Bor}
use Rattle.std.specs.Prelude.{map as each}
use Rattle.std.specs.declared.alloc.Global.{Global}
use Rattle.std.specs.Ordering.{nat_cmp, is_eq, eq_by_cmp}
use Rattle.std.specs.Option.{option_map, option_copied}
use Rattle.std.specs.Cmp.{eq_by_cmp_equiv}
use Rattle.std.specs.Cmp.Lexicographic.{slice_cmp, nat_list_cmp_total}
use Rattle.std.specs.String.{string_cmp}
use Rattle.std.specs.BTreeMap.{BTreeMap, UpdatesBy, get_by_text}
use Rattle.std.specs.Map.{lookup}
use Rattle.std.specs.FinMap.{get, find, insert, get-from_entries, get-insert, same_map, slice_cmp-IsAntisymmetric, nat_cmp-IsAntisymmetric}
use Rattle.std.proofs.lemmas.Map.Text.{btree_map_updates_text, is_eq-slice_cmp}
use Rattle.lk_io.specs.MemShelf.{file_map}

abbrev Stored : Type 0
Stored = BTreeMap (String Global) (Vec ℕ Global)

abbrev bytes_of : Option (Vec ℕ Global) → Option (List ℕ)
bytes_of found = option_map (λ v. v.items) found

at_cond : (b : Bool) (x y : Option (Vec ℕ Global)) → bytes_of (cond b x y) ≡ cond b (bytes_of x) (bytes_of y)
at_cond true x y = refl
at_cond false x y = refl

find-each : (name : List ℕ) (entries : List (String Global × Vec ℕ Global))
    → find (slice_cmp nat_cmp) name (each (λ e. (string_bytes e.0, e.1.items)) entries) ≡ bytes_of (lookup (λ k. is_eq (slice_cmp nat_cmp name (string_bytes k))) entries)
find-each name [] = refl
find-each name (e ∷ entries) =
    ap (cond (is_eq (slice_cmp nat_cmp name (string_bytes e.0))) (Some e.1.items)) (find-each name entries)
    ∙ sym (at_cond (is_eq (slice_cmp nat_cmp name (string_bytes e.0))) (Some e.1) (lookup (λ k. is_eq (slice_cmp nat_cmp name (string_bytes k))) entries))

-- the file of a name is what the code finds under it
pub get-file_map : (m : Stored) (name : List ℕ) → get (file_map m.entries) name ≡ bytes_of (get_by_text m name)
get-file_map m name = get-from_entries nat_list_cmp_total (each (λ e. (string_bytes e.0, e.1.items)) m.entries) name ∙ find-each name m.entries

-- the same, by what a look-up gave
pub file_of : (m : Stored) (name : List ℕ) (found : Option (Bor (Vec ℕ Global))) → option_copied found ≡ get_by_text m name
    → get (file_map m.entries) name ≡ bytes_of (option_copied found)
file_of m name found is = get-file_map m name ∙ ap bytes_of (sym is)

-- a map in which one name got other bytes holds the files with that one put
pub file_map-insert : (m n : Stored) (name : List ℕ) (v : Vec ℕ Global)
    → UpdatesBy string_cmp (λ k. slice_cmp nat_cmp name (string_bytes k)) m n (Some v) → file_map n.entries ≡ insert (file_map m.entries) name v.items
file_map-insert m n name v updates =
    same_map nat_list_cmp_total (slice_cmp-IsAntisymmetric nat_cmp-IsAntisymmetric) (file_map n.entries) (insert (file_map m.entries) name v.items) (λ q.
    get-file_map n q ∙ ap bytes_of (btree_map_updates_text name m n (Some v) updates q)
    ∙ at_cond _ (Some v) (get_by_text m q)
    ∙ ap (λ b. cond b (Some v.items) (bytes_of (get_by_text m q))) (sym (is_eq-slice_cmp name q) ∙ (eq_by_cmp_equiv nat_list_cmp_total).symm name q)
    ∙ ap (cond (eq_by_cmp (slice_cmp nat_cmp) q name) (Some v.items)) (sym (get-file_map m q))
    ∙ sym (get-insert nat_list_cmp_total (file_map m.entries) name v.items q))
