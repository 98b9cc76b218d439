-- Of each name of a label the least number of a node that is one.
use Rattle.std.specs.Prelude.{ℕ, ◌≡◌, Bool, true, false, Option, Some, None, List, [], ◌∷◌, min, nat_lt, if◌then◌else◌}
use Rattle.std.specs.List.{Contains}
use Rattle.std.specs.Map.{lookup}
use Rattle.indexmap.specs.IndexMap.{insert_entry}
use Rattle.lk_typed.specs.Labels.{Label, is_name}

-- a number at each name
abbrev pub Leasts : Type 0
Leasts = List (List ℕ × ℕ)

-- the one at this name, where there is one
abbrev pub number_of : Leasts → List ℕ → Option ℕ
number_of leasts name = lookup (is_name name) leasts

-- the lesser of a number and one that may be there
abbrev pub lesser_of : ℕ → Option ℕ → ℕ
lesser_of n None = n
lesser_of n (Some m) = min n m

-- whether it is there, and less than this one
abbrev pub is_before : Option ℕ → ℕ → Bool
is_before None n = false
is_before (Some m) n = nat_lt m n

-- a label is put: of those with its name the least number is kept
abbrev pub put_label : Leasts → List ℕ → ℕ → Leasts
put_label leasts name n = insert_entry is_name leasts name (lesser_of n (number_of leasts name))

-- these labels are put, one behind the other
abbrev pub put_labels : Leasts → List Label → Leasts
put_labels leasts [] = leasts
put_labels leasts (l ∷ ls) = put_labels (put_label leasts l.name l.ordinal) ls

-- the least number of the labels with this name, where there is one
abbrev pub least_of : List ℕ → List Label → Option ℕ
least_of name [] = None
least_of name (l ∷ ls) = if is_name name l.name then Some (lesser_of l.ordinal (least_of name ls))
    else least_of name ls

-- one of the labels has this name and this number
pub record LabelNamed (found : List Label) (name : List ℕ) (n : ℕ) : Type 0 where
  pub label : Label
  pub there : Contains found label
  pub is : is_name label.name name ≡ true
  pub ordinal : label.ordinal ≡ n

-- the numbers are those of these labels: at each name the least one of a label with it,
-- and nothing where there is none
abbrev pub AreLabels : Leasts → List Label → Type 0
AreLabels leasts found = (name : List ℕ) → number_of leasts name ≡ least_of name found
