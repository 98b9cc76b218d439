-- The items of a program, as they are handed on.
use Rattle.std.specs.Prelude.{ℕ, List}
use Rattle.lk_facts.specs.Labels.{LabelTable, subject_of}
use Rattle.lk_rise.specs.declared.correlations.Correlation.{Correlation}
use Rattle.lk_rise.specs.declared.items.Item.{Item}

pub record ItemTable : Type 0 where
  -- each item with the locks that are held there
  pub entries : List (Correlation × List ℕ)
  -- the same items, by what they access
  pub items : List Item

abbrev pub items_of : List (Correlation × List ℕ) → List Item → ItemTable
items_of entries items = record { entries = entries; items = items }

-- the item of a correlation whose subject is a label
abbrev pub item_with : LabelTable → Correlation → Item
item_with labels correlation =
    record {
      function = correlation.function;
      child = correlation.child;
      subject = subject_of labels correlation.subject;
      access = correlation.access;
    }

abbrev pub item_in : LabelTable → Correlation × List ℕ → Item
item_in labels entry = item_with labels entry.0
