-- The items of points, with their locks, as they are offered.
use Rattle.std.specs.Prelude.{◌≡◌, ◌<◌, ◌+◌, ◌||◌, ℕ, true, false, List, [], length, map}
use Rattle.std.specs.List.{flat_map}
use Rattle.std.specs.Option.{option_map_or}
use Rattle.lk_facts.specs.Basis.{Basis}
use Rattle.lk_facts.specs.Facts.{FactTable, basis_of}
use Rattle.lk_facts.specs.Items.{ItemTest, PointItem}
use Rattle.lk_facts.specs.LockSets.{LockSets}
use Rattle.lk_facts.specs.Origins.{OriginTable}
use Rattle.lk_facts.specs.declared.point.Point.{Point}
use Rattle.lk_facts.specs.declared.source.Source.{Source}
use Rattle.lk_facts.specs.declared.source.Source.TheVariants.{OwnAccess, ItemBelow}
use Rattle.lk_facts.specs.declared.way.Way.{Way}
use Rattle.lk_links.specs.Links.{AreLinks}
use Rattle.lk_links.specs.Only.{over_list}
use Rattle.lk_links.specs.declared.link.Link.{Link}
use Rattle.lk_rise.specs.Correlations.{AreInRange, has_item}
use Rattle.lk_rise.specs.Groups.{AreGroups, group_at}
use Rattle.lk_rise.specs.Tables.{item_at}
use Rattle.lk_rise.specs.declared.correlations.Correlation.{Correlation}
use Rattle.lk_rise.specs.declared.point_items.ItemAt.{ItemAt}

-- a program, the locks that are held at its points, and its items with theirs
pub record PointTable : Type 0 where
  pub facts : FactTable
  pub held : LockSets
  pub entries : List (Correlation × List ℕ)

abbrev pub point_table : FactTable → LockSets → List (Correlation × List ℕ) → PointTable
point_table facts held entries = record { facts = facts; held = held; entries = entries }

-- it is an item of a live point of f
abbrev pub IsItemOf : Basis → ItemTest → ℕ → ItemAt → Type 0
IsItemOf basis has f i = PointItem basis has i.point f i.source i.child i.subject i.access

-- its numbers are those of points and labels
pub record IsItemInRange (facts : FactTable) (i : ItemAt) : Type 0 where
  pub point : i.point < length facts.program.points
  pub subject : i.subject < length facts.labels.entries
  pub access : i.access < length facts.program.points

-- the functions of items, and those of points
abbrev pub functions_of : List (Correlation × List ℕ) → List ℕ
functions_of entries = map (λ (entry : Correlation × List ℕ). entry.0.function) entries

abbrev pub point_functions : List Point → List ℕ
point_functions points = map (λ (point : Point). point.function) points

-- the items of functions are in range, and these are their numbers by their functions
pub record AreBelow (facts : FactTable) (entries : List (Correlation × List ℕ))
    (numbers : List (List ℕ)) : Type 0 where
  pub in_range : AreInRange facts (length facts.labels.entries) entries
  pub groups : AreGroups (functions_of entries) numbers
  pub count : length numbers ≡ length facts.program.functions

-- no item of the function is of a started thread
abbrev pub HasNoChild : List (Correlation × List ℕ) → ℕ → Type 0
HasNoChild entries f = (item : Correlation) → has_item entries item ≡ true → item.function ≡ f →
    item.child ≡ false

-- the link starts no thread, and so does nothing in the function that it goes into
pub record StartsNothing (entries : List (Correlation × List ℕ)) (link : Link) : Type 0 where
  pub runs : link.starts ≡ false
  pub below : HasNoChild entries link.below

-- The parts of what offers the items of points: lock sets, links and items are those of the program; the
-- points of each function are given, and the numbers of its items.
pub record ArePointItems (table : PointTable) (ways : List (List Link))
    (groups numbered : List (List ℕ)) : Type 0 where
  pub held_points : length table.held.at ≡ length table.facts.program.points
  pub held_labels : table.held.labels ≡ length table.facts.labels.entries
  pub links : AreLinks (basis_of table.facts) ways
  pub points : AreGroups (point_functions table.facts.program.points) groups
  pub point_count : length groups ≡ length table.facts.program.functions + 1
  pub below : AreBelow table.facts table.entries numbered

-- the item of a point that is its own access
abbrev pub own_access_of : (point subject : ℕ) → ItemAt
own_access_of point subject =
    record { point = point; source = OwnAccess; child = false; subject = subject; access = point }

-- an item below as the source of items of a point
abbrev pub source_of : Correlation → Way → Source
source_of item way = ItemBelow way item.function item.child item.subject

-- the item of a call or creation from an item below, whose subject is this one above
abbrev pub risen_by : Link → Correlation → Source → ℕ → ItemAt
risen_by link item source subject =
    record { point = link.point; source = source; child = item.child || link.starts; subject = subject; access = item.access }

abbrev pub risen_item_of : Link → Correlation → ℕ → ItemAt
risen_item_of link item = risen_by link item (source_of item link.way)

-- the items of a call or creation from an item of the function below
abbrev pub items_through : OriginTable → Link → Correlation → List ItemAt
items_through origins link item = map (risen_item_of link item) (over_list origins link.way item.subject)

-- those from the item with a number
abbrev pub items_from : OriginTable → List (Correlation × List ℕ) → Link → ℕ → List ItemAt
items_from origins entries link k = option_map_or (items_through origins link) (item_at entries k) []

-- those from all items of the function below, whose numbers are given by their functions
abbrev pub items_by : OriginTable → List (Correlation × List ℕ) → List (List ℕ) → Link → List ItemAt
items_by origins entries numbers link =
    flat_map (items_from origins entries link) (group_at numbers link.below)
