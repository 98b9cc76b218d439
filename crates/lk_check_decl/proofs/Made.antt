-- Types that are put into a table are what they are made as.
use Rattle.std.proofs.Common.{◌≡◌, ◌∙◌, ℕ, Bool, true, false, List, [], ◌∷◌, Option, Some, None, map, refl, sym, ap, subst, All}
use Rattle.std.specs.List.{slice_get}
use Rattle.std.specs.Prelude.{is_some}
use Rattle.std.proofs.lemmas.Bool.{false≢true}
use Rattle.std.proofs.lemmas.List.Elements.{All-head, All-tail}
use Rattle.std.proofs.lemmas.Option.{slice_get_within}
use Rattle.lk_types.specs.Building.{IsTable, IsForm, IsLonger, IsPassed}
use Rattle.lk_types.specs.Sizes.{Fits, form_size, is_over, is_too_large, size_at}
use Rattle.lk_types.specs.Table.{Table, IsKnown}
use Rattle.lk_types.specs.declared.c_type.CType.{CType}
use Rattle.lk_types.specs.declared.c_type.CType.TheVariants as forms
use Rattle.lk_types.specs.declared.size.TypeSize.{TypeSize}
use Rattle.lk_typed.proofs.Meanings.{function_same, meaning_by, meaning_stays, more_same}
use Rattle.lk_typed.specs.Meaning.{meaning, tree_of}
use Rattle.lk_typed.specs.Ty.{Ty, Pointer, Array, types_of}
use Rattle.lk_check_decl.proofs.Sizes.{form_tree_size, tree_size}
use Rattle.lk_check_decl.specs.Composites.{Stands}
use Rattle.lk_check_decl.specs.Making.{IsDerived, IsLarge, IsThere}
use Rattle.lk_check_decl.specs.Storing.{IsOver}

module _ (old new : Table) (good : IsTable old) (longer : IsLonger old new) where
  passed_stay : (ps : List ℕ) → All (IsPassed old) ps → types_of (map (meaning new) ps) ≡ types_of (map (meaning old) ps)
  passed_stay [] all = refl
  passed_stay (p ∷ ps) all = more_same (meaning_stays old new good longer p (All-head (IsPassed old) p ps all).known) (passed_stay ps (All-tail (IsPassed old) p ps all))

  tree_stays : (form : CType) → IsDerived form → IsForm old form → tree_of (meaning new) form ≡ tree_of (meaning old) form
  tree_stays forms.Void derived is = absurd derived
  tree_stays (forms.Int k) derived is = absurd derived
  tree_stays forms.ThreadId derived is = absurd derived
  tree_stays forms.Mutex derived is = absurd derived
  tree_stays forms.Cond derived is = absurd derived
  tree_stays (forms.Pointer t) derived is = ap Pointer (meaning_stays old new good longer t is)
  tree_stays (forms.Array t n) derived is = ap (λ a. Array a n) (meaning_stays old new good longer t is.known)
  tree_stays (forms.Struct s) derived is = absurd derived
  tree_stays (forms.Function r ps dots) derived is =
      function_same (meaning_stays old new good longer r (All-head (IsPassed old) r ps is).known) (passed_stay ps (All-tail (IsPassed old) r ps is)) refl
  tree_stays (forms.Opaque n) derived is = absurd derived

-- whether it is over a bound of the language
pub large_form : (table : Table) → IsTable table → (form : CType) → IsDerived form → IsForm table form → (large : Bool) → is_too_large (form_size table form) ≡ large →
    IsLarge table (tree_of (meaning table) form) large
large_form table good form derived is large size = λ fields same. ap is_too_large (form_tree_size table good fields same form derived is) ∙ size

-- whether it is over a bound of a table
pub over_form : (table : Table) → IsTable table → (form : CType) → IsDerived form → IsForm table form → (over : Bool) → is_over (form_size table form) ≡ over →
    IsOver table (tree_of (meaning table) form) over
over_form table good form derived is over size = λ fields same. ap is_over (form_tree_size table good fields same form derived is) ∙ size

-- a form that was put
pub stands : (old new : Table) → IsTable old → IsTable new → IsLonger old new → (form : CType) → IsDerived form → IsForm old form → (t : ℕ) → slice_get new.types t ≡ Some form →
    Stands new (tree_of (meaning old) form) t
stands old new good good' longer form derived is t got =
    let known = slice_get_within new.types t form got in
    record {
      known = known;
      means = meaning_by new good' t form known got ∙ tree_stays old new good longer form derived is;
    }

-- a type that a declarator made
pub there : (old new : Table) → IsTable old → (form : CType) → IsDerived form → IsForm old form → is_too_large (form_size old form) ≡ false →
    (t : ℕ) → Stands new (tree_of (meaning old) form) t → IsThere old new (tree_of (meaning old) form) t
there old new good form derived is small t stored = record {
  known = stored.known;
  means = stored.means;
  small = large_form old good form derived is false small;
}

pub fits_none : (size : TypeSize) (answer : Option TypeSize) → Fits size answer → is_some answer ≡ false → is_over size ≡ true
fits_none size None fits none = fits
fits_none size (Some found) fits none = absurd (false≢true (sym none))

pub fits_some : (size : TypeSize) (answer : Option TypeSize) → Fits size answer → is_some answer ≡ true → is_over size ≡ false
fits_some size None fits some = absurd (false≢true some)
fits_some size (Some found) fits some = fits.1

-- whether a type of the table is over a bound of the language
pub large_known : (table : Table) → IsTable table → (t : ℕ) → IsKnown table t → (large : Bool) → is_too_large (size_at table t) ≡ large → IsLarge table (meaning table t) large
large_known table good t known large size = λ fields same. ap is_too_large (tree_size table good fields same t known) ∙ size

-- a type of the table that isn't is there
pub there_before : (table : Table) → IsTable table → (t : ℕ) → IsKnown table t → is_too_large (size_at table t) ≡ false → IsThere table table (meaning table t) t
there_before table good t known small = record {
  known = known;
  means = refl;
  small = large_known table good t known false small;
}
