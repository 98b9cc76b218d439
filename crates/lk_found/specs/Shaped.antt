-- The type that the forms of a declarator make together of the type on its left, and the
-- codes of these forms (C99 6.7.5).
use Rattle.std.specs.Prelude.{◌||◌, Bool, false, Option, List, [], ◌∷◌, map, IfSome}
use Rattle.std.specs.Option.{option_map}
use Rattle.lk_types.specs.Table.{Table, IsKnown}
use Rattle.lk_typed.specs.Meaning.{meaning}
use Rattle.lk_typed.specs.MemberRules.{is_over}
use Rattle.lk_typed.specs.Stands.{Mark}
use Rattle.lk_typed.specs.Told.{Span}
use Rattle.lk_typed.specs.Ty.{Ty}
use Rattle.lk_found.specs.Keepings.{Codes, codes_at}
use Rattle.lk_found.specs.Shapes.{Form, form_in, made_of, rules_of, type_by, IsElement, IsElementIn, IsKnownLayer}
use Rattle.lk_found.specs.Findings.{mark_at}
use Rattle.lk_found.specs.declared.shapes.LayerAt.{LayerAt}
use Rattle.lk_found.specs.declared.shapes.Left.{Left}

-- a form with its node
pub record FormAt : Type 0 where
  pub mark : Mark
  pub form : Form

abbrev pub form_at : Table → LayerAt → FormAt
form_at table layer = record { mark = mark_at layer.at; form = form_in table layer.layer }

abbrev pub forms_in : Table → List LayerAt → List FormAt
forms_in table layers = map (form_at table) layers

abbrev pub IsKnownAt : Table → LayerAt → Type 0
IsKnownAt table layer = IsKnownLayer table layer.layer

-- ---- forms, the outermost first

-- the type that they make
abbrev pub shaped : Span → List FormAt → Option Ty → Option Ty
shaped span [] t = t
shaped span (f ∷ fs) t = shaped span fs (type_by span f.form t)

-- whether one of them makes a type that is over a bound
abbrev pub is_large_shape : Span → List FormAt → Option Ty → Bool
is_large_shape span [] t = false
is_large_shape span (f ∷ fs) t =
    is_over span.behind (made_of f.form span t) || is_large_shape span fs (type_by span f.form t)

-- their codes
abbrev pub codes_by : Span → List FormAt → Option Ty → List Codes
codes_by span [] t = []
codes_by span (f ∷ fs) t = codes_at f.mark (rules_of f.form span t) ∷ codes_by span fs (type_by span f.form t)

-- ---- in the code

abbrev pub type_in : Table → Left → Option Ty
type_in table left = option_map (meaning table) left.ty

abbrev pub IsKnownLeft : Table → Left → Type 0
IsKnownLeft table left = IfSome left.ty (IsKnown table) × IfSome left.ty (IsElementIn table left.element)

abbrev pub IsLeft : Table → Span → Left → Type 0
IsLeft table span left = IsElement span.env.structs left.element (type_in table left)
