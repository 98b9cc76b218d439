-- How the arguments of a call are passed (C99 6.5.2.2, 7).
use Rattle.std.specs.Prelude.{ℕ, ◌≡◌, ◌++◌, ⊤, Bool, Option, Some, None, List, [], ◌∷◌, map, drop, slice_get}
use Rattle.lk_types.specs.Table.{Table}
use Rattle.lk_tree.specs.declared.expression.DeclaratorForm.TheOpen.{ExprForm-F}
use Rattle.lk_tree.specs.declared.expression.Expr.{Expr}
use Rattle.lk_typed.specs.Addresses.{value}
use Rattle.lk_typed.specs.Elaborated.{InPlace, ArePassed, IsConverted, form_of, passes_in, typing_at}
use Rattle.lk_typed.specs.Env as env
use Rattle.lk_typed.specs.Env.{Env}
use Rattle.lk_typed.specs.Expressions.{expression}
use Rattle.lk_typed.specs.Forms.{passes_of}
use Rattle.lk_typed.specs.Library as rows
use Rattle.lk_typed.specs.Operands.{promoted_type}
use Rattle.lk_typed.specs.Tables.{Tables}
use Rattle.lk_typed.specs.Typing.{Typing}
use Rattle.lk_typed.specs.declared.expression.TypedExpr.{TypedExpr}
use Rattle.lk_check_expr.specs.Arguments.{IsPassedAt}
use Rattle.lk_check_expr.specs.declared.library.Passing.{Passing}
use Rattle.lk_elaborator.specs.Converting.{NodeSays}
use Rattle.lk_elaborator.specs.Known.{OfEach}
use Rattle.lk_elaborator.specs.Leading.{Grows, Leads}
use Rattle.lk_elaborator.specs.Standing.{IsPart, PartStandsAs}
use Rattle.lk_elaborator.specs.Telling.{IsTrueOf}
use Rattle.lk_elaborator.specs.declared.elaborator.Elaborator.{Elaborator}
use Rattle.lk_elaborator.specs.declared.parts.Part.{Part}
use Rattle.lk_elab_expr.specs.Walking.{IsToldOf, MakesPart}

-- how the arguments of a call of this function are passed
abbrev pub passes_to : InPlace → List rows.Passing
passes_to f = passes_of (expression f.1 f.0) (typing_at f)

-- it is how the argument with this index is passed to this function
pub record IsPassedFor (table : Table) (f : InPlace) (index : ℕ) (pass : Option Passing) : Type 0 where
  pub typing : Typing
  pub found : typing_at f ≡ Some typing
  pub is : IsPassedAt table pass (slice_get (passes_of (expression f.1 f.0) (Some typing)) index)

-- it has no parameter behind the first ones, which are so many
pub record WantsNone (f : InPlace) (count : ℕ) : Type 0 where
  pub typing : Typing
  pub found : typing_at f ≡ Some typing
  pub none : slice_get (passes_to f) count ≡ None

-- ---- one argument

-- the first of these ways, and those behind it; behind the last one there are none
abbrev pub IsFirst : Option rows.Passing → List rows.Passing → List rows.Passing → Type 0
IsFirst None passes others = (passes ≡ []) × (others ≡ [])
IsFirst (Some pass) passes others = passes ≡ pass ∷ others

-- an argument that is passed so stands as this, as far as the rules convert it to a type
abbrev pub StandsPassed : Option rows.Passing → env.Role → Type 0
StandsPassed None r = ⊤
StandsPassed (Some (rows.Converted t)) r = r ≡ env.ConvertedTo t
StandsPassed (Some (rows.NullFor t code)) r = ⊤
StandsPassed (Some rows.Routine) r = ⊤
StandsPassed (Some rows.Size) r = ⊤

-- its value is promoted
abbrev pub PromotedValue : NodeSays
PromotedValue tables folded p t =
    (typing : Typing) × (typing_at p ≡ Some typing)
    × IsConverted tables folded p (promoted_type (value typing).type) t

abbrev pub MayStandAs : Table → Option Part → env.Role → Type 0
MayStandAs table None r = ⊤
MayStandAs table (Some part) r = PartStandsAs table part r

-- the nodes that are made of it: one where it computes something
abbrev pub AreGiven : Tables → Bool → InPlace → Option Part → List TypedExpr → Type 0
AreGiven tables folded p None given = given ≡ []
AreGiven tables folded p (Some part) given =
    (t : TypedExpr) × (given ≡ t ∷ []) × IsPart tables folded p part t

-- these nodes are passed for it, before those of the arguments behind it
abbrev pub PassesOn : Tables → Bool → Option rows.Passing → InPlace → List TypedExpr → Type 0
PassesOn tables folded pass p given =
    (passes others : List rows.Passing) → IsFirst pass passes others →
    (ps : List InPlace) (rest : List TypedExpr) → ArePassed tables folded others ps rest →
    ArePassed tables folded passes (p ∷ ps) (given ++ rest)

-- what stands for an argument that is passed so
pub record IsPassedBy (table : Table) (tables : Tables) (folded : Bool) (pass : Option rows.Passing)
    (p : InPlace) (part : Option Part) : Type 0 where
  pub role : MayStandAs table part p.0.role
  pub gives : (given : List TypedExpr) → AreGiven tables folded p part given →
      PassesOn tables folded pass p given

-- by the way in which it is passed
abbrev pub PassesAs : Elaborator → Elaborator → Option Passing → ℕ → Option Part → Type 0
PassesAs old new pass n part =
    (by : Option rows.Passing) → IsPassedAt old.types pass by →
    OfEach old n (λ p. StandsPassed by p.0.role → (tables : Tables) → Leads new tables → (folded : Bool) →
    IsPassedBy new.types tables folded by p part)

-- by the numbers of the function and of the argument, and its index
abbrev pub PassesFor : Elaborator → Elaborator → ℕ → ℕ → ℕ → Option Part → Type 0
PassesFor old new n index m part =
    (f p : InPlace) → f.1.ordinal ≡ n → p.1.ordinal ≡ m → IsTrueOf old f → IsTrueOf old p →
    StandsPassed (slice_get (passes_to f) index) p.0.role →
    (tables : Tables) → Leads new tables → (folded : Bool) →
    IsPassedBy new.types tables folded (slice_get (passes_to f) index) p part

-- the node of what stands for an argument is put behind the others
abbrev pub PutsPart : Elaborator → Elaborator → Expr → Option Part → Bool → List TypedExpr →
    List TypedExpr → Type 0
PutsPart old new e None folded before behind = behind ≡ before
PutsPart old new e (Some part) folded before behind =
    (t : TypedExpr) × (behind ≡ before ++ t ∷ []) × MakesPart old new e part folded t

-- the nodes that are passed for an argument are put behind the others
pub record PutsArgument (old new : Elaborator) (n index : ℕ) (e : Expr) (folded : Bool)
    (before behind : List TypedExpr) : Type 0 where
  pub given : List TypedExpr
  pub put : behind ≡ before ++ given
  pub passes : (at_end : Env) (f p : InPlace) → f.1.ordinal ≡ n → p.1 ≡ e → IsTrueOf old f →
      IsToldOf at_end old p → StandsPassed (slice_get (passes_to f) index) p.0.role → (tables : Tables) →
      Leads new tables → PassesOn tables folded (slice_get (passes_to f) index) p given

-- ---- all arguments

-- a call of the function with these arguments, in which what was found is true
pub record IsToldCall (at_end : Env) (walk : Elaborator) (p f : InPlace) (ps : List InPlace)
    (arguments : List Expr) : Type 0 where
  pub form : form_of p ≡ ExprForm-F.Call f ps
  pub are : map (λ (a : InPlace). a.1) ps ≡ arguments
  pub told : IsToldOf at_end walk p

-- behind the nodes of so many arguments those of the others follow
abbrev pub PassesFirst : Elaborator → Elaborator → ℕ → List Expr → Bool → ℕ → List TypedExpr → Type 0
PassesFirst old new n arguments folded count out =
    (at_end : Env) (p f : InPlace) (ps : List InPlace) → IsToldCall at_end old p f ps arguments →
    f.1.ordinal ≡ n → (tables : Tables) → Leads new tables →
    (rest : List TypedExpr) → ArePassed tables folded (drop count (passes_to f)) (drop count ps) rest →
    ArePassed tables folded (passes_to f) ps (out ++ rest)

pub record ArePassedSoFar (old new : Elaborator) (n : ℕ) (arguments : List Expr) (folded : Bool) (count : ℕ)
    (out : List TypedExpr) : Type 0 where
  pub grows : Grows old new
  pub passed : PassesFirst old new n arguments folded count out

-- they are those of all
pub record AreAllPassed (tables : Tables) (folded : Bool) (p f : InPlace) (ps : List InPlace)
    (values : List TypedExpr) : Type 0 where
  pub typing : Typing
  pub found : typing_at f ≡ Some typing
  pub passed : ArePassed tables folded (passes_in p.0 f) ps values

abbrev pub PassesAll : Elaborator → Elaborator → ℕ → List Expr → Bool → List TypedExpr → Type 0
PassesAll old new n arguments folded values =
    (at_end : Env) (p f : InPlace) (ps : List InPlace) → IsToldCall at_end old p f ps arguments →
    f.1.ordinal ≡ n → (tables : Tables) → Leads new tables →
    AreAllPassed tables folded p f ps values
