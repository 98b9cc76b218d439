-- What an initialiser gives to the parts of an object, by the numbers of their types.
use Rattle.std.specs.Prelude.{ℕ, ◌≡◌, ◌++◌, true, false, Option, Some, List, [], ◌∷◌, option_map}
use Rattle.std.specs.Borrow.{Bor}
use Rattle.lk_base.specs.declared.cell.CellStep.{CellStep}
use Rattle.lk_base.specs.declared.spot.Spot.{Spot}
use Rattle.lk_tree.specs.declared.declaration.Entry.{Entry}
use Rattle.lk_tree.specs.declared.declaration.Init.{Init, out-Init}
use Rattle.lk_tree.specs.declared.declaration.Init.TheOpen.{Init-F}
use Rattle.lk_tree.specs.declared.declaration.InitList.{InitList, out-InitList}
use Rattle.lk_tree.specs.declared.expression.Expr.{Expr}
use Rattle.lk_tree.specs.declared.statement.Unit.{Unit}
use Rattle.lk_types.specs.Table.{Table, IsKnown}
use Rattle.lk_typed.specs.Env.{Env, Name, converted_to}
use Rattle.lk_typed.specs.InitialiserRules.{Object, entry_type, is_text_for}
use Rattle.lk_typed.specs.Initialised as spec
use Rattle.lk_typed.specs.Initialised.{AValue, AreGiven, AreGivenByEntries, TheBytes, TheWord, step_to}
use Rattle.lk_typed.specs.Initialisers.{entries_in_turn, entry_object, text_alone}
use Rattle.lk_typed.specs.Meaning.{meaning}
use Rattle.lk_typed.specs.MemberRules.{fields_in}
use Rattle.lk_typed.specs.Nodes.{AnExpression, AnInitialiser, Placed}
use Rattle.lk_typed.specs.Stands.{IsIn}
use Rattle.lk_typed.specs.Ty.{Ty, Struct, array_of}
use Rattle.lk_typed.specs.Units.{IsNode}
use Rattle.lk_elaborator.specs.declared.elaborator.Elaborator.{Elaborator}
use Rattle.lk_elab_init.specs.Settled.{fields_listed}
use Rattle.lk_elab_init.specs.Source.{IsToldSource}
use Rattle.lk_elab_init.specs.declared.givens.Beginning.{Beginning}
use Rattle.lk_elab_init.specs.declared.givens.Beginning.TheVariants as begins
use Rattle.lk_elab_init.specs.declared.givens.PartGiven.{PartGiven}

-- how many elements a type has, where it is an array
abbrev pub count_in : Ty → Option ℕ
count_in t = option_map (λ array. array.1) (array_of t)

-- the type of an element, where it is an array
abbrev pub element_in : Ty → Option Ty
element_in t = option_map (λ array. array.0) (array_of t)

-- these are put behind what was there, and this is so of them
abbrev pub Puts : {X : Type 0} → List X → List X → (List X → Type 0) → Type 0
Puts {X} old new Says = (added : List X) × (new ≡ old ++ added) × Says added

abbrev pub part_given : List CellStep → ℕ → Beginning → PartGiven
part_given path t begins = record { path = path; ty = t; begins = begins }

module _ (externs : List Name) (unit : Unit) where
  -- a part of this type begins so; where it begins with the value of an expression, that stands in the source
  -- as one converted to the type
  pub data BeginsAs (t : Ty) : Beginning → spec.Beginning → Type 0 where
    a_value : (env : Env) {e : Bor Expr} → IsNode externs unit (converted_to env t) (AnExpression e.now) →
        BeginsAs t (begins.Value e) (AValue (converted_to env t, e.now))
    the_bytes : {spot : Spot} {ordinal : ℕ} {bytes : List ℕ} →
        BeginsAs t (begins.Bytes spot ordinal bytes) (TheBytes spot ordinal bytes)
    the_word : BeginsAs t begins.Word TheWord

  module _ (table : Table) where
    pub record IsGivenAs (is : PartGiven) (part : spec.PartGiven) : Type 0 where
      pub path : is.path ≡ part.path
      pub known : IsKnown table is.ty
      pub type : meaning table is.ty ≡ part.type
      pub begins : BeginsAs part.type is.begins part.begins

    pub data AreGivenAs : List PartGiven → List spec.PartGiven → Type 0 where
      no_more : AreGivenAs [] []
      next : {is : PartGiven} {others : List PartGiven} {part : spec.PartGiven} {rest : List spec.PartGiven} →
          IsGivenAs is part → AreGivenAs others rest → AreGivenAs (is ∷ others) (part ∷ rest)

    -- they are the parts that the initialiser of an object of this type names
    pub record ArePartsOf (env : Env) (t : Ty) (path : List CellStep) (init : Init)
        (added : List PartGiven) : Type 0 where
      pub parts : List spec.PartGiven
      pub given : AreGiven env t path init parts
      pub are : AreGivenAs added parts

    -- they are those that an entry names, which has no designators
    pub record ArePartsOfEntry (env : Env) (t : Ty) (path : List CellStep) (k : ℕ) (entry : Entry)
        (added : List PartGiven) : Type 0 where
      pub none : entry.designators ≡ []
      pub step : CellStep
      pub step_is : step_to t k ≡ Some step
      pub inner : Ty
      pub inner_is : entry_type (fields_in env) t k ≡ Some inner
      pub parts : ArePartsOf env inner (path ++ step ∷ []) entry.init added

    -- they are those that the entries of a list name
    pub record ArePartsOfEntries (env : Env) (t : Ty) (path : List CellStep) (entries : List Entry)
        (added : List PartGiven) : Type 0 where
      pub parts : List spec.PartGiven
      pub given : AreGivenByEntries env t path 0 entries parts
      pub are : AreGivenAs added parts

    -- these stand in the source, where a struct has the members that the table has of it
    abbrev pub AreNodes : Ty → List Placed → Type 0
    AreNodes t placed = (part : Placed) → IsIn part placed →
        IsNode externs unit part.env part.node
        × ((s : ℕ) → t ≡ Struct s → fields_in part.env s ≡ fields_listed table s)

-- where an initialiser stands in a source whose typed tree is made, as that of an object
-- of the type with the number t
abbrev pub GivesTo : Elaborator → ℕ → List CellStep → Init → List PartGiven → Type 0
GivesTo walk t path init added =
    (externs : List Name) (unit : Unit) → IsToldSource externs unit walk → (env : Env) (object : Object) →
    IsNode externs unit env (AnInitialiser (Some object) init) →
    object.type ≡ meaning walk.types t → ArePartsOf externs unit walk.types env object.type path init added

abbrev pub GivesToExpr : Elaborator → ℕ → List CellStep → Expr → List PartGiven → Type 0
GivesToExpr walk t path e added = (init : Init) → out-Init init ≡ Init-F.Expr e →
    GivesTo walk t path init added

abbrev pub GivesToList : Elaborator → ℕ → List CellStep → InitList → List PartGiven → Type 0
GivesToList walk t path list added = (init : Init) → out-Init init ≡ Init-F.List list →
    GivesTo walk t path init added

-- the entry with the number k of a list
abbrev pub GivesToEntry : Elaborator → ℕ → List CellStep → ℕ → Entry → List PartGiven → Type 0
GivesToEntry walk t path k entry added =
    (externs : List Name) (unit : Unit) → IsToldSource externs unit walk →
    (env : Env) (object : Object) (text : Option ℕ) → is_text_for object.type text ≡ false →
    IsNode externs unit env (AnInitialiser (entry_object env (Some object) text k) entry.init) →
    ((s : ℕ) → object.type ≡ Struct s → fields_in env s ≡ fields_listed walk.types s) →
    object.type ≡ meaning walk.types t →
    ArePartsOfEntry externs unit walk.types env object.type path k entry added

abbrev pub GivesToEntries : Elaborator → ℕ → List CellStep → List Entry → List PartGiven → Type 0
GivesToEntries walk t path entries added =
    (externs : List Name) (unit : Unit) → IsToldSource externs unit walk →
    (env : Env) (object : Object) (text : Option ℕ) → is_text_for object.type text ≡ false →
    AreNodes externs unit walk.types object.type (entries_in_turn (Some object) text env 0 entries) →
    object.type ≡ meaning walk.types t →
    ArePartsOfEntries externs unit walk.types env object.type path entries added

-- a text in braces is the whole of its list
abbrev pub GivesToText : Elaborator → ℕ → List CellStep → List Entry → List PartGiven → Type 0
GivesToText walk t path entries added =
    (externs : List Name) (unit : Unit) → IsToldSource externs unit walk →
    (env : Env) (object : Object) (init : Init) (list : InitList) → out-Init init ≡ Init-F.List list →
    (out-InitList list).entries ≡ entries → is_text_for object.type (text_alone entries) ≡ true →
    IsNode externs unit env (AnInitialiser (Some object) init) →
    object.type ≡ meaning walk.types t → ArePartsOf externs unit walk.types env object.type path init added
