-- What an initialiser gives to the parts of an object, in the order of the entries (C99 6.7.8, 10 to 22).
-- Each inner struct and array has braces of its own, or is an array that a text initialises.
use Rattle.std.specs.Prelude.{ℕ, suc, ◌≡◌, ◌++◌, true, false, Option, Some, None, List, [], ◌∷◌, length, nat_lt, if◌then◌else◌}
use Rattle.lk_base.specs.declared.cell.CellStep.{CellStep}
use Rattle.lk_base.specs.declared.cell.CellStep.TheVariants as to
use Rattle.lk_base.specs.declared.spot.Spot.{Spot}
use Rattle.lk_tree.specs.declared.declaration.Entry.{Entry}
use Rattle.lk_tree.specs.declared.declaration.Init.{Init, out-Init}
use Rattle.lk_tree.specs.declared.declaration.Init.TheOpen.{Init-F}
use Rattle.lk_tree.specs.declared.declaration.InitList.{InitList, out-InitList}
use Rattle.lk_tree.specs.declared.expression.Expr.{Expr}
use Rattle.lk_typed.specs.Elaborated.{InPlace}
use Rattle.lk_typed.specs.Env.{Env, converted_to, extend}
use Rattle.lk_typed.specs.Expressions.{AText, expr_word, written}
use Rattle.lk_typed.specs.InitialiserRules.{entry_type, is_text_for}
use Rattle.lk_typed.specs.Initialisers.{designators_add, init_adds, text_alone}
use Rattle.lk_typed.specs.MemberRules.{fields_in}
use Rattle.lk_typed.specs.Ty.{Ty, Void, Int, ThreadId, Mutex, Cond, Pointer, Array, Struct, Function, Opaque, is_array}

-- what a part begins with
pub data Beginning : Type 0 where
  -- the value of an expression, converted to the part's type
  AValue : InPlace → Beginning
  -- the bytes of the literal at a node: they go to the elements of the part, an array, from its first on
  TheBytes : Spot → ℕ → List ℕ → Beginning
  -- the state of an initialiser word (POSIX, pthread_mutex_init)
  TheWord : Beginning

-- a part that an initialiser names: a scalar, a mutex or condition variable, or an
-- array that a text initialises
pub record PartGiven : Type 0 where
  pub path : List CellStep
  pub type : Ty
  pub begins : Beginning

-- the bytes of a literal, with a zero behind them where the array has room (C99 6.7.8, 14)
abbrev pub bytes_given : ℕ → List ℕ → List ℕ
bytes_given n bytes = if nat_lt (length bytes) n then bytes ++ 0 ∷ [] else bytes

-- the step to the part of an object that the entry k of its list initialises (C99 6.7.8, 17)
abbrev pub step_to : Ty → ℕ → Option CellStep
step_to Void k = None
step_to (Int j) k = None
step_to ThreadId k = None
step_to Mutex k = None
step_to Cond k = None
step_to (Pointer t) k = None
step_to (Array t n) k = Some (to.Index k)
step_to (Struct s) k = Some (to.Field k)
step_to (Function result params dots) k = None
step_to (Opaque n) k = None

abbrev only : List CellStep → Ty → Beginning → List PartGiven
only path t begins = record { path = path; type = t; begins = begins } ∷ []

mutual
  -- the parts of the object of type t, to which `path` leads, that its initialiser names;
  -- the initialiser stands in `env`
  pub data AreGiven : Env → Ty → List CellStep → Init → List PartGiven → Type 0 where
    word : {env : Env} {t lock : Ty} {path : List CellStep} {init : Init} {e : Expr} →
        out-Init init ≡ Init-F.Expr e → expr_word e env ≡ Some lock →
        AreGiven env t path init (only path t TheWord)
    value : {env : Env} {t : Ty} {path : List CellStep} {init : Init} {e : Expr} →
        out-Init init ≡ Init-F.Expr e → expr_word e env ≡ None → is_array t ≡ false →
        AreGiven env t path init (only path t (AValue (converted_to env t, e)))
    text : {env : Env} {element : Ty} {n : ℕ} {path : List CellStep} {init : Init} {e : Expr}
        {bytes : List ℕ} → out-Init init ≡ Init-F.Expr e → written e ≡ AText bytes →
        AreGiven env (Array element n) path init
        (only path (Array element n) (TheBytes e.spot e.ordinal (bytes_given n bytes)))
    braced_text : {env : Env} {t : Ty} {path : List CellStep} {init : Init} {list : InitList} {entry : Entry}
        {given : List PartGiven} → out-Init init ≡ Init-F.List list →
        (out-InitList list).entries ≡ entry ∷ [] → is_text_for t (text_alone (entry ∷ [])) ≡ true →
        AreGiven env t path entry.init given → AreGiven env t path init given
    list : {env : Env} {t : Ty} {path : List CellStep} {init : Init} {list : InitList}
        {given : List PartGiven} → out-Init init ≡ Init-F.List list →
        is_text_for t (text_alone (out-InitList list).entries) ≡ false →
        AreGivenByEntries env t path 0 (out-InitList list).entries given → AreGiven env t path init given

  -- those that the entries name, the first of which is the entry k of the list
  pub data AreGivenByEntries : Env → Ty → List CellStep → ℕ → List Entry → List PartGiven → Type 0 where
    no_more : {env : Env} {t : Ty} {path : List CellStep} {k : ℕ} → AreGivenByEntries env t path k [] []
    next : {env : Env} {t u : Ty} {path : List CellStep} {k : ℕ} {step : CellStep} {entry : Entry}
        {entries : List Entry} {given others : List PartGiven} → step_to t k ≡ Some step →
        entry_type (fields_in env) t k ≡ Some u →
        AreGiven (extend env (designators_add env entry.designators)) u (path ++ step ∷ []) entry.init given →
        AreGivenByEntries (extend (extend env (designators_add env entry.designators))
        (init_adds entry.init (extend env (designators_add env entry.designators)))) t path
        (suc k) entries others → AreGivenByEntries env t path k (entry ∷ entries) (given ++ others)
