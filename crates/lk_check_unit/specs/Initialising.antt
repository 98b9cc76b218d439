-- What a walk over an initialiser needs, finds and leaves behind.
use Rattle.std.specs.Prelude.{ℕ, ◌≡◌, Bool, true, false, Option, Some, None, List, [], ◌∷◌, IfSome, map, option_map}
use Rattle.lk_base.specs.declared.code.Code.{Code}
use Rattle.lk_base.specs.declared.code.Code.TheVariants.{Mismatch}
use Rattle.lk_tree.specs.declared.declaration.Designator.{Designator}
use Rattle.lk_tree.specs.declared.declaration.Entry.{Entry}
use Rattle.lk_tree.specs.declared.declaration.Init.TheOpen.{Init-F}
use Rattle.lk_tree.specs.declared.declaration.Init.{Init, out-Init}
use Rattle.lk_tree.specs.declared.declaration.InitList.{InitList}
use Rattle.lk_tree.specs.declared.expression.Expr.{Expr}
use Rattle.lk_types.specs.Table.{IsKnown, Table}
use Rattle.lk_typed.specs.Addresses.{value}
use Rattle.lk_typed.specs.Assignments.{given_codes}
use Rattle.lk_typed.specs.Env.{Env, both, extend}
use Rattle.lk_typed.specs.Expressions.{expr_word}
use Rattle.lk_typed.specs.Faults.{Breach, breach}
use Rattle.lk_typed.specs.InitialiserRules.{Braces, Object, Seen, expression_rules, list_rules}
use Rattle.lk_typed.specs.Initialisers.{Adder, designator_adds, designator_part, designator_parts, designators_add, entries_in_turn, in_turn, init_adds}
use Rattle.lk_typed.specs.Meaning.{meaning}
use Rattle.lk_typed.specs.MemberRules.{fields_in}
use Rattle.lk_typed.specs.NodeRules.{are_typed, has_type}
use Rattle.lk_typed.specs.Nodes.{AnInitialiser, at}
use Rattle.lk_typed.specs.Statics.{is_static_value}
use Rattle.lk_typed.specs.Ty.{Ty}
use Rattle.lk_typed.specs.Typing.{Typing}
use Rattle.lk_check_decl.specs.Breaches.{told}
use Rattle.lk_check_decl.specs.Initialisers.{object_in}
use Rattle.lk_check_decl.specs.declared.initialisers.Target.{Target}
use Rattle.lk_found.specs.Findings.{IsFoundTyping}
use Rattle.lk_found.specs.declared.found.Found.{Found}
use Rattle.lk_checker.specs.States.{IsIn}
use Rattle.lk_checker.specs.declared.checker.Checker.{Checker}
use Rattle.lk_check_walk.specs.Walks.{Walks}
use Rattle.lk_check_unit.specs.Bodies.{IsPlain}

abbrev pub object_for : Table → Option Target → Option Object
object_for table target = option_map (object_in table) target

abbrev pub IsKnownTarget : Table → Option Target → Type 0
IsKnownTarget table target = IfSome target (λ (t : Target). IsKnown table t.ty)

-- ---- initialisers

-- it is walked, and it is known whether it has a type
pub record WalksInit (target : Option Target) (init : Init) (old new : Checker) (answer : Bool) : Type 0 where
  pub walks : (at_end env : Env) → IsPlain old env →
      Walks at_end old new env (init_adds init env)
      (at env (AnInitialiser (object_for old.types target) init) ∷ [])
  pub typed : (env : Env) → IsPlain old env →
      answer ≡ has_type env (AnInitialiser (object_for old.types target) init)

-- ---- the parts of a list

-- what an entry adds
abbrev pub entry_adds : Entry → Adder
entry_adds entry env = let a = designators_add env entry.designators in
    both a (init_adds entry.init (extend env a))

pub record WalksDesignator (d : Designator) (old new : Checker) (answer : Bool) : Type 0 where
  pub walks : (at_end env : Env) → IsPlain old env →
      Walks at_end old new env (designator_adds env d) (designator_part env d)
  pub typed : (env : Env) → IsPlain old env → answer ≡ are_typed (designator_part env d)

pub record WalksDesignators (ds : List Designator) (old new : Checker) (answer : Bool) : Type 0 where
  pub walks : (at_end env : Env) → IsPlain old env →
      Walks at_end old new env (designators_add env ds) (designator_parts env ds)
  pub typed : (env : Env) → IsPlain old env → answer ≡ are_typed (designator_parts env ds)

-- one entry, with its number
pub record WalksEntry (target : Option Target) (text : Option ℕ) (k : ℕ) (entry : Entry) (old new : Checker)
    (answer : Bool) : Type 0 where
  pub walks : (at_end env : Env) → IsPlain old env →
      Walks at_end old new env (entry_adds entry env)
      (entries_in_turn (object_for old.types target) text env k (entry ∷ []))
  pub typed : (env : Env) → IsPlain old env →
      answer ≡ are_typed (entries_in_turn (object_for old.types target) text env k (entry ∷ []))

pub record WalksEntries (target : Option Target) (text : Option ℕ) (entries : List Entry) (old new : Checker)
    (answer : Bool) : Type 0 where
  pub walks : (at_end env : Env) → IsPlain old env →
      Walks at_end old new env (in_turn (map entry_adds entries) env)
      (entries_in_turn (object_for old.types target) text env 0 entries)
  pub typed : (env : Env) → IsPlain old env →
      answer ≡ are_typed (entries_in_turn (object_for old.types target) text env 0 entries)

-- ---- codes

abbrev pub object_type : Option Object → Option Ty
object_type None = None
object_type (Some object) = Some object.type

abbrev pub seen_rules : Option Object → Seen → List Breach
seen_rules None seen = []
seen_rules (Some object) seen = expression_rules object (Some seen)

-- an initialiser word has no value that converts: 22
abbrev pub word_seen : Ty → Seen
word_seen lock =
    record { type = lock; text = None; word = Some lock; conversion = breach Mismatch ∷ []; is_constant = false }

-- an expression with this typing
abbrev pub typed_seen : Option ℕ → Ty → Typing → Seen
typed_seen text target x =
    record {
      type = (value x).type;
      text = text;
      word = None;
      conversion = map breach (given_codes target x);
      is_constant = is_static_value (value x);
    }

abbrev pub typed_rules : Option Object → Option ℕ → Typing → List Breach
typed_rules None text x = []
typed_rules (Some object) text x = expression_rules object (Some (typed_seen text object.type x))

abbrev pub typing_rules : Option Object → Option ℕ → Option Typing → List Breach
typing_rules object text None = []
typing_rules object text (Some x) = typed_rules object text x

-- the code of an expression, by what is found of it
abbrev pub IsInitCode : Table → Option Target → Option ℕ → Found → Option Code → Type 0
IsInitCode table target text found code = (x : Option Typing) → IsFoundTyping table found x →
    code ≡ told (typing_rules (object_for table target) text x)

abbrev pub braces_rules : Env → Option Object → Braces → List Breach
braces_rules env None braces = []
braces_rules env (Some object) braces = list_rules (fields_in env) object braces

-- ---- initialisers by their forms

-- as an initialiser that is this expression
abbrev pub WalksExpr : Option Target → Expr → Checker → Checker → Bool → Type 0
WalksExpr target e old new answer = (init : Init) → out-Init init ≡ Init-F.Expr e →
    WalksInit target init old new answer

-- as one that is this list
abbrev pub WalksList : Option Target → InitList → Checker → Checker → Type 0
WalksList target list old new = (init : Init) → out-Init init ≡ Init-F.List list →
    WalksInit target init old new true

-- the expression is this initialiser word
abbrev pub IsWord : Checker → Expr → ℕ → Type 0
IsWord checker e word = (env : Env) → IsIn checker env → Some (meaning checker.types word) ≡ expr_word e env

-- it is none
abbrev pub IsNoWord : Checker → Expr → Type 0
IsNoWord checker e = (env : Env) → IsIn checker env → None ≡ expr_word e env
