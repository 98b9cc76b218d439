-- Initialisers as nodes (C99 6.7.8): what each entry of a list initialises, which codes hold, and the
-- size that an initialiser gives.
use Rattle.std.specs.Prelude.{ℕ, ◌++◌, ◌||◌, suc, Bool, true, false, Option, Some, None, List, [], ◌∷◌, length, nat_eq, if◌then◌else◌}
use Rattle.lk_tree.specs.declared.declaration.Designator.{Designator}
use Rattle.lk_tree.specs.declared.declaration.Designator.TheVariants as designator
use Rattle.lk_tree.specs.declared.declaration.Entry.{Entry}
use Rattle.lk_tree.specs.declared.declaration.Init.{Init, out-Init}
use Rattle.lk_tree.specs.declared.declaration.Init.TheFolds.{fold-Init}
use Rattle.lk_tree.specs.declared.declaration.Init.TheOpen.{Init-F, Entry-F, InitList-F}
use Rattle.lk_tree.specs.declared.declaration.InitList.{InitList, out-InitList}
use Rattle.lk_typed.specs.Env.{Env, Additions, nothing, both, extend, converted_to}
use Rattle.lk_typed.specs.Faults.{Breach}
use Rattle.lk_typed.specs.InitialiserRules.{Object, Braces, entry_type, expression_rules, is_text_for, list_rules, size_given, with_zero}
use Rattle.lk_typed.specs.MemberRules.{fields_in}
use Rattle.lk_typed.specs.Nodes.{AnInitialiser, AnExpression, Placed, at}
use Rattle.lk_typed.specs.Ty.{Ty, Void, Int, ThreadId, Mutex, Cond, Pointer, Array, Struct, Function, Opaque}
use Rattle.lk_typed.specs.Expressions.{expr_adds, expr_seen, expr_text, expr_word}

-- ---- lists

abbrev pub is_some_designator : List Designator → Bool
is_some_designator [] = false
is_some_designator (d ∷ ds) = true

abbrev pub has_designator : List Entry → Bool
has_designator [] = false
has_designator (e ∷ es) = is_some_designator e.designators || has_designator es

abbrev pub text_of : Init-F Init Entry InitList → Option ℕ
text_of (Init-F.Expr e) = expr_text e
text_of (Init-F.List entries) = None

-- the text that is all of a list
abbrev pub text_alone : List Entry → Option ℕ
text_alone [] = None
text_alone (e ∷ []) = text_of (out-Init e.init)
text_alone (e ∷ other ∷ es) = None

abbrev pub braces_of : List Entry → Braces
braces_of entries =
    record { entries = length entries; has_designator = has_designator entries; text = text_alone entries }

-- ---- parts

abbrev pub inner_object : Object → Option Ty → Option Object
inner_object object None = None
inner_object object (Some t) = Some (record object { type = t; is_inner = true })

-- what the entry with this number initialises: a text that is all of the list the array itself, where it
-- may; else the element or member
abbrev pub entry_object : Env → Option Object → Option ℕ → ℕ → Option Object
entry_object env None text k = None
entry_object env (Some object) text k =
    if is_text_for object.type text then Some object
    else inner_object object (entry_type (fields_in env) object.type k)

abbrev pub designator_part : Env → Designator → List Placed
designator_part env (designator.Member name) = []
designator_part env (designator.Index e) = at env (AnExpression e) ∷ []

abbrev pub designator_adds : Env → Designator → Additions
designator_adds env (designator.Member name) = nothing
designator_adds env (designator.Index e) = expr_adds e env

abbrev pub designators_add : Env → List Designator → Additions
designators_add env [] = nothing
designators_add env (d ∷ ds) = let a = designator_adds env d in both a (designators_add (extend env a) ds)

abbrev pub designator_parts : Env → List Designator → List Placed
designator_parts env [] = []
designator_parts env (d ∷ ds) =
    designator_part env d ++ designator_parts (extend env (designator_adds env d)) ds

-- what adds something to the environment in which it stands
abbrev pub Adder : Type 0
Adder = Env → Additions

abbrev pub in_turn : List Adder → Adder
in_turn [] env = nothing
in_turn (a ∷ others) env = let first = a env in both first (in_turn others (extend env first))

abbrev pub of_init : Init-F Adder Adder Adder → Adder
of_init (Init-F.Expr e) = expr_adds e
of_init (Init-F.List entries) = entries

abbrev pub of_entry : Entry-F Adder Adder Adder → Adder
of_entry entry env = let a = designators_add env entry.designators in both a (entry.init (extend env a))

abbrev pub of_list : InitList-F Adder Adder Adder → Adder
of_list node = in_turn node.entries

-- what an initialiser adds
unfoldable pub init_adds : Init → Adder
init_adds = fold-Init Adder Adder Adder of_init of_entry of_list

-- the entries of a list, each with what it initialises; `text` has the bytes of the
-- text that is all of the list
abbrev pub entries_in_turn : Option Object → Option ℕ → Env → ℕ → List Entry → List Placed
entries_in_turn object text env k [] = []
entries_in_turn object text env k (e ∷ es) =
    let behind = extend env (designators_add env e.designators) in
    designator_parts env e.designators ++
    at behind (AnInitialiser (entry_object behind object text k) e.init) ∷
    entries_in_turn object text (extend behind (init_adds e.init behind)) (suc k) es

-- an expression that initialises an object is converted to its type
abbrev pub as_initialiser : Option Object → Env → Env
as_initialiser None env = env
as_initialiser (Some object) env = converted_to env object.type

-- an initialiser word is no expression, and stands only as an initialiser (POSIX, pthread.h)
abbrev pub unless_word : Option Ty → List Placed → List Placed
unless_word None parts = parts
unless_word (Some lock) parts = []

abbrev pub parts_of_init : Option Object → Env → Init-F Init Entry InitList → List Placed
parts_of_init object env (Init-F.Expr e) =
    unless_word (expr_word e env) (at (as_initialiser object env) (AnExpression e) ∷ [])
parts_of_init object env (Init-F.List list) =
    entries_in_turn object (text_alone (out-InitList list).entries) env 0 (out-InitList list).entries

-- ---- rules

abbrev pub rules_of_init : Object → Env → Init-F Init Entry InitList → List Breach
rules_of_init object env (Init-F.Expr e) = expression_rules object (expr_seen e object.type env)
rules_of_init object env (Init-F.List list) =
    list_rules (fields_in env) object (braces_of (out-InitList list).entries)

abbrev pub initialiser_rules : Option Object → Env → Init → List Breach
initialiser_rules None env init = []
initialiser_rules (Some object) env init = rules_of_init object env (out-Init init)

-- ---- sizes

abbrev pub size_of_init : Ty → Init-F Init Entry InitList → ℕ
size_of_init element (Init-F.Expr e) = with_zero (expr_text e)
size_of_init element (Init-F.List list) = size_given element (braces_of (out-InitList list).entries)

-- the type with the size that its initialiser gives, where it has none
abbrev pub completed_by : Init → Ty → Ty
completed_by init Void = Void
completed_by init (Int k) = Int k
completed_by init ThreadId = ThreadId
completed_by init Mutex = Mutex
completed_by init Cond = Cond
completed_by init (Pointer t) = Pointer t
completed_by init (Array t n) = if nat_eq n 0 then Array t (size_of_init t (out-Init init)) else Array t n
completed_by init (Struct s) = Struct s
completed_by init (Function result params dots) = Function result params dots
completed_by init (Opaque n) = Opaque n
