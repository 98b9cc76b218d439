-- The codes of initialisers and of declared names tell no name, but for 21.
use Rattle.std.proofs.Common.{◌≡◌, ℕ, false, List, [], ◌∷◌, Option, Some, None, map, refl}
use Rattle.std.specs.Prelude.{◌||◌, not, is_none, nat_eq, nat_le, length, if◌then◌else◌}
use Rattle.lk_base.specs.declared.code.Code.{Code}
use Rattle.lk_base.specs.declared.code.Code.TheVariants.{BadInitialiser, Mismatch, MutexValue, NotConstant, StructValue}
use Rattle.lk_typed.specs.Assignments.{given_codes}
use Rattle.lk_typed.specs.Codes.{least_code, lesser}
use Rattle.lk_typed.specs.Env.{Env}
use Rattle.lk_typed.specs.Faults.{Breach, breach}
use Rattle.lk_typed.specs.InitialiserRules.{Braces, Object, Seen, array_by, by_expression, by_list, count_rules, is_character_type, is_text, struct_rules, text_rules, without_braces}
use Rattle.lk_typed.specs.NodeRules.{is_none_broken}
use Rattle.lk_typed.specs.Ty.{Ty, Void, Int, ThreadId, Mutex, Cond, Pointer, Array, Struct, Function, Opaque, is_struct}
use Rattle.lk_typed.specs.Typing.{Typing}
use Rattle.lk_check_decl.specs.Breaches.{told}
use Rattle.lk_check_unit.specs.Initialising.{braces_rules, seen_rules, typing_rules, typed_seen, word_seen}
use Rattle.lk_check_unit.proofs.Codes.{TellName}
use Rattle.lk_check_unit.proofs.Nameless.{both_tell, codes_tell, if_tell, none_tell, one_tells, unless_tells}

-- ---- no code is told exactly where none holds

pub none_told : (bs : List Breach) → is_none (told bs) ≡ is_none_broken bs
none_told [] = refl
none_told (b ∷ bs) = by (least_code (map (λ (c : Breach). c.code) bs))
  where
    by : (o : Option Code) → is_none (lesser (Some b.code) o) ≡ false
    by None = refl
    by (Some code) = refl

-- ---- expressions

without_tells : (object : Object) (bs : List Breach) → TellName [] bs → TellName [] (without_braces object bs)
without_tells object bs tells = if_tell [] object.is_inner (breach BadInitialiser ∷ []) bs (one_tells BadInitialiser []) tells

struct_tells : (object : Object) (seen : Seen) → TellName [] (struct_rules object seen)
struct_tells object seen =
    without_tells object (if is_struct seen.type then breach StructValue ∷ [] else breach Mismatch ∷ [])
    (if_tell [] (is_struct seen.type) (breach StructValue ∷ []) (breach Mismatch ∷ []) (one_tells StructValue []) (one_tells Mismatch []))

array_tells : (object : Object) (element : Ty) (n : ℕ) (text : Option ℕ) → TellName [] (array_by object element n text)
array_tells object element n None = without_tells object (breach Mismatch ∷ []) (one_tells Mismatch [])
array_tells object element n (Some bytes) =
    if_tell [] (is_character_type element) (text_rules n bytes) (without_braces object (breach Mismatch ∷ [])) (unless_tells (nat_eq n 0 || nat_le bytes n) BadInitialiser)
    (without_tells object (breach Mismatch ∷ []) (one_tells Mismatch []))

expression_tells : (object : Object) (seen : Seen) → TellName [] seen.conversion → (t : Ty) → TellName [] (by_expression object seen t)
expression_tells object seen tells Void = none_tell []
expression_tells object seen tells (Int k) = both_tell [] seen.conversion _ tells (unless_tells (not object.is_static || seen.is_constant) NotConstant)
expression_tells object seen tells ThreadId = both_tell [] seen.conversion _ tells (unless_tells (not object.is_static || seen.is_constant) NotConstant)
expression_tells object seen tells Mutex = unless_tells _ MutexValue
expression_tells object seen tells Cond = unless_tells _ MutexValue
expression_tells object seen tells (Pointer t) = both_tell [] seen.conversion _ tells (unless_tells (not object.is_static || seen.is_constant) NotConstant)
expression_tells object seen tells (Array t n) = array_tells object t n seen.text
expression_tells object seen tells (Struct s) = struct_tells object seen
expression_tells object seen tells (Function result params dots) = none_tell []
expression_tells object seen tells (Opaque n) = none_tell []

pub word_tells : (object : Option Object) (lock : Ty) → TellName [] (seen_rules object (word_seen lock))
word_tells None lock = none_tell []
word_tells (Some object) lock = expression_tells object (word_seen lock) (one_tells Mismatch []) object.type

pub typing_tells : (object : Option Object) (text : Option ℕ) (x : Option Typing) → TellName [] (typing_rules object text x)
typing_tells object text None = none_tell []
typing_tells None text (Some x) = none_tell []
typing_tells (Some object) text (Some x) = expression_tells object (typed_seen text object.type x) (codes_tell (given_codes object.type x)) object.type

-- ---- lists

count_tells : (entries n : ℕ) → TellName [] (count_rules entries n)
count_tells entries n = unless_tells (nat_eq n 0 || nat_le entries n) BadInitialiser

list_tells : (fields : ℕ → List Ty) (braces : Braces) (t : Ty) → TellName [] (by_list fields braces t)
list_tells fields braces Void = none_tell []
list_tells fields braces (Int k) = one_tells BadInitialiser []
list_tells fields braces ThreadId = one_tells BadInitialiser []
list_tells fields braces Mutex = one_tells BadInitialiser []
list_tells fields braces Cond = one_tells BadInitialiser []
list_tells fields braces (Pointer t) = one_tells BadInitialiser []
list_tells fields braces (Array t n) = if_tell [] (is_text t braces.text) [] (count_rules braces.entries n) (none_tell []) (count_tells braces.entries n)
list_tells fields braces (Struct s) = count_tells braces.entries (length (fields s))
list_tells fields braces (Function result params dots) = none_tell []
list_tells fields braces (Opaque n) = none_tell []

pub braces_tell : (env : Env) (object : Option Object) (braces : Braces) → TellName [] (braces_rules env object braces)
braces_tell env None braces = none_tell []
braces_tell env (Some object) braces = if_tell [] braces.has_designator (breach BadInitialiser ∷ []) (by_list _ braces object.type) (one_tells BadInitialiser []) (list_tells _ braces object.type)
