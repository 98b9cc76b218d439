-- The members that forms see, and codes of forms that tell no name.
use Rattle.std.proofs.Common.{◌≡◌, ◌∙◌, ◌<◌, ◌++◌, ℕ, zero, suc, Bool, true, false, List, [], ◌∷◌, Option, Some, None, length, map, refl, sym, ap, subst, arith, All, length-append}
use Rattle.std.specs.Prelude.{◌||◌, not, unwrap_or}
use Rattle.std.specs.List.{slice_get}
use Rattle.std.proofs.lemmas.List.Elements.{All-head, All-tail}
use Rattle.lk_types.specs.Building.{IsTable, IsLonger, IsPassed, types_of as member_types}
use Rattle.lk_types.specs.Table.{Table, IsKnown}
use Rattle.lk_typed.proofs.Meanings.{meaning_stays}
use Rattle.lk_typed.specs.Bounds.{holds_struct}
use Rattle.lk_typed.specs.DeclaratorRules.{Size, array_rules, function_rules, has_dots, has_size, unless}
use Rattle.lk_base.specs.declared.code.Code.TheVariants.{Incomplete, Mismatch, MutexValue, OwnVararg, StructValue, VariableArray}
use Rattle.lk_typed.specs.Sizes.{is_complete}
use Rattle.lk_typed.specs.Env.{Env, members_of}
use Rattle.lk_typed.specs.Meaning.{meaning}
use Rattle.lk_typed.specs.MemberRules.{types_in}
use Rattle.lk_typed.specs.Told.{Span}
use Rattle.lk_typed.specs.Ty.{Ty, is_array, is_function, is_lock, is_struct}
use Rattle.lk_typed.specs.Typings.{field_in, members_in}
use Rattle.lk_typed.specs.declared.members.Field.{Field}
use Rattle.lk_typed.specs.declared.members.Members.{Members}
use Rattle.lk_typed.specs.declared.members.Members.TheVariants as known
use Rattle.lk_check_decl.proofs.Sizes.{holds_is}
use Rattle.lk_found.proofs.Keepings.{unnamed_none, unnamed_unless, unnamed_both, unnamed_two}
use Rattle.lk_found.proofs.Forming.{all_cons}
use Rattle.lk_found.specs.Keepings.{AreUnnamed}
use Rattle.lk_found.specs.Shaped.{FormAt, form_at, forms_in, IsKnownAt}
use Rattle.lk_found.specs.Shapes.{Form, APointer, AnArray, AFunction, form_in, rules_of, IsKnownLayer}
use Rattle.lk_found.specs.Structs.{listed, member_of}
use Rattle.lk_found.specs.declared.layers.Layer.{Layer}
use Rattle.lk_found.specs.declared.layers.Layer.TheVariants as layer
use Rattle.lk_found.specs.declared.shapes.LayerAt.{LayerAt}

-- ---- the members of structs

fields_same : (table : Table) (fields : List Field) → map (λ field. field.type) (map (field_in table) fields) ≡ map (meaning table) (member_types (map member_of fields))
fields_same table [] = refl
fields_same table (f ∷ fs) = ap (λ ts. meaning table f.ty ∷ ts) (fields_same table fs)

types_same : (table : Table) (m : Members) → types_in (members_in table m) ≡ map (meaning table) (member_types (listed m))
types_same table known.NotYet = refl
types_same table known.Begun = refl
types_same table (known.Known fields) = fields_same table fields
types_same table known.Faulty = refl

pub listed_same : (table : Table) (structs : List Members) (s : ℕ) →
    types_in (members_of (map (members_in table) structs) s) ≡ map (meaning table) (member_types (unwrap_or (slice_get (map listed structs) s) []))
listed_same table [] zero = refl
listed_same table [] (suc s) = refl
listed_same table (m ∷ ms) zero = types_same table m
listed_same table (m ∷ ms) (suc s) = listed_same table ms s

-- ---- no rule of a form tells a name

unnamed_array : (env : Env) (may : Bool) (t : Option Ty) (size : Size) → AreUnnamed (array_rules env may t size)
unnamed_array env may None size = unnamed_unless (has_size may None size) VariableArray
unnamed_array env may (Some t) size = unnamed_two (is_complete env.structs t) Incomplete (has_size may (Some t) size) VariableArray

unnamed_function : (t : Ty) → AreUnnamed (function_rules (Some t))
unnamed_function t =
    unnamed_both (unless (not (is_function t || is_array t)) Mismatch ++ unless (not (is_struct t)) StructValue) (unless (not (is_lock t)) MutexValue)
    (unnamed_two (not (is_function t || is_array t)) Mismatch (not (is_struct t)) StructValue) (unnamed_unless (not (is_lock t)) MutexValue)

pub unnamed_rules : (form : Form) (span : Span) (t : Option Ty) → AreUnnamed (rules_of form span t)
unnamed_rules APointer span None = unnamed_none
unnamed_rules APointer span (Some t) = unnamed_unless (not (has_dots t)) OwnVararg
unnamed_rules (AnArray None) span t = unnamed_array span.env span.may_be_absent t None
unnamed_rules (AnArray (Some None)) span t = unnamed_none
unnamed_rules (AnArray (Some (Some c))) span t = unnamed_array span.env span.may_be_absent t (Some (Some c))
unnamed_rules (AFunction params dots) span None = unnamed_none
unnamed_rules (AFunction params dots) span (Some t) = unnamed_function t

-- ---- while the table grows

module _ (old new : Table) (good : IsTable old) (new_good : IsTable new) (longer : IsLonger old new) where
  pub known_stays : (t : ℕ) → IsKnown old t → IsKnown new t
  known_stays t is = subst (λ types. t < length types) (sym longer.types.1) (more t old.types longer.types.0 is)
    where
      more : {A : Type 0} (t : ℕ) (xs ys : List A) → t < length xs → t < length (xs ++ ys)
      more t xs ys is = grind (arith, length-append)

  pub passed_stays : (t : ℕ) → IsPassed old t → IsPassed new t
  passed_stays t is = record {
    known = known_stays t is.known;
    no_struct = sym (holds_is new new_good t (known_stays t is.known)) ∙ ap holds_struct (meaning_stays old new good longer t is.known) ∙ holds_is old good t is.known ∙ is.no_struct;
  }

  all_passed : (ts : List ℕ) → All (IsPassed old) ts → All (IsPassed new) ts
  all_passed ts all k d within = passed_stays _ (all k d within)

  meanings_same : (ts : List ℕ) → All (IsPassed old) ts → map (meaning new) ts ≡ map (meaning old) ts
  meanings_same [] all = refl
  meanings_same (t ∷ ts) all = cons_same (meaning_stays old new good longer t (All-head (IsPassed old) t ts all).known) (meanings_same ts (All-tail (IsPassed old) t ts all))
    where
      cons_same : {a b : Ty} {xs ys : List Ty} → a ≡ b → xs ≡ ys → a ∷ xs ≡ b ∷ ys
      cons_same p q = cc

  pub layer_known : (l : Layer) → IsKnownLayer old l → IsKnownLayer new l
  layer_known layer.Pointer is = tt
  layer_known (layer.Array size) is = tt
  layer_known (layer.Function None dots) is = tt
  layer_known (layer.Function (Some params) dots) is = all_passed params is

  pub form_same : (l : Layer) → IsKnownLayer old l → form_in new l ≡ form_in old l
  form_same layer.Pointer is = refl
  form_same (layer.Array size) is = refl
  form_same (layer.Function None dots) is = refl
  form_same (layer.Function (Some params) dots) is = ap (λ ts. AFunction (Some ts) dots) (meanings_same params is)

  pub layers_known : (ls : List LayerAt) → All (IsKnownAt old) ls → All (IsKnownAt new) ls
  layers_known ls all k d within = layer_known _ (all k d within)

  pub forms_same : (ls : List LayerAt) → All (IsKnownAt old) ls → forms_in new ls ≡ forms_in old ls
  forms_same [] all = refl
  forms_same (l ∷ ls) all = cons_same (ap (λ form. record { mark = (form_at old l).mark; form = form }) (form_same l.layer (All-head (IsKnownAt old) l ls all))) (forms_same ls (All-tail (IsKnownAt old) l ls all))
    where
      cons_same : {a b : FormAt} {xs ys : List FormAt} → a ≡ b → xs ≡ ys → a ∷ xs ≡ b ∷ ys
      cons_same p q = cc

pub or_again : (a b c : Bool) → ((a || b) || c) ≡ (a || (b || c))
or_again true b c = refl
or_again false b c = refl

pub all_front : {A : Type 0} (P : A → Type 0) (xs ys : List A) → All P (xs ++ ys) → All P xs
all_front P [] ys all = λ k d within. absurd (omega (arith, within))
all_front P (x ∷ xs) ys all = all_cons P x xs (All-head P x (xs ++ ys) all) (all_front P xs ys (All-tail P x (xs ++ ys) all))

pub or_nothing : (b : Bool) → (b || false) ≡ b
or_nothing true = refl
or_nothing false = refl
