-- Sets that stand beside lists, and what they say of these.
use Rattle.std.proofs.Common.{◌≡◌, ◌∙◌, ◌++◌, ◌||◌, Bool, true, false, cond, List, [], ◌∷◌, Option, Some, None, map, refl, sym, ap, subst}
use Rattle.std.specs.Prelude.{ℤ, is_some, if◌then◌else◌}
use Rattle.std.specs.Cmp.{IsEquivalence}
use Rattle.std.specs.Cmp.Lexicographic.{nat_list_eq_equiv, options_equiv}
use Rattle.std.specs.List.{list_any}
use Rattle.std.specs.Option.{option_eq}
use Rattle.std.specs.Ordering.{int_eq}
use Rattle.std.proofs.lemmas.Cmp.{int_eq_equiv}
use Rattle.std.proofs.lemmas.List.{map-append}
use Rattle.lk_types.specs.Table.{Table}
use Rattle.lk_typed.specs.Env as env
use Rattle.lk_typed.specs.Env.{Name, field_of, is_name, or_else}
use Rattle.lk_typed.specs.StatementRules.{are_equal}
use Rattle.lk_typed.specs.Typings.{field_in}
use Rattle.lk_typed.specs.declared.members.Field.{Field}
use Rattle.lk_check_decl.specs.Sets.{HasSame}

-- ---- one more

any_pushed : {A : Type 0} (test : A → Bool) (xs : List A) (x : A) → cond (test x) true (list_any test xs) ≡ list_any test (xs ++ x ∷ [])
any_pushed test [] x = by (test x)
  where
    by : (b : Bool) → cond b true false ≡ (b || false)
    by true = refl
    by false = refl
any_pushed test (y ∷ xs) x = by (test y) (test x) (list_any test xs) ∙ ap (λ b. test y || b) (any_pushed test xs x)
  where
    by : (b c rest : Bool) → cond c true (b || rest) ≡ (b || cond c true rest)
    by true true rest = refl
    by true false rest = refl
    by false true rest = refl
    by false false rest = refl

same_pushed : {A : Type 0} (same : A → A → Bool) → IsEquivalence same → (keys new items : List A) (x : A) → HasSame same keys items →
    ((q : A) → list_any (same q) new ≡ cond (same x q) true (list_any (same q) keys)) → HasSame same new (items ++ x ∷ [])
same_pushed same laws keys new items x has put = λ q.
    put q ∙ ap (λ b. cond b true (list_any (same q) keys)) (laws.symm x q) ∙ ap (cond (same q x) true) (has q) ∙ any_pushed (same q) items x

-- a value of a case comes to the list and into the set
pub value_pushed : (keys new values later : List (Option ℤ)) (value : Option ℤ) → later ≡ values ++ value ∷ [] → HasSame (option_eq int_eq) keys values →
    ((q : Option ℤ) → list_any (option_eq int_eq q) new ≡ cond (option_eq int_eq value q) true (list_any (option_eq int_eq q) keys)) → HasSame (option_eq int_eq) new later
value_pushed keys new values later value is has put =
    subst (HasSame (option_eq int_eq) new) (sym is) (same_pushed (option_eq int_eq) (options_equiv int_eq_equiv) keys new values value has put)

-- their names
abbrev pub names_of : List Field → List Name
names_of fields = map (λ (field : Field). field.name) fields

-- a field comes to the list, and its name into the set
pub field_pushed : (keys new : List Name) (fields later : List Field) (field : Field) (name : Name) → later ≡ fields ++ field ∷ [] → name ≡ field.name → HasSame is_name keys (names_of fields) →
    ((q : Name) → list_any (is_name q) new ≡ cond (is_name name q) true (list_any (is_name q) keys)) → HasSame is_name new (names_of later)
field_pushed keys new fields later field name is named has put =
    subst (HasSame is_name new) (sym (ap names_of is ∙ map-append (λ (f : Field). f.name) fields (field ∷ [])))
    (same_pushed is_name nat_list_eq_equiv keys new (names_of fields) field.name has (λ q. put q ∙ ap (λ n. cond (is_name n q) true (list_any (is_name q) keys)) named))

-- ---- what is asked

-- a known value is equal to another
pub known_equal : (value : ℤ) (values : List (Option ℤ)) → list_any (option_eq int_eq (Some value)) values ≡ list_any (are_equal (Some value)) values
known_equal value [] = refl
known_equal value (None ∷ values) = known_equal value values
known_equal value (Some other ∷ values) = ap (λ b. int_eq value other || b) (known_equal value values)

-- what isn't known is equal to nothing
pub unknown_equal : (values : List (Option ℤ)) → false ≡ list_any (are_equal None) values
unknown_equal [] = refl
unknown_equal (value ∷ values) = unknown_equal values

-- the struct has a member with a name
pub some_named : (table : Table) (fields : List Field) (name : Name) → list_any (is_name name) (names_of fields) ≡ is_some (field_of (map (field_in table) fields) name)
some_named table [] name = refl
some_named table (f ∷ fields) name =
    ap (λ b. is_name name f.name || b) (some_named table fields name) ∙ ap (λ b. b || is_some (field_of (map (field_in table) fields) name)) (nat_list_eq_equiv.symm name f.name) ∙
    by (field_of (map (field_in table) fields) name) (is_name f.name name)
  where
    by : (o : Option env.Field) (b : Bool) → (b || is_some o) ≡ is_some (or_else o (if b then Some (field_in table f) else None))
    by (Some found) true = refl
    by (Some found) false = refl
    by None true = refl
    by None false = refl
