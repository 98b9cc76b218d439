-- The member that a name means.
use Rattle.std.proofs.Common.{◌≡◌, ◌∙◌, ℕ, Bool, true, false, List, [], ◌∷◌, map, Option, Some, None, refl, sym, ap, subst, All}
use Rattle.std.specs.Prelude.{IfSome, if◌then◌else◌}
use Rattle.std.specs.Option.{option_map}
use Rattle.std.proofs.lemmas.List.Elements.{All-head, All-tail}
use Rattle.std.proofs.lemmas.Option.{none-some, same_Some}
use Rattle.lk_typed.specs.Addresses.{inside, member_at}
use Rattle.lk_base.specs.declared.code.Code.TheVariants.{Mismatch}
use Rattle.lk_types.specs.Table.{Table, IsKnown}
use Rattle.lk_typed.specs.Env.{Name, is_name, latest, or_else, field_of}
use Rattle.lk_typed.specs.Meaning.{meaning}
use Rattle.lk_typed.specs.Places.{member_in}
use Rattle.lk_typed.specs.Typing.{Address, place_of_type}
use Rattle.lk_typed.specs.Typings.{field_in, IsTyping, IsVerdict}
use Rattle.lk_typed.specs.declared.members.Field.{Field}
use Rattle.lk_typed.specs.declared.typed.Typed.{Typed}
use Rattle.lk_typed.specs.declared.verdict.Verdict.TheVariants as verdict
use Rattle.lk_check_expr.specs.Fields.{type_named}

-- ---- the latest of several

pub map_later : {A B : Type 0} (f : A → B) (a b : Option A) → option_map f (or_else a b) ≡ or_else (option_map f a) (option_map f b)
map_later f None b = refl
map_later f (Some x) b = refl

map_taken : {A B : Type 0} (f : A → B) (taken : Bool) (x : A) → option_map f (if taken then Some x else None) ≡ (if taken then Some (f x) else None)
map_taken f true x = refl
map_taken f false x = refl

later_holds : {A : Type 0} (Holds : A → Type 0) (a b : Option A) → IfSome a Holds → IfSome b Holds → IfSome (or_else a b) Holds
later_holds Holds None b p q = q
later_holds Holds (Some x) b p q = p

taken_holds : {A : Type 0} (Holds : A → Type 0) (taken : Bool) (x : A) → Holds x → IfSome (if taken then Some x else None) Holds
taken_holds Holds true x h = h
taken_holds Holds false x h = tt

-- what holds of all holds of the latest
pub latest_holds : {A : Type 0} (Holds : A → Type 0) (test : A → Bool) (xs : List A) → All Holds xs → IfSome (latest test xs) Holds
latest_holds Holds test [] all = tt
latest_holds Holds test (x ∷ xs) all =
    later_holds Holds (latest test xs) (if test x then Some x else None) (latest_holds Holds test xs (All-tail Holds x xs all)) (taken_holds Holds (test x) x (All-head Holds x xs all))

-- ---- members

abbrev latest_field : List Field → Name → Option Field
latest_field fields name = latest (λ field. is_name field.name name) fields

named : (table : Table) (fields : List Field) (name : Name) → field_of (map (field_in table) fields) name ≡ option_map (field_in table) (latest_field fields name)
named table [] name = refl
named table (field ∷ fields) name =
    ap (λ o. or_else o (if is_name field.name name then Some (field_in table field) else None)) (named table fields name) ∙
    sym (ap (or_else (option_map (field_in table) (latest_field fields name))) (map_taken (field_in table) (is_name field.name name) field)) ∙
    sym (map_later (field_in table) (latest_field fields name) (if is_name field.name name then Some field else None))

abbrev IsPlaceOf : Table → Typed → ℕ → Type 0
IsPlaceOf table t ty = (p : Address) → IsKnown table ty → IsTyping table t (place_of_type (meaning table ty) p)

some_at : (table : Table) (p : Address) (n : ℕ) (o : Option Field) (t : Typed) (ty : ℕ) → IfSome o (λ field. IsKnown table field.ty) →
    option_map (λ field. field.ty) o ≡ Some ty → IsPlaceOf table t ty → IsVerdict table (verdict.Typed t) (member_in p n (option_map (field_in table) o))
some_at table p n None t ty known e is = absurd (none-some ty e)
some_at table p n (Some field) t ty known e is =
    subst (λ u. IsTyping table t (place_of_type (meaning table u) (inside (member_at n) p))) (sym (same_Some field.ty ty e))
    (is (inside (member_at n) p) (subst (IsKnown table) (same_Some field.ty ty e) known))

none_at : (table : Table) (p : Address) (n : ℕ) (o : Option Field) → option_map (λ field. field.ty) o ≡ None → IsVerdict table (verdict.Broken Mismatch) (member_in p n (option_map (field_in table) o))
none_at table p n None e = refl
none_at table p n (Some field) e = absurd (none-some field.ty (sym e))

pub some_member : (table : Table) (p : Address) (n : ℕ) (fields : List Field) (name : Name) (t : Typed) (ty : ℕ) → All (λ field. IsKnown table field.ty) fields →
    type_named fields name ≡ Some ty → IsPlaceOf table t ty → IsVerdict table (verdict.Typed t) (member_in p n (field_of (map (field_in table) fields) name))
some_member table p n fields name t ty all e is =
    subst (λ o. IsVerdict table (verdict.Typed t) (member_in p n o)) (sym (named table fields name))
    (some_at table p n (latest_field fields name) t ty (latest_holds (λ field. IsKnown table field.ty) (λ field. is_name field.name name) fields all) e is)

pub none_member : (table : Table) (p : Address) (n : ℕ) (fields : List Field) (name : Name) → type_named fields name ≡ None →
    IsVerdict table (verdict.Broken Mismatch) (member_in p n (field_of (map (field_in table) fields) name))
none_member table p n fields name e =
    subst (λ o. IsVerdict table (verdict.Broken Mismatch) (member_in p n o)) (sym (named table fields name)) (none_at table p n (latest_field fields name) e)
