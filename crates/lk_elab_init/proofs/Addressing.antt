-- The address that the rule of a form gives, by those of its parts (C99 6.6, 9).
use Rattle.std.proofs.Common.{◌≡◌, ◌∙◌, Bool, true, false, List, [], ◌∷◌, Option, Some, None, ℕ, refl, sym, ap, subst}
use Rattle.std.specs.Prelude.{if◌then◌else◌, is_some}
use Rattle.std.proofs.lemmas.Bool.{false≢true}
use Rattle.std.proofs.lemmas.List.{append-nil}
use Rattle.lk_base.specs.declared.code.Code.{Code}
use Rattle.lk_base.specs.declared.code.Code.TheVariants.{Mismatch, Incomplete}
use Rattle.lk_tree.specs.declared.expression.DeclaratorForm.TheOpen.{ExprForm-F}
use Rattle.lk_tree.specs.declared.expression.ExprForm.{ExprForm, out-ExprForm, roll-ExprForm, out-roll-ExprForm}
use Rattle.lk_tree.specs.declared.expression.TypeName.{TypeName}
use Rattle.lk_tree.specs.declared.operators.BinaryOperator.{BinaryOperator}
use Rattle.lk_tree.specs.declared.operators.PrefixOperator.{PrefixOperator}
use Rattle.lk_typed.specs.Addresses.{inside, member_at, moved, value}
use Rattle.lk_typed.specs.Assignments.{cast_rule}
use Rattle.lk_typed.specs.Elaborated.{InPlace, PlacedForm, StandsFor, form_of, name_in, type_named, typing_at}
use Rattle.lk_typed.specs.Env.{Env, Declared, Field, Members, NotYet, Begun, Known, Faulty, Name, extend, field_of, look_up, members_of, nothing, number_of_field}
use Rattle.lk_typed.specs.ExprRules.{additions_of, look_of, rule}
use Rattle.lk_typed.specs.Expressions.{expression}
use Rattle.lk_typed.specs.Forms.{each_part, found_at, placed}
use Rattle.lk_typed.specs.Places.{arrow_of, arrow_rule, dot_of, dot_rule, member_in, member_of}
use Rattle.lk_typed.specs.Ty.{Ty, Void, Int, ThreadId, Mutex, Cond, Pointer, Array, Struct, Function, Opaque, struct_of, target_of}
use Rattle.lk_typed.specs.Typing.{Address, AtText, Broken, Judged, Silent, Typed, Typing, Verdict, typing_of, with_one, with_type}
use Rattle.lk_typed.specs.Words.{use_of_declared, whole_of}
use Rattle.lk_rules.proofs.Found.{Layer, expressions_follow_their_rules}
use Rattle.lk_found.specs.Addresses.{binary_address, cast_address, declared_address, name_address, prefix_address}
use Rattle.lk_found.specs.Judging.{Gives}
use Rattle.lk_found.proofs.GivenAddresses.{binary_gives, cast_gives, index_gives, name_gives, prefix_gives}

some_none : {A : Type 0} {a : A} → ◌≡◌ {A = Option A} None (Some a) → ⊥
some_none e = false≢true (ap is_some e)

pub same_some : {A : Type 0} {a b : A} → ◌≡◌ {A = Option A} (Some a) (Some b) → a ≡ b
same_some e = cc

pub target_is : (t u : Ty) → target_of t ≡ Some u → t ≡ Pointer u
target_is Void u e = absurd (some_none e)
target_is (Int k) u e = absurd (some_none e)
target_is ThreadId u e = absurd (some_none e)
target_is Mutex u e = absurd (some_none e)
target_is Cond u e = absurd (some_none e)
target_is (Pointer t) u e = ap Pointer (same_some e)
target_is (Array t n) u e = absurd (some_none e)
target_is (Struct s) u e = absurd (some_none e)
target_is (Function result params dots) u e = absurd (some_none e)
target_is (Opaque n) u e = absurd (some_none e)

-- ---- what is found of an expression, by its form

pub form_at : (p : InPlace) (f : ExprForm) (form : Layer) → p.1.form ≡ f → roll-ExprForm form ≡ f → form_of p ≡ placed expression name_in p.0 form
form_at p f form is rolls = ap (placed expression name_in p.0) (ap out-ExprForm (is ∙ sym rolls) ∙ out-roll-ExprForm form)

judged_by : InPlace → PlacedForm → Judged
judged_by p form =
    let found = each_part (found_at expression) (found_at name_in) form in
    record { typing = typing_of (rule (extend p.0 (additions_of found)) p.1.ordinal found); look = look_of p.0 found; adds = additions_of found }

judged_is : (p : InPlace) (form : PlacedForm) → form_of p ≡ form → expression p.1 p.0 ≡ judged_by p form
unfolding judged_by
judged_is p form is = expressions_follow_their_rules p.1 p.0 ∙ ap (judged_by p) is

ruled_as : (p : InPlace) (form : PlacedForm) (x : Typing) → form_of p ≡ form → typing_at p ≡ Some x → (judged_by p form).typing ≡ Some x
ruled_as p form x is own = sym (ap (λ (found : Judged). found.typing) (judged_is p form is)) ∙ own

with_some : (a : Option Typing) (says : Typing → Verdict) (x : Typing) → typing_of (with_one a says) ≡ Some x → (y : Typing) × (a ≡ Some y) × (typing_of (says y) ≡ Some x)
with_some None says x e = absurd (some_none e)
with_some (Some y) says x e = (y, refl, e)

with_some_type : (a : Option Ty) (says : Ty → Verdict) (x : Typing) → typing_of (with_type a says) ≡ Some x → (y : Ty) × (typing_of (says y) ≡ Some x)
with_some_type None says x e = absurd (some_none e)
with_some_type (Some y) says x e = (y, e)

given_by : (S : Typing → Type 0) (v : Verdict) (x : Typing) → typing_of v ≡ Some x → Gives S v → S x
given_by S (Typed y) x e h = subst S (same_some e) h
given_by S (Broken codes) x e h = absurd (some_none e)
given_by S Silent x e h = absurd (some_none e)

-- ---- the address by the form

-- of one operand, of which this is found
pub record OfOne (i : InPlace) (Says : Typing → Type 0) : Type 0 where
  pub operand : Typing
  pub found : typing_at i ≡ Some operand
  pub is : Says operand

-- of two
pub record OfTwo (l r : InPlace) (Says : Typing → Typing → Type 0) : Type 0 where
  pub left : Typing
  pub right : Typing
  pub left_found : typing_at l ≡ Some left
  pub right_found : typing_at r ≡ Some right
  pub is : Says left right

module _ (p : InPlace) (x : Typing) (own : typing_at p ≡ Some x) where
  pub word_address : (d : Declared) → StandsFor p d → x.address ≡ declared_address d d.meaning
  unfolding judged_by
  word_address d stands =
      let name = stands.0 in
      let env = extend p.0 nothing in
      let same : env ≡ p.0 = rw (append-nil p.0.declared) (rw (append-nil p.0.tags) refl) in
      let ruled = ruled_as p (ExprForm-F.Word name) x stands.1 own in
      given_by (λ x. x.address ≡ name_address (look_up env name)) (use_of_declared env name (look_up env name)) x ruled (name_gives env name (look_up env name)) ∙
      ap name_address (ap (λ e. look_up e name) same ∙ stands.2)

  pub text_address : (bytes : List ℕ) → form_of p ≡ ExprForm-F.Text bytes → x.address ≡ whole_of (AtText p.1.ordinal)
  unfolding judged_by
  text_address bytes form = sym (ap (λ (y : Typing). y.address) (same_some (ruled_as p (ExprForm-F.Text bytes) x form own)))

  pub paren_address : (i : InPlace) → form_of p ≡ ExprForm-F.Paren i → OfOne i (λ y. x.address ≡ y.address)
  unfolding judged_by
  paren_address i form =
      let some = with_some (typing_at i) Typed x (ruled_as p (ExprForm-F.Paren i) x form own) in
      record { operand = some.0; found = some.1; is = ap (λ (y : Typing). y.address) (sym (same_some some.2)) }

  pub prefix_address_is : (o : PrefixOperator) (i : InPlace) → form_of p ≡ ExprForm-F.Prefix o i → OfOne i (λ y. x.address ≡ prefix_address o y)
  unfolding judged_by
  prefix_address_is o i form =
      let some = with_some (typing_at i) _ x (ruled_as p (ExprForm-F.Prefix o i) x form own) in
      record { operand = some.0; found = some.1; is = given_by (λ x. x.address ≡ prefix_address o some.0) _ x some.2 (prefix_gives o some.0) }

  pub index_address : (l r : InPlace) → form_of p ≡ ExprForm-F.Index l r → OfTwo l r (λ y z. x.address ≡ moved (value y).address (value z).constant)
  unfolding judged_by
  index_address l r form =
      let first = with_some (typing_at l) _ x (ruled_as p (ExprForm-F.Index l r) x form own) in
      let second = with_some (typing_at r) _ x first.2 in
      record {
        left = first.0;
        right = second.0;
        left_found = first.1;
        right_found = second.1;
        is = given_by (λ x. x.address ≡ moved (value first.0).address (value second.0).constant) _ x second.2 (index_gives _ (value first.0) (value second.0));
      }

  pub binary_address_is : (o : BinaryOperator) (l r : InPlace) → form_of p ≡ ExprForm-F.Binary o l r → OfTwo l r (λ y z. x.address ≡ binary_address o (value y) (value z))
  unfolding judged_by
  binary_address_is o l r form =
      let first = with_some (typing_at l) _ x (ruled_as p (ExprForm-F.Binary o l r) x form own) in
      let second = with_some (typing_at r) _ x first.2 in
      record {
        left = first.0;
        right = second.0;
        left_found = first.1;
        right_found = second.1;
        is = given_by (λ x. x.address ≡ binary_address o (value first.0) (value second.0)) _ x second.2 (binary_gives _ o (value first.0) (value second.0));
      }

  pub cast_address_is : (n : Env × TypeName) (i : InPlace) → form_of p ≡ ExprForm-F.Cast n i → OfOne i (λ y. (target : Ty) × (x.address ≡ cast_address target (value y)))
  unfolding judged_by
  cast_address_is n i form =
      let target = with_some_type (type_named n) (λ target. with_one (typing_at i) (cast_rule target)) x (ruled_as p (ExprForm-F.Cast n i) x form own) in
      let some = with_some (typing_at i) (cast_rule target.0) x target.1 in
      record { operand = some.0; found = some.1; is = (target.0, given_by (λ x. x.address ≡ cast_address target.0 (value some.0)) (cast_rule target.0 some.0) x some.2 (cast_gives target.0 some.0)) }

-- ---- members

-- a member of the struct with the number s at an address, by its name
pub record IsMember (structs : List Members) (name : Name) (s : ℕ) (address : Address) (x : Typing) : Type 0 where
  pub fields : List Field
  pub known : members_of structs s ≡ Known fields
  pub is : x.address ≡ inside (member_at (number_of_field fields name)) address

field_address : (address : Address) (k : ℕ) (field : Option Field) (x : Typing) → typing_of (member_in address k field) ≡ Some x → x.address ≡ inside (member_at k) address
field_address address k None x e = absurd (some_none e)
field_address address k (Some field) x e = sym (ap (λ (y : Typing). y.address) (same_some e))

member_address : (code : Code) (address : Address) (name : Name) (structs : List Members) (s : ℕ) (x : Typing) (m : Members) → members_of structs s ≡ m →
    typing_of (member_of code address name m) ≡ Some x → IsMember structs name s address x
member_address code address name structs s x NotYet is e = absurd (some_none e)
member_address code address name structs s x Begun is e = absurd (some_none e)
member_address code address name structs s x (Known fields) is e =
    record { fields = fields; known = is; is = field_address address (number_of_field fields name) (field_of fields name) x e }
member_address code address name structs s x Faulty is e = absurd (some_none e)

placed_member : (place : Bool) (address : Address) (name : Name) (structs : List Members) (s : ℕ) (x : Typing) →
    typing_of (if place then member_of Mismatch address name (members_of structs s) else Broken (Mismatch ∷ [])) ≡ Some x → IsMember structs name s address x
placed_member true address name structs s x e = member_address Mismatch address name structs s x (members_of structs s) refl e
placed_member false address name structs s x e = absurd (some_none e)

dot_member : (structs : List Members) (name : Name) (s : ℕ) (x object : Typing) → object.type ≡ Struct s → typing_of (dot_rule structs object name) ≡ Some x → IsMember structs name s object.address x
dot_member structs name s x object is e =
    placed_member object.is_place object.address name structs s x (ap (λ t. typing_of (dot_of structs object name (struct_of t))) (sym is) ∙ e)

arrow_member : (structs : List Members) (name : Name) (s : ℕ) (x v : Typing) → v.type ≡ Pointer (Struct s) → typing_of (arrow_rule structs v name) ≡ Some x → IsMember structs name s v.address x
arrow_member structs name s x v is e =
    member_address Incomplete v.address name structs s x (members_of structs s) refl (ap (λ t. typing_of (arrow_of structs v name (target_of t))) (sym is) ∙ e)

-- the structs behind an expression
abbrev pub structs_behind : InPlace → List Members
structs_behind p = (extend p.0 (expression p.1 p.0).adds).structs

module _ (p i : InPlace) (name : Name) (x : Typing) (own : typing_at p ≡ Some x) where
  dot_typing : List Members → Option Typing → Option Typing
  dot_typing structs e = typing_of (with_one e (λ e. dot_rule structs e name))

  pub dot_address : form_of p ≡ ExprForm-F.Member i name → OfOne i (λ y. (s : ℕ) → y.type ≡ Struct s → IsMember (structs_behind p) name s y.address x)
  unfolding dot_typing judged_by
  dot_address form =
      let by = judged_is p (ExprForm-F.Member i name) form in
      let ruled : typing_at p ≡ dot_typing (structs_behind p) (typing_at i) =
      ap (λ (found : Judged). found.typing) by ∙ ap (λ adds. dot_typing (extend p.0 adds).structs (typing_at i)) (sym (ap (λ (found : Judged). found.adds) by)) in
      let some = with_some (typing_at i) (λ e. dot_rule (structs_behind p) e name) x (sym ruled ∙ own) in
      record { operand = some.0; found = some.1; is = λ s is. dot_member (structs_behind p) name s x some.0 is some.2 }

  arrow_typing : List Members → Option Typing → Option Typing
  arrow_typing structs e = typing_of (with_one e (λ e. arrow_rule structs (value e) name))

  pub arrow_address : form_of p ≡ ExprForm-F.Arrow i name → OfOne i (λ y. (s : ℕ) → (value y).type ≡ Pointer (Struct s) → IsMember (structs_behind p) name s (value y).address x)
  unfolding arrow_typing judged_by
  arrow_address form =
      let by = judged_is p (ExprForm-F.Arrow i name) form in
      let ruled : typing_at p ≡ arrow_typing (structs_behind p) (typing_at i) =
      ap (λ (found : Judged). found.typing) by ∙ ap (λ adds. arrow_typing (extend p.0 adds).structs (typing_at i)) (sym (ap (λ (found : Judged). found.adds) by)) in
      let some = with_some (typing_at i) (λ e. arrow_rule (structs_behind p) (value e) name) x (sym ruled ∙ own) in
      record { operand = some.0; found = some.1; is = λ s is. arrow_member (structs_behind p) name s x (value some.0) is some.2 }
