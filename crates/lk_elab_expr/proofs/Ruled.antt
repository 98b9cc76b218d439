-- What the rule of a form says of an expression that has a typing (C99 6.5.2.3, 6.5.3.4).
use Rattle.std.proofs.Common.{◌≡◌, ◌∙◌, Bool, true, false, List, Option, Some, None, [], ◌∷◌, ℕ, refl, sym, ap}
use Rattle.std.specs.Prelude.{if◌then◌else◌, pos}
use Rattle.lk_base.specs.declared.code.Code.{Code}
use Rattle.lk_base.specs.declared.code.Code.TheVariants.{Mismatch, Incomplete}
use Rattle.lk_base.specs.declared.kind.Kind.TheVariants as kind
use Rattle.lk_tree.specs.declared.expression.DeclaratorForm.TheOpen.{ExprForm-F}
use Rattle.lk_tree.specs.declared.expression.TypeName.{TypeName}
use Rattle.lk_typed.specs.Addresses.{value}
use Rattle.lk_typed.specs.Elaborated.{InPlace, PlacedForm, form_of, members_behind, name_in, type_named, typing_at}
use Rattle.lk_typed.specs.Env.{Env, Field, Members, NotYet, Begun, Known, Faulty, Name, extend, members_of}
use Rattle.lk_typed.specs.ExprRules.{additions_of, look_of, rule}
use Rattle.lk_typed.specs.Expressions.{expression}
use Rattle.lk_typed.specs.Forms.{each_part, found_at}
use Rattle.lk_typed.specs.Places.{arrow_of, arrow_rule, dot_of, dot_rule, member_of, sizeof_codes, sizeof_rule}
use Rattle.lk_typed.specs.Sizes.{bytes_in, constant_of_bytes, is_broken}
use Rattle.lk_typed.specs.Ty.{Ty, Pointer, Struct, struct_of, target_of}
use Rattle.lk_typed.specs.Typing.{Typing, Address, Judged, Silent, Verdict, integer, typing_of, unless, with_one, with_type}
use Rattle.lk_typed.specs.declared.constant.Constant.{Constant}
use Rattle.lk_typed.specs.declared.constant.Constant.TheVariants as constant
use Rattle.lk_rules.proofs.Found.{expressions_follow_their_rules}
use Rattle.lk_elaborator.proofs.Knowing.{same_some, some_none}

-- what is found by a form in its place
abbrev pub judged_by : InPlace → PlacedForm → Judged
judged_by p form =
    let found = each_part (found_at expression) (found_at name_in) form in
    record { typing = typing_of (rule (extend p.0 (additions_of found)) p.1.ordinal found); look = look_of p.0 found; adds = additions_of found }

pub judged_is : (p : InPlace) (form : PlacedForm) → form_of p ≡ form → expression p.1 p.0 ≡ judged_by p form
judged_is p form is = expressions_follow_their_rules p.1 p.0 ∙ ap (judged_by p) is

-- ---- members

abbrev HasMembers : List Members → ℕ → Type 0
HasMembers structs s = (fields : List Field) × (members_of structs s ≡ Known fields)

member_known : (code : Code) (address : Address) (name : Name) (structs : List Members) (s : ℕ) (x : Typing) (m : Members) → members_of structs s ≡ m →
    typing_of (member_of code address name m) ≡ Some x → HasMembers structs s
member_known code address name structs s x NotYet is e = absurd (some_none e)
member_known code address name structs s x Begun is e = absurd (some_none e)
member_known code address name structs s x (Known fields) is e = (fields, is)
member_known code address name structs s x Faulty is e = absurd (some_none e)

placed_known : (place : Bool) (address : Address) (name : Name) (structs : List Members) (s : ℕ) (x : Typing) →
    typing_of (if place then member_of Mismatch address name (members_of structs s) else dot_of structs x name None) ≡ Some x → HasMembers structs s
placed_known true address name structs s x e = member_known Mismatch address name structs s x (members_of structs s) refl e
placed_known false address name structs s x e = absurd (some_none e)

dot_known : (structs : List Members) (name : Name) (s : ℕ) (x object : Typing) → object.type ≡ Struct s → typing_of (dot_rule structs object name) ≡ Some x → HasMembers structs s
dot_known structs name s x object is e =
    placed_known object.is_place object.address name structs s x (ap (λ t. typing_of (dot_of structs object name (struct_of t))) (sym is) ∙ e)

target_known : (structs : List Members) (name : Name) (s : ℕ) (x v : Typing) (t : Ty) → v.type ≡ Pointer (Struct s) → typing_of (arrow_rule structs v name) ≡ Some x → HasMembers structs s
target_known structs name s x v t is e =
    member_known Incomplete v.address name structs s x (members_of structs s) refl (ap (λ t. typing_of (arrow_of structs v name (target_of t))) (sym is) ∙ e)

module _ (p i : InPlace) (name : Name) (s : ℕ) (x object : Typing) where
  dot_typing : List Members → Option Typing → Option Typing
  dot_typing structs e = typing_of (with_one e (λ e. dot_rule structs e name))

  pub dot_members : form_of p ≡ ExprForm-F.Member i name → typing_at p ≡ Some x → typing_at i ≡ Some object → object.type ≡ Struct s → (fields : List Field) × (members_behind p s ≡ Known fields)
  unfolding dot_typing
  dot_members form own at is =
      let by = judged_is p (ExprForm-F.Member i name) form in
      let added = ap (λ (found : Judged). found.adds) by in
      let ruled : typing_at p ≡ dot_typing (extend p.0 (expression p.1 p.0).adds).structs (typing_at i) =
      ap (λ (found : Judged). found.typing) by ∙ ap (λ adds. dot_typing (extend p.0 adds).structs (typing_at i)) (sym added) in
      dot_known (extend p.0 (expression p.1 p.0).adds).structs name s x object is (sym (ruled ∙ ap (dot_typing (extend p.0 (expression p.1 p.0).adds).structs) at) ∙ own)

  arrow_typing : List Members → Option Typing → Option Typing
  arrow_typing structs e = typing_of (with_one e (λ e. arrow_rule structs (value e) name))

  pub arrow_members : form_of p ≡ ExprForm-F.Arrow i name → typing_at p ≡ Some x → typing_at i ≡ Some object → (value object).type ≡ Pointer (Struct s) →
      (fields : List Field) × (members_behind p s ≡ Known fields)
  unfolding arrow_typing
  arrow_members form own at is =
      let by = judged_is p (ExprForm-F.Arrow i name) form in
      let added = ap (λ (found : Judged). found.adds) by in
      let ruled : typing_at p ≡ arrow_typing (extend p.0 (expression p.1 p.0).adds).structs (typing_at i) =
      ap (λ (found : Judged). found.typing) by ∙ ap (λ adds. arrow_typing (extend p.0 adds).structs (typing_at i)) (sym added) in
      target_known (extend p.0 (expression p.1 p.0).adds).structs name s x (value object) (value object).type is
      (sym (ruled ∙ ap (arrow_typing (extend p.0 (expression p.1 p.0).adds).structs) at) ∙ own)

-- ---- sizes

constant_bytes : (n : ℕ) (bytes : Option ℕ) → constant_of_bytes bytes ≡ constant.Known (pos n) → bytes ≡ Some n
constant_bytes n None e = absurd (some_none (ap known e))
  where
    known : Constant → Option ℕ
    known constant.NotConstant = None
    known constant.Undefined = None
    known (constant.Known z) = Some 0
constant_bytes n (Some m) e = ap Some (same e)
  where
    same : constant.Known (pos m) ≡ constant.Known (pos n) → m ≡ n
    same e = cc

unless_typing : (codes : List Code) (x y : Typing) → typing_of (unless codes y) ≡ Some x → y ≡ x
unless_typing [] x y e = same_some e
unless_typing (code ∷ others) x y e = absurd (some_none e)

size_typing : (broken : Bool) (codes : List Code) (x y : Typing) → typing_of (if broken then Silent else unless codes y) ≡ Some x → y ≡ x
size_typing true codes x y e = absurd (some_none e)
size_typing false codes x y e = unless_typing codes x y e

-- a sizeof that counts so many bytes
size_known : (structs : List Members) (in_size : Bool) (t : Ty) (x : Typing) (n : ℕ) → typing_of (sizeof_rule structs in_size t) ≡ Some x → x.constant ≡ constant.Known (pos n) → bytes_in t ≡ Some n
size_known structs in_size t x n e is =
    constant_bytes n (bytes_in t) (ap (λ y. y.constant) (size_typing (is_broken structs t) (sizeof_codes structs in_size t) x (integer kind.ULong (constant_of_bytes (bytes_in t))) e) ∙ is)

with_some : (a : Option Typing) (says : Typing → Verdict) (x : Typing) → typing_of (with_one a says) ≡ Some x → (y : Typing) × (a ≡ Some y) × (typing_of (says y) ≡ Some x)
with_some None says x e = absurd (some_none e)
with_some (Some y) says x e = (y, refl, e)

with_some_type : (a : Option Ty) (says : Ty → Verdict) (x : Typing) → typing_of (with_type a says) ≡ Some x → (y : Ty) × (a ≡ Some y) × (typing_of (says y) ≡ Some x)
with_some_type None says x e = absurd (some_none e)
with_some_type (Some y) says x e = (y, refl, e)

module _ (p : InPlace) (x : Typing) (n : ℕ) (own : typing_at p ≡ Some x) (is : x.constant ≡ constant.Known (pos n)) where
  pub size_of_expression : (i : InPlace) → form_of p ≡ ExprForm-F.SizeofExpr i → (a : Typing) × (typing_at i ≡ Some a) × (bytes_in a.type ≡ Some n)
  size_of_expression i form =
      let by = judged_is p (ExprForm-F.SizeofExpr i) form in
      let some = with_some (typing_at i) _ x (sym (ap (λ (found : Judged). found.typing) by) ∙ own) in
      (some.0, some.1, size_known _ _ some.0.type x n some.2 is)

  pub size_of_type : (name : Env × TypeName) → form_of p ≡ ExprForm-F.SizeofType name → (t : Ty) × (type_named name ≡ Some t) × (bytes_in t ≡ Some n)
  size_of_type name form =
      let by = judged_is p (ExprForm-F.SizeofType name) form in
      let some = with_some_type (type_named name) _ x (sym (ap (λ (found : Judged). found.typing) by) ∙ own) in
      (some.0, some.1, size_known _ _ some.0 x n some.2 is)
