-- What is known of an expression by what was found of its node.
use Rattle.std.proofs.Common.{◌≡◌, ◌∙◌, true, Option, Some, None, Result, Ok, Err, sym, ap, subst}
use Rattle.std.specs.Prelude.{is_some, IfOk, OnOk}
use Rattle.std.proofs.lemmas.Bool.{false≢true}
use Rattle.lk_types.specs.Table.{Table}
use Rattle.lk_typed.proofs.Verdicts.{then_each}
use Rattle.lk_typed.specs.Addresses.{value}
use Rattle.lk_typed.specs.Elaborated.{InPlace, typing_at}
use Rattle.lk_typed.specs.Ty.{Ty, Void, Int, ThreadId, Mutex, Cond, Pointer, Array, Struct, Function, Opaque, is_void, target_of}
use Rattle.lk_typed.specs.Typing.{Typing}
use Rattle.lk_typed.specs.Typings.{ForEach, IsTyping}
use Rattle.lk_typed.specs.declared.typed.Typed.{Typed}
use Rattle.lk_found.specs.Findings.{IsFoundTyping}
use Rattle.lk_found.specs.declared.found.Found.{Found}
use Rattle.lk_elaborator.specs.Known.{HasTyping, HasValue, IsFoundAt}

pub some_none : {A : Type 0} {a : A} → ◌≡◌ {A = Option A} None (Some a) → ⊥
some_none e = false≢true (ap is_some e)

pub same_some : {A : Type 0} {a b : A} → ◌≡◌ {A = Option A} (Some a) (Some b) → a ≡ b
same_some e = cc

with_typing : (table : Table) (p : InPlace) (f : Found) (t : Typed) (x : Option Typing) → typing_at p ≡ x → IsFoundTyping table f x → f.typing ≡ Some t → HasTyping table p t
with_typing table p f t None at is there = absurd (some_none (sym is ∙ there))
with_typing table p f t (Some x) at is there =
    record { typing = x; found = at; is = subst (λ t. IsTyping table t x) (same_some (sym is.1 ∙ there)) is.2 }

pub typing_has : (table : Table) (p : InPlace) (f : Found) (t : Typed) → IsFoundAt table p f → f.typing ≡ Some t → HasTyping table p t
typing_has table p f t is there = with_typing table p f t (typing_at p) refl is.typing there
  where
    refl : {A : Type 0} {a : A} → a ≡ a
    refl = cc

pub value_has : (table : Table) (p : InPlace) (t v : Typed) → HasTyping table p t → ForEach table t (λ x. IsTyping table v (value x)) → HasValue table p v
value_has table p t v has each = record { typing = has.typing; found = has.found; is = then_each table t has.typing (λ x. IsTyping table v (value x)) has.is each }

pub target_is : (t u : Ty) → target_of t ≡ Some u → t ≡ Pointer u
target_is Void u e = absurd (some_none e)
target_is (Int k) u e = absurd (some_none e)
target_is ThreadId u e = absurd (some_none e)
target_is Mutex u e = absurd (some_none e)
target_is Cond u e = absurd (some_none e)
target_is (Pointer t) u e = ap Pointer (same_some e)
target_is (Array t n) u e = absurd (some_none e)
target_is (Struct s) u e = absurd (some_none e)
target_is (Function result params dots) u e = absurd (some_none e)
target_is (Opaque n) u e = absurd (some_none e)

pub void_is : (t : Ty) → is_void t ≡ true → t ≡ Void
void_is Void e = cc
void_is (Int k) e = absurd (false≢true e)
void_is ThreadId e = absurd (false≢true e)
void_is Mutex e = absurd (false≢true e)
void_is Cond e = absurd (false≢true e)
void_is (Pointer t) e = absurd (false≢true e)
void_is (Array t n) e = absurd (false≢true e)
void_is (Struct s) e = absurd (false≢true e)
void_is (Function result params dots) e = absurd (false≢true e)
void_is (Opaque n) e = absurd (false≢true e)

-- what holds of a result, and what of it
pub both_ok : {T E : Type 0} (r : Result T E) (P : Type 0) (Q : T → Type 0) → OnOk r P → IfOk r Q → IfOk r (λ x. P × Q x)
both_ok (Ok x) P Q p q = (p, q)
both_ok (Err e) P Q p q = tt

pub on_ok : {T E : Type 0} (r : Result T E) (P Q : Type 0) → (P → Q) → OnOk r P → OnOk r Q
on_ok (Ok x) P Q to p = to p
on_ok (Err e) P Q to p = tt

pub always : {T E : Type 0} (r : Result T E) (Q : T → Type 0) → ((x : T) → Q x) → IfOk r Q
always (Ok x) Q each = each x
always (Err e) Q each = tt
