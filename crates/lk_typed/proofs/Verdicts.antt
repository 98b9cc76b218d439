-- From what the code computed to what it says: the verdict, and what holds of a typing.
use Rattle.std.proofs.Common.{◌≡◌, ◌∙◌, ◌++◌, Bool, List, [], ◌∷◌, Option, Some, None, refl, sym, ap, subst}
use Rattle.std.specs.Prelude.{is_some, IfSome}
use Rattle.lk_base.specs.declared.code.Code.{Code}
use Rattle.lk_types.specs.Table.{Table}
use Rattle.lk_typed.specs.declared.constant.Constant.{Constant}
use Rattle.lk_typed.specs.Codes.{lesser, least_code}
use Rattle.lk_typed.specs.Operators.{by_row}
use Rattle.lk_typed.specs.Ty.{Ty}
use Rattle.lk_typed.specs.Typing.{Typing, Address, Broken, unless}
use Rattle.lk_typed.specs.Typings.{typing, told_by_row, told_unless, ForEach, ForBoth, IsOperand, IsTyping, IsResult, IsVerdict}
use Rattle.lk_typed.specs.declared.typed.Typed.{Typed}
use Rattle.lk_typed.specs.declared.verdict.Verdict.{Verdict}
use Rattle.lk_typed.proofs.LeastCodes.{least_of_both}

some_least : (c : Code) (o : Option Code) → (code : Code) × (lesser (Some c) o ≡ Some code)
some_least c None = (c, refl)
some_least c (Some d) = (_, refl)

broken_row : (table : Table) (codes : List Code) (row : Option Typed) (o : Option Code) (code : Code) → least_code codes ≡ o → o ≡ Some code → IsVerdict table (told_by_row o row) (Broken codes)
broken_row table codes row o code is some = subst (λ o. least_code codes ≡ o → IsVerdict table (told_by_row o row) (Broken codes)) (sym some) (λ least. least) is

pub by_row_is : (table : Table) (codes : List Code) (row : Option Typed) (x : Option Typing) → IsResult table row x → IsVerdict table (told_by_row (least_code codes) row) (by_row codes x)
by_row_is table [] None None h = refl
by_row_is table [] None (Some x) h = absurd h
by_row_is table [] (Some t) None h = absurd h
by_row_is table [] (Some t) (Some x) h = h
by_row_is table (c ∷ codes) row None h = let s = some_least c (least_code codes) in broken_row table (c ∷ codes) row _ s.0 refl s.1
by_row_is table (c ∷ codes) row (Some x) h = let s = some_least c (least_code codes) in broken_row table (c ∷ codes) row _ s.0 refl s.1

pub both_least : {a b c : Option Code} (xs ys : List Code) → a ≡ least_code xs → b ≡ least_code ys → c ≡ lesser a b → c ≡ least_code (xs ++ ys)
both_least xs ys p q r = rw r (rw p (rw q (sym (least_of_both xs ys))))

pub row_verdict : (table : Table) {r : Verdict} {o : Option Code} (row : Option Typed) (codes : List Code) (x : Option Typing) →
    r ≡ told_by_row o row → o ≡ least_code codes → IsResult table row x → IsVerdict table r (by_row codes x)
row_verdict table {r} {o} row codes x is least h =
    subst (λ v. IsVerdict table v (by_row codes x)) (sym (is ∙ ap (λ o. told_by_row o row) least)) (by_row_is table codes row x h)

broken_else : (table : Table) (codes : List Code) (t : Typed) (o : Option Code) (code : Code) → least_code codes ≡ o → o ≡ Some code → IsVerdict table (told_unless o t) (Broken codes)
broken_else table codes t o code is some = subst (λ o. least_code codes ≡ o → IsVerdict table (told_unless o t) (Broken codes)) (sym some) (λ least. least) is

unless_is : (table : Table) (codes : List Code) (t : Typed) (x : Typing) → IsTyping table t x → IsVerdict table (told_unless (least_code codes) t) (unless codes x)
unless_is table [] t x h = h
unless_is table (c ∷ codes) t x h = let s = some_least c (least_code codes) in broken_else table (c ∷ codes) t _ s.0 refl s.1

pub unless_verdict : (table : Table) {r : Verdict} {o : Option Code} (t : Typed) (codes : List Code) (x : Typing) →
    r ≡ told_unless o t → o ≡ least_code codes → IsTyping table t x → IsVerdict table r (unless codes x)
unless_verdict table {r} {o} t codes x is least h =
    subst (λ v. IsVerdict table v (unless codes x)) (sym (is ∙ ap (λ o. told_unless o t) least)) (unless_is table codes t x h)

-- ---- what stands for a typing

same_typing : {t u : Ty} {p q n m : Bool} {c d : Constant} (address : Address) → t ≡ u → p ≡ q → c ≡ d → n ≡ m →
    ◌≡◌ {A = Typing} (record { type = t; is_place = p; constant = c; is_null = n; address = address }) (record { type = u; is_place = q; constant = d; is_null = m; address = address })
same_typing address a b c d = cc

-- a typing that stands for one is that one, with its address
typing_is : (table : Table) (t : Typed) (x : Typing) → IsTyping table t x → typing table t x.address ≡ x
typing_is table t x h = same_typing x.address h.type h.place h.constant h.null

-- what holds of a typing by what was said of what stands for it
pub then_each : (table : Table) (t : Typed) (x : Typing) (Says : Typing → Type 0) → IsTyping table t x → ForEach table t Says → Says x
then_each table t x Says h all = subst Says (typing_is table t x h) (all x.address)

pub then_both : (table : Table) (s t : Typed) (x y : Typing) (Says : Typing → Typing → Type 0) → IsTyping table s x → IsTyping table t y → ForBoth table s t Says → Says x y
then_both table s t x y Says g h all =
    subst (λ a. Says a y) (typing_is table s x g) (subst (λ b. Says (typing table s x.address) b) (typing_is table t y h) (all x.address y.address))

-- whether a result is there is the same in both
pub same_there : (table : Table) (row : Option Typed) (x : Option Typing) → IsResult table row x → is_some row ≡ is_some x
same_there table None None h = refl
same_there table None (Some x) h = absurd h
same_there table (Some t) None h = absurd h
same_there table (Some t) (Some x) h = refl

-- a result that is there is an operand
pub result_operand : (table : Table) (r : Option Typed) (x : Option Typing) → IsResult table r x → IfSome r (IsOperand table)
result_operand table None x h = tt
result_operand table (Some t) None h = absurd h
result_operand table (Some t) (Some x) h = h.operand
