-- What a rule says, from what was found of the parts.
use Rattle.std.proofs.Common.{◌≡◌, ◌∙◌, Option, Some, None, ℕ, sym, ap, subst}
use Rattle.std.specs.Prelude.{is_some, option_map, unwrap_or}
use Rattle.std.proofs.lemmas.Bool.{false≢true}
use Rattle.lk_types.specs.Table.{Table}
use Rattle.lk_typed.specs.Addresses.{inside, member_at, value}
use Rattle.lk_typed.specs.Meaning.{meaning}
use Rattle.lk_typed.specs.Ty.{Ty}
use Rattle.lk_typed.specs.Typing as spec
use Rattle.lk_typed.specs.Typing.{Typing, with_one, with_two, with_type}
use Rattle.lk_typed.specs.Typings.{ForEach, IsTyping, IsVerdict}
use Rattle.lk_typed.specs.declared.typed.Typed.{Typed}
use Rattle.lk_typed.specs.declared.verdict.Verdict.{Verdict}
use Rattle.lk_typed.proofs.Verdicts.{then_each}
use Rattle.lk_found.specs.Addresses.{kept_of}
use Rattle.lk_found.specs.Judging.{Gives, IsPart, IsRuled}
use Rattle.lk_found.specs.Findings.{IsFoundTyping}
use Rattle.lk_found.specs.declared.addresses.Address.{Address}
use Rattle.lk_found.specs.declared.addresses.Address.TheVariants.{NotAddress}
use Rattle.lk_found.specs.declared.found.Found.{Found}
use Rattle.lk_found.specs.declared.ruled.Ruled.{Ruled}
use Rattle.lk_found.proofs.GivenAddresses.{IsMemberAt, IsPlain, gives_more}

some_none : {A : Type 0} {a : A} → ◌≡◌ {A = Option A} (Some a) None → ⊥
some_none e = false≢true (sym (ap is_some e))

-- the value of an operand stands for the value of its typing
pub valued : (table : Table) (t : Typed) (x : Typing) (v : Typed) → ForEach table t (λ x. IsTyping table v (value x)) → IsTyping table t x → IsTyping table v (value x)
valued table t x v each h = then_each table t x (λ x. IsTyping table v (value x)) h each

-- a verdict on what is no address constant
pub plainly : (table : Table) (verdict : Verdict) (ruled : Ruled) (v : spec.Verdict) → ruled.verdict ≡ verdict → ruled.address ≡ NotAddress → IsVerdict table verdict v → Gives IsPlain v →
    IsRuled table ruled v
plainly table verdict ruled v e a is plain =
    record {
      verdict = subst (λ verdict. IsVerdict table verdict v) (sym e) is;
      address = gives_more {S = IsPlain} {T = λ x. ruled.address ≡ kept_of x.address} v (λ x p. a ∙ ap kept_of (sym p)) plain;
    }

-- a verdict on what is at an address
pub addressed : (table : Table) (verdict : Verdict) (address : Address) (v : spec.Verdict) (at : spec.Address) → IsVerdict table verdict v → Gives (λ x. x.address ≡ at) v → address ≡ kept_of at →
    IsRuled table (record { verdict = verdict; address = address }) v
addressed table verdict address v at is gives e =
    record { verdict = is; address = gives_more {S = λ x. x.address ≡ at} {T = λ x. address ≡ kept_of x.address} v (λ x p. e ∙ ap kept_of (sym p)) gives }

-- a verdict on a member of what is at an address
pub membered : (table : Table) (verdict : Verdict) (address : Address) (v : spec.Verdict) (at : spec.Address) → IsVerdict table verdict v → Gives (IsMemberAt at) v →
    ((k : ℕ) → address ≡ kept_of (inside (member_at k) at)) → IsRuled table (record { verdict = verdict; address = address }) v
membered table verdict address v at is gives each =
    record { verdict = is; address = gives_more {S = IsMemberAt at} {T = λ x. address ≡ kept_of x.address} v (λ x p. each p.number ∙ ap kept_of (sym p.is)) gives }

-- ---- parts with types, and without

pub part_of : (table : Table) (a : Found) (s : Typed) (u : Typing) → a.typing ≡ Some s → IsFoundTyping table a (Some u) → IsPart table s a.address u
part_of table a s u e h = record { typing = subst (λ t. IsTyping table t u) (ap (λ o. unwrap_or o s) (sym h.1 ∙ e)) h.2; address = h.3 }

pub one_some : (table : Table) (a : Found) (s : Typed) (x : Option Typing) (r : Ruled) (rule : Typing → spec.Verdict) → a.typing ≡ Some s → IsFoundTyping table a x →
    ((u : Typing) → IsPart table s a.address u → IsRuled table r (rule u)) → IsRuled table r (with_one x rule)
one_some table a s None r rule e h f = absurd (some_none (sym e ∙ h))
one_some table a s (Some u) r rule e h f = f u (part_of table a s u e h)

pub two_some : (table : Table) (a b : Found) (s t : Typed) (x y : Option Typing) (r : Ruled) (rule : Typing → Typing → spec.Verdict) → a.typing ≡ Some s → b.typing ≡ Some t →
    IsFoundTyping table a x → IsFoundTyping table b y → ((u v : Typing) → IsPart table s a.address u → IsPart table t b.address v → IsRuled table r (rule u v)) →
    IsRuled table r (with_two x y rule)
two_some table a b s t x y r rule e d g h f =
    one_some table a s x r (λ u. with_one y (rule u)) e g (λ u p. one_some table b t y r (rule u) d h (λ v q. f u v p q))

pub none_one : (table : Table) (a : Found) (x : Option Typing) (r : Ruled) (rule : Typing → spec.Verdict) → ((table : Table) → IsRuled table r spec.Silent) → a.typing ≡ None → IsFoundTyping table a x →
    IsRuled table r (with_one x rule)
none_one table a None r rule silent e h = silent table
none_one table a (Some u) r rule silent e h = absurd (some_none (sym h.1 ∙ e))

pub none_second : (table : Table) (b : Found) (x y : Option Typing) (r : Ruled) (rule : Typing → Typing → spec.Verdict) → ((table : Table) → IsRuled table r spec.Silent) → b.typing ≡ None →
    IsFoundTyping table b y → IsRuled table r (with_two x y rule)
none_second table b None y r rule silent e h = silent table
none_second table b (Some u) y r rule silent e h = none_one table b y r (rule u) silent e h

pub type_some : (table : Table) (o : Option ℕ) (n : ℕ) (t : Option Ty) (r : Ruled) (rule : Ty → spec.Verdict) → o ≡ Some n → option_map (meaning table) o ≡ t → IsRuled table r (rule (meaning table n)) →
    IsRuled table r (with_type t rule)
type_some table o n t r rule e h is = subst (λ t. IsRuled table r (with_type t rule)) (ap (option_map (meaning table)) (sym e) ∙ h) is

pub type_none : (table : Table) (o : Option ℕ) (t : Option Ty) (r : Ruled) (rule : Ty → spec.Verdict) → ((table : Table) → IsRuled table r spec.Silent) → o ≡ None → option_map (meaning table) o ≡ t →
    IsRuled table r (with_type t rule)
type_none table o t r rule silent e h = subst (λ t. IsRuled table r (with_type t rule)) (ap (option_map (meaning table)) (sym e) ∙ h) (silent table)
