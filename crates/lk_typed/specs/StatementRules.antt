-- The rules of statements (C99 6.8). A type is missing where an expression has none; then
-- its statement breaks no rule.
use Rattle.std.specs.Prelude.{ℕ, ◌||◌, ◌++◌, Bool, true, false, not, Option, Some, None, List, [], ◌∷◌, is_some, map, option_map, if◌then◌else◌, ℤ}
use Rattle.std.specs.List.{list_any}
use Rattle.std.specs.Ordering.{int_eq}
use Rattle.lk_arith.specs.Conversions.{convert, promoted}
use Rattle.lk_base.specs.declared.code.Code.TheVariants.{Mismatch, NotConstant, BadLabel, MutexValue}
use Rattle.lk_base.specs.declared.kind.Kind.{Kind}
use Rattle.lk_typed.specs.DeclaratorRules.{of_type, unless}
use Rattle.lk_typed.specs.Env.{Name}
use Rattle.lk_typed.specs.Faults.{Breach, breach, breach_of}
use Rattle.lk_typed.specs.Labels.{Label, has_label, has_label_before}
use Rattle.lk_typed.specs.Statics.{is_known}
use Rattle.lk_typed.specs.Ty.{Ty, is_integer, is_lock, is_pointer, is_void}
use Rattle.lk_typed.specs.Typing.{known_value}
use Rattle.lk_typed.specs.declared.constant.Constant.{Constant}

-- ---- expressions in statements; the types are those of values, an array or function turned into a pointer (C99 6.3.2.1)

-- a controlling expression: 45 of a lock, 22 of what is neither an integer nor a
-- pointer (C99 6.8.4.1, 1; 6.8.5, 2)
abbrev pub condition_rules : Option Ty → List Breach
condition_rules value =
    of_type value (λ t. if is_lock t then breach MutexValue ∷ [] else unless (is_integer t || is_pointer t) Mismatch)

-- that of a switch: 22 of what is no integer (C99 6.8.4.2, 1)
abbrev pub switch_rules : Option Ty → List Breach
switch_rules value =
    of_type value (λ t. if is_lock t then breach MutexValue ∷ [] else unless (is_integer t) Mismatch)

-- an expression whose value is dropped: a statement, or the first or third part of a for (C99 6.8.3, 6.8.5.3)
abbrev pub dropped_rules : Option Ty → List Breach
dropped_rules value = of_type value (λ t. unless (not (is_lock t)) MutexValue)

-- what a return has: nothing, or a value whose conversion to the result breaks these rules
pub data Returned : Type 0 where
  Nothing : Returned
  Converted : List Breach → Returned

-- a return has a value exactly where the result isn't void (C99 6.8.6.4, 1)
abbrev pub return_rules : Option Ty → Returned → List Breach
return_rules result Nothing = of_type result (λ t. unless (is_void t) Mismatch)
return_rules result (Converted broken) =
    of_type result (λ t. if is_void t then breach Mismatch ∷ [] else broken)

-- ---- labels and jumps: 26

-- the value of a case, converted to the promoted type of the switch (C99 6.8.4.2, 5)
abbrev pub case_value : Option Kind → Option Constant → Option ℤ
case_value None value = None
case_value (Some k) None = None
case_value (Some k) (Some c) = option_map (convert (promoted k)) (known_value c)

-- the switch round a statement, as far as it stands before it
pub record Switch : Type 0 where
  -- the kind of its value, where that is an integer
  pub kind : Option Kind
  -- the values of its cases so far, missing where none is known
  pub values : List (Option ℤ)
  pub has_default : Bool

-- what stands round a statement in its function
pub record Around : Type 0 where
  pub labels : List Label
  pub in_loop : Bool
  -- the innermost one
  pub switch : Option Switch

abbrev pub in_switch : Around → Bool
in_switch around = is_some around.switch

-- `goto name` (C99 6.8.6.1, 1)
abbrev pub goto_rules : Around → Name → List Breach
goto_rules around name = if has_label around.labels name then [] else breach_of BadLabel name ∷ []

-- `name:` a second time in one function (C99 6.8.1, 3)
abbrev pub label_rules : Around → Name → ℕ → List Breach
label_rules around name n = if has_label_before around.labels name n then breach_of BadLabel name ∷ [] else []

-- `break` leaves a loop or a switch (C99 6.8.6.3, 1)
abbrev pub break_rules : Around → List Breach
break_rules around = unless (around.in_loop || in_switch around) BadLabel

-- `continue` goes on with a loop (C99 6.8.6.2, 1)
abbrev pub continue_rules : Around → List Breach
continue_rules around = unless around.in_loop BadLabel

abbrev pub are_equal : Option ℤ → Option ℤ → Bool
are_equal None b = false
are_equal (Some x) None = false
are_equal (Some x) (Some y) = int_eq x y

-- an earlier case of the switch has the same value
abbrev pub is_case_again : Switch → Option Constant → Bool
is_case_again s value = list_any (are_equal (case_value s.kind value)) s.values

-- the value of a case is constant: 24 (C99 6.8.4.2, 3)
abbrev pub constant_rules : Option Constant → List Breach
constant_rules None = []
constant_rules (Some c) = unless (is_known c) NotConstant

-- `case value:` stands in a switch, and no second time with one value (C99 6.8.1, 2; 6.8.4.2, 3)
abbrev pub place_rules : Option Switch → Option Constant → List Breach
place_rules None value = breach BadLabel ∷ []
place_rules (Some s) value = unless (not (is_case_again s value)) BadLabel

abbrev pub case_rules : Around → Option Constant → List Breach
case_rules around value = constant_rules value ++ place_rules around.switch value

abbrev pub default_in : Option Switch → List Breach
default_in None = breach BadLabel ∷ []
default_in (Some s) = unless (not s.has_default) BadLabel

-- `default:` stands in a switch, and once
abbrev pub default_rules : Around → List Breach
default_rules around = default_in around.switch

abbrev pub in_function : List Label → Around
in_function labels = record { labels = labels; in_loop = false; switch = None }

abbrev pub in_body_of_loop : Around → Around
in_body_of_loop around = record around { in_loop = true }

-- with the kind of its value
abbrev pub in_body_of_switch : Around → Option Kind → Around
in_body_of_switch around kind =
    record around { switch = Some (record { kind = kind; values = []; has_default = false }) }

-- behind more cases of the switch, and perhaps a default
abbrev pub with_cases : List (Option Constant) → Bool → Switch → Switch
with_cases values has_default s =
    record s { values = s.values ++ map (case_value s.kind) values; has_default = s.has_default || has_default }

abbrev pub behind_cases : Around → List (Option Constant) → Bool → Around
behind_cases around values has_default =
    record around { switch = option_map (with_cases values has_default) around.switch }
