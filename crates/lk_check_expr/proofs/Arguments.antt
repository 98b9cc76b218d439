-- The arguments of a call, one by one from the last on.
use Rattle.std.proofs.Common.{◌≡◌, ◌∙◌, ◌<◌, ◌++◌, ℕ, zero, suc, Bool, true, false, List, [], ◌∷◌, Option, Some, None, length, map, drop, refl, sym, ap, subst, arith}
use Rattle.std.specs.Prelude.{◌&&◌, ◌||◌, IfSome, is_some, not}
use Rattle.std.specs.List.{slice_get}
use Rattle.std.proofs.lemmas.Bool.{false≢true}
use Rattle.std.proofs.lemmas.Option.{none-some, same_Some}
use Rattle.lk_base.specs.declared.code.Code.{Code}
use Rattle.lk_base.specs.declared.code.Code.TheVariants.{Mismatch, AllocShape}
use Rattle.lk_types.specs.Table.{Table}
use Rattle.lk_typed.specs.Assignments.{given_codes}
use Rattle.lk_typed.specs.Calls as spec
use Rattle.lk_typed.specs.Codes.{least_code}
use Rattle.lk_typed.specs.Env.{Env, Role}
use Rattle.lk_typed.specs.Library as rows
use Rattle.lk_typed.specs.Meaning.{meaning, meaning_of}
use Rattle.lk_typed.specs.Ty.{Ty, Signature, holds_of, is_function, list_of, types_of, size_type}
use Rattle.lk_typed.specs.Typing.{if_so}
use Rattle.lk_typed.specs.declared.typed.ExprType.{ExprType}
use Rattle.lk_check_expr.specs.Arguments.{AreArguments, ArePassedBy, IsArgument, IsKnownPasses, IsKnownPassing, IsPassedAt, null_codes, passed_codes, routine_codes, size_by}
use Rattle.lk_check_expr.specs.Functions.{IsPassing, parameter_in}
use Rattle.lk_check_expr.specs.declared.calls.Argument.{Argument}
use Rattle.lk_check_expr.specs.declared.calls.Passes.{Passes}
use Rattle.lk_check_expr.specs.declared.calls.Passes.TheVariants as passes
use Rattle.lk_check_expr.specs.declared.library.Passing.{Passing}
use Rattle.lk_check_expr.specs.declared.library.Passing.TheVariants.{Converted, NullFor, Routine, Size}

drop_nil : {A : Type 0} (n : ℕ) → drop {A = A} n [] ≡ []
drop_nil zero = refl
drop_nil (suc n) = refl

module _ (env : Env) (dots : Bool) where
  abbrev pub codes_from : List rows.Passing → List spec.Argument → ℕ → Type 0
  codes_from ps xs n = spec.arguments_codes env dots (drop n ps) (drop n xs) ≡ if_so (is_some (slice_get ps n)) Mismatch

  -- an argument with the codes of those behind it
  pub arguments_at : (ps : List rows.Passing) (xs : List spec.Argument) (i : ℕ) (x : spec.Argument) → slice_get xs i ≡ Some x →
      spec.arguments_codes env dots (drop i ps) (drop i xs) ≡ passed_codes env dots (slice_get ps i) x ++ spec.arguments_codes env dots (drop (suc i) ps) (drop (suc i) xs)
  arguments_at ps [] i x got = absurd (none-some x got)
  arguments_at [] (y ∷ xs) zero x got = ap (λ z. passed_codes env dots None z ++ spec.arguments_codes env dots [] xs) (same_Some y x got)
  arguments_at (p ∷ ps) (y ∷ xs) zero x got = ap (λ z. spec.argument_codes env p z ++ spec.arguments_codes env dots ps xs) (same_Some y x got)
  arguments_at [] (y ∷ xs) (suc i) x got =
      subst (λ l. spec.arguments_codes env dots l (drop i xs) ≡ passed_codes env dots None x ++ spec.arguments_codes env dots [] (drop (suc i) xs)) (drop_nil i) (arguments_at [] xs i x got)
  arguments_at (p ∷ ps) (y ∷ xs) (suc i) x got = arguments_at ps xs i x got

  -- behind the last argument a parameter may be left
  pub arguments_end : (ps : List rows.Passing) (xs : List spec.Argument) → codes_from ps xs (length xs)
  arguments_end [] [] = refl
  arguments_end (p ∷ ps) [] = refl
  arguments_end [] (x ∷ xs) =
      subst (λ l. spec.arguments_codes env dots l (drop (length xs) xs) ≡ []) (drop_nil (length xs)) (arguments_end [] xs)
  arguments_end (p ∷ ps) (x ∷ xs) = arguments_end ps xs

pub same_passed : (table : Table) (pass : Option Passing) (p : Option rows.Passing) → IsPassedAt table pass p → is_some pass ≡ is_some p
same_passed table None None h = refl
same_passed table None (Some p) h = absurd h
same_passed table (Some pass) None h = absurd h
same_passed table (Some pass) (Some p) h = refl

-- there is an element with an index
pub some_at : {A : Type 0} (xs : List A) (i : ℕ) → i < length xs → (x : A) × (slice_get xs i ≡ Some x)
some_at [] i below = absurd (omega (arith, below))
some_at (x ∷ xs) zero below = (x, refl)
some_at (x ∷ xs) (suc i) below = some_at xs i (omega (arith, below))

-- ---- what a call asks beside

module _ (table : Table) (env : Env) (role : Role) where
  pub format_first : (arguments : List Argument) (xs : List spec.Argument) (a : Argument) → AreArguments table env arguments xs → slice_get arguments 0 ≡ Some a →
      least_code (if_so (not a.look.is_format) Mismatch) ≡ least_code (spec.asked role rows.AFormat xs)
  format_first [] xs a are got = absurd (none-some a got)
  format_first (b ∷ arguments) [] a are got = absurd (omega (arith, are.count))
  format_first (b ∷ arguments) (x ∷ xs) a are got = ap (λ is. least_code (if_so (not is) Mismatch)) (sym (are.each 0 a x got refl).look.format)

  pub format_none : (arguments : List Argument) (xs : List spec.Argument) → AreArguments table env arguments xs → slice_get arguments 0 ≡ None → None ≡ least_code (spec.asked role rows.AFormat xs)
  format_none arguments [] are got = refl
  format_none [] (x ∷ xs) are got = absurd (omega (arith, are.count))
  format_none (b ∷ arguments) (x ∷ xs) are got = absurd (none-some b (sym got))

  pub size_first : (counted : Bool) → spec.counts_bytes role ≡ counted → (arguments : List Argument) (xs : List spec.Argument) (a : Argument) → AreArguments table env arguments xs →
      slice_get arguments 0 ≡ Some a → least_code (if_so (not (size_by a.look counted)) AllocShape) ≡ least_code (spec.asked role rows.ASize xs)
  size_first counted by [] xs a are got = absurd (none-some a got)
  size_first counted by (b ∷ arguments) [] a are got = absurd (omega (arith, are.count))
  size_first counted by (b ∷ arguments) (x ∷ xs) a are got =
      let look = (are.each 0 a x got refl).look in
      ap (λ is. least_code (if_so (not (is || a.look.is_product || not a.look.holds_sizeof && counted)) AllocShape)) (sym look.is_sizeof) ∙
      ap (λ is. least_code (if_so (not (x.look.is_sizeof || is || not a.look.holds_sizeof && counted)) AllocShape)) (sym look.is_product) ∙
      ap (λ is. least_code (if_so (not (x.look.is_sizeof || x.look.is_product || not is && counted)) AllocShape)) (sym look.holds_sizeof) ∙
      ap (λ is. least_code (if_so (not (x.look.is_sizeof || x.look.is_product || not x.look.holds_sizeof && is)) AllocShape)) (sym by)

  pub size_none : (arguments : List Argument) (xs : List spec.Argument) → AreArguments table env arguments xs → slice_get arguments 0 ≡ None → None ≡ least_code (spec.asked role rows.ASize xs)
  size_none arguments [] are got = refl
  size_none [] (x ∷ xs) are got = absurd (omega (arith, are.count))
  size_none (b ∷ arguments) (x ∷ xs) are got = absurd (none-some b (sym got))

  pub element_second : (arguments : List Argument) (xs : List spec.Argument) (a : Argument) → AreArguments table env arguments xs → slice_get arguments 1 ≡ Some a →
      least_code (if_so (not a.look.is_sizeof) AllocShape) ≡ least_code (spec.asked role rows.AnElementSize xs)
  element_second [] xs a are got = absurd (none-some a got)
  element_second (b ∷ []) xs a are got = absurd (none-some a got)
  element_second (b ∷ d ∷ arguments) [] a are got = absurd (omega (arith, are.count))
  element_second (b ∷ d ∷ arguments) (x ∷ []) a are got = absurd (omega (arith, are.count))
  element_second (b ∷ d ∷ arguments) (x ∷ y ∷ xs) a are got = ap (λ is. least_code (if_so (not is) AllocShape)) (sym (are.each 1 a y got refl).look.is_sizeof)

  pub element_none : (arguments : List Argument) (xs : List spec.Argument) → AreArguments table env arguments xs → slice_get arguments 1 ≡ None → None ≡ least_code (spec.asked role rows.AnElementSize xs)
  element_none arguments [] are got = refl
  element_none arguments (x ∷ []) are got = refl
  element_none [] (x ∷ y ∷ xs) are got = absurd (omega (arith, are.count))
  element_none (b ∷ []) (x ∷ y ∷ xs) are got = absurd (omega (arith, are.count))
  element_none (b ∷ d ∷ arguments) (x ∷ y ∷ xs) are got = absurd (none-some d (sym got))

-- ---- one argument, by how it is passed

module _ (table : Table) (env : Env) {r : Option Code} where
  pub converted_told : (t : ExprType) (p : rows.Passing) (x : spec.Argument) → IsPassing table (Converted t) p → r ≡ least_code (given_codes (meaning_of table t) x.typing) →
      r ≡ least_code (spec.argument_codes env p x)
  converted_told t (rows.Converted u) x pass is = is ∙ ap (λ u. least_code (given_codes u x.typing)) pass.1
  converted_told t (rows.NullFor u code) x pass is = absurd pass
  converted_told t rows.Routine x pass is = absurd pass
  converted_told t rows.Size x pass is = absurd pass

  pub null_told : (code : Code) (p : rows.Passing) (x : spec.Argument) → IsPassing table (NullFor code) p → r ≡ least_code (null_codes code x.typing) → r ≡ least_code (spec.argument_codes env p x)
  null_told code (rows.Converted u) x pass is = absurd pass
  null_told code (rows.NullFor u other) x pass is = is ∙ ap (λ code. least_code (null_codes code x.typing)) pass
  null_told code rows.Routine x pass is = absurd pass
  null_told code rows.Size x pass is = absurd pass

  pub routine_told : (a : Argument) (p : rows.Passing) (x : spec.Argument) → IsPassing table Routine p → IsArgument table env a x → r ≡ least_code (routine_codes a.look.is_routine x.typing) →
      r ≡ least_code (spec.argument_codes env p x)
  routine_told a (rows.Converted u) x pass same is = absurd pass
  routine_told a (rows.NullFor u other) x pass same is = absurd pass
  routine_told a rows.Routine x pass same is = is ∙ ap (λ named. least_code (routine_codes named x.typing)) (sym same.look.routine)
  routine_told a rows.Size x pass same is = absurd pass

  pub size_told : (p : rows.Passing) (x : spec.Argument) → IsPassing table Size p → r ≡ least_code (given_codes size_type x.typing) → r ≡ least_code (spec.argument_codes env p x)
  size_told (rows.Converted u) x pass is = absurd pass
  size_told (rows.NullFor u other) x pass is = absurd pass
  size_told rows.Routine x pass is = absurd pass
  size_told rows.Size x pass is = is

  pub passed_some : (dots : Bool) (pass : Passing) (p : Option rows.Passing) (x : spec.Argument) → IsPassedAt table (Some pass) p →
      ((q : rows.Passing) → IsPassing table pass q → r ≡ least_code (spec.argument_codes env q x)) → r ≡ least_code (passed_codes env dots p x)
  passed_some dots pass None x h is = absurd h
  passed_some dots pass (Some q) x h is = is q h

  pub passed_none : (dots : Bool) (p : Option rows.Passing) (x : spec.Argument) → IsPassedAt table None p → r ≡ least_code (passed_codes env dots None x) → r ≡ least_code (passed_codes env dots p x)
  passed_none dots None x h is = is
  passed_none dots (Some q) x h is = absurd h

-- ---- all of them

-- the rule of each parameter of a function that is none of the library's
pub parameters_passed : (m : ℕ → Ty) (ts : List ℕ) → map (λ t. rows.Converted (m t)) ts ≡ map rows.Converted (list_of (types_of (map m ts)))
parameters_passed m [] = refl
parameters_passed m (t ∷ ts) = ap (λ ps. rows.Converted (m t) ∷ ps) (parameters_passed m ts)

pub row_passes : (o : Option rows.LibraryFunction) (s : Option Signature) → is_some o ≡ true → spec.passes_by o None ≡ spec.passes_by o s
row_passes None s there = absurd (false≢true there)
row_passes (Some row) s there = refl

-- where there is no signature there is no pointer to a function
pub no_signature : (target : Option Ty) → spec.signature_at target ≡ None → holds_of target is_function ≡ false
no_signature None e = refl
no_signature (Some t) e = ap is_some e

-- ---- what is passed is known

pub passing_known : (table : Table) (pass : Passing) (p : rows.Passing) → IsPassing table pass p → IsKnownPassing table pass
passing_known table (Converted t) (rows.Converted u) h = h.0
passing_known table (Converted t) (rows.NullFor u code) h = absurd h
passing_known table (Converted t) rows.Routine h = absurd h
passing_known table (Converted t) rows.Size h = absurd h
passing_known table (NullFor code) p h = tt
passing_known table Routine p h = tt
passing_known table Size p h = tt

pub passed_known : (table : Table) (pass : Option Passing) (p : Option rows.Passing) → IsPassedAt table pass p → IfSome pass (IsKnownPassing table)
passed_known table None p h = tt
passed_known table (Some pass) None h = absurd h
passed_known table (Some pass) (Some p) h = passing_known table pass p h

pub passed_somehow : (table : Table) (passes : Passes) → IsKnownPasses table passes → (ps : List rows.Passing) × ArePassedBy table passes ps
passed_somehow table (passes.Library parameters) known = (map parameter_in parameters.now, refl)
passed_somehow table (passes.Parameters types) known = (map (λ t. rows.Converted (meaning table t)) types.now, (refl, known))
