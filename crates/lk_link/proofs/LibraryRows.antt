-- Types beside those of the library's functions.
use Rattle.std.proofs.Common.{◌≡◌, ◌∙◌, ◌+◌, ◌<◌, ℕ, suc, Bool, true, false, List, [], ◌∷◌, Some, None, Option, map, length, drop, get_or, refl, sym, ap, arith}
use Rattle.std.specs.Prelude.{◌&&◌, ◌↔◌, not, is_some, IsTrue}
use Rattle.std.specs.Bool.{beq}
use Rattle.std.proofs.Math.Seq.{drop-cons}
use Rattle.std.proofs.lemmas.Bool.{false≢true}
use Rattle.lk_check_expr.proofs.FunctionRows.{row_there}
use Rattle.lk_check_expr.specs.Functions.{rows_of, parameter_in}
use Rattle.lk_check_expr.specs.declared.library.LibraryFunction.{LibraryFunction}
use Rattle.lk_check_expr.specs.declared.library.LibraryFunction.TheVariants as f
use Rattle.lk_check_expr.specs.declared.library.Parameter.{Parameter}
use Rattle.lk_typed.specs.Calls.{passes_by}
use Rattle.lk_link.specs.Library.{IsOtherInLibrary}
use Rattle.lk_typed.specs.Laws.{NumbersMeanOneTree}
use Rattle.lk_typed.specs.Library.{library, library_function, passed_type, type_of_function, LibraryFunction as Row}
use Rattle.lk_typed.specs.Meaning.{meaning}
use Rattle.lk_typed.specs.Ty.{Ty, Void, Int, ThreadId, Mutex, Cond, Pointer, Array, Struct, Function, Opaque, none, more, types_of, is_equal_but, are_equal_but, sizes_or_none, is_redeclarable, holds_of, target_of}
use Rattle.lk_types.specs.Building.{IsTable}
use Rattle.lk_types.specs.Table.{Table, IsKnown}

-- a type beside a pointer
pub pointer_is : (a b : Ty) → is_redeclarable a (Pointer b) ≡ holds_of (target_of a) (λ target. is_redeclarable target b)
unfolding is_redeclarable
pointer_is Void b = refl
pointer_is (Int k) b = refl
pointer_is ThreadId b = refl
pointer_is Mutex b = refl
pointer_is Cond b = refl
pointer_is (Pointer t) b = refl
pointer_is (Array t n) b = refl
pointer_is (Struct s) b = refl
pointer_is (Function result params dots) b = refl
pointer_is (Opaque n) b = refl

and_true : (b : Bool) → (b && true) ≡ b
and_true true = refl
and_true false = refl

and_false : (b : Bool) → (b && false) ≡ false
and_false true = refl
and_false false = refl

not_true : (b : Bool) → not b ≡ true → b ≡ false
not_true true other = absurd (false≢true other)
not_true false other = refl

flags_same : (a b : Bool) → a ≡ b → beq a b ≡ true
flags_same true true same = refl
flags_same true false same = absurd (false≢true (sym same))
flags_same false true same = absurd (false≢true same)
flags_same false false same = refl

-- the types of one parameter beside that of one
pub one_parameter : (m : ℕ → Ty) (params : List ℕ) (p : ℕ) (b : Ty) → length params ≡ 1 → p ≡ get_or params 0 p →
    are_equal_but sizes_or_none (types_of (map m params)) (more b none) ≡ is_redeclarable (m p) b
unfolding is_redeclarable
one_parameter m [] p b one is = absurd (omega (arith, one))
one_parameter m (x ∷ []) p b one is = ap (λ y. is_equal_but sizes_or_none (m y) b && true) (sym is) ∙ and_true (is_equal_but sizes_or_none (m p) b)
one_parameter m (x ∷ y ∷ params) p b one is = absurd (omega (arith, one))

-- only printf takes further arguments
pub only_printf : (function : LibraryFunction) → (function ≡ f.Printf → ⊥) → holds_of (rows_of function) (λ row. row.dots) ≡ false
unfolding library
only_printf f.Create other = refl
only_printf f.Join other = refl
only_printf f.Detach other = refl
only_printf f.ExitThread other = refl
only_printf f.SelfId other = refl
only_printf f.Equal other = refl
only_printf f.MutexInit other = refl
only_printf f.MutexDestroy other = refl
only_printf f.MutexLock other = refl
only_printf f.MutexUnlock other = refl
only_printf f.CondInit other = refl
only_printf f.CondDestroy other = refl
only_printf f.CondSignal other = refl
only_printf f.CondBroadcast other = refl
only_printf f.CondWait other = refl
only_printf f.Malloc other = refl
only_printf f.Calloc other = refl
only_printf f.Free other = refl
only_printf f.Exit other = refl
only_printf f.Abort other = refl
only_printf f.Puts other = refl
only_printf f.Perror other = refl
only_printf f.Atoi other = refl
only_printf f.Printf other = absurd (other refl)
only_printf f.Putchar other = refl
only_printf f.Getchar other = refl
only_printf f.Rand other = refl
only_printf f.Sleep other = refl

-- types beside those of parameters
abbrev pub are_passed : (ℕ → Ty) → List ℕ → List Parameter → Bool
are_passed m ts parameters = are_equal_but sizes_or_none (types_of (map m ts)) (types_of (map passed_type (map parameter_in parameters)))

module _ (m : ℕ → Ty) where
  pub other_length : (ts : List ℕ) (parameters : List Parameter) → (length ts ≡ length parameters → ⊥) → are_passed m ts parameters ≡ false
  other_length [] [] other = absurd (other refl)
  other_length [] (p ∷ parameters) other = refl
  other_length (t ∷ ts) [] other = refl
  other_length (t ∷ ts) (p ∷ parameters) other =
      ap (λ b. is_equal_but sizes_or_none (m t) (passed_type (parameter_in p)) && b) (other_length ts parameters (λ same. other (ap suc same))) ∙
      and_false (is_equal_but sizes_or_none (m t) (passed_type (parameter_in p)))

  module _ (ts : List ℕ) (parameters : List Parameter) (k t : ℕ) (d : Parameter) (in_ts : k < length ts) (in_parameters : k < length parameters) (is : t ≡ get_or ts k t) where
    abbrev here : Bool
    here = is_redeclarable (m t) (passed_type (parameter_in (get_or parameters k d)))

    abbrev rest : Bool
    rest = are_passed m (drop (k + 1) ts) (drop (k + 1) parameters)

    -- the first of them, and the others
    first_passed : are_passed m (drop k ts) (drop k parameters) ≡ (here && rest)
    unfolding is_redeclarable
    first_passed =
        let next : suc k ≡ k + 1 = omega arith in
        let first : drop k ts ≡ t ∷ drop (k + 1) ts = drop-cons ts k t in_ts ∙ ap (λ x. x ∷ drop (suc k) ts) (sym is) ∙ ap (λ n. t ∷ drop n ts) next in
        let second : drop k parameters ≡ get_or parameters k d ∷ drop (k + 1) parameters = drop-cons parameters k d in_parameters ∙ ap (λ n. get_or parameters k d ∷ drop n parameters) next in
        ap (λ xs. are_passed m xs (drop k parameters)) first ∙ ap (λ ys. are_passed m (t ∷ drop (k + 1) ts) ys) second

    pub passed_stop : here ≡ false → are_passed m (drop k ts) (drop k parameters) ≡ false
    passed_stop fails = first_passed ∙ ap (λ b. b && rest) fails

    pub passed_on : here ≡ true → are_passed m (drop k ts) (drop k parameters) ≡ rest
    passed_on holds = first_passed ∙ ap (λ b. b && rest) holds

-- a function's type beside that of a row
module _ (m : ℕ → Ty) (r : ℕ) (params : List ℕ) (dots : Bool) (function : LibraryFunction) (row : Row) (there : rows_of function ≡ Some row) where
  abbrev tree : Ty
  tree = Function (m r) (types_of (map m params)) dots

  abbrev params_are : Bool
  params_are = are_equal_but sizes_or_none (types_of (map m params)) (types_of (map passed_type row.passes))

  pub other_dots : not (beq dots (holds_of (rows_of function) (λ row. row.dots))) ≡ true → is_redeclarable tree (type_of_function row) ≡ false
  unfolding is_redeclarable
  other_dots other =
      ap (λ b. is_equal_but sizes_or_none (m r) row.result && params_are && b) (not_true (beq dots row.dots) (sym (ap (λ o. not (beq dots (holds_of o (λ row. row.dots)))) there) ∙ other)) ∙
      and_false (is_equal_but sizes_or_none (m r) row.result && params_are)

  pub other_result : holds_of (rows_of function) (λ row. is_redeclarable (m r) row.result) ≡ false → is_redeclarable tree (type_of_function row) ≡ false
  unfolding is_redeclarable
  other_result fails = ap (λ b. b && params_are && beq dots row.dots) (sym (ap (λ o. holds_of o (λ row. is_redeclarable (m r) row.result)) there) ∙ fails)

  pub by_parameters : (parameters : List Parameter) → map parameter_in parameters ≡ passes_by (rows_of function) None → dots ≡ holds_of (rows_of function) (λ row. row.dots) →
      holds_of (rows_of function) (λ row. is_redeclarable (m r) row.result) ≡ true → is_redeclarable tree (type_of_function row) ≡ are_passed m params parameters
  unfolding is_redeclarable
  by_parameters parameters passes same holds =
      ap (λ b. b && params_are && beq dots row.dots) (sym (ap (λ o. holds_of o (λ row. is_redeclarable (m r) row.result)) there) ∙ holds) ∙
      ap (λ b. params_are && b) (flags_same dots row.dots (same ∙ ap (λ o. holds_of o (λ row. row.dots)) there)) ∙ and_true params_are ∙
      sym (ap (λ passes. are_equal_but sizes_or_none (types_of (map m params)) (types_of (map passed_type passes))) (passes ∙ ap (λ o. passes_by o None) there))

not_from : (b : Bool) → (b ≡ true → ⊥) → not b ≡ true
not_from true never = absurd (never refl)
not_from false never = refl

-- a type of a table beside that of the library's function of a name
module _ (table : Table) (good : IsTable table) (one_tree : NumbersMeanOneTree) (t : ℕ) (known : IsKnown table t) (name : List ℕ) where
  pub other_in_library : (function : LibraryFunction) → library_function name ≡ rows_of function → (is : Bool) →
      ((row : Row) → rows_of function ≡ Some row → is ≡ is_redeclarable (meaning table t) (type_of_function row)) → IsTrue (not is) ↔ IsOtherInLibrary table.types t name
  other_in_library function named is by = (
    (λ other. of (rows_of function) refl (row_there (Some function)) (not_true is other)),
    (λ k. not_from is (λ same. k.differ (meaning table t) ((one_tree table good t known (meaning table t)).1 refl) (sym (by k.function (sym named ∙ k.there)) ∙ same))),
  )
    where
      of : (o : Option Row) → rows_of function ≡ o → is_some (rows_of function) ≡ true → is ≡ false → IsOtherInLibrary table.types t name
      of None e there fails = absurd (false≢true (sym (ap (λ o. is_some o) e) ∙ there))
      of (Some row) e there fails = record {
        function = row;
        there = named ∙ e;
        differ = λ type means same. false≢true (sym fails ∙ by row e ∙ ap (λ a. is_redeclarable a (type_of_function row)) (sym ((one_tree table good t known type).0 means)) ∙ same);
      }
