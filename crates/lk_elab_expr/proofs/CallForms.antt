-- What a call is of the values of its arguments (C99 6.5.2.2, 7.20.3).
use Rattle.std.proofs.Common.{◌≡◌, ◌∙◌, Bool, true, false, List, [], ◌∷◌, Option, Some, ℕ, sym, ap, subst}
use Rattle.std.specs.Prelude.{codes}
use Rattle.lk_tree.specs.declared.expression.DeclaratorForm.TheOpen.{ExprForm-F}
use Rattle.lk_tree.specs.declared.operators.BinaryOperator.TheVariants as binary
use Rattle.lk_typed.specs.Elaborated.{InPlace, ALibraryFunction, AnyFunction, ArePassed, IsAllocated, IsLibraryCall, IsValue, called, form_of}
use Rattle.lk_typed.specs.Elaborated.IsAllocated.{one_object, size_times, times_size, bytes}
use Rattle.lk_typed.specs.Elaborated.IsLibraryCall.{listed as by_row, create, allocate, allocate_zeroed, print as by_format}
use Rattle.lk_typed.specs.Elaborated.IsTyped.{call_by_name, call_by_pointer, call_of_extern, call_of_library}
use Rattle.lk_typed.specs.Env as env
use Rattle.lk_typed.specs.Library.{LibraryFunction}
use Rattle.lk_typed.specs.LibraryCalls.{IsCallBy, OpenLibraryCall}
use Rattle.lk_typed.specs.Tables.{Tables}
use Rattle.lk_typed.specs.Ty.{Ty, Means}
use Rattle.lk_typed.specs.declared.expression.Callee.{Callee, out-Callee}
use Rattle.lk_typed.specs.declared.expression.Callee.TheOpen.{Callee-F, LibraryCall-F, TypedForm-F}
use Rattle.lk_typed.specs.declared.expression.TypedExpr.{TypedExpr}
use Rattle.lk_typed.specs.declared.library.LibraryCall.{LibraryCall, out-LibraryCall}
use Rattle.lk_check_expr.specs.Functions.{rows_of, spelling}
use Rattle.lk_check_expr.specs.declared.library.LibraryFunction.{LibraryFunction as Known}
use Rattle.lk_elaborator.specs.Leading.{Leads}
use Rattle.lk_elaborator.specs.Standing.{IsFormOf, MakesOwn, OpenForm}
use Rattle.lk_elaborator.specs.declared.elaborator.Elaborator.{Elaborator}
use Rattle.lk_elab_expr.specs.Allocating.{AreCounted, AreSizes, IsSizeOf, allocating}
use Rattle.lk_elab_expr.specs.Calling.{IsCalled, IsCallWith, IsCreating}
use Rattle.lk_elab_expr.specs.LibraryForms.{IsCallOf, IsCreate}
use Rattle.lk_elab_expr.specs.LibraryForms.IsCallOf.{listed, print}
use Rattle.lk_elab_expr.specs.PassedArguments.{AreAllPassed}
use Rattle.lk_elab_expr.specs.Starting.{StartsAt}
use Rattle.lk_elab_expr.specs.declared.allocations.Count.{Count}
use Rattle.lk_elab_expr.specs.declared.allocations.Count.TheVariants as count
use Rattle.lk_elab_expr.specs.declared.calls.Called.{Called}
use Rattle.lk_elab_expr.specs.declared.calls.Called.TheVariants as by
use Rattle.lk_elab_expr.proofs.CalledWays.{library_passes, row_name}

same_first : {x y : InPlace} {xs ys : List InPlace} → x ∷ xs ≡ y ∷ ys → x ≡ y
same_first e = cc

module _ (tables : Tables) (folded : Bool) (p f : InPlace) (ps : List InPlace) (form : form_of p ≡ ExprForm-F.Call f ps) where
  -- ---- calls of the library

  pub library_is : (row : LibraryFunction) → called p.0 f ≡ ALibraryFunction row → (call : LibraryCall) → IsLibraryCall tables folded p.0.role row ps (out-LibraryCall call) → (made : OpenForm) →
      made ≡ TypedForm-F.Library call → IsFormOf tables folded p made
  library_is row is call so made same t makes = call_of_library form is so (subst (λ form. MakesOwn tables p form t) same makes)

  row_passed : (row : LibraryFunction) → called p.0 f ≡ ALibraryFunction row → (values : List TypedExpr) → AreAllPassed tables folded p f ps values → ArePassed tables folded row.passes ps values
  row_passed row is values all = subst (λ passes. ArePassed tables folded passes ps values) (library_passes p.0 f row all.typing is all.found) all.passed

  library_call_is : (known : Known) (row : LibraryFunction) → rows_of known ≡ Some row → (values : List TypedExpr) → ArePassed tables folded row.passes ps values → (made : OpenLibraryCall) → IsCallOf known values made →
      IsLibraryCall tables folded p.0.role row ps made
  library_call_is known row is values passed made (listed by) = by_row passed (subst (λ name. IsCallBy name values made) (sym (row_name known row is)) by)
  library_call_is known row is values passed made (print same printed) =
      subst (IsLibraryCall tables folded p.0.role row ps) (sym printed.made)
      (by_format (row_name known row is ∙ ap spelling same) (subst (λ values. ArePassed tables folded row.passes ps values) printed.given passed))

  create_is : (row : LibraryFunction) → row.name ≡ codes "pthread_create" → (walk : Elaborator) → Leads walk tables → (e : ℕ) → StartsAt walk ps e → (values : List TypedExpr) → ArePassed tables folded row.passes ps values →
      (made : OpenLibraryCall) → IsCreate e values made → IsLibraryCall tables folded p.0.role row ps made
  create_is row name walk leads e at values passed made is =
      let there = at.id ∷ at.attribute ∷ at.routine ∷ at.argument ∷ [] in
      let passes = subst (λ values. ArePassed tables folded row.passes there values) is.given (subst (λ ps. ArePassed tables folded row.passes ps values) at.are passed) in
      subst (λ ps. IsLibraryCall tables folded p.0.role row ps made) (sym at.are)
      (subst (IsLibraryCall tables folded p.0.role row there) (sym is.made)
      (create name passes at.starts.is (leads.entities at.starts.declared.ordinal e at.starts.entity)))

  pub creating_is : (walk : Elaborator) → Leads walk tables → (e : ℕ) → IsCreating walk p f ps e → (values : List TypedExpr) → AreAllPassed tables folded p f ps values → (made : LibraryCall) → IsCreate e values (out-LibraryCall made) →
      (form : OpenForm) → form ≡ TypedForm-F.Library made → IsFormOf tables folded p form
  creating_is walk leads e creating values all made is form same =
      library_is creating.row creating.is made (create_is creating.row creating.name walk leads e creating.starts values (row_passed creating.row creating.is values all) (out-LibraryCall made) is) form same

  -- ---- calls by names

  pub named_is : (walk : Elaborator) → Leads walk tables → (way : Called) (values : List TypedExpr) (made : OpenForm) → IsCalled walk way (called p.0 f) → AreAllPassed tables folded p f ps values → IsCallWith way values made →
      IsFormOf tables folded p made
  named_is walk leads (by.Library known) values made is all with =
      library_is is.0 is.2 with.0 (library_call_is known is.0 is.1 values (row_passed is.0 is.2 values all) (out-LibraryCall with.0) with.2) made with.1
  named_is walk leads (by.Extern e) values made is all with = λ t makes.
      call_of_extern form is.2 (leads.entities is.0 e is.1) all.passed (subst (λ form. MakesOwn tables p form t) with makes)
  named_is walk leads (by.Program e) values made is all with = λ t makes.
      call_by_name form is.2 (leads.entities is.0 e is.1) with.2 all.passed (subst (λ form. MakesOwn tables p form t) with.1 makes)

  pub pointed_is : called p.0 f ≡ AnyFunction → (a : TypedExpr) → IsValue tables folded f a → (values : List TypedExpr) → AreAllPassed tables folded p f ps values → (callee : Callee) → out-Callee callee ≡ Callee-F.Pointer a →
      (made : OpenForm) → made ≡ TypedForm-F.Call callee values → IsFormOf tables folded p made
  pointed_is is a value values all callee points made same = λ t makes.
      call_by_pointer form is value points all.passed (subst (λ form. MakesOwn tables p form t) same makes)

  -- ---- allocations

  size_is : (r : env.Role) (element : Ty) (size : InPlace) (by : Count) (c : Option TypedExpr) → IsSizeOf element r size by → AreCounted tables folded size by c → IsAllocated tables folded r size element c
  size_is r element size count.One c is counted = subst (IsAllocated tables folded r size element) (sym counted) (one_object is)
  size_is r element size count.Whole c is counted = subst (IsAllocated tables folded r size element) (sym counted.1) (bytes is.0 is.1 counted.2)
  size_is r element size count.Left c is counted =
      let one = counted is.0 is.1 binary.Multiply is.2 in subst (IsAllocated tables folded r size element) (sym one.1) (times_size is.2 is.3 is.4 one.2)
  size_is r element size count.Right c is counted =
      let one = counted is.0 is.1 binary.Multiply is.2 in subst (IsAllocated tables folded r size element) (sym one.1) (size_times is.2 is.3 is.4 one.2)

  -- what is counted is the first argument
  pub allocation_is : (row : LibraryFunction) (zeroed : Bool) → row.name ≡ allocating zeroed → (element : Ty) (at : ℕ) → Means tables.types at element → (by : Count) → AreSizes zeroed element p.0.role by ps →
      (first : InPlace) (others : List InPlace) → ps ≡ first ∷ others → (c : Option TypedExpr) → AreCounted tables folded first by c → IsLibraryCall tables folded p.0.role row ps (LibraryCall-F.Allocate at c zeroed)
  allocation_is row false name element at means by sizes first others are c counted =
      let same : first ≡ sizes.0 = same_first (sym are ∙ sizes.1) in
      subst (λ ps. IsLibraryCall tables folded p.0.role row ps (LibraryCall-F.Allocate at c false)) (sym sizes.1)
      (allocate name (size_is p.0.role element sizes.0 by c sizes.2 (subst (λ first. AreCounted tables folded first by c) same counted)) means)
  allocation_is row true name element at means by sizes first others are c counted =
      let same : first ≡ sizes.0 = same_first (sym are ∙ sizes.2) in
      let one = subst (λ by. AreCounted tables folded sizes.0 by c) sizes.4 (subst (λ first. AreCounted tables folded first by c) same counted) in
      subst (λ ps. IsLibraryCall tables folded p.0.role row ps (LibraryCall-F.Allocate at c true)) (sym sizes.2)
      (subst (λ c. IsLibraryCall tables folded p.0.role row (sizes.0 ∷ sizes.1 ∷ []) (LibraryCall-F.Allocate at c true)) (sym one.1) (allocate_zeroed name one.2 sizes.3 means))
