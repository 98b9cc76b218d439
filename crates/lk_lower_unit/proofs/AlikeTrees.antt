-- Each expression has the same steps whatever the numbers are, by induction over typed trees.
use Rattle.std.proofs.Common.{ap, sym, subst, ◌≡◌, ℕ, Option, None, Some, List, [], ◌∷◌, length, map, refl}
use Rattle.lk_facts.specs.declared.action.Action.{Action}
use Rattle.lk_lower_expr.specs.Expressions.{part, form_part, library_part, callee_part, of_callee, of_form, of_library, of_expr}
use Rattle.lk_lower_expr.specs.Library.{Called}
use Rattle.lk_lower_expr.specs.Names.{Names, Node}
use Rattle.lk_lower_expr.specs.Parts.{Part, computes, then_one}
use Rattle.lk_lower_expr.specs.declared.step.Step.{Step}
use Rattle.lk_lower_unit.proofs.Alike.{AlikeCalled, AlikeNames, AlikeParts, AllAlike, computes_alike, followed_alike, paren_alike, standing_alike, stands_for_alike}
use Rattle.lk_lower_unit.proofs.AlikeForms.{and_alike, assign_alike, call_alike, change_alike, choice_alike, comma_alike, compound_alike, name_alike, one_alike, or_alike, print_alike}
use Rattle.lk_typed.specs.declared.expression.Callee.{Callee, roll-Callee}
use Rattle.lk_typed.specs.declared.expression.Callee.TheFolds.{fold-roll-Callee, fold-roll-LibraryCall, fold-roll-TypedExpr, fold-roll-TypedForm, ind-TypedExpr, map-Callee, map-LibraryCall, map-TypedForm}
use Rattle.lk_typed.specs.declared.expression.Callee.TheOpen.{Callee-F, TypedForm-F, LibraryCall-F, TypedExpr-F}
use Rattle.lk_typed.specs.declared.expression.TypedExpr.{TypedExpr, roll-TypedExpr}
use Rattle.lk_typed.specs.declared.expression.TypedForm.{TypedForm, roll-TypedForm}
use Rattle.lk_typed.specs.declared.library.LibraryCall.{LibraryCall, roll-LibraryCall}

abbrev With : {A : Type 0} → (A → Type 0) → Type 0
With {A} Q = (a : A) × Q a

module _ (n m : Names) (names : AlikeNames n m) where
  abbrev PExpr : TypedExpr → Type 0
  PExpr e = AlikeParts (part n e) (part m e)

  abbrev PForm : TypedForm → Type 0
  PForm f = (node : Node) → AlikeParts (form_part n f node) (form_part m f node)

  abbrev PLibrary : LibraryCall → Type 0
  PLibrary c = (node : Node) → AlikeParts (library_part n c node) (library_part m c node)

  abbrev PCallee : Callee → Type 0
  PCallee c = AlikeCalled (callee_part n c) (callee_part m c)

  all_of : (es : List (With PExpr)) → AllAlike (map (part n) (map (λ a. a.0) es)) (map (part m) (map (λ a. a.0) es))
  all_of [] = tt
  all_of (e ∷ es) = (e.1, all_of es)

  -- ---- one layer, where the expressions in it are alike

  abbrev callee_below : Callee-F (With PCallee) (With PForm) (With PLibrary) (With PExpr) → Callee-F Callee TypedForm LibraryCall TypedExpr
  callee_below = map-Callee (With PCallee) (With PForm) (With PLibrary) (With PExpr) Callee TypedForm LibraryCall TypedExpr (λ a. a.0) (λ a. a.0) (λ a. a.0) (λ a. a.0)

  abbrev library_below : LibraryCall-F (With PCallee) (With PForm) (With PLibrary) (With PExpr) → LibraryCall-F Callee TypedForm LibraryCall TypedExpr
  library_below = map-LibraryCall (With PCallee) (With PForm) (With PLibrary) (With PExpr) Callee TypedForm LibraryCall TypedExpr (λ a. a.0) (λ a. a.0) (λ a. a.0) (λ a. a.0)

  abbrev form_below : TypedForm-F (With PCallee) (With PForm) (With PLibrary) (With PExpr) → TypedForm-F Callee TypedForm LibraryCall TypedExpr
  form_below = map-TypedForm (With PCallee) (With PForm) (With PLibrary) (With PExpr) Callee TypedForm LibraryCall TypedExpr (λ a. a.0) (λ a. a.0) (λ a. a.0) (λ a. a.0)

  abbrev callee_by : Names → Callee-F Callee TypedForm LibraryCall TypedExpr → Called
  callee_by o x = of_callee o (map-Callee Callee TypedForm LibraryCall TypedExpr Called (Node → Part) (Node → Part) Part (callee_part o) (form_part o) (library_part o) (part o) x)

  abbrev library_by : Names → LibraryCall-F Callee TypedForm LibraryCall TypedExpr → Node → Part
  library_by o x = of_library o (map-LibraryCall Callee TypedForm LibraryCall TypedExpr Called (Node → Part) (Node → Part) Part (callee_part o) (form_part o) (library_part o) (part o) x)

  abbrev form_by : Names → TypedForm-F Callee TypedForm LibraryCall TypedExpr → Node → Part
  form_by o x = of_form o (map-TypedForm Callee TypedForm LibraryCall TypedExpr Called (Node → Part) (Node → Part) Part (callee_part o) (form_part o) (library_part o) (part o) x)

  in_callee : (y : Callee-F (With PCallee) (With PForm) (With PLibrary) (With PExpr)) → AlikeCalled (callee_by n (callee_below y)) (callee_by m (callee_below y))
  in_callee (Callee-F.Callee::Function entity) = tt
  in_callee (Callee-F.Pointer a) = a.1

  module _ (node : Node) where
    one_of : (a : With PExpr) (x y : Action) (g h : Option ℕ) → AlikeParts (then_one n node (part n a.0 ∷ []) x g) (then_one m node (part m a.0 ∷ []) y h)
    one_of a x y g h = one_alike n m names node (part n a.0 ∷ []) (part m a.0 ∷ []) x y g h (a.1, tt)

    two_of : (a b : With PExpr) (x y : Action) (g h : Option ℕ) → AlikeParts (then_one n node (part n a.0 ∷ part n b.0 ∷ []) x g) (then_one m node (part m a.0 ∷ part m b.0 ∷ []) y h)
    two_of a b x y g h = one_alike n m names node (part n a.0 ∷ part n b.0 ∷ []) (part m a.0 ∷ part m b.0 ∷ []) x y g h (a.1, (b.1, tt))

    many_of : (es : List (With PExpr)) (x y : Action) (g h : Option ℕ) →
        AlikeParts (then_one n node (map (part n) (map (λ a. a.0) es)) x g) (then_one m node (map (part m) (map (λ a. a.0) es)) y h)
    many_of es x y g h = one_alike n m names node (map (part n) (map (λ a. a.0) es)) (map (part m) (map (λ a. a.0) es)) x y g h (all_of es)

    steps_of_one : (a : With PExpr) (c d : ℕ) (s t : ℕ → List Step) → ((on off : ℕ) → length (s on) ≡ length (t off)) → AlikeParts (computes n node (part n a.0 ∷ []) c s) (computes m node (part m a.0 ∷ []) d t)
    steps_of_one a c d s t steps = computes_alike n m node (part n a.0 ∷ []) (part m a.0 ∷ []) c d s t (a.1, tt) steps

    steps_of_two : (a b : With PExpr) (c d : ℕ) (s t : ℕ → List Step) → ((on off : ℕ) → length (s on) ≡ length (t off)) →
        AlikeParts (computes n node (part n a.0 ∷ part n b.0 ∷ []) c s) (computes m node (part m a.0 ∷ part m b.0 ∷ []) d t)
    steps_of_two a b c d s t steps = computes_alike n m node (part n a.0 ∷ part n b.0 ∷ []) (part m a.0 ∷ part m b.0 ∷ []) c d s t (a.1, (b.1, tt)) steps

  in_library : (y : LibraryCall-F (With PCallee) (With PForm) (With PLibrary) (With PExpr)) (node : Node) → AlikeParts (library_by n (library_below y) node) (library_by m (library_below y) node)
  in_library (LibraryCall-F.Create id entity argument) node = steps_of_two node id argument _ _ _ _ (λ on off. refl)
  in_library (LibraryCall-F.Join a) node = one_of node a _ _ _ _
  in_library (LibraryCall-F.Detach a) node = one_of node a _ _ _ _
  in_library (LibraryCall-F.ExitThread a) node = steps_of_one node a _ _ _ _ (λ on off. refl)
  in_library LibraryCall-F.SelfId node = one_alike n m names node [] [] _ _ _ _ tt
  in_library (LibraryCall-F.Equal a b) node = two_of node a b _ _ _ _
  in_library (LibraryCall-F.Init a) node = one_of node a _ _ _ _
  in_library (LibraryCall-F.Destroy a) node = one_of node a _ _ _ _
  in_library (LibraryCall-F.Lock a) node = one_of node a _ _ _ _
  in_library (LibraryCall-F.Unlock a) node = one_of node a _ _ _ _
  in_library (LibraryCall-F.Signal a) node = one_of node a _ _ _ _
  in_library (LibraryCall-F.Wait cond mutex) node = steps_of_two node cond mutex _ _ _ _ (λ on off. refl)
  in_library (LibraryCall-F.Allocate t None zeroed) node = one_alike n m names node [] [] _ _ _ _ tt
  in_library (LibraryCall-F.Allocate t (Some count) zeroed) node = one_of node count _ _ _ _
  in_library (LibraryCall-F.Free a) node = one_of node a _ _ _ _
  in_library (LibraryCall-F.Exit None) node = computes_alike n m node [] [] _ _ _ _ tt (λ on off. refl)
  in_library (LibraryCall-F.Exit (Some status)) node = steps_of_one node status _ _ _ _ (λ on off. refl)
  in_library (LibraryCall-F.Scan a) node = steps_of_one node a _ _ _ _ (λ on off. refl)
  in_library (LibraryCall-F.Print format args) node = print_alike n m names node (part n format.0) (part m format.0) (map (part n) (map (λ a. a.0) args)) (map (part m) (map (λ a. a.0) args)) format.1 (all_of args)
  in_library (LibraryCall-F.Compute args) node = many_of node args _ _ _ _

  in_form : (y : TypedForm-F (With PCallee) (With PForm) (With PLibrary) (With PExpr)) (node : Node) → AlikeParts (form_by n (form_below y) node) (form_by m (form_below y) node)
  in_form (TypedForm-F.Object storage) node = name_alike n m names node storage
  in_form (TypedForm-F.Text bytes) node = one_alike n m names node [] [] _ _ _ _ tt
  in_form (TypedForm-F.Member a k) node = one_of node a _ _ _ _
  in_form (TypedForm-F.Arrow a k) node = one_of node a _ _ _ _
  in_form (TypedForm-F.Index a b) node = two_of node a b _ _ _ _
  in_form (TypedForm-F.Indirection a) node = stands_for_alike n m node _ _ a.1
  in_form (TypedForm-F.Paren a) node = paren_alike n m _ _ node _ _ a.1.slot a.1
  in_form (TypedForm-F.Number number) node = one_alike n m names node [] [] _ _ _ _ tt
  in_form (TypedForm-F.TypedForm::Function entity) node = one_alike n m names node [] [] _ _ _ _ tt
  in_form (TypedForm-F.Address a) node = stands_for_alike n m node _ _ a.1
  in_form (TypedForm-F.Unary op a) node = one_of node a _ _ _ _
  in_form (TypedForm-F.Binary op a b) node = two_of node a b _ _ _ _
  in_form (TypedForm-F.And a b) node = and_alike n m names node _ _ _ _ a.1 b.1
  in_form (TypedForm-F.Or a b) node = or_alike n m names node _ _ _ _ a.1 b.1
  in_form (TypedForm-F.Choice c a b) node = choice_alike n m names node _ _ _ _ _ _ c.1 a.1 b.1
  in_form (TypedForm-F.Comma a b) node = comma_alike n m names node _ _ _ _ a.1 b.1
  in_form (TypedForm-F.Assign a b) node = assign_alike n m names node _ _ a.1 _ _ b.1
  in_form (TypedForm-F.Compound op a b t) node = compound_alike n m names node _ _ a.1 op _ _ t b.1
  in_form (TypedForm-F.Step operator change a t) node = change_alike n m names node _ _ a.1 operator change t
  in_form (TypedForm-F.Call callee args) node = call_alike n m names node (callee_part n callee.0) (callee_part m callee.0) (map (part n) (map (λ a. a.0) args)) (map (part m) (map (λ a. a.0) args)) callee.1 (all_of args)
  in_form (TypedForm-F.Library call) node = call.1 node
  in_form (TypedForm-F.Extern entity args) node = many_of node args _ _ _ _
  in_form (TypedForm-F.Size count) node = one_alike n m names node [] [] _ _ _ _ tt
  in_form (TypedForm-F.Load a) node = followed_alike n m node _ _ _ _ _ _ (standing_alike node.ordinal _ _ a.1)
  in_form (TypedForm-F.Decay a) node = followed_alike n m node _ _ _ _ _ _ (followed_alike n m node _ _ _ _ _ _ (standing_alike node.ordinal _ _ a.1))
  in_form (TypedForm-F.Convert a) node = followed_alike n m node _ _ _ _ _ _ (standing_alike node.ordinal _ _ a.1)
  in_form (TypedForm-F.Discard a) node = stands_for_alike n m node _ _ a.1
  in_form TypedForm-F.Null node = one_alike n m names node [] [] _ _ _ _ tt

  -- ---- what the folds give

  callee_rolled : (o : Names) (x : Callee-F Callee TypedForm LibraryCall TypedExpr) → callee_part o (roll-Callee x) ≡ callee_by o x
  unfolding part form_part library_part callee_part
  callee_rolled o x = fold-roll-Callee Called (Node → Part) (Node → Part) Part (of_callee o) (of_form o) (of_library o) (of_expr o) x

  library_rolled : (o : Names) (x : LibraryCall-F Callee TypedForm LibraryCall TypedExpr) → library_part o (roll-LibraryCall x) ≡ library_by o x
  unfolding part form_part library_part callee_part
  library_rolled o x = fold-roll-LibraryCall Called (Node → Part) (Node → Part) Part (of_callee o) (of_form o) (of_library o) (of_expr o) x

  form_rolled : (o : Names) (x : TypedForm-F Callee TypedForm LibraryCall TypedExpr) → form_part o (roll-TypedForm x) ≡ form_by o x
  unfolding part form_part library_part callee_part
  form_rolled o x = fold-roll-TypedForm Called (Node → Part) (Node → Part) Part (of_callee o) (of_form o) (of_library o) (of_expr o) x

  abbrev node_of_layer : TypedExpr-F Callee TypedForm LibraryCall TypedExpr → Node
  node_of_layer x = record { ordinal = x.ordinal; spot = x.spot; type = x.ty }

  expr_rolled : (o : Names) (x : TypedExpr-F Callee TypedForm LibraryCall TypedExpr) → part o (roll-TypedExpr x) ≡ form_part o x.form (node_of_layer x)
  unfolding part form_part library_part callee_part
  expr_rolled o x = fold-roll-TypedExpr Called (Node → Part) (Node → Part) Part (of_callee o) (of_form o) (of_library o) (of_expr o) x

  both_by : {A : Type 0} (R : A → A → Type 0) (a b c d : A) → a ≡ c → b ≡ d → R c d → R a b
  both_by R a b c d left right is = subst (λ x. R x b) (sym left) (subst (λ y. R c y) (sym right) is)

  callee_step : (x : Callee-F Callee TypedForm LibraryCall TypedExpr) (y : Callee-F (With PCallee) (With PForm) (With PLibrary) (With PExpr)) → callee_below y ≡ x → PCallee (roll-Callee x)
  callee_step x y is = both_by AlikeCalled _ _ _ _ (callee_rolled n x) (callee_rolled m x) (subst (λ z. AlikeCalled (callee_by n z) (callee_by m z)) is (in_callee y))

  library_step : (x : LibraryCall-F Callee TypedForm LibraryCall TypedExpr) (y : LibraryCall-F (With PCallee) (With PForm) (With PLibrary) (With PExpr)) → library_below y ≡ x → PLibrary (roll-LibraryCall x)
  library_step x y is node =
      both_by AlikeParts _ _ _ _ (ap (λ (f : Node → Part). f node) (library_rolled n x)) (ap (λ (f : Node → Part). f node) (library_rolled m x))
      (subst (λ z. AlikeParts (library_by n z node) (library_by m z node)) is (in_library y node))

  form_step : (x : TypedForm-F Callee TypedForm LibraryCall TypedExpr) (y : TypedForm-F (With PCallee) (With PForm) (With PLibrary) (With PExpr)) → form_below y ≡ x → PForm (roll-TypedForm x)
  form_step x y is node =
      both_by AlikeParts _ _ _ _ (ap (λ (f : Node → Part). f node) (form_rolled n x)) (ap (λ (f : Node → Part). f node) (form_rolled m x))
      (subst (λ z. AlikeParts (form_by n z node) (form_by m z node)) is (in_form y node))

  expr_step : (x : TypedExpr-F Callee TypedForm LibraryCall TypedExpr) → PForm x.form → PExpr (roll-TypedExpr x)
  expr_step x form = both_by AlikeParts _ _ _ _ (expr_rolled n x) (expr_rolled m x) (form (node_of_layer x))

  -- an expression has the same steps
  pub parts_alike : (e : TypedExpr) → AlikeParts (part n e) (part m e)
  parts_alike =
      ind-TypedExpr PCallee PForm PLibrary PExpr (λ x y is. callee_step x y is) (λ x y is. form_step x y is) (λ x y is. library_step x y is)
      (λ x y is. expr_step x (subst PForm (ap (λ z. z.form) is) y.form.1))

  pub all_parts_alike : (es : List TypedExpr) → AllAlike (map (part n) es) (map (part m) es)
  all_parts_alike [] = tt
  all_parts_alike (e ∷ es) = (parts_alike e, all_parts_alike es)
