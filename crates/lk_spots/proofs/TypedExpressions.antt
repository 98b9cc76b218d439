-- A typed expression stands at places of the expression that it is made of.
use Rattle.std.proofs.Common.{◌≡◌, inl, inr, ℕ, Bool, List, [], ◌∷◌, Option, refl, sym, subst}
use Rattle.std.proofs.lemmas.List.Elements.{All-from_recursion, All-contains}
use Rattle.std.specs.List.{AllByRecursion}
use Rattle.std.specs.Prelude.{⊤}
use Rattle.lk_base.specs.declared.spot.Spot.{Spot}
use Rattle.lk_tree.specs.declared.expression.DeclaratorForm.TheOpen.{ExprForm-F}
use Rattle.lk_tree.specs.declared.expression.Expr.{Expr}
use Rattle.lk_typed.specs.Elaborated as el
use Rattle.lk_typed.specs.Elaborated.{InPlace, PlacedForm, name_in, form_of, Makes, IsTyped, IsValue, IsConverted, IsOperand, ArePassed, IsAllocated, IsLibraryCall}
use Rattle.lk_typed.specs.Env.{Env, Role}
use Rattle.lk_typed.specs.Expressions.{expression}
use Rattle.lk_typed.specs.Forms.{placed, placed_arguments}
use Rattle.lk_typed.specs.Library.{LibraryFunction, Passing}
use Rattle.lk_typed.specs.LibraryCalls.{OpenLibraryCall, Making, of_none, of_one, of_two, of_all, CallRow, Made, IsCallBy, call_rows}
use Rattle.lk_typed.specs.LibraryCalls.Made.{none, one, two, all}
use Rattle.lk_typed.specs.Tables.{Tables}
use Rattle.lk_typed.specs.Ty.{Ty}
use Rattle.lk_typed.specs.declared.expression.Callee.TheOpen.{TypedForm-F}
use Rattle.lk_typed.specs.declared.expression.Callee.{Callee}
use Rattle.lk_typed.specs.declared.expression.TypedExpr.{TypedExpr}
use Rattle.lk_typed.specs.declared.expression.TypedForm.{TypedForm}
use Rattle.lk_typed.specs.declared.library.LibraryCall.{LibraryCall}
use Rattle.lk_spots.specs.Places as s
use Rattle.lk_spots.specs.Places.{Each, IfThere, ExprLayer, ExprSpots, ExprFormSpots, TypeNameSpots}
use Rattle.lk_spots.specs.TypedPlaces as t
use Rattle.lk_spots.specs.TypedPlaces.{TypedExprSpots, TypedFormSpots, CalleeSpots, LibraryCallSpots}
use Rattle.lk_spots.proofs.Lists.{each_none, each_more, if_missing, if_there}

module _ (P : Spot → Type 0) where
  -- ---- a form whose parts have environments

  abbrev pub PlaceSpots : InPlace → Type 0
  PlaceSpots p = ExprSpots P p.1

  abbrev PlacedSpots : PlacedForm → Type 0
  PlacedSpots (ExprForm-F.Comma left right) = PlaceSpots left × PlaceSpots right
  PlacedSpots (ExprForm-F.Assign op left right) = PlaceSpots left × PlaceSpots right
  PlacedSpots (ExprForm-F.Choice condition taken other) = PlaceSpots condition × PlaceSpots taken × PlaceSpots other
  PlacedSpots (ExprForm-F.Binary op left right) = PlaceSpots left × PlaceSpots right
  PlacedSpots (ExprForm-F.Cast name operand) = PlaceSpots operand
  PlacedSpots (ExprForm-F.Pre op operand) = PlaceSpots operand
  PlacedSpots (ExprForm-F.Prefix op operand) = PlaceSpots operand
  PlacedSpots (ExprForm-F.SizeofExpr operand) = PlaceSpots operand
  PlacedSpots (ExprForm-F.SizeofType name) = ⊤
  PlacedSpots (ExprForm-F.Index array inner) = PlaceSpots array × PlaceSpots inner
  PlacedSpots (ExprForm-F.Call function arguments) = PlaceSpots function × AllByRecursion PlaceSpots arguments
  PlacedSpots (ExprForm-F.Member object name) = PlaceSpots object
  PlacedSpots (ExprForm-F.Arrow pointer name) = PlaceSpots pointer
  PlacedSpots (ExprForm-F.Post op operand) = PlaceSpots operand
  PlacedSpots (ExprForm-F.Word name) = ⊤
  PlacedSpots (ExprForm-F.Number kind value) = ⊤
  PlacedSpots (ExprForm-F.Char value) = ⊤
  PlacedSpots (ExprForm-F.Text bytes) = ⊤
  PlacedSpots (ExprForm-F.Paren inner) = PlaceSpots inner

  in_order : (xs : List Expr) → Each (ExprSpots P) xs → (env : Env) (passes : List Passing) → AllByRecursion PlaceSpots (placed_arguments expression env passes xs)
  in_order [] each env passes = tt
  in_order (x ∷ xs) each env [] = (each x (inl refl), in_order xs (λ a is. each a (inr is)) _ [])
  in_order (x ∷ xs) each env (pass ∷ passes) = (each x (inl refl), in_order xs (λ a is. each a (inr is)) _ passes)

  in_places : {x : ExprLayer} → ExprFormSpots P x → (env : Env) → PlacedSpots (placed expression name_in env x)
  in_places (s.comma left right) env = (left, right)
  in_places (s.assign left right) env = (left, right)
  in_places (s.choice condition taken other) env = (condition, taken, other)
  in_places (s.binary left right) env = (left, right)
  in_places (s.cast name operand) env = operand
  in_places (s.pre operand) env = operand
  in_places (s.prefix operand) env = operand
  in_places (s.sizeof_expr operand) env = operand
  in_places (s.sizeof_type name) env = tt
  in_places (s.index array inner) env = (array, inner)
  in_places (s.call {arguments = xs} function arguments) env = (function, in_order xs arguments _ _)
  in_places (s.member object) env = object
  in_places (s.arrow pointer) env = pointer
  in_places (s.post operand) env = operand
  in_places s.word env = tt
  in_places s.number env = tt
  in_places s.char env = tt
  in_places s.text env = tt
  in_places (s.paren inner) env = inner

  placed_form : (p : InPlace) → PlaceSpots p → PlacedSpots (form_of p)
  placed_form (env, e) (s.expr here form) = in_places form env

  inside : (p : InPlace) {x : PlacedForm} → form_of p ≡ x → PlaceSpots p → PlacedSpots x
  inside p is spots = subst PlacedSpots is (placed_form p spots)

  pub place_of : {one : Expr} → ExprSpots P one → P one.spot
  place_of (s.expr here form) = here

  -- ---- calls of the library: what the table makes of arguments with the property has it

  abbrev MakingSpots : Making → Type 0
  MakingSpots (of_none call) = LibraryCallSpots P call
  MakingSpots (of_one f) = (a : TypedExpr) → TypedExprSpots P a → LibraryCallSpots P (f a)
  MakingSpots (of_two f) = (a b : TypedExpr) → TypedExprSpots P a → TypedExprSpots P b → LibraryCallSpots P (f a b)
  MakingSpots (of_all f) = (xs : List TypedExpr) → Each (TypedExprSpots P) xs → LibraryCallSpots P (f xs)

  abbrev RowSpots : CallRow → Type 0
  RowSpots row = MakingSpots row.making

  rows : AllByRecursion RowSpots call_rows
  rows = (
    λ a x. t.join x,
    (
      λ a x. t.detach x,
      (
        λ a x. t.exit_thread x,
        (
          t.self_id,
          (
            λ a b x y. t.equal x y,
            (
              λ a x. t.init x,
              (
                λ a x. t.destroy x,
                (
                  λ a x. t.lock x,
                  (
                    λ a x. t.unlock x,
                    (
                      λ a x. t.init x,
                      (
                        λ a x. t.destroy x,
                        (
                          λ a x. t.signal x,
                          (
                            λ a x. t.signal x,
                            (
                              λ a b x y. t.wait x y,
                              (
                                λ a x. t.free x,
                                (
                                  λ a x. t.exit (if_there (TypedExprSpots P) a x),
                                  (
                                    t.exit (if_missing (TypedExprSpots P)),
                                    (
                                      λ a x. t.scan x,
                                      (
                                        λ a x. t.scan x,
                                        (
                                          λ a x. t.scan x,
                                          (
                                            λ xs all. t.compute all,
                                            (
                                              λ xs all. t.compute all,
                                              (
                                                λ xs all. t.compute all,
                                                (λ xs all. t.compute all, tt),
                                              ),
                                            ),
                                          ),
                                        ),
                                      ),
                                    ),
                                  ),
                                ),
                              ),
                            ),
                          ),
                        ),
                      ),
                    ),
                  ),
                ),
              ),
            ),
          ),
        ),
      ),
    ),
  )

  made_spots : {making : Making} {xs : List TypedExpr} {call : OpenLibraryCall} → Made making xs call → MakingSpots making → Each (TypedExprSpots P) xs → LibraryCallSpots P call
  made_spots none making each = making
  made_spots (one a) making each = making a (each a (inl refl))
  made_spots (two a b) making each = making a b (each a (inl refl)) (each b (inr (inl refl)))
  made_spots (all xs) making each = making xs each

  call_by : {name : List ℕ} {xs : List TypedExpr} {call : OpenLibraryCall} → IsCallBy name xs call → Each (TypedExprSpots P) xs → LibraryCallSpots P call
  call_by {name} is each = made_spots is.made (All-contains RowSpots call_rows (record { name = name; making = is.making }) (All-from_recursion RowSpots call_rows rows) is.listed) each

  -- ---- the typed tree

  module _ (tables : Tables) (folded : Bool) where
    made : {p : InPlace} {ty : Ty} {form : TypedForm-F Callee TypedForm LibraryCall TypedExpr} {t : TypedExpr} → Makes tables p ty form t → PlaceSpots p → TypedFormSpots P form → TypedExprSpots P t
    made makes spots form = t.typed (subst P (sym makes.spot) (place_of spots)) (subst (TypedFormSpots P) (sym makes.made) form)

    mutual
      pub typed : {p : InPlace} {t : TypedExpr} → IsTyped tables folded p t → PlaceSpots p → TypedExprSpots P t
      typed (el.static_object stands is at own) p = made own.2 p t.object
      typed (el.local_object stands is at own) p = made own.2 p t.object
      typed (el.function stands is at own) p = made own.2 p t.function
      typed (el.enumerator stands is own) p = made own.2 p t.number
      typed (el.number is own) p = made own.2 p t.number
      typed (el.character is own) p = made own.2 p t.number
      typed (el.text is own) p = made own.2 p t.text
      typed {p = q} (el.paren is a own) p = made own.2 p (t.paren (typed a (inside q is p)))
      typed {p = q} (el.member is at type known a own) p = made own.2 p (t.member (typed a (inside q is p)))
      typed {p = q} (el.arrow is at type known a own) p = made own.2 p (t.arrow (value a (inside q is p)))
      typed {p = q} (el.index is at a b own) p = made own.2 p (t.index (value a (inside q is p).0) (operand b (inside q is p).1))
      typed {p = q} (el.indirection is a own) p = made own.2 p (t.indirection (value a (inside q is p)))
      typed {p = q} (el.address is a own) p = made own.2 p (t.address (typed a (inside q is p)))
      typed {p = q} (el.promoting_operator is op at a own) p = made own.2 p (t.unary (converted a (inside q is p)))
      typed {p = q} (el.negation is a own) p = made own.2 p (t.unary (value a (inside q is p)))
      typed {p = q} (el.operator is op x y a b own) p = made own.2 p (t.binary (converted a (inside q is p).0) (operand b (inside q is p).1))
      typed {p = q} (el.and_ is a b own) p = made own.2 p (t.and (value a (inside q is p).0) (value b (inside q is p).1))
      typed {p = q} (el.or_ is a b own) p = made own.2 p (t.or (value a (inside q is p).0) (value b (inside q is p).1))
      typed {p = q} (el.choice is at a b c own) p = made own.2 p (t.choice (value a (inside q is p).0) (converted b (inside q is p).1) (converted c (inside q is p).2))
      typed {p = q} (el.comma is a b own) p = made own.2 p (t.comma (value a (inside q is p).0) (value b (inside q is p).1))
      typed {p = q} (el.assignment is at a b own) p = made own.2 p (t.assign (typed a (inside q is p).0) (converted b (inside q is p).1))
      typed {p = q} (el.compound is by op x y a b means own) p = made own.2 p (t.compound (typed a (inside q is p).0) (converted b (inside q is p).1))
      typed {p = q} (el.step_before is at a means own) p = made own.2 p (t.step (typed a (inside q is p)))
      typed {p = q} (el.step_after is at a means own) p = made own.2 p (t.step (typed a (inside q is p)))
      typed {p = q} (el.cast_to_void is type a own) p = made own.2 p (t.discard (value a (inside q is p)))
      typed (el.cast_of_null is type at null own) p = made own.2 p t.null
      typed {p = q} (el.cast is type scalar at null a own) p = made own.2 p (t.convert (value a (inside q is p)))
      typed (el.size sizeof bytes own) p = made own.2 p t.size
      typed {p = q} (el.call_by_name is calls at callee arguments own) p =
          made own.2 p (t.call (subst (CalleeSpots P) (sym callee) t.named) (passed arguments (inside q is p).1))
      typed {p = q} (el.call_by_pointer is calls f callee arguments own) p =
          made own.2 p (t.call (subst (CalleeSpots P) (sym callee) (t.pointed (value f (inside q is p).0))) (passed arguments (inside q is p).1))
      typed {p = q} (el.call_of_extern is calls at arguments own) p = made own.2 p (t.extern (passed arguments (inside q is p).1))
      typed {p = q} (el.call_of_library is calls call own) p = made own.2 p (t.library (library call (inside q is p).1))

      pub value : {p : InPlace} {t : TypedExpr} → IsValue tables folded p t → PlaceSpots p → TypedExprSpots P t
      value (el.read at reads a makes) p = made makes p (t.load (typed a p))
      value (el.first_element at is a makes) p = made makes p (t.decay (typed a p))
      value (el.itself at no_read no_array a) p = typed a p

      pub converted : {p : InPlace} {target : Ty} {t : TypedExpr} → IsConverted tables folded p target t → PlaceSpots p → TypedExprSpots P t
      converted (el.alike at same a) p = value a p
      converted (el.null at differs null makes) p = made makes p t.null
      converted (el.converted at differs null a makes) p = made makes p (t.convert (value a p))

      operand : {moves : Bool} {p : InPlace} {target : Ty} {t : TypedExpr} → IsOperand tables folded moves p target t → PlaceSpots p → TypedExprSpots P t
      operand (el.computes moves a) p = converted a p
      operand (el.constant moves at known makes) p = made makes p t.number

      passed : {passes : List Passing} {arguments : List InPlace} {xs : List TypedExpr} → ArePassed tables folded passes arguments xs → AllByRecursion PlaceSpots arguments → Each (TypedExprSpots P) xs
      passed el.no_arguments p = each_none (TypedExprSpots P)
      passed (el.to_parameter a others) p = each_more (TypedExprSpots P) _ _ (converted a p.0) (passed others p.1)
      passed (el.null_for others) p = passed others p.1
      passed (el.routine others) p = passed others p.1
      passed (el.further at a others) p = each_more (TypedExprSpots P) _ _ (converted a p.0) (passed others p.1)

      allocated : {role : Role} {p : InPlace} {element : Ty} {count : Option TypedExpr} → IsAllocated tables folded role p element count → PlaceSpots p → IfThere (TypedExprSpots P) count
      allocated (el.one_object sizeof) p = if_missing (TypedExprSpots P)
      allocated {p = q} (el.size_times is sizeof holds a) p = if_there (TypedExprSpots P) _ (converted a (inside q is p).1)
      allocated {p = q} (el.times_size is sizeof holds a) p = if_there (TypedExprSpots P) _ (converted a (inside q is p).0)
      allocated (el.bytes holds role a) p = if_there (TypedExprSpots P) _ (converted a p)

      library : {role : Role} {f : LibraryFunction} {arguments : List InPlace} {call : OpenLibraryCall} → IsLibraryCall tables folded role f arguments call → AllByRecursion PlaceSpots arguments → LibraryCallSpots P call
      library (el.listed arguments by) p = call_by by (passed arguments p)
      library (el.create {a = a} {b = b} name arguments routine at) p = let each = passed arguments p in t.create (each a (inl refl)) (each b (inr (inl refl)))
      library (el.allocate name size means) p = t.allocate (allocated size p.0)
      library (el.allocate_zeroed name count size means) p = t.allocate (if_there (TypedExprSpots P) _ (converted count p.0))
      library (el.print {format = format} name arguments) p = let each = passed arguments p in t.print (each format (inl refl)) (λ a is. each a (inr is))
