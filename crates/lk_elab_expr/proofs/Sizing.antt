-- The arguments of a call by how many there are, and the sizes of allocations (C99 6.5.2.2, 7.20.3).
use Rattle.std.proofs.Common.{◌≡◌, ◌∙◌, ◌<◌, ◌≤◌, inl, inr, true, List, [], ◌∷◌, Option, Some, None, length, map, get_or, refl, sym, ap, arith}
use Rattle.std.specs.Prelude.{IfSome}
use Rattle.std.proofs.lemmas.Bool.{false≢true}
use Rattle.lk_tree.specs.declared.expression.Expr.{Expr}
use Rattle.lk_tree.specs.declared.expression.ExprForm.TheVariants as tree
use Rattle.lk_tree.specs.declared.operators.BinaryOperator.{BinaryOperator}
use Rattle.lk_tree.specs.declared.operators.BinaryOperator.TheVariants as binary
use Rattle.lk_tree.specs.declared.expression.DeclaratorForm.TheOpen.{ExprForm-F}
use Rattle.lk_typed.specs.Elaborated.{InPlace, form_of}
use Rattle.lk_typed.specs.Env as env
use Rattle.lk_typed.specs.Env.{Env, as_operand}
use Rattle.lk_typed.specs.Expressions.{expression}
use Rattle.lk_typed.specs.Forms.{behind}
use Rattle.lk_typed.specs.Ty.{Ty}
use Rattle.lk_check_expr.specs.Looks.{is_multiply}
use Rattle.lk_elaborator.specs.declared.elaborator.Elaborator.{Elaborator}
use Rattle.lk_elaborator.proofs.Knowing.{same_some}
use Rattle.lk_elab_expr.specs.Allocating.{IsBySizeof, IsSizeOf}
use Rattle.lk_elab_expr.specs.PassedArguments.{IsToldCall}
use Rattle.lk_elab_expr.specs.Walking.{IsToldOf, two_in}
use Rattle.lk_elab_expr.specs.declared.allocations.Count.{Count}
use Rattle.lk_elab_expr.specs.declared.allocations.Count.TheVariants as count
use Rattle.lk_elab_expr.proofs.FormsAt.{form_at}
use Rattle.lk_elab_expr.proofs.Passing.{told_argument}
use Rattle.lk_elab_expr.proofs.Within.{expression_at, told_by}

-- ---- arguments

module _ (at_end : Env) (walk : Elaborator) (p f : InPlace) where
  -- one argument
  pub record IsOne (ps : List InPlace) (e : Expr) : Type 0 where
    pub only : InPlace
    pub are : ps ≡ only ∷ []
    pub is : only.1 ≡ e
    pub told : IsToldOf at_end walk only

  -- two, by the second one
  pub record AreTwo (ps : List InPlace) (e : Expr) : Type 0 where
    pub first : InPlace
    pub second : InPlace
    pub are : ps ≡ first ∷ second ∷ []
    pub is : second.1 ≡ e
    pub told : IsToldOf at_end walk second

  -- four, by the third one
  pub record AreFour (ps : List InPlace) (e : Expr) : Type 0 where
    pub id : InPlace
    pub attribute : InPlace
    pub routine : InPlace
    pub argument : InPlace
    pub are : ps ≡ id ∷ attribute ∷ routine ∷ argument ∷ []
    pub is : routine.1 ≡ e
    pub told : IsToldOf at_end walk routine

  -- some, by the first one
  pub record AreSome (ps : List InPlace) (e : Expr) : Type 0 where
    pub first : InPlace
    pub others : List InPlace
    pub are : ps ≡ first ∷ others
    pub is : first.1 ≡ e
    pub told : IsToldOf at_end walk first

  module _ (es : List Expr) (e : Expr) where
    pub one_placed : (ps : List InPlace) → 1 ≤ length es → length es < 2 → e ≡ get_or es 0 e → IsToldCall at_end walk p f ps es → IsOne ps e
    one_placed ps least most at call = by ps call call.are
      where
        by : (ps : List InPlace) → IsToldCall at_end walk p f ps es → map (λ (a : InPlace). a.1) ps ≡ es → IsOne ps e
        by [] call are = absurd (let none = ap length are in omega (arith, least, none))
        by (a ∷ []) call are = record { only = a; are = refl; is = sym (at ∙ sym (ap (λ es. get_or es 0 e) are)); told = told_argument at_end walk p f (a ∷ []) es call 0 a refl }
        by (a ∷ b ∷ ps) call are = absurd (let many = ap length are in omega (arith, most, many))

    pub two_placed : (ps : List InPlace) → 2 ≤ length es → length es < 3 → e ≡ get_or es 1 e → IsToldCall at_end walk p f ps es → AreTwo ps e
    two_placed ps least most at call = by ps call call.are
      where
        by : (ps : List InPlace) → IsToldCall at_end walk p f ps es → map (λ (a : InPlace). a.1) ps ≡ es → AreTwo ps e
        by [] call are = absurd (let none = ap length are in omega (arith, least, none))
        by (a ∷ []) call are = absurd (let none = ap length are in omega (arith, least, none))
        by (a ∷ b ∷ []) call are =
            record { first = a; second = b; are = refl; is = sym (at ∙ sym (ap (λ es. get_or es 1 e) are)); told = told_argument at_end walk p f (a ∷ b ∷ []) es call 1 b refl }
        by (a ∷ b ∷ d ∷ ps) call are = absurd (let many = ap length are in omega (arith, most, many))

    pub four_placed : (ps : List InPlace) → 4 ≤ length es → length es < 5 → e ≡ get_or es 2 e → IsToldCall at_end walk p f ps es → AreFour ps e
    four_placed ps least most at call = by ps call call.are
      where
        by : (ps : List InPlace) → IsToldCall at_end walk p f ps es → map (λ (a : InPlace). a.1) ps ≡ es → AreFour ps e
        by [] call are = absurd (let none = ap length are in omega (arith, least, none))
        by (a ∷ []) call are = absurd (let none = ap length are in omega (arith, least, none))
        by (a ∷ b ∷ []) call are = absurd (let none = ap length are in omega (arith, least, none))
        by (a ∷ b ∷ d ∷ []) call are = absurd (let none = ap length are in omega (arith, least, none))
        by (a ∷ b ∷ d ∷ g ∷ []) call are =
            record {
              id = a;
              attribute = b;
              routine = d;
              argument = g;
              are = refl;
              is = sym (at ∙ sym (ap (λ es. get_or es 2 e) are));
              told = told_argument at_end walk p f (a ∷ b ∷ d ∷ g ∷ []) es call 2 d refl;
            }
        by (a ∷ b ∷ d ∷ g ∷ h ∷ ps) call are = absurd (let many = ap length are in omega (arith, most, many))

    pub some_placed : (ps : List InPlace) → 1 ≤ length es → e ≡ get_or es 0 e → IsToldCall at_end walk p f ps es → AreSome ps e
    some_placed ps least at call = by ps call call.are
      where
        by : (ps : List InPlace) → IsToldCall at_end walk p f ps es → map (λ (a : InPlace). a.1) ps ≡ es → AreSome ps e
        by [] call are = absurd (let none = ap length are in omega (arith, least, none))
        by (a ∷ ps) call are = record { first = a; others = ps; are = refl; is = sym (at ∙ sym (ap (λ es. get_or es 0 e) are)); told = told_argument at_end walk p f (a ∷ ps) es call 0 a refl }

-- ---- sizes

-- the factors of a product in their places
pub factors_at : (p l r : InPlace) (o by : BinaryOperator) (x y : Expr) → form_of p ≡ ExprForm-F.Binary o l r → p.1.form ≡ tree.Binary by x y → (l.1 ≡ x) × (r.1 ≡ y)
factors_at p l r o by x y form is =
    let same = same_some (ap two_in (sym form ∙ form_at p (tree.Binary by x y) (ExprForm-F.Binary by x y) is (tree.rolls-Binary by x y))) in
    (ap (λ (two : InPlace × InPlace). two.0.1) same, ap (λ (two : InPlace × InPlace). two.1.1) same)

pub by_size : (element : Ty) (r : env.Role) (p : InPlace) (by : Count) → IsBySizeof element p by → IsSizeOf element r p by
by_size element r p count.One is = is
by_size element r p count.Whole is = absurd is
by_size element r p count.Left is = is
by_size element r p count.Right is = is

pub and_some : {A : Type 0} (o : Option A) (P : A → Type 0) (Q : Type 0) → IfSome o P → Q → IfSome o (λ a. P a × Q)
and_some None P Q p q = tt
and_some (Some a) P Q p q = (p, q)

-- an operator between two operands in their places
pub record IsProductAt (at_end : Env) (walk : Elaborator) (p : InPlace) (o : BinaryOperator) (x y : Expr) : Type 0 where
  pub left : InPlace
  pub right : InPlace
  pub form : form_of p ≡ ExprForm-F.Binary o left right
  pub left_is : left.1 ≡ x
  pub right_is : right.1 ≡ y
  pub left_told : IsToldOf at_end walk left
  pub right_told : IsToldOf at_end walk right

pub product_at : (at_end : Env) (walk : Elaborator) (p : InPlace) (o : BinaryOperator) (x y : Expr) → p.1.form ≡ tree.Binary o x y → IsToldOf at_end walk p → IsProductAt at_end walk p o x y
product_at at_end walk p o x y is told =
    let l : InPlace = (as_operand p.0, x) in
    let r : InPlace = (as_operand (behind p.0 (expression x (as_operand p.0))), y) in
    let form = form_at p (tree.Binary o x y) (ExprForm-F.Binary o x y) is (tree.rolls-Binary o x y) in
    record {
      left = l;
      right = r;
      form = form;
      left_is = refl;
      right_is = refl;
      left_told = told_by at_end walk p told (ExprForm-F.Binary o l r) (expression_at l) form (inl refl);
      right_told = told_by at_end walk p told (ExprForm-F.Binary o l r) (expression_at r) form (inr (inl refl));
    }

pub multiply_is : (o : BinaryOperator) → is_multiply o ≡ true → o ≡ binary.Multiply
multiply_is binary.Multiply is = refl
multiply_is binary.Or is = absurd (false≢true is)
multiply_is binary.And is = absurd (false≢true is)
multiply_is binary.BitOr is = absurd (false≢true is)
multiply_is binary.BitXor is = absurd (false≢true is)
multiply_is binary.BitAnd is = absurd (false≢true is)
multiply_is binary.Equal is = absurd (false≢true is)
multiply_is binary.NotEqual is = absurd (false≢true is)
multiply_is binary.Less is = absurd (false≢true is)
multiply_is binary.Greater is = absurd (false≢true is)
multiply_is binary.LessEqual is = absurd (false≢true is)
multiply_is binary.GreaterEqual is = absurd (false≢true is)
multiply_is binary.ShiftLeft is = absurd (false≢true is)
multiply_is binary.ShiftRight is = absurd (false≢true is)
multiply_is binary.Add is = absurd (false≢true is)
multiply_is binary.Subtract is = absurd (false≢true is)
multiply_is binary.Divide is = absurd (false≢true is)
multiply_is binary.Remainder is = absurd (false≢true is)
