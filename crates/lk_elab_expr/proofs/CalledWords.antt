-- The names that the functions and the start routines of calls are, in parentheses and behind & (C99 6.5.1, 5; 6.5.3.2).
use Rattle.std.proofs.Common.{◌≡◌, ◌∙◌, inl, true, Option, Some, None, ℕ, refl, ap}
use Rattle.std.proofs.lemmas.Bool.{false≢true}
use Rattle.lk_tree.specs.declared.expression.DeclaratorForm.TheOpen.{ExprForm-F}
use Rattle.lk_tree.specs.declared.expression.Expr.{Expr}
use Rattle.lk_tree.specs.declared.expression.ExprForm.TheVariants as tree
use Rattle.lk_tree.specs.declared.operators.PrefixOperator.{PrefixOperator}
use Rattle.lk_tree.specs.declared.operators.PrefixOperator.TheVariants as prefix
use Rattle.lk_typed.specs.Elaborated.{InPlace}
use Rattle.lk_typed.specs.Env.{Env, Name, Role, look_up}
use Rattle.lk_typed.specs.Expressions.{expression}
use Rattle.lk_typed.specs.Forms.{role_in_address, role_in_parentheses}
use Rattle.lk_typed.specs.Typing.{Judged}
use Rattle.lk_check_expr.specs.Looks.{is_address}
use Rattle.lk_found.specs.Uses.{found_by}
use Rattle.lk_elaborator.specs.declared.elaborator.Elaborator.{Elaborator}
use Rattle.lk_elab_expr.specs.CalledWords.{HasRoutine, HasWord, IsEntityOf, IsRoutineIn}
use Rattle.lk_elab_expr.specs.Starting.{IsStarted}
use Rattle.lk_elab_expr.proofs.FormsAt.{form_at}
use Rattle.lk_elab_expr.proofs.Ruled.{judged_is}
use Rattle.lk_elab_expr.proofs.Within.{expression_at, told_by, told_of}

module _ (env : Env) (e : Expr) where
  pub word_at : (name : Name) → e.form ≡ tree.Word name → (expression e env).look.word ≡ look_up env name
  word_at name is = ap (λ (found : Judged). found.look.word) (judged_is (env, e) (ExprForm-F.Word name) (form_at (env, e) (tree.Word name) (ExprForm-F.Word name) is (tree.rolls-Word name)))

  pub word_inside : (i : Expr) → e.form ≡ tree.Paren i → (expression e env).look.word ≡ (expression i (record env { role = role_in_parentheses env.role })).look.word
  word_inside i is =
      ap (λ (found : Judged). found.look.word)
      (judged_is (env, e) (ExprForm-F.Paren (record env { role = role_in_parentheses env.role }, i)) (form_at (env, e) (tree.Paren i) (ExprForm-F.Paren i) is (tree.rolls-Paren i)))

-- a name stands for the same, whatever it stands as
pub found_as : (env : Env) (role : Role) (o : Option Name) → found_by (record env { role = role }) o ≡ found_by env o
found_as env role None = refl
found_as env role (Some name) = refl

pub has_word : (e : Expr) (name : Name) → e.form ≡ tree.Word name → HasWord e name e.ordinal
has_word e name is at_end walk f at told = record {
  word = f;
  ordinal = ap (λ (e : Expr). e.ordinal) at;
  form = form_at f (tree.Word name) (ExprForm-F.Word name) (ap (λ (e : Expr). e.form) at ∙ is) (tree.rolls-Word name);
  same = refl;
  true_of = told_of at_end walk f told;
}

pub has_word_inside : (e i : Expr) (name : Name) (n : ℕ) → e.form ≡ tree.Paren i → HasWord i name n → HasWord e name n
has_word_inside e i name n is inner at_end walk f at told =
    let q : InPlace = (record f.0 { role = role_in_parentheses f.0.role }, i) in
    let form = form_at f (tree.Paren i) (ExprForm-F.Paren i) (ap (λ (e : Expr). e.form) at ∙ is) (tree.rolls-Paren i) in
    let there = inner at_end walk q refl (told_by at_end walk f told (ExprForm-F.Paren q) (expression_at q) form (inl refl)) in
    record { word = there.word; ordinal = there.ordinal; form = there.form; same = there.same; true_of = there.true_of }

-- ---- start routines

pub has_routine : (e : Expr) → HasRoutine e e.ordinal
has_routine e at_end walk p at told = record { word = p; ordinal = ap (λ (e : Expr). e.ordinal) at; same = refl; true_of = told_of at_end walk p told }

pub has_routine_inside : (e i : Expr) (n : ℕ) → e.form ≡ tree.Paren i → HasRoutine i n → HasRoutine e n
has_routine_inside e i n is inner at_end walk p at told =
    let q : InPlace = (record p.0 { role = role_in_parentheses p.0.role }, i) in
    let form = form_at p (tree.Paren i) (ExprForm-F.Paren i) (ap (λ (e : Expr). e.form) at ∙ is) (tree.rolls-Paren i) in
    let there = inner at_end walk q refl (told_by at_end walk p told (ExprForm-F.Paren q) (expression_at q) form (inl refl)) in
    record { word = there.word; ordinal = there.ordinal; same = ap (λ (found : Judged). found.look.routine) (judged_is p (ExprForm-F.Paren q) form) ∙ there.same; true_of = there.true_of }

address_is : (o : PrefixOperator) → is_address o ≡ true → o ≡ prefix.Address
address_is prefix.Address is = refl
address_is prefix.Indirection is = absurd (false≢true is)
address_is prefix.Plus is = absurd (false≢true is)
address_is prefix.Minus is = absurd (false≢true is)
address_is prefix.Complement is = absurd (false≢true is)
address_is prefix.Not is = absurd (false≢true is)

has_routine_at : (e i : Expr) (n : ℕ) → e.form ≡ tree.Prefix prefix.Address i → HasRoutine i n → HasRoutine e n
has_routine_at e i n is inner at_end walk p at told =
    let q : InPlace = (record p.0 { role = role_in_address p.0.role }, i) in
    let form = form_at p (tree.Prefix prefix.Address i) (ExprForm-F.Prefix prefix.Address i) (ap (λ (e : Expr). e.form) at ∙ is) (tree.rolls-Prefix prefix.Address i) in
    let there = inner at_end walk q refl (told_by at_end walk p told (ExprForm-F.Prefix prefix.Address q) (expression_at q) form (inl refl)) in
    record { word = there.word; ordinal = there.ordinal; same = ap (λ (found : Judged). found.look.routine) (judged_is p (ExprForm-F.Prefix prefix.Address q) form) ∙ there.same; true_of = there.true_of }

pub has_routine_behind : (e i : Expr) (o : PrefixOperator) (n : ℕ) → is_address o ≡ true → e.form ≡ tree.Prefix o i → HasRoutine i n → HasRoutine e n
has_routine_behind e i o n address is = has_routine_at e i n (is ∙ ap (λ o. tree.Prefix o i) (address_is o address))

-- the entity of a name is that of the routine that it is
pub routine_is : (walk : Elaborator) (p : InPlace) (n e : ℕ) (in_ : IsRoutineIn walk p n) → IsEntityOf walk in_.word e → IsStarted walk p e
routine_is walk p n e in_ is = record {
  declared = is.0;
  is = in_.same ∙ ap (λ (found : Judged). found.look.routine) (judged_is in_.word (ExprForm-F.Word is.1.0) is.1.1) ∙ is.1.2;
  entity = is.2;
}
