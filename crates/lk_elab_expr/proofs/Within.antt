-- What was found at the nodes of an expression is true of it and of its parts.
use Rattle.std.proofs.Common.{◌≡◌, ◌∙◌, inl, inr, Option, Some, List, [], ◌∷◌, map, sym, ap, subst}
use Rattle.lk_tree.specs.declared.expression.DeclaratorForm.TheOpen.{ExprForm-F}
use Rattle.lk_tree.specs.declared.expression.Expr.{Expr}
use Rattle.lk_tree.specs.declared.expression.TypeName.{TypeName}
use Rattle.lk_typed.specs.Elaborated.{InPlace, PlacedForm, form_of}
use Rattle.lk_typed.specs.Env.{Env}
use Rattle.lk_typed.specs.Expressions.{at_pair}
use Rattle.lk_typed.specs.Forms.{in_place, parts_in}
use Rattle.lk_typed.specs.Nodes.{AnExpression, ATypeName, Placed, at}
use Rattle.lk_typed.specs.Stands.{IsIn}
use Rattle.lk_typed.specs.Stands.Stands.{here, inside}
use Rattle.lk_elaborator.specs.Telling.{IsTold, IsTrueOf, IsTrueOfName}
use Rattle.lk_elaborator.specs.declared.elaborator.Elaborator.{Elaborator}
use Rattle.lk_elaborator.proofs.Knowing.{same_some, some_none}
use Rattle.lk_elab_expr.specs.Walking.{IsToldOf, one_in, two_in}

abbrev pub parts_of : PlacedForm → List Placed
parts_of form = map at_pair (parts_in (in_place AnExpression) (in_place ATypeName) form)

abbrev pub expression_at : InPlace → Placed
expression_at i = at i.0 (AnExpression i.1)

one_inside : (form : PlacedForm) (i : InPlace) → one_in form ≡ Some i → IsIn (expression_at i) (parts_of form)
one_inside (ExprForm-F.Comma l r) i e = absurd (some_none e)
one_inside (ExprForm-F.Assign o l r) i e = absurd (some_none e)
one_inside (ExprForm-F.Choice c l r) i e = absurd (some_none e)
one_inside (ExprForm-F.Binary o l r) i e = absurd (some_none e)
one_inside (ExprForm-F.Cast n j) i e = inr (inl (ap expression_at (sym (same_some e))))
one_inside (ExprForm-F.Pre o j) i e = inl (ap expression_at (sym (same_some e)))
one_inside (ExprForm-F.Prefix o j) i e = inl (ap expression_at (sym (same_some e)))
one_inside (ExprForm-F.SizeofExpr j) i e = absurd (some_none e)
one_inside (ExprForm-F.SizeofType n) i e = absurd (some_none e)
one_inside (ExprForm-F.Index l r) i e = absurd (some_none e)
one_inside (ExprForm-F.Call f arguments) i e = absurd (some_none e)
one_inside (ExprForm-F.Member j name) i e = inl (ap expression_at (sym (same_some e)))
one_inside (ExprForm-F.Arrow j name) i e = inl (ap expression_at (sym (same_some e)))
one_inside (ExprForm-F.Post o j) i e = inl (ap expression_at (sym (same_some e)))
one_inside (ExprForm-F.Word name) i e = absurd (some_none e)
one_inside (ExprForm-F.Number k n) i e = absurd (some_none e)
one_inside (ExprForm-F.Char n) i e = absurd (some_none e)
one_inside (ExprForm-F.Text bytes) i e = absurd (some_none e)
one_inside (ExprForm-F.Paren j) i e = inl (ap expression_at (sym (same_some e)))

pub record AreInside (l r : InPlace) (parts : List Placed) : Type 0 where
  pub left : IsIn (expression_at l) parts
  pub right : IsIn (expression_at r) parts

both_inside : (j k l r : InPlace) → ◌≡◌ {A = Option (InPlace × InPlace)} (Some (j, k)) (Some (l, r)) → AreInside l r (expression_at j ∷ expression_at k ∷ [])
both_inside j k l r e =
    let same = same_some e in
    record {
      left = inl (ap (λ (two : InPlace × InPlace). expression_at two.0) (sym same));
      right = inr (inl (ap (λ (two : InPlace × InPlace). expression_at two.1) (sym same)));
    }

two_inside : (form : PlacedForm) (l r : InPlace) → two_in form ≡ Some (l, r) → AreInside l r (parts_of form)
two_inside (ExprForm-F.Comma j k) l r e = both_inside j k l r e
two_inside (ExprForm-F.Assign o j k) l r e = both_inside j k l r e
two_inside (ExprForm-F.Choice c j k) l r e = absurd (some_none e)
two_inside (ExprForm-F.Binary o j k) l r e = both_inside j k l r e
two_inside (ExprForm-F.Cast n j) l r e = absurd (some_none e)
two_inside (ExprForm-F.Pre o j) l r e = absurd (some_none e)
two_inside (ExprForm-F.Prefix o j) l r e = absurd (some_none e)
two_inside (ExprForm-F.SizeofExpr j) l r e = absurd (some_none e)
two_inside (ExprForm-F.SizeofType n) l r e = absurd (some_none e)
two_inside (ExprForm-F.Index j k) l r e = both_inside j k l r e
two_inside (ExprForm-F.Call f arguments) l r e = absurd (some_none e)
two_inside (ExprForm-F.Member j name) l r e = absurd (some_none e)
two_inside (ExprForm-F.Arrow j name) l r e = absurd (some_none e)
two_inside (ExprForm-F.Post o j) l r e = absurd (some_none e)
two_inside (ExprForm-F.Word name) l r e = absurd (some_none e)
two_inside (ExprForm-F.Number k n) l r e = absurd (some_none e)
two_inside (ExprForm-F.Char n) l r e = absurd (some_none e)
two_inside (ExprForm-F.Text bytes) l r e = absurd (some_none e)
two_inside (ExprForm-F.Paren j) l r e = absurd (some_none e)

module _ (at_end : Env) (walk : Elaborator) (p : InPlace) (told : IsToldOf at_end walk p) where
  pub told_itself : IsTrueOf walk p
  told_itself = told.expressions p.0 p.1 here

  pub told_part : (part : Placed) → IsIn part (parts_of (form_of p)) → IsTold at_end walk part.env part.node
  told_part part is = record {
    ready = told.ready;
    expressions = λ e' x stands. told.expressions e' x (inside part is stands);
    names = λ e' n stands. told.names e' n (inside part is stands);
  }

  pub told_one : (i : InPlace) → one_in (form_of p) ≡ Some i → IsToldOf at_end walk i
  told_one i is = told_part (expression_at i) (one_inside (form_of p) i is)

  pub told_left : (l r : InPlace) → two_in (form_of p) ≡ Some (l, r) → IsToldOf at_end walk l
  told_left l r is = told_part (expression_at l) (two_inside (form_of p) l r is).left

  pub told_right : (l r : InPlace) → two_in (form_of p) ≡ Some (l, r) → IsToldOf at_end walk r
  told_right l r is = told_part (expression_at r) (two_inside (form_of p) l r is).right

  -- a part of a form
  pub told_by : (form : PlacedForm) (part : Placed) → form_of p ≡ form → IsIn part (parts_of form) → IsTold at_end walk part.env part.node
  told_by form part is within = told_part part (subst (λ form. IsIn part (parts_of form)) (sym is) within)

pub told_name : (at_end : Env) (walk : Elaborator) (n : Env × TypeName) → IsTold at_end walk n.0 (ATypeName n.1) → IsTrueOfName walk n
told_name at_end walk n told = told.names n.0 n.1 here

pub told_of : (at_end : Env) (walk : Elaborator) (p : InPlace) → IsToldOf at_end walk p → IsTrueOf walk p
told_of at_end walk p told = told.expressions p.0 p.1 here

-- a form with its operand
pub one_form : (p i j : InPlace) (Form : InPlace → PlacedForm) → ((k : InPlace) → one_in (Form k) ≡ Some k) → form_of p ≡ Form j → one_in (form_of p) ≡ Some i → form_of p ≡ Form i
one_form p i j Form has is at = subst (λ k. form_of p ≡ Form k) (same_some (sym (has j) ∙ sym (ap one_in is) ∙ at)) is

pub two_form : (p l r j k : InPlace) (Form : InPlace → InPlace → PlacedForm) → ((j k : InPlace) → two_in (Form j k) ≡ Some (j, k)) → form_of p ≡ Form j k → two_in (form_of p) ≡ Some (l, r) →
    form_of p ≡ Form l r
two_form p l r j k Form has is at = subst (λ (two : InPlace × InPlace). form_of p ≡ Form two.0 two.1) (same_some (sym (has j k) ∙ sym (ap two_in is) ∙ at)) is

-- the same of an expression that is one in its place
pub placed_of : (at_end : Env) (walk : Elaborator) (i : InPlace) (e : Expr) → i.1 ≡ e → IsToldOf at_end walk i → IsToldOf at_end walk (i.0, e)
placed_of at_end walk i e same told = subst (λ e. IsToldOf at_end walk (i.0, e)) same told
