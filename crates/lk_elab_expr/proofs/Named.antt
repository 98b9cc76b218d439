-- Names and sizes as expressions (C99 6.5.1, 6.5.3.4).
use Rattle.std.proofs.Common.{◌≡◌, ◌∙◌, ◌≤ℤ◌, Bool, Some, ℕ, ℤ, negsuc, unsigned_abs, sym, ap, arith}
use Rattle.std.specs.Prelude.{pos}
use Rattle.lk_tree.specs.declared.expression.DeclaratorForm.TheOpen.{ExprForm-F}
use Rattle.lk_typed.specs.Elaborated.{InPlace, IsTyped, PlacedForm, form_of, typing_at}
use Rattle.lk_typed.specs.Elaborated.IsSizeof.{of_expression, of_type}
use Rattle.lk_typed.specs.Elaborated.IsTyped.{static_object, local_object, function, enumerator, size}
use Rattle.lk_typed.specs.Names.{meaning_in}
use Rattle.lk_typed.specs.Tables.{Tables}
use Rattle.lk_typed.specs.Typing.{Typing}
use Rattle.lk_typed.specs.declared.constant.Constant.TheVariants as constant
use Rattle.lk_typed.specs.declared.expression.Callee.TheOpen.{TypedForm-F}
use Rattle.lk_typed.specs.declared.expression.Storage.{Storage}
use Rattle.lk_typed.specs.declared.expression.Storage.TheVariants as storage
use Rattle.lk_typed.specs.declared.expression.TypedExpr.{TypedExpr}
use Rattle.lk_typed.specs.declared.names.Duration.{Duration}
use Rattle.lk_typed.specs.declared.names.Duration.TheVariants.{Static, Automatic}
use Rattle.lk_typed.specs.declared.names.Meaning.TheVariants as means
use Rattle.lk_found.specs.declared.records.Meant.{Meant}
use Rattle.lk_elaborator.specs.Leading.{Leads, entity_by, local_by}
use Rattle.lk_elaborator.specs.Standing.{MakesOwn}
use Rattle.lk_elaborator.specs.Telling.{IsMeant}
use Rattle.lk_elaborator.specs.declared.elaborator.Elaborator.{Elaborator}
use Rattle.lk_elab_expr.specs.Leaves.{IsSizeofForm, IsStorage}
use Rattle.lk_elab_expr.proofs.Ruled.{size_of_expression, size_of_type}

module _ (walk : Elaborator) (tables : Tables) (folded : Bool) (p : InPlace) (t : TypedExpr) (m : Meant) (is : IsMeant walk.types p m) where
  pub object_is : Leads walk tables → (ty : ℕ) (lasts : Duration) → m.meaning ≡ means.Object ty lasts → (at : Storage) → IsStorage walk lasts m.ordinal at → MakesOwn tables p (TypedForm-F.Object at) t →
      IsTyped tables folded p t
  object_is leads ty Static same (storage.Entity e) at makes =
      static_object is.stands (is.meaning ∙ ap (meaning_in walk.types) same) (leads.entities is.declared.ordinal e (ap (entity_by walk) is.ordinal ∙ at)) makes
  object_is leads ty Static same (storage.Local l) at makes = absurd at
  object_is leads ty Automatic same (storage.Entity e) at makes = absurd at
  object_is leads ty Automatic same (storage.Local l) at makes =
      local_object is.stands (is.meaning ∙ ap (meaning_in walk.types) same) (leads.locals is.declared.ordinal l (ap (local_by walk) is.ordinal ∙ at)).1 makes

  pub function_is : Leads walk tables → (ty : ℕ) → m.meaning ≡ means.Function ty → (e : ℕ) → entity_by walk m.ordinal ≡ Some e → MakesOwn tables p (TypedForm-F.TypedForm::Function e) t → IsTyped tables folded p t
  function_is leads ty same e at makes =
      function is.stands (is.meaning ∙ ap (meaning_in walk.types) same) (leads.entities is.declared.ordinal e (ap (entity_by walk) is.ordinal ∙ at)) makes

  pub enumerator_is : (z : ℤ) → m.meaning ≡ means.Enumerator z → MakesOwn tables p (TypedForm-F.Number z) t → IsTyped tables folded p t
  enumerator_is z same makes = enumerator is.stands (is.meaning ∙ ap (meaning_in walk.types) same) makes

-- ---- sizeof

pub abs_is : (z : ℤ) (n : ℕ) → pos 0 ≤ℤ z → n ≡ unsigned_abs z → z ≡ pos n
abs_is (pos m) n le e = ap pos (sym e)
abs_is (negsuc m) n le e = absurd (omega (arith, le))

module _ (tables : Tables) (folded : Bool) (p : InPlace) (x : Typing) (n : ℕ) (t : TypedExpr) (own : typing_at p ≡ Some x) (is : x.constant ≡ constant.Known (pos n))
    (makes : MakesOwn tables p (TypedForm-F.Size n) t) where
  pub size_is : (form : PlacedForm) → form_of p ≡ form → IsSizeofForm form → IsTyped tables folded p t
  size_is (ExprForm-F.Comma l r) form bad = absurd bad
  size_is (ExprForm-F.Assign o l r) form bad = absurd bad
  size_is (ExprForm-F.Choice c l r) form bad = absurd bad
  size_is (ExprForm-F.Binary o l r) form bad = absurd bad
  size_is (ExprForm-F.Cast n i) form bad = absurd bad
  size_is (ExprForm-F.Pre o i) form bad = absurd bad
  size_is (ExprForm-F.Prefix o i) form bad = absurd bad
  size_is (ExprForm-F.SizeofExpr i) form sized = let by = size_of_expression p x n own is i form in size (of_expression form by.1) by.2 makes
  size_is (ExprForm-F.SizeofType name) form sized = let by = size_of_type p x n own is name form in size (of_type form by.1) by.2 makes
  size_is (ExprForm-F.Index l r) form bad = absurd bad
  size_is (ExprForm-F.Call f arguments) form bad = absurd bad
  size_is (ExprForm-F.Member i name) form bad = absurd bad
  size_is (ExprForm-F.Arrow i name) form bad = absurd bad
  size_is (ExprForm-F.Post o i) form bad = absurd bad
  size_is (ExprForm-F.Word name) form bad = absurd bad
  size_is (ExprForm-F.Number k n) form bad = absurd bad
  size_is (ExprForm-F.Char n) form bad = absurd bad
  size_is (ExprForm-F.Text bytes) form bad = absurd bad
  size_is (ExprForm-F.Paren i) form bad = absurd bad
