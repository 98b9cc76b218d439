-- A local is one of the rules, where what was found of its address is true of the source (C99 6.2.5, 21).
use Rattle.std.proofs.Common.{◌≡◌, ◌∙◌, ◌++◌, ℕ, true, List, Option, Some, None, refl, sym, ap, subst}
use Rattle.std.proofs.lemmas.Option.{none-some}
use Rattle.std.specs.Map.{lookup}
use Rattle.std.specs.Prelude.{nat_eq}
use Rattle.lk_tree.specs.declared.expression.DeclaratorForm.TheOpen.{ExprForm-F}
use Rattle.lk_tree.specs.declared.operators.PrefixOperator.{PrefixOperator}
use Rattle.lk_tree.specs.declared.operators.PrefixOperator.TheVariants as prefix
use Rattle.lk_tree.specs.declared.statement.Unit.{Unit}
use Rattle.lk_types.specs.declared.c_type.CType.{CType}
use Rattle.lk_typed.proofs.Means.{means_meaning}
use Rattle.lk_typed.specs.Elaborated.{InPlace, PlacedForm, form_of}
use Rattle.lk_typed.specs.Env.{Declared, Name}
use Rattle.lk_typed.specs.Expressions.{expression}
use Rattle.lk_typed.specs.Locals.{IsAddressTaken, IsLocalOf}
use Rattle.lk_typed.specs.Meaning.{meaning}
use Rattle.lk_typed.specs.Nodes.{AnExpression}
use Rattle.lk_typed.specs.Operators.{is_scalar}
use Rattle.lk_typed.specs.Ty.{Means, Ty}
use Rattle.lk_typed.specs.Units.{IsNode}
use Rattle.lk_typed.specs.Units.IsNode.{node_of}
use Rattle.lk_typed.specs.declared.entity.Use.{Use}
use Rattle.lk_typed.specs.declared.unit.Local.{Local}
use Rattle.lk_found.specs.Uses.{address_by, address_in}
use Rattle.lk_elaborator.proofs.Numbers.{means_on}
use Rattle.lk_elaborator.specs.PuttingLocals.{IsLocalSo}
use Rattle.lk_elaborator.specs.declared.elaborator.Elaborator.{Elaborator}
use Rattle.lk_elab_init.specs.Source.{IsToldSource}
use Rattle.lk_elaborate.proofs.ToldSource.{entry_found}

-- ---- the name whose address an expression takes

Takes : PlacedForm → Declared → Type 0
Takes form declared = (operand : InPlace) × (form ≡ ExprForm-F.Prefix prefix.Address operand) × ((expression operand.1 operand.0).look.word ≡ Some declared)

taken_by : (op : PrefixOperator) (operand : InPlace) (declared : Declared) → address_by op operand ≡ Some declared → Takes (ExprForm-F.Prefix op operand) declared
unfolding Takes
taken_by prefix.Address operand declared is = (operand, refl, is)
taken_by prefix.Indirection operand declared is = absurd (none-some declared is)
taken_by prefix.Plus operand declared is = absurd (none-some declared is)
taken_by prefix.Minus operand declared is = absurd (none-some declared is)
taken_by prefix.Complement operand declared is = absurd (none-some declared is)
taken_by prefix.Not operand declared is = absurd (none-some declared is)

takes : (form : PlacedForm) (declared : Declared) → address_in form ≡ Some declared → Takes form declared
takes (ExprForm-F.Comma left right) declared is = absurd (none-some declared is)
takes (ExprForm-F.Assign op left right) declared is = absurd (none-some declared is)
takes (ExprForm-F.Choice condition taken other) declared is = absurd (none-some declared is)
takes (ExprForm-F.Binary op left right) declared is = absurd (none-some declared is)
takes (ExprForm-F.Cast type operand) declared is = absurd (none-some declared is)
takes (ExprForm-F.Pre op operand) declared is = absurd (none-some declared is)
takes (ExprForm-F.Prefix op operand) declared is = taken_by op operand declared is
takes (ExprForm-F.SizeofExpr operand) declared is = absurd (none-some declared is)
takes (ExprForm-F.SizeofType type) declared is = absurd (none-some declared is)
takes (ExprForm-F.Index array inner) declared is = absurd (none-some declared is)
takes (ExprForm-F.Call function arguments) declared is = absurd (none-some declared is)
takes (ExprForm-F.Member object member) declared is = absurd (none-some declared is)
takes (ExprForm-F.Arrow pointer member) declared is = absurd (none-some declared is)
takes (ExprForm-F.Post op operand) declared is = absurd (none-some declared is)
takes (ExprForm-F.Word name) declared is = absurd (none-some declared is)
takes (ExprForm-F.Number kind number) declared is = absurd (none-some declared is)
takes (ExprForm-F.Char number) declared is = absurd (none-some declared is)
takes (ExprForm-F.Text bytes) declared is = absurd (none-some declared is)
takes (ExprForm-F.Paren inner) declared is = absurd (none-some declared is)

module _ (externs : List Name) (unit : Unit) (walk : Elaborator) (told : IsToldSource externs unit walk) where
  abbrev use_at : ℕ → Option Use
  use_at n = lookup (nat_eq n) walk.records.taken

  -- an entry is of an expression of the source
  entry_takes : (n : ℕ) (used : Use) → use_at n ≡ Some used → IsAddressTaken externs unit n
  unfolding Takes
  entry_takes n used there =
      let inside = told.taken.truth n used (entry_found walk.records.taken n used there) in
      let of = inside.is_so in
      let taken = takes (form_of (inside.env, of.e)) of.declared of.found in
      record {
        env = inside.env;
        e = of.e;
        stands = subst (IsNode externs unit inside.env) of.is (node_of inside.outer inside.among inside.stands);
        operand = taken.0;
        is_address = taken.1;
        declared = of.declared;
        names = taken.2;
        of = of.number;
      }

  -- an expression of the source has an entry
  has_entry : (n : ℕ) → IsAddressTaken externs unit n → (used : Use) × (use_at n ≡ Some used)
  has_entry n is = by_node is.stands
    where
      by_node : IsNode externs unit is.env (AnExpression is.e) → (used : Use) × (use_at n ≡ Some used)
      by_node (node_of external among stands) =
          let use_ = told.taken.each external among is.env is.e is.declared stands (ap address_in is.is_address ∙ is.names) in
          (use_.0, subst (λ n. use_at n ≡ Some use_.0) is.of use_.1)

  untaken_by : (n : ℕ) → (IsAddressTaken externs unit n → ⊥) → (o : Option Use) → use_at n ≡ o → use_at n ≡ None
  untaken_by n never None is = is
  untaken_by n never (Some used) is = absurd (never (entry_takes n used is))

  never_taken : (n : ℕ) → use_at n ≡ None → IsAddressTaken externs unit n → ⊥
  never_taken n none is = let has = has_entry n is in none-some has.0 (sym none ∙ has.1)

  -- in tables that begin with the types so far
  pub local_of : (more : List CType) (local : Local) (t : Ty) → IsLocalSo walk local → meaning walk.types local.ty ≡ t → IsLocalOf externs unit (walk.types.types ++ more) t local
  local_of more local t so is = record {
    type = subst (Means (walk.types.types ++ more) local.ty) is (means_on walk.types.types more (means_meaning walk.types told.ready.table_is local.ty so.known));
    slot = (
      λ slot. let both = so.slot.0 slot in (subst (λ t. is_scalar t ≡ true) is both.0, never_taken local.ordinal both.1),
      λ both. so.slot.1 (subst (λ t. is_scalar t ≡ true) (sym is) both.0, untaken_by local.ordinal both.1 (use_at local.ordinal) refl),
    );
  }
