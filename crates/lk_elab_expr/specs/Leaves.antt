-- Names and sizes as expressions (C99 6.5.1, 6.5.3.4).
use Rattle.std.specs.Prelude.{ℕ, ◌≡◌, ⊤, Some}
use Rattle.lk_tree.specs.declared.expression.DeclaratorForm.TheOpen.{ExprForm-F}
use Rattle.lk_typed.specs.Elaborated.{PlacedForm}
use Rattle.lk_typed.specs.declared.expression.Storage.{Storage}
use Rattle.lk_typed.specs.declared.expression.Storage.TheVariants.{Entity, Local}
use Rattle.lk_typed.specs.declared.names.Duration.{Duration}
use Rattle.lk_typed.specs.declared.names.Duration.TheVariants.{Static, Automatic}
use Rattle.lk_elaborator.specs.Leading.{entity_by, local_by}
use Rattle.lk_elaborator.specs.declared.elaborator.Elaborator.{Elaborator}

-- it is that of the object that a node declares
abbrev pub IsStorage : Elaborator → Duration → ℕ → Storage → Type 0
IsStorage walk Static n (Entity e) = entity_by walk n ≡ Some e
IsStorage walk Static n (Local l) = ⊥
IsStorage walk Automatic n (Entity e) = ⊥
IsStorage walk Automatic n (Local l) = local_by walk n ≡ Some l

abbrev pub IsSizeofForm : PlacedForm → Type 0
IsSizeofForm (ExprForm-F.Comma l r) = ⊥
IsSizeofForm (ExprForm-F.Assign o l r) = ⊥
IsSizeofForm (ExprForm-F.Choice c l r) = ⊥
IsSizeofForm (ExprForm-F.Binary o l r) = ⊥
IsSizeofForm (ExprForm-F.Cast n i) = ⊥
IsSizeofForm (ExprForm-F.Pre o i) = ⊥
IsSizeofForm (ExprForm-F.Prefix o i) = ⊥
IsSizeofForm (ExprForm-F.SizeofExpr i) = ⊤
IsSizeofForm (ExprForm-F.SizeofType n) = ⊤
IsSizeofForm (ExprForm-F.Index l r) = ⊥
IsSizeofForm (ExprForm-F.Call f arguments) = ⊥
IsSizeofForm (ExprForm-F.Member i name) = ⊥
IsSizeofForm (ExprForm-F.Arrow i name) = ⊥
IsSizeofForm (ExprForm-F.Post o i) = ⊥
IsSizeofForm (ExprForm-F.Word name) = ⊥
IsSizeofForm (ExprForm-F.Number k n) = ⊥
IsSizeofForm (ExprForm-F.Char n) = ⊥
IsSizeofForm (ExprForm-F.Text bytes) = ⊥
IsSizeofForm (ExprForm-F.Paren i) = ⊥
