-- One layer of a statement, an item of a block, an initialiser or an entry of one, by what the code matches on.
use Rattle.std.proofs.Common.{◌≡◌, ◌∙◌, List, Option, sym, ap}
use Rattle.lk_tree.specs.declared.declaration.Declare.{Declare}
use Rattle.lk_tree.specs.declared.expression.Expr.{Expr}
use Rattle.lk_tree.specs.declared.statement.BlockItem.TheOpen.{BlockItem-F, StmtForm-F}
use Rattle.lk_tree.specs.declared.statement.BlockItem.{BlockItem, out-BlockItem, out-roll-BlockItem}
use Rattle.lk_tree.specs.declared.statement.BlockItem.TheVariants as item
use Rattle.lk_tree.specs.declared.statement.ForFirst.{ForFirst}
use Rattle.lk_tree.specs.declared.statement.Stmt.{Stmt}
use Rattle.lk_tree.specs.declared.statement.StmtForm.{StmtForm, out-StmtForm, out-roll-StmtForm}
use Rattle.lk_tree.specs.declared.statement.StmtForm.TheVariants as form
use Rattle.std.specs.Prelude.{ℕ}

pub a_label : (f : StmtForm) (name : List ℕ) (inner : Stmt) → f ≡ form.Label name inner → out-StmtForm f ≡ StmtForm-F.Label name inner
a_label f name inner is = ap out-StmtForm (is ∙ sym (form.rolls-Label name inner)) ∙ out-roll-StmtForm (StmtForm-F.Label name inner)

pub a_case : (f : StmtForm) (e : Expr) (inner : Stmt) → f ≡ form.Case e inner → out-StmtForm f ≡ StmtForm-F.Case e inner
a_case f e inner is = ap out-StmtForm (is ∙ sym (form.rolls-Case e inner)) ∙ out-roll-StmtForm (StmtForm-F.Case e inner)

pub a_default : (f : StmtForm) (inner : Stmt) → f ≡ form.Default inner → out-StmtForm f ≡ StmtForm-F.Default inner
a_default f inner is = ap out-StmtForm (is ∙ sym (form.rolls-Default inner)) ∙ out-roll-StmtForm (StmtForm-F.Default inner)

pub a_block : (f : StmtForm) (items : List BlockItem) → f ≡ form.Block items → out-StmtForm f ≡ StmtForm-F.Block items
a_block f items is = ap out-StmtForm (is ∙ sym (form.rolls-Block items)) ∙ out-roll-StmtForm (StmtForm-F.Block items)

pub a_do : (f : StmtForm) (e : Option Expr) → f ≡ form.Do e → out-StmtForm f ≡ StmtForm-F.Do e
a_do f e is = ap out-StmtForm (is ∙ sym (form.rolls-Do e)) ∙ out-roll-StmtForm (StmtForm-F.Do e)

pub an_if : (f : StmtForm) (e : Expr) (taken : Stmt) (other : Option Stmt) → f ≡ form.If e taken other → out-StmtForm f ≡ StmtForm-F.If e taken other
an_if f e taken other is = ap out-StmtForm (is ∙ sym (form.rolls-If e taken other)) ∙ out-roll-StmtForm (StmtForm-F.If e taken other)

pub a_switch : (f : StmtForm) (e : Expr) (inner : Stmt) → f ≡ form.Switch e inner → out-StmtForm f ≡ StmtForm-F.Switch e inner
a_switch f e inner is = ap out-StmtForm (is ∙ sym (form.rolls-Switch e inner)) ∙ out-roll-StmtForm (StmtForm-F.Switch e inner)

pub a_while : (f : StmtForm) (e : Expr) (inner : Stmt) → f ≡ form.While e inner → out-StmtForm f ≡ StmtForm-F.While e inner
a_while f e inner is = ap out-StmtForm (is ∙ sym (form.rolls-While e inner)) ∙ out-roll-StmtForm (StmtForm-F.While e inner)

pub an_until : (f : StmtForm) (inner : Stmt) (e : Expr) → f ≡ form.Until inner e → out-StmtForm f ≡ StmtForm-F.Until inner e
an_until f inner e is = ap out-StmtForm (is ∙ sym (form.rolls-Until inner e)) ∙ out-roll-StmtForm (StmtForm-F.Until inner e)

pub a_for : (f : StmtForm) (start : ForFirst) (condition step : Option Expr) (inner : Stmt) → f ≡ form.For start condition step inner → out-StmtForm f ≡ StmtForm-F.For start condition step inner
a_for f start condition step inner is = ap out-StmtForm (is ∙ sym (form.rolls-For start condition step inner)) ∙ out-roll-StmtForm (StmtForm-F.For start condition step inner)

pub a_goto : (f : StmtForm) (name : List ℕ) → f ≡ form.Goto name → out-StmtForm f ≡ StmtForm-F.Goto name
a_goto f name is = ap out-StmtForm (is ∙ sym (form.rolls-Goto name)) ∙ out-roll-StmtForm (StmtForm-F.Goto name)

pub a_continue : (f : StmtForm) → f ≡ form.Continue → out-StmtForm f ≡ StmtForm-F.Continue
a_continue f is = ap out-StmtForm (is ∙ sym form.rolls-Continue) ∙ out-roll-StmtForm StmtForm-F.Continue

pub a_break : (f : StmtForm) → f ≡ form.Break → out-StmtForm f ≡ StmtForm-F.Break
a_break f is = ap out-StmtForm (is ∙ sym form.rolls-Break) ∙ out-roll-StmtForm StmtForm-F.Break

pub a_return : (f : StmtForm) (e : Option Expr) → f ≡ form.Return e → out-StmtForm f ≡ StmtForm-F.Return e
a_return f e is = ap out-StmtForm (is ∙ sym (form.rolls-Return e)) ∙ out-roll-StmtForm (StmtForm-F.Return e)

pub a_declaration : (i : BlockItem) (node : Declare) → i ≡ item.Declare node → out-BlockItem i ≡ BlockItem-F.Declare node
a_declaration i node is = ap out-BlockItem (is ∙ sym (item.rolls-Declare node)) ∙ out-roll-BlockItem (BlockItem-F.Declare node)

pub a_statement : (i : BlockItem) (inner : Stmt) → i ≡ item.Stmt inner → out-BlockItem i ≡ BlockItem-F.Stmt inner
a_statement i inner is = ap out-BlockItem (is ∙ sym (item.rolls-Stmt inner)) ∙ out-roll-BlockItem (BlockItem-F.Stmt inner)
