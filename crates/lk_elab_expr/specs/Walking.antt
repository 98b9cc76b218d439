-- What the walk over an expression makes of it and of what stands for its operands, where what was
-- found at the nodes in it is true.
use Rattle.std.specs.Prelude.{ℕ, ◌≡◌, Bool, Option, Some, None}
use Rattle.lk_tree.specs.declared.expression.DeclaratorForm.TheOpen.{ExprForm-F}
use Rattle.lk_tree.specs.declared.expression.Expr.{Expr}
use Rattle.lk_tree.specs.declared.expression.ExprForm.{ExprForm}
use Rattle.lk_typed.specs.Elaborated.{InPlace, PlacedForm, IsTyped, form_of}
use Rattle.lk_typed.specs.Env.{Env}
use Rattle.lk_typed.specs.Nodes.{AnExpression}
use Rattle.lk_typed.specs.Tables.{Tables}
use Rattle.lk_typed.specs.declared.expression.TypedExpr.{TypedExpr}
use Rattle.lk_typed.specs.declared.expression.TypedForm.{TypedForm, out-TypedForm}
use Rattle.lk_elaborator.specs.Leading.{Leads}
use Rattle.lk_elaborator.specs.Standing.{IsFormOf, IsOne, IsPart, IsThree, IsTwo, PartStandsAs, StandsAs}
use Rattle.lk_elaborator.specs.Telling.{IsTold}
use Rattle.lk_elaborator.specs.declared.elaborator.Elaborator.{Elaborator}
use Rattle.lk_elaborator.specs.declared.forms.One.{One}
use Rattle.lk_elaborator.specs.declared.forms.Three.{Three}
use Rattle.lk_elaborator.specs.declared.forms.Two.{Two}
use Rattle.lk_elaborator.specs.declared.parts.Part.{Part}
use Rattle.lk_elab_expr.specs.declared.ways.Way.{Way}

-- ---- the operands of a form

abbrev pub one_in : PlacedForm → Option InPlace
one_in (ExprForm-F.Comma l r) = None
one_in (ExprForm-F.Assign o l r) = None
one_in (ExprForm-F.Choice c l r) = None
one_in (ExprForm-F.Binary o l r) = None
one_in (ExprForm-F.Cast n i) = Some i
one_in (ExprForm-F.Pre o i) = Some i
one_in (ExprForm-F.Prefix o i) = Some i
one_in (ExprForm-F.SizeofExpr i) = None
one_in (ExprForm-F.SizeofType n) = None
one_in (ExprForm-F.Index l r) = None
one_in (ExprForm-F.Call f arguments) = None
one_in (ExprForm-F.Member i name) = Some i
one_in (ExprForm-F.Arrow i name) = Some i
one_in (ExprForm-F.Post o i) = Some i
one_in (ExprForm-F.Word name) = None
one_in (ExprForm-F.Number k n) = None
one_in (ExprForm-F.Char n) = None
one_in (ExprForm-F.Text bytes) = None
one_in (ExprForm-F.Paren i) = Some i

abbrev pub two_in : PlacedForm → Option (InPlace × InPlace)
two_in (ExprForm-F.Comma l r) = Some (l, r)
two_in (ExprForm-F.Assign o l r) = Some (l, r)
two_in (ExprForm-F.Choice c l r) = None
two_in (ExprForm-F.Binary o l r) = Some (l, r)
two_in (ExprForm-F.Cast n i) = None
two_in (ExprForm-F.Pre o i) = None
two_in (ExprForm-F.Prefix o i) = None
two_in (ExprForm-F.SizeofExpr i) = None
two_in (ExprForm-F.SizeofType n) = None
two_in (ExprForm-F.Index l r) = Some (l, r)
two_in (ExprForm-F.Call f arguments) = None
two_in (ExprForm-F.Member i name) = None
two_in (ExprForm-F.Arrow i name) = None
two_in (ExprForm-F.Post o i) = None
two_in (ExprForm-F.Word name) = None
two_in (ExprForm-F.Number k n) = None
two_in (ExprForm-F.Char n) = None
two_in (ExprForm-F.Text bytes) = None
two_in (ExprForm-F.Paren i) = None

-- what was found at the nodes of the expression is true
abbrev pub IsToldOf : Env → Elaborator → InPlace → Type 0
IsToldOf at_end walk p = IsTold at_end walk p.0 (AnExpression p.1)

-- ---- what is decided of a form, by the numbers of its operands

abbrev pub DecidesOneOf : Elaborator → Elaborator → ExprForm → ℕ → One → Type 0
DecidesOneOf old new form n one =
    (at_end : Env) (p i : InPlace) → p.1.form ≡ form → one_in (form_of p) ≡ Some i → i.1.ordinal ≡ n →
    IsToldOf at_end old p → (tables : Tables) → Leads new tables → (folded : Bool) →
    IsOne new.types tables folded p i one

abbrev pub DecidesTwoOf : Elaborator → Elaborator → ExprForm → ℕ → ℕ → Bool → Two → Type 0
DecidesTwoOf old new form n m folded two =
    (at_end : Env) (p l r : InPlace) → p.1.form ≡ form → two_in (form_of p) ≡ Some (l, r) → l.1.ordinal ≡ n →
    r.1.ordinal ≡ m → IsToldOf at_end old p → (tables : Tables) → Leads new tables →
    IsTwo new.types tables folded p l r two

-- ---- what is made

-- the node of the expression itself, as it stands
abbrev pub MakesItself : Elaborator → Elaborator → Expr → Way → TypedExpr → Type 0
MakesItself old new e way t =
    (at_end env : Env) → IsToldOf at_end old (env, e) → StandsAs old.types way.role env.role →
    (tables : Tables) → Leads new tables → IsTyped tables way.folded (env, e) t

-- its form
abbrev pub Forms : Elaborator → Elaborator → Expr → Way → TypedForm → Type 0
Forms old new e way form =
    (at_end env : Env) → IsToldOf at_end old (env, e) → StandsAs old.types way.role env.role →
    (tables : Tables) → Leads new tables → IsFormOf tables way.folded (env, e) (out-TypedForm form)

-- what stands for an operand
abbrev pub MakesPart : Elaborator → Elaborator → Expr → Part → Bool → TypedExpr → Type 0
MakesPart old new e part folded t =
    (at_end : Env) (i : InPlace) → i.1 ≡ e → IsToldOf at_end old i → PartStandsAs old.types part i.0.role →
    (tables : Tables) → Leads new tables → IsPart tables folded i part t

-- a form of what stands for the operands
abbrev pub FormsOfOne : Elaborator → Elaborator → Expr → One → Bool → TypedForm → Type 0
FormsOfOne old new e one folded form =
    (at_end : Env) (p i : InPlace) → i.1 ≡ e → IsToldOf at_end old i → (tables : Tables) → Leads new tables →
    IsOne old.types tables folded p i one → IsFormOf tables folded p (out-TypedForm form)

abbrev pub FormsOfTwo : Elaborator → Elaborator → Expr → Expr → Two → Bool → TypedForm → Type 0
FormsOfTwo old new left right two folded form =
    (at_end : Env) (p l r : InPlace) → l.1 ≡ left → r.1 ≡ right → IsToldOf at_end old l →
    IsToldOf at_end old r → (tables : Tables) → Leads new tables → IsTwo old.types tables folded p l r two →
    IsFormOf tables folded p (out-TypedForm form)

abbrev pub FormsOfThree : Elaborator → Elaborator → Expr → Expr → Expr → Three → Bool → TypedForm → Type 0
FormsOfThree old new condition taken other three folded form =
    (at_end : Env) (p c l r : InPlace) → c.1 ≡ condition → l.1 ≡ taken → r.1 ≡ other → IsToldOf at_end old c →
    IsToldOf at_end old l → IsToldOf at_end old r →
    (tables : Tables) → Leads new tables → IsThree old.types tables folded p c l r three →
    IsFormOf tables folded p (out-TypedForm form)

-- an expression with one operand, with two, with three
abbrev pub FormsWithOne : Elaborator → Elaborator → Expr → Expr → Bool → TypedForm → Type 0
FormsWithOne old new e operand folded form =
    (at_end : Env) (p i : InPlace) → p.1 ≡ e → one_in (form_of p) ≡ Some i → i.1 ≡ operand →
    IsToldOf at_end old p → (tables : Tables) → Leads new tables →
    IsFormOf tables folded p (out-TypedForm form)

abbrev pub FormsWithTwo : Elaborator → Elaborator → Expr → Expr → Expr → Bool → TypedForm → Type 0
FormsWithTwo old new e left right folded form =
    (at_end : Env) (p l r : InPlace) → p.1 ≡ e → two_in (form_of p) ≡ Some (l, r) → l.1 ≡ left → r.1 ≡ right →
    IsToldOf at_end old p → (tables : Tables) → Leads new tables →
    IsFormOf tables folded p (out-TypedForm form)

abbrev pub FormsChoice : Elaborator → Elaborator → ℕ → Expr → Expr → Expr → Bool → TypedForm → Type 0
FormsChoice old new n condition taken other folded form =
    (at_end : Env) (p c l r : InPlace) → p.1.ordinal ≡ n → form_of p ≡ ExprForm-F.Choice c l r →
    c.1 ≡ condition → l.1 ≡ taken → r.1 ≡ other → IsToldOf at_end old p →
    (tables : Tables) → Leads new tables → IsFormOf tables folded p (out-TypedForm form)
