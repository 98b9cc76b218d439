-- What a call of an allocating function allocates (C99 7.20.3).
use Rattle.std.specs.Prelude.{ℕ, ◌≡◌, Bool, true, false, Option, Some, None, List, [], ◌∷◌, IfSome, codes, if◌then◌else◌}
use Rattle.lk_types.specs.Table.{Table, IsKnown}
use Rattle.lk_tree.specs.declared.expression.DeclaratorForm.TheOpen.{ExprForm-F}
use Rattle.lk_tree.specs.declared.expression.Expr.{Expr}
use Rattle.lk_tree.specs.declared.operators.BinaryOperator.{BinaryOperator}
use Rattle.lk_tree.specs.declared.operators.BinaryOperator.TheVariants as binary
use Rattle.lk_typed.specs.Elaborated.{InPlace, ALibraryFunction, IsConverted, IsSizeof, called, form_of, holds_sizeof}
use Rattle.lk_typed.specs.Env as env
use Rattle.lk_typed.specs.Env.{Env, Name}
use Rattle.lk_typed.specs.Library.{LibraryFunction}
use Rattle.lk_typed.specs.Meaning.{meaning, meaning_of}
use Rattle.lk_typed.specs.Tables.{Tables}
use Rattle.lk_typed.specs.Ty.{Ty, Pointer, size_type}
use Rattle.lk_typed.specs.declared.expression.TypedExpr.{TypedExpr}
use Rattle.lk_typed.specs.declared.expression.TypedForm.{TypedForm, out-TypedForm}
use Rattle.lk_typed.specs.declared.role.Role.{Role}
use Rattle.lk_typed.specs.declared.typed.ExprType.{ExprType}
use Rattle.lk_elaborator.specs.Leading.{Leads}
use Rattle.lk_elaborator.specs.Standing.{IsFormOf, StandsAs}
use Rattle.lk_elaborator.specs.declared.elaborator.Elaborator.{Elaborator}
use Rattle.lk_elab_expr.specs.PassedArguments.{IsToldCall}
use Rattle.lk_elab_expr.specs.Walking.{IsToldOf}
use Rattle.lk_elab_expr.specs.declared.allocations.Allocation.{Allocation}
use Rattle.lk_elab_expr.specs.declared.allocations.Count.{Count}
use Rattle.lk_elab_expr.specs.declared.allocations.Count.TheVariants as count
use Rattle.lk_elab_expr.specs.declared.allocations.Size.{Size}

-- ---- the size

-- it counts elements of this type by a sizeof
abbrev pub IsBySizeof : Ty → InPlace → Count → Type 0
IsBySizeof element p count.One = IsSizeof p element
IsBySizeof element p count.Whole = ⊥
IsBySizeof element p count.Left =
    (n : InPlace) × (s : InPlace) × (form_of p ≡ ExprForm-F.Binary binary.Multiply n s) × IsSizeof s element
    × (holds_sizeof n ≡ false)
IsBySizeof element p count.Right =
    (s : InPlace) × (n : InPlace) × (form_of p ≡ ExprForm-F.Binary binary.Multiply s n) × IsSizeof s element
    × (holds_sizeof n ≡ false)

-- or it counts bytes, of a call that stands as this
abbrev pub IsSizeOf : Ty → env.Role → InPlace → Count → Type 0
IsSizeOf element r p count.One = IsBySizeof element p count.One
IsSizeOf element r p count.Whole = (holds_sizeof p ≡ false) × (r ≡ env.ConvertedTo (Pointer element))
IsSizeOf element r p count.Left = IsBySizeof element p count.Left
IsSizeOf element r p count.Right = IsBySizeof element p count.Right

-- a sizeof beside what holds none
abbrev pub CountsBeside : Elaborator → Expr → Expr → Option ExprType → Type 0
CountsBeside walk size other counted =
    (at_end : Env) (s n : InPlace) → s.1 ≡ size → n.1 ≡ other → IsToldOf at_end walk s →
    IsToldOf at_end walk n →
    IfSome counted (λ ty. IsSizeof s (meaning_of walk.types ty) × (holds_sizeof n ≡ false))

abbrev pub IsProductBy : Elaborator → BinaryOperator → Expr → Expr → Option Size → Type 0
IsProductBy walk o left right size =
    (at_end : Env) (p l r : InPlace) → form_of p ≡ ExprForm-F.Binary o l r → l.1 ≡ left → r.1 ≡ right →
    IsToldOf at_end walk l → IsToldOf at_end walk r →
    IfSome size (λ size. IsBySizeof (meaning_of walk.types size.element) p size.count)

abbrev pub IsProduct : Elaborator → Expr → Expr → Option Size → Type 0
IsProduct walk left right size = IsProductBy walk binary.Multiply left right size

abbrev pub CountsBySizeof : Elaborator → Expr → Option Size → Type 0
CountsBySizeof walk e size =
    (at_end : Env) (p : InPlace) → p.1 ≡ e → IsToldOf at_end walk p →
    IfSome size (λ size. IsBySizeof (meaning_of walk.types size.element) p size.count)

abbrev pub IsByteBehind : Elaborator → Role → ExprType → Type 0
IsByteBehind walk role ty = (r : env.Role) → StandsAs walk.types role r →
    r ≡ env.ConvertedTo (Pointer (meaning_of walk.types ty))

abbrev pub SaysSize : Elaborator → Expr → Role → Size → Type 0
SaysSize walk e role size =
    (at_end : Env) (p : InPlace) → p.1 ≡ e → IsToldOf at_end walk p → (r : env.Role) →
    StandsAs walk.types role r → IsSizeOf (meaning_of walk.types size.element) r p size.count

-- the number of the type whose bytes a sizeof counts
abbrev pub IsElement : Elaborator → Elaborator → Expr → ℕ → Type 0
IsElement old new size t = (at_end : Env) (s : InPlace) → s.1 ≡ size → IsToldOf at_end old s →
    IsSizeof s (meaning new.types t)

-- ---- the allocation

abbrev pub allocating : Bool → Name
allocating false = codes "malloc"
allocating true = codes "calloc"

-- the arguments of a call that stands as this
abbrev pub AreSizes : Bool → Ty → env.Role → Count → List InPlace → Type 0
AreSizes false element r by ps = (size : InPlace) × (ps ≡ size ∷ []) × IsSizeOf element r size by
AreSizes true element r by ps =
    (whole : InPlace) × (size : InPlace) × (ps ≡ whole ∷ size ∷ []) × IsSizeof size element
    × (by ≡ count.Whole)

pub record IsAllocation (table : Table) (r : env.Role) (ps : List InPlace) (a : Allocation) : Type 0 where
  pub element : Ty
  pub known : IsKnown table a.element
  pub means : meaning table a.element ≡ element
  pub sizes : AreSizes a.zeroed element r a.count ps

abbrev pub SizesAllocation : Elaborator → Elaborator → List Expr → Role → Allocation → Type 0
SizesAllocation old new arguments role a =
    (at_end : Env) (p f : InPlace) (ps : List InPlace) → IsToldCall at_end old p f ps arguments →
    StandsAs old.types role p.0.role → IsAllocation new.types p.0.role ps a

-- whatever the call stands as
abbrev pub SizesZeroed : Elaborator → Elaborator → List Expr → Allocation → Type 0
SizesZeroed old new arguments a =
    (at_end : Env) (p f : InPlace) (ps : List InPlace) → IsToldCall at_end old p f ps arguments →
    IsAllocation new.types p.0.role ps a

-- a call of an allocating function
pub record IsAllocating (table : Table) (p f : InPlace) (ps : List InPlace) (a : Allocation) : Type 0 where
  pub row : LibraryFunction
  pub is : called p.0 f ≡ ALibraryFunction row
  pub name : row.name ≡ allocating a.zeroed
  pub allocation : IsAllocation table p.0.role ps a

-- ---- how many elements there are

abbrev pub Counts : Tables → Bool → InPlace → Option TypedExpr → Type 0
Counts tables folded p c = (a : TypedExpr) × (c ≡ Some a) × IsConverted tables folded p size_type a

abbrev pub CountsAll : Elaborator → Elaborator → Expr → Bool → Option TypedExpr → Type 0
CountsAll old new e folded c =
    (at_end : Env) (p : InPlace) → p.1 ≡ e → IsToldOf at_end old p → (tables : Tables) → Leads new tables →
    Counts tables folded p c

abbrev pub CountsFactor : Elaborator → Elaborator → Expr → Bool → Bool → Option TypedExpr → Type 0
CountsFactor old new e is_left folded c =
    (at_end : Env) (p l r : InPlace) (o : BinaryOperator) → p.1 ≡ e → IsToldOf at_end old p →
    form_of p ≡ ExprForm-F.Binary o l r → (tables : Tables) → Leads new tables →
    Counts tables folded (if is_left then l else r) c

abbrev pub AreCounted : Tables → Bool → InPlace → Count → Option TypedExpr → Type 0
AreCounted tables folded p count.One c = c ≡ None
AreCounted tables folded p count.Whole c = Counts tables folded p c
AreCounted tables folded p count.Left c = (l r : InPlace) (o : BinaryOperator) →
    form_of p ≡ ExprForm-F.Binary o l r → Counts tables folded l c
AreCounted tables folded p count.Right c = (l r : InPlace) (o : BinaryOperator) →
    form_of p ≡ ExprForm-F.Binary o l r → Counts tables folded r c

abbrev pub CountsElements : Elaborator → Elaborator → Expr → Count → Bool → Option TypedExpr → Type 0
CountsElements old new e by folded c =
    (at_end : Env) (p : InPlace) → p.1 ≡ e → IsToldOf at_end old p → (tables : Tables) → Leads new tables →
    AreCounted tables folded p by c

abbrev pub FormsAllocation : Elaborator → Elaborator → Allocation → List Expr → Bool → TypedForm → Type 0
FormsAllocation old new a arguments folded form =
    (at_end : Env) (p f : InPlace) (ps : List InPlace) → IsToldCall at_end old p f ps arguments →
    IsAllocating old.types p f ps a → (tables : Tables) → Leads new tables →
    IsFormOf tables folded p (out-TypedForm form)
