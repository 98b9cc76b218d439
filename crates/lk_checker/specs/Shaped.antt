-- The codes of the forms of a declarator are kept while its type is made (C99 6.7.5).
use Rattle.std.specs.Prelude.{◌≡◌, ◌||◌, List, ℕ, Bool, not, Option, All, IfSome, length, option_map, reverse}
use Rattle.lk_typed.specs.MemberRules.{is_over}
use Rattle.lk_typed.specs.Told.{Span}
use Rattle.lk_rules.specs.Keeping.{KeepsCodes, Kept}
use Rattle.lk_found.specs.Keepings.{KeepsEach}
use Rattle.lk_found.specs.Shapes.{made_of, rules_of, type_by}
use Rattle.lk_found.specs.declared.shapes.Left.{Left}
use Rattle.lk_found.specs.Shaped.{FormAt, shaped, is_large_shape, codes_by, type_in, IsLeft, forms_in, IsKnownAt}
use Rattle.lk_base.specs.declared.code.Code.TheVariants.{LargeType}
use Rattle.lk_tree.specs.declared.expression.Declarator.{Declarator}
use Rattle.lk_typed.specs.DeclaratorRules.{unless}
use Rattle.lk_typed.specs.Meaning.{meaning}
use Rattle.lk_typed.specs.NodeRules.{mark}
use Rattle.lk_names.specs.Growing.{IsKnownLeft}
use Rattle.lk_found.specs.declared.declarators.DeclaratorFound.{DeclaratorFound}
use Rattle.lk_found.specs.declared.walked.Walked.{Walked}
use Rattle.lk_types.specs.Table.{IsKnown}
use Rattle.lk_checker.specs.States.{kept_in, IsIn}
use Rattle.lk_checker.specs.declared.checker.Checker.{Checker}

-- one form made a type of the one on the left
pub record IsStep (old new : Checker) (span : Span) (f : FormAt) (left made : Left) : Type 0 where
  pub type : type_in new.types made ≡ type_by span f.form (type_in old.types left)
  pub large : made.is_large
      ≡ (left.is_large || is_over span.behind (made_of f.form span (type_in old.types left)))
  pub element : IsLeft new.types span made
  pub keeps : KeepsCodes (kept_in old) f.mark (rules_of f.form span (type_in old.types left)) (kept_in new)

-- so did forms one after another
pub record IsShaped (old new : Checker) (span : Span) (fs : List FormAt) (left made : Left) : Type 0 where
  pub type : type_in new.types made ≡ shaped span fs (type_in old.types left)
  pub large : made.is_large ≡ (left.is_large || is_large_shape span fs (type_in old.types left))
  pub element : IsLeft new.types span made
  pub keeps : KeepsEach (kept_in old) (codes_by span fs (type_in old.types left)) (kept_in new)

-- the types of its forms and of its parameters are in the table
pub record IsKnownWalked (new : Checker) (walked : Walked) : Type 0 where
  pub layers : All (IsKnownAt new.types) walked.layers.items
  pub parameters : IfSome walked.parameters (IsKnownLeft new.types (length new.names.structs))

-- ---- the type behind the forms

-- the forms made it, and 32 is kept
pub record IsTypeShaped (old new : Checker) (span : Span) (d : Declarator) (fs : List FormAt) (left : Left)
    (ty : Option ℕ) : Type 0 where
  pub type : option_map (meaning new.types) ty ≡ shaped span fs (type_in old.types left)
  pub middle : Kept
  pub forms : KeepsEach (kept_in old) (codes_by span fs (type_in old.types left)) middle
  pub large : KeepsCodes middle (mark d.spot d.ordinal)
      (unless (not (is_large_shape span fs (type_in old.types left))) LargeType) (kept_in new)

-- behind those that were walked, of a type on the left that is within its bounds
pub record IsWholeShaped (old new : Checker) (d : Declarator) (walked : Walked) (left : Left)
    (may_be_absent : Bool) (found : DeclaratorFound) : Type 0 where
  pub holds_sizeof : found.holds_sizeof ≡ walked.holds_sizeof
  pub parameters : found.parameters ≡ walked.parameters
  pub type : (span : Span) → IsIn old span.behind → IsLeft old.types span left →
      span.may_be_absent ≡ may_be_absent →
      IsTypeShaped old new span d (reverse (forms_in old.types walked.layers.items)) left found.ty

-- its types are in the table, and the structs of its tags are known
pub record IsKnownFound (new : Checker) (found : DeclaratorFound) : Type 0 where
  pub type : IfSome found.ty (IsKnown new.types)
  pub parameters : IfSome found.parameters (IsKnownLeft new.types (length new.names.structs))
