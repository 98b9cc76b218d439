-- The rules of what specifiers stand in: declarations, definitions, members, enumerators, parameters and
-- type names (C99 6.7, 6.7.2).
use Rattle.std.specs.Prelude.{◌||◌, ◌++◌, Bool, true, false, Option, Some, None, List, [], ◌∷◌, if◌then◌else◌, ℤ, pos, ◌+ℤ◌}
use Rattle.lk_base.specs.declared.code.Code.TheVariants.{Incomplete, NotConstant, BitField}
use Rattle.lk_tree.specs.declared.declaration.Declare.{Declare}
use Rattle.lk_tree.specs.declared.expression.DeclaratorForm.TheOpen.{MemberDeclarator-F, Specifier-F}
use Rattle.lk_tree.specs.declared.expression.DeclaratorForm.{DeclaratorForm}
use Rattle.lk_tree.specs.declared.expression.Declarator.{Declarator}
use Rattle.lk_tree.specs.declared.expression.Expr.{Expr}
use Rattle.lk_tree.specs.declared.expression.ExprForm.{ExprForm}
use Rattle.lk_tree.specs.declared.expression.Item.{Item}
use Rattle.lk_tree.specs.declared.expression.Member.{Member}
use Rattle.lk_tree.specs.declared.expression.MemberDeclarator.{MemberDeclarator, out-MemberDeclarator}
use Rattle.lk_tree.specs.declared.expression.Parameter.{Parameter}
use Rattle.lk_tree.specs.declared.expression.Specifier.{Specifier, out-Specifier}
use Rattle.lk_tree.specs.declared.expression.TypeName.{TypeName}
use Rattle.lk_typed.specs.DeclarationRules.{Holder, InDeclaration, InType, specifier_rules}
use Rattle.lk_typed.specs.Declarations.{is_alone}
use Rattle.lk_typed.specs.Env.{Env, Name, Tag, extend, look_up_tag}
use Rattle.lk_typed.specs.Faults.{Breach, breach}
use Rattle.lk_typed.specs.Redeclared.{DefinesStruct, DefinesEnum, NamesEnum, TagUse, tag_rules}
use Rattle.lk_typed.specs.Told.{in_int, struct_use, with_optional}
use Rattle.lk_typed.specs.declared.constant.Constant.{Constant}
use Rattle.lk_typed.specs.Typing.{known_value}
use Rattle.lk_typed.specs.Expressions.{expr_constant, specifiers_found}

-- ---- tags (C99 6.7.2.2, 6.7.2.3): 21, and 25 of an enumeration that isn't defined

abbrev pub optional_tag_rules : Env → TagUse → Option Name → List Breach
optional_tag_rules env wanted None = []
optional_tag_rules env wanted (Some name) = tag_rules env wanted name

abbrev pub enum_rules : Env → Name → Option Tag → List Breach
enum_rules env name None = breach Incomplete ∷ []
enum_rules env name (Some tag) = tag_rules env NamesEnum name

abbrev pub one_tag_rules : Env → Bool →
    Specifier-F DeclaratorForm ExprForm MemberDeclarator Specifier Declarator Expr Item Member Parameter
    TypeName → List Breach
one_tag_rules env alone (Specifier-F.Storage word) = []
one_tag_rules env alone Specifier-F.Inline = []
one_tag_rules env alone (Specifier-F.Qualifier word) = []
one_tag_rules env alone (Specifier-F.Type word) = []
one_tag_rules env alone (Specifier-F.Struct tag members) = optional_tag_rules env DefinesStruct tag
one_tag_rules env alone (Specifier-F.StructTag tag) = tag_rules env (struct_use alone) tag
one_tag_rules env alone (Specifier-F.Enum tag items) = optional_tag_rules env DefinesEnum tag
one_tag_rules env alone (Specifier-F.EnumTag tag) = enum_rules env tag (look_up_tag env tag)
one_tag_rules env alone (Specifier-F.Typedef name) = []

abbrev pub tags_rules : Bool → Env → List Specifier → List Breach
tags_rules alone env [] = []
tags_rules alone env (s ∷ ss) =
    one_tag_rules env alone (out-Specifier s) ++
    tags_rules alone (extend env (specifiers_found (s ∷ []) env alone).additions) ss

-- 21, 22 and 25 of specifiers
abbrev pub all_specifier_rules : Holder → Bool → Env → List Specifier → List Breach
all_specifier_rules holder alone env ss =
    tags_rules alone env ss ++ specifier_rules holder (specifiers_found ss env alone)

-- ---- declarations

-- what hides these rules stands with the nodes of a source: a fault in an initialiser that is an expression
abbrev pub declaration_rules : Env → Declare → List Breach
declaration_rules env node = all_specifier_rules InDeclaration (is_alone node.declarators) env node.specifiers

-- ---- members, enumerators, parameters and type names

-- 30: a bit-field (C99 6.7.2.1, 8)
abbrev pub is_bit_field : MemberDeclarator-F DeclaratorForm ExprForm MemberDeclarator Specifier Declarator
    Expr Item Member Parameter TypeName → Bool
is_bit_field (MemberDeclarator-F.Plain inner) = false
is_bit_field (MemberDeclarator-F.Field inner width) = true
is_bit_field (MemberDeclarator-F.Unnamed width) = true

abbrev pub has_bit_field : List MemberDeclarator → Bool
has_bit_field [] = false
has_bit_field (d ∷ ds) = is_bit_field (out-MemberDeclarator d) || has_bit_field ds

abbrev pub member_node_rules : Env → Member → List Breach
member_node_rules env m =
    all_specifier_rules InType false env m.specifiers ++
    (if has_bit_field m.declarators then breach BitField ∷ [] else [])

-- 24 of an enumerator's value: it isn't constant, or int doesn't hold it (C99 6.7.2.2, 2); None: none is
-- known for the enumerator before
abbrev pub fits_int : Option ℤ → List Breach
fits_int None = breach NotConstant ∷ []
fits_int (Some z) = []

abbrev pub written_rules : Option Constant → List Breach
written_rules None = []
written_rules (Some c) = fits_int (with_optional None in_int (known_value c))

-- one more than the enumerator before; after a faulty one nothing is asked
abbrev pub counted_rules : Option ℤ → List Breach
counted_rules None = []
counted_rules (Some z) = fits_int (in_int (z +ℤ pos 1))

abbrev pub item_rules : Env → Option ℤ → Option Expr → List Breach
item_rules env before None = counted_rules before
item_rules env before (Some e) = written_rules (expr_constant e env)
