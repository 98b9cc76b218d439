-- What the walk over specifiers leaves behind and finds (C99 6.7.2).
use Rattle.std.specs.Prelude.{ℕ, ◌++◌, Bool, Option, List, [], map}
use Rattle.lk_tree.specs.declared.expression.Item.{Item}
use Rattle.lk_tree.specs.declared.expression.Member.{Member}
use Rattle.lk_tree.specs.declared.expression.Specifier.{Specifier, out-Specifier}
use Rattle.lk_typed.specs.DeclarationRules.{Holder}
use Rattle.lk_typed.specs.Env.{Env, Name, extend}
use Rattle.lk_typed.specs.Expressions.{item_found, member_found, specifier_found, specifiers_found}
use Rattle.lk_typed.specs.Faults.{Breach}
use Rattle.lk_typed.specs.HolderRules.{all_specifier_rules, one_tag_rules, optional_tag_rules}
use Rattle.lk_typed.specs.Nodes.{Placed}
use Rattle.lk_typed.specs.Parts.{items_parts, members_parts, specifier_parts, specifiers_parts}
use Rattle.lk_typed.specs.Structs.{struct_begun}
use Rattle.lk_typed.specs.Told.{SpecifierTold, before_first, enum_defined, struct_begins, struct_defined, then_specifier}
use Rattle.lk_typed.specs.declared.unit.StructTag.{StructTag}
use Rattle.lk_found.specs.Begun.{definition_begun}
use Rattle.lk_found.specs.Specified.{IsGathered, IsSpecified}
use Rattle.lk_found.specs.Truth.{IsBegunAmong, IsBegunBy, NoTag}
use Rattle.lk_found.specs.declared.gathered.Gathered.{Gathered}
use Rattle.lk_found.specs.declared.gathered.Specified.{Specified}
use Rattle.lk_typed.specs.Redeclared as spec
use Rattle.lk_checker.specs.States.{operand_in, StandsIn}
use Rattle.lk_checker.specs.declared.checker.Checker.{Checker}
use Rattle.lk_check_walk.specs.Walks.{WalksOwn}

-- ---- specifiers

-- specifiers that tell this are walked and gathered behind others, with their codes; `Own` names
-- the structs that begin at them
pub record AreGathered (Own : ℕ → StructTag → Type 0) (at_end : Env) (old new : Checker) (env : Env)
    (told : SpecifierTold) (broken : List Breach) (nodes : List Placed)
    (before after : Gathered) : Type 0 where
  pub walks : WalksOwn Own at_end old new env told.additions nodes nodes
  pub gathered : (others : SpecifierTold) (codes : List Breach) → IsGathered old.types before others codes →
      IsGathered new.types after (then_specifier others told) (codes ++ broken)

-- one of them
abbrev pub Gathers : Checker → Checker → Bool → Bool → Specifier → Gathered → Gathered → Type 0
Gathers old new alone in_size s before after =
    (at_end env : Env) → StandsIn old (operand_in in_size) env →
    AreGathered (IsBegunBy (struct_begun env alone (out-Specifier s)) env) at_end old new env
    (specifier_found s env alone) (one_tag_rules env alone (out-Specifier s))
    (specifier_parts env (out-Specifier s)) before after

-- `struct tag { members }`
abbrev pub GathersStruct : Checker → Checker → Bool → Option Name → List Member → Gathered → Gathered → Type 0
GathersStruct old new in_size tag ms before after =
    (at_end env : Env) → StandsIn old (operand_in in_size) env →
    AreGathered (IsBegunBy (definition_begun env tag) env) at_end old new env
    (struct_defined env tag (map member_found ms)) (optional_tag_rules env spec.DefinesStruct tag)
    (members_parts (extend env (struct_begins env tag)) [] ms) before after

-- `enum tag { items }`
abbrev pub GathersEnum : Checker → Checker → Bool → Option Name → List Item → Gathered → Gathered → Type 0
GathersEnum old new in_size tag is before after =
    (at_end env : Env) → StandsIn old (operand_in in_size) env →
    AreGathered NoTag at_end old new env (enum_defined env tag (map item_found is))
    (optional_tag_rules env spec.DefinesEnum tag) (items_parts env before_first is) before after

-- all of a list
pub record AreSpecified (at_end : Env) (old new : Checker) (env : Env) (holder : Holder) (alone : Bool)
    (ss : List Specifier) (result : Specified) : Type 0 where
  pub walks : WalksOwn (IsBegunAmong alone env ss) at_end old new env
      (specifiers_found ss env alone).additions (specifiers_parts alone env ss)
      (specifiers_parts alone env ss)
  pub specified : IsSpecified new.types holder result (specifiers_found ss env alone)
      (all_specifier_rules holder alone env ss)

abbrev pub Specifies : Checker → Checker → Holder → Bool → Bool → List Specifier → Specified → Type 0
Specifies old new holder alone in_size ss result =
    (at_end env : Env) → StandsIn old (operand_in in_size) env →
    AreSpecified at_end old new env holder alone ss result
