-- What the walk over the members of a struct leaves behind and finds (C99 6.7.2.1).
use Rattle.std.specs.Prelude.{ℕ, ◌≡◌, Bool, false, Option, List, [], ◌∷◌, map}
use Rattle.std.specs.Option.{option_map}
use Rattle.lk_tree.specs.declared.expression.Declarator.{Declarator}
use Rattle.lk_tree.specs.declared.expression.Expr.{Expr}
use Rattle.lk_tree.specs.declared.expression.Member.{Member}
use Rattle.lk_tree.specs.declared.expression.MemberDeclarator.{MemberDeclarator, out-MemberDeclarator}
use Rattle.lk_typed.specs.DeclarationRules.{InType, type_in}
use Rattle.lk_typed.specs.Env.{Env}
use Rattle.lk_typed.specs.Expressions.{member_declarator_found, member_found}
use Rattle.lk_typed.specs.Layers.{declarators_in_turn}
use Rattle.lk_typed.specs.Meaning.{meaning}
use Rattle.lk_typed.specs.NodeParts.{member_part, members_in_turn as nodes_in_turn, type_part}
use Rattle.lk_typed.specs.NodeRules.{are_typed}
use Rattle.lk_typed.specs.Nodes.{AMember, AnExpression, IsMember, Placed, at}
use Rattle.lk_typed.specs.Parts.{members_parts}
use Rattle.lk_typed.specs.Told.{MemberTold, SpecifierTold, members_in_turn, then_member}
use Rattle.lk_found.specs.declared.fields.MembersFound.{MembersFound}
use Rattle.lk_found.specs.MembersOf.{AreMembers, found_of, width_told}
use Rattle.lk_checker.specs.States.{operand_in, StandsIn}
use Rattle.lk_checker.specs.declared.checker.Checker.{Checker}
use Rattle.lk_check_walk.specs.Walks.{Walks}

-- ---- members, behind others

-- what tells this is walked
pub record AreFound (at_end : Env) (old new : Checker) (env : Env) (others told : MemberTold)
    (nodes : List Placed) (after : MembersFound) : Type 0 where
  pub walks : Walks at_end old new env told.additions nodes
  pub members : AreMembers new.types after (then_member others told)

-- in each environment in which this state is, behind each members that are so
abbrev pub Finds : Checker → Checker → Bool → (Env → MemberTold → MemberTold) →
    (Env → MemberTold → List Placed) → MembersFound → MembersFound → Type 0
Finds old new in_size told nodes before after =
    (at_end env : Env) (others : MemberTold) → StandsIn old (operand_in in_size) env →
    AreMembers old.types before others →
    AreFound at_end old new env others (told env others) (nodes env others) after

-- one member
abbrev pub FindsMember : Checker → Checker → Bool → Member → MembersFound → MembersFound → Type 0
FindsMember old new in_size m before after =
    Finds old new in_size (λ env others. member_found m env others.fields)
    (λ env others. at env (AMember others.fields m) ∷ []) before after

-- all of a struct
pub record AreAll (at_end : Env) (old new : Checker) (env : Env) (ms : List Member)
    (found : MembersFound) : Type 0 where
  pub walks : Walks at_end old new env (members_in_turn (map member_found ms) env []).additions
      (members_parts env [] ms)
  pub members : AreMembers new.types found (members_in_turn (map member_found ms) env [])

abbrev pub FindsAll : Checker → Checker → Bool → List Member → MembersFound → Type 0
FindsAll old new in_size ms found = (at_end env : Env) → StandsIn old (operand_in in_size) env →
    AreAll at_end old new env ms found

-- ---- declarators of members, behind specifiers that tell this

-- whether the widths among the nodes have types
pub record AreDeclared (at_end : Env) (old new : Checker) (env : Env) (others told : MemberTold)
    (nodes : List Placed) (after : MembersFound) (is_typed : Bool) : Type 0 where
  pub found : AreFound at_end old new env others told nodes after
  pub typed : is_typed ≡ are_typed nodes

abbrev pub Declares : Checker → Checker → Bool → Option ℕ → (SpecifierTold → Env → MemberTold → MemberTold) →
    (SpecifierTold → Env → MemberTold → List Placed) → MembersFound → MembersFound → Bool → Type 0
Declares old new in_size left told nodes before after typed =
    (at_end env : Env) (specified : SpecifierTold) (others : MemberTold) →
    StandsIn old (operand_in in_size) env → option_map (meaning old.types) left ≡ type_in InType specified →
    AreMembers old.types before others →
    AreDeclared at_end old new env others (told specified env others) (nodes specified env others) after typed

abbrev pub DeclaresMember : Checker → Checker → Bool → Option ℕ → MemberDeclarator → MembersFound →
    MembersFound → Bool → Type 0
DeclaresMember old new in_size left d before after typed =
    Declares old new in_size left
    (λ specified env others. member_declarator_found d env (type_in InType specified) others.fields)
    (λ specified env others. member_part env specified others.fields (out-MemberDeclarator d))
    before after typed

abbrev pub DeclaresMembers : Checker → Checker → Bool → Option ℕ → List MemberDeclarator → MembersFound →
    MembersFound → Bool → Type 0
DeclaresMembers old new in_size left ds before after typed =
    Declares old new in_size left
    (λ specified env others. declarators_in_turn (map member_declarator_found ds) env (type_in InType specified) others.fields)
    (λ specified env others. nodes_in_turn specified env others.fields ds) before after typed

abbrev pub DeclaresField : Checker → Checker → Bool → Option ℕ → Bool → Declarator → MembersFound →
    MembersFound → Type 0
DeclaresField old new in_size left bit_field d before after =
    (at_end env : Env) (specified : SpecifierTold) (others : MemberTold) →
    StandsIn old (operand_in in_size) env → option_map (meaning old.types) left ≡ type_in InType specified →
    AreMembers old.types before others →
    AreFound at_end old new env others (found_of bit_field d env (type_in InType specified) others.fields)
    (type_part env specified false (IsMember others.fields) d ∷ []) after

abbrev pub DeclaresWidth : Checker → Checker → Bool → Expr → MembersFound → MembersFound → Bool → Type 0
DeclaresWidth old new in_size e before after typed =
    (at_end env : Env) (others : MemberTold) → StandsIn old (operand_in in_size) env →
    AreMembers old.types before others →
    AreDeclared at_end old new env others (width_told e env) (at env (AnExpression e) ∷ []) after typed
