-- Members of a struct that are walked one after another.
use Rattle.std.proofs.Common.{◌≡◌, ◌∙◌, ◌++◌, ℕ, Bool, true, false, List, [], ◌∷◌, Option, Some, None, map, refl, sym, ap, subst, append_assoc, IfSome}
use Rattle.std.specs.Prelude.{◌&&◌, ◌||◌, if◌then◌else◌, is_some, slice_get}
use Rattle.std.specs.Option.{option_map}
use Rattle.std.proofs.lemmas.List.{append-nil}
use Rattle.lk_base.specs.declared.code.Code.TheVariants.{BitField}
use Rattle.lk_types.specs.Building.{IsLonger, IsTable}
use Rattle.lk_types.specs.Table.{IsKnown}
use Rattle.lk_types.proofs.GrowLemmas.{longer_same}
use Rattle.lk_tree.specs.declared.expression.Declarator.{Declarator}
use Rattle.lk_tree.specs.declared.expression.Expr.{Expr}
use Rattle.lk_tree.specs.declared.expression.Member.{Member}
use Rattle.lk_tree.specs.declared.expression.MemberDeclarator.{MemberDeclarator, out-MemberDeclarator, out-roll-MemberDeclarator, roll-MemberDeclarator}
use Rattle.lk_typed.specs.DeclarationRules.{InType, type_in}
use Rattle.lk_typed.specs.Env.{Additions, Env, Field, both, extend}
use Rattle.lk_typed.specs.Expressions.{declarator_found, expression, member_declarator_found, member_found, specifiers_found}
use Rattle.lk_typed.specs.Faults.{Breach, breach}
use Rattle.lk_typed.specs.HolderRules.{all_specifier_rules, has_bit_field}
use Rattle.lk_typed.specs.Layers.{declarators_in_turn, faulty_member, field_unless, type_made}
use Rattle.lk_typed.specs.Meaning.{meaning}
use Rattle.lk_typed.specs.MemberRules.{large_struct_rules, member_rules}
use Rattle.lk_typed.specs.NodeParts.{member_part, members_in_turn as nodes_in_turn, type_part, parts, type_left}
use Rattle.lk_typed.specs.NodeRules.{are_typed, breaches, mark}
use Rattle.lk_typed.specs.Nodes.{ADeclarator, AMember, AnExpression, IsMember, Placed, at}
use Rattle.lk_typed.specs.Parts.{members_parts, specifiers_parts}
use Rattle.lk_typed.specs.Sizes.{is_broken}
use Rattle.lk_typed.specs.Telling.{of_member_declarator}
use Rattle.lk_typed.specs.Told.{MemberTold, Named, SpecifierTold, members_in_turn, no_member, then_member}
use Rattle.lk_typed.specs.Ty.{Ty}
use Rattle.lk_typed.specs.Typings.{field_in}
use Rattle.lk_names.specs.InScope.{InScope}
use Rattle.lk_rules.proofs.Kept.{codes_are_kept_behind_parts}
use Rattle.lk_rules.proofs.Layered.{member_declarators_follow_their_forms, members_follow_their_parts}
use Rattle.lk_rules.proofs.Parts.{members_are_asked, types_of_parts_in_turn}
use Rattle.lk_rules.specs.Keeping.{KeepsCodes, KeepsNodes}
use Rattle.lk_rules.specs.LayerLaws.{MemberDeclaratorTree, member_declarator_parts_told}
use Rattle.lk_found.specs.Truth.{IsBegunAmong, NoTag}
use Rattle.lk_found.proofs.FieldsGrow.{members_grow}
use Rattle.lk_found.proofs.Gathering.{or_false}
use Rattle.lk_found.proofs.Shaping.{known_stays}
use Rattle.lk_found.specs.Declarators.{KeepsUse, left_of}
use Rattle.lk_found.specs.Keepings.{KeepsEach}
use Rattle.lk_found.specs.MembersOf.{AreMembers, HasFields, found_of, member_codes, member_of, width_told}
use Rattle.lk_found.specs.Specified.{breaches_in}
use Rattle.lk_found.specs.Findings.{mark_at}
use Rattle.lk_found.specs.declared.declarators.Asked.{Asked}
use Rattle.lk_found.specs.declared.declarators.DeclaratorFound.{DeclaratorFound}
use Rattle.lk_found.specs.declared.fields.MembersFound.{MembersFound}
use Rattle.lk_found.specs.declared.found.At.{At}
use Rattle.lk_found.specs.declared.found.Found.{Found}
use Rattle.lk_found.specs.declared.gathered.Specified.{Specified}
use Rattle.lk_checker.proofs.KeepsAll.{in_same, sound_same}
use Rattle.lk_checker.proofs.NamedTypes.{type_stays}
use Rattle.lk_checker.specs.MembersOf.{PutsMember}
use Rattle.lk_checker.specs.Moves.{IsSame, KeepsAt, IsFurther}
use Rattle.lk_checker.specs.States.{operand_in, IsIn, IsSound, StandsIn, kept_in}
use Rattle.lk_checker.specs.declared.checker.Checker.{Checker}
use Rattle.lk_checker.proofs.GoingOn.{stands_behind}
use Rattle.lk_check_walk.proofs.Counts.{operand_holds, operand_typed, operand_walks}
use Rattle.lk_check_walk.proofs.Gathers.{both_assoc, both_nothing, or_assoc}
use Rattle.lk_check_walk.proofs.Inside.{use_kept}
use Rattle.lk_check_walk.proofs.Walking.{no_walk, then_walks, walks_then}
use Rattle.lk_check_walk.proofs.Truth.{truth_still, told_of_node, told_still}
use Rattle.lk_check_walk.specs.Declarators.{IsDeclared}
use Rattle.lk_check_walk.specs.MembersOf.{AreAll, AreDeclared, AreFound, DeclaresField, DeclaresMember, DeclaresMembers, DeclaresWidth, FindsAll, FindsMember}
use Rattle.lk_check_walk.specs.Specifying.{AreSpecified}
use Rattle.lk_check_walk.specs.Walking.{IsJudged}
use Rattle.lk_check_walk.specs.Walks.{Walks}

-- ---- what members tell together

and_assoc : (a b c : Bool) → ((a && b) && c) ≡ (a && (b && c))
and_assoc true b c = refl
and_assoc false b c = refl

and_true : (a : Bool) → (a && true) ≡ a
and_true true = refl
and_true false = refl

and_false : (a : Bool) → (a && false) ≡ false
and_false true = refl
and_false false = refl

same_member : {a b : Additions} {xs ys : List Field} {s t h g : Bool} → a ≡ b → xs ≡ ys → s ≡ t → h ≡ g →
    ◌≡◌ {A = MemberTold} (record { additions = a; fields = xs; sound = s; holds_sizeof = h }) (record { additions = b; fields = ys; sound = t; holds_sizeof = g })
same_member p q r s = cc

member_assoc : (a b c : MemberTold) → then_member (then_member a b) c ≡ then_member a (then_member b c)
member_assoc a b c =
    same_member (both_assoc a.additions b.additions c.additions) (append_assoc a.fields b.fields c.fields)
    (and_assoc a.sound b.sound c.sound) (or_assoc a.holds_sizeof b.holds_sizeof c.holds_sizeof)

member_none : (a : MemberTold) → then_member a no_member ≡ a
member_none a = same_member (both_nothing a.additions) (append-nil a.fields) (and_true a.sound) (or_false a.holds_sizeof)

-- ---- found one after another

pub none_found : (at_end : Env) (checker : Checker) (env : Env) (others : MemberTold) (found : MembersFound) → IsSound checker → IsIn checker env → AreMembers checker.types found others →
    AreFound at_end checker checker env others no_member [] found
none_found at_end checker env others found sound is members = record {
  walks = no_walk at_end checker env sound is;
  members = subst (AreMembers checker.types found) (sym (member_none others)) members;
}

pub then_found : (at_end : Env) (old middle new : Checker) (env : Env) (others a b : MemberTold) (ps qs : List Placed) (between after : MembersFound) →
    AreFound at_end old middle env others a ps between → AreFound at_end middle new (extend env a.additions) (then_member others a) b qs after →
    AreFound at_end old new env others (then_member a b) (ps ++ qs) after
then_found at_end old middle new env others a b ps qs between after f g = record {
  walks = then_walks at_end old middle new env a.additions b.additions ps qs f.walks g.walks;
  members = subst (AreMembers new.types after) (member_assoc others a b) g.members;
}

pub then_declared : (at_end : Env) (old middle new : Checker) (env : Env) (others a b : MemberTold) (ps qs : List Placed) (between after : MembersFound) (p q : Bool) →
    AreDeclared at_end old middle env others a ps between p → AreDeclared at_end middle new (extend env a.additions) (then_member others a) b qs after q →
    AreDeclared at_end old new env others (then_member a b) (ps ++ qs) after (p && q)
then_declared at_end old middle new env others a b ps qs between after p q f g = record {
  found = then_found at_end old middle new env others a b ps qs between after f.found g.found;
  typed = ap (λ x. x && q) f.typed ∙ ap (λ x. are_typed ps && x) g.typed ∙ sym (types_of_parts_in_turn ps qs);
}

-- ---- the members of a struct

pub record AreMembersLeft (at_end : Env) (old now : Checker) (env : Env) (in_size : Bool) (ms rest : List Member) (between : MembersFound) : Type 0 where
  pub here : Env
  pub others : MemberTold
  pub stands : StandsIn now (operand_in in_size) here
  pub members : AreMembers now.types between others
  pub all : (new : Checker) (after : MembersFound) →
      AreFound at_end now new here others (members_in_turn (map member_found rest) here others.fields) (members_parts here others.fields rest) after → AreAll at_end old new env ms after

abbrev pub LeavesMembers : Checker → Checker → Bool → List Member → List Member → MembersFound → Type 0
LeavesMembers old now in_size ms rest between = (at_end env : Env) → StandsIn old (operand_in in_size) env → AreMembersLeft at_end old now env in_size ms rest between

pub leaves_all : (checker : Checker) (in_size : Bool) (ms : List Member) (found : MembersFound) → AreMembers checker.types found no_member → LeavesMembers checker checker in_size ms ms found
leaves_all checker in_size ms found members at_end env stands = record {
  here = env;
  others = no_member;
  stands = stands;
  members = members;
  all = λ new after all. record { walks = all.walks; members = record { fields = all.members.fields; sound = all.members.sound; holds_sizeof = all.members.holds_sizeof } };
}

pub leaves_rest : (old now next : Checker) (in_size : Bool) (ms : List Member) (m : Member) (rest : List Member) (between after : MembersFound) →
    LeavesMembers old now in_size ms (m ∷ rest) between → FindsMember now next in_size m between after → LeavesMembers old next in_size ms rest after
leaves_rest old now next in_size ms m rest between after leaves finds at_end env stands =
    let f = leaves at_end env stands in
    let here = f.here in
    let told = member_found m here f.others.fields in
    let one = finds at_end here f.others f.stands f.members in
    let behind = extend here told.additions in
    let more = then_member f.others told in
    record {
      here = behind;
      others = more;
      stands = stands_behind now next in_size here told.additions f.stands one.walks.behind;
      members = one.members;
      all = λ new last others.
          f.all new last
          (then_found at_end now next new here f.others told (members_in_turn (map member_found rest) behind more.fields) (at here (AMember f.others.fields m) ∷ [])
          (members_parts behind more.fields rest) after last one others);
    }

pub leaves_none : (old new : Checker) (in_size : Bool) (ms : List Member) (after : MembersFound) → IsSound new → LeavesMembers old new in_size ms [] after → FindsAll old new in_size ms after
leaves_none old new in_size ms after sound leaves at_end env stands =
    let f = leaves at_end env stands in
    f.all new after (none_found at_end new f.here f.others after sound f.stands.is_in f.members)

-- ---- declarators

pub record AreDeclaratorsLeft (at_end : Env) (old now : Checker) (env : Env) (in_size : Bool) (left : Option ℕ) (specified : SpecifierTold) (first : MemberTold)
    (ds rest : List MemberDeclarator) (between : MembersFound) (typed : Bool) : Type 0 where
  pub here : Env
  pub others : MemberTold
  pub stands : StandsIn now (operand_in in_size) here
  pub same : option_map (meaning now.types) left ≡ type_in InType specified
  pub members : AreMembers now.types between others
  pub all : (new : Checker) (after : MembersFound) (more : Bool) →
      AreDeclared at_end now new here others (declarators_in_turn (map member_declarator_found rest) here (type_in InType specified) others.fields)
      (nodes_in_turn specified here others.fields rest) after more →
      AreDeclared at_end old new env first (declarators_in_turn (map member_declarator_found ds) env (type_in InType specified) first.fields)
      (nodes_in_turn specified env first.fields ds) after (typed && more)

abbrev pub LeavesDeclarators : Checker → Checker → Bool → Option ℕ → List MemberDeclarator → List MemberDeclarator → MembersFound → MembersFound → Bool → Type 0
LeavesDeclarators old now in_size left ds rest before between typed =
    (at_end env : Env) (specified : SpecifierTold) (first : MemberTold) → StandsIn old (operand_in in_size) env → option_map (meaning old.types) left ≡ type_in InType specified →
    AreMembers old.types before first → AreDeclaratorsLeft at_end old now env in_size left specified first ds rest between typed

pub left_stays : (old now : Checker) (left : Option ℕ) → IsFurther old now → IsSound old → IfSome left (IsKnown old.types) → IfSome left (IsKnown now.types)
left_stays old now None further sound known = tt
left_stays old now (Some t) further sound known = known_stays old.types now.types sound.ready.table_is further.sound.ready.table_is further.longer t known

pub begins_declarators : (checker : Checker) (in_size : Bool) (left : Option ℕ) (ds : List MemberDeclarator) (before : MembersFound) →
    LeavesDeclarators checker checker in_size left ds ds before before true
begins_declarators checker in_size left ds before at_end env specified first stands same members = record {
  here = env;
  others = first;
  stands = stands;
  same = same;
  members = members;
  all = λ new after more declared. declared;
}

pub next_declarator : (old now next : Checker) (in_size : Bool) (left : Option ℕ) (ds : List MemberDeclarator) (d : MemberDeclarator) (rest : List MemberDeclarator)
    (before between after : MembersFound) (typed one_typed : Bool) → IsTable now.types → IsLonger now.types next.types → IfSome left (IsKnown now.types) →
    LeavesDeclarators old now in_size left ds (d ∷ rest) before between typed → DeclaresMember now next in_size left d between after one_typed →
    LeavesDeclarators old next in_size left ds rest before after (typed && one_typed)
next_declarator old now next in_size left ds d rest before between after typed one_typed good longer known leaves declares at_end env specified first stands same members =
    let f = leaves at_end env specified first stands same members in
    let here = f.here in
    let told = member_declarator_found d here (type_in InType specified) f.others.fields in
    let one = declares at_end here specified f.others f.stands f.same f.members in
    let behind = extend here told.additions in
    let further = then_member f.others told in
    record {
      here = behind;
      others = further;
      stands = stands_behind now next in_size here told.additions f.stands one.found.walks.behind;
      same = sym (type_stays now.types next.types good longer left known) ∙ f.same;
      members = one.found.members;
      all = λ new last more others.
          subst (AreDeclared at_end old new env first (declarators_in_turn (map member_declarator_found ds) env (type_in InType specified) first.fields) (nodes_in_turn specified env first.fields ds) last)
          (sym (and_assoc typed one_typed more))
          (f.all new last (one_typed && more)
          (then_declared at_end now next new here f.others told (declarators_in_turn (map member_declarator_found rest) behind (type_in InType specified) further.fields)
          (member_part here specified f.others.fields (out-MemberDeclarator d)) (nodes_in_turn specified behind further.fields rest) after last one_typed more one others));
    }

pub ends_declarators : (old new : Checker) (in_size : Bool) (left : Option ℕ) (ds : List MemberDeclarator) (before after : MembersFound) (typed : Bool) → IsSound new →
    LeavesDeclarators old new in_size left ds [] before after typed → DeclaresMembers old new in_size left ds before after typed
ends_declarators old new in_size left ds before after typed sound leaves at_end env specified first stands same members =
    let f = leaves at_end env specified first stands same members in
    subst (AreDeclared at_end old new env first (declarators_in_turn (map member_declarator_found ds) env (type_in InType specified) first.fields) (nodes_in_turn specified env first.fields ds) after)
    (and_true typed)
    (f.all new after true (record { found = none_found at_end new f.here f.others after sound f.stands.is_in f.members; typed = refl }))

-- ---- one declarator

pub member_layer : (d f : MemberDeclarator) (layer : MemberDeclaratorTree) → d ≡ f → roll-MemberDeclarator layer ≡ f → out-MemberDeclarator d ≡ layer
member_layer d f layer is rolls = ap out-MemberDeclarator (is ∙ sym rolls) ∙ out-roll-MemberDeclarator layer

pub member_arm : (at_end : Env) (old new : Checker) (env : Env) (specified : SpecifierTold) (others : MemberTold) (d : MemberDeclarator) (after : MembersFound) (typed : Bool)
    (layer : MemberDeclaratorTree) → out-MemberDeclarator d ≡ layer →
    AreDeclared at_end old new env others (of_member_declarator (member_declarator_parts_told layer) env (type_in InType specified) others.fields) (member_part env specified others.fields layer) after typed →
    AreDeclared at_end old new env others (member_declarator_found d env (type_in InType specified) others.fields) (member_part env specified others.fields (out-MemberDeclarator d)) after typed
member_arm at_end old new env specified others d after typed layer is declared =
    let told : member_declarator_found d env (type_in InType specified) others.fields ≡ of_member_declarator (member_declarator_parts_told layer) env (type_in InType specified) others.fields =
    ap (λ f. f env (type_in InType specified) others.fields) (member_declarators_follow_their_forms d) ∙
    ap (λ l. of_member_declarator (member_declarator_parts_told l) env (type_in InType specified) others.fields) is in
    subst (λ t. AreDeclared at_end old new env others t (member_part env specified others.fields (out-MemberDeclarator d)) after typed) (sym told)
    (subst (λ l. AreDeclared at_end old new env others (of_member_declarator (member_declarator_parts_told layer) env (type_in InType specified) others.fields)
    (member_part env specified others.fields l) after typed) (sym is) declared)

-- a bit-field with a name, then its width
pub field_then_width : (old middle new : Checker) (in_size : Bool) (left : Option ℕ) (inner : Declarator) (width : Expr) (before between after : MembersFound) (typed : Bool) →
    DeclaresField old middle in_size left true inner before between → DeclaresWidth middle new in_size width between after typed →
    (at_end env : Env) (specified : SpecifierTold) (others : MemberTold) → StandsIn old (operand_in in_size) env → option_map (meaning old.types) left ≡ type_in InType specified →
    AreMembers old.types before others →
    AreDeclared at_end old new env others
    (then_member (found_of true inner env (type_in InType specified) others.fields) (width_told width (extend env ((declarator_found inner).additions env))))
    (type_part env specified false (IsMember others.fields) inner ∷ at (extend env ((declarator_found inner).additions env)) (AnExpression width) ∷ []) after typed
field_then_width old middle new in_size left inner width before between after typed field widths at_end env specified others stands same members =
    let a = found_of true inner env (type_in InType specified) others.fields in
    let one = field at_end env specified others stands same members in
    let behind = extend env a.additions in
    let two = widths at_end behind (then_member others a) (stands_behind old middle in_size env a.additions stands one.walks.behind) one.members in
    then_declared at_end old middle new env others a (width_told width behind) (type_part env specified false (IsMember others.fields) inner ∷ []) (at behind (AnExpression width) ∷ []) between after true typed
    (record { found = one; typed = refl }) two

-- ---- a declarator and the use of its name

field_adds : (behind : Env) (bit_field : Bool) (before : List Field) (name : Option Named) (t : Option Ty) (faulty : MemberTold) →
    (member_of behind bit_field before name t faulty).additions ≡ faulty.additions
field_adds behind true before name t faulty = refl
field_adds behind false before None t faulty = refl
field_adds behind false before (Some named) None faulty = refl
field_adds behind false before (Some named) (Some t) faulty = of (is_broken behind.structs t)
  where
    unless_adds : (rules : List Breach) → (field_unless rules named.name t faulty).additions ≡ faulty.additions
    unless_adds [] = refl
    unless_adds (r ∷ rs) = refl

    of : (b : Bool) → (if b then faulty else field_unless (member_rules behind before named.name t ++ large_struct_rules behind before t) named.name t faulty).additions ≡ faulty.additions
    of true = refl
    of false = unless_adds (member_rules behind before named.name t ++ large_struct_rules behind before t)

abbrev KeepsUseNode : Env → Checker → Checker → Checker → Env → Declarator → List Field → Bool → Option Ty → Type 0
KeepsUseNode at_end old middle new env d before may t =
    KeepsUse env (kept_in middle) (left_of env may t d (IsMember before)) d (kept_in new) → KeepsNodes at_end (kept_in old) (at env (ADeclarator (left_of env may t d (IsMember before)) d) ∷ []) (kept_in new)

pub declares_field : (old middle new : Checker) (in_size : Bool) (left : Option ℕ) (bit_field : Bool) (d : Declarator) (asked : Asked) (found : DeclaratorFound) (before after : MembersFound) →
    asked.may_be_absent ≡ false → IsSound old → HasFields old.types before → IsFurther old middle → IsSame middle new →
    ((at_end env : Env) → StandsIn old (operand_in in_size) env → IsDeclared at_end old middle env left d asked found) →
    ((behind : Env) (others : MemberTold) → IsIn middle behind → AreMembers middle.types before others →
    PutsMember middle new behind bit_field others d (option_map (meaning middle.types) found.ty) found.holds_sizeof after) →
    DeclaresField old new in_size left bit_field d before after
declares_field old middle new in_size left bit_field d asked found before after absent sound has further kept declared puts at_end env specified others stands same members =
    let told = declarator_found d in
    let adds = told.additions env in
    let behind = extend env adds in
    let t = type_in InType specified in
    let is = declared at_end env stands in
    let type : option_map (meaning middle.types) found.ty ≡ type_made env false t told =
    is.type ∙ ap (λ may. type_made env may (option_map (meaning old.types) left) told) absent ∙ ap (λ t. type_made env false t told) same in
    let put = puts behind others is.behind (members_grow old.types middle.types sound.ready.table_is further.longer before others has members) in
    let whole = member_of behind bit_field others.fields told.name (type_made env false t told) (faulty_member adds (told.holds_sizeof env)) in
    let node = type_part env specified false (IsMember others.fields) d in
    let keeps : KeepsNodes at_end (kept_in old) (node ∷ []) (kept_in new) =
    (subst (λ may. KeepsUseNode at_end old middle new env d others.fields may t) absent
    (subst (λ u. KeepsUseNode at_end old middle new env d others.fields asked.may_be_absent u) same (use_kept is (IsMember others.fields) (kept_in new))))
    (subst (λ u. KeepsEach (kept_in middle) (member_codes behind others.fields d u) (kept_in new)) type put.keeps) in
    record {
      walks = subst (λ a. Walks at_end old new env a (node ∷ [])) (sym (field_adds behind bit_field others.fields told.name (type_made env false t told) (faulty_member adds (told.holds_sizeof env))))
          (record {
            longer = subst (λ types. IsLonger old.types types) (sym kept.types) further.longer;
            sound = sound_same middle new kept further.sound;
            outside = kept.outside ∙ further.outside;
            begun = λ s begun. ap (λ (names : InScope). slice_get names.structs s) kept.names ∙ further.begun s begun;
            behind = in_same middle new behind kept is.behind;
            keeps = keeps;
            records = truth_still at_end old middle new (node ∷ []) further.sound.ready.table_is (subst (IsLonger middle.types) (sym kept.types) (longer_same middle.types)) kept.records
                (is.records (type_left env specified false (IsMember others.fields) d));
          });
      members = subst (λ h. AreMembers new.types after (then_member others (member_of behind bit_field others.fields told.name (type_made env false t told) (faulty_member adds h)))) is.holds_sizeof
          (subst (λ u. AreMembers new.types after (then_member others (member_of behind bit_field others.fields told.name u (faulty_member adds found.holds_sizeof)))) type (put.members adds));
    }

-- ---- a width

pub declares_width : (old middle : Checker) (in_size : Bool) (e : Expr) (found : Found) (before after : MembersFound) (typed : Bool) → IsSound old → HasFields old.types before →
    ((at_end env : Env) → StandsIn old (operand_in in_size) env → IsJudged at_end old middle env e found) → after.fields ≡ before.fields → after.is_sound ≡ false →
    after.holds_sizeof ≡ (before.holds_sizeof || found.look.holds_sizeof) → typed ≡ is_some found.typing → DeclaresWidth old middle in_size e before after typed
declares_width old middle in_size e found before after typed sound has judges same faulty holds is_typed at_end env others stands members =
    let judged = judges at_end env stands in
    let walks = operand_walks at_end old middle in_size env e found stands judged in
    let grown = members_grow old.types middle.types sound.ready.table_is walks.longer before others has members in
    record {
      found = record {
        walks = walks;
        members = record {
          fields = ap (map (field_in middle.types)) same ∙ grown.fields ∙ sym (append-nil others.fields);
          sound = faulty ∙ sym (and_false others.sound);
          holds_sizeof = holds ∙ ap (λ h. h || found.look.holds_sizeof) grown.holds_sizeof ∙ ap (λ h. others.holds_sizeof || h) (operand_holds at_end old middle in_size env e found stands judged);
        };
      };
      typed = is_typed ∙ operand_typed at_end old middle in_size env e found stands judged ∙ sym (and_true (is_some (expression e env).typing));
    }

-- ---- a member

module _ (at_end : Env) (old first middle new : Checker) (in_size : Bool) (env : Env) (m : Member) (others : MemberTold) (specified : Specified) (before between after : MembersFound) (at_m : At) (typed : Bool)
    (sound : IsSound old) (has : HasFields old.types before) (stands : StandsIn old (operand_in in_size) env) (members : AreMembers old.types before others) where
  abbrev told : SpecifierTold
  told = specifiers_found m.specifiers env false

  abbrev here : Env
  here = extend env told.additions

  abbrev inside : MemberTold
  inside = declarators_in_turn (map member_declarator_found m.declarators) here (type_in InType told) others.fields

  abbrev parts_inside : List Placed
  parts_inside = nodes_in_turn told here others.fields m.declarators

  abbrev own_codes : Bool → List Breach → List Breach
  own_codes typed bs = if typed then bs ++ (if has_bit_field m.declarators then breach BitField ∷ [] else []) else []

  pub member_walked : mark_at at_m ≡ mark m.spot m.ordinal → AreSpecified at_end old first env InType false m.specifiers specified →
      between.fields ≡ before.fields → between.is_sound ≡ before.is_sound → between.holds_sizeof ≡ (before.holds_sizeof || specified.holds_sizeof) →
      DeclaresMembers first middle in_size specified.ty m.declarators between after typed → IsSame middle new →
      KeepsAt middle new at_m (own_codes typed (breaches_in specified.breaches.items)) →
      AreFound at_end old new env others (member_found m env others.fields) (at env (AMember others.fields m) ∷ []) after
  member_walked marked specifies same_fields same_sound holds declares same keeps =
      let more = record others { holds_sizeof = others.holds_sizeof || told.holds_sizeof } in
      let grown = members_grow old.types first.types sound.ready.table_is specifies.walks.longer before others has members in
      let between_members : AreMembers first.types between more = record {
        fields = ap (map (field_in first.types)) same_fields ∙ grown.fields;
        sound = same_sound ∙ grown.sound;
        holds_sizeof = holds ∙ ap (λ h. h || specified.holds_sizeof) grown.holds_sizeof ∙ ap (λ h. others.holds_sizeof || h) specifies.specified.holds_sizeof;
      } in
      let declared = declares at_end here told more (stands_behind old first in_size env told.additions stands specifies.walks.behind) specifies.specified.type between_members in
      let Own = IsBegunAmong false env m.specifiers in
      let walked = walks_then Own NoTag Own at_end old first middle env told.additions inside.additions (specifiers_parts false env m.specifiers) parts_inside (λ s tag own. own)
      (λ s tag never. absurd never) specifies.walks declared.found.walks in
      let codes : own_codes typed (breaches_in specified.breaches.items) ≡ breaches at_end env (AMember others.fields m) =
      ap (own_codes typed) specifies.specified.breaches ∙ ap (λ b. own_codes b (all_specifier_rules InType false env m.specifiers)) declared.typed ∙ sym (members_are_asked at_end env others.fields m) in
      let own = subst (λ bs. KeepsCodes (kept_in middle) (mark m.spot m.ordinal) bs (kept_in new)) codes
      (subst (λ k. KeepsCodes (kept_in middle) k (own_codes typed (breaches_in specified.breaches.items)) (kept_in new)) marked keeps) in
      let whole = record inside { additions = both told.additions inside.additions; holds_sizeof = told.holds_sizeof || inside.holds_sizeof } in
      let found : member_found m env others.fields ≡ whole = ap (λ f. f env others.fields) (members_follow_their_parts m) in
      subst (λ t. AreFound at_end old new env others t (at env (AMember others.fields m) ∷ []) after) (sym found)
      (record {
        walks = record {
          longer = subst (IsLonger old.types) (sym same.types) walked.longer;
          sound = sound_same middle new same walked.sound;
          outside = same.outside ∙ walked.outside;
          begun = λ s begun. ap (λ (names : InScope). slice_get names.structs s) same.names ∙ walked.begun s begun;
          behind = in_same middle new (extend env (both told.additions inside.additions)) same walked.behind;
          keeps = codes_are_kept_behind_parts at_end env (AMember others.fields m) (kept_in old) (kept_in middle) (kept_in new) refl walked.keeps own;
          records = told_of_node Own at_end old new env (AMember others.fields m) refl (λ s tag own. own)
              (told_still Own at_end old middle new (parts at_end env (AMember others.fields m)) walked.sound.ready.table_is (subst (IsLonger middle.types) (sym same.types) (longer_same middle.types)) same.records
              walked.records);
        };
        members = subst (λ table. AreMembers table after (then_member others whole)) (sym same.types)
            (record {
              fields = declared.found.members.fields;
              sound = declared.found.members.sound;
              holds_sizeof = declared.found.members.holds_sizeof ∙ or_assoc others.holds_sizeof told.holds_sizeof inside.holds_sizeof;
            });
      })
