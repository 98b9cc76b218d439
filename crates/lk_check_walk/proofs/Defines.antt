-- The arms of the walk over a specifier.
use Rattle.std.proofs.Common.{◌≡◌, ◌∙◌, ◌++◌, ℕ, Bool, List, [], ◌∷◌, Option, Some, None, map, sym, ap, subst}
use Rattle.std.specs.Prelude.{if◌then◌else◌, slice_get}
use Rattle.std.proofs.lemmas.List.{append-nil}
use Rattle.lk_types.specs.Building.{IsLonger}
use Rattle.lk_types.specs.Table.{Table}
use Rattle.lk_types.proofs.GrowLemmas.{longer_then}
use Rattle.lk_tree.specs.declared.expression.Item.{Item}
use Rattle.lk_tree.specs.declared.expression.Member.{Member}
use Rattle.lk_tree.specs.declared.expression.Specifier.{Specifier, out-Specifier}
use Rattle.lk_typed.specs.Env.{AnEnumTag, Additions, Completes, Env, Name, both, extend, nothing}
use Rattle.lk_typed.specs.Expressions.{item_found, member_found, specifier_found}
use Rattle.lk_typed.specs.Faults.{Breach}
use Rattle.lk_typed.specs.HolderRules.{one_tag_rules, optional_tag_rules}
use Rattle.lk_typed.specs.Nodes.{Placed}
use Rattle.lk_typed.specs.Parts.{items_parts, members_parts, specifier_parts}
use Rattle.lk_typed.specs.Redeclared.{DefinesEnum, DefinesStruct, may_use}
use Rattle.lk_typed.specs.Structs.{struct_begun}
use Rattle.lk_typed.specs.Telling.{of_specifier}
use Rattle.lk_typed.specs.Told.{MemberTold, SpecifierTold, before_first, enum_defined, items_hold_sizeof, items_in_turn, members_in_turn, members_made, of_type_alone, steps, struct_begins, struct_defined, struct_meant_by, tag_additions, tag_found, then_specifier}
use Rattle.lk_typed.specs.Ty.{Struct, Ty, int}
use Rattle.lk_typed.specs.declared.members.Members.TheVariants.{Begun}
use Rattle.lk_typed.specs.declared.unit.StructTag.{StructTag}
use Rattle.lk_rules.proofs.Kept.{nothing_is_kept}
use Rattle.lk_rules.proofs.Layered.{specifiers_follow_their_forms}
use Rattle.lk_rules.specs.Keeping.{KeepsNodes}
use Rattle.lk_rules.specs.LayerLaws.{SpecifierTree, specifier_parts_told}
use Rattle.lk_names.specs.InScope.{InScope}
use Rattle.lk_found.proofs.Environments.{extend_both}
use Rattle.lk_found.specs.MembersOf.{AreMembers}
use Rattle.lk_found.specs.Begun.{KeepsBegun, definition_begun}
use Rattle.lk_found.specs.Specified.{IsGathered}
use Rattle.lk_found.specs.Specifying.{IsTagUse, KeepsOthersBegun, PutsType}
use Rattle.lk_found.specs.Truth.{IsBegunBy, NoTag}
use Rattle.lk_found.specs.declared.fields.MembersFound.{MembersFound}
use Rattle.lk_found.specs.declared.gathered.Gathered.{Gathered}
use Rattle.lk_found.proofs.Defines.{typed_put}
use Rattle.lk_checker.proofs.KeepsAll.{sound_same}
use Rattle.lk_checker.proofs.NamedTypes.{gathered_stays}
use Rattle.lk_checker.specs.Moves.{GoesOn, Grows, RecordsTag, IsSame, IsFurther}
use Rattle.lk_checker.specs.Naming.{IsSpecifierPut, BeginsStruct}
use Rattle.lk_checker.specs.States.{operand_in, IsIn, IsSound, StandsIn, kept_in, recorded_in}
use Rattle.lk_checker.specs.declared.checker.Checker.{Checker}
use Rattle.lk_checker.specs.declared.defining.BegunStruct.{BegunStruct}
use Rattle.lk_checker.proofs.GoingOn.{stands_behind}
use Rattle.lk_check_walk.proofs.Gathers.{both_assoc}
use Rattle.lk_check_walk.proofs.Walking.{no_walk, walks_as, walks_then}
use Rattle.lk_check_walk.proofs.Truth.{begun_told, told_still, truth_same}
use Rattle.lk_check_walk.specs.Counting.{CountsAll}
use Rattle.lk_check_walk.specs.MembersOf.{FindsAll}
use Rattle.lk_check_walk.specs.Specifying.{AreGathered}
use Rattle.lk_check_walk.specs.Walks.{TellsOwn, Walks, WalksOwn}

-- ---- walks that keep no code

module _ (Own : ℕ → StructTag → Type 0) (at_end : Env) (old new : Checker) (env : Env) (a : Additions) where
  pub grow_walks : IsFurther old new → kept_in new ≡ kept_in old → TellsOwn Own at_end old new [] → IsIn new (extend env a) → WalksOwn Own at_end old new env a [] []
  grow_walks further kept told inside = record {
    longer = further.longer;
    sound = further.sound;
    outside = further.outside;
    begun = further.begun;
    behind = inside;
    keeps = subst (KeepsNodes at_end (kept_in old) []) (sym kept) (nothing_is_kept at_end (kept_in old));
    records = told;
  }

pub walks_grow : (Own : ℕ → StructTag → Type 0) (at_end : Env) (old middle new : Checker) (env : Env) (a b : Additions) (ps : List Placed) → WalksOwn Own at_end old middle env a ps ps → Grows middle new →
    KeepsBegun old.names.structs new.names.structs → IsIn new (extend (extend env a) b) → WalksOwn Own at_end old new env (both a b) ps ps
walks_grow Own at_end old middle new env a b ps walks grows begun inside = record {
  longer = longer_then old.types middle.types new.types walks.longer grows.longer;
  sound = grows.sound;
  outside = grows.outside ∙ walks.outside;
  begun = begun;
  behind = subst (IsIn new) (extend_both env a b) inside;
  keeps = subst (KeepsNodes at_end (kept_in old) ps) (sym grows.kept) walks.keeps;
  records = told_still Own at_end old middle new ps walks.sound.ready.table_is grows.longer grows.records walks.records;
}

-- ---- an arm

pub arm_begins : (at_end : Env) (old new : Checker) (env : Env) (alone : Bool) (s : Specifier) (before after : Gathered) (layer : SpecifierTree) → out-Specifier s ≡ layer →
    AreGathered (IsBegunBy (struct_begun env alone layer) env) at_end old new env (of_specifier (specifier_parts_told layer) env alone) (one_tag_rules env alone layer) (specifier_parts env layer)
    before after →
    AreGathered (IsBegunBy (struct_begun env alone (out-Specifier s)) env) at_end old new env (specifier_found s env alone) (one_tag_rules env alone (out-Specifier s))
    (specifier_parts env (out-Specifier s)) before after
arm_begins at_end old new env alone s before after layer is gathered =
    let told : specifier_found s env alone ≡ of_specifier (specifier_parts_told layer) env alone =
    ap (λ f. f env alone) (specifiers_follow_their_forms s) ∙ ap (λ l. of_specifier (specifier_parts_told l) env alone) is in
    subst (λ t. AreGathered (IsBegunBy (struct_begun env alone (out-Specifier s)) env) at_end old new env t (one_tag_rules env alone (out-Specifier s)) (specifier_parts env (out-Specifier s)) before after) (sym told)
    (subst (λ l. AreGathered (IsBegunBy (struct_begun env alone l) env) at_end old new env (of_specifier (specifier_parts_told layer) env alone) (one_tag_rules env alone l) (specifier_parts env l) before after) (sym is) gathered)

-- where no struct begins
pub arm : (at_end : Env) (old new : Checker) (env : Env) (alone : Bool) (s : Specifier) (before after : Gathered) (layer : SpecifierTree) → out-Specifier s ≡ layer →
    AreGathered NoTag at_end old new env (of_specifier (specifier_parts_told layer) env alone) (one_tag_rules env alone layer) (specifier_parts env layer) before after →
    AreGathered (IsBegunBy (struct_begun env alone (out-Specifier s)) env) at_end old new env (specifier_found s env alone) (one_tag_rules env alone (out-Specifier s))
    (specifier_parts env (out-Specifier s)) before after
arm at_end old new env alone s before after layer is gathered =
    arm_begins at_end old new env alone s before after layer is
    (record { walks = walks_as NoTag (IsBegunBy (struct_begun env alone layer) env) at_end old new env _ _ (λ s tag never. absurd never) gathered.walks; gathered = gathered.gathered })

-- nothing is gathered but what this says
pub word_gathered : (at_end : Env) (checker : Checker) (env : Env) (told : SpecifierTold) (before after : Gathered) → told.additions ≡ nothing → IsSound checker → IsIn checker env →
    ((others : SpecifierTold) (codes : List Breach) → IsGathered checker.types before others codes → IsGathered checker.types after (then_specifier others told) codes) →
    AreGathered NoTag at_end checker checker env told [] [] before after
word_gathered at_end checker env told before after none sound is put = record {
  walks = subst (λ a. Walks at_end checker checker env a []) (sym none) (no_walk at_end checker env sound is);
  gathered = λ others codes gathered. subst (IsGathered checker.types after (then_specifier others told)) (sym (append-nil codes)) (put others codes gathered);
}

-- a name of a type, at which a struct may begin
pub begun_gathered : (begun : Option (Option Name)) (at_end : Env) (old new : Checker) (env : Env) (told : SpecifierTold) (broken : List Breach) (before after : Gathered) → IsFurther old new →
    kept_in new ≡ kept_in old → RecordsTag old new env begun → IsSpecifierPut old new env before after told broken → AreGathered (IsBegunBy begun env) at_end old new env told broken [] before after
begun_gathered begun at_end old new env told broken before after further kept records put = record {
  walks = grow_walks (IsBegunBy begun env) at_end old new env told.additions further kept (begun_told at_end old new env begun records) put.behind;
  gathered = put.gathered;
}

-- one at which none begins
pub named_gathered : (at_end : Env) (old new : Checker) (env : Env) (told : SpecifierTold) (broken : List Breach) (before after : Gathered) → IsFurther old new → kept_in new ≡ kept_in old →
    recorded_in new ≡ recorded_in old → IsSpecifierPut old new env before after told broken → AreGathered NoTag at_end old new env told broken [] before after
named_gathered at_end old new env told broken before after further kept same put = record {
  walks = grow_walks NoTag at_end old new env told.additions further kept (truth_same at_end old new same) put.behind;
  gathered = put.gathered;
}

-- the code of the tag, then nodes, then the type
module _ (Own : ℕ → StructTag → Type 0) (at_end : Env) (old middle new : Checker) (env : Env) (ps : List Placed) (before between after : Gathered) where
  pub tagged_gathered : (a : Additions) (t : Option Ty) (holds : Bool) (broken : List Breach) → IsSound old → IsSound middle → IsLonger old.types middle.types →
      ((table : Table) (others : SpecifierTold) (codes : List Breach) → IsGathered table before others codes → IsGathered table between others (codes ++ broken)) →
      PutsType middle.types new.types between after t holds → WalksOwn Own at_end old new env a ps ps →
      AreGathered Own at_end old new env (record (of_type_alone a t) { holds_sizeof = holds }) broken ps before after
  tagged_gathered a t holds broken sound next longer code type walks = record {
    walks = walks;
    gathered = λ others codes is.
        typed_put new.types after others (codes ++ broken) a t holds
        (type others (codes ++ broken)
        (gathered_stays old.types middle.types sound.ready.table_is next.ready.table_is longer between others (codes ++ broken) (code old.types others codes is)));
  }

-- ---- `struct tag { members }`

module _ (at_end : Env) (old first middle new : Checker) (in_size : Bool) (env : Env) (tag : Option Name) (ms : List Member) (begun : BegunStruct) (found : MembersFound)
    (before between after : Gathered) (stands : StandsIn old (operand_in in_size) env) (sound : IsSound old) where
  abbrev start : Additions
  start = struct_begins env tag

  abbrev inside : MemberTold
  inside = members_in_turn (map member_found ms) (extend env start) []

  abbrev end_of : ℕ → Additions
  end_of s = steps (Completes s (members_made inside) ∷ [])

  abbrev struct_type : ℕ → Bool → Option Ty
  struct_type s admitted = if admitted then Some (Struct s) else None

  pub struct_gathered : IsFurther old first → kept_in first ≡ kept_in old → RecordsTag old first env (definition_begun env tag) → BeginsStruct first env tag before between begun → FindsAll first middle in_size ms found → Grows middle new →
      (slice_get old.names.structs begun.number ≡ Some Begun → ⊥) → KeepsOthersBegun begun.number middle.names.structs new.names.structs →
      ((env : Env) (told : MemberTold) → IsIn middle env → AreMembers middle.types found told → IsIn new (extend env (steps (Completes begun.number (members_made told) ∷ [])))) →
      PutsType middle.types new.types between after (struct_type begun.number begun.is_admitted) found.holds_sizeof →
      AreGathered (IsBegunBy (definition_begun env tag) env) at_end old new env (struct_defined env tag (map member_found ms)) (optional_tag_rules env DefinesStruct tag) (members_parts (extend env start) [] ms) before after
  struct_gathered further kept records begins finds grows fresh others_begun ends type =
      let all = finds at_end (extend env start) (stands_behind old first in_size env start stands begins.behind) in
      let Own = IsBegunBy (definition_begun env tag) env in
      let walked = walks_then Own NoTag Own at_end old first middle env start inside.additions [] (members_parts (extend env start) [] ms) (λ s tag own. own) (λ s tag never. absurd never)
      (grow_walks Own at_end old first env start further kept (begun_told at_end old first env (definition_begun env tag) records) begins.behind) all.walks in
      let number = begins.number in
      let whole = walks_grow Own at_end old middle new env (both start inside.additions) (end_of (struct_meant_by env tag).number) (members_parts (extend env start) [] ms) walked grows
      (λ t is. others_begun t (λ same. fresh (subst (λ s. slice_get old.names.structs s ≡ Some Begun) same is)) (walked.begun t is))
      (subst (λ s. IsIn new (extend (extend env (both start inside.additions)) (end_of s))) number (ends (extend env (both start inside.additions)) inside walked.behind all.members)) in
      let same_type : struct_type begun.number begun.is_admitted ≡ struct_type (struct_meant_by env tag).number (may_use env (tag_found env DefinesStruct tag) DefinesStruct) =
      ap (λ s. struct_type s begun.is_admitted) number ∙ ap (struct_type (struct_meant_by env tag).number) begins.admitted.may in
      tagged_gathered Own at_end old middle new env (members_parts (extend env start) [] ms) before between after
      (both start (both inside.additions (end_of (struct_meant_by env tag).number)))
      (struct_type (struct_meant_by env tag).number (may_use env (tag_found env DefinesStruct tag) DefinesStruct)) inside.holds_sizeof (optional_tag_rules env DefinesStruct tag)
      sound walked.sound walked.longer begins.admitted.gathered
      (subst (λ t. PutsType middle.types new.types between after t inside.holds_sizeof) same_type
      (subst (PutsType middle.types new.types between after (struct_type begun.number begun.is_admitted)) all.members.holds_sizeof type))
      (subst (λ a. WalksOwn Own at_end old new env a (members_parts (extend env start) [] ms) (members_parts (extend env start) [] ms)) (both_assoc start inside.additions (end_of (struct_meant_by env tag).number)) whole)

-- ---- `enum tag { items }`

module _ (at_end : Env) (old middle new : Checker) (in_size : Bool) (env : Env) (tag : Option Name) (is : List Item) (admitted holds : Bool) (before between after : Gathered)
    (stands : StandsIn old (operand_in in_size) env) (sound : IsSound old) where
  abbrev enum_type : Bool → Option Ty
  enum_type admitted = if admitted then Some int else None

  abbrev tag_of : Bool → Additions
  tag_of admitted = if admitted then tag_additions tag AnEnumTag else nothing

  pub enum_gathered : IsTagUse env DefinesEnum tag before between admitted → CountsAll old middle in_size before_first is holds → Grows middle new →
      new.names.structs ≡ middle.names.structs → GoesOn middle new (λ env. tag_of admitted) → PutsType middle.types new.types between after (enum_type admitted) holds →
      AreGathered NoTag at_end old new env (enum_defined env tag (map item_found is)) (optional_tag_rules env DefinesEnum tag) (items_parts env before_first is) before after
  enum_gathered use_of counts grows structs goes type =
      let all = counts at_end env stands in
      let a = items_in_turn (map item_found is) env before_first in
      let may = may_use env (tag_found env DefinesEnum tag) DefinesEnum in
      let whole = walks_grow NoTag at_end old middle new env a (tag_of may) (items_parts env before_first is) all.walks grows
      (λ t begun. subst (λ ss. slice_get ss t ≡ Some Begun) (sym structs) (all.walks.begun t begun))
      (subst (λ b. IsIn new (extend (extend env a) (tag_of b))) use_of.may (goes (extend env a) all.walks.behind)) in
      tagged_gathered NoTag at_end old middle new env (items_parts env before_first is) before between after (both a (tag_of may)) (enum_type may) (items_hold_sizeof (map item_found is) env before_first)
      (optional_tag_rules env DefinesEnum tag) sound all.walks.sound all.walks.longer use_of.gathered
      (subst (λ b. PutsType middle.types new.types between after (enum_type b) (items_hold_sizeof (map item_found is) env before_first)) use_of.may
      (subst (PutsType middle.types new.types between after (enum_type admitted)) all.holds_sizeof type)) whole

pub same_further : (a b c : Checker) → IsFurther a b → IsSame b c → IsFurther a c
same_further a b c f g = record {
  longer = subst (IsLonger a.types) (sym g.types) f.longer;
  sound = sound_same b c g f.sound;
  outside = g.outside ∙ f.outside;
  begun = λ s begun. ap (λ (names : InScope). slice_get names.structs s) g.names ∙ f.begun s begun;
}
