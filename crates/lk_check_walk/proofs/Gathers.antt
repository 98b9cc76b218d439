-- Specifiers that are walked and gathered one after another.
use Rattle.std.proofs.Common.{◌≡◌, ◌∙◌, ◌++◌, Bool, true, false, List, [], ◌∷◌, Option, ℕ, IfSome, refl, sym, subst, append_assoc}
use Rattle.std.specs.Prelude.{◌||◌}
use Rattle.std.proofs.lemmas.List.{append-nil}
use Rattle.lk_types.specs.Table.{Table, IsKnown}
use Rattle.lk_tree.specs.declared.expression.Specifier.{Specifier, out-Specifier}
use Rattle.lk_tree.specs.declared.specifiers.Storage.{Storage}
use Rattle.lk_tree.specs.declared.specifiers.TypeWord.{TypeWord}
use Rattle.lk_typed.specs.DeclarationRules.{Holder, specifier_rules}
use Rattle.lk_typed.specs.Env.{Additions, Declared, Env, StructStep, Tag, both, extend, nothing}
use Rattle.lk_typed.specs.Expressions.{specifier_found, specifiers_found}
use Rattle.lk_typed.specs.Faults.{Breach}
use Rattle.lk_typed.specs.HolderRules.{one_tag_rules, tags_rules}
use Rattle.lk_typed.specs.Meaning.{IsReady}
use Rattle.lk_typed.specs.Nodes.{Placed}
use Rattle.lk_typed.specs.Parts.{specifier_parts, specifiers_parts}
use Rattle.lk_typed.specs.Structs.{StandsAmong, struct_begun}
use Rattle.lk_typed.specs.Structs.StandsAmong.{first, later}
use Rattle.lk_typed.specs.Told.{SpecifierTold, no_specifier, then_specifier}
use Rattle.lk_typed.specs.Ty.{Ty}
use Rattle.lk_typed.specs.declared.unit.StructTag.{StructTag}
use Rattle.lk_found.proofs.Environments.{extend_both, extend_nothing}
use Rattle.lk_found.specs.Specified.{IsGathered, IsSpecified}
use Rattle.lk_found.specs.Truth.{IsBegunAmong, IsBegunBy, NoTag}
use Rattle.lk_found.specs.declared.gathered.Gathered.{Gathered}
use Rattle.lk_found.specs.declared.gathered.Specified.{Specified}
use Rattle.lk_found.proofs.Gathering.{or_false}
use Rattle.lk_checker.proofs.Somewhere.{somewhere}
use Rattle.lk_checker.specs.Moves.{IsFurther}
use Rattle.lk_checker.specs.States.{operand_in, IsIn, IsSound, StandsIn}
use Rattle.lk_checker.specs.declared.checker.Checker.{Checker}
use Rattle.lk_checker.proofs.GoingOn.{stands_behind}
use Rattle.lk_check_walk.proofs.Walking.{no_walk, walks_as, walks_then}
use Rattle.lk_check_walk.specs.Specifying.{AreGathered, AreSpecified, Gathers, Specifies}
use Rattle.lk_check_walk.specs.Walks.{WalksOwn}

-- ---- any walk

pub further_walks : (Own : ℕ → StructTag → Type 0) (at_end : Env) (old new : Checker) (env : Env) (a : Additions) (ps : List Placed) → WalksOwn Own at_end old new env a ps ps → IsFurther old new
further_walks Own at_end old new env a ps w = record { longer = w.longer; sound = w.sound; outside = w.outside; begun = w.begun }

pub extend_single : (env : Env) (a : Additions) → extend env (both a nothing) ≡ extend env a
extend_single env a = sym (extend_both env a nothing) ∙ extend_nothing (extend env a)

-- ---- what specifiers tell together

same_additions : {ds es : List Declared} {ts us : List Tag} {ms ns : List StructStep} → ds ≡ es → ts ≡ us → ms ≡ ns →
    ◌≡◌ {A = Additions} (record { declared = ds; tags = ts; structs = ms }) (record { declared = es; tags = us; structs = ns })
same_additions p q r = cc

same_told : {a b : Additions} {ss rs : List Storage} {vs ws : List TypeWord} {ts us : List (Option Ty)} {h g : Bool} → a ≡ b → ss ≡ rs → vs ≡ ws → ts ≡ us → h ≡ g →
    ◌≡◌ {A = SpecifierTold} (record { additions = a; storages = ss; words = vs; types = ts; holds_sizeof = h })
    (record { additions = b; storages = rs; words = ws; types = us; holds_sizeof = g })
same_told p q r s t = cc

pub both_assoc : (a b c : Additions) → both (both a b) c ≡ both a (both b c)
both_assoc a b c =
    same_additions (append_assoc a.declared b.declared c.declared) (append_assoc a.tags b.tags c.tags) (append_assoc a.structs b.structs c.structs)

pub both_nothing : (a : Additions) → both a nothing ≡ a
both_nothing a = same_additions (append-nil a.declared) (append-nil a.tags) (append-nil a.structs)

pub or_assoc : (a b c : Bool) → ((a || b) || c) ≡ (a || (b || c))
or_assoc true b c = refl
or_assoc false b c = refl

then_assoc : (a b c : SpecifierTold) → then_specifier (then_specifier a b) c ≡ then_specifier a (then_specifier b c)
then_assoc a b c =
    same_told (both_assoc a.additions b.additions c.additions)
    (append_assoc a.storages b.storages c.storages) (append_assoc a.words b.words c.words) (append_assoc a.types b.types c.types) (or_assoc a.holds_sizeof b.holds_sizeof c.holds_sizeof)

then_none : (a : SpecifierTold) → then_specifier a no_specifier ≡ a
then_none a = same_told (both_nothing a.additions) (append-nil a.storages) (append-nil a.words) (append-nil a.types) (or_false a.holds_sizeof)

-- ---- gathered

pub none_gathered : (Own : ℕ → StructTag → Type 0) (at_end : Env) (checker : Checker) (env : Env) (g : Gathered) → IsSound checker → IsIn checker env →
    AreGathered Own at_end checker checker env no_specifier [] [] g g
none_gathered Own at_end checker env g sound is = record {
  walks = walks_as NoTag Own at_end checker checker env nothing [] (λ s tag never. absurd never) (no_walk at_end checker env sound is);
  gathered = λ others codes gathered.
      subst (λ told. IsGathered checker.types g told (codes ++ [])) (sym (then_none others)) (subst (IsGathered checker.types g others) (sym (append-nil codes)) gathered);
}

pub then_gathered : (One Two Own : ℕ → StructTag → Type 0) (at_end : Env) (old middle new : Checker) (env : Env) (a b : SpecifierTold) (bs cs : List Breach) (ps qs : List Placed) (before between after : Gathered) →
    ((s : ℕ) (tag : StructTag) → One s tag → Own s tag) → ((s : ℕ) (tag : StructTag) → Two s tag → Own s tag) →
    AreGathered One at_end old middle env a bs ps before between → AreGathered Two at_end middle new (extend env a.additions) b cs qs between after →
    AreGathered Own at_end old new env (then_specifier a b) (bs ++ cs) (ps ++ qs) before after
then_gathered One Two Own at_end old middle new env a b bs cs ps qs before between after of_one of_two f g = record {
  walks = walks_then One Two Own at_end old middle new env a.additions b.additions ps qs of_one of_two f.walks g.walks;
  gathered = λ others codes is.
      subst (λ told. IsGathered new.types after told (codes ++ (bs ++ cs))) (then_assoc others a b)
      (subst (IsGathered new.types after (then_specifier (then_specifier others a) b)) (append_assoc codes bs cs)
      (g.gathered (then_specifier others a) (codes ++ bs) (f.gathered others codes is)));
}

-- ---- a list of specifiers

-- all of it
pub record AreAllGathered (at_end : Env) (old new : Checker) (env : Env) (alone : Bool) (ss : List Specifier) (after : Gathered) : Type 0 where
  pub walks : WalksOwn (IsBegunAmong alone env ss) at_end old new env (specifiers_found ss env alone).additions (specifiers_parts alone env ss) (specifiers_parts alone env ss)
  pub gathered : IsGathered new.types after (specifiers_found ss env alone) (tags_rules alone env ss)

-- some of it is left, from this environment on
pub record AreLeft (at_end : Env) (old now : Checker) (env : Env) (in_size alone : Bool) (ss rest : List Specifier) (between : Gathered) : Type 0 where
  pub here : Env
  pub stands : StandsIn now (operand_in in_size) here
  pub all : (new : Checker) (after : Gathered) →
      AreGathered (IsBegunAmong alone here rest) at_end now new here (specifiers_found rest here alone) (tags_rules alone here rest) (specifiers_parts alone here rest) between after →
      AreAllGathered at_end old new env alone ss after

abbrev pub LeavesSpecifiers : Checker → Checker → Bool → Bool → List Specifier → List Specifier → Gathered → Type 0
LeavesSpecifiers old now in_size alone ss rest between = (at_end env : Env) → StandsIn old (operand_in in_size) env → AreLeft at_end old now env in_size alone ss rest between

pub leaves_all : (checker : Checker) (in_size alone : Bool) (ss : List Specifier) (g : Gathered) → ((table : Table) → IsGathered table g no_specifier []) →
    LeavesSpecifiers checker checker in_size alone ss ss g
leaves_all checker in_size alone ss g none at_end env is = record {
  here = env;
  stands = is;
  all = λ new after gathered. record { walks = gathered.walks; gathered = gathered.gathered no_specifier [] (none checker.types) };
}

-- a struct that begins at a later specifier
begun_later : (alone : Bool) (env : Env) (s : Specifier) (rest : List Specifier) (behind : Env) → extend env (specifiers_found (s ∷ []) env alone).additions ≡ behind → (n : ℕ) (tag : StructTag) →
    IsBegunAmong alone behind rest n tag → IsBegunAmong alone env (s ∷ rest) n tag
begun_later alone env s rest behind is n tag own =
    record { env' = own.env'; specifier = own.specifier; among = later (subst (λ e. StandsAmong alone e rest own.env' own.specifier) (sym is) own.among); begun = own.begun }

pub leaves_rest : (old now next : Checker) (in_size alone : Bool) (ss : List Specifier) (s : Specifier) (rest : List Specifier) (between after : Gathered) →
    LeavesSpecifiers old now in_size alone ss (s ∷ rest) between → Gathers now next alone in_size s between after → LeavesSpecifiers old next in_size alone ss rest after
leaves_rest old now next in_size alone ss s rest between after leaves gathers at_end env is =
    let f = leaves at_end env is in
    let here = f.here in
    let told = specifier_found s here alone in
    let one = gathers at_end here f.stands in
    let behind = extend here told.additions in
    record {
      here = behind;
      stands = stands_behind now next in_size here told.additions f.stands one.walks.behind;
      all = λ new last others.
          f.all new last
          (subst (λ e. AreGathered (IsBegunAmong alone here (s ∷ rest)) at_end now new here (then_specifier told (specifiers_found rest behind alone)) (one_tag_rules here alone (out-Specifier s) ++ tags_rules alone e rest)
          (specifier_parts here (out-Specifier s) ++ specifiers_parts alone e rest) between last) (sym (extend_single here told.additions))
          (then_gathered (IsBegunBy (struct_begun here alone (out-Specifier s)) here) (IsBegunAmong alone behind rest) (IsBegunAmong alone here (s ∷ rest)) at_end now next new here told (specifiers_found rest behind alone) (one_tag_rules here alone (out-Specifier s)) (tags_rules alone behind rest)
          (specifier_parts here (out-Specifier s)) (specifiers_parts alone behind rest) between after last (λ n tag own. record { env' = here; specifier = s; among = first; begun = own })
          (begun_later alone here s rest behind (extend_single here told.additions)) one others));
    }

pub leaves_none : (old new : Checker) (in_size alone : Bool) (ss : List Specifier) (after : Gathered) → IsSound new → LeavesSpecifiers old new in_size alone ss [] after →
    (at_end env : Env) → StandsIn old (operand_in in_size) env → AreAllGathered at_end old new env alone ss after
leaves_none old new in_size alone ss after sound leaves at_end env is =
    let f = leaves at_end env is in
    f.all new after (none_gathered (IsBegunAmong alone f.here []) at_end new f.here after sound f.stands.is_in)

-- one more was gathered, so the state is sound
pub gathers_further : (old new : Checker) (in_size alone : Bool) (s : Specifier) (before after : Gathered) → Gathers old new alone in_size s before after → IsFurther old new
gathers_further old new in_size alone s before after gathers =
    let some = somewhere old (operand_in in_size) in
    let one = gathers some.0 some.0 some.1 in
    further_walks (IsBegunBy (struct_begun some.0 alone (out-Specifier s)) some.0) some.0 old new some.0 (specifier_found s some.0 alone).additions (specifier_parts some.0 (out-Specifier s)) one.walks

-- ---- what they are together

pub specifies : (old new : Checker) (holder : Holder) (in_size alone : Bool) (ss : List Specifier) (after : Gathered) (specified : Specified) → IsSound new →
    LeavesSpecifiers old new in_size alone ss [] after →
    ((table : Table) (told : SpecifierTold) (broken : List Breach) → IsReady table → IsGathered table after told broken → IsSpecified table holder specified told (broken ++ specifier_rules holder told)) →
    Specifies old new holder alone in_size ss specified
specifies old new holder in_size alone ss after specified sound leaves together at_end env is =
    let all = leaves_none old new in_size alone ss after sound leaves at_end env is in
    record { walks = all.walks; specified = together new.types (specifiers_found ss env alone) (tags_rules alone env ss) sound.ready all.gathered }

module _ (old new : Checker) (holder : Holder) (in_size alone : Bool) (ss : List Specifier) (specified : Specified) (is : Specifies old new holder alone in_size ss specified) where
  specified_somewhere : AreSpecified (somewhere old (operand_in in_size)).0 old new (somewhere old (operand_in in_size)).0 holder alone ss specified
  specified_somewhere = let some = somewhere old (operand_in in_size) in is some.0 some.0 some.1

  pub specifies_further : IsFurther old new
  specifies_further =
      let some = (somewhere old (operand_in in_size)).0 in
      further_walks (IsBegunAmong alone some ss) some old new some (specifiers_found ss some alone).additions (specifiers_parts alone some ss) specified_somewhere.walks

  pub specifies_named : IfSome specified.named (IsKnown new.types)
  specifies_named = specified_somewhere.specified.known_named

  pub specifies_known : IfSome specified.ty (IsKnown new.types)
  specifies_known = specified_somewhere.specified.known
