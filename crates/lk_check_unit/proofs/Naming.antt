-- Declared names: their codes are kept one after the other, and then they are in scope.
use Rattle.std.specs.Prelude.{IfOk, OnOk, IfSome, not, slice_get, ◌&&◌, ◌||◌, if◌then◌else◌}
use Rattle.std.specs.declared.result.Result.{Result}
use Rattle.std.proofs.lemmas.Option.{none-some}
use Rattle.std.proofs.Common.{Ok, Err, ◌≡◌, ◌∙◌, ◌++◌, ◌⊎◌, inl, inr, ℕ, Bool, true, false, List, [], ◌∷◌, Option, Some, None, refl, sym, ap, subst}
use Rattle.std.specs.HashSet.{contains_by}
use Rattle.std.specs.Option.{option_map}
use Rattle.lk_base.specs.declared.code.Code.{Code}
use Rattle.lk_base.specs.declared.code.Code.TheVariants.{Incomplete, Redeclared, VariableArray}
use Rattle.lk_tree.specs.declared.declaration.Init.{Init}
use Rattle.lk_tree.specs.declared.specifiers.Storage.{Storage}
use Rattle.lk_types.proofs.GrowLemmas.{known_same, longer_same, longer_then}
use Rattle.lk_types.specs.Building.{IsLonger, IsTable}
use Rattle.lk_types.specs.Table.{IsKnown, Table}
use Rattle.lk_typed.proofs.Meanings.{meaning_stays}
use Rattle.lk_typed.specs.DeclarationRules as rule
use Rattle.lk_typed.specs.DeclarationRules.{defines_of, env_for, has_size_later, is_complete_object, linkage_of, meaning_of, named_rules, wants_type}
use Rattle.lk_typed.specs.Declarations.{completed, composite_type, declared_as, elements_given, one_name, reach_of, type_with_old}
use Rattle.lk_typed.specs.DeclaratorRules.{most_elements, of_type, unless}
use Rattle.lk_typed.specs.Env.{AsOperand, Declared, Env, Meaning, extend, is_name, is_one_of, look_up_here}
use Rattle.lk_typed.specs.Faults.{Breach, breach, breach_of}
use Rattle.lk_typed.specs.InitialiserRules.{given_rules}
use Rattle.lk_typed.specs.Meaning.{meaning}
use Rattle.lk_typed.specs.Names.{declared_in}
use Rattle.lk_typed.specs.NodeRules.{mark, name_use_rules}
use Rattle.lk_typed.specs.Nodes.{Declares}
use Rattle.lk_typed.specs.Redeclared.{is_second, may_stand, name_rules}
use Rattle.lk_typed.specs.Sizes.{is_complete}
use Rattle.lk_typed.specs.Stands.{Mark}
use Rattle.lk_typed.specs.Told.{Named}
use Rattle.lk_typed.specs.Typings.{structs_in}
use Rattle.lk_typed.specs.Ty.{Ty, is_function}
use Rattle.lk_typed.specs.declared.entity.Defines.{Defines}
use Rattle.lk_typed.specs.declared.entity.Linkage.{Linkage}
use Rattle.lk_typed.specs.declared.names.Declared.{Declared as CodeDeclared}
use Rattle.lk_names.proofs.Environments.{environment_stays}
use Rattle.lk_typed.specs.declared.members.Members.TheVariants.{Begun}
use Rattle.lk_names.specs.Growing.{Adds, name_added}
use Rattle.lk_names.specs.InScope.{InScope, IsKnownScope, env_in}
use Rattle.lk_names.specs.Uses.{breaches_told}
use Rattle.lk_rules.proofs.Kept.{the_lesser_is_kept}
use Rattle.lk_rules.specs.Keeping as keeping
use Rattle.lk_rules.specs.Keeping.{Kept, KeepsCodes}
use Rattle.lk_check_decl.specs.Breaches.{told}
use Rattle.lk_check_decl.specs.GivenSizes.{GivesSize}
use Rattle.lk_check_decl.specs.Names.{object_rules, use_rules}
use Rattle.lk_check_decl.specs.Twins.{given_of, scope_of}
use Rattle.lk_check_decl.specs.declared.names.NameUse.{NameUse}
use Rattle.lk_check_decl.specs.declared.words.Given.{Given}
use Rattle.lk_check_decl.specs.declared.words.Given.TheVariants.{Initialiser, Body}
use Rattle.lk_check_decl.specs.declared.words.Scope.{Scope}
use Rattle.lk_check_decl.specs.declared.words.Scope.TheVariants.{File, Block}
use Rattle.lk_found.specs.Keepings.{KeepsAll, codes_at}
use Rattle.lk_found.specs.Recorded.{Recorded}
use Rattle.lk_found.specs.Structs.{AreListed}
use Rattle.lk_found.specs.Findings.{mark_at}
use Rattle.lk_found.specs.declared.found.At.{At}
use Rattle.lk_checker.specs.Moves.{IsSame, KeepsAt, IsFurther}
use Rattle.lk_checker.specs.States.{IsIn, IsSound, Tells, kept_in, recorded_in}
use Rattle.lk_checker.specs.declared.checker.Checker.{Checker}
use Rattle.lk_check_walk.proofs.Recordings.{in_recorded, with_records}
use Rattle.lk_check_unit.specs.Declaring.{AsksComplete, AsksType, DeclaresName, IsHow, IsWaiting, KeepsBut, PutsDeclared, PutsName, PutsTypes, WaitsIn, complete_rules, declared_by, listed, meant_by, type_recorded}
use Rattle.lk_check_unit.proofs.NamesTold.{puts_behind}
use Rattle.lk_check_unit.specs.Later.{AreKnownPending, pending_codes, pending_rules}
use Rattle.lk_check_unit.specs.declared.declared.How.{How}
use Rattle.lk_check_unit.specs.declared.pending.Pending.{Pending}
use Rattle.lk_check_unit.proofs.Codes.{codes_told}
use Rattle.lk_check_unit.proofs.Nameless.{unless_tells}
use Rattle.lk_check_unit.proofs.Later.{codes_first, codes_joined, codes_turned, no_codes}
use Rattle.lk_check_unit.proofs.Standing.{result_known}
use Rattle.lk_check_unit.proofs.Walking.{is_in_as, sound_as}

-- ---- states

pub in_same : (old new : Checker) → IsSame old new → (env : Env) → IsIn old env → IsIn new env
in_same old new same env is_in = is_in_as old new env same.types same.names same.outside is_in

pub in_puts : (old new : Checker) → IsSound old → PutsTypes old new → (env : Env) → IsIn old env → IsIn new env
in_puts old new sound puts env is_in =
    let longer : IsLonger old.types new.types = puts.grows.longer in
    record {
      scope = ap (λ n. env_in new.types env n) puts.names ∙ (environment_stays old.types new.types sound.ready.table_is longer old.names sound.scope env ∙ is_in.scope);
      defined = λ name. subst (λ o. is_one_of env.outside.defined name ≡ contains_by (is_name name) o.defined) (sym puts.grows.outside) (is_in.defined name);
      externs = λ name. subst (λ o. is_one_of env.outside.externs name ≡ contains_by (is_name name) o.externs) (sym puts.grows.outside) (is_in.externs name);
    }

pub type_stays : (old new : Table) → IsTable old → IsLonger old new → (t : Option ℕ) → IfSome t (IsKnown old) → option_map (meaning new) t ≡ option_map (meaning old) t
type_stays old new good longer None known = refl
type_stays old new good longer (Some t) known = ap Some (meaning_stays old new good longer t known)

-- ---- codes by a type

-- a name that is given its value is asked of where it stands
pub given_there : (scope : Scope) (ss : List Storage) (given : Given) → (given ≡ Initialiser) ⊎ (given ≡ Body) → (env at_end : Env) → env_for env at_end (scope_of scope) ss (given_of given) ≡ env
given_there File ss given (inl is) env at_end = ap (λ g. env_for env at_end rule.AtFile ss (given_of g)) is
given_there File ss given (inr is) env at_end = ap (λ g. env_for env at_end rule.AtFile ss (given_of g)) is
given_there Block ss given (inl is) env at_end = ap (λ g. env_for env at_end rule.InBlock ss (given_of g)) is
given_there Block ss given (inr is) env at_end = ap (λ g. env_for env at_end rule.InBlock ss (given_of g)) is

-- what is asked of a name that is given nothing
bare_rules : (env at_end : Env) (ss : List Storage) (how : NameUse) (t : Ty) (wants : Bool) → given_of how.given ≡ rule.Bare → wants_type ss t rule.Bare ≡ wants →
    complete_rules env at_end ss how t ≡ unless (not wants || false || is_complete (env_for env at_end (scope_of how.scope) ss rule.Bare).structs t) Incomplete
bare_rules env at_end ss how t wants bare is =
    ap (λ g. unless (is_complete_object env at_end (scope_of how.scope) ss t g) Incomplete) bare ∙
    ap (λ w. unless (not w || false || is_complete (env_for env at_end (scope_of how.scope) ss rule.Bare).structs t) Incomplete) is

-- a tentative definition of external linkage waits
pub bare_waits : (old : Checker) (ss : List Storage) (place : At) (how : NameUse) (pending : Option Pending) → given_of how.given ≡ rule.Bare →
    ((env at_end : Env) → env_for env at_end (scope_of how.scope) ss (given_of how.given) ≡ at_end) → IsWaiting ss place (meaning old.types how.ty) how.ty pending →
    AsksComplete old old ss place how pending
bare_waits old ss place how None bare waits is =
    λ at_end env is_in.
    subst (λ bs. KeepsCodes (kept_in old) (mark_at place) bs (kept_in old)) (sym (bare_rules env at_end ss how (meaning old.types how.ty) false bare is)) (the_lesser_is_kept (kept_in old) (mark_at place) None)
bare_waits old ss place how (Some p) bare waits is = (
  is.0,
  refl,
  λ at_end env.
      bare_rules env at_end ss how (meaning old.types how.ty) true bare is.1 ∙
      ap (λ (e : Env). unless (is_complete e.structs (meaning old.types how.ty)) Incomplete) (ap (env_for env at_end (scope_of how.scope) ss) (sym bare) ∙ waits env at_end),
)

-- a code that is kept by a rule with one code
pub one_kept : (old new : Checker) (place : At) (holds : Bool) (kind : Code) (code : Option Code) → code ≡ told (unless holds kind) → Tells old new place (option_map breach code) → KeepsAt old new place (unless holds kind)
one_kept old new place holds kind code is tells =
    subst (KeepsCodes (kept_in old) (mark_at place) (unless holds kind)) (sym tells.kept) (codes_told (kept_in old) (mark_at place) [] (unless holds kind) code (unless_tells holds kind) is)

pub same_told : (old new : Checker) (place : At) (broken : Option Breach) → Tells old new place broken → IsSame old new
same_told old new place broken tells = record { types = tells.types; names = tells.names; outside = tells.outside; records = tells.records }

pub same_itself : (checker : Checker) → IsSame checker checker
same_itself checker = record { types = refl; names = refl; outside = refl; records = refl }

pub same_then : (a b c : Checker) → IsSame a b → IsSame b c → IsSame a c
same_then a b c p q = record { types = q.types ∙ p.types; names = q.names ∙ p.names; outside = q.outside ∙ p.outside; records = q.records ∙ p.records }

-- 21 of a name, where there is one
pub again_kept : (old new : Checker) (place : At) (name : List ℕ) (code : Option Code) (bs : List Breach) → breaches_told code name ≡ bs →
    Tells old new place (option_map (λ code. record { code = code; name = name }) code) → KeepsAt old new place bs
again_kept old new place name code bs is tells =
    subst (λ cs. KeepsCodes (kept_in old) (mark_at place) cs (kept_in new)) (by code ∙ is)
    (subst (KeepsCodes (kept_in old) (mark_at place) (keeping.breaches_told (option_map (λ code. record { code = code; name = name }) code))) (sym tells.kept)
    (the_lesser_is_kept (kept_in old) (mark_at place) (option_map (λ code. record { code = code; name = name }) code)))
  where
    by : (o : Option Code) → keeping.breaches_told (option_map (λ code. record { code = code; name = name }) o) ≡ breaches_told o name
    by None = refl
    by (Some c) = refl

-- 25 of a name that is asked of where it stands
pub object_kept : (old new : Checker) (ss : List Storage) (place : At) (how : NameUse) (code : Option Code) (env at_end : Env) → IsIn old env → env_for env at_end (scope_of how.scope) ss (given_of how.given) ≡ env →
    code ≡ told (object_rules (structs_in old.types old.names.structs) ss (meaning old.types how.ty) (given_of how.given)) → Tells old new place (option_map breach code) →
    KeepsAt old new place (complete_rules env at_end ss how (meaning old.types how.ty))
object_kept old new ss place how code env at_end is_in here is tells =
    one_kept old new place _ Incomplete code
    (is ∙ (ap (λ (e : Env). told (object_rules e.structs ss (meaning old.types how.ty) (given_of how.given))) is_in.scope ∙
    ap (λ (e : Env). told (object_rules e.structs ss (meaning old.types how.ty) (given_of how.given))) (sym here)))
    tells

pub both_ok : {T E : Type 0} (P : Type 0) (Q : T → Type 0) (r : Result T E) → OnOk r P → IfOk r Q → IfOk r (λ x. P × Q x)
both_ok P Q (Ok x) p q = (p, q)
both_ok P Q (Err e) p q = tt

-- 31 of a name whose initialiser gives this size
pub size_kept : (old new : Checker) (place : At) (t : ℕ) (init : Init) (size : ℕ) (code : Option Code) → GivesSize init (meaning old.types t) size →
    ((i : Init) → GivesSize i (meaning old.types t) size → code ≡ told (given_rules (elements_given (Some i) (Some (meaning old.types t))))) → Tells old new place (option_map breach code) →
    KeepsAt old new place (given_rules (elements_given (Some init) (Some (meaning old.types t))))
size_kept old new place t init size code gives is tells = one_kept old new place _ VariableArray code (is init gives) tells

no_size : (init : Option Init) (t : Option Ty) → (init ≡ None) ⊎ (t ≡ None) → given_rules (elements_given init t) ≡ []
unfolding most_elements
no_size init None is = refl
no_size None (Some t) is = refl
no_size (Some init) (Some t) (inl is) = absurd (none-some init (sym is))
no_size (Some init) (Some t) (inr is) = absurd (none-some t (sym is))

pub no_size_kept : (checker : Checker) (place : At) (t : Option ℕ) (init : Option Init) → (init ≡ None) ⊎ (t ≡ None) → KeepsAt checker checker place (given_rules (elements_given init (option_map (meaning checker.types) t)))
no_size_kept checker place t init is =
    subst (λ bs. KeepsCodes (kept_in checker) (mark_at place) bs (kept_in checker)) (sym (no_size init (option_map (meaning checker.types) t) (by is))) (the_lesser_is_kept (kept_in checker) (mark_at place) None)
  where
    by : (init ≡ None) ⊎ (t ≡ None) → (init ≡ None) ⊎ (option_map (meaning checker.types) t ≡ None)
    by (inl e) = inl e
    by (inr e) = inr (ap (option_map (meaning checker.types)) e)

-- a type without an initialiser stays as it is
pub puts_none : (checker : Checker) → IsSound checker → PutsTypes checker checker
puts_none checker sound = record { grows = record { longer = longer_same checker.types; sound = sound; outside = refl; kept = refl; records = refl }; names = refl }

pub sized_none : (init : Option Init) (t : Option Ty) → (init ≡ None) ⊎ (t ≡ None) → t ≡ completed init t
unfolding most_elements
sized_none init None is = refl
sized_none None (Some t) is = refl
sized_none (Some init) (Some t) (inl is) = absurd (none-some init (sym is))
sized_none (Some init) (Some t) (inr is) = absurd (none-some t (sym is))

-- what waits stands at file scope
some_env : ℕ → Env
some_env n = record { outside = record { defined = []; externs = [] }; declared = []; base = n; tags = []; tag_base = 0; structs = []; result = None; role = AsOperand; in_size = false }

pub waits_at_file : (scope : Scope) (ss : List Storage) (given : Given) → ((env at_end : Env) → env_for env at_end (scope_of scope) ss (given_of given) ≡ at_end) → scope ≡ File
unfolding some_env
waits_at_file File ss given is = refl
waits_at_file Block ss given is = absurd (zero_one (ap (λ (e : Env). e.base) (is (some_env 0) (some_env 1))))
  where
    zero_one : ◌≡◌ {A = ℕ} 0 1 → ⊥
    zero_one e = cc

pub waits_so : (table : Table) (scope : Scope) (ss : List Storage) (given : Given) (place : At) (t : Ty) (ty : ℕ) (pending : Option Pending) → IsKnown table ty → given_of given ≡ rule.Bare →
    ((env at_end : Env) → env_for env at_end (scope_of scope) ss (given_of given) ≡ at_end) → IsWaiting ss place t ty pending → WaitsIn table scope given pending
waits_so table scope ss given place t ty None known bare waits is = tt
waits_so table scope ss given place t ty (Some p) known bare waits is = (waits_at_file scope ss given waits, bare, subst (λ (q : Pending). IsKnown table q.ty) (sym is.0) known)

pub pending_listed : (table : Table) (scope : Scope) (given : Given) (p : Option Pending) → WaitsIn table scope given p → AreKnownPending table (listed p)
pending_listed table scope given None waits = tt
pending_listed table scope given (Some p) waits = (waits.2, tt)

abbrev use_of : How → ℕ → NameUse
use_of how t = record { scope = how.scope; given = how.given; linkage = how.linkage; ty = t }

-- both codes by a type
named_are : (env at_end : Env) (how : How) (ss : List Storage) (name : List ℕ) (t : Ty) → how.linkage ≡ linkage_of env (scope_of how.scope) ss (is_function t) name →
    use_rules (scope_of how.scope) ss name how.linkage t (given_of how.given) ++ unless (is_complete_object env at_end (scope_of how.scope) ss t (given_of how.given)) Incomplete ≡
    named_rules env at_end (scope_of how.scope) ss name t (given_of how.given)
named_are env at_end how ss name t is =
    ap (λ l. use_rules (scope_of how.scope) ss name l t (given_of how.given) ++ unless (is_complete_object env at_end (scope_of how.scope) ss t (given_of how.given)) Incomplete) is

pub no_type_asked : (checker : Checker) (ss : List Storage) (how : How) (named : Named) → AsksType checker checker ss how named None None
no_type_asked checker ss how named at_end env is_in reach others more last kept = no_codes at_end (kept_in checker) last others (mark named.spot named.ordinal) more kept

pub type_asked : (old mid new : Checker) (ss : List Storage) (how : How) (named : Named) (place : At) (t : ℕ) (pending : Option Pending) → mark_at place ≡ mark named.spot named.ordinal →
    IsSame old mid → IsSame mid new → KeepsAt old mid place (use_rules (scope_of how.scope) ss named.name how.linkage (meaning old.types t) (given_of how.given)) →
    AsksComplete mid new ss place (use_of how t) pending → AsksType old new ss how named (Some t) pending
type_asked old mid new ss how named place t pending marks first second uses asks at_end env is_in reach others more last kept =
    subst (λ m. KeepsAll at_end (kept_in old) others (codes_at m named_codes ∷ more) last) marks
    (subst (λ bs. KeepsAll at_end (kept_in old) others (codes_at (mark_at place) bs ∷ more) last) (named_are env at_end how ss named.name (meaning old.types t) reach)
    (codes_joined at_end (kept_in old) last others (mark_at place) used complete more
    (codes_first at_end (kept_in old) (kept_in mid) last others (mark_at place) used (codes_at (mark_at place) complete ∷ more) uses (by pending asks kept))))
  where
    used : List Breach
    used = use_rules (scope_of how.scope) ss named.name how.linkage (meaning old.types t) (given_of how.given)

    complete : List Breach
    complete = complete_rules env at_end ss (use_of how t) (meaning old.types t)

    named_codes : List Breach
    named_codes = named_rules env at_end (scope_of how.scope) ss named.name (meaning old.types t) (given_of how.given)

    complete_in : (table : Table) → table ≡ old.types → complete_rules env at_end ss (use_of how t) (meaning table t) ≡ complete
    complete_in table is = ap (λ ty. complete_rules env at_end ss (use_of how t) (meaning ty t)) is

    by : (p : Option Pending) → AsksComplete mid new ss place (use_of how t) p → KeepsAll at_end (kept_in new) others (pending_codes new.types at_end (listed p) ++ more) last →
        KeepsAll at_end (kept_in mid) others (codes_at (mark_at place) complete ∷ more) last
    by None asks kept =
        codes_first at_end (kept_in mid) (kept_in new) last others (mark_at place) complete more
        (subst (λ bs. KeepsCodes (kept_in mid) (mark_at place) bs (kept_in new)) (complete_in mid.types first.types) (asks at_end env (in_same old mid first env is_in))) kept
    by (Some p) asks kept =
        subst (λ k. KeepsAll at_end k others (codes_at (mark_at place) complete ∷ more) last) asks.1
        (subst (λ bs. KeepsAll at_end (kept_in new) others (codes_at (mark_at place) bs ∷ more) last) (sym (asks.2 at_end env) ∙ complete_in mid.types first.types)
        (subst (λ ty. KeepsAll at_end (kept_in new) others (codes_at (mark_at place) (pending_rules at_end (meaning ty t)) ∷ more) last) second.types
        (subst (λ (q : Pending). KeepsAll at_end (kept_in new) others (codes_at (mark_at q.at) (pending_rules at_end (meaning new.types q.ty)) ∷ more) last) asks.0 kept)))

-- ---- code 21

-- nothing asks which node declares a name
any_ordinal : (env : Env) (d : Declared) (n : ℕ) → name_rules env d ≡ name_rules env (record d { ordinal = n })
any_ordinal env d n = ap (λ b. if b && not (is_second env d) then [] else breach_of Redeclared d.name ∷ []) (by (look_up_here env d.name))
  where
    by : (o : Option Declared) → may_stand o d ≡ may_stand o (record d { ordinal = n })
    by None = refl
    by (Some old) = refl

without_initialiser : (t : Option Ty) → t ≡ completed None t
unfolding most_elements
without_initialiser None = refl
without_initialiser (Some t) = refl

-- a name is declared as the rules have it
pub name_told : (env : Env) (scope : Scope) (ss : List Storage) (given : Given) (named : Named) (checker : Checker) (t : Option Ty) (how : How) (made : Option Ty) → IsIn checker env →
    IsHow checker scope ss given named t how → made ≡ type_with_old env named.name how.linkage t →
    name_rules env (declared_by ss how named made) ≡ name_rules env (declared_as env (scope_of scope) ss (given_of given) None named.name 0 t)
name_told env scope ss given named checker t how made is_in is made_is =
    any_ordinal env (declared_by ss how named made) 0 ∙
    ap (name_rules env)
    (same_declared (ap (λ s. meaning_of (scope_of s) ss made) is.stands ∙ ap (meaning_of (scope_of scope) ss) (made_is ∙ (ap (λ l. type_with_old env named.name l t) (is.linkage env is_in) ∙ without_initialiser _)))
    (is.linkage env is_in) (is.defines (scope_of scope)))
  where
    same_declared : {m n : Meaning} {l k : Linkage} {d e : Defines} → m ≡ n → l ≡ k → d ≡ e →
        ◌≡◌ {A = Declared} (record { name = named.name; meaning = m; linkage = l; defines = d; ordinal = 0 }) (record { name = named.name; meaning = n; linkage = k; defines = e; ordinal = 0 })
    same_declared p q r = cc

-- ---- all of it

pub pendings_stay : (old new : Table) → IsTable old → IsLonger old new → (at_end : Env) (ps : List Pending) → AreKnownPending old ps → pending_codes new at_end ps ≡ pending_codes old at_end ps
pendings_stay old new good longer at_end [] known = refl
pendings_stay old new good longer at_end (p ∷ ps) known =
    ap (λ t. codes_at (mark_at p.at) (pending_rules at_end t) ∷ pending_codes new at_end ps) (meaning_stays old new good longer p.ty known.0) ∙
    ap (λ cs. codes_at (mark_at p.at) (pending_rules at_end (meaning old p.ty)) ∷ cs) (pendings_stay old new good longer at_end ps known.1)

pub same_name : {n m : List ℕ} {a b : Meaning} {l k : Linkage} {d e : Defines} {i j : ℕ} → n ≡ m → a ≡ b → l ≡ k → d ≡ e → i ≡ j →
    ◌≡◌ {A = Declared} (record { name = n; meaning = a; linkage = l; defines = d; ordinal = i }) (record { name = m; meaning = b; linkage = k; defines = e; ordinal = j })
same_name p q r s t = cc

module _ (c0 c1 c2 c3 c4 c5 c6 : Checker) (scope : Scope) (ss : List Storage) (given : Given) (named : Named) (place : At) (t : Option ℕ) (init : Option Init) (how : How) (made whole recorded : Option ℕ)
    (declared : CodeDeclared) (pending : Option Pending) where
  pub name_declared : mark_at place ≡ mark named.spot named.ordinal → IsSound c0 → IsSound c4 → IfSome t (IsKnown c0.types) → AreKnownPending c3.types (listed pending) →
      IsLonger c3.types c6.types → IsTable c3.types →
      IsHow c0 scope ss given named (option_map (meaning c0.types) t) how → PutsTypes c0 c1 →
      ((env : Env) → IsIn c0 env → option_map (meaning c1.types) made ≡ type_with_old env named.name how.linkage (option_map (meaning c0.types) t)) →
      declared_in c1.types declared ≡ declared_by ss how named (option_map (meaning c1.types) made) →
      ((env : Env) → IsIn c1 env → KeepsAt c1 c2 place (name_rules env (declared_in c1.types declared))) → IsSame c1 c2 →
      AsksType c2 c3 ss how named t pending → IsSame c2 c3 →
      KeepsAt c3 c4 place (given_rules (elements_given init (option_map (meaning c3.types) made))) → IsSame c3 c4 →
      PutsTypes c4 c5 → option_map (meaning c5.types) whole ≡ completed init (option_map (meaning c4.types) made) →
      PutsName c5 c6 (meant_by ss how declared (option_map (meaning c5.types) whole)) → option_map (meaning c5.types) t ≡ option_map (meaning c0.types) t →
      option_map (meaning c5.types) recorded ≡ type_recorded (given_of given) (option_map (meaning c5.types) t) (option_map (meaning c5.types) whole) →
      PutsDeclared c5 c6 (meant_by ss how declared (option_map (meaning c5.types) whole)) (option_map (meaning c5.types) recorded) →
      DeclaresName c0 c6 scope ss given named t init (record { ty = whole; pending = pending })
  name_declared marks sound0 sound4 known_t known_pending longer good is puts1 made_is written again same2 asks same3 size same4 puts5 whole_is put still recorded_is records at_end env is_in =
      record {
        type = ap (λ ty. option_map (meaning ty) whole) put.types ∙ whole_told;
        behind = subst (λ d. IsIn c6 (extend env (one_name d))) declared_told (put.names env is5);
        keeps = λ others more last kept. keeps others more last kept;
        puts = puts_behind c0 c5 c6 (declared_as env (scope_of scope) ss (given_of given) init name named.ordinal T) (type_recorded (given_of given) T (completed init composed))
            (puts5.grows.records ∙ (same4.records ∙ (same3.records ∙ (same2.records ∙ puts1.grows.records))))
            (subst (λ d. PutsDeclared c5 c6 d (type_recorded (given_of given) T (completed init composed))) declared_told
            (subst (PutsDeclared c5 c6 (meant_by ss how declared (option_map (meaning c5.types) whole)))
            (recorded_is ∙ (ap (λ a. type_recorded (given_of given) a (option_map (meaning c5.types) whole)) still ∙ ap (type_recorded (given_of given) T) whole_told)) records));
      }
    where
      T : Option Ty
      T = option_map (meaning c0.types) t

      name : List ℕ
      name = named.name

      composed : Option Ty
      composed = composite_type env (scope_of scope) ss name T

      m : Mark
      m = mark named.spot named.ordinal

      is1 : IsIn c1 env
      is1 = in_puts c0 c1 sound0 puts1 env is_in

      is2 : IsIn c2 env
      is2 = in_same c1 c2 same2 env is1

      is5 : IsIn c5 env
      is5 = in_puts c4 c5 sound4 puts5 env (in_same c3 c4 same4 env (in_same c2 c3 same3 env is2))

      reach : how.linkage ≡ reach_of env (scope_of scope) ss name T
      reach = is.linkage env is_in

      made1 : option_map (meaning c1.types) made ≡ composed
      made1 = made_is env is_in ∙ ap (λ l. type_with_old env name l T) reach

      made3 : option_map (meaning c3.types) made ≡ composed
      made3 = ap (λ ty. option_map (meaning ty) made) (same3.types ∙ same2.types) ∙ made1

      whole_told : option_map (meaning c5.types) whole ≡ completed init composed
      whole_told = whole_is ∙ (ap (λ ty. completed init (option_map (meaning ty) made)) same4.types ∙ ap (completed init) made3)

      declared_told : meant_by ss how declared (option_map (meaning c5.types) whole) ≡ declared_as env (scope_of scope) ss (given_of given) init name named.ordinal T
      declared_told =
          same_name (ap (λ (d : Declared). d.name) written)
          (ap (λ s. meaning_of (scope_of s) ss (option_map (meaning c5.types) whole)) is.stands ∙ ap (meaning_of (scope_of scope) ss) whole_told)
          (ap (λ (d : Declared). d.linkage) written ∙ reach) (ap (λ (d : Declared). d.defines) written ∙ is.defines (scope_of scope)) (ap (λ (d : Declared). d.ordinal) written)

      type2 : option_map (meaning c2.types) t ≡ T
      type2 = ap (λ ty. option_map (meaning ty) t) same2.types ∙ type_stays c0.types c1.types sound0.ready.table_is puts1.grows.longer t known_t

      reach2 : how.linkage ≡ reach_of env (scope_of how.scope) ss name (option_map (meaning c2.types) t)
      reach2 = reach ∙ (ap (λ s. reach_of env (scope_of s) ss name T) (sym is.stands) ∙ ap (reach_of env (scope_of how.scope) ss name) (sym type2))

      R : List Breach
      R = name_rules env (declared_in c1.types declared)

      N : List Breach
      N = of_type (option_map (meaning c2.types) t) (λ u. named_rules env at_end (scope_of how.scope) ss name u (given_of how.given))

      G : List Breach
      G = given_rules (elements_given init (option_map (meaning c3.types) made))

      R_is : R ≡ name_rules env (declared_as env (scope_of scope) ss (given_of given) None name 0 T)
      R_is = ap (name_rules env) written ∙ name_told env scope ss given named c0 T how (option_map (meaning c1.types) made) is_in is (made_is env is_in)

      N_is : N ≡ of_type T (λ u. named_rules env at_end (scope_of scope) ss name u (given_of given))
      N_is =
          ap (λ v. of_type v (λ u. named_rules env at_end (scope_of how.scope) ss name u (given_of how.given))) type2 ∙
          (ap (λ s. of_type T (λ u. named_rules env at_end (scope_of s) ss name u (given_of how.given))) is.stands ∙ ap (λ g. of_type T (λ u. named_rules env at_end (scope_of scope) ss name u (given_of g))) is.gives)

      all_are : (R ++ N) ++ G ≡ name_use_rules env T name (Declares (scope_of scope) ss (given_of given) (elements_given init composed) at_end)
      all_are = three R_is N_is (ap (λ v. given_rules (elements_given init v)) made3)
        where
          three : {a b x y p q : List Breach} → a ≡ b → x ≡ y → p ≡ q → (a ++ x) ++ p ≡ (b ++ y) ++ q
          three e f g = cc

      keeps : KeepsBut at_end c0 c6 pending (codes_at m (name_use_rules env T name (Declares (scope_of scope) ss (given_of given) (elements_given init composed) at_end)) ∷ [])
      keeps others more last kept =
          let ps = pending_codes c3.types at_end (listed pending) in
          let k4 : KeepsAll at_end (kept_in c4) others (ps ++ more) last =
          subst (λ k. KeepsAll at_end k others (ps ++ more) last) (put.kept ∙ puts5.grows.kept)
          (subst (λ cs. KeepsAll at_end (kept_in c6) others (cs ++ more) last) (pendings_stay c3.types c6.types good longer at_end (listed pending) known_pending) kept) in
          let k3 = codes_turned at_end (kept_in c3) last others (codes_at m G ∷ []) ps more
          (codes_first at_end (kept_in c3) (kept_in c4) last others m G (ps ++ more) (subst (λ n. KeepsCodes (kept_in c3) n G (kept_in c4)) marks size) k4) in
          let k2 = asks at_end env is2 reach2 others (codes_at m G ∷ more) last k3 in
          let k1 = codes_first at_end (kept_in c1) (kept_in c2) last others m R (codes_at m N ∷ codes_at m G ∷ more) (subst (λ n. KeepsCodes (kept_in c1) n R (kept_in c2)) marks (again env is1)) k2 in
          subst (λ bs. KeepsAll at_end (kept_in c0) others (codes_at m bs ∷ more) last) all_are
          (subst (λ k. KeepsAll at_end k others (codes_at m ((R ++ N) ++ G) ∷ more) last) puts1.grows.kept
          (codes_joined at_end (kept_in c1) last others m (R ++ N) G more (codes_joined at_end (kept_in c1) last others m R N (codes_at m G ∷ more) k1)))

pub further_puts : (old new : Checker) → PutsTypes old new → IsFurther old new
further_puts old new puts =
    record {
      longer = puts.grows.longer;
      sound = puts.grows.sound;
      outside = puts.grows.outside;
      begun = λ s is. subst (λ (n : InScope). slice_get n.structs s ≡ Some Begun) (sym puts.names) is;
    }

pub further_same : (old new : Checker) → IsSound old → IsSame old new → IsFurther old new
further_same old new sound same =
    record {
      longer = subst (IsLonger old.types) (sym same.types) (longer_same old.types);
      sound = sound_as old new same.types same.names sound;
      outside = same.outside;
      begun = λ s is. subst (λ (n : InScope). slice_get n.structs s ≡ Some Begun) (sym same.names) is;
    }

pub further_then : (a b c : Checker) → IsFurther a b → IsFurther b c → IsFurther a c
further_then a b c p q =
    record { longer = longer_then a.types b.types c.types p.longer q.longer; sound = q.sound; outside = q.outside ∙ p.outside; begun = λ s is. q.begun s (p.begun s is) }

pub same_sound : (old new : Checker) → IsSame old new → IsSound old → IsSound new
same_sound old new same sound = sound_as old new same.types same.names sound

pub same_known : (old new : Checker) → IsSame old new → (t : Option ℕ) → IfSome t (IsKnown old.types) → IfSome t (IsKnown new.types)
same_known old new same t known = subst (λ ty. IfSome t (IsKnown ty)) (sym same.types) known

pub puts_known : (old new : Checker) → IsSound old → PutsTypes old new → (t : Option ℕ) → IfSome t (IsKnown old.types) → IfSome t (IsKnown new.types)
puts_known old new sound puts t known = result_known old.types new.types sound.ready.table_is puts.grows.longer t known

pub waits_later : (old new : Table) → IsTable old → IsLonger old new → (scope place : Scope) (given value : Given) (p : Option Pending) → scope ≡ place → given ≡ value → WaitsIn old scope given p → WaitsIn new place value p
waits_later old new good longer scope place given value None scope_is given_is waits = tt
waits_later old new good longer scope place given value (Some p) scope_is given_is waits = (sym scope_is ∙ waits.0, ap given_of (sym given_is) ∙ waits.1, known_same old new good longer p.ty waits.2)

-- ---- a name in scope

pub both_held : {T E : Type 0} (P Q : Type 0) (r : Result T E) → OnOk r P → OnOk r Q → OnOk r (P × Q)
both_held P Q (Ok x) p q = (p, q)
both_held P Q (Err e) p q = tt

pub put_further : (old : Checker) (names : InScope) (d : CodeDeclared) → IsSound old → names ≡ record old.names { declared = old.names.declared ++ d ∷ [] } → IsKnownScope old.types names →
    IsFurther old (record old { names = names })
put_further old names d sound is known =
    let structs_are : names.structs ≡ old.names.structs = ap (λ (n : InScope). n.structs) is in
    record {
      longer = longer_same old.types;
      sound = record { ready = sound.ready; few = sound.few; scope = known; structs = subst (AreListed old.types) (sym structs_are) sound.structs };
      outside = refl;
      begun = λ s begun. subst (λ ms. slice_get ms s ≡ Some Begun) (sym structs_are) begun;
    }

pub put_so : (old : Checker) (names : InScope) (d : CodeDeclared) → Adds old.names names (λ table. name_added (declared_in table d)) → PutsName old (record old { names = names }) (declared_in old.types d)
put_so old names d adds =
    record {
      kept = refl;
      types = refl;
      names = λ env is_in. record {
        scope = adds old.types env ∙ ap (λ e. extend e (one_name (declared_in old.types d))) is_in.scope;
        defined = is_in.defined;
        externs = is_in.externs;
      };
    }

-- and something is recorded
pub put_recorded : (old new : Checker) (r : Recorded) (d : Declared) → PutsName old new d → PutsName old (with_records new r) d
put_recorded old new r d puts = record { kept = puts.kept; types = puts.types; names = λ env is_in. in_recorded new r _ (puts.names env is_in) }

-- a type stays what it was through the steps of a declaration
module _ (c0 c1 c2 c3 c4 c5 : Checker) (t : Option ℕ) (sound : IsSound c0) (puts1 : PutsTypes c0 c1) (same2 : IsSame c1 c2) (same3 : IsSame c2 c3) (same4 : IsSame c3 c4) (puts5 : PutsTypes c4 c5)
    (known : IfSome t (IsKnown c0.types)) where
  known4 : IfSome t (IsKnown c4.types)
  known4 = same_known c3 c4 same4 t (same_known c2 c3 same3 t (same_known c1 c2 same2 t (puts_known c0 c1 sound puts1 t known)))

  sound4 : IsSound c4
  sound4 = same_sound c3 c4 same4 (same_sound c2 c3 same3 (same_sound c1 c2 same2 puts1.grows.sound))

  pub known_unchanged : IfSome t (IsKnown c5.types)
  known_unchanged = puts_known c4 c5 sound4 puts5 t known4

  pub type_unchanged : option_map (meaning c5.types) t ≡ option_map (meaning c0.types) t
  type_unchanged =
      type_stays c4.types c5.types sound4.ready.table_is puts5.grows.longer t known4 ∙ ap (λ ty. option_map (meaning ty) t) same4.types ∙ ap (λ ty. option_map (meaning ty) t) same3.types ∙
      ap (λ ty. option_map (meaning ty) t) same2.types ∙ type_stays c0.types c1.types sound.ready.table_is puts1.grows.longer t known
