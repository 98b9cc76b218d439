-- Initialisers that are walked.
use Rattle.std.proofs.Common.{◌≡◌, ◌∙◌, ℕ, Bool, true, false, List, [], ◌∷◌, Option, Some, None, map, refl, sym, ap, subst}
use Rattle.std.specs.Prelude.{◌&&◌, ◌||◌, is_none, is_some, option_map, if◌then◌else◌}
use Rattle.lk_base.specs.declared.code.Code.{Code}
use Rattle.lk_tree.specs.declared.declaration.Entry.{Entry}
use Rattle.lk_tree.specs.declared.declaration.Init.TheOpen.{Init-F}
use Rattle.lk_tree.specs.declared.declaration.Init.{Init, out-Init}
use Rattle.lk_tree.specs.declared.declaration.InitList.{InitList, out-InitList}
use Rattle.lk_tree.specs.declared.expression.Expr.{Expr}
use Rattle.lk_types.specs.Building.{IsLonger}
use Rattle.lk_types.specs.Table.{Table}
use Rattle.lk_typed.specs.Env.{Env, Additions, converted_to, nothing}
use Rattle.lk_typed.specs.Expressions.{expr_adds, expr_text, expr_word, expression, has_expr_type}
use Rattle.lk_typed.specs.Faults.{Breach, breach}
use Rattle.lk_typed.specs.InitialiserRules.{Braces, Object, Seen, expression_rules}
use Rattle.lk_typed.specs.Initialisers as spec
use Rattle.lk_typed.specs.Initialisers.{Adder, as_initialiser, entries_in_turn, in_turn, init_adds, initialiser_rules, parts_of_init, text_alone, unless_word}
use Rattle.lk_typed.specs.Meaning.{meaning}
use Rattle.lk_typed.specs.NodeRules.{are_typed, has_initialiser_type, has_type, init_mark, is_list, is_none_broken}
use Rattle.lk_typed.specs.Nodes.{AnExpression, AnInitialiser, Placed}
use Rattle.lk_typed.specs.Nodes as nodes
use Rattle.lk_typed.specs.Parts.{to_result}
use Rattle.lk_typed.specs.Ty.{Ty}
use Rattle.lk_typed.specs.Typing.{Typing}
use Rattle.lk_typed.specs.Typings.{structs_in}
use Rattle.lk_check_decl.specs.Breaches.{told}
use Rattle.lk_check_decl.specs.declared.initialisers.Target.{Target}
use Rattle.lk_found.specs.Findings.{IsFoundTyping, mark_at}
use Rattle.lk_found.specs.declared.found.At.{At}
use Rattle.lk_found.specs.declared.found.Found.{Found}
use Rattle.lk_checker.specs.States.{IsSound, Tells, kept_in}
use Rattle.lk_checker.specs.declared.checker.Checker.{Checker}
use Rattle.lk_check_walk.proofs.Walking.{no_walk}
use Rattle.lk_check_walk.specs.Walks.{Walks}
use Rattle.lk_rules.specs.Keeping.{KeepsCodes}
use Rattle.lk_check_unit.specs.Bodies.{IsPlain}
use Rattle.lk_check_unit.specs.Converting.{IsConvertedFound, WalksConverted}
use Rattle.lk_check_unit.specs.Initialising.{IsInitCode, IsKnownTarget, IsNoWord, IsWord, WalksEntries, WalksExpr, WalksList, braces_rules, entry_adds, object_for, object_type, seen_rules, typed_seen, typing_rules, word_seen}
use Rattle.lk_check_unit.proofs.Alike.{word_adds}
use Rattle.lk_check_unit.proofs.Codes.{TellName, codes_told}
use Rattle.lk_check_unit.proofs.Entries.{object_stays}
use Rattle.lk_check_unit.proofs.Initials.{adds_of_expression, adds_of_list}
use Rattle.lk_check_unit.proofs.Nameless.{if_tell, none_tell}
use Rattle.lk_check_unit.proofs.Untold.{braces_tell, none_told, typing_tells, word_tells}
use Rattle.lk_check_unit.proofs.Walking.{walks_told}

-- ---- an initialiser, by what it is

abbrev OneForm : Type 0
OneForm = Init-F Init Entry InitList

-- the codes that hold at it
abbrev codes_of_init : Option Object → Env → Init → List Breach
codes_of_init object env init = if are_typed (parts_of_init object env (out-Init init)) then initialiser_rules object env init else []

-- its parts are walked, and then its code is kept
told_init : (at_end env : Env) (object : Option Object) (init : Init) (a b c : Checker) (place : At) (x : Additions) (bs : List Breach) (code : Option Code) →
    mark_at place ≡ init_mark (out-Init init) → Walks at_end a b env x (parts_of_init object env (out-Init init)) → TellName [] bs → code ≡ told bs →
    codes_of_init object env init ≡ bs → Tells b c place (option_map breach code) → Walks at_end a c env x (nodes.at env (AnInitialiser object init) ∷ [])
told_init at_end env object init a b c place x bs code marks walks names is codes tells =
    walks_told at_end a b c env env x (AnInitialiser object init) refl refl walks tells.types tells.names tells.outside tells.records
    (subst (λ m. KeepsCodes (kept_in b) m (codes_of_init object env init) (kept_in c)) marks
    (subst (λ cs. KeepsCodes (kept_in b) (mark_at place) cs (kept_in c)) (sym codes)
    (subst (KeepsCodes (kept_in b) (mark_at place) bs) (sym tells.kept) (codes_told (kept_in b) (mark_at place) [] bs code names is))))

mark_of_expression : (init : Init) (e : Expr) (place : At) → out-Init init ≡ Init-F.Expr e → place.spot ≡ e.spot → place.ordinal ≡ e.ordinal → mark_at place ≡ init_mark (out-Init init)
mark_of_expression init e place is spot ordinal =
    ap (λ s. mark_at (record { spot = s; ordinal = place.ordinal })) spot ∙ (ap (λ n. mark_at (record { spot = e.spot; ordinal = n })) ordinal ∙ ap init_mark (sym is))

-- whether it has a type
abbrev type_of_init : Option Object → Env → OneForm → List Breach → Bool
type_of_init object env f bs = has_initialiser_type object env f && (is_list f || is_none_broken bs)

-- what an expression is seen as
abbrev seen_by : Option Ty → Option Seen → Option Seen
seen_by None seen = seen
seen_by (Some lock) seen = Some (word_seen lock)

abbrev seen_of : Option ℕ → Ty → Option Typing → Option Seen
seen_of text target None = None
seen_of text target (Some x) = Some (typed_seen text target x)

abbrev seen_there : Object → Expr → Env → Option Seen
seen_there object e env = seen_of (expr_text e) object.type (expression e (converted_to env object.type)).typing

-- the code of an expression, by the word that it is
expression_codes : (object : Object) (env : Env) (init : Init) (e : Expr) (w : Option Ty) → out-Init init ≡ Init-F.Expr e → w ≡ expr_word e env →
    initialiser_rules (Some object) env init ≡ expression_rules object (seen_by w (seen_there object e env))
expression_codes object env init e w form is =
    ap (λ f. spec.rules_of_init object env f) form ∙ ap (λ w. expression_rules object (seen_by w (seen_there object e env))) (sym is)

-- ---- initialiser words

word_parts : (object : Option Object) (env : Env) (init : Init) (e : Expr) (lock : Ty) → out-Init init ≡ Init-F.Expr e → Some lock ≡ expr_word e env → parts_of_init object env (out-Init init) ≡ []
word_parts object env init e lock form is = ap (parts_of_init object env) form ∙ ap (λ w. unless_word w (nodes.at (as_initialiser object env) (AnExpression e) ∷ [])) (sym is)

word_codes : (object : Option Object) (env : Env) (init : Init) (e : Expr) (lock : Ty) → out-Init init ≡ Init-F.Expr e → Some lock ≡ expr_word e env →
    initialiser_rules object env init ≡ seen_rules object (word_seen lock)
word_codes None env init e lock form is = refl
word_codes (Some object) env init e lock form is = expression_codes object env init e (Some lock) form is

pub word_walked : (target : Option Target) (e : Expr) (word : ℕ) (old new : Checker) (place : At) (code : Option Code) → IsSound old → IsWord old e word →
    place.spot ≡ e.spot → place.ordinal ≡ e.ordinal → code ≡ told (seen_rules (object_for old.types target) (word_seen (meaning old.types word))) →
    Tells old new place (option_map breach code) → WalksExpr target e old new (is_none code)
word_walked target e word old new place code sound is_word spot ordinal is tells init form =
    let object = object_for old.types target in
    let lock = meaning old.types word in
    let bs = seen_rules object (word_seen lock) in
    record {
      walks = λ at_end env plain.
          let w = is_word env plain.is_in in
          let none = word_parts object env init e lock form w in
          subst (λ x. Walks at_end old new env x (nodes.at env (AnInitialiser object init) ∷ [])) (sym (ap (λ (a : Adder). a env) (adds_of_expression init e form) ∙ word_adds e env lock w))
          (told_init at_end env object init old old new place nothing bs code (mark_of_expression init e place form spot ordinal)
          (subst (λ ps. Walks at_end old old env nothing ps) (sym none) (no_walk at_end old env sound plain.is_in)) (word_tells object lock) is
          (ap (λ ps. if are_typed ps then initialiser_rules object env init else []) none ∙ word_codes object env init e lock form w) tells);
      typed = λ env plain.
          let w = is_word env plain.is_in in
          let cs = initialiser_rules object env init in
          ap is_none is ∙ (none_told bs ∙ sym
          (ap (λ f. type_of_init object env f cs) form ∙
          (ap (λ v. (is_some v || has_expr_type e (as_initialiser object env)) && (false || is_none_broken cs)) (sym w) ∙ ap is_none_broken (word_codes object env init e lock form w))));
    }

-- ---- other expressions

where_judged : (object : Option Object) (env : Env) → to_result env (object_type object) ≡ as_initialiser object env
where_judged None env = refl
where_judged (Some object) env = refl

value_parts : (object : Option Object) (env : Env) (init : Init) (e : Expr) → out-Init init ≡ Init-F.Expr e → None ≡ expr_word e env →
    parts_of_init object env (out-Init init) ≡ nodes.at (as_initialiser object env) (AnExpression e) ∷ []
value_parts object env init e form is = ap (parts_of_init object env) form ∙ ap (λ w. unless_word w (nodes.at (as_initialiser object env) (AnExpression e) ∷ [])) (sym is)

of_none : (text : Option ℕ) (x : Option Typing) (b : Bool) → (if b then [] else []) ≡ typing_rules None text x
of_none text None true = refl
of_none text None false = refl
of_none text (Some x) true = refl
of_none text (Some x) false = refl

of_some : (object : Object) (text : Option ℕ) (x : Option Typing) → (if is_some x && true then expression_rules object (seen_of text object.type x) else []) ≡ typing_rules (Some object) text x
of_some object text None = refl
of_some object text (Some x) = refl

value_codes : (object : Option Object) (env : Env) (init : Init) (e : Expr) → out-Init init ≡ Init-F.Expr e → None ≡ expr_word e env →
    codes_of_init object env init ≡ typing_rules object (expr_text e) (expression e (as_initialiser object env)).typing
value_codes None env init e form is = of_none (expr_text e) (expression e env).typing (are_typed (parts_of_init None env (out-Init init)))
value_codes (Some object) env init e form is =
    ap (λ ps. if are_typed ps then initialiser_rules (Some object) env init else []) (value_parts (Some object) env init e form is) ∙
    (ap (λ cs. if has_expr_type e (converted_to env object.type) && true then cs else []) (expression_codes object env init e None form is) ∙
    of_some object (expr_text e) (expression e (converted_to env object.type)).typing)

-- its own codes, where it has a type
value_broken : (object : Option Object) (env : Env) (init : Init) (e : Expr) → out-Init init ≡ Init-F.Expr e → None ≡ expr_word e env →
    (is_some (expression e (as_initialiser object env)).typing && is_none_broken (typing_rules object (expr_text e) (expression e (as_initialiser object env)).typing)) ≡ has_type env (AnInitialiser object init)
value_broken object env init e form is =
    by object (expression e (as_initialiser object env)).typing refl ∙ sym
    (ap (λ f. type_of_init object env f (initialiser_rules object env init)) form ∙
    ap (λ v. (is_some v || has_expr_type e (as_initialiser object env)) && (false || is_none_broken (initialiser_rules object env init))) (sym is))
  where
    by : (o : Option Object) (x : Option Typing) → (expression e (as_initialiser o env)).typing ≡ x →
        (is_some x && is_none_broken (typing_rules o (expr_text e) x)) ≡ (is_some (expression e (as_initialiser o env)).typing && is_none_broken (initialiser_rules o env init))
    by o None x_is = ap (λ y. is_some y && is_none_broken (initialiser_rules o env init)) (sym x_is)
    by None (Some x) x_is = ap (λ y. is_some y && true) (sym x_is)
    by (Some object) (Some x) x_is =
        ap (λ y. is_some y && is_none_broken (typing_rules (Some object) (expr_text e) (Some x))) (sym x_is) ∙
        ap (λ cs. is_some (expression e (converted_to env object.type)).typing && is_none_broken cs)
        (sym (expression_codes object env init e None form is ∙ ap (λ y. expression_rules object (seen_of (expr_text e) object.type y)) x_is))

pub value_walked : (target : Option Target) (text t : Option ℕ) (e : Expr) (old mid new : Checker) (place : At) (found : Found) (code : Option Code) →
    IsSound old → IsKnownTarget old.types target → IsLonger old.types mid.types → IsNoWord old e → text ≡ expr_text e →
    ((table : Table) → option_map (meaning table) t ≡ object_type (object_for table target)) → WalksConverted e t old mid → IsConvertedFound e t old mid.types found →
    IsInitCode mid.types target text found code → place.spot ≡ e.spot → place.ordinal ≡ e.ordinal → Tells mid new place (option_map breach code) →
    WalksExpr target e old new (is_some found.typing && is_none code)
value_walked target text t e old mid new place found code sound known longer no_word text_is t_is walks founds is spot ordinal tells init form =
    let object = object_for old.types target in
    let here = λ (env : Env). ap (to_result env) (t_is old.types) ∙ where_judged object env in
    let typing = λ (env : Env). (expression e (as_initialiser object env)).typing in
    let rules = λ (env : Env). typing_rules object (expr_text e) (typing env) in
    let found_is = λ (env : Env) (plain : IsPlain old env). subst (λ (h : Env). IsFoundTyping mid.types found (expression e h).typing) (here env) (founds env plain) in
    let code_is = λ (env : Env) (plain : IsPlain old env).
    is (typing env) (found_is env plain) ∙
    (ap (λ o. told (typing_rules o text (typing env))) (object_stays old mid sound longer target known) ∙ ap (λ b. told (typing_rules object b (typing env))) text_is) in
    record {
      walks = λ at_end env plain.
          let w = no_word env plain.is_in in
          subst (λ x. Walks at_end old new env x (nodes.at env (AnInitialiser object init) ∷ [])) (sym (ap (λ (a : Adder). a env) (adds_of_expression init e form)))
          (told_init at_end env object init old mid new place (expr_adds e env) (rules env) code (mark_of_expression init e place form spot ordinal)
          (subst (λ ps. Walks at_end old mid env (expr_adds e env) ps) (ap (λ h. nodes.at h (AnExpression e) ∷ []) (here env) ∙ sym (value_parts object env init e form w)) (walks at_end env plain))
          (typing_tells object (expr_text e) (typing env)) (code_is env plain) (value_codes object env init e form w) tells);
      typed = λ env plain.
          let w = no_word env plain.is_in in
          ap (λ b. is_some found.typing && b) (ap is_none (code_is env plain) ∙ none_told (rules env)) ∙
          (ap (λ b. b && is_none_broken (rules env)) (same_there mid.types found (typing env) (found_is env plain)) ∙ value_broken object env init e form w);
    }
  where
    same_there : (table : Table) (found : Found) (x : Option Typing) → IsFoundTyping table found x → is_some found.typing ≡ is_some x
    same_there table found None none = ap is_some none
    same_there table found (Some x) some = ap is_some some.1

-- ---- lists

list_codes : (object : Option Object) (env : Env) (init : Init) (list : InitList) → out-Init init ≡ Init-F.List list →
    initialiser_rules object env init ≡ braces_rules env object (spec.braces_of (out-InitList list).entries)
list_codes None env init list form = refl
list_codes (Some object) env init list form = ap (λ f. spec.rules_of_init object env f) form

told_if : (bs : List Breach) (code : Option Code) (typed : Bool) → code ≡ told bs → (if typed then code else None) ≡ told (if typed then bs else [])
told_if bs code true is = is
told_if bs code false is = refl

pub list_walked : (target : Option Target) (list : InitList) (braces : Braces) (typed : Bool) (old mid new : Checker) (place : At) (code last : Option Code) →
    braces ≡ spec.braces_of (out-InitList list).entries →
    ((env : Env) → env.structs ≡ structs_in old.types old.names.structs → code ≡ told (braces_rules env (object_for old.types target) braces)) →
    WalksEntries target braces.text (out-InitList list).entries old mid typed → place.spot ≡ (out-InitList list).spot → place.ordinal ≡ (out-InitList list).ordinal →
    last ≡ (if typed then code else None) → Tells mid new place (option_map breach last) → WalksList target list old new
list_walked target list braces typed old mid new place code last braces_is code_is walks spot ordinal last_is tells init form =
    let object = object_for old.types target in
    let es = (out-InitList list).entries in
    let parts_are = λ (env : Env). ap (λ (b : Braces). entries_in_turn object b.text env 0 es) braces_is ∙ sym (ap (parts_of_init object env) form) in
    let typed_is = λ (env : Env) (plain : IsPlain old env). walks.typed env plain ∙ ap are_typed (parts_are env) in
    let rules = λ (env : Env). braces_rules env object braces in
    record {
      walks = λ at_end env plain.
          subst (λ x. Walks at_end old new env x (nodes.at env (AnInitialiser object init) ∷ [])) (sym (ap (λ (a : Adder). a env) (adds_of_list init list form)))
          (told_init at_end env object init old mid new place (in_turn (map entry_adds es) env) (if typed then rules env else []) last
          (ap (λ s. mark_at (record { spot = s; ordinal = place.ordinal })) spot ∙ (ap (λ n. mark_at (record { spot = (out-InitList list).spot; ordinal = n })) ordinal ∙ ap init_mark (sym form)))
          (subst (λ ps. Walks at_end old mid env (in_turn (map entry_adds es) env) ps) (parts_are env) (walks.walks at_end env plain))
          (if_tell [] typed (rules env) [] (braces_tell env object braces) (none_tell []))
          (last_is ∙ told_if (rules env) code typed (code_is env (ap (λ (x : Env). x.structs) (sym plain.is_in.scope))))
          (ap (λ b. if b then initialiser_rules object env init else []) (sym (typed_is env plain)) ∙
          ap (λ cs. if typed then cs else []) (list_codes object env init list form ∙ ap (braces_rules env object) (sym braces_is)))
          tells);
      typed = λ env plain. sym (ap (λ f. type_of_init object env f (initialiser_rules object env init)) form);
    }
