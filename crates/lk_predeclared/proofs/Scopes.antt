-- Names that come into scope one by one.
use Rattle.std.proofs.Common.{◌≡◌, ◌∙◌, ◌++◌, ◌∷◌, ◌<◌, ◌+◌, [], ℕ, Bool, true, false, List, Some, None, refl, sym, ap, subst, map, length, take, append_assoc, arith, nat_lt}
use Rattle.std.specs.Prelude.{OnOk, Result, Ok, Err}
use Rattle.std.specs.List.{slice_get}
use Rattle.std.proofs.lemmas.Bool.Decides.{nat_tests}
use Rattle.std.proofs.lemmas.List.{map-append}
use Rattle.std.proofs.lemmas.List.Elements.{All-push}
use Rattle.lk_base.specs.declared.memory.NoMemory.{NoMemory}
use Rattle.lk_types.specs.Building.{IsTable, IsLonger}
use Rattle.lk_types.specs.Predeclared.{predeclared}
use Rattle.lk_types.specs.Table.{Table}
use Rattle.lk_types.proofs.FormEq.{take_more}
use Rattle.lk_typed.specs.Env.{ATypedef, AFunction, AnObject, AnEnumerator, AnInitialiserWord, AFaultyName, AsOperand, Declared, Env, Name}
use Rattle.lk_typed.specs.Env as env
use Rattle.lk_typed.specs.Library.{library, predeclared_types}
use Rattle.lk_typed.specs.Meaning.{IsReady}
use Rattle.lk_typed.specs.Names.{declared_in, is_static, meaning_in, IsKnownMeaning, IsKnownName}
use Rattle.lk_typed.specs.declared.entity.Defines.TheVariants as defines
use Rattle.lk_typed.specs.declared.entity.Linkage.TheVariants as linkage
use Rattle.lk_typed.specs.declared.names.Declared.{Declared as CodeDeclared}
use Rattle.lk_typed.specs.declared.names.Meaning.{Meaning as CodeMeaning}
use Rattle.lk_typed.specs.declared.names.Meaning.TheVariants.{Object, Function, Typedef, Enumerator, InitialiserWord, Faulty}
use Rattle.lk_names.specs.InScope.{InScope}
use Rattle.lk_names.proofs.Environments.{environment_stays}
use Rattle.lk_names.proofs.KnownScopes.{known_stays}
use Rattle.lk_check_expr.specs.Functions.{functions}
use Rattle.lk_predeclared.specs.Plain.{first_tree, IsPlain}
use Rattle.lk_predeclared.specs.Scope.{AddsName, AddsNames, HasScope, code_declared, declared, function_declared, functions_declared}
use Rattle.lk_predeclared.specs.Words.{word_meaning, word_name, words}
use Rattle.lk_predeclared.specs.declared.words.Word.{Word}
use Rattle.lk_predeclared.specs.declared.words.Word.TheVariants as w
use Rattle.lk_predeclared.proofs.FirstPlain.{first_plain}

no_names : Env
no_names =
    record {
      outside = record { defined = []; externs = [] };
      declared = [];
      base = 0;
      tags = [];
      tag_base = 0;
      structs = [];
      result = None;
      role = AsOperand;
      in_size = false;
    }

module _ (table later : Table) (good : IsTable table) (longer : IsLonger table later) where
  -- the same names while the table grows
  pub scope_stays : (scope : InScope) (names : List Declared) → HasScope table scope names → HasScope later scope names
  scope_stays scope names has = record {
    known = known_stays table later longer scope has.known;
    names_are = ap (λ e. e.declared) (environment_stays table later good longer scope has.known no_names) ∙ has.names_are;
    alone = has.alone;
  }

  -- a name whose types came with it
  pub adds_one : (old new : InScope) (d : CodeDeclared) (e : Declared) → IsKnownName later d → declared_in later d ≡ e → AddsName old new d → AddsNames table old later new (e ∷ [])
  adds_one old new d e known is adds names has =
      let stays = scope_stays old names has in
      subst (λ scope. HasScope later scope (names ++ e ∷ [])) (sym adds) (record {
        known = record {
          names = All-push (IsKnownName later) old.declared d stays.known.names known;
          tags = stays.known.tags;
          members = stays.known.members;
        };
        names_are = map-append (declared_in later) old.declared (d ∷ []) ∙ ap (λ ds. ds ++ declared_in later d ∷ []) stays.names_are ∙ ap (λ x. names ++ x ∷ []) is;
        alone = stays.alone;
      })

pub adds_then : (a b c : Table) (s t u : InScope) (xs ys : List Declared) → AddsNames a s b t xs → AddsNames b t c u ys → AddsNames a s c u (xs ++ ys)
adds_then a b c s t u xs ys first second names has = subst (HasScope c u) (append_assoc names xs ys) (second (names ++ xs) (first names has))

pub one_more : {A : Type 0} (f : A → Declared) (xs : List A) (k : ℕ) (x : A) → slice_get xs k ≡ Some x → map f (take k xs) ++ f x ∷ [] ≡ map f (take (k + 1) xs)
one_more f xs k x at = sym (map-append f (take k xs) (x ∷ [])) ∙ ap (map f) (take_more xs k x at)

-- the functions of the code are those of the rules, in their order
pub functions_are : map function_declared functions ≡ functions_declared
unfolding library
functions_are = refl

-- ---- words

-- made of predeclared types alone
abbrev pub is_first : CodeMeaning → Bool
is_first (Object t duration) = nat_lt t (length predeclared)
is_first (Function t) = nat_lt t (length predeclared)
is_first (Typedef t) = nat_lt t (length predeclared)
is_first (Enumerator value) = true
is_first (InitialiserWord t) = nat_lt t (length predeclared)
is_first Faulty = true

abbrev pub first_meaning : CodeMeaning → env.Meaning
first_meaning (Object t duration) = AnObject (first_tree t) (is_static duration)
first_meaning (Function t) = AFunction (first_tree t)
first_meaning (Typedef t) = ATypedef (first_tree t)
first_meaning (Enumerator value) = AnEnumerator value
first_meaning (InitialiserWord t) = AnInitialiserWord (first_tree t)
first_meaning Faulty = AFaultyName

words_first : (x : Word) → is_first (word_meaning x) ≡ true
words_first w.Thread = refl
words_first w.Mutex = refl
words_first w.Cond = refl
words_first w.Size = refl
words_first w.ThreadAttributes = refl
words_first w.MutexAttributes = refl
words_first w.CondAttributes = refl
words_first w.MutexInitialiser = refl
words_first w.CondInitialiser = refl

-- a word as it is declared, in the code and in the words of the rules
abbrev pub word_code : Word → CodeDeclared
word_code x = code_declared (word_name x) (word_meaning x) linkage.None defines.Nothing

abbrev pub word_declared : Word → Declared
word_declared x = declared (word_name x) (first_meaning (word_meaning x)) linkage.None defines.Nothing

below : (t : ℕ) → nat_lt t (length predeclared) ≡ true → t < length predeclared
below t is = grind (arith, nat_tests)

module _ (table : Table) (ready : IsReady table) where
  first : (t : ℕ) → nat_lt t (length predeclared) ≡ true → IsPlain table (first_tree t) t
  first t is = first_plain table ready t (below t is)

  pub first_known : (m : CodeMeaning) → is_first m ≡ true → IsKnownMeaning table m
  first_known (Object t duration) is = (first t is).known
  first_known (Function t) is = (first t is).known
  first_known (Typedef t) is = (first t is).known
  first_known (Enumerator value) is = tt
  first_known (InitialiserWord t) is = (first t is).known
  first_known Faulty is = tt

  first_means : (m : CodeMeaning) → is_first m ≡ true → meaning_in table m ≡ first_meaning m
  first_means (Object t duration) is = ap (λ tree. AnObject tree (is_static duration)) (first t is).means
  first_means (Function t) is = ap AFunction (first t is).means
  first_means (Typedef t) is = ap ATypedef (first t is).means
  first_means (Enumerator value) is = refl
  first_means (InitialiserWord t) is = ap AnInitialiserWord (first t is).means
  first_means Faulty is = refl

  pub word_known : (x : Word) → IsKnownMeaning table (word_meaning x)
  word_known x = first_known (word_meaning x) (words_first x)

  pub word_means : (x : Word) → declared_in table (word_code x) ≡ word_declared x
  word_means x = ap (λ m. declared (word_name x) m linkage.None defines.Nothing) (first_means (word_meaning x) (words_first x))

pub words_are : map word_declared words ≡ predeclared_types
words_are = refl

-- what follows where the name came
pub adds_on : {T : Type 0} (table later : Table) (old new : InScope) (more : List Declared) (d : CodeDeclared) (r : Result T NoMemory) → OnOk r (AddsName old new d) →
    (AddsName old new d → AddsNames table old later new more) → OnOk r (AddsNames table old later new more)
adds_on table later old new more d (Ok x) adds follows = follows adds
adds_on table later old new more d (Err e) adds follows = tt
