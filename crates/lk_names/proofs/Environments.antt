-- What is in scope, and the environment that it makes.
use Rattle.std.proofs.Common.{◌≡◌, ◌∙◌, ℕ, zero, suc, Bool, true, false, Option, Some, None, List, [], ◌∷◌, ◌++◌, map, length, take, drop, if◌then◌else◌, refl, sym, ap, All}
use Rattle.std.specs.List.{slice_set}
use Rattle.std.specs.Option.{option_map}
use Rattle.std.proofs.Math.Seq.{drop-append_seam, take-append_seam}
use Rattle.std.proofs.lemmas.List.{map-append, map-set, append-nil, take-map, length-map}
use Rattle.std.proofs.lemmas.List.Elements.{All-head, All-tail}
use Rattle.lk_types.specs.Building.{IsTable, IsLonger}
use Rattle.lk_types.specs.Table.{Table, IsKnown}
use Rattle.lk_typed.specs.Env as env
use Rattle.lk_typed.specs.Env.{Env, Name, Additions, is_name, or_else, latest, Begins, Completes, look_up, look_up_here, look_up_tag, look_up_tag_here, enter, extend, past_scope}
use Rattle.lk_typed.specs.Names.{declared_in, tag_in, meaning_in, is_static, IsKnownName, IsKnownMeaning}
use Rattle.lk_typed.specs.Told.{steps}
use Rattle.lk_typed.specs.Typings.{members_in, field_in, HasKnownFields}
use Rattle.lk_typed.specs.declared.members.Field.{Field}
use Rattle.lk_typed.specs.declared.members.Members.{Members}
use Rattle.lk_typed.specs.declared.members.Members.TheVariants.{NotYet, Begun, Known, Faulty as FaultyMembers}
use Rattle.lk_typed.specs.declared.names.Declared.{Declared}
use Rattle.lk_typed.specs.declared.names.Meaning.{Meaning}
use Rattle.lk_typed.specs.declared.names.Meaning.TheVariants.{Object, Function, Typedef, Enumerator, InitialiserWord, Faulty}
use Rattle.lk_typed.specs.declared.names.Tag.{Tag}
use Rattle.lk_typed.proofs.Meanings.{meaning_stays}
use Rattle.lk_names.specs.Growing.{GivesBack, InLeftScope, IsKnownLeft, IsMarkOf, Leaves, in_innermost, left, name_added, scope_added, tag_added}
use Rattle.lk_names.specs.InScope.{InScope, IsKnownScope, env_in}
use Rattle.lk_names.specs.declared.names.Mark.{Mark}

-- ---- look-up

-- the last one that passes a test, of those that a function gives
latest_map : {A B : Type 0} (f : A → B) (test : A → Bool) (wanted : B → Bool) → ((a : A) → wanted (f a) ≡ test a) → (xs : List A) → option_map f (latest test xs) ≡ latest wanted (map f xs)
latest_map f test wanted same [] = refl
latest_map {A} f test wanted same (x ∷ xs) = by (latest test xs) (test x) ∙ ap (λ o. or_else o (if test x then Some (f x) else None)) (latest_map f test wanted same xs) ∙
    ap (λ b. or_else (latest wanted (map f xs)) (if b then Some (f x) else None)) (sym (same x))
  where
    by : (o : Option A) (b : Bool) → option_map f (or_else o (if b then Some x else None)) ≡ or_else (option_map f o) (if b then Some (f x) else None)
    by (Some y) b = refl
    by None true = refl
    by None false = refl

drop_map : {A B : Type 0} (f : A → B) (n : ℕ) (xs : List A) → drop n (map f xs) ≡ map f (drop n xs)
drop_map f zero xs = refl
drop_map f (suc n) [] = refl
drop_map f (suc n) (x ∷ xs) = drop_map f n xs

module _ (table : Table) (rest : Env) (scope : InScope) (name : Name) where
  pub looked_up : (found : Option Declared) → found ≡ latest (λ d. is_name d.name name) scope.declared → option_map (declared_in table) found ≡ look_up (env_in table rest scope) name
  looked_up found is = ap (option_map (declared_in table)) is ∙ latest_map (declared_in table) (λ d. is_name d.name name) (λ d. is_name d.name name) (λ d. refl) scope.declared

  pub looked_up_here : (found : Option Declared) → found ≡ latest (λ d. is_name d.name name) (drop scope.base scope.declared) → option_map (declared_in table) found ≡ look_up_here (env_in table rest scope) name
  looked_up_here found is =
      ap (option_map (declared_in table)) is ∙ latest_map (declared_in table) (λ d. is_name d.name name) (λ d. is_name d.name name) (λ d. refl) (drop scope.base scope.declared) ∙
      ap (latest (λ d. is_name d.name name)) (sym (drop_map (declared_in table) scope.base scope.declared))

  pub tag_looked_up : (found : Option Tag) → found ≡ latest (λ tag. is_name tag.name name) scope.tags → option_map tag_in found ≡ look_up_tag (env_in table rest scope) name
  tag_looked_up found is = ap (option_map tag_in) is ∙ latest_map tag_in (λ tag. is_name tag.name name) (λ tag. is_name tag.name name) (λ tag. refl) scope.tags

  pub tag_looked_up_here : (found : Option Tag) → found ≡ latest (λ tag. is_name tag.name name) (drop scope.tag_base scope.tags) → option_map tag_in found ≡ look_up_tag_here (env_in table rest scope) name
  tag_looked_up_here found is =
      ap (option_map tag_in) is ∙ latest_map tag_in (λ tag. is_name tag.name name) (λ tag. is_name tag.name name) (λ tag. refl) (drop scope.tag_base scope.tags) ∙
      ap (latest (λ tag. is_name tag.name name)) (sym (drop_map tag_in scope.tag_base scope.tags))

-- ---- what comes

-- an environment of these parts, all else as told
abbrev made : Env → List env.Declared → ℕ → List env.Tag → ℕ → List env.Members → Env
made rest ds base ts tag_base ss = record rest { declared = ds; base = base; tags = ts; tag_base = tag_base; structs = ss }

made_same : (rest : Env) {ds es : List env.Declared} {b c : ℕ} {ts us : List env.Tag} {tb tc : ℕ} {ss rs : List env.Members} → ds ≡ es → b ≡ c → ts ≡ us → tb ≡ tc → ss ≡ rs →
    made rest ds b ts tb ss ≡ made rest es c us tc rs
made_same rest p q r s t = cc

module _ (table : Table) (rest : Env) (old : InScope) where
  pub name_comes : (d : Declared) → env_in table rest (record old { declared = old.declared ++ d ∷ [] }) ≡ extend (env_in table rest old) (name_added (declared_in table d))
  name_comes d = made_same rest (map-append (declared_in table) old.declared (d ∷ [])) refl (sym (append-nil (map tag_in old.tags))) refl refl

  pub tag_comes : (tag : Tag) → env_in table rest (record old { tags = old.tags ++ tag ∷ [] }) ≡ extend (env_in table rest old) (tag_added (tag_in tag))
  tag_comes tag = made_same rest (sym (append-nil (map (declared_in table) old.declared))) refl (map-append tag_in old.tags (tag ∷ [])) refl refl

  pub struct_comes : env_in table rest (record old { structs = old.structs ++ NotYet ∷ [] }) ≡ extend (env_in table rest old) (steps (Begins ∷ []))
  struct_comes =
      made_same rest (sym (append-nil (map (declared_in table) old.declared))) refl (sym (append-nil (map tag_in old.tags))) refl (map-append (members_in table) old.structs (NotYet ∷ []))

  pub members_come : (s : ℕ) (members : Members) →
      env_in table rest (record old { structs = slice_set old.structs s members }) ≡ extend (env_in table rest old) (steps (Completes s (members_in table members) ∷ []))
  members_come s members =
      made_same rest (sym (append-nil (map (declared_in table) old.declared))) refl (sym (append-nil (map tag_in old.tags))) refl (map-set (members_in table) old.structs s members)

  pub scope_comes : env_in table rest (record old { base = length old.declared; tag_base = length old.tags }) ≡ enter (env_in table rest old)
  scope_comes = made_same rest refl (sym (length-map old.declared (declared_in table))) refl (sym (length-map old.tags tag_in)) refl

-- ---- what goes

behind : Mark → Env → Env
behind mark x = made x (take x.base x.declared) mark.base (take x.tag_base x.tags) mark.tag_base x.structs

left_is : (table : Table) (rest : Env) (mark : Mark) (old : InScope) → env_in table rest (left mark old) ≡ behind mark (env_in table rest old)
unfolding behind
left_is table rest mark old =
    made_same rest (sym (take-map (declared_in table) old.base old.declared)) refl (sym (take-map tag_in old.tag_base old.tags)) refl refl

behind_is : (mark : Mark) (before : Env) (added : Additions) → IsMarkOf mark before → behind mark (extend (enter before) added) ≡ extend before (past_scope added)
unfolding behind
behind_is mark before added h =
    made_same before (take-append_seam before.declared added.declared ∙ sym (append-nil before.declared)) h.names (take-append_seam before.tags added.tags ∙ sym (append-nil before.tags)) h.tags refl

pub scope_goes : (mark : Mark) (old : InScope) → Leaves mark old (left mark old)
scope_goes mark old table rest before added is_mark is = left_is table rest mark old ∙ ap (behind mark) is ∙ behind_is mark before added is_mark

abbrev named : List env.Declared → List env.Tag → Additions
named ds ts = record { declared = ds; tags = ts; structs = [] }

-- what stands in the innermost scope of an environment
innermost : Env → Additions
innermost x = record { declared = drop x.base x.declared; tags = drop x.tag_base x.tags; structs = [] }

without_structs : {ds es : List env.Declared} {ts us : List env.Tag} → ds ≡ es → ts ≡ us → named ds ts ≡ named es us
unfolding innermost
without_structs p q = cc

pub scope_given_back : (old : InScope) → GivesBack old (in_innermost old)
unfolding innermost
scope_given_back old table rest before added is =
    without_structs (sym (drop_map (declared_in table) old.base old.declared)) (sym (drop_map tag_in old.tag_base old.tags)) ∙ ap innermost is ∙
    without_structs (drop-append_seam before.declared added.declared) (drop-append_seam before.tags added.tags)

-- ---- growing tables

map_same : {A B : Type 0} (P : A → Type 0) (f g : A → B) → ((a : A) → P a → f a ≡ g a) → (xs : List A) → All P xs → map f xs ≡ map g xs
map_same P f g same [] all = refl
map_same {B = B} P f g same (x ∷ xs) all = same_cons (same x (All-head P x xs all)) (map_same P f g same xs (All-tail P x xs all))
  where
    same_cons : {a b : B} {xs ys : List B} → a ≡ b → xs ≡ ys → a ∷ xs ≡ b ∷ ys
    same_cons p q = cc

module _ (old new : Table) (good : IsTable old) (longer : IsLonger old new) where
  meaning_same : (m : Meaning) → IsKnownMeaning old m → meaning_in new m ≡ meaning_in old m
  meaning_same (Object t duration) known = ap (λ a. env.AnObject a (is_static duration)) (meaning_stays old new good longer t known)
  meaning_same (Function t) known = ap env.AFunction (meaning_stays old new good longer t known)
  meaning_same (Typedef t) known = ap env.ATypedef (meaning_stays old new good longer t known)
  meaning_same (Enumerator value) known = refl
  meaning_same (InitialiserWord t) known = ap env.AnInitialiserWord (meaning_stays old new good longer t known)
  meaning_same Faulty known = refl

  declared_same : (d : Declared) → IsKnownName old d → declared_in new d ≡ declared_in old d
  declared_same d known = ap (λ m. record { name = d.name; meaning = m; linkage = d.linkage; defines = d.defines; ordinal = d.ordinal }) (meaning_same d.meaning known)

  field_same : (field : Field) → IsKnown old field.ty → field_in new field ≡ field_in old field
  field_same field known = ap (λ t. record { name = field.name; type = t }) (meaning_stays old new good longer field.ty known)

  members_same : (ms : Members) → HasKnownFields old ms → members_in new ms ≡ members_in old ms
  members_same NotYet known = refl
  members_same Begun known = refl
  members_same (Known fields) known = ap env.Known (map_same (λ field. IsKnown old field.ty) (field_in new) (field_in old) field_same fields known)
  members_same FaultyMembers known = refl

  pub environment_stays : (scope : InScope) → IsKnownScope old scope → (rest : Env) → env_in new rest scope ≡ env_in old rest scope
  environment_stays scope known rest =
      made_same rest (map_same (IsKnownName old) (declared_in new) (declared_in old) declared_same scope.declared known.names) refl refl refl
      (map_same (HasKnownFields old) (members_in new) (members_in old) members_same scope.structs known.members)

  pub left_scope_stays : (count : ℕ) (scope : InLeftScope) → IsKnownLeft old count scope → scope_added new scope ≡ scope_added old scope
  left_scope_stays count scope known = without_structs (map_same (IsKnownName old) (declared_in new) (declared_in old) declared_same scope.declared known.names) refl
