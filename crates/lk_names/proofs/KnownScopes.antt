-- What is known of what is in scope, before and behind each change.
use Rattle.std.proofs.Common.{◌≡◌, ◌≤◌, ℕ, Bool, true, false, Option, Some, None, List, [], ◌∷◌, ◌++◌, length, drop, if◌then◌else◌, arith, All, IfSome}
use Rattle.std.specs.List.{slice_set}
use Rattle.std.proofs.lemmas.List.{length-append, length-set}
use Rattle.std.proofs.lemmas.List.Elements.{All-head, All-tail, All-drop, All-push, All-set, All-take, All-weaker}
use Rattle.lk_types.specs.Building.{IsLonger}
use Rattle.lk_types.specs.Table.{Table, IsKnown}
use Rattle.lk_typed.specs.Env.{or_else, latest}
use Rattle.lk_typed.specs.Names.{IsKnownName, IsKnownMeaning}
use Rattle.lk_typed.specs.Typings.{HasKnownFields}
use Rattle.lk_typed.specs.declared.members.Members.{Members}
use Rattle.lk_typed.specs.declared.members.Members.TheVariants.{NotYet, Begun, Known, Faulty as FaultyMembers}
use Rattle.lk_typed.specs.declared.names.Declared.{Declared}
use Rattle.lk_typed.specs.declared.names.Meaning.{Meaning}
use Rattle.lk_typed.specs.declared.names.Meaning.TheVariants.{Object, Function, Typedef, Enumerator, InitialiserWord, Faulty}
use Rattle.lk_typed.specs.declared.names.Tag.{Tag}
use Rattle.lk_typed.specs.declared.names.TagMeaning.{TagMeaning}
use Rattle.lk_typed.specs.declared.names.TagMeaning.TheVariants as tag
use Rattle.lk_names.specs.Growing.{InLeftScope, IsKnownLeft, in_innermost, left}
use Rattle.lk_names.specs.InScope.{InScope, IsKnownScope, HasStruct}
use Rattle.lk_names.specs.declared.names.Mark.{Mark}

-- ---- what is found

latest_all : {A : Type 0} (P : A → Type 0) (test : A → Bool) (xs : List A) → All P xs → IfSome (latest test xs) P
latest_all P test [] all = tt
latest_all {A} P test (x ∷ xs) all = by (latest test xs) (test x) (latest_all P test xs (All-tail P x xs all))
  where
    by : (o : Option A) (b : Bool) → IfSome o P → IfSome (or_else o (if b then Some x else None)) P
    by (Some y) b h = h
    by None true h = All-head P x xs all
    by None false h = tt

pub found_known : {A : Type 0} (P : A → Type 0) (test : A → Bool) (xs : List A) → All P xs → (found : Option A) → found ≡ latest test xs → IfSome found P
found_known P test xs all found is = rw is (latest_all P test xs all)

pub found_known_here : {A : Type 0} (P : A → Type 0) (test : A → Bool) (xs : List A) → All P xs → (base : ℕ) (found : Option A) → found ≡ latest test (drop base xs) → IfSome found P
found_known_here P test xs all base found is = rw is (latest_all P test (drop base xs) (All-drop P base xs all))

-- ---- what comes and goes

has_more : (few many : ℕ) → few ≤ many → (m : TagMeaning) → HasStruct few m → HasStruct many m
has_more few many less (tag.Struct s) h = omega (arith, h, less)
has_more few many less tag.Enum h = tt
has_more few many less tag.Faulty h = tt

module _ (table : Table) (old : InScope) (known : IsKnownScope table old) where
  pub name_known : (d : Declared) → IsKnownName table d → IsKnownScope table (record old { declared = old.declared ++ d ∷ [] })
  name_known d h = record { names = All-push (IsKnownName table) old.declared d known.names h; tags = known.tags; members = known.members }

  pub tag_known : (t : Tag) → HasStruct (length old.structs) t.meaning → IsKnownScope table (record old { tags = old.tags ++ t ∷ [] })
  tag_known t h = record {
    names = known.names;
    tags = All-push (λ t. HasStruct (length old.structs) t.meaning) old.tags t known.tags h;
    members = known.members;
  }

  pub struct_known : IsKnownScope table (record old { structs = old.structs ++ NotYet ∷ [] })
  struct_known = record {
    names = known.names;
    tags = All-weaker (λ t. HasStruct (length old.structs) t.meaning) (λ t. HasStruct (length (old.structs ++ NotYet ∷ [])) t.meaning)
        (λ t h. has_more (length old.structs) (length (old.structs ++ NotYet ∷ [])) (omega (arith, length-append old.structs (NotYet ∷ []))) t.meaning h) old.tags known.tags;
    members = All-push (HasKnownFields table) old.structs NotYet known.members tt;
  }

  pub members_known : (s : ℕ) (ms : Members) → HasKnownFields table ms → IsKnownScope table (record old { structs = slice_set old.structs s ms })
  members_known s ms h = record {
    names = known.names;
    tags = rw (length-set old.structs s ms) known.tags;
    members = All-set (HasKnownFields table) old.structs s ms h known.members;
  }

  pub scope_known : (base tag_base : ℕ) → IsKnownScope table (record old { base = base; tag_base = tag_base })
  scope_known base tag_base = record { names = known.names; tags = known.tags; members = known.members }

  pub left_known : (mark : Mark) → IsKnownScope table (left mark old)
  left_known mark = record {
    names = All-take (IsKnownName table) old.base old.declared known.names;
    tags = All-take (λ t. HasStruct (length old.structs) t.meaning) old.tag_base old.tags known.tags;
    members = known.members;
  }

  pub innermost_known : IsKnownLeft table (length old.structs) (in_innermost old)
  innermost_known = record {
    names = All-drop (IsKnownName table) old.base old.declared known.names;
    tags = All-drop (λ t. HasStruct (length old.structs) t.meaning) old.tag_base old.tags known.tags;
  }

-- ---- growing tables

module _ (old new : Table) (longer : IsLonger old new) where
  type_known : (t : ℕ) → IsKnown old t → IsKnown new t
  type_known t known = rw longer.types.1 (omega (arith, known, length-append old.types longer.types.0))

  meaning_known : (m : Meaning) → IsKnownMeaning old m → IsKnownMeaning new m
  meaning_known (Object t duration) known = type_known t known
  meaning_known (Function t) known = type_known t known
  meaning_known (Typedef t) known = type_known t known
  meaning_known (Enumerator value) known = tt
  meaning_known (InitialiserWord t) known = type_known t known
  meaning_known Faulty known = tt

  fields_known : (ms : Members) → HasKnownFields old ms → HasKnownFields new ms
  fields_known NotYet known = tt
  fields_known Begun known = tt
  fields_known (Known fields) known = λ k d h. type_known _ (known k d h)
  fields_known FaultyMembers known = tt

  pub known_stays : (scope : InScope) → IsKnownScope old scope → IsKnownScope new scope
  known_stays scope known = record {
    names = λ k d h. meaning_known _ (known.names k d h);
    tags = known.tags;
    members = λ k d h. fields_known _ (known.members k d h);
  }

  pub known_left_stays : (few many : ℕ) → few ≤ many → (scope : InLeftScope) → IsKnownLeft old few scope → IsKnownLeft new many scope
  known_left_stays few many more scope known = record {
    names = λ k d h. meaning_known _ (known.names k d h);
    tags = All-weaker (λ t. HasStruct few t.meaning) (λ t. HasStruct many t.meaning) (λ t h. has_more few many more t.meaning h) scope.tags known.tags;
  }
