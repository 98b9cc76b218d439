-- What is known of structs is kept by what is added to an environment, and so is that each member of a struct has a complete type (C99 6.7.2.1, 2), and each element of an array
-- (6.7.5.2, 1).
use Rattle.std.proofs.Common.{◌≡◌, ◌∙◌, ◌≤◌, ◌<◌, ◌⊎◌, inl, inr, ℕ, zero, suc, Bool, true, false, List, [], ◌∷◌, ◌++◌, Option, Some, None, length, drop, refl, sym, ap, subst, arith}
use Rattle.std.specs.Prelude.{⊤, ◌&&◌, not, nat_eq, if◌then◌else◌, slice_set}
use Rattle.std.proofs.lemmas.Bool.{false≢true, true≢false}
use Rattle.std.proofs.lemmas.List.{length-set}
use Rattle.std.proofs.lemmas.Option.{none-some, same_Some}
use Rattle.lk_typed.specs.Env.{Env, Additions, Declared, Field, Members, NotYet, Begun, Known, Name, StructStep, Completes, Tag, TagMeaning, AStructTag, AnEnumTag, AFaultyTag, after_step, after_steps, both, latest, members_of, nothing, or_else, past_scope}
use Rattle.lk_typed.specs.Redeclared.{TagUse, DefinesStruct, DefinesEnum, admits, is_open, may_use, tag_meant, typedef_type}
use Rattle.lk_typed.specs.Sizes.{are_known, is_complete}
use Rattle.lk_typed.specs.Ty.{Ty, Void, Int, ThreadId, Mutex, Cond, Pointer, Array, Struct, Function, Opaque}
use Rattle.lk_nodes.proofs.Lists.{IfThere}
use Rattle.lk_typed.specs.Told.{Meant, begins_struct, enum_tag, known_or_new, meant, of_type_alone, steps, struct_begins, struct_named, struct_meant, struct_meant_by, struct_tag, tag_additions, tag_found}

-- ---- lists of structs

-- each struct stays as it is, unless nothing was known of it yet
abbrev pub Keeps : List Members → List Members → Type 0
Keeps before after = (s : ℕ) → (members_of before s ≡ NotYet) ⊎ (members_of after s ≡ members_of before s)

-- each struct whose definition is complete stays as it is
abbrev pub KnownStay : List Members → List Members → Type 0
KnownStay before after = (s : ℕ) → are_known (members_of before s) ≡ true → members_of after s ≡ members_of before s

-- nothing changes
pub keeps_same : (xs : List Members) → Keeps xs xs
keeps_same xs s = inr refl

-- what is kept and then kept is kept
pub keeps_then : (xs ys zs : List Members) → Keeps xs ys → Keeps ys zs → Keeps xs zs
keeps_then xs ys zs f g s = by_both (f s) (g s)
  where
    by_both : (members_of xs s ≡ NotYet) ⊎ (members_of ys s ≡ members_of xs s) → (members_of ys s ≡ NotYet) ⊎ (members_of zs s ≡ members_of ys s) →
        (members_of xs s ≡ NotYet) ⊎ (members_of zs s ≡ members_of xs s)
    by_both (inl unknown) h = inl unknown
    by_both (inr same) (inl unknown) = inl (sym same ∙ unknown)
    by_both (inr same) (inr still) = inr (still ∙ same)

-- what is kept stays known
pub known_kept : (xs ys : List Members) → Keeps xs ys → KnownStay xs ys
known_kept xs ys f s known = by_kept (f s)
  where
    by_kept : (members_of xs s ≡ NotYet) ⊎ (members_of ys s ≡ members_of xs s) → members_of ys s ≡ members_of xs s
    by_kept (inl unknown) = absurd (false≢true (sym (ap are_known unknown) ∙ known))
    by_kept (inr same) = same

-- all that is known stays so where nothing changes
pub stays_same : (xs : List Members) → KnownStay xs xs
stays_same xs s known = refl

-- what stays known and then stays known stays known
pub stays_then : (xs ys zs : List Members) → KnownStay xs ys → KnownStay ys zs → KnownStay xs zs
stays_then xs ys zs f g s known = let one = f s known in g s (ap are_known one ∙ known) ∙ one

-- a struct that has begun stays so
pub begun_kept : (xs ys : List Members) (s : ℕ) → Keeps xs ys → members_of xs s ≡ Begun → members_of ys s ≡ Begun
begun_kept xs ys s f begun = by_kept (f s)
  where
    by_kept : (members_of xs s ≡ NotYet) ⊎ (members_of ys s ≡ members_of xs s) → members_of ys s ≡ Begun
    by_kept (inl unknown) = absurd (true≢false (ap is_open (sym unknown ∙ begun)))
    by_kept (inr same) = same ∙ begun

-- a change of one struct leaves all others
set_or_there : (xs : List Members) (s : ℕ) (m : Members) (r : ℕ) → (s ≡ r) ⊎ (members_of (slice_set xs s m) r ≡ members_of xs r)
set_or_there [] s m r = inr refl
set_or_there (x ∷ xs) zero m zero = inl refl
set_or_there (x ∷ xs) zero m (suc r) = inr refl
set_or_there (x ∷ xs) (suc s) m zero = inr refl
set_or_there (x ∷ xs) (suc s) m (suc r) = one_further (set_or_there xs s m r)
  where
    one_further : (s ≡ r) ⊎ (members_of (slice_set xs s m) r ≡ members_of xs r) → (suc s ≡ suc r) ⊎ (members_of (slice_set xs s m) r ≡ members_of xs r)
    one_further (inl same) = inl (ap suc same)
    one_further (inr still) = inr still

-- and sets that one
set_here : (xs : List Members) (s : ℕ) (m : Members) → s < length xs → members_of (slice_set xs s m) s ≡ m
set_here [] s m within = absurd (omega (arith, within))
set_here (x ∷ xs) zero m within = refl
set_here (x ∷ xs) (suc s) m within = set_here xs s m (omega (arith, within))

-- a change of a struct that was unknown at first
set_kept : (xs ys : List Members) (s : ℕ) (m : Members) → members_of xs s ≡ NotYet → Keeps xs ys → Keeps xs (slice_set ys s m)
set_kept xs ys s m unknown f r = by_place (set_or_there ys s m r) (f r)
  where
    by_place : (s ≡ r) ⊎ (members_of (slice_set ys s m) r ≡ members_of ys r) → (members_of xs r ≡ NotYet) ⊎ (members_of ys r ≡ members_of xs r) →
        (members_of xs r ≡ NotYet) ⊎ (members_of (slice_set ys s m) r ≡ members_of xs r)
    by_place (inl same) h = inl (subst (λ r. members_of xs r ≡ NotYet) same unknown)
    by_place (inr still) (inl unknown) = inl unknown
    by_place (inr still) (inr same) = inr (still ∙ same)

-- a struct that wasn't complete changes: what is known of others stays
set_known : (xs : List Members) (s : ℕ) (m : Members) → are_known (members_of xs s) ≡ false → KnownStay xs (slice_set xs s m)
set_known xs s m unknown r known = by_place (set_or_there xs s m r)
  where
    by_place : (s ≡ r) ⊎ (members_of (slice_set xs s m) r ≡ members_of xs r) → members_of (slice_set xs s m) r ≡ members_of xs r
    by_place (inl same) = absurd (false≢true (sym unknown ∙ ap (λ s. are_known (members_of xs s)) same ∙ known))
    by_place (inr still) = still

-- each struct is the one that is set, or as it was
set_or_same : (xs : List Members) (s : ℕ) (m : Members) (r : ℕ) → (members_of (slice_set xs s m) r ≡ m) ⊎ (members_of (slice_set xs s m) r ≡ members_of xs r)
set_or_same [] s m r = inr refl
set_or_same (x ∷ xs) zero m zero = inl refl
set_or_same (x ∷ xs) zero m (suc r) = inr refl
set_or_same (x ∷ xs) (suc s) m zero = inr refl
set_or_same (x ∷ xs) (suc s) m (suc r) = set_or_same xs s m r

-- one more struct
one_more_kept : (xs : List Members) → Keeps xs (xs ++ NotYet ∷ [])
one_more_kept [] s = inl refl
one_more_kept (x ∷ xs) zero = inr refl
one_more_kept (x ∷ xs) (suc s) = one_more_kept xs s

-- what is known of each is the same
one_more_same : (xs : List Members) (s : ℕ) → members_of (xs ++ NotYet ∷ []) s ≡ members_of xs s
one_more_same [] zero = refl
one_more_same [] (suc s) = refl
one_more_same (x ∷ xs) zero = refl
one_more_same (x ∷ xs) (suc s) = one_more_same xs s

-- a list with one more struct is longer by one
one_longer : (xs : List Members) → length (xs ++ NotYet ∷ []) ≡ suc (length xs)
one_longer [] = refl
one_longer (x ∷ xs) = ap suc (one_longer xs)

-- of a struct that is none yet nothing is known
none_behind : (xs : List Members) → members_of xs (length xs) ≡ NotYet
none_behind [] = refl
none_behind (x ∷ xs) = none_behind xs

-- steps, then others
pub after_both : (xs : List Members) (first others : List StructStep) → after_steps xs (first ++ others) ≡ after_steps (after_steps xs first) others
after_both xs [] others = refl
after_both xs (step ∷ first) others = after_both (after_step xs step) first others

-- ---- complete types

-- what needs a size that isn't 0 and something else stays so where that stays so
sized_stays : (b c d : Bool) → (c ≡ true → d ≡ true) → (not b && c) ≡ true → (not b && d) ≡ true
sized_stays true c d stays is = is
sized_stays false c d stays is = stays is

-- a complete type stays so
pub complete_stays : (xs ys : List Members) → KnownStay xs ys → (t : Ty) → is_complete xs t ≡ true → is_complete ys t ≡ true
complete_stays xs ys stays Void is = is
complete_stays xs ys stays (Int k) is = is
complete_stays xs ys stays ThreadId is = is
complete_stays xs ys stays Mutex is = is
complete_stays xs ys stays Cond is = is
complete_stays xs ys stays (Pointer t) is = is
complete_stays xs ys stays (Array t n) is = sized_stays (nat_eq n 0) (is_complete xs t) (is_complete ys t) (complete_stays xs ys stays t) is
complete_stays xs ys stays (Struct s) is = ap are_known (stays s is) ∙ is
complete_stays xs ys stays (Function result params dots) is = is
complete_stays xs ys stays (Opaque n) is = is

-- each of these fields has a complete type
abbrev pub AllComplete : List Members → List Field → Type 0
AllComplete structs [] = ⊤
AllComplete structs (field ∷ fields) = (is_complete structs field.type ≡ true) × AllComplete structs fields

-- and each of a struct's members
abbrev pub AreComplete : List Members → Members → Type 0
AreComplete structs NotYet = ⊤
AreComplete structs Begun = ⊤
AreComplete structs (Known fields) = AllComplete structs fields
AreComplete structs Members.Faulty = ⊤

-- so it is with each struct
abbrev pub AreWhole : List Members → Type 0
AreWhole structs = (s : ℕ) → AreComplete structs (members_of structs s)

-- fields stay complete
pub fields_stay : (xs ys : List Members) → KnownStay xs ys → (fields : List Field) → AllComplete xs fields → AllComplete ys fields
fields_stay xs ys stays [] all = tt
fields_stay xs ys stays (field ∷ fields) all = (complete_stays xs ys stays field.type all.0, fields_stay xs ys stays fields all.1)

-- fields, then others
pub fields_both : (structs : List Members) (fields others : List Field) → AllComplete structs fields → AllComplete structs others → AllComplete structs (fields ++ others)
fields_both structs [] others first second = second
fields_both structs (field ∷ fields) others first second = (first.0, fields_both structs fields others first.1 second)

-- so do members
members_stay : (xs ys : List Members) → KnownStay xs ys → (m : Members) → AreComplete xs m → AreComplete ys m
members_stay xs ys stays NotYet are = tt
members_stay xs ys stays Begun are = tt
members_stay xs ys stays (Known fields) are = fields_stay xs ys stays fields are
members_stay xs ys stays Members.Faulty are = tt

-- each struct has complete members where each that isn't as before has
whole_by : (xs ys : List Members) → KnownStay xs ys → AreWhole xs → ((s : ℕ) → (members_of ys s ≡ members_of xs s) ⊎ AreComplete ys (members_of ys s)) → AreWhole ys
whole_by xs ys stays whole each s = by_each (each s)
  where
    by_each : (members_of ys s ≡ members_of xs s) ⊎ AreComplete ys (members_of ys s) → AreComplete ys (members_of ys s)
    by_each (inl same) = subst (AreComplete ys) (sym same) (members_stay xs ys stays (members_of xs s) (whole s))
    by_each (inr are) = are

-- one more struct has no members
one_more_whole : (xs : List Members) → AreWhole xs → AreWhole (xs ++ NotYet ∷ [])
one_more_whole xs whole = whole_by xs (xs ++ NotYet ∷ []) (known_kept xs (xs ++ NotYet ∷ []) (one_more_kept xs)) whole (λ s. inl (one_more_same xs s))

-- a struct is given complete members
set_whole : (xs : List Members) (s : ℕ) (m : Members) → are_known (members_of xs s) ≡ false → AreWhole xs → AreComplete xs m → AreWhole (slice_set xs s m)
set_whole xs s m unknown whole are = whole_by xs (slice_set xs s m) stays whole (λ r. by_place r (set_or_same xs s m r))
  where
    stays : KnownStay xs (slice_set xs s m)
    stays = set_known xs s m unknown

    by_place : (r : ℕ) → (members_of (slice_set xs s m) r ≡ m) ⊎ (members_of (slice_set xs s m) r ≡ members_of xs r) →
        (members_of (slice_set xs s m) r ≡ members_of xs r) ⊎ AreComplete (slice_set xs s m) (members_of (slice_set xs s m) r)
    by_place r (inl is) = inr (subst (AreComplete (slice_set xs s m)) (sym is) (members_stay xs (slice_set xs s m) stays m are))
    by_place r (inr still) = inl still

-- ---- elements

-- an array of this type has complete elements
abbrev pub HasElements : List Members → Ty → Type 0
HasElements structs Void = ⊤
HasElements structs (Int k) = ⊤
HasElements structs ThreadId = ⊤
HasElements structs Mutex = ⊤
HasElements structs Cond = ⊤
HasElements structs (Pointer t) = ⊤
HasElements structs (Array t n) = is_complete structs t ≡ true
HasElements structs (Struct s) = ⊤
HasElements structs (Function result params dots) = ⊤
HasElements structs (Opaque n) = ⊤

-- the same of a type that may be missing
abbrev pub MayHaveElements : List Members → Option Ty → Type 0
MayHaveElements structs = IfThere (HasElements structs)

-- and of each typedef
abbrev pub NamesHaveElements : List Members → List Declared → Type 0
NamesHaveElements structs [] = ⊤
NamesHaveElements structs (d ∷ ds) = MayHaveElements structs (typedef_type d.meaning) × NamesHaveElements structs ds

-- elements stay complete
pub elements_stay : (xs ys : List Members) → KnownStay xs ys → (t : Ty) → HasElements xs t → HasElements ys t
elements_stay xs ys stays Void has = tt
elements_stay xs ys stays (Int k) has = tt
elements_stay xs ys stays ThreadId has = tt
elements_stay xs ys stays Mutex has = tt
elements_stay xs ys stays Cond has = tt
elements_stay xs ys stays (Pointer t) has = tt
elements_stay xs ys stays (Array t n) has = complete_stays xs ys stays t has
elements_stay xs ys stays (Struct s) has = tt
elements_stay xs ys stays (Function result params dots) has = tt
elements_stay xs ys stays (Opaque n) has = tt

pub may_elements_stay : (xs ys : List Members) → KnownStay xs ys → (t : Option Ty) → MayHaveElements xs t → MayHaveElements ys t
may_elements_stay xs ys stays None has = tt
may_elements_stay xs ys stays (Some t) has = elements_stay xs ys stays t has

pub names_further : (xs ys : List Members) → KnownStay xs ys → (ds : List Declared) → NamesHaveElements xs ds → NamesHaveElements ys ds
names_further xs ys stays [] all = tt
names_further xs ys stays (d ∷ ds) all = (may_elements_stay xs ys stays (typedef_type d.meaning) all.0, names_further xs ys stays ds all.1)

-- names, then others
pub names_both : (structs : List Members) (ds es : List Declared) → NamesHaveElements structs ds → NamesHaveElements structs es → NamesHaveElements structs (ds ++ es)
names_both structs [] es first others = others
names_both structs (d ∷ ds) es first others = (first.0, names_both structs ds es first.1 others)

-- ---- tags

-- the struct that a tag means is one of so many
abbrev pub IsWithin : TagMeaning → ℕ → Type 0
IsWithin meaning n = (s : ℕ) → struct_tag meaning ≡ Some s → s < n

-- the structs that tags mean are of so many
abbrev pub TagsWithin : List Tag → ℕ → Type 0
TagsWithin [] n = ⊤
TagsWithin (tag ∷ tags) n = IsWithin tag.meaning n × TagsWithin tags n

-- tags, then others
pub tags_both : (ts us : List Tag) (n : ℕ) → TagsWithin ts n → TagsWithin us n → TagsWithin (ts ++ us) n
tags_both [] us n first others = others
tags_both (t ∷ ts) us n first others = (first.0, tags_both ts us n first.1 others)

-- among more structs
pub tags_further : (ts : List Tag) (n m : ℕ) → n ≤ m → TagsWithin ts n → TagsWithin ts m
tags_further [] n m further within = tt
tags_further (t ∷ ts) n m further within = ((λ s is. let below = within.0 s is in omega (arith, below, further)), tags_further ts n m further within.1)

-- without the first of them
tags_behind : (ts : List Tag) (k n : ℕ) → TagsWithin ts n → TagsWithin (drop k ts) n
tags_behind ts zero n within = within
tags_behind [] (suc k) n within = tt
tags_behind (t ∷ ts) (suc k) n within = tags_behind ts k n within.1

-- the struct of a tag that was found, if one was
abbrev FoundWithin : Option Tag → ℕ → Type 0
FoundWithin None n = ⊤
FoundWithin (Some tag) n = IsWithin tag.meaning n

-- the last tag that passes a test
latest_within : (test : Tag → Bool) (ts : List Tag) (n : ℕ) → TagsWithin ts n → FoundWithin (latest test ts) n
latest_within test [] n within = tt
latest_within test (t ∷ ts) n within = by_found (latest test ts) (test t) (latest_within test ts n within.1)
  where
    by_found : (found : Option Tag) (b : Bool) → FoundWithin found n → FoundWithin (or_else found (if b then Some t else None)) n
    by_found (Some tag) b is = is
    by_found None true is = within.0
    by_found None false is = tt

-- ---- additions

-- the structs behind these additions
abbrev pub structs_behind : List Members → Additions → List Members
structs_behind structs a = after_steps structs a.structs

-- additions keep the structs, and that their members are complete; their tags mean structs that there are, and their typedefs have complete elements
pub record KeepsStructs (structs : List Members) (a : Additions) : Type 0 where
  pub kept : Keeps structs (structs_behind structs a)
  pub longer : length structs ≤ length (structs_behind structs a)
  pub tags : TagsWithin a.tags (length (structs_behind structs a))
  pub whole : AreWhole structs → AreWhole (structs_behind structs a)
  pub names : NamesHaveElements (structs_behind structs a) a.declared

-- names alone
pub names_kept : (structs : List Members) (names : List Declared) → NamesHaveElements structs names → KeepsStructs structs (record { declared = names; tags = []; structs = [] })
names_kept structs names have = record { kept = keeps_same structs; longer = omega arith; tags = tt; whole = λ whole. whole; names = have }

-- nothing
pub nothing_kept : (structs : List Members) → KeepsStructs structs nothing
nothing_kept structs = names_kept structs [] tt

-- what is known before additions is known behind them
pub known_behind : {structs : List Members} {a : Additions} → KeepsStructs structs a → KnownStay structs (structs_behind structs a)
known_behind kept = known_kept _ _ kept.kept

-- additions, then others
pub both_kept : {structs : List Members} {a b : Additions} → KeepsStructs structs a → KeepsStructs (structs_behind structs a) b → KeepsStructs structs (both a b)
both_kept {structs} {a} {b} first second =
    record {
      kept = subst (Keeps structs) (sym is) (keeps_then structs middle last first.kept second.kept);
      longer = subst (λ (xs : List Members). length structs ≤ length xs) (sym is) (let one = first.longer in let two = second.longer in omega (arith, one, two));
      tags = subst (λ (xs : List Members). TagsWithin (a.tags ++ b.tags) (length xs)) (sym is) (tags_both a.tags b.tags (length last) (tags_further a.tags (length middle) (length last) second.longer first.tags) second.tags);
      whole = λ whole. subst AreWhole (sym is) (second.whole (first.whole whole));
      names = subst (λ (xs : List Members). NamesHaveElements xs (a.declared ++ b.declared)) (sym is)
          (names_both last a.declared b.declared (names_further middle last (known_kept middle last second.kept) a.declared first.names) second.names);
    }
  where
    middle : List Members
    middle = structs_behind structs a

    last : List Members
    last = structs_behind middle b

    is : after_steps structs (a.structs ++ b.structs) ≡ last
    is = after_both structs a.structs b.structs

-- what is left of additions where their scope ends
pub past_kept : {structs : List Members} {a : Additions} → KeepsStructs structs a → KeepsStructs structs (past_scope a)
past_kept kept = record { kept = kept.kept; longer = kept.longer; tags = tt; whole = kept.whole; names = tt }

-- these tags and names alone are so among these structs
abbrev pub AddsWithin : List Members → Additions → Type 0
AddsWithin structs a = TagsWithin a.tags (length structs) × NamesHaveElements structs a.declared

-- among those behind additions too
pub adds_further : (structs : List Members) (a b : Additions) → KeepsStructs structs a → AddsWithin structs b → AddsWithin (structs_behind structs a) b
adds_further structs a b kept within = (tags_further b.tags _ _ kept.longer within.0, names_further structs _ (known_behind kept) b.declared within.1)

-- ---- a struct that begins

-- nothing is known of it before these additions, or there is none; behind them it has begun
pub record StructBegins (structs : List Members) (a : Additions) (s : ℕ) : Type 0 where
  pub unknown : members_of structs s ≡ NotYet
  pub begun : members_of (structs_behind structs a) s ≡ Begun
  pub kept : KeepsStructs structs a

-- what a struct adds that is meant so and begins
abbrev begun_at : Meant → Additions
begun_at m = both m.additions (steps (Completes m.number Begun ∷ []))

-- a struct that a tag means, or a new one, begins
abbrev BeginsIt : List Members → Meant → Type 0
BeginsIt structs m = StructBegins structs (begun_at m) m.number

-- a new struct, with or without a tag
new_struct : (env : Env) (tag : Option Name) → KeepsStructs env.structs (begins_struct env tag)
new_struct env None =
    record { kept = one_more_kept env.structs; longer = let is = one_longer env.structs in omega (arith, is); tags = tt; whole = one_more_whole env.structs; names = tt }
new_struct env (Some name) =
    let is = one_longer env.structs in
    record {
      kept = one_more_kept env.structs;
      longer = omega (arith, is);
      tags = ((λ s same. let this = same_Some _ _ same in omega (arith, is, this)), tt);
      whole = one_more_whole env.structs;
      names = tt;
    }

-- a new struct that begins
new_begins : (env : Env) (tag : Option Name) → StructBegins env.structs (begun_at (record { number = length env.structs; additions = begins_struct env tag })) (length env.structs)
new_begins env tag = record { unknown = none_behind env.structs; begun = by_tag tag; kept = by_tag_kept tag }
  where
    longer : List Members
    longer = env.structs ++ NotYet ∷ []

    set : members_of (slice_set longer (length env.structs) Begun) (length env.structs) ≡ Begun
    set = let is = one_longer env.structs in set_here longer (length env.structs) Begun (omega (arith, is))

    by_tag : (tag : Option Name) → members_of (structs_behind env.structs (begun_at (record { number = length env.structs; additions = begins_struct env tag }))) (length env.structs) ≡ Begun
    by_tag None = set
    by_tag (Some name) = set

    kept : Keeps env.structs (slice_set longer (length env.structs) Begun)
    kept = set_kept env.structs longer (length env.structs) Begun (none_behind env.structs) (one_more_kept env.structs)

    whole : AreWhole env.structs → AreWhole (slice_set longer (length env.structs) Begun)
    whole before =
        set_whole longer (length env.structs) Begun (ap are_known (one_more_same env.structs (length env.structs) ∙ none_behind env.structs)) (one_more_whole env.structs before) tt

    is : length (slice_set longer (length env.structs) Begun) ≡ suc (length env.structs)
    is = length-set longer (length env.structs) Begun ∙ one_longer env.structs

    by_tag_kept : (tag : Option Name) → KeepsStructs env.structs (begun_at (record { number = length env.structs; additions = begins_struct env tag }))
    by_tag_kept None = record { kept = kept; longer = omega (arith, is); tags = tt; whole = whole; names = tt }
    by_tag_kept (Some name) =
        record { kept = kept; longer = omega (arith, is); tags = ((λ s same. let this = same_Some _ _ same in omega (arith, is, this)), tt); whole = whole; names = tt }

-- a struct of which nothing is known yet begins
old_begins : (structs : List Members) (s : ℕ) → s < length structs → members_of structs s ≡ NotYet → StructBegins structs (begun_at (record { number = s; additions = nothing })) s
old_begins structs s within unknown =
    record {
      unknown = unknown;
      begun = set_here structs s Begun within;
      kept =
          record {
            kept = set_kept structs structs s Begun unknown (keeps_same structs);
            longer = let is = length-set structs s Begun in omega (arith, is);
            tags = tt;
            whole = λ whole. set_whole structs s Begun (ap are_known unknown) whole tt;
            names = tt;
          };
    }

-- of a struct that may be defined nothing is known yet
is_not_yet : (m : Members) → is_open m ≡ true → m ≡ NotYet
is_not_yet NotYet is = refl
is_not_yet Begun is = absurd (false≢true is)
is_not_yet (Known fields) is = absurd (false≢true is)
is_not_yet Members.Faulty is = absurd (false≢true is)

-- the struct of `struct tag {` begins, where the tags mean structs that there are
pub struct_begun : (env : Env) (tag : Option Name) → TagsWithin env.tags (length env.structs) → StructBegins env.structs (struct_begins env tag) (struct_meant_by env tag).number
struct_begun env tag within = by_use (tag_found env DefinesStruct tag) (may_use env (tag_found env DefinesStruct tag) DefinesStruct) refl (found_within tag)
  where
    found_within : (tag : Option Name) → FoundWithin (tag_found env DefinesStruct tag) (length env.structs)
    found_within None = tt
    found_within (Some name) = latest_within _ (drop env.tag_base env.tags) (length env.structs) (tags_behind env.tags env.tag_base (length env.structs) within)

    by_meaning : (meaning : TagMeaning) → admits env meaning DefinesStruct ≡ true → IsWithin meaning (length env.structs) → BeginsIt env.structs (known_or_new env tag (struct_tag meaning))
    by_meaning (AStructTag s) admitted within = old_begins env.structs s (within s refl) (is_not_yet (members_of env.structs s) admitted)
    by_meaning AnEnumTag admitted within = absurd (false≢true admitted)
    by_meaning AFaultyTag admitted within = new_begins env tag

    by_use : (found : Option Tag) (b : Bool) → may_use env found DefinesStruct ≡ b → FoundWithin found (length env.structs) →
        BeginsIt env.structs (if b then meant env found tag else known_or_new env None None)
    by_use found false is within = new_begins env None
    by_use None true is within = new_begins env tag
    by_use (Some t) true is within = by_meaning t.meaning is within

-- a struct that is begun, its members, and then it is completed
pub whole_kept : {structs : List Members} {start inside : Additions} {s : ℕ} (m : Members) → StructBegins structs start s → KeepsStructs (structs_behind structs start) inside →
    AreComplete (structs_behind (structs_behind structs start) inside) m → KeepsStructs structs (both start (both inside (steps (Completes s m ∷ []))))
whole_kept {structs} {start} {inside} {s} m begins kept complete =
    let both_are = both_kept begins.kept kept in
    record {
      kept = subst (Keeps structs) (sym is) (set_kept structs last s m begins.unknown (keeps_then structs middle last begins.kept.kept kept.kept));
      longer = subst (λ (xs : List Members). length structs ≤ length xs) (sym is) (let one = begins.kept.longer in let two = kept.longer in omega (arith, one, two, long));
      tags = subst (λ (xs : List Members). TagsWithin (start.tags ++ (inside.tags ++ [])) (length xs)) (sym is)
          (tags_both start.tags (inside.tags ++ []) _ (tags_further start.tags (length middle) _ (let two = kept.longer in omega (arith, two, long)) begins.kept.tags)
          (tags_both inside.tags [] _ (tags_further inside.tags (length last) _ (omega (arith, long)) kept.tags) tt));
      whole = λ whole. subst AreWhole (sym is) (set_whole last s m unknown (kept.whole (begins.kept.whole whole)) complete);
      names = subst (λ (xs : List Members). NamesHaveElements xs (start.declared ++ (inside.declared ++ []))) (sym is)
          (names_both _ start.declared (inside.declared ++ []) (names_further middle _ (stays_then middle last _ (known_kept middle last kept.kept) stays) start.declared begins.kept.names)
          (names_both _ inside.declared [] (names_further last _ stays inside.declared kept.names) tt));
    }
  where
    middle : List Members
    middle = structs_behind structs start

    last : List Members
    last = structs_behind middle inside

    long : length (slice_set last s m) ≡ length last
    long = length-set last s m

    unknown : are_known (members_of last s) ≡ false
    unknown = ap are_known (begun_kept middle last s kept.kept begins.begun)

    stays : KnownStay last (slice_set last s m)
    stays = set_known last s m unknown

    is : after_steps structs (start.structs ++ (inside.structs ++ Completes s m ∷ [])) ≡ slice_set last s m
    is = after_both structs start.structs (inside.structs ++ Completes s m ∷ []) ∙ after_both middle inside.structs (Completes s m ∷ [])

-- what is known inside a struct stays known behind it
pub known_behind_struct : {structs : List Members} {start inside : Additions} {s : ℕ} (m : Members) → StructBegins structs start s → KeepsStructs (structs_behind structs start) inside →
    KnownStay (structs_behind (structs_behind structs start) inside) (structs_behind structs (both start (both inside (steps (Completes s m ∷ [])))))
known_behind_struct {structs} {start} {inside} {s} m begins kept =
    subst (KnownStay last) (sym is) (set_known last s m (ap are_known (begun_kept middle last s kept.kept begins.begun)))
  where
    middle : List Members
    middle = structs_behind structs start

    last : List Members
    last = structs_behind middle inside

    is : after_steps structs (start.structs ++ (inside.structs ++ Completes s m ∷ [])) ≡ slice_set last s m
    is = after_both structs start.structs (inside.structs ++ Completes s m ∷ []) ∙ after_both middle inside.structs (Completes s m ∷ [])

-- ---- tags that are named, and those of enumerations

-- the struct that a tag means, which is new where it means none
pub meant_kept : (env : Env) (tag : Option Name) (known : Option ℕ) → KeepsStructs env.structs (known_or_new env tag known).additions
meant_kept env tag None = new_struct env tag
meant_kept env tag (Some s) = nothing_kept env.structs

-- the tag of an enumeration means no struct
pub enum_kept : (structs : List Members) (env : Env) (tag : Option Name) → KeepsStructs structs (enum_tag env tag)
enum_kept structs env tag = by_use (may_use env (tag_found env DefinesEnum tag) DefinesEnum) tag
  where
    by_use : (b : Bool) (tag : Option Name) → KeepsStructs structs (if b then tag_additions tag AnEnumTag else nothing)
    by_use false tag = nothing_kept structs
    by_use true None = nothing_kept structs
    by_use true (Some name) = record { kept = keeps_same structs; longer = omega arith; tags = ((λ s same. absurd (none-some s same)), tt); whole = λ whole. whole; names = tt }

-- `struct tag`
pub named_kept : (env : Env) (wanted : TagUse) (name : Name) → KeepsStructs env.structs (struct_named env wanted name).additions
named_kept env wanted name = by_use (may_use env (tag_meant env wanted name) wanted) (struct_meant (tag_meant env wanted name))
  where
    by_use : (b : Bool) (known : Option ℕ) →
        KeepsStructs env.structs (let s = known_or_new env (Some name) known in if b then of_type_alone s.additions (Some (Struct s.number)) else of_type_alone nothing None).additions
    by_use true known = meant_kept env (Some name) known
    by_use false known = nothing_kept env.structs
