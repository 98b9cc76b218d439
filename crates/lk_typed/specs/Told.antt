-- What the parts of a declaration tell to those around them, layer by layer (C99 6.7.2 to 6.7.6): what
-- specifiers name, which type a declarator makes, and what each adds to the environment. What an expression
-- tells is given: its additions, what constant it is, and whether a sizeof stands in it.
use Rattle.std.specs.Prelude.{ℕ, ◌&&◌, ◌||◌, Bool, true, false, Option, Some, None, List, [], ◌∷◌, ◌++◌, length, if◌then◌else◌, ℤ, pos, neg_ℤ, ◌+ℤ◌}
use Rattle.lk_arith.specs.Kinds.{is_value}
use Rattle.lk_base.specs.declared.kind.Kind.TheVariants as kind
use Rattle.lk_base.specs.declared.spot.Spot.{Spot}
use Rattle.lk_tree.specs.declared.specifiers.Storage.{Storage}
use Rattle.lk_tree.specs.declared.specifiers.TypeWord.{TypeWord}
use Rattle.lk_typed.specs.declared.entity.Linkage.TheVariants as linkage
use Rattle.lk_typed.specs.declared.entity.Defines.TheVariants as defines
use Rattle.lk_typed.specs.Env.{Env, Additions, Name, Declared, Meaning, AnEnumerator, AFaultyName, Tag, TagMeaning, AStructTag, AnEnumTag, AFaultyTag, Members, Begun, Known, Faulty, Field, StructStep, Begins, Completes, nothing, both, extend, look_up_tag}
use Rattle.lk_typed.specs.Faults.{Breach}
use Rattle.lk_typed.specs.Redeclared.{TagUse, DefinesStruct, DefinesEnum, NamesStruct, NamesEnum, DeclaresStruct, may_use, tag_meant, typedef_type}
use Rattle.lk_typed.specs.Ty.{Ty, Void, Int, Struct, int}
use Rattle.lk_typed.specs.TypeWords.{WordType, void, integer, type_of_words}
use Rattle.lk_typed.specs.declared.constant.Constant.{Constant}
use Rattle.lk_typed.specs.Typing.{known_value}

-- ---- what is told

-- of one specifier: the storage class, the type word or the other type that it is, a
-- type missing where it is faulty
pub record SpecifierTold : Type 0 where
  pub additions : Additions
  pub storages : List Storage
  pub words : List TypeWord
  pub types : List (Option Ty)
  pub holds_sizeof : Bool

-- a specifier, given the environment and whether it is all of a declaration without declarators
abbrev pub SpecifierTeller : Type 0
SpecifierTeller = Env → Bool → SpecifierTold

-- the declared name, with its node
pub record Named : Type 0 where
  pub name : Name
  pub spot : Spot
  pub ordinal : ℕ

-- where a declarator stands
pub record Span : Type 0 where
  -- the environment where it begins
  pub env : Env
  -- that behind all of it
  pub behind : Env
  -- whether `[]` may stand in it
  pub may_be_absent : Bool

pub record DeclaratorTold : Type 0 where
  pub name : Option Named
  pub additions : Env → Additions
  -- the declared type, given the type on the left; missing where a rule is broken on the way to it
  pub type : Span → Option Ty → Option Ty
  -- whether a type that it makes is over a bound
  pub is_large : Span → Option Ty → Bool
  -- the parameters of the function declarator that stands directly beside the name
  pub parameters : Env → Additions
  -- the same in each environment
  pub holds_sizeof : Env → Bool

-- of a type name or a parameter
pub record TypeTold : Type 0 where
  pub additions : Additions
  pub type : Option Ty
  -- a parameter that is `void` alone
  pub is_bare_void : Bool
  pub holds_sizeof : Bool

-- of a member: its fields, and whether none of them is faulty
pub record MemberTold : Type 0 where
  pub additions : Additions
  pub fields : List Field
  pub sound : Bool
  pub holds_sizeof : Bool

-- of an enumerator: its value, given that of the one before it
pub record ItemTold : Type 0 where
  pub additions : Additions
  pub value : Option ℤ
  pub holds_sizeof : Bool

-- ---- helpers

abbrev pub with_optional : {A B : Type 0} → B → (A → B) → Option A → B
with_optional other f None = other
with_optional other f (Some a) = f a

-- the type, unless a rule is broken
abbrev pub unless_broken : List Breach → Option Ty → Option Ty
unless_broken [] t = t
unless_broken (breach ∷ others) t = None

abbrev pub then_type : Option Ty → (Ty → Option Ty) → Option Ty
then_type None f = None
then_type (Some t) f = f t

abbrev pub some_type : (Ty → Ty) → Option Ty → Option Ty
some_type f None = None
some_type f (Some t) = Some (f t)

-- ---- specifiers (C99 6.7.2)

abbrev pub no_specifier : SpecifierTold
no_specifier = record { additions = nothing; storages = []; words = []; types = []; holds_sizeof = false }

abbrev pub then_specifier : SpecifierTold → SpecifierTold → SpecifierTold
then_specifier a b =
    record {
      additions = both a.additions b.additions;
      storages = a.storages ++ b.storages;
      words = a.words ++ b.words;
      types = a.types ++ b.types;
      holds_sizeof = a.holds_sizeof || b.holds_sizeof;
    }

-- the specifiers of one list, each in the environment behind those before it
abbrev pub specifiers : List SpecifierTeller → SpecifierTeller
specifiers [] env alone = no_specifier
specifiers (s ∷ ss) env alone = let first = s env alone in
    then_specifier first (specifiers ss (extend env first.additions) alone)

abbrev pub type_of_word : Option WordType → Option Ty
type_of_word None = None
type_of_word (Some void) = Some Void
type_of_word (Some (integer k)) = Some (Int k)

-- the type that words and other types name together: words in a combination of 6.7.2, or one other
-- type; else None, which is 22
abbrev pub named_type : List TypeWord → List (Option Ty) → Option (Option Ty)
named_type words [] = with_optional None (λ t. Some (Some t)) (type_of_word (type_of_words words))
named_type [] (t ∷ []) = Some t
named_type (word ∷ words) (t ∷ ts) = None
named_type [] (t ∷ other ∷ ts) = None

-- the type of specifiers, missing where they are faulty
abbrev pub type_of : SpecifierTold → Option Ty
type_of told = with_optional None (λ t. t) (named_type told.words told.types)

-- ---- tags

abbrev pub of_type_alone : Additions → Option Ty → SpecifierTold
of_type_alone additions t = record no_specifier { additions = additions; types = t ∷ [] }

abbrev pub tag_additions : Option Name → TagMeaning → Additions
tag_additions None meaning = nothing
tag_additions (Some name) meaning =
    record { declared = []; tags = record { name = name; meaning = meaning } ∷ []; structs = [] }

abbrev pub steps : List StructStep → Additions
steps made = record { declared = []; tags = []; structs = made }

-- a struct that is new here: the next number
abbrev pub begins_struct : Env → Option Name → Additions
begins_struct env tag = both (tag_additions tag (AStructTag (length env.structs))) (steps (Begins ∷ []))

abbrev pub struct_tag : TagMeaning → Option ℕ
struct_tag (AStructTag s) = Some s
struct_tag AnEnumTag = None
struct_tag AFaultyTag = None

-- the struct that a tag already stands for, if it is one
abbrev pub struct_meant : Option Tag → Option ℕ
struct_meant None = None
struct_meant (Some tag) = struct_tag tag.meaning

-- which struct a specifier speaks of, and what it adds by that
pub record Meant : Type 0 where
  pub number : ℕ
  pub additions : Additions

abbrev pub known_or_new : Env → Option Name → Option ℕ → Meant
known_or_new env tag None = record { number = length env.structs; additions = begins_struct env tag }
known_or_new env tag (Some s) = record { number = s; additions = nothing }

abbrev pub meant : Env → Option Tag → Option Name → Meant
meant env found tag = known_or_new env tag (struct_meant found)

abbrev pub tag_found : Env → TagUse → Option Name → Option Tag
tag_found env wanted None = None
tag_found env wanted (Some name) = tag_meant env wanted name

-- the type of a use, missing where it is 21
abbrev pub type_if_admitted : Env → TagUse → Option Tag → Ty → Option Ty
type_if_admitted env wanted found t = if may_use env found wanted then Some t else None

-- `struct tag` (C99 6.7.2.3, 7 and 8); a use that is 21 adds nothing
abbrev pub struct_named : Env → TagUse → Name → SpecifierTold
struct_named env wanted name =
    let found = tag_meant env wanted name in
    let s = meant env found (Some name) in
    if may_use env found wanted then of_type_alone s.additions (Some (Struct s.number))
    else of_type_alone nothing None

abbrev pub struct_use : Bool → TagUse
struct_use alone = if alone then DeclaresStruct else NamesStruct

-- `enum tag`: int where the enumeration is defined, else 25
abbrev pub enum_named : Env → Name → SpecifierTold
enum_named env name =
    of_type_alone nothing (with_optional None (λ tag. type_if_admitted env NamesEnum (Some tag) int) (look_up_tag env name))

-- a typedef name (C99 6.7.7, 3)
abbrev pub typedef_of : Option Declared → Option Ty
typedef_of None = None
typedef_of (Some d) = typedef_type d.meaning

-- ---- members of a struct (C99 6.7.2.1)

-- a member, given the environment and the fields before it
abbrev pub MemberTeller : Type 0
MemberTeller = Env → List Field → MemberTold

abbrev pub no_member : MemberTold
no_member = record { additions = nothing; fields = []; sound = true; holds_sizeof = false }

abbrev pub then_member : MemberTold → MemberTold → MemberTold
then_member a b =
    record {
      additions = both a.additions b.additions;
      fields = a.fields ++ b.fields;
      sound = a.sound && b.sound;
      holds_sizeof = a.holds_sizeof || b.holds_sizeof;
    }

abbrev pub members_in_turn : List MemberTeller → MemberTeller
members_in_turn [] env before = no_member
members_in_turn (m ∷ ms) env before = let first = m env before in
    then_member first (members_in_turn ms (extend env first.additions) (before ++ first.fields))

-- a struct has a named member at least (C99 6.7.2.1, 7): one without counts as faulty
abbrev pub known_or_faulty : List Field → Members
known_or_faulty [] = Faulty
known_or_faulty (field ∷ others) = Known (field ∷ others)

abbrev pub members_made : MemberTold → Members
members_made told = if told.sound then known_or_faulty told.fields else Faulty

-- the struct that `struct tag {` defines; where that is 21, one that no tag names
abbrev pub struct_meant_by : Env → Option Name → Meant
struct_meant_by env tag = let found = tag_found env DefinesStruct tag in
    if may_use env found DefinesStruct then meant env found tag else known_or_new env None None

-- what stands behind `struct tag {`
abbrev pub struct_begins : Env → Option Name → Additions
struct_begins env tag = let s = struct_meant_by env tag in
    both s.additions (steps (Completes s.number Begun ∷ []))

-- `struct tag { members }`: the struct begins, its members stand in it, and it is complete
-- behind them (C99 6.7.2.3, 4)
abbrev pub struct_defined : Env → Option Name → List MemberTeller → SpecifierTold
struct_defined env tag ms =
    let s = struct_meant_by env tag in
    let start = struct_begins env tag in
    let inside = members_in_turn ms (extend env start) [] in
    let whole = both start (both inside.additions (steps (Completes s.number (members_made inside) ∷ []))) in
    record (of_type_alone whole
    (type_if_admitted env DefinesStruct (tag_found env DefinesStruct tag) (Struct s.number)))
    { holds_sizeof = inside.holds_sizeof }

-- ---- enumerations (C99 6.7.2.2)

abbrev pub ItemTeller : Type 0
ItemTeller = Env → Option ℤ → ItemTold

-- the enumerators of a list, each one more than the one before it where no value is written
abbrev pub items_in_turn : List ItemTeller → Env → Option ℤ → Additions
items_in_turn [] env before = nothing
items_in_turn (i ∷ is) env before = let first = i env before in
    both first.additions (items_in_turn is (extend env first.additions) first.value)

-- whether a sizeof stands in one of them
abbrev pub items_hold_sizeof : List ItemTeller → Env → Option ℤ → Bool
items_hold_sizeof [] env before = false
items_hold_sizeof (i ∷ is) env before = let first = i env before in
    first.holds_sizeof || items_hold_sizeof is (extend env first.additions) first.value

-- what comes before the first enumerator, which is 0
abbrev pub before_first : Option ℤ
before_first = Some (neg_ℤ (pos 1))

-- the tag of an enumeration, which a use that is 21 doesn't change
abbrev pub enum_tag : Env → Option Name → Additions
enum_tag env tag =
    if may_use env (tag_found env DefinesEnum tag) DefinesEnum then tag_additions tag AnEnumTag else nothing

abbrev pub enum_defined : Env → Option Name → List ItemTeller → SpecifierTold
enum_defined env tag is =
    let told =
    of_type_alone (both (items_in_turn is env before_first) (enum_tag env tag))
    (type_if_admitted env DefinesEnum (tag_found env DefinesEnum tag) int) in
    record told { holds_sizeof = items_hold_sizeof is env before_first }

-- the value, where int holds it
abbrev pub in_int : ℤ → Option ℤ
in_int z = if is_value kind.Int z then Some z else None

abbrev pub next_value : Option ℤ → Option ℤ
next_value None = None
next_value (Some z) = in_int (z +ℤ pos 1)

abbrev pub written_value : Option Constant → Option ℤ
written_value None = None
written_value (Some c) = with_optional None in_int (known_value c)

abbrev pub enumerator : Option ℤ → Meaning
enumerator None = AFaultyName
enumerator (Some z) = AnEnumerator z

abbrev pub declares : Name → ℕ → Meaning → Additions
declares name n meaning =
    record {
      declared = record {
        name = name;
        meaning = meaning;
        linkage = linkage.None;
        defines = defines.Nothing;
        ordinal = n;
      } ∷ [];
      tags = [];
      structs = [];
    }
