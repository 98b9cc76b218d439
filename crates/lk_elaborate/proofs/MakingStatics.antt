-- What objects of static storage begin with.
use Rattle.std.proofs.Common.{◌≡◌, ◌∙◌, ◌++◌, ◌<◌, ◌+◌, ◌-◌, inl, inr, true, Bool, ℕ, suc, pos, Result, Ok, Err, length, drop, drop-cons, get_or, slice_get, List, [], ◌∷◌, Some, None, refl, sym, ap, subst, arith, append_assoc}
use Rattle.std.proofs.lemmas.Bool.{false≢true}
use Rattle.std.proofs.lemmas.List.{append-nil}
use Rattle.std.proofs.lemmas.Option.{none-some, same_Some, slice_get_within}
use Rattle.std.specs.Borrow.{Bor}
use Rattle.std.specs.Prelude.{OnOk, nat_eq}
use Rattle.std.specs.Map.{lookup}
use Rattle.lk_arith.specs.Conversions.{convert}
use Rattle.lk_base.specs.declared.cell.CellStep.{CellStep}
use Rattle.lk_base.specs.declared.cell.CellStep.TheVariants.{Index}
use Rattle.lk_base.specs.declared.kind.Kind.{Kind}
use Rattle.lk_tree.specs.declared.declaration.Init.{Init}
use Rattle.lk_tree.specs.declared.expression.Expr.{Expr}
use Rattle.lk_tree.specs.declared.statement.Unit.{Unit}
use Rattle.lk_types.specs.Table.{IsKnown}
use Rattle.lk_types.specs.declared.c_type.CType.{CType}
use Rattle.lk_typed.specs.Elaborated.{InPlace, IsConverted, typing_at}
use Rattle.lk_typed.specs.Elaborated.IsConverted.{alike, null as null_pointer, converted}
use Rattle.lk_typed.specs.Env.{Env, Name, ConvertedTo, converted_to}
use Rattle.lk_typed.specs.Initialised as spec
use Rattle.lk_typed.specs.Initialised.{AValue}
use Rattle.lk_typed.specs.Meaning.{meaning}
use Rattle.lk_typed.specs.Nodes.{AnExpression, AnInitialiser, at}
use Rattle.lk_typed.specs.StaticInits.{AreByteParts, AreStaticParts, IsStaticPart, IsStaticValue}
use Rattle.lk_typed.specs.StaticInits.AreByteParts.{no_more as no_bytes, next as one_byte}
use Rattle.lk_typed.specs.StaticInits.IsStaticValue.{pointer as by_pointer}
use Rattle.lk_typed.specs.StaticInits.AreStaticParts.{no_more as no_parts, expression as value_part, bytes as byte_parts, word as word_part}
use Rattle.lk_typed.specs.Tables.{Tables}
use Rattle.lk_typed.specs.Ty.{Ty, Void, Int, ThreadId, Mutex, Cond, Pointer, Array, Struct, Function, Opaque, Means, is_pointer, kind_of}
use Rattle.lk_typed.specs.Typing.{Typing}
use Rattle.lk_typed.specs.Units.{IsNode, at_end}
use Rattle.lk_typed.specs.declared.entity.Entity.{Entity}
use Rattle.lk_typed.specs.declared.expression.TypedExpr.{TypedExpr}
use Rattle.lk_typed.specs.declared.initialiser.StaticObject.{StaticObject}
use Rattle.lk_typed.specs.declared.initialiser.StaticPart.{StaticPart}
use Rattle.lk_typed.specs.declared.initialiser.StaticValue.{StaticValue}
use Rattle.lk_typed.specs.declared.initialiser.StaticValue.TheVariants as begins
use Rattle.lk_typed.specs.declared.typed.ExprType.TheVariants.{Listed}
use Rattle.lk_elaborator.proofs.Gathering.{at_split, same_or_not}
use Rattle.lk_elaborator.proofs.Growing.{grows_same, leads_before}
use Rattle.lk_elaborator.proofs.Numbers.{means_led}
use Rattle.lk_found.specs.declared.found.At.{At}
use Rattle.lk_elaborator.specs.Elaborating.{ElaboratesTo}
use Rattle.lk_elaborator.specs.Leading.{Grows, Leads, entity_by, local_by}
use Rattle.lk_elaborator.specs.Telling.{IsTrueOf}
use Rattle.lk_elaborator.specs.declared.elaborator.Elaborator.{Elaborator}
use Rattle.lk_elaborator.specs.declared.locals.Locals.{Locals}
use Rattle.lk_elab_init.specs.Giving.{AreGivenAs, BeginsAs, GivesTo, IsGivenAs, Puts, element_in}
use Rattle.lk_elab_init.specs.Giving.AreGivenAs.{no_more, next}
use Rattle.lk_elab_init.specs.Giving.BeginsAs.{a_value, the_bytes, the_word}
use Rattle.lk_elab_init.specs.declared.givens.Beginning.{Beginning}
use Rattle.lk_elab_init.specs.declared.givens.Beginning.TheVariants as given_begins
use Rattle.lk_elab_init.specs.declared.givens.PartGiven.{PartGiven}
use Rattle.lk_elab_init.proofs.Addressing.{same_some}
use Rattle.lk_elaborate.specs.LocalParts.{AreTold}
use Rattle.lk_elaborate.specs.Outside.{LeadsOutside, tables_of}
use Rattle.lk_elaborate.specs.Putting.{AreRising, PutsObject}
use Rattle.lk_elaborate.specs.StaticParts.{AreBefore, AreBytesOf, ArePartsOfText, BeginsInteger, BeginsPointer, BeginsValue, GivesPartsOutside, GivesStaticPart, GivesStaticParts, GivesStaticValue}
use Rattle.lk_elaborate.specs.declared.static_values.Begun.{Begun}
use Rattle.lk_elaborate.specs.declared.statics.Elements.{Elements}
use Rattle.lk_elaborate.proofs.Telling.{another, are_told_on, bytes_in, given_on, kind_of as kind_begun, source_told, value_in}

-- ---- types

pub int_is : (t : Ty) (k : Kind) → kind_of t ≡ Some k → t ≡ Int k
int_is Void k e = absurd (none-some k e)
int_is (Int j) k e = ap Int (same_some e)
int_is ThreadId k e = absurd (none-some k e)
int_is Mutex k e = absurd (none-some k e)
int_is Cond k e = absurd (none-some k e)
int_is (Pointer t) k e = absurd (none-some k e)
int_is (Array t n) k e = absurd (none-some k e)
int_is (Struct s) k e = absurd (none-some k e)
int_is (Function result params dots) k e = absurd (none-some k e)
int_is (Opaque n) k e = absurd (none-some k e)

pub pointer_is : (t : Ty) → is_pointer t ≡ true → (u : Ty) × (t ≡ Pointer u)
pointer_is Void e = absurd (false≢true e)
pointer_is (Int k) e = absurd (false≢true e)
pointer_is ThreadId e = absurd (false≢true e)
pointer_is Mutex e = absurd (false≢true e)
pointer_is Cond e = absurd (false≢true e)
pointer_is (Pointer t) e = (t, refl)
pointer_is (Array t n) e = absurd (false≢true e)
pointer_is (Struct s) e = absurd (false≢true e)
pointer_is (Function result params dots) e = absurd (false≢true e)
pointer_is (Opaque n) e = absurd (false≢true e)

array_is : (t u : Ty) → element_in t ≡ Some u → (n : ℕ) × (t ≡ Array u n)
array_is Void u e = absurd (none-some u e)
array_is (Int k) u e = absurd (none-some u e)
array_is ThreadId u e = absurd (none-some u e)
array_is Mutex u e = absurd (none-some u e)
array_is Cond u e = absurd (none-some u e)
array_is (Pointer t) u e = absurd (none-some u e)
array_is (Array t n) u e = (n, ap (λ t. Array t n) (same_some e))
array_is (Struct s) u e = absurd (none-some u e)
array_is (Function result params dots) u e = absurd (none-some u e)
array_is (Opaque n) u e = absurd (none-some u e)

-- ---- values

converted_typing : {tables : Tables} {folded : Bool} {p : InPlace} {t : Ty} {e : TypedExpr} → IsConverted tables folded p t e → (x : Typing) × (typing_at p ≡ Some x)
converted_typing (alike {typing = x} own same is) = (x, own)
converted_typing (null_pointer {typing = x} own apart is made) = (x, own)
converted_typing (converted {typing = x} own apart is v made) = (x, own)

pub typing_given : (tables : Tables) (folded : Bool) (p : InPlace) (t : Ty) (e : TypedExpr) → IsConverted tables folded p t e → (x : Typing) × (typing_at p ≡ Some x)
typing_given tables folded p t e is = converted_typing is

pub ok_always : {T E : Type 0} (r : Result T E) (P : Type 0) → P → OnOk r P
ok_always (Ok x) P p = p
ok_always (Err e) P p = tt

pub integer_begins : (externs : List Name) (unit : Unit) (old : Elaborator) → AreTold externs unit old → (tables : Tables) (ty : ℕ) (e : Expr) (env : Env) (t : Ty) → meaning old.types ty ≡ t →
    IsNode externs unit (converted_to env t) (AnExpression e) → (kind : Kind) (begun : Begun) → kind_of (meaning old.types ty) ≡ Some kind → BeginsInteger old kind e begun →
    IsStaticValue tables (converted_to env t, e) t begun.value begun.pointer
integer_begins externs unit old told tables ty e env t type node kind begun is says =
    let here : InPlace = (converted_to env t, e) in
    let integer = int_is t kind (ap kind_of (sym type) ∙ is) in
    subst (λ u. IsStaticValue tables here u begun.value begun.pointer) (sym integer) (says tables (at_end externs unit) here refl (told.told here.0 (AnExpression e) node))

pub pointer_begins : (externs : List Name) (unit : Unit) (old new : Elaborator) → Grows old new → AreTold externs unit old → (tables : Tables) → Leads new tables → (ty : ℕ) (e : Expr) (env : Env) (t : Ty) →
    meaning old.types ty ≡ t → IsNode externs unit (converted_to env t) (AnExpression e) → (v : StaticValue) (made : TypedExpr) → is_pointer (meaning old.types ty) ≡ true → BeginsPointer old e v →
    ElaboratesTo old new e (Listed ty) true made → IsStaticValue tables (converted_to env t, e) t v (Some made)
pointer_begins externs unit old new grows told tables leads ty e env t type node v made is points elaborates =
    let here : InPlace = (converted_to env t, e) in
    let is_told = told.told here.0 (AnExpression e) node in
    let as_ = elaborates (at_end externs unit) here.0 is_told (ap ConvertedTo (sym type)) tables leads in
    let x = typing_given tables true here (meaning old.types ty) made as_ in
    let target = pointer_is t (ap is_pointer (sym type) ∙ is) in
    subst (λ u. IsStaticValue tables here u v (Some made)) (sym target.1)
    (by_pointer x.1 (points tables (leads_before old new tables grows leads) (at_end externs unit) here refl is_told x.0 x.1)
    (subst (λ u. IsConverted tables true here u made) (type ∙ target.1) as_))

-- ---- one part

pub begun_value : (old new : Elaborator) (given : PartGiven) (e : Expr) (begun : Begun) (part : StaticPart) → GivesStaticValue old new given.ty e begun →
    part ≡ record { path = given.path; ty = given.ty; value = begun.value; pointer = begun.pointer } → BeginsValue old new given e part
begun_value old new given e begun part gives is = record {
  path = ap (λ (x : StaticPart). x.path) is;
  ty = ap (λ (x : StaticPart). x.ty) is;
  begun = subst (λ (x : StaticPart). GivesStaticValue old new given.ty e (record { value = x.value; pointer = x.pointer })) (sym is) gives;
}

module _ (externs : List Name) (unit : Unit) (old new : Elaborator) (grows : Grows old new) (told : AreTold externs unit old) (tables : Tables) (leads : Leads new tables) where
  static_part : (given : PartGiven) (part : spec.PartGiven) (made : StaticPart) → IsGivenAs externs unit old.types given part → made.path ≡ given.path → made.ty ≡ given.ty →
      IsStaticPart tables part.path part.type made
  static_part given part made is path ty = record {
    path_ = path ∙ is.path;
    type = subst (λ t. Means tables.types t part.type) (sym ty) (means_led old tables told.ready (leads_before old new tables grows leads) given.ty part.type is.known is.type);
  }

  value_for : (path : List CellStep) (t : Ty) (ty : ℕ) (b : Beginning) (x : spec.Beginning) (e : Bor Expr) (made : StaticPart) → b ≡ given_begins.Value e → BeginsAs externs unit t b x →
      IsStaticPart tables path t made → meaning old.types ty ≡ t → GivesStaticValue old new ty e.now (record { value = made.value; pointer = made.pointer }) →
      (given : List spec.PartGiven) (others : List StaticPart) → AreStaticParts tables given others → AreStaticParts tables (record { path = path; type = t; begins = x } ∷ given) (made ∷ others)
  value_for path t ty _ _ e made eq (a_value env {e = one} node) part type gives given others more =
      let same : one ≡ e = ap (value_in e) eq in
      subst (λ (y : Bor Expr). AreStaticParts tables (record { path = path; type = t; begins = AValue (converted_to env t, y.now) } ∷ given) (made ∷ others)) (sym same)
      (value_part part (gives externs unit told tables leads env t type (subst (λ (y : Bor Expr). IsNode externs unit (converted_to env t) (AnExpression y.now)) same node)) more)
  value_for path t ty _ _ e made eq the_bytes part type gives given others more = absurd (another 1 0 (ap kind_begun eq) refl)
  value_for path t ty _ _ e made eq the_word part type gives given others more = absurd (another 2 0 (ap kind_begun eq) refl)

  bytes_for : (path : List CellStep) (t : Ty) (b : Beginning) (x : spec.Beginning) (bytes : List ℕ) (k : Kind) (made : List StaticPart) → kind_begun b ≡ 1 → bytes_in [] b ≡ bytes → BeginsAs externs unit t b x →
      element_in t ≡ Some (Int k) → AreByteParts tables path k 0 bytes made →
      (given : List spec.PartGiven) (others : List StaticPart) → AreStaticParts tables given others → AreStaticParts tables (record { path = path; type = t; begins = x } ∷ given) (made ++ others)
  bytes_for path t _ _ bytes k made eq same (a_value env node) element are given others more = absurd (another 0 1 eq refl)
  bytes_for path t _ _ bytes k made eq same (the_bytes {spot = spot} {ordinal = n} {bytes = bs}) element are given others more =
      let array = array_is t (Int k) element in
      subst (λ t. AreStaticParts tables (record { path = path; type = t; begins = spec.TheBytes spot n bs } ∷ given) (made ++ others)) (sym array.1)
      (byte_parts (subst (λ bs. AreByteParts tables path k 0 bs made) (sym same) are) more)
  bytes_for path t _ _ bytes k made eq same the_word element are given others more = absurd (another 2 1 eq refl)

  word_for : (path : List CellStep) (t : Ty) (b : Beginning) (x : spec.Beginning) (made : StaticPart) → kind_begun b ≡ 2 → BeginsAs externs unit t b x → IsStaticPart tables path t made → made.value ≡ begins.Ready →
      made.pointer ≡ None → (given : List spec.PartGiven) (others : List StaticPart) → AreStaticParts tables given others → AreStaticParts tables (record { path = path; type = t; begins = x } ∷ given) (made ∷ others)
  word_for path t _ _ made eq (a_value env node) part value pointer given others more = absurd (another 0 2 eq refl)
  word_for path t _ _ made eq the_bytes part value pointer given others more = absurd (another 1 2 eq refl)
  word_for path t _ _ made eq the_word part value pointer given others more = word_part part value pointer more

module _ (old new : Elaborator) (given : PartGiven) where
  pub value_made : Grows old new → (e : Bor Expr) (made : StaticPart) → given.begins ≡ given_begins.Value e → BeginsValue old new given e.now made → GivesStaticPart old new given (made ∷ [])
  value_made grows e made eq begun externs unit told tables leads part is =
      value_for externs unit old new grows told tables leads part.path part.type given.ty given.begins part.begins e made eq is.begins
      (static_part externs unit old new grows told tables leads given part made is begun.path begun.ty) is.type begun.begun

  pub bytes_made : old ≡ new → (bytes : List ℕ) (made : List StaticPart) → kind_begun given.begins ≡ 1 → bytes_in [] given.begins ≡ bytes → ArePartsOfText old given bytes made → GivesStaticPart old new given made
  bytes_made same bytes made eq bytes_is text externs unit told tables leads part is =
      let grows = subst (Grows old) same (grows_same old) in
      bytes_for externs unit old new grows told tables leads part.path part.type given.begins part.begins bytes text.0 made eq bytes_is is.begins (ap element_in (sym is.type) ∙ text.1)
      (subst (λ path. AreByteParts tables path text.0 0 bytes made) is.path (text.2 tables told.ready (leads_before old new tables grows leads)))

  pub word_made : old ≡ new → (made : StaticPart) → kind_begun given.begins ≡ 2 → made ≡ record { path = given.path; ty = given.ty; value = begins.Ready; pointer = None } → GivesStaticPart old new given (made ∷ [])
  word_made same made eq made_is externs unit told tables leads part is =
      let grows = subst (Grows old) same (grows_same old) in
      word_for externs unit old new grows told tables leads part.path part.type given.begins part.begins made eq is.begins
      (static_part externs unit old new grows told tables leads given part made is (ap (λ (x : StaticPart). x.path) made_is) (ap (λ (x : StaticPart). x.ty) made_is))
      (ap (λ (x : StaticPart). x.value) made_is) (ap (λ (x : StaticPart). x.pointer) made_is)

-- ---- the bytes of a text

abbrev pub BytesPut : Elements → List CellStep → ℕ → List ℕ → List ℕ → List StaticPart → Type 0
BytesPut elements path k all left made =
    (tables : Tables) → Means tables.types elements.ty (Int elements.kind) → (rest : List StaticPart) → AreByteParts tables path elements.kind k left rest → AreByteParts tables path elements.kind 0 all (made ++ rest)

pub byte_left : (xs : List ℕ) (i : ℕ) → i < length xs → drop i xs ≡ get_or xs i 0 ∷ drop (i + 1) xs
byte_left xs i below =
    let next : suc i ≡ i + 1 = omega arith in
    drop-cons xs i 0 below ∙ ap (λ n. get_or xs i 0 ∷ drop n xs) next

module _ (elements : Elements) (path : List CellStep) (all : List ℕ) where
  pub no_byte_put : (old new : List StaticPart) → new ≡ old → Puts old new (BytesPut elements path 0 all all)
  no_byte_put old new same = ([], same ∙ sym (append-nil old), λ tables means rest are. are)

  pub one_byte_put : (old mid new : List StaticPart) (k j byte : ℕ) (left rest : List ℕ) → j ≡ suc k → left ≡ byte ∷ rest → Puts old mid (BytesPut elements path k all left) →
      new ≡ mid ++ record { path = path ++ Index k ∷ []; ty = elements.ty; value = begins.Number (convert elements.kind (pos byte)); pointer = None } ∷ [] → Puts old new (BytesPut elements path j all rest)
  one_byte_put old mid new k j byte left rest next_is left_is before made =
      let one : StaticPart = record { path = path ++ Index k ∷ []; ty = elements.ty; value = begins.Number (convert elements.kind (pos byte)); pointer = None } in (
        before.0 ++ one ∷ [],
        made ∙ ap (λ xs. xs ++ one ∷ []) before.1 ∙ append_assoc old before.0 (one ∷ []),
        λ tables means others are.
            subst (AreByteParts tables path elements.kind 0 all) (sym (append_assoc before.0 (one ∷ []) others))
            (before.2 tables means (one ∷ others) (subst (λ bs. AreByteParts tables path elements.kind k bs (one ∷ others)) (sym left_is)
            (one_byte (record { path_ = refl; type = means }) refl refl (subst (λ n. AreByteParts tables path elements.kind n rest others) next_is are)))),
      )

  pub all_bytes_put : (old new : List StaticPart) (k : ℕ) (left : List ℕ) → left ≡ [] → Puts old new (BytesPut elements path k all left) → Puts old new (AreBytesOf elements path all)
  all_bytes_put old new k left none before = (
    before.0,
    before.1,
    λ tables means. subst (AreByteParts tables path elements.kind 0 all) (append-nil before.0)
        (before.2 tables means [] (subst (λ bs. AreByteParts tables path elements.kind k bs []) (sym none) no_bytes)),
  )

pub text_put : (walk : Elaborator) (given : PartGiven) (bytes : List ℕ) (elements : Elements) (path : List CellStep) (made : List StaticPart) → path ≡ given.path → IsKnown walk.types elements.ty →
    meaning walk.types elements.ty ≡ Int elements.kind → element_in (meaning walk.types given.ty) ≡ Some (Int elements.kind) → AreBytesOf elements path bytes made → ArePartsOfText walk given bytes made
text_put walk given bytes elements path made path_is known kind element are = (
  elements.kind,
  element,
  λ tables ready leads. subst (λ path. AreByteParts tables path elements.kind 0 bytes made) path_is (are tables (means_led walk tables ready leads elements.ty (Int elements.kind) known kind)),
)

-- ---- the parts, one after the other

-- those before the ones that are left are made
pub record StaticsPut (externs : List Name) (unit : Unit) (old now : Elaborator) (left : List PartGiven) (all : List spec.PartGiven) (parts : List StaticPart) : Type 0 where
  pub others : List spec.PartGiven
  pub given : AreGivenAs externs unit old.types left others
  pub on : (tables : Tables) → Leads now tables → (rest : List StaticPart) → AreStaticParts tables others rest → AreStaticParts tables all (parts ++ rest)

abbrev pub AreStaticsPut : Elaborator → Elaborator → List PartGiven → List PartGiven → List StaticPart → Type 0
AreStaticsPut old now all left parts =
    (externs : List Name) (unit : Unit) → AreTold externs unit old → (ps : List spec.PartGiven) → AreGivenAs externs unit old.types all ps → StaticsPut externs unit old now left ps parts

first_given : (externs : List Name) (unit : Unit) (old mid new : Elaborator) → Grows old mid → Grows mid new → AreTold externs unit old → (is : PartGiven) (rest : List PartGiven)
    (all : List spec.PartGiven) (parts made : List StaticPart) (others : List spec.PartGiven) → AreGivenAs externs unit old.types (is ∷ rest) others →
    ((tables : Tables) → Leads mid tables → (more : List StaticPart) → AreStaticParts tables others more → AreStaticParts tables all (parts ++ more)) →
    GivesStaticPart mid new is made → StaticsPut externs unit old new rest all (parts ++ made)
first_given externs unit old mid new grows more told is rest all parts made _ (next {part = part} {rest = qs} given are) on gives = record {
  others = qs;
  given = are;
  on = λ tables leads ms made_rest.
      subst (AreStaticParts tables all) (sym (append_assoc parts made ms))
      (on tables (leads_before mid new tables more leads) (made ++ ms)
      (gives externs unit (are_told_on old mid grows externs unit told) tables leads part (given_on old mid grows externs unit told.ready is part given) qs ms made_rest));
}

module _ (old : Elaborator) (all : List PartGiven) where
  pub none_made : (parts : List StaticPart) → parts ≡ [] → AreStaticsPut old old all all parts
  none_made parts none externs unit told ps given =
      record { others = ps; given = given; on = λ tables leads rest are. subst (λ xs. AreStaticParts tables ps (xs ++ rest)) (sym none) are }

  pub one_made : (mid new : Elaborator) (left rest : List PartGiven) (is : PartGiven) (parts made : List StaticPart) → left ≡ is ∷ rest → Grows old mid → Grows mid new →
      AreStaticsPut old mid all left parts → GivesStaticPart mid new is made → AreStaticsPut old new all rest (parts ++ made)
  one_made mid new left rest is parts made left_is grows more before gives externs unit told ps given =
      let was = before externs unit told ps given in
      first_given externs unit old mid new grows more told is rest ps parts made was.others (subst (λ gs. AreGivenAs externs unit old.types gs was.others) left_is was.given) was.on gives

  none_given : (externs : List Name) (unit : Unit) (tables : Tables) (others : List spec.PartGiven) → AreGivenAs externs unit old.types [] others → AreStaticParts tables others []
  none_given externs unit tables _ no_more = no_parts

  pub all_made : (new : Elaborator) (left : List PartGiven) (parts : List StaticPart) → left ≡ [] → AreStaticsPut old new all left parts → GivesStaticParts old new all parts
  all_made new left parts none before externs unit told tables leads ps given =
      let was = before externs unit told ps given in
      subst (AreStaticParts tables ps) (append-nil parts)
      (was.on tables leads [] (none_given externs unit tables was.others (subst (λ gs. AreGivenAs externs unit old.types gs was.others) none was.given)))

-- ---- outside bodies

module _ (old : Elaborator) (none : Locals) where
  without : Elaborator
  without = record old { locals = none }

  true_without : (p : InPlace) → IsTrueOf old p → IsTrueOf without p
  unfolding without
  true_without p is = record { ready = is.ready; found = is.found; meant = is.meant; structs = is.structs; defined = is.defined; externs = is.externs }

  told_without : (externs : List Name) (unit : Unit) → AreTold externs unit old → AreTold externs unit without
  unfolding without
  told_without externs unit told = record {
    ready = told.ready;
    told = λ env node is.
        let was = told.told env node is in
        record {
          ready = was.ready;
          expressions = λ env' e stands. true_without (env', e) (was.expressions env' e stands);
          names = was.names;
        };
  }

  pub grows_outside : (made : Elaborator) → Grows (record old { locals = none }) made → Grows old (record made { locals = old.locals })
  grows_outside made grows = record {
    longer = grows.longer;
    members = grows.members;
    ready = grows.ready;
    same = ap (λ (w : Elaborator). record w { locals = old.locals }) grows.same;
  }

  no_local : (made : Elaborator) (n l : ℕ) → none.numbers.entries ≡ [] → made.locals ≡ none → local_by made n ≡ Some l → ⊥
  no_local made n l empty same is =
      none-some l (sym (ap (λ entries. lookup (nat_eq n) entries) (ap (λ (ls : Locals). ls.numbers.entries) same ∙ empty)) ∙ is)

  pub parts_outside : (made : Elaborator) (givens : List PartGiven) (parts : List StaticPart) → none.numbers.entries ≡ [] → Grows (record old { locals = none }) made →
      GivesStaticParts (record old { locals = none }) made givens parts → GivesPartsOutside old (record made { locals = old.locals }) givens parts
  unfolding without
  parts_outside made givens parts empty grows gives externs unit told types entities leads ps given =
      gives externs unit (told_without externs unit told) (tables_of types entities [])
      (record {
        types = leads.longer;
        entities = leads.entities;
        locals = λ n l is. absurd (no_local made n l empty (ap (λ (w : Elaborator). w.locals) grows.same) is);
      }) ps given

-- ---- objects in the order of the text

pub rise_last : (xs : List StaticObject) (x : StaticObject) → AreRising xs → AreBefore xs x.ordinal → AreRising (xs ++ x ∷ [])
rise_last xs x rise before o p a b order at_o at_p = elim (at_split xs x p b at_p) [
  | inl p_before ↦ elim (at_split xs x o a at_o) [
    | inl o_before ↦ rise o p a b order o_before p_before
    | inr last ↦ absurd (let h = slice_get_within xs p b p_before in omega (arith, h, order, last.0))
  ]
  | inr last ↦ elim (at_split xs x o a at_o) [
    | inl o_before ↦ subst (λ (y : StaticObject). a.ordinal < y.ordinal) (sym last.1) (before o a o_before)
    | inr both ↦ absurd (omega (arith, order, both.0, last.0))
  ]
]

pub before_by_last : (xs : List StaticObject) (last : StaticObject) (n : ℕ) → slice_get xs (length xs - 1) ≡ Some last → last.ordinal < n → AreRising xs → AreBefore xs n
before_by_last xs last n at_last below rise o a at_o =
    let within = slice_get_within xs o a at_o in
    elim (same_or_not o (length xs - 1)) [
      | inl same ↦ subst (λ (y : StaticObject). y.ordinal < n) (same_Some last a (sym at_last ∙ (ap (slice_get xs) (sym same) ∙ at_o))) below
      | inr apart ↦ let h = rise o (length xs - 1) a last (omega (arith, within, apart)) at_o at_last in omega (arith, h, below)
    ]

pub none_before : (xs : List StaticObject) (n : ℕ) → length xs ≡ 0 → AreBefore xs n
none_before xs n none o a at_o = absurd (let within = slice_get_within xs o a at_o in omega (arith, within, none))

-- ---- one object

-- the tables to which the state leads with this object are those without it
abbrev with_objects : Elaborator → Elaborator → Elaborator
with_objects mid new = record mid { objects = new.objects }

leads_without : (mid new : Elaborator) (types : List CType) (entities : List Entity) → new ≡ with_objects mid new → LeadsOutside new types entities → LeadsOutside mid types entities
leads_without mid new types entities same leads = record {
  longer = subst (λ (w : Elaborator). (more : List CType) × (types ≡ w.types.types ++ more)) same leads.longer;
  entities = λ n e is. leads.entities n e (ap (λ (w : Elaborator). entity_by w n) same ∙ is);
}

pub object_put : (old mid new : Elaborator) (there : At) (t : ℕ) (init : Init) (givens : List PartGiven) (object : StaticObject) → Grows old mid → new ≡ with_objects mid new →
    new.objects.items ≡ old.objects.items ++ object ∷ [] → (AreRising old.objects.items → AreBefore old.objects.items there.ordinal) → object.spot ≡ there.spot → object.ordinal ≡ there.ordinal →
    entity_by old there.ordinal ≡ Some object.entity → GivesTo old t [] init givens → GivesPartsOutside old mid givens object.parts → PutsObject old new there t init
object_put old mid new there t init givens object grows same list later spot ordinal entity gives made =
    let mid_is = grows.same in
    record {
      object = object;
      is = record {
        spot = spot;
        ordinal = ordinal;
        entity = λ types entities leads.
            (leads_without mid new types entities same leads).entities there.ordinal object.entity (ap (λ (w : Elaborator). entity_by w there.ordinal) mid_is ∙ entity);
        parts = λ env given type stand types entities leads.
            let got = gives stand.externs stand.unit stand.told env given (stand.each (at env (AnInitialiser (Some given) init)) (inl refl)) type in
            (got.parts, got.given, made stand.externs stand.unit (source_told stand.externs stand.unit old stand.told) types entities (leads_without mid new types entities same leads) got.parts got.are);
      };
      list = list;
      rise = λ rising. subst AreRising (sym list) (rise_last old.objects.items object rising (subst (AreBefore old.objects.items) (sym ordinal) (later rising)));
      same = same ∙ ap (λ (w : Elaborator). record w { types = mid.types; objects = new.objects }) mid_is ∙ ap (λ types. record old { types = types; objects = new.objects }) (sym (ap (λ (w : Elaborator). w.types) same));
    }
