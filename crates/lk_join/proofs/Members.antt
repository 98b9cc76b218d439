-- The members of the program's structs are those of each struct that is one with them, whichever source gave them.
use Rattle.std.proofs.Common.{◌≡◌, ◌∙◌, ◌⊎◌, inl, inr, ◌<◌, ◌≤◌, ℕ, Bool, true, false, List, [], ◌∷◌, Option, Some, None, refl, sym, ap, subst, length, arith}
use Rattle.std.proofs.lemmas.Bool.{cases_lt, false≢true}
use Rattle.std.proofs.lemmas.Option.{same_Some, slice_get_within}
use Rattle.std.specs.List.{slice_get, AllZip}
use Rattle.std.specs.Option.{option_map}
use Rattle.std.specs.Prelude.{unwrap_or}
use Rattle.lk_link.specs.Pairs.{IsAmong}
use Rattle.lk_link.specs.Sources.{Units, IsStruct}
use Rattle.lk_link.specs.Structs.{AreKept, AreOneBy, AreOneMember, Becomes, HasNoDifference, members_in, struct_in, types_in}
use Rattle.lk_link.specs.Structs.Becomes.{completed, itself}
use Rattle.lk_link.specs.Types.{AreOne, AreAllOne, IsPlain}
use Rattle.lk_link.specs.Types.AreOne.{plain, pointers, arrays, structs, functions}
use Rattle.lk_link.specs.Types.AreAllOne.{none, more}
use Rattle.lk_link.specs.declared.place.SizeRule.TheVariants.{Same}
use Rattle.lk_link.specs.declared.place.StructOf.{StructOf}
use Rattle.lk_link.specs.declared.place.StructPair.{StructPair}
use Rattle.lk_typed.specs.declared.unit.TypedUnit.{TypedUnit}
use Rattle.lk_types.specs.Building.{IsTable}
use Rattle.lk_types.specs.Table.{Table, is_empty, is_open, members_of}
use Rattle.lk_types.specs.declared.c_type.CType.{CType}
use Rattle.lk_types.specs.declared.c_type.CType.TheVariants.{Void, Int, ThreadId, Mutex, Cond, Pointer, Array, Struct, Function, Opaque}
use Rattle.lk_types.specs.declared.member.StructMember.{StructMember}
use Rattle.lk_types.proofs.SizeLemmas.{all_read}
use Rattle.lk_join.specs.Classes.{AreLinked, AreNumbers, AreOneStruct, IsInProgram, IsNumber}
use Rattle.lk_join.specs.Classes.AreOneStruct.{same, next}
use Rattle.lk_join.specs.Completing.{HasMembers}
use Rattle.lk_join.specs.Forms.{ArePutAt, AreRowsOf, HasForm, IsHere, IsMember, IsPutAt}
use Rattle.lk_join.specs.Forms.HasForm.{void, integer, thread, mutex, condition, opaque, pointer, array, struct, function}
use Rattle.lk_join.specs.Sources.{number_in}
use Rattle.lk_join.proofs.Chains.{image_itself, one_in_program}
use Rattle.lk_join.proofs.Completed.{never_both, open_past}
use Rattle.lk_join.proofs.Growing.{got}
use Rattle.lk_join.proofs.Symmetry.{kept_turned}
use Rattle.lk_join.proofs.Zips.{zip_at}

-- what a form of a source is made of in the program
abbrev MadeOf : (row numbers : List ℕ) → CType → CType → Type 0
MadeOf row numbers Void form = form ≡ Void
MadeOf row numbers (Int kind) form = form ≡ Int kind
MadeOf row numbers ThreadId form = form ≡ ThreadId
MadeOf row numbers Mutex form = form ≡ Mutex
MadeOf row numbers Cond form = form ≡ Cond
MadeOf row numbers (Pointer a) form = (b : ℕ) × (form ≡ Pointer b) × IsHere row a b
MadeOf row numbers (Array a n) form = (b : ℕ) × (form ≡ Array b n) × IsHere row a b
MadeOf row numbers (Struct a) form = (b : ℕ) × (form ≡ Struct b) × IsHere numbers a b
MadeOf row numbers (Function a ps dots) form = (b : ℕ) × (qs : List ℕ) × (form ≡ Function b qs dots) × IsHere row a b × AllZip (IsHere row) ps qs
MadeOf row numbers (Opaque n) form = form ≡ Opaque n

made : (row numbers : List ℕ) {a b : CType} → HasForm row numbers a b → MadeOf row numbers a b
made row numbers void = refl
made row numbers integer = refl
made row numbers thread = refl
made row numbers mutex = refl
made row numbers condition = refl
made row numbers opaque = refl
made row numbers (pointer {b = b} at) = (b, refl, at)
made row numbers (array {b = b} at) = (b, refl, at)
made row numbers (struct {b = b} at) = (b, refl, at)
made row numbers (function {b = b} {qs = qs} at each) = (b, qs, refl, at, each)

-- a form that is made of no other type is the same in the program
plain_same : (row numbers other_row others : List ℕ) (form f g : CType) → IsPlain form → MadeOf row numbers form f → MadeOf other_row others form g → f ≡ g
plain_same row numbers other_row others Void f g is a b = a ∙ sym b
plain_same row numbers other_row others (Int kind) f g is a b = a ∙ sym b
plain_same row numbers other_row others ThreadId f g is a b = a ∙ sym b
plain_same row numbers other_row others Mutex f g is a b = a ∙ sym b
plain_same row numbers other_row others Cond f g is a b = a ∙ sym b
plain_same row numbers other_row others (Pointer t) f g is a b = absurd is
plain_same row numbers other_row others (Array t n) f g is a b = absurd is
plain_same row numbers other_row others (Struct s) f g is a b = absurd is
plain_same row numbers other_row others (Function result params dots) f g is a b = absurd is
plain_same row numbers other_row others (Opaque n) f g is a b = a ∙ sym b

-- a type that is one with another is in its table
second_known : (One : ℕ → ℕ → Type 0) (ts us : List CType) {t u : ℕ} → AreOne Same One ts us t u → (form : CType) × (slice_get us u ≡ Some form)
second_known One ts us (plain {form = form} at bt is) = (form, bt)
second_known One ts us (pointers {b = b} at bt h) = (Pointer b, bt)
second_known One ts us (arrays {b = b} {m = m} at bt sizes h) = (Array b m, bt)
second_known One ts us (structs {b = b} at bt h) = (Struct b, bt)
second_known One ts us (functions {b = b} {qs = qs} {dots = dots} at bt h hs) = (Function b qs dots, bt)

empty_of : {X : Type 0} (xs : List X) → is_empty xs ≡ true → xs ≡ []
empty_of [] is = refl
empty_of (x ∷ xs) is = absurd (false≢true is)

pub zip_some : {X Y : Type 0} (R : X → Y → Type 0) (xs : List X) (ys : List Y) → AllZip R xs ys → is_empty ys ≡ false → is_empty xs ≡ false
zip_some R xs [] h some_ = absurd (false≢true (sym some_))
zip_some R [] (y ∷ ys) h some_ = absurd h
zip_some R (x ∷ xs) (y ∷ ys) h some_ = refl

module _ (units : Units) where
  -- a struct with members is a struct of a source
  pub complete_known : (s : StructOf) → is_empty (members_in units s) ≡ false → IsStruct units s
  complete_known s = of (slice_get units s.source) refl
    where
      known : (unit : TypedUnit) → is_open unit.types s.number ≡ false → (s.number < length unit.types.members) ⊎ (length unit.types.members ≤ s.number) → s.number < length unit.types.members
      known unit closed (inl less) = less
      known unit closed (inr past) = absurd (never_both (is_open unit.types s.number) (open_past unit.types s.number past) closed)

      of : (o : Option TypedUnit) → slice_get units s.source ≡ o → is_empty (unwrap_or (option_map (λ unit. members_of unit.types s.number) (slice_get units s.source)) []) ≡ false → IsStruct units s
      of None is some_ = absurd (false≢true (sym some_ ∙ ap (λ o. is_empty (unwrap_or (option_map (λ unit. members_of unit.types s.number) o) [])) is))
      of (Some unit) is some_ =
          let closed = sym (ap (λ o. is_empty (unwrap_or (option_map (λ unit. members_of unit.types s.number) o) [])) is) ∙ some_ in
          record { unit = unit; at = is; known = known unit closed (cases_lt s.number (length unit.types.members)) }

  -- what a struct of a source is in the program
  pub in_program : (s r : StructOf) → IsStruct units s → Becomes units s r → IsInProgram units r
  in_program s r known becomes = record { known = of known becomes; itself_there = image_itself units becomes }
    where
      of : {r : StructOf} → IsStruct units s → Becomes units s r → IsStruct units r
      of known (completed {t} h) = complete_known t h.by.complete.complete
      of known (itself none_) = known

module _ (units : Units) (numbers rows : List (List ℕ)) (table : Table) where
  -- a source with the program's numbers of its types and structs
  pub record IsSourceAt (s : ℕ) : Type 0 where
    pub unit : TypedUnit
    pub row : List ℕ
    pub here : List ℕ
    pub at : slice_get units s ≡ Some unit
    pub row_at : slice_get rows s ≡ Some row
    pub here_at : slice_get numbers s ≡ Some here
    pub put : ArePutAt table row here unit.types.types

  module _ (count : ℕ) (are : AreNumbers units numbers count) (put : AreRowsOf units numbers table rows (length units)) (good : IsTable table) where
    pub source_of : (s : ℕ) (unit : TypedUnit) → slice_get units s ≡ Some unit → IsSourceAt s
    source_of s unit at =
        let within = slice_get_within units s unit at in
        let size = put.size in
        let row = got rows s (omega (arith, within, size)) in
        let here = put.each s unit row.0 at row.1 in
        record { unit = unit; row = row.0; here = here.0; at = at; row_at = row.1; here_at = here.1; put = here.2 }

    pub number_at : (s : StructOf) (x : IsSourceAt s.source) → IsStruct units s → IsHere x.here s.number (number_in numbers s)
    number_at s x is =
        let unit = same_Some is.unit x.unit (sym is.at ∙ x.at) in
        let known = subst (λ (u : TypedUnit). s.number < length u.types.members) unit is.known in
        let long = are.row s.source x.unit x.here x.at x.here_at in
        let n = got x.here s.number (omega (arith, known, long)) in
        let same_number : number_in numbers s ≡ n.0 = ap (λ o. unwrap_or (slice_get (unwrap_or o []) s.number) 0) x.here_at ∙ ap (λ o. unwrap_or o 0) n.1 in
        n.1 ∙ ap Some (sym same_number)

    -- a type of a source in the program
    made_at : (s : ℕ) (x : IsSourceAt s) (t here : ℕ) (form : CType) → slice_get (types_in units s) t ≡ Some form → IsHere x.row t here →
        (form_here : CType) × (slice_get table.types here ≡ Some form_here) × MadeOf x.row x.here form form_here
    made_at s x t here form at is =
        let there = ap (λ o. slice_get (unwrap_or (option_map (λ unit. unit.types.types) o) []) t) (sym x.at) ∙ at in
        let one = zip_at (IsPutAt table x.row x.here) x.unit.types.types x.row x.put t form there in
        let place = same_Some one.0 here (sym one.1 ∙ is) in
        (one.2.form_here, ap (slice_get table.types) (sym place) ∙ one.2.at, made x.row x.here one.2.is)

    one_place : (h k : ℕ) (f g : CType) → slice_get table.types h ≡ Some f → slice_get table.types k ≡ Some g → f ≡ g → h ≡ k
    one_place h k f g at bt is = good.different h k f at (bt ∙ ap Some (sym is))

    module _ (pairs : List StructPair) (kept : AreKept units pairs) (s z : ℕ) (x : IsSourceAt s) (y : IsSourceAt z) where
      struct_known : (b m : ℕ) → IsHere y.here b m → IsStruct units (struct_in z b)
      struct_known b m at =
          let within = slice_get_within y.here b m at in
          let long = are.row z y.unit y.here y.at y.here_at in
          record { unit = y.unit; at = y.at; known = omega (arith, within, long) }

      struct_same : (a b n m : ℕ) → AreOneBy units pairs s z a b → IsHere x.here a n → IsHere y.here b m → n ≡ m
      struct_same a b n m by at bt =
          (are.one (struct_in s a) (struct_in z b) by.0.first by.0.second n m (x.here, x.here_at, at) (y.here, y.here_at, bt) by.1 by.2).1
          (elim by.3 [
            | inl is ↦ subst (AreOneStruct units by.0.first) is same
            | inr among ↦ next same (in_program units (struct_in z b) by.0.second (struct_known b m bt) by.2) (inl (inr (pairs, kept, among)))
          ])

      -- types that are one have one number
      mutual
        same_here : {t u : ℕ} → AreOne Same (AreOneBy units pairs s z) (types_in units s) (types_in units z) t u → (h k : ℕ) → IsHere x.row t h → IsHere y.row u k → h ≡ k
        same_here (plain {t = t} {u = u} {form = form} at bt is) h k th uk =
            let a = made_at s x t h form at th in
            let b = made_at z y u k form bt uk in
            one_place h k a.0 b.0 a.1 b.1 (plain_same x.row x.here y.row y.here form a.0 b.0 is a.2 b.2)
        same_here (pointers {t = t} {u = u} {a = p} {b = q} at bt one) h k th uk =
            let a = made_at s x t h (Pointer p) at th in
            let b = made_at z y u k (Pointer q) bt uk in
            let is = same_here one a.2.0 b.2.0 a.2.2 b.2.2 in
            one_place h k a.0 b.0 a.1 b.1 (a.2.1 ∙ ap Pointer is ∙ sym b.2.1)
        same_here (arrays {t = t} {u = u} {a = p} {b = q} {n = n} {m = m} at bt sizes one) h k th uk =
            let a = made_at s x t h (Array p n) at th in
            let b = made_at z y u k (Array q m) bt uk in
            let is = same_here one a.2.0 b.2.0 a.2.2 b.2.2 in
            one_place h k a.0 b.0 a.1 b.1 (a.2.1 ∙ ap (λ e. Array e n) is ∙ ap (Array b.2.0) sizes ∙ sym b.2.1)
        same_here (structs {t = t} {u = u} {a = p} {b = q} at bt one) h k th uk =
            let a = made_at s x t h (Struct p) at th in
            let b = made_at z y u k (Struct q) bt uk in
            let is = struct_same p q a.2.0 b.2.0 one a.2.2 b.2.2 in
            one_place h k a.0 b.0 a.1 b.1 (a.2.1 ∙ ap Struct is ∙ sym b.2.1)
        same_here (functions {t = t} {u = u} {a = p} {b = q} {ps = ps} {qs = qs} {dots = dots} at bt one all) h k th uk =
            let a = made_at s x t h (Function p ps dots) at th in
            let b = made_at z y u k (Function q qs dots) bt uk in
            let is = same_here one a.2.0 b.2.0 a.2.3 b.2.3 in
            let are_ = all_same all a.2.1 b.2.1 a.2.4 b.2.4 in
            one_place h k a.0 b.0 a.1 b.1 (a.2.2 ∙ ap (λ e. Function e a.2.1 dots) is ∙ ap (λ l. Function b.2.0 l dots) are_ ∙ sym b.2.2)

        all_same : {ps qs : List ℕ} → AreAllOne Same (AreOneBy units pairs s z) (types_in units s) (types_in units z) ps qs → (hs ks : List ℕ) → AllZip (IsHere x.row) ps hs → AllZip (IsHere y.row) qs ks → hs ≡ ks
        all_same none [] [] a b = refl
        all_same none [] (k ∷ ks) a b = absurd b
        all_same none (h ∷ hs) ks a b = absurd a
        all_same (more one all) [] ks a b = absurd a
        all_same (more one all) (h ∷ hs) [] a b = absurd b
        all_same (more one all) (h ∷ hs) (k ∷ ks) a b = ap (λ e. e ∷ hs) (same_here one h k a.0 b.0) ∙ ap (λ l. k ∷ l) (all_same all hs ks a.1 b.1)

      -- members that compare alike are the same in the program
      carry_members : (as_ bs members : List StructMember) → AllZip (AreOneMember units pairs s z) as_ bs → AllZip (IsMember x.row) as_ members → AllZip (IsMember y.row) bs members
      carry_members [] [] [] alike h = tt
      carry_members [] [] (v ∷ members) alike h = absurd h
      carry_members [] (b ∷ bs) members alike h = absurd alike
      carry_members (a ∷ as_) [] members alike h = absurd alike
      carry_members (a ∷ as_) (b ∷ bs) [] alike h = absurd h
      carry_members (a ∷ as_) (b ∷ bs) (v ∷ members) alike h =
          let types = alike.0.1 in
          let known = second_known (AreOneBy units pairs s z) (types_in units s) (types_in units z) types in
          let there = ap (λ o. slice_get (unwrap_or (option_map (λ unit. unit.types.types) o) []) b.ty) (sym y.at) ∙ known.1 in
          let here = zip_at (IsPutAt table y.row y.here) y.unit.types.types y.row y.put b.ty known.0 there in
          let is = same_here types v.ty here.0 h.0.1 here.1 in
          ((sym alike.0.0 ∙ h.0.0, here.1 ∙ ap Some (sym is)), carry_members as_ bs members alike.1 h.1)

    -- a struct has these members, with the program's types
    abbrev HasThese : List StructMember → StructOf → Type 0
    HasThese members s = (x : IsSourceAt s.source) → AllZip (IsMember x.row) (members_in units s) members

    module _ (members : List StructMember) where
      by_pair : (q s : StructOf) → IsStruct units q → (pairs : List StructPair) → AreKept units pairs → IsAmong pairs (record { first = q; second = s }) → HasThese members q → HasThese members s
      by_pair q s is pairs kept among h y =
          let x = source_of q.source is.unit is.at in
          let alike = all_read (HasNoDifference units pairs) pairs among.0 (record { first = q; second = s }) kept among.1 in
          carry_members pairs kept q.source s.source x y (members_in units q) (members_in units s) members alike.members (h x)

      by_link : (q s : StructOf) → IsStruct units q → AreLinked units q s → HasThese members q → HasThese members s
      by_link q s is (inl (inl one)) h = subst (HasThese members) one h
      by_link q s is (inl (inr kept)) h = by_pair q s is kept.0 kept.1 kept.2 h
      by_link q s is (inr (inl one)) h = subst (HasThese members) (sym one) h
      by_link q s is (inr (inr kept)) h = let back = kept_turned units (record { first = s; second = q }) kept in by_pair q s is back.0 back.1 back.2 h

      along : {r s : StructOf} → IsInProgram units r → AreOneStruct units r s → HasThese members r → HasThese members s
      along first same h = h
      along first (next {q = q} {s = s} one is linked) h = by_link q s (one_in_program units first one).known linked (along first one h)

    module _ (h : HasMembers units numbers rows table) (s r : StructOf) (known : IsStruct units s) (becomes : Becomes units s r) (x : IsSourceAt r.source) where
      there : IsInProgram units r
      there = in_program units s r known becomes

      number_s : IsNumber numbers s (number_in numbers s)
      number_s = let y = source_of s.source known.unit known.at in (y.here, y.here_at, number_at s y known)

      number_r : IsNumber numbers r (number_in numbers r)
      number_r = (x.here, x.here_at, number_at r x there.known)

      one_number : number_in numbers s ≡ number_in numbers r
      one_number = (are.one s r r r (number_in numbers s) (number_in numbers r) number_s number_r becomes there.itself_there).1 same

      members_at : (z : StructOf) (unit : TypedUnit) → slice_get units z.source ≡ Some unit → members_in units z ≡ members_of unit.types z.number
      members_at z unit at = ap (λ o. unwrap_or (option_map (λ unit. members_of unit.types z.number) o) []) at

      -- some source gave them
      when_given : is_open table (number_in numbers s) ≡ false → AllZip (IsMember x.row) (members_in units r) (members_of table (number_in numbers s))
      when_given closed =
          let g = h.given (number_in numbers s) closed in
          let z = struct_in g.source g.is.number in
          let is_z : IsStruct units z = record { unit = g.unit; at = g.at; known = g.is.known } in
          let given = subst (λ ms. AllZip (IsMember g.row) ms (members_of table (number_in numbers s))) (sym (members_at z g.unit g.at)) g.is.members in
          let complete = zip_some (IsMember g.row) (members_in units z) (members_of table (number_in numbers s)) given closed in
          let becomes_z : Becomes units z z = itself (λ u k. never_both (is_empty (members_in units z)) k.incomplete complete) in
          let chain = (are.one z r z r (number_in numbers s) (number_in numbers r) (g.here, g.here_at, g.is.here) number_r becomes_z there.itself_there).0 one_number in
          along (members_of table (number_in numbers s)) (record { known = is_z; itself_there = becomes_z }) chain
          (λ y. subst (λ row. AllZip (IsMember row) (members_in units z) (members_of table (number_in numbers s))) (same_Some g.row y.row (sym g.row_at ∙ y.row_at)) given) x

      -- or no source completes the struct
      when_open : is_open table (number_in numbers s) ≡ true → (now : Bool) → is_empty (members_in units r) ≡ now → AllZip (IsMember x.row) (members_in units r) (members_of table (number_in numbers s))
      when_open open_ true none_ =
          subst (λ ms. AllZip (IsMember x.row) ms (members_of table (number_in numbers s))) (sym (empty_of (members_in units r) none_))
          (subst (AllZip (IsMember x.row) []) (sym (empty_of (members_of table (number_in numbers s)) open_)) tt)
      when_open open_ false some_ =
          let closed = sym (ap is_empty (members_at r x.unit x.at)) ∙ some_ in
          let unit = same_Some there.known.unit x.unit (sym there.known.at ∙ x.at) in
          let less = subst (λ (u : TypedUnit). r.number < length u.types.members) unit there.known.known in
          let here = number_at r x there.known ∙ ap Some (sym one_number) in
          absurd (never_both (is_open table (number_in numbers s)) open_ (h.completed r.source x.unit x.row x.here x.at x.row_at x.here_at r.number less (number_in numbers s) here closed))

      by_state : (now : Bool) → is_open table (number_in numbers s) ≡ now → AllZip (IsMember x.row) (members_in units r) (members_of table (number_in numbers s))
      by_state true is = when_open is (is_empty (members_in units r)) refl
      by_state false is = when_given is

      -- the program's struct has the members of what a struct becomes
      pub has_members : AllZip (IsMember x.row) (members_in units r) (members_of table (number_in numbers s))
      has_members = by_state (is_open table (number_in numbers s)) refl
