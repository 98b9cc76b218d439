-- Types of two tables that are made in the same way: they are as large, and hold structs alike.
use Rattle.std.proofs.Common.{◌≡◌, ◌∙◌, ◌⊎◌, ◌<◌, inl, inr, ℕ, zero, suc, Bool, true, false, List, [], ◌∷◌, All, Some, refl, sym, ap, subst, arith, length}
use Rattle.std.proofs.lemmas.Bool.{cases_lt, false≢true, or_parts}
use Rattle.std.proofs.lemmas.List.Elements.{All-head, All-nil, All-tail, All-weaker}
use Rattle.std.proofs.lemmas.Option.{slice_get_past, slice_get_within}
use Rattle.std.specs.List.{slice_get, AllZip}
use Rattle.std.specs.Prelude.{⊤, if◌then◌else◌, not, unwrap_or, ◌||◌}
use Rattle.lk_link.specs.Types.{IsPlain}
use Rattle.lk_types.specs.Building.{HasSizedStructs, IsClosed, IsForm, IsPartOfObjects, IsPassed, IsTable, types_of}
use Rattle.lk_types.specs.Sizes.{HasLowerParts, fields_size, form_size, part_size, size_at, start_size, steps_of, with_part, with_types}
use Rattle.lk_types.specs.Table.{Table, is_complete, is_complete_form, is_open, members_of, type_at}
use Rattle.lk_types.specs.Walks.{has_tag, holds, holds_struct, holds_within, is_void, target}
use Rattle.lk_types.specs.declared.c_type.CType.{CType}
use Rattle.lk_types.specs.declared.c_type.CType.TheVariants.{Void, Int, ThreadId, Mutex, Cond, Pointer, Array, Struct, Function, Opaque}
use Rattle.lk_types.specs.declared.size.TypeSize.{TypeSize}
use Rattle.lk_types.proofs.AddLemmas.{closed_plain}
use Rattle.lk_types.proofs.ClosedLemmas.{closed_complete}
use Rattle.lk_types.proofs.Fuel.{sizes_are_of_parts}
use Rattle.lk_types.proofs.KeptLemmas.{could_put_got, lower_got, made_of_got}
use Rattle.lk_types.proofs.OrderLemmas.{closed_struct}
use Rattle.lk_types.proofs.PartLemmas.{target_by}
use Rattle.lk_types.proofs.SizeLemmas.{fields_size_is}
use Rattle.lk_types.specs.Walks.{Branch}
use Rattle.lk_types.specs.Table.{least_of}
use Rattle.lk_join.specs.Large.{struct_size}

-- two forms are made in the same way of types that belong together, and of structs that do
pub data IsMadeAs (One OneStruct : ℕ → ℕ → Type 0) : CType → CType → Type 0 where
  as_plain : {form : CType} → IsPlain form → IsMadeAs One OneStruct form form
  as_pointer : {a b : ℕ} → One a b → IsMadeAs One OneStruct (Pointer a) (Pointer b)
  as_array : {a b n : ℕ} → One a b → IsMadeAs One OneStruct (Array a n) (Array b n)
  as_struct : {a b : ℕ} → OneStruct a b → IsMadeAs One OneStruct (Struct a) (Struct b)
  as_function : {a b : ℕ} {ps qs : List ℕ} {dots : Bool} → One a b → AllZip One ps qs → IsMadeAs One OneStruct (Function a ps dots) (Function b qs dots)

holds_plain : (f g : ℕ → Bool) (form : CType) → IsPlain form → holds f form ≡ holds g form
holds_plain f g Void is = refl
holds_plain f g (Int kind) is = refl
holds_plain f g ThreadId is = refl
holds_plain f g Mutex is = refl
holds_plain f g Cond is = refl
holds_plain f g (Pointer t) is = refl
holds_plain f g (Array t n) is = absurd is
holds_plain f g (Struct s) is = refl
holds_plain f g (Function result params dots) is = refl
holds_plain f g (Opaque n) is = refl

plain_size : (ts us : Table) (form : CType) → IsPlain form → form_size ts form ≡ form_size us form
plain_size ts us Void is = refl
plain_size ts us (Int kind) is = refl
plain_size ts us ThreadId is = refl
plain_size ts us Mutex is = refl
plain_size ts us Cond is = refl
plain_size ts us (Pointer t) is = absurd is
plain_size ts us (Array t n) is = absurd is
plain_size ts us (Struct s) is = absurd is
plain_size ts us (Function result params dots) is = absurd is
plain_size ts us (Opaque n) is = refl

plain_complete : (ts us : Table) (form : CType) → IsPlain form → is_complete_form ts form ≡ is_complete_form us form
plain_complete ts us Void is = refl
plain_complete ts us (Int kind) is = refl
plain_complete ts us ThreadId is = refl
plain_complete ts us Mutex is = refl
plain_complete ts us Cond is = refl
plain_complete ts us (Pointer t) is = refl
plain_complete ts us (Array t n) is = refl
plain_complete ts us (Struct s) is = absurd is
plain_complete ts us (Function result params dots) is = refl
plain_complete ts us (Opaque n) is = refl

-- the types of which the size of a form depends are as Small says
abbrev HasSmallParts : Table → (Small : ℕ → Type 0) → CType → Type 0
HasSmallParts us Small Void = ⊤
HasSmallParts us Small (Int kind) = ⊤
HasSmallParts us Small ThreadId = ⊤
HasSmallParts us Small Mutex = ⊤
HasSmallParts us Small Cond = ⊤
HasSmallParts us Small (Pointer b) = has_tag us b ≡ false → Small b
HasSmallParts us Small (Array b n) = Small b
HasSmallParts us Small (Struct b) = ⊤
HasSmallParts us Small (Function b qs dots) = All Small (b ∷ qs)
HasSmallParts us Small (Opaque n) = ⊤

any_parts : (us : Table) (form : CType) → HasSmallParts us (λ v. ⊤) form
any_parts us Void = tt
any_parts us (Int kind) = tt
any_parts us ThreadId = tt
any_parts us Mutex = tt
any_parts us Cond = tt
any_parts us (Pointer b) = λ no. tt
any_parts us (Array b n) = tt
any_parts us (Struct b) = tt
any_parts us (Function b qs dots) = λ k d less. tt
any_parts us (Opaque n) = tt

below : (a b d : ℕ) → a < b → b < suc d → a < d
below a b d less low = omega (arith, less, low)

-- the parts of a type have fewer steps
low_parts : (us : Table) (d u : ℕ) (form : CType) → steps_of us u < suc d → HasLowerParts us u form → HasSmallParts us (λ v. steps_of us v < d) form
low_parts us d u Void low lower = tt
low_parts us d u (Int kind) low lower = tt
low_parts us d u ThreadId low lower = tt
low_parts us d u Mutex low lower = tt
low_parts us d u Cond low lower = tt
low_parts us d u (Pointer b) low lower = λ no. below (steps_of us b) (steps_of us u) d (lower no) low
low_parts us d u (Array b n) low lower = below (steps_of us b) (steps_of us u) d lower low
low_parts us d u (Struct b) low lower = tt
low_parts us d u (Function b qs dots) low lower =
    All-weaker (λ v. steps_of us v < steps_of us u) (λ v. steps_of us v < d) (λ v less. below (steps_of us v) (steps_of us u) d less low) (b ∷ qs) lower
low_parts us d u (Opaque n) low lower = tt

module _ (table : Table) where
  pub size_is : IsTable table → (t : ℕ) (form : CType) → slice_get table.types t ≡ Some form → size_at table t ≡ form_size table form
  size_is good t form at = sizes_are_of_parts table good t (slice_get_within table.types t form at) ∙ ap (λ o. form_size table (unwrap_or o Void)) at

  -- what a pointer leads to counts as one where it is a Tag
  target_size : (t : ℕ) (tag : Bool) → has_tag table t ≡ tag → part_size (size_at table) (target table t) ≡ (if tag then start_size else size_at table t)
  target_size t true is = ap (λ tag. part_size (size_at table) (target_by tag (least_of table t) t)) is
  target_size t false is = ap (λ tag. part_size (size_at table) (target_by tag (least_of table t) t)) is

  untagged_closed : (t : ℕ) → has_tag table t ≡ false → IsClosed table t
  untagged_closed t none = closed_plain table t (or_parts (is_void (type_at table t)) (holds_struct table t) none).1

  passed_closed : (ts : List ℕ) → All (IsPassed table) ts → All (IsClosed table) ts
  passed_closed ts passed = All-weaker (IsPassed table) (IsClosed table) (λ t one. closed_plain table t one.no_struct) ts passed

  -- the members of structs are no incomplete structs
  pub members_closed : HasSizedStructs table → (s : ℕ) → All (IsClosed table) (types_of (members_of table s))
  members_closed sized s = elim (cases_lt s (length table.members)) [
    | inl less ↦ All-weaker (IsPartOfObjects table) (IsClosed table) (λ u part. closed_complete table u part.complete) (types_of (members_of table s)) (sized.parts s less)
    | inr past ↦ subst (λ ms. All (IsClosed table) (types_of ms)) (sym (ap (λ o. unwrap_or o []) (slice_get_past table.members s past))) (All-nil (IsClosed table))
  ]

module _ (ts us : Table) where
  zip_types : (ps qs : List ℕ) → AllZip (λ a b. size_at ts a ≡ size_at us b) ps qs → (size : TypeSize) → with_types ts size ps ≡ with_types us size qs
  zip_types [] [] same size = refl
  zip_types [] (q ∷ qs) same size = absurd same
  zip_types (p ∷ ps) [] same size = absurd same
  zip_types (p ∷ ps) (q ∷ qs) same size =
      zip_types ps qs same.1 (with_part size (size_at ts p)) ∙ ap (λ part. with_types us (with_part size part) qs) same.0

  zip_sizes : (ps qs : List ℕ) → AllZip (λ a b. size_at ts a ≡ size_at us b) ps qs → fields_size ts ps ≡ fields_size us qs
  zip_sizes ps qs same = fields_size_is ts ps ∙ zip_types ps qs same start_size ∙ sym (fields_size_is us qs)

  module _ (One OneStruct : ℕ → ℕ → Type 0) where
    -- two types that belong together are made in the same way
    pub record IsOnePair (t u : ℕ) : Type 0 where
      pub form : CType
      pub other : CType
      pub at : slice_get ts.types t ≡ Some form
      pub bt : slice_get us.types u ≡ Some other
      pub made : IsMadeAs One OneStruct form other

    -- a struct has the members of one that is as large as another
    pub record HasMembersAs (a b : ℕ) : Type 0 where
      pub there : ℕ
      pub size : struct_size ts a ≡ struct_size ts there
      pub zip : AllZip One (types_of (members_of ts there)) (types_of (members_of us b))

module _ (ts us : Table) (One OneStruct : ℕ → ℕ → Type 0) (forms : (t u : ℕ) → One t u → IsOnePair ts us One OneStruct t u) (good : IsTable ts) (fine : IsTable us) where
  holds_made : (f g : ℕ → Bool) {form other : CType} → IsMadeAs One OneStruct form other → ((a b n : ℕ) → form ≡ Array a n → other ≡ Array b n → One a b → f a ≡ g b) → holds f form ≡ holds g other
  holds_made f g (as_plain {form} is) same = holds_plain f g form is
  holds_made f g (as_pointer one) same = refl
  holds_made f g (as_array {a} {b} {n} one) same = same a b n refl refl one
  holds_made f g (as_struct one) same = refl
  holds_made f g (as_function one all) same = refl

  holds_below : (d e t u : ℕ) → One t u → t < d → u < e → holds_within d ts t ≡ holds_within e us u
  unfolding holds_within
  holds_below zero e t u one less low = absurd (omega (arith, less))
  holds_below (suc d) zero t u one less low = absurd (omega (arith, low))
  holds_below (suc d) (suc e) t u one less low =
      let pair = forms t u one in
      ap (λ o. holds (holds_within d ts) (unwrap_or o Void)) pair.at ∙
      holds_made (holds_within d ts) (holds_within e us) pair.made
      (λ a b n is are inner. holds_below d e a b inner
      (below a t d (made_of_got ts good t (Array a n) (pair.at ∙ ap Some is)) less)
      (below b u e (made_of_got us fine u (Array b n) (pair.bt ∙ ap Some are)) low)) ∙
      sym (ap (λ o. holds (holds_within e us) (unwrap_or o Void)) pair.bt)

  pub holds_one : (t u : ℕ) → One t u → holds_struct ts t ≡ holds_struct us u
  holds_one t u one = holds_below (suc t) (suc u) t u one (omega arith) (omega arith)

  void_made : {form other : CType} → IsMadeAs One OneStruct form other → is_void form ≡ is_void other
  void_made (as_plain is) = refl
  void_made (as_pointer one) = refl
  void_made (as_array one) = refl
  void_made (as_struct one) = refl
  void_made (as_function one all) = refl

  tag_one : (t u : ℕ) → One t u → has_tag ts t ≡ has_tag us u
  tag_one t u one =
      let pair = forms t u one in
      let void = ap (λ o. is_void (unwrap_or o Void)) pair.at ∙ void_made pair.made ∙ sym (ap (λ o. is_void (unwrap_or o Void)) pair.bt) in
      ap (λ b. b || holds_struct ts t) void ∙ ap (λ b. is_void (type_at us u) || b) (holds_one t u one)

  complete_made : {form other : CType} → IsMadeAs One OneStruct form other → is_complete_form ts form ≡ true → ((a b : ℕ) → form ≡ Struct a → OneStruct a b → is_open us b ≡ false) →
      is_complete_form us other ≡ true
  complete_made (as_plain {form} is) complete structs = sym (plain_complete ts us form is) ∙ complete
  complete_made (as_pointer one) complete structs = refl
  complete_made (as_array one) complete structs = complete
  complete_made (as_struct {a} {b} one) complete structs = ap not (structs a b refl one)
  complete_made (as_function one all) complete structs = absurd (false≢true complete)

  -- what is complete is so there too, where its struct is
  pub complete_one : (t u : ℕ) → One t u → is_complete ts t ≡ true → ((a b : ℕ) → slice_get ts.types t ≡ Some (Struct a) → OneStruct a b → is_open us b ≡ false) → is_complete us u ≡ true
  complete_one t u one complete structs =
      let pair = forms t u one in
      let here = ap (λ o. is_complete_form ts (unwrap_or o Void)) (sym pair.at) ∙ complete in
      ap (λ o. is_complete_form us (unwrap_or o Void)) pair.bt ∙ complete_made pair.made here (λ a b is inner. structs a b (pair.at ∙ ap Some is) inner)

  -- sizes of forms, from those of their parts
  module _ (Small : ℕ → Type 0) (sizes : (a b : ℕ) → One a b → IsClosed ts a → IsClosed us b → Small b → size_at ts a ≡ size_at us b) where
    all_sizes : (ps qs : List ℕ) → AllZip One ps qs → All (IsClosed ts) ps → All (IsClosed us) qs → All Small qs → AllZip (λ a b. size_at ts a ≡ size_at us b) ps qs
    all_sizes [] [] zip shut closed small = tt
    all_sizes [] (q ∷ qs) zip shut closed small = absurd zip
    all_sizes (p ∷ ps) [] zip shut closed small = absurd zip
    all_sizes (p ∷ ps) (q ∷ qs) zip shut closed small = (
      sizes p q zip.0 (All-head (IsClosed ts) p ps shut) (All-head (IsClosed us) q qs closed) (All-head Small q qs small),
      all_sizes ps qs zip.1 (All-tail (IsClosed ts) p ps shut) (All-tail (IsClosed us) q qs closed) (All-tail Small q qs small),
    )

    pointer_sizes : (a b : ℕ) → One a b → (has_tag us b ≡ false → Small b) → (tag : Bool) → has_tag us b ≡ tag → part_size (size_at ts) (target ts a) ≡ part_size (size_at us) (target us b)
    pointer_sizes a b one small true is = target_size ts a true (tag_one a b one ∙ is) ∙ sym (target_size us b true is)
    pointer_sizes a b one small false is =
        let here = tag_one a b one ∙ is in
        target_size ts a false here ∙ sizes a b one (untagged_closed ts a here) (untagged_closed us b is) (small is) ∙ sym (target_size us b false is)

    made_sizes : {form other : CType} → IsMadeAs One OneStruct form other → IsForm ts form → IsForm us other → HasSmallParts us Small other →
        ((a b : ℕ) → form ≡ Struct a → other ≡ Struct b → OneStruct a b → struct_size ts a ≡ struct_size us b) → form_size ts form ≡ form_size us other
    made_sizes (as_plain {form} is) ok fit small structs = plain_size ts us form is
    made_sizes (as_pointer {a} {b} one) ok fit small structs = ap (with_part start_size) (pointer_sizes a b one small (has_tag us b) refl)
    made_sizes (as_array {a} {b} one) ok fit small structs = ap (with_part start_size) (sizes a b one (closed_complete ts a ok.complete) (closed_complete us b fit.complete) small)
    made_sizes (as_struct {a} {b} one) ok fit small structs = structs a b refl refl one
    made_sizes (as_function {a} {b} {ps} {qs} one all) ok fit small structs =
        zip_sizes ts us (a ∷ ps) (b ∷ qs) (all_sizes (a ∷ ps) (b ∷ qs) (one, all) (passed_closed ts (a ∷ ps) ok) (passed_closed us (b ∷ qs) fit) small)

  module _ (sized : HasSizedStructs ts) (fits : HasSizedStructs us)
      (same : (a b : ℕ) → OneStruct a b → is_open ts a ≡ false → is_open us b ≡ false → (struct_size ts a ≡ struct_size us b) ⊎ HasMembersAs ts us One OneStruct a b) where
    abbrev SizesBelow : ℕ → Type 0
    SizesBelow d = (t u : ℕ) → One t u → IsClosed ts t → IsClosed us u → steps_of us u < d → size_at ts t ≡ size_at us u

    struct_sizes : (d u a b : ℕ) → SizesBelow d → steps_of us u < suc d → slice_get us.types u ≡ Some (Struct b) → OneStruct a b → is_open ts a ≡ false → is_open us b ≡ false →
        struct_size ts a ≡ struct_size us b
    struct_sizes d u a b sizes low bt one shut closed = elim (same a b one shut closed) [
      | inl is ↦ is
      | inr k ↦
          let lower = All-weaker (λ v. steps_of us v < steps_of us u) (λ v. steps_of us v < d) (λ v less. below (steps_of us v) (steps_of us u) d less low)
          (types_of (members_of us b)) (lower_got us fine u (Struct b) bt) in
          k.size ∙ zip_sizes ts us (types_of (members_of ts k.there)) (types_of (members_of us b))
          (all_sizes (λ v. steps_of us v < d) sizes (types_of (members_of ts k.there)) (types_of (members_of us b)) k.zip (members_closed ts sized k.there) (members_closed us fits b) lower)
    ]

    size_below : (d : ℕ) → SizesBelow d
    size_below zero t u one shut closed less = absurd (omega (arith, less))
    size_below (suc d) t u one shut closed less =
        let pair = forms t u one in
        size_is ts good t pair.form pair.at ∙
        made_sizes (λ v. steps_of us v < d) (size_below d) pair.made (could_put_got ts good t pair.form pair.at) (could_put_got us fine u pair.other pair.bt)
        (low_parts us d u pair.other less (lower_got us fine u pair.other pair.bt))
        (λ a b is are inner.
        let at = pair.at ∙ ap Some is in
        let bt = pair.bt ∙ ap Some are in
        struct_sizes d u a b (size_below d) less bt inner (closed_struct ts t a shut at) (closed_struct us u b closed bt)) ∙
        sym (size_is us fine u pair.other pair.bt)

    -- types that belong together are as large
    pub size_one : (t u : ℕ) → One t u → IsClosed ts t → IsClosed us u → size_at ts t ≡ size_at us u
    size_one t u one shut closed = size_below (suc (steps_of us u)) t u one shut closed (omega arith)

    -- and so are structs with such members
    pub types_size : (ps qs : List ℕ) → AllZip One ps qs → All (IsClosed ts) ps → All (IsClosed us) qs → fields_size ts ps ≡ fields_size us qs
    types_size ps qs zip shut closed =
        zip_sizes ts us ps qs (all_sizes (λ v. ⊤) (λ a b one shut closed any. size_one a b one shut closed) ps qs zip shut closed (λ k d less. tt))

    -- and forms that are made of such types
    pub form_one : {form other : CType} → IsMadeAs One OneStruct form other → IsForm ts form → IsForm us other →
        ((a b : ℕ) → form ≡ Struct a → other ≡ Struct b → OneStruct a b → struct_size ts a ≡ struct_size us b) → form_size ts form ≡ form_size us other
    form_one {form} {other} made ok fit structs = made_sizes (λ v. ⊤) (λ a b one shut closed any. size_one a b one shut closed) made ok fit (any_parts us other) structs
