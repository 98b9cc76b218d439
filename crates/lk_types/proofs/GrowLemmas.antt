-- What stays as it is while a table grows.
use Rattle.std.proofs.Common.{◌≡◌, ◌∙◌, ◌<◌, ℕ, zero, suc, Bool, true, false, List, [], ◌∷◌, ◌++◌, length, refl, sym, ap, subst, arith, length-append, append-nil, append_assoc, All}
use Rattle.std.specs.List.{flat_map, slice_get}
use Rattle.std.specs.Prelude.{not, unwrap_or, ◌||◌}
use Rattle.std.proofs.lemmas.Bool.{false≢true}
use Rattle.std.proofs.lemmas.List.Elements.{All-weaker}
use Rattle.lk_types.specs.Building.{IsTable, IsType, IsLonger, IsMadeOf, IsClosed, IsClosedForm, IsForm, IsPartOfObjects, IsPassed, types_of}
use Rattle.lk_types.specs.Sizes.{size_at, form_size, size_of_parts, is_over}
use Rattle.lk_types.specs.Laws.{OlderWalksStay}
use Rattle.lk_types.specs.Table.{Table, type_at, least_of, members_of, is_complete_form, IsKnown, is_empty}
use Rattle.lk_types.specs.Walks.{Branch, target, branches, fields, has_tag, holds, holds_within, holds_struct, is_void, walk, nodes, most_steps, start, below_start, at_branch}
use Rattle.lk_types.specs.declared.c_type.CType.{CType}
use Rattle.lk_types.specs.declared.c_type.CType.TheVariants.{Void, Int, ThreadId, Mutex, Cond, Pointer, Array, Struct, Function, Opaque}
use Rattle.lk_types.proofs.Entries.{OfParts, size_of, same_sizes}
use Rattle.lk_types.proofs.Fuel.{same_below}
use Rattle.lk_types.proofs.PartLemmas.{target_by, parts_of_table}

pub get_before : {X : Type 0} (xs ys : List X) (i : ℕ) → i < length xs → slice_get (xs ++ ys) i ≡ slice_get xs i
get_before [] ys i within = absurd (omega arith)
get_before (x ∷ xs) ys zero within = refl
get_before (x ∷ xs) ys (suc i) within = get_before xs ys i (omega arith)

-- a table is longer than itself, and one longer than that is longer than this
pub longer_same : (table : Table) → IsLonger table table
longer_same table = record { types = ([], sym (append-nil table.types)); least = ([], sym (append-nil table.least)); structs = omega arith; members = λ s closed. refl }

pub longer_then : (a b c : Table) → IsLonger a b → IsLonger b c → IsLonger a c
longer_then a b c first second = record {
  types = (first.types.0 ++ second.types.0, second.types.1 ∙ ap (λ ts. ts ++ second.types.0) first.types.1 ∙ append_assoc a.types first.types.0 second.types.0);
  least = (first.least.0 ++ second.least.0, second.least.1 ∙ ap (λ ts. ts ++ second.least.0) first.least.1 ∙ append_assoc a.least first.least.0 second.least.0);
  structs = let one = first.structs in let two = second.structs in omega (arith, one, two);
  members = λ s closed. second.members s (ap is_empty (first.members s closed) ∙ closed) ∙ first.members s closed;
}

-- whether forms hold structs is the same by two functions that agree on what they are made of
pub holds_agree : (f g : ℕ → Bool) (table : Table) (t : ℕ) (form : CType) → IsMadeOf table t form → ((u : ℕ) → u < t → f u ≡ g u) → holds f form ≡ holds g form
holds_agree f g table t Void made agree = refl
holds_agree f g table t (Int kind) made agree = refl
holds_agree f g table t ThreadId made agree = refl
holds_agree f g table t Mutex made agree = refl
holds_agree f g table t Cond made agree = refl
holds_agree f g table t (Pointer u) made agree = refl
holds_agree f g table t (Array u n) made agree = agree u made
holds_agree f g table t (Struct s) made agree = refl
holds_agree f g table t (Function result params dots) made agree = refl
holds_agree f g table t (Opaque n) made agree = refl

module _ (old new : Table) (good : IsTable old) (longer : IsLonger old new) where
  pub type_same : (t : ℕ) → IsKnown old t → type_at new t ≡ type_at old t
  type_same t known = ap (λ o. unwrap_or o Void) (ap (λ types. slice_get types t) longer.types.1 ∙ get_before old.types longer.types.0 t known)

  pub least_same : (t : ℕ) → IsKnown old t → least_of new t ≡ least_of old t
  least_same t known = ap (λ o. unwrap_or o t) (ap (λ least. slice_get least t) longer.least.1 ∙ get_before old.least longer.least.0 t (omega (arith, good.leasts, known)))

  pub known_same : (t : ℕ) → IsKnown old t → IsKnown new t
  known_same t known = omega (arith, known, ap length longer.types.1, length-append old.types longer.types.0)

  holds_same : (d t : ℕ) → IsKnown old t → holds_within d new t ≡ holds_within d old t
  unfolding holds_within
  holds_same zero t known = refl
  holds_same (suc d) t known =
      ap (holds (holds_within d new)) (type_same t known) ∙
      holds_agree (holds_within d new) (holds_within d old) old t (type_at old t) (good.types t known).made_of (λ u less. holds_same d u (omega arith))

  pub holds_struct_same : (t : ℕ) → IsKnown old t → holds_struct new t ≡ holds_struct old t
  holds_struct_same t known = holds_same (suc t) t known

  pub has_tag_same : (t : ℕ) → IsKnown old t → has_tag new t ≡ has_tag old t
  has_tag_same t known = ap (λ form. is_void form || holds_struct new t) (type_same t known) ∙ ap (λ b. is_void (type_at old t) || b) (holds_struct_same t known)

  pub target_same : (t : ℕ) → IsKnown old t → target new t ≡ target old t
  target_same t known = ap (λ tag. target_by tag (least_of new t) t) (has_tag_same t known) ∙ ap (λ least. target_by (has_tag old t) least t) (least_same t known)

  -- the members of the struct are the same, where the type is one
  abbrev pub IsOwn : CType → Type 0
  IsOwn form = (s : ℕ) → form ≡ Struct s → members_of new s ≡ members_of old s

  pub own_closed : (form : CType) → IsClosedForm old form → IsOwn form
  own_closed form closed s is = longer.members s (subst (IsClosedForm old) is closed)

  -- what a form is made of is known
  abbrev pub IsOfKnown : CType → Type 0
  IsOfKnown form = (u : ℕ) → form ≡ Pointer u → IsKnown old u

  pub branches_by : (form : CType) → IsOfKnown form → IsOwn form → branches new form ≡ branches old form
  branches_by Void known own = refl
  branches_by (Int kind) known own = refl
  branches_by ThreadId known own = refl
  branches_by Mutex known own = refl
  branches_by Cond known own = refl
  branches_by (Pointer u) known own = ap (λ b. b ∷ []) (target_same u (known u refl))
  branches_by (Array u n) known own = refl
  branches_by (Struct s) known own = ap (λ members. fields 0 (types_of members)) (own s refl)
  branches_by (Function result params dots) known own = refl
  branches_by (Opaque n) known own = refl

  pub of_known : (t : ℕ) → IsKnown old t → IsOfKnown (type_at old t)
  of_known t known u is = let made = subst (IsMadeOf old t) is (good.types t known).made_of in omega (arith, made, known)

  pub branches_same : (t : ℕ) → IsKnown old t → IsOwn (type_at old t) → branches new (type_at old t) ≡ branches old (type_at old t)
  branches_same t known own = branches_by (type_at old t) (of_known t known) own

  walk_same : (d t : ℕ) → IsKnown old t → IsOwn (type_at old t) → walk d new t ≡ walk d old t
  unfolding walk
  walk_same zero t known own = refl
  walk_same (suc d) t known own =
      let form = type_at old t in
      ap (λ es. start t ∷ es)
      (ap (below_start (walk d new) new) (type_same t known) ∙
      ap (flat_map (at_branch (walk d new))) (branches_same t known own) ∙
      same_below (walk d new) (walk d old) (branches old form)
      (λ k b within plain. let part = parts_of_table old good t known k b within plain in walk_same d _ part.0 (own_closed (type_at old _) part.1)))

  pub nodes_same : (t : ℕ) → IsKnown old t → IsOwn (type_at old t) → nodes new t ≡ nodes old t
  nodes_same t known own = walk_same most_steps t known own

  pub size_same : (t : ℕ) → IsKnown old t → IsOwn (type_at old t) → size_at new t ≡ size_at old t
  size_same t known own = ap size_of (nodes_same t known own)

  -- the size of parts that are known and closed
  pub parts_size_same : (bs : List Branch) → OfParts (λ u. IsKnown old u × IsClosed old u) bs → size_of_parts (size_at new) bs ≡ size_of_parts (size_at old) bs
  parts_size_same bs all = same_sizes (size_at new) (size_at old) bs (λ k b within plain. let part = all k b within plain in size_same _ part.0 (own_closed (type_at old _) part.1))

  pub form_size_by : (form : CType) → branches new form ≡ branches old form → OfParts (λ u. IsKnown old u × IsClosed old u) (branches old form) → form_size new form ≡ form_size old form
  form_size_by form same all = ap (size_of_parts (size_at new)) same ∙ parts_size_same (branches old form) all

  pub closed_grown : (form : CType) → IsClosedForm old form → IsClosedForm new form
  closed_grown Void closed = tt
  closed_grown (Int kind) closed = tt
  closed_grown ThreadId closed = tt
  closed_grown Mutex closed = tt
  closed_grown Cond closed = tt
  closed_grown (Pointer u) closed = tt
  closed_grown (Array u n) closed = tt
  closed_grown (Struct s) closed = ap is_empty (longer.members s closed) ∙ closed
  closed_grown (Function result params dots) closed = tt
  closed_grown (Opaque n) closed = tt

  pub closed_same : (t : ℕ) → IsKnown old t → IsClosed old t → IsClosed new t
  closed_same t known closed = subst (IsClosedForm new) (sym (type_same t known)) (closed_grown (type_at old t) closed)

  -- what is complete stays so
  complete_grown : (form : CType) → is_complete_form old form ≡ true → is_complete_form new form ≡ true
  complete_grown Void is = is
  complete_grown (Int kind) is = is
  complete_grown ThreadId is = is
  complete_grown Mutex is = is
  complete_grown Cond is = is
  complete_grown (Pointer u) is = is
  complete_grown (Array u n) is = is
  complete_grown (Struct s) is = ap (λ members. not (is_empty members)) (longer.members s (shut (is_empty (members_of old s)) is)) ∙ is
    where
      shut : (b : Bool) → not b ≡ true → b ≡ false
      shut true is = absurd (false≢true is)
      shut false is = refl
  complete_grown (Function result params dots) is = is
  complete_grown (Opaque n) is = is

  complete_same : (u : ℕ) → IsKnown old u → is_complete_form old (type_at old u) ≡ true → is_complete_form new (type_at new u) ≡ true
  complete_same u known is = ap (is_complete_form new) (type_same u known) ∙ complete_grown (type_at old u) is

  pub part_same : (u : ℕ) → IsPartOfObjects old u → IsPartOfObjects new u
  part_same u part = record { known = known_same u part.known; complete = complete_same u part.known part.complete }

  pub parts_same : (us : List ℕ) → All (IsPartOfObjects old) us → All (IsPartOfObjects new) us
  parts_same us parts = All-weaker (IsPartOfObjects old) (IsPartOfObjects new) part_same us parts

  -- a form that could be put still could
  pub form_grown : (form : CType) → IsForm old form → IsForm new form
  form_grown Void ok = tt
  form_grown (Int kind) ok = tt
  form_grown ThreadId ok = tt
  form_grown Mutex ok = tt
  form_grown Cond ok = tt
  form_grown (Pointer u) ok = known_same u ok
  form_grown (Array u n) ok = part_same u ok
  form_grown (Struct s) ok = omega (arith, ok, longer.structs)
  form_grown (Function result params dots) ok =
      All-weaker (IsPassed old) (IsPassed new) (λ u p. record { known = known_same u p.known; no_struct = holds_struct_same u p.known ∙ p.no_struct }) (result ∷ params) ok
  form_grown (Opaque n) ok = tt

  -- what was made of known types is so in the later table
  pub made_grown : (t : ℕ) (form : CType) → IsOwn form → IsMadeOf old t form → IsMadeOf new t form
  made_grown t Void own made = tt
  made_grown t (Int kind) own made = tt
  made_grown t ThreadId own made = tt
  made_grown t Mutex own made = tt
  made_grown t Cond own made = tt
  made_grown t (Pointer u) own made = made
  made_grown t (Array u n) own made = made
  made_grown t (Struct s) own made = (
    omega (arith, made.0, longer.structs),
    subst (λ members. All (IsKnown new) (types_of members)) (sym (own s refl)) (All-weaker (IsKnown old) (IsKnown new) (λ u known. known_same u known) (types_of (members_of old s)) made.1),
  )
  made_grown t (Function result params dots) own made = made
  made_grown t (Opaque n) own made = tt

  -- the parts of a form that are closed stay so
  pub closed_parts : (form : CType) → branches new form ≡ branches old form → OfParts (λ u. IsKnown old u × IsClosed old u) (branches old form) → OfParts (IsClosed new) (branches new form)
  closed_parts form same all = subst (OfParts (IsClosed new)) (sym same) (λ k b within plain. let part = all k b within plain in closed_same _ part.0 part.1)

  -- a form whose parts are known and closed makes a type of the later table
  pub type_from : (t : ℕ) (form : CType) → type_at new t ≡ form → IsMadeOf new t form → IsForm old form → branches new form ≡ branches old form → OfParts (λ u. IsKnown old u × IsClosed old u) (branches old form) →
      is_over (form_size old form) ≡ false → IsType new t
  type_from t form is made ok same all small =
      subst (λ f. IsMadeOf new t f → IsForm new f → OfParts (IsClosed new) (branches new f) → is_over (form_size new f) ≡ false → IsType new t) is
      (λ made ok closed small. record { made_of = made; form = ok; closed = closed; small = small })
      made (form_grown form ok) (closed_parts form same all) (ap is_over (form_size_by form same all) ∙ small)

  pub type_grown : (t : ℕ) → IsKnown old t → IsOwn (type_at old t) → IsType new t
  type_grown t known own =
      let type = good.types t known in
      type_from t (type_at old t) (type_same t known) (made_grown t (type_at old t) own type.made_of) type.form (branches_same t known own) (parts_of_table old good t known) type.small

pub older_walks_stay : OlderWalksStay
older_walks_stay old new good longer t known closed = nodes_same old new good longer t known (own_closed old new good longer (type_at old t) closed)
