-- Points give void its Parts.
use Rattle.std.proofs.Common.{arith, ap, sym, subst, ◌∙◌, ◌≡◌, ◌<◌, ◌≤◌, ◌+◌, ◌++◌, ◌⊎◌, inl, inr, ⊎_elim, ℕ, List, [], ◌∷◌, length, get_or, Bool, true, false, Option, None, Some, refl, option_map}
use Rattle.std.specs.Prelude.{Contains, slice_get, unwrap_or}
use Rattle.std.specs.Option.{option_and_then, option_map_or}
use Rattle.std.proofs.lemmas.Bool.{cases_lt, false≢true}
use Rattle.std.proofs.lemmas.List.Elements.{Contains-append_left, Contains-get_or, Contains-push, Contains-push_cases}
use Rattle.std.proofs.lemmas.List.Quantifiers.{all_pairs_push}
use Rattle.std.proofs.lemmas.Option.{none-some, same_Some, slice_get-get_or, slice_get_within}
use Rattle.lk_facts.specs.LabelRules.{AreVoidParts, GivesPart, IsFirstOf}
use Rattle.lk_facts.specs.Program.{action_at}
use Rattle.lk_facts.specs.Typed.{GivesForm, IsForm}
use Rattle.lk_facts.specs.declared.action.Action.{Action}
use Rattle.lk_facts.specs.declared.action.Action.TheVariants as action
use Rattle.lk_facts.specs.declared.point.Point.{Point}
use Rattle.lk_facts.specs.declared.program.Program.{Program}
use Rattle.lk_lower_parts.specs.Parts.{AreGivenBefore, AreVoidPartsOf, IsFirstAt, IsWith, by_conversion, converted, converted_by, given_by, given_of, is_void_type, part_at, pointed, pointee, target_of}
use Rattle.lk_types.specs.Building.{IsMadeOf, IsTable}
use Rattle.lk_types.specs.Table.{Table, least_of, type_at}
use Rattle.lk_types.specs.Walks.{is_void}
use Rattle.lk_types.specs.declared.c_type.CType.{CType}
use Rattle.lk_types.specs.declared.c_type.CType.TheVariants.{Void, Int, ThreadId, Mutex, Cond, Pointer, Array, Struct, Function, Opaque}

-- ---- what is in options

mapped : {A B : Type 0} (f : A → B) (o : Option A) (y : B) → option_map f o ≡ Some y → (x : A) × (o ≡ Some x) × (f x ≡ y)
mapped f None y is = absurd (none-some y is)
mapped f (Some x) y is = (x, refl, same_Some (f x) y is)

chained : {A B : Type 0} (f : A → Option B) (o : Option A) (y : B) → option_and_then f o ≡ Some y → (x : A) × (o ≡ Some x) × (f x ≡ Some y)
chained f None y is = absurd (none-some y is)
chained f (Some x) y is = (x, refl, is)

-- ---- void and pointers

pointer_is : (form : CType) (u : ℕ) → pointee form ≡ Some u → form ≡ Pointer u
pointer_is (Pointer t) u is = ap Pointer (same_Some t u is)
pointer_is Void u is = absurd (none-some u is)
pointer_is (Int k) u is = absurd (none-some u is)
pointer_is ThreadId u is = absurd (none-some u is)
pointer_is Mutex u is = absurd (none-some u is)
pointer_is Cond u is = absurd (none-some u is)
pointer_is (Array t n) u is = absurd (none-some u is)
pointer_is (Struct s) u is = absurd (none-some u is)
pointer_is (Function result params dots) u is = absurd (none-some u is)
pointer_is (Opaque n) u is = absurd (none-some u is)

void_is : (form : CType) → is_void form ≡ true → form ≡ Void
void_is Void is = refl
void_is (Pointer t) is = absurd (false≢true is)
void_is (Int k) is = absurd (false≢true is)
void_is ThreadId is = absurd (false≢true is)
void_is Mutex is = absurd (false≢true is)
void_is Cond is = absurd (false≢true is)
void_is (Array t n) is = absurd (false≢true is)
void_is (Struct s) is = absurd (false≢true is)
void_is (Function result params dots) is = absurd (false≢true is)
void_is (Opaque n) is = absurd (false≢true is)

void_there : (o : Option CType) → option_map_or is_void o false ≡ true → o ≡ Some Void
void_there None is = absurd (false≢true is)
void_there (Some form) is = ap Some (void_is form is)

-- what isn't there counts as void in one way, and not in the other
no_void_there : (o : Option CType) → is_void (unwrap_or o Void) ≡ false → option_map_or is_void o false ≡ false
no_void_there None is = refl
no_void_there (Some form) is = is

no_void_at : (o : Option CType) (form : CType) → o ≡ Some form → option_map_or is_void o false ≡ false → is_void (unwrap_or o Void) ≡ false
no_void_at None form at is = absurd (none-some form at)
no_void_at (Some other) form at is = is

slice_there : (forms : List CType) (t : ℕ) → t < length forms → (form : CType) × (slice_get forms t ≡ Some form)
slice_there forms t within = by_get (slice_get forms t) refl
  where
    by_get : (o : Option CType) → slice_get forms t ≡ o → (form : CType) × (slice_get forms t ≡ Some form)
    by_get (Some form) is = (form, is)
    by_get None is = absurd (none-some (get_or forms t Void) (sym is ∙ slice_get-get_or forms t Void within))

-- one of two points to void
data ToOrFrom (from_void to_void : Bool) (from to t : ℕ) : Type 0 where
  from_it : from_void ≡ true → to_void ≡ false → to ≡ t → ToOrFrom from_void to_void from to t
  to_it : from_void ≡ false → to_void ≡ true → from ≡ t → ToOrFrom from_void to_void from to t

one_of : (from_void to_void : Bool) (from to t : ℕ) → converted_by from_void to_void from to ≡ Some t → ToOrFrom from_void to_void from to t
one_of true true from to t is = absurd (none-some t is)
one_of true false from to t is = from_it refl refl (same_Some to t is)
one_of false true from to t is = to_it refl refl (same_Some from t is)
one_of false false from to t is = absurd (none-some t is)

module _ (program : Program) (known : (t u : ℕ) → slice_get program.types.types t ≡ Some (Pointer u) → u < length program.types.types) where
  abbrev table : Table
  table = program.types

  -- ---- from the numbers to the rules

  pointer_there : (t u : ℕ) → target_of table t ≡ Some u → IsForm table t (Pointer u)
  pointer_there t u is =
      let found = chained pointee (slice_get table.types t) u is in found.1 ∙ ap Some (pointer_is found.0 u found.2)

  gives_pointer : (p u : ℕ) (point : Point) → slice_get program.points p ≡ Some point → pointed table point ≡ Some u → GivesForm program p (Pointer u)
  gives_pointer p u point at is =
      let found = chained (target_of table) point.value u is in
      (found.0, ap (option_and_then (λ (one : Point). one.value)) at ∙ found.1, pointer_there found.0 u found.2)

  no_void : (p t : ℕ) → GivesForm program p (Pointer t) → is_void_type table t ≡ false → is_void (type_at table t) ≡ false
  no_void p t gives is =
      let there = slice_there table.types t (known gives.0 t gives.2) in no_void_at (slice_get table.types t) there.0 there.1 is

  by_both : (p a ty from to t : ℕ) → action_at program p ≡ Some (action.Convert a ty) → GivesForm program a (Pointer from) → GivesForm program p (Pointer to) → ToOrFrom (is_void_type table from) (is_void_type table to) from to t →
      GivesPart program p (least_of table t)
  by_both p a ty from to t is of_a of_p (from_it from_void to_void same) =
      subst (λ x. GivesPart program p (least_of table x)) same (GivesPart.from_void a ty to is (from, of_a, void_there (slice_get table.types from) from_void) of_p (no_void p to of_p to_void))
  by_both p a ty from to t is of_a of_p (to_it from_void to_void same) =
      subst (λ x. GivesPart program p (least_of table x)) same (GivesPart.to_void a ty from is of_a (to, of_p, void_there (slice_get table.types to) to_void) (no_void a from of_a from_void))

  converts : (p a ty t : ℕ) (point : Point) → slice_get program.points p ≡ Some point → action_at program p ≡ Some (action.Convert a ty) → by_conversion table program.points point a ≡ Some t → GivesPart program p (least_of table t)
  converts p a ty t point at is given =
      let from = chained (λ from. option_and_then (converted table from) (pointed table point)) (option_and_then (pointed table) (slice_get program.points a)) t given in
      let of_a = chained (pointed table) (slice_get program.points a) from.0 from.1 in
      let to = chained (converted table from.0) (pointed table point) t from.2 in
      by_both p a ty from.0 to.0 t is (gives_pointer a from.0 of_a.0 of_a.1 of_a.2) (gives_pointer p to.0 point at to.1) (one_of (is_void_type table from.0) (is_void_type table to.0) from.0 to.0 t to.2)

  by_action : (p t : ℕ) (point : Point) (does : Action) → slice_get program.points p ≡ Some point → action_at program p ≡ Some does → given_by table program.points point does ≡ Some t → GivesPart program p (least_of table t)
  by_action p t point (action.Allocate ty count zero root) at is given = subst (λ x. GivesPart program p (least_of table x)) (same_Some ty t given) (GivesPart.allocates ty count zero root is)
  by_action p t point (action.Convert a ty) at is given = converts p a ty t point at is given
  by_action p t point other at is given = absurd (none-some t given)

  by_rules : (p u : ℕ) → part_at table program.points p ≡ Some u → GivesPart program p u
  by_rules p u is =
      let least = mapped (least_of table) (option_and_then (given_of table program.points) (slice_get program.points p)) u is in
      let found = chained (given_of table program.points) (slice_get program.points p) least.0 least.1 in
      subst (GivesPart program p) least.2 (by_action p least.0 found.0 found.0.action found.1 (ap (option_map (λ (one : Point). one.action)) found.1) found.2)

  -- ---- from the rules to the numbers

  points_to : (p u : ℕ) → GivesForm program p (Pointer u) → (point : Point) × (slice_get program.points p ≡ Some point) × (pointed table point ≡ Some u)
  points_to p u gives =
      let found = chained (λ (one : Point). one.value) (slice_get program.points p) gives.0 gives.1 in
      (found.0, found.1, ap (option_and_then (target_of table)) found.2 ∙ ap (option_and_then pointee) gives.2)

  same_point : (p : ℕ) (point other : Point) → slice_get program.points p ≡ Some point → slice_get program.points p ≡ Some other → point ≡ other
  same_point p point other at too = same_Some point other (sym at ∙ too)

  part_there : (p t : ℕ) (point : Point) (does : Action) → slice_get program.points p ≡ Some point → action_at program p ≡ Some does → given_by table program.points point does ≡ Some t → part_at table program.points p ≡ Some (least_of table t)
  part_there p t point does at is given =
      let found = mapped (λ (one : Point). one.action) (slice_get program.points p) does is in
      let does_it : point.action ≡ does = ap (λ (one : Point). one.action) (same_point p point found.0 at found.1) ∙ found.2 in
      ap (λ o. option_map (least_of table) (option_and_then (given_of table program.points) o)) at ∙ ap (option_map (least_of table)) (ap (given_by table program.points point) does_it ∙ given)

  is_converted : (a from to t : ℕ) (point : Point) → GivesForm program a (Pointer from) → pointed table point ≡ Some to → converted table from to ≡ Some t → by_conversion table program.points point a ≡ Some t
  is_converted a from to t point of_a of_p is =
      let found = points_to a from of_a in
      ap (λ o. option_and_then (λ f. option_and_then (converted table f) (pointed table point)) (option_and_then (pointed table) o)) found.1 ∙
      ap (option_and_then (λ f. option_and_then (converted table f) (pointed table point))) found.2 ∙ ap (option_and_then (converted table from)) of_p ∙ is

  void_here : (t : ℕ) → IsForm table t Void → is_void_type table t ≡ true
  void_here t is = ap (λ o. option_map_or is_void o false) is

  by_numbers : (p u : ℕ) → GivesPart program p u → part_at table program.points p ≡ Some u
  by_numbers p u (GivesPart.allocates t count clear r is) =
      let found = mapped (λ (one : Point). one.action) (slice_get program.points p) (action.Allocate t count clear r) is in part_there p t found.0 (action.Allocate t count clear r) found.1 is refl
  by_numbers p u (GivesPart.to_void a ty t is of_a of_p is_no_void) =
      let found = points_to p of_p.0 of_p.1 in
      part_there p t found.0 (action.Convert a ty) found.1 is
      (is_converted a t of_p.0 t found.0 of_a found.2
      (ap (λ b. converted_by b (is_void_type table of_p.0) t of_p.0) (no_void_there (slice_get table.types t) is_no_void) ∙ ap (λ b. converted_by false b t of_p.0) (void_here of_p.0 of_p.2)))
  by_numbers p u (GivesPart.from_void a ty t is of_a of_p is_no_void) =
      let found = points_to p t of_p in
      part_there p t found.0 (action.Convert a ty) found.1 is
      (is_converted a of_a.0 t t found.0 of_a.1 found.2
      (ap (λ b. converted_by b (is_void_type table t) of_a.0 t) (void_here of_a.0 of_a.2) ∙ ap (λ b. converted_by true b of_a.0 t) (no_void_there (slice_get table.types t) is_no_void)))

  -- ---- all of them

  point_before : (k p u : ℕ) → length program.points ≤ k → part_at table program.points p ≡ Some u → p < k
  point_before k p u all is =
      let least = mapped (least_of table) (option_and_then (given_of table program.points) (slice_get program.points p)) u is in
      let found = chained (given_of table program.points) (slice_get program.points p) least.0 least.1 in
      let within = slice_get_within program.points p found.0 found.1 in omega arith

  first_at : (t p : ℕ) → IsFirstOf program t p → IsFirstAt (part_at table program.points) t p
  first_at t p first = record { gives = by_numbers p t first.gives; first = λ q gives. first.first q (by_rules q t gives) }

  are_parts : (k : ℕ) → length program.points ≤ k → AreGivenBefore (part_at table program.points) k table.parts → AreVoidParts program
  are_parts k all given = record {
    each = λ t. (
      (λ there. let found = (given.each t).0 there in (found.0, by_rules found.0 t found.2)),
      (λ gives. (given.each t).1 (gives.0, point_before k gives.0 t all (by_numbers gives.0 t gives.1), by_numbers gives.0 t gives.1)),
    );
    ordered = λ i j d less within p q first_t first_u. given.ordered i j d less within p q (first_at _ p first_t) (first_at _ q first_u);
  }

-- types that are made of others are made of those that are there
pointers_known : (table : Table) → IsTable table → (t u : ℕ) → slice_get table.types t ≡ Some (Pointer u) → u < length table.types
pointers_known table is t u at =
    let within = slice_get_within table.types t (Pointer u) at in
    let less : u < t = subst (IsMadeOf table t) (ap (λ o. unwrap_or o Void) at) (is.types t within).made_of in omega arith

pub void_parts_of : (table : Table) (points : List Point) (parts : List ℕ) (k : ℕ) → IsTable table → length points ≤ k → AreGivenBefore (part_at table points) k parts → AreVoidPartsOf table points parts
void_parts_of table points parts k is all given program points_are types_are =
    are_parts program
    (subst (λ (types : Table). (t u : ℕ) → slice_get types.types t ≡ Some (Pointer u) → u < length types.types) (sym types_are) (pointers_known table is)) k
    (subst (λ (ps : List Point). length ps ≤ k) (sym points_are) all)
    (subst (λ (types : Table). AreGivenBefore (part_at types program.points) k types.parts) (sym types_are)
    (subst (λ (ps : List Point). AreGivenBefore (part_at table ps) k parts) (sym points_are) given))

-- ---- one point more

module _ (at : ℕ → Option ℕ) where
  below_or : (p k : ℕ) → p < k + 1 → (p < k) ⊎ (p ≡ k)
  below_or p k less = ⊎_elim (λ h. inl h) (λ h. inr (omega arith)) (cases_lt p k)

  pub given_nothing : (k : ℕ) (parts : List ℕ) → at k ≡ None → AreGivenBefore at k parts → AreGivenBefore at (k + 1) parts
  given_nothing k parts none given = record {
    each = λ t. ((λ there. let found = (given.each t).0 there in (found.0, omega (arith, found.1), found.2)), (λ found. (given.each t).1 (found.0, before t found.0 found.1 found.2, found.2)));
    ordered = given.ordered;
  }
    where
      before : (t p : ℕ) → p < k + 1 → at p ≡ Some t → p < k
      before t p less is = ⊎_elim (λ h. h) (λ same. absurd (none-some t (sym none ∙ ap at (sym same) ∙ is))) (below_or p k less)

  pub given_more : (k u : ℕ) (old new : List ℕ) → at k ≡ Some u → IsWith u old new → AreGivenBefore at k old → AreGivenBefore at (k + 1) new
  given_more k u old new is (IsWith.there has same) given = subst (AreGivenBefore at (k + 1)) (sym same) (record {
    each = λ t. (
      (λ there. let found = (given.each t).0 there in (found.0, omega (arith, found.1), found.2)),
      (λ found. ⊎_elim (λ less. (given.each t).1 (found.0, less, found.2)) (λ same. subst (Contains old) (same_Some u t (sym is ∙ ap at (sym same) ∙ found.2)) has) (below_or found.0 k found.1)),
    );
    ordered = given.ordered;
  })
  given_more k u old new is (IsWith.added fresh put) given = subst (AreGivenBefore at (k + 1)) (sym put) (record {
    each = λ t. (
      (λ there. ⊎_elim (λ before. let found = (given.each t).0 before in (found.0, omega (arith, found.1), found.2)) (λ same. (k, omega arith, is ∙ ap Some same)) (Contains-push_cases old u t there)),
      (λ found. ⊎_elim (λ less. Contains-append_left old (u ∷ []) t ((given.each t).1 (found.0, less, found.2)))
          (λ same. subst (Contains (old ++ u ∷ [])) (same_Some u t (sym is ∙ ap at (sym same) ∙ found.2)) (Contains-push old u)) (below_or found.0 k found.1)),
    );
    ordered = all_pairs_push (λ t u. (p q : ℕ) → IsFirstAt at t p → IsFirstAt at u q → p < q) old u given.ordered (λ i d within p q first_t first_u. last (get_or old i d) (Contains-get_or old i d within) p q first_t first_u);
  })
    where
      last : (t : ℕ) → Contains old t → (p q : ℕ) → IsFirstAt at t p → IsFirstAt at u q → p < q
      last t has p q first_t first_u =
          let found = (given.each t).0 has in
          let low = first_t.first found.0 found.2 in
          ⊎_elim (λ less. absurd (fresh ((given.each u).1 (q, less, first_u.gives)))) (λ high. omega (arith, low, found.1, high)) (cases_lt q k)

pub part_is : (table : Table) (points : List Point) (i : ℕ) (point : Point) (given : Option ℕ) → slice_get points i ≡ Some point → given ≡ given_of table points point → part_at table points i ≡ option_map (least_of table) given
part_is table points i point given at is = ap (λ o. option_map (least_of table) (option_and_then (given_of table points) o)) at ∙ ap (option_map (least_of table)) (sym is)
