-- What cells hold after something was put into one of them.
use Rattle.std.proofs.Common.{◌≡◌, ℕ, Bool, true, false, ◌&&◌, List, [], ◌∷◌, Option, None, Some, refl, sym, ap, ◌∙◌, subst, inl, inr, ◌⊎◌, arith}
use Rattle.std.proofs.lemmas.Bool.{true≢false}
use Rattle.std.proofs.lemmas.Option.{none-some, same_Some}
use Rattle.std.proofs.lemmas.Grind.{common_steps}
use Rattle.std.specs.Map.{lookup}
use Rattle.std.specs.Option.{option_and_then}
use Rattle.std.specs.Prelude.{unwrap_or, if◌then◌else◌}
use Rattle.lk_base.specs.Steps.{is_step, number_of}
use Rattle.lk_base.specs.declared.cell.CellStep.{CellStep}
use Rattle.lk_base.specs.declared.cell.CellStep.TheVariants.{Field, Index}
use Rattle.lk_types.specs.Table.{Table}
use Rattle.lk_values.specs.Paths.{is_path}
use Rattle.lk_values.specs.Values.{is_owned}
use Rattle.lk_values.specs.declared.value.Condition.{Condition}
use Rattle.lk_values.specs.declared.value.Mutex.{Mutex}
use Rattle.lk_values.specs.declared.value.Mutex.TheVariants as mutex
use Rattle.lk_values.specs.declared.value.Value.{Value}
use Rattle.lk_cells.specs.Cells.{found_at, put_at, with_value, with_mutex, with_condition, after_life, first_mutex, first_condition, kind_at, value_at, mutex_at, condition_at}
use Rattle.lk_cells.specs.declared.kind.CellKind.{CellKind}
use Rattle.lk_cells.specs.declared.kind.CellKind.TheVariants as cell
use Rattle.lk_cells.specs.declared.object.Initial.{Initial}
use Rattle.lk_cells.specs.declared.object.Initial.TheVariants as initial
use Rattle.lk_cells.specs.declared.object.Object.{Object}
use Rattle.lk_meaning.specs.After.{with_put}
use Rattle.lk_meaning.specs.declared.applying.Put.{Put}
use Rattle.lk_meaning.specs.declared.applying.Put.TheVariants as put

-- ---- paths

pub both : (a b : Bool) → (a && b) ≡ true → (a ≡ true) × (b ≡ true)
both true b e = (refl, e)
both false b e = absurd (true≢false (sym e))

one_number : (a b : CellStep) → is_step a b ≡ true → number_of a ≡ number_of b
one_number (Field a) (Field b) h = grind (arith, common_steps)
one_number (Field a) (Index b) h = grind (arith, common_steps)
one_number (Index a) (Field b) h = grind (arith, common_steps)
one_number (Index a) (Index b) h = grind (arith, common_steps)

one_step : (a b : CellStep) → is_step a b ≡ true → a ≡ b
one_step (Field a) (Field b) h = ap (λ k. Field k) (one_number (Field a) (Field b) h)
one_step (Field a) (Index b) h = absurd (true≢false (sym h))
one_step (Index a) (Field b) h = absurd (true≢false (sym h))
one_step (Index a) (Index b) h = ap (λ i. Index i) (one_number (Index a) (Index b) h)

pub one_path : (p q : List CellStep) → is_path p q ≡ true → p ≡ q
one_path [] [] h = refl
one_path [] (b ∷ q) h = absurd (true≢false (sym h))
one_path (a ∷ p) [] h = absurd (true≢false (sym h))
one_path (a ∷ p) (b ∷ q) h =
    let now = both (is_step a b) (is_path p q) h in
    ap (λ c. c ∷ p) (one_step a b now.0) ∙ ap (λ r. b ∷ r) (one_path p q now.1)

step_itself : (a : CellStep) → is_step a a ≡ true
step_itself (Field a) = grind (arith, common_steps)
step_itself (Index a) = grind (arith, common_steps)

path_itself : (p : List CellStep) → is_path p p ≡ true
path_itself [] = refl
path_itself (a ∷ p) = rw (step_itself a) (path_itself p)

-- ---- tables

module _ {V : Type 0} where
  same_in : (es : List (List CellStep × V)) (e : List CellStep × V) (k : List CellStep) (v : V) → found_at (put_at es k v) k ≡ Some v → (b : Bool) → is_path k e.0 ≡ b →
      lookup (is_path k) (if b then (e.0, v) ∷ es else e ∷ put_at es k v) ≡ Some v
  same_in es e k v after true h = rw h refl
  same_in es e k v after false h = rw h after

  found_same : (es : List (List CellStep × V)) (k : List CellStep) (v : V) → found_at (put_at es k v) k ≡ Some v
  found_same [] k v = rw (path_itself k) refl
  found_same (e ∷ es) k v = same_in es e k v (found_same es k v) (is_path k e.0) refl

  other_in : (es : List (List CellStep × V)) (e : List CellStep × V) (k q : List CellStep) (v : V) → is_path q k ≡ false → found_at (put_at es k v) q ≡ found_at es q →
      (b : Bool) → is_path k e.0 ≡ b → lookup (is_path q) (if b then (e.0, v) ∷ es else e ∷ put_at es k v) ≡ lookup (is_path q) (e ∷ es)
  other_in es e k q v other after true h =
      let not_here : is_path q e.0 ≡ false = subst (λ p. is_path q p ≡ false) (one_path k e.0 h) other in
      rw not_here refl
  other_in es e k q v other after false h = rw after refl

  found_other : (es : List (List CellStep × V)) (k q : List CellStep) (v : V) → is_path q k ≡ false → found_at (put_at es k v) q ≡ found_at es q
  found_other [] k q v other = rw other refl
  found_other (e ∷ es) k q v other = other_in es e k q v other (found_other es k q v other) (is_path k e.0) refl

-- ---- mutexes

pub free_or_owned : (t : ℕ) → mutex.Free ≡ mutex.Owned t → ⊥
free_or_owned t h = true≢false (sym (ap (λ m. is_owned m) h))

pub unready_or_owned : (t : ℕ) → mutex.NotReady ≡ mutex.Owned t → ⊥
unready_or_owned t h = true≢false (sym (ap (λ m. is_owned m) h))

-- ---- objects

-- What reads an object at a path, where it is told which things that are put at the path change it: it depends on nothing else.
pub record IsReader {X : Type 0} (read : Object → List CellStep → Option X) (Kind : Put → Type 0) : Type 0 where
  pub life : (object : Object) (q : List CellStep) → read (after_life object) q ≡ read object q
  pub puts : (object : Object) (path q : List CellStep) (item : Put) → (read (with_put path item object) q ≡ read object q) ⊎ ((path ≡ q) × Kind item)

-- what of the things is a value, a mutex, a condition variable
abbrev pub IsValue : Put → Type 0
IsValue item = (v : Value) × (item ≡ put.Value v)

abbrev pub IsMutex : Put → Type 0
IsMutex item = (m : Mutex) × (item ≡ put.Mutex m)

abbrev pub IsCondition : Put → Type 0
IsCondition item = (c : Condition) × (item ≡ put.Condition c)

module _ (table : Table) where
  abbrev mutex_of : Option Mutex → Initial → CellKind → Option Mutex
  mutex_of found first cell.Value = None
  mutex_of found first cell.Mutex = Some (unwrap_or found (first_mutex first))
  mutex_of found first cell.Condition = None

  abbrev mutex_from : Option Mutex → Initial → Option CellKind → Option Mutex
  mutex_from found first kind = option_and_then (mutex_of found first) kind

  mutex_is : (object : Object) (q : List CellStep) → mutex_at table object q ≡ mutex_from (found_at object.mutexes q) object.initial (kind_at table object q)
  mutex_is object q = refl

  abbrev condition_of : Option Condition → Initial → CellKind → Option Condition
  condition_of found first cell.Value = None
  condition_of found first cell.Mutex = None
  condition_of found first cell.Condition = Some (unwrap_or found (first_condition first))

  abbrev condition_from : Option Condition → Initial → Option CellKind → Option Condition
  condition_from found first kind = option_and_then (condition_of found first) kind

  condition_is : (object : Object) (q : List CellStep) → condition_at table object q ≡ condition_from (found_at object.conditions q) object.initial (kind_at table object q)
  condition_is object q = refl

  -- where there is a mutex after one was put there, it is that one
  pub mutex_same : (object : Object) (path : List CellStep) (m x : Mutex) → mutex_at table (with_mutex object path m) path ≡ Some x → x ≡ m
  mutex_same object path m x is = by (kind_at table object path) (sym (mutex_is (with_mutex object path m) path) ∙ is)
    where
      by : (k : Option CellKind) → mutex_from (found_at (put_at object.mutexes path m) path) object.initial k ≡ Some x → x ≡ m
      by None h = absurd (none-some x h)
      by (Some cell.Value) h = absurd (none-some x h)
      by (Some cell.Mutex) h = same_Some x m (sym h ∙ ap (λ f. Some (unwrap_or f (first_mutex object.initial))) (found_same object.mutexes path m))
      by (Some cell.Condition) h = absurd (none-some x h)

  mutex_other : (object : Object) (path q : List CellStep) (m : Mutex) → is_path q path ≡ false → mutex_at table (with_mutex object path m) q ≡ mutex_at table object q
  mutex_other object path q m other =
      mutex_is (with_mutex object path m) q ∙ ap (λ f. mutex_from f object.initial (kind_at table object q)) (found_other object.mutexes path q m other) ∙ sym (mutex_is object q)

  condition_other : (object : Object) (path q : List CellStep) (c : Condition) → is_path q path ≡ false → condition_at table (with_condition object path c) q ≡ condition_at table object q
  condition_other object path q c other =
      condition_is (with_condition object path c) q ∙ ap (λ f. condition_from f object.initial (kind_at table object q)) (found_other object.conditions path q c other) ∙ sym (condition_is object q)

  value_other : (object : Object) (path q : List CellStep) (v : Value) → is_path q path ≡ false → value_at table (with_value object path v) q ≡ value_at table object q
  value_other object path q v other = rw (found_other object.values path q v other) refl

  -- an object without mutexes that were changed has none that is owned
  pub not_owned : (object : Object) (q : List CellStep) (t : ℕ) → object.mutexes ≡ [] → mutex_at table object q ≡ Some (mutex.Owned t) → ⊥
  not_owned object q t none owned = by (kind_at table object q) object.initial (subst (λ es. mutex_from (found_at es q) object.initial (kind_at table object q) ≡ Some (mutex.Owned t)) none (sym (mutex_is object q) ∙ owned))
    where
      by : (k : Option CellKind) (first : Initial) → mutex_from None first k ≡ Some (mutex.Owned t) → ⊥
      by None first h = none-some (mutex.Owned t) h
      by (Some cell.Value) first h = none-some (mutex.Owned t) h
      by (Some cell.Mutex) initial.Zero h = free_or_owned t (same_Some mutex.Free (mutex.Owned t) h)
      by (Some cell.Mutex) initial.Indeterminate h = unready_or_owned t (same_Some mutex.NotReady (mutex.Owned t) h)
      by (Some cell.Condition) first h = none-some (mutex.Owned t) h

  pub mutex_reader : IsReader (mutex_at table) IsMutex
  mutex_reader = record { life = λ object q. refl; puts = λ object path q item. by object path q item }
    where
      mutex_put : (object : Object) (path q : List CellStep) (m : Mutex) (b : Bool) → is_path q path ≡ b →
          (mutex_at table (with_mutex object path m) q ≡ mutex_at table object q) ⊎ ((path ≡ q) × IsMutex (put.Mutex m))
      mutex_put object path q m true h = inr (sym (one_path q path h), (m, refl))
      mutex_put object path q m false h = inl (mutex_other object path q m h)

      by : (object : Object) (path q : List CellStep) (item : Put) → (mutex_at table (with_put path item object) q ≡ mutex_at table object q) ⊎ ((path ≡ q) × IsMutex item)
      by object path q (put.Value v) = inl refl
      by object path q (put.Mutex m) = mutex_put object path q m (is_path q path) refl
      by object path q (put.Condition c) = inl refl

  pub condition_reader : IsReader (condition_at table) IsCondition
  condition_reader = record { life = λ object q. refl; puts = λ object path q item. by object path q item }
    where
      condition_put : (object : Object) (path q : List CellStep) (c : Condition) (b : Bool) → is_path q path ≡ b →
          (condition_at table (with_condition object path c) q ≡ condition_at table object q) ⊎ ((path ≡ q) × IsCondition (put.Condition c))
      condition_put object path q c true h = inr (sym (one_path q path h), (c, refl))
      condition_put object path q c false h = inl (condition_other object path q c h)

      by : (object : Object) (path q : List CellStep) (item : Put) → (condition_at table (with_put path item object) q ≡ condition_at table object q) ⊎ ((path ≡ q) × IsCondition item)
      by object path q (put.Value v) = inl refl
      by object path q (put.Mutex m) = inl refl
      by object path q (put.Condition c) = condition_put object path q c (is_path q path) refl

  pub value_reader : IsReader (value_at table) IsValue
  value_reader = record { life = λ object q. refl; puts = λ object path q item. by object path q item }
    where
      value_put : (object : Object) (path q : List CellStep) (v : Value) (b : Bool) → is_path q path ≡ b →
          (value_at table (with_value object path v) q ≡ value_at table object q) ⊎ ((path ≡ q) × IsValue (put.Value v))
      value_put object path q v true h = inr (sym (one_path q path h), (v, refl))
      value_put object path q v false h = inl (value_other object path q v h)

      by : (object : Object) (path q : List CellStep) (item : Put) → (value_at table (with_put path item object) q ≡ value_at table object q) ⊎ ((path ≡ q) × IsValue item)
      by object path q (put.Value v) = value_put object path q v (is_path q path) refl
      by object path q (put.Mutex m) = inl refl
      by object path q (put.Condition c) = inl refl
