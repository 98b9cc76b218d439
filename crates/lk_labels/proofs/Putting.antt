-- What labels that are put leave at each name.
use Rattle.std.proofs.Common.{◌≡◌, ◌∙◌, ℕ, suc, Bool, true, false, ◌||◌, ◌&&◌, ◌++◌, List, [], ◌∷◌, Option, Some, None, cond, if◌then◌else◌, min, nat_lt, refl, sym, ap, arith}
use Rattle.std.specs.Prelude.{IfSome, is_some}
use Rattle.std.proofs.lemmas.Bool.{false≢true, le-ltb, lt-ltb, ltb-false, ltb-true}
use Rattle.std.proofs.lemmas.Option.{none-some, same_Some}
use Rattle.std.proofs.lemmas.Slice.Eq.{bytes_eq-Decides}
use Rattle.indexmap.specs.IndexMap.{insert_entry}
use Rattle.lk_typed.specs.Labels.{Label, has_label, has_label_before, is_name}
use Rattle.lk_labels.specs.Leasts.{AreLabels, LabelNamed, Leasts, is_before, least_of, lesser_of, number_of, put_label, put_labels}

same_name : (a b : List ℕ) → is_name a b ≡ true → a ≡ b
same_name a b is = (bytes_eq-Decides a b).0 is

name_itself : (a b : List ℕ) → a ≡ b → is_name a b ≡ true
name_itself a b is = (bytes_eq-Decides a b).1 is

-- ---- the labels of two lists

pub put_both : (leasts : Leasts) (xs ys : List Label) → put_labels leasts (xs ++ ys) ≡ put_labels (put_labels leasts xs) ys
put_both leasts [] ys = refl
put_both leasts (x ∷ xs) ys = put_both (put_label leasts x.name x.ordinal) xs ys

-- ---- what stands at a name

-- a number is put at a name, and at no other
number_put : (leasts : Leasts) (this : List ℕ) (n : ℕ) (name : List ℕ) → number_of (insert_entry is_name leasts this n) name ≡ (if is_name name this then Some n else number_of leasts name)
number_put [] this n name = refl
number_put (e ∷ es) this n name = by (is_name this e.0) refl (number_put es this n name)
  where
    found : (a b : Bool) (old : Option ℕ) → a ≡ b → cond a (Some n) old ≡ (if b then Some n else cond a (Some e.1) old)
    found true true old is = refl
    found false false old is = refl
    found true false old is = absurd cc
    found false true old is = absurd cc

    passed : (a b : Bool) (old new : Option ℕ) → (a ≡ true → b ≡ true → ⊥) → new ≡ (if b then Some n else old) →
        cond a (Some e.1) new ≡ (if b then Some n else cond a (Some e.1) old)
    passed true true old new apart is = absurd (apart refl refl)
    passed true false old new apart is = refl
    passed false b old new apart is = is

    by : (b : Bool) → is_name this e.0 ≡ b → number_of (insert_entry is_name es this n) name ≡ (if is_name name this then Some n else number_of es name) →
        number_of (if b then (e.0, n) ∷ es else e ∷ insert_entry is_name es this n) name ≡ (if is_name name this then Some n else number_of (e ∷ es) name)
    by true is later = found (is_name name e.0) (is_name name this) (number_of es name) (ap (is_name name) (sym (same_name this e.0 is)))
    by false is later = passed (is_name name e.0) (is_name name this) (number_of es name) _
        (λ there here. false≢true (sym is ∙ name_itself this e.0 (sym (same_name name this here) ∙ same_name name e.0 there))) later

-- of two numbers that may be there, the lesser
abbrev lesser : Option ℕ → Option ℕ → Option ℕ
lesser None other = other
lesser (Some n) other = Some (lesser_of n other)

least_put : (n : ℕ) (old later : Option ℕ) → lesser (Some (lesser_of n old)) later ≡ lesser old (Some (lesser_of n later))
least_put n None later = refl
least_put n (Some m) None = ap Some (omega arith)
least_put n (Some m) (Some k) = ap Some (omega arith)

pub numbers_put : (leasts : Leasts) (found : List Label) (name : List ℕ) → number_of (put_labels leasts found) name ≡ lesser (number_of leasts name) (least_of name found)
numbers_put leasts [] name = by (number_of leasts name)
  where
    by : (o : Option ℕ) → o ≡ lesser o None
    by None = refl
    by (Some n) = refl
numbers_put leasts (l ∷ ls) name =
    numbers_put (put_label leasts l.name l.ordinal) ls name ∙ ap (λ o. lesser o (least_of name ls)) (number_put leasts l.name _ name) ∙ by (is_name name l.name) refl
  where
    by : (b : Bool) → is_name name l.name ≡ b →
        lesser (if b then Some (lesser_of l.ordinal (number_of leasts l.name)) else number_of leasts name) (least_of name ls)
        ≡ lesser (number_of leasts name) (if b then Some (lesser_of l.ordinal (least_of name ls)) else least_of name ls)
    by true is = ap (λ x. lesser (Some (lesser_of l.ordinal (number_of leasts x))) (least_of name ls)) (sym (same_name name l.name is)) ∙ least_put l.ordinal (number_of leasts name) (least_of name ls)
    by false is = refl

pub are_labels : (found : List Label) → AreLabels (put_labels [] found) found
are_labels found = λ name. numbers_put [] found name

-- ---- what the least number tells of the labels

pub has_least : (name : List ℕ) (found : List Label) → has_label found name ≡ is_some (least_of name found)
has_least name [] = refl
has_least name (l ∷ ls) = by (is_name name l.name) (has_least name ls)
  where
    by : (b : Bool) → has_label ls name ≡ is_some (least_of name ls) →
        b || has_label ls name ≡ is_some (if b then Some (lesser_of l.ordinal (least_of name ls)) else least_of name ls)
    by true later = refl
    by false later = later

lesser_before : (a b n : ℕ) (x y : Bool) → nat_lt a n ≡ x → nat_lt b n ≡ y → x || y ≡ nat_lt (min a b) n
lesser_before a b n true y one other = let less = ltb-true a n one in sym (lt-ltb (min a b) n (omega (arith, less)))
lesser_before a b n false true one other = let less = ltb-true b n other in sym (lt-ltb (min a b) n (omega (arith, less)))
lesser_before a b n false false one other = let more = ltb-false a n one in let most = ltb-false b n other in sym (le-ltb (min a b) n (omega (arith, more, most)))

or_not : (b : Bool) → b || false ≡ b
or_not true = refl
or_not false = refl

pub least_before : (name : List ℕ) (found : List Label) (n : ℕ) → has_label_before found name n ≡ is_before (least_of name found) n
least_before name [] n = refl
least_before name (l ∷ ls) n = ap (λ b. (is_name name l.name && nat_lt l.ordinal n) || b) (least_before name ls n) ∙ by (is_name name l.name) (least_of name ls)
  where
    by : (b : Bool) (o : Option ℕ) → (b && nat_lt l.ordinal n) || is_before o n ≡ is_before (if b then Some (lesser_of l.ordinal o) else o) n
    by true None = or_not (nat_lt l.ordinal n)
    by true (Some m) = lesser_before l.ordinal m n (nat_lt l.ordinal n) (nat_lt m n) refl refl
    by false o = refl

-- ---- a label that has the least number

module _ (name : List ℕ) (l : Label) (ls : List Label) (n : ℕ) (rest : (m : ℕ) → least_of name ls ≡ Some m → LabelNamed ls name m) where
  later : LabelNamed ls name n → LabelNamed (l ∷ ls) name n
  later least = record { label = least.label; there = (suc least.there.0, omega (arith, least.there.1), least.there.2); is = least.is; ordinal = least.ordinal }

  this : is_name name l.name ≡ true → l.ordinal ≡ n → LabelNamed (l ∷ ls) name n
  this is same = record { label = l; there = (0, omega arith, refl); is = name_itself l.name name (sym (same_name name l.name is)); ordinal = same }

  either : (m : ℕ) → is_name name l.name ≡ true → least_of name ls ≡ Some m → min l.ordinal m ≡ n → (b : Bool) → nat_lt m l.ordinal ≡ b → LabelNamed (l ∷ ls) name n
  either m is at same true less = let below = ltb-true m l.ordinal less in later (rest n (at ∙ ap Some (omega (arith, same, below))))
  either m is at same false no_less = let above = ltb-false m l.ordinal no_less in this is (omega (arith, same, above))

  of_rest : (o : Option ℕ) → is_name name l.name ≡ true → least_of name ls ≡ o → Some (lesser_of l.ordinal o) ≡ Some n → LabelNamed (l ∷ ls) name n
  of_rest None is at same = this is (same_Some l.ordinal n same)
  of_rest (Some m) is at same = either m is at (same_Some (min l.ordinal m) n same) (nat_lt m l.ordinal) refl

  one_there : (b : Bool) → is_name name l.name ≡ b → (if b then Some (lesser_of l.ordinal (least_of name ls)) else least_of name ls) ≡ Some n → LabelNamed (l ∷ ls) name n
  one_there true is same = of_rest (least_of name ls) is refl same
  one_there false is same = later (rest n same)

pub least_there : (name : List ℕ) (found : List Label) (n : ℕ) → least_of name found ≡ Some n → LabelNamed found name n
least_there name [] n at = absurd (none-some n at)
least_there name (l ∷ ls) n at = one_there name l ls n (λ m is. least_there name ls m is) (is_name name l.name) refl at

pub named_there : (leasts : Leasts) (name : List ℕ) (o : Option ℕ) → o ≡ number_of leasts name → IfSome o (λ n. (found : List Label) → AreLabels leasts found → LabelNamed found name n)
named_there leasts name None at = tt
named_there leasts name (Some n) at = λ found are. least_there name found n (sym (at ∙ are name))
