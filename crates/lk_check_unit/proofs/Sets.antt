-- Names that are put into a set.
use Rattle.std.proofs.Common.{◌≡◌, ◌∙◌, ◌++◌, Bool, true, false, List, [], ◌∷◌, refl, sym, ap}
use Rattle.std.specs.Prelude.{if◌then◌else◌}
use Rattle.std.specs.HashSet.{HashSet, contains_by}
use Rattle.std.specs.List.{list_any}
use Rattle.lk_typed.specs.Env.{Name, is_name, is_one_of}
use Rattle.lk_check_unit.specs.Sources.{IsSetOf, PutsNames}

either : (a b c : Bool) → (if a then true else (if b then true else c)) ≡ (if (if b then true else a) then true else c)
either true true c = refl
either true false c = refl
either false true c = refl
either false false c = refl

pub one_of_both : (xs ys : List Name) (name : Name) → is_one_of (xs ++ ys) name ≡ (if is_one_of xs name then true else is_one_of ys name)
one_of_both [] ys name = refl
one_of_both (x ∷ xs) ys name = ap (λ b. if is_name x name then true else b) (one_of_both xs ys name) ∙ by (is_name x name) (is_one_of xs name) (is_one_of ys name)
  where
    by : (a b c : Bool) → (if a then true else (if b then true else c)) ≡ (if (if a then true else b) then true else c)
    by true b c = refl
    by false b c = refl

-- all are in the set, but for those that are left
abbrev pub IsLeft : {S : Type 0} → HashSet Name S → List Name → List Name → Type 0
IsLeft set all left = (name : Name) → is_one_of all name ≡ (if contains_by (is_name name) set then true else is_one_of left name)

pub some_less : {S : Type 0} (old new : HashSet Name S) (all names rest : List Name) → IsLeft old all (names ++ rest) → PutsNames names old new → IsLeft new all rest
some_less old new all names rest were puts name =
    were name ∙
    (ap (λ b. if contains_by (is_name name) old then true else b) (one_of_both names rest name) ∙
    (either (contains_by (is_name name) old) (is_one_of names name) (is_one_of rest name) ∙
    ap (λ b. if b then true else is_one_of rest name) (sym (puts name))))

pub none_less : {S : Type 0} (set : HashSet Name S) (all : List Name) → IsLeft set all [] → IsSetOf all set
none_less set all were name = were name ∙ by (contains_by (is_name name) set)
  where
    by : (b : Bool) → (if b then true else false) ≡ b
    by true = refl
    by false = refl

pub all_less : {S : Type 0} (set : HashSet Name S) (all : List Name) → set.keys ≡ [] → IsLeft set all all
all_less set all empty name = ap (λ ks. if list_any (is_name name) ks then true else is_one_of all name) (sym empty)

pub none_put : {S : Type 0} (set : HashSet Name S) → PutsNames [] set set
none_put set name = refl

pub one_put : {S : Type 0} (old new : HashSet Name S) (name : Name) → ((q : Name) → contains_by (is_name q) new ≡ (if is_name name q then true else contains_by (is_name q) old)) → PutsNames (name ∷ []) old new
one_put old new name updates q = updates q ∙ by (is_name name q) (contains_by (is_name q) old)
  where
    by : (a b : Bool) → (if a then true else b) ≡ (if (if a then true else false) then true else b)
    by true b = refl
    by false b = refl
