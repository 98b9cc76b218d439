-- Numbers that are given to nodes stay where one is given to another node.
use Rattle.std.proofs.Common.{◌≡◌, ℕ, Bool, true, false, Some, None, List, [], ◌∷◌, sym}
use Rattle.std.specs.Prelude.{nat_eq, if◌then◌else◌}
use Rattle.std.specs.Map.{lookup}
use Rattle.std.proofs.lemmas.Option.{none-some}
use Rattle.indexmap.specs.IndexMap.{insert_entry}
use Rattle.lk_elaborator.specs.Keeping.{KeepsNumbers}

by_name : (x : ℕ × ℕ) (xs ys : List (ℕ × ℕ)) (n e : ℕ) → (lookup (nat_eq n) xs ≡ Some e → lookup (nat_eq n) ys ≡ Some e) → (b : Bool) →
    (if b then Some x.1 else lookup (nat_eq n) xs) ≡ Some e → (if b then Some x.1 else lookup (nat_eq n) ys) ≡ Some e
by_name x xs ys n e keeps true is = is
by_name x xs ys n e keeps false is = keeps is

by_key : (x : ℕ × ℕ) (xs : List (ℕ × ℕ)) (k v n e : ℕ) → (lookup (nat_eq k) xs ≡ None → KeepsNumbers xs (insert_entry nat_eq xs k v)) → (b : Bool) →
    (if b then Some x.1 else lookup (nat_eq k) xs) ≡ None → lookup (nat_eq n) (x ∷ xs) ≡ Some e → lookup (nat_eq n) (if b then (x.0, v) ∷ xs else x ∷ insert_entry nat_eq xs k v) ≡ Some e
by_key x xs k v n e keeps true none is = absurd (none-some _ (sym none))
by_key x xs k v n e keeps false none is = by_name x xs (insert_entry nat_eq xs k v) n e (keeps none n e) (nat_eq n x.0) is

pub insert_keeps : (xs : List (ℕ × ℕ)) (k v : ℕ) → lookup (nat_eq k) xs ≡ None → KeepsNumbers xs (insert_entry nat_eq xs k v)
insert_keeps [] k v none n e is = absurd (none-some _ is)
insert_keeps (x ∷ xs) k v none n e is = by_key x xs k v n e (insert_keeps xs k v) (nat_eq k x.0) none is
