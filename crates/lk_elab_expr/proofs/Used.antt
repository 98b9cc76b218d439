-- The uses that are recorded of a source are the first ones.
use Rattle.std.proofs.Common.{◌≡◌, ◌∙◌, ◌≤◌, inl, inr, ℕ, List, [], ◌∷◌, Some, Bool, true, false, refl, sym, ap, subst, eqb-true}
use Rattle.std.specs.Prelude.{nat_eq, if◌then◌else◌}
use Rattle.std.specs.Map.{lookup}
use Rattle.std.proofs.lemmas.Option.{none-some, same_Some}
use Rattle.lk_tree.specs.declared.expression.Expr.{Expr}
use Rattle.lk_tree.specs.declared.statement.Unit.{Unit}
use Rattle.lk_typed.specs.Env.{Env, Name, Declared, look_up}
use Rattle.lk_typed.specs.Expressions.{Plainly, AWord, AText, AnotherForm, written}
use Rattle.lk_typed.specs.Nodes.{AnExpression}
use Rattle.lk_typed.specs.Stands.{IsIn}
use Rattle.lk_typed.specs.Units as units
use Rattle.lk_typed.specs.Units.{IsNode}
use Rattle.lk_typed.specs.Units.IsNode.{node_of}
use Rattle.lk_typed.specs.declared.entity.Use.{Use}
use Rattle.lk_found.specs.Truth.{IsSoInside}
use Rattle.lk_found.specs.Uses.{HasUses, IsOfUse, found_by, name_written, word_in}
use Rattle.lk_elab_expr.specs.Naming.{AreFirstUses, IsUseAt}

same_pair : {a b : ℕ} {u v : Use} → a ≡ b → u ≡ v → ◌≡◌ {A = ℕ × Use} (a, u) (b, v)
same_pair p q = cc

in_by : (x : ℕ × Use) (xs : List (ℕ × Use)) (n : ℕ) (use_ : Use) → (lookup (nat_eq n) xs ≡ Some use_ → IsIn (n, use_) xs) →
    (b : Bool) → nat_eq n x.0 ≡ b → (if b then Some x.1 else lookup (nat_eq n) xs) ≡ Some use_ → IsIn (n, use_) (x ∷ xs)
in_by x xs n use_ others true same here = inl (same_pair (eqb-true n x.0 same) (sym (same_Some x.1 use_ here)))
in_by x xs n use_ others false apart there = inr (others there)

in_entries : (xs : List (ℕ × Use)) (n : ℕ) (use_ : Use) → lookup (nat_eq n) xs ≡ Some use_ → IsIn (n, use_) xs
in_entries [] n use_ is = absurd (none-some use_ is)
in_entries (x ∷ xs) n use_ is = in_by x xs n use_ (in_entries xs n use_) (nat_eq n x.0) refl is

IsWord : Env → Expr → Declared → Type 0
IsWord env e declared = (name : Name) × (written e ≡ AWord name) × (look_up env name ≡ Some declared)

word_by : (env : Env) (e : Expr) (declared : Declared) (plain : Plainly) → written e ≡ plain → found_by env (name_written plain) ≡ Some declared → IsWord env e declared
unfolding IsWord
word_by env e declared (AWord name) is found = (name, is, found)
word_by env e declared (AText bytes) is found = absurd (none-some declared found)
word_by env e declared AnotherForm is found = absurd (none-some declared found)

module _ (externs : List Name) (unit : Unit) (uses : List (ℕ × Use))
    (truth : (declaring : ℕ) (use_ : Use) → IsIn (declaring, use_) uses → IsSoInside (units.at_end externs unit) (units.externals externs unit) (IsOfUse word_in declaring use_))
    (each : HasUses word_in (units.at_end externs unit) (units.externals externs unit) uses) where
  is_use : (declaring : ℕ) (use_ : Use) → IsSoInside (units.at_end externs unit) (units.externals externs unit) (IsOfUse word_in declaring use_) → IsUseAt externs unit declaring use_
  unfolding IsWord
  is_use declaring use_ inside =
      let of = inside.is_so in
      let word = word_by inside.env of.e of.declared (written of.e) refl of.found in
      record {
        env = inside.env;
        e = of.e;
        stands = subst (IsNode externs unit inside.env) of.is (node_of inside.outer inside.among inside.stands);
        name = word.0;
        is_name = word.1;
        declared = of.declared;
        found = word.2;
        of = of.number;
        spot = ap (λ (u : Use). u.spot) of.used_at;
        ordinal = ap (λ (u : Use). u.ordinal) of.used_at;
      }

  Earliest : ℕ → ℕ → Type 0
  Earliest declaring ordinal = (use_ : Use) × (lookup (nat_eq declaring) uses ≡ Some use_) × (use_.ordinal ≤ ordinal)

  earliest : (env : Env) (e : Expr) (name : Name) (declared : Declared) → IsNode externs unit env (AnExpression e) → written e ≡ AWord name → look_up env name ≡ Some declared → Earliest declared.ordinal e.ordinal
  unfolding Earliest
  earliest env e name declared (node_of external among stands) is found =
      each external among env e declared stands (ap (λ plain. found_by env (name_written plain)) is ∙ found)

  each_use : (declaring : ℕ) (other : Use) → IsUseAt externs unit declaring other → Earliest declaring other.ordinal
  each_use declaring other at =
      subst (λ n. Earliest n other.ordinal) at.of (subst (Earliest at.declared.ordinal) (sym at.ordinal) (earliest at.env at.e at.name at.declared at.stands at.is_name at.found))

  pub first_uses : AreFirstUses externs unit uses
  unfolding Earliest
  first_uses = record { truth = λ declaring use_ is. is_use declaring use_ (truth declaring use_ (in_entries uses declaring use_ is)); each = each_use }
