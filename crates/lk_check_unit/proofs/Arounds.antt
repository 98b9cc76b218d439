-- What stands round the statements behind others.
use Rattle.std.proofs.Common.{◌≡◌, ◌∙◌, ◌++◌, ℕ, Bool, true, false, List, [], ◌∷◌, Option, Some, None, map, refl, sym, ap, append_assoc}
use Rattle.std.specs.Prelude.{◌||◌, option_map}
use Rattle.std.proofs.lemmas.List.{append-nil, map-append}
use Rattle.lk_typed.specs.Env.{Additions}
use Rattle.lk_typed.specs.StatementRules.{Around, Switch, behind_cases, case_value, with_cases}
use Rattle.lk_typed.specs.Statements.{Case, StmtTold, around_behind, is_some_number, only, then_told}
use Rattle.lk_typed.specs.declared.constant.Constant.{Constant}

or_then : (a b c : Bool) → ((a || b) || c) ≡ (a || (b || c))
or_then true b c = refl
or_then false b c = refl

or_false : (a : Bool) → (a || false) ≡ a
or_false true = refl
or_false false = refl

numbers_both : (ms ns : List ℕ) → (is_some_number ms || is_some_number ns) ≡ is_some_number (ms ++ ns)
numbers_both [] ns = refl
numbers_both (m ∷ ms) ns = refl

-- the cases of one, and then those of another
cases_both : (s : Switch) (cs bs : List (Option Constant)) (a b : Bool) → with_cases bs b (with_cases cs a s) ≡ with_cases (cs ++ bs) (a || b) s
cases_both s cs bs a b =
    ap (λ vs. record s { values = vs; has_default = (s.has_default || a) || b })
    (append_assoc s.values (map (case_value s.kind) cs) (map (case_value s.kind) bs) ∙ ap (λ xs. s.values ++ xs) (sym (map-append (case_value s.kind) cs bs))) ∙
    ap (λ h. record s { values = s.values ++ map (case_value s.kind) (cs ++ bs); has_default = h }) (or_then s.has_default a b)

pub behind_more : (around : Around) (cs ds : List (Option Constant)) (a b : Bool) → behind_cases (behind_cases around cs a) ds b ≡ behind_cases around (cs ++ ds) (a || b)
behind_more around cs ds a b = ap (λ s. record around { switch = s }) (by around.switch)
  where
    by : (o : Option Switch) → option_map (with_cases ds b) (option_map (with_cases cs a) o) ≡ option_map (with_cases (cs ++ ds) (a || b)) o
    by None = refl
    by (Some s) = ap Some (cases_both s cs ds a b)

pub behind_both : (around : Around) (a b : StmtTold) → around_behind (around_behind around a) b ≡ around_behind around (then_told a b)
behind_both around a b =
    behind_more around (map (λ (c : Case). c.value) a.cases) (map (λ (c : Case). c.value) b.cases) (is_some_number a.defaults) (is_some_number b.defaults) ∙
    (ap (λ cs. behind_cases around cs (is_some_number a.defaults || is_some_number b.defaults)) (sym (map-append (λ (c : Case). c.value) a.cases b.cases)) ∙
    ap (behind_cases around (map (λ (c : Case). c.value) (a.cases ++ b.cases))) (numbers_both a.defaults b.defaults))

-- what has no cases changes nothing
pub behind_only : (around : Around) (added : Additions) → around ≡ around_behind around (only added)
behind_only around added = ap (λ s. record around { switch = s }) (by around.switch)
  where
    by : (o : Option Switch) → o ≡ option_map (with_cases [] false) o
    by None = refl
    by (Some s) = ap Some (ap (λ vs. record s { values = vs }) (sym (append-nil s.values)) ∙ ap (λ h. record s { values = s.values ++ []; has_default = h }) (sym (or_false s.has_default)))

-- a default, and then a statement
pub behind_default : (around : Around) (n : ℕ) (told : StmtTold) → around_behind (behind_cases around [] true) told ≡ around_behind around (record told { defaults = n ∷ told.defaults })
behind_default around n told =
    behind_more around [] (map (λ (c : Case). c.value) told.cases) true (is_some_number told.defaults)
