-- What the readers read with one level at least, and with none.
use Rattle.std.proofs.Common.{◌≡◌, ℕ, zero, suc, ◌-◌, ◌<◌, Bool, if◌then◌else◌, Err, refl, ap, sym, ◌∙◌, arith}
use Rattle.lk_base.specs.declared.fault.Fault.{Fault}
use Rattle.lk_parse_expr.specs.Input.{Input, here, peek}
use Rattle.lk_parse_expr.specs.Readers.{exhausted, too_deep_at, syntax_at}
use Rattle.lk_parse_expr.proofs.Levels.{none_left}
use Rattle.lk_parse_unit.specs.Leads.{begins_stmt}
use Rattle.lk_parse_unit.specs.Reading.{stmt, stmt_from, block_items, body_items, begins_external, external, external_from}

pub stmt_inside : (d : ℕ) (i : Input) → 0 < d → stmt d i ≡ stmt_from (d - 1) (stmt (d - 1)) i i
unfolding stmt
stmt_inside zero i some = absurd (omega arith)
stmt_inside (suc m) i some = let e : suc m - 1 ≡ m = omega arith in rw e refl

pub no_stmt : (d : ℕ) (i : Input) (begins : Bool) (e : Fault) → d ≡ 0 → e ≡ (if begins then too_deep_at i else syntax_at i) → begins ≡ begins_stmt (peek i) → stmt d i ≡ Err e
unfolding stmt
no_stmt zero i begins e none is same = ap (λ b. exhausted b i) (sym same) ∙ none_left begins i e is
no_stmt (suc m) i begins e none is same = absurd (omega (arith, none))

pub body_inside : (d : ℕ) (i : Input) → 0 < d → body_items d i ≡ block_items (d - 1) (stmt (d - 1)) i
body_inside zero i some = absurd (omega arith)
body_inside (suc m) i some = let e : suc m - 1 ≡ m = omega arith in rw e refl

pub no_body : (d : ℕ) (i : Input) (e : Fault) → d ≡ 0 → e ≡ syntax_at i → body_items d i ≡ Err e
no_body zero i e none is = ap Err (sym is)
no_body (suc m) i e none is = absurd (omega (arith, none))

pub external_inside : (d : ℕ) (i : Input) → 0 < d → external d i ≡ external_from (d - 1) (here i) i
unfolding external
external_inside zero i some = absurd (omega arith)
external_inside (suc m) i some = let e : suc m - 1 ≡ m = omega arith in rw e refl

pub no_external : (d : ℕ) (i : Input) (begins : Bool) (e : Fault) → d ≡ 0 → e ≡ (if begins then too_deep_at i else syntax_at i) → begins ≡ begins_external i → external d i ≡ Err e
unfolding external
no_external zero i begins e none is same = ap (λ b. exhausted b i) (sym same) ∙ none_left begins i e is
no_external (suc m) i begins e none is same = absurd (omega (arith, none))
