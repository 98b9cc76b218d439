-- What the readers read with one level at least, and with none.
use Rattle.std.proofs.Common.{◌≡◌, ℕ, zero, suc, ◌-◌, ◌<◌, Bool, true, false, if◌then◌else◌, Err, refl, ap, sym, ◌∙◌, arith}
use Rattle.lk_base.specs.declared.fault.Fault.{Fault}
use Rattle.lk_lex.specs.declared.punct.Punct.TheVariants as p
use Rattle.lk_parse_expr.specs.Input.{Input, here}
use Rattle.lk_parse_expr.specs.Words.{begins_specifiers}
use Rattle.lk_parse_expr.specs.Readers.{and_then, pure, found, exhausted, too_deep_at, syntax_at, sees}
use Rattle.lk_parse_expr.specs.Reading.{readers}
use Rattle.lk_tree.specs.declared.declaration.Init.TheVariants as init
use Rattle.lk_parse_expr.proofs.Levels.{none_left}
use Rattle.lk_parse_decl.specs.Reading.{begins_initialiser, initialiser, braced, init_from, declaration, declare_from}

pub init_braced : (d : ℕ) (i : Input) → 0 < d → sees p.OpenBrace i ≡ true → initialiser d i ≡ braced (d - 1) (initialiser (d - 1)) (here i) i
unfolding initialiser init_from
init_braced zero i some is = absurd (omega arith)
init_braced (suc m) i some is = let e : suc m - 1 ≡ m = omega arith in rw (e, is) refl

pub init_value : (d : ℕ) (i : Input) → 0 < d → sees p.OpenBrace i ≡ false
    → initialiser d i ≡ and_then ((readers d).expr 1 i) (λ value. pure (found (init.Expr value.tree) value.room))
unfolding initialiser init_from
init_value zero i some is = absurd (omega arith)
init_value (suc m) i some is = rw is refl

pub declaration_inside : (d : ℕ) (i : Input) → 0 < d → declaration d i ≡ declare_from (d - 1) (here i) i
unfolding declaration
declaration_inside zero i some = absurd (omega arith)
declaration_inside (suc m) i some = let e : suc m - 1 ≡ m = omega arith in rw e refl

pub no_initialiser : (d : ℕ) (i : Input) (begins : Bool) (e : Fault) → d ≡ 0 → e ≡ (if begins then too_deep_at i else syntax_at i) → begins ≡ begins_initialiser i → initialiser d i ≡ Err e
unfolding initialiser
no_initialiser zero i begins e none is same = ap (λ b. exhausted b i) (sym same) ∙ none_left begins i e is
no_initialiser (suc m) i begins e none is same = absurd (omega (arith, none))

pub no_declaration : (d : ℕ) (i : Input) (begins : Bool) (e : Fault) → d ≡ 0 → e ≡ (if begins then too_deep_at i else syntax_at i) → begins ≡ begins_specifiers i → declaration d i ≡ Err e
unfolding declaration
no_declaration zero i begins e none is same = ap (λ b. exhausted b i) (sym same) ∙ none_left begins i e is
no_declaration (suc m) i begins e none is same = absurd (omega (arith, none))
