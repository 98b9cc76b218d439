-- How a cast converts, by the questions that decide it (C99 6.5.4).
use Rattle.std.proofs.Common.{◌≡◌, Bool, true, false, ℕ, ap, arith}
use Rattle.lk_elab_expr.specs.CastForms.{casting}
use Rattle.lk_elab_expr.specs.declared.casts.Casting.{Casting}
use Rattle.lk_elab_expr.specs.declared.casts.Casting.TheVariants as how

abbrev how_code : Casting → ℕ
how_code how.Discard = 0
how_code how.Null = 1
how_code how.Convert = 2

pub discard_by : (v n : Bool) → how.Discard ≡ casting v n → v ≡ true
discard_by true n e = cc
discard_by false true e = absurd (omega (arith, ap how_code e))
discard_by false false e = absurd (omega (arith, ap how_code e))

pub null_by : (v n : Bool) → how.Null ≡ casting v n → n ≡ true
null_by true n e = absurd (omega (arith, ap how_code e))
null_by false true e = cc
null_by false false e = absurd (omega (arith, ap how_code e))

pub convert_by : (v n : Bool) → how.Convert ≡ casting v n → (v ≡ false) × (n ≡ false)
convert_by true n e = absurd (omega (arith, ap how_code e))
convert_by false true e = absurd (omega (arith, ap how_code e))
convert_by false false e = (cc, cc)
