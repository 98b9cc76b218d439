use Rattle.std.proofs.Common.{rules, ◌≡◌, ◌∙◌, to_z, of_z}
use Rattle.std.specs.Int.{w128}
use Rattle.lk_arith.specs.Conversions.{convert}
use Rattle.lk_arith.proofs.Converting.{convert_same}
use Rattle.lk_arith.proofs.conversions.convert.Goals as goal

pub returns-in-Char-clause-same : goal.returns-in-Char-clause-same
unfolding convert
returns-in-Char-clause-same c =
    let exact : to_z w128 (of_z w128 c.from_bits.result) ≡ convert c.args.kind c.args.number = search rules in
    λ h. exact ∙ convert_same c.args.kind c.args.number h
