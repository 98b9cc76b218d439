use Rattle.std.proofs.Common.{◌∙◌, refl, sym, ap, subst}
use Rattle.lk_types.specs.Table.{IsKnown}
use Rattle.lk_typed.specs.Meaning.{meaning}
use Rattle.lk_typed.proofs.FirstTypes.{kind_known, kind_means}
use Rattle.lk_typed.proofs.typed.Typed.integer.Goals as goal

pub returns : goal.returns
returns c = λ table ready.
    record {
      operand = record { known = subst (IsKnown table) (sym c.of_kind.ensures) (kind_known table ready c.args.kind); listed = λ _. tt };
      type = ap (meaning table) c.of_kind.ensures ∙ kind_means table ready c.args.kind;
      place = refl;
      constant = refl;
      null = c.is_null_value.ensures;
    }
