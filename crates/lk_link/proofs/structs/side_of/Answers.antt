use Rattle.std.proofs.Common.{◌∙◌, length, sym, ap, subst, arith}
use Rattle.lk_types.specs.Building.{IsTable}
use Rattle.lk_types.proofs.KeptLemmas.{read_got}
use Rattle.lk_link.proofs.structs.side_of.Goals as goal

pub returns : goal.returns
returns c =
    let at = read_got c.args.units.now c.args.source c.index-units-source.result c.requires.known c.index-units-source.is in
    let row_at = read_got c.args.becomes.now c.args.source c.index-becomes-source.result (omega (arith, c.requires.known, c.requires.resolved.sources)) c.index-becomes-source.is in
    record {
      unit = c.index-units-source.result;
      at = at;
      row = c.index-becomes-source.result;
      row_at = row_at;
      is = c.new.ensures ∙ (λ i. record { types = sym (ap (λ u. u.types) c.index-units-source.is) i; becomes = c.list.ensures i });
      table = subst (λ unit. IsTable unit.types) (sym c.index-units-source.is) c.is_table.ensures;
    }

pub new-requires : goal.new-requires
new-requires c =
    let at = read_got c.args.units.now c.args.source c.index-units-source.result c.requires.known c.index-units-source.is in
    let row_at = read_got c.args.becomes.now c.args.source c.index-becomes-source.result (omega (arith, c.requires.known, c.requires.resolved.sources)) c.index-becomes-source.is in
    ap length c.list.ensures ∙ (c.requires.resolved.each c.args.source c.index-becomes-source.result row_at).whole c.index-units-source.result at ∙ ap (λ u. length u.types.members) c.index-units-source.is
