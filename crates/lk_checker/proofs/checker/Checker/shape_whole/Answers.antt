use Rattle.std.proofs.Common.{IfSome, refl, sym, subst}
use Rattle.lk_types.specs.Table.{Table, IsKnown}
use Rattle.lk_checker.proofs.GoingOn.{puts_further, scope_known}
use Rattle.lk_checker.proofs.Whole.{place_is, puts_same, tells_same, whole_shaped}
use Rattle.lk_checker.proofs.checker.Checker.shape_whole.Goals as goal

pub returns-clause-puts : goal.returns-clause-puts
returns-clause-puts c = puts_same c.args.self.now c.shape.new.self c.keep.new.self c.in_ok-made.ensures.puts (tells_same c.in_ok-keep.ensures)

pub returns-clause-known : goal.returns-clause-known
returns-clause-known c = record {
  type = subst (λ (table : Table). IfSome c.in_ok-made.made.ty (IsKnown table)) (sym c.in_ok-keep.ensures.types) c.in_ok-made.ensures.known.0;
  parameters = scope_known c.args.self.now c.keep.new.self c.requires.sound
      (puts_further c.args.self.now c.keep.new.self (puts_same c.args.self.now c.shape.new.self c.keep.new.self c.in_ok-made.ensures.puts (tells_same c.in_ok-keep.ensures))) c.args.walked.parameters c.requires.known.parameters;
}

pub returns-clause-shaped : goal.returns-clause-shaped
returns-clause-shaped c =
    whole_shaped c.args.self.now c.shape.new.self c.keep.new.self c.args.d.now c.args.walked c.args.left c.in_ok-made.made c.args.may_be_absent _ c.at_declarator.result c.large_code.result c.in_ok-made.ensures.made
    c.in_ok-keep.ensures (place_is c.at_declarator.result c.args.d.now c.at_declarator.ensures.spot c.at_declarator.ensures.ordinal) c.large_code.ensures c.requires.small refl refl refl
