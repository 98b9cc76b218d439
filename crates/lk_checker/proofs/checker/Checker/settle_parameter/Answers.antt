use Rattle.std.specs.Option.{option_map}
use Rattle.lk_tree.specs.declared.expression.Parameter.{out-Parameter}
use Rattle.lk_typed.specs.Meaning.{meaning}
use Rattle.lk_found.specs.Parameters.{name_of}
use Rattle.lk_checker.proofs.Settled.{is_named_by, settled, settled_further}
use Rattle.lk_checker.proofs.checker.Checker.settle_parameter.Goals as goal

pub returns-clause-further : goal.returns-clause-further
returns-clause-further c =
    settled_further c.args.self.now c.keep_parameter_name.new.self c.keep_all.new.self c.adjusted_type.new.self c.declare_parameter.new.self c.requires.sound c.in_ok-keep_parameter_name.ensures.same
    c.in_ok-keep_all.ensures.same c.in_ok-ty.ensures.puts (option_map (meaning c.adjusted_type.new.self.types) c.in_ok-ty.ty) (name_of (out-Parameter c.args.p.now).declarator) c.in_ok-declare_parameter.ensures.declared
    c.in_ok-declare_parameter.ensures.structs

pub returns-clause-settled : goal.returns-clause-settled
returns-clause-settled c =
    settled c.args.self.now c.keep_parameter_name.new.self c.keep_all.new.self c.adjusted_type.new.self c.declare_parameter.new.self c.requires.sound c.in_ok-keep_parameter_name.ensures.same
    c.in_ok-keep_all.ensures.same c.in_ok-ty.ensures.puts c.args.p.now c.args.breaches.now c.args.is_bare_void c.is_some-is_named.result c.args.t.now c.in_ok-ty.ty c.in_ok-keep_parameter_name.ensures.keeps
    c.in_ok-keep_all.ensures.kept (is_named_by c.optional_name.result c.is_some-is_named.result (name_of (out-Parameter c.args.p.now).declarator) c.is_some-is_named.ensures c.optional_name.ensures)
    c.in_ok-ty.ensures.adjusted c.in_ok-declare_parameter.ensures.declared c.in_ok-declare_parameter.ensures.types
