use Rattle.std.proofs.Common.{◌∙◌, Some, None, sym, ap}
use Rattle.std.specs.Option.{option_copied}
use Rattle.lk_scopes.specs.Latest.{is_name, latest}
use Rattle.lk_parse_expr.proofs.Typedefs.{typedef_said}
use Rattle.lk_parse_expr.proofs.cursor.Cursor.is_typedef.Goals as goal

pub returns-in-Some : goal.returns-in-Some
returns-in-Some c =
    typedef_said c.args.self.now.names c.args.word.now (Some c.in-Some.declared.now)
    (sym (ap option_copied c.in-Some.is) ∙ c.look_up.ensures ∙ ap (λ i. latest (λ d. is_name d.0 c.args.word.now) i.names) c.self.view_is)

pub returns-in-None : goal.returns-in-None
returns-in-None c =
    typedef_said c.args.self.now.names c.args.word.now None
    (sym (ap option_copied c.in-None.is) ∙ c.look_up.ensures ∙ ap (λ i. latest (λ d. is_name d.0 c.args.word.now) i.names) c.self.view_is)
