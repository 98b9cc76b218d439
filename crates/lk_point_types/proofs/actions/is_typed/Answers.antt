use Rattle.std.proofs.Common.{◌∙◌, subst, sym}
use Rattle.std.proofs.lemmas.Bool.{false≢true}
use Rattle.lk_facts.specs.Typed.{IsTyped}
use Rattle.lk_point_types.proofs.actions.is_typed.Goals as goal

pub returns-then-is_write : goal.returns-then-is_write
returns-then-is_write c =
    let typed_by = IsTyped c.args.points.now c.args.p c.args.f in (
      (λ none.
          let h = c.is_write.ensures.0 c.if-is_write.true in
          subst typed_by (sym c.in-Write.is) (h.0, h.1, h.2, h.3, c.gives_none.ensures.0 none)),
      (λ typed. c.gives_none.ensures.1 (subst typed_by c.in-Write.is typed).4),
    )

pub returns-else-is_write : goal.returns-else-is_write
returns-else-is_write c =
    let typed_by = IsTyped c.args.points.now c.args.p c.args.f in (
      (λ yes_. absurd (false≢true (sym c.if-is_write.false ∙ yes_))),
      (λ typed.
          let h = subst typed_by c.in-Write.is typed in
          absurd (false≢true (sym c.if-is_write.false ∙ c.is_write.ensures.1 (h.0, h.1, h.2, h.3)))),
    )

pub returns-then-gives_type-3 : goal.returns-then-gives_type-3
returns-then-gives_type-3 c =
    let typed_by = IsTyped c.args.points.now c.args.p c.args.f in (
      (λ converts. subst typed_by (sym c.in-Convert.is) (c.gives_type-in-Convert.ensures.0 c.if-gives_type-3.true, c.is_conversion.ensures.0 converts)),
      (λ typed. c.is_conversion.ensures.1 (subst typed_by c.in-Convert.is typed).1),
    )
