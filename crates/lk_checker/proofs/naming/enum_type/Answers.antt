use Rattle.std.proofs.Common.{◌∙◌, None, Some, ap, sym}
use Rattle.std.specs.Prelude.{if◌then◌else◌}
use Rattle.lk_typed.proofs.FirstTypes.{kind_known, kind_means}
use Rattle.lk_typed.specs.Ty.{int}
use Rattle.lk_base.specs.declared.kind.Kind.TheVariants as kind
use Rattle.lk_checker.proofs.naming.enum_type.Goals as goal

pub returns-else-is_broken-clause-named : goal.returns-else-is_broken-clause-named
returns-else-is_broken-clause-named c = λ table ready. ap Some (kind_means table ready kind.Int) ∙ sym (ap (λ b. if b then None else Some int) c.if-is_broken.false)

pub returns-else-is_broken-clause-known : goal.returns-else-is_broken-clause-known
returns-else-is_broken-clause-known c = λ table ready. kind_known table ready kind.Int
