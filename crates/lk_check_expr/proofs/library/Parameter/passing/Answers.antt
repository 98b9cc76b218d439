use Rattle.std.proofs.Common.{ap, sym, subst}
use Rattle.lk_base.specs.declared.kind.Kind.TheVariants as kind
use Rattle.lk_typed.specs.Ty.{Pointer}
use Rattle.lk_typed.specs.declared.typed.ExprType.TheVariants.{Listed, PointerTo}
use Rattle.lk_typed.proofs.FirstTypes.{kind_known, kind_means, void_known, void_means}
use Rattle.lk_check_expr.specs.Functions.{IsPassing, parameter_in}
use Rattle.lk_check_expr.specs.declared.library.Passing.TheVariants.{Converted}
use Rattle.lk_check_expr.proofs.LibraryTypes.{thread_known, thread_means, mutex_known, mutex_means, cond_known, cond_means}
use Rattle.lk_check_expr.proofs.library.Parameter.passing.Goals as goal

pub returns-in-Int : goal.returns-in-Int
returns-in-Int c = λ table ready. subst (λ p. IsPassing table (Converted (Listed 7)) (parameter_in p)) (sym c.in-Int.is) (kind_known table ready kind.Int, kind_means table ready kind.Int)

pub returns-in-UnsignedInt : goal.returns-in-UnsignedInt
returns-in-UnsignedInt c = λ table ready. subst (λ p. IsPassing table (Converted (Listed 8)) (parameter_in p)) (sym c.in-UnsignedInt.is) (kind_known table ready kind.UInt, kind_means table ready kind.UInt)

pub returns-in-Count : goal.returns-in-Count
returns-in-Count c = λ table ready. subst (λ p. IsPassing table (Converted (Listed 10)) (parameter_in p)) (sym c.in-Count.is) (kind_known table ready kind.ULong, kind_means table ready kind.ULong)

pub returns-in-Thread : goal.returns-in-Thread
returns-in-Thread c = λ table ready. subst (λ p. IsPassing table (Converted (Listed 13)) (parameter_in p)) (sym c.in-Thread.is) (thread_known table ready, thread_means table ready)

pub returns-in-ToThread : goal.returns-in-ToThread
returns-in-ToThread c = λ table ready. subst (λ p. IsPassing table (Converted (PointerTo 13)) (parameter_in p)) (sym c.in-ToThread.is) (thread_known table ready, ap Pointer (thread_means table ready))

pub returns-in-ToMutex : goal.returns-in-ToMutex
returns-in-ToMutex c = λ table ready. subst (λ p. IsPassing table (Converted (PointerTo 14)) (parameter_in p)) (sym c.in-ToMutex.is) (mutex_known table ready, ap Pointer (mutex_means table ready))

pub returns-in-ToCond : goal.returns-in-ToCond
returns-in-ToCond c = λ table ready. subst (λ p. IsPassing table (Converted (PointerTo 15)) (parameter_in p)) (sym c.in-ToCond.is) (cond_known table ready, ap Pointer (cond_means table ready))

pub returns-in-ToText : goal.returns-in-ToText
returns-in-ToText c = λ table ready. subst (λ p. IsPassing table (Converted (PointerTo 2)) (parameter_in p)) (sym c.in-ToText.is) (kind_known table ready kind.Char, ap Pointer (kind_means table ready kind.Char))

pub returns-in-ToAnything : goal.returns-in-ToAnything
returns-in-ToAnything c = λ table ready. subst (λ p. IsPassing table (Converted (PointerTo 0)) (parameter_in p)) (sym c.in-ToAnything.is) (void_known table ready, ap Pointer (void_means table ready))
