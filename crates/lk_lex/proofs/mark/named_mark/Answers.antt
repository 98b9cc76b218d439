use Rattle.std.proofs.Common.{◌≡◌, ◌++◌, ◌∙◌, ap, refl}
use Rattle.lk_lex.specs.declared.quoted.Quotation.TheVariants as q
use Rattle.lk_lex.specs.Characters.{quoted_bytes}
use Rattle.lk_lex.specs.Marks.{named_mark}
use Rattle.lk_lex.proofs.mark.named_mark.Goals as goal

pub returns-in_default-clause-value : goal.returns-in_default-clause-value
unfolding named_mark
returns-in_default-clause-value c = rw (← c.quoted_len.ensures.value, c.in_default.is) refl

pub returns-then-not-are_flags-clause-value : goal.returns-then-not-are_flags-clause-value
unfolding named_mark
returns-then-not-are_flags-clause-value c =
    rw (← c.quoted_len.ensures.value, c.in-Some.is, ← c.split_at.ensures.back, ← c.are_flags.ensures, c.if-not-are_flags.true) refl

pub returns-clause-value : goal.returns-clause-value
unfolding named_mark
returns-clause-value c =
    let name : c.deref.result.now ≡ quoted_bytes q.FileName 0 c.args.bytes.now =
    c.deref.ensures.value ∙ c.in_ok-push_quoted.ensures.ok ∙ ap (λ front. front ++ quoted_bytes q.FileName 0 c.args.bytes.now) c.new-name.ensures.items in
    rw (← c.quoted_len.ensures.value, c.in-Some.is, ← c.split_at.ensures.back, ← c.are_flags.ensures, c.if-not-are_flags.false, ← name) c.with_name.ensures.value
