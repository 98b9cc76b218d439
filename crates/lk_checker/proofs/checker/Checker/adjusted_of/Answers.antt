use Rattle.std.proofs.Common.{Bool, None, Some, ap, refl, ◌∙◌}
use Rattle.std.specs.Prelude.{if◌then◌else◌}
use Rattle.lk_base.specs.declared.code.Code.TheVariants.{LargeType}
use Rattle.lk_typed.specs.Meaning.{meaning}
use Rattle.lk_checker.proofs.Settled.{adjusted_passed, adjusted_puts, made_adjusted, missing_is, none_adjusted}
use Rattle.lk_checker.proofs.checker.Checker.adjusted_of.Goals as goal

pub returns-then-is_missing-clause-puts : goal.returns-then-is_missing-clause-puts
returns-then-is_missing-clause-puts c =
    adjusted_puts c.args.self.now c.keep.new.self (record c.keep.new.self { types = c.adjusted.new.types }) c.keep-2.new.self c.args.at c.unless-code.result c.missing_code-large.result c.requires.sound c.in_ok-keep.ensures
    c.is_table.ensures (record { longer = c.adjusted.ensures.longer; members = c.adjusted.ensures.members; few = c.adjusted.ensures.few }) refl refl refl refl c.in_ok-keep-2.ensures

pub returns-clause-puts : goal.returns-clause-puts
returns-clause-puts c =
    adjusted_puts c.args.self.now c.keep.new.self (record c.keep.new.self { types = c.adjusted.new.types }) c.keep-2.new.self c.args.at c.unless-code.result c.missing_code-large.result c.requires.sound c.in_ok-keep.ensures
    c.is_table.ensures (record { longer = c.adjusted.ensures.longer; members = c.adjusted.ensures.members; few = c.adjusted.ensures.few }) refl refl refl refl c.in_ok-keep-2.ensures

pub returns-then-is_missing-clause-adjusted : goal.returns-then-is_missing-clause-adjusted
returns-then-is_missing-clause-adjusted c = λ env is.
    none_adjusted c.args.self.now c.keep.new.self (record c.keep.new.self { types = c.adjusted.new.types }) c.keep-2.new.self c.args.at c.unless-code.result c.missing_code-large.result c.requires.sound c.in_ok-keep.ensures
    c.is_table.ensures (record { longer = c.adjusted.ensures.longer; members = c.adjusted.ensures.members; few = c.adjusted.ensures.few }) refl refl refl refl c.in_ok-keep-2.ensures c.args.is_named c.args.is_bare_void c.args.t
    c.parameter_code-broken.result c.in_ok-made.made c.parameter_code-broken.ensures c.unless-code.ensures (c.missing_code-large.ensures ∙ ap (λ (b : Bool). if b then None else Some LargeType) c.is_some-2.ensures)
    c.in_ok-made.ensures.ok env is
    (missing_is c.parameter_code-broken.result (meaning c.args.self.now.types c.args.t) _ _ _ _ c.either-is_missing.ensures c.is_some.ensures c.is_void-is_void.ensures c.if-is_missing.true)

pub returns-clause-adjusted : goal.returns-clause-adjusted
returns-clause-adjusted c = λ env is.
    made_adjusted c.args.self.now c.keep.new.self (record c.keep.new.self { types = c.adjusted.new.types }) c.keep-2.new.self c.args.at c.unless-code.result c.missing_code-large.result c.requires.sound c.in_ok-keep.ensures
    c.is_table.ensures (record { longer = c.adjusted.ensures.longer; members = c.adjusted.ensures.members; few = c.adjusted.ensures.few }) refl refl refl refl c.in_ok-keep-2.ensures c.args.is_named c.args.is_bare_void c.args.t
    c.parameter_code-broken.result c.in_ok-made.made c.parameter_code-broken.ensures c.unless-code.ensures (c.missing_code-large.ensures ∙ ap (λ (b : Bool). if b then None else Some LargeType) c.is_some-2.ensures)
    c.in_ok-made.ensures.ok env is
    (missing_is c.parameter_code-broken.result (meaning c.args.self.now.types c.args.t) _ _ _ _ c.either-is_missing.ensures c.is_some.ensures c.is_void-is_void.ensures c.if-is_missing.false)

pub returns-clause-known : goal.returns-clause-known
returns-clause-known c =
    adjusted_passed c.args.self.now c.keep.new.self (record c.keep.new.self { types = c.adjusted.new.types }) c.keep-2.new.self c.args.at c.unless-code.result c.missing_code-large.result c.requires.sound c.in_ok-keep.ensures
    c.is_table.ensures (record { longer = c.adjusted.ensures.longer; members = c.adjusted.ensures.members; few = c.adjusted.ensures.few }) refl refl refl refl c.in_ok-keep-2.ensures c.args.is_named c.args.is_bare_void c.args.t
    c.parameter_code-broken.result c.in_ok-made.made c.parameter_code-broken.ensures c.unless-code.ensures (c.missing_code-large.ensures ∙ ap (λ (b : Bool). if b then None else Some LargeType) c.is_some-2.ensures)
    c.in_ok-made.ensures.ok
    (missing_is c.parameter_code-broken.result (meaning c.args.self.now.types c.args.t) _ _ _ _ c.either-is_missing.ensures c.is_some.ensures c.is_void-is_void.ensures c.if-is_missing.false)
