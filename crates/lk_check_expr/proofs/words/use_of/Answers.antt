use Rattle.std.proofs.Common.{rules, ◌≡◌, ◌∙◌, ◌++◌, sym, ap, subst, to_z, of_z}
use Rattle.std.specs.Int.{w128}
use Rattle.lk_base.specs.declared.kind.Kind.TheVariants.{Int}
use Rattle.lk_typed.specs.declared.constant.Constant.TheVariants.{Known}
use Rattle.lk_typed.specs.Meaning.{meaning}
use Rattle.lk_typed.specs.Names.{IsKnownMeaning, meaning_in}
use Rattle.lk_typed.specs.Typing.{integer}
use Rattle.lk_typed.specs.Typings.{IsTyping, IsVerdict}
use Rattle.lk_typed.specs.Words as spec
use Rattle.lk_typed.specs.Words.{refused_codes, function_codes}
use Rattle.lk_typed.proofs.Verdicts.{both_least, unless_verdict}
use Rattle.lk_check_expr.specs.NameUses.{told_if_refused}
use Rattle.lk_check_expr.proofs.Refusals.{silent_verdict}
use Rattle.lk_check_expr.proofs.words.use_of.Goals as goal

pub returns-in-Object : goal.returns-in-Object
returns-in-Object c = λ env n used.
    let table = c.args.types.now in
    let name = c.args.name.now in
    subst (λ m. IsVerdict table c.unless.result (spec.use_of env name n (meaning_in table m))) (sym c.in-Object.is)
    (unless_verdict table c.place.result (refused_codes env name) _ c.unless.ensures (c.refused_code-refused.ensures env used.defined)
    (c.place.ensures table _ (subst (IsKnownMeaning table) c.in-Object.is c.requires.known)))

pub returns-in-Function : goal.returns-in-Function
returns-in-Function c = λ env n used.
    let table = c.args.types.now in
    let name = c.args.name.now in
    let t = c.in-Function.t in
    let refused = c.refused_code-refused.ensures env used.defined in
    let code = both_least (refused_codes env name) (function_codes env name (meaning table t)) refused (c.function_code-code.ensures env used) c.lesser-both.ensures in
    subst (λ m. IsVerdict table c.unless-in-Function.result (spec.use_of env name n (meaning_in table m))) (sym c.in-Function.is)
    (unless_verdict table c.function_named.result (refused_codes env name ++ function_codes env name (meaning table t)) (spec.function_named (meaning table t) n) c.unless-in-Function.ensures code
    (c.function_named.ensures table n (subst (IsKnownMeaning table) c.in-Function.is c.requires.known)))

pub returns-in-Enumerator : goal.returns-in-Enumerator
returns-in-Enumerator c = λ env n used.
    let table = c.args.types.now in
    let name = c.args.name.now in
    let value = c.in-Enumerator.value in
    let exact : to_z w128 (of_z w128 value) ≡ value = search rules in
    let typed = subst (λ z. IsTyping table c.integer.result (integer Int (Known z))) exact (c.integer.ensures table c.requires.ready) in
    subst (λ m. IsVerdict table c.unless-in-Enumerator.result (spec.use_of env name n (meaning_in table m))) (sym c.in-Enumerator.is)
    (unless_verdict table c.integer.result (refused_codes env name) (integer Int (Known value)) c.unless-in-Enumerator.ensures (c.refused_code-refused.ensures env used.defined) typed)

pub returns-in-Faulty : goal.returns-in-Faulty
returns-in-Faulty c = λ env n used.
    let table = c.args.types.now in
    let name = c.args.name.now in
    subst (λ m. IsVerdict table c.silent_unless.result (spec.use_of env name n (meaning_in table m))) (sym c.in-Faulty.is)
    (subst (λ v. IsVerdict table v (spec.silent_unless (refused_codes env name))) (sym (c.silent_unless.ensures ∙ ap told_if_refused (c.refused_code-refused.ensures env used.defined)))
    (silent_verdict table (refused_codes env name)))
