use Rattle.std.proofs.Common.{◌∙◌, Some, IfSome, sym, ap, subst}
use Rattle.std.specs.Option.{option_map}
use Rattle.lk_types.specs.Table.{IsKnown}
use Rattle.lk_typed.specs.Expressions.{expr_word}
use Rattle.lk_typed.specs.Meaning.{meaning}
use Rattle.lk_check_unit.specs.Initialising.{IsNoWord, IsWord}
use Rattle.lk_found.specs.declared.records.InitialiserKind.TheVariants.{Value, Word}
use Rattle.lk_check_unit.proofs.OfKinds.{grows_recorded, kind_recorded, value_kind, word_kind}
use Rattle.lk_check_unit.proofs.initialisers.expression.Goals as goal

pub word-requires-clause-word : goal.word-requires-clause-word
word-requires-clause-word c = λ env is_in.
    let types = c.args.checker.now.types in
    ap (option_map (meaning types)) (sym c.in-Some.is) ∙ (c.word_type.ensures.word types env ∙ ap (expr_word c.args.e.now) is_in.scope)

pub value-requires-clause-no_word : goal.value-requires-clause-no_word
value-requires-clause-no_word c = λ env is_in.
    let types = c.args.checker.now.types in
    ap (option_map (meaning types)) (sym c.in-None.is) ∙ (c.word_type.ensures.word types env ∙ ap (expr_word c.args.e.now) is_in.scope)

pub returns-in_ok-put_initialiser-in-Some-clause-walks : goal.returns-in_ok-put_initialiser-in-Some-clause-walks
returns-in_ok-put_initialiser-in-Some-clause-walks c =
    let old = c.args.checker.now in
    let e = c.args.e.now in
    let t = c.in-Some.ty in
    let known = subst (λ o. IfSome o (IsKnown old.types)) c.in-Some.is (c.word_type.ensures.known old.types c.requires.sound.scope) in
    let is : IsWord old e t = λ env is_in. ap (option_map (meaning old.types)) (sym c.in-Some.is) ∙ (c.word_type.ensures.word old.types env ∙ ap (expr_word e) is_in.scope) in
    kind_recorded c.args.target.now e old c.word.new.checker c.put_initialiser.new.self (Word t) c.in_ok-is_fit-in-Some.is_fit c.requires.sound c.in_ok-is_fit-in-Some.ensures.grows (word_kind old e t known is)
    c.in_ok-put_initialiser-in-Some.ensures c.in_ok-is_fit-in-Some.ensures.walks

pub returns-in_ok-put_initialiser-in-None-clause-walks : goal.returns-in_ok-put_initialiser-in-None-clause-walks
returns-in_ok-put_initialiser-in-None-clause-walks c =
    let old = c.args.checker.now in
    let e = c.args.e.now in
    let is : IsNoWord old e = λ env is_in. ap (option_map (meaning old.types)) (sym c.in-None.is) ∙ (c.word_type.ensures.word old.types env ∙ ap (expr_word e) is_in.scope) in
    kind_recorded c.args.target.now e old c.value.new.checker c.put_initialiser-in-None.new.self Value c.in_ok-is_typed-in-None.is_typed c.requires.sound c.in_ok-is_typed-in-None.ensures.grows (value_kind old e is)
    c.in_ok-put_initialiser-in-None.ensures c.in_ok-is_typed-in-None.ensures.walks
