use Rattle.std.proofs.Common.{◌∙◌, ◌∷◌, [], ap, subst, take, map}
use Rattle.std.proofs.lemmas.List.{take_all}
use Rattle.std.proofs.lemmas.Option.{slice_get-get_or}
use Rattle.std.specs.Prelude.{get_or}
use Rattle.lk_typed.specs.declared.entity.Defines.TheVariants as defines
use Rattle.lk_typed.specs.declared.entity.Linkage.TheVariants as linkage
use Rattle.lk_predeclared.specs.Scope.{AddsName, AddsNames, code_declared}
use Rattle.lk_predeclared.specs.Words.{word_meaning, words}
use Rattle.lk_predeclared.specs.declared.words.Word.TheVariants.{Thread}
use Rattle.lk_predeclared.proofs.FirstPlain.{grows_none}
use Rattle.lk_predeclared.proofs.Scopes.{adds_one, adds_then, one_more, word_code, word_declared, word_known, word_means, words_are}
use Rattle.lk_predeclared.proofs.words.declare_words.Goals as goal

pub loop-word-preserved : goal.loop-word-preserved
loop-word-preserved c = λ table ready.
    let k = c.loop-word.word-index in
    let x = get_or words k Thread in
    let old = c.args.names.now in
    let now = c.loop-word.names in
    let new = c.declare.new.names in
    let adds : AddsName now new (word_code x) =
    subst (λ name. AddsName now new (code_declared name (word_meaning x) linkage.None defines.Nothing)) c.name.ensures
    (subst (λ m. AddsName now new (code_declared c.name.result.now m linkage.None defines.Nothing)) c.meaning.ensures c.in_ok-declare.ensures) in
    subst (AddsNames table old table new) (one_more word_declared words k x (slice_get-get_or words k Thread c.loop-word-test.true))
    (adds_then table table table old now new (map word_declared (take k words)) (word_declared x ∷ []) (c.loop-word.invariant table ready)
    (adds_one table table ready.table_is (grows_none table ready).longer now new (word_code x) (word_declared x) (word_known table ready x) (word_means table ready x) adds))

pub returns : goal.returns
returns c = λ table ready.
    subst (AddsNames table c.args.names.now table c.loop-word.names) (ap (map word_declared) (take_all c.loop-word.word-index words c.loop-word-test.false) ∙ words_are) (c.loop-word.invariant table ready)
