use Rattle.std.proofs.Common.{◌∙◌, ap, subst}
use Rattle.std.proofs.lemmas.Option.{slice_get_within}
use Rattle.lk_base.specs.declared.kind.Kind.TheVariants as kind
use Rattle.lk_types.specs.declared.c_type.CType.TheVariants as forms
use Rattle.lk_types.proofs.NewLemmas.{predeclared_types_stay}
use Rattle.lk_typed.specs.Meaning.{IsReady}
use Rattle.lk_typed.specs.Ty.{Array, char}
use Rattle.lk_typed.specs.Typing.{AtText, place_of_type}
use Rattle.lk_typed.specs.Typings.{IsTyping}
use Rattle.lk_typed.specs.Words.{whole_of}
use Rattle.lk_typed.proofs.Elements.{few_put}
use Rattle.lk_typed.proofs.FirstTypes.{kind_means}
use Rattle.lk_typed.proofs.Meanings.{meaning_by}
use Rattle.lk_check_expr.proofs.CharArrays.{has_few, is_small}
use Rattle.lk_check_expr.proofs.texts.text.Goals as goal

pub put-requires-clause-small : goal.put-requires-clause-small
put-requires-clause-small c = is_small c.args.types.now c.requires.ready c.count_of-count.result

pub returns-clause-ready : goal.returns-clause-ready
returns-clause-ready c =
    record { table_is = c.is_table-2.ensures; predeclared = predeclared_types_stay c.args.types.now c.put.new.self c.put.ensures.longer c.requires.ready.predeclared }

pub returns-clause-value : goal.returns-clause-value
returns-clause-value c = λ n.
    let new = c.put.new.self in
    let count = c.count_of-count.result in
    let form = forms.Array 2 count in
    let got = c.in_ok-t.ensures.known in
    let known = slice_get_within new.types c.in_ok-t.t form got in
    let ready : IsReady new = record { table_is = c.is_table-2.ensures; predeclared = predeclared_types_stay c.args.types.now new c.put.ensures.longer c.requires.ready.predeclared } in
    let means = meaning_by new c.is_table-2.ensures c.in_ok-t.t form known got ∙ ap (λ a. Array a count) (kind_means new ready kind.Char) ∙ ap (Array char) c.count_of-count.ensures.value in
    subst (λ a. IsTyping new c.place.result (place_of_type a (whole_of (AtText n)))) means (c.place.ensures new (whole_of (AtText n)) known)

pub returns-clause-few : goal.returns-clause-few
returns-clause-few c =
    let count = c.count_of-count.result in
    few_put c.args.types.now c.put.new.self (forms.Array 2 count) c.in_ok-t.t c.requires.ready.table_is c.is_table-2.ensures c.put.ensures.longer c.in_ok-t.ensures.put
    (has_few c.args.types.now c.requires.ready count c.count_of-count.ensures.few) c.requires.few
