use Rattle.std.proofs.Common.{refl, subst, sym, ◌∙◌, ap, ◌≡◌, ◌+◌, Some, slice_get}
use Rattle.std.proofs.lemmas.Option.{same_Some, slice_get_within}
use Rattle.lk_lower_parts.proofs.Mains.{main_is}
use Rattle.lk_lower_parts.specs.Wholes.{IsDeclaredHere}
use Rattle.lk_lower_parts.proofs.start.main_of.Goals as goal

pub source_of-linked-requires : goal.source_of-linked-requires
source_of-linked-requires c = let is = c.definition_of_main-source.ensures.there in slice_get_within c.args.whole.now.sources c.definition_of_main-source.result.0 is.linked is.at

pub declared_at-requires : goal.declared_at-requires
declared_at-requires c =
    let is = c.definition_of_main-source.ensures.there in
    subst (λ linked. IsDeclaredHere linked c.definition_of_main-source.result.1) (same_Some is.linked c.source_of-linked.result.now (sym is.at ∙ c.source_of-linked.ensures)) is.declared

pub returns : goal.returns
returns c =
    let whole = c.args.whole.now in
    let found = c.definition_of_main-source.result in
    let is = c.definition_of_main-source.ensures.there in
    let linked = c.source_of-linked.result.now in
    let same = same_Some is.linked linked (sym is.at ∙ c.source_of-linked.ensures) in
    main_is whole c.args.functions.now _ found.0 found.1 c.in_ok-b.b linked c.in_ok-b.body.now c.declared_at.result.0.now c.declared_at.result.1.now
    c.definition_of_main-source.ensures.defined c.source_of-linked.ensures (subst (λ l. slice_get l.entities found.1 ≡ Some whole.main) same is.numbered) c.in_ok-b.ensures.at c.in_ok-b.ensures.of c.declared_at.ensures.at c.declared_at.ensures.by
    (c.in_ok-function.ensures ∙ ap (λ n. n + c.in_ok-b.b) c.first_of-first.ensures) refl refl
