use Rattle.std.proofs.Common.{◌∙◌, ap, not, refl}
use Rattle.lk_join.specs.Entities.IsTold.{declared}
use Rattle.lk_join.proofs.Named.{defined_told, none_of, some_of, told_at}
use Rattle.lk_join.proofs.entities.Entities.tell.Goals as goal

pub returns-then-is_none : goal.returns-then-is_none
returns-then-is_none c =
    let there = c.index_mut-there.result.now in
    let is = c.args.is.now in
    let none = none_of is.defined (c.is_none.ensures ∙ ap not c.if-is_none.true) in
    told_at _ c.args.self.now _ c.args.number there is _ c.self.view_is c.requires.there c.index_mut-there.ensures.value c.requires.may (λ tells. declared none) refl refl

pub returns : goal.returns
returns c =
    let there = c.index_mut-there.result.now in
    let is = c.args.is.now in
    let some = some_of is.defined (c.is_none.ensures ∙ ap not c.if-is_none.false) in
    told_at _ c.args.self.now _ c.args.number there is _ c.self.view_is c.requires.there c.index_mut-there.ensures.value c.requires.may (defined_told there is some.0 some.1) refl refl
