use Rattle.std.proofs.Common.{◌∙◌, [], ◌∷◌, ap, nat_eq, refl, sym}
use Rattle.std.specs.Option.{option_copied}
use Rattle.lk_typed.specs.Env.{Begins, Env}
use Rattle.lk_typed.specs.Told.{steps}
use Rattle.lk_checker.proofs.Completing.{as_many}
use Rattle.lk_checker.proofs.States.{begun_sound, goes_on}
use Rattle.lk_checker.proofs.Tags.{tag_put}
use Rattle.lk_checker.proofs.checker.Checker.new_struct.Goals as goal

pub returns-clause-grows : goal.returns-clause-grows
returns-clause-grows c =
    let old = c.args.self.now in
    let new = record old { types = c.begin_struct-2.new.self; names = c.begin_struct.new.self; records = c.put_tag.new.self } in
    record {
      longer = c.begin_struct-2.ensures.longer;
      sound = begun_sound old new c.requires c.is_table-2.ensures c.begin_struct-2.ensures.longer c.in_ok-begin_struct.ensures.ok c.in_ok-s.ensures.ok (c.in_ok-s.ensures.known old.types c.requires.scope);
      outside = refl;
      kept = refl;
    }

pub returns-clause-tag : goal.returns-clause-tag
returns-clause-tag c = λ env is.
    let old = c.args.self.now in
    let new = record old { types = c.begin_struct-2.new.self; names = c.begin_struct.new.self; records = c.put_tag.new.self } in
    tag_put old new env (option_copied c.args.tag) c.is_outermost-is_outside.result c.in_ok-put_tag.ensures
    (c.is_outermost-is_outside.ensures ∙ ap (λ (e : Env). nat_eq e.base 0) is.scope)
    (sym c.tag_count.ensures ∙ c.if-tag_count-s.false ∙ c.in_ok-s.ensures.number ∙ sym (as_many old env is))

pub returns-clause-behind : goal.returns-clause-behind
returns-clause-behind c =
    let old = c.args.self.now in
    let new = record old { types = c.begin_struct-2.new.self; names = c.begin_struct.new.self; records = c.put_tag.new.self } in
    goes_on old new (λ table. steps (Begins ∷ [])) c.requires c.begin_struct-2.ensures.longer c.in_ok-s.ensures.adds refl
