use Rattle.std.proofs.Common.{◌≡◌, ◌∙◌, None, Some, ap, subst, sym}
use Rattle.std.specs.Option.{option_copied, option_map}
use Rattle.std.specs.Prelude.{IfSome}
use Rattle.lk_typed.specs.Env.{look_up}
use Rattle.lk_typed.specs.Names.{IsKnownMeaning, IsKnownName, declared_in, meaning_in}
use Rattle.lk_found.specs.Uses.{IsMeant}
use Rattle.lk_checker.proofs.checker.Checker.meant_here.Goals as goal

pub returns-in-Some : goal.returns-in-Some
returns-in-Some c = λ env is_in.
    let table = c.args.self.now.types in
    let d = c.in-Some.declared.now in
    let same : Some (declared_in table d) ≡ look_up env c.args.name.now =
    ap (λ o. option_map (declared_in table) (option_copied o)) (sym c.in-Some.is) ∙ c.look_up.ensures.env table env ∙ ap (λ env. look_up env c.args.name.now) is_in.scope in
    let known = subst (λ o. IfSome (option_copied o) (IsKnownName table)) c.in-Some.is (c.look_up.ensures.known table c.requires.scope) in
    subst (IsMeant table (Some c.meant_by.result)) same
    (record {
      meaning = ap (meaning_in table) c.meant_by.ensures.meaning;
      ordinal = c.meant_by.ensures.ordinal;
      known = subst (IsKnownMeaning table) (sym c.meant_by.ensures.meaning) known;
    })

pub returns-in-None : goal.returns-in-None
returns-in-None c = λ env is_in.
    let table = c.args.self.now.types in
    let same : None ≡ look_up env c.args.name.now =
    ap (λ o. option_map (declared_in table) (option_copied o)) (sym c.in-None.is) ∙ c.look_up.ensures.env table env ∙ ap (λ env. look_up env c.args.name.now) is_in.scope in
    subst (IsMeant table None) same tt
