use Rattle.std.proofs.Common.{◌∙◌, Some, refl, sym, ap}
use Rattle.std.specs.Option.{option_map}
use Rattle.lk_typed.specs.Declarations.{type_with_old}
use Rattle.lk_typed.specs.Env.{Env}
use Rattle.lk_typed.specs.Meaning.{meaning}
use Rattle.lk_checker.proofs.States.{grown_sound}
use Rattle.lk_check_unit.proofs.entities.type_with_old.Goals as goal

pub returns-in_ok-made-in-Some-clause-puts : goal.returns-in_ok-made-in-Some-clause-puts
returns-in_ok-made-in-Some-clause-puts c =
    let made = c.in_ok-made-in-Some.ensures in
    record {
      grows = record {
        longer = made.longer;
        sound = grown_sound c.args.checker.now (record c.args.checker.now { types = c.composite_if_equal.new.types }) c.requires.sound c.is_table.ensures
            (record { longer = made.longer; members = made.members; few = λ few. made.few }) refl;
        outside = refl;
        kept = refl;
        records = refl;
      };
      names = refl;
    }

pub returns-in_ok-made-in-Some-clause-value : goal.returns-in_ok-made-in-Some-clause-value
returns-in_ok-made-in-Some-clause-value c = λ env is_in.
    let types = c.args.checker.now.types in
    ap Some c.in_ok-made-in-Some.ensures.means ∙
    (sym (ap (λ (e : Env). type_with_old e c.args.name.now c.args.reach (Some (meaning types c.in-Some.t))) (sym is_in.scope) ∙ c.type_to_join-old.ensures.value types env (meaning types c.in-Some.t)) ∙
    ap (λ x. type_with_old env c.args.name.now c.args.reach (option_map (meaning types) x)) (sym c.in-Some.is))
