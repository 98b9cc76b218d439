use Rattle.std.proofs.Common.{[], ◌∷◌, refl}
use Rattle.lk_types.proofs.GrowLemmas.{longer_same}
use Rattle.lk_typed.specs.Env.{Completes}
use Rattle.lk_typed.specs.Told.{steps}
use Rattle.lk_typed.specs.Typings.{members_in}
use Rattle.lk_typed.specs.declared.members.Members.TheVariants.{Begun, Faulty}
use Rattle.lk_checker.proofs.Completing.{step_sound}
use Rattle.lk_checker.proofs.States.{goes_on}
use Rattle.lk_checker.proofs.checker.Checker.fail_members.Goals as goal

pub returns-clause-grows : goal.returns-clause-grows
returns-clause-grows c =
    let old = c.args.self.now in
    let new = record old { names = c.set_members.new.self } in
    record {
      longer = longer_same old.types;
      sound = step_sound old new c.args.s Begun Faulty c.requires.sound refl c.set_members.ensures.value c.requires.begun refl tt (c.set_members.ensures.known old.types c.requires.sound.scope tt);
      outside = refl;
      kept = refl;
      records = refl;
    }

pub returns-clause-behind : goal.returns-clause-behind
returns-clause-behind c =
    let old = c.args.self.now in
    let new = record old { names = c.set_members.new.self } in
    goes_on old new (λ table. steps (Completes c.args.s (members_in table Faulty) ∷ [])) c.requires.sound (longer_same old.types) c.set_members.ensures.adds refl
