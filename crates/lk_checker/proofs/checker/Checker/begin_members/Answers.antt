use Rattle.std.proofs.Common.{◌≡◌, ◌∙◌, [], ◌∷◌, Some, ap, refl, subst, sym}
use Rattle.std.specs.List.{slice_get}
use Rattle.lk_types.proofs.GrowLemmas.{longer_same}
use Rattle.lk_typed.specs.Env.{Completes}
use Rattle.lk_typed.specs.Told.{steps}
use Rattle.lk_typed.specs.Typings.{members_in}
use Rattle.lk_typed.specs.declared.members.Members.TheVariants.{NotYet, Begun}
use Rattle.lk_names.specs.InScope.{InScope}
use Rattle.lk_found.proofs.Completing.{begun_stays, got_set}
use Rattle.lk_checker.proofs.Completing.{step_sound}
use Rattle.lk_checker.proofs.States.{goes_on}
use Rattle.lk_checker.proofs.checker.Checker.begin_members.Goals as goal

pub returns-clause-grows : goal.returns-clause-grows
returns-clause-grows c =
    let old = c.args.self.now in
    let new = record old { names = c.set_members.new.self } in
    record {
      longer = longer_same old.types;
      sound = step_sound old new c.args.s NotYet Begun c.requires.sound refl c.set_members.ensures.value c.requires.may_begin refl tt (c.set_members.ensures.known old.types c.requires.sound.scope tt);
      outside = refl;
      kept = refl;
      records = refl;
    }

pub returns-clause-behind : goal.returns-clause-behind
returns-clause-behind c =
    let old = c.args.self.now in
    let new = record old { names = c.set_members.new.self } in
    goes_on old new (λ table. steps (Completes c.args.s (members_in table Begun) ∷ [])) c.requires.sound (longer_same old.types) c.set_members.ensures.adds refl

pub returns-clause-begun : goal.returns-clause-begun
returns-clause-begun c = λ t got.
    let structs = c.args.self.now.names.structs in
    subst (λ (names : InScope). slice_get names.structs t ≡ Some Begun) (sym c.set_members.ensures.value) (begun_stays structs c.args.s t got)

pub returns-clause-is : goal.returns-clause-is
returns-clause-is c =
    let structs = c.args.self.now.names.structs in
    ap (λ (names : InScope). slice_get names.structs c.args.s) c.set_members.ensures.value ∙ got_set structs c.args.s NotYet Begun c.requires.may_begin
