-- The codes of a struct that a member makes too large are kept.
use Rattle.std.proofs.Common.{◌≡◌, Bool, false, Option, sym, subst}
use Rattle.std.specs.Prelude.{◌||◌}
use Rattle.lk_tree.specs.declared.expression.Declarator.{Declarator}
use Rattle.lk_typed.specs.Env.{Additions, Env}
use Rattle.lk_typed.specs.Expressions.{declarator_found}
use Rattle.lk_typed.specs.Layers.{faulty_member}
use Rattle.lk_typed.specs.Told.{MemberTold, then_member}
use Rattle.lk_typed.specs.Ty.{Ty}
use Rattle.lk_found.specs.Keepings.{KeepsEach}
use Rattle.lk_found.specs.MembersOf.{AreMembers, TellsFields, member_codes, member_of}
use Rattle.lk_found.specs.declared.fields.MembersFound.{MembersFound}
use Rattle.lk_found.proofs.MemberCodes.{tells_failed, holds_or, with_sizeof, tells_of}
use Rattle.lk_checker.specs.MembersOf.{PutsMember}
use Rattle.lk_checker.specs.States.{kept_in}
use Rattle.lk_checker.specs.declared.checker.Checker.{Checker}

module _ (old new : Checker) (behind : Env) (bit_field : Bool) (others : MemberTold) (d : Declarator) (t : Option Ty) (holds : Bool) (before middle after : MembersFound) (same_types : new.types ≡ old.types)
    (put : middle ≡ record before { holds_sizeof = before.holds_sizeof || holds }) (kept : after.holds_sizeof ≡ middle.holds_sizeof) (are : AreMembers old.types before others) where
  abbrev told_of : Additions → MemberTold
  told_of added = member_of behind bit_field others.fields (declarator_found d).name t (faulty_member added holds)

  pub puts_member : KeepsEach (kept_in old) (member_codes behind others.fields d t) (kept_in new) →
      ((added : Additions) → TellsFields old.types after (then_member others (told_of added))) → PutsMember old new behind bit_field others d t holds after
  puts_member keeps tells = record {
    keeps = keeps;
    members = λ added. subst (λ table. AreMembers table after (then_member others (told_of added))) (sym same_types)
        (with_sizeof old.types before middle after others (told_of added) holds put kept are.holds_sizeof (holds_or behind bit_field others.fields (declarator_found d).name t added holds) (tells added));
  }

  -- none is put
  pub puts_none : KeepsEach (kept_in old) (member_codes behind others.fields d t) (kept_in new) → after ≡ record middle { is_sound = false } →
      ((added : Additions) → told_of added ≡ faulty_member added holds) → PutsMember old new behind bit_field others d t holds after
  puts_none keeps failed faulty =
      puts_member keeps (λ added. tells_failed old.types middle after others (told_of added) added holds failed (tells_of old.types before middle others holds put are) (faulty added))
