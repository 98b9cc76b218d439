-- A member is put into its struct, and its codes are kept (C99 6.7.2.1).
use Rattle.std.specs.Prelude.{Bool, Option, Some, List}
use Rattle.lk_tree.specs.declared.expression.Declarator.{Declarator}
use Rattle.lk_typed.specs.Env.{Additions, Env, Field}
use Rattle.lk_typed.specs.Expressions.{declarator_found}
use Rattle.lk_typed.specs.Layers.{faulty_member}
use Rattle.lk_typed.specs.Nodes.{IsMember}
use Rattle.lk_typed.specs.Told.{MemberTold, Named, then_member}
use Rattle.lk_typed.specs.Ty.{Ty}
use Rattle.lk_found.specs.Declarators.{name_codes}
use Rattle.lk_found.specs.Keepings.{KeepsEach}
use Rattle.lk_found.specs.declared.fields.MembersFound.{MembersFound}
use Rattle.lk_found.specs.MembersOf.{AreMembers, member_of, member_codes}
use Rattle.lk_checker.specs.States.{kept_in}
use Rattle.lk_checker.specs.declared.checker.Checker.{Checker}

-- the codes of its name are kept, where it has one
abbrev pub KeepsName : Checker → Checker → Env → List Field → Option Named → Ty → Type 0
KeepsName old new behind before name t =
    KeepsEach (kept_in old) (name_codes behind (Some t) (IsMember before) name) (kept_in new)

-- the codes of its name and of the struct with it are kept, and its field is put
pub record PutsMember (old new : Checker) (behind : Env) (bit_field : Bool) (others : MemberTold)
    (d : Declarator) (t : Option Ty) (holds : Bool) (after : MembersFound) : Type 0 where
  pub keeps : KeepsEach (kept_in old) (member_codes behind others.fields d t) (kept_in new)
  pub members : (added : Additions) →
      AreMembers new.types after
      (then_member others (member_of behind bit_field others.fields (declarator_found d).name t (faulty_member added holds)))
