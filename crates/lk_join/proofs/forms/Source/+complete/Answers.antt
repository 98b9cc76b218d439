use Rattle.std.proofs.Common.{◌≡◌, Some, arith, length, subst, sym, take}
use Rattle.std.proofs.lemmas.List.{take_all}
use Rattle.std.proofs.lemmas.List.Elements.{All-more, All-nil}
use Rattle.std.specs.List.{slice_get}
use Rattle.std.specs.Prelude.{All}
use Rattle.lk_types.specs.Table.{IsKnown, members_of}
use Rattle.lk_types.specs.declared.member.StructMember.{StructMember}
use Rattle.lk_types.proofs.KeptLemmas.{read_got}
use Rattle.lk_types.proofs.SizeLemmas.{all_read}
use Rattle.lk_join.specs.Completing.{IsHeld}
use Rattle.lk_join.specs.Large.{struct_size}
use Rattle.lk_join.proofs.Carrying.{all_held_later, held_struct, inside_before, inside_fewer, stays_more, stays_same, stays_then, still_open}
use Rattle.lk_join.proofs.Completed.{gives_same, gives_then}
use Rattle.lk_join.proofs.Stepping.{below_more, member_below}
use Rattle.lk_join.proofs.forms.Source.+complete.Goals as goal

pub returns-then-is_completed-clause-gives : goal.returns-then-is_completed-clause-gives
returns-then-is_completed-clause-gives t c = gives_same c.args.self.now.types.now c.args.self.now.structs.now c.args.row.now c.args.table.now

pub returns-then-is_completed-clause-completed : goal.returns-then-is_completed-clause-completed
returns-then-is_completed-clause-completed t c = c.is_completed.ensures.done c.if-is_completed.true

pub returns-then-is_completed-clause-stays : goal.returns-then-is_completed-clause-stays
returns-then-is_completed-clause-stays t c = stays_same c.args.self.now.types.now c.args.self.now.structs.now _ c.args.table.now

pub loop-member-init : goal.loop-member-init
loop-member-init t c =
    let types = c.args.self.now.types.now in
    let structs = c.args.self.now.structs.now in
    let table = c.args.table.now in (
      gives_same types structs c.args.row.now table,
      c.requires.joining,
      stays_same types structs (struct_size types c.args.s).steps table,
      All-nil (λ (member : StructMember). IsHeld types structs table member.ty),
    )

pub loop-member-preserved : goal.loop-member-preserved
loop-member-preserved t c =
    let types = c.args.self.now.types.now in
    let structs = c.args.self.now.structs.now in
    let row = c.args.row.now in
    let s = c.args.s in
    let old = c.args.table.now in
    let before = c.loop-member.table in
    let after = c.complete.new.table in
    let gives = c.in_ok-complete.ensures.gives in
    let n = c.loop-member.member-index in
    let member = c.member-item.result in
    let items = c.members-member-items.result.now in
    let at = subst (λ ms. slice_get ms n ≡ Some member) c.members-member-items.ensures (read_got items n member c.loop-member-test.true c.member-item.is) in
    let struct_at = c.in-Some.ensures.exact in
    let fewer = inside_fewer types c.requires.joining.source s n c.in-Some.inside member at struct_at in
    let held = held_struct types structs after member.ty c.in-Some.inside struct_at c.in_ok-complete.ensures.completed in (
      gives_then types structs row old before after c.loop-member.invariant.0 gives,
      c.in_ok-complete.ensures.joining,
      stays_then types structs (struct_size types s).steps old before after c.loop-member.invariant.2 (stays_more types structs _ _ before after fewer c.in_ok-complete.ensures.stays),
      All-more (λ (m : StructMember). IsHeld types structs after m.ty) items n member c.loop-member-test.true
          (all_held_later types structs before after gives.longer (take n items) c.loop-member.invariant.3)
          (subst (λ (m : StructMember). IsHeld types structs after m.ty) c.member-item.is held),
    )

pub struct_of-requires : goal.struct_of-requires
struct_of-requires t c =
    let types = c.args.self.now.types.now in
    let s = c.args.s in
    let n = c.loop-member.member-index in
    let member = c.member-item.result in
    let items = c.members-member-items.result.now in
    let at = subst (λ ms. slice_get ms n ≡ Some member) c.members-member-items.ensures (read_got items n member c.loop-member-test.true c.member-item.is) in
    all_read (λ (m : StructMember). IsKnown types m.ty) (members_of types s) n member (c.args.self.now.all_members s c.requires.steps.known) at

pub overflow_sub-steps : goal.overflow_sub-steps
overflow_sub-steps t c =
    let types = c.args.self.now.types.now in
    let s = c.args.s in
    let n = c.loop-member.member-index in
    let member = c.member-item.result in
    let items = c.members-member-items.result.now in
    let at = subst (λ ms. slice_get ms n ≡ Some member) c.members-member-items.ensures (read_got items n member c.loop-member-test.true c.member-item.is) in
    let low = member_below types c.args.steps s n member at c.requires.steps in
    omega (arith, low)

pub complete-requires : goal.complete-requires
complete-requires t c =
    let types = c.args.self.now.types.now in
    let s = c.args.s in
    let n = c.loop-member.member-index in
    let member = c.member-item.result in
    let items = c.members-member-items.result.now in
    let at = subst (λ ms. slice_get ms n ≡ Some member) c.members-member-items.ensures (read_got items n member c.loop-member-test.true c.member-item.is) in
    let low = member_below types c.args.steps s n member at c.requires.steps in
    let shut = (c.is_completed.ensures.lacks c.if-is_completed.false).shut in (
      omega (arith, low),
      (
        c.loop-member.invariant.1,
        (
          below_more types _ _ c.in-Some.inside (omega (arith, low)) c.in-Some.ensures.steps,
          λ inner. inside_before types (length c.args.row.now) s n c.in-Some.inside member at c.in-Some.ensures.exact shut (c.requires.before shut),
        ),
      ),
    )

pub give_members-requires-clause-before : goal.give_members-requires-clause-before
give_members-requires-clause-before t c = c.requires.before (c.is_completed.ensures.lacks c.if-is_completed.false).shut

pub give_members-requires-clause-here : goal.give_members-requires-clause-here
give_members-requires-clause-here t c =
    still_open c.args.self.now.types.now c.args.self.now.structs.now c.args.table.now c.loop-member.table c.args.s (c.is_completed.ensures.lacks c.if-is_completed.false) c.loop-member.invariant.2

pub give_members-requires-clause-held : goal.give_members-requires-clause-held
give_members-requires-clause-held t c =
    let types = c.args.self.now.types.now in
    let structs = c.args.self.now.structs.now in
    let items = c.members-member-items.result.now in
    let past = c.loop-member-test.false in
    subst (All (λ (m : StructMember). IsHeld types structs c.loop-member.table m.ty)) c.members-member-items.ensures
    (subst (All (λ (m : StructMember). IsHeld types structs c.loop-member.table m.ty)) (take_all c.loop-member.member-index items (omega (arith, past))) c.loop-member.invariant.3)

pub returns-clause-gives : goal.returns-clause-gives
returns-clause-gives t c =
    gives_then c.args.self.now.types.now c.args.self.now.structs.now c.args.row.now c.args.table.now c.loop-member.table c.give_members.new.table c.loop-member.invariant.0
    c.in_ok-give_members.ensures.gives

pub returns-clause-stays : goal.returns-clause-stays
returns-clause-stays t c =
    let types = c.args.self.now.types.now in
    let structs = c.args.self.now.structs.now in
    let before = c.loop-member.table in
    stays_then types structs _ c.args.table.now before c.give_members.new.table
    (stays_more types structs (struct_size types c.args.s).steps _ c.args.table.now before (omega arith) c.loop-member.invariant.2) c.in_ok-give_members.ensures.stays
