use Rattle.std.proofs.Common.{◌≡◌, ◌∙◌, true, arith, ap, sym, subst}
use Rattle.std.proofs.lemmas.List.{length-map}
use Rattle.lk_types.specs.Building.{types_of}
use Rattle.lk_types.specs.Sizes.{start_size, is_over, with_part, with_types}
use Rattle.lk_types.specs.Table.{IsKnown}
use Rattle.lk_types.proofs.SizeLemmas.{fields_size_is, step_size, step_large, all_taken, types_got, all_read}
use Rattle.lk_types.proofs.table.TypeTable.members_size.Goals as goal

pub size-requires : goal.size-requires
size-requires c =
    let ms = c.args.members.now in
    let at = types_got ms c.loop-member.member-index c.member-item.result c.loop-member-test.true c.member-item.is in
    all_read (IsKnown c.args.self.now) (types_of ms) c.loop-member.member-index c.member-item.result.ty c.requires at

pub loop-member-preserved : goal.loop-member-preserved
loop-member-preserved c =
    let ms = c.args.members.now in
    let i = c.loop-member.member-index in
    let at = types_got ms i c.member-item.result c.loop-member-test.true c.member-item.is in (
      c.in-Some.ensures.0 ∙ ap (with_part c.loop-member.size) c.size.ensures.value ∙ step_size c.args.self.now start_size (types_of ms) i c.member-item.result.ty c.loop-member.size at c.loop-member.invariant.0,
      ap is_over c.in-Some.ensures.0 ∙ c.in-Some.ensures.1,
    )

pub returns-in-None : goal.returns-in-None
returns-in-None c =
    let now = c.args.self.now in
    let ms = c.args.members.now in
    let i = c.loop-member.member-index in
    let at = types_got ms i c.member-item.result c.loop-member-test.true c.member-item.is in
    ap is_over (fields_size_is now (types_of ms)) ∙
    step_large now start_size (types_of ms) i c.member-item.result.ty c.loop-member.size at c.loop-member.invariant.0
    (subst (λ p. is_over (with_part c.loop-member.size p) ≡ true) c.size.ensures.value c.in-None.ensures)

pub returns : goal.returns
returns c =
    let now = c.args.self.now in
    let ts = types_of c.args.members.now in
    let past = all_taken ts c.loop-member.member-index (omega (arith, length-map c.args.members.now (λ member. member.ty), c.loop-member-test.false)) in
    let is = c.loop-member.invariant.0 ∙ ap (with_types now start_size) past ∙ sym (fields_size_is now ts) in
    (is, sym (ap is_over is) ∙ c.loop-member.invariant.1)
