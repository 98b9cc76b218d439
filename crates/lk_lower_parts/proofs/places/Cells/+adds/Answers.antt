use Rattle.std.proofs.Common.{arith, refl, subst, sym}
use Rattle.std.proofs.lemmas.Result.{on_ok_weaker}
use Rattle.lk_lower_parts.proofs.CellLists.{both_ok, other_from, value_from, value_put, lock_put, other_put, array_put, struct_put, inner_put, member_put}
use Rattle.lk_lower_parts.proofs.Reached.{array_lower, form_is, members_lower}
use Rattle.lk_lower_parts.proofs.places.Cells.+adds.Goals as goal
use Rattle.lk_types.specs.Building.{IsMadeOf}
use Rattle.lk_types.specs.Sizes.{HasLowerParts}

pub push-push_inner-requires : goal.push-push_inner-requires
push-push_inner-requires t c = (
  omega arith,
  (
    c.requires.node,
    (
      tt,
      array_lower c.args.types.now c.args.part.now.node c.get.result.now c.in-Array.field-0 c.in-Array.field-1
          (form_is c.args.types.now c.args.part.now.node c.node_type.result c.get.result.now c.get.ensures.value c.node_type.ensures.value) c.in-Array.is
          (subst (λ u. HasLowerParts c.args.types.now u c.get.result.now) c.node_type.ensures.value c.get.ensures.lower),
    ),
  ),
)

pub push-count_members-requires : goal.push-count_members-requires
push-count_members-requires t c = (subst (IsMadeOf c.args.types.now c.node_type.result) c.in-Struct.is c.get.ensures.made_of).0

pub push-push_members-requires : goal.push-push_members-requires
push-push_members-requires t c = (
  omega arith,
  (
    c.requires.node,
    members_lower c.args.types.now c.args.part.now.node c.get.result.now c.in-Struct.s c.in_ok-count_members-in-Struct.field-0
        (form_is c.args.types.now c.args.part.now.node c.node_type.result c.get.result.now c.get.ensures.value c.node_type.ensures.value) c.in-Struct.is c.in_ok-count_members-in-Struct.ensures
        (subst (λ u. HasLowerParts c.args.types.now u c.get.result.now) c.node_type.ensures.value c.get.ensures.lower),
  ),
)

pub push-returns-in-Mutex : goal.push-returns-in-Mutex
push-returns-in-Mutex t c =
    both_ok c.push_lock.result
    (λ same put. lock_put c.args.types.now c.args.part.now c.args.self.now c.push_lock.new.self c.get.result.now (form_is c.args.types.now c.args.part.now.node c.node_type.result c.get.result.now c.get.ensures.value c.node_type.ensures.value) c.in-Mutex.is same put)
    c.push_lock.ensures.values c.push_lock.ensures.locks

pub push-returns-in-Array : goal.push-returns-in-Array
push-returns-in-Array t c =
    on_ok_weaker c.push_inner.result
    (λ adds. array_put c.args.types.now c.args.part.now c.args.self.now c.push_inner.new.self c.get.result.now c.in-Array.field-0 c.in-Array.field-1
    (form_is c.args.types.now c.args.part.now.node c.node_type.result c.get.result.now c.get.ensures.value c.node_type.ensures.value) c.in-Array.is adds)
    c.push_inner.ensures

pub push-returns-in_ok-count_members-in-Struct : goal.push-returns-in_ok-count_members-in-Struct
push-returns-in_ok-count_members-in-Struct t c =
    on_ok_weaker c.push_members.result
    (λ adds. struct_put c.args.types.now c.args.part.now c.args.self.now c.push_members.new.self c.get.result.now c.in-Struct.s c.in_ok-count_members-in-Struct.field-0
    (form_is c.args.types.now c.args.part.now.node c.node_type.result c.get.result.now c.get.ensures.value c.node_type.ensures.value) c.in-Struct.is c.in_ok-count_members-in-Struct.ensures adds)
    c.push_members.ensures

pub push-returns-in-Void : goal.push-returns-in-Void
push-returns-in-Void t c = other_put c.args.types.now c.args.part.now c.args.self.now c.get.result.now (form_is c.args.types.now c.args.part.now.node c.node_type.result c.get.result.now c.get.ensures.value c.node_type.ensures.value) (other_from c.in-Void.is)

pub push-returns-in-Void-2 : goal.push-returns-in-Void-2
push-returns-in-Void-2 t c = other_put c.args.types.now c.args.part.now c.args.self.now c.get.result.now (form_is c.args.types.now c.args.part.now.node c.node_type.result c.get.result.now c.get.ensures.value c.node_type.ensures.value) (other_from c.in-Void.is)

pub push-returns-in-Void-3 : goal.push-returns-in-Void-3
push-returns-in-Void-3 t c = other_put c.args.types.now c.args.part.now c.args.self.now c.get.result.now (form_is c.args.types.now c.args.part.now.node c.node_type.result c.get.result.now c.get.ensures.value c.node_type.ensures.value) (other_from c.in-Void.is)

pub push-returns-in-Void-4 : goal.push-returns-in-Void-4
push-returns-in-Void-4 t c = other_put c.args.types.now c.args.part.now c.args.self.now c.get.result.now (form_is c.args.types.now c.args.part.now.node c.node_type.result c.get.result.now c.get.ensures.value c.node_type.ensures.value) (other_from c.in-Void.is)

pub push-returns-in-Int : goal.push-returns-in-Int
push-returns-in-Int t c =
    both_ok c.push_value.result
    (λ put same. value_put c.args.types.now c.args.part.now c.args.self.now c.push_value.new.self c.get.result.now (form_is c.args.types.now c.args.part.now.node c.node_type.result c.get.result.now c.get.ensures.value c.node_type.ensures.value) (value_from c.in-Int.is) put same)
    c.push_value.ensures.values c.push_value.ensures.locks

pub push_inner-returns : goal.push_inner-returns
push_inner-returns t c =
    on_ok_weaker c.push.result
    (λ adds. inner_put c.args.types.now c.args.part.now (record { root = c.args.part.now.root; node = c.in-Some.field-0 }) c.args.sel c.args.self.now c.push.new.self refl
    (record { node = c.in-Some.ensures.node; leads = sym c.in-Some.ensures.exact }) adds)
    c.push.ensures

pub push_members-loop-k-preserved : goal.push_members-loop-k-preserved
push_members-loop-k-preserved t c =
    member_put c.args.types.now c.args.part.now c.loop-k.k c.args.self.now c.loop-k.self c.push_inner.new.self c.loop-k.invariant c.in_ok-push_inner.ensures
