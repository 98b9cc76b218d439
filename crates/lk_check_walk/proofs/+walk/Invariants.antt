use Rattle.std.proofs.Common.{take, All, IfSome, ◌+◌, ◌*◌, max, drop}
use Rattle.lk_types.specs.Building.{IsPassed}
use Rattle.lk_tree.specs.declared.expression.Expr.{size-Expr}
use Rattle.lk_types.specs.Table.{IsKnown}
use Rattle.lk_typed.specs.Told.{before_first}
use Rattle.lk_found.specs.Parameters.{types_listed}
use Rattle.lk_found.specs.MembersOf.{HasFields}
use Rattle.lk_checker.specs.Moves.{IsFurther}
use Rattle.lk_checker.specs.States.{IsSound}
use Rattle.lk_check_walk.specs.Parameters.{ListsParameters}
use Rattle.lk_check_walk.proofs.Argued.{AreArgued}
use Rattle.lk_check_walk.proofs.Counts.{LeavesItems}
use Rattle.lk_check_walk.proofs.Finds.{LeavesDeclarators, LeavesMembers}
use Rattle.lk_check_walk.proofs.Gathers.{LeavesSpecifiers}
use Rattle.lk_check_walk.proofs.+walk.Given as goal

abbrev pub invariant-parameters::each_parameter-loop-p : goal.invariant-parameters::each_parameter-loop-p
invariant-parameters::each_parameter-loop-p l =
    IsFurther l.fn.checker l.checker × IfSome (types_listed l.listed) (All (IsPassed l.checker.types)) × ListsParameters l.fn.checker l.checker l.in_size l.is_lone (take l.p-index l.list) l.listed

abbrev pub invariant-arguments::judge_arguments-loop-index : goal.invariant-arguments::judge_arguments-loop-index
invariant-arguments::judge_arguments-loop-index l = AreArgued l.fn.checker l.checker l.f l.in_size (take l.index l.arguments) l.given

abbrev pub decreases-expressions::judge_form : goal.decreases-expressions::judge_form
decreases-expressions::judge_form l = 4 * goal.size-expressions::judge_form l

abbrev pub decreases-expressions::judge : goal.decreases-expressions::judge
decreases-expressions::judge l = 4 * goal.size-expressions::judge l + 1

abbrev pub decreases-expressions::judge_operand : goal.decreases-expressions::judge_operand
decreases-expressions::judge_operand l = 4 * goal.size-expressions::judge_operand l + 2

abbrev pub decreases-arguments::judge_function : goal.decreases-arguments::judge_function
decreases-arguments::judge_function l = 4 * goal.size-arguments::judge_function l + 2

abbrev pub decreases-arguments::judge_arguments : goal.decreases-arguments::judge_arguments
decreases-arguments::judge_arguments l = 4 * goal.size-arguments::judge_arguments l + 2

abbrev pub decreases-expressions::judge_two : goal.decreases-expressions::judge_two
decreases-expressions::judge_two l = 4 * max (size-Expr l.left.now) (size-Expr l.right.now) + 3

abbrev pub decreases-expressions::judge_sides : goal.decreases-expressions::judge_sides
decreases-expressions::judge_sides l = 4 * max (size-Expr l.left.now) (size-Expr l.right.now) + 3

abbrev pub invariant-specifying::specifiers-loop-s : goal.invariant-specifying::specifiers-loop-s
invariant-specifying::specifiers-loop-s l =
    IsSound l.checker × LeavesSpecifiers l.fn.checker l.checker l.in_size l.alone l.list (drop l.s-index l.list) l.gathered

abbrev pub invariant-items::items-loop-i : goal.invariant-items::items-loop-i
invariant-items::items-loop-i l = IsSound l.checker × LeavesItems l.fn.checker l.checker l.in_size before_first l.before l.list (drop l.i-index l.list) l.holds_sizeof

abbrev pub invariant-members::members-loop-m : goal.invariant-members::members-loop-m
invariant-members::members-loop-m l =
    IsFurther l.fn.checker l.checker × HasFields l.checker.types l.found × LeavesMembers l.fn.checker l.checker l.in_size l.list (drop l.m-index l.list) l.found

abbrev pub invariant-members::member_declarators-loop-d : goal.invariant-members::member_declarators-loop-d
invariant-members::member_declarators-loop-d l =
    IsSound l.checker × IfSome l.left (IsKnown l.checker.types) × IsFurther l.fn.checker l.checker × HasFields l.checker.types l.out ×
    LeavesDeclarators l.fn.checker l.checker l.in_size l.left l.list (drop l.d-index l.list) l.fn.out l.out l.are_typed

abbrev pub decreases-declarators::forms : goal.decreases-declarators::forms
decreases-declarators::forms l = 4 * goal.size-declarators::forms l

abbrev pub decreases-declarators::inner_forms : goal.decreases-declarators::inner_forms
decreases-declarators::inner_forms l = 4 * goal.size-declarators::inner_forms l + 1

abbrev pub decreases-declarators::declarator : goal.decreases-declarators::declarator
decreases-declarators::declarator l = 4 * goal.size-declarators::declarator l + 1

abbrev pub decreases-declarators::array_size : goal.decreases-declarators::array_size
decreases-declarators::array_size l = 4 * goal.size-declarators::array_size l + 3

abbrev pub decreases-declarators::judge_size : goal.decreases-declarators::judge_size
decreases-declarators::judge_size l = 4 * goal.size-declarators::judge_size l + 2

abbrev pub decreases-parameters::each_parameter : goal.decreases-parameters::each_parameter
decreases-parameters::each_parameter l = 4 * goal.size-parameters::each_parameter l + 1

abbrev pub decreases-parameters::parameters : goal.decreases-parameters::parameters
decreases-parameters::parameters l = 4 * goal.size-parameters::parameters l + 2

abbrev pub decreases-parameters::parameter : goal.decreases-parameters::parameter
decreases-parameters::parameter l = 4 * goal.size-parameters::parameter l

abbrev pub decreases-specifying::specifiers : goal.decreases-specifying::specifiers
decreases-specifying::specifiers l = 4 * goal.size-specifying::specifiers l + 1

abbrev pub decreases-specifying::specifier : goal.decreases-specifying::specifier
decreases-specifying::specifier l = 4 * goal.size-specifying::specifier l

abbrev pub decreases-specifying::struct_defined : goal.decreases-specifying::struct_defined
decreases-specifying::struct_defined l = 4 * goal.size-specifying::struct_defined l + 2

abbrev pub decreases-specifying::enum_defined : goal.decreases-specifying::enum_defined
decreases-specifying::enum_defined l = 4 * goal.size-specifying::enum_defined l + 2

abbrev pub decreases-members::members : goal.decreases-members::members
decreases-members::members l = 4 * goal.size-members::members l + 1

abbrev pub decreases-members::member : goal.decreases-members::member
decreases-members::member l = 4 * goal.size-members::member l

abbrev pub decreases-members::member_declarators : goal.decreases-members::member_declarators
decreases-members::member_declarators l = 4 * goal.size-members::member_declarators l + 1

abbrev pub decreases-members::member_declarator : goal.decreases-members::member_declarator
decreases-members::member_declarator l = 4 * goal.size-members::member_declarator l

abbrev pub decreases-members::field : goal.decreases-members::field
decreases-members::field l = 4 * goal.size-members::field l + 2

abbrev pub decreases-members::width : goal.decreases-members::width
decreases-members::width l = 4 * goal.size-members::width l + 3

abbrev pub decreases-items::items : goal.decreases-items::items
decreases-items::items l = 4 * goal.size-items::items l + 1

abbrev pub decreases-items::item : goal.decreases-items::item
decreases-items::item l = 4 * goal.size-items::item l

abbrev pub decreases-type_names::type_name : goal.decreases-type_names::type_name
decreases-type_names::type_name l = 4 * goal.size-type_names::type_name l + 1

abbrev pub decreases-type_names::named_type : goal.decreases-type_names::named_type
decreases-type_names::named_type l = 4 * goal.size-type_names::named_type l
