use Rattle.std.proofs.Common.{ap, ◌≡◌, ◌<◌, ◌+◌, ◌^◌, All, [], get_or, rules, subst, sym}
use Rattle.std.proofs.lemmas.Result.{IfOk-weaker}
use Rattle.lk_lower_expr.specs.Programs.{IsMadeOf}
use Rattle.lk_lower_parts.proofs.Pointers.{more_more}
use Rattle.lk_lower_parts.specs.Givens.{at_node}
use Rattle.lk_lower_parts.specs.Tables.{ArePointerRows, HasMore}
use Rattle.lk_lower_parts.specs.declared.names.Given.{Given}
use Rattle.lk_lower_unit.proofs.MadeOf.{made_of}
use Rattle.lk_lower_unit.proofs.MadeRoots.{more_places}
use Rattle.lk_lower_unit.proofs.TablesOf.{kept_rows}
use Rattle.lk_lower_unit.specs.Made.{IsProgramOf}
use Rattle.lk_lower_unit.specs.Placed.{AreFound, numbers_of}
use Rattle.lk_lower_unit.proofs.programs.assemble.Goals as goal

pub program_of-requires-clause-found : goal.program_of-requires-clause-found
program_of-requires-clause-found c =
    let sources = c.args.whole.now.sources in
    let table = c.number_roots_and_slots.new.types in record {
      functions = c.requires.functions;
      pointers = subst (ArePointerRows table sources) (sym c.deref-2.ensures.value) (kept_rows c.pointer_rows.new.table table sources c.in_ok-pointers.pointers.items c.in_ok-roots.ensures.more c.in_ok-pointers.ensures.pointers);
      different = c.is_table.ensures.different;
      small = λ s. subst (λ rows. All (λ base. base < 2 ^ 31) (get_or rows s [])) (sym c.list-points.ensures) (c.requires.points.small s);
    }

pub program_of-requires-clause-counted : goal.program_of-requires-clause-counted
program_of-requires-clause-counted c =
    let table = c.number_roots_and_slots.new.types in
    let given : Given = record { alloc = c.args.alloc; whole = c.args.whole; functions = c.args.functions; points = c.list-points.result; by_node = c.deref.result; pointers = c.deref-2.result } in
    record {
      order = λ program. c.requires.points.order (numbers_of given table) program (λ s o k. ap (λ rows. at_node rows s o + k) c.list-points.ensures);
      few = c.requires.points.few;
    }

pub program_of-requires-clause-slots : goal.program_of-requires-clause-slots
program_of-requires-clause-slots c = record { whole = c.requires.whole; numbers = c.requires.functions; as_many = c.in_ok-roots.ensures.slots }

pub returns-clause-made : goal.returns-clause-made
returns-clause-made c =
    let whole = c.args.whole.now in
    let table = c.number_roots_and_slots.new.types in
    let given : Given = record { alloc = c.args.alloc; whole = c.args.whole; functions = c.args.functions; points = c.list-points.result; by_node = c.deref.result; pointers = c.deref-2.result } in
    let numbered = c.in_ok-roots.field-0 in
    let by_node : c.deref.result.now ≡ numbered.by_node.items = search rules in
    let found : AreFound given table = record {
      functions = c.requires.functions;
      pointers = subst (ArePointerRows table whole.sources) (sym c.deref-2.ensures.value) (kept_rows c.pointer_rows.new.table table whole.sources c.in_ok-pointers.pointers.items c.in_ok-roots.ensures.more c.in_ok-pointers.ensures.pointers);
      different = c.is_table.ensures.different;
      small = λ s. subst (λ rows. All (λ base. base < 2 ^ 31) (get_or rows s [])) (sym c.list-points.ensures) (c.requires.points.small s);
    } in
    let more : HasMore whole.types table = more_more whole.types c.pointer_rows.new.table table (subst (λ t. HasMore t c.pointer_rows.new.table) c.in_ok-types.ensures c.in_ok-pointers.ensures.more) c.in_ok-roots.ensures.more in
    IfOk-weaker c.program_of.result (IsProgramOf given table c.in_ok-main.main c.args.bases.now.count numbered.slots.items numbered.roots.items) (IsMadeOf whole)
    (λ program made.
    made_of given table c.args.bases.now c.in_ok-main.main numbered program found c.requires.points c.list-points.ensures c.in_ok-main.ensures c.in_ok-roots.ensures.numbered by_node more made) c.program_of.ensures.made

pub returns-clause-places : goal.returns-clause-places
returns-clause-places c =
    let whole = c.args.whole.now in
    let table = c.number_roots_and_slots.new.types in
    let given : Given = record { alloc = c.args.alloc; whole = c.args.whole; functions = c.args.functions; points = c.list-points.result; by_node = c.deref.result; pointers = c.deref-2.result } in
    let numbered = c.in_ok-roots.field-0 in
    let by_node : c.deref.result.now ≡ numbered.by_node.items = search rules in
    let found : AreFound given table = record {
      functions = c.requires.functions;
      pointers = subst (ArePointerRows table whole.sources) (sym c.deref-2.ensures.value) (kept_rows c.pointer_rows.new.table table whole.sources c.in_ok-pointers.pointers.items c.in_ok-roots.ensures.more c.in_ok-pointers.ensures.pointers);
      different = c.is_table.ensures.different;
      small = λ s. subst (λ rows. All (λ base. base < 2 ^ 31) (get_or rows s [])) (sym c.list-points.ensures) (c.requires.points.small s);
    } in
    let more : HasMore whole.types table = more_more whole.types c.pointer_rows.new.table table (subst (λ t. HasMore t c.pointer_rows.new.table) c.in_ok-types.ensures c.in_ok-pointers.ensures.more) c.in_ok-roots.ensures.more in
    λ full. more_places given table c.in_ok-main.main numbered found c.in_ok-main.ensures c.in_ok-roots.ensures.numbered by_node more (c.program_of.ensures.places full)
