use Rattle.std.proofs.Common.{◌≡◌, ◌⊎◌, subst, sym}
use Rattle.std.specs.Prelude.{OnOk}
use Rattle.std.proofs.lemmas.Result.{IfOk-weaker}
use Rattle.lk_facts.specs.EdgeRules.{GivesBack, In, Of, Passes, PassesThrough, Row, Sub, target, value}
use Rattle.lk_facts.specs.declared.edge.Mark.TheVariants.{Plain}
use Rattle.lk_types.specs.declared.node.Sel.TheVariants.{Field, Part}
use Rattle.lk_flow.specs.Rows.{object_of}
use Rattle.lk_flow.specs.Growing.{Adds, Joins}
use Rattle.lk_flow.proofs.ActionLists.{allocation_put}
use Rattle.lk_flow.proofs.actions.put_passing.Goals as goal

pub returns-in-Call : goal.returns-in-Call
returns-in-Call c =
    let program = c.args.points.now in
    let names = c.args.labels.now.names in
    let g = c.in-Call.function in
    let old = c.args.found.now in
    let new = c.put_call.new.found in
    subst (λ act. OnOk c.put_call.result (Adds (Joins names (Row program c.args.p c.args.f act)) old new)) (sym c.in-Call.is)
    (subst (λ args. OnOk c.put_call.result (Adds (Joins names (λ u v m. Passes program c.args.p g args u v m ⊎ GivesBack program c.args.p g u v m)) old new)) c.list.ensures c.put_call.ensures)

pub returns-in-PointerCall : goal.returns-in-PointerCall
returns-in-PointerCall c =
    let program = c.args.points.now in
    let names = c.args.labels.now.names in
    let a = c.in-PointerCall.a in
    let old = c.args.found.now in
    let new = c.put_pointer_call.new.found in
    subst (λ act. OnOk c.put_pointer_call.result (Adds (Joins names (Row program c.args.p c.args.f act)) old new)) (sym c.in-PointerCall.is)
    (subst (λ args. OnOk c.put_pointer_call.result (Adds (Joins names (λ u v m. PassesThrough program a args u v m ⊎ Sub program Plain (Of program (target program a) (Field 0)) (value program c.args.p) u v m)) old new)) c.list-in-PointerCall.ensures c.put_pointer_call.ensures)

pub returns-in-Return : goal.returns-in-Return
returns-in-Return c =
    subst (λ act. OnOk c.put_return.result (Adds (Joins c.args.labels.now.names (Row c.args.points.now c.args.p c.args.f act)) c.args.found.now c.put_return.new.found)) (sym c.in-Return.is)
    c.put_return.ensures

pub returns-in-Create : goal.returns-in-Create
returns-in-Create c =
    subst (λ act. OnOk c.put_create.result (Adds (Joins c.args.labels.now.names (Row c.args.points.now c.args.p c.args.f act)) c.args.found.now c.put_create.new.found)) (sym c.in-Create.is)
    c.put_create.ensures

pub returns-in-Allocate : goal.returns-in-Allocate
returns-in-Allocate c =
    let program = c.args.points.now in
    let names = c.args.labels.now.names in
    let ty = c.in-Allocate.ty in
    let r = c.in-Allocate.root in
    let count = c.in-Allocate.count in
    let old = c.args.found.now in
    let new = c.put_allocation.new.found in
    subst (λ act. OnOk c.put_allocation.result (Adds (Joins names (Row program c.args.p c.args.f act)) old new)) (sym c.in-Allocate.is)
    (IfOk-weaker c.put_allocation.result _ _ (λ _ adds. allocation_put program names c.args.p r ty count old new
    (subst (λ array. Adds (Joins names (λ u v m. (m ≡ Plain) × object_of program r array u × In program (target program c.args.p) (Part ty) v)) old new) c.is_some.ensures (adds r c.is_some.result c.object-made.ensures.found))) c.put_allocation.ensures)
