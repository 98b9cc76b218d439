use Rattle.std.proofs.Common.{subst, sym}
use Rattle.std.specs.Prelude.{OnOk}
use Rattle.std.proofs.lemmas.Result.{IfOk-weaker}
use Rattle.lk_facts.specs.EdgeRules.{Row}
use Rattle.lk_flow.specs.Growing.{Adds, Joins}
use Rattle.lk_flow.proofs.ActionLists.{code_put}
use Rattle.lk_flow.proofs.actions.put_local.Goals as goal

pub returns-in-Func : goal.returns-in-Func
returns-in-Func c =
    subst (λ act. OnOk c.put_address.result (Adds (Joins c.args.labels.now.names (Row c.args.points.now c.args.p c.args.f act)) c.args.found.now c.put_address.new.found)) (sym c.in-Func.is)
    (IfOk-weaker c.put_address.result _ _ (λ _ adds. code_put c.args.points.now c.args.labels.now.names c.args.p c.args.f _ c.function_root.result c.args.found.now c.put_address.new.found c.function_root.ensures.value adds) c.put_address.ensures)

pub returns-in-Root : goal.returns-in-Root
returns-in-Root c =
    subst (λ act. OnOk c.put_address-in-Root.result (Adds (Joins c.args.labels.now.names (Row c.args.points.now c.args.p c.args.f act)) c.args.found.now c.put_address-in-Root.new.found)) (sym c.in-Root.is)
    c.put_address-in-Root.ensures

pub returns-in-Text : goal.returns-in-Text
returns-in-Text c =
    subst (λ act. OnOk c.put_address-in-Text.result (Adds (Joins c.args.labels.now.names (Row c.args.points.now c.args.p c.args.f act)) c.args.found.now c.put_address-in-Text.new.found)) (sym c.in-Text.is)
    c.put_address-in-Text.ensures

pub returns-in-Field : goal.returns-in-Field
returns-in-Field c =
    subst (λ act. OnOk c.put_part.result (Adds (Joins c.args.labels.now.names (Row c.args.points.now c.args.p c.args.f act)) c.args.found.now c.put_part.new.found)) (sym c.in-Field.is)
    c.put_part.ensures

pub returns-in-Read : goal.returns-in-Read
returns-in-Read c =
    subst (λ act. OnOk c.put_read.result (Adds (Joins c.args.labels.now.names (Row c.args.points.now c.args.p c.args.f act)) c.args.found.now c.put_read.new.found)) (sym c.in-Read.is)
    c.put_read.ensures

pub returns-in-Write : goal.returns-in-Write
returns-in-Write c =
    subst (λ act. OnOk c.put_write.result (Adds (Joins c.args.labels.now.names (Row c.args.points.now c.args.p c.args.f act)) c.args.found.now c.put_write.new.found)) (sym c.in-Write.is)
    c.put_write.ensures

pub returns-in-SlotRead : goal.returns-in-SlotRead
returns-in-SlotRead c =
    subst (λ act. OnOk c.put_slot_read.result (Adds (Joins c.args.labels.now.names (Row c.args.points.now c.args.p c.args.f act)) c.args.found.now c.put_slot_read.new.found)) (sym c.in-SlotRead.is)
    c.put_slot_read.ensures

pub returns-in-SlotWrite : goal.returns-in-SlotWrite
returns-in-SlotWrite c =
    subst (λ act. OnOk c.put_slot_write.result (Adds (Joins c.args.labels.now.names (Row c.args.points.now c.args.p c.args.f act)) c.args.found.now c.put_slot_write.new.found)) (sym c.in-SlotWrite.is)
    c.put_slot_write.ensures

pub returns-in-Binary : goal.returns-in-Binary
returns-in-Binary c =
    subst (λ act. OnOk c.put_sub.result (Adds (Joins c.args.labels.now.names (Row c.args.points.now c.args.p c.args.f act)) c.args.found.now c.put_sub.new.found)) (sym c.in-Binary.is)
    c.put_sub.ensures

pub returns-in-Convert : goal.returns-in-Convert
returns-in-Convert c =
    subst (λ act. OnOk c.put_conversion.result (Adds (Joins c.args.labels.now.names (Row c.args.points.now c.args.p c.args.f act)) c.args.found.now c.put_conversion.new.found)) (sym c.in-Convert.is)
    c.put_conversion.ensures

pub returns-in-Index : goal.returns-in-Index
returns-in-Index c =
    subst (λ act. OnOk c.put_index.result (Adds (Joins c.args.labels.now.names (Row c.args.points.now c.args.p c.args.f act)) c.args.found.now c.put_index.new.found)) (sym c.in-Index.is)
    (IfOk-weaker c.put_index.result _ _ (λ _ adds. adds c.args.f c.in-Index.b) c.put_index.ensures)
