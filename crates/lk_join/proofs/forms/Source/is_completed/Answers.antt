use Rattle.std.proofs.Common.{◌≡◌, ◌∙◌, Bool, true, false, ap, refl, subst, sym}
use Rattle.std.proofs.lemmas.Bool.{false≢true}
use Rattle.std.proofs.lemmas.Option.{same_Some}
use Rattle.std.specs.Prelude.{◌↔◌, IsTrue}
use Rattle.lk_types.specs.Table.{is_open}
use Rattle.lk_join.proofs.Completed.{completed_here, completed_nothing, open_from}
use Rattle.lk_join.proofs.forms.Source.is_completed.Goals as goal

pub returns-then-is_open-clause-done : goal.returns-then-is_open-clause-done
returns-then-is_open-clause-done c = λ done. completed_nothing c.args.self.now.types.now c.args.self.now.structs.now c.args.table.now c.args.s (sym c.is_open.ensures ∙ c.if-is_open.true)

pub returns-clause-done : goal.returns-clause-done
returns-clause-done c = λ done. completed_here c.args.self.now.types.now c.args.self.now.structs.now c.args.table.now c.args.s c.struct_here.result c.struct_here.ensures (c.has_members.ensures.0 done)

pub returns-clause-lacks : goal.returns-clause-lacks
returns-clause-lacks c = λ failed. record {
  shut = sym c.is_open.ensures ∙ c.if-is_open.false;
  here = λ n at. subst (λ k. is_open c.args.table.now k ≡ true) (same_Some c.struct_here.result n (sym c.struct_here.ensures ∙ at))
      (open_from (is_open c.args.table.now c.struct_here.result) c.has_members.result c.has_members.ensures failed);
}
