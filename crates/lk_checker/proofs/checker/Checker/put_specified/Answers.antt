use Rattle.std.proofs.Common.{ap}
use Rattle.lk_found.proofs.FieldsGrow.{fields_same}
use Rattle.lk_found.specs.declared.fields.MembersFound.{MembersFound}
use Rattle.lk_checker.proofs.checker.Checker.put_specified.Goals as goal

pub returns-clause-fields : goal.returns-clause-fields
returns-clause-fields c =
    fields_same c.args.self.now.types c.args.out.now c.put_sizeof.new.self c.requires (ap (λ (m : MembersFound). m.fields) c.put_sizeof.ensures) (ap (λ (m : MembersFound). m.size) c.put_sizeof.ensures)
