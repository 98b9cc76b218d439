use Rattle.lk_typed.proofs.Elements.{few_put}
use Rattle.lk_check_decl.proofs.Made.{stands}
use Rattle.lk_check_decl.proofs.storing.store.Goals as goal

pub returns-clause-ok : goal.returns-clause-ok
returns-clause-ok c =
    stands c.args.types.now c.put.new.self c.is_table.ensures c.is_table-2.ensures c.put.ensures.longer c.args.form c.requires.derived c.requires.form c.in_ok-t.t c.in_ok-t.ensures.known

pub returns-clause-few : goal.returns-clause-few
returns-clause-few c = λ is few.
    few_put c.args.types.now c.put.new.self c.args.form c.in_ok-t.t c.is_table.ensures c.is_table-2.ensures c.put.ensures.longer c.in_ok-t.ensures.put is few
