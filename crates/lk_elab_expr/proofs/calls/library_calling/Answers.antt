use Rattle.std.proofs.Common.{◌∙◌, sym, ap}
use Rattle.lk_check_expr.specs.Functions.{spelling}
use Rattle.lk_elab_expr.specs.Allocating.{allocating}
use Rattle.lk_elab_expr.proofs.CalledWays.{row_name}
use Rattle.lk_elab_expr.proofs.calls.library_calling.Goals as goal

pub returns-in_ok-allocation-in-Malloc-clause-decides : goal.returns-in_ok-allocation-in-Malloc-clause-decides
returns-in_ok-allocation-in-Malloc-clause-decides c = λ at_end p f ps call row is called stands. record {
  row = row;
  is = called;
  name = row_name c.args.known row is ∙ ap spelling c.in-Malloc.is ∙ sym (ap allocating c.in_ok-allocation-in-Malloc.ensures.zeroed);
  allocation = c.in_ok-allocation-in-Malloc.ensures.sizes at_end p f ps call stands;
}

pub returns-in_ok-allocation-in-Calloc-clause-decides : goal.returns-in_ok-allocation-in-Calloc-clause-decides
returns-in_ok-allocation-in-Calloc-clause-decides c = λ at_end p f ps call row is called stands. record {
  row = row;
  is = called;
  name = row_name c.args.known row is ∙ ap spelling c.in-Calloc.is ∙ sym (ap allocating c.in_ok-allocation-in-Calloc.ensures.zeroed);
  allocation = c.in_ok-allocation-in-Calloc.ensures.sizes at_end p f ps call;
}

pub returns-in_ok-routine-in-Create-clause-decides : goal.returns-in_ok-routine-in-Create-clause-decides
returns-in_ok-routine-in-Create-clause-decides c = λ at_end p f ps call row is called stands. record {
  row = row;
  is = called;
  name = row_name c.args.known row is ∙ ap spelling c.in-Create.is;
  starts = c.in_ok-routine-in-Create.ensures at_end p f ps call;
}

pub returns-in-Join-clause-decides : goal.returns-in-Join-clause-decides
returns-in-Join-clause-decides c = λ at_end p f ps call row is called stands. (row, is, called)
