use Rattle.std.proofs.Common.{◌≡◌, ◌<◌, ℕ, get_or, length}
use Rattle.lk_lower_expr.specs.Programs.{IsBody}
use Rattle.lk_lower_parts.specs.MadeFunctions.{StandsGiven}
use Rattle.lk_typed.specs.declared.unit.Body.{Body}
use Rattle.lk_typed.specs.declared.whole.Linked.{Linked}
use Rattle.lk_lower_parts.proofs.names.Given.all_functions.Given as goal

abbrev pub invariant-loop-source : goal.invariant-loop-source
invariant-loop-source l = record {
  as_many : length l.functions.items ≡ get_or l.self.functions.now.first l.source 0;
  made : (t b : ℕ) (linked : Linked) (body : Body) → t < l.source → IsBody l.self.whole.now.sources t b linked body → StandsGiven l.self l.slots t b linked body l.functions.items;
}
