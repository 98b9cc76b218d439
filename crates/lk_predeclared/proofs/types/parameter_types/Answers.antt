use Rattle.std.proofs.lemmas.Option.{slice_get-get_or}
use Rattle.std.specs.Prelude.{get_or}
use Rattle.lk_check_expr.specs.declared.library.Parameter.TheVariants.{Int}
use Rattle.lk_predeclared.proofs.FirstPlain.{grows_then}
use Rattle.lk_predeclared.proofs.Rows.{types_more}
use Rattle.lk_predeclared.proofs.types.parameter_types.Goals as goal

pub loop-parameter-preserved : goal.loop-parameter-preserved
loop-parameter-preserved c =
    let now = c.loop-parameter.types in
    let new = c.parameter_type.new.types in
    let ps = c.args.parameters.now in
    let k = c.loop-parameter.parameter-index in
    record {
      ready = c.in_ok-t.ensures.grows.ready;
      grows = grows_then c.args.types.now now new c.loop-parameter.invariant.grows c.in_ok-t.ensures.grows;
      plain =
          types_more now new c.loop-parameter.invariant.ready.table_is c.in_ok-t.ensures.grows.longer ps k (get_or ps k Int) (slice_get-get_or ps k Int c.loop-parameter-test.true)
          c.loop-parameter.put.items c.push.new.self.items c.in_ok-t.t c.loop-parameter.invariant.plain c.in_ok-t.ensures.plain c.in_ok-push.ensures.items;
    }
