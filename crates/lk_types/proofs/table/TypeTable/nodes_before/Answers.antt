use Rattle.std.proofs.Common.{◌≡◌, ap, arith, sym, subst, take}
use Rattle.lk_types.specs.Places.{nodes_of_all}
use Rattle.std.proofs.lemmas.Option.{slice_get_within}
use Rattle.lk_types.specs.Table.{fields_of, type_at}
use Rattle.lk_types.proofs.NodeLemmas.{fields_bound, more_fields, none_past}
use Rattle.lk_types.proofs.table.TypeTable.nodes_before.Goals as goal

pub overflow_add-count : goal.overflow_add-count
overflow_add-count c =
    let now = c.args.self.now in
    let nodes = ap (λ size. size.nodes) c.size-count.ensures.value in
    let bound = fields_bound now c.field.ensures.table c.args.t c.requires c.loop-k.k c.in-Some.field (sym c.in-Some.ensures.value) in
    omega (arith, c.loop-k.invariant.0)

pub returns-in-None : goal.returns-in-None
returns-in-None c =
    let now = c.args.self.now in
    let past = none_past (fields_of now (type_at now c.args.t)) c.loop-k.k (sym c.in-None.ensures.value) in
    let less = c.loop-k-test.true in omega arith

pub loop-k-preserved : goal.loop-k-preserved
loop-k-preserved c =
    let now = c.args.self.now in
    let ts = fields_of now (type_at now c.args.t) in
    let nodes = ap (λ size. size.nodes) c.size-count.ensures.value in
    let more = more_fields now c.field.ensures.table ts c.loop-k.k c.in-Some.field (sym c.in-Some.ensures.value) in
    let within = slice_get_within ts c.loop-k.k c.in-Some.field (sym c.in-Some.ensures.value) in
    (omega (arith, c.loop-k.invariant.0), omega arith)

pub returns-in-Some-field : goal.returns-in-Some-field
returns-in-Some-field c =
    let now = c.args.self.now in
    let ts = fields_of now (type_at now c.args.t) in
    let end = c.loop-k-test.false in
    let same : c.loop-k.k ≡ c.args.number = omega (arith, c.loop-k.auto.k-end) in
    record {
      field = slice_get_within ts c.args.number c.in-Some-field.field-0 (sym c.in-Some-field.ensures.value);
      place_is = subst (λ n. c.loop-k.count ≡ nodes_of_all now (take n ts)) same c.loop-k.invariant.0;
    }

pub returns-in-None-field : goal.returns-in-None-field
returns-in-None-field c = let now = c.args.self.now in none_past (fields_of now (type_at now c.args.t)) c.args.number (sym c.in-None-field.ensures.value)
