use Rattle.std.proofs.Common.{◌∙◌, ◌+◌, ◌++◌, ◌∷◌, [], Some, false, refl, ap, arith, sym, subst}
use Rattle.std.specs.Option.{option_map}
use Rattle.lk_types.specs.Nodes.{Node, along, node_of, entry_of}
use Rattle.lk_types.specs.Places.{IsWay}
use Rattle.lk_types.specs.Walks.{Entry}
use Rattle.lk_types.specs.declared.node.Base.{Base}
use Rattle.lk_types.specs.declared.node.NodeId.{NodeId}
use Rattle.lk_types.specs.declared.walk.Way.TheVariants.{Inside}
use Rattle.lk_types.proofs.NodeLemmas.{inside_got, inside_room, inside_node, entry_is}
use Rattle.lk_types.proofs.table.TypeTable.step_inside.Goals as goal

pub overflow_add-result : goal.overflow_add-result
overflow_add-result c =
    let now = c.args.self.now in
    let n = c.args.n in
    let way = subst (λ t. IsWay now t c.args.sel (Inside c.in-Inside.place)) c.node_type-t.ensures.value (subst (IsWay now c.node_type-t.result c.args.sel) c.in-Inside.is c.in-Some.ensures.way) in
    let room = inside_room now c.is_table.ensures n c.requires c.in-Inside.place way.0 c.args.sel way.2 in
    omega (arith, room)

pub overflow_add-result-in-Inside : goal.overflow_add-result-in-Inside
overflow_add-result-in-Inside c =
    let now = c.args.self.now in
    let n = c.args.n in
    let way = subst (λ t. IsWay now t c.args.sel (Inside c.in-Inside.place)) c.node_type-t.ensures.value (subst (IsWay now c.node_type-t.result c.args.sel) c.in-Inside.is c.in-Some.ensures.way) in
    let room = inside_room now c.is_table.ensures n c.requires c.in-Inside.place way.0 c.args.sel way.2 in
    omega (arith, room)

pub returns-in-Inside-clause-exact : goal.returns-in-Inside-clause-exact
returns-in-Inside-clause-exact c =
    let now = c.args.self.now in
    let n = c.args.n in
    let way = subst (λ t. IsWay now t c.args.sel (Inside c.in-Inside.place)) c.node_type-t.ensures.value (subst (IsWay now c.node_type-t.result c.args.sel) c.in-Inside.is c.in-Some.ensures.way) in
    let m : NodeId = record { base = n.base; number = n.number + c.in-Inside.place + 1 } in
    let e : Entry = record { path = (entry_of now n).path ++ c.args.sel ∷ []; type = way.0; tag = false } in
    let got = inside_got now c.is_table.ensures n c.requires c.in-Inside.place way.0 c.args.sel way.2 in
    sym (ap (option_map (along (node_of now n))) way.1 ∙ ap (λ (x : Entry). Some (node n.base x)) (sym (entry_is now c.is_table.ensures m e got)))
  where
    node : Base → Entry → Node
    node base x = record { base = base; path = x.path; type = x.type }

pub returns-in-Inside-clause-node : goal.returns-in-Inside-clause-node
returns-in-Inside-clause-node c =
    let now = c.args.self.now in
    let n = c.args.n in
    let way = subst (λ t. IsWay now t c.args.sel (Inside c.in-Inside.place)) c.node_type-t.ensures.value (subst (IsWay now c.node_type-t.result c.args.sel) c.in-Inside.is c.in-Some.ensures.way) in
    let m : NodeId = record { base = n.base; number = n.number + c.in-Inside.place + 1 } in
    let e : Entry = record { path = (entry_of now n).path ++ c.args.sel ∷ []; type = way.0; tag = false } in
    inside_node now c.is_table.ensures n m c.requires refl e (inside_got now c.is_table.ensures n c.requires c.in-Inside.place way.0 c.args.sel way.2) refl
