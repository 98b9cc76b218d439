use Rattle.std.proofs.Common.{◌∙◌, ◌<◌, length, subst, arith}
use Rattle.std.proofs.lemmas.List.{length-map}
use Rattle.lk_types.specs.Building.{IsLonger}
use Rattle.lk_types.specs.Kept.{table_of}
use Rattle.lk_types.proofs.RestLemmas.{kept_begun, longer_begun, begun_is}
use Rattle.lk_types.proofs.table.TypeTable.begin_struct.Goals as goal

pub invariant_of-self-2 : goal.invariant_of-self-2
invariant_of-self-2 c =
    let inside = c.self.inside in
    let structs = inside.structs.items in
    let few : length structs < 4294967295 = subst (λ table. length table.members < 4294967295 → length structs < 4294967295) c.self.view_is
    (λ few. omega (arith, few, length-map structs (λ entry. entry.members))) c.requires in
    kept_begun inside.types inside.classes structs inside.parts c.self.invariant c.push.new.self.items (begun_is structs c.new-members.result c.push.new.self.items (c.new-members.ensures ∙ c.new.ensures.items) c.in_ok-push.ensures.items) few

pub returns-clause-longer : goal.returns-clause-longer
returns-clause-longer c =
    let inside = c.self.inside in
    let structs = inside.structs.items in
    subst (λ table. IsLonger table (table_of inside.types c.push.new.self.items inside.parts)) c.self.view_is
    (longer_begun inside.types inside.classes structs inside.parts c.self.invariant c.push.new.self.items (begun_is structs c.new-members.result c.push.new.self.items (c.new-members.ensures ∙ c.new.ensures.items) c.in_ok-push.ensures.items))
