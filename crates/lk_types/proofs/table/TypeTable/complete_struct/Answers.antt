use Rattle.std.proofs.Common.{◌∙◌, List, All, ap, sym, subst}
use Rattle.std.specs.Prelude.{slice_set}
use Rattle.lk_types.specs.Building.{CanComplete, IsPartOfObjects, IsLonger, types_of, with_members}
use Rattle.lk_types.specs.Kept.{table_of}
use Rattle.lk_types.specs.Sizes.{fields_size}
use Rattle.lk_types.specs.Table.{Table}
use Rattle.lk_types.specs.declared.facts.StructEntry.{StructEntry}
use Rattle.lk_types.specs.declared.member.StructMember.{StructMember}
use Rattle.lk_types.proofs.CompleteLemmas.{kept_completed, completed_longer, map-set}
use Rattle.lk_types.proofs.SizeLemmas.{fits_got, members_known}
use Rattle.lk_types.proofs.table.TypeTable.complete_struct.Goals as goal

pub members_size-requires : goal.members_size-requires
members_size-requires c =
    let now = c.args.self.now in
    members_known now c.list.result.now (subst (λ (ms : List StructMember). All (λ (member : StructMember). IsPartOfObjects now member.ty) ms) (sym c.list.ensures) c.requires.parts)

pub invariant_of-self : goal.invariant_of-self
invariant_of-self c =
    let inside = c.self.inside in
    let structs = inside.structs.items in
    let old = table_of inside.types structs inside.parts in
    let ok = subst (λ (table : Table). CanComplete table c.args.s c.args.members) (sym c.self.view_is) c.requires in
    let size = fits_got (fields_size c.args.self.now (types_of c.list.result.now)) c.unwrap-size.result c.members_size.result c.unwrap-size.ensures c.members_size.ensures ∙
    ap (λ (ms : List StructMember). fields_size c.args.self.now (types_of ms)) c.list.ensures ∙ ap (λ (table : Table). fields_size table (types_of c.args.members)) (sym c.self.view_is) in
    kept_completed inside.types inside.classes structs inside.parts c.self.invariant c.args.s c.args.members c.unwrap-size.result ok size

pub returns-clause-value : goal.returns-clause-value
returns-clause-value c =
    let inside = c.self.inside in
    let structs = inside.structs.items in
    let entry : StructEntry = record { members = c.args.members; size = c.unwrap-size.result } in
    ap (λ (ms : List (List StructMember)). with_those ms) (map-set (λ (e : StructEntry). e.members) structs c.args.s entry) ∙ ap (λ (table : Table). with_members table c.args.s c.args.members) c.self.view_is
  where
    with_those : List (List StructMember) → Table
    with_those ms = record (table_of c.self.inside.types c.self.inside.structs.items c.self.inside.parts) { members = ms }

pub returns-clause-longer : goal.returns-clause-longer
returns-clause-longer c =
    let inside = c.self.inside in
    let structs = inside.structs.items in
    let old = table_of inside.types structs inside.parts in
    let ok = subst (λ (table : Table). CanComplete table c.args.s c.args.members) (sym c.self.view_is) c.requires in
    let size = fits_got (fields_size c.args.self.now (types_of c.list.result.now)) c.unwrap-size.result c.members_size.result c.unwrap-size.ensures c.members_size.ensures ∙
    ap (λ (ms : List StructMember). fields_size c.args.self.now (types_of ms)) c.list.ensures ∙ ap (λ (table : Table). fields_size table (types_of c.args.members)) (sym c.self.view_is) in
    subst (λ (table : Table). IsLonger table (table_of inside.types (slice_set structs c.args.s (record { members = c.args.members; size = c.unwrap-size.result })) inside.parts)) c.self.view_is
    (completed_longer inside.types inside.classes structs inside.parts c.self.invariant c.args.s c.args.members c.unwrap-size.result ok size)
