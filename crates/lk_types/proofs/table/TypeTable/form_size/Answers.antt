use Rattle.std.proofs.Common.{◌≡◌, ◌∙◌, ◌<◌, true, false, List, ℕ, All, length, arith, ap, sym, subst}
use Rattle.std.proofs.lemmas.List.{length-map}
use Rattle.std.proofs.lemmas.List.Elements.{All-tail}
use Rattle.lk_types.specs.Building.{IsForm}
use Rattle.lk_types.specs.Sizes.{Fits, form_size, with_types, with_part, start_size, size_at, is_over}
use Rattle.lk_types.specs.Table.{Table, IsKnown}
use Rattle.lk_types.specs.declared.size.TypeSize.{TypeSize}
use Rattle.lk_types.proofs.KeptLemmas.{read_got}
use Rattle.lk_types.proofs.SizeLemmas.{passed_known, function_size, large_stays, struct_form_fits}
use Rattle.lk_types.proofs.table.TypeTable.form_size.Goals as goal

pub with_fields-requires-clause-known : goal.with_fields-requires-clause-known
with_fields-requires-clause-known c =
    let now = c.args.self.now in
    let ps = c.in-Function.params in
    subst (λ (us : List ℕ). All (IsKnown now) us) (sym c.list.ensures)
    (All-tail (IsKnown now) c.in-Function.result ps (passed_known now c.in-Function.result ps c.in-Function.dots c.args.form.now c.in-Function.is c.requires))

pub returns-in-Struct : goal.returns-in-Struct
returns-in-Struct c =
    let inside = c.self.inside in
    let structs = inside.structs.items in
    let entry = c.index.result.now in
    let within : c.in-Struct.s < length structs = subst (λ (table : Table). IsForm table c.args.form.now → c.in-Struct.s < length structs) c.self.view_is
    (λ ok. let known = subst (IsForm _) c.in-Struct.is ok in omega (arith, known, length-map structs (λ entry. entry.members))) c.requires in
    subst (λ (table : Table). (entry.size ≡ form_size table c.args.form.now) × (is_over (form_size table c.args.form.now) ≡ false)) c.self.view_is
    (struct_form_fits inside.types inside.classes structs inside.parts c.self.invariant c.in-Struct.s entry (read_got structs c.in-Struct.s entry within c.index.ensures) c.args.form.now c.in-Struct.is)

pub returns-in-Some : goal.returns-in-Some
returns-in-Some c =
    let now = c.args.self.now in
    let ps = c.in-Function.params in
    let first = c.in-Some.ensures.0 ∙ ap (with_part start_size) c.size-in-Function.ensures.value in
    let is = function_size now c.in-Function.result ps c.in-Function.dots c.args.form.now c.in-Function.is ∙ ap (λ (s : TypeSize). with_types now s ps) (sym first) ∙ ap (λ (us : List ℕ). with_types now c.in-Some.size us) (sym c.list.ensures) in
    subst (λ (s : TypeSize). Fits s c.with_fields.result) (sym is) c.with_fields.ensures

pub returns-in-None : goal.returns-in-None
returns-in-None c =
    let now = c.args.self.now in
    let ps = c.in-Function.params in
    ap is_over (function_size now c.in-Function.result ps c.in-Function.dots c.args.form.now c.in-Function.is) ∙
    large_stays now ps (with_part start_size (size_at now c.in-Function.result))
    (subst (λ (p : TypeSize). is_over (with_part start_size p) ≡ true) c.size-in-Function.ensures.value c.in-None.ensures)
