use Rattle.std.proofs.Common.{◌≡◌, ◌↔◌, ℕ, Some, subst}
use Rattle.std.proofs.lemmas.Result.{IfOk-weaker}
use Rattle.lk_facts.specs.Typed.{IsForm}
use Rattle.lk_types.specs.declared.c_type.CType.TheVariants.{Pointer}
use Rattle.lk_flow.proofs.ConversionLists.{from_no_pointer, pointers_both, to_no_pointer}
use Rattle.lk_flow.proofs.conversions.put_pointers.Goals as goal

pub returns-in_default : goal.returns-in_default
returns-in_default c =
    let program = c.args.points.now in
    let exact = subst (λ table. (u : ℕ) → (c.pointed.result ≡ Some u) ↔ IsForm table c.args.s (Pointer u)) c.types-types.ensures c.pointed.ensures.exact in
    from_no_pointer program c.args.labels.now.names c.args.a c.args.s c.args.p c.args.t c.pointed.result c.args.found.now exact c.in_default.not-Some

pub returns-in_default-pointed : goal.returns-in_default-pointed
returns-in_default-pointed c =
    let program = c.args.points.now in
    let exact = subst (λ table. (u : ℕ) → (c.pointed-2.result ≡ Some u) ↔ IsForm table c.args.t (Pointer u)) c.types-types.ensures c.pointed-2.ensures.exact in
    to_no_pointer program c.args.labels.now.names c.args.a c.args.s c.args.p c.args.t c.pointed-2.result c.args.found.now exact c.in_default-pointed.not-Some

pub returns : goal.returns
returns c =
    let program = c.args.points.now in
    let from = subst (λ table. (u : ℕ) → (Some c.in-Some.x ≡ Some u) ↔ IsForm table c.args.s (Pointer u)) c.types-types.ensures c.in-Some.ensures.exact in
    let to = subst (λ table. (u : ℕ) → (Some c.in-Some-pointed.y ≡ Some u) ↔ IsForm table c.args.t (Pointer u)) c.types-types.ensures c.in-Some-pointed.ensures.exact in
    IfOk-weaker c.put_from_void.result _ _ (λ _ adds. pointers_both program c.args.labels.now.names c.args.a c.args.s c.args.p c.args.t c.in-Some.x c.in-Some-pointed.y c.args.found.now c.put_to_void.new.found c.put_from_void.new.found
    from to c.in_ok-put_to_void.ensures adds) c.put_from_void.ensures
