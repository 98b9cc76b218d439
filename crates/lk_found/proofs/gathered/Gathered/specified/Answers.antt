use Rattle.std.proofs.Common.{◌∙◌, ◌++◌, ℕ, Option, sym, ap, subst, None, IfSome}
use Rattle.lk_types.specs.Table.{IsKnown}
use Rattle.std.specs.Option.{option_map}
use Rattle.std.specs.Prelude.{is_some, unwrap_or, ◌&&◌, if◌then◌else◌}
use Rattle.lk_base.specs.declared.code.Code.TheVariants.{Mismatch}
use Rattle.lk_typed.specs.DeclarationRules.{may_have}
use Rattle.lk_typed.specs.Meaning.{meaning}
use Rattle.lk_typed.specs.Told.{named_type}
use Rattle.lk_check_decl.specs.Twins.{holder_of}
use Rattle.lk_found.proofs.Gathering.{coded_told, is_named, known_named, known_unless, type_named, type_unless_broken}
use Rattle.lk_found.proofs.gathered.Gathered.specified.Goals as goal

pub returns : goal.returns
returns c = λ table told broken ready is.
    let holder = holder_of c.args.holder in
    let found = c.named_type-named.result in
    let named = c.named_type-named.ensures table told broken ready is in
    let holds = is_some (named_type told.words told.types) && may_have holder told.storages in
    let code = c.specifier_code-code.ensures told (sym is.storages ∙ sym c.as_slice.ensures.value) (is_named table found (named_type told.words told.types) named ∙ sym c.is_some.ensures) in
    let gathered = c.in_ok-put_code.ensures table told broken is in
    let type = type_named table found (named_type told.words told.types) named in
    let there = known_named table found (named_type told.words told.types) named in
    let typed = c.type_unless-ty.ensures ∙ ap (λ b. if b then None else unwrap_or found None) c.is_some-2.ensures in
    record {
      storages = gathered.storages;
      named = ap (option_map (meaning table)) c.type_unless-all.ensures ∙ type;
      type = ap (option_map (meaning table)) typed ∙ type_unless_broken holds Mismatch c.specifier_code-code.result code table (unwrap_or found None) _ type;
      known_named = subst (λ (t : Option ℕ). IfSome t (IsKnown table)) (sym c.type_unless-all.ensures) there;
      known = subst (λ (t : Option ℕ). IfSome t (IsKnown table)) (sym c.type_unless-ty.ensures) (known_unless c.is_some-2.result table (unwrap_or found None) there);
      holds_sizeof = gathered.holds_sizeof;
      breaches = gathered.breaches ∙ ap (λ bs. broken ++ bs) (coded_told holds Mismatch c.specifier_code-code.result code);
    }
