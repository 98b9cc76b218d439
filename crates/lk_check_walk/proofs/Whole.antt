-- A whole declarator is found: its forms were walked, and make its type (C99 6.7.5).
use Rattle.std.proofs.Common.{◌≡◌, ◌∙◌, ℕ, [], ◌∷◌, Option, IfSome, reverse, refl, sym, ap, subst}
use Rattle.std.specs.Option.{option_map}
use Rattle.std.proofs.lemmas.List.{reverse-reverse}
use Rattle.lk_tree.specs.declared.expression.Declarator.{Declarator}
use Rattle.lk_types.specs.Table.{IsKnown}
use Rattle.lk_typed.specs.Env.{Env, extend}
use Rattle.lk_typed.specs.Expressions.{declarator_found}
use Rattle.lk_typed.specs.Meaning.{meaning}
use Rattle.lk_typed.specs.NodeRules.{mark}
use Rattle.lk_typed.specs.Nodes.{ADeclarator, Unnamed}
use Rattle.lk_typed.specs.Parts.{span_at}
use Rattle.lk_rules.specs.Keeping.{KeepsCodes}
use Rattle.lk_found.proofs.FormsOf.{types_follow_forms}
use Rattle.lk_found.proofs.Inside.{declarator_kept, nodes_inside}
use Rattle.lk_found.specs.Declarators.{left_of, scope_told}
use Rattle.lk_found.specs.Keepings.{KeepsEach}
use Rattle.lk_found.specs.Shaped.{codes_by, forms_in, is_large_shape, shaped, type_in}
use Rattle.lk_found.specs.Shapes.{IsElement}
use Rattle.lk_found.specs.Walked.{inside}
use Rattle.lk_found.specs.declared.declarators.Asked.{Asked}
use Rattle.lk_found.specs.declared.declarators.DeclaratorFound.{DeclaratorFound}
use Rattle.lk_found.specs.declared.shapes.Left.{Left}
use Rattle.lk_found.specs.declared.walked.Walked.{Walked}
use Rattle.lk_typed.specs.Nodes as nodes
use Rattle.lk_checker.proofs.GoingOn.{type_same}
use Rattle.lk_checker.proofs.States.{stays_in}
use Rattle.lk_checker.specs.Moves.{Puts, IsFurther}
use Rattle.lk_checker.specs.Shaped.{IsKnownWalked, IsTypeShaped, IsWholeShaped}
use Rattle.lk_checker.specs.States.{IsIn, IsSound, kept_in}
use Rattle.lk_checker.specs.declared.checker.Checker.{Checker}
use Rattle.lk_checker.proofs.Whole.{large_rules}
use Rattle.lk_check_walk.proofs.Truth.{truth_of, truth_still}
use Rattle.lk_check_walk.proofs.WalkedForms.{scope_stays}
use Rattle.lk_check_walk.specs.Declarators.{FindsDeclarator}
use Rattle.lk_check_walk.specs.Walked.{WalksForms}

-- ---- the declarator

module _ (old one new : Checker) (d : Declarator) (left : Option ℕ) (asked : Asked) (walked : Walked) (l : Left) (found : DeclaratorFound) (sound : IsSound old) (further : IsFurther old one) (puts : Puts one new)
    (known : IfSome left (IsKnown old.types)) (is : l.ty ≡ left) (known_walked : IsKnownWalked one walked) where
  -- the type on the left, behind the walk
  typed : type_in one.types l ≡ option_map (meaning old.types) left
  typed = ap (option_map (meaning one.types)) is ∙ type_same old one sound further left known

  pub declarator_is : ((env : Env) → IsIn old env → IsElement env.structs l.element (option_map (meaning old.types) left)) → WalksForms old one asked.in_size d walked →
      IsWholeShaped one new d walked l asked.may_be_absent found → FindsDeclarator old new left d asked found
  declarator_is element walks whole at_end env stands =
      let h = walks at_end env stands in
      let t = option_map (meaning old.types) left in
      let span = span_at env (left_of env asked.may_be_absent t d Unnamed) in
      let same : reverse (forms_in one.types walked.layers.items) ≡ h.forms = ap reverse h.walked.layers ∙ reverse-reverse h.forms in
      let made : IsTypeShaped one new span d h.forms l found.ty =
      subst (λ fs. IsTypeShaped one new span d fs l found.ty) same
      (whole.type span h.walked.walks.behind (subst (IsElement env.structs l.element) (sym typed) (element env stands.is_in)) refl) in
      record {
        type = made.type ∙ ap (shaped span h.forms) typed ∙ sym (types_follow_forms span d h.forms h.has t).0;
        holds_sizeof = whole.holds_sizeof ∙ h.walked.holds_sizeof;
        parameters = ap (scope_told new.types) whole.parameters ∙ scope_stays one new puts.longer further.sound puts.sound.ready.table_is walked.parameters known_walked.parameters ∙ h.walked.parameters;
        behind = stays_in one new further.sound puts.longer puts.names puts.outside (extend env ((declarator_found d).additions env)) h.walked.walks.behind;
        keeps = λ becomes others later last kept.
            declarator_kept at_end env d h.forms h.has (sym stands.role) (left_of env asked.may_be_absent t d becomes) refl (kept_in old) (kept_in one) made.middle (kept_in new) last others later
            h.walked.walks.keeps (subst (λ t. KeepsEach (kept_in one) (codes_by span h.forms t) made.middle) typed made.forms)
            (subst (λ t. KeepsCodes made.middle (mark d.spot d.ordinal) (large_rules (is_large_shape span h.forms t)) (kept_in new)) typed made.large) kept;
        records = λ given.
            truth_of at_end old new (inside h.has) (nodes.at env (ADeclarator given d) ∷ []) (nodes_inside at_end env d h.forms h.has given)
            (truth_still at_end old one new (inside h.has) further.sound.ready.table_is puts.longer puts.records h.walked.walks.records);
      }
