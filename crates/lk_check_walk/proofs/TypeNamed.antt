-- A type name: its specifiers, their codes, its declarator.
use Rattle.std.proofs.Common.{◌≡◌, ◌∙◌, ◌++◌, Bool, false, List, [], ◌∷◌, Option, Some, None, map, refl, sym, ap, subst}
use Rattle.std.specs.Prelude.{◌||◌, slice_get}
use Rattle.std.specs.Option.{option_map}
use Rattle.lk_types.specs.Building.{IsLonger}
use Rattle.lk_types.proofs.GrowLemmas.{longer_same, longer_then}
use Rattle.lk_tree.specs.declared.expression.Declarator.{Declarator}
use Rattle.lk_tree.specs.declared.expression.TypeName.{TypeName, out-TypeName}
use Rattle.lk_typed.specs.DeclarationRules.{InType, type_in}
use Rattle.lk_typed.specs.DeclaratorRules.{of_type}
use Rattle.lk_typed.specs.Env.{Env, extend}
use Rattle.lk_typed.specs.Expressions.{declarator_found, declarator_layer, specifier_found, specifiers_found, type_found}
use Rattle.lk_typed.specs.Layers.{inner_of, type_made, type_name_told}
use Rattle.lk_typed.specs.Meaning.{meaning}
use Rattle.lk_typed.specs.NodeParts.{type_part_if_there, type_left}
use Rattle.lk_typed.specs.NodeRules.{breaches, mark, struct_bound_rules}
use Rattle.lk_typed.specs.Nodes.{ADeclarator, ATypeName, Left, Unnamed, Placed, at}
use Rattle.lk_typed.specs.Parts.{span_at, specifiers_parts}
use Rattle.lk_typed.specs.Stands.{IsIn as IsAmong, Mark}
use Rattle.lk_typed.specs.Told.{DeclaratorTold, Named, SpecifierTold, TypeTold}
use Rattle.lk_typed.specs.Ty.{Ty}
use Rattle.lk_names.specs.InScope.{InScope}
use Rattle.lk_rules.proofs.Kept.{both_are_all_of_a_node, codes_are_kept_further, nodes_are_kept_further, nothing_is_kept, nothing_is_kept_of_both}
use Rattle.lk_rules.proofs.Layered.{type_names_follow_their_parts}
use Rattle.lk_rules.proofs.Parts.{type_names_are_asked}
use Rattle.lk_rules.specs.Keeping.{Kept, KeepsBoth, KeepsCodes, KeepsNodes}
use Rattle.lk_found.specs.Truth.{IsBegunAmong, NoTag}
use Rattle.lk_found.proofs.Gathering.{or_false}
use Rattle.lk_found.proofs.Keepings.{no_codes}
use Rattle.lk_found.proofs.Environments.{extend_both, extend_nothing}
use Rattle.lk_found.specs.Declarators.{left_of, name_codes, use_codes}
use Rattle.lk_found.specs.Keepings.{KeepsEach, codes_at}
use Rattle.lk_found.specs.Specified.{breaches_in}
use Rattle.lk_found.specs.Findings.{mark_at}
use Rattle.lk_found.specs.declared.declarators.Asked.{Asked}
use Rattle.lk_found.specs.declared.declarators.DeclaratorFound.{DeclaratorFound}
use Rattle.lk_found.specs.declared.found.At.{At}
use Rattle.lk_found.specs.declared.found.TypeFound.{TypeFound}
use Rattle.lk_found.specs.declared.gathered.Specified.{Specified}
use Rattle.lk_checker.proofs.KeepsAll.{in_same, sound_same}
use Rattle.lk_checker.specs.Moves.{IsSame, KeepsAt, IsFurther}
use Rattle.lk_checker.specs.States.{IsIn, kept_in}
use Rattle.lk_checker.specs.declared.checker.Checker.{Checker}
use Rattle.lk_check_walk.proofs.Inside.{use_kept}
use Rattle.lk_check_walk.proofs.Truth.{truth_same, told_of_node, told_still, told_then}
use Rattle.lk_check_walk.specs.Declarators.{IsDeclared}
use Rattle.lk_check_walk.specs.Specifying.{AreSpecified}
use Rattle.lk_check_walk.specs.Walking.{IsTypeNamed}
use Rattle.lk_check_walk.specs.Walks.{Walks, TellsTruth, TellsOwn}

-- a name that nothing becomes has no codes
pub unnamed_kept : (kept : Kept) (left : Left) (d : Declarator) (t : Option Ty) → left.use_of_name ≡ Unnamed → KeepsEach kept (use_codes left d t) kept
unnamed_kept kept left d t is =
    subst (λ becomes. KeepsEach kept (name_codes left.behind t becomes (declarator_found d).name ++ codes_at (mark d.spot d.ordinal) (of_type t (struct_bound_rules left.behind becomes)) ∷ []) kept) (sym is)
    (by_name (declarator_found d).name t)
  where
    last : (t : Option Ty) → KeepsEach kept (codes_at (mark d.spot d.ordinal) (of_type t (struct_bound_rules left.behind Unnamed)) ∷ []) kept
    last None = (kept, no_codes kept (mark d.spot d.ordinal), refl)
    last (Some t) = (kept, no_codes kept (mark d.spot d.ordinal), refl)

    by_name : (name : Option Named) (t : Option Ty) →
        KeepsEach kept (name_codes left.behind t Unnamed name ++ codes_at (mark d.spot d.ordinal) (of_type t (struct_bound_rules left.behind Unnamed)) ∷ []) kept
    by_name None t = last t
    by_name (Some named) t = (kept, no_codes kept (mark named.spot named.ordinal), last t)

module _ (at_end : Env) (old first middle new : Checker) (env : Env) (n : TypeName) (specified : Specified) (at_n : At) (result : TypeFound)
    (marked : mark_at at_n ≡ mark (out-TypeName n).spot (out-TypeName n).ordinal) (specifies : AreSpecified at_end old first env InType false (out-TypeName n).specifiers specified)
    (same : IsSame first middle) (keeps : KeepsAt first middle at_n (breaches_in specified.breaches.items)) where
  abbrev told : SpecifierTold
  told = specifiers_found (out-TypeName n).specifiers env false

  abbrev here : Env
  here = extend env told.additions

  abbrev inner : Option Declarator → DeclaratorTold
  inner d = (inner_of (option_map declarator_layer d)).told

  abbrev inner_nodes : Option Declarator → List Placed
  inner_nodes d = type_part_if_there here told false Unnamed d

  abbrev node_mark : Mark
  node_mark = mark (out-TypeName n).spot (out-TypeName n).ordinal

  codes_are : breaches_in specified.breaches.items ≡ breaches at_end env (ATypeName n)
  codes_are = specifies.specified.breaches ∙ sym (type_names_are_asked at_end env n)

  node_kept : (d : Option Declarator) → (out-TypeName n).declarator ≡ d → KeepsNodes at_end (kept_in middle) (inner_nodes d) (kept_in new) →
      KeepsNodes at_end (kept_in old) (at env (ATypeName n) ∷ []) (kept_in new)
  node_kept d is inside =
      let bs = breaches_in specified.breaches.items in
      let ps = specifiers_parts false env (out-TypeName n).specifiers in
      let none = nothing_is_kept_of_both at_end (kept_in old) node_mark in
      let nodes = nodes_are_kept_further at_end (kept_in old) (kept_in old) (kept_in first) node_mark [] ps [] none specifies.walks.keeps in
      let own = subst (λ m. KeepsCodes (kept_in first) m bs (kept_in middle)) marked keeps in
      let codes = codes_are_kept_further at_end (kept_in old) (kept_in first) (kept_in middle) node_mark ps [] bs nodes own in
      let all = nodes_are_kept_further at_end (kept_in old) (kept_in middle) (kept_in new) node_mark ps (inner_nodes d) bs codes inside in
      both_are_all_of_a_node at_end env (ATypeName n) (kept_in old) (kept_in new) bs refl (λ b. (subst (IsAmong b) codes_are, subst (IsAmong b) (sym codes_are)))
      (subst (λ d. KeepsBoth at_end (kept_in old) (ps ++ inner_nodes d) node_mark bs (kept_in new)) (sym is) all)

  node_told : (d : Option Declarator) → (out-TypeName n).declarator ≡ d → TellsTruth at_end middle new (inner_nodes d) → IsFurther middle new → TellsTruth at_end old new (at env (ATypeName n) ∷ [])
  node_told d is truth further =
      let ps = specifiers_parts false env (out-TypeName n).specifiers in
      let good = specifies.walks.sound.ready.table_is in
      let longer = subst (IsLonger first.types) (sym same.types) (longer_same first.types) in
      let Own = IsBegunAmong false env (out-TypeName n).specifiers in
      told_of_node Own at_end old new env (ATypeName n) refl (λ s tag own. own)
      (subst (λ d. TellsOwn Own at_end old new (ps ++ inner_nodes d)) (sym is)
      (told_then Own NoTag Own at_end old middle new ps (inner_nodes d) (sound_same first middle same specifies.walks.sound).ready.table_is further.longer (λ s tag own. own)
      (λ s tag never. absurd never) (told_still Own at_end old first middle ps good longer same.records specifies.walks.records) truth))

  pub type_named : (d : Option Declarator) → (out-TypeName n).declarator ≡ d → KeepsNodes at_end (kept_in middle) (inner_nodes d) (kept_in new) → TellsTruth at_end middle new (inner_nodes d) → IsFurther middle new →
      IsIn new (extend here ((inner d).additions here)) → option_map (meaning new.types) result.ty ≡ type_made here false (type_in InType told) (inner d) →
      result.holds_sizeof ≡ (told.holds_sizeof || (inner d).holds_sizeof here) → IsTypeNamed at_end old new env n result
  type_named d is inside truth further behind type holds =
      let found : type_found n env ≡ type_name_told (map specifier_found (out-TypeName n).specifiers) (option_map declarator_layer d) env =
      ap (λ f. f env) (type_names_follow_their_parts n) ∙ ap (λ d. type_name_told (map specifier_found (out-TypeName n).specifiers) (option_map declarator_layer d) env) is in
      record {
        walks = subst (λ (t : TypeTold). Walks at_end old new env t.additions (at env (ATypeName n) ∷ [])) (sym found)
            (record {
              longer = longer_then old.types first.types new.types specifies.walks.longer (subst (λ table. IsLonger table new.types) same.types further.longer);
              sound = further.sound;
              outside = further.outside ∙ same.outside ∙ specifies.walks.outside;
              begun = λ s begun. further.begun s (ap (λ (names : InScope). slice_get names.structs s) same.names ∙ specifies.walks.begun s begun);
              behind = subst (IsIn new) (extend_both env told.additions ((inner d).additions here)) behind;
              keeps = node_kept d is inside;
              records = node_told d is truth further;
            });
        found = record {
          type = type ∙ ap (λ (t : TypeTold). t.type) (sym found);
          holds_sizeof = holds ∙ ap (λ (t : TypeTold). t.holds_sizeof) (sym found);
        };
      }

-- without a declarator
pub named_alone : (at_end : Env) (old first new : Checker) (env : Env) (n : TypeName) (specified : Specified) (at_n : At) (result : TypeFound) →
    mark_at at_n ≡ mark (out-TypeName n).spot (out-TypeName n).ordinal → AreSpecified at_end old first env InType false (out-TypeName n).specifiers specified →
    IsSame first new → KeepsAt first new at_n (breaches_in specified.breaches.items) → (out-TypeName n).declarator ≡ None → result.ty ≡ specified.ty → result.holds_sizeof ≡ specified.holds_sizeof →
    IsTypeNamed at_end old new env n result
named_alone at_end old first new env n specified at_n result marked specifies same keeps is type holds =
    let told = specifiers_found (out-TypeName n).specifiers env false in
    let sound = sound_same first new same specifies.walks.sound in
    type_named at_end old first new new env n specified at_n result marked specifies same keeps None is (nothing_is_kept at_end (kept_in new)) (truth_same at_end new new refl)
    (record { longer = longer_same new.types; sound = sound; outside = refl; begun = λ s begun. begun })
    (subst (IsIn new) (sym (extend_nothing (extend env told.additions))) (in_same first new (extend env told.additions) same specifies.walks.behind))
    (ap (λ table. option_map (meaning table) result.ty) same.types ∙ ap (option_map (meaning first.types)) type ∙ specifies.specified.type)
    (holds ∙ specifies.specified.holds_sizeof ∙ sym (or_false told.holds_sizeof))

-- behind specifiers a declarator
pub named_with : (at_end : Env) (old first middle new : Checker) (in_size : Bool) (env : Env) (n : TypeName) (d : Declarator) (specified : Specified) (at_n : At) (asked : Asked) (found : DeclaratorFound) (result : TypeFound) →
    mark_at at_n ≡ mark (out-TypeName n).spot (out-TypeName n).ordinal → AreSpecified at_end old first env InType false (out-TypeName n).specifiers specified →
    IsSame first middle → KeepsAt first middle at_n (breaches_in specified.breaches.items) → (out-TypeName n).declarator ≡ Some d → asked.may_be_absent ≡ false → IsFurther middle new →
    IsDeclared at_end middle new (extend env (specifiers_found (out-TypeName n).specifiers env false).additions) specified.ty d asked found →
    result.ty ≡ found.ty → result.holds_sizeof ≡ (specified.holds_sizeof || found.holds_sizeof) → IsTypeNamed at_end old new env n result
named_with at_end old first middle new in_size env n d specified at_n asked found result marked specifies same keeps is absent further declared type holds =
    let told = specifiers_found (out-TypeName n).specifiers env false in
    let here = extend env told.additions in
    let left : option_map (meaning middle.types) specified.ty ≡ type_in InType told = ap (λ table. option_map (meaning table) specified.ty) same.types ∙ specifies.specified.type in
    let given = left_of here asked.may_be_absent (option_map (meaning middle.types) specified.ty) d Unnamed in
    let node = use_kept declared Unnamed (kept_in new)
    (unnamed_kept (kept_in new) given d ((declarator_found d).type (span_at here given) given.type) refl) in
    type_named at_end old first middle new env n specified at_n result marked specifies same keeps (Some d) is
    (subst (λ may. KeepsNodes at_end (kept_in middle) (at here (ADeclarator (left_of here may (type_in InType told) d Unnamed) d) ∷ []) (kept_in new)) absent
    (subst (λ t. KeepsNodes at_end (kept_in middle) (at here (ADeclarator (left_of here asked.may_be_absent t d Unnamed) d) ∷ []) (kept_in new)) left node))
    (declared.records (type_left here told false Unnamed d)) further declared.behind
    (ap (option_map (meaning new.types)) type ∙ declared.type ∙ ap (λ may. type_made here may (option_map (meaning middle.types) specified.ty) (declarator_found d)) absent ∙
    ap (λ t. type_made here false t (declarator_found d)) left)
    (holds ∙ ap (λ h. h || found.holds_sizeof) specifies.specified.holds_sizeof ∙ ap (λ h. told.holds_sizeof || h) declared.holds_sizeof)
