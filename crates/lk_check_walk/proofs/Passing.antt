-- A parameter is walked: its specifiers, its declarator, and its own codes (C99 6.7.5.3).
use Rattle.std.proofs.Common.{◌≡◌, ◌∙◌, ◌++◌, ◌||◌, ◌&&◌, ℕ, Bool, true, false, List, [], ◌∷◌, Option, Some, None, map, refl, sym, ap, subst, append_assoc}
use Rattle.std.specs.Prelude.{option_map}
use Rattle.lk_tree.specs.declared.expression.Declarator.{Declarator}
use Rattle.lk_tree.specs.declared.expression.Parameter.{Parameter, out-Parameter}
use Rattle.lk_tree.specs.declared.expression.Specifier.{Specifier}
use Rattle.lk_typed.specs.DeclarationRules.{InType, type_in}
use Rattle.lk_typed.specs.DeclaratorRules.{of_type}
use Rattle.lk_typed.specs.Env.{Env, both, extend, nothing}
use Rattle.lk_typed.specs.Expressions.{declarator_found, declarator_layer, parameter_found, specifier_found, specifiers_found}
use Rattle.lk_typed.specs.Faults.{Breach}
use Rattle.lk_typed.specs.HolderRules.{all_specifier_rules}
use Rattle.lk_typed.specs.Layers.{has_name, is_void_type, parameter_name, parameter_told, parameter_type, type_made}
use Rattle.lk_typed.specs.Meaning.{meaning}
use Rattle.lk_typed.specs.NodeParts.{type_part_if_there, type_parts, type_left}
use Rattle.lk_typed.specs.NodeRules.{adjusted_rules, breaches, env_behind, is_named, mark, parameter_node_rules, struct_bound_rules, type_behind}
use Rattle.lk_typed.specs.Nodes.{ADeclarator, AParameter, IsParameter, at}
use Rattle.lk_typed.specs.Parts.{specifiers_parts}
use Rattle.lk_typed.specs.Stands.{Mark}
use Rattle.lk_typed.specs.Told.{DeclaratorTold, SpecifierTold, TypeTold}
use Rattle.lk_typed.specs.Ty.{Ty}
use Rattle.lk_rules.proofs.Kept.{codes_are_kept_behind_parts, nodes_are_kept_in_turn, nothing_is_kept}
use Rattle.lk_rules.proofs.Layered.{parameters_follow_their_parts}
use Rattle.lk_rules.proofs.Parts.{parameters_are_asked}
use Rattle.lk_rules.specs.Keeping.{Kept, KeepsCodes, KeepsNodes}
use Rattle.lk_found.specs.Truth.{IsBegunAmong, NoTag}
use Rattle.lk_found.proofs.Inside.{none_kept_at}
use Rattle.lk_found.proofs.Listing.{or_nothing}
use Rattle.lk_found.proofs.Environments.{extend_both, extend_nothing}
use Rattle.lk_found.specs.Declarators.{codes_of_use, left_of, name_codes}
use Rattle.lk_found.specs.Keepings.{Codes, KeepsEach, codes_at}
use Rattle.lk_found.specs.Parameters.{name_of}
use Rattle.lk_found.specs.Walked.{layer_of}
use Rattle.lk_found.specs.declared.declarators.Asked.{Asked}
use Rattle.lk_found.specs.declared.declarators.DeclaratorFound.{DeclaratorFound}
use Rattle.lk_found.specs.declared.gathered.Specified.{Specified}
use Rattle.lk_found.specs.declared.parameters.ParameterFound.{ParameterFound}
use Rattle.lk_checker.proofs.GoingOn.{stands_behind, same_further}
use Rattle.lk_checker.specs.Parameters.{IsParameterSettled, SettlesParameter}
use Rattle.lk_checker.specs.Moves.{IsFurther}
use Rattle.lk_checker.specs.States.{operand_in, IsIn, StandsIn, kept_in}
use Rattle.lk_checker.specs.declared.checker.Checker.{Checker}
use Rattle.lk_check_walk.proofs.Inside.{use_kept}
use Rattle.lk_check_walk.proofs.Truth.{truth_same, told_of_node, told_still, told_then}
use Rattle.lk_check_walk.specs.Declarators.{FindsDeclarator, IsDeclared}
use Rattle.lk_check_walk.specs.Parameters.{FindsParameter, IsParameterFound}
use Rattle.lk_check_walk.specs.Specifying.{AreSpecified, Specifies}
use Rattle.lk_check_walk.specs.Walks.{TellsTruth, TellsOwn}

-- codes of one more node
each_more : (old middle new : Kept) (cs : List Codes) (m : Mark) (bs : List Breach) → KeepsEach old cs middle → KeepsCodes middle m bs new → KeepsEach old (cs ++ codes_at m bs ∷ []) new
each_more old middle new [] m bs same kept = (new, subst (λ k. KeepsCodes k m bs new) same kept, refl)
each_more old middle new (c ∷ cs) m bs h kept = (h.0, h.1, each_more h.0 middle new cs m bs h.2 kept)

-- a parameter is no member of a struct
no_struct_rules : (behind : Env) (t : Option Ty) → of_type t (struct_bound_rules behind IsParameter) ≡ []
no_struct_rules behind None = refl
no_struct_rules behind (Some t) = refl

and_false : (b : Bool) → (b && false) ≡ false
and_false true = refl
and_false false = refl

-- ---- what it tells, by its declarator that may be missing

module _ (env : Env) (p : Parameter) (o : Option Declarator) (is_o : (out-Parameter p).declarator ≡ o) where
  abbrev ss : List Specifier
  ss = (out-Parameter p).specifiers

  abbrev m : Mark
  m = mark (out-Parameter p).spot (out-Parameter p).ordinal

  abbrev told : SpecifierTold
  told = specifiers_found ss env false

  abbrev after : Env
  after = extend env told.additions

  abbrev l : DeclaratorTold
  l = (layer_of o).told

  abbrev behind : Env
  behind = extend after (l.additions after)

  -- the type as it is written
  abbrev written : Option Ty
  written = type_made after true (type_in InType told) l

  abbrev made : Option Ty
  made = parameter_type behind (name_of o) written

  is_told : parameter_found p env ≡ parameter_told (map specifier_found ss) (option_map declarator_layer o) env
  is_told = ap (λ teller. teller env) (parameters_follow_their_parts p) ∙ ap (λ o. parameter_told (map specifier_found ss) (option_map declarator_layer o) env) is_o

  same_name : (o : Option Declarator) → (layer_of o).told.name ≡ name_of o
  same_name None = refl
  same_name (Some d) = refl

  whole_env : extend env (both told.additions (l.additions after)) ≡ behind
  whole_env = sym (extend_both env told.additions (l.additions after))

  type_told : (parameter_found p env).type ≡ made
  type_told = ap (λ (t : TypeTold). t.type) is_told ∙ ap (λ e. parameter_type e l.name written) whole_env ∙ ap (λ n. parameter_type behind n written) (same_name o)

  additions_told : (parameter_found p env).additions ≡ both (both told.additions (l.additions after)) (parameter_name (name_of o) made)
  additions_told =
      ap (λ (t : TypeTold). t.additions) is_told ∙ ap (λ e. both (both told.additions (l.additions after)) (parameter_name l.name (parameter_type e l.name written))) whole_env ∙
      ap (λ n. both (both told.additions (l.additions after)) (parameter_name n (parameter_type behind n written))) (same_name o)

  -- what the rules ask
  named_as : (o : Option Declarator) → is_named o ≡ has_name (name_of o)
  named_as None = refl
  named_as (Some d) = refl

  behind_as : (o : Option Declarator) → env_behind env ss o ≡ extend after ((layer_of o).told.additions after)
  behind_as None = sym (extend_nothing after)
  behind_as (Some d) = refl

  type_as : (o : Option Declarator) → type_behind env InType true ss o ≡ type_made after true (type_in InType told) (layer_of o).told
  type_as None = refl
  type_as (Some d) = refl

  abbrev rules : Bool → List Breach
  rules void = all_specifier_rules InType false env ss ++ (parameter_node_rules (has_name (name_of o)) void written ++ adjusted_rules behind written)

  rules_are : (at_end : Env) (lone : Bool) → breaches at_end env (AParameter lone p) ≡ rules (lone && (parameter_found p env).is_bare_void)
  rules_are at_end lone =
      let void = lone && (parameter_found p env).is_bare_void in
      let own = all_specifier_rules InType false env ss in
      parameters_are_asked at_end env lone p ∙
      ap (λ o. (own ++ parameter_node_rules (is_named o) void (type_behind env InType true ss o)) ++ adjusted_rules (env_behind env ss o) (type_behind env InType true ss o)) is_o ∙
      ap (λ n. (own ++ parameter_node_rules n void (type_behind env InType true ss o)) ++ adjusted_rules (env_behind env ss o) (type_behind env InType true ss o)) (named_as o) ∙
      ap (λ t. (own ++ parameter_node_rules (has_name (name_of o)) void t) ++ adjusted_rules (env_behind env ss o) t) (type_as o) ∙
      ap (λ e. (own ++ parameter_node_rules (has_name (name_of o)) void written) ++ adjusted_rules e written) (behind_as o) ∙
      append_assoc own (parameter_node_rules (has_name (name_of o)) void written) (adjusted_rules behind written)

  -- its specifiers and its declarator were walked, and it is settled
  parameter_is : (at_end : Env) (old one two new : Checker) (lone in_size void : Bool) (found_specifiers : Specified) (found : ParameterFound) → IsFurther old new →
      AreSpecified at_end old one env InType false ss found_specifiers → (settled : IsParameterSettled two new behind m o found_specifiers.breaches.items void written found.ty) →
      KeepsNodes at_end (kept_in one) (type_part_if_there after told true IsParameter o) settled.middle → TellsTruth at_end one two (type_part_if_there after told true IsParameter o) →
      IsFurther one two → IsFurther two new → void ≡ (lone && (parameter_found p env).is_bare_void) →
      found.is_bare_void ≡ (parameter_found p env).is_bare_void → found.holds_sizeof ≡ (parameter_found p env).holds_sizeof → IsParameterFound at_end old new env lone p found
  parameter_is at_end old one two new lone in_size void found_specifiers found further s settled nodes truth second later is_void bare holds =
      let Own = IsBegunAmong false env ss in
      let parts_of = λ (o : Option Declarator). type_parts env true IsParameter ss o in
      let inside : KeepsNodes at_end (kept_in old) (parts_of o) settled.middle =
      nodes_are_kept_in_turn at_end (kept_in old) (kept_in one) settled.middle (specifiers_parts false env ss) (type_part_if_there after told true IsParameter o) s.walks.keeps nodes in
      let own : KeepsCodes settled.middle m (rules void) (kept_in new) =
      subst (λ bs. KeepsCodes settled.middle m (bs ++ (parameter_node_rules (has_name (name_of o)) void written ++ adjusted_rules behind written)) (kept_in new)) s.specified.breaches settled.rules in
      record {
        walks = record {
          longer = further.longer;
          sound = further.sound;
          outside = further.outside;
          begun = further.begun;
          behind = subst (λ a. IsIn new (extend env a)) (sym additions_told)
              (subst (IsIn new) (ap (λ e. extend e (parameter_name (name_of o) made)) (extend_both env told.additions (l.additions after)) ∙ extend_both env (both told.additions (l.additions after)) (parameter_name (name_of o) made))
              settled.behind);
          keeps = codes_are_kept_behind_parts at_end env (AParameter lone p) (kept_in old) settled.middle (kept_in new) refl
              (subst (λ o. KeepsNodes at_end (kept_in old) (parts_of o) settled.middle) (sym is_o) inside)
              (subst (λ bs. KeepsCodes settled.middle m bs (kept_in new)) (ap rules is_void ∙ sym (rules_are at_end lone)) own);
          records = told_of_node Own at_end old new env (AParameter lone p) refl (λ s tag own. own)
              (subst (λ o. TellsOwn Own at_end old new (parts_of o)) (sym is_o)
              (told_still Own at_end old two new (parts_of o) second.sound.ready.table_is later.longer settled.records
              (told_then Own NoTag Own at_end old one two (specifiers_parts false env ss) (type_part_if_there after told true IsParameter o) s.walks.sound.ready.table_is second.longer (λ s tag own. own)
              (λ s tag never. absurd never) s.walks.records truth)));
        };
        type = settled.type ∙ sym type_told;
        is_bare_void = bare;
        holds_sizeof = holds;
      }

-- ---- with a declarator

-- behind the codes at its name it is walked
declared_node : (at_end env : Env) (one two : Checker) (t : Option ℕ) (d : Declarator) (asked : Asked) (declared : DeclaratorFound) (left type : Option Ty) (middle : Kept) → option_map (meaning one.types) t ≡ left →
    asked.may_be_absent ≡ true → IsDeclared at_end one two env t d asked declared → type ≡ type_made env true left (declarator_found d) →
    KeepsEach (kept_in two) (name_codes (extend env ((declarator_found d).additions env)) type IsParameter (declarator_found d).name) middle →
    KeepsNodes at_end (kept_in one) (at env (ADeclarator (left_of env true left d IsParameter) d) ∷ []) middle
declared_node at_end env one two t d asked declared left type middle is may found made names =
    let behind = extend env ((declarator_found d).additions env) in
    let m = mark d.spot d.ordinal in
    let whole = type_made env true left (declarator_found d) in
    let use_of = λ (b : Bool) (l : Option Ty). codes_of_use env (left_of env b l d IsParameter) d in
    let node_of = λ (b : Bool) (l : Option Ty). at env (ADeclarator (left_of env b l d IsParameter) d) ∷ [] in
    let kept : KeepsEach (kept_in two) (use_of true left) middle =
    each_more (kept_in two) middle middle (name_codes behind whole IsParameter (declarator_found d).name) m (of_type whole (struct_bound_rules behind IsParameter))
    (subst (λ t. KeepsEach (kept_in two) (name_codes behind t IsParameter (declarator_found d).name) middle) made names) (none_kept_at middle m _ (no_struct_rules behind whole)) in
    subst (λ b. KeepsNodes at_end (kept_in one) (node_of b left) middle) may
    (subst (λ l. KeepsNodes at_end (kept_in one) (node_of asked.may_be_absent l) middle) is
    (use_kept found IsParameter middle
    (subst (λ l. KeepsEach (kept_in two) (use_of asked.may_be_absent l) middle) (sym is) (subst (λ b. KeepsEach (kept_in two) (use_of b left) middle) (sym may) kept))))

module _ (old one two new : Checker) (lone in_size : Bool) (p : Parameter) (found_specifiers : Specified) (found : ParameterFound) (further : IsFurther old new)
    (specifies : Specifies old one InType false in_size (out-Parameter p).specifiers found_specifiers) where
  pub named_found : (d : Declarator) (asked : Asked) (declared : DeclaratorFound) → (out-Parameter p).declarator ≡ Some d → asked.may_be_absent ≡ true → asked.in_size ≡ in_size →
      FindsDeclarator one two found_specifiers.ty d asked declared → IsFurther one two → IsFurther two new → SettlesParameter two new p found_specifiers.breaches.items false (option_map (meaning two.types) declared.ty) found.ty →
      found.is_bare_void ≡ false → found.holds_sizeof ≡ (found_specifiers.holds_sizeof || declared.holds_sizeof) → FindsParameter old new in_size lone p found
  named_found d asked declared there may size finds second later settles void holds at_end env stands =
      let s = specifies at_end env stands in
      let told = specifiers_found (out-Parameter p).specifiers env false in
      let after = extend env told.additions in
      let inner = finds at_end after (subst (λ b. StandsIn one (operand_in b) after) (sym size) (stands_behind old one in_size env told.additions stands s.walks.behind)) in
      let behind = extend after ((declarator_found d).additions after) in
      let type : option_map (meaning two.types) declared.ty ≡ type_made after true (type_in InType told) (declarator_found d) =
      inner.type ∙ ap (λ b. type_made after b (option_map (meaning one.types) found_specifiers.ty) (declarator_found d)) may ∙ ap (λ t. type_made after true t (declarator_found d)) s.specified.type in
      let m = mark (out-Parameter p).spot (out-Parameter p).ordinal in
      let settled : IsParameterSettled two new behind m (Some d) found_specifiers.breaches.items false (type_made after true (type_in InType told) (declarator_found d)) found.ty =
      subst (λ t. IsParameterSettled two new behind m (Some d) found_specifiers.breaches.items false t found.ty) type
      (subst (λ o. IsParameterSettled two new behind m o found_specifiers.breaches.items false (option_map (meaning two.types) declared.ty) found.ty) there (settles behind inner.behind)) in
      let bare : (parameter_found p env).is_bare_void ≡ false = ap (λ (t : TypeTold). t.is_bare_void) (is_told env p (Some d) there) in
      parameter_is env p (Some d) there at_end old one two new lone in_size false found_specifiers found further s settled
      (declared_node at_end after one two found_specifiers.ty d asked declared (type_in InType told) (type_made after true (type_in InType told) (declarator_found d)) settled.middle s.specified.type may inner refl settled.name)
      (inner.records (type_left after told true IsParameter d)) second later
      (sym (ap (λ b. lone && b) bare ∙ and_false lone)) (void ∙ sym bare)
      (holds ∙ ap (λ b. b || declared.holds_sizeof) s.specified.holds_sizeof ∙ ap (λ b. told.holds_sizeof || b) inner.holds_sizeof ∙ sym (ap (λ (t : TypeTold). t.holds_sizeof) (is_told env p (Some d) there)))

  -- ---- without one

  pub bare_found : (is_void : Bool) → (out-Parameter p).declarator ≡ None → two ≡ one → IsFurther one new → SettlesParameter one new p found_specifiers.breaches.items is_void (option_map (meaning one.types) found_specifiers.ty) found.ty →
      is_void ≡ (lone && found.is_bare_void) → found.is_bare_void ≡ is_void_type (option_map (meaning one.types) found_specifiers.named) → found.holds_sizeof ≡ found_specifiers.holds_sizeof →
      FindsParameter old new in_size lone p found
  bare_found is_void there same later settles void bare holds at_end env stands =
      let s = specifies at_end env stands in
      let told = specifiers_found (out-Parameter p).specifiers env false in
      let after = extend env told.additions in
      let m = mark (out-Parameter p).spot (out-Parameter p).ordinal in
      let behind = extend after nothing in
      let settled : IsParameterSettled one new behind m None found_specifiers.breaches.items is_void (type_in InType told) found.ty =
      subst (λ t. IsParameterSettled one new behind m None found_specifiers.breaches.items is_void t found.ty) s.specified.type
      (subst (λ o. IsParameterSettled one new behind m o found_specifiers.breaches.items is_void (option_map (meaning one.types) found_specifiers.ty) found.ty) there
      (settles behind (subst (IsIn one) (sym (extend_nothing after)) s.walks.behind))) in
      let told_bare : found.is_bare_void ≡ (parameter_found p env).is_bare_void =
      bare ∙ ap is_void_type s.specified.named ∙ sym (ap (λ (t : TypeTold). t.is_bare_void) (is_told env p None there)) in
      parameter_is env p None there at_end old one one new lone in_size is_void found_specifiers found further s settled
      (subst (λ k. KeepsNodes at_end (kept_in one) [] k) (sym settled.name) (nothing_is_kept at_end (kept_in one)))
      (truth_same at_end one one refl) (same_further one s.walks.sound) later
      (void ∙ ap (λ b. lone && b) told_bare) told_bare
      (holds ∙ s.specified.holds_sizeof ∙ sym (ap (λ (t : TypeTold). t.holds_sizeof) (is_told env p None there) ∙ or_nothing told.holds_sizeof))
