-- Parameters are found one after another (C99 6.7.5.3).
use Rattle.std.proofs.Common.{◌≡◌, ◌∙◌, ◌++◌, ◌||◌, ◌&&◌, ℕ, Bool, false, List, [], ◌∷◌, Option, Some, None, All, IfSome, sym, ap, subst}
use Rattle.std.specs.Prelude.{if◌then◌else◌, option_map}
use Rattle.lk_tree.specs.declared.expression.Parameter.{Parameter}
use Rattle.lk_types.specs.Building.{IsPassed}
use Rattle.lk_types.specs.Table.{Table}
use Rattle.lk_typed.specs.Env.{Additions, Env, enter, extend, past_scope}
use Rattle.lk_typed.specs.Expressions.{parameter_found}
use Rattle.lk_typed.specs.Layers.{each_parameter}
use Rattle.lk_typed.specs.Meaning.{meaning}
use Rattle.lk_typed.specs.Nodes.{AParameter, at}
use Rattle.lk_typed.specs.Parts.{is_lone, parameters_in_turn, tellers}
use Rattle.lk_names.specs.Growing.{IsMarkOf}
use Rattle.lk_names.specs.declared.names.Mark.{Mark}
use Rattle.lk_rules.specs.Keeping.{KeepsNodes}
use Rattle.lk_found.proofs.Shaping.{form_same, passed_stays}
use Rattle.lk_found.specs.Parameters.{has_void, types_listed, with_last}
use Rattle.lk_found.specs.Shapes.{params_in}
use Rattle.lk_found.specs.declared.parameters.Listed.{Listed}
use Rattle.lk_found.specs.declared.parameters.ParameterFound.{ParameterFound}
use Rattle.lk_found.specs.declared.parameters.ParametersFound.{ParametersFound}
use Rattle.lk_found.proofs.Listing.{is_last, nodes_last, tellers_last, params_of, params_last, all_told, no_params}
use Rattle.lk_found.specs.declared.layers.Layer.TheVariants as layer
use Rattle.lk_checker.proofs.GoingOn.{grows_further, stands_behind, then_further}
use Rattle.lk_checker.specs.Moves.{Grows, IsFurther}
use Rattle.lk_checker.specs.Scopes.{IsEntered, IsLeft}
use Rattle.lk_checker.specs.States.{IsIn, IsSound, kept_in}
use Rattle.lk_checker.specs.declared.checker.Checker.{Checker}
use Rattle.lk_check_walk.proofs.Walking.{no_walk, then_walks}
use Rattle.lk_check_walk.proofs.Truth.{truth_behind, truth_still}
use Rattle.lk_check_walk.specs.Parameters.{FindsParameter, FindsParameters, ListsParameters}
use Rattle.lk_check_walk.specs.Walks.{Walks}

module _ (old new : Checker) (sound : IsSound old) (further : IsFurther old new) where
  params_stay : (ts : Option (List ℕ)) → IfSome ts (All (IsPassed old.types)) → params_in new.types ts ≡ params_in old.types ts
  params_stay ts known = ap params_of (form_same old.types new.types sound.ready.table_is further.sound.ready.table_is further.longer (layer.Function ts false) known)

  pub params_known : (ts : Option (List ℕ)) → IfSome ts (All (IsPassed old.types)) → IfSome ts (All (IsPassed new.types))
  params_known None known = tt
  params_known (Some ts) known = λ k d within. passed_stays old.types new.types sound.ready.table_is further.sound.ready.table_is further.longer _ (known k d within)

-- ---- one more parameter is found

pub listed_more : (old middle new : Checker) (in_size lone : Bool) (ps : List Parameter) (p : Parameter) (before after : Listed) (found : ParameterFound) → IsSound middle → IsFurther middle new →
    ListsParameters old middle in_size lone ps before → IfSome (types_listed before) (All (IsPassed middle.types)) → FindsParameter middle new in_size lone p found →
    types_listed after ≡ with_last (types_listed before) found.ty → after.has_void ≡ (before.has_void || found.is_bare_void) → after.holds_sizeof ≡ (before.holds_sizeof || found.holds_sizeof) →
    ListsParameters old new in_size lone (ps ++ p ∷ []) after
listed_more old middle new in_size lone ps p before after found sound further listed known finds types void holds at_end env stands =
    let h = listed at_end env stands in
    let all = each_parameter (tellers ps) env in
    let behind = extend env all.additions in
    let s = finds at_end behind (stands_behind old middle in_size env all.additions stands h.walks.behind) in
    let last = parameter_found p behind in
    let told = is_last (tellers ps) (parameter_found p) env in
    let next = tellers_last ps p in
    record {
      walks = subst (λ ns. Walks at_end old new env (each_parameter (tellers (ps ++ p ∷ [])) env).additions ns) (sym (nodes_last lone ps p env))
          (subst (λ a. Walks at_end old new env a (parameters_in_turn lone env ps ++ at behind (AParameter lone p) ∷ [])) (sym (ap (λ ts. (each_parameter ts env).additions) next ∙ told.additions))
          (then_walks at_end old middle new env all.additions last.additions (parameters_in_turn lone env ps) (at behind (AParameter lone p) ∷ []) h.walks s.walks));
      types = ap (params_in new.types) types ∙ params_last new.types (types_listed before) found.ty ∙ ap (λ ts. with_last ts (option_map (meaning new.types) found.ty)) (params_stay middle new sound further (types_listed before) known ∙ h.types) ∙
          ap (with_last all.types) s.type ∙ sym (ap (λ ts. (each_parameter ts env).types) next ∙ told.types);
      void = void ∙ ap (λ b. b || found.is_bare_void) h.void ∙ ap (λ b. has_void (tellers ps) env || b) s.is_bare_void ∙ sym (ap (λ ts. has_void ts env) next ∙ told.void);
      holds_sizeof = holds ∙ ap (λ b. b || found.holds_sizeof) h.holds_sizeof ∙ ap (λ b. all.holds_sizeof || b) s.holds_sizeof ∙ sym (ap (λ ts. (each_parameter ts env).holds_sizeof) next ∙ told.holds);
    }

module _ (old first second new : Checker) (in_size dots : Bool) (ps : List Parameter) (mark : Mark) (listed : Listed) (found : ParametersFound)
    (begins : Grows old first) (same : first.names.structs ≡ old.names.structs) (further : IsFurther first second) (ends : Grows second new) (same_behind : new.names.structs ≡ second.names.structs) where
  abbrev all_further : IsFurther old new
  all_further = then_further old second new (then_further old first second (grows_further old first begins same) further) (grows_further second new ends same_behind)

  pub parameters_found : ((env : Env) → IsIn old env → IsEntered first mark env) → ListsParameters first second in_size (is_lone ps dots) ps listed →
      ((env : Env) (added : Additions) → IsMarkOf mark env → IsIn second (extend (enter env) added) → IsLeft new env added found.scope) → new.types ≡ second.types →
      found.types ≡ (if is_lone ps dots && listed.has_void then Some [] else types_listed listed) → found.holds_sizeof ≡ listed.holds_sizeof → FindsParameters old new in_size ps dots found
  parameters_found entered lists left table types holds at_end env stands =
      let inside = entered env stands.is_in in
      let h = lists at_end (enter env) (record { is_in = inside.behind; role = stands.role; in_size = stands.in_size }) in
      let lone = is_lone ps dots in
      let all = each_parameter (tellers ps) (enter env) in
      let told = all_told ps dots (enter env) in
      let outer = left env all.additions inside.marks h.walks.behind in
      let nodes = parameters_in_turn lone (enter env) ps in
      record {
        walks = record {
          longer = all_further.longer;
          sound = all_further.sound;
          outside = all_further.outside;
          begun = all_further.begun;
          behind = subst (λ a. IsIn new (extend env (past_scope a))) (sym told.additions) outer.behind;
          keeps = subst (λ k. KeepsNodes at_end k nodes (kept_in new)) begins.kept (subst (KeepsNodes at_end (kept_in first) nodes) (sym ends.kept) h.walks.keeps);
          records = truth_behind at_end old first new nodes begins.records (truth_still at_end first second new nodes h.walks.sound.ready.table_is ends.longer ends.records h.walks.records);
        };
        types = ap (params_in new.types) types ∙ no_params new.types (lone && listed.has_void) (types_listed listed) ∙
            ap (λ b. if lone && b then Some [] else params_in new.types (types_listed listed)) h.void ∙
            ap (λ ts. if lone && has_void (tellers ps) (enter env) then Some [] else ts) (ap (λ (t : Table). params_in t (types_listed listed)) table ∙ h.types) ∙ sym told.types;
        holds_sizeof = holds ∙ h.holds_sizeof ∙ sym told.holds;
        scope = outer.told ∙ ap (λ (a : Additions). record a { structs = [] }) (sym told.additions);
      }

-- no parameter is found
pub none_listed : (old : Checker) (in_size lone : Bool) (listed : Listed) → IsSound old → types_listed listed ≡ Some [] → listed.has_void ≡ false → listed.holds_sizeof ≡ false → ListsParameters old old in_size lone [] listed
none_listed old in_size lone listed sound types void holds at_end env stands = record {
  walks = no_walk at_end old env sound stands.is_in;
  types = ap (params_in old.types) types;
  void = void;
  holds_sizeof = holds;
}
