-- The first fault of a source is told.
use Rattle.std.proofs.Common.{◌≡◌, ◌∙◌, ◌⊎◌, ◌++◌, ℕ, List, [], Option, Some, None, refl, sym, ap, subst, inl, inr}
use Rattle.std.proofs.lemmas.List.{append-nil}
use Rattle.std.specs.Option.{option_map}
use Rattle.std.specs.Prelude.{MatchOption, slice_get}
use Rattle.lk_base.specs.declared.refusal.Refusal.{Refusal}
use Rattle.lk_tree.specs.declared.expression.Expr.{Expr}
use Rattle.lk_tree.specs.declared.statement.Decl.{Decl}
use Rattle.lk_tree.specs.declared.statement.Unit.{Unit}
use Rattle.lk_types.specs.Building.{IsLonger}
use Rattle.lk_types.proofs.GrowLemmas.{longer_same}
use Rattle.lk_types.specs.Table.{Table}
use Rattle.lk_typed.specs.Elements.{HasFewElements}
use Rattle.lk_typed.specs.Env.{Declared, Env, Name}
use Rattle.lk_typed.specs.Meaning.{IsReady}
use Rattle.lk_names.specs.InScope.{InScope, IsKnownScope}
use Rattle.lk_typed.specs.Faults.{Fault}
use Rattle.lk_typed.specs.NodeParts.{externals_in_turn}
use Rattle.lk_typed.specs.Nodes.{Node, Placed}
use Rattle.lk_typed.specs.Stands.{IsIn as IsAmong}
use Rattle.lk_typed.specs.declared.entity.Use.{Use}
use Rattle.lk_typed.specs.Units.{IsFaultOf, IsFirstFault, around, at_end}
use Rattle.lk_rules.proofs.Kept.{the_first_fault_is_kept}
use Rattle.lk_rules.specs.Keeping.{KeepsNodes, none_kept}
use Rattle.lk_typed.specs.Structs.{IsTagOf}
use Rattle.lk_typed.specs.declared.unit.StructTag.{StructTag}
use Rattle.lk_typed.specs.Units.IsNode.{node_of}
use Rattle.lk_found.specs.Keepings.{KeepsAll}
use Rattle.lk_found.specs.Recorded.{Recorded, nothing_recorded}
use Rattle.lk_found.specs.Structs.{AreListed}
use Rattle.lk_found.specs.Truth.{AddsTruth, IsSoInside, AddsTags, IsOfTag, NoTag}
use Rattle.lk_found.specs.Uses.{AddsUses, IsOfUse, IsOfWord, taken_in, word_in}
use Rattle.lk_found.specs.Findings.{IsOfExpression, IsOfInitialiser, IsOfName, IsOfTypeName, refusal_of}
use Rattle.lk_checker.specs.States.{IsIn, kept_in, recorded_in}
use Rattle.lk_checker.specs.declared.checker.Checker.{Checker}
use Rattle.lk_checker.specs.declared.checker.Outside.{Outside}
use Rattle.lk_checker.proofs.KeepsAll.{in_same}
use Rattle.lk_check_walk.specs.Walks.{TellsTruth}
use Rattle.lk_check_walk.proofs.Truth.{truth_still}
use Rattle.lk_checker.specs.Sources.{AreTrue, AreUses, IsOutsideOf, RecordsOf, TellsFirst}
use Rattle.lk_check_unit.specs.Later.{WalksBut, pending_codes}
use Rattle.lk_check_unit.specs.Sources.{WalksOver, externals_add}
use Rattle.lk_check_unit.proofs.Sources.{behind_is}
use Rattle.lk_check_unit.proofs.Later.{nodes_alone}

answered : (externs : List Name) (unit : Unit) (least : Option Fault) → MatchOption least ((f : Fault) → IsFaultOf externs unit f → ⊥) (λ f. IsFirstFault externs unit f) →
    TellsFirst externs unit (option_map refusal_of least)
answered externs unit None none = none
answered externs unit (Some f) first = (f, first, refl)

-- a state where a source begins, and that behind it
module _ (externs : List Name) (unit : Unit) (c0 c2 : Checker) (begins : IsIn c0 (around externs unit)) (kept : kept_in c0 ≡ none_kept) (over : WalksOver c0 c2 unit.externals) where
  abbrev last : Env
  last = at_end externs unit

  walked : WalksBut last c0 over.between (around externs unit) (externals_add (around externs unit) unit.externals) (externals_in_turn (around externs unit) unit.externals) (pending_codes over.between.types last over.walks.puts.fresh)
  walked = over.walks.walks last (around externs unit) (record { is_in = begins; role = refl; in_size = refl })

  asked : KeepsAll last (kept_in over.between) [] (pending_codes over.between.types last over.walks.puts.fresh ++ []) (kept_in c2)
  asked =
      subst (λ cs. KeepsAll last (kept_in over.between) [] cs (kept_in c2)) (sym (append-nil (pending_codes over.between.types last over.walks.puts.fresh)))
      (subst (λ ps. KeepsAll last (kept_in over.between) [] (pending_codes over.between.types last ps) (kept_in c2)) over.walks.puts.are
      (over.asks last (subst (IsIn over.between) (behind_is (around externs unit) unit.externals) walked.behind)))

  all_kept : KeepsNodes last none_kept (externals_in_turn (around externs unit) unit.externals) (kept_in c2)
  all_kept =
      subst (λ k. KeepsNodes last k (externals_in_turn (around externs unit) unit.externals) (kept_in c2)) kept
      (nodes_alone last (kept_in c0) (kept_in c2) (externals_in_turn (around externs unit) unit.externals)
      (subst (λ ps. KeepsAll last (kept_in c0) ps [] (kept_in c2)) (append-nil (externals_in_turn (around externs unit) unit.externals)) (walked.keeps [] [] (kept_in c2) asked)))

  pub first_told : (answer : Option Refusal) → answer ≡ option_map refusal_of (kept_in c2).least → TellsFirst externs unit answer
  first_told answer is = subst (TellsFirst externs unit) (sym is) (answered externs unit (kept_in c2).least (the_first_fault_is_kept externs unit (kept_in c2) all_kept))

  -- ---- what is recorded

  abbrev nodes : List Placed
  nodes = externals_in_turn (around externs unit) unit.externals

  module _ (nothing : recorded_in c0 ≡ nothing_recorded) where
    told : TellsTruth last c0 c2 nodes
    told = truth_still last c0 over.between c2 nodes walked.sound.ready.table_is (subst (IsLonger over.between.types) (sym over.same.types) (longer_same over.between.types)) over.same.records walked.records

    -- what was there before is nothing
    all_so : {V : Type 0} (IsSo : ℕ → V → Env → Node → Type 0) (before entries : List (ℕ × V)) → before ≡ [] → AddsTruth last IsSo before nodes entries → AreTrue externs unit IsSo entries
    all_so {V} IsSo before entries none truth n v among = of (truth n v among)
      where
        of : IsAmong (n, v) before ⊎ IsSoInside last nodes (IsSo n v) → IsSoInside last nodes (IsSo n v)
        of (inl h) = absurd (subst (IsAmong (n, v)) none h)
        of (inr so) = so

    all_uses : (spoken_of : Env → Expr → Option Declared) (before uses : List (ℕ × Use)) → before ≡ [] → AddsUses spoken_of last before nodes uses → AreUses externs unit spoken_of uses
    all_uses spoken_of before uses none adds = record { truth = all_so (IsOfUse spoken_of) before uses none adds.truth; each = adds.each }

    -- each tag is of a struct that begins at a node of the source
    all_tags : (before tags : List StructTag) → before ≡ [] → AddsTags NoTag last before nodes tags → (s : ℕ) (tag : StructTag) → slice_get tags s ≡ Some tag → IsTagOf externs unit s tag
    all_tags before tags none truth s tag is = of (truth s tag is)
      where
        none_is : (t : StructTag) → ◌≡◌ {A = Option StructTag} None (Some t) → ⊥
        none_is t never = cc

        of : (slice_get before s ≡ Some tag) ⊎ (IsSoInside last nodes (IsOfTag s tag) ⊎ NoTag s tag) → IsTagOf externs unit s tag
        of (inl there) = absurd (none_is tag (subst (λ (tags : List StructTag). slice_get tags s ≡ Some tag) none there))
        of (inr (inl so)) = record {
          env = so.env;
          node = so.node;
          stands = node_of so.outer so.among so.stands;
          env' = so.is_so.env';
          specifier = so.is_so.specifier;
          among = so.is_so.among;
          begins = so.is_so.begun.begins;
          number = so.is_so.begun.number;
          outside = so.is_so.begun.outside;
        }
        of (inr (inr never)) = absurd never

    pub records_told : RecordsOf externs unit c2.types c2.records
    records_told = record {
      founds = all_so (IsOfExpression c2.types) c0.records.founds c2.records.founds (ap (λ (r : Recorded). r.founds) nothing) told.founds;
      named = all_so (IsOfTypeName c2.types) c0.records.named c2.records.named (ap (λ (r : Recorded). r.named) nothing) told.named;
      meant = all_so (IsOfWord c2.types) c0.records.meant c2.records.meant (ap (λ (r : Recorded). r.meant) nothing) told.meant;
      initialisers = all_so (IsOfInitialiser c2.types) c0.records.initialisers c2.records.initialisers (ap (λ (r : Recorded). r.initialisers) nothing) told.initialisers;
      uses = all_uses word_in c0.records.first_uses c2.records.first_uses (ap (λ (r : Recorded). r.first_uses) nothing) told.uses;
      taken = all_uses taken_in c0.records.taken c2.records.taken (ap (λ (r : Recorded). r.taken) nothing) told.taken;
      declared = all_so (IsOfName c2.types) c0.records.declared c2.records.declared (ap (λ (r : Recorded). r.declared) nothing) told.declared;
      tags = all_tags c0.records.tags c2.records.tags (ap (λ (r : Recorded). r.tags) nothing) told.tags;
    }

    -- ---- what is in scope

    pub behind_all : IsIn c2 last
    behind_all = in_same over.between c2 last over.same (subst (IsIn over.between) (behind_is (around externs unit) unit.externals) walked.behind)

    pub outside_stays : IsOutsideOf c0.outside externs unit → IsOutsideOf c2.outside externs unit
    outside_stays is = subst (λ (o : Outside). IsOutsideOf o externs unit) (sym (over.same.outside ∙ walked.outside)) is

-- what is known of a state behind a source
module _ (c0 c2 : Checker) (ds : List Decl) (over : WalksOver c0 c2 ds) where
  pub ready_behind : IsReady c2.types
  ready_behind = subst IsReady (sym over.same.types) over.grows.sound.ready

  pub few_behind : HasFewElements c2.types
  few_behind = subst HasFewElements (sym over.same.types) over.grows.sound.few

  pub known_behind : IsKnownScope c2.types c2.names
  known_behind =
      subst (λ (table : Table). IsKnownScope table c2.names) (sym over.same.types)
      (subst (λ (names : InScope). IsKnownScope over.between.types names) (sym over.same.names) over.grows.sound.scope)

  pub structs_behind : AreListed c2.types c2.names.structs
  structs_behind =
      subst (λ (table : Table). AreListed table c2.names.structs) (sym over.same.types)
      (subst (λ (names : InScope). AreListed over.between.types names.structs) (sym over.same.names) over.grows.sound.structs)
