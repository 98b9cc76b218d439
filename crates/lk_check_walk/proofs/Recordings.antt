-- A state stays what it was where something is recorded, and what is recorded is true.
use Rattle.std.proofs.Common.{◌≡◌, ◌∙◌, ℕ, Bool, List, [], ◌∷◌, Option, Some, None, refl, sym, subst, nat_eq}
use Rattle.std.specs.Prelude.{IfSome, option_map}
use Rattle.indexmap.specs.IndexMap.{insert_entry}
use Rattle.lk_tree.specs.declared.expression.Expr.{Expr}
use Rattle.lk_tree.specs.declared.expression.TypeName.{TypeName, out-TypeName}
use Rattle.lk_types.specs.Building.{IsLonger, IsTable}
use Rattle.lk_types.specs.Table.{Table, IsKnown}
use Rattle.lk_typed.specs.Env.{Additions, Declared, Env}
use Rattle.lk_typed.specs.Expressions.{expression}
use Rattle.lk_typed.specs.Meaning.{meaning}
use Rattle.lk_typed.specs.NodeParts.{parts}
use Rattle.lk_typed.specs.Nodes.{AnExpression, ATypeName, Placed, at}
use Rattle.lk_rules.specs.Laws.{name_found}
use Rattle.lk_found.specs.Judging.{HasKnownType}
use Rattle.lk_found.specs.Recorded.{Recorded, use_of, with_expression, with_named, with_taken, with_use, with_word}
use Rattle.lk_found.specs.Truth.{AddsTags, AddsTruth, NoTag}
use Rattle.lk_found.specs.Uses.{AddsUses, AreNamesIn, IsMeant, IsOfWord, taken_in, word_in}
use Rattle.lk_found.specs.Findings.{IsFound, IsOfExpression, IsOfInitialiser, IsOfName, IsOfTypeName}
use Rattle.lk_found.specs.declared.found.Found.{Found}
use Rattle.lk_found.specs.declared.found.Stands.{Stands}
use Rattle.lk_found.specs.declared.found.TypeFound.{TypeFound}
use Rattle.lk_found.specs.declared.records.Meant.{Meant}
use Rattle.lk_found.specs.declared.records.NamesIn.{NamesIn}
use Rattle.lk_found.proofs.Entries.{adds_among, adds_put, among_node}
use Rattle.lk_found.proofs.Tags.{tags_among}
use Rattle.lk_found.proofs.Uses.{uses_silent, uses_spoken}
use Rattle.lk_checker.specs.Moves.{IsFurther}
use Rattle.lk_checker.specs.States.{IsIn, IsSound}
use Rattle.lk_checker.specs.declared.checker.Checker.{Checker}
use Rattle.lk_check_walk.specs.Walking.{Judges, JudgesForm, NamesType}
use Rattle.lk_check_walk.specs.Walks.{TellsTruth, Walks, WalksAndTells}
use Rattle.lk_check_walk.proofs.Truth.{meant_longer}

abbrev pub with_records : Checker → Recorded → Checker
with_records checker r = record checker { records = r }

pub sound_recorded : (checker : Checker) (r : Recorded) → IsSound checker → IsSound (with_records checker r)
sound_recorded checker r sound = record { ready = sound.ready; few = sound.few; scope = sound.scope; structs = sound.structs }

pub in_recorded : (checker : Checker) (r : Recorded) (env : Env) → IsIn checker env → IsIn (with_records checker r) env
in_recorded checker r env is = record { scope = is.scope; defined = is.defined; externs = is.externs }

pub walks_recorded : (at_end : Env) (old new : Checker) (r : Recorded) (env : Env) (added : Additions) (nodes told : List Placed) → WalksAndTells at_end old new env added nodes told →
    TellsTruth at_end old (with_records new r) nodes → Walks at_end old (with_records new r) env added nodes
walks_recorded at_end old new r env added nodes told w truth = record {
  longer = w.longer;
  sound = sound_recorded new r w.sound;
  outside = w.outside;
  begun = w.begun;
  behind = in_recorded new r _ w.behind;
  keeps = w.keeps;
  records = truth;
}

pub further_recorded : (old new : Checker) (r : Recorded) → IsFurther old new → IsFurther old (with_records new r)
further_recorded old new r f = record { longer = f.longer; sound = sound_recorded new r f.sound; outside = f.outside; begun = f.begun }

-- ---- an expression

module _ (at_end : Env) (old new : Checker) (env : Env) (e : Expr) (found : Found) where
  abbrev Whole : List Placed
  Whole = at env (AnExpression e) ∷ []

  abbrev Inside : List Placed
  Inside = parts at_end env (AnExpression e)

  abbrev with_found : Recorded
  with_found = record new.records { founds = insert_entry nat_eq new.records.founds e.ordinal found }

  -- what is true of its parts, and what was found of it
  founds_told : IsFound new.types env found (expression e env) → TellsTruth at_end old new Inside → AddsTruth at_end (IsOfExpression new.types) old.records.founds Whole with_found.founds
  founds_told is truth =
      adds_put at_end (IsOfExpression new.types) old.records.founds new.records.founds e.ordinal found env (AnExpression e) (record { e = e; is = refl; number = refl; found = is })
      (adds_among at_end (IsOfExpression new.types) old.records.founds new.records.founds Inside Whole (among_node at_end env (AnExpression e)) truth.founds)

  meant_inside : TellsTruth at_end old new Inside → AddsTruth at_end (IsOfWord new.types) old.records.meant Whole new.records.meant
  meant_inside truth = adds_among at_end (IsOfWord new.types) old.records.meant new.records.meant Inside Whole (among_node at_end env (AnExpression e)) truth.meant

  named_inside : TellsTruth at_end old new Inside → AddsTruth at_end (IsOfTypeName new.types) old.records.named Whole new.records.named
  named_inside truth = adds_among at_end (IsOfTypeName new.types) old.records.named new.records.named Inside Whole (among_node at_end env (AnExpression e)) truth.named

  initialisers_inside : TellsTruth at_end old new Inside → AddsTruth at_end (IsOfInitialiser new.types) old.records.initialisers Whole new.records.initialisers
  initialisers_inside truth = adds_among at_end (IsOfInitialiser new.types) old.records.initialisers new.records.initialisers Inside Whole (among_node at_end env (AnExpression e)) truth.initialisers

  declared_inside : TellsTruth at_end old new Inside → AddsTruth at_end (IsOfName new.types) old.records.declared Whole new.records.declared
  declared_inside truth = adds_among at_end (IsOfName new.types) old.records.declared new.records.declared Inside Whole (among_node at_end env (AnExpression e)) truth.declared

  -- with the name that it is
  record TellsWord (r : Recorded) : Type 0 where
    founds : r.founds ≡ with_found.founds
    named : r.named ≡ new.records.named
    initialisers : r.initialisers ≡ new.records.initialisers
    address_taken : r.taken ≡ new.records.taken
    declared : r.declared ≡ new.records.declared
    tags : r.tags ≡ new.records.tags
    meant : AddsTruth at_end (IsOfWord new.types) old.records.meant Whole r.meant
    uses : AddsUses word_in at_end old.records.first_uses Whole r.first_uses

  word_told : (m : Option Meant) (d : Option Declared) → IsMeant new.types m d → word_in env e ≡ d → TellsTruth at_end old new Inside → TellsWord (with_word (use_of e) m with_found)
  word_told None None meant is truth = record {
    founds = refl;
    named = refl;
    initialisers = refl;
    address_taken = refl;
    declared = refl;
    tags = refl;
    meant = meant_inside truth;
    uses = uses_silent word_in at_end old.records.first_uses new.records.first_uses env e is truth.uses;
  }
  word_told None (Some d) meant is truth = absurd meant
  word_told (Some m) None meant is truth = absurd meant
  word_told (Some m) (Some d) meant is truth = record {
    founds = refl;
    named = refl;
    initialisers = refl;
    address_taken = refl;
    declared = refl;
    tags = refl;
    meant = adds_put at_end (IsOfWord new.types) old.records.meant new.records.meant e.ordinal m env (AnExpression e)
        (record { e = e; is = refl; number = refl; declared = d; found = is; stands_for = meant }) (meant_inside truth);
    uses = subst (λ n. AddsUses word_in at_end old.records.first_uses Whole (with_use n (use_of e) new.records.first_uses)) (sym meant.ordinal)
        (uses_spoken word_in at_end old.records.first_uses new.records.first_uses env e d is truth.uses);
  }

  -- and with that whose address it takes
  record TellsTaken (r s : Recorded) : Type 0 where
    founds : s.founds ≡ r.founds
    named : s.named ≡ r.named
    initialisers : s.initialisers ≡ r.initialisers
    meant : s.meant ≡ r.meant
    uses : s.first_uses ≡ r.first_uses
    declared : s.declared ≡ r.declared
    tags : s.tags ≡ r.tags
    address_taken : AddsUses taken_in at_end old.records.taken Whole s.taken

  taken_told : (m : Option Meant) (d : Option Declared) → IsMeant new.types m d → taken_in env e ≡ d → TellsTruth at_end old new Inside → (r : Recorded) → r.taken ≡ new.records.taken →
      TellsTaken r (with_taken (use_of e) m r)
  taken_told None None meant is truth r same = record {
    founds = refl;
    named = refl;
    initialisers = refl;
    meant = refl;
    uses = refl;
    declared = refl;
    tags = refl;
    address_taken = subst (λ uses. AddsUses taken_in at_end old.records.taken Whole uses) (sym same)
        (uses_silent taken_in at_end old.records.taken new.records.taken env e is truth.taken);
  }
  taken_told None (Some d) meant is truth r same = absurd meant
  taken_told (Some m) None meant is truth r same = absurd meant
  taken_told (Some m) (Some d) meant is truth r same = record {
    founds = refl;
    named = refl;
    initialisers = refl;
    meant = refl;
    uses = refl;
    declared = refl;
    tags = refl;
    address_taken = subst (λ uses. AddsUses taken_in at_end old.records.taken Whole (with_use m.ordinal (use_of e) uses)) (sym same)
        (subst (λ n. AddsUses taken_in at_end old.records.taken Whole (with_use n (use_of e) new.records.taken)) (sym meant.ordinal)
        (uses_spoken taken_in at_end old.records.taken new.records.taken env e d is truth.taken));
  }

  -- all of it
  expression_told : (names : NamesIn) → IsFound new.types env found (expression e env) → AreNamesIn new.types env e names → TellsTruth at_end old new Inside →
      TellsTruth at_end old (with_records new (with_expression e found names new.records)) Whole
  expression_told names is are truth =
      let two = with_word (use_of e) names.word with_found in
      let w = word_told names.word (word_in env e) are.word refl truth in
      let t = taken_told names.taken (taken_in env e) are.taken refl truth two w.address_taken in
      record {
        founds = subst (λ xs. AddsTruth at_end (IsOfExpression new.types) old.records.founds Whole xs) (sym (t.founds ∙ w.founds)) (founds_told is truth);
        named = subst (λ xs. AddsTruth at_end (IsOfTypeName new.types) old.records.named Whole xs) (sym (t.named ∙ w.named)) (named_inside truth);
        meant = subst (λ xs. AddsTruth at_end (IsOfWord new.types) old.records.meant Whole xs) (sym t.meant) w.meant;
        initialisers = subst (λ xs. AddsTruth at_end (IsOfInitialiser new.types) old.records.initialisers Whole xs) (sym (t.initialisers ∙ w.initialisers)) (initialisers_inside truth);
        uses = subst (λ xs. AddsUses word_in at_end old.records.first_uses Whole xs) (sym t.uses) w.uses;
        taken = t.address_taken;
        declared = subst (λ xs. AddsTruth at_end (IsOfName new.types) old.records.declared Whole xs) (sym (t.declared ∙ w.declared)) (declared_inside truth);
        tags = subst (λ tags. AddsTags NoTag at_end old.records.tags Whole tags) (sym (t.tags ∙ w.tags)) (tags_among at_end NoTag old.records.tags new.records.tags Inside Whole (among_node at_end env (AnExpression e)) truth.tags);
      }

names_longer : (old new : Table) (env : Env) (e : Expr) (names : NamesIn) → IsTable old → IsLonger old new → AreNamesIn old env e names → AreNamesIn new env e names
names_longer old new env e names good longer are =
    record { word = meant_longer old new good longer names.word (word_in env e) are.word; taken = meant_longer old new good longer names.taken (taken_in env e) are.taken }

pub judged_recorded : (old new : Checker) (r : Recorded) (stands : Stands) (e : Expr) (found : Found) (names : NamesIn) → IsSound old → r ≡ with_expression e found names new.records →
    ((env : Env) → IsIn old env → AreNamesIn old.types env e names) → JudgesForm old new stands e found → Judges old (with_records new r) stands e found
judged_recorded old new r stands e found names sound same are judges at_end env is =
    let j = judges at_end env is in
    let names_are = names_longer old.types new.types env e names sound.ready.table_is j.walks.longer (are env is.is_in) in
    record {
      walks = walks_recorded at_end old new r env _ _ _ j.walks
          (subst (λ r. TellsTruth at_end old (with_records new r) (at env (AnExpression e) ∷ [])) (sym same) (expression_told at_end old new env e found names j.found names_are j.walks.records));
      found = j.found;
    }

-- ---- a type name

type_told : (at_end : Env) (old new : Checker) (env : Env) (n : TypeName) (ty : Option ℕ) → IfSome ty (IsKnown new.types) → option_map (meaning new.types) ty ≡ (name_found n env).type →
    TellsTruth at_end old new (at env (ATypeName n) ∷ []) → TellsTruth at_end old (with_records new (with_named (out-TypeName n).ordinal ty new.records)) (at env (ATypeName n) ∷ [])
type_told at_end old new env n None known is truth =
    record { founds = truth.founds; named = truth.named; meant = truth.meant; initialisers = truth.initialisers; uses = truth.uses; taken = truth.taken; declared = truth.declared; tags = truth.tags }
type_told at_end old new env n (Some t) known is truth = record {
  founds = truth.founds;
  meant = truth.meant;
  initialisers = truth.initialisers;
  uses = truth.uses;
  taken = truth.taken;
  declared = truth.declared;
  tags = truth.tags;
  named = adds_put at_end (IsOfTypeName new.types) old.records.named new.records.named (out-TypeName n).ordinal t env (ATypeName n)
      (record { name = n; is = refl; number = refl; known = known; type = sym is }) truth.named;
}

pub named_recorded : (old new : Checker) (r : Recorded) (in_size : Bool) (n : TypeName) (found : TypeFound) → r ≡ with_named (out-TypeName n).ordinal found.ty new.records → HasKnownType new.types found →
    NamesType old new in_size n found → NamesType old (with_records new r) in_size n found
named_recorded old new r in_size n found same known names at_end env is =
    let j = names at_end env is in
    record {
      walks = walks_recorded at_end old new r env _ _ _ j.walks
          (subst (λ r. TellsTruth at_end old (with_records new r) (at env (ATypeName n) ∷ [])) (sym same) (type_told at_end old new env n found.ty known j.found.type j.walks.records));
      found = j.found;
    }
