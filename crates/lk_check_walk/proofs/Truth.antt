-- Records that tell the truth: of walks one after another, and of a node by its parts.
use Rattle.std.proofs.Common.{◌≡◌, ◌∙◌, ◌++◌, ℕ, false, List, [], ◌∷◌, Option, Some, None, refl, sym, ap, subst, inl}
use Rattle.lk_types.specs.Building.{IsLonger, IsTable}
use Rattle.lk_types.specs.Table.{Table}
use Rattle.lk_typed.proofs.Meanings.{meaning_stays}
use Rattle.lk_typed.specs.Entities.{NameDeclared}
use Rattle.lk_typed.specs.Env.{Declared, Env, Name}
use Rattle.lk_typed.specs.Expressions.{expr_word, expression}
use Rattle.lk_typed.specs.Names.{IsKnownMeaning, meaning_in}
use Rattle.lk_typed.specs.NodeParts.{parts}
use Rattle.lk_typed.specs.Nodes.{Node, Placed, at}
use Rattle.lk_typed.specs.Stands.Stands.{here}
use Rattle.lk_typed.specs.Ty.{Ty}
use Rattle.lk_typed.specs.declared.names.Meaning.{Meaning}
use Rattle.lk_typed.specs.declared.unit.StructTag.{StructTag}
use Rattle.lk_typed.specs.declared.names.Meaning.TheVariants.{Object, Function, Typedef, Enumerator, InitialiserWord, Faulty}
use Rattle.lk_found.specs.Recorded.{Recorded}
use Rattle.lk_found.specs.Truth.{AddsTags, AddsTruth, IsBegunBy, IsOfTag, NoTag}
use Rattle.lk_found.specs.Uses.{IsMeant, IsOfWord, StandsFor, taken_in, word_in}
use Rattle.lk_found.specs.Findings.{IsDeclaredAs, IsOfExpression, IsOfInitialiser, IsOfKind, IsOfName, IsOfTypeName}
use Rattle.lk_found.specs.declared.found.Found.{Found}
use Rattle.lk_found.specs.declared.records.DeclaredHere.{DeclaredHere}
use Rattle.lk_found.specs.declared.records.InitialiserKind.{InitialiserKind}
use Rattle.lk_found.specs.declared.records.InitialiserKind.TheVariants.{Value, Word}
use Rattle.lk_found.specs.declared.records.Meant.{Meant}
use Rattle.lk_found.proofs.Entries.{AreNodesOf, adds_among, adds_same, adds_still, adds_then, among_first, among_second, is_expression, nodes_of_node}
use Rattle.lk_found.proofs.Lasting.{found_longer, known_longer}
use Rattle.lk_found.proofs.Tags.{tags_among, tags_as, tags_inside, tags_last, tags_same, tags_then}
use Rattle.lk_found.proofs.Uses.{uses_behind, uses_of, uses_same, uses_still, uses_then}
use Rattle.lk_checker.specs.Moves.{RecordsTag}
use Rattle.lk_checker.specs.States.{recorded_in}
use Rattle.lk_checker.specs.declared.checker.Checker.{Checker}
use Rattle.lk_check_walk.specs.Walks.{TellsOwn, TellsTruth}

-- ---- while the table grows

expression_longer : (old new : Table) → IsTable old → IsLonger old new → (n : ℕ) (found : Found) (env : Env) (node : Node) → IsOfExpression old n found env node → IsOfExpression new n found env node
expression_longer old new good longer n found env node h =
    record { e = h.e; is = h.is; number = h.number; found = found_longer old new env found (expression h.e env) good longer h.found }

type_name_longer : (old new : Table) → IsTable old → IsLonger old new → (n t : ℕ) (env : Env) (node : Node) → IsOfTypeName old n t env node → IsOfTypeName new n t env node
type_name_longer old new good longer n t env node h =
    record { name = h.name; is = h.is; number = h.number; known = known_longer old new t longer h.known; type = h.type ∙ ap Some (sym (meaning_stays old new good longer t h.known)) }

meaning_longer : (old new : Table) → IsTable old → IsLonger old new → (m : Meaning) → IsKnownMeaning old m → IsKnownMeaning new m × (meaning_in new m ≡ meaning_in old m)
meaning_longer old new good longer (Object t duration) known = (known_longer old new t longer known, rw (meaning_stays old new good longer t known) refl)
meaning_longer old new good longer (Function t) known = (known_longer old new t longer known, rw (meaning_stays old new good longer t known) refl)
meaning_longer old new good longer (Typedef t) known = (known_longer old new t longer known, rw (meaning_stays old new good longer t known) refl)
meaning_longer old new good longer (Enumerator z) known = (tt, refl)
meaning_longer old new good longer (InitialiserWord t) known = (known_longer old new t longer known, rw (meaning_stays old new good longer t known) refl)
meaning_longer old new good longer Faulty known = (tt, refl)

stands_for_longer : (old new : Table) → IsTable old → IsLonger old new → (meant : Meant) (declared : Declared) → StandsFor old meant declared → StandsFor new meant declared
stands_for_longer old new good longer meant declared h =
    let m = meaning_longer old new good longer meant.meaning h.known in record { meaning = m.1 ∙ h.meaning; ordinal = h.ordinal; known = m.0 }

pub meant_longer : (old new : Table) → IsTable old → IsLonger old new → (meant : Option Meant) (declared : Option Declared) → IsMeant old meant declared → IsMeant new meant declared
meant_longer old new good longer None None h = tt
meant_longer old new good longer None (Some declared) h = absurd h
meant_longer old new good longer (Some meant) None h = absurd h
meant_longer old new good longer (Some meant) (Some declared) h = stands_for_longer old new good longer meant declared h

word_longer : (old new : Table) → IsTable old → IsLonger old new → (n : ℕ) (meant : Meant) (env : Env) (node : Node) → IsOfWord old n meant env node → IsOfWord new n meant env node
word_longer old new good longer n meant env node h =
    record { e = h.e; is = h.is; number = h.number; declared = h.declared; found = h.found; stands_for = stands_for_longer old new good longer meant h.declared h.stands_for }

kind_longer : (old new : Table) → IsTable old → IsLonger old new → (kind : InitialiserKind) (word : Option Ty) → IsOfKind old kind word → IsOfKind new kind word
kind_longer old new good longer (Word t) word h = (known_longer old new t longer h.0, h.1 ∙ ap Some (sym (meaning_stays old new good longer t h.0)))
kind_longer old new good longer Value word h = h

initialiser_longer : (old new : Table) → IsTable old → IsLonger old new → (n : ℕ) (kind : InitialiserKind) (env : Env) (node : Node) → IsOfInitialiser old n kind env node →
    IsOfInitialiser new n kind env node
initialiser_longer old new good longer n kind env node h =
    record { object = h.object; init = h.init; is = h.is; e = h.e; form = h.form; number = h.number; kind_is = kind_longer old new good longer kind (expr_word h.e env) h.kind_is }

pub declared_longer : (old new : Table) → IsTable old → IsLonger old new → (d : DeclaredHere) (name : NameDeclared) → IsDeclaredAs old d name → IsDeclaredAs new d name
declared_longer old new good longer d name h =
    let m = meaning_longer old new good longer d.meaning h.known_meaning in
    record {
      meaning_is = m.1 ∙ h.meaning_is;
      known_meaning = m.0;
      linkage = h.linkage;
      defines = h.defines;
      known = known_longer old new d.ty longer h.known;
      type = meaning_stays old new good longer d.ty h.known ∙ h.type;
    }

pub name_longer : (old new : Table) → IsTable old → IsLonger old new → (n : ℕ) (d : DeclaredHere) (env : Env) (node : Node) → IsOfName old n d env node → IsOfName new n d env node
name_longer old new good longer n d env node h =
    record { name = h.name; declares = h.declares; number = h.number; declared_as = declared_longer old new good longer d h.name h.declared_as }

-- ---- all that is recorded, with tags of structs that `Own` names

-- nothing is recorded but tags
pub tags_told : (Own : ℕ → StructTag → Type 0) (at_end : Env) (old new : Checker) (tags : List StructTag) → recorded_in new ≡ record (recorded_in old) { tags = tags } →
    AddsTags Own at_end old.records.tags [] new.records.tags → TellsOwn Own at_end old new []
tags_told Own at_end old new tags same adds = record {
  founds = adds_same at_end (IsOfExpression new.types) old.records.founds new.records.founds [] (ap (λ (r : Recorded). r.founds) same);
  named = adds_same at_end (IsOfTypeName new.types) old.records.named new.records.named [] (ap (λ (r : Recorded). r.named) same);
  meant = adds_same at_end (IsOfWord new.types) old.records.meant new.records.meant [] (ap (λ (r : Recorded). r.meant) same);
  initialisers = adds_same at_end (IsOfInitialiser new.types) old.records.initialisers new.records.initialisers [] (ap (λ (r : Recorded). r.initialisers) same);
  uses = uses_same word_in at_end old.records.first_uses new.records.first_uses (ap (λ (r : Recorded). r.first_uses) same);
  taken = uses_same taken_in at_end old.records.taken new.records.taken (ap (λ (r : Recorded). r.taken) same);
  declared = adds_same at_end (IsOfName new.types) old.records.declared new.records.declared [] (ap (λ (r : Recorded). r.declared) same);
  tags = adds;
}

-- the tag of a struct that begins
pub begun_told : (at_end : Env) (old new : Checker) (env : Env) (begun : Option (Option Name)) → RecordsTag old new env begun → TellsOwn (IsBegunBy begun env) at_end old new []
begun_told at_end old new env None records =
    tags_told (IsBegunBy None env) at_end old new old.records.tags records
    (tags_same at_end (IsBegunBy None env) old.records.tags new.records.tags [] (ap (λ (r : Recorded). r.tags) records))
begun_told at_end old new env (Some tag) records =
    tags_told (IsBegunBy (Some tag) env) at_end old new _ records.0
    (tags_last at_end env tag old.records.tags new.records.tags _ (ap (λ (r : Recorded). r.tags) records.0) refl records.1)

module _ (One Own : ℕ → StructTag → Type 0) (at_end : Env) where
  -- others begin
  pub told_as : (old new : Checker) (ps : List Placed) → ((s : ℕ) (tag : StructTag) → One s tag → Own s tag) → TellsOwn One at_end old new ps → TellsOwn Own at_end old new ps
  told_as old new ps own_of truth = record {
    founds = truth.founds;
    named = truth.named;
    meant = truth.meant;
    initialisers = truth.initialisers;
    uses = truth.uses;
    taken = truth.taken;
    declared = truth.declared;
    tags = tags_as at_end One Own old.records.tags new.records.tags ps own_of truth.tags;
  }

module _ (Own : ℕ → StructTag → Type 0) (at_end : Env) where
  -- of the same nodes, taken apart
  pub told_of : (old new : Checker) (ps qs : List Placed) → AreNodesOf at_end ps qs → TellsOwn Own at_end old new ps → TellsOwn Own at_end old new qs
  told_of old new ps qs nodes truth = record {
    founds = adds_among at_end (IsOfExpression new.types) old.records.founds new.records.founds ps qs nodes.among truth.founds;
    named = adds_among at_end (IsOfTypeName new.types) old.records.named new.records.named ps qs nodes.among truth.named;
    meant = adds_among at_end (IsOfWord new.types) old.records.meant new.records.meant ps qs nodes.among truth.meant;
    initialisers = adds_among at_end (IsOfInitialiser new.types) old.records.initialisers new.records.initialisers ps qs nodes.among truth.initialisers;
    uses = uses_of word_in at_end old.records.first_uses new.records.first_uses ps qs nodes truth.uses;
    taken = uses_of taken_in at_end old.records.taken new.records.taken ps qs nodes truth.taken;
    declared = adds_among at_end (IsOfName new.types) old.records.declared new.records.declared ps qs nodes.among truth.declared;
    tags = tags_among at_end Own old.records.tags new.records.tags ps qs nodes.among truth.tags;
  }

  -- then nothing
  pub told_still : (old middle new : Checker) (ps : List Placed) → IsTable middle.types → IsLonger middle.types new.types → recorded_in new ≡ recorded_in middle → TellsOwn Own at_end old middle ps →
      TellsOwn Own at_end old new ps
  told_still old middle new ps good longer same truth = record {
    founds = still (IsOfExpression middle.types) (IsOfExpression new.types) old.records.founds middle.records.founds new.records.founds (ap (λ (r : Recorded). r.founds) same)
        (expression_longer middle.types new.types good longer) truth.founds;
    named = still (IsOfTypeName middle.types) (IsOfTypeName new.types) old.records.named middle.records.named new.records.named (ap (λ (r : Recorded). r.named) same)
        (type_name_longer middle.types new.types good longer) truth.named;
    meant = still (IsOfWord middle.types) (IsOfWord new.types) old.records.meant middle.records.meant new.records.meant (ap (λ (r : Recorded). r.meant) same)
        (word_longer middle.types new.types good longer) truth.meant;
    initialisers = still (IsOfInitialiser middle.types) (IsOfInitialiser new.types) old.records.initialisers middle.records.initialisers new.records.initialisers
        (ap (λ (r : Recorded). r.initialisers) same) (initialiser_longer middle.types new.types good longer) truth.initialisers;
    uses = uses_still word_in at_end old.records.first_uses middle.records.first_uses new.records.first_uses ps (ap (λ (r : Recorded). r.first_uses) same) truth.uses;
    taken = uses_still taken_in at_end old.records.taken middle.records.taken new.records.taken ps (ap (λ (r : Recorded). r.taken) same) truth.taken;
    declared = still (IsOfName middle.types) (IsOfName new.types) old.records.declared middle.records.declared new.records.declared (ap (λ (r : Recorded). r.declared) same)
        (name_longer middle.types new.types good longer) truth.declared;
    tags = subst (λ tags. AddsTags Own at_end old.records.tags ps tags) (sym (ap (λ (r : Recorded). r.tags) same)) truth.tags;
  }
    where
      still : {V : Type 0} (A B : ℕ → V → Env → Node → Type 0) (xs ys zs : List (ℕ × V)) → zs ≡ ys → ((n : ℕ) (v : V) (env : Env) (node : Node) → A n v env node → B n v env node) →
          AddsTruth at_end A xs ps ys → AddsTruth at_end B xs ps zs
      still A B xs ys zs same stays f = subst (λ zs. AddsTruth at_end B xs ps zs) (sym same) (adds_still at_end A B xs ys ps stays f)

  -- nothing before them
  pub told_behind : (old middle new : Checker) (ps : List Placed) → recorded_in middle ≡ recorded_in old → TellsOwn Own at_end middle new ps → TellsOwn Own at_end old new ps
  told_behind old middle new ps same truth = record {
    founds = subst (λ xs. AddsTruth at_end (IsOfExpression new.types) xs ps new.records.founds) (ap (λ (r : Recorded). r.founds) same) truth.founds;
    named = subst (λ xs. AddsTruth at_end (IsOfTypeName new.types) xs ps new.records.named) (ap (λ (r : Recorded). r.named) same) truth.named;
    meant = subst (λ xs. AddsTruth at_end (IsOfWord new.types) xs ps new.records.meant) (ap (λ (r : Recorded). r.meant) same) truth.meant;
    initialisers = subst (λ xs. AddsTruth at_end (IsOfInitialiser new.types) xs ps new.records.initialisers) (ap (λ (r : Recorded). r.initialisers) same) truth.initialisers;
    uses = uses_behind word_in at_end old.records.first_uses middle.records.first_uses new.records.first_uses ps (ap (λ (r : Recorded). r.first_uses) same) truth.uses;
    taken = uses_behind taken_in at_end old.records.taken middle.records.taken new.records.taken ps (ap (λ (r : Recorded). r.taken) same) truth.taken;
    declared = subst (λ xs. AddsTruth at_end (IsOfName new.types) xs ps new.records.declared) (ap (λ (r : Recorded). r.declared) same) truth.declared;
    tags = subst (λ tags. AddsTags Own at_end tags ps new.records.tags) (ap (λ (r : Recorded). r.tags) same) truth.tags;
  }

module _ (One Two Own : ℕ → StructTag → Type 0) (at_end : Env) where
  -- nodes, then others
  pub told_then : (old middle new : Checker) (ps qs : List Placed) → IsTable middle.types → IsLonger middle.types new.types → ((s : ℕ) (tag : StructTag) → One s tag → Own s tag) →
      ((s : ℕ) (tag : StructTag) → Two s tag → Own s tag) → TellsOwn One at_end old middle ps → TellsOwn Two at_end middle new qs → TellsOwn Own at_end old new (ps ++ qs)
  told_then old middle new ps qs good longer of_one of_two first second = record {
    founds = both (IsOfExpression middle.types) (IsOfExpression new.types) old.records.founds middle.records.founds new.records.founds (expression_longer middle.types new.types good longer) first.founds second.founds;
    named = both (IsOfTypeName middle.types) (IsOfTypeName new.types) old.records.named middle.records.named new.records.named (type_name_longer middle.types new.types good longer) first.named second.named;
    meant = both (IsOfWord middle.types) (IsOfWord new.types) old.records.meant middle.records.meant new.records.meant (word_longer middle.types new.types good longer) first.meant second.meant;
    initialisers = both (IsOfInitialiser middle.types) (IsOfInitialiser new.types) old.records.initialisers middle.records.initialisers new.records.initialisers
        (initialiser_longer middle.types new.types good longer) first.initialisers second.initialisers;
    uses = uses_then word_in at_end old.records.first_uses middle.records.first_uses new.records.first_uses ps qs first.uses second.uses;
    taken = uses_then taken_in at_end old.records.taken middle.records.taken new.records.taken ps qs first.taken second.taken;
    declared = both (IsOfName middle.types) (IsOfName new.types) old.records.declared middle.records.declared new.records.declared (name_longer middle.types new.types good longer) first.declared second.declared;
    tags = tags_then at_end Own old.records.tags middle.records.tags new.records.tags (ps ++ qs)
        (tags_among at_end Own old.records.tags middle.records.tags ps (ps ++ qs) (among_first at_end ps qs) (tags_as at_end One Own old.records.tags middle.records.tags ps of_one first.tags))
        (tags_among at_end Own middle.records.tags new.records.tags qs (ps ++ qs) (among_second at_end ps qs) (tags_as at_end Two Own middle.records.tags new.records.tags qs of_two second.tags));
  }
    where
      both : {V : Type 0} (A B : ℕ → V → Env → Node → Type 0) (xs ys zs : List (ℕ × V)) → ((n : ℕ) (v : V) (env : Env) (node : Node) → A n v env node → B n v env node) →
          AddsTruth at_end A xs ps ys → AddsTruth at_end B ys qs zs → AddsTruth at_end B xs (ps ++ qs) zs
      both A B xs ys zs still f g =
          adds_then at_end B xs ys zs (ps ++ qs) (adds_among at_end B xs ys ps (ps ++ qs) (among_first at_end ps qs) (adds_still at_end A B xs ys ps still f))
          (adds_among at_end B ys zs qs (ps ++ qs) (among_second at_end ps qs) g)

-- a node that is no expression, by its parts; the structs are those that begin at its specifiers
pub told_of_node : (Own : ℕ → StructTag → Type 0) (at_end : Env) (old new : Checker) (env : Env) (node : Node) → is_expression node ≡ false →
    ((s : ℕ) (tag : StructTag) → Own s tag → IsOfTag s tag env node) → TellsOwn Own at_end old new (parts at_end env node) → TellsTruth at_end old new (at env node ∷ [])
told_of_node Own at_end old new env node other begins truth =
    let whole = told_of Own at_end old new (parts at_end env node) (at env node ∷ []) (nodes_of_node at_end env node other) truth in
    record {
      founds = whole.founds;
      named = whole.named;
      meant = whole.meant;
      initialisers = whole.initialisers;
      uses = whole.uses;
      taken = whole.taken;
      declared = whole.declared;
      tags = tags_inside at_end Own old.records.tags new.records.tags (at env node ∷ [])
          (λ s tag own. record { outer = at env node; among = inl refl; env = env; node = node; stands = here; is_so = begins s tag own }) whole.tags;
    }

-- ---- where no struct begins but at these nodes

module _ (at_end : Env) where
  -- nothing is recorded
  pub truth_same : (old new : Checker) → recorded_in new ≡ recorded_in old → TellsTruth at_end old new []
  truth_same old new same =
      tags_told NoTag at_end old new old.records.tags same (tags_same at_end NoTag old.records.tags new.records.tags [] (ap (λ (r : Recorded). r.tags) same))

  -- of the same nodes, taken apart
  pub truth_of : (old new : Checker) (ps qs : List Placed) → AreNodesOf at_end ps qs → TellsTruth at_end old new ps → TellsTruth at_end old new qs
  truth_of old new ps qs nodes truth = told_of NoTag at_end old new ps qs nodes truth

  -- nodes, then others
  pub truth_then : (old middle new : Checker) (ps qs : List Placed) → IsTable middle.types → IsLonger middle.types new.types → TellsTruth at_end old middle ps → TellsTruth at_end middle new qs →
      TellsTruth at_end old new (ps ++ qs)
  truth_then old middle new ps qs good longer first second =
      told_then NoTag NoTag NoTag at_end old middle new ps qs good longer (λ s tag never. never) (λ s tag never. never) first second

  -- then nothing
  pub truth_still : (old middle new : Checker) (ps : List Placed) → IsTable middle.types → IsLonger middle.types new.types → recorded_in new ≡ recorded_in middle → TellsTruth at_end old middle ps →
      TellsTruth at_end old new ps
  truth_still old middle new ps good longer same truth = told_still NoTag at_end old middle new ps good longer same truth

  -- nothing before them
  pub truth_behind : (old middle new : Checker) (ps : List Placed) → recorded_in middle ≡ recorded_in old → TellsTruth at_end middle new ps → TellsTruth at_end old new ps
  truth_behind old middle new ps same truth = told_behind NoTag at_end old middle new ps same truth

  -- a node that is no expression, by its parts
  pub truth_of_node : (old new : Checker) (env : Env) (node : Node) → is_expression node ≡ false → TellsTruth at_end old new (parts at_end env node) → TellsTruth at_end old new (at env node ∷ [])
  truth_of_node old new env node other truth = truth_of old new (parts at_end env node) (at env node ∷ []) (nodes_of_node at_end env node other) truth
