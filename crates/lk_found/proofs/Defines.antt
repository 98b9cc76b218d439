-- What a specifier adds to those before it.
use Rattle.std.proofs.Common.{◌≡◌, ◌∙◌, ◌++◌, ℕ, zero, suc, arith, Bool, true, false, List, [], ◌∷◌, Option, Some, None, map, refl, sym, ap, subst}
use Rattle.std.specs.Prelude.{◌||◌, ◌<◌, not, length, if◌then◌else◌, slice_get, slice_set}
use Rattle.std.proofs.lemmas.Bool.{false≢true}
use Rattle.std.proofs.lemmas.List.{length-set, append-nil}
use Rattle.std.proofs.lemmas.Option.{slice_get_within}
use Rattle.lk_types.specs.Table.{Table, is_empty}
use Rattle.lk_tree.specs.declared.expression.Specifier.{Specifier, out-Specifier, out-roll-Specifier, roll-Specifier}
use Rattle.lk_tree.specs.declared.specifiers.Storage.{Storage}
use Rattle.lk_tree.specs.declared.specifiers.TypeWord.{TypeWord}
use Rattle.lk_typed.specs.Env.{Additions, Faulty, Known}
use Rattle.lk_typed.specs.Faults.{Breach}
use Rattle.lk_typed.specs.Told.{MemberTold, SpecifierTold, known_or_faulty, members_made, no_specifier, of_type_alone, then_specifier}
use Rattle.lk_typed.specs.Ty.{Ty, int}
use Rattle.lk_typed.specs.Typings.{field_in}
use Rattle.lk_typed.specs.declared.members.Field.{Field as CodeField}
use Rattle.lk_typed.specs.declared.members.Members.{Members as CodeMembers}
use Rattle.lk_typed.specs.declared.members.Members.TheVariants as code
use Rattle.lk_typed.specs.declared.members.Members.TheVariants.{Begun}
use Rattle.lk_rules.specs.LayerLaws.{SpecifierTree}
use Rattle.lk_found.proofs.Gathering.{or_false}
use Rattle.lk_found.specs.MembersOf.{AreMembers}
use Rattle.lk_found.specs.Specified.{AreOthers, IsGathered}
use Rattle.lk_found.specs.Specifying.{KeepsOthersBegun}
use Rattle.lk_found.specs.declared.fields.MembersFound.{MembersFound}
use Rattle.lk_found.specs.declared.gathered.Gathered.{Gathered}

pub storage_put : (table : Table) (g : Gathered) (others : SpecifierTold) (codes : List Breach) (word : Storage) →
    IsGathered table g (record others { storages = others.storages ++ word ∷ [] }) codes → IsGathered table g (then_specifier others (record no_specifier { storages = word ∷ [] })) codes
storage_put table g others codes word is = record {
  storages = is.storages;
  words = is.words ∙ sym (append-nil others.words);
  types = subst (AreOthers table g.others) (sym (append-nil others.types)) is.types;
  holds_sizeof = is.holds_sizeof ∙ sym (or_false others.holds_sizeof);
  breaches = is.breaches;
}

pub word_put : (table : Table) (g : Gathered) (others : SpecifierTold) (codes : List Breach) (word : TypeWord) →
    IsGathered table g (record others { words = others.words ++ word ∷ [] }) codes → IsGathered table g (then_specifier others (record no_specifier { words = word ∷ [] })) codes
word_put table g others codes word is = record {
  storages = is.storages ∙ sym (append-nil others.storages);
  words = is.words;
  types = subst (AreOthers table g.others) (sym (append-nil others.types)) is.types;
  holds_sizeof = is.holds_sizeof ∙ sym (or_false others.holds_sizeof);
  breaches = is.breaches;
}

pub nothing_put : (table : Table) (g : Gathered) (others : SpecifierTold) (codes : List Breach) → IsGathered table g others codes → IsGathered table g (then_specifier others no_specifier) codes
nothing_put table g others codes is = record {
  storages = is.storages ∙ sym (append-nil others.storages);
  words = is.words ∙ sym (append-nil others.words);
  types = subst (AreOthers table g.others) (sym (append-nil others.types)) is.types;
  holds_sizeof = is.holds_sizeof ∙ sym (or_false others.holds_sizeof);
  breaches = is.breaches;
}

-- ---- one more type, behind nodes in which a sizeof may stand

pub typed_put : (table : Table) (g : Gathered) (others : SpecifierTold) (codes : List Breach) (more : Additions) (t : Option Ty) (holds : Bool) →
    IsGathered table g (record others { types = others.types ++ t ∷ []; holds_sizeof = others.holds_sizeof || holds }) codes →
    IsGathered table g (then_specifier others (record (of_type_alone more t) { holds_sizeof = holds })) codes
typed_put table g others codes more t holds is = record {
  storages = is.storages ∙ sym (append-nil others.storages);
  words = is.words ∙ sym (append-nil others.words);
  types = is.types;
  holds_sizeof = is.holds_sizeof;
  breaches = is.breaches;
}

-- ---- what has begun

abbrev is_begun : Option CodeMembers → Bool
is_begun None = false
is_begun (Some code.NotYet) = false
is_begun (Some code.Begun) = true
is_begun (Some (code.Known fields)) = false
is_begun (Some code.Faulty) = false

pub not_yet_begun : (o : Option CodeMembers) → o ≡ Some code.NotYet → o ≡ Some code.Begun → ⊥
not_yet_begun o not_yet begun = false≢true (ap is_begun (sym not_yet ∙ begun))

-- ---- the members that a struct has in the end

pub faulty_by : (table : Table) (b : Bool) (fields : List CodeField) → (not b || is_empty fields) ≡ true → (if b then known_or_faulty (map (field_in table) fields) else Faulty) ≡ Faulty
faulty_by table true [] is = refl
faulty_by table true (f ∷ fs) is = absurd (false≢true is)
faulty_by table false fields is = refl

pub known_by : (table : Table) (b : Bool) (fields : List CodeField) → (not b || is_empty fields) ≡ false →
    (if b then known_or_faulty (map (field_in table) fields) else Faulty) ≡ Known (map (field_in table) fields)
known_by table true [] is = absurd (false≢true (sym is))
known_by table true (f ∷ fs) is = refl
known_by table false fields is = absurd (false≢true (sym is))

pub made_of_members : (table : Table) (found : MembersFound) (told : MemberTold) → AreMembers table found told →
    members_made told ≡ (if found.is_sound then known_or_faulty (map (field_in table) found.fields) else Faulty)
made_of_members table found told are =
    ap (λ b. if b then known_or_faulty told.fields else Faulty) (sym are.sound) ∙ ap (λ fs. if found.is_sound then known_or_faulty fs else Faulty) (sym are.fields)

set_there : {X : Type 0} (xs : List X) (s r : ℕ) (x : X) → (s ≡ r → ⊥) → slice_get (slice_set xs s x) r ≡ slice_get xs r
set_there [] s r x apart = refl
set_there (y ∷ xs) zero zero x apart = absurd (apart refl)
set_there (y ∷ xs) zero (suc r) x apart = refl
set_there (y ∷ xs) (suc s) zero x apart = refl
set_there (y ∷ xs) (suc s) (suc r) x apart = set_there xs s r x (λ same. apart (ap suc same))

-- a struct that comes to an end is begun no more, all others are
pub others_stay : (xs : List CodeMembers) (s : ℕ) (m : CodeMembers) (new : List CodeMembers) → new ≡ slice_set xs s m → KeepsOthersBegun s xs new
others_stay xs s m new is t apart begun = ap (λ ms. slice_get ms t) is ∙ set_there xs s t m (λ same. apart (sym same)) ∙ begun

pub within_still : (xs : List CodeMembers) (s : ℕ) (m : CodeMembers) (new : List CodeMembers) → new ≡ slice_set xs s m → slice_get xs s ≡ Some code.Begun → s < length new
within_still xs s m new is begun = subst (λ (ms : List CodeMembers). s < length ms) (sym is) (let within = slice_get_within xs s code.Begun begun in omega (arith, within, length-set xs s m))

pub int_flipped : (b : Bool) → (if not b then None else Some int) ≡ (if b then Some int else None)
int_flipped true = refl
int_flipped false = refl

pub spec_layer : (s f : Specifier) (layer : SpecifierTree) → s ≡ f → roll-Specifier layer ≡ f → out-Specifier s ≡ layer
spec_layer s f layer is rolls = ap out-Specifier (is ∙ sym rolls) ∙ out-roll-Specifier layer
