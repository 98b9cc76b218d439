-- What is known of a source and of what its initialisers give is known while types are added.
use Rattle.std.proofs.Common.{◌≡◌, ◌∙◌, ◌++◌, ℕ, List, [], ◌∷◌, refl, sym, ap, subst, append_assoc, arith, false, nat_eq}
use Rattle.std.proofs.lemmas.Bool.Decides.{nat_tests}
use Rattle.std.proofs.lemmas.List.{append-nil}
use Rattle.std.specs.Borrow.{Bor}
use Rattle.lk_base.specs.declared.spot.Spot.{Spot}
use Rattle.lk_tree.specs.declared.expression.Expr.{Expr}
use Rattle.lk_tree.specs.declared.statement.Unit.{Unit}
use Rattle.lk_typed.proofs.Meanings.{meaning_stays}
use Rattle.lk_typed.specs.Env.{Name, converted_to}
use Rattle.lk_typed.specs.Initialised as spec
use Rattle.lk_typed.specs.Initialised.{AValue}
use Rattle.lk_typed.specs.LocalInits.{AreLocalParts, IsLocalValue}
use Rattle.lk_typed.specs.LocalInits.IsLocalValue.{bytes as local_bytes, word as local_word}
use Rattle.lk_typed.specs.LocalInits.AreLocalParts.{no_more as no_locals, next as one_local}
use Rattle.lk_typed.specs.Meaning.{meaning, IsReady}
use Rattle.lk_typed.specs.Nodes.{AnExpression}
use Rattle.lk_typed.specs.Tables.{Tables}
use Rattle.lk_typed.specs.Ty.{Ty}
use Rattle.lk_typed.specs.Units.{IsNode, at_end}
use Rattle.lk_typed.specs.declared.initialiser.LocalPart.{LocalPart}
use Rattle.lk_typed.specs.declared.initialiser.LocalValue.{LocalValue}
use Rattle.lk_typed.specs.declared.initialiser.LocalValue.TheVariants as value
use Rattle.lk_elaborator.proofs.Growing.{known_stays, leads_before, told_on}
use Rattle.lk_elaborator.specs.Leading.{Grows, Leads}
use Rattle.lk_elaborator.specs.declared.elaborator.Elaborator.{Elaborator}
use Rattle.lk_elab_init.specs.Giving.{AreGivenAs, BeginsAs, IsGivenAs}
use Rattle.lk_elab_init.specs.Giving.BeginsAs.{a_value, the_bytes, the_word}
use Rattle.lk_elab_init.specs.Giving.AreGivenAs.{no_more, next}
use Rattle.lk_elab_init.specs.Source.{IsToldSource}
use Rattle.lk_elab_init.specs.declared.givens.Beginning.{Beginning}
use Rattle.lk_elab_init.specs.declared.givens.Beginning.TheVariants as begins
use Rattle.lk_elab_init.specs.declared.givens.PartGiven.{PartGiven}
use Rattle.lk_elaborate.specs.LocalParts.{AreTold, GivesLocalPart, GivesLocalParts, GivesLocalValue}

pub source_told : (externs : List Name) (unit : Unit) (walk : Elaborator) → IsToldSource externs unit walk → AreTold externs unit walk
source_told externs unit walk told = record { ready = told.ready; told = told.told }

module _ (old new : Elaborator) (grows : Grows old new) (externs : List Name) (unit : Unit) where
  pub are_told_on : AreTold externs unit old → AreTold externs unit new
  are_told_on told = record { ready = grows.ready told.ready; told = λ env node is. told_on old new grows (at_end externs unit) env node (told.told env node is) }

  pub given_on : IsReady old.types → (is : PartGiven) (part : spec.PartGiven) → IsGivenAs externs unit old.types is part → IsGivenAs externs unit new.types is part
  given_on ready is part given = record {
    path = given.path;
    known = known_stays old.types new.types grows.longer is.ty given.known;
    type = meaning_stays old.types new.types ready.table_is grows.longer is.ty given.known ∙ given.type;
    begins = given.begins;
  }

-- ---- what a part of a local begins with

abbrev pub value_in : Bor Expr → Beginning → Bor Expr
value_in d (begins.Value e) = e
value_in d (begins.Bytes spot n bytes) = d
value_in d begins.Word = d

-- which of the three it is
abbrev pub kind_of : Beginning → ℕ
kind_of (begins.Value e) = 0
kind_of (begins.Bytes spot n bytes) = 1
kind_of begins.Word = 2

abbrev spot_in : Spot → Beginning → Spot
spot_in d (begins.Value e) = d
spot_in d (begins.Bytes spot n bytes) = spot
spot_in d begins.Word = d

abbrev ordinal_in : ℕ → Beginning → ℕ
ordinal_in d (begins.Value e) = d
ordinal_in d (begins.Bytes spot n bytes) = n
ordinal_in d begins.Word = d

abbrev pub bytes_in : List ℕ → Beginning → List ℕ
bytes_in d (begins.Value e) = d
bytes_in d (begins.Bytes spot n bytes) = bytes
bytes_in d begins.Word = d

pub another : (m n : ℕ) → m ≡ n → nat_eq m n ≡ false → ⊥
another m n same different = grind (arith, nat_tests)

pub value_begins : (externs : List Name) (unit : Unit) (old new : Elaborator) → AreTold externs unit old → (tables : Tables) → Leads new tables → (ty : ℕ) (t : Ty) (e : Bor Expr) (b : Beginning)
    (x : spec.Beginning) (is : LocalValue) → b ≡ begins.Value e → meaning old.types ty ≡ t → BeginsAs externs unit t b x → GivesLocalValue old new ty e.now is → IsLocalValue tables t x is
value_begins externs unit old new told tables leads ty t e _ _ is eq type (a_value env {e = one} node) gives =
    let same : one ≡ e = ap (value_in e) eq in
    subst (λ (y : Bor Expr). IsLocalValue tables t (AValue (converted_to env t, y.now)) is) (sym same)
    (gives externs unit told tables leads env t type (subst (λ (y : Bor Expr). IsNode externs unit (converted_to env t) (AnExpression y.now)) same node))
value_begins externs unit old new told tables leads ty t e _ _ is eq type the_bytes gives = absurd (another 1 0 (ap kind_of eq) refl)
value_begins externs unit old new told tables leads ty t e _ _ is eq type the_word gives = absurd (another 2 0 (ap kind_of eq) refl)

pub bytes_begin : (externs : List Name) (unit : Unit) (old : Elaborator) (tables : Tables) (t : Ty) (spot : Spot) (n : ℕ) (bytes are : List ℕ) (b : Beginning) (x : spec.Beginning) →
    b ≡ begins.Bytes spot n bytes → are ≡ bytes → BeginsAs externs unit t b x → IsLocalValue tables t x (value.Text spot n are)
bytes_begin externs unit old tables t spot n bytes are _ _ eq same (a_value env node) = absurd (another 0 1 (ap kind_of eq) refl)
bytes_begin externs unit old tables t spot n bytes are _ _ eq same (the_bytes {spot = s} {ordinal = k} {bytes = bs}) =
    rw (sym (ap (spot_in spot) eq)) (rw (sym (ap (ordinal_in n) eq)) (rw (same ∙ sym (ap (bytes_in bytes) eq)) local_bytes))
bytes_begin externs unit old tables t spot n bytes are _ _ eq same the_word = absurd (another 2 1 (ap kind_of eq) refl)

pub word_begins : (externs : List Name) (unit : Unit) (old : Elaborator) (tables : Tables) (t : Ty) (b : Beginning) (x : spec.Beginning) → b ≡ begins.Word → BeginsAs externs unit t b x →
    IsLocalValue tables t x value.Ready
word_begins externs unit old tables t _ _ eq (a_value env node) = absurd (another 0 2 (ap kind_of eq) refl)
word_begins externs unit old tables t _ _ eq the_bytes = absurd (another 1 2 (ap kind_of eq) refl)
word_begins externs unit old tables t _ _ eq the_word = local_word

-- ---- the parts of a local, one after the other

-- those before the ones that are left are made
pub record LocalsPut (externs : List Name) (unit : Unit) (old now : Elaborator) (left : List PartGiven) (all : List spec.PartGiven) (parts : List LocalPart) : Type 0 where
  pub others : List spec.PartGiven
  pub given : AreGivenAs externs unit old.types left others
  pub on : (tables : Tables) → Leads now tables → (rest : List LocalPart) → AreLocalParts tables others rest → AreLocalParts tables all (parts ++ rest)

abbrev pub AreLocalsPut : Elaborator → Elaborator → List PartGiven → List PartGiven → List LocalPart → Type 0
AreLocalsPut old now all left parts =
    (externs : List Name) (unit : Unit) → AreTold externs unit old → (ps : List spec.PartGiven) → AreGivenAs externs unit old.types all ps → LocalsPut externs unit old now left ps parts

first_given : (externs : List Name) (unit : Unit) (old mid new : Elaborator) → Grows old mid → Grows mid new → AreTold externs unit old → (is : PartGiven) (rest : List PartGiven)
    (all : List spec.PartGiven) (parts : List LocalPart) (made : LocalPart) (others : List spec.PartGiven) → AreGivenAs externs unit old.types (is ∷ rest) others →
    ((tables : Tables) → Leads mid tables → (more : List LocalPart) → AreLocalParts tables others more → AreLocalParts tables all (parts ++ more)) →
    GivesLocalPart mid new is made → LocalsPut externs unit old new rest all (parts ++ made ∷ [])
first_given externs unit old mid new grows more told is rest all parts made _ (next {part = part} {rest = qs} given are) on gives = record {
  others = qs;
  given = are;
  on = λ tables leads ms made_rest.
      subst (AreLocalParts tables all) (sym (append_assoc parts (made ∷ []) ms))
      (on tables (leads_before mid new tables more leads) (made ∷ ms)
      (one_local (gives externs unit (are_told_on old mid grows externs unit told) tables leads part (given_on old mid grows externs unit told.ready is part given)) made_rest));
}

module _ (old : Elaborator) (all : List PartGiven) where
  pub none_made : (parts : List LocalPart) → parts ≡ [] → AreLocalsPut old old all all parts
  none_made parts none externs unit told ps given = record {
    others = ps;
    given = given;
    on = λ tables leads rest are. subst (λ ms. AreLocalParts tables ps (ms ++ rest)) (sym none) are;
  }

  pub one_made : (mid new : Elaborator) (left rest : List PartGiven) (is : PartGiven) (parts : List LocalPart) (made : LocalPart) → left ≡ is ∷ rest → Grows old mid → Grows mid new →
      AreLocalsPut old mid all left parts → GivesLocalPart mid new is made → AreLocalsPut old new all rest (parts ++ made ∷ [])
  one_made mid new left rest is parts made left_is grows more before gives externs unit told ps given =
      let was = before externs unit told ps given in
      first_given externs unit old mid new grows more told is rest ps parts made was.others (subst (λ l. AreGivenAs externs unit old.types l was.others) left_is was.given) was.on gives

  none_given : (externs : List Name) (unit : Unit) (tables : Tables) (others : List spec.PartGiven) → AreGivenAs externs unit old.types [] others → AreLocalParts tables others []
  none_given externs unit tables _ no_more = no_locals

  pub all_made : (new : Elaborator) (left : List PartGiven) (parts : List LocalPart) → left ≡ [] → AreLocalsPut old new all left parts → GivesLocalParts old new all parts
  all_made new left parts none before externs unit told tables leads ps given =
      let was = before externs unit told ps given in
      subst (AreLocalParts tables ps) (append-nil parts)
      (was.on tables leads [] (none_given externs unit tables was.others (subst (λ l. AreGivenAs externs unit old.types l was.others) none was.given)))
