-- What `clap` answers, and what the words name.
use Rattle.std.proofs.Common.{◌≡◌, ◌∙◌, ap, sym, subst, true, inl, inr, List, [], Option, Some, None, Result, Ok, Err, IfOk, refl}
use Rattle.clap.specs.Faults.{fault_of, is_simple_and_free}
use Rattle.clap.specs.Kinds.{HasKind, IsAmong, Kinds}
use Rattle.clap.specs.Matches.{found_of}
use Rattle.clap.specs.Simple.{App, HasMatchesOf, matches_of}
use Rattle.clap.specs.Values.{kind_of}
use Rattle.clap.specs.Walk.{rows_of}
use Rattle.clap.specs.declared.error.Error.{Error}
use Rattle.clap.specs.declared.error.kind.ErrorKind.{ErrorKind}
use Rattle.clap.specs.declared.error.kind.ErrorKind.TheVariants.{OutOfMemory}
use Rattle.clap.specs.declared.parser.matches.ArgMatches.{ArgMatches}
use Rattle.lk_words.specs.Reading.{AreOptions, app_with}
use Rattle.lk_words.specs.Seen.{IsMatchOf}
use Rattle.lk_words.specs.Words.{Named, Word, named_of}
use Rattle.lk_words.proofs.Options.{apart_all, app_for, app_is, simple, truly_simple}
use Rattle.lk_words.proofs.Rows.{Holds}
use Rattle.lk_words.proofs.Whole.{AreTexts, Tells, tells}

not_among : (k : ErrorKind) (kinds : Kinds) → IsAmong k kinds → kinds ≡ [] → ⊥
not_among k kinds among empty = rw empty at among

module _ (options : List Word) (are : AreOptions options) (words : List Word) (texts : AreTexts words) where
  is_match : (m : ArgMatches) → fault_of (app_for options) words ≡ [] → rows_of (found_of m) ≡ matches_of (app_for options) words → IsMatchOf options words m
  is_match m fine rows = go (named_of options words) refl (tells options are words texts)
    where
      go : (o : Option Named) → named_of options words ≡ o → Tells options are o words → IsMatchOf options words m
      go None e refused = absurd (refused fine)
      go (Some named) e told =
          let holds : Holds named (rows_of (found_of m)) = subst (Holds named) (sym rows) told.1 in
          (named, e, record { each = λ option among. holds.first option (apart_all options option are among); files = holds.files })

  is_none : (fault_of (app_for options) words ≡ [] → ⊥) → named_of options words ≡ None
  is_none fails = go (named_of options words) refl (tells options are words texts)
    where
      go : (o : Option Named) → named_of options words ≡ o → Tells options are o words → named_of options words ≡ None
      go None e refused = e
      go (Some named) e told = absurd (fails told.0)

  -- the same of a command that reads so
  pub match_of : (a : App) → a ≡ app_with options → (m : ArgMatches) → (is_simple_and_free a ≡ true → fault_of a words ≡ []) → HasMatchesOf a words m → IsMatchOf options words m
  match_of a reads m fine has =
      let is : a ≡ app_for options = reads ∙ app_is options in
      let fine' : is_simple_and_free (app_for options) ≡ true → fault_of (app_for options) words ≡ [] = subst (λ b. is_simple_and_free b ≡ true → fault_of b words ≡ []) is fine in
      let has' : HasMatchesOf (app_for options) words m = subst (λ b. HasMatchesOf b words m) is has in
      is_match m (fine' (simple options)) ((has' (truly_simple options)).0)

  pub none_of : (a : App) → a ≡ app_with options → (e : Error) → (is_simple_and_free a ≡ true → HasKind (fault_of a words) e) → (kind_of e ≡ OutOfMemory → ⊥)
      → named_of options words ≡ None
  none_of a reads e has no_memory =
      let is : a ≡ app_for options = reads ∙ app_is options in
      let has' : is_simple_and_free (app_for options) ≡ true → HasKind (fault_of (app_for options) words) e =
      subst (λ b. is_simple_and_free b ≡ true → HasKind (fault_of b words) e) is has in
      is_none (elim (has' (simple options)) [ inl memory ↦ absurd (no_memory memory) | inr among ↦ not_among (kind_of e) (fault_of (app_for options) words) among ])

-- what holds of a part of an answer holds of what is made of that part
pub part_of : {T E A B : Type 0} (r : Result T E) (part : T → A) (f : A → B) (y : A) (z : B) → IfOk r (λ t. part t ≡ y) → f y ≡ z → IfOk r (λ t. f (part t) ≡ z)
part_of (Ok t) part f y z same made = ap f same ∙ made
part_of (Err e) part f y z same made = same
