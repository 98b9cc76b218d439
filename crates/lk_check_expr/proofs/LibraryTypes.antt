-- What the numbers of the types of threads mean.
use Rattle.std.proofs.Common.{◌≡◌, ◌∙◌, ◌++◌, ℕ, List, Some, refl, ap}
use Rattle.std.specs.Prelude.{unwrap_or}
use Rattle.std.specs.List.{slice_get}
use Rattle.std.proofs.lemmas.Option.{slice_get_within}
use Rattle.lk_base.specs.declared.kind.Kind.TheVariants as kind
use Rattle.lk_types.specs.Predeclared.{predeclared}
use Rattle.lk_types.specs.Table.{Table, type_at, IsKnown}
use Rattle.lk_types.specs.declared.c_type.CType.{CType}
use Rattle.lk_types.specs.declared.c_type.CType.TheVariants as forms
use Rattle.lk_typed.specs.Meaning.{meaning, IsReady}
use Rattle.lk_typed.specs.Ty.{ThreadId, Mutex, Cond}
use Rattle.lk_typed.proofs.Meanings.{meaning_by}

module _ (table : Table) (ready : IsReady table) where
  got : (n : ℕ) (form : CType) → ((more : List CType) → slice_get (predeclared ++ more) n ≡ Some form) → slice_get table.types n ≡ Some form
  got n form more = ap (λ types. slice_get types n) ready.predeclared.1 ∙ more ready.predeclared.0

  thread_got : slice_get table.types 13 ≡ Some forms.ThreadId
  thread_got = got 13 forms.ThreadId (λ more. refl)

  pub thread_known : IsKnown table 13
  thread_known = slice_get_within table.types 13 forms.ThreadId thread_got

  pub thread_means : meaning table 13 ≡ ThreadId
  thread_means = meaning_by table ready.table_is 13 forms.ThreadId thread_known thread_got

  mutex_got : slice_get table.types 14 ≡ Some forms.Mutex
  mutex_got = got 14 forms.Mutex (λ more. refl)

  pub mutex_known : IsKnown table 14
  mutex_known = slice_get_within table.types 14 forms.Mutex mutex_got

  pub mutex_means : meaning table 14 ≡ Mutex
  mutex_means = meaning_by table ready.table_is 14 forms.Mutex mutex_known mutex_got

  cond_got : slice_get table.types 15 ≡ Some forms.Cond
  cond_got = got 15 forms.Cond (λ more. refl)

  pub cond_known : IsKnown table 15
  cond_known = slice_get_within table.types 15 forms.Cond cond_got

  pub cond_means : meaning table 15 ≡ Cond
  cond_means = meaning_by table ready.table_is 15 forms.Cond cond_known cond_got

  char_got : slice_get table.types 2 ≡ Some (forms.Int kind.Char)
  char_got = got 2 (forms.Int kind.Char) (λ more. refl)

  pub char_at : type_at table 2 ≡ forms.Int kind.Char
  char_at = ap (λ o. unwrap_or o forms.Void) char_got
