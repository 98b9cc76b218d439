-- What the code has of words, as the definitions see it.
use Rattle.std.specs.Prelude.{◌≡◌, ◌<◌, ◌^◌, ℕ, Option, None, Some, map, string_bytes}
use Rattle.std.specs.Fmt.{decimal}
use Rattle.std.specs.Option.{option_map}
use Rattle.lk_confirm.specs.Words as words
use Rattle.lk_confirm.specs.declared.words.Asked.{Asked}
use Rattle.lk_confirm.specs.declared.words.Split.{Split}
use Rattle.lk_confirm.specs.declared.words.Wanted.{Wanted}
use Rattle.lk_confirm.specs.declared.words.Wanted.TheVariants as wanted
use Rattle.lk_witness.specs.declared.searching.Search.{Search}
use Rattle.lk_words.specs.Seen.{seen}
use Rattle.lk_words.specs.Words.{Word}

abbrev pub seen_wanted : Wanted → words.Wanted
seen_wanted wanted.Any = words.Any
seen_wanted wanted.Seed = words.Seed
seen_wanted wanted.Steps = words.Steps
seen_wanted wanted.File = words.File
seen_wanted wanted.Source = words.Source

abbrev pub seen_split : Split → words.Split
seen_split split = record {
  seed = option_map (λ text. text.now) split.seed;
  steps = option_map (λ text. text.now) split.steps;
  others = map string_bytes split.others.items;
  wanted = seen_wanted split.wanted;
}

abbrev pub seen_asked : Asked → words.Asked
seen_asked asked =
    record { seed = asked.search.seed; steps = asked.search.steps; check = seen asked.check }

-- the number that a text writes
abbrev pub TellsNumber : Word → Option ℕ → Type 0
TellsNumber text None = (n : ℕ) → n < 2 ^ 64 → text ≡ decimal n → ⊥
TellsNumber text (Some n) = (n < 2 ^ 64) × (text ≡ decimal n)

-- the number of an option
abbrev pub IsNumberOf : ℕ → Option Word → Option ℕ → Type 0
IsNumberOf usual text None = (n : ℕ) → words.IsNumber usual text n → ⊥
IsNumberOf usual text (Some n) = words.IsNumber usual text n

-- what the numbers of the options are
abbrev pub AreNumbers : words.Split → ℕ → ℕ → Type 0
AreNumbers split seed steps = words.IsNumber 0 split.seed seed × words.IsNumber 2000000 split.steps steps

abbrev pub TellsSearch : words.Split → Option Search → Type 0
TellsSearch split None = (seed steps : ℕ) → AreNumbers split seed steps → ⊥
TellsSearch split (Some search) = AreNumbers split search.seed search.steps

abbrev pub AsksNothing : words.Split → Type 0
AsksNothing split = (asked : words.Asked) → words.AsksFor split asked → ⊥
