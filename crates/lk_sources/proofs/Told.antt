-- What is told of the files of a command.
use Rattle.std.proofs.Common.{◌≡◌, ◌∙◌, ◌≤◌, ℕ, List, [], ◌∷◌, Some, Vec, Global, length, slice_get, refl, sym, ap, subst, arith}
use Rattle.std.proofs.lemmas.List.Elements.{All-head}
use Rattle.lk_base.specs.declared.code.Code.TheVariants.{BadExterns}
use Rattle.lk_base.specs.declared.refusal.Refusal.{Refusal}
use Rattle.lk_typed.specs.Env.{Name}
use Rattle.lk_sources.specs.Accepting.{AreRefused, IsInFile, RefusesExterns, RefusesSources}
use Rattle.lk_sources.specs.Calls.{IsListed, IsBadExterns}
use Rattle.lk_sources.specs.Externs.{Listed, Names, BadLine, listed, externs_text}
use Rattle.lk_sources.specs.Numbers.{refusal_at}
use Rattle.lk_sources.specs.Readable.{AreShort}
use Rattle.lk_sources.specs.Reading.{longest_externs}
use Rattle.lk_sources.specs.declared.externs.Listed.TheVariants as listing
use Rattle.lk_sources.specs.declared.fault.SourcesFault.{SourcesFault}
use Rattle.lk_sources.specs.declared.fault.SourcesFault.TheVariants as told
use Rattle.lk_sources.specs.declared.reading.Source.{Source}

-- a refusal with the name of its file
pub told_in_file : (names : List (List ℕ)) (externs : List Name) (sources : List Source) (last : List (List ℕ)) (refusal : Refusal) (result : SourcesFault) → AreRefused names externs sources last refusal →
    IsInFile last refusal result → RefusesSources names externs sources result
told_in_file names externs sources last refusal (told.Refused file is) refused (same, at) = record {
  last = last;
  why = subst (AreRefused names externs sources last) (sym same) refused;
  at = subst (λ r. slice_get last r.spot.file ≡ Some file) (sym same) at;
}
told_in_file names externs sources last refusal (told.Unread name) refused none = absurd none
told_in_file names externs sources last refusal told.NoMemory refused none = tt

names_are : (l : Listed) (v : Vec (List ℕ) Global) → IsListed l (listing.Names v) → l ≡ Names v.items
names_are (Names names) v is = ap Names (sym is)
names_are (BadLine number) v is = absurd is

line_is : (l : Listed) (line : ℕ) → IsListed l (listing.BadLine line) → l ≡ BadLine line
line_is (Names names) line is = absurd is
line_is (BadLine number) line is = ap BadLine (sym is)

bad_first : (files : List (List ℕ)) (externs : List Source) (line : ℕ) (result : SourcesFault) → listed (externs_text externs) ≡ BadLine line → IsBadExterns files externs line result →
    RefusesExterns files externs result
bad_first files [] line result is bad = absurd bad
bad_first files (first ∷ more) line (told.Refused file refusal) is (same, told_is) = record {
  first = first;
  others = more;
  line = line;
  are = refl;
  bad = is;
  file_is = same;
  is = told_is ∙ ap (λ n. refusal_at files n BadExterns line) (sym same);
}
bad_first files (first ∷ more) line (told.Unread name) is bad = absurd bad
bad_first files (first ∷ more) line told.NoMemory is bad = tt

module _ (externs : List Source) (text : List ℕ) (is_text : text ≡ externs_text externs) where
  pub told_names : (v : Vec (List ℕ) Global) → IsListed (listed text) (listing.Names v) → listed (externs_text externs) ≡ Names v.items
  told_names v is = ap listed (sym is_text) ∙ names_are (listed text) v is

  pub told_bad : (files : List (List ℕ)) (line : ℕ) (result : SourcesFault) → IsListed (listed text) (listing.BadLine line) → IsBadExterns files externs line result → RefusesExterns files externs result
  told_bad files line result is bad = bad_first files externs line result (ap listed (sym is_text) ∙ line_is (listed text) line is) bad

pub text_short : (files : List Source) → AreShort longest_externs files → length (externs_text files) ≤ longest_externs
text_short [] short = omega arith
text_short (file ∷ files) short = All-head (λ (s : Source). length s.bytes ≤ longest_externs) file files short
