-- What the parts of an answer say of the whole.
use Rattle.std.proofs.Common.{ℕ, ◌≡◌, ◌∙◌, ◌==◌, Bool, true, false, if◌then◌else◌, inl, inr, List, refl, sym, ap, subst}
use Rattle.lk_base.specs.declared.code.Code.{Code}
use Rattle.lk_base.specs.declared.code.Code.TheVariants.{TooManyPoints, TooManyLabels}
use Rattle.lk_base.specs.declared.refusal.Refusal as base
use Rattle.lk_base.specs.declared.status.Status.{Status}
use Rattle.lk_base.specs.declared.status.Status.TheVariants as status
use Rattle.lk_facts.specs.LabelRules.{HasMoreLabels}
use Rattle.lk_facts.specs.declared.program.Program.{Program as Points}
use Rattle.lk_facts.specs.declared.verdict.Verdict.{Verdict}
use Rattle.lk_io.specs.Shelf.{Held}
use Rattle.lk_lower_unit.specs.PointNumbers.{HasMorePoints}
use Rattle.lk_program.specs.Program.{IsFault}
use Rattle.lk_solve.specs.Verdicts.{HasVerdicts}
use Rattle.lk_sources.specs.Accepting as bad
use Rattle.lk_sources.specs.Accepting.{IsAccepted, IsInFile, RefusesExterns, RefusesSources}
use Rattle.lk_sources.specs.Externs.{Names, externs_text, listed}
use Rattle.lk_sources.specs.Numbers.{numbered}
use Rattle.lk_sources.specs.Readable.{Reads, FailsToRead}
use Rattle.lk_sources.specs.Reading.{IsRead}
use Rattle.lk_sources.specs.Shelves.{Shelved}
use Rattle.lk_sources.specs.declared.accepting.Accepted as code
use Rattle.lk_sources.specs.declared.fault.SourcesFault.{SourcesFault}
use Rattle.lk_sources.specs.declared.fault.SourcesFault.TheVariants as told
use Rattle.lk_sources.specs.declared.reading.Source.{Source}
use Rattle.lk_typed.specs.Env.{Name}
use Rattle.lk_sources.specs.declared.reading.Texts.{Texts}
use Rattle.lk_typed.specs.declared.whole.Whole.{Whole}
use Rattle.lk_words.specs.Words.{Command}
use Rattle.lk_confirm.specs.Analysis.{ArePointsOf, IsAtMain, IsNoProgram, IsWhole, of_places, of_points, unlinked, too_many_points, too_many_labels}
use Rattle.lk_confirm.specs.Answer as judged
use Rattle.lk_confirm.specs.Answer.{JudgesWhole, ShowsSearch, Tells, TellsAtMain, Analyses, ShowsFault, Judges, JudgesListed, Answers, has_points, too_many_places}
use Rattle.lk_confirm.specs.Outcome as outcome
use Rattle.lk_confirm.specs.Outcome.{Refused, Becomes, Follows}
use Rattle.lk_confirm.specs.Results as results
use Rattle.lk_confirm.specs.Results.{IsReport, IsRefusal, is_report}
use Rattle.lk_confirm.specs.Texts.{refused_line}
use Rattle.lk_confirm.specs.declared.answer.Answer.{Answer}
use Rattle.lk_confirm.specs.declared.answer.Answer.TheVariants.{Report, Refusal, Unread}

-- ---- what accepted sources come to

by_count : (none : Bool) → is_report (if none then status.Clean else status.Suspects) ≡ true
by_count true = refl
by_count false = refl

module _ (sources : code.Accepted) where
  -- a line that tells a bound at main is the refusal of the program
  told_at_main : (whole : Whole) (code : Code) (answer : Answer) → TellsAtMain sources.files whole code answer → ((refusal : base.Refusal) → IsAtMain whole code refusal → IsNoProgram sources refusal) → Analyses sources answer
  told_at_main whole code (Report text ends) (refusal, is, tells) why = absurd tells
  told_at_main whole code (Refusal line) (refusal, is, (file, at_file, line_is)) why = (file, refusal, record { why = why refusal is; at = at_file }, line_is)
  told_at_main whole code (Unread line) (refusal, is, tells) why = absurd tells

  shown : (whole : Whole) → IsWhole sources whole → (points : Points) → (HasMorePoints whole 65536 → ⊥) → ArePointsOf whole points → (verdicts : List Verdict) → HasVerdicts points verdicts →
      (HasMoreLabels points 65536 → ⊥) → (answer : Answer) → ShowsSearch sources.files points verdicts answer → Analyses sources answer
  shown whole is points few are verdicts has few_labels (Report text ends) tells = (
    ap is_report tells.status ∙ by_count (tells.searched.shown == 0),
    record {
      whole = whole;
      is_whole = is;
      few_points = few;
      points = points;
      are_points = are;
      few_labels = few_labels;
      verdicts = verdicts;
      verdicts_are = has;
      told = tells;
    },
  )
  shown whole is points few are verdicts has few_labels (Refusal line) shows = absurd shows
  shown whole is points few are verdicts has few_labels (Unread line) shows = absurd shows

  pub of_whole : (whole : Whole) → IsWhole sources whole → (answer : Answer) → JudgesWhole sources.files whole answer → Analyses sources answer
  of_whole whole is answer (has_points points few are (judged.shows verdicts has few_labels shows)) = shown whole is points few are verdicts has few_labels answer shows
  of_whole whole is answer (has_points points few are (judged.too_many more tells)) =
      told_at_main whole TooManyLabels answer tells (λ refusal at. too_many_labels whole is few (of_points points are more) at)
  of_whole whole is answer (judged.too_many_points more tells) = told_at_main whole TooManyPoints answer tells (λ refusal at. too_many_points whole is more at)
  of_whole whole is answer (too_many_places few more tells) =
      told_at_main whole TooManyLabels answer tells (λ refusal at. too_many_labels whole is few (of_places more) at)

  -- the line of why there is no program
  pub of_fault : (fault : SourcesFault) → IsFault sources fault → (answer : Answer) → ShowsFault fault answer → Analyses sources answer
  of_fault (told.Refused file refusal) is (Report text ends) shows = absurd shows
  of_fault (told.Refused file refusal) is (Refusal line) line_is = (file, refusal, record { why = unlinked is.why; at = is.at }, line_is)
  of_fault (told.Refused file refusal) is (Unread line) shows = absurd shows
  of_fault (told.Unread name) is answer shows = absurd is
  of_fault told.NoMemory is answer shows = absurd shows

-- a refusal by what is told of it
pub told_in : (files : List (List ℕ)) (refusal : base.Refusal) (fault : SourcesFault) (answer : Answer) → IsInFile files refusal fault → ShowsFault fault answer → Tells files refusal answer
told_in files refusal (told.Refused file is) (Report text ends) at shows = absurd shows
told_in files refusal (told.Refused file is) (Refusal line) (same, at) line_is = (file, at, line_is ∙ ap (refused_line file) same)
told_in files refusal (told.Refused file is) (Unread line) at shows = absurd shows
told_in files refusal (told.Unread name) answer at shows = absurd at
told_in files refusal told.NoMemory answer at shows = absurd shows

-- ---- what files come to that are read

module _ (names : List (List ℕ)) (externs sources : List Source) where
  pub judged_accepted : (result : code.Accepted) (answer : Answer) → IsAccepted names externs sources result → Analyses result answer → Judges names externs sources answer
  judged_accepted result (Report text ends) is (reporting, are) =
      (reporting, record { sources = result; gives = outcome.accepted result is; confirmed = are })
  judged_accepted result (Refusal line) is (file, refusal, why, line_is) = (file, refusal, line_is, results.of_program result (outcome.accepted result is) why)
  judged_accepted result (Unread line) is analyses = absurd analyses

-- a bad line of the file of --externs
pub judged_externs : (names : List (List ℕ)) (externs sources : List Source) (fault : SourcesFault) (answer : Answer) → RefusesExterns names externs fault → ShowsFault fault answer → Judges names externs sources answer
judged_externs names externs sources (told.Refused file refusal) (Report text ends) refuses shows = absurd shows
judged_externs names externs sources (told.Refused file refusal) (Refusal line) refuses line_is = (file, refusal, line_is, results.of_sources (outcome.refused file refusal (bad.bad_externs refuses)))
judged_externs names externs sources (told.Refused file refusal) (Unread line) refuses shows = absurd shows
judged_externs names externs sources (told.Unread name) answer refuses shows = absurd refuses
judged_externs names externs sources told.NoMemory answer refuses shows = absurd shows

-- what the sources come to
module _ (names : List (List ℕ)) (externs sources : List Source) (listing : List Name) (names_listed : listed (externs_text externs) ≡ Names listing) where
  refused_listed : (fault : SourcesFault) (answer : Answer) → RefusesSources names listing sources fault → ShowsFault fault answer → Judges names externs sources answer
  refused_listed (told.Refused file refusal) (Report text ends) refuses shows = absurd shows
  refused_listed (told.Refused file refusal) (Refusal line) refuses line_is =
      (file, refusal, line_is, results.of_sources (outcome.refused file refusal (bad.sources_refused listing names_listed refuses)))
  refused_listed (told.Refused file refusal) (Unread line) refuses shows = absurd shows
  refused_listed (told.Unread name) answer refuses shows = absurd refuses
  refused_listed told.NoMemory answer refuses shows = absurd shows

  pub judged_listed : (answer : Answer) → JudgesListed names listing sources answer → Judges names externs sources answer
  judged_listed answer (inl (result, is, analyses)) =
      judged_accepted names externs sources result answer (record { listing = listing; names_listed = names_listed; is = is }) analyses
  judged_listed answer (inr (fault, refuses, shows)) = refused_listed fault answer refuses shows

-- ---- what a command comes to

module _ (check : Command) (held : Held) (externs others sources : List Source) (read : IsRead check held externs others sources) where
  follows_report : {text : List ℕ} {ends : Status} → IsReport (Becomes (numbered check) externs sources) text ends → IsReport (Follows check held) text ends
  follows_report report = record {
    sources = report.sources;
    gives = outcome.read externs others sources _ read report.gives;
    confirmed = report.confirmed;
  }

  follows_refusal : (file : List ℕ) (refusal : base.Refusal) → IsRefusal (Becomes (numbered check) externs sources) file refusal → IsRefusal (Follows check held) file refusal
  follows_refusal file refusal (results.of_sources becomes) = results.of_sources (outcome.read externs others sources _ read becomes)
  follows_refusal file refusal (results.of_program result becomes why) = results.of_program result (outcome.read externs others sources _ read becomes) why

module _ (check : Command) (shelf : Shelved) where
  pub answered : (texts : Texts) (answer : Answer) → Reads check shelf texts → Judges texts.files texts.externs texts.sources answer → Answers check shelf answer
  answered texts (Report text ends) reads (reporting, is) = (
    reads.calm,
    reporting,
    λ held there. follows_report check held texts.externs texts.beside texts.sources (reads.read held there) (subst (λ names. IsReport (Becomes names texts.externs texts.sources) text.items ends) reads.files is),
  )
  answered texts (Refusal line) reads (file, refusal, line_is, is) = (
    reads.calm,
    (
      file,
      refusal,
      line_is,
      λ held there. follows_refusal check held texts.externs texts.beside texts.sources (reads.read held there) file refusal (subst (λ names. IsRefusal (Becomes names texts.externs texts.sources) file refusal) reads.files is),
    ),
  )
  answered texts (Unread line) reads judges = absurd judges

  pub not_read : (fault : SourcesFault) (answer : Answer) → FailsToRead check shelf fault → ShowsFault fault answer → Answers check shelf answer
  not_read (told.Refused file refusal) (Report text ends) fails shows = absurd shows
  not_read (told.Refused file refusal) (Refusal line) (calm, is, long) line_is =
      (calm, (file, refusal, line_is, λ held there. results.of_sources (subst (λ r. Follows check held (Refused file r)) (sym is) (outcome.too_long file (long held there)))))
  not_read (told.Refused file refusal) (Unread line) fails shows = absurd shows
  not_read (told.Unread name) (Report text ends) fails shows = absurd shows
  not_read (told.Unread name) (Refusal line) fails shows = absurd shows
  not_read (told.Unread name) (Unread line) (rose, named, bad, reaches) line_is = (rose, (name, named, bad, reaches, line_is))
  not_read told.NoMemory answer fails shows = absurd shows
