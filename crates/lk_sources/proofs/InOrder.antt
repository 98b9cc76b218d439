-- Files that are read in order.
use Rattle.std.proofs.Common.{◌≡◌, ◌∙◌, ℕ, ◌-◌, ◌≤◌, List, [], ◌∷◌, ◌++◌, Option, Some, length, map, sym, ap, subst}
use Rattle.std.specs.Option.{ForSome}
use Rattle.lk_io.specs.Counts.{Rose}
use Rattle.lk_io.specs.Shelf.{Held}
use Rattle.lk_sources.specs.Calls.{IsNoFile, AreNoFiles}
use Rattle.lk_sources.specs.Reading.{AreRead, nothing, next, Passes, here, behind}
use Rattle.lk_sources.specs.Shelves.{Shelved}
use Rattle.lk_sources.specs.declared.reading.ReadingFault.{ReadingFault}
use Rattle.lk_sources.specs.declared.reading.ReadingFault.TheVariants as unread
use Rattle.lk_sources.specs.declared.reading.Source.{Source}
use Rattle.lk_sources.proofs.Lists.{map_push}

-- what a shelf tells
abbrev pub telling : Option Held → Option (List ℕ) → ℕ → ℕ → Shelved
telling files bad before now = record { files = files; bad = bad; faults = record { before = before; now = now } }

reads_more : (held : Held) {most left : ℕ} {before : List (List ℕ)} {sources : List Source} (s : Source) → AreRead held most before sources left → held s.name ≡ Some s.bytes → length s.bytes ≤ left →
    AreRead held most (before ++ s.name ∷ []) (sources ++ s ∷ []) (left - length s.bytes)
reads_more held s nothing there fits = next there fits nothing
reads_more held s (next first within rest) there fits = next first within (reads_more held s rest there fits)

-- one file more
pub read_more : (held : Held) (most left n : ℕ) (before longer : List (List ℕ)) (sources all : List Source) (s : Source) (name : List ℕ) → AreRead held most before sources left →
    held name ≡ Some s.bytes → s.name ≡ name → length s.bytes ≤ left → longer ≡ before ++ name ∷ [] → all ≡ sources ++ s ∷ [] → n ≡ length s.bytes → AreRead held most longer all (left - n)
read_more held most left n before longer sources all s name read there same fits names pushed counted =
    subst (λ k. AreRead held most longer all (left - k)) (sym counted)
    (subst (λ l. AreRead held most longer l (left - length s.bytes)) (sym pushed)
    (subst (λ l. AreRead held most l (sources ++ s ∷ []) (left - length s.bytes)) (ap (λ n. before ++ n ∷ []) same ∙ sym names)
    (reads_more held s read (ap held same ∙ there) fits)))

pub named_more : (sources : List Source) (s : Source) (names longer : List (List ℕ)) (name : List ℕ) → map (λ s. s.name) sources ≡ names → s.name ≡ name → longer ≡ names ++ name ∷ [] →
    map (λ s. s.name) (sources ++ s ∷ []) ≡ longer
named_more sources s names longer name are same longer_is =
    map_push (λ (s : Source). s.name) sources s ∙ (ap (λ l. l ++ s.name ∷ []) are ∙ (ap (λ n. names ++ n ∷ []) same ∙ sym longer_is))

passes_behind : (held : Held) {most left : ℕ} {before names : List (List ℕ)} {sources : List Source} {name : List ℕ} → AreRead held most before sources left → Passes held left names name →
    Passes held most (before ++ names) name
passes_behind held nothing passes = passes
passes_behind held (next first within rest) passes = behind first within (passes_behind held rest passes)

-- one file is not read behind those that are
pub fails_behind : (h0 h1 : Option Held) (bad : Option (List ℕ)) (f0 f1 f2 most left : ℕ) (before after : List (List ℕ)) (name : List ℕ) (sources : List Source) (fault : ReadingFault) → h1 ≡ h0 → f1 ≡ f0 →
    ForSome h0 (λ held. AreRead held most before sources left) → IsNoFile name left (telling h1 bad f1 f2) fault → AreNoFiles (before ++ name ∷ after) most (telling h0 bad f0 f2) fault
fails_behind h0 h1 bad f0 f1 f2 most left before after name sources (unread.TooLong told) same calm read (as_before, is, longer) =
    (as_before ∙ calm, λ held there. subst (λ n. Passes held most (before ++ name ∷ after) n) (sym is) (passes_behind held (read held there) (here (longer held (same ∙ there)))))
fails_behind h0 h1 bad f0 f1 f2 most left before after name sources (unread.Unread told) same calm read (rose, is, bad_is) = (
  subst (λ f. Rose f f2) calm rose,
  (before, after, ap (λ n. before ++ n ∷ after) (sym is)),
  (λ b e. bad_is b e ∙ sym is),
  λ held there. record { before = before; after = after; whole = ap (λ n. before ++ n ∷ after) (sym is); sources = sources; left = left; read = read held there },
)
fails_behind h0 h1 bad f0 f1 f2 most left before after name sources unread.NoMemory same calm read none = tt
