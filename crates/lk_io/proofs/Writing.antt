-- How far the writing of a whole text has come.
use Rattle.std.proofs.Common.{ℕ, ◌≡◌, ◌<◌, List, [], ◌++◌, length, take, drop, Option, None, Some, refl, sym, ap, ◌∙◌, append_assoc, append-nil, arith, length-append, subst}
use Rattle.std.proofs.lemmas.List.{take-append-drop}
use Rattle.std.proofs.Math.Seq.{take-append_seam}
use Rattle.std.specs.Io.KnownBytes.{Appends, Keeps}
use Rattle.lk_io.specs.Sink.{Takes, TakesPart}

-- the front of the bytes went and the rest is left
pub record Went (before now : Option (List ℕ)) (bytes rest : List ℕ) : Type 0 where
  pub front : List ℕ
  pub whole : bytes ≡ front ++ rest
  pub taken : Takes before now front

pub Takes-nil : (before : Option (List ℕ)) → Takes before before []
Takes-nil None = tt
Takes-nil (Some xs) = sym (append-nil xs)

pub Takes-trans : (a b c : Option (List ℕ)) (xs ys : List ℕ) → Takes a b xs → Takes b c ys → Takes a c (xs ++ ys)
Takes-trans a b None xs ys p q = tt
Takes-trans a None (Some z) xs ys p q = absurd q
Takes-trans None (Some y) (Some z) xs ys p q = absurd p
Takes-trans (Some x) (Some y) (Some z) xs ys p q = q ∙ ap (λ l. l ++ ys) p ∙ append_assoc x xs ys

pub Went-none : (gone : Option (List ℕ)) (bytes : List ℕ) → Went gone gone bytes bytes
Went-none gone bytes = record { front = []; whole = refl; taken = Takes-nil gone }

-- one write more
pub Went-more : {before now next : Option (List ℕ)} {bytes rest : List ℕ} (n : ℕ) → Went before now bytes rest
    → Takes now next (take n rest) → Went before next bytes (drop n rest)
Went-more {before} {now} {next} {bytes} {rest} n went taken = record {
  front = went.front ++ take n rest;
  whole = went.whole ∙ ap (λ l. went.front ++ l) (sym (take-append-drop n rest)) ∙ sym (append_assoc went.front (take n rest) (drop n rest));
  taken = Takes-trans before now next went.front (take n rest) went.taken taken;
}

-- nothing is left
pub Went-all : {before now : Option (List ℕ)} {bytes rest : List ℕ} → Went before now bytes rest → rest ≡ [] → Takes before now bytes
Went-all {before} {now} {bytes} {rest} went none =
    subst (Takes before now) (sym (went.whole ∙ ap (λ l. went.front ++ l) none ∙ append-nil went.front)) went.taken

-- a write failed and left the sink as it was, with some bytes left
pub Went-part : {before now next : Option (List ℕ)} {bytes rest : List ℕ} → Went before now bytes rest
    → next ≡ now → 0 < length rest → TakesPart before next bytes
Went-part {before} {now} {next} {bytes} {rest} went same some = record {
  count = length went.front;
  short = omega (arith, ap length went.whole, length-append went.front rest);
  taken = rw same (subst (Takes before now) (sym (ap (take (length went.front)) went.whole ∙ take-append_seam went.front rest)) went.taken);
}

-- a stream took bytes, and kept what it held then
pub appends_kept : (a b c : Option (List ℕ)) (bs : List ℕ) → Appends a b bs → Keeps b c → Appends a c bs
appends_kept None b c bs p q = tt
appends_kept (Some x) None c bs p q = absurd p
appends_kept (Some x) (Some y) None bs p q = absurd q
appends_kept (Some x) (Some y) (Some z) bs p q = q ∙ p
