-- The roots of the objects that a step makes: the locals of a function, each once.
use Rattle.std.proofs.Common.{◌≡◌, ◌<◌, ◌+◌, ℕ, zero, suc, Bool, true, false, List, [], ◌∷◌, ◌++◌, map, length, Option, None, Some, refl, sym, ap, ◌∙◌, subst, inl, inr, arith}
use Rattle.std.proofs.lemmas.Bool.{eqb-true, true≢false}
use Rattle.std.proofs.lemmas.List.{map-append}
use Rattle.std.proofs.lemmas.Option.{none-some, same_Some}
use Rattle.std.specs.Option.{option_and_then, option_eq}
use Rattle.std.specs.Prelude.{slice_get, if◌then◌else◌, nat_eq}
use Rattle.lk_birth.specs.Births.{is_local, is_local_of, listed, local_at, locals_below, locals_of}
use Rattle.lk_facts.specs.Places.{AreDifferent}
use Rattle.lk_facts.specs.Program.{root_at}
use Rattle.lk_facts.specs.declared.program.Program.{Program}
use Rattle.lk_facts.specs.declared.root.Root.{Root}
use Rattle.lk_facts.specs.declared.root.RootKind.{RootKind}
use Rattle.lk_facts.specs.declared.root.RootKind.TheVariants as kind
use Rattle.lk_meaning.proofs.CellLemmas.{both}
use Rattle.lk_right.specs.Contexts.{Home, home_of, homes_in}
use Rattle.lk_sound.proofs.Elements.{split}

kind_local : (k : RootKind) → is_local k ≡ true → k ≡ kind.Local
kind_local kind.Global h = absurd (true≢false (sym h))
kind_local kind.Static h = absurd (true≢false (sym h))
kind_local kind.Local h = refl
kind_local (kind.Heap one) h = absurd (true≢false (sym h))
kind_local kind.Text h = absurd (true≢false (sym h))
kind_local kind.Argv h = absurd (true≢false (sym h))
kind_local kind.Args h = absurd (true≢false (sym h))
kind_local kind.Function h = absurd (true≢false (sym h))

same_function : (o : Option ℕ) (f : ℕ) → option_eq nat_eq o (Some f) ≡ true → o ≡ Some f
same_function None f h = absurd (true≢false (sym h))
same_function (Some g) f h = ap (λ n. Some n) (eqb-true g f h)

listed_at : (o : Option ℕ) (k r : ℕ) → slice_get (listed o) k ≡ Some r → (k ≡ 0) × (o ≡ Some r)
listed_at None k r is = absurd (none-some r is)
listed_at (Some x) zero r is = (refl, is)
listed_at (Some x) (suc k) r is = absurd (none-some r is)

module _ (program : Program) where
  -- the root is that of a local of the function
  abbrev pub IsLocalOf : ℕ → ℕ → Type 0
  IsLocalOf f r = (root : Root) × (root_at program r ≡ Some root) × (root.kind ≡ kind.Local) × (root.function ≡ Some f)

  local_is : (f n r : ℕ) → local_at program f n ≡ Some r → (n ≡ r) × IsLocalOf f r
  local_is f n r is = by (slice_get program.roots n) refl is
    where
      by_test : (root : Root) (b : Bool) → is_local_of f root ≡ b → slice_get program.roots n ≡ Some root → (if b then Some n else None) ≡ Some r → (n ≡ r) × IsLocalOf f r
      by_test root true passes there is =
          let same = same_Some n r is in
          let tests = both (is_local root.kind) (option_eq nat_eq root.function (Some f)) passes in
          (same, (root, subst (λ k. slice_get program.roots k ≡ Some root) same there, kind_local root.kind tests.0, same_function root.function f tests.1))
      by_test root false fails there is = absurd (none-some r is)

      by : (found : Option Root) → slice_get program.roots n ≡ found → option_and_then (λ (root : Root). if is_local_of f root then Some n else None) found ≡ Some r → (n ≡ r) × IsLocalOf f r
      by None there is = absurd (none-some r is)
      by (Some root) there is = by_test root (is_local_of f root) refl there is

  below_is : (f n i r : ℕ) → slice_get (locals_below program f n) i ≡ Some r → (r < n) × IsLocalOf f r
  below_is f zero i r is = absurd (none-some r is)
  below_is f (suc n) i r is = elim (split (locals_below program f n) (listed (local_at program f n)) i r is) [
    | inl old ↦ let rest = below_is f n i r old in (less n r rest.0, rest.1)
    | inr last ↦ let own = local_is f n r (listed_at (local_at program f n) last.0 r last.2).1 in (least n r own.0, own.1)
  ]
    where
      less : (n r : ℕ) → r < n → r < suc n
      less n r h = omega (arith, h)

      least : (n r : ℕ) → n ≡ r → r < suc n
      least n r h = omega (arith, h)

  different_below : (f n : ℕ) → AreDifferent (locals_below program f n)
  different_below f zero i j r at_i at_j = absurd (none-some r at_i)
  different_below f (suc n) i j r at_i at_j = elim (split xs (listed o) i r at_i) [
    | inl first ↦ elim (split xs (listed o) j r at_j) [
      | inl second ↦ different_below f n i j r first second
      | inr second ↦ absurd (apart i first second.0 second.2)
    ]
    | inr first ↦ elim (split xs (listed o) j r at_j) [
      | inl second ↦ absurd (apart j second first.0 first.2)
      | inr second ↦ first.1 ∙ ap (λ k. length xs + k) ((listed_at o first.0 r first.2).0 ∙ sym (listed_at o second.0 r second.2).0) ∙ sym second.1
    ]
  ]
    where
      xs : List ℕ
      xs = locals_below program f n

      o : Option ℕ
      o = local_at program f n

      apart : (k : ℕ) → slice_get (locals_below program f n) k ≡ Some r → (m : ℕ) → slice_get (listed (local_at program f n)) m ≡ Some r → ⊥
      apart k old m last =
          let less = (below_is f n k r old).0 in
          let same = (local_is f n r (listed_at (local_at program f n) m r last).1).0 in
          omega (arith, less, same)

  pub locals_differ : (f : ℕ) → AreDifferent (locals_of program f)
  locals_differ f = different_below f (length program.roots)

  pub local_root : (f i r : ℕ) → slice_get (locals_of program f) i ≡ Some r → IsLocalOf f r
  local_root f i r is = (below_is f (length program.roots) i r is).1

-- ---- of homes

abbrev pub roots : List Home → List ℕ
roots homes = map (λ (home : Home). home.root) homes

pub roots_more : (homes more : List Home) → roots (homes ++ more) ≡ roots homes ++ roots more
roots_more homes more = map-append (λ (home : Home). home.root) homes more

roots_of_homes : (rs : List ℕ) (d : List ℕ) → roots (map (λ r. home_of r d) rs) ≡ rs
roots_of_homes [] d = refl
roots_of_homes (r ∷ rs) d = ap (λ qs. r ∷ qs) (roots_of_homes rs d)

-- the objects of a frame's locals come
pub roots_called : (program : Program) (homes : List Home) (g : ℕ) (d : List ℕ) → roots (homes ++ homes_in program g d) ≡ roots homes ++ locals_of program g
roots_called program homes g d = roots_more homes (homes_in program g d) ∙ ap (λ rs. roots homes ++ rs) (roots_of_homes (locals_of program g) d)
