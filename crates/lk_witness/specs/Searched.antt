-- What is told of a search: of each location either a schedule that shows a race there, or that none was
-- found.
use Rattle.std.specs.Prelude.{◌≡◌, ◌+◌, ℕ, List, [], ◌∷◌, ◌++◌, codes, length}
use Rattle.std.specs.Fmt.{decimal}
use Rattle.lk_facts.specs.declared.program.Program.{Program}
use Rattle.lk_report.specs.Names.{place_text}
use Rattle.lk_witness.specs.Shown.{Shows}
use Rattle.lk_witness.specs.declared.telling.Searched.{Searched}

-- of how many locations it is told, and of how many of them a schedule
abbrev pub total_text : ℕ → ℕ → List ℕ
total_text total shown =
    codes "total " ++ (decimal total ++ (codes ", shown " ++ (decimal shown ++ 10 ∷ [])))

module _ (files : List (List ℕ)) (program : Program) where
  -- AreTold ns text shown: the text tells of each of these locations in order, and of so many a schedule
  pub data AreTold : List ℕ → List ℕ → ℕ → Type 0 where
    none : AreTold [] [] 0
    is_shown : {ns text : List ℕ} {shown : ℕ} (n : ℕ) (bytes : List ℕ) → AreTold ns text shown →
        Shows files program n bytes →
        AreTold (ns ++ n ∷ []) (text ++ (codes "shown " ++ (place_text files program n ++ 10 ∷ bytes))) (shown + 1)
    not_shown : {ns text : List ℕ} {shown : ℕ} (n : ℕ) → AreTold ns text shown →
        AreTold (ns ++ n ∷ []) (text ++ (codes "not shown " ++ (place_text files program n ++ 10 ∷ []))) shown

  -- what was found of these locations: their lines, and the line of totals
  pub record IsSearched (ns : List ℕ) (searched : Searched) : Type 0 where
    pub lines : List ℕ
    pub told : AreTold ns lines searched.shown
    pub text : searched.text.items ≡ lines ++ total_text (length ns) searched.shown
