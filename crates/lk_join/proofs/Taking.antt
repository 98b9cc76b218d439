-- Sources that get their numbers, one by one.
use Rattle.std.proofs.Common.{◌≡◌, ◌∙◌, ◌++◌, List, [], ◌∷◌, Option, Some, ap, append-nil, append_assoc, arith, length, length-append, map, sym}
use Rattle.std.proofs.lemmas.List.{length-map, map-append, nil_from_length}
use Rattle.std.specs.Option.{option_to_list}

module _ {X Y : Type 0} (f : X → Y) where
  -- one more is taken from what is left
  pub taken : (all left rest : List Y) (xs : List X) (x : X) (next : Option Y) → all ≡ map f xs ++ left → left ≡ option_to_list next ++ rest → next ≡ Some (f x) →
      all ≡ map f (xs ++ x ∷ []) ++ rest
  taken all left rest xs x next before step is =
      before ∙ ap (λ l. map f xs ++ l) (step ∙ ap (λ o. option_to_list o ++ rest) is)
      ∙ sym (append_assoc (map f xs) (f x ∷ []) rest) ∙ ap (λ l. l ++ rest) (sym (map-append f xs (x ∷ [])))

  -- where nothing is left, all were taken
  pub all_taken : (all left : List Y) (xs : List X) → all ≡ map f xs ++ left → length left ≡ 0 → map f xs ≡ all
  all_taken all left xs before none = sym (before ∙ ap (λ l. map f xs ++ l) (nil_from_length left none) ∙ append-nil (map f xs))

  -- the same of a list that is as long as one of which nothing is left
  pub as_many_taken : {Z : Type 0} (g : X → Z) (all left : List Y) (others rest : List Z) (xs : List X) → all ≡ map f xs ++ left → others ≡ map g xs ++ rest → length all ≡ length others →
      length rest ≡ 0 → map f xs ≡ all
  as_many_taken g all left others rest xs before also same none =
      let long = ap length before in
      let other = ap length also in
      all_taken all left xs before
      (omega (arith, same, none, long, other, length-append (map f xs) left, length-append (map g xs) rest, length-map xs f, length-map xs g))
