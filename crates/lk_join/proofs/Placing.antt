-- Structs that are put to a list, one by one.
use Rattle.std.proofs.Common.{◌≡◌, inl, inr, ◌++◌, ℕ, List, [], ◌∷◌, Some, subst}
use Rattle.std.proofs.lemmas.List.Elements.{Contains-append_left, Contains-push}
use Rattle.std.specs.List.{slice_get, Contains}
use Rattle.lk_link.specs.declared.place.StructOf.{StructOf}
use Rattle.lk_join.specs.Places.{AreAllPutAt, ArePutAt, HavePlaces, IsLonger, IsPutAt}
use Rattle.lk_join.proofs.Zips.{zip_push, zip_weaker}

pub put_none : (structs : List StructOf) → ArePutAt structs structs [] []
put_none structs = record { longer = λ k s at. at; each = tt; from = λ k x at. inl at }

pub all_put_none : (structs : List StructOf) → AreAllPutAt structs structs [] []
all_put_none structs = record { longer = λ k s at. at; each = tt; from = λ k x at. inl at }

module _ (old now new : List StructOf) where
  places_stay : IsLonger now new → (row : List StructOf) (places : List ℕ) → HavePlaces now places row → HavePlaces new places row
  places_stay longer row places h =
      zip_weaker (λ place s. slice_get now place ≡ Some s) (λ place s. slice_get new place ≡ Some s) (λ place s at. longer place s at) places row h

  pub put_more : (row : List StructOf) (places : List ℕ) (s : StructOf) (place : ℕ) → ArePutAt old now row places → IsPutAt now new s place → ArePutAt old new (row ++ s ∷ []) (places ++ place ∷ [])
  put_more row places s place h k = record {
    longer = λ i x at. k.longer i x (h.longer i x at);
    each = zip_push (λ place s. slice_get new place ≡ Some s) places row place s (places_stay k.longer row places h.each) k.at;
    from = λ i x at. elim (k.from i x at) [
      | inl before ↦ elim (h.from i x before) [ inl there ↦ inl there | inr there ↦ inr (Contains-append_left row (s ∷ []) x there) ]
      | inr same ↦ inr (subst (Contains (row ++ s ∷ [])) same (Contains-push row s))
    ];
  }

  pub all_put_more : (rows : List (List StructOf)) (places : List (List ℕ)) (row : List StructOf) (row_places : List ℕ) → AreAllPutAt old now rows places → ArePutAt now new row row_places →
      AreAllPutAt old new (rows ++ row ∷ []) (places ++ row_places ∷ [])
  all_put_more rows places row row_places h k = record {
    longer = λ i x at. k.longer i x (h.longer i x at);
    each = zip_push (HavePlaces new) places rows row_places row (zip_weaker (HavePlaces now) (HavePlaces new) (λ ps r is. places_stay k.longer r ps is) places rows h.each) k.each;
    from = λ i x at. elim (k.from i x at) [
      | inl before ↦ elim (h.from i x before) [ inl there ↦ inl there | inr there ↦ inr (there.0, Contains-append_left rows (row ∷ []) there.0 there.1, there.2) ]
      | inr there ↦ inr (row, Contains-push rows row, there)
    ];
  }
